-- Where locals, globals and labels of a body stand.
use Rattle.std.proofs.Common.{◌≡◌, ◌∙◌, ◌≤◌, ℕ, zero, suc, ◌+◌, List, [], ◌∷◌, ◌++◌, Some, None, length, map, replicate, refl, ap, arith}
use Rattle.std.specs.Prelude.{slice_get, slice_set}
use Rattle.wasm_typing.specs.Typing as w
use Rattle.rw_types.specs.declared.types.Ty.{Ty}
use Rattle.rich_types.specs.Scopes.{Scope}
use Rattle.rich_types.specs.Sizes.{size_under}
use Rattle.rich_rules.specs.Points as rules
use Rattle.rich_rules.specs.Table.{rest_size}
use Rattle.rw_program.specs.declared.linked.LinkedFunc.{LinkedFunc}
use Rattle.rw_program.specs.declared.linked.LinkedGlobal.{LinkedGlobal}
use Rattle.layout.specs.Cells.{offsets_from}
use Rattle.layout.specs.Frames.{global_words, result_words}
use Rattle.layout.specs.Limits.{globals_words, greatest_result}
use Rattle.lowering_rows.specs.Labels.{Label, label_height, label_index}
use Rattle.lowering_rows.specs.Surroundings.{Surroundings, local_place, place_in, place_of_global, words_of_global}
use Rattle.lowering_heights.proofs.Parts.{lie_apart}
use Rattle.lowering_locals.specs.Fitting.{AreFitting}
use Rattle.lowering_rows_typed.specs.Names.{AreLocals}
use Rattle.lowering_names.specs.Placed.{AreLowered, StandsIn}

-- an element of one list has one in another that is as long
other_found : {A B : Type 0} (xs : List A) (ys : List B) (n : ℕ) (x : A) → length xs ≡ length ys → slice_get xs n ≡ Some x → (y : B) × (slice_get ys n ≡ Some y)
other_found [] ys n x l e = cc
other_found (z ∷ xs) [] n x l e = absurd (omega (arith, l))
other_found (z ∷ xs) (y ∷ ys) zero x l e = (y, refl)
other_found (z ∷ xs) (y ∷ ys) (suc n) x l e = other_found xs ys n x (omega (arith, l)) e

-- each part begins somewhere
offset_found : (at : ℕ) (sizes : List ℕ) (n k : ℕ) → slice_get sizes n ≡ Some k → (m : ℕ) × (slice_get (offsets_from at sizes) n ≡ Some m)
offset_found at [] n k e = cc
offset_found at (x ∷ sizes) zero k e = (at, refl)
offset_found at (x ∷ sizes) (suc n) k e = offset_found (at + x) sizes n k e

pub set_same : {A : Type 0} (xs : List A) (n : ℕ) (x y : A) → slice_get xs n ≡ Some y → slice_get (slice_set xs n x) n ≡ Some x
set_same [] n x y e = cc
set_same (z ∷ xs) zero x y e = refl
set_same (z ∷ xs) (suc n) x y e = set_same xs n x y e

-- the words of a local's type are those of locals
pub local_known : (s : Surroundings) (f : rules.Frame) (room : ℕ) (c : Scope) (locals : List Ty) (n : ℕ) (t : Ty) → StandsIn s f room → AreFitting c f.slots locals → slice_get locals n ≡ Some t →
    AreLocals s (local_place s n) (size_under c t)
local_known s f room c locals n t stands fits e =
    let slot = other_found locals f.slots n t fits.same_length e in
    let at = offset_found 0 f.slots n slot.0 slot.1 in
    let place : local_place s n ≡ at.0 = ap (λ (l : List ℕ). place_in (slice_get l n)) stands.locals ∙ ap place_in at.1 in
    omega (arith, place, stands.operands, (lie_apart 0 f.slots n at.0 slot.0 at.1 slot.1).0, fits.fit n t slot.0 e slot.1)

-- the words of a global are those of globals
pub global_known : (at : ℕ) (gs : List LinkedGlobal) (n : ℕ) (g : LinkedGlobal) → slice_get gs n ≡ Some g → (words_of_global gs n ≡ global_words g) × (place_of_global at gs n + words_of_global gs n ≤ at + globals_words gs)
global_known at [] n g e = cc
global_known at (h ∷ gs) zero g e = let same : h ≡ g = cc in (ap global_words same, omega arith)
global_known at (h ∷ gs) (suc n) g e = let x = global_known (at + global_words h) gs n g e in (x.0, omega (arith, x.1))

-- the results of a function are no more than the greatest
pub result_known : (fs : List LinkedFunc) (n : ℕ) (f : LinkedFunc) → slice_get fs n ≡ Some f → result_words f ≤ greatest_result fs
result_known [] n f e = cc
result_known (g ∷ fs) zero f e = let same : g ≡ f = cc in omega (arith, ap result_words same)
result_known (g ∷ fs) (suc n) f e = omega (arith, result_known fs n f e)

-- what is found of each element
pub mapped : {A B : Type 0} (h : A → B) (xs : List A) (n : ℕ) (y : B) → slice_get (map h xs) n ≡ Some y → (x : A) × (slice_get xs n ≡ Some x) × (h x ≡ y)
mapped h [] n y e = cc
mapped h (x ∷ xs) zero y e = let same : h x ≡ y = cc in (x, refl, same)
mapped h (x ∷ xs) (suc n) y e = mapped h xs n y e

-- a label
skipped : (n k : ℕ) (ls : w.Labels) → slice_get (replicate n None ++ ls) (n + k) ≡ slice_get ls k
skipped zero k ls = let same : 0 + k ≡ k = omega arith in ap (λ (m : ℕ). slice_get ls m) same
skipped (suc n) k ls =
    let same : suc n + k ≡ suc (n + k) = omega arith in
    ap (λ (m : ℕ). slice_get (None ∷ (replicate n None ++ ls)) m) same ∙ skipped n k ls

own_label : (n : ℕ) (ls : w.Labels) → slice_get (replicate (suc n) None ++ ls) n ≡ Some None
own_label zero ls = refl
own_label (suc n) ls = own_label n ls

pub label_known : (c : Scope) (outer : List rules.Label) (labels : List Label) (ls : w.Labels) (k : ℕ) (l : rules.Label) → AreLowered c outer labels ls → slice_get outer k ≡ Some l →
    (label_height labels k ≤ rest_size c outer) × (slice_get ls (label_index labels k) ≡ Some None)
label_known c [] labels ls k l h e = cc
label_known c (m ∷ outer) [] ls k l h e = absurd h
label_known c (m ∷ outer) (label ∷ labels) ls zero l h e = (omega (arith, h.0), ap (λ (x : w.Labels). slice_get x label.within) h.2 ∙ own_label label.within h.1)
label_known c (m ∷ outer) (label ∷ labels) ls (suc k) l h e =
    let x = label_known c outer labels h.1 k l h.3 e in
    let index : suc (label.within + label_index labels k) ≡ suc label.within + label_index labels k = omega arith in (
      omega (arith, x.0),
      ap (λ (y : w.Labels). slice_get y (suc (label.within + label_index labels k))) h.2
          ∙ ap (λ (n : ℕ). slice_get (replicate (suc label.within) None ++ h.1) n) index
          ∙ skipped (suc label.within) (label_index labels k) h.1
          ∙ x.1,
    )
