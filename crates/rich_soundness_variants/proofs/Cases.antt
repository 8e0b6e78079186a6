-- The cases of a variant, and the lists for them.
use Rattle.std.proofs.Common.{◌≡◌, ℕ, zero, suc, ◌+◌, List, [], ◌∷◌, length, Some, refl, sym, ap, ◌∙◌, subst, arith}
use Rattle.std.specs.Prelude.{slice_get}
use Rattle.rw_types.specs.declared.instrs.Instr.{Instr, items-the_row-Instr, items-the_row-Instr-VariantCase-1-1, items_shown-the_row-Instr-0, Row_of-Instr-VariantCase-1-1, end_of-Instr-VariantCase-1-1, more_of-Instr-VariantCase-1-1}
use Rattle.rw_types.specs.declared.types.Heap.TheVariants.{Variant}
use Rattle.rw_types.specs.declared.types.Ty.{Ty}
use Rattle.rich_typing.specs.declared.notes.Note.{Note}
use Rattle.rich_types.specs.Walks.{outside, walk_heap}
use Rattle.rich_types.specs.Instances.{Substitution, substituting}
use Rattle.rich_types.proofs.Shapes.{walk-Variant}
use Rattle.rich_rules.specs.Points.{Frame, Entry, types_at}
use Rattle.rich_rules.specs.Raised.{one_location, raise_all}
use Rattle.rich_rules.specs.Blocks.{each_alone}
use Rattle.rich_rules.specs.Derivations as derive
use Rattle.rich_rules.specs.Derivations.{DerivesArms}
use Rattle.rich_rules.specs.Table.{lists_of}
use Rattle.rich_reduction.specs.Configurations.{Location}
use Rattle.rich_soundness_values.specs.Heaps.{at, all_at}
use Rattle.rich_soundness_points.specs.Programs.{RowsFit, AllFit}
use Rattle.rich_soundness_lists.proofs.Splits.{row_all, Arm}
use Rattle.rich_soundness_binders.specs.Laws.{onto}
use Rattle.rich_soundness_binders.proofs.Onto.{raised_stays}
use Rattle.rich_soundness_binders.proofs.Bodies.{placed}

pub variant_at : (g : Substitution) (ts : List Ty) → walk_heap (substituting g) outside (Variant ts) ≡ Variant (all_at g ts)
variant_at g ts = walk-Variant (substituting g) outside ts

raised : (g : Substitution) (l : Location) (ts : List Ty) → all_at (onto (placed l) g) (raise_all one_location ts) ≡ all_at g ts
raised g l [] = refl
raised g l (t ∷ ts) = ap (λ (u : Ty). u ∷ all_at (onto (placed l) g) (raise_all one_location ts)) (raised_stays (placed l) g outside t) ∙ ap (λ (us : List Ty). at g t ∷ us) (raised g l ts)

pub variant_raised : (g : Substitution) (l : Location) (ts : List Ty) → walk_heap (substituting (onto (placed l) g)) outside (Variant (raise_all one_location ts)) ≡ Variant (all_at g ts)
variant_raised g l ts = variant_at (onto (placed l) g) (raise_all one_location ts) ∙ ap Variant (raised g l ts)

-- the type of a case
pub case_at : (g : Substitution) (ts : List Ty) (n : ℕ) (t : Ty) → slice_get ts n ≡ Some t → slice_get (all_at g ts) n ≡ Some (at g t)
case_at g [] n t e = cc
case_at g (u ∷ ts) zero t e = let i : u ≡ t = cc in ap (λ (x : Ty). Some (at g x)) i
case_at g (u ∷ ts) (suc n) t e = case_at g ts n t e

pub case_of : (g : Substitution) (ts : List Ty) (n : ℕ) (u : Ty) → slice_get (all_at g ts) n ≡ Some u → (t : Ty) × (slice_get ts n ≡ Some t) × (u ≡ at g t)
case_of g [] n u e = cc
case_of g (t ∷ ts) zero u e = let i : at g t ≡ u = cc in (t, refl, sym i)
case_of g (t ∷ ts) (suc n) u e = case_of g ts n u e

pub payload : (ts : List Ty) (n : ℕ) (t : Ty) → slice_get ts n ≡ Some t → types_at (each_alone ts) n ≡ t ∷ []
payload [] n t e = cc
payload (u ∷ ts) zero t e = let i : u ≡ t = cc in ap (λ (x : Ty). x ∷ []) i
payload (u ∷ ts) (suc n) t e = payload ts n t e

-- as many lists as cases
pub as_many : {A B : Type 0} (xs : List A) (ys : List B) (n : ℕ) (y : B) → length xs ≡ length ys → slice_get ys n ≡ Some y → (x : A) × (slice_get xs n ≡ Some x)
as_many xs [] n y e f = cc
as_many [] (z ∷ ys) n y e f = absurd (omega arith)
as_many (x ∷ xs) (z ∷ ys) zero y e f = (x, refl)
as_many (x ∷ xs) (z ∷ ys) (suc n) y e f = as_many xs ys n y (omega arith) f

-- the lists in the tree are those of the table
pub same_lists : {n : _} (rows : Row_of-Instr-VariantCase-1-1 n) → items-the_row-Instr-VariantCase-1-1 _ rows ≡ lists_of rows
same_lists end_of-Instr-VariantCase-1-1 = refl
same_lists (more_of-Instr-VariantCase-1-1 m is rest) = ap (λ (l : List Instr). l ∷ items-the_row-Instr-VariantCase-1-1 _ rest) (items_shown-the_row-Instr-0 m is) ∙ ap (λ (l : List (List Instr)). items-the_row-Instr _ is ∷ l) (same_lists rest)

pub list_fits : {n : _} (rows : Row_of-Instr-VariantCase-1-1 n) (k : ℕ) (is : List Instr) → RowsFit rows → slice_get (lists_of rows) k ≡ Some is → AllFit is
list_fits end_of-Instr-VariantCase-1-1 k is h e = cc
list_fits (more_of-Instr-VariantCase-1-1 m js rest) zero is h e = let i : items-the_row-Instr _ js ≡ is = cc in subst AllFit i (row_all js h.0)
list_fits (more_of-Instr-VariantCase-1-1 m js rest) (suc k) is h e = list_fits rest k is h.1 e

-- the derivation of a list
pub arm_at : {f : Frame} {e : Entry} (arms : List (List Instr)) (i k n : ℕ) {is : List Instr} {notes : List Note} → n ≡ i + k → DerivesArms f e i arms notes → slice_get arms k ≡ Some is → Arm f e n is
arm_at [] i k n s d g = cc
arm_at {f = f} {e = e} (js ∷ arms) i zero n {is = is} s (derive.arm inner later w d rest) g =
    let a : js ≡ is = cc in let z : i ≡ n = omega arith in
    subst (λ (m : ℕ). Arm f e m is) z (subst (λ (l : List Instr). Arm f e i l) a (record { notes = inner; code = d }))
arm_at (js ∷ arms) i (suc k) n s (derive.arm inner later w d rest) g = arm_at arms (suc i) k n (omega arith) rest g
