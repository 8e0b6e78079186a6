-- Canonical texts of the types that code makes: one equation for each constructor with types in it.
use Rattle.std.proofs.Common.{◌≡◌, ◌∙◌, ℕ, List, [], ◌∷◌, refl, ap}
use Rattle.std.specs.Prelude.{map, codes, decimal}
use Rattle.rw_types.specs.declared.types.FunType.{FunType}
use Rattle.rw_types.specs.declared.types.Mem.{Mem}
use Rattle.rw_types.specs.declared.types.Qual.{Qual}
use Rattle.rw_types.specs.declared.types.Slot.{Slot}
use Rattle.rw_types.specs.declared.types.Ty.{Ty, Row_of-Ty, end_of-Ty, more_of-Ty, items-the_row-Ty, items_hidden-the_row-Ty-1}
use Rattle.rw_types.specs.declared.types.Ty.TheVariants.{Rec}
use Rattle.rw_types.specs.declared.types.Pre.TheVariants.{Tuple, Hidden, Code}
use Rattle.rw_types.specs.declared.types.Heap.{Row_of-Slot, end_of-Slot, more_of-Slot, items-the_row-Slot, items_hidden-the_row-Slot-0}
use Rattle.rw_types.specs.declared.types.Heap.TheVariants.{Struct, Variant, Array, Exist}
use Rattle.rw_types.specs.declared.types.Heap.TheBlock.{hidden-the_row-Ty-1, hidden-the_row-Ty-2, hidden-the_row-Slot-0, hidden-the_row-FunType-3}
use Rattle.rich_writing.specs.Pieces.{in_parentheses, qual_text, mem_text}
use Rattle.rich_writing.specs.Types.{type_text, pretype_text, heap_text, fun_text, type_row_texts, slot_row_texts, slot_text, function_type_text}

row-items : {n : _} (row : Row_of-Ty n) → type_row_texts row ≡ map type_text (items-the_row-Ty _ row)
row-items end_of-Ty = refl
row-items (more_of-Ty t ts) = ap (λ (l : List (List ℕ)). type_text t ∷ l) (row-items ts)

slot_row-items : {n : _} (row : Row_of-Slot n) → slot_row_texts row ≡ map slot_text (items-the_row-Slot _ row)
slot_row-items end_of-Slot = refl
slot_row-items (more_of-Slot t s ss) = ap (λ (l : List (List ℕ)). slot_text (record { ty = t; size = s }) ∷ l) (slot_row-items ss)

row-hidden : (ts : List Ty) → type_row_texts (hidden-the_row-Ty-1 ts) ≡ map type_text ts
row-hidden ts = row-items (hidden-the_row-Ty-1 ts) ∙ ap (map type_text) (items_hidden-the_row-Ty-1 ts)

pub text-Rec : (q : Qual) (s : ℕ) (t : Ty) → type_text (Rec q s t) ≡ in_parentheses (codes "rec" ∷ qual_text q ∷ decimal s ∷ type_text t ∷ [])
unfolding hidden-the_row-Ty-2 denote.Hole.Carrier.hidden
text-Rec q s t = refl

pub text-Tuple : (ts : List Ty) → pretype_text (Tuple ts) ≡ in_parentheses (codes "tuple" ∷ map type_text ts)
text-Tuple ts = ap (λ (l : List (List ℕ)). in_parentheses (codes "tuple" ∷ l)) (row-hidden ts)

pub text-Hidden : (m : Mem) (t : Ty) → pretype_text (Hidden m t) ≡ in_parentheses (codes "some" ∷ mem_text m ∷ type_text t ∷ [])
unfolding hidden-the_row-Ty-2 denote.Hole.Carrier.hidden
text-Hidden m t = refl

pub text-Code : (g : FunType) → pretype_text (Code g) ≡ in_parentheses (codes "code" ∷ function_type_text g ∷ [])
unfolding hidden-the_row-FunType-3 hidden-the_row-Ty-1 denote.Hole.Carrier.hidden
text-Code g =
    ap (λ (l : List (List ℕ)). in_parentheses (codes "code" ∷ fun_text g.binders l (type_row_texts (hidden-the_row-Ty-1 g.results)) ∷ [])) (row-hidden g.params)
    ∙ ap (λ (l : List (List ℕ)). in_parentheses (codes "code" ∷ fun_text g.binders (map type_text g.params) l ∷ [])) (row-hidden g.results)

pub text-Struct : (ss : List Slot) → heap_text (Struct ss) ≡ in_parentheses (codes "struct" ∷ map slot_text ss)
text-Struct ss = ap (λ (l : List (List ℕ)). in_parentheses (codes "struct" ∷ l)) (slot_row-items (hidden-the_row-Slot-0 ss) ∙ ap (map slot_text) (items_hidden-the_row-Slot-0 ss))

pub text-Variant : (ts : List Ty) → heap_text (Variant ts) ≡ in_parentheses (codes "variant" ∷ map type_text ts)
text-Variant ts = ap (λ (l : List (List ℕ)). in_parentheses (codes "variant" ∷ l)) (row-hidden ts)

pub text-Array : (t : Ty) → heap_text (Array t) ≡ in_parentheses (codes "array" ∷ type_text t ∷ [])
unfolding hidden-the_row-Ty-2 denote.Hole.Carrier.hidden
text-Array t = refl

pub text-Exist : (q : Qual) (s : ℕ) (t : Ty) → heap_text (Exist q s t) ≡ in_parentheses (codes "exist" ∷ qual_text q ∷ decimal s ∷ type_text t ∷ [])
unfolding hidden-the_row-Ty-2 denote.Hole.Carrier.hidden
text-Exist q s t = refl

pub ruleset type_forms = (text-Rec, text-Tuple, text-Hidden, text-Code, text-Struct, text-Variant, text-Array, text-Exist)
