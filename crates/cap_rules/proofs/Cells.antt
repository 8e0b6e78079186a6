-- The rows of the instructions on cells are those of the table, and there are no other such instructions.
use Rattle.std.proofs.Common.{◌≡◌, ◌∙◌, ℕ, List, true, refl, ap}
use Rattle.std.proofs.Math.Path.{subst⁻¹}
use Rattle.std.specs.Prelude.{Result}
use Rattle.std.proofs.lemmas.Bool.{false≢true}
use Rattle.rw_types.specs.declared.instrs.Instr.{Instr, RefSplit, RefJoin, CapSplit, CapJoin, StructMalloc, StructFree, StructGet, StructSet, StructSwap, VariantMalloc, ArrayMalloc, ArrayGet, ArraySet, ArrayLen, ArrayFree, ExistPack}
use Rattle.rw_types.specs.declared.types.Binder.{Binder}
use Rattle.rw_types.specs.declared.types.Mem.{Mem}
use Rattle.rw_types.specs.declared.types.Qual.{Qual}
use Rattle.rw_types.specs.declared.types.Ty.{Ty}
use Rattle.rich_types.specs.Scopes.{scope_of}
use Rattle.rich_rules.specs.Points.{Frame, Point, Outcome}
use Rattle.rich_rules.specs.Table.{row}
use Rattle.rw_row_answers.specs.declared.answers.CapError.{CapError}
use Rattle.rw_heap_rows.specs.Rows.{Says}
use Rattle.cap_rules.specs.Applied.{is_on_cells, cell_row}

row_of_cells : (f : Frame) (p : Point) (i : Instr) → is_on_cells i ≡ true → row f p i ≡ cell_row (scope_of p.binders) i p.operands
unfolding row
row_of_cells f p RefSplit on = refl
row_of_cells f p RefJoin on = refl
row_of_cells f p CapSplit on = refl
row_of_cells f p CapJoin on = refl
row_of_cells f p (StructMalloc m sizes) on = refl
row_of_cells f p StructFree on = refl
row_of_cells f p (StructGet i) on = refl
row_of_cells f p (StructSet i) on = refl
row_of_cells f p (StructSwap i) on = refl
row_of_cells f p (VariantMalloc m i ts) on = refl
row_of_cells f p (ArrayMalloc m) on = refl
row_of_cells f p ArrayGet on = refl
row_of_cells f p ArraySet on = refl
row_of_cells f p ArrayLen on = refl
row_of_cells f p ArrayFree on = refl
row_of_cells f p (ExistPack m q s t body) on = refl
row_of_cells f p _ on = absurd (false≢true on)

-- what is said of the row of the binders and operands is said of the table's, at each point with these
pub said : {A : Type 0} (r : Result A CapError) (binders : List Binder) (operands : List Ty) (i : Instr) (after : List Ty) → is_on_cells i ≡ true → Says r (cell_row (scope_of binders) i operands) after → (f : Frame) (p : Point) → p.binders ≡ binders → p.operands ≡ operands → Says r (row f p i) after
said r binders operands i after on told f p same_binders same_operands =
    subst⁻¹ (λ (out : Outcome). Says r out after)
    (row_of_cells f p i on ∙ ap (λ (bs : List Binder). cell_row (scope_of bs) i p.operands) same_binders ∙ ap (λ (ts : List Ty). cell_row (scope_of binders) i ts) same_operands)
    told

-- an instruction on cells is one of these
pub record NoneOf (i : Instr) : Type 0 where
  pub ref_split : i ≡ RefSplit → ⊥
  pub ref_join : i ≡ RefJoin → ⊥
  pub cap_split : i ≡ CapSplit → ⊥
  pub cap_join : i ≡ CapJoin → ⊥
  pub struct_malloc : (m : Mem) (sizes : List ℕ) → i ≡ StructMalloc m sizes → ⊥
  pub struct_free : i ≡ StructFree → ⊥
  pub struct_get : (n : ℕ) → i ≡ StructGet n → ⊥
  pub struct_set : (n : ℕ) → i ≡ StructSet n → ⊥
  pub struct_swap : (n : ℕ) → i ≡ StructSwap n → ⊥
  pub variant_malloc : (m : Mem) (n : ℕ) (ts : List Ty) → i ≡ VariantMalloc m n ts → ⊥
  pub array_malloc : (m : Mem) → i ≡ ArrayMalloc m → ⊥
  pub array_get : i ≡ ArrayGet → ⊥
  pub array_set : i ≡ ArraySet → ⊥
  pub array_len : i ≡ ArrayLen → ⊥
  pub array_free : i ≡ ArrayFree → ⊥
  pub exist_pack : (m : Mem) (q : Qual) (s : ℕ) (t body : Ty) → i ≡ ExistPack m q s t body → ⊥

pub none_other : (i : Instr) → is_on_cells i ≡ true → NoneOf i → ⊥
none_other RefSplit on none = none.ref_split refl
none_other RefJoin on none = none.ref_join refl
none_other CapSplit on none = none.cap_split refl
none_other CapJoin on none = none.cap_join refl
none_other (StructMalloc m sizes) on none = none.struct_malloc m sizes refl
none_other StructFree on none = none.struct_free refl
none_other (StructGet n) on none = none.struct_get n refl
none_other (StructSet n) on none = none.struct_set n refl
none_other (StructSwap n) on none = none.struct_swap n refl
none_other (VariantMalloc m n ts) on none = none.variant_malloc m n ts refl
none_other (ArrayMalloc m) on none = none.array_malloc m refl
none_other ArrayGet on none = none.array_get refl
none_other ArraySet on none = none.array_set refl
none_other ArrayLen on none = none.array_len refl
none_other ArrayFree on none = none.array_free refl
none_other (ExistPack m q s t body) on none = none.exist_pack m q s t body refl
none_other _ on none = false≢true on
