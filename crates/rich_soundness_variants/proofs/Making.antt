-- The row that makes a variant.
use Rattle.std.proofs.Common.{◌≡◌, ℕ, zero, suc, List, [], ◌∷◌, None, Some, refl, sym, ap, ◌∙◌, subst}
use Rattle.std.specs.Prelude.{slice_get, IsTrue}
use Rattle.rw_types.specs.declared.instrs.Instr.{VariantMalloc}
use Rattle.rw_types.specs.declared.types.Heap.TheVariants.{Variant}
use Rattle.rw_types.specs.declared.types.Mem.{Mem}
use Rattle.rw_types.specs.declared.types.Mem.TheVariants.{U}
use Rattle.rw_types.specs.declared.types.Qual.{Qual}
use Rattle.rw_types.specs.declared.types.Qual.TheVariants.{Unr}
use Rattle.rw_types.specs.declared.types.Ty.{Ty}
use Rattle.rich_types.specs.Scopes.{Scope, scope_of, with_location}
use Rattle.rich_types.specs.WellFormed.{AreParts, content_qual}
use Rattle.rich_types.proofs.Sized.{form-Variant}
use Rattle.rich_rules.specs.Forms.{is_formed, is_unr, is_unr_type}
use Rattle.rich_rules.specs.Points.{Gives}
use Rattle.rich_rules.specs.Raised.{one_location, raise_all}
use Rattle.rich_rules.specs.Structs.{new_cell}
use Rattle.rich_rules.specs.Table.{row}
use Rattle.rich_rules.proofs.RowEquations.{row-VariantMalloc}
use Rattle.rich_rules_inversions.proofs.Cells.{rows}
use Rattle.rich_reduction.specs.Configurations.{Val, Case}
use Rattle.rich_reduction.specs.Packages.{variant_words}
use Rattle.rich_soundness_values.specs.Heaps.{at, all_at}
use Rattle.rich_soundness_values.specs.Values.{HaveTypes, more_types}
use Rattle.rich_soundness_values.specs.Cells.{is_variant}
use Rattle.rich_soundness_rows.proofs.Closed.{unr_at}
use Rattle.rich_soundness_frames.proofs.Acts.{Told, ActsOn, CellActs}
use Rattle.rich_soundness_frames.proofs.Formed.{new_heap_formed, least, raised_qual}
use Rattle.rich_soundness_cells.proofs.Made.{makes_acts}
use Rattle.rich_soundness_variants.proofs.Cases.{variant_raised, case_at}

-- a part of what is in the unrestricted memory is `unr`
part_unr : (c : Scope) (m : Mem) (ts : List Ty) (n : ℕ) (t : Ty) → AreParts (with_location m c) Unr (raise_all one_location ts) → slice_get ts n ≡ Some t → IsTrue (is_unr_type c t)
part_unr c m [] n t p e = cc
part_unr c m (u ∷ ts) zero t p e = let i : u ≡ t = cc in subst (λ (x : Ty). IsTrue (is_unr_type c x)) i (ap is_unr (sym (raised_qual c m u) ∙ least _ p.1))
part_unr c m (u ∷ ts) (suc n) t p e = part_unr c m ts n t p.2 e

case_unr : (c : Scope) (m : Mem) (ts : List Ty) (n : ℕ) (t : Ty) → IsTrue (is_formed c (new_cell m (Variant (raise_all one_location ts)))) → slice_get ts n ≡ Some t → m ≡ U → IsTrue (is_unr_type c t)
case_unr c m ts n t formed e u =
    let w = subst (λ (P : Type 0). P) (form-Variant (with_location m c) m (raise_all one_location ts)) (new_heap_formed c m (Variant (raise_all one_location ts)) formed) in
    part_unr c m ts n t (subst (λ (k : Qual). AreParts (with_location m c) k (raise_all one_location ts)) (ap content_qual u) w.1) e

pub malloc_acts : (m : Mem) (n : ℕ) (cases : List Ty) → CellActs (VariantMalloc m n cases)
malloc_acts m n cases funcs f hs q g here c vs s =
    let x = rows.variant_malloc (scope_of q.binders) m n cases q.operands (row f q (VariantMalloc m n cases)) (sym (row-VariantMalloc f q m n cases)) s.goes in
    go vs x.value x.beneath (subst (λ (ts : List Ty). HaveTypes hs vs (all_at g ts)) x.taken s.operands) s x.found (case_unr (scope_of q.binders) m cases n x.value x.formed x.found) x.given
  where
    go : (vs : List Val) (t : Ty) (beneath : List Ty) → HaveTypes hs vs (all_at g (t ∷ beneath)) → Told hs f q g (VariantMalloc m n cases) c vs → slice_get cases n ≡ Some t → (m ≡ U → IsTrue (is_unr_type (scope_of q.binders) t)) →
        row f q (VariantMalloc m n cases) ≡ Gives (new_cell m (Variant (raise_all one_location cases)) ∷ beneath) None → ActsOn funcs f hs q g here c (VariantMalloc m n cases) vs
    go [] t beneath h told found unr e = elim h [ ]
    go (v ∷ vs) t beneath (more_types h hv) told found unr e =
        makes_acts told m (Variant (raise_all one_location cases)) (Variant (all_at g cases)) (record { words = variant_words here.sizes cases; content = Case n v }) vs beneath e refl
        (λ l. variant_raised g l cases)
        (is_variant (all_at g cases) (at g t) refl (case_at g cases n t found) (λ u. unr_at g (scope_of q.binders) t told.answered (unr u)) h) hv
        (λ r j. refl)
