-- The row that writes an element of an array.
use Rattle.std.proofs.Common.{◌≡◌, ℕ, List, [], ◌∷◌, None, refl, sym, ap, ◌∙◌, subst, arith}
use Rattle.std.specs.Prelude.{slice_get, slice_set}
use Rattle.wasm_operators.specs.declared.Width.TheVariants.{W32}
use Rattle.wasm_num.specs.Widths.{IsWithin}
use Rattle.rw_types.specs.declared.instrs.Instr.{ArraySet}
use Rattle.rw_types.specs.declared.types.Heap.TheVariants.{Array}
use Rattle.rw_types.specs.declared.types.Pre as pre
use Rattle.rw_types.specs.declared.types.Priv.{Priv}
use Rattle.rw_types.specs.declared.types.Qual.{Qual}
use Rattle.rw_types.specs.declared.types.Ty.{Ty, Of}
use Rattle.rw_program.specs.declared.linked.LinkedFunc.{LinkedFunc}
use Rattle.machine_steps.specs.Steps.{Turn}
use Rattle.rich_types.specs.Scopes.{scope_of}
use Rattle.rich_types.specs.Walks.{outside, walk_heap}
use Rattle.rich_types.specs.Instances.{Substitution, substituting}
use Rattle.rich_rules.specs.Points.{Frame, Point, Gives}
use Rattle.rich_rules.specs.Takers.{unr_i32}
use Rattle.rich_rules.specs.Table.{row}
use Rattle.rich_rules.proofs.RowEquations.{row-ArraySet}
use Rattle.rich_rules_inversions.proofs.Cells.{rows}
use Rattle.rich_reduction.specs.Configurations.{Val, Number, Ref, Elements, Cell, Here, Config, Event, Touched}
use Rattle.rich_reduction.specs.Cells.{put_at, writes}
use Rattle.rich_reduction.specs.Arrays.{with_element}
use Rattle.rich_rights.specs.Rights.{Right, Reading, rights_to, count_all, count_content}
use Rattle.rich_rights_laws.proofs.Sums.{stores}
use Rattle.rich_soundness_values.specs.Heaps.{Heaps, at, all_at}
use Rattle.rich_soundness_values.specs.Values.{HasType, HaveTypes, more_types}
use Rattle.rich_soundness_values.specs.Cells.{is_array}
use Rattle.rich_soundness_values.proofs.Framed.{framed_all}
use Rattle.rich_soundness_values.proofs.Typed.{no_rights}
use Rattle.rich_soundness_rows.proofs.Closed.{set_length}
use Rattle.rich_soundness_rows.proofs.Widths.{number_taken}
use Rattle.rich_soundness_frames.proofs.Still.{live_most}
use Rattle.rich_soundness_cells.proofs.Live.{stays}
use Rattle.rich_soundness_cells.proofs.Stores.{written}
use Rattle.rich_soundness_frames.proofs.Contents.{array_held}
use Rattle.rich_soundness_references.proofs.References.{reference_taken, leads_typed}
use Rattle.rich_soundness_frames.proofs.Acts.{AreFew, Told, Acts, ActsOn, CellActs, changes}
use Rattle.rich_soundness_arrays.proofs.Elements.{array_at, in_array, each_set, each_free, element_acts}

module _ (funcs : List LinkedFunc) (f : Frame) (hs : Heaps) (q : Point) (g : Substitution) (here : Here) (c : Config) where
  set_under : (v : Val) (n : ℕ) (under : List Val) (k : Qual) (p : Priv) (l : ℕ) (t : Ty) (beneath : List Ty) → Told hs f q g ArraySet c (v ∷ Number n ∷ under) → HasType hs v (at g t) → HaveTypes hs under (all_at g (Of k (pre.Ref p l (Array t)) ∷ beneath)) →
      row f q ArraySet ≡ Gives (Of k (pre.Ref p l (Array t)) ∷ beneath) None → ActsOn funcs f hs q g here c ArraySet (v ∷ Number n ∷ under)
  set_under v n under k p l t beneath told hv hr e =
      reference_taken under (λ us. AreFew c (v ∷ Number n ∷ us) → ActsOn funcs f hs q g here c ArraySet (v ∷ Number n ∷ us)) told.stored hr (λ j. omega (arith, told.few Reading j))
      (λ x us to hu few.
      let arr = array_held (at g t) to.holds (array_at g t) in
      let new : List Val = slice_set arr.values n v in
      let typed : HaveTypes hs new _ = each_set (at g t) arr.values n v arr.typed hv in
      let free : (r : Right) (j : ℕ) → count_all (rights_to r j) (slice_set arr.values n v) ≡ 0 = λ r j. each_free (at g t) r j (slice_set arr.values n v) typed arr.unrestricted in
      let cell : Cell = record to.cell { content = Elements (slice_set arr.values n v) } in
      let a = written hs c.stores x (walk_heap (substituting g) outside (Array t)) (walk_heap (substituting g) outside (Array t)) to.cell (Elements (slice_set arr.values n v)) told.stored to.stands to.at (λ u. refl)
      (is_array (at g t) (array_at g t) arr.unrestricted (subst (λ (i : ℕ). IsWithin W32 i) (sym (set_length arr.values n v)) arr.within) typed)
      (λ j one. (free Reading j, omega (arith, one, few Reading j, live_most (slice_get c.stores.linear j)))) in
      let before = record here { operands = v ∷ Number n ∷ Ref x p ∷ us } in
      subst (λ (turn : Turn Event Config). Acts f hs q g ArraySet (v ∷ Number n ∷ Ref x p ∷ us) here c turn)
      (sym (in_array x to.cell arr.values c.stores (λ cell vs. with_element x vs n c (λ old. writes x (record cell { content = Elements (slice_set vs n v) }) (Ref x p ∷ us) before c)) to.at arr.is))
      (element_acts x arr.values n (λ old. writes x cell (Ref x p ∷ us) before c)
      (λ old found. changes _ (Touched x ∷ []) a.0.heaps a.0.number (Ref x p ∷ us) (put_at x cell c.stores) e refl a.0.keeps (omega (arith, a.0.bound))
      (more_types (leads_typed p _ to a.1) (framed_all a.0.number a.0.keeps hu (omega (arith, a.0.bound, few Reading a.0.number))))
      a.0.stored
      (λ r j. omega (arith, free r j, no_rights r j hv arr.unrestricted, ap (count_content (rights_to r j)) arr.is, each_free (at g t) r j arr.values arr.typed arr.unrestricted, stays c.stores x to.cell cell j to.at, (stores (rights_to r j)).put x.mem x.number to.cell (Elements (slice_set arr.values n v)) c.stores to.at)))))
      told.few

  set_go : (vs : List Val) (k : Qual) (p : Priv) (l : ℕ) (t : Ty) (beneath : List Ty) → Told hs f q g ArraySet c vs → HaveTypes hs vs (all_at g (t ∷ unr_i32 ∷ Of k (pre.Ref p l (Array t)) ∷ beneath)) →
      row f q ArraySet ≡ Gives (Of k (pre.Ref p l (Array t)) ∷ beneath) None → ActsOn funcs f hs q g here c ArraySet vs
  set_go [] k p l t beneath told typed e = elim typed [ ]
  set_go (v ∷ vs) k p l t beneath told (more_types h hv) e =
      number_taken hs W32 vs (all_at g (Of k (pre.Ref p l (Array t)) ∷ beneath)) (λ us. Told hs f q g ArraySet c (v ∷ us) → ActsOn funcs f hs q g here c ArraySet (v ∷ us)) hv
      (λ n under w hr told. set_under v n under k p l t beneath told h hr e)
      told

pub set_acts : CellActs ArraySet
set_acts funcs f hs q g here c vs s =
    let x = rows.array_set (scope_of q.binders) q.operands (row f q ArraySet) (sym (row-ArraySet f q)) s.goes in
    set_go funcs f hs q g here c vs x.reference.qual x.reference.privilege x.reference.location x.element x.beneath s
    (subst (λ (ts : List Ty). HaveTypes hs vs (all_at g ts)) (x.taken ∙ ap (λ (t : Ty). x.element ∷ unr_i32 ∷ t ∷ x.beneath) x.form.form) s.operands)
    (x.given ∙ ap (λ (t : Ty). Gives (t ∷ x.beneath) None) x.form.form)
