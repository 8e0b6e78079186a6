-- Rows that read an element of an array and tell its length, and that free an array.
use Rattle.std.proofs.Common.{◌≡◌, ℕ, List, [], ◌∷◌, length, None, Some, refl, sym, ap, ◌∙◌, subst, arith}
use Rattle.wasm_operators.specs.declared.Width.TheVariants.{W32}
use Rattle.rw_types.specs.declared.instrs.Instr.{ArrayGet, ArrayLen, ArrayFree}
use Rattle.rw_types.specs.declared.types.Heap.TheVariants.{Array}
use Rattle.rw_types.specs.declared.types.Mem.{Mem}
use Rattle.rw_types.specs.declared.types.Mem.TheVariants.{L}
use Rattle.rw_types.specs.declared.types.Pre as pre
use Rattle.rw_types.specs.declared.types.Priv.{Priv}
use Rattle.rw_types.specs.declared.types.Priv.TheVariants.{Rw}
use Rattle.rw_types.specs.declared.types.Qual.{Qual}
use Rattle.rw_types.specs.declared.types.Qual.TheVariants.{Unr}
use Rattle.rw_types.specs.declared.types.Ty.{Ty, Of}
use Rattle.rw_program.specs.declared.linked.LinkedFunc.{LinkedFunc}
use Rattle.machine_steps.specs.Steps.{Turn}
use Rattle.rich_types.specs.Scopes.{scope_of, memory_of}
use Rattle.rich_types.specs.Instances.{Substitution}
use Rattle.rich_rules.specs.Points.{Frame, Point, Gives}
use Rattle.rich_rules.specs.Takers.{unr_i32}
use Rattle.rich_rules.specs.Table.{row}
use Rattle.rich_rules.proofs.RowEquations.{row-ArrayGet, row-ArrayLen, row-ArrayFree}
use Rattle.rich_rules_inversions.proofs.Cells.{rows}
use Rattle.rich_reduction.specs.Configurations.{Val, Number, Ref, Here, Config, Event, Touched}
use Rattle.rich_reduction.specs.Cells as cells
use Rattle.rich_reduction.specs.Cells.{frees}
use Rattle.rich_reduction.specs.Arrays.{with_element}
use Rattle.rich_rights.specs.Rights.{Reading, rights_to, count_content}
use Rattle.rich_soundness_values.specs.Heaps.{Heaps, at, all_at}
use Rattle.rich_soundness_values.specs.Values.{HaveTypes, more_types, is_i32}
use Rattle.rich_soundness_values.proofs.Typed.{no_rights}
use Rattle.rich_soundness_rows.proofs.Closed.{named, names_at}
use Rattle.rich_soundness_rows.proofs.Forms.{memory_named}
use Rattle.rich_soundness_rows.proofs.Widths.{number_taken}
use Rattle.rich_soundness_frames.proofs.Contents.{array_held}
use Rattle.rich_soundness_references.proofs.References.{reference_taken}
use Rattle.rich_soundness_frames.proofs.Acts.{AreFew, Told, Acts, ActsOn, CellActs, reads}
use Rattle.rich_soundness_cells.proofs.Opened.{frees_acts}
use Rattle.rich_soundness_arrays.proofs.Elements.{array_at, in_array, each_at, each_free, element_acts}

module _ (funcs : List LinkedFunc) (f : Frame) (hs : Heaps) (q : Point) (g : Substitution) (here : Here) (c : Config) where
  get_go : (vs : List Val) (k : Qual) (p : Priv) (l : ℕ) (t : Ty) (beneath : List Ty) → Told hs f q g ArrayGet c vs → HaveTypes hs vs (all_at g (unr_i32 ∷ Of k (pre.Ref p l (Array t)) ∷ beneath)) →
      row f q ArrayGet ≡ Gives (t ∷ Of k (pre.Ref p l (Array t)) ∷ beneath) None → ActsOn funcs f hs q g here c ArrayGet vs
  get_go vs k p l t beneath told typed e =
      number_taken hs W32 vs (all_at g (Of k (pre.Ref p l (Array t)) ∷ beneath)) (λ us. Told hs f q g ArrayGet c us → ActsOn funcs f hs q g here c ArrayGet us) typed
      (λ n under w hr told.
      reference_taken under (λ us. HaveTypes hs us (all_at g (Of k (pre.Ref p l (Array t)) ∷ beneath)) → ActsOn funcs f hs q g here c ArrayGet (Number n ∷ us)) told.stored hr (λ j. omega (arith, told.few Reading j))
      (λ x us to hu h.
      let arr = array_held (at g t) to.holds (array_at g t) in
      let before = record here { operands = Number n ∷ Ref x p ∷ us } in
      subst (λ (turn : Turn Event Config). Acts f hs q g ArrayGet (Number n ∷ Ref x p ∷ us) here c turn)
      (sym (in_array x to.cell arr.values c.stores (λ cell vs. with_element x vs n c (λ v. cells.reads x (v ∷ Ref x p ∷ us) before c)) to.at arr.is))
      (element_acts x arr.values n (λ v. cells.reads x (v ∷ Ref x p ∷ us) before c)
      (λ v found. let typed = each_at (at g t) arr.values n v arr.typed found in
      reads told.stored _ (Touched x ∷ []) (v ∷ Ref x p ∷ us) e refl (more_types typed h) (λ r j. omega (arith, no_rights r j typed arr.unrestricted)))))
      hr)
      told

  len_go : (vs : List Val) (k : Qual) (p : Priv) (l : ℕ) (t : Ty) (beneath : List Ty) → Told hs f q g ArrayLen c vs → HaveTypes hs vs (all_at g (Of k (pre.Ref p l (Array t)) ∷ beneath)) →
      row f q ArrayLen ≡ Gives (unr_i32 ∷ Of k (pre.Ref p l (Array t)) ∷ beneath) None → ActsOn funcs f hs q g here c ArrayLen vs
  len_go vs k p l t beneath told typed e =
      reference_taken vs (λ us. HaveTypes hs us (all_at g (Of k (pre.Ref p l (Array t)) ∷ beneath)) → ActsOn funcs f hs q g here c ArrayLen us) told.stored typed (λ j. omega (arith, told.few Reading j))
      (λ x us to hu h.
      let arr = array_held (at g t) to.holds (array_at g t) in
      let before = record here { operands = Ref x p ∷ us } in
      reads told.stored _ (Touched x ∷ []) (Number (length arr.values) ∷ Ref x p ∷ us) e
      (in_array x to.cell arr.values c.stores (λ cell vs. cells.reads x (Number (length vs) ∷ Ref x p ∷ us) before c) to.at arr.is)
      (more_types (is_i32 Unr refl arr.within) h) (λ r j. omega arith))
      typed

  free_go : (vs : List Val) (k : Qual) (l : ℕ) (t : Ty) (beneath : List Ty) → Told hs f q g ArrayFree c vs → HaveTypes hs vs (all_at g (Of k (pre.Ref Rw l (Array t)) ∷ beneath)) → memory_of (scope_of q.binders) l ≡ Some L →
      row f q ArrayFree ≡ Gives beneath None → ActsOn funcs f hs q g here c ArrayFree vs
  free_go vs k l t beneath told typed memory e =
      reference_taken vs (λ us. AreFew c us → ActsOn funcs f hs q g here c ArrayFree us) told.stored typed (λ j. omega (arith, told.few Reading j))
      (λ x us to hu few.
      let arr = array_held (at g t) to.holds (array_at g t) in
      let linear : x.mem ≡ L = memory_named L (named g l) x (names_at g (scope_of q.binders) l L told.answered memory) to.named in
      let before = record here { operands = Ref x Rw ∷ us } in
      frees_acts told.stored x us to.cell beneath to.at linear few e
      (in_array x to.cell arr.values c.stores (λ cell vs. frees x us before c) to.at arr.is) hu
      (λ r j. ap (count_content (rights_to r j)) arr.is ∙ each_free (at g t) r j arr.values arr.typed arr.unrestricted))
      told.few

pub get_acts : CellActs ArrayGet
get_acts funcs f hs q g here c vs s =
    let x = rows.array_get (scope_of q.binders) q.operands (row f q ArrayGet) (sym (row-ArrayGet f q)) s.goes in
    get_go funcs f hs q g here c vs x.reference.qual x.reference.privilege x.reference.location x.element x.beneath s
    (subst (λ (ts : List Ty). HaveTypes hs vs (all_at g ts)) (x.taken ∙ ap (λ (t : Ty). unr_i32 ∷ t ∷ x.beneath) x.form.form) s.operands)
    (x.given ∙ ap (λ (t : Ty). Gives (x.element ∷ t ∷ x.beneath) None) x.form.form)

pub len_acts : CellActs ArrayLen
len_acts funcs f hs q g here c vs s =
    let x = rows.array_len (scope_of q.binders) q.operands (row f q ArrayLen) (sym (row-ArrayLen f q)) s.goes in
    len_go funcs f hs q g here c vs x.reference.qual x.reference.privilege x.reference.location x.element x.beneath s
    (subst (λ (ts : List Ty). HaveTypes hs vs (all_at g ts)) (x.taken ∙ ap (λ (t : Ty). t ∷ x.beneath) x.form.form) s.operands)
    (x.given ∙ ap (λ (t : Ty). Gives (unr_i32 ∷ t ∷ x.beneath) None) x.form.form)

pub free_acts : CellActs ArrayFree
free_acts funcs f hs q g here c vs s =
    let x = rows.array_free (scope_of q.binders) q.operands (row f q ArrayFree) (sym (row-ArrayFree f q)) s.goes in
    let form : x.first ≡ Of x.reference.qual (pre.Ref Rw x.reference.location (Array x.element)) = x.form.form ∙ ap (λ (p : Priv). Of x.reference.qual (pre.Ref p x.reference.location (Array x.element))) x.privilege in
    free_go funcs f hs q g here c vs x.reference.qual x.reference.location x.element x.beneath s
    (subst (λ (ts : List Ty). HaveTypes hs vs (all_at g ts)) (x.taken ∙ ap (λ (t : Ty). t ∷ x.beneath) form) s.operands)
    (x.form.memory ∙ ap (λ (m : Mem). Some m) x.memory) x.given
