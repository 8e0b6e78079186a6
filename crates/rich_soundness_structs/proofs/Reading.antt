-- Rows that read a slot of a struct, and that free one.
use Rattle.std.proofs.Common.{◌≡◌, ℕ, List, [], ◌∷◌, Option, Some, None, sym, ap, ◌∙◌, subst, arith}
use Rattle.std.specs.Prelude.{slice_get, IsTrue}
use Rattle.rw_types.specs.declared.instrs.Instr.{StructGet, StructFree}
use Rattle.rw_types.specs.declared.types.Heap.TheVariants.{Struct}
use Rattle.rw_types.specs.declared.types.Mem.{Mem}
use Rattle.rw_types.specs.declared.types.Mem.TheVariants.{L}
use Rattle.rw_types.specs.declared.types.Pre as pre
use Rattle.rw_types.specs.declared.types.Priv.{Priv}
use Rattle.rw_types.specs.declared.types.Priv.TheVariants.{Rw}
use Rattle.rw_types.specs.declared.types.Qual.{Qual}
use Rattle.rw_types.specs.declared.types.Slot as type
use Rattle.rw_types.specs.declared.types.Ty.{Ty, Of}
use Rattle.rw_program.specs.declared.linked.LinkedFunc.{LinkedFunc}
use Rattle.machine_steps.specs.Steps.{with_found}
use Rattle.rich_types.specs.Scopes.{scope_of, memory_of}
use Rattle.rich_types.specs.Instances.{Substitution}
use Rattle.rich_rules.specs.Forms.{is_unr_type}
use Rattle.rich_rules.specs.Points.{Frame, Point, Gives}
use Rattle.rich_rules.specs.Structs.{slot_types}
use Rattle.rich_rules.specs.Takers.{first_held}
use Rattle.rich_rules.specs.Table.{row}
use Rattle.rich_rules.proofs.RowEquations.{row-StructGet, row-StructFree}
use Rattle.rich_rules_inversions.proofs.Cells.{rows}
use Rattle.rich_reduction.specs.Configurations.{Val, Ref, Slot, Here, Config, Touched}
use Rattle.rich_reduction.specs.Cells as cells
use Rattle.rich_reduction.specs.Cells.{frees}
use Rattle.rich_rights.specs.Rights.{Reading, rights_to, count_content}
use Rattle.rich_soundness_values.specs.Heaps.{Heaps, all_at}
use Rattle.rich_soundness_values.specs.Values.{HaveTypes, more_types}
use Rattle.rich_soundness_values.proofs.Typed.{no_rights}
use Rattle.rich_soundness_rows.proofs.Closed.{unr_at, named, names_at}
use Rattle.rich_soundness_rows.proofs.Forms.{memory_named}
use Rattle.rich_soundness_frames.proofs.Contents.{struct_held}
use Rattle.rich_soundness_references.proofs.References.{reference_taken}
use Rattle.rich_soundness_frames.proofs.Acts.{AreFew, Told, ActsOn, CellActs, reads}
use Rattle.rich_soundness_cells.proofs.Opened.{frees_acts}
use Rattle.rich_soundness_structs.proofs.Slots.{struct_at, in_struct, slot_at, slots_free}

module _ (funcs : List LinkedFunc) (f : Frame) (hs : Heaps) (q : Point) (g : Substitution) (here : Here) (c : Config) where
  get_go : (n : ℕ) (vs : List Val) (k : Qual) (p : Priv) (l : ℕ) (ss : List type.Slot) (s : type.Slot) (beneath : List Ty) → Told hs f q g (StructGet n) c vs → HaveTypes hs vs (all_at g (Of k (pre.Ref p l (Struct ss)) ∷ beneath)) →
      slice_get ss n ≡ Some s → IsTrue (is_unr_type (scope_of q.binders) s.ty) → row f q (StructGet n) ≡ Gives (s.ty ∷ Of k (pre.Ref p l (Struct ss)) ∷ beneath) None → ActsOn funcs f hs q g here c (StructGet n) vs
  get_go n vs k p l ss s beneath told typed found unr e =
      reference_taken vs (λ us. HaveTypes hs us (all_at g (Of k (pre.Ref p l (Struct ss)) ∷ beneath)) → ActsOn funcs f hs q g here c (StructGet n) us) told.stored typed (λ j. omega (arith, told.few Reading j))
      (λ x us t hv hr.
      let str = struct_held _ t.holds (struct_at g ss) in
      let v = slot_at g str.slots ss n s str.typed found in
      let h = record here { operands = Ref x p ∷ us } in
      reads told.stored _ (Touched x ∷ []) (v.0.value ∷ Ref x p ∷ us) e
      (in_struct x t.cell str.slots c.stores (λ cell slots. with_found (slice_get slots n) (λ slot. cells.reads x (slot.value ∷ Ref x p ∷ us) h c)) t.at str.is
      ∙ ap (λ (o : Option Slot). with_found o (λ slot. cells.reads x (slot.value ∷ Ref x p ∷ us) h c)) v.1)
      (more_types v.2 hr)
      (λ r m. omega (arith, no_rights r m v.2 (unr_at g (scope_of q.binders) s.ty told.answered unr))))
      typed

  free_go : (vs : List Val) (k : Qual) (l : ℕ) (ss : List type.Slot) (beneath : List Ty) → Told hs f q g StructFree c vs → HaveTypes hs vs (all_at g (Of k (pre.Ref Rw l (Struct ss)) ∷ beneath)) → memory_of (scope_of q.binders) l ≡ Some L →
      first_held (scope_of q.binders) (slot_types ss) ≡ None → row f q StructFree ≡ Gives beneath None → ActsOn funcs f hs q g here c StructFree vs
  free_go vs k l ss beneath told typed memory unr e =
      reference_taken vs (λ us. AreFew c us → ActsOn funcs f hs q g here c StructFree us) told.stored typed (λ j. omega (arith, told.few Reading j))
      (λ x us t hv few.
      let str = struct_held _ t.holds (struct_at g ss) in
      let linear : x.mem ≡ L = memory_named L (named g l) x (names_at g (scope_of q.binders) l L told.answered memory) t.named in
      let h = record here { operands = Ref x Rw ∷ us } in
      frees_acts told.stored x us t.cell beneath t.at linear few e
      (in_struct x t.cell str.slots c.stores (λ cell slots. frees x us h c) t.at str.is) hv
      (λ r m. ap (count_content (rights_to r m)) str.is ∙ slots_free r m g (scope_of q.binders) str.slots ss told.answered str.typed unr))
      told.few

pub get_acts : (n : ℕ) → CellActs (StructGet n)
get_acts n funcs f hs q g here c vs s =
    let x = rows.struct_get (scope_of q.binders) n q.operands (row f q (StructGet n)) (sym (row-StructGet f q n)) s.goes in
    get_go funcs f hs q g here c n vs x.reference.qual x.reference.privilege x.reference.location x.slots x.slot x.beneath s
    (subst (λ (ts : List Ty). HaveTypes hs vs (all_at g ts)) (x.taken ∙ ap (λ (t : Ty). t ∷ x.beneath) x.form.form) s.operands) x.found x.unrestricted
    (x.given ∙ ap (λ (t : Ty). Gives (x.slot.ty ∷ t ∷ x.beneath) None) x.form.form)

pub free_acts : CellActs StructFree
free_acts funcs f hs q g here c vs s =
    let x = rows.struct_free (scope_of q.binders) q.operands (row f q StructFree) (sym (row-StructFree f q)) s.goes in
    let form : x.first ≡ Of x.reference.qual (pre.Ref Rw x.reference.location (Struct x.slots)) = x.form.form ∙ ap (λ (p : Priv). Of x.reference.qual (pre.Ref p x.reference.location (Struct x.slots))) x.privilege in
    free_go funcs f hs q g here c vs x.reference.qual x.reference.location x.slots x.beneath s
    (subst (λ (ts : List Ty). HaveTypes hs vs (all_at g ts)) (x.taken ∙ ap (λ (t : Ty). t ∷ x.beneath) form) s.operands)
    (x.form.memory ∙ ap (λ (m : Mem). Some m) x.memory) x.unrestricted x.given
