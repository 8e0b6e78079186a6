-- Rows that write and swap a slot of a struct.
use Rattle.std.proofs.Common.{◌≡◌, ◌≤◌, ℕ, ◌+◌, List, [], ◌∷◌, Option, Some, None, sym, ap, ◌∙◌, subst, arith}
use Rattle.std.specs.Prelude.{slice_get, slice_set, IsTrue}
use Rattle.rw_types.specs.declared.instrs.Instr.{StructSet, StructSwap}
use Rattle.rw_types.specs.declared.types.Heap.{Heap}
use Rattle.rw_types.specs.declared.types.Heap.TheVariants.{Struct}
use Rattle.rw_types.specs.declared.types.Mem.{Mem}
use Rattle.rw_types.specs.declared.types.Mem.TheVariants.{L, U}
use Rattle.rw_types.specs.declared.types.Pre as pre
use Rattle.rw_types.specs.declared.types.Priv.{Priv}
use Rattle.rw_types.specs.declared.types.Qual.{Qual}
use Rattle.rw_types.specs.declared.types.Slot as type
use Rattle.rw_types.specs.declared.types.Ty.{Ty, Of}
use Rattle.rw_program.specs.declared.linked.LinkedFunc.{LinkedFunc}
use Rattle.machine_steps.specs.Steps.{with_found}
use Rattle.rich_types.specs.Scopes.{Scope, scope_of, memory_of}
use Rattle.rich_types.specs.Walks.{outside, walk_heap}
use Rattle.rich_types.specs.Instances.{Substitution, substituting}
use Rattle.rich_rules.specs.Forms.{is_unr_type}
use Rattle.rich_rules.specs.Points.{Frame, Point, Gives}
use Rattle.rich_rules.specs.Table.{row}
use Rattle.rich_rules.proofs.RowEquations.{row-StructSet, row-StructSwap}
use Rattle.rich_rules_inversions.specs.Cells.{SlotTakes}
use Rattle.rich_rules_inversions.proofs.Cells.{rows}
use Rattle.rich_reduction.specs.Configurations.{Val, Ref, Location, Slot, Slots, Content, Cell, Stores, Here, Config, Touched}
use Rattle.rich_reduction.specs.Cells.{put_at, writes}
use Rattle.rich_reduction.specs.Structs.{with_slot}
use Rattle.rich_rights.specs.Rights.{Right, Reading, rights_to, is_at, count, count_content, count_slots, count_stores}
use Rattle.rich_rights_laws.proofs.Sums.{values, stores}
use Rattle.rich_soundness_values.specs.Heaps.{Heaps, Stands, at, all_at}
use Rattle.rich_soundness_values.specs.Values.{HasType, HaveTypes, more_types}
use Rattle.rich_soundness_values.specs.Cells.{Stored, is_struct}
use Rattle.rich_soundness_values.proofs.Framed.{framed, framed_all}
use Rattle.rich_soundness_values.proofs.Typed.{no_rights}
use Rattle.rich_soundness_rows.proofs.Closed.{unr_at, named, names_at}
use Rattle.rich_soundness_rows.proofs.Forms.{memory_named}
use Rattle.rich_soundness_cells.specs.Laws.{After}
use Rattle.rich_soundness_frames.proofs.Still.{live_most}
use Rattle.rich_soundness_cells.proofs.Live.{stays}
use Rattle.rich_soundness_cells.proofs.Stores.{part, written}
use Rattle.rich_soundness_frames.proofs.Contents.{struct_held}
use Rattle.rich_soundness_references.proofs.References.{LeadsTo, reference_taken, leads_typed}
use Rattle.rich_soundness_frames.proofs.Acts.{AreFew, Told, ActsOn, CellActs, changes}
use Rattle.rich_soundness_structs.proofs.Slots.{slots_at, struct_at, in_struct, slot_at, slot_set_typed, same_set}

-- what the unrestricted memory takes has the slot's type
same_taken : (c : Scope) (m : Mem) (s : type.Slot) (t : Ty) → SlotTakes c m s t → m ≡ U → t ≡ s.ty
same_taken c U s t h e = h
same_taken c L s t h e = cc

-- a value is written into a slot of this cell
record Writes (hs : Heaps) (g : Substitution) (stock : Stores) (n : ℕ) (s : type.Slot) (v : Val) (l : Location) (cell : Cell) (h : Heap) : Type 0 where
  pub slots : List Slot
  pub is : cell.content ≡ Slots slots
  pub old : Slot
  pub found : slice_get slots n ≡ Some old
  pub typed : HasType hs old.value (at g s.ty)
  pub after : After hs stock (put_at l (with_slot cell slots n old v) stock) (λ j. is_at j l)
  pub stands : Stands after.heaps l h
  pub counted : (r : Right) (j : ℕ) → count_stores (rights_to r j) (put_at l (with_slot cell slots n old v) stock) + count (rights_to r j) old.value ≡ count_stores (rights_to r j) stock + count (rights_to r j) v

module _ {hs : Heaps} (g : Substitution) (stock : Stores) (st : Stored hs stock) (n : ℕ) (ss : List type.Slot) (s : type.Slot) (t : Ty) (found : slice_get ss n ≡ Some s) where
  abbrev other : List type.Slot
  other = slice_set ss n (record { ty = t; size = s.size })

  write : (v : Val) (k : Qual) (i : ℕ) (l : Location) → HasType hs v (at g t) → (l.mem ≡ U → t ≡ s.ty) →
      (to : LeadsTo hs stock k i (walk_heap (substituting g) outside (Struct ss)) l) → ((j : ℕ) → (count (rights_to Reading j) v + is_at j l) + count_stores (rights_to Reading j) stock ≤ 1) →
      Writes hs g stock n s v l to.cell (walk_heap (substituting g) outside (Struct other))
  write v k i l typed same to few =
      let str = struct_held (slots_at g ss) to.holds (struct_at g ss) in
      let old = slot_at g str.slots ss n s str.typed found in
      let new : List Slot = slice_set str.slots n (record old.0 { value = v }) in
      let set : (r : Right) (j : ℕ) → count_slots (rights_to r j) new + count (rights_to r j) old.0.value ≡ count_content (rights_to r j) to.cell.content + count (rights_to r j) v =
      λ r j. (values (rights_to r j)).slot_set str.slots n old.0 v old.1 ∙ ap (λ (x : Content). count_content (rights_to r j) x + count (rights_to r j) v) (sym str.is) in
      let a = written hs stock l (walk_heap (substituting g) outside (Struct ss)) (walk_heap (substituting g) outside (Struct other)) to.cell (Slots new) st to.stands to.at
      (λ u. ap (λ (x : List type.Slot). walk_heap (substituting g) outside (Struct x)) (same_set ss n s t found (same u)))
      (is_struct (slots_at g other) (struct_at g other) (slot_set_typed g str.slots ss n old.0 s v t str.typed old.1 found typed))
      (λ j one. (omega (arith, one, few j, set Reading j, part stock l to.cell to.at (rights_to Reading j)), omega (arith, one, few j))) in
      record {
        slots = str.slots;
        is = str.is;
        old = old.0;
        found = old.1;
        typed = old.2;
        after = a.0;
        stands = a.1;
        counted = λ r j. omega (arith, set r j, (stores (rights_to r j)).put l.mem l.number to.cell (Slots new) stock to.at);
      }

module _ (funcs : List LinkedFunc) (f : Frame) (hs : Heaps) (q : Point) (g : Substitution) (here : Here) (c : Config) (n : ℕ) (k : Qual) (p : Priv) (l : ℕ) (m : Mem) (ss : List type.Slot) (s : type.Slot) (t : Ty) (beneath : List Ty)
    (memory : memory_of (scope_of q.binders) l ≡ Some m) (found : slice_get ss n ≡ Some s) (takes : SlotTakes (scope_of q.binders) m s t) where
  abbrev reference : Ty
  reference = Of k (pre.Ref p l (Struct ss))

  abbrev given : Ty
  given = Of k (pre.Ref p l (Struct (slice_set ss n (record { ty = t; size = s.size }))))

  set_go : (vs : List Val) → Told hs f q g (StructSet n) c vs → HaveTypes hs vs (all_at g (t ∷ reference ∷ beneath)) → IsTrue (is_unr_type (scope_of q.binders) s.ty) → row f q (StructSet n) ≡ Gives (given ∷ beneath) None → ActsOn funcs f hs q g here c (StructSet n) vs
  set_go [] told typed unr e = elim typed [ ]
  set_go (v ∷ vs) told (more_types hv hr) unr e =
      reference_taken vs (λ us. AreFew c (v ∷ us) → ActsOn funcs f hs q g here c (StructSet n) (v ∷ us)) told.stored hr (λ j. omega (arith, told.few Reading j))
      (λ x us to hu few.
      let linear : x.mem ≡ m = memory_named m (named g l) x (names_at g (scope_of q.binders) l m told.answered memory) to.named in
      let w = write g c.stores told.stored n ss s t found v k (named g l) x hv (λ u. same_taken (scope_of q.binders) m s t takes (sym linear ∙ u)) to (λ j. omega (arith, few Reading j, live_most (slice_get c.stores.linear j))) in
      let h = record here { operands = v ∷ Ref x p ∷ us } in
      let ops : List Val = Ref x p ∷ us in
      let cell = with_slot to.cell w.slots n w.old v in
      changes _ (Touched x ∷ []) w.after.heaps w.after.number ops (put_at x cell c.stores) e
      (in_struct x to.cell w.slots c.stores (λ cell slots. with_found (slice_get slots n) (λ slot. writes x (with_slot cell slots n slot v) ops h c)) to.at w.is
      ∙ ap (λ (o : Option Slot). with_found o (λ slot. writes x (with_slot to.cell w.slots n slot v) ops h c)) w.found)
      w.after.keeps (omega (arith, w.after.bound))
      (more_types (leads_typed p _ to w.stands) (framed_all w.after.number w.after.keeps hu (omega (arith, w.after.bound, few Reading w.after.number))))
      w.after.stored
      (λ r j. omega (arith, w.counted r j, stays c.stores x to.cell cell j to.at, no_rights r j w.typed (unr_at g (scope_of q.binders) s.ty told.answered unr))))
      told.few

  swap_go : (vs : List Val) → Told hs f q g (StructSwap n) c vs → HaveTypes hs vs (all_at g (t ∷ reference ∷ beneath)) → row f q (StructSwap n) ≡ Gives (s.ty ∷ given ∷ beneath) None → ActsOn funcs f hs q g here c (StructSwap n) vs
  swap_go [] told typed e = elim typed [ ]
  swap_go (v ∷ vs) told (more_types hv hr) e =
      reference_taken vs (λ us. AreFew c (v ∷ us) → ActsOn funcs f hs q g here c (StructSwap n) (v ∷ us)) told.stored hr (λ j. omega (arith, told.few Reading j))
      (λ x us to hu few.
      let linear : x.mem ≡ m = memory_named m (named g l) x (names_at g (scope_of q.binders) l m told.answered memory) to.named in
      let w = write g c.stores told.stored n ss s t found v k (named g l) x hv (λ u. same_taken (scope_of q.binders) m s t takes (sym linear ∙ u)) to (λ j. omega (arith, few Reading j, live_most (slice_get c.stores.linear j))) in
      let h = record here { operands = v ∷ Ref x p ∷ us } in
      let ops : Slot → List Val = λ slot. slot.value ∷ Ref x p ∷ us in
      let cell = with_slot to.cell w.slots n w.old v in
      changes _ (Touched x ∷ []) w.after.heaps w.after.number (ops w.old) (put_at x cell c.stores) e
      (in_struct x to.cell w.slots c.stores (λ cell slots. with_found (slice_get slots n) (λ slot. writes x (with_slot cell slots n slot v) (ops slot) h c)) to.at w.is
      ∙ ap (λ (o : Option Slot). with_found o (λ slot. writes x (with_slot to.cell w.slots n slot v) (ops slot) h c)) w.found)
      w.after.keeps (omega (arith, w.after.bound))
      (more_types (framed w.after.number w.after.keeps w.typed (omega (arith, w.after.bound, few Reading w.after.number, w.counted Reading w.after.number)))
      (more_types (leads_typed p _ to w.stands) (framed_all w.after.number w.after.keeps hu (omega (arith, w.after.bound, few Reading w.after.number)))))
      w.after.stored
      (λ r j. omega (arith, w.counted r j, stays c.stores x to.cell cell j to.at)))
      told.few

pub set_acts : (n : ℕ) → CellActs (StructSet n)
set_acts n funcs f hs q g here c vs s =
    let x = rows.struct_set (scope_of q.binders) n q.operands (row f q (StructSet n)) (sym (row-StructSet f q n)) s.goes in
    let r = x.reference in
    set_go funcs f hs q g here c n r.qual r.privilege r.location r.memory x.slots x.slot x.value x.beneath x.form.memory x.found x.takes vs s
    (subst (λ (ts : List Ty). HaveTypes hs vs (all_at g ts)) (x.taken ∙ ap (λ (t : Ty). x.value ∷ t ∷ x.beneath) x.form.form) s.operands) x.unrestricted x.given

pub swap_acts : (n : ℕ) → CellActs (StructSwap n)
swap_acts n funcs f hs q g here c vs s =
    let x = rows.struct_swap (scope_of q.binders) n q.operands (row f q (StructSwap n)) (sym (row-StructSwap f q n)) s.goes in
    let r = x.reference in
    swap_go funcs f hs q g here c n r.qual r.privilege r.location r.memory x.slots x.slot x.value x.beneath x.form.memory x.found x.takes vs s
    (subst (λ (ts : List Ty). HaveTypes hs vs (all_at g ts)) (x.taken ∙ ap (λ (t : Ty). x.value ∷ t ∷ x.beneath) x.form.form) s.operands) x.given
