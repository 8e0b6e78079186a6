-- Rows that take references and capabilities apart and put them together.
use Rattle.std.proofs.Common.{◌≡◌, ℕ, List, [], ◌∷◌, None, Bool, true, ◌&&◌, if◌then◌else◌, refl, sym, ap, ◌∙◌, subst, arith}
use Rattle.std.specs.Prelude.{◌==◌}
use Rattle.std.proofs.lemmas.Bool.{eq-eqb}
use Rattle.rw_types.specs.declared.instrs.Instr.{RefSplit, RefJoin, CapSplit, CapJoin}
use Rattle.rw_types.specs.declared.types.Heap.{Heap}
use Rattle.rw_types.specs.declared.types.Mem.{Mem}
use Rattle.rw_types.specs.declared.types.Mem.TheVariants.{L, U}
use Rattle.rw_types.specs.declared.types.Pre as pre
use Rattle.rw_types.specs.declared.types.Priv.{Priv}
use Rattle.rw_types.specs.declared.types.Priv.TheVariants.{Rw, R}
use Rattle.rw_types.specs.declared.types.Qual.{Qual}
use Rattle.rw_types.specs.declared.types.Qual.TheVariants.{Unr, Lin}
use Rattle.rw_types.specs.declared.types.Ty.{Ty, Of}
use Rattle.rich_types.specs.Scopes.{scope_of}
use Rattle.rw_program.specs.declared.linked.LinkedFunc.{LinkedFunc}
use Rattle.machine_steps.specs.Steps.{NoStep}
use Rattle.rich_types.specs.Instances.{Substitution, substituting}
use Rattle.rich_types.specs.Walks.{outside, walk_heap}
use Rattle.rich_rules.specs.Points.{Frame, Point, Gives}
use Rattle.rich_rules.specs.Table.{row}
use Rattle.rich_rules.proofs.RowEquations.{row-RefSplit, row-RefJoin, row-CapSplit, row-CapJoin}
use Rattle.rich_rules_inversions.proofs.Cells as cell
use Rattle.rich_reduction.specs.Configurations.{Val, Ref, Ptr, Cap, Own, Location, Here, Config}
use Rattle.rich_reduction.specs.Capabilities.{is_same_memory, is_same_location}
use Rattle.rich_reduction.specs.Turns.{leaves}
use Rattle.rich_rights.proofs.Kept.{divided}
use Rattle.rich_soundness_values.specs.Heaps.{Heaps, all_at, name_of, Names, Stands}
use Rattle.rich_soundness_values.specs.Values.{HasType, HaveTypes, more_types, is_ref, is_ptr, is_cap, is_own}
use Rattle.rich_soundness_rows.specs.Laws.{RightRowsAreSafe}
use Rattle.rich_soundness_rows.proofs.Moves.{ActsOn, moves, RowActs, safe}
use Rattle.rich_soundness_rows.proofs.Closed.{named, names_at}
use Rattle.rich_soundness_rows.proofs.Forms.{reference_of, capability_of, address_of, own_of, reference_to, capability_to, address_named, own_named, same_place, memory_named}

-- a location is the same as itself
same_memory_self : (m : Mem) → is_same_memory m m ≡ true
same_memory_self L = refl
same_memory_self U = refl

same_self : (l : Location) → is_same_location l l ≡ true
same_self l = ap (λ (b : Bool). b && (l.number == l.number)) (same_memory_self l.mem) ∙ eq-eqb l.number l.number refl

module _ {hs : Heaps} (l : Location) (p r : Priv) (n : ℕ) (h : Heap) (same : p ≡ r) (is : n ≡ name_of l) where
  cap_typed : l.mem ≡ L → Stands hs l h → HasType hs (Cap l p) (Of Lin (pre.Cap r n h))
  cap_typed m stands = is_cap h (cc) m stands

  ref_typed : Stands hs l h → HasType hs (Ref l p) (Of Lin (pre.Ref r n h))
  ref_typed stands = is_ref Lin h (cc) (λ m. refl) stands

module _ (funcs : List LinkedFunc) (f : Frame) (hs : Heaps) (q : Point) (g : Substitution) (here : Here) (c : Config) (ls : List Val) (locals : HaveTypes hs ls (all_at g q.locals)) where
  -- what stands at a location, in closed types
  abbrev content : Heap → Heap
  content h = walk_heap (substituting g) outside h

  ref_split_go : (vs : List Val) (k : Qual) (p : Priv) (n : ℕ) (h : Heap) (beneath : List Ty) → Names L (named g n) → HaveTypes hs vs (all_at g (Of k (pre.Ref p n h) ∷ beneath)) →
      row f q RefSplit ≡ Gives (Of Unr (pre.Ptr n) ∷ Of Lin (pre.Cap p n h) ∷ beneath) None → ActsOn funcs f hs q g here c RefSplit vs ls
  ref_split_go [] k p n h beneath names t e = elim t [ ]
  ref_split_go (v ∷ vs) k p n h beneath names (more_types t tv) e =
      let r = reference_of t refl in
      let z = reference_to (subst (λ (x : Val). HasType hs x (Of k (pre.Ref p (named g n) (content h)))) r.2 t) refl in
      subst (λ (x : Val). ActsOn funcs f hs q g here c RefSplit (x ∷ vs) ls) (sym r.2)
      (moves _ None [] (Ptr r.0 ∷ Cap r.0 r.1 ∷ vs) ls e refl
      (more_types (is_ptr Unr (ap (λ (y : ℕ). Of Unr (pre.Ptr y)) z.named)) (more_types (cap_typed r.0 r.1 p (named g n) (content h) z.privilege z.named (memory_named L (named g n) r.0 names z.named) z.stands) tv))
      locals (λ r m. omega arith))

  ref_join_go : (vs : List Val) (k j : Qual) (p : Priv) (n : ℕ) (h : Heap) (beneath : List Ty) → HaveTypes hs vs (all_at g (Of k (pre.Ptr n) ∷ Of j (pre.Cap p n h) ∷ beneath)) →
      row f q RefJoin ≡ Gives (Of Lin (pre.Ref p n h) ∷ beneath) None → ActsOn funcs f hs q g here c RefJoin vs ls
  ref_join_go [] k j p n h beneath t e = elim t [ ]
  ref_join_go (u ∷ []) k j p n h beneath (more_types t tv) e = elim tv [ ]
  ref_join_go (u ∷ v ∷ vs) k j p n h beneath (more_types tu (more_types t tv)) e =
      let a = address_of tu refl in
      let r = capability_of t refl in
      let y = address_named (subst (λ (x : Val). HasType hs x (Of k (pre.Ptr (named g n)))) a.1 tu) refl in
      let z = capability_to (subst (λ (x : Val). HasType hs x (Of j (pre.Cap p (named g n) (content h)))) r.2 t) refl in
      let same = same_place a.0 r.0 (sym y ∙ z.named) in
      let pointer = a.1 ∙ ap (λ (l : Location). Ptr l) same in
      subst (λ (x : Val). ActsOn funcs f hs q g here c RefJoin (x ∷ v ∷ vs) ls) (sym pointer)
      (subst (λ (x : Val). ActsOn funcs f hs q g here c RefJoin (Ptr r.0 ∷ x ∷ vs) ls) (sym r.2)
      (moves _ None [] (Ref r.0 r.1 ∷ vs) ls e
      (ap (λ (b : Bool). if b then leaves (Ref r.0 r.1 ∷ vs) (record here { operands = Ptr r.0 ∷ Cap r.0 r.1 ∷ vs; locals = ls }) c else NoStep) (same_self r.0))
      (more_types (ref_typed r.0 r.1 p (named g n) (content h) z.privilege z.named z.stands) tv)
      locals (λ r m. omega arith)))

  cap_split_go : (vs : List Val) (k : Qual) (n : ℕ) (h : Heap) (beneath : List Ty) → HaveTypes hs vs (all_at g (Of k (pre.Cap Rw n h) ∷ beneath)) →
      row f q CapSplit ≡ Gives (Of Lin (pre.Own n) ∷ Of Lin (pre.Cap R n h) ∷ beneath) None → ActsOn funcs f hs q g here c CapSplit vs ls
  cap_split_go [] k n h beneath t e = elim t [ ]
  cap_split_go (v ∷ vs) k n h beneath (more_types t tv) e =
      let r = capability_of t refl in
      let z = capability_to (subst (λ (x : Val). HasType hs x (Of k (pre.Cap Rw (named g n) (content h)))) r.2 t) refl in
      let writes = r.2 ∙ ap (λ (o : Priv). Cap r.0 o) z.privilege in
      subst (λ (x : Val). ActsOn funcs f hs q g here c CapSplit (x ∷ vs) ls) (sym writes)
      (moves _ None [] (Own r.0 ∷ Cap r.0 R ∷ vs) ls e refl
      (more_types (is_own (ap (λ (y : ℕ). Of Lin (pre.Own y)) z.named) z.linear) (more_types (cap_typed r.0 R R (named g n) (content h) refl z.named z.linear z.stands) tv))
      locals (λ k m. omega (arith, (divided k m r.0).1)))

  cap_join_go : (vs : List Val) (k j : Qual) (n : ℕ) (h : Heap) (beneath : List Ty) → HaveTypes hs vs (all_at g (Of k (pre.Own n) ∷ Of j (pre.Cap R n h) ∷ beneath)) →
      row f q CapJoin ≡ Gives (Of Lin (pre.Cap Rw n h) ∷ beneath) None → ActsOn funcs f hs q g here c CapJoin vs ls
  cap_join_go [] k j n h beneath t e = elim t [ ]
  cap_join_go (u ∷ []) k j n h beneath (more_types t tv) e = elim tv [ ]
  cap_join_go (u ∷ v ∷ vs) k j n h beneath (more_types tu (more_types t tv)) e =
      let a = own_of tu refl in
      let r = capability_of t refl in
      let y = own_named (subst (λ (x : Val). HasType hs x (Of k (pre.Own (named g n)))) a.1 tu) refl in
      let z = capability_to (subst (λ (x : Val). HasType hs x (Of j (pre.Cap R (named g n) (content h)))) r.2 t) refl in
      let owner = a.1 ∙ ap (λ (l : Location). Own l) (same_place a.0 r.0 (sym y ∙ z.named)) in
      let reads = r.2 ∙ ap (λ (o : Priv). Cap r.0 o) z.privilege in
      subst (λ (x : Val). ActsOn funcs f hs q g here c CapJoin (x ∷ v ∷ vs) ls) (sym owner)
      (subst (λ (x : Val). ActsOn funcs f hs q g here c CapJoin (Own r.0 ∷ x ∷ vs) ls) (sym reads)
      (moves _ None [] (Cap r.0 Rw ∷ vs) ls e
      (ap (λ (b : Bool). if b then leaves (Cap r.0 Rw ∷ vs) (record here { operands = Own r.0 ∷ Cap r.0 R ∷ vs; locals = ls }) c else NoStep) (same_self r.0))
      (more_types (cap_typed r.0 Rw Rw (named g n) (content h) refl z.named z.linear z.stands) tv)
      locals (λ k m. omega (arith, (divided k m r.0).1))))

ref_split_acts : RowActs RefSplit
ref_split_acts funcs f hs q g here c vs ls s =
    let x = cell.rows.ref_split (scope_of q.binders) q.operands (row f q RefSplit) (sym (row-RefSplit f q)) s.goes in
    ref_split_go funcs f hs q g here c ls s.locals vs x.qual x.privilege x.location x.content x.beneath (names_at g (scope_of q.binders) x.location L s.answered x.memory) (subst (λ (ts : List Ty). HaveTypes hs vs (all_at g ts)) x.taken s.operands) x.given

ref_join_acts : RowActs RefJoin
ref_join_acts funcs f hs q g here c vs ls s =
    let x = cell.rows.ref_join q.operands (row f q RefJoin) (sym (row-RefJoin f q)) s.goes in
    ref_join_go funcs f hs q g here c ls s.locals vs x.qual x.capability.qual x.privilege x.location x.content x.beneath (subst (λ (ts : List Ty). HaveTypes hs vs (all_at g ts)) (x.taken ∙ ap (λ (t : Ty). Of x.qual (pre.Ptr x.location) ∷ t ∷ x.beneath) x.capability.form) s.operands) x.given

cap_split_acts : RowActs CapSplit
cap_split_acts funcs f hs q g here c vs ls s =
    let x = cell.rows.cap_split q.operands (row f q CapSplit) (sym (row-CapSplit f q)) s.goes in
    cap_split_go funcs f hs q g here c ls s.locals vs x.capability.qual x.location x.content x.beneath (subst (λ (ts : List Ty). HaveTypes hs vs (all_at g ts)) (x.taken ∙ ap (λ (t : Ty). t ∷ x.beneath) x.capability.form) s.operands) x.given

cap_join_acts : RowActs CapJoin
cap_join_acts funcs f hs q g here c vs ls s =
    let x = cell.rows.cap_join q.operands (row f q CapJoin) (sym (row-CapJoin f q)) s.goes in
    cap_join_go funcs f hs q g here c ls s.locals vs x.qual x.capability.qual x.location x.content x.beneath (subst (λ (ts : List Ty). HaveTypes hs vs (all_at g ts)) (x.taken ∙ ap (λ (t : Ty). Of x.qual (pre.Own x.location) ∷ t ∷ x.beneath) x.capability.form) s.operands) x.given

pub right_rows : RightRowsAreSafe
right_rows = record {
  ref_split = safe RefSplit refl ref_split_acts;
  ref_join = safe RefJoin refl ref_join_acts;
  cap_split = safe CapSplit refl cap_split_acts;
  cap_join = safe CapJoin refl cap_join_acts;
}
