-- A reference on top of the operands, and the cell that it leads to.
use Rattle.std.proofs.Common.{◌≡◌, ◌≤◌, ℕ, List, [], ◌∷◌, Some, refl, sym, ap, ◌∙◌, subst, arith}
use Rattle.std.specs.Prelude.{slice_get}
use Rattle.rw_types.specs.declared.types.Heap.{Heap}
use Rattle.rw_types.specs.declared.types.Mem.{Mem}
use Rattle.rw_types.specs.declared.types.Mem.TheVariants.{L}
use Rattle.rw_types.specs.declared.types.Pre as pre
use Rattle.rw_types.specs.declared.types.Priv.{Priv}
use Rattle.rw_types.specs.declared.types.Priv.TheVariants.{Rw}
use Rattle.rw_types.specs.declared.types.Qual.{Qual}
use Rattle.rw_types.specs.declared.types.Qual.TheVariants.{Lin}
use Rattle.rw_types.specs.declared.types.Ty.{Ty, Of}
use Rattle.rich_reduction.specs.Configurations.{Val, Ref, Location, Cell, Stores}
use Rattle.rich_reduction.specs.Cells.{cell_at}
use Rattle.rich_rights.specs.Rights.{Right, Reading, Writing, rights_to, is_linear, is_at, is_live, count, count_all}
use Rattle.rich_soundness_values.specs.Heaps.{Heaps, name_of, Stands}
use Rattle.rich_soundness_values.specs.Values.{HasType, HaveTypes, more_types, is_ref}
use Rattle.rich_soundness_values.specs.Cells.{Holds, Stored}
use Rattle.rich_soundness_rows.proofs.Forms.{reference_of, reference_to}
use Rattle.rich_soundness_references.proofs.There.{at_self, there}

-- what a reference of a closed type leads to
pub record LeadsTo (hs : Heaps) (s : Stores) (k : Qual) (n : ℕ) (h : Heap) (l : Location) : Type 0 where
  pub named : n ≡ name_of l
  pub linear : l.mem ≡ L → k ≡ Lin
  pub stands : Stands hs l h
  pub cell : Cell
  pub at : cell_at l s ≡ Some cell
  pub holds : Holds hs l.mem h cell.content

at_linear : (m : Mem) (n : ℕ) → m ≡ L → is_linear n m n ≡ 1
at_linear m n e = ap (λ (k : Mem). is_linear n k n) e ∙ at_self n

-- a reference on top is taken
pub reference_taken : {hs : Heaps} {s : Stores} (vs : List Val) {k : Qual} {p : Priv} {n : ℕ} {h : Heap} {ts : List Ty} (P : List Val → Type 0) → Stored hs s → HaveTypes hs vs (Of k (pre.Ref p n h) ∷ ts) →
    ((j : ℕ) → count_all (rights_to Reading j) vs ≤ is_live (slice_get s.linear j)) → ((l : Location) (us : List Val) → LeadsTo hs s k n h l → HaveTypes hs us ts → P (Ref l p ∷ us)) → P vs
reference_taken [] P st t few then = elim t [ ]
reference_taken {hs = hs} {s = s} (v ∷ vs) {k = k} {p = p} {n = n} {h = h} {ts = ts} P st (more_types t tv) few then =
    let r = reference_of t refl in
    let z = reference_to (subst (λ (x : Val). HasType hs x (Of k (pre.Ref p n h))) r.2 t) refl in
    let is : v ≡ Ref r.0 p = r.2 ∙ ap (λ (o : Priv). Ref r.0 o) z.privilege in
    let cell = there hs s r.0 h st z.stands (λ e. omega (arith, at_linear r.0.mem r.0.number e, few r.0.number, ap (count (rights_to Reading r.0.number)) is)) in
    subst (λ (x : Val). P (x ∷ vs)) (sym is) (then r.0 vs (record { named = z.named; linear = z.linear; stands = z.stands; cell = cell.0; at = cell.1; holds = cell.2 }) tv)

-- the reference has its type where what it leads to stands
pub leads_typed : {hs hs' : Heaps} {s : Stores} {k : Qual} {n : ℕ} {h : Heap} {l : Location} (p : Priv) (h' : Heap) → LeadsTo hs s k n h l → Stands hs' l h' → HasType hs' (Ref l p) (Of k (pre.Ref p n h'))
leads_typed {k = k} p h' t stands = is_ref k h' (ap (λ (n : ℕ). Of k (pre.Ref p n h')) t.named) t.linear stands

-- what a reference that writes has
pub writes_has : (r : Right) (n : ℕ) (l : Location) → count (rights_to r n) (Ref l Rw) ≡ is_at n l
writes_has Reading n l = refl
writes_has Writing n l = refl

-- a right to read is one of those that a reference has
pub reads_has : (n : ℕ) (l : Location) (p : Priv) → count (rights_to Reading n) (Ref l p) ≡ is_at n l
reads_has n l p = refl
