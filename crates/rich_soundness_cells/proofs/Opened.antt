-- The content of a cell is taken: a linear cell ends, and one of the other memory stays.
use Rattle.std.proofs.Common.{◌≡◌, ℕ, ◌+◌, List, ◌∷◌, Some, None, refl, ap, ◌∙◌, arith}
use Rattle.std.specs.Prelude.{slice_get}
use Rattle.rw_types.specs.declared.instrs.Instr.{Instr}
use Rattle.rw_types.specs.declared.types.Mem.{Mem}
use Rattle.rw_types.specs.declared.types.Mem.TheVariants.{L, U}
use Rattle.rw_types.specs.declared.types.Priv.TheVariants.{Rw}
use Rattle.rw_types.specs.declared.types.Ty.{Ty}
use Rattle.machine_steps.specs.Steps.{Turn, Went}
use Rattle.rich_types.specs.Instances.{Substitution}
use Rattle.rich_rules.specs.Points.{Frame, Point, Gives}
use Rattle.rich_rules.specs.Table.{row}
use Rattle.rich_reduction.specs.Configurations.{Val, Ref, Location, Cell, Stores, Here, Config, Event}
use Rattle.rich_reduction.specs.Cells.{cell_in, cell_at, opened_in, opening, with_linear, opens, frees}
use Rattle.rich_rights.specs.Rights.{Right, Reading, rights_to, is_at, is_live, count_content, count_stores}
use Rattle.rich_rights_laws.proofs.Sums.{stores}
use Rattle.rich_soundness_values.specs.Heaps.{Heaps, all_at}
use Rattle.rich_soundness_values.specs.Values.{HaveTypes}
use Rattle.rich_soundness_values.specs.Cells.{Stored}
use Rattle.rich_soundness_values.proofs.Framed.{framed_all}
use Rattle.rich_soundness_cells.specs.Laws.{After}
use Rattle.rich_soundness_frames.proofs.Still.{live_most}
use Rattle.rich_soundness_cells.proofs.Live.{ends}
use Rattle.rich_soundness_cells.proofs.Stores.{opened}
use Rattle.rich_soundness_references.proofs.References.{writes_has}
use Rattle.rich_soundness_frames.proofs.Acts.{AreFew, Acts, changes}

-- the rights of a content that is taken were in the stores, or there are none
taken_in : (r : Right) (n : ℕ) (s : Stores) (m : Mem) (k : ℕ) (cell : Cell) → cell_in m k s ≡ Some cell → (m ≡ U → count_content (rights_to r n) cell.content ≡ 0) →
    count_stores (rights_to r n) (opened_in m k s) + count_content (rights_to r n) cell.content ≡ count_stores (rights_to r n) s
taken_in r n s L k cell at none = (stores (rights_to r n)).taken k cell s at
taken_in r n s U k cell at none = omega (arith, none refl)

-- a cell to which a reference on top leads is opened
pub record Opens (hs : Heaps) (s : Stores) (l : Location) (cell : Cell) : Type 0 where
  pub after : After hs s (opened_in l.mem l.number s) (λ n. is_at n l)
  pub counted : (r : Right) (n : ℕ) → count_stores (rights_to r n) (opened_in l.mem l.number s) + count_content (rights_to r n) cell.content ≡ count_stores (rights_to r n) s
  pub live : (n : ℕ) → is_live (slice_get (opened_in l.mem l.number s).linear n) + is_at n l ≡ is_live (slice_get s.linear n)

pub opening_cell : {hs : Heaps} (c : Config) → Stored hs c.stores → (l : Location) (us : List Val) (cell : Cell) → cell_at l c.stores ≡ Some cell → AreFew c (Ref l Rw ∷ us) →
    ((r : Right) (n : ℕ) → l.mem ≡ U → count_content (rights_to r n) cell.content ≡ 0) → Opens hs c.stores l cell
opening_cell {hs = hs} c st l us cell at few none = record {
  after = opened hs c.stores l cell st at (λ n one. omega (arith, one, few Reading n, live_most (slice_get c.stores.linear n)));
  counted = λ r n. taken_in r n c.stores l.mem l.number cell at (none r n);
  live = λ n. ends c.stores l cell n at;
}

-- a linear cell without rights is freed
free_turn : (l : Location) (vs : List Val) (here : Here) (c : Config) → l.mem ≡ L → frees l vs here c ≡ Went (opening l.mem l) (record c { here = record here { operands = vs }; stores = opened_in l.mem l.number c.stores })
free_turn l vs here c e = ap (λ (m : Mem). with_linear m (opens l (record here { operands = vs }) c)) e

pub frees_acts : {f : Frame} {hs : Heaps} {q : Point} {g : Substitution} {i : Instr} {here : Here} {c : Config} {turn : Turn Event Config} → Stored hs c.stores → (l : Location) (us : List Val) (cell : Cell) (ts : List Ty) → cell_at l c.stores ≡ Some cell → l.mem ≡ L → AreFew c (Ref l Rw ∷ us) →
    row f q i ≡ Gives ts None → turn ≡ frees l us here c → HaveTypes hs us (all_at g ts) → ((r : Right) (n : ℕ) → count_content (rights_to r n) cell.content ≡ 0) → Acts f hs q g i (Ref l Rw ∷ us) here c turn
frees_acts {here = here} {c = c} st l us cell ts at linear few e t typed none =
    let o = opening_cell c st l us cell at few (λ r n u. none r n) in
    let a = o.after in
    changes ts (opening l.mem l) a.heaps a.number us (opened_in l.mem l.number c.stores) e (t ∙ free_turn l us here c linear) a.keeps (omega (arith, a.bound))
    (framed_all a.number a.keeps typed (omega (arith, a.bound, few Reading a.number))) a.stored
    (λ r n. omega (arith, o.counted r n, o.live n, none r n, writes_has r n l))
