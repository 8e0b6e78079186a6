-- A branch lands in a good configuration: past the end of an open list, or at the start of one.
use Rattle.std.proofs.Common.{◌≡◌, ℕ, zero, suc, ◌+◌, List, ◌∷◌, ◌++◌, Some, length, sym, ap, ◌∙◌, subst, arith}
use Rattle.std.specs.Prelude.{slice_get}
use Rattle.rw_types.specs.declared.instrs.Instr.{Instr}
use Rattle.rw_types.specs.declared.types.Ty.{Ty}
use Rattle.rw_program.specs.Programs.{Program}
use Rattle.machine_steps.specs.Steps.{Turn}
use Rattle.rich_rules.specs.Points.{Owner, OfFunction, Label, Exactly, Demand}
use Rattle.rich_reduction.specs.Configurations.{Val, Aim, Level, Here, Config, Event}
use Rattle.rich_reduction.specs.Control.{arrive, branch}
use Rattle.rich_rights.specs.Rights.{Right, rights_to, count_all, count_levels, count_call}
use Rattle.rich_rights_laws.proofs.Sums.{values}
use Rattle.rich_soundness_values.specs.Values.{HaveTypes}
use Rattle.rich_soundness_points.specs.Points as points
use Rattle.rich_soundness_points.specs.Points.{closed, GoesOn, Levels, of_function, of_initialiser, past, back, Callers}
use Rattle.rich_soundness_points.specs.Good.{AreSet, in_body, Good, Fine}
use Rattle.rich_soundness_tuples.proofs.Lists.{have_length, have_append}
use Rattle.rich_soundness_lists.proofs.Splits.{top_is}
use Rattle.rich_soundness_branches.proofs.Unr.{RestsUnr, no_rights_in_all}

module _ (p : Program) (c : Config) (good : Good p c) {owner : Owner} {results : List Ty} (set : AreSet p good.set owner) (callers : Callers p good.heaps owner results c.callers) where
  -- the call that runs goes on in a list from these operands
  pub lands : (here : Here) (vs : List Val) (ts locals : List Ty) (labels : List Label) (d : Demand) (sizes : List ℕ) (is : List Instr) (levels : List Level) → GoesOn p owner d (closed locals labels results ts) sizes is →
      Levels p good.heaps owner results (length locals) labels d levels → HaveTypes good.heaps vs ts → HaveTypes good.heaps here.locals locals → (owner ≡ OfFunction → here.results ≡ length results) →
      ((r : Right) (n : ℕ) → count_all (rights_to r n) vs + (count_all (rights_to r n) here.locals + count_levels (rights_to r n) levels) ≡ count_call (rights_to r n) c.here) →
      Good p (record c { here = record here { sizes = sizes; operands = vs; rest = is; levels = levels } })
  lands here vs ts locals labels d sizes is levels goes outward typed locals_typed gives rights = record {
    heaps = good.heaps;
    functions = good.functions;
    set = good.set;
    runs = in_body owner results ts set (record { labels = labels; demand = d; locals = locals; goes_on = goes; levels = outward; locals_typed = locals_typed; gives = gives }) typed callers;
    globals_typed = good.globals_typed;
    stored = good.stored;
    kept = λ r n. omega (arith, rights r n, good.kept r n);
  }

  -- a branch to the label of this number, with these operands for it
  pub branches : {count : ℕ} {labels : List Label} {d : Demand} {levels : List Level} → Levels p good.heaps owner results count labels d levels → (k : ℕ) (label : Label) → slice_get labels k ≡ Some label → RestsUnr k labels →
      (here : Here) (front behind : List Val) → here.operands ≡ front ++ behind → HaveTypes good.heaps front label.types → HaveTypes good.heaps here.locals label.locals → (owner ≡ OfFunction → here.results ≡ length results) →
      ((r : Right) (n : ℕ) → count_all (rights_to r n) front + (count_all (rights_to r n) here.locals + count_levels (rights_to r n) levels) ≡ count_call (rights_to r n) c.here) →
      Fine p (branch k levels here c)
  branches (of_function w d) k label e unr here front behind whole typed locals_typed gives rights = cc
  branches (of_initialiser n g w is d l) k label e unr here front behind whole typed locals_typed gives rights = cc
  branches (past {labels = labels} {l = l} {levels = levels} types locals rest outer many aim takes leaves beneath goes outward) zero label e unr here front behind whole typed locals_typed gives rights =
      let s : record { types = types; locals = locals; rest = rest } ≡ label = cc in
      let front_typed = subst (λ (y : Label). HaveTypes good.heaps front y.types) (sym s) typed in
      subst (λ (turn : Turn Event Config). Fine p turn)
      (sym (top_is l.takes here.operands front behind (λ vs under. arrive l.aim vs l levels here c) (takes ∙ sym (have_length front_typed)) whole ∙ ap (λ (a : Aim). arrive a front l levels here c) aim))
      (lands here (front ++ l.beneath) (types ++ rest) locals labels outer l.sizes l.rest levels goes (subst (λ (n : ℕ). Levels p good.heaps owner results n labels outer levels) (sym many) outward)
      (have_append front_typed beneath) (subst (λ (y : Label). HaveTypes good.heaps here.locals y.locals) (sym s) locals_typed) gives
      (λ r n. omega (arith, rights r n, (values (rights_to r n)).joined front l.beneath)))
  branches (back {labels = labels} {l = l} {levels = levels} types locals carried starting rest outer body many started aim takes leaves beneath inner goes outward) zero label e unr here front behind whole typed locals_typed gives rights =
      let s : record { types = carried; locals = starting; rest = rest } ≡ label = cc in
      let front_typed = subst (λ (y : Label). HaveTypes good.heaps front y.types) (sym s) typed in
      subst (λ (turn : Turn Event Config). Fine p turn)
      (sym (top_is l.takes here.operands front behind (λ vs under. arrive l.aim vs l levels here c) (takes ∙ sym (have_length front_typed)) whole ∙ ap (λ (a : Aim). arrive a front l levels here c) aim))
      (lands here front carried starting (record { types = carried; locals = starting; rest = rest } ∷ labels) (record { types = types; locals = Exactly locals }) l.sizes body (l ∷ levels) inner
      (subst (λ (n : ℕ). Levels p good.heaps owner results n (record { types = carried; locals = starting; rest = rest } ∷ labels) (record { types = types; locals = Exactly locals }) (l ∷ levels)) (sym started)
      (points.back types locals carried starting rest outer body many started aim takes leaves beneath inner goes outward))
      front_typed (subst (λ (y : Label). HaveTypes good.heaps here.locals y.locals) (sym s) locals_typed) gives rights)
  branches (past types locals rest outer many aim takes leaves beneath goes outward) (suc k) label e unr here front behind whole typed locals_typed gives rights =
      branches outward k label e unr.1 here front behind whole typed locals_typed gives (λ r n. omega (arith, rights r n, no_rights_in_all r n beneath unr.0))
  branches (back types locals carried starting rest outer body many started aim takes leaves beneath inner goes outward) (suc k) label e unr here front behind whole typed locals_typed gives rights =
      branches outward k label e unr.1 here front behind whole typed locals_typed gives (λ r n. omega (arith, rights r n, no_rights_in_all r n beneath unr.0))

-- the locals of a label are as many as those of its list
pub label_count : {p : Program} {hs : _} {owner : Owner} {results : List Ty} {count : ℕ} {labels : List Label} {d : Demand} {levels : List Level} → Levels p hs owner results count labels d levels →
    (k : ℕ) (label : Label) → slice_get labels k ≡ Some label → length label.locals ≡ count
label_count (of_function w d) k label e = cc
label_count (of_initialiser n g w is d l) k label e = cc
label_count (past types locals rest outer many aim takes leaves beneath goes outward) zero label e = let s : record { types = types; locals = locals; rest = rest } ≡ label = cc in ap (λ (y : Label). length y.locals) (sym s) ∙ many
label_count (back types locals carried starting rest outer body many started aim takes leaves beneath inner goes outward) zero label e =
    let s : record { types = carried; locals = starting; rest = rest } ≡ label = cc in ap (λ (y : Label). length y.locals) (sym s) ∙ started
label_count (past types locals rest outer many aim takes leaves beneath goes outward) (suc k) label e = label_count outward k label e
label_count (back types locals carried starting rest outer body many started aim takes leaves beneath inner goes outward) (suc k) label e = label_count outward k label e
