-- The row that enters a block.
use Rattle.std.proofs.Common.{◌≡◌, List, [], ◌∷◌, true, false, drop, length, reverse, refl, sym, ap, ◌∙◌, subst, arith}
use Rattle.std.proofs.lemmas.List.{length-reverse}
use Rattle.rw_types.specs.declared.instrs.BlockSig.{BlockSig}
use Rattle.rw_types.specs.declared.instrs.Instr.{Instr, Block', GlobalSet, items-the_row-Instr}
use Rattle.rw_types.specs.declared.types.Ty.{Ty}
use Rattle.rw_program.specs.Programs.{Program}
use Rattle.machine_steps.specs.Steps.{Turn}
use Rattle.rich_rules.specs.Points.{Frame, Point, Outcome}
use Rattle.rich_rules.specs.Blocks.{block_row}
use Rattle.rich_rules.specs.Table.{row}
use Rattle.rich_rules.specs.Derivations as derive
use Rattle.rich_rules.specs.Derivations.{Derives, Follows}
use Rattle.rich_rules_inversions.proofs.Bodies.{rows}
use Rattle.rich_reduction.specs.Configurations.{Past, Here, Config, Event}
use Rattle.rich_reduction.specs.Turns.{goes_on}
use Rattle.rich_reduction.specs.Control.{opened}
use Rattle.rich_reduction.specs.Steps.{act, step_at}
use Rattle.rich_rights.specs.Rights.{rights_to, count_all}
use Rattle.rich_rights_laws.proofs.Sums.{values}
use Rattle.rich_soundness_values.specs.Heaps.{all_at}
use Rattle.rich_soundness_values.specs.Values.{HaveTypes}
use Rattle.rich_soundness_points.specs.Programs.{AllFit, IsSound}
use Rattle.rich_soundness_points.specs.Points.{InBody, Callers}
use Rattle.rich_soundness_points.specs.Good.{AreSet, Runs, in_body, in_own_list, sets_global, at_end, Good, Fine}
use Rattle.rich_soundness_rows.proofs.Moves as move
use Rattle.rich_soundness_rows.proofs.Closed.{at_length}
use Rattle.rich_soundness_tuples.proofs.Lists.{have_length, at_append}
use Rattle.rich_soundness_lists.proofs.Bodies.{BodySafe}
use Rattle.rich_soundness_lists.proofs.Splits.{split, top_is, row_all, entering, first_arm}
use Rattle.rich_soundness_lists.proofs.Entered.{past_good}
use Rattle.rich_soundness_blocks.specs.Laws.{BlockRowIsSafe}
use Rattle.rich_soundness_blocks.proofs.Initialisers.{initialises, dropped, enters}

block_row_is : (sig : BlockSig) (m : _) (body : _) (f : Frame) (q : Point) → row f q (Block' sig m body) ≡ block_row f q sig
unfolding row
block_row_is sig m body f q = refl

block_safe : (sig : BlockSig) (m : _) (body : _) → BodySafe (Block' sig m body)
block_safe sig m body p c rest good owner results operands set b typed callers o later r go follows fit fit' =
    let x = rows.block b.goes_on.frame b.goes_on.point sig o (sym (block_row_is sig m body b.goes_on.frame b.goes_on.point) ∙ r) go in
    let g = b.goes_on.answers in
    let t = split c.here.operands (all_at g (reverse sig.params)) (all_at g x.beneath) (subst (λ (ts : List Ty). HaveTypes good.heaps c.here.operands ts) (ap (all_at g) x.taken ∙ at_append g (reverse sig.params) x.beneath) typed) in
    let n : length sig.params ≡ length t.front = sym (have_length t.front_typed ∙ at_length g (reverse sig.params) ∙ length-reverse sig.params) in
    let e = entering (subst (λ (y : Outcome). Follows b.goes_on.frame b.goes_on.demand b.goes_on.point (Block' sig m body) rest y later) x.given follows) in
    let a = first_arm e.arms in
    subst (λ (turn : Turn Event Config). Fine p turn)
    (sym (top_is (length sig.params) c.here.operands t.front t.back (λ taken beneath. goes_on (opened Past (length sig.results) sig c.here.sizes (items-the_row-Instr _ body) taken beneath (record c.here { rest = rest })) c) n t.whole))
    (past_good p c rest good set b callers sig (items-the_row-Instr _ body) x.beneath t.front t.back t.front_typed t.back_typed
    (λ r k. omega (arith, (values (rights_to r k)).joined t.front t.back, ap (count_all (rights_to r k)) t.whole)) a.code (row_all body fit) e.rest fit')

module _ (sig : BlockSig) (m : _) (body : _) (p : Program) (c : Config) (rest : List Instr) (sound : IsSound p) (good : Good p c) (at : c.here.rest ≡ Block' sig m body ∷ rest) where
  by_code : {owner : _} {results operands : List Ty} (set : AreSet p good.set owner) (b : InBody p good.heaps owner results operands c.here) → HaveTypes good.heaps c.here.operands operands → Callers p good.heaps owner results c.callers →
      {notes : _} → Derives b.goes_on.frame b.goes_on.demand b.goes_on.point (Block' sig m body ∷ rest) notes → AllFit (Block' sig m body ∷ rest) → Fine p (act p.funcs (Block' sig m body) (record c.here { rest = rest }) c)
  by_code {owner = owner} {results = results} {operands = operands} set b typed callers (derive.step o later r e follows) fit =
      block_safe sig m body p c rest good owner results operands set b (subst (λ (ts : List Ty). HaveTypes good.heaps c.here.operands ts) (ap (λ (x : Point). x.operands) b.goes_on.seen) typed) callers o later r (move.goes_on follows) follows fit.0 fit.1

  by_runs : Runs p good.heaps good.set c.here c.callers → Fine p (act p.funcs (Block' sig m body) (record c.here { rest = rest }) c)
  by_runs (in_body owner results operands set b typed callers) =
      by_code set b typed callers (subst (λ (is : List Instr). Derives b.goes_on.frame b.goes_on.demand b.goes_on.point is b.goes_on.notes) at b.goes_on.code) (subst AllFit at b.goes_on.fit)
  by_runs (in_own_list e none) =
      let x = initialises good.set (drop good.set p.globals) p.main (Block' sig m body) rest (sym (ap (λ (h : Here). h.rest) e) ∙ at) refl in
      let y = dropped good.set p.globals x.global x.later x.globals in
      enters p c sound good x.global y.0 _ e none x.later y.1 (Block' sig m body) rest x.block x.after
  by_runs (sets_global v g is h e none) = (let a : GlobalSet good.set ∷ _ ≡ Block' sig m body ∷ rest = sym (ap (λ (x : Here). x.rest) e) ∙ at in absurd (let t : true ≡ false = cc in cc))
  by_runs (at_end n w e none) = (let a : [] ≡ Block' sig m body ∷ rest = sym (ap (λ (h : Here). h.rest) e) ∙ at in absurd (cc))

pub blocks : BlockRowIsSafe
blocks sig m body p c rest sound good at = subst (λ (is : List Instr). Fine p (step_at p.funcs is c)) (sym at) (by_runs sig m body p c rest sound good at good.runs)
