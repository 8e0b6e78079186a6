-- Rows that enter a loop, and one of two lists.
use Rattle.std.proofs.Common.{◌≡◌, ℕ, zero, suc, ◌+◌, List, ◌∷◌, ◌++◌, length, reverse, refl, sym, ap, ◌∙◌, subst, arith}
use Rattle.std.proofs.lemmas.List.{length-reverse}
use Rattle.wasm_operators.specs.declared.Width.TheVariants.{W32}
use Rattle.rw_types.specs.declared.instrs.BlockSig.{BlockSig}
use Rattle.rw_types.specs.declared.instrs.Instr.{Instr, Loop', If', items-the_row-Instr}
use Rattle.rw_types.specs.declared.types.Ty.{Ty}
use Rattle.machine_steps.specs.Steps.{Turn}
use Rattle.rich_rules.specs.Points.{Frame, Point, Outcome}
use Rattle.rich_rules.specs.Blocks.{loop_row, if_row}
use Rattle.rich_rules.specs.Table.{row}
use Rattle.rich_rules.specs.Derivations.{Follows}
use Rattle.rich_rules_inversions.proofs.Bodies.{rows}
use Rattle.rich_reduction.specs.Configurations.{Number, Back, Past, Config, Event}
use Rattle.rich_reduction.specs.Turns.{goes_on}
use Rattle.rich_reduction.specs.Control.{opened, enter_block}
use Rattle.rich_reduction.specs.Steps.{act}
use Rattle.rich_rights.specs.Rights.{Right, rights_to, count_all}
use Rattle.rich_rights_laws.proofs.Sums.{values}
use Rattle.rich_soundness_values.specs.Heaps.{all_at}
use Rattle.rich_soundness_values.specs.Values.{HaveTypes}
use Rattle.rich_soundness_points.specs.Good.{Good, Fine}
use Rattle.rich_soundness_lists.proofs.Bodies.{BodySafe, in_bodies}
use Rattle.rich_soundness_rows.proofs.Widths.{number_taken}
use Rattle.rich_soundness_tuples.proofs.Lists.{have_length, at_append}
use Rattle.rich_soundness_rows.proofs.Closed.{at_length}
use Rattle.rich_soundness_lists.specs.Laws.{ListRowsAreSafe}
use Rattle.rich_soundness_lists.proofs.Splits.{split, top_is, row_all, entering, first_arm, second_arm}
use Rattle.rich_soundness_lists.proofs.Entered.{past_good, back_good}

loop_row_is : (sig : BlockSig) (m : _) (body : _) (f : Frame) (q : Point) → row f q (Loop' sig m body) ≡ loop_row f q sig
unfolding row
loop_row_is sig m body f q = refl

loop_safe : (sig : BlockSig) (m : _) (body : _) → BodySafe (Loop' sig m body)
loop_safe sig m body p c rest good owner results operands set b typed callers o later r go follows fit fit' =
    let x = rows.loops b.goes_on.frame b.goes_on.point sig o (sym (loop_row_is sig m body b.goes_on.frame b.goes_on.point) ∙ r) go in
    let g = b.goes_on.answers in
    let t = split c.here.operands (all_at g (reverse sig.params)) (all_at g x.beneath) (subst (λ (ts : List Ty). HaveTypes good.heaps c.here.operands ts) (ap (all_at g) x.taken ∙ at_append g (reverse sig.params) x.beneath) typed) in
    let n : length sig.params ≡ length t.front = sym (have_length t.front_typed ∙ at_length g (reverse sig.params) ∙ length-reverse sig.params) in
    let e = entering (subst (λ (y : Outcome). Follows b.goes_on.frame b.goes_on.demand b.goes_on.point (Loop' sig m body) rest y later) x.given follows) in
    let a = first_arm e.arms in
    subst (λ (turn : Turn Event Config). Fine p turn)
    (sym (top_is (length sig.params) c.here.operands t.front t.back (λ taken beneath. goes_on (opened (Back (items-the_row-Instr _ body)) (length sig.params) sig c.here.sizes (items-the_row-Instr _ body) taken beneath (record c.here { rest = rest })) c) n t.whole))
    (back_good p c rest good set b callers sig (items-the_row-Instr _ body) x.beneath t.front t.back t.front_typed t.back_typed
    (λ r k. omega (arith, (values (rights_to r k)).joined t.front t.back, ap (count_all (rights_to r k)) t.whole)) a.code (row_all body fit) e.rest fit')

if_row_is : (sig : BlockSig) (m : _) (one : _) (k : _) (other : _) (f : Frame) (q : Point) → row f q (If' sig m one k other) ≡ if_row f q sig
unfolding row
if_row_is sig m one k other f q = refl

if_safe : (sig : BlockSig) (m : _) (one : _) (k : _) (other : _) → BodySafe (If' sig m one k other)
if_safe sig m one k other p c rest good owner results operands set b typed callers o later r go follows fit fit' =
    let x = rows.arms b.goes_on.frame b.goes_on.point sig o (sym (if_row_is sig m one k other b.goes_on.frame b.goes_on.point) ∙ r) go in
    let g = b.goes_on.answers in
    let e = entering (subst (λ (y : Outcome). Follows b.goes_on.frame b.goes_on.demand b.goes_on.point (If' sig m one k other) rest y later) x.given follows) in
    let first = first_arm e.arms in
    let second = second_arm e.arms in
    number_taken good.heaps W32 c.here.operands (all_at g (reverse sig.params ++ x.beneath)) (λ us. c.here.operands ≡ us → Fine p (act p.funcs (If' sig m one k other) (record c.here { rest = rest; operands = us }) c))
    (subst (λ (ts : List Ty). HaveTypes good.heaps c.here.operands ts) (ap (all_at g) x.taken) typed)
    (λ n us w hv same.
    let t = split us (all_at g (reverse sig.params)) (all_at g x.beneath) (subst (λ (ts : List Ty). HaveTypes good.heaps us ts) (at_append g (reverse sig.params) x.beneath) hv) in
    let many : length sig.params ≡ length t.front = sym (have_length t.front_typed ∙ at_length g (reverse sig.params) ∙ length-reverse sig.params) in
    let rights : (r : Right) (i : ℕ) → count_all (rights_to r i) t.front + count_all (rights_to r i) t.back ≡ count_all (rights_to r i) c.here.operands =
    λ r i. omega (arith, (values (rights_to r i)).joined t.front t.back, ap (count_all (rights_to r i)) t.whole, ap (count_all (rights_to r i)) same) in
    let entered : (body : List Instr) → Good p (record c { here = opened Past (length sig.results) sig c.here.sizes body t.front t.back (record c.here { rest = rest }) }) → Fine p (enter_block sig body (record c.here { rest = rest; operands = us }) c) =
    λ body y. subst (λ (turn : Turn Event Config). Fine p turn)
    (sym (top_is (length sig.params) us t.front t.back (λ taken beneath. goes_on (opened Past (length sig.results) sig c.here.sizes body taken beneath (record c.here { rest = rest; operands = us })) c) many t.whole)) y in
    elim n as (λ n. Fine p (act p.funcs (If' sig m one k other) (record c.here { rest = rest; operands = Number n ∷ us }) c)) [
      | zero ↦ entered (items-the_row-Instr _ other) (past_good p c rest good set b callers sig (items-the_row-Instr _ other) x.beneath t.front t.back t.front_typed t.back_typed rights second.code (row_all other fit.1) e.rest fit')
      | suc j ↦ entered (items-the_row-Instr _ one) (past_good p c rest good set b callers sig (items-the_row-Instr _ one) x.beneath t.front t.back t.front_typed t.back_typed rights first.code (row_all one fit.0) e.rest fit')
    ])
    refl

pub list_rows : ListRowsAreSafe
list_rows = record {
  loops = λ sig m body. in_bodies (Loop' sig m body) refl (loop_safe sig m body);
  arms = λ sig m one k other. in_bodies (If' sig m one k other) refl (if_safe sig m one k other);
}
