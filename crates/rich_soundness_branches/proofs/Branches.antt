-- Rows that branch out of lists, and those that return from a function.
use Rattle.std.proofs.Common.{◌≡◌, ℕ, zero, suc, List, ◌∷◌, ◌++◌, None, Some, length, refl, sym, ap, ◌∙◌, subst, arith}
use Rattle.std.specs.Prelude.{slice_get}
use Rattle.wasm_operators.specs.declared.Width.TheVariants.{W32}
use Rattle.rw_types.specs.declared.instrs.Instr.{Instr, Br, BrIf, Return}
use Rattle.rw_types.specs.declared.types.Ty.{Ty}
use Rattle.rw_program.specs.Programs.{Program}
use Rattle.machine_steps.specs.Steps.{Turn}
use Rattle.rich_types.specs.Scopes.{scope_of}
use Rattle.rich_typing.specs.declared.notes.Note.{Note}
use Rattle.rich_rules.specs.Points.{Owner, OfFunction, OfGlobal, Label, Point, Outcome, Gives, moved}
use Rattle.rich_rules.specs.Branches.{held_beneath, crossed, return_row}
use Rattle.rich_rules.specs.Takers.{first_difference, last_held}
use Rattle.rich_rules.specs.Table.{in_function}
use Rattle.rich_rules.specs.Derivations as derive
use Rattle.rich_rules.specs.Derivations.{Derives, Follows}
use Rattle.rich_rules.proofs.RowEquations.{row-Br, row-BrIf, row-Return}
use Rattle.rich_rules_inversions.specs.Cells.{Goes}
use Rattle.rich_rules_inversions.proofs.Bodies.{rows}
use Rattle.rich_reduction.specs.Configurations.{Val, Number, Config, Event}
use Rattle.rich_reduction.specs.Control.{branch, give}
use Rattle.rich_reduction.specs.Steps.{act}
use Rattle.rich_rights.specs.Rights.{Right, rights_to, count_all}
use Rattle.rich_rights_laws.proofs.Sums.{values}
use Rattle.rich_soundness_values.specs.Heaps.{all_at}
use Rattle.rich_soundness_values.specs.Values.{HaveTypes}
use Rattle.rich_soundness_points.specs.Programs.{AllFit}
use Rattle.rich_soundness_points.specs.Points.{label_at, labels_at, closed, Levels, InBody, Callers}
use Rattle.rich_soundness_points.specs.Good.{AreSet, Good, Fine}
use Rattle.rich_soundness_rows.proofs.Closed.{at_length}
use Rattle.rich_soundness_rows.proofs.Locals.{in_function-passed}
use Rattle.rich_soundness_rows.proofs.Widths.{number_taken}
use Rattle.rich_soundness_tuples.proofs.Lists.{have_length, at_append}
use Rattle.rich_soundness_lists.proofs.Bodies.{BodySafe, in_bodies}
use Rattle.rich_soundness_lists.proofs.Splits.{split, top_is}
use Rattle.rich_soundness_branches.specs.Laws.{BranchRowsAreSafe}
use Rattle.rich_soundness_branches.proofs.Unr.{neither, RestsUnr, first_same, first_unr, last_unr, rests_unr, label_found, labels_length, no_rights_in_all}
use Rattle.rich_soundness_branches.proofs.Landing.{lands, branches, label_count}
use Rattle.rich_soundness_branches.proofs.Giving.{gives, levels_free}

-- what stands after a row that changes operands alone
pub follows_on : {f : _} {d : _} {q : Point} {i : Instr} {is : List Instr} {operands : List Ty} {notes : List Note} → Follows f d q i is (Gives operands None) notes → Derives f d (moved q operands None) is notes
follows_on (derive.goes_on d) = d

-- a row of functions' bodies goes on in a function alone
pub in_function-owner : (w : Owner) (o : Outcome) → Goes (in_function w o) → w ≡ OfFunction
in_function-owner OfFunction o go = refl
in_function-owner (OfGlobal n) o go = absurd go

module _ (p : Program) (c : Config) (rest : List Instr) (good : Good p c) {owner : Owner} {results operands : List Ty} (set : AreSet p good.set owner) (b : InBody p good.heaps owner results operands c.here) (callers : Callers p good.heaps owner results c.callers) where
  pub locals_stay : HaveTypes good.heaps c.here.locals (all_at b.goes_on.answers b.goes_on.point.locals)
  locals_stay = subst (λ (ts : List Ty). HaveTypes good.heaps c.here.locals ts) (ap (λ (y : Point). y.locals) b.goes_on.seen) b.locals_typed

  labels_are : b.labels ≡ labels_at b.goes_on.answers b.goes_on.point.labels
  labels_are = ap (λ (y : Point). y.labels) b.goes_on.seen

  -- where nothing but operands is changed, the list goes on
  pub onward : (given : List Ty) {notes : List Note} (us : List Val) → Derives b.goes_on.frame b.goes_on.demand (moved b.goes_on.point given None) rest notes → AllFit rest → HaveTypes good.heaps us (all_at b.goes_on.answers given) →
      ((r : Right) (n : ℕ) → count_all (rights_to r n) us ≡ count_all (rights_to r n) c.here.operands) → Good p (record c { here = record c.here { rest = rest; operands = us } })
  onward given {notes = notes} us d fit typed rights = lands p c good set callers c.here us (all_at b.goes_on.answers given) b.locals b.labels b.demand c.here.sizes rest c.here.levels (record {
    frame = b.goes_on.frame;
    demand = b.goes_on.demand;
    point = moved b.goes_on.point given None;
    notes = notes;
    code = d;
    fit = fit;
    owned = b.goes_on.owned;
    functions = b.goes_on.functions;
    globals = b.goes_on.globals;
    answers = b.goes_on.answers;
    answered = b.goes_on.answered;
    demanded = b.goes_on.demanded;
    seen = ap (λ (y : Point). closed y.locals y.labels y.results (all_at b.goes_on.answers given)) b.goes_on.seen;
    sized = b.goes_on.sized;
  }) b.levels typed b.locals_typed b.gives (λ r n. omega (arith, rights r n))

  -- a branch to this label, with these operands
  taken : (k : ℕ) (label : Label) (beneath : List Ty) (us : List Val) → slice_get b.goes_on.point.labels k ≡ Some label → crossed b.goes_on.point k beneath ≡ None → first_difference b.goes_on.point.locals label.locals ≡ None →
      HaveTypes good.heaps us (all_at b.goes_on.answers (label.types ++ beneath)) → ((r : Right) (n : ℕ) → count_all (rights_to r n) us ≡ count_all (rights_to r n) c.here.operands) →
      Fine p (branch k c.here.levels (record c.here { rest = rest; operands = us }) c)
  taken k label beneath us found skipped same typed rights =
      let g = b.goes_on.answers in
      let q = b.goes_on.point in
      let x = neither (last_held (scope_of q.binders) beneath) (held_beneath (scope_of q.binders) k q.labels) skipped in
      let t = split us (all_at g label.types) (all_at g beneath) (subst (λ (ts : List Ty). HaveTypes good.heaps us ts) (at_append g label.types beneath) typed) in
      let outward : Levels p good.heaps owner results (length b.locals) (labels_at g q.labels) b.demand c.here.levels = subst (λ (ls : List Label). Levels p good.heaps owner results (length b.locals) ls b.demand c.here.levels) labels_are b.levels in
      let at = label_found g q.labels k label found in
      let many : length q.locals ≡ length label.locals =
      sym (at_length g q.locals) ∙ sym (ap (λ (y : Point). length y.locals) b.goes_on.seen) ∙ sym (label_count outward k (label_at g label) at) ∙ at_length g label.locals in
      branches p c good set callers outward k (label_at g label) at (rests_unr g (scope_of q.binders) b.goes_on.answered k q.labels x.1) (record c.here { rest = rest; operands = us }) t.front t.back t.whole t.front_typed
      (subst (λ (ts : List Ty). HaveTypes good.heaps c.here.locals (all_at g ts)) (first_same q.locals label.locals many same) locals_stay) b.gives
      (λ r n. omega (arith, rights r n, ap (count_all (rights_to r n)) t.whole, (values (rights_to r n)).joined t.front t.back, no_rights_in_all r n t.back_typed (last_unr g (scope_of q.binders) b.goes_on.answered beneath x.0)))

br_safe : (k : ℕ) → BodySafe (Br k)
br_safe k p c rest good owner results operands set b typed callers o later r go follows fit fit' =
    let x = rows.br b.goes_on.point k o (sym (row-Br b.goes_on.frame b.goes_on.point k) ∙ r) go in
    taken p c rest good set b callers k x.label x.beneath c.here.operands x.found x.skipped x.same (subst (λ (ts : List Ty). HaveTypes good.heaps c.here.operands (all_at b.goes_on.answers ts)) x.taken typed) (λ r n. refl)

br_if_safe : (k : ℕ) → BodySafe (BrIf k)
br_if_safe k p c rest good owner results operands set b typed callers o later r go follows fit fit' =
    let g = b.goes_on.answers in
    let x = rows.br_if b.goes_on.point k o (sym (row-BrIf b.goes_on.frame b.goes_on.point k) ∙ r) go in
    number_taken good.heaps W32 c.here.operands (all_at g (x.label.types ++ x.beneath)) (λ us. c.here.operands ≡ us → Fine p (act p.funcs (BrIf k) (record c.here { rest = rest; operands = us }) c))
    (subst (λ (ts : List Ty). HaveTypes good.heaps c.here.operands (all_at g ts)) x.taken typed)
    (λ n us w hv same.
    let rights : (r : Right) (i : ℕ) → count_all (rights_to r i) us ≡ count_all (rights_to r i) c.here.operands = λ r i. omega (arith, ap (count_all (rights_to r i)) same) in
    elim n as (λ n. Fine p (act p.funcs (BrIf k) (record c.here { rest = rest; operands = Number n ∷ us }) c)) [
      | zero ↦ onward p c rest good set b callers (x.label.types ++ x.beneath) us (follows_on (subst (λ (y : Outcome). Follows b.goes_on.frame b.goes_on.demand b.goes_on.point (BrIf k) rest y later) x.given follows)) fit' hv rights
      | suc j ↦ taken p c rest good set b callers k x.label x.beneath us x.found x.skipped x.same hv rights
    ])
    refl

return_safe : BodySafe Return
return_safe p c rest good owner results operands set b typed callers o later r go follows fit fit' =
    let g = b.goes_on.answers in
    let q = b.goes_on.point in
    let goes : Goes (in_function b.goes_on.frame.owner (return_row q)) = subst Goes (sym r ∙ row-Return b.goes_on.frame q) go in
    let y = in_function-passed b.goes_on.frame.owner (return_row q) goes in
    let w : owner ≡ OfFunction = sym b.goes_on.owned ∙ in_function-owner b.goes_on.frame.owner (return_row q) goes in
    let x = rows.returns q (return_row q) refl y.1 in
    let z = neither (last_held (scope_of q.binders) x.beneath) (held_beneath (scope_of q.binders) (length q.labels) q.labels) x.skipped in
    let t = split c.here.operands (all_at g q.results) (all_at g x.beneath) (subst (λ (ts : List Ty). HaveTypes good.heaps c.here.operands ts) (ap (all_at g) x.taken ∙ at_append g q.results x.beneath) typed) in
    let front_typed : HaveTypes good.heaps t.front results = subst (λ (ts : List Ty). HaveTypes good.heaps t.front ts) (sym (ap (λ (y : Point). y.results) b.goes_on.seen)) t.front_typed in
    let unr : RestsUnr (length b.labels) b.labels =
    subst (λ (ls : List Label). RestsUnr (length ls) ls) (sym (ap (λ (y : Point). y.labels) b.goes_on.seen))
    (subst (λ (n : ℕ). RestsUnr n (labels_at g q.labels)) (sym (labels_length g q.labels)) (rests_unr g (scope_of q.binders) b.goes_on.answered (length q.labels) q.labels z.1)) in
    subst (λ (turn : Turn Event Config). Fine p turn)
    (sym (top_is c.here.results c.here.operands t.front t.back (λ vs beneath. give vs c.callers c) (b.gives w ∙ sym (have_length front_typed)) t.whole))
    (gives p c good (subst (λ (o : Owner). AreSet p good.set o) w set) c.callers t.front (subst (λ (o : Owner). Callers p good.heaps o results c.callers) w callers) front_typed
    (λ r n. omega (
      arith,
      good.kept r n,
      ap (count_all (rights_to r n)) t.whole,
      (values (rights_to r n)).joined t.front t.back,
      no_rights_in_all r n t.back_typed (last_unr g (scope_of q.binders) b.goes_on.answered x.beneath z.0),
      no_rights_in_all r n (locals_stay p c rest good set b callers) (first_unr g (scope_of q.binders) b.goes_on.answered q.locals x.unrestricted),
      levels_free r n b.levels unr,
    )))

pub branch_rows : BranchRowsAreSafe
branch_rows = record {
  br = λ k. in_bodies (Br k) refl (br_safe k);
  br_if = λ k. in_bodies (BrIf k) refl (br_if_safe k);
  returns = in_bodies Return refl return_safe;
}
