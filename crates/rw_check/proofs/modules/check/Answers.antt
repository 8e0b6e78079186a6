-- A body's answer is the module's.
use Rattle.std.proofs.Common.{rules, refl}
use Rattle.std.proofs.lemmas.Result.{err_from_is_err_and}
use Rattle.rich_typing.specs.Derivations.{IsTyped}
use Rattle.rw_check.specs.Answers.{TellsBody}
use Rattle.rw_check.proofs.Refusals.{tells_first, refused_not_typed, refused_as, typed_as, typed_not_refused}
use Rattle.rw_check.proofs.modules.check.Goals as goal

pub returns-in_err-notes-clause-refused : goal.returns-in_err-notes-clause-refused
returns-in_err-notes-clause-refused c =
    let body : TellsBody c.in_err-notes.field-0.0 c.in-Some.func.now.body = rw c.as_slice.ensures.items at c.in_err-notes.ensures in
    let p = err_from_is_err_and c.from_residual.result c.from_residual.ensures.1 in
    rw (p.1, p.2) (tells_first c.in_err-notes.field-0.0 c.in-Some.ensures.0 c.in-Some.ensures.1 body)

pub returns-in_err-notes-clause-every_typed : goal.returns-in_err-notes-clause-every_typed
returns-in_err-notes-clause-every_typed c =
    let body : TellsBody c.in_err-notes.field-0.0 c.in-Some.func.now.body = rw c.as_slice.ensures.items at c.in_err-notes.ensures in
    let p = err_from_is_err_and c.from_residual.result c.from_residual.ensures.1 in
    rw (p.1, p.2) (λ notes typed. refused_not_typed c.in_err-notes.field-0.0 c.args.m notes (tells_first c.in_err-notes.field-0.0 c.in-Some.ensures.0 c.in-Some.ensures.1 body) typed)

pub returns-in_err-notes-clause-every_violation : goal.returns-in_err-notes-clause-every_violation
returns-in_err-notes-clause-every_violation c =
    let body : TellsBody c.in_err-notes.field-0.0 c.in-Some.func.now.body = rw c.as_slice.ensures.items at c.in_err-notes.ensures in
    let p = err_from_is_err_and c.from_residual.result c.from_residual.ensures.1 in
    rw (p.1, p.2) (λ v violation. refused_as c.in_err-notes.field-0.0 c.args.m v (tells_first c.in_err-notes.field-0.0 c.in-Some.ensures.0 c.in-Some.ensures.1 body) violation)

pub returns-clause-every_typed : goal.returns-clause-every_typed
returns-clause-every_typed c =
    let typed : IsTyped c.args.m c.push.new.self = search rules in
    rw c.new.ensures (λ notes other. typed_as (record { source = c.args.m; notes = c.push.new.self }) c.args.m notes refl typed other)

pub returns-clause-every_violation : goal.returns-clause-every_violation
returns-clause-every_violation c =
    let typed : IsTyped c.args.m c.push.new.self = search rules in
    rw c.new.ensures (λ v violation. typed_not_refused (record { source = c.args.m; notes = c.push.new.self }) c.args.m v typed violation)
