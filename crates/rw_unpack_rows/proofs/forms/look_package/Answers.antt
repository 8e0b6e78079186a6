-- A reference to a package, its privilege, and the type below the binder, which is copied.
use Rattle.std.proofs.Common.{◌∙◌, sym}
use Rattle.rich_types.specs.Scopes.{scope_of}
use Rattle.rw_unpack_rows.proofs.Seen.{package_told, package_read}
use Rattle.rw_unpack_rows.proofs.forms.look_package.Goals as goal

pub returns-then-not-is_rw : goal.returns-then-not-is_rw
returns-then-not-is_rw c = λ rest.
    let a = c.in-Some.package in
    package_read (scope_of c.args.c.now.binders) c.args.top.now a.reference a.privilege a.location a.memory a.qual a.size a.body.now c.in-Some.ensures.0 c.in-Some.ensures.1 rest c.broken-then-not-is_rw.result (sym c.is_rw.ensures ∙ c.if-not-is_rw.true) c.broken-then-not-is_rw.ensures

pub returns : goal.returns
returns c = λ rest.
    let a = c.in-Some.package in
    package_told (scope_of c.args.c.now.binders) c.args.top.now a.reference a.privilege a.location a.memory a.qual a.size a.body.now c.in-Some.ensures.0 c.in-Some.ensures.1 rest c.in_ok-body.body (sym c.is_rw.ensures ∙ c.if-not-is_rw.false) c.in_ok-body.ensures
