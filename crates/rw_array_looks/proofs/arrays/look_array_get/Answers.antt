-- A reference to an array or another type, an index or another, and the element.
use Rattle.std.proofs.Common.{◌∙◌, sym}
use Rattle.rich_types.specs.Scopes.{scope_of}
use Rattle.rw_array_looks.proofs.Seen.{get_index, get_given}
use Rattle.rw_array_looks.proofs.arrays.look_array_get.Goals as goal

pub returns-then-not-is_i32 : goal.returns-then-not-is_i32
returns-then-not-is_i32 c = λ beneath.
    let a = c.in-Some.array in
    get_index (scope_of c.args.c.now.binders) c.args.reference.now a.qual a.privilege a.location a.memory a.element.now c.in-Some.ensures.0 c.in-Some.ensures.1 c.args.index.now beneath c.not_i32.result (sym c.is_i32.ensures ∙ c.if-not-is_i32.true) c.not_i32.ensures

pub returns : goal.returns
returns c = λ beneath.
    let a = c.in-Some.array in
    get_given (scope_of c.args.c.now.binders) c.args.reference.now a.qual a.privilege a.location a.memory a.element.now c.in-Some.ensures.0 c.in-Some.ensures.1 c.args.index.now beneath c.in_ok-top.top (sym c.is_i32.ensures ∙ c.if-not-is_i32.false) c.in_ok-top.ensures
