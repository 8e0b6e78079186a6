-- A reference to an array or another type, an index, a value, and the privilege.
use Rattle.std.proofs.Common.{◌∙◌, sym}
use Rattle.rich_types.specs.Scopes.{scope_of}
use Rattle.rw_array_looks.proofs.Seen.{set_index, set_value, set_reader, set_given}
use Rattle.rw_array_looks.proofs.arrays.look_array_set.Goals as goal

pub returns-then-not-is_i32 : goal.returns-then-not-is_i32
returns-then-not-is_i32 c = λ beneath.
    let a = c.in-Some.array in
    set_index (scope_of c.args.c.now.binders) c.args.reference.now a.qual a.privilege a.location a.memory a.element.now c.in-Some.ensures.0 c.in-Some.ensures.1 c.args.index.now beneath c.args.value.now c.not_i32.result (sym c.is_i32.ensures ∙ c.if-not-is_i32.true) c.not_i32.ensures

pub returns-then-not-is_same : goal.returns-then-not-is_same
returns-then-not-is_same c = λ beneath.
    let a = c.in-Some.array in
    set_value (scope_of c.args.c.now.binders) c.args.reference.now a.qual a.privilege a.location a.memory a.element.now c.in-Some.ensures.0 c.in-Some.ensures.1 c.args.index.now beneath c.args.value.now c.broken_for.result (sym c.is_i32.ensures ∙ c.if-not-is_i32.false) (sym c.is_same.ensures ∙ c.if-not-is_same.true) c.broken_for.ensures

pub returns-then-not-is_rw : goal.returns-then-not-is_rw
returns-then-not-is_rw c = λ beneath.
    let a = c.in-Some.array in
    set_reader (scope_of c.args.c.now.binders) c.args.reference.now a.qual a.privilege a.location a.memory a.element.now c.in-Some.ensures.0 c.in-Some.ensures.1 c.args.index.now beneath c.args.value.now c.broken-then-not-is_rw.result (sym c.is_i32.ensures ∙ c.if-not-is_i32.false) (sym c.is_same.ensures ∙ c.if-not-is_same.false) (sym c.is_rw.ensures ∙ c.if-not-is_rw.true) c.broken-then-not-is_rw.ensures

pub returns : goal.returns
returns c = λ beneath.
    let a = c.in-Some.array in
    set_given (scope_of c.args.c.now.binders) c.args.reference.now a.qual a.privilege a.location a.memory a.element.now c.in-Some.ensures.0 c.in-Some.ensures.1 c.args.index.now beneath c.args.value.now (sym c.is_i32.ensures ∙ c.if-not-is_i32.false) (sym c.is_same.ensures ∙ c.if-not-is_same.false) (sym c.is_rw.ensures ∙ c.if-not-is_rw.false)
