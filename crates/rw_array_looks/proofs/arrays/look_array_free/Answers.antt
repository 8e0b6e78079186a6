-- A reference to an array, its memory and its privilege.
use Rattle.std.proofs.Common.{◌∙◌, sym}
use Rattle.rich_types.specs.Scopes.{scope_of}
use Rattle.rw_array_looks.proofs.Seen.{free_memory, free_reader, free_given}
use Rattle.rw_array_looks.proofs.arrays.look_array_free.Goals as goal

pub returns-then-not-is_linear : goal.returns-then-not-is_linear
returns-then-not-is_linear c = λ beneath.
    let a = c.in-Some.array in
    free_memory (scope_of c.args.c.now.binders) c.args.reference.now a.qual a.privilege a.location a.memory a.element.now c.in-Some.ensures.0 c.in-Some.ensures.1 beneath c.broken-then-not-is_linear.result (sym c.is_linear.ensures ∙ c.if-not-is_linear.true) c.broken-then-not-is_linear.ensures

pub returns-then-not-is_rw : goal.returns-then-not-is_rw
returns-then-not-is_rw c = λ beneath.
    let a = c.in-Some.array in
    free_reader (scope_of c.args.c.now.binders) c.args.reference.now a.qual a.privilege a.location a.memory a.element.now c.in-Some.ensures.0 c.in-Some.ensures.1 beneath c.broken-then-not-is_rw.result (sym c.is_linear.ensures ∙ c.if-not-is_linear.false) (sym c.is_rw.ensures ∙ c.if-not-is_rw.true) c.broken-then-not-is_rw.ensures

pub returns : goal.returns
returns c = λ beneath.
    let a = c.in-Some.array in
    free_given (scope_of c.args.c.now.binders) c.args.reference.now a.qual a.privilege a.location a.memory a.element.now c.in-Some.ensures.0 c.in-Some.ensures.1 beneath (sym c.is_linear.ensures ∙ c.if-not-is_linear.false) (sym c.is_rw.ensures ∙ c.if-not-is_rw.false)
