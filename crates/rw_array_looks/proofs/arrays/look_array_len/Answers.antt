-- A reference to an array.
use Rattle.rich_types.specs.Scopes.{scope_of}
use Rattle.rw_array_looks.proofs.Seen.{len_given}
use Rattle.rw_array_looks.proofs.arrays.look_array_len.Goals as goal

pub returns : goal.returns
returns c = λ beneath.
    let a = c.in-Some._array in
    len_given (scope_of c.args.c.now.binders) c.args.reference.now a.qual a.privilege a.location a.memory a.element.now c.in-Some.ensures.0 c.in-Some.ensures.1 beneath
