-- The type below the binder is copied.
use Rattle.rw_unpack_rows.proofs.Seen.{hidden_told}
use Rattle.rw_unpack_rows.proofs.forms.look_hidden.Goals as goal

pub returns : goal.returns
returns c =
    let h = c.in-Some.hidden in
    hidden_told c.args.top.now h.qual h.memory h.body.now c.in_ok-body.body c.in-Some.ensures c.in_ok-body.ensures
