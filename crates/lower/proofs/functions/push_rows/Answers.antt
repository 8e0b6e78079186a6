use Rattle.std.proofs.Common.{◌<◌, length, sym, subst}
use Rattle.rw_types.specs.LoneMain.{IsPlain}
use Rattle.lower.specs.Heights.{IsWithin}
use Rattle.lower.proofs.Lists.{plain_at, within_at}
use Rattle.lower.proofs.functions.push_rows.Goals as goal

pub push_row-requires-clause-plain : goal.push_row-requires-clause-plain
push_row-requires-clause-plain c =
    let lt : c.loop-at.at < length c.args.body.now = c.loop-at-test.true in
    subst IsPlain (sym c.index-body-at.is) (plain_at c.args.body.now c.loop-at.at c.index-body-at.result lt c.requires.plain)

pub push_row-requires-clause-within : goal.push_row-requires-clause-within
push_row-requires-clause-within c =
    let found = c.in-Some.ensures.lookup in
    subst (IsWithin 1000) (sym found.1) (within_at c.args.notes.now c.loop-at.at c.in-Some.note.now 1000 found.3.0 c.requires.within)
