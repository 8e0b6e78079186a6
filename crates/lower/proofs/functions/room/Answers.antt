use Rattle.std.proofs.Common.{◌<◌, length, sym, subst, arith}
use Rattle.rw_types.specs.LoneMain.{IsPlain}
use Rattle.lower.specs.Heights.{IsWithin}
use Rattle.lower.proofs.Lists.{plain_at, within_at, room_of-end}
use Rattle.lower.proofs.functions.room.Goals as goal

pub loop-at-init : goal.loop-at-init
loop-at-init c = record {
  most = omega (arith, room_of-end c.args.body.now c.args.notes.now c.args.end);
  bound = c.requires.end;
  end = omega arith;
}

pub height-requires-clause-plain : goal.height-requires-clause-plain
height-requires-clause-plain c =
    let lt : c.loop-at.at < length c.args.body.now = c.loop-at-test.true in
    subst IsPlain (sym c.index-body-at.is) (plain_at c.args.body.now c.loop-at.at c.index-body-at.result lt c.requires.plain)

pub height-requires-clause-within : goal.height-requires-clause-within
height-requires-clause-within c =
    let found = c.in-Some.ensures.lookup in
    subst (IsWithin 1000) (sym found.1) (within_at c.args.notes.now c.loop-at.at c.in-Some.note.now 1000 found.3.0 c.requires.within)
