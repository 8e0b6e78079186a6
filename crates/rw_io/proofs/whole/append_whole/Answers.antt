use Rattle.std.proofs.Common.{arith, refl, sym, subst, Ok, Err}
use Rattle.rw_io.specs.Whole.{OffersAll}
use Rattle.rw_io.specs.declared.whole.Unwritten.{Unwritten}
use Rattle.rw_io.proofs.Joined.{next_appended}
use Rattle.rw_io.proofs.Offered.{after_turn, at_stop, at_end}
use Rattle.rw_io.proofs.whole.append_whole.Goals as goal

pub loop-at-preserved : goal.loop-at-preserved
loop-at-preserved g c = record {
  at = omega (arith, c.in-Ok.ensures.bound);
  put = next_appended _ _ _ _ _ _ c.loop-at.invariant.put c.in-Ok.ensures.appended;
  pieces = after_turn g.S.Shelf.appends c.args.shelf.now c.loop-at.shelf c.append.new.self c.args.piece.now c.loop-at.at c.in-Ok.count (omega (arith, c.in-Ok.count-test)) c.in-Ok.ensures.goes c.loop-at.invariant.pieces;
  counts = record { loads = omega arith; puts = omega arith; stalled = omega arith };
}

pub returns-in-Ok-eq0-clause-pieces : goal.returns-in-Ok-eq0-clause-pieces
returns-in-Ok-eq0-clause-pieces g c =
    subst (λ (unwritten : Unwritten). OffersAll g.S.Shelf.appends c.args.shelf.now c.args.piece.now (Err unwritten) c.append.new.self) (sym c.stalled.ensures)
    (at_stop g.S.Shelf.appends c.args.shelf.now c.loop-at.shelf c.append.new.self c.args.piece.now c.loop-at.at (Ok c.in-Ok-eq0.field-0) c.loop-at-test.true c.in-Ok-eq0.field-0-test c.in-Ok-eq0.ensures.goes c.loop-at.invariant.pieces)

pub returns-in-Err-clause-pieces : goal.returns-in-Err-clause-pieces
returns-in-Err-clause-pieces g c =
    subst (λ (unwritten : Unwritten). OffersAll g.S.Shelf.appends c.args.shelf.now c.args.piece.now (Err unwritten) c.append.new.self) (sym c.failed.ensures)
    (at_stop g.S.Shelf.appends c.args.shelf.now c.loop-at.shelf c.append.new.self c.args.piece.now c.loop-at.at (Err c.in-Err.error) c.loop-at-test.true refl c.in-Err.ensures.goes c.loop-at.invariant.pieces)

pub returns-clause-pieces : goal.returns-clause-pieces
returns-clause-pieces g c = at_end g.S.Shelf.appends c.args.shelf.now c.loop-at.shelf c.args.piece.now c.loop-at.at c.loop-at-test.false c.loop-at.invariant.pieces
