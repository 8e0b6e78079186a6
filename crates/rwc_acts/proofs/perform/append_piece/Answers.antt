use Rattle.std.proofs.Common.{◌∷◌, [], ◌-◌, length, take, refl, ap}
use Rattle.rw_io.specs.States.{Holding}
use Rattle.rwc_reports.specs.Acts.{append}
use Rattle.rwc_acts.proofs.Endings.{says_left}
use Rattle.rwc_acts.proofs.perform.append_piece.Goals as goal

pub returns-in-Err-clause-performs : goal.returns-in-Err-clause-performs
returns-in-Err-clause-performs g c out = record {
  part = append (take (length c.args.piece.now - c.in-Err.unwritten.left) c.args.piece.now) ∷ [];
  left = c.in-Err.unwritten.left;
  is_part = (c.in-Err.ensures.not_done, c.in-Err.ensures.left, refl);
  outside = ap (λ (h : Holding). record { holding = h; out = out.bytes }) c.in-Err.ensures.appended;
  says = says_left c.not_whole.result _ _ c.not_whole.ensures;
}
