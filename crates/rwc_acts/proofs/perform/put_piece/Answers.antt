use Rattle.std.proofs.Common.{ℕ, List, ◌∷◌, [], ◌-◌, length, take, refl, ap}
use Rattle.std.specs.declared.option.Option.{Option}
use Rattle.rwc_reports.specs.Acts.{put}
use Rattle.rwc_acts.proofs.Endings.{says_left}
use Rattle.rwc_acts.proofs.perform.put_piece.Goals as goal

pub returns-in-Err-clause-performs : goal.returns-in-Err-clause-performs
returns-in-Err-clause-performs g c shelf = record {
  part = put (take (length c.args.piece.now - c.in-Err.unwritten.left) c.args.piece.now) ∷ [];
  left = c.in-Err.unwritten.left;
  is_part = (c.in-Err.ensures.not_done, c.in-Err.ensures.left, refl);
  outside = ap (λ (b : Option (List ℕ)). record { holding = shelf.holding; out = b }) c.in-Err.ensures.put;
  says = says_left c.not_whole.result _ _ c.not_whole.ensures;
}
