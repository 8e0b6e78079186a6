-- A form with a binder is made of its body, walked one binder deeper.
use Rattle.rw_substitution.proofs.Walked.{rec_walked, exist_walked, hidden_walked}
use Rattle.rw_substitution.proofs.walk.+walks.Goals as goal

pub walk-returns-in_ok-new-in-Rec : goal.walk-returns-in_ok-new-in-Rec
walk-returns-in_ok-new-in-Rec g t c =
    rec_walked _ _ _ _ _ _ _ c.get.ensures c.in_ok-body-in-Rec.ensures c.in_ok-new-in-Rec.ensures _ _ _ c.in-Rec.is c.in_ok-below_variable-in-Rec.ensures

pub walk_heap-returns-in_ok-new-in-Exist : goal.walk_heap-returns-in_ok-new-in-Exist
walk_heap-returns-in_ok-new-in-Exist g t c =
    exist_walked _ _ _ _ _ _ _ c.get-in-Exist.ensures c.in_ok-body-in-Exist.ensures c.in_ok-new-in-Exist.ensures _ _ _ c.in-Exist.is c.in_ok-below_variable-in-Exist.ensures

pub walk_pre-returns-in_ok-new-in-Hidden : goal.walk_pre-returns-in_ok-new-in-Hidden
walk_pre-returns-in_ok-new-in-Hidden g t c =
    hidden_walked _ _ _ _ _ _ _ c.get.ensures c.in_ok-body-in-Hidden.ensures c.in_ok-new-in-Hidden.ensures _ _ c.in-Hidden.is c.in_ok-below_location-in-Hidden.ensures
