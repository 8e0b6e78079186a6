-- A form with a binder is written as its body is.
use Rattle.rw_type_texts.proofs.Written.{rec_written, exist_written, hidden_written}
use Rattle.rw_type_texts.proofs.types.+texts.Goals as goal

pub push_type-returns-in-Rec : goal.push_type-returns-in-Rec
push_type-returns-in-Rec t c = rec_written _ _ _ _ _ c.get.ensures _ _ _ c.in-Rec.is c.push_bound.ensures

pub push_heap-returns-in-Exist : goal.push_heap-returns-in-Exist
push_heap-returns-in-Exist t c = exist_written _ _ _ _ _ c.get-in-Exist.ensures _ _ _ c.in-Exist.is c.push_bound.ensures

pub push_pretype-returns-in-Hidden : goal.push_pretype-returns-in-Hidden
push_pretype-returns-in-Hidden t c = hidden_written _ _ _ _ _ c.get.ensures _ _ c.in-Hidden.is c.push_hidden.ensures
