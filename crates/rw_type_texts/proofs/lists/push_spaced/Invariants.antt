-- What was written, and what is still to be written, are the whole.
use Rattle.std.proofs.Common.{◌≡◌, ◌++◌, drop}
use Rattle.std.specs.Prelude.{map}
use Rattle.rich_writing.specs.Pieces.{spaced}
use Rattle.rw_type_texts.proofs.lists.push_spaced.Given as goal

abbrev pub invariant-loop-form : goal.invariant-loop-form
invariant-loop-form g l = l.out.items ++ spaced (map g.T.Text.text (drop l.form-index l.forms)) ≡ l.fn.out.items ++ spaced (map g.T.Text.text l.forms)
