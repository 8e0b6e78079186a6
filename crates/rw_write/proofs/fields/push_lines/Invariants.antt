-- What was written, and what is still to be written, are the whole.
use Rattle.std.proofs.Common.{◌≡◌, ◌++◌, drop}
use Rattle.rich_writing.specs.Modules.{lines}
use Rattle.rw_write.proofs.fields.push_lines.Given as goal

abbrev pub invariant-loop-field : goal.invariant-loop-field
invariant-loop-field g l = l.out.items ++ lines g.T.Field.text (drop l.field-index l.fields) ≡ l.fn.out.items ++ lines g.T.Field.text l.fields
