use Rattle.std.proofs.Common.{◌≡◌, length, map}
use Rattle.rich_text.specs.Reading as definition
use Rattle.rw_instruction_words.proofs.tables.look_up.Given as goal

abbrev pub invariant-loop-table : goal.invariant-loop-table
invariant-loop-table g l = definition.look_up l.word (map (λ e. (e.0.now, e.1)) l.table) ≡ definition.look_up l.word (map (λ e. (e.0.now, e.1)) l.initial.table)

abbrev pub decreases-loop-table : goal.decreases-loop-table
decreases-loop-table g l = length l.table
