use Rattle.lowering_rows_worked.proofs.ControlRows.{adding, branching_if, choosing, ended_lists, folding, giving_five_words, grouping, looping, moving_down, narrow_count, narrow_numbers, nothing, returning, wide_count}
use Rattle.lowering_rows_worked.proofs.control_is_lowered.Goals as goal

pub returns-clause-adding : goal.returns-clause-adding
returns-clause-adding c = adding

pub returns-clause-moving_down : goal.returns-clause-moving_down
returns-clause-moving_down c = moving_down

pub returns-clause-branching_if : goal.returns-clause-branching_if
returns-clause-branching_if c = branching_if

pub returns-clause-looping : goal.returns-clause-looping
returns-clause-looping c = looping

pub returns-clause-returning : goal.returns-clause-returning
returns-clause-returning c = returning

pub returns-clause-choosing : goal.returns-clause-choosing
returns-clause-choosing c = choosing

pub returns-clause-giving_five_words : goal.returns-clause-giving_five_words
returns-clause-giving_five_words c = giving_five_words

pub returns-clause-narrow_numbers : goal.returns-clause-narrow_numbers
returns-clause-narrow_numbers c = narrow_numbers

pub returns-clause-ended_lists : goal.returns-clause-ended_lists
returns-clause-ended_lists c = ended_lists

pub returns-clause-folding : goal.returns-clause-folding
returns-clause-folding c = folding

pub returns-clause-grouping : goal.returns-clause-grouping
returns-clause-grouping c = grouping

pub returns-clause-nothing : goal.returns-clause-nothing
returns-clause-nothing c = nothing

pub returns-clause-narrow_count : goal.returns-clause-narrow_count
returns-clause-narrow_count c = narrow_count

pub returns-clause-wide_count : goal.returns-clause-wide_count
returns-clause-wide_count c = wide_count
