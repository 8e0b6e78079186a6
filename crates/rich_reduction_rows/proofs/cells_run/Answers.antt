use Rattle.rich_reduction_rows.proofs.CellRuns.{setting, setting_says, splitting, splitting_says, mixed, sharing, index, index_says, index_operands, swapping, swapping_says, swapping_leaves, apart, apart_says, copied, copied_says}
use Rattle.rich_reduction_rows.proofs.cells_run.Goals as goal

pub returns-clause-setting : goal.returns-clause-setting
returns-clause-setting c = setting

pub returns-clause-setting_says : goal.returns-clause-setting_says
returns-clause-setting_says c = setting_says

pub returns-clause-splitting : goal.returns-clause-splitting
returns-clause-splitting c = splitting

pub returns-clause-splitting_says : goal.returns-clause-splitting_says
returns-clause-splitting_says c = splitting_says

pub returns-clause-mixed : goal.returns-clause-mixed
returns-clause-mixed c = mixed

pub returns-clause-sharing : goal.returns-clause-sharing
returns-clause-sharing c = sharing

pub returns-clause-index : goal.returns-clause-index
returns-clause-index c = index

pub returns-clause-index_says : goal.returns-clause-index_says
returns-clause-index_says c = index_says

pub returns-clause-index_operands : goal.returns-clause-index_operands
returns-clause-index_operands c = index_operands

pub returns-clause-swapping : goal.returns-clause-swapping
returns-clause-swapping c = swapping

pub returns-clause-swapping_says : goal.returns-clause-swapping_says
returns-clause-swapping_says c = swapping_says

pub returns-clause-swapping_leaves : goal.returns-clause-swapping_leaves
returns-clause-swapping_leaves c = swapping_leaves

pub returns-clause-apart : goal.returns-clause-apart
returns-clause-apart c = apart

pub returns-clause-apart_says : goal.returns-clause-apart_says
returns-clause-apart_says c = apart_says

pub returns-clause-copied : goal.returns-clause-copied
returns-clause-copied c = copied

pub returns-clause-copied_says : goal.returns-clause-copied_says
returns-clause-copied_says c = copied_says
