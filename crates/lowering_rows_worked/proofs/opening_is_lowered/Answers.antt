use Rattle.lowering_rows_worked.proofs.OpeningRows.{cell_in_a_variant, greatest_case, leaving_a_block, leaving_a_case, parameters_beneath, parameters_of_a_package, unrestricted_package}
use Rattle.lowering_rows_worked.proofs.opening_is_lowered.Goals as goal

pub returns-clause-leaving_a_case : goal.returns-clause-leaving_a_case
returns-clause-leaving_a_case c = leaving_a_case

pub returns-clause-leaving_a_block : goal.returns-clause-leaving_a_block
returns-clause-leaving_a_block c = leaving_a_block

pub returns-clause-parameters_beneath : goal.returns-clause-parameters_beneath
returns-clause-parameters_beneath c = parameters_beneath

pub returns-clause-parameters_of_a_package : goal.returns-clause-parameters_of_a_package
returns-clause-parameters_of_a_package c = parameters_of_a_package

pub returns-clause-unrestricted_package : goal.returns-clause-unrestricted_package
returns-clause-unrestricted_package c = unrestricted_package

pub returns-clause-cell_in_a_variant : goal.returns-clause-cell_in_a_variant
returns-clause-cell_in_a_variant c = cell_in_a_variant

pub returns-clause-greatest_case : goal.returns-clause-greatest_case
returns-clause-greatest_case c = greatest_case
