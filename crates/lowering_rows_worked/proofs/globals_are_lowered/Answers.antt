use Rattle.lowering_rows_worked.proofs.GlobalsRows.{calling_by_code, code_of_itself, ended_initialiser, global_of_two_words, initialiser_with_cells}
use Rattle.lowering_rows_worked.proofs.globals_are_lowered.Goals as goal

pub returns-clause-calling_by_code : goal.returns-clause-calling_by_code
returns-clause-calling_by_code c = calling_by_code

pub returns-clause-ended_initialiser : goal.returns-clause-ended_initialiser
returns-clause-ended_initialiser c = ended_initialiser

pub returns-clause-global_of_two_words : goal.returns-clause-global_of_two_words
returns-clause-global_of_two_words c = global_of_two_words

pub returns-clause-initialiser_with_cells : goal.returns-clause-initialiser_with_cells
returns-clause-initialiser_with_cells c = initialiser_with_cells

pub returns-clause-code_of_itself : goal.returns-clause-code_of_itself
returns-clause-code_of_itself c = code_of_itself
