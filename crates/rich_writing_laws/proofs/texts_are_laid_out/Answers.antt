use Rattle.rich_writing_laws.proofs.Whole.{module_is_laid_out, type_is_laid_out, function_type_is_laid_out}
use Rattle.rich_writing_laws.proofs.texts_are_laid_out.Goals as goal

pub returns-clause-modules : goal.returns-clause-modules
returns-clause-modules c = module_is_laid_out

pub returns-clause-types : goal.returns-clause-types
returns-clause-types c = type_is_laid_out

pub returns-clause-function_types : goal.returns-clause-function_types
returns-clause-function_types c = function_type_is_laid_out
