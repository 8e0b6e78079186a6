use Rattle.rich_text_laws.proofs.Whole.{one_module, read_is_spelled, spelled_is_read}
use Rattle.rich_text_laws.proofs.one_text_one_module.Goals as goal

pub returns-clause-one : goal.returns-clause-one
returns-clause-one c = one_module

pub returns-clause-read : goal.returns-clause-read
returns-clause-read c = read_is_spelled

pub returns-clause-spelled : goal.returns-clause-spelled
returns-clause-spelled c = spelled_is_read
