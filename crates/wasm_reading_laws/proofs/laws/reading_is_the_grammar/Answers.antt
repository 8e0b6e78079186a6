use Rattle.wasm_reading_laws.proofs.Modules.{read_is_spelled, spelled_is_read}
use Rattle.wasm_reading_laws.proofs.laws.reading_is_the_grammar.Goals as goal

pub returns-clause-read : goal.returns-clause-read
returns-clause-read c = read_is_spelled

pub returns-clause-spelled : goal.returns-clause-spelled
returns-clause-spelled c = spelled_is_read
