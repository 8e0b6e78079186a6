use Rattle.words.proofs.Sources as sources
use Rattle.words.proofs.laws.source_files.Goals as goal

pub returns-clause-sources : goal.returns-clause-sources
returns-clause-sources c = sources.tells_sources

pub returns-clause-modules : goal.returns-clause-modules
returns-clause-modules c = sources.names_modules
