use Rattle.rich_text_laws.proofs.Canonical.{canonical_spells_one, canonical_is_read}
use Rattle.rich_text_laws.proofs.canonical_text_spells.Goals as goal

pub returns-clause-spells : goal.returns-clause-spells
returns-clause-spells c = canonical_spells_one

pub returns-clause-read : goal.returns-clause-read
returns-clause-read c = canonical_is_read
