use Rattle.rich_types_laws.proofs.Agreeing.{sizes_agree, qualifiers_agree}
use Rattle.rich_types_laws.proofs.laws.one_size.Goals as goal

pub returns-clause-sizes : goal.returns-clause-sizes
returns-clause-sizes c = sizes_agree

pub returns-clause-qualifiers : goal.returns-clause-qualifiers
returns-clause-qualifiers c = qualifiers_agree
