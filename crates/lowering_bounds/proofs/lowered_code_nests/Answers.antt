use Rattle.lowering_bounds.proofs.Nesting.{functions_nest, lists_nest, starts_nest}
use Rattle.lowering_bounds.proofs.lowered_code_nests.Goals as goal

pub returns-clause-lists : goal.returns-clause-lists
returns-clause-lists c = lists_nest

pub returns-clause-functions : goal.returns-clause-functions
returns-clause-functions c = functions_nest

pub returns-clause-starts : goal.returns-clause-starts
returns-clause-starts c = starts_nest
