use Rattle.rich_types.specs.Scopes.{scope_of}
use Rattle.rw_type_tests.proofs.Told.{formed_told}
use Rattle.rw_type_tests.proofs.tests.is_formed.Goals as goal

pub returns : goal.returns
returns c = formed_told (scope_of c.args.c.now.binders) c.args.t.now _ c.well_formed-2.ensures
