-- Too few operands break `operands`.
use Rattle.std.proofs.Common.{◌≡◌, [], None, refl}
use Rattle.rich_types.specs.Scopes.{Scope}
use Rattle.rich_typing.specs.declared.rules.Rule.TheVariants as rule
use Rattle.rich_rules.specs.Points.{Breaks, Broke}
use Rattle.rw_new_cells.specs.declared.made.Made.{Made}
use Rattle.rw_new_cells.specs.Made.{made_of}

pub none_for_made : (c : Scope) (made : Made) → made_of c made [] ≡ Breaks (Broke rule.Operands None None)
none_for_made c made = refl
