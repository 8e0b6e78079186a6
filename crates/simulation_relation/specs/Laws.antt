-- The first configurations of a program and of its lowered module. This project's own.
use Rattle.rw_program.specs.Programs.{Program}
use Rattle.rich_reduction.specs.Starts.{first}
use Rattle.lowering_table.specs.declared.Pages.{Pages}
use Rattle.lowering_table.specs.Allocators.{Allocators}
use Rattle.lowering_modules_laws.specs.Laws.{first_configuration}
use Rattle.simulation_relation.specs.Relation.{Related}

-- they are related
abbrev pub StartsRelated : Type 0
StartsRelated = (codes_of : Allocators) (p : Program) (pages : Pages) → Related codes_of p pages (first p) (first_configuration codes_of p pages)
