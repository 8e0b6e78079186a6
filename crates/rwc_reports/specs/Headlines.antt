-- What stands after a program was built; this project's own.
use Rattle.std.specs.Prelude.{◌≡◌, List, ℕ, ◌++◌, length}
use Rattle.std.specs.declared.option.Option.TheVariants.{Some}
use Rattle.std.specs.declared.result.Result.TheVariants.{Ok}
use Rattle.wasm_grammar.specs.CanonicalModules.{module_bytes}
use Rattle.wasm_grammar.specs.GrammarModules.{SpellsModule}
use Rattle.rw_program.specs.Programs.{Program}
use Rattle.lowering_table.specs.declared.Pages.{Pages}
use Rattle.lowering_table.specs.Modules.{low_module}
use Rattle.machine_steps.specs.Agreement.{Alike}
use Rattle.rich_reduction.specs.Starts.{rich}
use Rattle.wasm_execution.specs.Behaviour.{wasm}
use Rattle.rw_io.specs.Files.{NamedFile}
use Rattle.rw_io.specs.States.{ShelfState, SinkState}
use Rattle.words.specs.Words.{Source}
use Rattle.rwc_reports.specs.Lines.{wrote_line}
use Rattle.rwc_reports.specs.Sources.{FilesLead}

-- The told files lead to a program; what was created under the name is exactly the canonical bytes of the module that the
-- program is lowered to with these pages, all of which by the binary grammar spell that module; that module prints and ends
-- as the program's reduction does, both ways, unless it is exhausted; and standard output, which held `said`, holds the line
-- behind that.
pub record Built (told : List NamedFile) (sources : List Source) (pages : Pages) (name said : List ℕ) (shelf' : ShelfState) (out' : SinkState) : Type 0 where
  pub program : Program
  pub leads : FilesLead told sources (Ok program)
  pub spelled : SpellsModule (module_bytes (low_module program pages)) (low_module program pages)
  pub behaves : Alike (λ n. rich program n) (λ m. wasm (low_module program pages) m)
  pub created : shelf'.holding.created ≡ Some (name, module_bytes (low_module program pages))
  pub put : out'.bytes ≡ Some (said ++ wrote_line name (length (module_bytes (low_module program pages))))
