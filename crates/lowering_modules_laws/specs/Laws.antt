-- How lowered modules begin (WebAssembly Core Specification 1.0, section 4.5.4), and those of today's programs. This project's own.
use Rattle.std.specs.Prelude.{◌≡◌, List, []}
use Rattle.rw_types.specs.declared.instrs.Instr.{Instr}
use Rattle.rw_types.specs.LoneMain.{ArePlain}
use Rattle.rich_typing.specs.declared.notes.Note.{Note}
use Rattle.rw_program.specs.LonePrograms.{lone_program}
use Rattle.rw_program.specs.Programs.{Program}
use Rattle.wasm_execution.specs.Calls.{entered}
use Rattle.wasm_execution.specs.Configurations.{Config, TheEnd}
use Rattle.wasm_execution.specs.Starts.{Begins, first_store, start_of}
use Rattle.lowering_table.specs.declared.Pages.{Pages}
use Rattle.lowering_table.specs.Allocators.{Allocators}
use Rattle.lowering_table.specs.Modules.{ArePages, low_module_with, main_function}
use Rattle.lowering_rows.specs.Functions.{start_code}
use Rattle.lowering_modules.specs.Types.{index_of_words}
use Rattle.lowering_modules.specs.Modules.{lowered_module}

-- the first configuration of a lowered module: its exported main is called over the first store
abbrev pub first_configuration : Allocators → Program → Pages → Config
first_configuration codes_of p pages = entered (main_function p) (start_code p (index_of_words p)) [] [] TheEnd (first_store (lowered_module codes_of p pages))

-- each lowered module begins so
abbrev pub ModulesStart : Type 0
ModulesStart = (codes_of : Allocators) (p : Program) (pages : Pages) → ArePages pages → start_of (lowered_module codes_of p pages) ≡ Begins (first_configuration codes_of p pages)

-- of one function of plain instructions
abbrev pub ModulesAlike : Type 0
ModulesAlike = (codes_of : Allocators) (body : List Instr) (notes : List Note) (pages : Pages) → ArePlain body →
    lowered_module codes_of (lone_program body notes) pages ≡ low_module_with codes_of (lone_program body notes) pages
