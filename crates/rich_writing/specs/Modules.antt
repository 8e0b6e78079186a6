-- The canonical text of a module: its version, each field and its `)` on a line of their own; this project's own.
use Rattle.std.specs.Prelude.{ℕ, List, [], ◌∷◌, ◌++◌, map, codes, decimal}
use Rattle.rw_types.specs.declared.modules.ExportDef.{ExportDef}
use Rattle.rw_types.specs.declared.modules.FuncDef.{FuncDef}
use Rattle.rw_types.specs.declared.modules.GlobalDef.{GlobalDef}
use Rattle.rw_types.specs.declared.modules.ImportDef.{ImportDef}
use Rattle.rw_types.specs.declared.modules.Module.{Module}
use Rattle.rich_writing.specs.Pieces.{in_parentheses, quoted, mutability_text}
use Rattle.rich_writing.specs.Types.{type_text, function_type_text}
use Rattle.rich_writing.specs.Instructions.{instruction_text}

abbrev pub import_text : ImportDef → List ℕ
import_text i = in_parentheses (codes "import" ∷ quoted i.«module» ∷ quoted i.name ∷ function_type_text i.ty ∷ [])

abbrev pub function_text : FuncDef → List ℕ
function_text f = in_parentheses (codes "func" ∷ function_type_text f.ty ∷ in_parentheses (codes "locals" ∷ map decimal f.locals) ∷ map instruction_text f.body)

abbrev pub global_text : GlobalDef → List ℕ
global_text g = in_parentheses (codes "global" ∷ mutability_text g.mutable ∷ type_text g.ty ∷ map instruction_text g.body)

abbrev pub export_text : ExportDef → List ℕ
export_text e = in_parentheses (codes "export" ∷ quoted e.name ∷ decimal e.func ∷ [])

-- fields, each on a line, and what stands behind them
abbrev pub lines : {A : Type 0} → (A → List ℕ) → List A → List ℕ
lines text [] = []
lines text (x ∷ xs) = text x ++ (codes "\n" ++ lines text xs)

-- a module
abbrev pub module_text : Module → List ℕ
module_text m =
    codes "(module 1\n"
    ++ (lines import_text m.imports ++ (lines function_text m.funcs ++ (lines global_text m.globals ++ (lines export_text m.exports ++ codes ")\n"))))
