-- How rows are written: modules, and what is said of them. This project's own.
use Rattle.std.specs.Prelude.{ℕ, List, [], ◌∷◌, Bool, Option, codes}
use Rattle.rw_types.specs.declared.instrs.BlockSig.{BlockSig}
use Rattle.rw_types.specs.declared.instrs.Instr.{Instr}
use Rattle.rw_types.specs.declared.instrs.LocalTy.{LocalTy}
use Rattle.rw_types.specs.declared.modules.ImportDef.{ImportDef}
use Rattle.rw_types.specs.declared.modules.FuncDef.{FuncDef}
use Rattle.rw_types.specs.declared.modules.GlobalDef.{GlobalDef}
use Rattle.rw_types.specs.declared.modules.ExportDef.{ExportDef}
use Rattle.rw_types.specs.declared.modules.Module.{Module}
use Rattle.rw_types.specs.declared.types.Binder.{Binder}
use Rattle.rw_types.specs.declared.types.FunType.{FunType}
use Rattle.rw_types.specs.declared.types.Ty.{Ty}
use Rattle.rich_types.specs.Rows.{long}
use Rattle.rich_typing.specs.declared.notes.Note.{Note}
use Rattle.rich_typing.specs.declared.notes.Place.{Place}
use Rattle.rich_typing.specs.declared.notes.Place.TheVariants.{FuncAt}
use Rattle.rich_typing.specs.declared.rules.Rule.{Rule}
use Rattle.rich_rules.specs.Modules.{IsWellTyped, IsFirstViolation}

-- a function type
abbrev pub fun_type : List Binder → List Ty → List Ty → FunType
fun_type binders params results = record { binders = binders; params = params; results = results }

-- a signature, and that of nothing
abbrev pub signature : List Ty → List Ty → List LocalTy → BlockSig
signature params results locals = record { params = params; results = results; locals = locals }

abbrev pub local : ℕ → Ty → LocalTy
local n t = record { index = n; ty = t }

abbrev pub plain : BlockSig
plain = signature [] [] []

-- a function, and one that takes nothing and gives a number
abbrev pub function : FunType → List ℕ → List Instr → FuncDef
function ty locals body = record { ty = ty; locals = locals; body = body }

abbrev pub main_function : List ℕ → List Instr → FuncDef
main_function locals body = function (fun_type [] [] (long ∷ [])) locals body

-- other fields
abbrev pub import_of : FunType → ImportDef
import_of ty = record { «module» = codes "a"; name = codes "f"; ty = ty }

abbrev pub global : Bool → Ty → List Instr → GlobalDef
global mutable ty body = record { mutable = mutable; ty = ty; body = body }

abbrev pub export : List ℕ → ℕ → ExportDef
export name n = record { name = name; func = n }

-- a module of these fields, and one of functions alone
abbrev pub module_of : List ImportDef → List FuncDef → List GlobalDef → List ExportDef → Module
module_of imports funcs globals exports = record { imports = imports; funcs = funcs; globals = globals; exports = exports }

abbrev pub functions : List FuncDef → Module
functions funcs = module_of [] funcs [] []

-- the module is well typed
abbrev pub Accepted : Module → Type 0
Accepted m = (notes : List (List Note)) × IsWellTyped m notes

-- its first violation
abbrev pub Refused : Module → Place → Rule → Option Ty → Option Ty → Type 0
Refused m place broken found expected = IsFirstViolation m place broken found expected

-- the first violation of the module of one function that takes nothing and gives a number, at this path of its body
abbrev pub BodyRefused : List ℕ → List Instr → List ℕ → Rule → Option Ty → Option Ty → Type 0
BodyRefused locals body path broken found expected = Refused (functions (main_function locals body ∷ [])) (FuncAt 0 path) broken found expected
