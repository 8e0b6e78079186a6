-- Modules of one exported function without parameters, locals and nested lists: the programs that
-- are read and lowered so far. This project's own.
use Rattle.std.specs.Prelude.{◌≡◌, ◌≤◌, ◌<◌, ◌^◌, List, [], ◌∷◌, length, codes, ⊤}
use Rattle.rw_types.specs.declared.instrs.Instr.{Instr, I64Const, Num, Print, Drop}
use Rattle.rw_types.specs.declared.modules.Module.{Module}
use Rattle.rw_types.specs.declared.numbers.NumName.TheVariants.{I64Add}
use Rattle.rw_types.specs.declared.types.FunType.{FunType}
use Rattle.rw_types.specs.declared.types.Pre.{I64}
use Rattle.rw_types.specs.declared.types.Qual.TheVariants.{Unr}
use Rattle.rw_types.specs.declared.types.Ty.{Of}

-- the instructions that are read so far: a constant of 64 bits, the addition, the print and the drop
abbrev pub IsPlain : Instr → Type 0
IsPlain (I64Const n) = n < 2 ^ 64
IsPlain (Num I64Add) = ⊤
IsPlain Print = ⊤
IsPlain Drop = ⊤
IsPlain _ = ⊥

-- each instruction is of these
abbrev pub ArePlain : List Instr → Type 0
ArePlain [] = ⊤
ArePlain (i ∷ is) = IsPlain i × ArePlain is

-- the type of a function that takes nothing and gives one unrestricted i64
abbrev pub main_type : FunType
main_type = record { binders = []; params = []; results = Of Unr I64 ∷ [] }

-- the module whose one function has this body and is exported as `main`
abbrev pub lone_main : List Instr → Module
lone_main body = record {
  imports = [];
  funcs = record { ty = main_type; locals = []; body = body } ∷ [];
  globals = [];
  exports = record { name = codes "main"; func = 0 } ∷ [];
}

-- such a module, of at most 1,000 plain instructions
pub record IsLoneMain (m : Module) : Type 0 where
  pub body : List Instr
  pub is : m ≡ lone_main body
  pub plain : ArePlain body
  pub short : length body ≤ 1000
