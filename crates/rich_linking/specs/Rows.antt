-- Files with what they link to, written out. This project's own.
use Rattle.std.specs.Prelude.{◌≡◌, ℕ, List, [], ◌∷◌, true, false, Ok, Err, codes}
use Rattle.rw_types.specs.declared.instrs.Instr.{Call, Coderef, Drop, GlobalGet, GlobalSet, I64Const, Instr, LocalTake}
use Rattle.rw_types.specs.declared.instrs.Instr.TheVariants.{Block}
use Rattle.rw_types.specs.declared.modules.ExportDef.{ExportDef}
use Rattle.rw_types.specs.declared.modules.FuncDef.{FuncDef}
use Rattle.rw_types.specs.declared.modules.GlobalDef.{GlobalDef}
use Rattle.rw_types.specs.declared.modules.ImportDef.{ImportDef}
use Rattle.rw_types.specs.declared.types.FunType.{FunType}
use Rattle.rw_types.specs.declared.types.Pre.{I64}
use Rattle.rw_types.specs.declared.types.Qual.TheVariants.{Lin}
use Rattle.rw_types.specs.declared.types.Ty.{Of, Ty}
use Rattle.rich_types.specs.Rows.{long}
use Rattle.rw_program.specs.declared.linked.LinkedFunc.{LinkedFunc}
use Rattle.rw_program.specs.declared.linked.LinkedGlobal.{LinkedGlobal}
use Rattle.rich_linking.specs.Linked.{DuplicateModule, File, MainType, NoExport, NoMain, NoModule, TypeDiffers, linked}

-- a function type from one type to another, one from nothing, and one of nothing
abbrev from_to : Ty → Ty → FunType
from_to t u = record { binders = []; params = t ∷ []; results = u ∷ [] }

abbrev giving : Ty → FunType
giving t = record { binders = []; params = []; results = t ∷ [] }

-- fields
abbrev func : FunType → List Instr → FuncDef
func ty body = record { ty = ty; locals = []; body = body }

abbrev import_of : List ℕ → List ℕ → FunType → ImportDef
import_of file name ty = record { «module» = file; name = name; ty = ty }

abbrev export : List ℕ → ℕ → ExportDef
export name n = record { name = name; func = n }

-- a file without notes
abbrev file : List ℕ → List ImportDef → List FuncDef → List GlobalDef → List ExportDef → File
file name imports funcs globals exports = (name, record { source = record { imports = imports; funcs = funcs; globals = globals; exports = exports }; notes = [] ∷ [] ∷ [] ∷ [] ∷ [] })

-- a library with a function of linear numbers, and a program that imports it with this type
abbrev library : File
library = file (codes "a") [] (func (from_to (Of Lin I64) (Of Lin I64)) (LocalTake 0 ∷ []) ∷ []) [] (export (codes "f") 0 ∷ [])

abbrev program : FunType → File
program ty = file (codes "b") (import_of (codes "a") (codes "f") ty ∷ []) (func (giving long) (I64Const 0 ∷ []) ∷ []) [] (export (codes "main") 1 ∷ [])

-- two files that import from each other, each with globals of its own
abbrev even : File
even = file (codes "even") (import_of (codes "odd") (codes "odd") (giving long) ∷ [])
    (func (giving long) (Call 0 [] ∷ []) ∷ func (giving long) (Block (record { params = []; results = long ∷ []; locals = [] }) (Call 1 [] ∷ []) ∷ GlobalSet 1 ∷ GlobalGet 0 ∷ []) ∷ [])
    (record { mutable = false; ty = long; body = I64Const 3 ∷ [] } ∷ record { mutable = true; ty = long; body = GlobalGet 0 ∷ [] } ∷ [])
    (export (codes "even") 2 ∷ [])

abbrev odd : File
odd = file (codes "odd") (import_of (codes "even") (codes "even") (giving long) ∷ import_of (codes "odd") (codes "odd") (giving long) ∷ [])
    (func (giving long) (GlobalGet 0 ∷ []) ∷ func (giving long) (Coderef 3 ∷ Drop ∷ Call 0 [] ∷ Drop ∷ Call 1 [] ∷ []) ∷ [])
    (record { mutable = false; ty = long; body = I64Const 5 ∷ [] } ∷ [])
    (export (codes "odd") 2 ∷ export (codes "main") 3 ∷ [])

-- a function of a program
abbrev linked_func : ℕ → FunType → List Instr → LinkedFunc
linked_func n ty body = record { file = n; ty = ty; locals = []; body = body; notes = [] }

-- a global of a program
abbrev linked_global : ℕ → List Instr → LinkedGlobal
linked_global n body = record { file = n; mutable = false; ty = long; body = body; notes = [] }

-- names, then imports one by one, each for its file, its export and its type, and then the main function of the last file; a
-- program counts functions and globals through its files
pub record WorkedLinks : Type 0 where
  pub other_type : linked (library ∷ program (from_to long long) ∷ []) ≡ Err (TypeDiffers 1 0 (from_to (Of Lin I64) (Of Lin I64)) (from_to long long))
  pub no_file : linked (program (from_to long long) ∷ []) ≡ Err (NoModule 0 0)
  pub nothing : linked [] ≡ Err NoMain
  pub no_main : linked (program (from_to (Of Lin I64) (Of Lin I64)) ∷ library ∷ []) ≡ Err NoMain
  pub one_name : linked (library ∷ program (giving long) ∷ library ∷ program (giving long) ∷ []) ≡ Err (DuplicateModule 0 2)
  pub no_export : linked (file (codes "a") [] [] [] [] ∷ program (giving long) ∷ []) ≡ Err (NoExport 1 0)
  pub first_import : linked (library ∷ file (codes "b") (import_of (codes "a") (codes "g") (giving long) ∷ import_of (codes "c") (codes "f") (giving long) ∷ []) [] [] [] ∷ []) ≡ Err (NoExport 1 0)
  pub main_type : linked (file (codes "a") [] (func (giving (Of Lin I64)) [] ∷ []) [] (export (codes "main") 0 ∷ []) ∷ []) ≡ Err MainType
  pub one_file : linked (library ∷ program (from_to (Of Lin I64) (Of Lin I64)) ∷ []) ≡ Ok (record {
    funcs = linked_func 0 (from_to (Of Lin I64) (Of Lin I64)) (LocalTake 0 ∷ []) ∷ linked_func 1 (giving long) (I64Const 0 ∷ []) ∷ [];
    globals = [];
    main = 1;
  })
  pub two_files : linked (even ∷ odd ∷ []) ≡ Ok (record {
    funcs = linked_func 0 (giving long) (Call 2 [] ∷ []) ∷ linked_func 0 (giving long) (Block (record { params = []; results = long ∷ []; locals = [] }) (Call 0 [] ∷ []) ∷ GlobalSet 1 ∷ GlobalGet 0 ∷ [])
        ∷ linked_func 1 (giving long) (GlobalGet 2 ∷ []) ∷ linked_func 1 (giving long) (Coderef 3 ∷ Drop ∷ Call 1 [] ∷ Drop ∷ Call 2 [] ∷ []) ∷ [];
    globals = linked_global 0 (I64Const 3 ∷ []) ∷ record { file = 0; mutable = true; ty = long; body = GlobalGet 0 ∷ []; notes = [] } ∷ linked_global 1 (I64Const 5 ∷ []) ∷ [];
    main = 3;
  })
