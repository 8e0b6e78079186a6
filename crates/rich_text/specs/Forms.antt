-- What a form of a Rich text can stand for (this project's own).
use Rattle.std.specs.Prelude.{ℕ, List, ⊤, Bool}
use Rattle.rw_types.specs.declared.instrs.Instr.{Instr}
use Rattle.rw_types.specs.declared.instrs.LocalTy.{LocalTy}
use Rattle.rw_types.specs.declared.modules.ExportDef.{ExportDef}
use Rattle.rw_types.specs.declared.modules.FuncDef.{FuncDef}
use Rattle.rw_types.specs.declared.modules.GlobalDef.{GlobalDef}
use Rattle.rw_types.specs.declared.modules.ImportDef.{ImportDef}
use Rattle.rw_types.specs.declared.modules.Module.{Module}
use Rattle.rw_types.specs.declared.types.Arg.{Arg}
use Rattle.rw_types.specs.declared.types.Binder.{Binder}
use Rattle.rw_types.specs.declared.types.FunType.{FunType}
use Rattle.rw_types.specs.declared.types.Heap.{Heap}
use Rattle.rw_types.specs.declared.types.Mem.{Mem}
use Rattle.rw_types.specs.declared.types.Pre.{Pre}
use Rattle.rw_types.specs.declared.types.Priv.{Priv}
use Rattle.rw_types.specs.declared.types.Qual.{Qual}
use Rattle.rw_types.specs.declared.types.Slot.{Slot}
use Rattle.rw_types.specs.declared.types.Ty.{Ty}

-- the sorts of forms
pub data Form : Type 0 where
  qualifier_form : Form
  memory_form : Form
  privilege_form : Form
  type_form : Form
  types_form : Form
  pretype_form : Form
  heap_form : Form
  slot_form : Form
  function_type_form : Form
  binder_form : Form
  binders_form : Form
  local_form : Form
  local_types_form : Form
  locals_form : Form
  instruction_form : Form
  argument_form : Form
  arm_form : Form
  then_form : Form
  else_form : Form
  function_form : Form
  export_form : Form
  import_form : Form
  global_form : Form
  mutability_form : Form
  version_form : Form
  module_form : Form

-- what a form of each sort stands for
abbrev pub Meaning : Form → Type 0
Meaning qualifier_form = Qual
Meaning memory_form = Mem
Meaning privilege_form = Priv
Meaning type_form = Ty
Meaning types_form = List Ty
Meaning pretype_form = Pre
Meaning heap_form = Heap
Meaning slot_form = Slot
Meaning function_type_form = FunType
Meaning binder_form = Binder
Meaning binders_form = List Binder
Meaning local_form = LocalTy
Meaning local_types_form = List LocalTy
Meaning locals_form = List ℕ
Meaning instruction_form = Instr
Meaning argument_form = Arg
Meaning arm_form = List Instr
Meaning then_form = List Instr
Meaning else_form = List Instr
Meaning function_form = FuncDef
Meaning export_form = ExportDef
Meaning import_form = ImportDef
Meaning global_form = GlobalDef
Meaning mutability_form = Bool
Meaning version_form = ⊤
Meaning module_form = Module
