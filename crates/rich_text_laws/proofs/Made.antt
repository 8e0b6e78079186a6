-- Each value is what its view makes: a line for each form.
use Rattle.std.proofs.Common.{◌≡◌, true, false, refl, sym, ap, ◌∙◌, subst, Some}
use Rattle.rw_types.specs.declared.instrs.Instr.{Instr, out-Instr, roll-Instr, roll-out-Instr, Num}
use Rattle.rw_types.specs.declared.instrs.Instr.TheVariants.{rolls-Nop, rolls-Unreachable, rolls-Drop, rolls-Unit, rolls-Print, rolls-Return, rolls-CallIndirect, rolls-Qualify, rolls-RecUnfold, rolls-Ungroup, rolls-RefSplit, rolls-RefJoin, rolls-CapSplit, rolls-CapJoin, rolls-StructFree, rolls-ArrayGet, rolls-ArraySet, rolls-ArrayLen, rolls-ArrayFree, rolls-Num, rolls-I32Const, rolls-I64Const, rolls-Block, rolls-Loop, rolls-If, rolls-Br, rolls-BrIf, rolls-LocalGet, rolls-LocalTake, rolls-LocalSet, rolls-GlobalGet, rolls-GlobalSet, rolls-Coderef, rolls-Inst, rolls-Call, rolls-RecFold, rolls-Group, rolls-MemPack, rolls-MemUnpack, rolls-StructMalloc, rolls-StructGet, rolls-StructSet, rolls-StructSwap, rolls-VariantMalloc, rolls-VariantCase, rolls-ArrayMalloc, rolls-ExistPack, rolls-ExistUnpack}
use Rattle.rw_types.specs.declared.instrs.Instr.TheOpen.{Instr-F}
use Rattle.rw_types.specs.declared.numbers.NumName.{NumName}
use Rattle.rw_types.specs.declared.numbers.NumName.TheVariants as num
use Rattle.rw_types.specs.declared.types.Heap.TheOpen.{Ty-F, Pre-F, Heap-F}
use Rattle.rw_types.specs.declared.types.FunType.{FunType}
use Rattle.rw_types.specs.declared.types.Heap.{Heap, out-Heap, roll-Heap, roll-out-Heap}
use Rattle.rw_types.specs.declared.types.Slot.{Slot}
use Rattle.rw_types.specs.declared.types.Pre.{Pre, out-Pre, roll-Pre, roll-out-Pre}
use Rattle.rw_types.specs.declared.types.Pre.TheVariants.{rolls-Unit as pre_unit_rolls, rolls-I32, rolls-I64, rolls-Tuple, rolls-Ref, rolls-Ptr, rolls-Cap, rolls-Own, rolls-Hidden, rolls-Code}
use Rattle.rw_types.specs.declared.types.Heap.TheVariants.{rolls-Struct, rolls-Variant, rolls-Array, rolls-Exist}
use Rattle.rw_types.specs.declared.types.Mem.TheVariants.{L, U}
use Rattle.rw_types.specs.declared.types.Priv.TheVariants.{Rw, R}
use Rattle.rw_types.specs.declared.types.Binder.TheVariants.{Loc, Kind}
use Rattle.rw_types.specs.declared.types.Arg.TheVariants.{Loc as arg_loc, Given as arg_given}
use Rattle.rw_types.specs.declared.types.Ty.{Ty, out-Ty, roll-Ty, roll-out-Ty}
use Rattle.rw_types.specs.declared.types.Ty.TheVariants.{rolls-Of, rolls-Var, rolls-Rec}
use Rattle.rw_types.specs.declared.types.Qual.TheVariants.{Unr, Lin}
use Rattle.rich_text.specs.Forms.{Form, Meaning, qualifier_form, memory_form, privilege_form, type_form, types_form, pretype_form, heap_form, slot_form, function_type_form, binder_form, binders_form, local_form, local_types_form, locals_form, instruction_form, argument_form, arm_form, then_form, else_form, function_form, export_form, import_form, global_form, mutability_form, version_form, module_form}
use Rattle.rich_text.specs.Reading.{look_up}
use Rattle.rich_text.specs.Canonical.{Makes}
use Rattle.rich_text.specs.FirstVersion.{first_version}
use Rattle.rich_text.specs.Views.{operator_word, instruction_layer, instruction_view, type_layer, type_view, function_type_view, pretype_layer, heap_layer, views}

num_made : (n : NumName) → look_up (operator_word n) (first_version instruction_form).words ≡ Some (Num n)
num_made num.I32Eqz = refl
num_made num.I32Eq = refl
num_made num.I32Ne = refl
num_made num.I32LtS = refl
num_made num.I32LtU = refl
num_made num.I32GtS = refl
num_made num.I32GtU = refl
num_made num.I32LeS = refl
num_made num.I32LeU = refl
num_made num.I32GeS = refl
num_made num.I32GeU = refl
num_made num.I64Eqz = refl
num_made num.I64Eq = refl
num_made num.I64Ne = refl
num_made num.I64LtS = refl
num_made num.I64LtU = refl
num_made num.I64GtS = refl
num_made num.I64GtU = refl
num_made num.I64LeS = refl
num_made num.I64LeU = refl
num_made num.I64GeS = refl
num_made num.I64GeU = refl
num_made num.I32Clz = refl
num_made num.I32Ctz = refl
num_made num.I32Popcnt = refl
num_made num.I32Add = refl
num_made num.I32Sub = refl
num_made num.I32Mul = refl
num_made num.I32DivS = refl
num_made num.I32DivU = refl
num_made num.I32RemS = refl
num_made num.I32RemU = refl
num_made num.I32And = refl
num_made num.I32Or = refl
num_made num.I32Xor = refl
num_made num.I32Shl = refl
num_made num.I32ShrS = refl
num_made num.I32ShrU = refl
num_made num.I32Rotl = refl
num_made num.I32Rotr = refl
num_made num.I64Clz = refl
num_made num.I64Ctz = refl
num_made num.I64Popcnt = refl
num_made num.I64Add = refl
num_made num.I64Sub = refl
num_made num.I64Mul = refl
num_made num.I64DivS = refl
num_made num.I64DivU = refl
num_made num.I64RemS = refl
num_made num.I64RemU = refl
num_made num.I64And = refl
num_made num.I64Or = refl
num_made num.I64Xor = refl
num_made num.I64Shl = refl
num_made num.I64ShrS = refl
num_made num.I64ShrU = refl
num_made num.I64Rotl = refl
num_made num.I64Rotr = refl
num_made num.I32WrapI64 = refl
num_made num.I64ExtendI32S = refl
num_made num.I64ExtendI32U = refl

instruction_layer_made : (x : Instr-F Instr) → Makes (first_version instruction_form) (instruction_layer x) (roll-Instr x)
instruction_layer_made Instr-F.Nop = ap Some (sym rolls-Nop)
instruction_layer_made Instr-F.Unreachable = ap Some (sym rolls-Unreachable)
instruction_layer_made Instr-F.Drop = ap Some (sym rolls-Drop)
instruction_layer_made Instr-F.Unit = ap Some (sym rolls-Unit)
instruction_layer_made Instr-F.Print = ap Some (sym rolls-Print)
instruction_layer_made Instr-F.Return = ap Some (sym rolls-Return)
instruction_layer_made Instr-F.CallIndirect = ap Some (sym rolls-CallIndirect)
instruction_layer_made Instr-F.Qualify = ap Some (sym rolls-Qualify)
instruction_layer_made Instr-F.RecUnfold = ap Some (sym rolls-RecUnfold)
instruction_layer_made Instr-F.Ungroup = ap Some (sym rolls-Ungroup)
instruction_layer_made Instr-F.RefSplit = ap Some (sym rolls-RefSplit)
instruction_layer_made Instr-F.RefJoin = ap Some (sym rolls-RefJoin)
instruction_layer_made Instr-F.CapSplit = ap Some (sym rolls-CapSplit)
instruction_layer_made Instr-F.CapJoin = ap Some (sym rolls-CapJoin)
instruction_layer_made Instr-F.StructFree = ap Some (sym rolls-StructFree)
instruction_layer_made Instr-F.ArrayGet = ap Some (sym rolls-ArrayGet)
instruction_layer_made Instr-F.ArraySet = ap Some (sym rolls-ArraySet)
instruction_layer_made Instr-F.ArrayLen = ap Some (sym rolls-ArrayLen)
instruction_layer_made Instr-F.ArrayFree = ap Some (sym rolls-ArrayFree)
instruction_layer_made (Instr-F.Num n) = num_made n ∙ ap Some (sym (rolls-Num n))
instruction_layer_made (Instr-F.I32Const a) = rolls-I32Const a
instruction_layer_made (Instr-F.I64Const a) = rolls-I64Const a
instruction_layer_made (Instr-F.Block a b) = rolls-Block a b
instruction_layer_made (Instr-F.Loop a b) = rolls-Loop a b
instruction_layer_made (Instr-F.If a b c) = rolls-If a b c
instruction_layer_made (Instr-F.Br a) = rolls-Br a
instruction_layer_made (Instr-F.BrIf a) = rolls-BrIf a
instruction_layer_made (Instr-F.LocalGet a) = rolls-LocalGet a
instruction_layer_made (Instr-F.LocalTake a) = rolls-LocalTake a
instruction_layer_made (Instr-F.LocalSet a) = rolls-LocalSet a
instruction_layer_made (Instr-F.GlobalGet a) = rolls-GlobalGet a
instruction_layer_made (Instr-F.GlobalSet a) = rolls-GlobalSet a
instruction_layer_made (Instr-F.Coderef a) = rolls-Coderef a
instruction_layer_made (Instr-F.Inst a) = rolls-Inst a
instruction_layer_made (Instr-F.Call a b) = rolls-Call a b
instruction_layer_made (Instr-F.RecFold a) = rolls-RecFold a
instruction_layer_made (Instr-F.Group a b) = rolls-Group a b
instruction_layer_made (Instr-F.MemPack a b) = rolls-MemPack a b
instruction_layer_made (Instr-F.MemUnpack a b) = rolls-MemUnpack a b
instruction_layer_made (Instr-F.StructMalloc a b) = rolls-StructMalloc a b
instruction_layer_made (Instr-F.StructGet a) = rolls-StructGet a
instruction_layer_made (Instr-F.StructSet a) = rolls-StructSet a
instruction_layer_made (Instr-F.StructSwap a) = rolls-StructSwap a
instruction_layer_made (Instr-F.VariantMalloc a b c) = rolls-VariantMalloc a b c
instruction_layer_made (Instr-F.VariantCase a b) = rolls-VariantCase a b
instruction_layer_made (Instr-F.ArrayMalloc a) = rolls-ArrayMalloc a
instruction_layer_made (Instr-F.ExistPack a b c d e) = rolls-ExistPack a b c d e
instruction_layer_made (Instr-F.ExistUnpack a b) = rolls-ExistUnpack a b

pub instruction_made : (i : Instr) → Makes (first_version instruction_form) (instruction_view i) i
instruction_made i = subst (λ (j : Instr). Makes (first_version instruction_form) (instruction_layer (out-Instr i)) j) (roll-out-Instr i) (instruction_layer_made (out-Instr i))

type_layer_made : (x : Ty-F Heap Pre Ty FunType Slot) → Makes (first_version type_form) (type_layer x) (roll-Ty x)
type_layer_made (Ty-F.Of Unr p) = rolls-Of Unr p
type_layer_made (Ty-F.Of Lin p) = rolls-Of Lin p
type_layer_made (Ty-F.Var n) = rolls-Var n
type_layer_made (Ty-F.Rec q s t) = rolls-Rec q s t

pub type_made : (t : Ty) → Makes (first_version type_form) (type_view t) t
type_made t = subst (λ (u : Ty). Makes (first_version type_form) (type_layer (out-Ty t)) u) (roll-out-Ty t) (type_layer_made (out-Ty t))

pub function_type_made : (f : FunType) → Makes (first_version function_type_form) (function_type_view f) f
function_type_made f = refl

pretype_layer_made : (x : Pre-F Heap Pre Ty FunType Slot) → Makes (first_version pretype_form) (pretype_layer x) (roll-Pre x)
pretype_layer_made Pre-F.Unit = ap Some (sym pre_unit_rolls)
pretype_layer_made Pre-F.I32 = ap Some (sym rolls-I32)
pretype_layer_made Pre-F.I64 = ap Some (sym rolls-I64)
pretype_layer_made (Pre-F.Tuple ts) = rolls-Tuple ts
pretype_layer_made (Pre-F.Ref p l h) = rolls-Ref p l h
pretype_layer_made (Pre-F.Ptr l) = rolls-Ptr l
pretype_layer_made (Pre-F.Cap p l h) = rolls-Cap p l h
pretype_layer_made (Pre-F.Own l) = rolls-Own l
pretype_layer_made (Pre-F.Hidden m t) = rolls-Hidden m t
pretype_layer_made (Pre-F.Code f) = rolls-Code f

heap_layer_made : (x : Heap-F Heap Pre Ty FunType Slot) → Makes (first_version heap_form) (heap_layer x) (roll-Heap x)
heap_layer_made (Heap-F.Struct v) = rolls-Struct v
heap_layer_made (Heap-F.Variant v) = rolls-Variant v
heap_layer_made (Heap-F.Array t) = rolls-Array t
heap_layer_made (Heap-F.Exist q s t) = rolls-Exist q s t

pub made : (s : Form) (x : Meaning s) → Makes (first_version s) (views s x) x
made qualifier_form Unr = refl
made qualifier_form Lin = refl
made memory_form L = refl
made memory_form U = refl
made privilege_form Rw = refl
made privilege_form R = refl
made type_form t = type_made t
made types_form v = refl
made pretype_form p = subst (λ (u : Pre). Makes (first_version pretype_form) (pretype_layer (out-Pre p)) u) (roll-out-Pre p) (pretype_layer_made (out-Pre p))
made heap_form p = subst (λ (u : Heap). Makes (first_version heap_form) (heap_layer (out-Heap p)) u) (roll-out-Heap p) (heap_layer_made (out-Heap p))
made slot_form v = refl
made function_type_form f = refl
made binder_form (Loc m) = refl
made binder_form (Kind q s) = refl
made binders_form v = refl
made local_form v = refl
made local_types_form v = refl
made locals_form v = refl
made instruction_form i = instruction_made i
made argument_form (arg_loc l) = refl
made argument_form (arg_given t) = refl
made arm_form v = refl
made then_form v = refl
made else_form v = refl
made function_form f = refl
made export_form e = refl
made import_form i = refl
made global_form g = refl
made mutability_form true = refl
made mutability_form false = refl
made version_form v = refl
made module_form m = refl
