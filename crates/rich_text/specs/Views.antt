-- How each value is written: a line for each (this project's own).
use Rattle.std.specs.Prelude.{ℕ, List, codes, true, false}
use Rattle.std.proofs.Common.{refl}
use Rattle.rw_types.specs.declared.instrs.Instr.{Instr, out-Instr}
use Rattle.rw_types.specs.declared.instrs.Instr.TheOpen.{Instr-F}
use Rattle.rw_types.specs.declared.numbers.NumName.{NumName}
use Rattle.rw_types.specs.declared.numbers.NumName.TheVariants as num
use Rattle.rw_types.specs.declared.types.Heap.TheOpen.{Ty-F, Pre-F, Heap-F}
use Rattle.rw_types.specs.declared.types.FunType.{FunType}
use Rattle.rw_types.specs.declared.types.Heap.{Heap, out-Heap}
use Rattle.rw_types.specs.declared.types.Slot.{Slot}
use Rattle.rw_types.specs.declared.types.Pre.{Pre, out-Pre}
use Rattle.rw_types.specs.declared.types.Mem.TheVariants.{L, U}
use Rattle.rw_types.specs.declared.types.Priv.TheVariants.{Rw, R}
use Rattle.rw_types.specs.declared.types.Binder.TheVariants.{Loc, Kind}
use Rattle.rw_types.specs.declared.types.Arg.TheVariants.{Loc as arg_loc, Given as arg_given}
use Rattle.rw_types.specs.declared.types.Qual.TheVariants.{Unr, Lin}
use Rattle.rw_types.specs.declared.types.Ty.{Ty, out-Ty}
use Rattle.rich_text.specs.Forms.{Meaning, qualifier_form, memory_form, privilege_form, type_form, types_form, pretype_form, heap_form, slot_form, function_type_form, binder_form, binders_form, local_form, local_types_form, locals_form, instruction_form, argument_form, arm_form, then_form, else_form, function_form, export_form, import_form, global_form, mutability_form, version_form, module_form}
use Rattle.rich_text.specs.Canonical.{Views, View, by_word, by_row, by_plain}
use Rattle.rich_text.specs.FirstVersion.{first_version}

abbrev pub qual_view : Meaning qualifier_form → View (first_version qualifier_form)
qual_view Unr = by_word (codes "unr")
qual_view Lin = by_word (codes "lin")

abbrev pub operator_word : NumName → List ℕ
operator_word num.I32Eqz = codes "i32.eqz"
operator_word num.I32Eq = codes "i32.eq"
operator_word num.I32Ne = codes "i32.ne"
operator_word num.I32LtS = codes "i32.lt_s"
operator_word num.I32LtU = codes "i32.lt_u"
operator_word num.I32GtS = codes "i32.gt_s"
operator_word num.I32GtU = codes "i32.gt_u"
operator_word num.I32LeS = codes "i32.le_s"
operator_word num.I32LeU = codes "i32.le_u"
operator_word num.I32GeS = codes "i32.ge_s"
operator_word num.I32GeU = codes "i32.ge_u"
operator_word num.I64Eqz = codes "i64.eqz"
operator_word num.I64Eq = codes "i64.eq"
operator_word num.I64Ne = codes "i64.ne"
operator_word num.I64LtS = codes "i64.lt_s"
operator_word num.I64LtU = codes "i64.lt_u"
operator_word num.I64GtS = codes "i64.gt_s"
operator_word num.I64GtU = codes "i64.gt_u"
operator_word num.I64LeS = codes "i64.le_s"
operator_word num.I64LeU = codes "i64.le_u"
operator_word num.I64GeS = codes "i64.ge_s"
operator_word num.I64GeU = codes "i64.ge_u"
operator_word num.I32Clz = codes "i32.clz"
operator_word num.I32Ctz = codes "i32.ctz"
operator_word num.I32Popcnt = codes "i32.popcnt"
operator_word num.I32Add = codes "i32.add"
operator_word num.I32Sub = codes "i32.sub"
operator_word num.I32Mul = codes "i32.mul"
operator_word num.I32DivS = codes "i32.div_s"
operator_word num.I32DivU = codes "i32.div_u"
operator_word num.I32RemS = codes "i32.rem_s"
operator_word num.I32RemU = codes "i32.rem_u"
operator_word num.I32And = codes "i32.and"
operator_word num.I32Or = codes "i32.or"
operator_word num.I32Xor = codes "i32.xor"
operator_word num.I32Shl = codes "i32.shl"
operator_word num.I32ShrS = codes "i32.shr_s"
operator_word num.I32ShrU = codes "i32.shr_u"
operator_word num.I32Rotl = codes "i32.rotl"
operator_word num.I32Rotr = codes "i32.rotr"
operator_word num.I64Clz = codes "i64.clz"
operator_word num.I64Ctz = codes "i64.ctz"
operator_word num.I64Popcnt = codes "i64.popcnt"
operator_word num.I64Add = codes "i64.add"
operator_word num.I64Sub = codes "i64.sub"
operator_word num.I64Mul = codes "i64.mul"
operator_word num.I64DivS = codes "i64.div_s"
operator_word num.I64DivU = codes "i64.div_u"
operator_word num.I64RemS = codes "i64.rem_s"
operator_word num.I64RemU = codes "i64.rem_u"
operator_word num.I64And = codes "i64.and"
operator_word num.I64Or = codes "i64.or"
operator_word num.I64Xor = codes "i64.xor"
operator_word num.I64Shl = codes "i64.shl"
operator_word num.I64ShrS = codes "i64.shr_s"
operator_word num.I64ShrU = codes "i64.shr_u"
operator_word num.I64Rotl = codes "i64.rotl"
operator_word num.I64Rotr = codes "i64.rotr"
operator_word num.I32WrapI64 = codes "i32.wrap_i64"
operator_word num.I64ExtendI32S = codes "i64.extend_i32_s"
operator_word num.I64ExtendI32U = codes "i64.extend_i32_u"

abbrev pub instruction_layer : Instr-F Instr → View (first_version instruction_form)
instruction_layer Instr-F.Nop = by_word (codes "nop")
instruction_layer Instr-F.Unreachable = by_word (codes "unreachable")
instruction_layer Instr-F.Drop = by_word (codes "drop")
instruction_layer Instr-F.Unit = by_word (codes "unit")
instruction_layer Instr-F.Print = by_word (codes "print")
instruction_layer Instr-F.Return = by_word (codes "return")
instruction_layer Instr-F.CallIndirect = by_word (codes "call_indirect")
instruction_layer Instr-F.Qualify = by_word (codes "qualify")
instruction_layer Instr-F.RecUnfold = by_word (codes "rec.unfold")
instruction_layer Instr-F.Ungroup = by_word (codes "ungroup")
instruction_layer Instr-F.RefSplit = by_word (codes "ref.split")
instruction_layer Instr-F.RefJoin = by_word (codes "ref.join")
instruction_layer Instr-F.CapSplit = by_word (codes "cap.split")
instruction_layer Instr-F.CapJoin = by_word (codes "cap.join")
instruction_layer Instr-F.StructFree = by_word (codes "struct.free")
instruction_layer Instr-F.ArrayGet = by_word (codes "array.get")
instruction_layer Instr-F.ArraySet = by_word (codes "array.set")
instruction_layer Instr-F.ArrayLen = by_word (codes "array.len")
instruction_layer Instr-F.ArrayFree = by_word (codes "array.free")
instruction_layer (Instr-F.Num n) = by_word (operator_word n)
instruction_layer (Instr-F.I32Const a) = by_row (codes "i32.const") refl (a, tt)
instruction_layer (Instr-F.I64Const a) = by_row (codes "i64.const") refl (a, tt)
instruction_layer (Instr-F.Block a b) = by_row (codes "block") refl (a.params, (a.results, (a.locals, b)))
instruction_layer (Instr-F.Loop a b) = by_row (codes "loop") refl (a.params, (a.results, (a.locals, b)))
instruction_layer (Instr-F.If a b c) = by_row (codes "if") refl (a.params, (a.results, (a.locals, (b, (c, tt)))))
instruction_layer (Instr-F.Br a) = by_row (codes "br") refl (a, tt)
instruction_layer (Instr-F.BrIf a) = by_row (codes "br_if") refl (a, tt)
instruction_layer (Instr-F.LocalGet a) = by_row (codes "local.get") refl (a, tt)
instruction_layer (Instr-F.LocalTake a) = by_row (codes "local.take") refl (a, tt)
instruction_layer (Instr-F.LocalSet a) = by_row (codes "local.set") refl (a, tt)
instruction_layer (Instr-F.GlobalGet a) = by_row (codes "global.get") refl (a, tt)
instruction_layer (Instr-F.GlobalSet a) = by_row (codes "global.set") refl (a, tt)
instruction_layer (Instr-F.Coderef a) = by_row (codes "coderef") refl (a, tt)
instruction_layer (Instr-F.Inst a) = by_row (codes "inst") refl a
instruction_layer (Instr-F.Call a b) = by_row (codes "call") refl (a, b)
instruction_layer (Instr-F.RecFold a) = by_row (codes "rec.fold") refl (a, tt)
instruction_layer (Instr-F.Group a b) = by_row (codes "group") refl (a, (b, tt))
instruction_layer (Instr-F.MemPack a b) = by_row (codes "mem.pack") refl (a, (b, tt))
instruction_layer (Instr-F.MemUnpack a b) = by_row (codes "mem.unpack") refl (a.params, (a.results, (a.locals, b)))
instruction_layer (Instr-F.StructMalloc a b) = by_row (codes "struct.malloc") refl (a, b)
instruction_layer (Instr-F.StructGet a) = by_row (codes "struct.get") refl (a, tt)
instruction_layer (Instr-F.StructSet a) = by_row (codes "struct.set") refl (a, tt)
instruction_layer (Instr-F.StructSwap a) = by_row (codes "struct.swap") refl (a, tt)
instruction_layer (Instr-F.VariantMalloc a b c) = by_row (codes "variant.malloc") refl (a, (b, c))
instruction_layer (Instr-F.VariantCase a b) = by_row (codes "variant.case") refl (a.params, (a.results, (a.locals, b)))
instruction_layer (Instr-F.ArrayMalloc a) = by_row (codes "array.malloc") refl (a, tt)
instruction_layer (Instr-F.ExistPack a b c d e) = by_row (codes "exist.pack") refl (a, (b, (c, (d, (e, tt)))))
instruction_layer (Instr-F.ExistUnpack a b) = by_row (codes "exist.unpack") refl (a.params, (a.results, (a.locals, b)))

abbrev pub instruction_view : Instr → View (first_version instruction_form)
instruction_view i = instruction_layer (out-Instr i)

abbrev pub types_view : List Ty → View (first_version types_form)
types_view ts = by_plain refl ts

abbrev pub type_layer : Ty-F Heap Pre Ty FunType Slot → View (first_version type_form)
type_layer (Ty-F.Of Unr p) = by_row (codes "unr") refl (p, tt)
type_layer (Ty-F.Of Lin p) = by_row (codes "lin") refl (p, tt)
type_layer (Ty-F.Var n) = by_row (codes "var") refl (n, tt)
type_layer (Ty-F.Rec q s t) = by_row (codes "rec") refl (q, (s, (t, tt)))

abbrev pub type_view : Ty → View (first_version type_form)
type_view t = type_layer (out-Ty t)

abbrev pub function_type_view : FunType → View (first_version function_type_form)
function_type_view f = by_row (codes "fun") refl (f.binders, (f.params, (f.results, tt)))

abbrev pub pretype_layer : Pre-F Heap Pre Ty FunType Slot → View (first_version pretype_form)
pretype_layer Pre-F.Unit = by_word (codes "unit")
pretype_layer Pre-F.I32 = by_word (codes "i32")
pretype_layer Pre-F.I64 = by_word (codes "i64")
pretype_layer (Pre-F.Tuple ts) = by_row (codes "tuple") refl ts
pretype_layer (Pre-F.Ref p l h) = by_row (codes "ref") refl (p, (l, (h, tt)))
pretype_layer (Pre-F.Ptr l) = by_row (codes "ptr") refl (l, tt)
pretype_layer (Pre-F.Cap p l h) = by_row (codes "cap") refl (p, (l, (h, tt)))
pretype_layer (Pre-F.Own l) = by_row (codes "own") refl (l, tt)
pretype_layer (Pre-F.Hidden m t) = by_row (codes "some") refl (m, (t, tt))
pretype_layer (Pre-F.Code f) = by_row (codes "code") refl (f, tt)

abbrev pub heap_layer : Heap-F Heap Pre Ty FunType Slot → View (first_version heap_form)
heap_layer (Heap-F.Struct v) = by_row (codes "struct") refl v
heap_layer (Heap-F.Variant v) = by_row (codes "variant") refl v
heap_layer (Heap-F.Array t) = by_row (codes "array") refl (t, tt)
heap_layer (Heap-F.Exist q s t) = by_row (codes "exist") refl (q, (s, (t, tt)))

abbrev pub views : Views first_version
views qualifier_form Unr = by_word (codes "unr")
views qualifier_form Lin = by_word (codes "lin")
views memory_form L = by_word (codes "L")
views memory_form U = by_word (codes "U")
views privilege_form Rw = by_word (codes "rw")
views privilege_form R = by_word (codes "r")
views type_form t = type_view t
views types_form v = by_plain refl v
views pretype_form p = pretype_layer (out-Pre p)
views heap_form h = heap_layer (out-Heap h)
views slot_form v = by_plain refl (v.ty, (v.size, tt))
views function_type_form f = function_type_view f
views binder_form (Loc m) = by_row (codes "loc") refl (m, tt)
views binder_form (Kind q s) = by_row (codes "type") refl (q, (s, tt))
views binders_form v = by_plain refl v
views local_form v = by_plain refl (v.index, (v.ty, tt))
views local_types_form v = by_plain refl v
views locals_form v = by_row (codes "locals") refl v
views instruction_form i = instruction_view i
views argument_form (arg_loc l) = by_row (codes "loc") refl (l, tt)
views argument_form (arg_given t) = by_row (codes "type") refl (t, tt)
views arm_form v = by_plain refl v
views then_form v = by_row (codes "then") refl v
views else_form v = by_row (codes "else") refl v
views function_form f = by_row (codes "func") refl (f.ty, (f.locals, f.body))
views export_form e = by_row (codes "export") refl (e.name, (e.func, tt))
views import_form i = by_row (codes "import") refl (i.«module», (i.name, (i.ty, tt)))
views global_form g = by_row (codes "global") refl (g.mutable, (g.ty, g.body))
views mutability_form true = by_word (codes "mut")
views mutability_form false = by_word (codes "const")
views version_form v = by_word (codes "1")
views module_form m = by_row (codes "module") refl (tt, (m.imports, (m.funcs, (m.globals, (m.exports, tt)))))
