-- The text of each form is that of its view: a line for each.
use Rattle.std.proofs.Common.{◌≡◌, ◌∙◌, ℕ, List, [], ◌∷◌, true, false, refl, sym, ap}
use Rattle.std.specs.Prelude.{map, codes, decimal}
use Rattle.rw_types.specs.declared.instrs.Instr.{Instr, out-Instr, roll-Instr, roll-out-Instr}
use Rattle.rw_types.specs.declared.instrs.Instr.TheVariants.{rolls-Nop, rolls-Unreachable, rolls-Drop, rolls-Unit, rolls-Print, rolls-Return, rolls-CallIndirect, rolls-Qualify, rolls-RecUnfold, rolls-Ungroup, rolls-RefSplit, rolls-RefJoin, rolls-CapSplit, rolls-CapJoin, rolls-StructFree, rolls-ArrayGet, rolls-ArraySet, rolls-ArrayLen, rolls-ArrayFree, rolls-Num, rolls-I32Const, rolls-I64Const, rolls-Block, rolls-Loop, rolls-If, rolls-Br, rolls-BrIf, rolls-LocalGet, rolls-LocalTake, rolls-LocalSet, rolls-GlobalGet, rolls-GlobalSet, rolls-Coderef, rolls-Inst, rolls-Call, rolls-RecFold, rolls-Group, rolls-MemPack, rolls-MemUnpack, rolls-StructMalloc, rolls-StructGet, rolls-StructSet, rolls-StructSwap, rolls-VariantMalloc, rolls-VariantCase, rolls-ArrayMalloc, rolls-ExistPack, rolls-ExistUnpack}
use Rattle.rw_types.specs.declared.instrs.Instr.TheOpen.{Instr-F}
use Rattle.rw_types.specs.declared.numbers.NumName.{NumName}
use Rattle.rw_types.specs.declared.numbers.NumName.TheVariants as num
use Rattle.rw_types.specs.declared.types.Heap.TheOpen.{Ty-F, Pre-F, Heap-F}
use Rattle.rw_types.specs.declared.types.FunType.{FunType}
use Rattle.rw_types.specs.declared.types.Heap.{Heap, out-Heap, roll-Heap, roll-out-Heap}
use Rattle.rw_types.specs.declared.types.Slot.{Slot}
use Rattle.rw_types.specs.declared.types.Pre.{Pre, out-Pre, roll-Pre, roll-out-Pre}
use Rattle.rw_types.specs.declared.types.Pre.TheVariants.{rolls-Unit as pre_unit_rolls, rolls-I32, rolls-I64, rolls-Tuple, rolls-Ref, rolls-Ptr, rolls-Cap, rolls-Own, rolls-Hidden, rolls-Code}
use Rattle.rw_types.specs.declared.types.Heap.TheVariants.{rolls-Struct, rolls-Variant, rolls-Array, rolls-Exist}
use Rattle.rw_types.specs.declared.types.Mem.TheVariants.{L, U}
use Rattle.rw_types.specs.declared.types.Priv.TheVariants.{Rw, R}
use Rattle.rw_types.specs.declared.types.Binder.TheVariants.{Loc, Kind}
use Rattle.rw_types.specs.declared.types.Arg.TheVariants.{Loc as arg_loc, Given as arg_given}
use Rattle.rw_types.specs.declared.types.Ty.{Ty, out-Ty, roll-Ty, roll-out-Ty}
use Rattle.rw_types.specs.declared.types.Ty.TheVariants.{rolls-Of, rolls-Var, rolls-Rec}
use Rattle.rw_types.specs.declared.types.Qual.TheVariants.{Unr, Lin}
use Rattle.rich_text.specs.Forms.{Form, Meaning, qualifier_form, memory_form, privilege_form, type_form, types_form, pretype_form, heap_form, slot_form, function_type_form, binder_form, binders_form, local_form, local_types_form, locals_form, instruction_form, argument_form, arm_form, then_form, else_form, function_form, export_form, import_form, global_form, mutability_form, version_form, module_form}
use Rattle.rich_text.specs.Views.{operator_word, instruction_layer, type_layer, pretype_layer, heap_layer, views}
use Rattle.rw_types.specs.declared.instrs.LocalTy.{LocalTy}
use Rattle.rw_types.specs.declared.types.Arg.{Arg}
use Rattle.rw_types.specs.declared.types.Binder.{Binder}
use Rattle.rich_text.specs.Grammars.{Part, a_number, a_name, a_form, PartValue}
use Rattle.rich_text.specs.Numbers.{Index}
use Rattle.rich_writing.specs.Pieces.{in_parentheses, quoted, qual_text, mem_text, priv_text, mutability_text}
use Rattle.rich_writing.specs.Types.{type_text, pretype_text, heap_text, slot_text, binder_text, function_type_text, argument_text, local_text}
use Rattle.rich_writing.specs.Operators.{operator_text}
use Rattle.rich_writing.specs.Instructions.{block_text, instruction_text, arm_text}
use Rattle.rich_writing.specs.Modules.{import_text, function_text, global_text, export_text}
use Rattle.rich_writing.proofs.Types.{text-Rec, text-Tuple, text-Hidden, text-Code, text-Struct, text-Variant, text-Array, text-Exist}
use Rattle.rich_writing.proofs.Instructions.{text-Block, text-Loop, text-If, text-MemUnpack, text-VariantCase, text-ExistUnpack}
use Rattle.rich_writing_laws.proofs.Decimals.{number_text}
use Rattle.rich_writing_laws.proofs.Layouts.{run_texts, view_text}

-- the text of each form
abbrev pub form_text : (s : Form) → Meaning s → List ℕ
form_text qualifier_form q = qual_text q
form_text memory_form m = mem_text m
form_text privilege_form p = priv_text p
form_text type_form t = type_text t
form_text types_form ts = in_parentheses (map type_text ts)
form_text pretype_form p = pretype_text p
form_text heap_form h = heap_text h
form_text slot_form s = slot_text s
form_text function_type_form f = function_type_text f
form_text binder_form b = binder_text b
form_text binders_form bs = in_parentheses (map binder_text bs)
form_text local_form l = local_text l
form_text local_types_form ls = in_parentheses (map local_text ls)
form_text locals_form ns = in_parentheses (codes "locals" ∷ map decimal ns)
form_text instruction_form i = instruction_text i
form_text argument_form a = argument_text a
form_text arm_form is = in_parentheses (map instruction_text is)
form_text then_form is = in_parentheses (codes "then" ∷ map instruction_text is)
form_text else_form is = in_parentheses (codes "else" ∷ map instruction_text is)
form_text function_form f = function_text f
form_text export_form e = export_text e
form_text import_form i = import_text i
form_text global_form g = global_text g
form_text mutability_form b = mutability_text b
form_text version_form v = codes "1"
form_text module_form m = in_parentheses (codes "module" ∷ codes "1" ∷ run_texts import_text (run_texts function_text (run_texts global_text (run_texts export_text [] m.exports) m.globals) m.funcs) m.imports)

abbrev pub part_text : (k : Part) → PartValue k → List ℕ
part_text (a_number k) v = number_text k v
part_text a_name v = quoted v
part_text (a_form s) v = form_text s v

-- ---- lists of forms

types : (ts : List Ty) → run_texts (part_text (a_form type_form)) [] ts ≡ map type_text ts
types [] = refl
types (t ∷ ts) = ap (λ (l : List (List ℕ)). type_text t ∷ l) (types ts)

slots : (ss : List Slot) → run_texts (part_text (a_form slot_form)) [] ss ≡ map slot_text ss
slots [] = refl
slots (s ∷ ss) = ap (λ (l : List (List ℕ)). slot_text s ∷ l) (slots ss)

binders : (bs : List Binder) → run_texts (part_text (a_form binder_form)) [] bs ≡ map binder_text bs
binders [] = refl
binders (b ∷ bs) = ap (λ (l : List (List ℕ)). binder_text b ∷ l) (binders bs)

locals : (ls : List LocalTy) → run_texts (part_text (a_form local_form)) [] ls ≡ map local_text ls
locals [] = refl
locals (x ∷ ls) = ap (λ (l : List (List ℕ)). local_text x ∷ l) (locals ls)

arguments : (xs : List Arg) → run_texts (part_text (a_form argument_form)) [] xs ≡ map argument_text xs
arguments [] = refl
arguments (x ∷ xs) = ap (λ (l : List (List ℕ)). argument_text x ∷ l) (arguments xs)

numbers : (ns : List ℕ) → run_texts (part_text (a_number Index)) [] ns ≡ map decimal ns
numbers [] = refl
numbers (n ∷ ns) = ap (λ (l : List (List ℕ)). decimal n ∷ l) (numbers ns)

instructions : (is : List Instr) → run_texts (part_text (a_form instruction_form)) [] is ≡ map instruction_text is
instructions [] = refl
instructions (i ∷ is) = ap (λ (l : List (List ℕ)). instruction_text i ∷ l) (instructions is)

arms : (xs : List (List Instr)) → run_texts (part_text (a_form arm_form)) [] xs ≡ map arm_text xs
arms [] = refl
arms (x ∷ xs) = ap (λ (l : List (List ℕ)). in_parentheses (map instruction_text x) ∷ l) (arms xs)

-- ---- types

type_formed : (x : Ty-F Heap Pre Ty FunType Slot) → view_text part_text (type_layer x) ≡ type_text (roll-Ty x)
type_formed (Ty-F.Of Unr p) = ap type_text (sym (rolls-Of Unr p))
type_formed (Ty-F.Of Lin p) = ap type_text (sym (rolls-Of Lin p))
type_formed (Ty-F.Var n) = ap type_text (sym (rolls-Var n))
type_formed (Ty-F.Rec q s t) = sym (text-Rec q s t) ∙ ap type_text (sym (rolls-Rec q s t))

pretype_formed : (x : Pre-F Heap Pre Ty FunType Slot) → view_text part_text (pretype_layer x) ≡ pretype_text (roll-Pre x)
pretype_formed Pre-F.Unit = ap pretype_text (sym pre_unit_rolls)
pretype_formed Pre-F.I32 = ap pretype_text (sym rolls-I32)
pretype_formed Pre-F.I64 = ap pretype_text (sym rolls-I64)
pretype_formed (Pre-F.Tuple ts) = ap (λ (l : List (List ℕ)). in_parentheses (codes "tuple" ∷ l)) (types ts) ∙ sym (text-Tuple ts) ∙ ap pretype_text (sym (rolls-Tuple ts))
pretype_formed (Pre-F.Ref p l h) = ap pretype_text (sym (rolls-Ref p l h))
pretype_formed (Pre-F.Ptr l) = ap pretype_text (sym (rolls-Ptr l))
pretype_formed (Pre-F.Cap p l h) = ap pretype_text (sym (rolls-Cap p l h))
pretype_formed (Pre-F.Own l) = ap pretype_text (sym (rolls-Own l))
pretype_formed (Pre-F.Hidden m t) = sym (text-Hidden m t) ∙ ap pretype_text (sym (rolls-Hidden m t))
pretype_formed (Pre-F.Code f) = sym (text-Code f) ∙ ap pretype_text (sym (rolls-Code f))

heap_formed : (x : Heap-F Heap Pre Ty FunType Slot) → view_text part_text (heap_layer x) ≡ heap_text (roll-Heap x)
heap_formed (Heap-F.Struct ss) = ap (λ (l : List (List ℕ)). in_parentheses (codes "struct" ∷ l)) (slots ss) ∙ sym (text-Struct ss) ∙ ap heap_text (sym (rolls-Struct ss))
heap_formed (Heap-F.Variant ts) = ap (λ (l : List (List ℕ)). in_parentheses (codes "variant" ∷ l)) (types ts) ∙ sym (text-Variant ts) ∙ ap heap_text (sym (rolls-Variant ts))
heap_formed (Heap-F.Array t) = sym (text-Array t) ∙ ap heap_text (sym (rolls-Array t))
heap_formed (Heap-F.Exist q s t) = sym (text-Exist q s t) ∙ ap heap_text (sym (rolls-Exist q s t))

-- ---- instructions

operator_formed : (n : NumName) → operator_word n ≡ operator_text n
operator_formed num.I32Eqz = refl
operator_formed num.I32Eq = refl
operator_formed num.I32Ne = refl
operator_formed num.I32LtS = refl
operator_formed num.I32LtU = refl
operator_formed num.I32GtS = refl
operator_formed num.I32GtU = refl
operator_formed num.I32LeS = refl
operator_formed num.I32LeU = refl
operator_formed num.I32GeS = refl
operator_formed num.I32GeU = refl
operator_formed num.I64Eqz = refl
operator_formed num.I64Eq = refl
operator_formed num.I64Ne = refl
operator_formed num.I64LtS = refl
operator_formed num.I64LtU = refl
operator_formed num.I64GtS = refl
operator_formed num.I64GtU = refl
operator_formed num.I64LeS = refl
operator_formed num.I64LeU = refl
operator_formed num.I64GeS = refl
operator_formed num.I64GeU = refl
operator_formed num.I32Clz = refl
operator_formed num.I32Ctz = refl
operator_formed num.I32Popcnt = refl
operator_formed num.I32Add = refl
operator_formed num.I32Sub = refl
operator_formed num.I32Mul = refl
operator_formed num.I32DivS = refl
operator_formed num.I32DivU = refl
operator_formed num.I32RemS = refl
operator_formed num.I32RemU = refl
operator_formed num.I32And = refl
operator_formed num.I32Or = refl
operator_formed num.I32Xor = refl
operator_formed num.I32Shl = refl
operator_formed num.I32ShrS = refl
operator_formed num.I32ShrU = refl
operator_formed num.I32Rotl = refl
operator_formed num.I32Rotr = refl
operator_formed num.I64Clz = refl
operator_formed num.I64Ctz = refl
operator_formed num.I64Popcnt = refl
operator_formed num.I64Add = refl
operator_formed num.I64Sub = refl
operator_formed num.I64Mul = refl
operator_formed num.I64DivS = refl
operator_formed num.I64DivU = refl
operator_formed num.I64RemS = refl
operator_formed num.I64RemU = refl
operator_formed num.I64And = refl
operator_formed num.I64Or = refl
operator_formed num.I64Xor = refl
operator_formed num.I64Shl = refl
operator_formed num.I64ShrS = refl
operator_formed num.I64ShrU = refl
operator_formed num.I64Rotl = refl
operator_formed num.I64Rotr = refl
operator_formed num.I32WrapI64 = refl
operator_formed num.I64ExtendI32S = refl
operator_formed num.I64ExtendI32U = refl

instruction_formed : (x : Instr-F Instr) → view_text part_text (instruction_layer x) ≡ instruction_text (roll-Instr x)
instruction_formed Instr-F.Nop = ap instruction_text (sym rolls-Nop)
instruction_formed Instr-F.Unreachable = ap instruction_text (sym rolls-Unreachable)
instruction_formed Instr-F.Drop = ap instruction_text (sym rolls-Drop)
instruction_formed Instr-F.Unit = ap instruction_text (sym rolls-Unit)
instruction_formed Instr-F.Print = ap instruction_text (sym rolls-Print)
instruction_formed Instr-F.Return = ap instruction_text (sym rolls-Return)
instruction_formed Instr-F.CallIndirect = ap instruction_text (sym rolls-CallIndirect)
instruction_formed Instr-F.Qualify = ap instruction_text (sym rolls-Qualify)
instruction_formed Instr-F.RecUnfold = ap instruction_text (sym rolls-RecUnfold)
instruction_formed Instr-F.Ungroup = ap instruction_text (sym rolls-Ungroup)
instruction_formed Instr-F.RefSplit = ap instruction_text (sym rolls-RefSplit)
instruction_formed Instr-F.RefJoin = ap instruction_text (sym rolls-RefJoin)
instruction_formed Instr-F.CapSplit = ap instruction_text (sym rolls-CapSplit)
instruction_formed Instr-F.CapJoin = ap instruction_text (sym rolls-CapJoin)
instruction_formed Instr-F.StructFree = ap instruction_text (sym rolls-StructFree)
instruction_formed Instr-F.ArrayGet = ap instruction_text (sym rolls-ArrayGet)
instruction_formed Instr-F.ArraySet = ap instruction_text (sym rolls-ArraySet)
instruction_formed Instr-F.ArrayLen = ap instruction_text (sym rolls-ArrayLen)
instruction_formed Instr-F.ArrayFree = ap instruction_text (sym rolls-ArrayFree)
instruction_formed (Instr-F.Num n) = operator_formed n ∙ ap instruction_text (sym (rolls-Num n))
instruction_formed (Instr-F.I32Const a) = ap instruction_text (sym (rolls-I32Const a))
instruction_formed (Instr-F.I64Const a) = ap instruction_text (sym (rolls-I64Const a))
instruction_formed (Instr-F.Block a b) = ap (block_text (codes "block") a) (instructions b) ∙ sym (text-Block a b) ∙ ap instruction_text (sym (rolls-Block a b))
instruction_formed (Instr-F.Loop a b) = ap (block_text (codes "loop") a) (instructions b) ∙ sym (text-Loop a b) ∙ ap instruction_text (sym (rolls-Loop a b))
instruction_formed (Instr-F.If a b c) = sym (text-If a b c) ∙ ap instruction_text (sym (rolls-If a b c))
instruction_formed (Instr-F.Br a) = ap instruction_text (sym (rolls-Br a))
instruction_formed (Instr-F.BrIf a) = ap instruction_text (sym (rolls-BrIf a))
instruction_formed (Instr-F.LocalGet a) = ap instruction_text (sym (rolls-LocalGet a))
instruction_formed (Instr-F.LocalTake a) = ap instruction_text (sym (rolls-LocalTake a))
instruction_formed (Instr-F.LocalSet a) = ap instruction_text (sym (rolls-LocalSet a))
instruction_formed (Instr-F.GlobalGet a) = ap instruction_text (sym (rolls-GlobalGet a))
instruction_formed (Instr-F.GlobalSet a) = ap instruction_text (sym (rolls-GlobalSet a))
instruction_formed (Instr-F.Coderef a) = ap instruction_text (sym (rolls-Coderef a))
instruction_formed (Instr-F.Inst a) = ap (λ (l : List (List ℕ)). in_parentheses (codes "inst" ∷ l)) (arguments a) ∙ ap instruction_text (sym (rolls-Inst a))
instruction_formed (Instr-F.Call a b) = ap (λ (l : List (List ℕ)). in_parentheses (codes "call" ∷ decimal a ∷ l)) (arguments b) ∙ ap instruction_text (sym (rolls-Call a b))
instruction_formed (Instr-F.RecFold a) = ap instruction_text (sym (rolls-RecFold a))
instruction_formed (Instr-F.Group a b) = ap instruction_text (sym (rolls-Group a b))
instruction_formed (Instr-F.MemPack a b) = ap instruction_text (sym (rolls-MemPack a b))
instruction_formed (Instr-F.MemUnpack a b) = ap (block_text (codes "mem.unpack") a) (instructions b) ∙ sym (text-MemUnpack a b) ∙ ap instruction_text (sym (rolls-MemUnpack a b))
instruction_formed (Instr-F.StructMalloc a b) = ap (λ (l : List (List ℕ)). in_parentheses (codes "struct.malloc" ∷ mem_text a ∷ l)) (numbers b) ∙ ap instruction_text (sym (rolls-StructMalloc a b))
instruction_formed (Instr-F.StructGet a) = ap instruction_text (sym (rolls-StructGet a))
instruction_formed (Instr-F.StructSet a) = ap instruction_text (sym (rolls-StructSet a))
instruction_formed (Instr-F.StructSwap a) = ap instruction_text (sym (rolls-StructSwap a))
instruction_formed (Instr-F.VariantMalloc a b c) = ap (λ (l : List (List ℕ)). in_parentheses (codes "variant.malloc" ∷ mem_text a ∷ decimal b ∷ l)) (types c) ∙ ap instruction_text (sym (rolls-VariantMalloc a b c))
instruction_formed (Instr-F.VariantCase a b) = ap (block_text (codes "variant.case") a) (arms b) ∙ sym (text-VariantCase a b) ∙ ap instruction_text (sym (rolls-VariantCase a b))
instruction_formed (Instr-F.ArrayMalloc a) = ap instruction_text (sym (rolls-ArrayMalloc a))
instruction_formed (Instr-F.ExistPack a b c d e) = ap instruction_text (sym (rolls-ExistPack a b c d e))
instruction_formed (Instr-F.ExistUnpack a b) = ap (block_text (codes "exist.unpack") a) (instructions b) ∙ sym (text-ExistUnpack a b) ∙ ap instruction_text (sym (rolls-ExistUnpack a b))

-- ---- all forms

pub formed : (s : Form) (v : Meaning s) → view_text part_text (views s v) ≡ form_text s v
formed qualifier_form Unr = refl
formed qualifier_form Lin = refl
formed memory_form L = refl
formed memory_form U = refl
formed privilege_form Rw = refl
formed privilege_form R = refl
formed type_form t = type_formed (out-Ty t) ∙ ap type_text (roll-out-Ty t)
formed types_form ts = ap in_parentheses (types ts)
formed pretype_form p = pretype_formed (out-Pre p) ∙ ap pretype_text (roll-out-Pre p)
formed heap_form h = heap_formed (out-Heap h) ∙ ap heap_text (roll-out-Heap h)
formed slot_form s = refl
formed function_type_form f = refl
formed binder_form (Loc m) = refl
formed binder_form (Kind q s) = refl
formed binders_form bs = ap in_parentheses (binders bs)
formed local_form l = refl
formed local_types_form ls = ap in_parentheses (locals ls)
formed locals_form ns = ap (λ (l : List (List ℕ)). in_parentheses (codes "locals" ∷ l)) (numbers ns)
formed instruction_form i = instruction_formed (out-Instr i) ∙ ap instruction_text (roll-out-Instr i)
formed argument_form (arg_loc l) = refl
formed argument_form (arg_given t) = refl
formed arm_form is = ap in_parentheses (instructions is)
formed then_form is = ap (λ (l : List (List ℕ)). in_parentheses (codes "then" ∷ l)) (instructions is)
formed else_form is = ap (λ (l : List (List ℕ)). in_parentheses (codes "else" ∷ l)) (instructions is)
formed function_form f = ap (λ (l : List (List ℕ)). in_parentheses (codes "func" ∷ function_type_text f.ty ∷ in_parentheses (codes "locals" ∷ map decimal f.locals) ∷ l)) (instructions f.body)
formed export_form e = refl
formed import_form i = refl
formed global_form g = ap (λ (l : List (List ℕ)). in_parentheses (codes "global" ∷ mutability_text g.mutable ∷ type_text g.ty ∷ l)) (instructions g.body)
formed mutability_form true = refl
formed mutability_form false = refl
formed version_form v = refl
formed module_form m = refl
