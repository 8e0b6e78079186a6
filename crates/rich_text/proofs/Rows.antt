-- The rows, computed. The trees of what was read are unrolled to be written.
use Rattle.std.proofs.Common.{◌≡◌, [], ◌∷◌, refl, Ok}
use Rattle.std.specs.Prelude.{codes}
use Rattle.rw_types.specs.declared.instrs.Instr.{I64Const, Print, out-Instr}
use Rattle.rw_types.specs.declared.types.Heap.{out-Heap}
use Rattle.rw_types.specs.declared.types.Pre.{out-Pre}
use Rattle.rw_types.specs.declared.types.Ty.{out-Ty}
use Rattle.rw_types.specs.LoneMain.{lone_main}
use Rattle.rich_text.specs.Texts.{reading}
use Rattle.rich_text.specs.Rows.{main_of, main_shown, IsRead, IsShown}

pub module_read : reading (main_of (codes "(i64.const 7) print (i64.const 0)")) ≡ Ok (lone_main (I64Const 7 ∷ Print ∷ I64Const 0 ∷ []))
module_read = refl

pub module_shown : IsShown (main_of (codes ";; x\n\t(i64.const 7)\tprint (i64.const 0)")) (main_shown (codes "(i64.const 7) print (i64.const 0)"))
unfolding out-Instr out-Ty out-Pre out-Heap denote.Hole.Carrier.out
module_shown = (_, refl, refl)

pub shown_again : IsShown (main_shown (codes "(i64.const 7) print (i64.const 0)")) (main_shown (codes "(i64.const 7) print (i64.const 0)"))
unfolding out-Instr out-Ty out-Pre out-Heap denote.Hole.Carrier.out
shown_again = (_, refl, refl)

pub empty : IsShown (codes "(module 1)") (codes "(module 1\n)\n")
unfolding out-Instr out-Ty out-Pre out-Heap denote.Hole.Carrier.out
empty = (_, refl, refl)

pub comments : IsShown (codes ";; a ( \"\n(module;;b\n1;;;;;\n)") (codes "(module 1\n)\n")
unfolding out-Instr out-Ty out-Pre out-Heap denote.Hole.Carrier.out
comments = (_, refl, refl)

pub comment_at_end : IsShown (codes "(module 1);; no newline") (codes "(module 1\n)\n")
unfolding out-Instr out-Ty out-Pre out-Heap denote.Hole.Carrier.out
comment_at_end = (_, refl, refl)

pub touching : IsShown (codes "(module 1(import\"a\"\"b\"(fun()()())))") (codes "(module 1\n(import \"a\" \"b\" (fun () () ()))\n)\n")
unfolding out-Instr out-Ty out-Pre out-Heap denote.Hole.Carrier.out
touching = (_, refl, refl)

pub constants : IsShown (main_of (codes "(i32.const -2147483648) (i32.const 4294967295) (i32.const 2147483648) (i64.const -9223372036854775808) (i64.const 18446744073709551615) (i64.const 9223372036854775808)")) (main_shown (codes "(i32.const -2147483648) (i32.const -1) (i32.const -2147483648) (i64.const -9223372036854775808) (i64.const -1) (i64.const -9223372036854775808)"))
unfolding out-Instr out-Ty out-Pre out-Heap denote.Hole.Carrier.out
constants = (_, refl, refl)

pub forms : IsRead (main_of (codes "(i32.const 0) (i64.const -1) (block () () ()) (loop () () () nop) (if () () () (then) (else)) (br 0) (br_if 4294967295) (local.get 0) (local.take 1) (local.set 2) (global.get 0) (global.set 0) (coderef 0) (inst) (call 0) (rec.fold (var 0)) (group 0 unr) (mem.pack 0 (var 0)) (mem.unpack () () ()) (struct.malloc L) (struct.get 0) (struct.set 0) (struct.swap 0) (variant.malloc U 0) (variant.case () () ()) (array.malloc L) (exist.pack U lin 0 (var 0) (var 1)) (exist.unpack () () ())"))
forms = (_, refl)

pub full_forms : IsRead (main_of (codes "(block ((var 0)) ((var 1) (var 2)) ((0 (var 3)) (0 (var 4))) drop drop) (if ((var 0)) () () (then nop nop) (else (br 1))) (inst (loc 0) (type (var 9))) (call 1 (type (unr i64)) (loc 4)) (struct.malloc U 0 10001 4294967295) (variant.malloc L 3 (var 0) (var 1)) (variant.case ((var 0)) () () () (nop) ((br 0) drop))"))
full_forms = (_, refl)

pub operators : IsShown (main_of (codes "i32.eqz i32.eq i32.ne i32.lt_s i32.lt_u i32.gt_s i32.gt_u i32.le_s i32.le_u i32.ge_s i32.ge_u i64.eqz i64.eq i64.ne i64.lt_s i64.lt_u i64.gt_s i64.gt_u i64.le_s i64.le_u i64.ge_s i64.ge_u i32.clz i32.ctz i32.popcnt i32.add i32.sub i32.mul i32.div_s i32.div_u i32.rem_s i32.rem_u i32.and i32.or i32.xor i32.shl i32.shr_s i32.shr_u i32.rotl i32.rotr i64.clz i64.ctz i64.popcnt i64.add i64.sub i64.mul i64.div_s i64.div_u i64.rem_s i64.rem_u i64.and i64.or i64.xor i64.shl i64.shr_s i64.shr_u i64.rotl i64.rotr i32.wrap_i64 i64.extend_i32_s i64.extend_i32_u")) (main_shown (codes "i32.eqz i32.eq i32.ne i32.lt_s i32.lt_u i32.gt_s i32.gt_u i32.le_s i32.le_u i32.ge_s i32.ge_u i64.eqz i64.eq i64.ne i64.lt_s i64.lt_u i64.gt_s i64.gt_u i64.le_s i64.le_u i64.ge_s i64.ge_u i32.clz i32.ctz i32.popcnt i32.add i32.sub i32.mul i32.div_s i32.div_u i32.rem_s i32.rem_u i32.and i32.or i32.xor i32.shl i32.shr_s i32.shr_u i32.rotl i32.rotr i64.clz i64.ctz i64.popcnt i64.add i64.sub i64.mul i64.div_s i64.div_u i64.rem_s i64.rem_u i64.and i64.or i64.xor i64.shl i64.shr_s i64.shr_u i64.rotl i64.rotr i32.wrap_i64 i64.extend_i32_s i64.extend_i32_u"))
unfolding out-Instr out-Ty out-Pre out-Heap denote.Hole.Carrier.out
operators = (_, refl, refl)

pub types : IsRead (codes "(module 1 (global const (unr unit)) (global const (lin i32)) (global const (var 4294967295)) (global const (rec lin 0 (rec unr 1 (var 0)))) (global const (unr (tuple))) (global const (lin (ref rw 0 (struct)))) (global const (unr (ref r 1 (variant)))) (global const (unr (ptr 0))) (global const (unr (cap rw 0 (array (var 0))))) (global const (lin (own 3))) (global const (unr (some L (var 0)))) (global const (lin (code (fun () () ())))) (global const (unr (code (fun ((loc L) (type unr 0) (loc U) (type lin 4294967295)) ((var 0)) ((var 1) (var 0)))))) (global const (unr (ref rw 0 (struct ((var 0) 0) ((var 1) 4294967295))))) (global const (lin (cap r 0 (exist unr 0 (var 0))))))")
types = (_, refl)

pub names : IsShown (codes "(module 1 (import \"a\" \"zzzzzzzzzzzzzzzzzzzzzzzzzzzzzzzzzzzzzzzzzzzzzzzzzzzzzzzzzzzzzzzz\" (fun () () ())) (export \"0_9\" 0) (export \"_\" 4294967295))") (codes "(module 1\n(import \"a\" \"zzzzzzzzzzzzzzzzzzzzzzzzzzzzzzzzzzzzzzzzzzzzzzzzzzzzzzzzzzzzzzzz\" (fun () () ()))\n(export \"0_9\" 0)\n(export \"_\" 4294967295)\n)\n")
unfolding out-Instr out-Ty out-Pre out-Heap denote.Hole.Carrier.out
names = (_, refl, refl)
