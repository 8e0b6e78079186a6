-- Texts that are written out, with what they spell or their first faults, most of them as an independent model tells (this project's own rows).
use Rattle.std.specs.Prelude.{◌≡◌, ℕ, zero, suc, List, [], ◌∷◌, ◌++◌, codes, Ok, Err}
use Rattle.rw_types.specs.declared.instrs.Instr.{I64Const, Print}
use Rattle.rw_types.specs.declared.modules.Module.{Module}
use Rattle.rw_types.specs.LoneMain.{lone_main}
use Rattle.rich_text.specs.Tokens.{Fault, BadUtf8, BadToken, TooDeep, NumberOut, BadForm, Unended}
use Rattle.rich_text.specs.Texts.{reading}
use Rattle.rich_text.specs.Layout.{canonical_text}

abbrev pub HasFault : List ℕ → ℕ → ℕ → Fault → Type 0
HasFault bytes line column fault = reading bytes ≡ Err (record { fault = fault; at = record { line = line; column = column } })

-- bytes so many times
abbrev pub times : ℕ → List ℕ → List ℕ
times zero bytes = []
times (suc n) bytes = bytes ++ times n bytes

-- a module whose `main` has this body
abbrev pub main_of : List ℕ → List ℕ
main_of body = codes "(module 1 (func (fun () () ((unr i64))) (locals) " ++ body ++ codes ") (export \"main\" 0))"

-- its canonical text, where that of the body is canonical
abbrev pub main_shown : List ℕ → List ℕ
main_shown body = codes "(module 1\n(func (fun () () ((unr i64))) (locals) " ++ body ++ codes ")\n(export \"main\" 0)\n)\n"

-- a text that spells a module
abbrev pub IsRead : List ℕ → Type 0
IsRead bytes = (m : Module) × (reading bytes ≡ Ok m)

-- a text, and the canonical text of the module that it spells
abbrev pub IsShown : List ℕ → List ℕ → Type 0
IsShown bytes canonical = (m : Module) × (reading bytes ≡ Ok m) × (canonical_text m ≡ canonical)

pub record TextRows : Type 0 where
  pub module_read : reading (main_of (codes "(i64.const 7) print (i64.const 0)")) ≡ Ok (lone_main (I64Const 7 ∷ Print ∷ I64Const 0 ∷ []))
  pub module_shown : IsShown (main_of (codes ";; x\n\t(i64.const 7)\tprint (i64.const 0)")) (main_shown (codes "(i64.const 7) print (i64.const 0)"))
  pub shown_again : IsShown (main_shown (codes "(i64.const 7) print (i64.const 0)")) (main_shown (codes "(i64.const 7) print (i64.const 0)"))
  pub empty : IsShown (codes "(module 1)") (codes "(module 1\n)\n")
  pub comments : IsShown (codes ";; a ( \"\n(module;;b\n1;;;;;\n)") (codes "(module 1\n)\n")
  pub comment_at_end : IsShown (codes "(module 1);; no newline") (codes "(module 1\n)\n")
  pub touching : IsShown (codes "(module 1(import\"a\"\"b\"(fun()()())))") (codes "(module 1\n(import \"a\" \"b\" (fun () () ()))\n)\n")
  pub constants : IsShown (main_of (codes "(i32.const -2147483648) (i32.const 4294967295) (i32.const 2147483648) (i64.const -9223372036854775808) (i64.const 18446744073709551615) (i64.const 9223372036854775808)")) (main_shown (codes "(i32.const -2147483648) (i32.const -1) (i32.const -2147483648) (i64.const -9223372036854775808) (i64.const -1) (i64.const -9223372036854775808)"))
  pub forms : IsRead (main_of (codes "(i32.const 0) (i64.const -1) (block () () ()) (loop () () () nop) (if () () () (then) (else)) (br 0) (br_if 4294967295) (local.get 0) (local.take 1) (local.set 2) (global.get 0) (global.set 0) (coderef 0) (inst) (call 0) (rec.fold (var 0)) (group 0 unr) (mem.pack 0 (var 0)) (mem.unpack () () ()) (struct.malloc L) (struct.get 0) (struct.set 0) (struct.swap 0) (variant.malloc U 0) (variant.case () () ()) (array.malloc L) (exist.pack U lin 0 (var 0) (var 1)) (exist.unpack () () ())"))
  pub full_forms : IsRead (main_of (codes "(block ((var 0)) ((var 1) (var 2)) ((0 (var 3)) (0 (var 4))) drop drop) (if ((var 0)) () () (then nop nop) (else (br 1))) (inst (loc 0) (type (var 9))) (call 1 (type (unr i64)) (loc 4)) (struct.malloc U 0 10001 4294967295) (variant.malloc L 3 (var 0) (var 1)) (variant.case ((var 0)) () () () (nop) ((br 0) drop))"))
  pub operators : IsShown (main_of (codes "i32.eqz i32.eq i32.ne i32.lt_s i32.lt_u i32.gt_s i32.gt_u i32.le_s i32.le_u i32.ge_s i32.ge_u i64.eqz i64.eq i64.ne i64.lt_s i64.lt_u i64.gt_s i64.gt_u i64.le_s i64.le_u i64.ge_s i64.ge_u i32.clz i32.ctz i32.popcnt i32.add i32.sub i32.mul i32.div_s i32.div_u i32.rem_s i32.rem_u i32.and i32.or i32.xor i32.shl i32.shr_s i32.shr_u i32.rotl i32.rotr i64.clz i64.ctz i64.popcnt i64.add i64.sub i64.mul i64.div_s i64.div_u i64.rem_s i64.rem_u i64.and i64.or i64.xor i64.shl i64.shr_s i64.shr_u i64.rotl i64.rotr i32.wrap_i64 i64.extend_i32_s i64.extend_i32_u")) (main_shown (codes "i32.eqz i32.eq i32.ne i32.lt_s i32.lt_u i32.gt_s i32.gt_u i32.le_s i32.le_u i32.ge_s i32.ge_u i64.eqz i64.eq i64.ne i64.lt_s i64.lt_u i64.gt_s i64.gt_u i64.le_s i64.le_u i64.ge_s i64.ge_u i32.clz i32.ctz i32.popcnt i32.add i32.sub i32.mul i32.div_s i32.div_u i32.rem_s i32.rem_u i32.and i32.or i32.xor i32.shl i32.shr_s i32.shr_u i32.rotl i32.rotr i64.clz i64.ctz i64.popcnt i64.add i64.sub i64.mul i64.div_s i64.div_u i64.rem_s i64.rem_u i64.and i64.or i64.xor i64.shl i64.shr_s i64.shr_u i64.rotl i64.rotr i32.wrap_i64 i64.extend_i32_s i64.extend_i32_u"))
  pub types : IsRead (codes "(module 1 (global const (unr unit)) (global const (lin i32)) (global const (var 4294967295)) (global const (rec lin 0 (rec unr 1 (var 0)))) (global const (unr (tuple))) (global const (lin (ref rw 0 (struct)))) (global const (unr (ref r 1 (variant)))) (global const (unr (ptr 0))) (global const (unr (cap rw 0 (array (var 0))))) (global const (lin (own 3))) (global const (unr (some L (var 0)))) (global const (lin (code (fun () () ())))) (global const (unr (code (fun ((loc L) (type unr 0) (loc U) (type lin 4294967295)) ((var 0)) ((var 1) (var 0)))))) (global const (unr (ref rw 0 (struct ((var 0) 0) ((var 1) 4294967295))))) (global const (lin (cap r 0 (exist unr 0 (var 0))))))")
  pub names : IsShown (codes "(module 1 (import \"a\" \"zzzzzzzzzzzzzzzzzzzzzzzzzzzzzzzzzzzzzzzzzzzzzzzzzzzzzzzzzzzzzzzz\" (fun () () ())) (export \"0_9\" 0) (export \"_\" 4294967295))") (codes "(module 1\n(import \"a\" \"zzzzzzzzzzzzzzzzzzzzzzzzzzzzzzzzzzzzzzzzzzzzzzzzzzzzzzzzzzzzzzzz\" (fun () () ()))\n(export \"0_9\" 0)\n(export \"_\" 4294967295)\n)\n")

pub record FaultRows : Type 0 where
  pub nothing : HasFault [] 1 1 Unended
  pub in_a_number : HasFault (codes "(module 1 (export \"a\" 12") 1 25 Unended
  pub i32_above : HasFault (main_of (codes "(i32.const 4294967296) (i64.const 0)")) 1 61 NumberOut
  pub i32_below : HasFault (main_of (codes "(i32.const -2147483649) (i64.const 0)")) 1 61 NumberOut
  pub i64_above : HasFault (main_of (codes "(i64.const 18446744073709551616) (i64.const 0)")) 1 61 NumberOut
  pub i64_below : HasFault (main_of (codes "(i64.const -9223372036854775809) (i64.const 0)")) 1 61 NumberOut
  pub index_above : HasFault (main_of (codes "(br 4294967296) (i64.const 0)")) 1 54 NumberOut
  pub index_negative : HasFault (main_of (codes "(br -1) (i64.const 0)")) 1 54 NumberOut
  pub minus_zero : HasFault (main_of (codes "(i64.const -0) (i64.const 0)")) 1 61 BadForm
  pub leading_zero : HasFault (main_of (codes "(i64.const 01) (i64.const 0)")) 1 61 BadForm
  pub minus_leading_zero : HasFault (main_of (codes "(br -01) (i64.const 0)")) 1 54 BadForm
  pub other_version : HasFault (codes "(module 2)") 1 9 BadForm
  pub form_before_token : HasFault (codes "(module 2 ?") 1 9 BadForm
  pub in_parentheses : HasFault (main_of (codes "(nop) (i64.const 0)")) 1 51 BadForm
  pub without_parentheses : HasFault (main_of (codes "br 0")) 1 50 BadForm
  pub no_number : HasFault (main_of (codes "(br) (i64.const 0)")) 1 53 BadForm
  pub after_else : HasFault (main_of (codes "(if () () () (then) (else) nop) (i64.const 0)")) 1 77 BadForm
  pub no_float : HasFault (codes "(module 1 (global const (unr f64)))") 1 30 BadForm
  pub string_open : HasFault (codes "(module 1 (export \"main 0))") 1 19 BadToken
  pub string_of_65 : HasFault (codes "(module 1 (export \"aaaaaaaaaaaaaaaaaaaaaaaaaaaaaaaaaaaaaaaaaaaaaaaaaaaaaaaaaaaaaaaaa\" 0))") 1 19 BadToken
  pub string_empty : HasFault (codes "(module 1 (export \"\" 0))") 1 19 BadToken
  pub string_of_large_letters : HasFault (codes "(module 1 (export \"Main\" 0))") 1 19 BadToken
  pub form_feed : HasFault (codes "(module 1" ++ 0x0C ∷ codes ")") 1 10 BadToken
  pub encoding_first : HasFault (codes "x (module 1 " ++ 0xff ∷ []) 1 13 BadUtf8
  pub encoding_behind : HasFault (codes "(module 1)\n;; ok\n" ++ 0xc3 ∷ []) 3 1 BadUtf8
  pub encoding_cut : HasFault (codes "(module 1) ;; " ++ 0xe2 ∷ 0x82 ∷ []) 1 15 BadUtf8
  pub two_modules : HasFault (codes "(module 1)(module 1)") 1 11 BadForm
  pub closed_twice : HasFault (codes "(module 1))") 1 11 BadForm
  pub out_of_order : HasFault (codes "(module 1 (export \"a\" 0) (func (fun () () ()) (locals)))") 1 27 BadForm
  pub too_deep : HasFault (main_of (times 199 (codes "(block () () () "))) 1 3209 TooDeep
  pub line_of_a_form : HasFault (codes "(module 1\n (func (fun () ()\n ()) (local)") 3 7 BadForm
  pub no_token : HasFault (codes "(module 1 (func ;; x\n #") 2 2 BadToken
  pub no_list : HasFault (main_of (codes "(struct.malloc (")) 1 65 BadForm
  pub overlong : HasFault (codes "(module 1) ;; " ++ 0xC0 ∷ 0x80 ∷ []) 1 15 BadUtf8
  pub surrogate : HasFault (codes "#\n" ++ 0xED ∷ 0xA0 ∷ 0x80 ∷ []) 2 1 BadUtf8
  pub past_the_last : HasFault (0xF4 ∷ 0x90 ∷ 0x80 ∷ 0x80 ∷ []) 1 1 BadUtf8
