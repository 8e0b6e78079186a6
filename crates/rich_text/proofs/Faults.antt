-- The rows of faults, computed one by one.
use Rattle.std.proofs.Common.{◌++◌, [], ◌∷◌, refl}
use Rattle.std.specs.Prelude.{codes}
use Rattle.rich_text.specs.Tokens.{BadUtf8, BadToken, TooDeep, NumberOut, BadForm, Unended}
use Rattle.rich_text.specs.Rows.{HasFault, main_of, times}

pub nothing : HasFault [] 1 1 Unended
nothing = refl

pub in_a_number : HasFault (codes "(module 1 (export \"a\" 12") 1 25 Unended
in_a_number = refl

pub i32_above : HasFault (main_of (codes "(i32.const 4294967296) (i64.const 0)")) 1 61 NumberOut
i32_above = refl

pub i32_below : HasFault (main_of (codes "(i32.const -2147483649) (i64.const 0)")) 1 61 NumberOut
i32_below = refl

pub i64_above : HasFault (main_of (codes "(i64.const 18446744073709551616) (i64.const 0)")) 1 61 NumberOut
i64_above = refl

pub i64_below : HasFault (main_of (codes "(i64.const -9223372036854775809) (i64.const 0)")) 1 61 NumberOut
i64_below = refl

pub index_above : HasFault (main_of (codes "(br 4294967296) (i64.const 0)")) 1 54 NumberOut
index_above = refl

pub index_negative : HasFault (main_of (codes "(br -1) (i64.const 0)")) 1 54 NumberOut
index_negative = refl

pub minus_zero : HasFault (main_of (codes "(i64.const -0) (i64.const 0)")) 1 61 BadForm
minus_zero = refl

pub leading_zero : HasFault (main_of (codes "(i64.const 01) (i64.const 0)")) 1 61 BadForm
leading_zero = refl

pub minus_leading_zero : HasFault (main_of (codes "(br -01) (i64.const 0)")) 1 54 BadForm
minus_leading_zero = refl

pub other_version : HasFault (codes "(module 2)") 1 9 BadForm
other_version = refl

pub form_before_token : HasFault (codes "(module 2 ?") 1 9 BadForm
form_before_token = refl

pub in_parentheses : HasFault (main_of (codes "(nop) (i64.const 0)")) 1 51 BadForm
in_parentheses = refl

pub without_parentheses : HasFault (main_of (codes "br 0")) 1 50 BadForm
without_parentheses = refl

pub no_number : HasFault (main_of (codes "(br) (i64.const 0)")) 1 53 BadForm
no_number = refl

pub after_else : HasFault (main_of (codes "(if () () () (then) (else) nop) (i64.const 0)")) 1 77 BadForm
after_else = refl

pub no_float : HasFault (codes "(module 1 (global const (unr f64)))") 1 30 BadForm
no_float = refl

pub string_open : HasFault (codes "(module 1 (export \"main 0))") 1 19 BadToken
string_open = refl

pub string_of_65 : HasFault (codes "(module 1 (export \"aaaaaaaaaaaaaaaaaaaaaaaaaaaaaaaaaaaaaaaaaaaaaaaaaaaaaaaaaaaaaaaaa\" 0))") 1 19 BadToken
string_of_65 = refl

pub string_empty : HasFault (codes "(module 1 (export \"\" 0))") 1 19 BadToken
string_empty = refl

pub string_of_large_letters : HasFault (codes "(module 1 (export \"Main\" 0))") 1 19 BadToken
string_of_large_letters = refl

pub form_feed : HasFault (codes "(module 1" ++ 0x0C ∷ codes ")") 1 10 BadToken
form_feed = refl

pub encoding_first : HasFault (codes "x (module 1 " ++ 0xff ∷ []) 1 13 BadUtf8
encoding_first = refl

pub encoding_behind : HasFault (codes "(module 1)\n;; ok\n" ++ 0xc3 ∷ []) 3 1 BadUtf8
encoding_behind = refl

pub encoding_cut : HasFault (codes "(module 1) ;; " ++ 0xe2 ∷ 0x82 ∷ []) 1 15 BadUtf8
encoding_cut = refl

pub two_modules : HasFault (codes "(module 1)(module 1)") 1 11 BadForm
two_modules = refl

pub closed_twice : HasFault (codes "(module 1))") 1 11 BadForm
closed_twice = refl

pub out_of_order : HasFault (codes "(module 1 (export \"a\" 0) (func (fun () () ()) (locals)))") 1 27 BadForm
out_of_order = refl

pub too_deep : HasFault (main_of (times 199 (codes "(block () () () "))) 1 3209 TooDeep
too_deep = refl

pub line_of_a_form : HasFault (codes "(module 1\n (func (fun () ()\n ()) (local)") 3 7 BadForm
line_of_a_form = refl

pub no_token : HasFault (codes "(module 1 (func ;; x\n #") 2 2 BadToken
no_token = refl

pub no_list : HasFault (main_of (codes "(struct.malloc (")) 1 65 BadForm
no_list = refl

pub overlong : HasFault (codes "(module 1) ;; " ++ 0xC0 ∷ 0x80 ∷ []) 1 15 BadUtf8
overlong = refl

pub surrogate : HasFault (codes "#\n" ++ 0xED ∷ 0xA0 ∷ 0x80 ∷ []) 2 1 BadUtf8
surrogate = refl

pub past_the_last : HasFault (0xF4 ∷ 0x90 ∷ 0x80 ∷ 0x80 ∷ []) 1 1 BadUtf8
past_the_last = refl
