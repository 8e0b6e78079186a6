-- Constants, names, bytes and numbers that follow each other.
use Rattle.std.proofs.Common.{◌≡◌, ℕ, zero, suc, ◌+◌, ◌*◌, ◌-◌, ◌^◌, ◌<◌, ◌≤◌, length, All, refl, ap, arith, lit<, length-append}
use Rattle.std.specs.Prelude.{codes}
use Rattle.std.specs.Int.{byte_at, bytes_low_first, to_le_bytes, w64}
use Rattle.std.proofs.lemmas.List.Elements.{All-append, All-cons, All-nil}
use Rattle.wasm_ast.specs.declared.instructions.WInstr as w
use Rattle.wasm_ast.specs.declared.instructions.WInstr.TheOpen.{WInstr-F}
use Rattle.wasm_ast.specs.declared.instructions.WInstr.TheVariants.{rolls-I32Const, rolls-I64Const}
use Rattle.wasm_grammar.specs.Nesting.{nesting, nesting_limit}
use Rattle.wasm_grammar.specs.Profile.{NameFits}
use Rattle.wasm_grammar.specs.ProfileInstructions.{ConstantFits, FitsU32, IsShortListOf}
use Rattle.wasm_spelling.proofs.KnownInstructions.{known_constant, known_fits, known_nesting}
use Rattle.lowering_table.specs.declared.Pages.{Pages}
use Rattle.lowering_table.specs.Modules.{counted, free_list_bytes}

pub constant-I32Const : (n : ℕ) → n < 2 ^ 32 → ConstantFits (w.I32Const n)
constant-I32Const n h =
    let x : WInstr-F w.WInstr = WInstr-F.I32Const n in
    (known_constant x (w.I32Const n) (rolls-I32Const n) tt, known_fits x (w.I32Const n) (rolls-I32Const n) h)

pub constant-I64Const : (n : ℕ) → n < 2 ^ 64 → ConstantFits (w.I64Const n)
constant-I64Const n h =
    let x : WInstr-F w.WInstr = WInstr-F.I64Const n in
    (known_constant x (w.I64Const n) (rolls-I64Const n) tt, known_fits x (w.I64Const n) (rolls-I64Const n) h)

pub flat-I32Const : (n : ℕ) → nesting (w.I32Const n) ≤ nesting_limit
flat-I32Const n = omega (arith, known_nesting (WInstr-F.I32Const n) (w.I32Const n) (rolls-I32Const n))

pub flat-I64Const : (n : ℕ) → nesting (w.I64Const n) ≤ nesting_limit
flat-I64Const n = omega (arith, known_nesting (WInstr-F.I64Const n) (w.I64Const n) (rolls-I64Const n))

-- the bytes of a number
byte_at-below : (i n : ℕ) → byte_at i n < 256
byte_at-below zero n = omega arith
byte_at-below (suc i) n = omega arith

low_first-bytes : (i k n : ℕ) → All (λ b. b < 256) (bytes_low_first i k n)
low_first-bytes i zero n = All-nil _
low_first-bytes i (suc k) n = All-cons (λ b. b < 256) (byte_at i n) (bytes_low_first (suc i) k n) (byte_at-below i n) (low_first-bytes (suc i) k n)

low_first-length : (i k n : ℕ) → length (bytes_low_first i k n) ≡ k
low_first-length i zero n = refl
low_first-length i (suc k) n = omega (arith, low_first-length (suc i) k n)

pub free_list-fits : (pages : Pages) → IsShortListOf (λ b. b < 256) (free_list_bytes pages)
free_list-fits pages =
    let words = 8192 * pages.lin - 3 in
    record {
      short = omega (arith, length-append (to_le_bytes w64 24) (to_le_bytes w64 words), low_first-length 0 8 24, low_first-length 0 8 words);
      each = All-append (λ b. b < 256) (to_le_bytes w64 24) (to_le_bytes w64 words) (low_first-bytes 0 8 24) (low_first-bytes 0 8 words);
    }

-- the names
pub rw-fits : NameFits (codes "rw")
unfolding lib.Utf8.encode
rw-fits = ((codes "rw", (refl, refl)), lit< tt)

pub print-fits : NameFits (codes "print")
unfolding lib.Utf8.encode
print-fits = ((codes "print", (refl, refl)), lit< tt)

pub main-fits : NameFits (codes "main")
unfolding lib.Utf8.encode
main-fits = ((codes "main", (refl, refl)), lit< tt)

pub memory-fits : NameFits (codes "memory")
unfolding lib.Utf8.encode
memory-fits = ((codes "memory", (refl, refl)), lit< tt)

pub trap_code-fits : NameFits (codes "trap_code")
unfolding lib.Utf8.encode
trap_code-fits = ((codes "trap_code", (refl, refl)), lit< tt)

-- numbers from one on
counted_length : (n from : ℕ) → length (counted n from) ≡ n
counted_length zero from = refl
counted_length (suc n) from = ap suc (counted_length n (suc from))

counted_each : (n from : ℕ) → from + n < 2 ^ 32 → All FitsU32 (counted n from)
counted_each zero from h = All-nil FitsU32
counted_each (suc n) from h = All-cons FitsU32 from (counted n (suc from)) (omega (arith, h)) (counted_each n (suc from) (omega (arith, h)))

pub counted-fits : (n from : ℕ) → from + n < 2 ^ 32 → IsShortListOf FitsU32 (counted n from)
counted-fits n from h = record { short = omega (arith, h, counted_length n from); each = counted_each n from h }
