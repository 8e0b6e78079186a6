-- The kind of an opcode by ranges of opcodes is that by the tables of instructions: computed for each byte.
use Rattle.std.proofs.Common.{◌≡◌, ◌∙◌, ℕ, zero, suc, ◌<◌, Bool, inl, inr, true, ◌&&◌, ◌||◌, eqb, Option, None, Some, refl, ap, sym, arith}
use Rattle.std.specs.Prelude.{if◌then◌else◌, ◌==◌}
use Rattle.std.proofs.lemmas.Bool.{and_parts, eqb-true, cases_eq}
use Rattle.wasm_reading.specs.declared.kinds.ImmediateKind.{ImmediateKind}
use Rattle.wasm_reading.specs.declared.kinds.ImmediateKind.TheVariants as kinds
use Rattle.wasm_reading.specs.ReadInstructions.{kind_of, is_from_to}

-- the kind of an opcode, by ranges
abbrev pub kind_in_ranges : ℕ → Option ImmediateKind
kind_in_ranges b =
    if b == 0x00 || b == 0x01 || b == 0x0F || b == 0x1A || b == 0x1B || is_from_to 0x45 0x5A b || is_from_to 0x67 0x8A b || b == 0xA7 || b == 0xAC || b == 0xAD then Some kinds.Bare
    else (if b == 0x0C || b == 0x0D || b == 0x10 || is_from_to 0x20 0x24 b then Some kinds.Index
    else (if b == 0x0E then Some kinds.Labels
    else (if b == 0x11 then Some kinds.IndexZero
    else (if b == 0x3F || b == 0x40 then Some kinds.Zero
    else (if b == 0x28 || b == 0x29 || is_from_to 0x2C 0x37 b || is_from_to 0x3A 0x3E b then Some kinds.MemArg
    else (if b == 0x41 then Some kinds.Const32
    else (if b == 0x42 then Some kinds.Const64
    else None)))))))

-- a kind as a number, and back
abbrev number_of : Option ImmediateKind → ℕ
number_of None = 0
number_of (Some kinds.Bare) = 1
number_of (Some kinds.Index) = 2
number_of (Some kinds.Labels) = 3
number_of (Some kinds.IndexZero) = 4
number_of (Some kinds.Zero) = 5
number_of (Some kinds.MemArg) = 6
number_of (Some kinds.Const32) = 7
number_of (Some kinds.Const64) = 8

abbrev numbered : ℕ → Option ImmediateKind
numbered (suc zero) = Some kinds.Bare
numbered (suc (suc zero)) = Some kinds.Index
numbered (suc (suc (suc zero))) = Some kinds.Labels
numbered (suc (suc (suc (suc zero)))) = Some kinds.IndexZero
numbered (suc (suc (suc (suc (suc zero))))) = Some kinds.Zero
numbered (suc (suc (suc (suc (suc (suc zero)))))) = Some kinds.MemArg
numbered (suc (suc (suc (suc (suc (suc (suc zero))))))) = Some kinds.Const32
numbered (suc (suc (suc (suc (suc (suc (suc (suc zero)))))))) = Some kinds.Const64
numbered _ = None

back : (kind : Option ImmediateKind) → numbered (number_of kind) ≡ kind
back None = refl
back (Some kinds.Bare) = refl
back (Some kinds.Index) = refl
back (Some kinds.Labels) = refl
back (Some kinds.IndexZero) = refl
back (Some kinds.Zero) = refl
back (Some kinds.MemArg) = refl
back (Some kinds.Const32) = refl
back (Some kinds.Const64) = refl

-- the two agree at each number below `n`
abbrev agree_below : ℕ → Bool
agree_below zero = true
agree_below (suc n) = eqb (number_of (kind_of n)) (number_of (kind_in_ranges n)) && agree_below n

agree_at : (n b : ℕ) → agree_below n ≡ true → b < n → number_of (kind_of b) ≡ number_of (kind_in_ranges b)
agree_at zero b e h = absurd (omega arith)
agree_at (suc n) b e h =
    let both = and_parts (eqb (number_of (kind_of n)) (number_of (kind_in_ranges n))) (agree_below n) e in
    elim (cases_eq b n) [
      | inl same ↦ rw same (eqb-true (number_of (kind_of n)) (number_of (kind_in_ranges n)) both.0)
      | inr other ↦ agree_at n b both.1 (omega arith)
    ]

-- What is the kind of a byte by ranges is its kind.
pub by_ranges : (b : ℕ) (kind : Option ImmediateKind) → b < 256 → kind ≡ kind_in_ranges b → kind ≡ kind_of b
by_ranges b kind h e =
    e ∙ sym (back (kind_in_ranges b)) ∙ ap numbered (sym (agree_at 256 b refl h)) ∙ back (kind_of b)
