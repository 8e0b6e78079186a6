-- The notes of a derivation of plain instructions: each operand is one word, and no more stand than there are
-- instructions.
use Rattle.std.proofs.Common.{◌≡◌, ℕ, ◌+◌, ◌≤◌, Bool, true, false, List, [], ◌∷◌, length, Option, refl, ap, sym, subst, arith}
use Rattle.rw_types.specs.declared.instrs.Instr.{Instr, I64Const, Num, Print, Drop}
use Rattle.rw_types.specs.declared.numbers.NumName.TheVariants.{I64Add}
use Rattle.rw_types.specs.declared.types.Ty.{Ty, Of}
use Rattle.rw_types.specs.declared.types.Pre.{I64}
use Rattle.rw_types.specs.declared.types.Qual.TheVariants.{Unr}
use Rattle.rw_types.specs.LoneMain.{IsPlain, ArePlain}
use Rattle.rich_typing.specs.declared.notes.Note.{Note}
use Rattle.rich_typing.specs.declared.rules.Rule.{Rule}
use Rattle.rich_typing.specs.Kinds.{size, words_of}
use Rattle.rich_typing.specs.Table.{Outcome, Gives, need, i64_form, unr_i64, row, note_of}
use Rattle.rich_typing.specs.Derivations.{Derives, done, next}
use Rattle.lower.specs.Heights.{IsWithin, AreWithin}

-- each type is one word
abbrev AreWords : List Ty → Type 0
AreWords [] = Unit {0}
AreWords (t ∷ ts) = (size [] t ≡ 1) × AreWords ts

words_of-words : (ts : List Ty) → AreWords ts → words_of [] ts ≡ length ts
words_of-words [] all = refl
words_of-words (t ∷ ts) all = omega (arith, all.0, words_of-words ts all.1)

gives_same : (a b : List Ty) → Gives a ≡ Gives b → a ≡ b
gives_same a b e = cc

i64_holds : (t : Ty) (rest : Outcome) (after : List Ty) → i64_form t rest ≡ Gives after → rest ≡ Gives after
i64_holds (Of Unr I64) rest after e = e
i64_holds _ rest after e = absurd cc

need_holds : (b : Bool) (broken : Rule) (found expected : Option Ty) (rest : Outcome) (after : List Ty) → need b broken found expected rest ≡ Gives after → rest ≡ Gives after
need_holds true broken found expected rest after e = e
need_holds false broken found expected rest after e = absurd cc

-- what an instruction does to operands that are words
record Goes (i : Instr) (operands after : List Ty) : Type 0 where
  words : AreWords after
  more : length after ≤ length operands + 1
  note : (limit : ℕ) → length operands ≤ limit → IsWithin limit (note_of [] i operands)

goes : (i : Instr) (operands after : List Ty) → IsPlain i → AreWords operands → row [] i operands ≡ Gives after → Goes i operands after
goes (I64Const n) operands after plain all e =
    let same : unr_i64 ∷ operands ≡ after = gives_same _ _ e in
    record {
      words = subst AreWords same (refl, all);
      more = omega (arith, ap length same);
      note = λ limit le. record { words = refl; height = omega (arith, words_of-words operands all) };
    }
goes (Num I64Add) [] after plain all e = absurd cc
goes (Num I64Add) (t ∷ []) after plain all e = absurd cc
goes (Num I64Add) (t ∷ u ∷ beneath) after plain all e =
    let same : unr_i64 ∷ beneath ≡ after = gives_same (unr_i64 ∷ beneath) after (i64_holds t (Gives (unr_i64 ∷ beneath)) after (i64_holds u (i64_form t (Gives (unr_i64 ∷ beneath))) after e)) in
    record {
      words = subst AreWords same (refl, all.1.1);
      more = omega (arith, ap length same);
      note = λ limit le. record { words = omega (arith, all.0, all.1.0); height = omega (arith, words_of-words beneath all.1.1) };
    }
goes Print [] after plain all e = absurd cc
goes Print (t ∷ beneath) after plain all e =
    let same : beneath ≡ after = gives_same _ _ (i64_holds t _ after e) in
    record {
      words = subst AreWords same all.1;
      more = omega (arith, ap length same);
      note = λ limit le. record { words = omega (arith, all.0); height = omega (arith, words_of-words beneath all.1) };
    }
goes Drop [] after plain all e = absurd cc
goes Drop (t ∷ beneath) after plain all e =
    let same : beneath ≡ after = gives_same _ _ (need_holds _ _ _ _ _ after e) in
    record {
      words = subst AreWords same all.1;
      more = omega (arith, ap length same);
      note = λ limit le. record { words = omega (arith, all.0); height = omega (arith, words_of-words beneath all.1) };
    }
goes _ operands after plain all e = absurd plain

pub derived_within : (limit : ℕ) (body : List Instr) (operands : List Ty) (notes : List Note) (end : List Ty) → Derives [] body operands notes end → AreWords operands → ArePlain body → length operands + length body ≤ limit → AreWithin limit notes
derived_within limit [] operands notes end (done e same) all plain le = subst (AreWithin limit) (sym e) tt
derived_within limit (i ∷ is) operands notes end (next after later gives tells rest) all plain le =
    let step = goes i operands after plain.0 all gives in
    subst (AreWithin limit) (sym tells)
    (step.note limit (omega arith), derived_within limit is after later end rest step.words plain.1 (omega (arith, step.more)))
