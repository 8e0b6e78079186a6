-- A sequence of UTF-8 that begins at a byte, or none.
use Rattle.std.proofs.Common.{◌≡◌, ◌∙◌, ℕ, zero, suc, ◌≤◌, List, ◌∷◌, sym, ap, arith, Option}
use Rattle.rich_text.specs.Places.{place_behind}
use Rattle.rich_text.specs.Utf8.{at_sequence, ill_formed_from, more_of}
use Rattle.rw_tokens.specs.Streams.{Remains}

pub sequence_begun : (more : ℕ) (old new : Remains) (b : ℕ) (o : Option ℕ) (bs : List ℕ) → more ≤ 0 → (old.bytes ≡ b ∷ new.bytes) × (new.at ≡ place_behind b old.at) → bs ≡ new.bytes → o ≡ more_of b bs
    → ill_formed_from more old.at old.bytes ≡ at_sequence old.at o (λ m. ill_formed_from m new.at new.bytes)
sequence_begun zero old new b o bs h t e m =
    ap (ill_formed_from 0 old.at) t.0
    ∙ ap (λ x. at_sequence old.at x (λ m. ill_formed_from m (place_behind b old.at) new.bytes)) (ap (more_of b) (sym e) ∙ sym m)
    ∙ ap (λ x. at_sequence old.at o (λ m. ill_formed_from m x new.bytes)) (sym t.1)
sequence_begun (suc n) old new b o bs h t e m = absurd (omega arith)
