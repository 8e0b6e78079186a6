-- Where the first byte is no `)`, no `)` is the first token.
use Rattle.std.proofs.Common.{arith, ◌≡◌, ◌∙◌, ℕ, Bool, true, false, List, [], ◌∷◌, refl, sym, ap, Option, Some}
use Rattle.std.specs.Prelude.{if◌then◌else◌, ◌==◌, reverse, nat_lt}
use Rattle.rich_text.specs.Tokens.{is_word_byte, is_blank, is_name, nesting_limit}
use Rattle.rich_text.specs.Places.{Place, place_behind}
use Rattle.rich_text.specs.Lexing.{Lexed, InBlank, AfterSemicolon, InWord, InName, lexed_from}
use Rattle.rw_tokens.specs.Streams.{BeginNotClosing}
use Rattle.rw_tokens.specs.Found.{begins_blank, begins_comment}

true≢false : true ≡ false → ⊥
true≢false e = cc

-- neither of two
either : (b : Bool) (x y : Lexed) → (b ≡ true → BeginNotClosing x.tokens) → (b ≡ false → BeginNotClosing y.tokens) → BeginNotClosing (if b then x else y).tokens
either true x y h g = h refl
either false x y h g = g refl

in_word : (from at : Place) (w bs : List ℕ) (d : ℕ) → BeginNotClosing (lexed_from bs (InWord from w) at d).tokens
in_word from at w [] d = tt
in_word from at w (b ∷ bs) d = either (is_word_byte b) _ _ (λ e. in_word from (place_behind b at) (b ∷ w) bs d) (λ e. tt)

in_name : (from at : Place) (n bs : List ℕ) (d : ℕ) → BeginNotClosing (lexed_from bs (InName from n) at d).tokens
in_name from at n [] d = tt
in_name from at n (b ∷ bs) d =
    either (b == 34) _ _ (λ e. either (is_name (reverse n)) _ _ (λ f. tt) (λ f. tt)) (λ e. in_name from (place_behind b at) (b ∷ n) bs d)

behind_semicolon : (from at : Place) (bs : List ℕ) (d : ℕ) → begins_comment (59 ∷ bs) ≡ false → BeginNotClosing (lexed_from bs (AfterSemicolon from) at d).tokens
behind_semicolon from at [] d h = tt
behind_semicolon from at (b ∷ bs) d h = either (b == 59) _ _ (λ e. absurd (true≢false (sym e ∙ h))) (λ e. tt)

pub no_closing : (bytes : List ℕ) (at : Place) (d : ℕ) → (begins_blank bytes ≡ false) → begins_comment bytes ≡ false → ((bs : List ℕ) → bytes ≡ 41 ∷ bs → ⊥) → BeginNotClosing (lexed_from bytes InBlank at d).tokens
no_closing [] at d h g k = tt
no_closing (b ∷ bs) at d h g k =
    either (is_blank b) _ _ (λ e. absurd (true≢false (sym e ∙ h))) (λ e.
    either (b == 40) _ _ (λ e. either (nat_lt d nesting_limit) _ _ (λ e. tt) (λ e. tt)) (λ e.
    either (b == 41) _ _ (λ e. absurd (k bs (ap (λ x. x ∷ bs) (same b 41 e)))) (λ e.
    either (is_word_byte b) _ _ (λ e. in_word at (place_behind b at) (b ∷ []) bs d) (λ e.
    either (b == 34) _ _ (λ e. in_name at (place_behind b at) [] bs d) (λ e.
    either (b == 59) _ _ (λ e. behind_semicolon at (place_behind b at) bs d (ap (λ x. begins_comment (x ∷ bs)) (sym (same b 59 e)) ∙ g)) (λ e. tt))))))
  where
    same : (b k : ℕ) → (b == k) ≡ true → b ≡ k
    same b k e = grind arith

pub some_same : (a b : ℕ) → ◌≡◌ {A = Option ℕ} (Some a) (Some b) → a ≡ b
some_same a b e = cc
