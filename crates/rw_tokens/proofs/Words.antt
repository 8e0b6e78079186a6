-- Words: their bytes are those up to the first that is none of a word.
use Rattle.std.proofs.Common.{◌≡◌, ◌∙◌, ℕ, suc, ◌+◌, Bool, true, false, List, [], ◌∷◌, ◌++◌, take, drop, refl, sym, ap, append_assoc, append-nil, add-zero, one-add, arith, inl, inr}
use Rattle.std.specs.Prelude.{◌==◌, ◌||◌, reverse}
use Rattle.std.specs.List.{prefix_len}
use Rattle.std.proofs.lemmas.List.{reverse-append}
use Rattle.std.proofs.lemmas.Bool.{false≢true, cond-true, cond-false, cases_Bool, ne_eqb}
use Rattle.rich_text.specs.Tokens.{Word, is_word_byte, is_blank}
use Rattle.rich_text.specs.Places.{Place, place_behind}
use Rattle.rich_text.specs.Lexing.{Lexed, Inside, InBlank, InWord, before, begun, lexed_from}

pub other : (test : ℕ → Bool) (b k : ℕ) → test b ≡ true → test k ≡ false → (b == k) ≡ false
other test b k h g = ne_eqb b k (λ e. false≢true (sym g ∙ ap test (sym e) ∙ h))

pub turned : (b : ℕ) (passed bs : List ℕ) → reverse (b ∷ passed) ++ bs ≡ reverse passed ++ b ∷ bs
turned b passed bs = ap (λ xs. xs ++ bs) (reverse-append (b ∷ []) passed) ∙ append_assoc (reverse passed) (b ∷ []) bs

-- so many columns on
abbrev pub right : ℕ → Place → Place
right k at = record { line = at.line; column = at.column + k }

pub right_none : (at : Place) → right 0 at ≡ at
right_none at = ap (λ c. let p : Place = record { line = at.line; column = c } in p) (add-zero at.column)

pub right_one : (b k : ℕ) (at : Place) → (b == 10) ≡ false → right k (place_behind b at) ≡ right (suc k) at
right_one b k at h =
    ap (right k) (cond-false (b == 10) _ _ h)
    ∙ ap (λ c. let p : Place = record { line = at.line; column = c } in p) (let e : at.column + 1 + k ≡ at.column + suc k = omega arith in e)

pub run_more : (p : ℕ → Bool) (b : ℕ) (bs : List ℕ) → p b ≡ true → prefix_len p (b ∷ bs) ≡ suc (prefix_len p bs)
run_more p b bs h = rw (h, one-add) refl

pub run_over : (p : ℕ → Bool) (b : ℕ) (bs : List ℕ) → p b ≡ false → prefix_len p (b ∷ bs) ≡ 0
run_over p b bs h = rw h refl

-- a word that was begun, with so many bytes more
abbrev worded : Place → Place → List ℕ → List ℕ → ℕ → ℕ → Lexed
worded from at passed bs d k = before (Word (reverse passed ++ take k bs)) from (lexed_from (drop k bs) InBlank (right k at) d)

word_over : (from at : Place) (passed bs : List ℕ) (d : ℕ) → before (Word (reverse passed)) from (lexed_from bs InBlank at d) ≡ worded from at passed bs d 0
word_over from at passed bs d =
    ap (λ w. before (Word w) from (lexed_from bs InBlank at d)) (sym (append-nil (reverse passed)))
    ∙ ap (λ p. before (Word (reverse passed ++ [])) from (lexed_from bs InBlank p d)) (sym (right_none at))

pub word_goes : (from at : Place) (passed bs : List ℕ) (d : ℕ) → lexed_from bs (InWord from passed) at d ≡ worded from at passed bs d (prefix_len is_word_byte bs)
word_goes from at passed [] d = word_over from at passed [] d
word_goes from at passed (b ∷ bs) d =
    elim (cases_Bool (is_word_byte b)) [
      | inl e ↦
          cond-true (is_word_byte b) (lexed_from bs (InWord from (b ∷ passed)) (place_behind b at) d) (before (Word (reverse passed)) from (begun (λ i. lexed_from bs i (place_behind b at)) at d b)) e
          ∙ word_goes from (place_behind b at) (b ∷ passed) bs d
          ∙ ap (λ w. before (Word w) from (lexed_from (drop (prefix_len is_word_byte bs) bs) InBlank (right (prefix_len is_word_byte bs) (place_behind b at)) d)) (turned b passed (take (prefix_len is_word_byte bs) bs))
          ∙ ap (λ p. before (Word (reverse passed ++ b ∷ take (prefix_len is_word_byte bs) bs)) from (lexed_from (drop (prefix_len is_word_byte bs) bs) InBlank p d)) (right_one b (prefix_len is_word_byte bs) at (other is_word_byte b 10 e refl))
          ∙ ap (worded from at passed (b ∷ bs) d) (sym (run_more is_word_byte b bs e))
      | inr e ↦
          cond-false (is_word_byte b) (lexed_from bs (InWord from (b ∷ passed)) (place_behind b at) d) (before (Word (reverse passed)) from (begun (λ i. lexed_from bs i (place_behind b at)) at d b)) e
          ∙ word_over from at passed (b ∷ bs) d
          ∙ ap (worded from at passed (b ∷ bs) d) (sym (run_over is_word_byte b bs e))
    ]

no_or : (a b : Bool) → a ≡ false → b ≡ false → (a || b) ≡ false
no_or a b e f = ap (λ x. x || b) e ∙ f

no_blank : (b : ℕ) → is_word_byte b ≡ true → is_blank b ≡ false
no_blank b h =
    no_or (b == 32 || b == 9 || b == 10) (b == 13)
    (no_or (b == 32 || b == 9) (b == 10) (no_or (b == 32) (b == 9) (other is_word_byte b 32 h refl) (other is_word_byte b 9 h refl)) (other is_word_byte b 10 h refl))
    (other is_word_byte b 13 h refl)

-- the branches that a byte of a word doesn't take
word_begun : (go : Inside → ℕ → Lexed) (at : Place) (depth b : ℕ) → is_word_byte b ≡ true → begun go at depth b ≡ go (InWord at (b ∷ [])) depth
word_begun go at depth b h =
    cond-false (is_blank b) _ _ (no_blank b h)
    ∙ cond-false (b == 40) _ _ (other is_word_byte b 40 h refl)
    ∙ cond-false (b == 41) _ _ (other is_word_byte b 41 h refl)
    ∙ cond-true (is_word_byte b) _ _ h

-- a word, by its first byte
abbrev pub whole_word : Place → List ℕ → ℕ → ℕ → Lexed
whole_word at bs d k = before (Word (take k bs)) at (lexed_from (drop k bs) InBlank (right k at) d)

pub word_whole : (b : ℕ) (bs : List ℕ) (at : Place) (d : ℕ) → is_word_byte b ≡ true → lexed_from (b ∷ bs) InBlank at d ≡ whole_word at (b ∷ bs) d (prefix_len is_word_byte (b ∷ bs))
word_whole b bs at d h =
    word_begun (λ i. lexed_from bs i (place_behind b at)) at d b h
    ∙ word_goes at (place_behind b at) (b ∷ []) bs d
    ∙ ap (λ p. before (Word (b ∷ take (prefix_len is_word_byte bs) bs)) at (lexed_from (drop (prefix_len is_word_byte bs) bs) InBlank p d)) (right_one b (prefix_len is_word_byte bs) at (other is_word_byte b 10 h refl))
    ∙ ap (whole_word at (b ∷ bs) d) (sym (run_more is_word_byte b bs h))
