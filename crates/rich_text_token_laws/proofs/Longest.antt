-- Pieces that are as long as they can be.
use Rattle.std.proofs.Common.{◌≡◌, ◌∙◌, ℕ, Bool, true, false, List, [], ◌∷◌, ◌++◌, refl, sym, ap, subst, inl, inr, append_assoc}
use Rattle.std.specs.Prelude.{◌==◌, ◌&&◌, nat_lt, nat_le, length}
use Rattle.std.specs.List.{list_all}
use Rattle.std.proofs.lemmas.Bool.{false≢true, eq-eqb, and_parts}
use Rattle.rich_text.specs.Tokens.{Opening, Closing, Word, Quoted, is_word_byte, is_name_byte, is_name}
use Rattle.rich_text_token_laws.specs.Pieces.{Piece, Blank, Comment, Lone, free_of, Writes, IsLongest}
use Rattle.rich_text_token_laws.proofs.Begun.{never, tail_one, begins, no_blank, never_free, same_parts, name_free, StartApart, all_behind, apart_none}

-- the quotes of a name
pub name_parts : (n : List ℕ) → is_name n ≡ true → free_of 34 n ≡ true
name_parts n h = name_free n (and_parts (nat_lt 0 (length n) && nat_le (length n) 64) (list_all is_name_byte n) h).1

-- one byte that begins no word, name or comment
pub single : (b : ℕ) → is_word_byte b ≡ false → (b == 34) ≡ false → (b == 59) ≡ false → (p : Piece) (more : List ℕ) → Writes p (b ∷ more) → more ≡ []
single b w q s Blank more h = tail_one b h.0 more [] h.2
single b w q s Comment more h = never (eq-eqb b 59 (begins Comment b more h)) s
single b w q s (Lone Opening) more h = tail_one b 40 more [] h
single b w q s (Lone Closing) more h = tail_one b 41 more [] h
single b w q s (Lone (Word v)) more h = never (begins (Lone (Word v)) b more h) w
single b w q s (Lone (Quoted n)) more h = never (eq-eqb b 34 (begins (Lone (Quoted n)) b more h)) q

-- a byte that is one of these and the other
not_both : {X : Type 0} (test : ℕ → Bool) (b k : ℕ) → test b ≡ true → b ≡ k → test k ≡ false → X
not_both test b k h e g = never (sym (ap test e) ∙ h) g

word_all : (b : ℕ) (v bs : List ℕ) → Writes (Lone (Word v)) (b ∷ bs) → list_all is_word_byte (b ∷ bs) ≡ true
word_all b [] bs h = absurd h
word_all b (c ∷ v) bs h = ap (list_all is_word_byte) h.1 ∙ h.0

pub word_longest : (b : ℕ) (w back : List ℕ) → is_word_byte b ≡ true → StartApart back → IsLongest (b ∷ w) back
word_longest b w back h a Blank more rest e g = never (begins Blank b (w ++ more) g) (no_blank b h)
word_longest b w back h a Comment more rest e g = not_both is_word_byte b 59 h (begins Comment b (w ++ more) g) refl
word_longest b w back h a (Lone Opening) more rest e g = not_both is_word_byte b 40 h (begins (Lone Opening) b (w ++ more) g) refl
word_longest b w back h a (Lone Closing) more rest e g = not_both is_word_byte b 41 h (begins (Lone Closing) b (w ++ more) g) refl
word_longest b w back h a (Lone (Word v)) more rest e g = apart_none more rest (subst StartApart e a) (all_behind (b ∷ w) more (word_all b v (w ++ more) g))
word_longest b w back h a (Lone (Quoted n)) more rest e g = not_both is_word_byte b 34 h (begins (Lone (Quoted n)) b (w ++ more) g) refl

-- a name ends at its second quote
quoted_only : (p : Piece) (n more : List ℕ) → free_of 34 n ≡ true → Writes p (34 ∷ (n ++ 34 ∷ more)) → more ≡ []
quoted_only Blank n more f g = absurd (false≢true (begins Blank 34 (n ++ 34 ∷ more) g))
quoted_only Comment n more f g = absurd (false≢true (eq-eqb 34 59 (begins Comment 34 (n ++ 34 ∷ more) g)))
quoted_only (Lone Opening) n more f g = absurd (false≢true (eq-eqb 34 40 (begins (Lone Opening) 34 (n ++ 34 ∷ more) g)))
quoted_only (Lone Closing) n more f g = absurd (false≢true (eq-eqb 34 41 (begins (Lone Closing) 34 (n ++ 34 ∷ more) g)))
quoted_only (Lone (Word v)) n more f g = absurd (false≢true (begins (Lone (Word v)) 34 (n ++ 34 ∷ more) g))
quoted_only (Lone (Quoted m)) n more f g = (same_parts 34 n m more [] f (name_parts m g.0) (tail_one 34 34 (n ++ 34 ∷ more) (m ++ 34 ∷ []) g.1)).1

pub quoted_longest : (n back : List ℕ) → free_of 34 n ≡ true → IsLongest (34 ∷ (n ++ 34 ∷ [])) back
quoted_longest n back f p more rest e g = quoted_only p n more f (subst (λ bs. Writes p (34 ∷ bs)) (append_assoc n (34 ∷ []) more) g)

-- a comment ends with its line
line_only : (p : Piece) (c more : List ℕ) → free_of 10 c ≡ true → Writes p (59 ∷ 59 ∷ (c ++ 10 ∷ more)) → more ≡ []
line_only Blank c more f g = absurd (false≢true (begins Blank 59 (59 ∷ (c ++ 10 ∷ more)) g))
line_only Comment c more f (d, h, inl e) =
    absurd (never_free 10 c more (ap (free_of 10) (tail_one 59 59 (c ++ 10 ∷ more) d (tail_one 59 59 (59 ∷ (c ++ 10 ∷ more)) (59 ∷ d) e)) ∙ h))
line_only Comment c more f (d, h, inr e) =
    (same_parts 10 c d more [] f h (tail_one 59 59 (c ++ 10 ∷ more) (d ++ 10 ∷ []) (tail_one 59 59 (59 ∷ (c ++ 10 ∷ more)) (59 ∷ (d ++ 10 ∷ [])) e))).1
line_only (Lone Opening) c more f g = absurd (false≢true (eq-eqb 59 40 (begins (Lone Opening) 59 (59 ∷ (c ++ 10 ∷ more)) g)))
line_only (Lone Closing) c more f g = absurd (false≢true (eq-eqb 59 41 (begins (Lone Closing) 59 (59 ∷ (c ++ 10 ∷ more)) g)))
line_only (Lone (Word v)) c more f g = absurd (false≢true (begins (Lone (Word v)) 59 (59 ∷ (c ++ 10 ∷ more)) g))
line_only (Lone (Quoted m)) c more f g = absurd (false≢true (eq-eqb 59 34 (begins (Lone (Quoted m)) 59 (59 ∷ (c ++ 10 ∷ more)) g)))

pub line_longest : (c back : List ℕ) → free_of 10 c ≡ true → IsLongest (59 ∷ 59 ∷ (c ++ 10 ∷ [])) back
line_longest c back f p more rest e g = line_only p c more f (subst (λ bs. Writes p (59 ∷ 59 ∷ bs)) (append_assoc c (10 ∷ []) more) g)

none_more : (more rest : List ℕ) → [] ≡ more ++ rest → more ≡ []
none_more [] rest e = refl
none_more (b ∷ more) rest e = absurd (cc e)

-- and so does the last one with the text
pub last_longest : (front : List ℕ) → IsLongest front []
last_longest front p more rest e g = none_more more rest e
