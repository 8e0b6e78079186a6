-- The names among the tokens of a text are names.
use Rattle.std.proofs.Common.{◌≡◌, ℕ, suc, ◌-◌, Bool, true, false, List, [], ◌∷◌, ◌++◌, refl}
use Rattle.std.specs.Prelude.{⊤, if◌then◌else◌, ◌==◌, nat_lt, reverse}
use Rattle.rich_text.specs.Tokens.{Token, Opening, Closing, Word, Quoted, BadToken, TooDeep, is_word_byte, is_blank, is_name, nesting_limit}
use Rattle.rich_text.specs.Places.{Place, the_start, place_behind}
use Rattle.rich_text.specs.Lexing.{Lexed, Inside, InBlank, InComment, AfterSemicolon, InWord, InName, stop, before, begun, lexed_from, lexed}

abbrev pub IsNamed : Token → Type 0
IsNamed Opening = ⊤
IsNamed Closing = ⊤
IsNamed (Word w) = ⊤
IsNamed (Quoted n) = is_name n ≡ true

abbrev pub AreNamed : List Token → Type 0
AreNamed [] = ⊤
AreNamed (t ∷ ts) = IsNamed t × AreNamed ts

pub named_front : (front back : List Token) → AreNamed (front ++ back) → AreNamed front
named_front [] back h = tt
named_front (t ∷ front) back h = (h.0, named_front front back h.1)

pub named_back : (front back : List Token) → AreNamed (front ++ back) → AreNamed back
named_back [] back h = h
named_back (t ∷ front) back h = named_back front back h.1

abbrev Named : Lexed → Type 0
Named l = AreNamed l.tokens

named_if : (b : Bool) (x y : Lexed) → (b ≡ true → Named x) → Named y → Named (if b then x else y)
named_if true x y h g = h refl
named_if false x y h g = g

named_begun : (go : Inside → ℕ → Lexed) (at : Place) (depth b : ℕ) → ((i : Inside) (d : ℕ) → Named (go i d)) → Named (begun go at depth b)
named_begun go at depth b more =
    named_if (is_blank b) _ _ (λ e. more InBlank depth)
    (named_if (b == 40) _ _ (λ e. named_if (nat_lt depth nesting_limit) (before Opening at (go InBlank (suc depth))) (stop TooDeep at) (λ e. (tt, more InBlank (suc depth))) tt)
    (named_if (b == 41) _ _ (λ e. (tt, more InBlank (depth - 1)))
    (named_if (is_word_byte b) _ _ (λ e. more (InWord at (b ∷ [])) depth)
    (named_if (b == 34) _ _ (λ e. more (InName at []) depth)
    (named_if (b == 59) (go (AfterSemicolon at) depth) (stop BadToken at) (λ e. more (AfterSemicolon at) depth) tt)))))

named_from : (bs : List ℕ) (i : Inside) (at : Place) (depth : ℕ) → Named (lexed_from bs i at depth)
named_from [] InBlank at depth = tt
named_from [] InComment at depth = tt
named_from [] (AfterSemicolon from) at depth = tt
named_from [] (InWord from w) at depth = (tt, tt)
named_from [] (InName from n) at depth = tt
named_from (c ∷ bs) InBlank at depth = named_begun (λ i. lexed_from bs i (place_behind c at)) at depth c (λ i d. named_from bs i (place_behind c at) d)
named_from (c ∷ bs) InComment at depth = named_if (c == 10) _ _ (λ e. named_from bs InBlank (place_behind c at) depth) (named_from bs InComment (place_behind c at) depth)
named_from (c ∷ bs) (AfterSemicolon from) at depth = named_if (c == 59) (lexed_from bs InComment (place_behind c at) depth) (stop BadToken from) (λ e. named_from bs InComment (place_behind c at) depth) tt
named_from (c ∷ bs) (InWord from w) at depth =
    named_if (is_word_byte c) _ (before (Word (reverse w)) from (begun (λ i. lexed_from bs i (place_behind c at)) at depth c)) (λ e. named_from bs (InWord from (c ∷ w)) (place_behind c at) depth)
    (tt, named_begun (λ i. lexed_from bs i (place_behind c at)) at depth c (λ i d. named_from bs i (place_behind c at) d))
named_from (c ∷ bs) (InName from n) at depth =
    named_if (c == 34) _ _
    (λ e. named_if (is_name (reverse n)) (before (Quoted (reverse n)) from (lexed_from bs InBlank (place_behind c at) depth)) (stop BadToken from) (λ h. (h, named_from bs InBlank (place_behind c at) depth)) tt)
    (named_from bs (InName from (c ∷ n)) (place_behind c at) depth)

pub lexed_named : (bytes : List ℕ) → AreNamed (lexed bytes).tokens
lexed_named bytes = named_from bytes InBlank the_start 0
