-- Tokens that are laid out are lexed again: token by token, where the byte behind a word is none of a word.
use Rattle.std.proofs.Common.{◌≡◌, ◌∙◌, ℕ, suc, ◌<◌, Bool, true, false, List, [], ◌∷◌, ◌++◌, refl, sym, ap, subst, append_assoc, append-nil}
use Rattle.std.specs.Prelude.{⊤, if◌then◌else◌, ◌==◌, ◌&&◌, ◌||◌, nat_lt, nat_le, length, reverse}
use Rattle.std.specs.List.{list_all}
use Rattle.std.proofs.lemmas.List.{reverse-append}
use Rattle.std.proofs.lemmas.Bool.{false≢true, cond-true, cond-false, lt-ltb, ne_eqb, and_parts}
use Rattle.rich_text.specs.Tokens.{Token, Opening, Closing, Word, Quoted, TooDeep, BadToken, Unended, is_word_byte, is_blank, is_name_byte, is_name, nesting_limit}
use Rattle.rich_text.specs.Places.{Place, place_behind}
use Rattle.rich_text.specs.Lexing.{Lexed, Inside, InBlank, InWord, InName, stop, before, begun, lexed_from}
use Rattle.rich_text.specs.Layout.{bytes_of, open_behind, ends_line, touches, gap, laid_out}

-- a token that bytes can spell
abbrev pub IsToken : Token → Type 0
IsToken Opening = ⊤
IsToken Closing = ⊤
IsToken (Word []) = ⊥
IsToken (Word (b ∷ bs)) = list_all is_word_byte (b ∷ bs) ≡ true
IsToken (Quoted n) = is_name n ≡ true

abbrev pub MayStand : ℕ → Token → Type 0
MayStand depth Opening = depth < nesting_limit
MayStand depth Closing = ⊤
MayStand depth (Word w) = ⊤
MayStand depth (Quoted n) = ⊤

-- such tokens, of which no `(` is too deep, where so many lists are open before them
abbrev pub LieWithin : ℕ → List Token → Type 0
LieWithin depth [] = ⊤
LieWithin depth (t ∷ ts) = IsToken t × MayStand depth t × LieWithin (open_behind t depth) ts

-- bytes that continue no word
abbrev StartApart : List ℕ → Type 0
StartApart [] = ⊤
StartApart (b ∷ bs) = is_word_byte b ≡ false

other : (test : ℕ → Bool) (b k : ℕ) → test b ≡ true → test k ≡ false → (b == k) ≡ false
other test b k h g = ne_eqb b k (λ e. false≢true (sym g ∙ ap test (sym e) ∙ h))

turned : (b : ℕ) (passed bs : List ℕ) → reverse (b ∷ passed) ++ bs ≡ reverse passed ++ b ∷ bs
turned b passed bs = ap (λ xs. xs ++ bs) (reverse-append (b ∷ []) passed) ∙ append_assoc (reverse passed) (b ∷ []) bs

-- ---- words

word_end : (from at : Place) (passed r : List ℕ) (depth : ℕ) → StartApart r → lexed_from r (InWord from passed) at depth ≡ before (Word (reverse passed)) from (lexed_from r InBlank at depth)
word_end from at passed [] depth h = refl
word_end from at passed (c ∷ r) depth h =
    cond-false (is_word_byte c) (lexed_from r (InWord from (c ∷ passed)) (place_behind c at) depth) (before (Word (reverse passed)) from (begun (λ i. lexed_from r i (place_behind c at)) at depth c)) h

word_rest : (from at : Place) (passed bs r : List ℕ) (depth : ℕ) → list_all is_word_byte bs ≡ true → StartApart r
    → (behind : Place) × (lexed_from (bs ++ r) (InWord from passed) at depth ≡ before (Word (reverse passed ++ bs)) from (lexed_from r InBlank behind depth))
word_rest from at passed [] r depth h g =
    (at, word_end from at passed r depth g ∙ ap (λ w. before (Word w) from (lexed_from r InBlank at depth)) (sym (append-nil (reverse passed))))
word_rest from at passed (b ∷ bs) r depth h g =
    let p = and_parts (is_word_byte b) (list_all is_word_byte bs) h in
    let more = word_rest from (place_behind b at) (b ∷ passed) bs r depth p.1 g in (
      more.0,
      cond-true (is_word_byte b) (lexed_from (bs ++ r) (InWord from (b ∷ passed)) (place_behind b at) depth) (before (Word (reverse passed)) from (begun (λ i. lexed_from (bs ++ r) i (place_behind b at)) at depth b)) p.0
          ∙ more.1
          ∙ ap (λ w. before (Word w) from (lexed_from r InBlank more.0 depth)) (turned b passed bs),
    )

no_or : (a b : Bool) → a ≡ false → b ≡ false → (a || b) ≡ false
no_or a b e f = ap (λ x. x || b) e ∙ f

no_blank : (b : ℕ) → is_word_byte b ≡ true → is_blank b ≡ false
no_blank b h =
    no_or (b == 32 || b == 9 || b == 10) (b == 13)
    (no_or (b == 32 || b == 9) (b == 10) (no_or (b == 32) (b == 9) (other is_word_byte b 32 h refl) (other is_word_byte b 9 h refl)) (other is_word_byte b 10 h refl))
    (other is_word_byte b 13 h refl)

-- the branches that a byte of a word doesn't take
word_begun : (go : Inside → ℕ → Lexed) (at : Place) (depth b : ℕ) → is_word_byte b ≡ true → begun go at depth b ≡ go (InWord at (b ∷ [])) depth
word_begun go at depth b h =
    cond-false (is_blank b) _ _ (no_blank b h)
    ∙ cond-false (b == 40) _ _ (other is_word_byte b 40 h refl)
    ∙ cond-false (b == 41) _ _ (other is_word_byte b 41 h refl)
    ∙ cond-true (is_word_byte b) _ _ h

-- ---- names

name_rest : (from at : Place) (passed bs r : List ℕ) (depth : ℕ) → list_all is_name_byte bs ≡ true → is_name (reverse passed ++ bs) ≡ true
    → (behind : Place) × (lexed_from (bs ++ 34 ∷ r) (InName from passed) at depth ≡ before (Quoted (reverse passed ++ bs)) from (lexed_from r InBlank behind depth))
name_rest from at passed [] r depth h g =
    let whole : is_name (reverse passed) ≡ true = ap is_name (sym (append-nil (reverse passed))) ∙ g in (
      place_behind 34 at,
      cond-true (is_name (reverse passed)) (before (Quoted (reverse passed)) from (lexed_from r InBlank (place_behind 34 at) depth)) (stop BadToken from) whole
          ∙ ap (λ n. before (Quoted n) from (lexed_from r InBlank (place_behind 34 at) depth)) (sym (append-nil (reverse passed))),
    )
name_rest from at passed (b ∷ bs) r depth h g =
    let p = and_parts (is_name_byte b) (list_all is_name_byte bs) h in
    let more = name_rest from (place_behind b at) (b ∷ passed) bs r depth p.1 (ap is_name (turned b passed bs) ∙ g) in (
      more.0,
      cond-false (b == 34) _ (lexed_from (bs ++ 34 ∷ r) (InName from (b ∷ passed)) (place_behind b at) depth) (other is_name_byte b 34 p.0 refl)
          ∙ more.1
          ∙ ap (λ n. before (Quoted n) from (lexed_from r InBlank more.0 depth)) (turned b passed bs),
    )

-- ---- a token

-- what may stand behind a token
abbrev Parted : Token → List ℕ → Type 0
Parted (Word w) r = StartApart r
Parted Opening r = ⊤
Parted Closing r = ⊤
Parted (Quoted n) r = ⊤

token_lexed : (t : Token) (at : Place) (depth : ℕ) (r : List ℕ) → IsToken t → MayStand depth t → Parted t r
    → (behind : Place) × (lexed_from (bytes_of t ++ r) InBlank at depth ≡ before t at (lexed_from r InBlank behind (open_behind t depth)))
token_lexed Opening at depth r h g p =
    (place_behind 40 at, cond-true (nat_lt depth nesting_limit) (before Opening at (lexed_from r InBlank (place_behind 40 at) (suc depth))) (stop TooDeep at) (lt-ltb depth nesting_limit g))
token_lexed Closing at depth r h g p = (place_behind 41 at, refl)
token_lexed (Word []) at depth r h g p = absurd h
token_lexed (Word (b ∷ bs)) at depth r h g p =
    let q = and_parts (is_word_byte b) (list_all is_word_byte bs) h in
    let more = word_rest at (place_behind b at) (b ∷ []) bs r depth q.1 p in
    (more.0, word_begun (λ i. lexed_from (bs ++ r) i (place_behind b at)) at depth b q.0 ∙ more.1)
token_lexed (Quoted n) at depth r h g p =
    let q = and_parts (nat_lt 0 (length n) && nat_le (length n) 64) (list_all is_name_byte n) h in
    let more = name_rest at (place_behind 34 at) [] n r depth q.1 h in
    (more.0, ap (λ bs. lexed_from bs (InName at []) (place_behind 34 at) depth) (append_assoc n (34 ∷ []) r) ∙ more.1)

-- ---- tokens

gap_lexed : (line tight : Bool) (r : List ℕ) (at : Place) (depth : ℕ)
    → (behind : Place) × (lexed_from ((if line then 10 ∷ [] else (if tight then [] else 32 ∷ [])) ++ r) InBlank at depth ≡ lexed_from r InBlank behind depth)
gap_lexed true tight r at depth = (place_behind 10 at, refl)
gap_lexed false true r at depth = (at, refl)
gap_lexed false false r at depth = (place_behind 32 at, refl)

apart_line : (line : Bool) (r : List ℕ) → StartApart ((if line then 10 ∷ [] else 32 ∷ []) ++ r)
apart_line true r = refl
apart_line false r = refl

apart_tight : (line : Bool) (r : List ℕ) → StartApart r → StartApart ((if line then 10 ∷ [] else []) ++ r)
apart_tight true r h = refl
apart_tight false r h = h

closing_apart : (depth : ℕ) (ts : List Token) → StartApart (laid_out depth (Closing ∷ ts))
closing_apart depth [] = refl
closing_apart depth (t ∷ ts) = refl

parted : (t u : Token) (ts : List Token) (depth : ℕ) → Parted t (gap depth t u ++ laid_out depth (u ∷ ts))
parted Opening u ts depth = tt
parted Closing u ts depth = tt
parted (Quoted n) u ts depth = tt
parted (Word w) Opening ts depth = apart_line (depth == 1) (laid_out depth (Opening ∷ ts))
parted (Word w) Closing ts depth = apart_tight (depth == 1) (laid_out depth (Closing ∷ ts)) (closing_apart depth ts)
parted (Word w) (Word v) ts depth = apart_line false (laid_out depth (Word v ∷ ts))
parted (Word w) (Quoted n) ts depth = apart_line false (laid_out depth (Quoted n ∷ ts))

last_parted : (t : Token) → Parted t (10 ∷ [])
last_parted Opening = tt
last_parted Closing = tt
last_parted (Word w) = refl
last_parted (Quoted n) = tt

-- tokens are read to their end
pub record Lexes (l : Lexed) (ts : List Token) : Type 0 where
  pub tokens : l.tokens ≡ ts
  pub ending : l.ending ≡ Unended

lexes_before : (t : Token) (at : Place) (l : Lexed) (ts : List Token) → Lexes l ts → Lexes (before t at l) (t ∷ ts)
lexes_before t at l ts h = record { tokens = ap (λ us. t ∷ us) h.tokens; ending = h.ending }

pub relexed : (depth : ℕ) (at : Place) (ts : List Token) → LieWithin depth ts → Lexes (lexed_from (laid_out depth ts) InBlank at depth) ts
relexed depth at [] h = record { tokens = refl; ending = refl }
relexed depth at (t ∷ []) h =
    let first = token_lexed t at depth (10 ∷ []) h.0 h.1 (last_parted t) in
    subst (λ l. Lexes l (t ∷ [])) (sym first.1)
    (lexes_before t at (lexed_from (10 ∷ []) InBlank first.0 (open_behind t depth)) [] (record { tokens = refl; ending = refl }))
relexed depth at (t ∷ u ∷ ts) h =
    let deep = open_behind t depth in
    let rest = laid_out deep (u ∷ ts) in
    let first = token_lexed t at depth (gap deep t u ++ rest) h.0 h.1 (parted t u ts deep) in
    let second = gap_lexed (ends_line deep u) (touches t u) rest first.0 deep in
    let more = relexed deep second.0 (u ∷ ts) h.2 in
    subst (λ l. Lexes l (t ∷ u ∷ ts)) (sym first.1)
    (lexes_before t at (lexed_from (gap deep t u ++ rest) InBlank first.0 deep) (u ∷ ts) (subst (λ l. Lexes l (u ∷ ts)) (sym second.1) more))
