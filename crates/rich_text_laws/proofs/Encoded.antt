-- A canonical text is of ASCII bytes alone, which are well-formed UTF-8.
use Rattle.std.proofs.Common.{◌≡◌, ◌∙◌, ℕ, ◌≤◌, Bool, true, false, List, [], ◌∷◌, ◌++◌, refl, ap, inl, inr, arith, Some, None}
use Rattle.std.specs.Prelude.{if◌then◌else◌, ◌==◌, ◌||◌, ◌&&◌, nat_le, nat_lt, length}
use Rattle.std.specs.List.{list_all}
use Rattle.std.specs.Int.{is_in_range}
use Rattle.std.proofs.lemmas.Bool.{and_parts, and_from, or_cases, cond-true, leb-true, le-leb, eqb-true}
use Rattle.rich_text.specs.Tokens.{Token, Opening, Closing, Word, Quoted, is_word_byte, is_name_byte}
use Rattle.rich_text.specs.Places.{Place, place_behind}
use Rattle.rich_text.specs.Utf8.{at_sequence, ill_formed_from}
use Rattle.rich_text.specs.Layout.{bytes_of, open_behind, ends_line, touches, gap, laid_out}
use Rattle.rich_text_laws.proofs.Laid.{IsToken, LieWithin}

abbrev pub is_low : ℕ → Bool
is_low b = nat_le b 0x7F

pub low_encoded : (at : Place) (bs : List ℕ) → list_all is_low bs ≡ true → ill_formed_from 0 at bs ≡ None
low_encoded at [] h = refl
low_encoded at (b ∷ bs) h =
    let p = and_parts (is_low b) (list_all is_low bs) h in
    ap (λ more. at_sequence at more (λ n. ill_formed_from n (place_behind b at) bs)) (cond-true (nat_le b 0x7F) (Some 0) _ p.0)
    ∙ low_encoded (place_behind b at) bs p.1

range_low : (low high b : ℕ) → high ≤ 0x7F → is_in_range low high b ≡ true → is_low b ≡ true
range_low low high b h e = let g = leb-true b high (and_parts (nat_le low b) (nat_le b high) e).1 in le-leb b 0x7F (omega arith)

same_low : (b k : ℕ) → k ≤ 0x7F → (b == k) ≡ true → is_low b ≡ true
same_low b k h e = let g = eqb-true b k e in le-leb b 0x7F (omega arith)

either_low : (b : ℕ) (x y : Bool) → (x ≡ true → is_low b ≡ true) → (y ≡ true → is_low b ≡ true) → (x || y) ≡ true → is_low b ≡ true
either_low b x y f g e = elim (or_cases x y e) [ inl h ↦ f h | inr h ↦ g h ]

word_low : (b : ℕ) → is_word_byte b ≡ true → is_low b ≡ true
word_low b =
    either_low b _ _
    (either_low b _ _
    (either_low b _ _
    (either_low b _ _ (either_low b _ _ (range_low 48 57 b (omega arith)) (range_low 65 90 b (omega arith))) (range_low 97 122 b (omega arith)))
    (same_low b 95 (omega arith)))
    (same_low b 46 (omega arith)))
    (same_low b 45 (omega arith))

name_low : (b : ℕ) → is_name_byte b ≡ true → is_low b ≡ true
name_low b = either_low b _ _ (either_low b _ _ (range_low 97 122 b (omega arith)) (range_low 48 57 b (omega arith))) (same_low b 95 (omega arith))

all_low : (test : ℕ → Bool) → ((b : ℕ) → test b ≡ true → is_low b ≡ true) → (bs : List ℕ) → list_all test bs ≡ true → list_all is_low bs ≡ true
all_low test f [] h = refl
all_low test f (b ∷ bs) h = let p = and_parts (test b) (list_all test bs) h in and_from (is_low b) (list_all is_low bs) (f b p.0) (all_low test f bs p.1)

both_low : (bs cs : List ℕ) → list_all is_low bs ≡ true → list_all is_low cs ≡ true → list_all is_low (bs ++ cs) ≡ true
both_low [] cs h g = g
both_low (b ∷ bs) cs h g = let p = and_parts (is_low b) (list_all is_low bs) h in and_from (is_low b) (list_all is_low (bs ++ cs)) p.0 (both_low bs cs p.1 g)

token_low : (t : Token) → IsToken t → list_all is_low (bytes_of t) ≡ true
token_low Opening h = refl
token_low Closing h = refl
token_low (Word []) h = refl
token_low (Word (b ∷ bs)) h = all_low is_word_byte word_low (b ∷ bs) h
token_low (Quoted n) h =
    let q = and_parts (nat_lt 0 (length n) && nat_le (length n) 64) (list_all is_name_byte n) h in
    both_low n (34 ∷ []) (all_low is_name_byte name_low n q.1) refl

gap_low : (line tight : Bool) → list_all is_low (if line then 10 ∷ [] else (if tight then [] else 32 ∷ [])) ≡ true
gap_low true tight = refl
gap_low false true = refl
gap_low false false = refl

pub laid_low : (depth : ℕ) (ts : List Token) → LieWithin depth ts → list_all is_low (laid_out depth ts) ≡ true
laid_low depth [] h = refl
laid_low depth (t ∷ []) h = both_low (bytes_of t) (10 ∷ []) (token_low t h.0) refl
laid_low depth (t ∷ u ∷ ts) h =
    let deep = open_behind t depth in
    both_low (bytes_of t) (gap deep t u ++ laid_out deep (u ∷ ts)) (token_low t h.0)
    (both_low (gap deep t u) (laid_out deep (u ∷ ts)) (gap_low (ends_line deep u) (touches t u)) (laid_low deep (u ∷ ts) h.2))
