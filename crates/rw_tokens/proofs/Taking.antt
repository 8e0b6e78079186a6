-- What taking a word or a name makes of what is left.
use Rattle.std.proofs.Common.{◌≡◌, ◌∙◌, ℕ, Bool, true, false, List, [], ◌∷◌, take, drop, length, refl, sym, ap, subst, inl, inr, Option, Some}
use Rattle.std.specs.Prelude.{◌==◌, ◌&&◌, reverse}
use Rattle.std.specs.List.{list_all, prefix_len}
use Rattle.std.proofs.lemmas.Bool.{false≢true, cond-true, cases_Bool}
use Rattle.rich_text.specs.Tokens.{Word, Quoted, BadToken, is_word_byte, is_name_byte, is_name}
use Rattle.rich_text.specs.Places.{Place, place_behind}
use Rattle.rich_text.specs.Lexing.{InBlank, InName, stop, before, lexed_from}
use Rattle.rw_tokens.specs.declared.symbols.Position.{Position}
use Rattle.rw_tokens.specs.Streams.{Remains, Left, ahead, place_of}
use Rattle.rw_tokens.specs.Found.{TakesByte, TakesQuote, along, first_of, fits_name}
use Rattle.rw_tokens.proofs.Blanks.{taken}
use Rattle.rw_tokens.proofs.Words.{right, run_over, run_more, word_whole, whole_word}
use Rattle.rw_tokens.proofs.Names.{EndsName, turn, turn_back, name_goes, run_ends, ends_badly}

-- what is left at a cursor, where so many lists are open
abbrev pub left_at : Remains → ℕ → Left
left_at cursor d = record { bytes = cursor.bytes; at = cursor.at; depth = d }

-- ---- words

word_here : (bytes : List ℕ) (at : Place) (d : ℕ) → (length (take (prefix_len is_word_byte bytes) bytes) == 0) ≡ false
    → lexed_from bytes InBlank at d ≡ whole_word at bytes d (prefix_len is_word_byte bytes)
word_here [] at d h = absurd (false≢true (sym h))
word_here (b ∷ bs) at d h =
    elim (cases_Bool (is_word_byte b)) [
      | inl e ↦ word_whole b bs at d e
      | inr e ↦ absurd (false≢true (sym h ∙ ap (λ k. length (take k (b ∷ bs)) == 0) (run_over is_word_byte b bs e)))
    ]

pub word_given : (old : Left) (cursor new : Remains) (d : ℕ) (p : Position) (w : List ℕ) → left_at cursor d ≡ old → place_of p ≡ old.at
    → w ≡ take (prefix_len is_word_byte cursor.bytes) cursor.bytes → new ≡ along (prefix_len is_word_byte cursor.bytes) cursor → (length w == 0) ≡ false
    → ahead old ≡ before (Word w) (place_of p) (ahead (left_at new d))
word_given old cursor new d p w is place word behind some =
    ap ahead (sym is)
    ∙ word_here cursor.bytes cursor.at d (ap (λ x. length x == 0) (sym word) ∙ some)
    ∙ ap (λ x. before (Word x) cursor.at (lexed_from (drop (prefix_len is_word_byte cursor.bytes) cursor.bytes) InBlank (right (prefix_len is_word_byte cursor.bytes) cursor.at) d)) (sym word)
    ∙ ap (λ (r : Remains). before (Word w) cursor.at (ahead (left_at r d))) (sym behind)
    ∙ ap (λ at. before (Word w) at (ahead (left_at new d))) (ap (λ (l : Left). l.at) is ∙ sym place)

-- ---- names

run_passes : (p : ℕ → Bool) (xs : List ℕ) → list_all p (take (prefix_len p xs) xs) ≡ true
run_passes p [] = refl
run_passes p (x ∷ xs) =
    elim (cases_Bool (p x)) [
      | inl e ↦ ap (λ k. list_all p (take k (x ∷ xs))) (run_more p x xs e) ∙ ap (λ b. b && list_all p (take (prefix_len p xs) xs)) e ∙ run_passes p xs
      | inr e ↦ ap (λ k. list_all p (take k (x ∷ xs))) (run_over p x xs e)
    ]

-- the bytes behind an opening quote, and behind those of a name
pub record Begun (old : Left) (c0 c1 c2 : Remains) (d : ℕ) (p : Position) (n : List ℕ) : Type 0 where
  pub is : left_at c0 d ≡ old
  pub place : place_of p ≡ old.at
  pub quote : c0.bytes ≡ 34 ∷ c1.bytes
  pub inside : c1.at ≡ place_behind 34 c0.at
  pub name : n ≡ take (prefix_len is_name_byte c1.bytes) c1.bytes
  pub behind : c2 ≡ along (prefix_len is_name_byte c1.bytes) c1

pub begun_by : (old : Left) (c0 c1 c2 : Remains) (d : ℕ) (p : Position) (n : List ℕ) (o : Option ℕ) → left_at c0 d ≡ old → place_of p ≡ old.at → first_of old.bytes ≡ Some 34 → TakesByte c0 c1 o
    → n ≡ take (prefix_len is_name_byte c1.bytes) c1.bytes → c2 ≡ along (prefix_len is_name_byte c1.bytes) c1 → Begun old c0 c1 c2 d p n
begun_by old c0 c1 c2 d p n o is place next t name behind =
    let q = taken c0 c1 o 34 (ap (λ (l : Left). first_of l.bytes) is ∙ next) t in
    record { is = is; place = place; quote = q.0; inside = q.1; name = name; behind = behind }

-- what taking a quote off tells
pub quote_taken : (old new : Remains) (came : Bool) → came ≡ true → TakesQuote old new came → (old.bytes ≡ 34 ∷ new.bytes) × (new.at ≡ place_behind 34 old.at)
quote_taken old new true e t = t
quote_taken old new false e t = absurd (false≢true e)

pub no_quote : (old new : Remains) (came : Bool) → came ≡ false → TakesQuote old new came → (bs : List ℕ) → old.bytes ≡ 34 ∷ bs → ⊥
no_quote old new true e t = absurd (false≢true (sym e))
no_quote old new false e t = t

begun_name : (old : Left) (c0 c1 c2 : Remains) (d : ℕ) (p : Position) (n : List ℕ) → Begun old c0 c1 c2 d p n → ahead old ≡ lexed_from c2.bytes (InName (place_of p) (turn n [])) c2.at d
begun_name old c0 c1 c2 d p n h =
    ap ahead (sym h.is)
    ∙ ap (λ x. lexed_from x InBlank c0.at d) h.quote
    ∙ ap (λ x. lexed_from c1.bytes (InName c0.at []) x d) (sym h.inside)
    ∙ name_goes c0.at c1.at [] c1.bytes d
    ∙ ap (λ (r : Remains). lexed_from r.bytes (InName c0.at (turn (take (prefix_len is_name_byte c1.bytes) c1.bytes) [])) r.at d) (sym h.behind)
    ∙ ap (λ x. lexed_from c2.bytes (InName c0.at (turn x [])) c2.at d) (sym h.name)
    ∙ ap (λ x. lexed_from c2.bytes (InName x (turn n [])) c2.at d) (ap (λ (l : Left). l.at) h.is ∙ sym h.place)

-- no name, where no quote comes behind it or it has too few bytes or too many
pub no_name : (old : Left) (c0 c1 c2 : Remains) (d : ℕ) (p : Position) (n : List ℕ) → Begun old c0 c1 c2 d p n → ((r : List ℕ) → c2.bytes ≡ 34 ∷ r → fits_name (length n) ≡ false)
    → ahead old ≡ stop BadToken (place_of p)
no_name old c0 c1 c2 d p n h g =
    begun_name old c0 c1 c2 d p n h
    ∙ ends_badly (place_of p) c2.at (turn n []) c2.bytes d ends (λ r e. ap is_name (turn_back n []) ∙ ap (λ x. x && list_all is_name_byte n) (g r e))
  where
    ends : EndsName c2.bytes
    ends = let P : Remains → Type 0 = λ r. EndsName r.bytes in subst P (sym h.behind) (run_ends c1.bytes)

pub name_given : (old : Left) (c0 c1 c2 c3 : Remains) (d : ℕ) (p : Position) (n : List ℕ) → Begun old c0 c1 c2 d p n → c2.bytes ≡ 34 ∷ c3.bytes → c3.at ≡ place_behind 34 c2.at → fits_name (length n) ≡ true
    → ahead old ≡ before (Quoted n) (place_of p) (ahead (left_at c3 d))
name_given old c0 c1 c2 c3 d p n h quote behind fits =
    begun_name old c0 c1 c2 d p n h
    ∙ ap (λ x. lexed_from x (InName (place_of p) (turn n [])) c2.at d) quote
    ∙ cond-true (is_name (reverse (turn n []))) (before (Quoted (reverse (turn n []))) (place_of p) (lexed_from c3.bytes InBlank (place_behind 34 c2.at) d)) (stop BadToken (place_of p)) good
    ∙ ap (λ x. before (Quoted x) (place_of p) (lexed_from c3.bytes InBlank (place_behind 34 c2.at) d)) (turn_back n [])
    ∙ ap (λ x. before (Quoted n) (place_of p) (lexed_from c3.bytes InBlank x d)) (sym behind)
  where
    good : is_name (reverse (turn n [])) ≡ true
    good =
        ap is_name (turn_back n [])
        ∙ ap (λ x. x && list_all is_name_byte n) fits
        ∙ ap (λ x. list_all is_name_byte x) h.name
        ∙ run_passes is_name_byte c1.bytes
