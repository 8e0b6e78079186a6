-- What may stand behind a fault (this project's own).
use Rattle.std.specs.Prelude.{◌≡◌, ℕ, ◌==◌, Bool, true, false, not, if◌then◌else◌, List, [], ◌∷◌, ◌++◌, None, Some}
use Rattle.rich_text.specs.Places.{Place, the_start, place_after}
use Rattle.rich_text.specs.Tokens.{BadUtf8, is_word_byte}
use Rattle.rich_text.specs.Texts.{Found}
use Rattle.rich_text.specs.Utf8.{more_of, ill_formed}
use Rattle.rich_text_laws.specs.Laws.{HasFirstFault}

-- whether bytes continue no word, or no `;` to a comment
abbrev pub end_word : List ℕ → Bool
end_word [] = true
end_word (b ∷ bs) = not (is_word_byte b)

abbrev pub begin_no_comment : List ℕ → Bool
begin_no_comment [] = true
begin_no_comment (b ∷ bs) = not (b == 59)

-- whether a word that began ends among bytes, or with them before others
abbrev pub word_ends : List ℕ → List ℕ → Bool
word_ends [] behind = end_word behind
word_ends (b ∷ bs) behind = if is_word_byte b then word_ends bs behind else true

abbrev pub name_ends : List ℕ → Bool
name_ends [] = false
name_ends (b ∷ bs) = if b == 34 then true else name_ends bs

-- whether bytes show to its end, before others, the token, or what is none, that they begin with
abbrev pub show_whole : List ℕ → List ℕ → Bool
show_whole [] behind = false
show_whole (b ∷ bs) behind =
    if is_word_byte b then word_ends bs behind
    else (if b == 34 then name_ends bs
    else (if b == 59 then begin_no_comment (bs ++ behind)
    else true))

-- texts that agree up to the end of the token at which a fault stands, and are well encoded, share that fault and its place; so
-- this is never one that stands at a text's end
abbrev pub NothingBehindTokenCounts : Type 0
NothingBehindTokenCounts =
    (front shown back other : List ℕ) (e : Found) → HasFirstFault (front ++ (shown ++ back)) e → e.at ≡ place_after front the_start → show_whole shown back ≡ true → show_whole shown other ≡ true
    → ill_formed (front ++ (shown ++ back)) ≡ None → ill_formed (front ++ (shown ++ other)) ≡ None → HasFirstFault (front ++ (shown ++ other)) e

abbrev pub bad_encoding : Place → Found
bad_encoding at = record { fault = BadUtf8; at = at }

-- what is ill-formed is the first fault, wherever it stands
abbrev pub EncodingIsFirst : Type 0
EncodingIsFirst = (bytes : List ℕ) (at : Place) → ill_formed bytes ≡ Some at → HasFirstFault bytes (bad_encoding at)

-- bytes that begin no sequence of UTF-8, whatever stands behind them
abbrev pub BeginNone : List ℕ → Type 0
BeginNone [] = ⊥
BeginNone (b ∷ bs) = (behind : List ℕ) → more_of b (bs ++ behind) ≡ None

-- four bytes tell it, which is what the longest sequence takes
abbrev pub FourBytesTell : Type 0
FourBytesTell = (b c d e : ℕ) → more_of b (c ∷ d ∷ e ∷ []) ≡ None → BeginNone (b ∷ c ∷ d ∷ e ∷ [])

-- texts that agree up to the end of the bytes that begin no sequence share this fault and its place
abbrev pub NothingBehindBytesCounts : Type 0
NothingBehindBytesCounts =
    (front shown back other : List ℕ) (at : Place) → ill_formed (front ++ (shown ++ back)) ≡ Some at → at ≡ place_after front the_start → BeginNone shown
    → HasFirstFault (front ++ (shown ++ other)) (bad_encoding at)
