-- Words that begin with options, whose flags begin with dashes, are taken apart into these options and the files.
use Rattle.std.proofs.Common.{◌≡◌, ℕ, List, [], ◌∷◌, ◌++◌, Bool, true, false, ◌&&◌, ◌||◌, cond, refl, ap, ◌∙◌}
use Rattle.std.specs.List.{list_any, list_all}
use Rattle.std.specs.Str.{bytes_eq}
use Rattle.std.proofs.lemmas.Slice.Eq.{bytes_eq-Decides}
use Rattle.words.specs.Words.{Setting, words_of_settings, HaveFlags}
use Rattle.words.specs.Reading.{begins_with_dash, settings_of, files_after}

-- both of two tests that are passed together
pub both : (a b : Bool) → (a && b) ≡ true → (a ≡ true) × (b ≡ true)
both true b e = (refl, e)
both false b e = absurd cc

dashed_step : (same any : Bool) (word flag : List ℕ) → bytes_eq word flag ≡ same → begins_with_dash flag ≡ true → (same || any) ≡ true → (any ≡ true → begins_with_dash word ≡ true) → begins_with_dash word ≡ true
dashed_step true any word flag e dash one more = ap begins_with_dash ((bytes_eq-Decides word flag).0 e) ∙ dash
dashed_step false any word flag e dash one more = more one

-- a word that is one of the flags begins with a dash, where they do
dashed : (flags : List (List ℕ)) (word : List ℕ) → list_all begins_with_dash flags ≡ true → list_any (bytes_eq word) flags ≡ true → begins_with_dash word ≡ true
dashed [] word all one = absurd cc
dashed (flag ∷ flags) word all one =
    let b = both (begins_with_dash flag) (list_all begins_with_dash flags) all in
    dashed_step (bytes_eq word flag) (list_any (bytes_eq word) flags) word flag refl b.0 one (dashed flags word b.1)

-- the options and the files of joined words
pub record Splits (settings : List Setting) (files words : List (List ℕ)) : Type 0 where
  pub options : settings_of words ≡ settings
  pub after : files_after words ≡ files

-- joined words are taken apart as they were joined, where the files alone hold no option
pub splits : (flags : List (List ℕ)) (settings : List Setting) (files : List (List ℕ)) → list_all begins_with_dash flags ≡ true → HaveFlags flags settings → Splits [] files files →
    Splits settings files (words_of_settings settings ++ files)
splits flags [] files all known whole = whole
splits flags (setting ∷ settings) files all known whole =
    let b = both (list_any (bytes_eq setting.flag) flags) (list_all (λ (s : Setting). list_any (bytes_eq s.flag) flags) settings) known in
    let dash = dashed flags setting.flag all b.0 in
    let rest = splits flags settings files all b.1 whole in
    record {
      options = ap (λ (d : Bool). cond d (setting ∷ settings_of (words_of_settings settings ++ files)) []) dash ∙ ap (λ (s : List Setting). setting ∷ s) rest.options;
      after = ap (λ (d : Bool). cond d (files_after (words_of_settings settings ++ files)) (setting.flag ∷ setting.value ∷ (words_of_settings settings ++ files))) dash ∙ rest.after;
    }

joined_step : (dash : Bool) (flag value : List ℕ) (rest : List (List ℕ)) → words_of_settings (settings_of rest) ++ files_after rest ≡ rest →
    words_of_settings (cond dash (record { flag = flag; value = value } ∷ settings_of rest) []) ++ cond dash (files_after rest) (flag ∷ value ∷ rest) ≡ flag ∷ value ∷ rest
joined_step true flag value rest e = ap (λ (words : List (List ℕ)). flag ∷ value ∷ words) e
joined_step false flag value rest e = refl

-- and what was taken apart is joined to the words again
pub joined : (words : List (List ℕ)) → words_of_settings (settings_of words) ++ files_after words ≡ words
joined [] = refl
joined (word ∷ []) = refl
joined (flag ∷ value ∷ rest) = joined_step (begins_with_dash flag) flag value rest (joined rest)
