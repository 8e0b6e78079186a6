-- The values of a flag, option by option from the front: those that are met so far, and those that are left.
use Rattle.std.proofs.Common.{◌≡◌, ℕ, List, [], ◌∷◌, ◌++◌, Bool, true, false, cond, ap, sym, ◌∙◌, append_assoc, Some, None}
use Rattle.std.specs.declared.option.Option.{Option}
use Rattle.std.specs.Str.{bytes_eq}
use Rattle.words.specs.declared.options.Given.{Given}
use Rattle.words.specs.declared.options.Given.TheVariants.{Often}
use Rattle.words.specs.Words.{Setting, values_for}
use Rattle.words.specs.Reading.{begins_with_dash, front_of, settings_of, AreGiven}

-- the values so far are given, and with those that are left they are all
pub record GivenSoFar (met : Given) (rest all : List (List ℕ)) : Type 0 where
  pub so_far : List (List ℕ)
  pub are : AreGiven met so_far
  pub all_are : all ≡ so_far ++ rest

settings_step : (dash : Bool) (setting first : Setting) (rest after : List (List ℕ)) (other : List Setting) → (let found : Option (Setting × List (List ℕ)) = cond dash (Some (first, after)) None in found) ≡ Some (setting, rest) →
    cond dash (first ∷ settings_of after) other ≡ setting ∷ settings_of rest
settings_step true setting first rest after other e =
    let pairs : (let p : Setting × List (List ℕ) = (first, after) in p) ≡ (setting, rest) = cc in ap (λ (p : Setting × List (List ℕ)). p.0 ∷ settings_of p.1) pairs
settings_step false setting first rest after other e = absurd cc

-- the first option, and those after it
pub front_settings : (words : List (List ℕ)) (setting : Setting) (rest : List (List ℕ)) → front_of words ≡ Some (setting, rest) → settings_of words ≡ setting ∷ settings_of rest
front_settings [] setting rest e = absurd cc
front_settings (flag ∷ []) setting rest e = absurd cc
front_settings (flag ∷ value ∷ words) setting rest e = settings_step (begins_with_dash flag) setting (record { flag = flag; value = value }) rest words [] e

-- an option of another flag
pub skips : (flag : List ℕ) (setting : Setting) (settings : List Setting) (met : Given) (all : List (List ℕ)) → bytes_eq setting.flag flag ≡ false →
    GivenSoFar met (values_for flag (setting ∷ settings)) all → GivenSoFar met (values_for flag settings) all
skips flag setting settings met all other g =
    record { so_far = g.so_far; are = g.are; all_are = g.all_are ∙ ap (λ (b : Bool). g.so_far ++ cond b (setting.value ∷ values_for flag settings) (values_for flag settings)) other }

-- an option of this flag
pub meets : (flag : List ℕ) (setting : Setting) (settings : List Setting) (met next : Given) (all : List (List ℕ)) → bytes_eq setting.flag flag ≡ true →
    ((values : List (List ℕ)) → AreGiven met values → AreGiven next (values ++ (setting.value ∷ []))) →
    GivenSoFar met (values_for flag (setting ∷ settings)) all → GivenSoFar next (values_for flag settings) all
meets flag setting settings met next all same more g =
    record {
      so_far = g.so_far ++ (setting.value ∷ []);
      are = more g.so_far g.are;
      all_are = g.all_are ∙ ap (λ (b : Bool). g.so_far ++ cond b (setting.value ∷ values_for flag settings) (values_for flag settings)) same
          ∙ sym (append_assoc g.so_far (setting.value ∷ []) (values_for flag settings));
    }

-- a second value
pub second : (first value : List ℕ) (values : List (List ℕ)) → values ≡ first ∷ [] → AreGiven Often (values ++ (value ∷ []))
second first value values one = (first, value, [], ap (λ (v : List (List ℕ)). v ++ (value ∷ [])) one)

-- a third one
pub further : (value : List ℕ) (values : List (List ℕ)) → AreGiven Often values → AreGiven Often (values ++ (value ∷ []))
further value values (first, other, more, are) = (first, other, more ++ (value ∷ []), ap (λ (v : List (List ℕ)). v ++ (value ∷ [])) are)
