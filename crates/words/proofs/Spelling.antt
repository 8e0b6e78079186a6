-- What words spell, from their options and files.
use Rattle.std.proofs.Common.{◌≡◌, ℕ, List, [], ◌∷◌, ◌++◌, true, false, ◌≤◌, ◌-◌, length, take, drop, map, get_or, refl, ap, sym, ◌∙◌, subst, arith}
use Rattle.std.proofs.lemmas.List.{take_all}
use Rattle.std.specs.Prelude.{codes}
use Rattle.std.specs.List.{list_all}
use Rattle.std.specs.declared.option.Option.{Option}
use Rattle.std.specs.declared.option.Option.TheVariants.{None, Some}
use Rattle.std.specs.Option.{option_map}
use Rattle.std.specs.Str.{bytes_eq}
use Rattle.std.proofs.lemmas.Slice.Eq.{bytes_eq-Decides}
use Rattle.words.specs.Found.{Finds}
use Rattle.words.specs.Words.{Setting, words_of_settings, command_word, flags_of, files_of, HaveFlags, HasSettings, HasFiles, Command, build, run, exec, show, dump, Source, SpellsCommand}
use Rattle.words.specs.Reading.{begins_with_dash, settings_of, files_after}
use Rattle.words.proofs.Splitting.{Splits, splits, joined}

-- the words after the first give this command: they are taken apart into its options and its files
pub record Gives (rest : List (List ℕ)) (command : Command) : Type 0 where
  pub flags : HaveFlags (flags_of command) (settings_of rest)
  pub given : HasSettings command (settings_of rest)
  pub after : files_after rest ≡ files_of command
  pub files : HasFiles command

tail_is : (x y : List ℕ) (xs ys : List (List ℕ)) → x ∷ xs ≡ y ∷ ys → xs ≡ ys
tail_is x y xs ys e = cc

pub head_is : (x y : List ℕ) (xs ys : List (List ℕ)) → x ∷ xs ≡ y ∷ ys → x ≡ y
head_is x y xs ys e = cc

-- words that a test tells apart are not the same
pub differ : (a b : List ℕ) → bytes_eq a b ≡ false → a ≡ b → ⊥
differ a b no_test same = let e : false ≡ true = sym no_test ∙ (bytes_eq-Decides a b).1 same in absurd cc

-- the first word is the command's
pub first_is : (word : List ℕ) (rest : List (List ℕ)) (command : Command) → SpellsCommand (word ∷ rest) command → word ≡ command_word command
first_is word rest command s = head_is word (command_word command) rest (words_of_settings s.settings ++ files_of command) s.are

-- the command's word and such words spell the command
pub spells : (rest : List (List ℕ)) (command : Command) → Gives rest command → SpellsCommand (command_word command ∷ rest) command
spells rest command g = record {
  settings = settings_of rest;
  are = ap (λ (words : List (List ℕ)). command_word command ∷ words) (sym (joined rest) ∙ ap (λ (files : List (List ℕ)). words_of_settings (settings_of rest) ++ files) g.after);
  flags = g.flags;
  given = g.given;
  files = g.files;
}

-- each option begins with a dash
flags_dashed : (command : Command) → list_all begins_with_dash (flags_of command) ≡ true
flags_dashed (build lin unr name source) = refl
flags_dashed (run lin unr steps source) = refl
flags_dashed (exec steps file) = refl
flags_dashed (show source) = refl
flags_dashed (dump file) = refl

-- one file holds no option
files_alone : (command : Command) → Splits [] (files_of command) (files_of command)
files_alone (build lin unr name source) = record { options = refl; after = refl }
files_alone (run lin unr steps source) = record { options = refl; after = refl }
files_alone (exec steps file) = record { options = refl; after = refl }
files_alone (show source) = record { options = refl; after = refl }
files_alone (dump file) = record { options = refl; after = refl }

-- and no others do
pub spelled : (word : List ℕ) (rest : List (List ℕ)) (command : Command) → SpellsCommand (word ∷ rest) command → Gives rest command
spelled word rest command s =
    let same = tail_is word (command_word command) rest (words_of_settings s.settings ++ files_of command) s.are in
    let split = splits (flags_of command) s.settings (files_of command) (flags_dashed command) s.flags (files_alone command) in
    let options : settings_of rest ≡ s.settings = ap settings_of same ∙ split.options in
    record {
      flags = subst (λ (o : List Setting). HaveFlags (flags_of command) o) (sym options) s.flags;
      given = subst (λ (o : List Setting). HasSettings command o) (sym options) s.given;
      after = ap files_after same ∙ split.after;
      files = s.files;
    }

-- a command of no options is given none: its words are its file
no_settings : (settings : List Setting) → HaveFlags [] settings → settings ≡ []
no_settings [] none = refl
no_settings (setting ∷ settings) none = absurd cc

pub words_are : (rest : List (List ℕ)) (file : List ℕ) → HaveFlags [] (settings_of rest) → files_after rest ≡ file ∷ [] → rest ≡ file ∷ []
words_are rest file none after =
    sym (joined rest) ∙ ap (λ (settings : List Setting). words_of_settings settings ++ files_after rest) (no_settings (settings_of rest) none) ∙ after

-- where nothing gives a build, `build` and these words spell nothing; and so on
pub no_build : (rest : List (List ℕ)) → ((lin unr : ℕ) (name : List ℕ) (source : Source) → Gives rest (build lin unr name source) → ⊥) → (command : Command) → SpellsCommand (codes "build" ∷ rest) command → ⊥
no_build rest none (build lin unr name source) s = none lin unr name source (spelled (codes "build") rest (build lin unr name source) s)
no_build rest none other s = differ (codes "build") (command_word other) refl (first_is (codes "build") rest other s)

pub no_run : (rest : List (List ℕ)) → ((lin unr steps : ℕ) (source : Source) → Gives rest (run lin unr steps source) → ⊥) → (command : Command) → SpellsCommand (codes "run" ∷ rest) command → ⊥
no_run rest none (run lin unr steps source) s = none lin unr steps source (spelled (codes "run") rest (run lin unr steps source) s)
no_run rest none other s = differ (codes "run") (command_word other) refl (first_is (codes "run") rest other s)

pub no_exec : (rest : List (List ℕ)) → ((steps : ℕ) (file : List ℕ) → Gives rest (exec steps file) → ⊥) → (command : Command) → SpellsCommand (codes "exec" ∷ rest) command → ⊥
no_exec rest none (exec steps file) s = none steps file (spelled (codes "exec") rest (exec steps file) s)
no_exec rest none other s = differ (codes "exec") (command_word other) refl (first_is (codes "exec") rest other s)

pub no_show : (rest : List (List ℕ)) → ((source : Source) → Gives rest (show source) → ⊥) → (command : Command) → SpellsCommand (codes "show" ∷ rest) command → ⊥
no_show rest none (show source) s = none source (spelled (codes "show") rest (show source) s)
no_show rest none other s = differ (codes "show") (command_word other) refl (first_is (codes "show") rest other s)

pub no_dump : (rest : List (List ℕ)) → ((file : List ℕ) → Gives rest (dump file) → ⊥) → (command : Command) → SpellsCommand (codes "dump" ∷ rest) command → ⊥
no_dump rest none (dump file) s = none file (spelled (codes "dump") rest (dump file) s)
no_dump rest none other s = differ (codes "dump") (command_word other) refl (first_is (codes "dump") rest other s)

-- words that begin otherwise spell nothing
pub no_command : (word : List ℕ) (rest : List (List ℕ)) (command : Command) → (word ≡ codes "build" → ⊥) → (word ≡ codes "run" → ⊥) → (word ≡ codes "exec" → ⊥) → (word ≡ codes "show" → ⊥) → (word ≡ codes "dump" → ⊥) → SpellsCommand (word ∷ rest) command → ⊥
no_command word rest (build lin unr name source) not_build not_run not_exec not_show not_dump s = not_build (first_is word rest (build lin unr name source) s)
no_command word rest (run lin unr steps source) not_build not_run not_exec not_show not_dump s = not_run (first_is word rest (run lin unr steps source) s)
no_command word rest (exec steps file) not_build not_run not_exec not_show not_dump s = not_exec (first_is word rest (exec steps file) s)
no_command word rest (show source) not_build not_run not_exec not_show not_dump s = not_show (first_is word rest (show source) s)
no_command word rest (dump file) not_build not_run not_exec not_show not_dump s = not_dump (first_is word rest (dump file) s)

-- no words spell nothing
pub no_words : (command : Command) → SpellsCommand [] command → ⊥
no_words command s = let e = s.are in absurd cc

-- where nothing is so, nothing is found
pub found_none : {A B : Type 0} (P : B → Type 0) (f : A → B) (result : Option A) → result ≡ None → ((x : B) → P x → ⊥) → Finds P (option_map f result)
found_none P f (Some x) e none = absurd cc
found_none P f None e none = none

-- a slice's pattern with one item at its front
pub front_one : {A B : Type 0} (f : A → B) (d : A) (xs : List A) → 1 ≤ length xs → map f xs ≡ f (get_or xs 0 d) ∷ map f (take (length xs - 1) (drop 1 xs))
front_one f d [] le = absurd (omega arith)
front_one f d (x ∷ xs) le = ap (λ zs. f x ∷ map f zs) (sym (take_all (length (x ∷ xs) - 1) xs (omega arith)))

-- the same, where the item's image is known
pub front_is : {A B : Type 0} (f : A → B) (d : A) (xs : List A) (front : B) → 1 ≤ length xs → f (get_or xs 0 d) ≡ front → map f xs ≡ front ∷ map f (take (length xs - 1) (drop 1 xs))
front_is f d xs front le is = front_one f d xs le ∙ ap (λ z. z ∷ map f (take (length xs - 1) (drop 1 xs))) is
