-- Words spell at most one command: the options and the files are those that the words are taken apart into, and a
-- number is the only one with its text.
use Rattle.std.proofs.Common.{◌≡◌, ℕ, ◌<◌, ◌^◌, List, [], ◌∷◌, refl, ap, sym, ◌∙◌, arith, Some}
use Rattle.std.proofs.lemmas.Fmt.{decimal_injective}
use Rattle.std.specs.Prelude.{codes}
use Rattle.words.specs.declared.SourceKind.{SourceKind}
use Rattle.words.specs.Words.{Setting, Command, build, run, exec, show, dump, command_word, Source, IsSourceNamed, GivesNumber, GivesPages, GivesSteps, values_for, SpellsCommand, OneCommand}
use Rattle.words.specs.Files.{module_name_of}
use Rattle.words.specs.Reading.{settings_of}
use Rattle.words.proofs.Spelling.{Gives, spelled, first_is, head_is, differ, no_words}

one_number : (least greatest default : ℕ) (values : List (List ℕ)) (n m : ℕ) → greatest < 2 ^ 64 → GivesNumber least greatest default values n → GivesNumber least greatest default values m → n ≡ m
one_number least greatest default [] n m small x y = x ∙ sym y
one_number least greatest default (text ∷ []) n m small x y = decimal_injective n m (omega (arith, x.high, small)) (omega (arith, y.high, small)) (sym x.text_is ∙ y.text_is)
one_number least greatest default (text ∷ other ∷ more) n m small x y = absurd x

one_lin : (settings : List Setting) (lin unr lin' unr' : ℕ) → GivesPages settings lin unr → GivesPages settings lin' unr' → lin ≡ lin'
one_lin settings lin unr lin' unr' x y = one_number 1 512 16 (values_for (codes "--lin") settings) lin lin' (omega arith) x.0 y.0

one_unr : (settings : List Setting) (lin unr lin' unr' : ℕ) → GivesPages settings lin unr → GivesPages settings lin' unr' → unr ≡ unr'
one_unr settings lin unr lin' unr' x y = one_number 0 512 16 (values_for (codes "--unr") settings) unr unr' (omega arith) x.1 y.1

one_steps : (settings : List Setting) (steps steps' : ℕ) → GivesSteps settings steps → GivesSteps settings steps' → steps ≡ steps'
one_steps settings steps steps' x y = one_number 1 1000000000000 100000000 (values_for (codes "--steps") settings) steps steps' (omega arith) x y

one_file : (files : List (List ℕ)) (a b : List ℕ) → files ≡ a ∷ [] → files ≡ b ∷ [] → a ≡ b
one_file files a b x y = head_is a b [] [] (sym x ∙ y)

same_name : (a b : List ℕ) → Some a ≡ Some b → a ≡ b
same_name a b e = cc

-- a file is one source
one_source : (a b : Source) → a.file ≡ b.file → IsSourceNamed a.file a → IsSourceNamed b.file b → a ≡ b
one_source a b same x y =
    ap (λ (file : List ℕ). let s : Source = record { file = file; name = a.name; kind = a.kind } in s) same
    ∙ ap (λ (name : List ℕ). let s : Source = record { file = b.file; name = name; kind = a.kind } in s) (same_name a.name b.name (sym x.named ∙ ap module_name_of same ∙ y.named))
    ∙ ap (λ (kind : SourceKind). let s : Source = record { file = b.file; name = b.name; kind = kind } in s) (x.language ∙ sym y.language)

one_build : (rest : List (List ℕ)) (lin unr : ℕ) (name : List ℕ) (source : Source) (lin' unr' : ℕ) (name' : List ℕ) (source' : Source) → Gives rest (build lin unr name source) → Gives rest (build lin' unr' name' source') →
    build lin unr name source ≡ build lin' unr' name' source'
one_build rest lin unr name source lin' unr' name' source' x y =
    ap (λ (n : ℕ). build n unr name source) (one_lin (settings_of rest) lin unr lin' unr' x.given.0 y.given.0)
    ∙ ap (λ (n : ℕ). build lin' n name source) (one_unr (settings_of rest) lin unr lin' unr' x.given.0 y.given.0)
    ∙ ap (λ (t : List ℕ). build lin' unr' t source) (one_file (values_for (codes "-o") (settings_of rest)) name name' x.given.1.0 y.given.1.0)
    ∙ ap (λ (s : Source). build lin' unr' name' s) (one_source source source' (one_file _ source.file source'.file x.after y.after) x.files y.files)

one_run : (rest : List (List ℕ)) (lin unr steps : ℕ) (source : Source) (lin' unr' steps' : ℕ) (source' : Source) → Gives rest (run lin unr steps source) → Gives rest (run lin' unr' steps' source') →
    run lin unr steps source ≡ run lin' unr' steps' source'
one_run rest lin unr steps source lin' unr' steps' source' x y =
    ap (λ (n : ℕ). run n unr steps source) (one_lin (settings_of rest) lin unr lin' unr' x.given.0 y.given.0)
    ∙ ap (λ (n : ℕ). run lin' n steps source) (one_unr (settings_of rest) lin unr lin' unr' x.given.0 y.given.0)
    ∙ ap (λ (n : ℕ). run lin' unr' n source) (one_steps (settings_of rest) steps steps' x.given.1 y.given.1)
    ∙ ap (λ (s : Source). run lin' unr' steps' s) (one_source source source' (one_file _ source.file source'.file x.after y.after) x.files y.files)

one_exec : (rest : List (List ℕ)) (steps : ℕ) (file : List ℕ) (steps' : ℕ) (file' : List ℕ) → Gives rest (exec steps file) → Gives rest (exec steps' file') → exec steps file ≡ exec steps' file'
one_exec rest steps file steps' file' x y =
    ap (λ (n : ℕ). exec n file) (one_steps (settings_of rest) steps steps' x.given y.given)
    ∙ ap (λ (f : List ℕ). exec steps' f) (one_file _ file file' x.after y.after)

one_show : (rest : List (List ℕ)) (source source' : Source) → Gives rest (show source) → Gives rest (show source') → show source ≡ show source'
one_show rest source source' x y = ap show (one_source source source' (one_file _ source.file source'.file x.after y.after) x.files y.files)

one_dump : (rest : List (List ℕ)) (file file' : List ℕ) → Gives rest (dump file) → Gives rest (dump file') → dump file ≡ dump file'
one_dump rest file file' x y = ap dump (one_file _ file file' x.after y.after)

same_word : (word : List ℕ) (rest : List (List ℕ)) (a b : Command) → SpellsCommand (word ∷ rest) a → SpellsCommand (word ∷ rest) b → command_word a ≡ command_word b
same_word word rest a b x y = sym (first_is word rest a x) ∙ first_is word rest b y

-- commands of one word are of one kind
one_after : (rest : List (List ℕ)) (a b : Command) → command_word a ≡ command_word b → Gives rest a → Gives rest b → a ≡ b
one_after rest (build lin unr name source) (build lin' unr' name' source') same x y = one_build rest lin unr name source lin' unr' name' source' x y
one_after rest (run lin unr steps source) (run lin' unr' steps' source') same x y = one_run rest lin unr steps source lin' unr' steps' source' x y
one_after rest (exec steps file) (exec steps' file') same x y = one_exec rest steps file steps' file' x y
one_after rest (show source) (show source') same x y = one_show rest source source' x y
one_after rest (dump file) (dump file') same x y = one_dump rest file file' x y
one_after rest a b same x y = absurd (differ (command_word a) (command_word b) refl same)

pub one_command : OneCommand
one_command [] a b x y = absurd (no_words a x)
one_command (word ∷ rest) a b x y = one_after rest a b (same_word word rest a b x y) (spelled word rest a x) (spelled word rest b y)
