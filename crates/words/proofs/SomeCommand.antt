-- Words spell a command or none: each part of the plain form is sought where it stands, a number among those of its range.
use Rattle.std.proofs.Common.{◌≡◌, ◌≤◌, ◌<◌, ◌⊎◌, inl, inr, ℕ, zero, suc, List, [], ◌∷◌, Bool, true, false, refl, ap, sym, ◌∙◌, subst, arith, Some, None}
use Rattle.std.specs.Prelude.{codes, decimal}
use Rattle.std.specs.declared.option.Option.{Option}
use Rattle.std.specs.List.{list_any, list_all}
use Rattle.std.specs.Str.{bytes_eq}
use Rattle.std.proofs.lemmas.Slice.Eq.{bytes_eq-Decides}
use Rattle.words.specs.declared.SourceKind.TheVariants.{Rich}
use Rattle.words.specs.Files.{is_plain_name, is_source_file, module_name_of}
use Rattle.words.specs.Found.{Finds}
use Rattle.words.specs.Reading.{settings_of, files_after, IsOnlySource, IsOnlyName}
use Rattle.words.specs.Words.{Setting, HaveFlags, GivesNumber, GivesPages, GivesSteps, GivesName, IsNumber, values_for, Command, build, run, exec, show, dump, Source, IsSourceNamed, SpellsCommand, CommandOrNone}
use Rattle.words.proofs.Spelling.{spells, no_build, no_run, no_exec, no_show, no_dump, no_command, no_words, head_is}

-- a thing of which this holds, or none
record Sought {T : Type 0} (P : T → Type 0) : Type 0 where
  found : Option T
  finds : Finds P found

there : {T : Type 0} (P : T → Type 0) (x : T) → P x → Sought P
there P x is = record { found = Some x; finds = is }

nowhere : {T : Type 0} (P : T → Type 0) → ((x : T) → P x → ⊥) → Sought P
nowhere P none = record { found = None; finds = none }

true_or_not : (b : Bool) → (b ≡ true) ⊎ (b ≡ true → ⊥)
true_or_not true = inl refl
true_or_not false = inr (λ e. let bad = e in absurd cc)

same_or_not : (a b : List ℕ) → (a ≡ b) ⊎ (a ≡ b → ⊥)
same_or_not a b = elim (true_or_not (bytes_eq a b)) [ inl same ↦ inl ((bytes_eq-Decides a b).0 same) | inr other ↦ inr (λ e. other ((bytes_eq-Decides a b).1 e)) ]

at_most_or_more : (a b : ℕ) → (a ≤ b) ⊎ (b < a)
at_most_or_more zero b = inl (omega arith)
at_most_or_more (suc a) zero = inr (omega arith)
at_most_or_more (suc a) (suc b) = elim (at_most_or_more a b) [ inl le ↦ inl (omega (arith, le)) | inr more ↦ inr (omega (arith, more)) ]

-- one number, of a range that ends with it
number_at : (least n : ℕ) (text : List ℕ) → IsNumber least n text n ⊎ (text ≡ decimal n → least ≤ n → ⊥)
number_at least n text = elim (same_or_not text (decimal n)) [
  | inr other ↦ inr (λ e le. other e)
  | inl same ↦ elim (at_most_or_more least n) [
    | inl low ↦ inl (record { text_is = same; low = low; high = omega arith })
    | inr less ↦ inr (λ e le. omega (arith, less, le))
  ]
]

number_sought : (least greatest : ℕ) (text : List ℕ) → Sought (IsNumber least greatest text)
number_sought least zero text = elim (number_at least zero text) [
  | inl is ↦ there (IsNumber least zero text) zero is
  | inr not_it ↦ nowhere (IsNumber least zero text) (λ n is. let e : n ≡ zero = omega (arith, is.high) in not_it (subst (λ (k : ℕ). text ≡ decimal k) e is.text_is) (omega (arith, e, is.low)))
]
number_sought least (suc greatest) text = elim (number_at least (suc greatest) text) [
  | inl is ↦ there (IsNumber least (suc greatest) text) (suc greatest) is
  | inr not_it ↦ number_below least greatest text not_it (number_sought least greatest text).found (number_sought least greatest text).finds
]
  where
    number_below : (least greatest : ℕ) (text : List ℕ) → (text ≡ decimal (suc greatest) → least ≤ suc greatest → ⊥) → (found : Option ℕ) → Finds (IsNumber least greatest text) found → Sought (IsNumber least (suc greatest) text)
    number_below least greatest text not_it (Some n) is = there (IsNumber least (suc greatest) text) n (record { text_is = is.text_is; low = is.low; high = omega (arith, is.high) })
    number_below least greatest text not_it None none = nowhere (IsNumber least (suc greatest) text) (λ n is. elim (at_most_or_more n greatest) [
      | inl le ↦ none n (record { text_is = is.text_is; low = is.low; high = le })
      | inr more ↦ let e : n ≡ suc greatest = omega (arith, more, is.high) in not_it (subst (λ (k : ℕ). text ≡ decimal k) e is.text_is) (omega (arith, e, is.low))
    ])

given_sought : (least greatest default : ℕ) (values : List (List ℕ)) → Sought (GivesNumber least greatest default values)
given_sought least greatest default [] = there (GivesNumber least greatest default []) default refl
given_sought least greatest default (text ∷ []) = record { found = (number_sought least greatest text).found; finds = (number_sought least greatest text).finds }
given_sought least greatest default (text ∷ other ∷ more) = nowhere (GivesNumber least greatest default (text ∷ other ∷ more)) (λ n is. is)

one_sought : (words : List (List ℕ)) → Sought (λ (word : List ℕ). words ≡ word ∷ [])
one_sought [] = nowhere (λ (word : List ℕ). [] ≡ word ∷ []) (λ word e. let bad = e in absurd cc)
one_sought (word ∷ []) = there (λ (other : List ℕ). word ∷ [] ≡ other ∷ []) word refl
one_sought (word ∷ other ∷ more) = nowhere (λ (file : List ℕ). word ∷ other ∷ more ≡ file ∷ []) (λ file e. let bad = e in absurd cc)

name_sought : (values : List (List ℕ)) → Sought (GivesName values)
name_sought values = from_one (one_sought values).found (one_sought values).finds
  where
    from_one : (found : Option (List ℕ)) → Finds (λ (word : List ℕ). values ≡ word ∷ []) found → Sought (GivesName values)
    from_one None none = nowhere (GivesName values) (λ name g. none name g.0)
    from_one (Some name) is = elim (true_or_not (is_plain_name name)) [
      | inl plain ↦ there (GivesName values) name (is, plain)
      | inr dashed ↦ nowhere (GivesName values) (λ other g. dashed (ap is_plain_name (head_is name other [] [] (sym is ∙ g.0)) ∙ g.1))
    ]

source_sought : (file : List ℕ) → Sought (IsSourceNamed file)
source_sought file = elim (true_or_not (is_source_file file)) [
  | inr other ↦ nowhere (IsSourceNamed file) (λ source is. other is.plain)
  | inl plain ↦ named plain (module_name_of file) refl
]
  where
    named : is_source_file file ≡ true → (name : Option (List ℕ)) → module_name_of file ≡ name → Sought (IsSourceNamed file)
    named plain (Some name) e = there (IsSourceNamed file) (record { file = file; name = name; kind = Rich }) (record { same = refl; plain = plain; named = e; language = refl })
    named plain None e = nowhere (IsSourceNamed file) (λ source is. let bad = sym e ∙ is.named in absurd cc)

only_source_sought : (words : List (List ℕ)) → Sought (IsOnlySource words)
only_source_sought words = from_one (one_sought words).found (one_sought words).finds
  where
    of_file : (file : List ℕ) → words ≡ file ∷ [] → (found : Option Source) → Finds (IsSourceNamed file) found → Sought (IsOnlySource words)
    of_file file one (Some source) is =
        there (IsOnlySource words) source (one ∙ ap (λ (own : List ℕ). own ∷ []) (sym is.same), subst (λ (own : List ℕ). IsSourceNamed own source) (sym is.same) is)
    of_file file one None none =
        nowhere (IsOnlySource words) (λ source g. none source (subst (λ (own : List ℕ). IsSourceNamed own source) (head_is source.file file [] [] (sym g.0 ∙ one)) g.1))

    from_one : (found : Option (List ℕ)) → Finds (λ (word : List ℕ). words ≡ word ∷ []) found → Sought (IsOnlySource words)
    from_one None none = nowhere (IsOnlySource words) (λ source g. none source.file g.0)
    from_one (Some file) one = of_file file one (source_sought file).found (source_sought file).finds

-- two things, each sought where it stands
both_found : {A B : Type 0} (P : A → Type 0) (Q : B → Type 0) (a : Option A) → Finds P a → (b : Option B) → Finds Q b → Sought (λ (x : A × B). P x.0 × Q x.1)
both_found {A} {B} P Q (Some a) p (Some b) q = there (λ (x : A × B). P x.0 × Q x.1) (a, b) (p, q)
both_found {A} {B} P Q (Some a) p None q = nowhere (λ (x : A × B). P x.0 × Q x.1) (λ x is. q x.1 is.1)
both_found {A} {B} P Q None p b q = nowhere (λ (x : A × B). P x.0 × Q x.1) (λ x is. p x.0 is.0)

both_sought : {A B : Type 0} (P : A → Type 0) (Q : B → Type 0) → Sought P → Sought Q → Sought (λ (x : A × B). P x.0 × Q x.1)
both_sought P Q p q = both_found P Q p.found p.finds q.found q.finds

abbrev ArePagesOf : List Setting → ℕ × ℕ → Type 0
ArePagesOf settings pages = GivesPages settings pages.0 pages.1

pages_sought : (settings : List Setting) → Sought (ArePagesOf settings)
pages_sought settings =
    both_sought (GivesNumber 1 512 16 (values_for (codes "--lin") settings)) (GivesNumber 0 512 16 (values_for (codes "--unr") settings))
    (given_sought 1 512 16 (values_for (codes "--lin") settings)) (given_sought 0 512 16 (values_for (codes "--unr") settings))

steps_sought : (settings : List Setting) → Sought (GivesSteps settings)
steps_sought settings = given_sought 1 1000000000000 100000000 (values_for (codes "--steps") settings)

abbrev Answer : List (List ℕ) → Type 0
Answer words = (command : Option Command) × Finds (SpellsCommand words) command

-- after a command's word: its options are sought where they are its own, and what they give
answered : {T : Type 0} (word : List ℕ) (rest flags : List (List ℕ)) (P : T → Type 0) (command : T → Command) → ((x : T) → HaveFlags flags (settings_of rest) → P x → SpellsCommand (word ∷ rest) (command x)) →
    (((x : T) → HaveFlags flags (settings_of rest) → P x → ⊥) → (c : Command) → SpellsCommand (word ∷ rest) c → ⊥) → Sought P → Answer (word ∷ rest)
answered {T} word rest flags P command some none sought = elim (true_or_not (list_all (λ (setting : Setting). list_any (bytes_eq setting.flag) flags) (settings_of rest))) [
  | inl own ↦ of_found own sought.found sought.finds
  | inr other ↦ (None, none (λ x own is. other own))
]
  where
    of_found : HaveFlags flags (settings_of rest) → (found : Option T) → Finds P found → Answer (word ∷ rest)
    of_found own (Some x) is = (Some (command x), some x own is)
    of_found own None unfound = (None, none (λ x flags is. unfound x is))

after_build : (rest : List (List ℕ)) → Answer (codes "build" ∷ rest)
after_build rest =
    let settings = settings_of rest in
    let P = λ (x : (ℕ × ℕ) × List ℕ). ArePagesOf settings x.0 × GivesName (values_for (codes "-o") settings) x.1 in
    answered (codes "build") rest (codes "-o" ∷ codes "--lin" ∷ codes "--unr" ∷ []) (λ (x : ((ℕ × ℕ) × List ℕ) × Source). P x.0 × IsOnlySource (files_after rest) x.1)
    (λ (x : ((ℕ × ℕ) × List ℕ) × Source). build x.0.0.0 x.0.0.1 x.0.1 x.1)
    (λ x own is. spells rest (build x.0.0.0 x.0.0.1 x.0.1 x.1) (record { flags = own; given = is.0; after = is.1.0; files = is.1.1 }))
    (λ none. no_build rest (λ lin unr name source g. none (((lin, unr), name), source) g.flags (g.given, (g.after, g.files))))
    (both_sought P (IsOnlySource (files_after rest)) (both_sought (ArePagesOf settings) (GivesName (values_for (codes "-o") settings)) (pages_sought settings) (name_sought (values_for (codes "-o") settings))) (only_source_sought (files_after rest)))

after_run : (rest : List (List ℕ)) → Answer (codes "run" ∷ rest)
after_run rest =
    let settings = settings_of rest in
    let P = λ (x : (ℕ × ℕ) × ℕ). ArePagesOf settings x.0 × GivesSteps settings x.1 in
    answered (codes "run") rest (codes "--lin" ∷ codes "--unr" ∷ codes "--steps" ∷ []) (λ (x : ((ℕ × ℕ) × ℕ) × Source). P x.0 × IsOnlySource (files_after rest) x.1)
    (λ (x : ((ℕ × ℕ) × ℕ) × Source). run x.0.0.0 x.0.0.1 x.0.1 x.1)
    (λ x own is. spells rest (run x.0.0.0 x.0.0.1 x.0.1 x.1) (record { flags = own; given = is.0; after = is.1.0; files = is.1.1 }))
    (λ none. no_run rest (λ lin unr steps source g. none (((lin, unr), steps), source) g.flags (g.given, (g.after, g.files))))
    (both_sought P (IsOnlySource (files_after rest)) (both_sought (ArePagesOf settings) (GivesSteps settings) (pages_sought settings) (steps_sought settings)) (only_source_sought (files_after rest)))

after_exec : (rest : List (List ℕ)) → Answer (codes "exec" ∷ rest)
after_exec rest =
    let settings = settings_of rest in
    answered (codes "exec") rest (codes "--steps" ∷ []) (λ (x : ℕ × List ℕ). GivesSteps settings x.0 × IsOnlyName (files_after rest) x.1)
    (λ (x : ℕ × List ℕ). exec x.0 x.1)
    (λ x own is. spells rest (exec x.0 x.1) (record { flags = own; given = is.0; after = is.1.0; files = is.1.1 }))
    (λ none. no_exec rest (λ steps file g. none (steps, file) g.flags (g.given, (g.after, g.files))))
    (both_sought (GivesSteps settings) (IsOnlyName (files_after rest)) (steps_sought settings) (name_sought (files_after rest)))

after_show : (rest : List (List ℕ)) → Answer (codes "show" ∷ rest)
after_show rest =
    answered (codes "show") rest [] (IsOnlySource (files_after rest)) show
    (λ source own is. spells rest (show source) (record { flags = own; given = tt; after = is.0; files = is.1 }))
    (λ none. no_show rest (λ source g. none source g.flags (g.after, g.files)))
    (only_source_sought (files_after rest))

after_dump : (rest : List (List ℕ)) → Answer (codes "dump" ∷ rest)
after_dump rest =
    answered (codes "dump") rest [] (IsOnlyName (files_after rest)) dump
    (λ file own is. spells rest (dump file) (record { flags = own; given = tt; after = is.0; files = is.1 }))
    (λ none. no_dump rest (λ file g. none file g.flags (g.after, g.files)))
    (name_sought (files_after rest))

-- words that begin with a word, or not
choose : (word : List ℕ) (rest : List (List ℕ)) (first : List ℕ) → Answer (first ∷ rest) → ((word ≡ first → ⊥) → Answer (word ∷ rest)) → Answer (word ∷ rest)
choose word rest first same other = elim (same_or_not word first) [ inl is ↦ subst (λ (w : List ℕ). Answer (w ∷ rest)) (sym is) same | inr not_it ↦ other not_it ]

pub command_or_none : CommandOrNone
command_or_none [] = (None, no_words)
command_or_none (word ∷ rest) =
    choose word rest (codes "build") (after_build rest) (λ not_build.
    choose word rest (codes "run") (after_run rest) (λ not_run.
    choose word rest (codes "exec") (after_exec rest) (λ not_exec.
    choose word rest (codes "show") (after_show rest) (λ not_show.
    choose word rest (codes "dump") (after_dump rest) (λ not_dump.
    (None, λ command s. no_command word rest command not_build not_run not_exec not_show not_dump s))))))
