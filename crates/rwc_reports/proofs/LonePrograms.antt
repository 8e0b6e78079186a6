-- What told files lead to is a program of one function, whose lowered module has short sections.
use Rattle.std.proofs.Common.{◌≡◌, ◌⊎◌, inl, inr, ℕ, List, [], ◌∷◌, map, refl, ap, sym, ◌∙◌, subst, Ok, Err, None, Some}
use Rattle.std.specs.declared.option.Option.{Option}
use Rattle.rw_types.specs.declared.instrs.Instr.{Instr}
use Rattle.rw_types.specs.declared.modules.Module.{Module}
use Rattle.rw_types.specs.LoneMain.{lone_main}
use Rattle.rich_typing.specs.declared.notes.Note.{Note}
use Rattle.rich_typing.specs.Derivations.{Derives, HaveDerivations, IsTyped}
use Rattle.rich_typing.specs.Table.{unr_i64}
use Rattle.rw_program.specs.LonePrograms.{IsLoneProgram, lone_program}
use Rattle.rw_program.specs.Linking.{program_of}
use Rattle.rw_program.specs.Modules.{TypedModule}
use Rattle.rw_program.specs.Programs.{Program}
use Rattle.rw_io.specs.Files.{NamedFile}
use Rattle.words.specs.Words.{Source}
use Rattle.rwc_reports.specs.Laws.{LeadsToLone}
use Rattle.rwc_reports.specs.Sources.{FileLoads, ModuleChecks, typed, violated, SourceChecks, ModulesLink, linked, no_main, SourcesLoad, SourcesCheck, SourcesLink, FilesLead}
use Rattle.rwc_reports.specs.Steps.{Refused, goes_on, stops}
use Rattle.rwc_reports.proofs.Causes.{load_status, text_status, check_status}
use Rattle.rwc_reports.proofs.OneAnswer.{same_some}
use Rattle.rwc_reports.proofs.Steps.{same_value, same_refused, not_both, value_of_one, first_refused}

record OneBody (body : List Instr) (notes : List (List Note)) : Type 0 where
  own : List Note
  is : notes ≡ own ∷ []
  derived : Derives [] body [] own (unr_i64 ∷ [])

one_body : (body : List Instr) (notes : List (List Note)) → HaveDerivations (lone_main body).funcs notes → OneBody body notes
one_body body [] h = absurd h
one_body body (own ∷ []) h = record { own = own; is = refl; derived = h.0 }
one_body body (own ∷ other ∷ more) h = absurd h.1

-- the program of a typed module is one that is lowered so far
whole_program : (source : Module) (notes : List (List Note)) (t : IsTyped source notes) (own : List Note) → notes ≡ own ∷ [] → program_of (record { source = source; notes = notes }) ≡ Some (lone_program t.lone.body own)
whole_program source notes t own is =
    ap (λ (m : Module). program_of (record { source = m; notes = notes })) t.lone.is ∙ ap (λ (all : List (List Note)). program_of (record { source = lone_main t.lone.body; notes = all })) is

pub program_lone : (source : Module) (notes : List (List Note)) (q : Program) → IsTyped source notes → program_of (record { source = source; notes = notes }) ≡ Some q → IsLoneProgram q
program_lone source notes q t links =
    let body = t.lone.body in
    let one = one_body body notes (subst (λ (m : Module). HaveDerivations m.funcs notes) t.lone.is t.bodies) in
    record { body = body; notes = one.own; is = same_some q (lone_program body one.own) (sym links ∙ whole_program source notes t one.own one.is); plain = t.lone.plain; short = t.lone.short; derived = one.derived }

-- a typed module has a program
pub has_program : (source : Module) (notes : List (List Note)) → IsTyped source notes → program_of (record { source = source; notes = notes }) ≡ None → ⊥
has_program source notes t none =
    let one = one_body t.lone.body notes (subst (λ (m : Module). HaveDerivations m.funcs notes) t.lone.is t.bodies) in
    let e = sym (whole_program source notes t one.own one.is) ∙ none in cc

-- what is checked is typed
record Typed (file : TypedModule) : Type 0 where
  source : Module
  notes : List (List Note)
  is : file ≡ record { source = source; notes = notes }
  derived : IsTyped source notes

check_typed : (file : List ℕ) (m : Module) (value : TypedModule) → ModuleChecks file m (Ok value) → Typed value
check_typed file m value (typed notes t e) = record { source = m; notes = notes; is = same_value value (record { source = m; notes = notes }) e; derived = t }
check_typed file m value (violated v first e) = absurd (not_both value _ e)

source_typed : (given : Source × List ℕ) (value : TypedModule) → SourceChecks given (Ok value) → Typed value
source_typed given value (goes_on m text check) = check_typed given.0.file m value check
source_typed given value (stops refused text e) = absurd (not_both value refused e)

typed_lone : (value : TypedModule) (program : Program) → Typed value → program_of value ≡ Some program → IsLoneProgram program
typed_lone value program t links = program_lone t.source t.notes program t.derived (sym (ap program_of t.is) ∙ links)

first_of_one : (a b : TypedModule) → (let all : List TypedModule = a ∷ [] in all) ≡ b ∷ [] → a ≡ b
first_of_one a b e = cc

linked_lone : (value : TypedModule) (program : Program) → Typed value → ModulesLink (value ∷ []) (Ok program) → IsLoneProgram program
linked_lone value program t (linked file p is links e) =
    typed_lone value program t (ap program_of (first_of_one value file is) ∙ links ∙ ap (λ (q : Program). let o : Option Program = Some q in o) (sym (same_value program p e)))
linked_lone value program t (no_main none e) = absurd (not_both program _ e)

-- the sources of one file that were loaded and checked
pub record OneChecked (told : List NamedFile) (source : Source) (all : List (Source × List ℕ)) (checked : List ((Source × List ℕ) × TypedModule)) : Type 0 where
  pub bytes : List ℕ
  pub loads : FileLoads told source.file (Ok bytes)
  pub value : TypedModule
  pub checks : SourceChecks (source, bytes) (Ok value)
  pub are : map (λ c. c.1) checked ≡ value ∷ []

pub one_checked : (told : List NamedFile) (source : Source) (all : List (Source × List ℕ)) (checked : List ((Source × List ℕ) × TypedModule)) → SourcesLoad told (source ∷ []) (Ok all) → SourcesCheck all (Ok checked) → OneChecked told source all checked
one_checked told source all checked load check =
    let first = value_of_one (λ (s : Source). FileLoads told s.file) source all load in
    let second = value_of_one SourceChecks (source, first.value) checked (subst (λ (a : List (Source × List ℕ)). SourcesCheck a (Ok checked)) first.are check) in
    record { bytes = first.value; loads = first.is; value = second.value; checks = second.is; are = ap (λ (c : List ((Source × List ℕ) × TypedModule)). map (λ d. d.1) c) second.are }

pub leads_to_lone : LeadsToLone
leads_to_lone told source program (stops refused load e) = absurd (not_both program refused e)
leads_to_lone told source program (goes_on all load (stops refused check e)) = absurd (not_both program refused e)
leads_to_lone told source program (goes_on all load (goes_on checked check link)) =
    let one = one_checked told source all checked load check in
    linked_lone one.value program (source_typed (source, one.bytes) one.value one.checks) (subst (λ (files : List TypedModule). ModulesLink files (Ok program)) one.are link)

-- what is checked can be linked
pub links : (told : List NamedFile) (source : Source) (all : List (Source × List ℕ)) (checked : List ((Source × List ℕ) × TypedModule)) (refused : Refused) → OneChecked told source all checked → SourcesLink checked (Err refused) → ⊥
links told source all checked refused one link = never_refused one.value refused (source_typed (source, one.bytes) one.value one.checks) (subst (λ (files : List TypedModule). ModulesLink files (Err refused)) one.are link)
  where
    never_refused : (value : TypedModule) (refused : Refused) → Typed value → ModulesLink (value ∷ []) (Err refused) → ⊥
    never_refused value refused t (linked file p is some e) = not_both p refused (sym e)
    never_refused value refused t (no_main none e) = has_program t.source t.notes t.derived (sym (ap program_of t.is) ∙ none)

source_status : (given : Source × List ℕ) (refused : Refused) → SourceChecks given (Err refused) → refused.status ≡ 1
source_status given refused (stops r text e) = ap (λ (q : Refused). q.status) (same_refused refused r e) ∙ text_status given.0.kind given.0.file given.1 r text
source_status given refused (goes_on m text check) = check_status given.0.file m refused check

-- the files of a program are refused with 1 or 3
pub files_status : (told : List NamedFile) (source : Source) (refused : Refused) → FilesLead told (source ∷ []) (Err refused) → (refused.status ≡ 1) ⊎ (refused.status ≡ 3)
files_status told source refused (stops r load e) =
    let first = first_refused (λ (s : Source). FileLoads told s.file) (source ∷ []) r load in
    inr (ap (λ (q : Refused). q.status) (same_refused refused r e) ∙ load_status told first.at.file r first.is)
files_status told source refused (goes_on all load (stops r check e)) =
    let first = first_refused SourceChecks all r check in
    inl (ap (λ (q : Refused). q.status) (same_refused refused r e) ∙ source_status first.at r first.is)
files_status told source refused (goes_on all load (goes_on checked check link)) = absurd (links told source all checked refused (one_checked told source all checked load check) link)
