-- A fault that is told has a name, and is the first one.
use Rattle.std.proofs.Common.{◌≡◌, ℕ, List, refl, ap, Err, None, Some}
use Rattle.std.specs.Option.{MatchOption, option_map}
use Rattle.std.specs.declared.option.Option.{Option}
use Rattle.std.specs.declared.result.Result.{Result}
use Rattle.rich_text.specs.Tokens.{Fault}
use Rattle.rich_text_laws.specs.Laws.{HasFirstFault}
use Rattle.rw_read.specs.Reading.{Tells, fault_in}
use Rattle.rw_read.specs.declared.errors.TextError.{TextError}
use Rattle.rw_types.specs.declared.modules.Module.{Module}
use Rattle.words.specs.declared.SourceKind.TheVariants.{Rich}
use Rattle.rwc_reports.specs.Lines.{text_line}
use Rattle.rwc_reports.specs.Sources.{TextReads, faulty, text_fault_name}
use Rattle.rwc_reports.specs.Steps.{Refused}
use Rattle.rwc_acts.proofs.Loading.{refused_step}
use Rattle.rwc_texts.proofs.texts.refuse.Goals as goal

same_name : (a b : List ℕ) → (let o : Option (List ℕ) = Some a in o) ≡ Some b → a ≡ b
same_name a b e = cc

no_name : (a : List ℕ) → (let o : Option (List ℕ) = Some a in o) ≡ None → ⊥
no_name a e = cc

-- the line with the name of the fault that is told
told_line : (file bytes : List ℕ) (e : TextError) (name : List ℕ) → Some name ≡ option_map text_fault_name (fault_in e.fault) → Tells bytes e → TextReads Rich file bytes (Err (record { status = 1; line = text_line file e.line e.column name }))
told_line file bytes e name = of_fault (fault_in e.fault)
  where
    of_fault : (f : Option Fault) → Some name ≡ option_map text_fault_name f → MatchOption f ((e.line ≡ 0) × (e.column ≡ 0)) (λ g. HasFirstFault bytes (record { fault = g; at = record { line = e.line; column = e.column } })) →
        TextReads Rich file bytes (Err (record { status = 1; line = text_line file e.line e.column name }))
    of_fault None is tells = absurd (no_name name is)
    of_fault (Some f) is tells =
        faulty (record { fault = f; at = record { line = e.line; column = e.column } }) refl tells
        (ap (λ (n : List ℕ). let r : Result Module Refused = Err (record { status = 1; line = text_line file e.line e.column n }) in r) (same_name name (text_fault_name f) is))

pub returns-in-Some : goal.returns-in-Some
returns-in-Some c = λ bytes tells.
    let e = c.args.error in
    let file = c.args.file.now in
    refused_step (λ m. m) (TextReads Rich file bytes) 1 c.text-line.result c.refused.result _ c.refused.ensures c.text-line.ensures
    (told_line file bytes e c.in-Some.fault.now c.in-Some.ensures tells)
