-- What an answer tells of a body it tells of the module, and what a module is decides the answer.
use Rattle.std.proofs.Common.{◌≡◌, inl, inr, ℕ, List, [], ◌∷◌, Option, None, Ok, Err, refl, sym, ap, ◌∙◌, subst}
use Rattle.rw_types.specs.declared.instrs.Instr.{Instr}
use Rattle.rw_types.specs.declared.modules.FuncDef.{FuncDef}
use Rattle.rw_types.specs.declared.modules.Module.{Module}
use Rattle.rw_types.specs.declared.types.Ty.{Ty}
use Rattle.rw_types.specs.LoneMain.{IsLoneMain, main_type}
use Rattle.rich_typing.specs.declared.notes.Note.{Note}
use Rattle.rich_typing.specs.declared.rules.Rule.{Rule}
use Rattle.rich_typing.specs.Derivations.{IsTyped}
use Rattle.rich_typing.specs.Table.{unr_i64}
use Rattle.rich_typing.specs.Violations.{Violation, FirstViolation, in_body, BreaksAt, BreaksBody}
use Rattle.rich_typing.proofs.LoneModules.{one_derivation, module_never_both, one_violation}
use Rattle.rw_program.specs.declared.checked.CheckError.{CheckError}
use Rattle.rw_program.specs.declared.checked.CheckError.TheVariants.{Refused, Memory}
use Rattle.rw_program.specs.Modules.{TypedModule}
use Rattle.rw_check.specs.Answers.{refusal, TellsFirst, TellsBody, UnlessMemory}

-- the one function with this body
abbrev pub lone_function : List Instr → FuncDef
lone_function body = record { ty = main_type; locals = []; body = body }

lone_func_is : {m : Module} {f : FuncDef} (lone : IsLoneMain m) → m.funcs ≡ f ∷ [] → lone_function lone.body ≡ f
lone_func_is {m = m} {f = f} lone e = first (sym (ap (λ (k : Module). k.funcs) lone.is) ∙ e)
  where
    first : {g g' : FuncDef} → g ∷ [] ≡ g' ∷ [] → g ≡ g'
    first same = cc

breaks_func : {m : Module} {f : FuncDef} (lone : IsLoneMain m) → m.funcs ≡ f ∷ [] → {at : ℕ} {broken : Rule} {found expected : Option Ty} → found ≡ None → expected ≡ None → BreaksAt [] (unr_i64 ∷ []) f.body [] at broken None None → BreaksBody f at broken found expected
breaks_func {f = f} lone e {at = at} {broken = broken} {found = found} {expected = expected} ef ex b =
    let same = lone_func_is lone e in
    let of_body : BreaksAt [] (unr_i64 ∷ []) lone.body [] at broken None None = subst (λ (g : FuncDef). BreaksAt [] (unr_i64 ∷ []) g.body [] at broken None None) (sym same) b in
    let of_func : BreaksBody f at broken None None = subst (λ (g : FuncDef). BreaksBody g at broken None None) same of_body in
    subst (λ (t : Option Ty). BreaksBody f at broken t expected) (sym ef) (subst (λ (t : Option Ty). BreaksBody f at broken None t) (sym ex) of_func)

pub tells_first : (e : CheckError) {m : Module} {f : FuncDef} → IsLoneMain m → m.funcs ≡ f ∷ [] → TellsBody e f.body → TellsFirst e m
tells_first (Refused place broken found expected) {f = f} lone e h = in_body f h.0 lone e h.1 (breaks_func lone e h.2 h.3 h.4)
tells_first Memory lone e h = tt

pub refused_not_typed : (e : CheckError) (m : Module) (notes : List (List Note)) → TellsFirst e m → IsTyped m notes → UnlessMemory (Ok (record { source = m; notes = notes })) (Err e)
refused_not_typed (Refused place broken found expected) m notes first typed = absurd (module_never_both m notes _ typed first)
refused_not_typed Memory m notes first typed = inr refl

pub refused_as : (e : CheckError) (m : Module) (v : Violation) → TellsFirst e m → FirstViolation m v → UnlessMemory (Err (refusal v)) (Err e)
refused_as (Refused place broken found expected) m v first violation = inl (ap (λ (w : Violation). Err (refusal w)) (one_violation m _ v first violation))
refused_as Memory m v first violation = inr refl

pub typed_as : (c : TypedModule) (m : Module) (notes : List (List Note)) → c.source ≡ m → IsTyped m c.notes → IsTyped m notes → UnlessMemory (Ok (record { source = m; notes = notes })) (Ok c)
typed_as c m notes e typed typed' = inl (ap (λ (t : TypedModule). Ok t) (parts e (one_derivation m c.notes notes typed typed')))
  where
    parts : c.source ≡ m → c.notes ≡ notes → c ≡ record { source = m; notes = notes }
    parts es en = ap (λ (k : Module). record { source = k; notes = c.notes }) es ∙ ap (λ (n : List (List Note)). record { source = m; notes = n }) en

pub typed_not_refused : (c : TypedModule) (m : Module) (v : Violation) → IsTyped m c.notes → FirstViolation m v → UnlessMemory (Err (refusal v)) (Ok c)
typed_not_refused c m v typed violation = absurd (module_never_both m c.notes v typed violation)
