-- Modules of one function: what holds of the derivation and the first violation of its body holds of
-- the module.
use Rattle.std.proofs.Common.{◌≡◌, ◌⊎◌, inl, inr, ℕ, List, [], ◌∷◌, Option, None, refl, sym, ap, ◌∙◌, subst}
use Rattle.rw_types.specs.declared.instrs.Instr.{Instr}
use Rattle.rw_types.specs.declared.modules.FuncDef.{FuncDef}
use Rattle.rw_types.specs.declared.modules.Module.{Module}
use Rattle.rw_types.specs.declared.types.Ty.{Ty}
use Rattle.rw_types.specs.LoneMain.{IsLoneMain, main_type}
use Rattle.rich_typing.specs.declared.notes.Note.{Note}
use Rattle.rich_typing.specs.declared.notes.Place.{Place}
use Rattle.rich_typing.specs.declared.notes.Place.TheVariants.{FuncType, FuncAt}
use Rattle.rich_typing.specs.declared.rules.Rule.{Rule}
use Rattle.rich_typing.specs.declared.rules.Rule.TheVariants.{Operands, BlockEnd, NotYetBuilt}
use Rattle.rich_typing.specs.Derivations.{Derives, HasDerivation, HaveDerivations, IsTyped, demanded}
use Rattle.rich_typing.specs.Violations.{Violation, FirstViolation, in_body, not_built, BreaksBody}
use Rattle.rich_typing.proofs.Unique.{derives_one, never_both, violation_one, Same}
use Rattle.rich_typing.proofs.LoneBodies.{lone_body}
use Rattle.rich_typing.proofs.Built.{is_built}

-- the derivations of the functions are the same in each derivation
have_one : (fs : List FuncDef) (notes notes' : List (List Note)) → HaveDerivations fs notes → HaveDerivations fs notes' → notes ≡ notes'
have_one [] [] [] h h' = refl
have_one [] [] (n' ∷ ns') h h' = absurd h'
have_one [] (n ∷ ns) _ h h' = absurd h
have_one (f ∷ fs) [] _ h h' = absurd h
have_one (f ∷ fs) (n ∷ ns) [] h h' = absurd h'
have_one (f ∷ fs) (n ∷ ns) (n' ∷ ns') h h' =
    let same = derives_one f.ty.binders f.body h.0 h'.0 in
    cc (same.0, have_one fs ns ns' h.1 h'.1)

pub one_derivation : (m : Module) (notes notes' : List (List Note)) → IsTyped m notes → IsTyped m notes' → notes ≡ notes'
one_derivation m notes notes' t t' = have_one m.funcs notes notes' t.bodies t'.bodies

-- a body with a derivation breaks no rule
body_never_both : (f : FuncDef) {notes : List Note} {at : ℕ} {broken : Rule} {found expected : Option Ty} → HasDerivation f notes → BreaksBody f at broken found expected → ⊥
body_never_both f {notes = notes} d b =
    never_both f.ty.binders (demanded f) b.before b.rest b.derived b.breaks (subst (λ (is : List Instr). Derives f.ty.binders is [] notes (demanded f)) b.whole d)

funcs_never_both : (fs : List FuncDef) (f : FuncDef) (notes : List (List Note)) {at : ℕ} {broken : Rule} {found expected : Option Ty} → fs ≡ f ∷ [] → HaveDerivations fs notes → BreaksBody f at broken found expected → ⊥
funcs_never_both [] f notes e h b = cc
funcs_never_both (g ∷ gs) f [] e h b = absurd h
funcs_never_both (g ∷ gs) f (n ∷ ns) e h b = body_never_both f (subst (λ (k : FuncDef). HasDerivation k n) (first e) h.0) b
  where
    first : g ∷ gs ≡ f ∷ [] → g ≡ f
    first same = cc

pub module_never_both : (m : Module) (notes : List (List Note)) (v : Violation) → IsTyped m notes → FirstViolation m v → ⊥
module_never_both m notes v t (in_body f at lone e p b) = funcs_never_both m.funcs f notes e t.bodies b
module_never_both m notes v t (not_built other p r f x) = other t.lone

-- violations whose parts are equal are equal
violation : {v v' : Violation} → v.place ≡ v'.place → v.broken ≡ v'.broken → v.found ≡ v'.found → v.expected ≡ v'.expected → v ≡ v'
violation {v = v} {v' = v'} p r f x = of_parts (λ (place : Place) (broken : Rule) (found expected : Option Ty). record { place = place; broken = broken; found = found; expected = expected }) p r f x
  where
    of_parts : (mk : Place → Rule → Option Ty → Option Ty → Violation) {p p' : Place} {r r' : Rule} {f f' x x' : Option Ty} → p ≡ p' → r ≡ r' → f ≡ f' → x ≡ x' → mk p r f x ≡ mk p' r' f' x'
    of_parts mk p r f x = cc

body_one : (f : FuncDef) {at at' : ℕ} {broken broken' : Rule} {found found' expected expected' : Option Ty} → BreaksBody f at broken found expected → BreaksBody f at' broken' found' expected' → Same at at' broken broken' found found' expected expected'
body_one f b b' =
    let same = violation_one f.ty.binders (demanded f) b.before b'.before b.rest b'.rest (sym b.whole ∙ b'.whole) b.derived b.breaks b'.derived b'.breaks in
    record { place = b.place ∙ same.place ∙ sym b'.place; rule = same.rule; type = same.type; demand = same.demand }

pub one_violation : (m : Module) (v v' : Violation) → FirstViolation m v → FirstViolation m v' → v ≡ v'
one_violation m v v' (in_body f at lone e p b) (in_body f' at' lone' e' p' b') =
    let same = body_one f b (subst (λ (k : FuncDef). BreaksBody k at' v'.broken v'.found v'.expected) (only (sym e' ∙ e)) b') in
    violation (p ∙ ap (λ (k : ℕ). FuncAt 0 (k ∷ [])) same.place ∙ sym p') same.rule same.type same.demand
  where
    only : {g g' : FuncDef} → g ∷ [] ≡ g' ∷ [] → g ≡ g'
    only same = cc
one_violation m v v' (in_body f at lone e p b) (not_built other p' r' f' x') = absurd (other lone)
one_violation m v v' (not_built other p r f x) (in_body f' at' lone' e' p' b') = absurd (other lone')
one_violation m v v' (not_built other p r f x) (not_built other' p' r' f' x') = violation (p ∙ sym p') (r ∙ sym r') (f ∙ sym f') (x ∙ sym x')

-- what a lone module has: a derivation, or a violation without types
pub lone_module : (m : Module) → IsLoneMain m → ((notes : List (List Note)) × IsTyped m notes) ⊎ ((v : Violation) × FirstViolation m v × ((v.broken ≡ Operands) ⊎ (v.broken ≡ BlockEnd)) × (v.found ≡ None) × (v.expected ≡ None))
lone_module m lone = elim (lone_body lone.body lone.plain 0) [
  | inl d ↦ inl (d.0 ∷ [], record { lone = lone; bodies = subst (λ (k : Module). HaveDerivations k.funcs (d.0 ∷ [])) (sym lone.is) (d.1, tt) })
  | inr b ↦ inr (
    record { place = FuncAt 0 (b.0 ∷ []); broken = b.1; found = None; expected = None },
    in_body (record { ty = main_type; locals = []; body = lone.body }) b.0 lone (ap (λ (k : Module). k.funcs) lone.is) refl b.3,
    b.2,
    refl,
    refl,
  )
]

-- what every module has: a derivation, or a first violation
pub typed_or_refused : (m : Module) → ((notes : List (List Note)) × IsTyped m notes) ⊎ ((v : Violation) × FirstViolation m v)
typed_or_refused m = elim (is_built m) [
  | inl lone ↦ elim (lone_module m lone) [ inl t ↦ inl t | inr v ↦ inr (v.0, v.1) ]
  | inr other ↦ inr (record { place = FuncType 0; broken = NotYetBuilt; found = None; expected = None }, not_built other refl refl refl refl)
]

pub lone_refused : (m : Module) (v : Violation) → IsLoneMain m → FirstViolation m v → ((v.broken ≡ Operands) ⊎ (v.broken ≡ BlockEnd)) × (v.found ≡ None) × (v.expected ≡ None)
lone_refused m v lone b = elim (lone_module m lone) [
  | inl t ↦ absurd (module_never_both m t.0 v t.1 b)
  | inr w ↦ subst (λ (u : Violation). ((u.broken ≡ Operands) ⊎ (u.broken ≡ BlockEnd)) × (u.found ≡ None) × (u.expected ≡ None)) (one_violation m w.0 v w.1 b) (w.2, w.3, w.4)
]
