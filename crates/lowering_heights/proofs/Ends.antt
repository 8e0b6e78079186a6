-- At a list's end stand the operands that are demanded, and no list ends with an instruction that goes on.
use Rattle.std.proofs.Common.{◌≡◌, ◌∙◌, List, [], ◌∷◌, Bool, true, false, Option, Some, None, refl, ap, sym, subst, length, cond, arith}
use Rattle.std.specs.Prelude.{◌==◌, ⊤}
use Rattle.std.proofs.lemmas.Bool.{eqb-true}
use Rattle.rw_types.specs.declared.instrs.Instr.{Instr, Unreachable, Br, Return, Block', Loop', If', MemUnpack', VariantCase', ExistUnpack'}
use Rattle.rw_types.specs.declared.types.Ty.{Ty}
use Rattle.rich_typing.specs.declared.rules.Rule.TheVariants as rule
use Rattle.rich_rules.specs.Equality.{same}
use Rattle.rich_rules.specs.Points.{Broke, Demand, Ends, Enters, Frame, Outcome, Owner, OfFunction, OfGlobal, Point}
use Rattle.rich_rules.specs.Takers.{Difference, Differ, difference, last_difference, or_else}
use Rattle.rich_rules.specs.Derivations.{broken_by, end_broken, locals_broken, operands_broken}
use Rattle.rich_rules.specs.Branches.{return_row}
use Rattle.rich_rules.specs.Table.{in_function, lists_of, row}
use Rattle.rich_types.specs.Scopes.{scope_of}
use Rattle.rich_rules_laws.proofs.Compared.{sound}
use Rattle.rich_rules_inversions.specs.Cells.{Goes}
use Rattle.rich_rules_inversions.proofs.Bodies.{rows}
use Rattle.rich_rules_inversions.proofs.Takers.{stops}
use Rattle.layout.specs.Bodies.{ends_list, nested}

first_none : {A : Type 0} (x y : Option A) → or_else x y ≡ None → x ≡ None
first_none None y e = refl
first_none (Some a) y e = cc

second_none : {A : Type 0} (x y : Option A) → or_else x y ≡ None → y ≡ None
second_none None y e = e
second_none (Some a) y e = cc

same_type : (t u : Ty) → difference t u ≡ None → t ≡ u
same_type t u e = by_test (same t u) refl e
  where
    by_test : (b : Bool) → same t u ≡ b → cond b None (Some (Differ t u)) ≡ None → t ≡ u
    by_test true f e = sound t u f
    by_test false f e = cc

alike : (ts us : List Ty) → length ts ≡ length us → last_difference ts us ≡ None → ts ≡ us
alike [] [] l e = refl
alike [] (u ∷ us) l e = absurd (omega (arith, l))
alike (t ∷ ts) [] l e = absurd (omega (arith, l))
alike (t ∷ ts) (u ∷ us) l e =
    let x = first_none (last_difference ts us) (difference t u) e in
    let y = second_none (last_difference ts us) (difference t u) e in
    ap (λ (v : Ty). v ∷ ts) (same_type t u y) ∙ ap (λ (vs : List Ty). u ∷ vs) (alike ts us (omega (arith, l)) x)

no_difference : (o : Option Difference) → broken_by rule.BlockEnd o ≡ None → o ≡ None
no_difference None e = refl
no_difference (Some (Differ t u)) e = cc

pub end_operands : (d : Demand) (p : Point) → end_broken d p ≡ None → p.operands ≡ d.types
end_operands d p e = by_test (length p.operands == length d.types) refl (first_none (operands_broken d.types p.operands) (locals_broken (scope_of p.binders) d.locals p.locals) e)
  where
    by_test : (b : Bool) → (length p.operands == length d.types) ≡ b → cond b (broken_by rule.BlockEnd (last_difference p.operands d.types)) (Some (Broke rule.BlockEnd None None)) ≡ None → p.operands ≡ d.types
    by_test true f g = alike p.operands d.types (eqb-true (length p.operands) (length d.types) f) (no_difference (last_difference p.operands d.types) g)
    by_test false f g = cc

-- an outcome that enters no list, and one that does not end its list
abbrev pub EntersNone : Outcome → Type 0
EntersNone (Enters e) = ⊥
EntersNone _ = ⊤

abbrev pub EndsNot : Outcome → Type 0
EndsNot Ends = ⊥
EndsNot _ = ⊤

module _ (o : Outcome) (go : Goes o) where
  owned : (x : Owner) (rest : Outcome) → in_function x rest ≡ o → rest ≡ o
  owned OfFunction rest r = r
  owned (OfGlobal n) rest r = stops r go

  module _ (f : Frame) (p : Point) where
    pub no_lists : (i : Instr) → row f p i ≡ o → EntersNone o → nested i ≡ []
    unfolding row
    no_lists (Block' b m is) r h = absurd (subst EntersNone (rows.block f p b o r go).given h)
    no_lists (Loop' b m is) r h = absurd (subst EntersNone (rows.loops f p b o r go).given h)
    no_lists (If' b m is n js) r h = absurd (subst EntersNone (rows.arms f p b o r go).given h)
    no_lists (MemUnpack' b m is) r h = absurd (subst EntersNone (rows.mem_unpack f p b o r go).given h)
    no_lists (VariantCase' b m arms) r h = absurd (subst EntersNone (rows.variant_case f p b (length (lists_of arms)) o r go).given h)
    no_lists (ExistUnpack' b m is) r h = absurd (subst EntersNone (rows.exist_unpack f p b o r go).given h)
    no_lists _ r h = refl

    pub goes_further : (i : Instr) → row f p i ≡ o → EndsNot o → ends_list i ≡ false
    unfolding row
    goes_further Unreachable r h = absurd (subst EndsNot (sym r) h)
    goes_further (Br k) r h = absurd (subst EndsNot (rows.br p k o r go).given h)
    goes_further Return r h = absurd (subst EndsNot (rows.returns p o (owned f.owner (return_row p) r) go).given h)
    goes_further _ r h = refl
