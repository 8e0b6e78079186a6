-- What is known of the functions and the globals of a sound program.
use Rattle.std.proofs.Common.{◌≡◌, ℕ, zero, suc, ◌+◌, List, [], ◌∷◌, ◌++◌, Bool, true, false, Option, Some, None, refl, ap, subst, arith}
use Rattle.std.specs.Prelude.{slice_get}
use Rattle.rw_types.specs.declared.types.FunType.{FunType}
use Rattle.rw_types.specs.declared.types.Qual.{Qual}
use Rattle.rw_types.specs.declared.types.Qual.TheVariants.{Lin}
use Rattle.rw_types.specs.declared.types.Ty.{Ty}
use Rattle.rw_program.specs.declared.linked.LinkedFunc.{LinkedFunc}
use Rattle.rw_program.specs.declared.linked.LinkedGlobal.{LinkedGlobal}
use Rattle.rw_program.specs.Linking.{func_of, global_of}
use Rattle.rw_program.specs.Programs.{Program}
use Rattle.rich_types.specs.Scopes.{Scope, no_scope, scope_of}
use Rattle.rich_types.specs.WellFormed.{IsWellFormed, IsWellFormedFunction, AreParts}
use Rattle.rich_typing.specs.declared.rules.Rule.TheVariants as rule
use Rattle.rich_rules.specs.Forms.{is_formed, is_unr_type}
use Rattle.rich_rules.specs.Points.{OfFunction, OfGlobal, GlobalType}
use Rattle.rich_rules.specs.Takers.{or_else}
use Rattle.rich_rules.specs.Derivations.{Derives}
use Rattle.rich_rules.specs.Modules.{broken_by_type, type_broken_unless, function_demand, function_start, initialiser_demand, initialiser_start, slots_of_locals}
use Rattle.rich_rules_laws.proofs.Formed.{formed-true, all_formed-true}
use Rattle.rich_linking.specs.TypedPrograms.{AreTypedFunctions, AreTypedGlobals, linked_frame, types_of_functions, types_of_globals}
use Rattle.rich_soundness_values.specs.Heaps.{IsUnr}
use Rattle.rich_soundness_rows.proofs.Closed.{unr_is}
use Rattle.rich_soundness_points.specs.Programs.{IsSound}

-- the function of this type with this number
pub function_found : (fs : List LinkedFunc) (n : ℕ) (t : FunType) → slice_get (types_of_functions fs) n ≡ Some t → (f : LinkedFunc) × (slice_get fs n ≡ Some f) × (f.ty ≡ t)
function_found [] n t e = cc
function_found (f ∷ fs) zero t e = (f, refl, (cc))
function_found (f ∷ fs) (suc n) t e = function_found fs n t e

-- and the global
pub global_found : (gs : List LinkedGlobal) (n : ℕ) (t : GlobalType) → slice_get (types_of_globals gs) n ≡ Some t → (g : LinkedGlobal) × (slice_get gs n ≡ Some g) × (g.ty ≡ t.ty)
global_found [] n t e = cc
global_found (g ∷ gs) zero t e = (g, refl, (let s : record { mutable = g.mutable; ty = g.ty } ≡ t = cc in ap (λ (x : GlobalType). x.ty) s))
global_found (g ∷ gs) (suc n) t e = global_found gs n t e

module _ (functions : List FunType) (globals : List GlobalType) where
  body_found : (fs : List LinkedFunc) (n : ℕ) (f : LinkedFunc) → AreTypedFunctions functions globals fs → slice_get fs n ≡ Some f →
      Derives (linked_frame functions globals (slots_of_locals (func_of f)) OfFunction) (function_demand (func_of f)) (function_start (func_of f)) f.body f.notes
  body_found [] n f a e = cc
  body_found (x ∷ fs) zero f a e = let s : x ≡ f = cc in subst (λ (y : LinkedFunc). Derives (linked_frame functions globals (slots_of_locals (func_of y)) OfFunction) (function_demand (func_of y)) (function_start (func_of y)) y.body y.notes) s a.0
  body_found (x ∷ fs) (suc n) f a e = body_found fs n f a.1 e

  value_found : (gs : List LinkedGlobal) (from n : ℕ) (g : LinkedGlobal) → AreTypedGlobals functions globals from gs → slice_get gs n ≡ Some g →
      Derives (linked_frame functions globals [] (OfGlobal (from + n))) (initialiser_demand (global_of g)) initialiser_start g.body g.notes
  value_found [] from n g a e = cc
  value_found (x ∷ gs) from zero g a e =
      let s : x ≡ g = cc in let z : from ≡ from + 0 = omega arith in
      subst (λ (k : ℕ). Derives (linked_frame functions globals [] (OfGlobal k)) (initialiser_demand (global_of g)) initialiser_start g.body g.notes) z
      (subst (λ (y : LinkedGlobal). Derives (linked_frame functions globals [] (OfGlobal from)) (initialiser_demand (global_of y)) initialiser_start y.body y.notes) s a.0)
  value_found (x ∷ gs) from (suc n) g a e =
      let z : suc from + n ≡ from + suc n = omega arith in
      subst (λ (k : ℕ). Derives (linked_frame functions globals [] (OfGlobal k)) (initialiser_demand (global_of g)) initialiser_start g.body g.notes) z (value_found gs (suc from) n g a.1 e)

-- types of which no rule is broken
none_broken : (o : Option Ty) → broken_by_type rule.TypeForm o ≡ None → o ≡ None
none_broken None e = refl
none_broken (Some t) e = cc

parts_split : (c : Scope) (q : Qual) (xs ys : List Ty) → AreParts c q (xs ++ ys) → AreParts c q xs × AreParts c q ys
parts_split c q [] ys w = (tt, w)
parts_split c q (x ∷ xs) ys w = let r = parts_split c q xs ys w.2 in ((w.0, w.1, r.0), r.1)

or_else-first : {A : Type 0} (o p : Option A) → or_else o p ≡ None → (o ≡ None) × (p ≡ None)
or_else-first None p e = (refl, e)
or_else-first (Some x) p e = cc

unless : (b : Bool) (r : _) (t : Ty) → type_broken_unless b r t ≡ None → b ≡ true
unless true r t e = refl
unless false r t e = cc

module _ (p : Program) (sound : IsSound p) where
  pub body_of : (n : ℕ) (f : LinkedFunc) → slice_get p.funcs n ≡ Some f →
      Derives (linked_frame (types_of_functions p.funcs) (types_of_globals p.globals) (slots_of_locals (func_of f)) OfFunction) (function_demand (func_of f)) (function_start (func_of f)) f.body f.notes
  body_of n f e = body_found (types_of_functions p.funcs) (types_of_globals p.globals) p.funcs n f sound.typed.functions e

  pub initialiser_of : (n : ℕ) (g : LinkedGlobal) → slice_get p.globals n ≡ Some g →
      Derives (linked_frame (types_of_functions p.funcs) (types_of_globals p.globals) [] (OfGlobal n)) (initialiser_demand (global_of g)) initialiser_start g.body g.notes
  initialiser_of n g e =
      let z : 0 + n ≡ n = omega arith in
      subst (λ (k : ℕ). Derives (linked_frame (types_of_functions p.funcs) (types_of_globals p.globals) [] (OfGlobal k)) (initialiser_demand (global_of g)) initialiser_start g.body g.notes) z
      (value_found (types_of_functions p.funcs) (types_of_globals p.globals) p.globals 0 n g sound.typed.globals e)

  pub function_formed : (n : ℕ) (f : LinkedFunc) → slice_get p.funcs n ≡ Some f → IsWellFormedFunction no_scope f.ty
  function_formed n f e = parts_split (scope_of f.ty.binders) Lin f.ty.params f.ty.results (all_formed-true (scope_of f.ty.binders) (f.ty.params ++ f.ty.results) (none_broken _ (sound.function_types n f e)))

  pub type_formed : (n : ℕ) (t : FunType) → slice_get (types_of_functions p.funcs) n ≡ Some t → IsWellFormedFunction no_scope t
  type_formed n t e = let r = function_found p.funcs n t e in subst (IsWellFormedFunction no_scope) r.2 (function_formed n r.0 r.1)

  pub global_formed : (n : ℕ) (g : LinkedGlobal) → slice_get p.globals n ≡ Some g → IsWellFormed no_scope g.ty × IsUnr g.ty
  global_formed n g e =
      let r = or_else-first _ _ (sound.global_types n g e) in
      (formed-true no_scope g.ty (unless (is_formed no_scope g.ty) _ g.ty r.0), unr_is _ (unless (is_unr_type no_scope g.ty) _ g.ty r.1))
