-- Each row at each point of a body of a well-typed module exchanges operands in a named way.
use Rattle.std.proofs.Common.{◌≡◌, ℕ, zero, suc, List, [], ◌∷◌, ◌++◌, Some, refl, subst, length}
use Rattle.std.specs.Prelude.{slice_get, ⊤}
use Rattle.std.proofs.Math.Path.{subst⁻¹}
use Rattle.rw_types.specs.declared.modules.ExportDef.{ExportDef}
use Rattle.rw_types.specs.declared.modules.FuncDef.{FuncDef}
use Rattle.rw_types.specs.declared.modules.GlobalDef.{GlobalDef}
use Rattle.rw_types.specs.declared.modules.ImportDef.{ImportDef}
use Rattle.rw_types.specs.declared.modules.Module.{Module}
use Rattle.rich_rules.specs.Modules.{Body, Field, Part, export_parts, function_parts, global_parts, global_types, import_parts, parts_of}
use Rattle.rich_rules.specs.Points.{GlobalType}
use Rattle.rich_rules_formed.proofs.Bodies.{bodies_formed}
use Rattle.rich_linear_laws.specs.Exchanges.{AreGlobalsUnrestricted}
use Rattle.rich_linear_laws.specs.Laws.{BodiesExchange}
use Rattle.rich_linear_laws.proofs.Globals.{module_globals}
use Rattle.rich_linear_laws.proofs.Rows.{rows_exchange}

module _ (gs : List GlobalType) where
  -- the frame of a body has these globals
  abbrev Has : Part → Type 0
  Has (Field place o) = ⊤
  Has (Body place f d p is) = f.globals ≡ gs

  abbrev AllHave : List Part → Type 0
  AllHave [] = ⊤
  AllHave (x ∷ xs) = Has x × AllHave xs

  have_joined : (xs ys : List Part) → AllHave xs → AllHave ys → AllHave (xs ++ ys)
  have_joined [] ys v w = w
  have_joined (x ∷ xs) ys v w = (v.0, have_joined xs ys v.1 w)

  have_found : (xs : List Part) (n : ℕ) (x : Part) → slice_get xs n ≡ Some x → AllHave xs → Has x
  have_found [] n x e w = cc
  have_found (y ∷ xs) zero x e w = let same : y ≡ x = cc in subst Has same w.0
  have_found (y ∷ xs) (suc n) x e w = have_found xs n x e w.1

  imports_have : (n : ℕ) (is : List ImportDef) → AllHave (import_parts n is)
  imports_have n [] = tt
  imports_have n (i ∷ is) = (tt, imports_have (suc n) is)

  exports_have : (m : Module) (n : ℕ) (before es : List ExportDef) → AllHave (export_parts m n before es)
  exports_have m n before [] = tt
  exports_have m n before (e ∷ es) = (tt, exports_have m (suc n) (before ++ e ∷ []) es)

module _ (m : Module) where
  functions_have : (n : ℕ) (fs : List FuncDef) → AllHave (global_types m) (function_parts m n fs)
  functions_have n [] = tt
  functions_have n (f ∷ fs) = (tt, (refl, functions_have (suc n) fs))

  globals_have : (n : ℕ) (gs : List GlobalDef) → AllHave (global_types m) (global_parts m n gs)
  globals_have n [] = tt
  globals_have n (g ∷ gs) = (tt, (refl, globals_have (suc n) gs))

  all_have : AllHave (global_types m) (parts_of m)
  all_have =
      let others = global_parts m 0 m.globals ++ export_parts m 0 [] m.exports in
      let functions = function_parts m (length m.imports) m.funcs in
      have_joined (global_types m) (import_parts 0 m.imports) (functions ++ others) (imports_have (global_types m) 0 m.imports)
      (have_joined (global_types m) functions others (functions_have (length m.imports) m.funcs)
      (have_joined (global_types m) (global_parts m 0 m.globals) (export_parts m 0 [] m.exports) (globals_have 0 m.globals) (exports_have (global_types m) m 0 [] m.exports)))

pub bodies_exchange : BodiesExchange
bodies_exchange m notes n place f d p is q i x g s =
    rows_exchange f q i (subst⁻¹ AreGlobalsUnrestricted (have_found (global_types m) (parts_of m) n (Body place f d p is) g (all_have m)) (module_globals m notes x)) (bodies_formed m notes n place f d p is q x g s)
