-- The globals of a well-typed module are `unr`.
use Rattle.std.proofs.Common.{◌≡◌, ℕ, suc, List, [], ◌∷◌, ◌++◌, Bool, true, false, None, Option, Some, map, refl, length}
use Rattle.std.specs.Prelude.{IsTrue}
use Rattle.rw_types.specs.declared.modules.FuncDef.{FuncDef}
use Rattle.rw_types.specs.declared.modules.GlobalDef.{GlobalDef}
use Rattle.rw_types.specs.declared.modules.ImportDef.{ImportDef}
use Rattle.rw_types.specs.declared.modules.Module.{Module}
use Rattle.rw_types.specs.declared.types.Ty.{Ty}
use Rattle.rich_types.specs.Scopes.{no_scope}
use Rattle.rich_typing.specs.declared.notes.Note.{Note}
use Rattle.rich_typing.specs.declared.rules.Rule.{Rule}
use Rattle.rich_rules.specs.Forms.{is_unr_type}
use Rattle.rich_rules.specs.Modules.{AreTyped, Part, body, export_parts, field, function_parts, global_parts, import_parts, type_broken_unless}
use Rattle.rich_rules.specs.Points.{GlobalType}
use Rattle.rich_rules.specs.Takers.{or_else}
use Rattle.rich_linear_laws.specs.Exchanges.{AreGlobalsUnrestricted}
use Rattle.rich_linear_laws.specs.Laws.{ModuleGlobals}

after_imports : (n : ℕ) (is : List ImportDef) (ps : List Part) (notes : List (List Note)) → AreTyped (import_parts n is ++ ps) notes → AreTyped ps notes
after_imports n [] ps notes x = x
after_imports n (i ∷ is) ps notes (field e x) = after_imports (suc n) is ps notes x

after_functions : (m : Module) (n : ℕ) (fs : List FuncDef) (ps : List Part) (notes : List (List Note)) → AreTyped (function_parts m n fs ++ ps) notes → (others : List (List Note)) × AreTyped ps others
after_functions m n [] ps notes x = (notes, x)
after_functions m n (f ∷ fs) ps notes (field e (body own others nn y z)) = after_functions m (suc n) fs ps others z

second_none : {A : Type 0} (x y : Option A) → or_else x y ≡ None → y ≡ None
second_none None y e = e
second_none (Some a) y e = cc

holds : (b : Bool) (r : Rule) (t : Ty) → type_broken_unless b r t ≡ None → IsTrue b
holds true r t e = refl
holds false r t e = cc

globals_hold : (m : Module) (n : ℕ) (gs : List GlobalDef) (ps : List Part) (notes : List (List Note)) → AreTyped (global_parts m n gs ++ ps) notes → AreGlobalsUnrestricted (map (λ (g : GlobalDef). let t : GlobalType = record { mutable = g.mutable; ty = g.ty } in t) gs)
globals_hold m n [] ps notes x = tt
globals_hold m n (g ∷ gs) ps notes (field e (body own others nn y z)) = (holds (is_unr_type no_scope g.ty) _ g.ty (second_none _ _ e), globals_hold m (suc n) gs ps others z)

pub module_globals : ModuleGlobals
module_globals m notes x =
    let others = global_parts m 0 m.globals ++ export_parts m 0 [] m.exports in
    let y = after_functions m (length m.imports) m.funcs others notes (after_imports 0 m.imports (function_parts m (length m.imports) m.funcs ++ others) notes x) in
    globals_hold m 0 m.globals (export_parts m 0 [] m.exports) y.0 y.1
