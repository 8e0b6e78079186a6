-- A valid module of the profile that starts, starts typed.
use Rattle.std.proofs.Common.{◌≡◌, ◌∙◌, ℕ, Bool, true, false, List, [], map, refl, sym, ap, subst}
use Rattle.std.specs.Prelude.{Option, Some, None, codes}
use Rattle.wasm_ast.specs.declared.types.FuncType.{FuncType}
use Rattle.wasm_ast.specs.declared.types.ValTy.{ValTy}
use Rattle.wasm_ast.specs.declared.types.ValTy.TheVariants.{I64}
use Rattle.wasm_ast.specs.declared.modules.Code.{Code}
use Rattle.wasm_ast.specs.declared.modules.WModule.{WModule}
use Rattle.wasm_typing.specs.Contexts.{context_of}
use Rattle.wasm_execution.specs.Types.{takes_and_gives}
use Rattle.wasm_ast.specs.SameTypes.{is_same_type}
use Rattle.wasm_execution.specs.Configurations.{TheEnd, ThenCall, Config}
use Rattle.wasm_execution.specs.Environments.{Function, environment_of, function_at, exported, is_func}
use Rattle.wasm_execution.specs.Imports.{is_print}
use Rattle.wasm_execution.specs.Starts.{Start, UnknownImport, SegmentOut, NoMain, NoStartFunction, Begins, first_failing, first_out, first_store, code_of_type, start_main, start_exported}
use Rattle.wasm_execution.specs.Calls.{entered}
use Rattle.wasm_execution.specs.Behaviour.{seen_from}
use Rattle.wasm_machine_typing.specs.Configurations.{of_code, IsTypedEnvironment, IsTypedConfig}
use Rattle.wasm_machine_typing.proofs.Calls.{same_type, entered_typed}
use Rattle.wasm_machine_typing.proofs.Steps.{runs_on, stays}
use Rattle.wasm_machine_typing.proofs.Plain.{stands_within}
use Rattle.machine_steps.specs.Steps.{reached}
use Rattle.wasm_execution.specs.Steps.{step}
use Rattle.wasm_soundness.specs.Laws.{ValidStartsTyped, ValidNeverStuck, ValidStandsWithin}
use Rattle.wasm_soundness.proofs.Functions.{are_prints, environment_typed}
use Rattle.wasm_soundness.proofs.Stores.{store_typed}

imports_back : (o : Option ℕ) (k : Start) (c : Config) → ◌≡◌ {A = Start} (elim o [ Some i ↦ UnknownImport i | None ↦ k ]) (Begins c) → (o ≡ None) × (k ≡ Begins c)
imports_back None k c q = (refl, q)
imports_back (Some i) k c q = absurd (cc)

segments_back : (o : Option ℕ) (k : Start) (c : Config) → ◌≡◌ {A = Start} (elim o [ Some i ↦ SegmentOut i | None ↦ k ]) (Begins c) → (o ≡ None) × (k ≡ Begins c)
segments_back None k c q = (refl, q)
segments_back (Some i) k c q = absurd (cc)

main_back : {A : Type 0} (o : Option A) (go : A → Start) (c : Config) → ◌≡◌ {A = Start} (elim o [ None ↦ NoMain | Some x ↦ go x ]) (Begins c) → (x : A) × (o ≡ Some x) × (go x ≡ Begins c)
main_back None go c q = absurd (cc)
main_back (Some x) go c q = (x, refl, q)

begun : (a c : Config) → Begins a ≡ Begins c → a ≡ c
begun a c q = cc

same_back : (b : Bool) (o : Option Code) (code : Code) → ◌≡◌ {A = Option Code} (elim b [ true ↦ o | false ↦ None ]) (Some code) → (b ≡ true) × (o ≡ Some code)
same_back true o code q = (refl, q)
same_back false o code q = absurd (cc)

same_function : (f : Function) (ty : FuncType) (code : Code) → is_same_type f.ty ty ≡ true → f.code ≡ Some code → f ≡ of_code ty (Some code)
same_function f ty code same q =
    let p = same_type f.ty ty same in
    let t : f.ty ≡ ty = ap (λ (ps : List ValTy). takes_and_gives ps f.ty.result) p.0 ∙ ap (λ (r : Option ValTy). takes_and_gives ty.params r) p.1 in
    ap (λ (x : FuncType). of_code x f.code) t ∙ ap (of_code ty) q

typed_back : (o : Option Function) (ty : FuncType) (code : Code) → ◌≡◌ {A = Option Code} (elim o [ None ↦ None | Some f ↦ elim (is_same_type f.ty ty) [ true ↦ f.code | false ↦ None ] ]) (Some code) → o ≡ Some (of_code ty (Some code))
typed_back None ty code q = absurd (cc)
typed_back (Some f) ty code q = let p = same_back (is_same_type f.ty ty) f.code code q in ap (λ (g : Function). Some g) (same_function f ty code p.0 p.1)

module _ (m : WModule) (env : IsTypedEnvironment (context_of m) (environment_of m)) where
  started : (store : Rattle.wasm_machine_typing.specs.Configurations.IsTypedStore (context_of m) (environment_of m) (first_store m)) (main : ℕ) (code : Code) → function_at (environment_of m) main ≡ Some (of_code (takes_and_gives [] (Some I64)) (Some code))
      → (o : Option ℕ) (c : Config)
      → ◌≡◌ {A = Start} (elim o [
        | None ↦ Begins (entered main code [] [] TheEnd (first_store m))
        | Some n ↦ elim (code_of_type (environment_of m) (takes_and_gives [] None) n) [
          | None ↦ NoStartFunction
          | Some first ↦ Begins (entered n first [] [] (ThenCall main) (first_store m))
        ]
      ]) (Begins c)
      → IsTypedConfig (context_of m) (environment_of m) c
  started store main code there None c q =
      subst (IsTypedConfig (context_of m) (environment_of m)) (begun (entered main code [] [] TheEnd (first_store m)) c q)
      (entered_typed (context_of m) (environment_of m) env main (takes_and_gives [] (Some I64)) code [] [] TheEnd (first_store m) there tt refl store)
  started store main code there (Some n) c q = first (code_of_type (environment_of m) (takes_and_gives [] None) n) refl q
    where
      first : (o : Option Code) → code_of_type (environment_of m) (takes_and_gives [] None) n ≡ o → ◌≡◌ {A = Start} (elim o [ None ↦ NoStartFunction | Some x ↦ Begins (entered n x [] [] (ThenCall main) (first_store m)) ]) (Begins c)
          → IsTypedConfig (context_of m) (environment_of m) c
      first None f r = absurd (cc)
      first (Some x) f r =
          subst (IsTypedConfig (context_of m) (environment_of m)) (begun (entered n x [] [] (ThenCall main) (first_store m)) c r)
          (entered_typed (context_of m) (environment_of m) env n (takes_and_gives [] None) x [] [] (ThenCall main) (first_store m) (typed_back (function_at (environment_of m) n) (takes_and_gives [] None) x f) tt (refl, (code, there)) store)

pub valid_starts_typed : ValidStartsTyped
valid_starts_typed m c valid profile q =
    let a = imports_back (first_failing 0 (map (is_print m.types) m.imports)) _ c q in
    let prints = are_prints m.types m.imports 0 a.0 in
    let b = segments_back (first_out m) (start_exported m) c a.1 in
    let env = environment_typed m valid profile prints in
    let x = main_back (exported is_func (codes "main") m.exports) _ c b.1 in
    let y = main_back (code_of_type (environment_of m) (takes_and_gives [] (Some I64)) x.0) (start_main m x.0) c x.2 in
    let there = typed_back (function_at (environment_of m) x.0) (takes_and_gives [] (Some I64)) y.0 y.1 in
    record { environment = env; config = started m env (store_typed m valid profile prints b.0) x.0 y.0 there m.start c y.2 }

pub valid_never_stuck : ValidNeverStuck
valid_never_stuck m c valid profile q n stuck =
    let s = valid_starts_typed m c valid profile q in
    runs_on (context_of m) (environment_of m) s.environment n c s.config (ap (λ (x : Start). (seen_from m n x).stand) (sym q) ∙ stuck)

pub valid_stands_within : ValidStandsWithin
valid_stands_within m c valid profile q n =
    let s = valid_starts_typed m c valid profile q in
    stands_within (context_of m) (environment_of m) (reached (step (environment_of m)) n c).at (stays (context_of m) (environment_of m) s.environment n c s.config)
