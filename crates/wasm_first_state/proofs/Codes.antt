-- The function that a module begins with has the code of the configuration that it begins with.
use Rattle.std.proofs.Common.{◌≡◌, ◌∙◌, ℕ, Bool, true, false, [], map, refl, sym, ap, subst}
use Rattle.std.specs.Prelude.{Option, Some, None, codes}
use Rattle.wasm_ast.specs.declared.types.FuncType.{FuncType}
use Rattle.wasm_ast.specs.declared.types.ValTy.TheVariants.{I64}
use Rattle.wasm_ast.specs.declared.modules.Code.{Code}
use Rattle.wasm_ast.specs.declared.modules.WModule.{WModule}
use Rattle.wasm_execution.specs.Types.{takes_and_gives}
use Rattle.wasm_execution.specs.Calls.{entered}
use Rattle.wasm_execution.specs.Configurations.{Bottom, TheEnd, ThenCall, Store, Config}
use Rattle.wasm_execution.specs.Environments.{Environment, Function, environment_of, function_at, exported, is_func}
use Rattle.wasm_execution.specs.Imports.{is_print}
use Rattle.wasm_execution.specs.Starts.{Start, UnknownImport, SegmentOut, NoMain, NoStartFunction, Begins, first_failing, first_out, first_store, code_of_type, start_main, start_exported, start_of}
use Rattle.wasm_machine_typing.specs.Configurations.{of_code}

past_imports : (o : Option ℕ) (k : Start) (c : Config) → ◌≡◌ {A = Start} (elim o [ Some i ↦ UnknownImport i | None ↦ k ]) (Begins c) → k ≡ Begins c
past_imports None k c q = q
past_imports (Some i) k c q = absurd (cc)

past_segments : (o : Option ℕ) (k : Start) (c : Config) → ◌≡◌ {A = Start} (elim o [ Some i ↦ SegmentOut i | None ↦ k ]) (Begins c) → k ≡ Begins c
past_segments None k c q = q
past_segments (Some i) k c q = absurd (cc)

past_main : {A : Type 0} (o : Option A) (go : A → Start) (c : Config) → ◌≡◌ {A = Start} (elim o [ None ↦ NoMain | Some x ↦ go x ]) (Begins c) → (x : A) × (o ≡ Some x) × (go x ≡ Begins c)
past_main None go c q = absurd (cc)
past_main (Some x) go c q = (x, refl, q)

same_config : (a c : Config) → Begins a ≡ Begins c → a ≡ c
same_config a c q = cc

picked : (b : Bool) (o : Option Code) (code : Code) → ◌≡◌ {A = Option Code} (elim b [ true ↦ o | false ↦ None ]) (Some code) → o ≡ Some code
picked true o code q = q
picked false o code q = absurd (cc)

-- a function that is there, and its code
pub record HasOwn (o : Option Function) (code : Code) : Type 0 where
  pub ty : FuncType
  pub there : o ≡ Some (of_code ty (Some code))

found : (same : Function → Bool) (o : Option Function) (code : Code) → ◌≡◌ {A = Option Code} (elim o [ None ↦ None | Some f ↦ elim (same f) [ true ↦ f.code | false ↦ None ] ]) (Some code) → HasOwn o code
found same None code q = absurd (cc)
found same (Some f) code q = record { ty = f.ty; there = ap (λ (o : Option Code). Some (of_code f.ty o)) (picked (same f) f.code code q) }

module _ (m : WModule) where
  abbrev e : Environment
  e = environment_of m

  -- the run begins with a call of a function of the module
  record IsBegun (c : Config) : Type 0 where
    number : ℕ
    code : Code
    own : HasOwn (function_at e number) code
    bottom : Bottom
    store : Store
    is : entered number code [] [] bottom store ≡ c

  from_main : (main : ℕ) (code : Code) → HasOwn (function_at e main) code → (o : Option ℕ) (c : Config)
      → ◌≡◌ {A = Start} (elim o [
        | None ↦ Begins (entered main code [] [] TheEnd (first_store m))
        | Some n ↦ elim (code_of_type e (takes_and_gives [] None) n) [
          | None ↦ NoStartFunction
          | Some first ↦ Begins (entered n first [] [] (ThenCall main) (first_store m))
        ]
      ]) (Begins c)
      → IsBegun c
  from_main main code own None c q = record {
    number = main;
    code = code;
    own = own;
    bottom = TheEnd;
    store = first_store m;
    is = same_config (entered main code [] [] TheEnd (first_store m)) c q;
  }
  from_main main code own (Some n) c q = go (code_of_type e (takes_and_gives [] None) n) refl q
    where
      go : (o : Option Code) → code_of_type e (takes_and_gives [] None) n ≡ o → ◌≡◌ {A = Start} (elim o [ None ↦ NoStartFunction | Some first ↦ Begins (entered n first [] [] (ThenCall main) (first_store m)) ]) (Begins c) → IsBegun c
      go None p r = absurd (cc)
      go (Some first) p r = record {
        number = n;
        code = first;
        own = found _ (function_at e n) first p;
        bottom = ThenCall main;
        store = first_store m;
        is = same_config (entered n first [] [] (ThenCall main) (first_store m)) c r;
      }

  begun : (c : Config) → start_of m ≡ Begins c → IsBegun c
  begun c q =
      let a = past_imports (first_failing 0 (map (is_print m.types) m.imports)) _ c q in
      let b = past_segments (first_out m) (start_exported m) c a in
      let x = past_main (exported is_func (codes "main") m.exports) _ c b in
      let y = past_main (code_of_type e (takes_and_gives [] (Some I64)) x.0) (start_main m x.0) c x.2 in
      from_main x.0 y.0 (found _ (function_at e x.0) y.0 y.1) m.start c y.2

  -- the function that is called first has a code, with which the run begins
  pub record IsFirstCode (n : ℕ) (bottom : Bottom) (store : Store) (c : Config) : Type 0 where
    pub code : Code
    pub own : HasOwn (function_at e n) code
    pub is : entered n code [] [] bottom store ≡ c

  pub first_code : (n : ℕ) (code : Code) (bottom : Bottom) (store : Store) → start_of m ≡ Begins (entered n code [] [] bottom store) → IsFirstCode n bottom store (entered n code [] [] bottom store)
  first_code n code bottom store q =
      let w = begun (entered n code [] [] bottom store) q in
      let number : w.number ≡ n = ap (λ (c : Config). c.here.function) w.is in
      let bottoms : w.bottom ≡ bottom = ap (λ (c : Config). c.bottom) w.is in
      let stores : w.store ≡ store = ap (λ (c : Config). c.store) w.is in
      record {
        code = w.code;
        own = subst (λ (k : ℕ). HasOwn (function_at e k) w.code) number w.own;
        is = ap (λ (k : ℕ). entered k w.code [] [] bottom store) (sym number)
            ∙ ap (λ (b : Bottom). entered w.number w.code [] [] b store) (sym bottoms)
            ∙ ap (λ (s : Store). entered w.number w.code [] [] w.bottom s) (sym stores)
            ∙ w.is;
      }
