-- Calls and returns of a typed configuration.
use Rattle.std.proofs.Common.{◌≡◌, ◌∙◌, ℕ, Bool, true, false, List, [], ◌∷◌, ◌++◌, map, length, slice_get, reverse, refl, sym, ap, subst, arith}
use Rattle.std.specs.Prelude.{Option, Some, None, Ok, option_map, option_to_list, nat_lt, replicate, ◌&&◌}
use Rattle.std.proofs.lemmas.List.{length-reverse, reverse-reverse}
use Rattle.wasm_ast.specs.declared.types.FuncType.{FuncType}
use Rattle.wasm_ast.specs.declared.types.ValTy.{ValTy}
use Rattle.wasm_ast.specs.declared.types.ValTy.TheVariants.{I32, I64}
use Rattle.wasm_ast.specs.declared.instructions.WInstr.{WInstr, out-WInstr}
use Rattle.wasm_ast.specs.declared.modules.Code.{Code}
use Rattle.wasm_ast.specs.Operations.{Operation, operation_in}
use Rattle.wasm_ast.specs.Operations as op
use Rattle.wasm_typing.specs.declared.rule.WRule.TheVariants.{TypeIndex, FuncIndex, TableIndex}
use Rattle.wasm_typing.specs.declared.context.Context.{Context}
use Rattle.wasm_typing.specs.Contexts.{body_context, declared_locals}
use Rattle.wasm_typing.specs.Signatures.{The, ◌⇒◌, needs}
use Rattle.wasm_typing.specs.Typing.{fill}
use Rattle.wasm_typing.specs.Heights.{height_of}
use Rattle.machine_steps.specs.declared.Trap.TheVariants.{TableBounds, Uninitialised, Signature as OtherSignature}
use Rattle.machine_steps.specs.Steps.{Turn, Went, with_top}
use Rattle.wasm_execution.specs.Types.{results_of, takes_and_gives}
use Rattle.wasm_ast.specs.SameTypes.{is_same_type, is_same_value_type, are_same_value_types, is_same_result}
use Rattle.wasm_execution.specs.Configurations.{Here, Bottom, TheEnd, ThenCall, Store, Config, Event, Print}
use Rattle.wasm_execution.specs.Environments.{Environment, function_at}
use Rattle.wasm_execution.specs.Turns.{first_or_zero, traps}
use Rattle.machine_steps.specs.Steps.{with_found, with_all}
use Rattle.wasm_execution.specs.Calls.{declared, entered, ends_with, calls, call, call_direct, call_typed, call_indirect, give, return_now, return_at_end}
use Rattle.wasm_machine_typing.specs.Values.{AreOf}
use Rattle.wasm_machine_typing.specs.Lists.{count_beneath, Runs}
use Rattle.wasm_machine_typing.specs.Configurations.{of_code, IsTypedEnvironment, IsTypedStore, IsTypedBottom, AreTypedCallers, IsTypedConfig, IsTypedTurn}
use Rattle.wasm_machine_typing.proofs.Values.{as_long, join, turned, declared_zeros, results_long, params_filled, result_filled}
use Rattle.wasm_machine_typing.proofs.Going.{found_back, needs_back, body, going, on_found, has, use_of}

pub and_split : (a b : Bool) → (a && b) ≡ true → (a ≡ true) × (b ≡ true)
and_split true b q = (refl, q)
and_split false b q = absurd (cc)

same_value : (t u : ValTy) → is_same_value_type t u ≡ true → t ≡ u
same_value I32 I32 q = refl
same_value I64 I64 q = refl
same_value I32 I64 q = absurd (cc)
same_value I64 I32 q = absurd (cc)

same_values : (ts us : List ValTy) → are_same_value_types ts us ≡ true → ts ≡ us
same_values [] [] q = refl
same_values [] (u ∷ us) q = absurd (cc)
same_values (t ∷ ts) [] q = absurd (cc)
same_values (t ∷ ts) (u ∷ us) q =
    let p = and_split (is_same_value_type t u) (are_same_value_types ts us) q in
    ap (λ (x : ValTy). x ∷ ts) (same_value t u p.0) ∙ ap (λ (xs : List ValTy). u ∷ xs) (same_values ts us p.1)

same_result : (t u : Option ValTy) → is_same_result t u ≡ true → t ≡ u
same_result None None q = refl
same_result None (Some u) q = absurd (cc)
same_result (Some t) None q = absurd (cc)
same_result (Some t) (Some u) q = ap (λ (x : ValTy). Some x) (same_value t u q)

-- types that are the same
pub same_type : (f g : FuncType) → is_same_type f g ≡ true → (f.params ≡ g.params) × (f.result ≡ g.result)
same_type f g q =
    let p = and_split (are_same_value_types f.params g.params) (is_same_result f.result g.result) q in
    (same_values f.params g.params p.0, same_result f.result g.result p.1)

pub first_of : (t : ValTy) (ts : List ValTy) (taken : List ℕ) → AreOf (t ∷ ts) taken → (v : ℕ) × (vs : List ℕ) × (taken ≡ v ∷ vs) × AreOf ts vs
first_of t ts [] k = absurd k
first_of t ts (v ∷ vs) k = (v, vs, refl, k.1)

-- so many on top, with those beneath them, or all there are
pub top : (taken below : List ℕ) (k : List ℕ → List ℕ → Turn Event Config) → with_top (length taken) (taken ++ below) k ≡ k taken below
top [] below k = refl
top (v ∷ vs) below k = top vs below (λ ts bs. k (v ∷ ts) bs)

pub all : (taken : List ℕ) (k : List ℕ → Turn Event Config) → with_all (length taken) taken k ≡ k taken
all [] k = refl
all (v ∷ vs) k = all vs (λ ts. k (v ∷ ts))

pub results_taken : (t : Option ValTy) (vs : List ℕ) → AreOf (option_to_list t) vs → length vs ≡ results_of t
results_taken t vs h = as_long (option_to_list t) vs h ∙ results_long t

module _ (C : Context) (e : Environment) (env : IsTypedEnvironment C e) where
  -- a call that begins is typed
  pub entered_typed : (n : ℕ) (ty : FuncType) (code : Code) (operands : List ℕ) (callers : List Here) (bottom : Bottom) (s : Store) → function_at e n ≡ Some (of_code ty (Some code)) → AreOf (reverse ty.params) operands
      → AreTypedCallers C e ty.result callers bottom → IsTypedStore C e s → IsTypedConfig C e (entered n code operands callers bottom s)
  entered_typed n ty code operands callers bottom s there values waiting store =
      let d = env.codes n (of_code ty (Some code)) there in
      let B = body_context C ty code in
      record {
        ty = ty;
        code = code;
        call = record {
          there = there;
          locals =
              join ty.params (declared_locals code.locals) (reverse operands) (replicate (declared code.locals) 0)
              (subst (λ (ts : List ValTy). AreOf ts (reverse operands)) (reverse-reverse ty.params) (turned (reverse ty.params) operands values)) (declared_zeros code.locals);
          labels = B.result ∷ [];
          result = B.result;
          runs = record { types = []; values = tt; typed = d.0; numbers = d.1; fits = omega arith };
          open_lists = (refl, refl);
        };
        waiting = waiting;
        store = store;
      }

  module _ (c : Config) (h : IsTypedConfig C e c) where
    abbrev Good : Turn Event Config → Type 0
    Good t = IsTypedTurn C e t

    ended : (vs : List ℕ) → AreOf (I64 ∷ []) vs → Good (ends_with vs c)
    ended [] k = absurd k
    ended (v ∷ []) k = h
    ended (v ∷ (w ∷ vs)) k = absurd k.1

    at_bottom : (vs : List ℕ) (result : Option ValTy) (bottom : Bottom) → AreOf (option_to_list result) vs → IsTypedBottom C e result bottom → Good (give e vs [] bottom c)
    at_bottom vs result TheEnd k b = ended vs (subst (λ (t : Option ValTy). AreOf (option_to_list t) vs) b k)
    at_bottom vs result (ThenCall n) k b =
        let code = b.1.0 in
        let ty = takes_and_gives [] (Some I64) in
        on_found C e c h (function_at e n) (of_code ty (Some code)) (λ f. with_found f.code (λ x. Went [] (entered n x [] [] TheEnd c.store))) b.1.1
        (entered_typed n ty code [] [] TheEnd c.store b.1.1 tt refl h.store)

    gave : (vs : List ℕ) (result : Option ValTy) (callers : List Here) → AreOf (option_to_list result) vs → AreTypedCallers C e result callers c.bottom → Good (give e vs callers c.bottom c)
    gave vs result [] k w = at_bottom vs result c.bottom k w
    gave vs result (caller ∷ callers) k w = record { ty = w.0; code = w.1; call = w.2 vs k; waiting = w.3; store = h.store }

    -- a return, with what it gives on top
    pub returned : (taken below : List ℕ) (rest : List WInstr) → AreOf (option_to_list h.ty.result) taken → Good (return_now e (record c.here { operands = taken ++ below; rest = rest }) c)
    returned taken below rest k =
        on_found C e c h (function_at e c.here.function) (of_code h.ty (Some h.code)) (λ f. with_top (results_of f.ty.result) (taken ++ below) (λ vs beneath. give e vs c.callers c.bottom c)) h.call.there
        (subst (λ (n : ℕ). Good (with_top n (taken ++ below) (λ vs beneath. give e vs c.callers c.bottom c))) (results_taken h.ty.result taken k)
        (subst Good (sym (top taken below (λ vs beneath. give e vs c.callers c.bottom c))) (gave taken h.ty.result c.callers k h.waiting)))

    -- the end of a body, with what it gives and no more
    pub returned_at_end : (taken : List ℕ) → AreOf (option_to_list h.ty.result) taken → Good (return_at_end e (record c.here { operands = taken }) c)
    returned_at_end taken k =
        on_found C e c h (function_at e c.here.function) (of_code h.ty (Some h.code)) (λ f. with_all (results_of f.ty.result) taken (λ vs. give e vs c.callers c.bottom c)) h.call.there
        (subst (λ (n : ℕ). Good (with_all n taken (λ vs. give e vs c.callers c.bottom c))) (results_taken h.ty.result taken k)
        (subst Good (sym (all taken (λ vs. give e vs c.callers c.bottom c))) (gave taken h.ty.result c.callers k h.waiting)))

    -- what a call is given back goes on
    abbrev GoesOnWith : List WInstr → List ℕ → Option ValTy → Type 0
    GoesOnWith rest below result = (vs : List ℕ) → AreOf (option_to_list result) vs
        → Runs (body C e c h) (height_of (body C e c h) h.code.body) h.call.labels rest (vs ++ below) (count_beneath c.here.levels) h.call.result

    -- a call with its arguments on top
    called : (n : ℕ) (ty : FuncType) (code : Option Code) (arguments below : List ℕ) (rest : List WInstr) → function_at e n ≡ Some (of_code ty code) → AreOf (reverse ty.params) arguments → GoesOnWith rest below ty.result
        → Good (call e n (of_code ty code) (record c.here { operands = arguments ++ below; rest = rest }) c)
    called n ty code arguments below rest there values on =
        let here = record c.here { operands = arguments ++ below; rest = rest } in
        let long : length arguments ≡ length ty.params = as_long (reverse ty.params) arguments values ∙ length-reverse ty.params in
        let k : List ℕ → List ℕ → Turn Event Config = λ vs bs. elim code [
          | None ↦ Went (Print (first_or_zero vs) ∷ []) (record c { here = record here { operands = bs } })
          | Some x ↦ Went (calls e n (first_or_zero (reverse vs)) c.store) (entered n x vs (record here { operands = bs } ∷ c.callers) c.bottom c.store)
        ] in
        subst (λ (m : ℕ). Good (with_top m (arguments ++ below) k)) long
        (subst Good (sym (top arguments below k)) (begins code there))
      where
        begins : (x : Option Code) → function_at e n ≡ Some (of_code ty x) → Good (elim x [
          | None ↦ Went (Print (first_or_zero arguments) ∷ []) (record c { here = record c.here { operands = below; rest = rest } })
          | Some y ↦ Went (calls e n (first_or_zero (reverse arguments)) c.store) (entered n y arguments (record c.here { operands = below; rest = rest } ∷ c.callers) c.bottom c.store)
        ])
        begins None q =
            let none = env.codes n (of_code ty None) q in
            going C e c h below c.here.locals rest c.store h.call.locals (on [] (subst (λ (t : Option ValTy). AreOf (option_to_list t) []) (sym none) tt)) h.store
        begins (Some y) q =
            entered_typed n ty y arguments (record c.here { operands = below; rest = rest } ∷ c.callers) c.bottom c.store q values
            (h.ty, h.code, (λ vs k. record { there = h.call.there; locals = h.call.locals; labels = h.call.labels; result = h.call.result; runs = on vs k; open_lists = h.call.open_lists }), h.waiting) h.store

    module _ (i : WInstr) (rest : List WInstr) (er : c.here.rest ≡ i ∷ rest) where
      pub calls_direct : (n : ℕ) → operation_in (out-WInstr i) ≡ op.Call n → Good (call_direct e n (record c.here { rest = rest }) c)
      calls_direct n q =
          let s = has C e c h i rest er (op.Call n) q tt in
          let f = found_back FuncIndex (slice_get C.functions n) (λ (x : FuncType). Ok (reverse (map The x.params) ⇒ option_map The x.result)) s.0 s.1 in
          let ty = f.0 in
          let u = use_of C e c h i rest er (op.Call n) (reverse (map The ty.params) ⇒ option_map The ty.result) (option_map The ty.result) q (s.1 ∙ sym f.2) refl in
          let there = env.functions n ty f.1 in
          subst (λ (os : List ℕ). Good (call_direct e n (record c.here { operands = os; rest = rest }) c)) (sym u.parted)
          (on_found C e c h (function_at e n) (of_code ty there.0) (λ x. call e n x (record c.here { operands = u.taken ++ u.below; rest = rest }) c) there.1
          (called n ty there.0 u.taken u.below rest there.1 (subst (λ (ts : List ValTy). AreOf ts u.taken) (params_filled u.at ty.params) u.of)
          (λ vs k. u.on vs (subst (λ (ts : List ValTy). AreOf ts vs) (sym (result_filled u.at ty.result)) k))))

      -- the function at an entry of the table, with its arguments on top
      entry_called : (type_index at : ℕ) (ty : FuncType) (arguments below : List ℕ) → slice_get C.types type_index ≡ Some ty → AreOf (reverse ty.params) arguments → GoesOnWith rest below ty.result
          → (entry : Option (Option ℕ)) → slice_get c.store.table at ≡ entry
          → Good (elim entry [
            | None ↦ traps TableBounds c
            | Some x ↦ elim x [
              | None ↦ traps Uninitialised c
              | Some n ↦ call_typed e type_index n (record c.here { operands = arguments ++ below; rest = rest }) c
            ]
          ])
      entry_called type_index at ty arguments below listed values on None q = h
      entry_called type_index at ty arguments below listed values on (Some None) q = h
      entry_called type_index at ty arguments below listed values on (Some (Some n)) q =
          let found = h.store.table at n q in
          let f = found.0 in
          let now = record c.here { operands = arguments ++ below; rest = rest } in
          on_found C e c h (function_at e n) f (λ x. with_found (slice_get e.types type_index) (λ t. elim (is_same_type x.ty t) [ true ↦ call e n x now c | false ↦ traps OtherSignature c ])) found.1
          (on_found C e c h (slice_get e.types type_index) ty (λ t. elim (is_same_type f.ty t) [ true ↦ call e n f now c | false ↦ traps OtherSignature c ]) (ap (λ (ts : List FuncType). slice_get ts type_index) env.types ∙ listed)
          (elim (is_same_type f.ty ty) as (λ b. (is_same_type f.ty ty ≡ b) → Good (elim b [ true ↦ call e n f now c | false ↦ traps OtherSignature c ])) [
            | true ↦ λ same.
                let p = same_type f.ty ty same in
                called n f.ty f.code arguments below rest found.1 (subst (λ (ts : List ValTy). AreOf (reverse ts) arguments) (sym p.0) values) (subst (λ (t : Option ValTy). GoesOnWith rest below t) (sym p.1) on)
            | false ↦ λ _. h
          ] refl))

      pub calls_indirect : (type_index : ℕ) → operation_in (out-WInstr i) ≡ op.CallIndirect type_index → Good (call_indirect e type_index (record c.here { rest = rest }) c)
      calls_indirect type_index q =
          let s = has C e c h i rest er (op.CallIndirect type_index) q tt in
          let f = found_back TypeIndex (slice_get C.types type_index) (λ (x : FuncType). needs TableIndex (nat_lt 0 C.tables) (The I32 ∷ reverse (map The x.params) ⇒ option_map The x.result)) s.0 s.1 in
          let ty = f.0 in
          let same = needs_back TableIndex (nat_lt 0 C.tables) (The I32 ∷ reverse (map The ty.params) ⇒ option_map The ty.result) s.0 f.2 in
          let u = use_of C e c h i rest er (op.CallIndirect type_index) (The I32 ∷ reverse (map The ty.params) ⇒ option_map The ty.result) (option_map The ty.result) q (s.1 ∙ ap Ok same) refl in
          let p = first_of I32 (map (fill u.at) (reverse (map The ty.params))) u.taken u.of in
          subst (λ (os : List ℕ). Good (call_indirect e type_index (record c.here { operands = os; rest = rest }) c)) (sym (u.parted ∙ ap (λ (l : List ℕ). l ++ u.below) p.2))
          (entry_called type_index p.0 ty p.1 u.below f.1 (subst (λ (ts : List ValTy). AreOf ts p.1) (params_filled u.at ty.params) p.3)
          (λ vs k. u.on vs (subst (λ (ts : List ValTy). AreOf ts vs) (sym (result_filled u.at ty.result)) k)) (slice_get c.store.table p.0) refl)
