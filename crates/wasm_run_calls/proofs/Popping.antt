-- Parts of a step behind a number that is taken from the operands, and put back.
use Rattle.std.proofs.Common.{◌≡◌, ◌≢◌, ◌∙◌, ℕ, zero, suc, ◌+◌, ◌<◌, ◌≤◌, Bool, true, false, List, [], ◌∷◌, length, slice_get, refl, sym, ap, ap₂, subst, Bor, arith}
use Rattle.std.specs.Prelude.{Option, Some, None, Result, Ok, Err}
use Rattle.machine_steps.specs.declared.Trap.{Trap}
use Rattle.machine_steps.specs.declared.Trap.TheVariants.{TableBounds, Uninitialised, Signature}
use Rattle.machine_steps.specs.declared.End.TheVariants as end
use Rattle.machine_steps.specs.Steps.{Turn, Went, NoStep}
use Rattle.machine_runs.specs.declared.answers.Turn as answers
use Rattle.machine_runs.specs.declared.answers.Turn.TheVariants as answer
use Rattle.wasm_ast.specs.declared.types.FuncType.{FuncType}
use Rattle.wasm_ast.specs.declared.modules.WModule.{WModule}
use Rattle.wasm_ast.specs.declared.instructions.WInstr.{WInstr}
use Rattle.wasm_ast.specs.SameTypes.{is_same_type}
use Rattle.wasm_execution.specs.Configurations.{Here, Config, Event, prints}
use Rattle.wasm_execution.specs.Environments.{Environment, Function, environment_of, function_at}
use Rattle.wasm_execution.specs.Turns.{traps}
use Rattle.machine_steps.specs.Steps.{with_found, with_one}
use Rattle.wasm_execution.specs.Calls.{call, call_direct, call_typed, call_indirect}
use Rattle.wasm_execution.specs.Control.{branch_to, branch_if, branch_table}
use Rattle.wasm_values.specs.Stacked.{Stacked}
use Rattle.wasm_levels.specs.Lists.{levels_of, beneath_all}
use Rattle.wasm_call_steps.specs.Callers.{callers_of}
use Rattle.wasm_frames.specs.Frames.{here_now}
use Rattle.wasm_frames.proofs.Ifs.{taken}
use Rattle.wasm_run_state.specs.declared.state.State.{State}
use Rattle.wasm_run_state.specs.Tells.{Tells, turn_of}
use Rattle.wasm_run_state.specs.States.{bottom_of, store_of, config_of}
use Rattle.wasm_run_calls.proofs.Leading.{found_step}
use Rattle.wasm_run_calls.specs.Parts.{Part, PartActs, LeadsOn, EndsAsBefore, EndsSo, EndsWithOperand, IsGoing, with_operand, start_at, entry_in, is_of_type, typed_entry_in, label_in}

pub one_there : {Y : Type 0} (vs : List ℕ) (k : ℕ → List ℕ → Turn Event Y) → with_one vs k ≢ NoStep → 0 < length vs
one_there [] k h = absurd (h refl)
one_there (v ∷ vs) k h = omega arith

module _ (s : State) (values : Stacked) (v : ℕ) (own : s.frames.values.own ≡ v ∷ values.own) (beneath : values.beneath ≡ s.frames.values.beneath) where
  abbrev pub popped : State
  popped = record s { frames = record s.frames { values = values } }

  same_start : (start : Here) → start_at start popped ≡ start_at start s
  same_start start = ap (λ (bs : List ℕ). record {
    here = start;
    callers = callers_of s.frames.callers s.frames.levels.beneath (beneath_all s.frames.levels.own bs) s.frames.locals.beneath;
    bottom = bottom_of s.next_call;
    store = store_of s;
  }) beneath

  restored : with_operand v (config_of popped) ≡ config_of s
  restored = ap₂ (λ (os bs : List ℕ). record {
    here = record { function = s.frames.function; argument = s.frames.argument; locals = s.frames.locals.own; operands = os; rest = s.frames.code.now; levels = levels_of s.frames.levels.own bs };
    callers = callers_of s.frames.callers s.frames.levels.beneath (beneath_all s.frames.levels.own bs) s.frames.locals.beneath;
    bottom = bottom_of s.next_call;
    store = store_of s;
  }) (sym own) beneath

  -- on the operands with the number on top the first part comes to the second
  abbrev ComesTo : Part → List WInstr → Part → Type 0
  ComesTo part rest other = (start : Here) → part (record (here_now popped.frames) { operands = v ∷ values.own; rest = rest }) (start_at start popped) ≡ other (record (here_now popped.frames) { rest = rest }) (start_at start popped)

  pub leads : (part other : Part) (rest : List WInstr) → ComesTo part rest other → LeadsOn part rest s → LeadsOn other rest popped
  leads part other rest q h = (h.0, subst (λ (t : Turn Event Config). t ≢ NoStep) (taken s.frames values v own beneath part rest h.0 (bottom_of s.next_call) (store_of s) ∙ q h.0) h.1)

  pub retaken : {E : Type 0} (part other : Part) (rest : List WInstr) (r : Result answers.Turn E) (b : State) → ComesTo part rest other → PartActs other rest popped r b → PartActs part rest s r b
  retaken part other rest (Ok told) b q h = λ start.
      let t = h start in record {
        events = t.events;
        printed = t.printed;
        is = taken s.frames values v own beneath part rest start (bottom_of s.next_call) (store_of s) ∙ q start ∙ t.is ∙ ap (λ (c : Config). turn_of told t.events c (config_of b)) (same_start start);
      }
  retaken part other rest (Err why) b q h = tt

  pub trapped : (part : Part) (rest : List WInstr) (why : Trap) (b : State) → ((start : Here) → part (record (here_now popped.frames) { operands = v ∷ values.own; rest = rest }) (start_at start popped) ≡ traps why (start_at start popped))
      → (start : Here) → Tells prints (part (record (here_now s.frames) { rest = rest }) (start_at start s)) (answer.Ended (end.Trap why)) (start_at start s) (config_of b)
  trapped part rest why b q start = record {
    events = [];
    printed = refl;
    is = taken s.frames values v own beneath part rest start (bottom_of s.next_call) (store_of s) ∙ q start ∙ ap (λ (c : Config). traps why c) (same_start start);
  }

  pub back : {E : Type 0} (r : Result answers.Turn E) (b : State) → values.room ≡ s.frames.values.room + 1 → EndsWithOperand v r popped b → EndsAsBefore r s b
  back (Ok answer.Went) b room h = tt
  back (Ok (answer.Printed n)) b room h = tt
  back (Ok (answer.Ended why)) b room h = let le = h.1 in (h.0 ∙ restored, omega (arith, le, room))
  back (Err why) b room h = let le = h.1 in (h.0 ∙ restored, omega (arith, le, room))

  -- br_if
  pub not_taken : (e : Environment) (label : ℕ) (code : Bor (List WInstr)) → v ≡ 0 → (start : Here)
      → Tells prints (branch_if e label (record (here_now s.frames) { rest = code.now }) (start_at start s)) answer.Went (start_at start s) (config_of (record s { frames = record s.frames { code = code; values = values } }))
  not_taken e label code q start = record {
    events = [];
    printed = refl;
    is =
        taken s.frames values v own beneath (branch_if e label) code.now start (bottom_of s.next_call) (store_of s)
        ∙ ap (λ (n : ℕ). branch_if e label (record (here_now popped.frames) { operands = n ∷ values.own; rest = code.now }) (start_at start popped)) q;
  }

  taken_more : (e : Environment) (label n : ℕ) (rest : List WInstr) → v ≡ suc n → ComesTo (branch_if e label) rest (branch_to e label)
  taken_more e label n rest q start = ap (λ (m : ℕ). branch_if e label (record (here_now popped.frames) { operands = m ∷ values.own; rest = rest }) (start_at start popped)) q

  pub branch_taken : (e : Environment) (label : ℕ) (rest : List WInstr) (n : ℕ) → v ≡ n → n ≢ 0 → ComesTo (branch_if e label) rest (branch_to e label)
  branch_taken e label rest zero q h = absurd (h refl)
  branch_taken e label rest (suc n) q h = taken_more e label n rest q

  -- br_table
  pub table_taken : (e : Environment) (labels : List ℕ) (default : ℕ) (rest : List WInstr) → ComesTo (branch_table e labels default) rest (branch_to e (label_in labels default v))
  table_taken e labels default rest start = by (slice_get labels v)
    where
      by : (o : Option ℕ) → elim o [
        | Some label ↦ branch_to e label (record (here_now popped.frames) { rest = rest }) (start_at start popped)
        | None ↦ branch_to e default (record (here_now popped.frames) { rest = rest }) (start_at start popped)
      ] ≡ branch_to e (elim o [ Some label ↦ label | None ↦ default ]) (record (here_now popped.frames) { rest = rest }) (start_at start popped)
      by None = refl
      by (Some label) = refl

module _ (e : Environment) (here : Here) (c : Config) where
  abbrev typed_turn : ℕ → Option Function → Option FuncType → Turn Event Config
  typed_turn k of ot = with_found of (λ f. with_found ot (λ ty. elim (is_same_type f.ty ty) [ true ↦ call e k f here c | false ↦ traps Signature c ]))

  abbrev of_type : Option Function → Option FuncType → Bool
  of_type of ot = elim of [ None ↦ false | Some f ↦ elim ot [ None ↦ false | Some ty ↦ is_same_type f.ty ty ] ]

  abbrev typed : ℕ → Bool → Result ℕ Trap
  typed k b = elim b [ true ↦ Ok k | false ↦ Err Signature ]

  same_ok : (b : Bool) (k n : ℕ) (f : Function) → typed k b ≡ Ok n → (elim b [ true ↦ call e k f here c | false ↦ traps Signature c ] ≡ call e k f here c) × (k ≡ n)
  same_ok true k n f q = (refl, (cc))
  same_ok false k n f q = absurd (cc)

  same_err : (b : Bool) (k : ℕ) (why : Trap) (f : Function) → typed k b ≡ Err why → elim b [ true ↦ call e k f here c | false ↦ traps Signature c ] ≡ traps why c
  same_err true k why f q = absurd (cc)
  same_err false k why f q = let s : Signature ≡ why = (cc) in ap (λ (t : Trap). traps t c) s

  typed_ok : (of : Option Function) (ot : Option FuncType) (k n : ℕ) → typed k (of_type of ot) ≡ Ok n → (typed_turn k of ot ≡ with_found of (λ f. call e k f here c)) × (k ≡ n)
  typed_ok None ot k n q = absurd (cc)
  typed_ok (Some f) None k n q = absurd (cc)
  typed_ok (Some f) (Some ty) k n q = same_ok (is_same_type f.ty ty) k n f q

  typed_err : (of : Option Function) (ot : Option FuncType) (k : ℕ) (why : Trap) (f : Function) (ty : FuncType) → of ≡ Some f → ot ≡ Some ty → typed k (of_type of ot) ≡ Err why → typed_turn k of ot ≡ traps why c
  typed_err None ot k why f ty p q r = absurd (cc)
  typed_err (Some g) None k why f ty p q r = absurd (cc)
  typed_err (Some g) (Some u) k why f ty p q r = same_err (is_same_type g.ty u) k why g r

  -- what an entry of the table leads to
  abbrev entry_turn : ℕ → Option (Option ℕ) → Turn Event Config
  entry_turn type_index o = elim o [ None ↦ traps TableBounds c | Some entry ↦ elim entry [ None ↦ traps Uninitialised c | Some n ↦ call_typed e type_index n here c ] ]

abbrev entry_result : Option (Option ℕ) → Result ℕ Trap
entry_result o = elim o [ None ↦ Err TableBounds | Some entry ↦ elim entry [ None ↦ Err Uninitialised | Some n ↦ Ok n ] ]

pub entry_ok : (m : WModule) (here : Here) (c : Config) (type_index n : ℕ) (o : Option (Option ℕ)) → typed_entry_in m type_index (entry_result o) ≡ Ok n → entry_turn (environment_of m) here c type_index o ≡ call_direct (environment_of m) n here c
entry_ok m here c type_index n None q = absurd (cc)
entry_ok m here c type_index n (Some None) q = absurd (cc)
entry_ok m here c type_index n (Some (Some k)) q =
    let t = typed_ok (environment_of m) here c (function_at (environment_of m) k) (slice_get m.types type_index) k n q in
    t.0 ∙ ap (λ (x : ℕ). call_direct (environment_of m) x here c) t.1

-- a function in the table is there, and so is the type
pub record IsKnown (m : WModule) (type_index k : ℕ) : Type 0 where
  pub f : Function
  pub there : function_at (environment_of m) k ≡ Some f
  pub ty : FuncType
  pub listed : slice_get m.types type_index ≡ Some ty

pub entry_known : (m : WModule) (here : Here) (c : Config) (type_index : ℕ) (o : Option (Option ℕ)) → entry_turn (environment_of m) here c type_index o ≢ NoStep → (k : ℕ) → o ≡ Some (Some k) → IsKnown m type_index k
entry_known m here c type_index None h k q = absurd (cc)
entry_known m here c type_index (Some None) h k q = absurd (cc)
entry_known m here c type_index (Some (Some j)) h k q =
    let e = environment_of m in
    let same : j ≡ k = (cc) in
    let f = found_step (function_at e j) (λ f. with_found (slice_get m.types type_index) (λ ty. elim (is_same_type f.ty ty) [ true ↦ call e j f here c | false ↦ traps Signature c ])) h in
    let t = found_step (slice_get m.types type_index) (λ ty. elim (is_same_type f.0.ty ty) [ true ↦ call e j f.0 here c | false ↦ traps Signature c ]) f.2 in
    subst (IsKnown m type_index) same (record { f = f.0; there = f.1; ty = t.0; listed = t.1 })

pub entry_err : (m : WModule) (here : Here) (c : Config) (type_index : ℕ) (why : Trap) (o : Option (Option ℕ)) → ((k : ℕ) → o ≡ Some (Some k) → IsKnown m type_index k) → typed_entry_in m type_index (entry_result o) ≡ Err why
    → entry_turn (environment_of m) here c type_index o ≡ traps why c
entry_err m here c type_index why None h q = let s : TableBounds ≡ why = (cc) in ap (λ (t : Trap). traps t c) s
entry_err m here c type_index why (Some None) h q = let s : Uninitialised ≡ why = (cc) in ap (λ (t : Trap). traps t c) s
entry_err m here c type_index why (Some (Some k)) h q =
    let known = h k refl in
    typed_err (environment_of m) here c (function_at (environment_of m) k) (slice_get m.types type_index) k why known.f known.ty known.there known.listed q

-- a call that goes on is not an end
pub goes_on_stays : (told : answers.Turn) (a b : State) → IsGoing told → EndsSo told a b
goes_on_stays answer.Went a b h = tt
goes_on_stays (answer.Printed n) a b h = tt
goes_on_stays (answer.Ended why) a b h = absurd h

pub entry_some : (o : Option (Option ℕ)) (n : ℕ) → entry_result o ≡ Ok n → o ≡ Some (Some n)
entry_some None n q = absurd (cc)
entry_some (Some None) n q = absurd (cc)
entry_some (Some (Some k)) n q = let s : k ≡ n = (cc) in ap (λ (x : ℕ). Some (Some x)) s

-- a call through the table that leads on knows its function and its type
pub leads_entry : (s : State) (values : Stacked) (v : ℕ) (own : s.frames.values.own ≡ v ∷ values.own) (beneath : values.beneath ≡ s.frames.values.beneath) (m : WModule) (type_index : ℕ) (rest : List WInstr)
    → LeadsOn (call_indirect (environment_of m) type_index) rest s → (k : ℕ) → slice_get s.table.items v ≡ Some (Some k) → IsKnown m type_index k
leads_entry s values v own beneath m type_index rest h =
    let e = environment_of m in
    let q = record s { frames = record s.frames { values = values } } in
    let here = record (here_now q.frames) { rest = rest } in
    entry_known m here (start_at h.0 q) type_index (slice_get s.table.items v)
    (subst (λ (t : Turn Event Config). t ≢ NoStep) (taken s.frames values v own beneath (call_indirect e type_index) rest h.0 (bottom_of s.next_call) (store_of s)) h.1)
