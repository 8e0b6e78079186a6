-- Instructions on no cell go on in the call that runs, but for calls and returns.
use Rattle.std.proofs.Common.{◌≡◌, ◌∙◌, ℕ, zero, suc, List, [], ◌∷◌, length, refl, ap}
use Rattle.std.specs.Prelude.{Result, Ok, Err, slice_get, slice_set}
use Rattle.wasm_num.specs.declared.NumTrap.{NumTrap}
use Rattle.wasm_num.specs.Operators.{binary}
use Rattle.rich_operators.specs.Operators.{Operator, Eqz, Compare, Unary, Binary, Convert}
use Rattle.rw_types.specs.declared.instrs.BlockSig.{BlockSig}
use Rattle.rw_types.specs.declared.instrs.Instr.{Instr}
use Rattle.rw_program.specs.declared.linked.LinkedFunc.{LinkedFunc}
use Rattle.machine_steps.specs.Steps.{Turn}
use Rattle.rich_reduction.specs.Configurations.{Val, Number, Empty, Aim, Past, Back, Level, Here, Config, Event}
use Rattle.rich_reduction.specs.Turns as turns
use Rattle.rich_reduction.specs.Numbers.{trap_of, apply}
use Rattle.rich_reduction.specs.Plain as plain
use Rattle.rich_reduction.specs.Control as control
use Rattle.rich_reduction.specs.Capabilities as cap
use Rattle.rich_reduction_laws.proofs.Forms as form
use Rattle.rich_reduction_calls.specs.Calls.{StaysCall, TurnsCallsBy, stays, calls, leaves}

set_length : (vs : List Val) (n : ℕ) (v : Val) → length (slice_set vs n v) ≡ length vs
set_length [] n v = refl
set_length (w ∷ vs) zero v = refl
set_length (w ∷ vs) (suc n) v = ap suc (set_length vs n v)

module _ (c : Config) where
  abbrev pub Q : Turn Event Config → Type 0
  Q = TurnsCallsBy c

  -- an instruction begins in the call that runs
  abbrev pub Of : Here → Type 0
  Of here = StaysCall c.here here

  answered : (r : Result ℕ NumTrap) (beneath : List Val) (here : Here) → Of here → Q (elim r [
    | Ok n ↦ turns.leaves (Number n ∷ beneath) here c
    | Err why ↦ turns.traps (trap_of why) c
  ])
  answered (Ok n) beneath here u = stays u refl
  answered (Err why) beneath here u = tt

  pub numbers : (operator : Operator) (here : Here) → Of here → Q (apply operator here c)
  numbers (Eqz w) here u = form.number Q tt here.operands (λ n rest e. stays u refl)
  numbers (Compare operator w) here u = form.number Q tt here.operands (λ second under e. form.number Q tt under (λ first beneath e'. stays u refl))
  numbers (Unary operator w) here u = form.number Q tt here.operands (λ n rest e. stays u refl)
  numbers (Binary operator w) here u = form.number Q tt here.operands (λ second under e. form.number Q tt under (λ first beneath e'. answered (binary operator w first second) beneath here u))
  numbers (Convert operator) here u = form.number Q tt here.operands (λ n rest e. stays u refl)

  pub drop_one : (here : Here) → Of here → Q (plain.drop_one here c)
  drop_one here u = form.one Q tt here.operands (λ v rest. stays u refl)

  pub qualify : (here : Here) → Of here → Q (plain.qualify here c)
  qualify here u = form.one Q tt here.operands (λ v rest. stays u refl)

  pub instantiate : (here : Here) → Of here → Q (plain.instantiate here c)
  instantiate here u = form.code Q tt here.operands (λ f rest. stays u refl)

  pub fold : (here : Here) → Of here → Q (plain.fold here c)
  fold here u = form.one Q tt here.operands (λ v rest. stays u refl)

  pub unfold_one : (here : Here) → Of here → Q (plain.unfold_one here c)
  unfold_one here u = form.folded Q tt here.operands (λ v rest. stays u refl)

  pub group : (n : ℕ) (here : Here) → Of here → Q (plain.group n here c)
  group n here u = form.top Q tt n here.operands (λ vs beneath. stays u refl)

  pub ungroup : (here : Here) → Of here → Q (plain.ungroup here c)
  ungroup here u = form.tuple Q tt here.operands (λ parts rest. stays u refl)

  pub pack : (here : Here) → Of here → Q (plain.pack here c)
  pack here u = form.one Q tt here.operands (λ v rest. stays u refl)

  put_local : (n : ℕ) (v : Val) (operands : List Val) (here : Here) → Of here → Q (plain.put_local n v operands here c)
  put_local n v operands here u = form.found Q tt (slice_get here.locals n) (λ old e. stays (u.0, set_length here.locals n v ∙ u.1) refl)

  pub get_local : (n : ℕ) (here : Here) → Of here → Q (plain.get_local n here c)
  get_local n here u = form.found Q tt (slice_get here.locals n) (λ v e. stays u refl)

  pub take_local : (n : ℕ) (here : Here) → Of here → Q (plain.take_local n here c)
  take_local n here u = form.found Q tt (slice_get here.locals n) (λ v e. put_local n Empty (v ∷ here.operands) here u)

  pub set_local : (n : ℕ) (here : Here) → Of here → Q (plain.set_local n here c)
  set_local n here u = form.one Q tt here.operands (λ v beneath. put_local n v beneath here u)

  pub get_global : (n : ℕ) (here : Here) → Of here → Q (plain.get_global n here c)
  get_global n here u = form.found Q tt (slice_get c.globals n) (λ v e. stays u refl)

  pub set_global : (n : ℕ) (here : Here) → Of here → Q (plain.set_global n here c)
  set_global n here u = form.one Q tt here.operands (λ v beneath. form.found Q tt (slice_get c.globals n) (λ old e. stays u refl))

  pub enter_block : (sig : BlockSig) (body : List Instr) (here : Here) → Of here → Q (control.enter_block sig body here c)
  enter_block sig body here u = form.top Q tt (length sig.params) here.operands (λ taken beneath. stays u refl)

  pub enter_loop : (sig : BlockSig) (body : List Instr) (here : Here) → Of here → Q (control.enter_loop sig body here c)
  enter_loop sig body here u = form.top Q tt (length sig.params) here.operands (λ taken beneath. stays u refl)

  one_of : (n : ℕ) (sig : BlockSig) (first second : List Instr) (here : Here) → Of here → Q (elim n [
    | zero ↦ control.enter_block sig second here c
    | suc _ ↦ control.enter_block sig first here c
  ])
  one_of zero sig first second here u = enter_block sig second here u
  one_of (suc n) sig first second here u = enter_block sig first here u

  pub enter_if : (sig : BlockSig) (first second : List Instr) (here : Here) → Of here → Q (control.enter_if sig first second here c)
  enter_if sig first second here u = form.number Q tt here.operands (λ n beneath e. one_of n sig first second (record here { operands = beneath }) u)

  pub enter_unpacked : (sig : BlockSig) (body : List Instr) (here : Here) → Of here → Q (control.enter_unpacked sig body here c)
  enter_unpacked sig body here u = form.packed Q tt here.operands (λ v beneath. form.top Q tt (length sig.params) beneath (λ taken rest. stays u refl))

  arrive : (aim : Aim) (vs : List Val) (l : Level) (levels : List Level) (here : Here) → Of here → Q (control.arrive aim vs l levels here c)
  arrive Past vs l levels here u = stays u refl
  arrive (Back body) vs l levels here u = stays u refl

  branch : (n : ℕ) (levels : List Level) (here : Here) → Of here → Q (control.branch n levels here c)
  branch n [] here u = tt
  branch zero (l ∷ levels) here u = form.top Q tt l.takes here.operands (λ vs beneath. arrive l.aim vs l levels here u)
  branch (suc n) (l ∷ levels) here u = branch n levels here u

  pub branch_to : (n : ℕ) (here : Here) → Of here → Q (control.branch_to n here c)
  branch_to n here u = branch n here.levels here u

  taken_or_not : (n label : ℕ) (here : Here) → Of here → Q (elim n [
    | zero ↦ turns.leaves here.operands here c
    | suc _ ↦ control.branch_to label here c
  ])
  taken_or_not zero label here u = stays u refl
  taken_or_not (suc n) label here u = branch_to label here u

  pub branch_if : (label : ℕ) (here : Here) → Of here → Q (control.branch_if label here c)
  branch_if label here u = form.number Q tt here.operands (λ n beneath e. taken_or_not n label (record here { operands = beneath }) u)

  call : (f : LinkedFunc) (here : Here) → Of here → Q (control.call f here c)
  call f here u = form.top Q tt (length f.ty.params) here.operands (λ arguments beneath. calls (record here { operands = beneath }) u refl)

  pub call_direct : (funcs : List LinkedFunc) (n : ℕ) (here : Here) → Of here → Q (control.call_direct funcs n here c)
  call_direct funcs n here u = form.found Q tt (slice_get funcs n) (λ f e. call f here u)

  pub call_indirect : (funcs : List LinkedFunc) (here : Here) → Of here → Q (control.call_indirect funcs here c)
  call_indirect funcs here u = form.code Q tt here.operands (λ n beneath. call_direct funcs n (record here { operands = beneath }) u)

  ends_with : (vs : List Val) → Q (control.ends_with vs c)
  ends_with (Number n ∷ []) = tt
  ends_with _ = tt

  give : (vs : List Val) (callers : List Here) → c.callers ≡ callers → Q (control.give vs callers c)
  give vs [] e = ends_with vs
  give vs (caller ∷ callers) e = leaves caller (refl, refl) e

  pub return_now : (here : Here) → Q (control.return_now here c)
  return_now here = form.top Q tt here.results here.operands (λ vs beneath. give vs c.callers refl)

  pub leave : (levels : List Level) (here : Here) → Of here → Q (control.leave levels here c)
  leave [] here u = form.all Q tt here.results here.operands (λ vs. give vs c.callers refl)
  leave (l ∷ levels) here u = form.all Q tt l.gives here.operands (λ vs. stays u refl)

  pub split_ref : (here : Here) → Of here → Q (cap.split_ref here c)
  split_ref here u = form.ref Q tt here.operands (λ l p beneath. stays u refl)

  pub join_ref : (here : Here) → Of here → Q (cap.join_ref here c)
  join_ref here u = form.ptr Q tt here.operands (λ k under. form.cap Q tt under (λ l p beneath. form.whether Q tt (cap.is_same_location l k) _ (stays u refl)))

  pub split_cap : (here : Here) → Of here → Q (cap.split_cap here c)
  split_cap here u = form.cap Q tt here.operands (λ l p beneath. form.whether Q tt (cap.is_rw p) _ (stays u refl))

  pub join_cap : (here : Here) → Of here → Q (cap.join_cap here c)
  join_cap here u = form.own Q tt here.operands (λ k under. form.cap Q tt under (λ l p beneath. form.unless Q tt (cap.is_rw p) _ (form.whether Q tt (cap.is_same_location l k) _ (stays u refl))))

  pub print_number : (here : Here) → Of here → Q (plain.print_number here c)
  print_number here u = form.number Q tt here.operands (λ n beneath e. stays u refl)
