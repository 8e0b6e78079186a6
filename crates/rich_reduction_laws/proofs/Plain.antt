-- Instructions on no cell leave the stores as they are, and only a print says something.
use Rattle.std.proofs.Common.{ℕ, zero, suc, List, [], ◌∷◌, length, refl}
use Rattle.std.specs.Prelude.{Result, Ok, Err, slice_get}
use Rattle.wasm_num.specs.declared.NumTrap.{NumTrap}
use Rattle.wasm_num.specs.declared.NumTrap.TheVariants as num
use Rattle.wasm_num.specs.Operators.{binary}
use Rattle.rich_operators.specs.Operators.{Operator, Eqz, Compare, Unary, Binary, Convert}
use Rattle.rw_types.specs.declared.instrs.BlockSig.{BlockSig}
use Rattle.rw_types.specs.declared.instrs.Instr.{Instr}
use Rattle.rw_program.specs.declared.linked.LinkedFunc.{LinkedFunc}
use Rattle.machine_steps.specs.declared.End.TheVariants.{Trap}
use Rattle.machine_steps.specs.declared.Trap as machine
use Rattle.machine_steps.specs.Steps.{Turn}
use Rattle.rich_reduction.specs.Configurations.{Val, Number, Empty, Aim, Past, Back, Level, Here, Config, Event}
use Rattle.rich_reduction.specs.Turns.{leaves, traps}
use Rattle.rich_reduction.specs.Numbers.{trap_of, apply}
use Rattle.rich_reduction.specs.Plain as plain
use Rattle.rich_reduction.specs.Control as control
use Rattle.rich_reduction.specs.Capabilities as cap
use Rattle.rich_reduction_laws.specs.Effects.{Quiet, Prints, IsQuiet, MayEnd, HasEffect}
use Rattle.rich_reduction_laws.proofs.Forms as form

module _ (c : Config) where
  abbrev Q : Turn Event Config → Type 0
  Q = HasEffect Quiet c

  pub still : IsQuiet c.stores c.stores []
  still = record { said = refl; stays = refl }

  pub trapped : (t : machine.Trap) → MayEnd (Trap t) → Q (traps t c)
  trapped t may = record { same = refl; may = may; does = still }

  may_trap : (why : NumTrap) → MayEnd (Trap (trap_of why))
  may_trap num.DivideByZero = tt
  may_trap num.Overflow = tt

  answered : (r : Result ℕ NumTrap) (beneath : List Val) (here : Here) → Q (elim r [
    | Ok n ↦ leaves (Number n ∷ beneath) here c
    | Err why ↦ traps (trap_of why) c
  ])
  answered (Ok n) beneath here = still
  answered (Err why) beneath here = trapped (trap_of why) (may_trap why)

  pub numbers : (operator : Operator) (here : Here) → Q (apply operator here c)
  numbers (Eqz w) here = form.number Q tt here.operands (λ n rest e. still)
  numbers (Compare operator w) here = form.number Q tt here.operands (λ second under e. form.number Q tt under (λ first beneath e'. still))
  numbers (Unary operator w) here = form.number Q tt here.operands (λ n rest e. still)
  numbers (Binary operator w) here = form.number Q tt here.operands (λ second under e. form.number Q tt under (λ first beneath e'. answered (binary operator w first second) beneath here))
  numbers (Convert operator) here = form.number Q tt here.operands (λ n rest e. still)

  pub drop_one : (here : Here) → Q (plain.drop_one here c)
  drop_one here = form.one Q tt here.operands (λ v rest. still)

  pub qualify : (here : Here) → Q (plain.qualify here c)
  qualify here = form.one Q tt here.operands (λ v rest. still)

  pub instantiate : (here : Here) → Q (plain.instantiate here c)
  instantiate here = form.code Q tt here.operands (λ f rest. still)

  pub fold : (here : Here) → Q (plain.fold here c)
  fold here = form.one Q tt here.operands (λ v rest. still)

  pub unfold_one : (here : Here) → Q (plain.unfold_one here c)
  unfold_one here = form.folded Q tt here.operands (λ v rest. still)

  pub group : (n : ℕ) (here : Here) → Q (plain.group n here c)
  group n here = form.top Q tt n here.operands (λ vs beneath. still)

  pub ungroup : (here : Here) → Q (plain.ungroup here c)
  ungroup here = form.tuple Q tt here.operands (λ parts rest. still)

  pub pack : (here : Here) → Q (plain.pack here c)
  pack here = form.one Q tt here.operands (λ v rest. still)

  put_local : (n : ℕ) (v : Val) (operands : List Val) (here : Here) → Q (plain.put_local n v operands here c)
  put_local n v operands here = form.found Q tt (slice_get here.locals n) (λ old e. still)

  pub get_local : (n : ℕ) (here : Here) → Q (plain.get_local n here c)
  get_local n here = form.found Q tt (slice_get here.locals n) (λ v e. still)

  pub take_local : (n : ℕ) (here : Here) → Q (plain.take_local n here c)
  take_local n here = form.found Q tt (slice_get here.locals n) (λ v e. put_local n Empty (v ∷ here.operands) here)

  pub set_local : (n : ℕ) (here : Here) → Q (plain.set_local n here c)
  set_local n here = form.one Q tt here.operands (λ v beneath. put_local n v beneath here)

  pub get_global : (n : ℕ) (here : Here) → Q (plain.get_global n here c)
  get_global n here = form.found Q tt (slice_get c.globals n) (λ v e. still)

  pub set_global : (n : ℕ) (here : Here) → Q (plain.set_global n here c)
  set_global n here = form.one Q tt here.operands (λ v beneath. form.found Q tt (slice_get c.globals n) (λ old e. still))

  pub enter_block : (sig : BlockSig) (body : List Instr) (here : Here) → Q (control.enter_block sig body here c)
  enter_block sig body here = form.top Q tt (length sig.params) here.operands (λ taken beneath. still)

  pub enter_loop : (sig : BlockSig) (body : List Instr) (here : Here) → Q (control.enter_loop sig body here c)
  enter_loop sig body here = form.top Q tt (length sig.params) here.operands (λ taken beneath. still)

  one_of : (n : ℕ) (sig : BlockSig) (first second : List Instr) (here : Here) → Q (elim n [
    | zero ↦ control.enter_block sig second here c
    | suc _ ↦ control.enter_block sig first here c
  ])
  one_of zero sig first second here = enter_block sig second here
  one_of (suc n) sig first second here = enter_block sig first here

  pub enter_if : (sig : BlockSig) (first second : List Instr) (here : Here) → Q (control.enter_if sig first second here c)
  enter_if sig first second here = form.number Q tt here.operands (λ n beneath e. one_of n sig first second (record here { operands = beneath }))

  pub enter_unpacked : (sig : BlockSig) (body : List Instr) (here : Here) → Q (control.enter_unpacked sig body here c)
  enter_unpacked sig body here = form.packed Q tt here.operands (λ v beneath. form.top Q tt (length sig.params) beneath (λ taken rest. still))

  arrive : (aim : Aim) (vs : List Val) (l : Level) (levels : List Level) (here : Here) → Q (control.arrive aim vs l levels here c)
  arrive Past vs l levels here = still
  arrive (Back body) vs l levels here = still

  branch : (n : ℕ) (levels : List Level) (here : Here) → Q (control.branch n levels here c)
  branch n [] here = tt
  branch zero (l ∷ levels) here = form.top Q tt l.takes here.operands (λ vs beneath. arrive l.aim vs l levels here)
  branch (suc n) (l ∷ levels) here = branch n levels here

  pub branch_to : (n : ℕ) (here : Here) → Q (control.branch_to n here c)
  branch_to n here = branch n here.levels here

  taken_or_not : (n label : ℕ) (here : Here) → Q (elim n [
    | zero ↦ leaves here.operands here c
    | suc _ ↦ control.branch_to label here c
  ])
  taken_or_not zero label here = still
  taken_or_not (suc n) label here = branch_to label here

  pub branch_if : (label : ℕ) (here : Here) → Q (control.branch_if label here c)
  branch_if label here = form.number Q tt here.operands (λ n beneath e. taken_or_not n label (record here { operands = beneath }))

  call : (f : LinkedFunc) (here : Here) → Q (control.call f here c)
  call f here = form.top Q tt (length f.ty.params) here.operands (λ arguments beneath. still)

  pub call_direct : (funcs : List LinkedFunc) (n : ℕ) (here : Here) → Q (control.call_direct funcs n here c)
  call_direct funcs n here = form.found Q tt (slice_get funcs n) (λ f e. call f here)

  pub call_indirect : (funcs : List LinkedFunc) (here : Here) → Q (control.call_indirect funcs here c)
  call_indirect funcs here = form.code Q tt here.operands (λ n beneath. call_direct funcs n (record here { operands = beneath }))

  ends_with : (vs : List Val) → Q (control.ends_with vs c)
  ends_with (Number n ∷ []) = record { same = refl; may = tt; does = still }
  ends_with _ = tt

  give : (vs : List Val) (callers : List Here) → Q (control.give vs callers c)
  give vs [] = ends_with vs
  give vs (caller ∷ callers) = still

  pub return_now : (here : Here) → Q (control.return_now here c)
  return_now here = form.top Q tt here.results here.operands (λ vs beneath. give vs c.callers)

  pub leave : (levels : List Level) (here : Here) → Q (control.leave levels here c)
  leave [] here = form.all Q tt here.results here.operands (λ vs. give vs c.callers)
  leave (l ∷ levels) here = form.all Q tt l.gives here.operands (λ vs. still)

  pub split_ref : (here : Here) → Q (cap.split_ref here c)
  split_ref here = form.ref Q tt here.operands (λ l p beneath. still)

  pub join_ref : (here : Here) → Q (cap.join_ref here c)
  join_ref here = form.ptr Q tt here.operands (λ k under. form.cap Q tt under (λ l p beneath. form.whether Q tt (cap.is_same_location l k) _ still))

  pub split_cap : (here : Here) → Q (cap.split_cap here c)
  split_cap here = form.cap Q tt here.operands (λ l p beneath. form.whether Q tt (cap.is_rw p) _ still)

  pub join_cap : (here : Here) → Q (cap.join_cap here c)
  join_cap here = form.own Q tt here.operands (λ k under. form.cap Q tt under (λ l p beneath. form.unless Q tt (cap.is_rw p) _ (form.whether Q tt (cap.is_same_location l k) _ still)))

  pub print_number : (rest : List Instr) → HasEffect Prints c (plain.print_number (record c.here { rest = rest }) c)
  print_number rest = form.number (HasEffect Prints c) tt c.here.operands (λ n beneath e. record { number = n; beneath = beneath; is_top = e; said = refl; stays = refl })
