-- What constants and number instructions do: the operators are WebAssembly's (WebAssembly Core Specification 1.0, section 4.4.1).
use Rattle.std.specs.Prelude.{ℕ, ◌==◌, ◌∷◌, Ok, Err}
use Rattle.wasm_operators.specs.declared.Width.{Width}
use Rattle.wasm_operators.specs.declared.BinOp.{BinOp}
use Rattle.wasm_num.specs.declared.NumTrap.{NumTrap}
use Rattle.wasm_num.specs.declared.NumTrap.TheVariants as num
use Rattle.wasm_num.specs.Operators.{unary, binary, compares, truth, converted}
use Rattle.rich_operators.specs.Operators.{Operator, Eqz, Compare, Unary, Binary, Convert}
use Rattle.machine_steps.specs.declared.Trap as machine
use Rattle.machine_steps.specs.declared.Trap.TheVariants.{DivideByZero, Overflow}
use Rattle.machine_steps.specs.Steps.{Turn}
use Rattle.rich_reduction.specs.Configurations.{Number, Here, Config, Event}
use Rattle.rich_reduction.specs.Turns.{with_number, leaves, traps}

abbrev pub trap_of : NumTrap → machine.Trap
trap_of num.DivideByZero = DivideByZero
trap_of num.Overflow = Overflow

-- i32.const, i64.const
abbrev pub put_number : ℕ → Here → Config → Turn Event Config
put_number n here c = leaves (Number n ∷ here.operands) here c

-- an operator of one number, by what it gives
abbrev pub apply_to_one : (ℕ → ℕ) → Here → Config → Turn Event Config
apply_to_one operator here c = with_number here.operands (λ n beneath. leaves (Number (operator n) ∷ beneath) here c)

-- an operator of two numbers that always has an answer; the second one is on top
abbrev pub apply_to_two : (ℕ → ℕ → ℕ) → Here → Config → Turn Event Config
apply_to_two operator here c =
    with_number here.operands (λ second under. with_number under (λ first beneath. leaves (Number (operator first second) ∷ beneath) here c))

-- an operator of two numbers
abbrev pub apply_binary : BinOp → Width → Here → Config → Turn Event Config
apply_binary operator w here c = with_number here.operands (λ second under. with_number under (λ first beneath. elim (binary operator w first second) [
  | Ok n ↦ leaves (Number n ∷ beneath) here c
  | Err why ↦ traps (trap_of why) c
]))

-- a number instruction
abbrev pub apply : Operator → Here → Config → Turn Event Config
apply (Eqz w) here c = apply_to_one (λ n. truth (n == 0)) here c
apply (Compare operator w) here c = apply_to_two (λ first second. truth (compares operator w first second)) here c
apply (Unary operator w) here c = apply_to_one (unary operator w) here c
apply (Binary operator w) here c = apply_binary operator w here c
apply (Convert operator) here c = apply_to_one (converted operator) here c
