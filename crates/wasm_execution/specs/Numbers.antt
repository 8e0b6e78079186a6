-- What number instructions do (WebAssembly Core Specification 1.0, section 4.4.1).
use Rattle.std.specs.Prelude.{ℕ, ◌==◌, ◌∷◌, Ok, Err}
use Rattle.wasm_operators.specs.declared.UnOp.{UnOp}
use Rattle.wasm_operators.specs.declared.BinOp.{BinOp}
use Rattle.wasm_operators.specs.declared.CmpOp.{CmpOp}
use Rattle.wasm_operators.specs.declared.CvtOp.{CvtOp}
use Rattle.wasm_num.specs.declared.NumTrap.{NumTrap}
use Rattle.wasm_num.specs.declared.NumTrap.TheVariants as num
use Rattle.wasm_num.specs.Operators.{unary, binary, compares, truth, converted}
use Rattle.wasm_ast.specs.declared.types.ValTy.{ValTy}
use Rattle.machine_steps.specs.declared.Trap as machine
use Rattle.machine_steps.specs.declared.Trap.TheVariants.{DivideByZero, Overflow}
use Rattle.machine_steps.specs.Steps.{Turn}
use Rattle.wasm_execution.specs.Types.{width_of}
use Rattle.wasm_execution.specs.Configurations.{Here, Config, Event}
use Rattle.wasm_execution.specs.Turns.{with_two, leaves, traps}
use Rattle.machine_steps.specs.Steps.{with_one}

abbrev pub trap_of : NumTrap → machine.Trap
trap_of num.DivideByZero = DivideByZero
trap_of num.Overflow = Overflow

-- t.const (4.4.1.1)
abbrev pub constant : ℕ → Here → Config → Turn Event Config
constant n here c = leaves (n ∷ here.operands) here c

-- t.unop (4.4.1.2)
abbrev pub apply_unary : ValTy → UnOp → Here → Config → Turn Event Config
apply_unary t operator here c = with_one here.operands (λ v beneath. leaves (unary operator (width_of t) v ∷ beneath) here c)

-- t.binop (4.4.1.3)
abbrev pub apply_binary : ValTy → BinOp → Here → Config → Turn Event Config
apply_binary t operator here c = with_two here.operands (λ v w beneath. elim (binary operator (width_of t) v w) [
  | Ok n ↦ leaves (n ∷ beneath) here c
  | Err why ↦ traps (trap_of why) c
])

-- t.eqz, the one t.testop (4.4.1.4)
abbrev pub test_zero : Here → Config → Turn Event Config
test_zero here c = with_one here.operands (λ v beneath. leaves (truth (v == 0) ∷ beneath) here c)

-- t.relop (4.4.1.5)
abbrev pub apply_compare : ValTy → CmpOp → Here → Config → Turn Event Config
apply_compare t operator here c = with_two here.operands (λ v w beneath. leaves (truth (compares operator (width_of t) v w) ∷ beneath) here c)

-- t.cvtop (4.4.1.6)
abbrev pub apply_convert : CvtOp → Here → Config → Turn Event Config
apply_convert operator here c = with_one here.operands (λ v beneath. leaves (converted operator v ∷ beneath) here c)
