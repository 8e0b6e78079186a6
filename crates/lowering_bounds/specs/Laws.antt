-- What bounds the code of lists, and which operation of WebAssembly a number instruction is. This project's own.
use Rattle.std.specs.Prelude.{◌≡◌, ℕ, ◌+◌, ◌*◌, ◌≤◌, List}
use Rattle.wasm_operators.specs.declared.Width.{Width}
use Rattle.wasm_operators.specs.declared.Width.TheVariants.{W32, W64}
use Rattle.wasm_ast.specs.declared.types.ValTy.{ValTy}
use Rattle.wasm_ast.specs.declared.types.ValTy.TheVariants.{I32, I64}
use Rattle.wasm_ast.specs.declared.instructions.WInstr.{WInstr}
use Rattle.wasm_ast.specs.Operations as wasm
use Rattle.wasm_ast.specs.Operations.{operation_of}
use Rattle.wasm_grammar.specs.Nesting.{greatest, nesting, nesting_limit, NestsAtMost}
use Rattle.rw_types.specs.declared.instrs.Instr.{Instr}
use Rattle.rw_types.specs.declared.numbers.NumName.{NumName}
use Rattle.rich_operators.specs.Operators.{Operator, Eqz, Compare, Unary, Binary, Convert, operator_of}
use Rattle.rich_typing.specs.declared.notes.Note.{Note}
use Rattle.rw_program.specs.declared.linked.LinkedFunc.{LinkedFunc}
use Rattle.rw_program.specs.Programs.{Program}
use Rattle.lowering_rows.specs.Surroundings.{Surroundings}
use Rattle.lowering_rows.specs.Labels.{Label}
use Rattle.lowering_rows.specs.Numbers.{instruction_of}
use Rattle.lowering_rows.specs.Rows.{rows}
use Rattle.lowering_rows.specs.Functions.{function_code, start_code}
use Rattle.lowering_bounds.specs.Depths.{AreWithinDepth, depth_limit, list_depth}

-- the code of a list nests at most twice as deep as the list, and two blocks more
abbrev pub ListsNest : Type 0
ListsNest = (s : Surroundings) (labels : List Label) (is : List Instr) (notes : List Note) → greatest nesting (rows s labels is notes) ≤ 2 * list_depth is + 2

-- the codes of functions and of the exported main keep the profile's limit
abbrev pub FunctionsNest : Type 0
FunctionsNest = (p : Program) (type_of : ℕ → ℕ) (f : LinkedFunc) → list_depth f.body ≤ depth_limit → NestsAtMost nesting_limit (function_code p type_of f).body

abbrev pub StartsNest : Type 0
StartsNest = (p : Program) (type_of : ℕ → ℕ) → AreWithinDepth p.globals → NestsAtMost nesting_limit (start_code p type_of).body

-- the type of numbers of a width
abbrev pub type_of_width : Width → ValTy
type_of_width W32 = I32
type_of_width W64 = I64

-- the operation of WebAssembly that an operator is
abbrev pub operation_by : Operator → wasm.Operation WInstr
operation_by (Eqz width) = wasm.Eqz (type_of_width width)
operation_by (Compare operator width) = wasm.Compare (type_of_width width) operator
operation_by (Unary operator width) = wasm.Unary (type_of_width width) operator
operation_by (Binary operator width) = wasm.Binary (type_of_width width) operator
operation_by (Convert operator) = wasm.Convert operator

-- the instruction of a number instruction does what its operator names
abbrev pub NumbersAreTheirOperators : Type 0
NumbersAreTheirOperators = (n : NumName) → operation_of (instruction_of n) ≡ operation_by (operator_of n)
