-- What an `OperationRef` shows of an instruction (this project's own).
use Rattle.wasm_ast.specs.declared.instructions.WInstr.{WInstr}
use Rattle.wasm_ast.specs.declared.operation.OperationRef.{OperationRef}
use Rattle.wasm_ast.specs.declared.operation.OperationRef.TheVariants as ref
use Rattle.wasm_ast.specs.Operations.{Operation}

-- the operation that a view borrows
abbrev pub operation_seen : OperationRef → Operation WInstr
operation_seen ref.Unreachable = Operation.Unreachable
operation_seen ref.Nop = Operation.Nop
operation_seen (ref.Block t xs) = Operation.Block t xs.now
operation_seen (ref.Loop t xs) = Operation.Loop t xs.now
operation_seen (ref.If t xs) = Operation.If t xs.now
operation_seen (ref.IfElse t xs ys) = Operation.IfElse t xs.now ys.now
operation_seen (ref.Br label) = Operation.Br label
operation_seen (ref.BrIf label) = Operation.BrIf label
operation_seen (ref.BrTable labels default) = Operation.BrTable labels.now default
operation_seen ref.Return = Operation.Return
operation_seen (ref.Call function) = Operation.Call function
operation_seen (ref.CallIndirect type_index) = Operation.CallIndirect type_index
operation_seen ref.Drop = Operation.Drop
operation_seen ref.Select = Operation.Select
operation_seen (ref.LocalGet n) = Operation.LocalGet n
operation_seen (ref.LocalSet n) = Operation.LocalSet n
operation_seen (ref.LocalTee n) = Operation.LocalTee n
operation_seen (ref.GlobalGet n) = Operation.GlobalGet n
operation_seen (ref.GlobalSet n) = Operation.GlobalSet n
operation_seen (ref.Load t access align offset) = Operation.Load t access align offset
operation_seen (ref.Store t log_width align offset) = Operation.Store t log_width align offset
operation_seen ref.MemorySize = Operation.MemorySize
operation_seen ref.MemoryGrow = Operation.MemoryGrow
operation_seen (ref.Const32 bits) = Operation.Const32 bits
operation_seen (ref.Const64 bits) = Operation.Const64 bits
operation_seen (ref.Eqz t) = Operation.Eqz t
operation_seen (ref.Compare t operator) = Operation.Compare t operator
operation_seen (ref.Unary t operator) = Operation.Unary t operator
operation_seen (ref.Binary t operator) = Operation.Binary t operator
operation_seen (ref.Convert operator) = Operation.Convert operator
