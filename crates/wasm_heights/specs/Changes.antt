-- How many operands an instruction takes and gives, by its signature (WebAssembly Core Specification 1.0, section 3.3).
use Rattle.std.specs.Prelude.{ℕ, ◌+◌, ◌-◌, max, Option, Some, None, Result, Ok, Err, length}
use Rattle.wasm_ast.specs.declared.instructions.WInstr.{WInstr}
use Rattle.wasm_ast.specs.Operations.{Operation}
use Rattle.wasm_typing.specs.declared.rule.WRule.{WRule}
use Rattle.wasm_typing.specs.declared.context.Context.{Context}
use Rattle.wasm_typing.specs.Signatures.{Left, Gives, Anything, Signature, signature_of}
use Rattle.wasm_typing.specs.Typing.{Labels}
use Rattle.wasm_typing.specs.Heights.{Met, count}
use Rattle.wasm_heights.specs.declared.change.Change.{Change}
use Rattle.wasm_heights.specs.declared.height.Stood.{Stood}

abbrev pub change_left : Left → ℕ → Option Change
change_left (Gives g) takes = Some (record { takes = takes; gives = count g })
change_left Anything takes = None

-- nothing, where it never goes on
abbrev pub change_of : Result Signature WRule → Option Change
change_of (Err rule) = None
change_of (Ok s) = change_left s.left (length s.takes)

-- of an operation that nests none
abbrev pub change_by : Context → Labels → Operation WInstr → Option Change
change_by C ls o = change_of (signature_of C ls o)

-- what a change makes of a number of operands
abbrev pub met_change : Option Change → ℕ → Met
met_change None n = record { after = None; most = n }
met_change (Some c) n = record { after = Some (n - c.takes + c.gives); most = max n (n - c.takes + c.gives) }

-- what code tells, as the definition has it
abbrev pub met_seen : Stood → Met
met_seen m = record { after = m.after; most = m.most }
