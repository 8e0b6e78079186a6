-- The rule of an import by how many tables and memories are imported before it (WebAssembly Core Specification 1.0, section
-- 3.4.10).
use Rattle.std.specs.Prelude.{ℕ, List, Option, None}
use Rattle.wasm_ast.specs.declared.types.FuncType.{FuncType}
use Rattle.wasm_ast.specs.declared.modules.ImportKind.{ImportKind}
use Rattle.wasm_ast.specs.declared.modules.ImportKind.TheVariants.{Func, Table, Memory, Global}
use Rattle.wasm_typing.specs.declared.rule.WRule.{WRule}
use Rattle.wasm_typing.specs.declared.rule.WRule.TheVariants.{TypeIndex}
use Rattle.wasm_typing.specs.Fields.{breaks_unless, is_index, table_rule, memory_rule}

abbrev pub rule_behind : List FuncType → ℕ → ℕ → ImportKind → Option WRule
rule_behind types tables memories (Func n) = breaks_unless (is_index n types) TypeIndex
rule_behind types tables memories (Table l) = table_rule tables l
rule_behind types tables memories (Memory l) = memory_rule memories l
rule_behind types tables memories (Global t mutable) = None
