-- The rule of an import by counts of what is imported before it, and how they rise.
use Rattle.std.proofs.Common.{◌≡◌, ◌∙◌, ℕ, List, Option, refl, sym, ap}
use Rattle.wasm_ast.specs.declared.types.FuncType.{FuncType}
use Rattle.wasm_ast.specs.declared.modules.Import.{Import}
use Rattle.wasm_ast.specs.declared.modules.ImportKind.{ImportKind}
use Rattle.wasm_ast.specs.declared.modules.ImportKind.TheVariants.{Func, Table, Memory, Global}
use Rattle.wasm_typing.specs.declared.rule.WRule.{WRule}
use Rattle.wasm_typing.specs.Contexts.{imported_tables, imported_memories}
use Rattle.wasm_typing.specs.Fields.{import_rule, import_kind_rule}
use Rattle.wasm_fields.specs.Counts.{rule_behind}

by_kind : (types : List FuncType) (before : List Import) (k : ImportKind) → import_kind_rule types before k ≡ rule_behind types (imported_tables before) (imported_memories before) k
by_kind types before (Func n) = refl
by_kind types before (Table l) = refl
by_kind types before (Memory l) = refl
by_kind types before (Global t m) = refl

pub rule_counted : (types : List FuncType) (before : List Import) (i : Import) {tables memories : ℕ} {r : Option WRule} → tables ≡ imported_tables before → memories ≡ imported_memories before → r ≡ rule_behind types tables memories i.what → import_rule types before i ≡ r
rule_counted types before i {tables} {memories} et em er =
    by_kind types before i.what
    ∙ ap (λ (n : ℕ). rule_behind types n (imported_memories before) i.what) (sym et)
    ∙ ap (λ (n : ℕ). rule_behind types tables n i.what) (sym em)
    ∙ sym er
