-- How counts of imported tables and memories rise.
use Rattle.std.proofs.Common.{◌≡◌, ◌∙◌, ℕ, ◌+◌, ◌<◌, List, [], ◌∷◌, ◌++◌, length, take, get_or, refl, sym, ap, length-append, arith}
use Rattle.std.proofs.lemmas.List.{take_more}
use Rattle.wasm_ast.specs.declared.modules.Import.{Import}
use Rattle.wasm_ast.specs.declared.types.FuncType.{FuncType}
use Rattle.wasm_typing.specs.Contexts.{function_type, imported_functions, imported_tables, imported_memories, table_count, memory_count}
use Rattle.wasm_contexts.proofs.Pushes.{one_put}

tables_end : (es : List Import) (e : Import) → imported_tables (es ++ e ∷ []) ≡ imported_tables es + table_count e.what
tables_end [] e = omega arith
tables_end (x ∷ es) e = omega (arith, tables_end es e)

memories_end : (es : List Import) (e : Import) → imported_memories (es ++ e ∷ []) ≡ imported_memories es + memory_count e.what
memories_end [] e = omega arith
memories_end (x ∷ es) e = omega (arith, memories_end es e)

front : (xs : List Import) (i : ℕ) (x : Import) → i < length xs → x ≡ get_or xs i x → take (i + 1) xs ≡ take i xs ++ x ∷ []
front xs i x lt e = take_more xs i x lt ∙ ap (λ (y : Import). take i xs ++ y ∷ []) (sym e)

pub tables_more : (xs : List Import) (i : ℕ) (x : Import) {n k : ℕ} → i < length xs → x ≡ get_or xs i x → n ≡ imported_tables (take i xs) → k ≡ table_count x.what → n + k ≡ imported_tables (take (i + 1) xs)
tables_more xs i x lt e en ek = let whole = ap imported_tables (front xs i x lt e) ∙ tables_end (take i xs) x in omega (arith, whole)

pub memories_more : (xs : List Import) (i : ℕ) (x : Import) {n k : ℕ} → i < length xs → x ≡ get_or xs i x → n ≡ imported_memories (take i xs) → k ≡ memory_count x.what → n + k ≡ imported_memories (take (i + 1) xs)
memories_more xs i x lt e en ek = let whole = ap imported_memories (front xs i x lt e) ∙ memories_end (take i xs) x in omega (arith, whole)

pub functions_more : (types : List FuncType) (xs : List Import) (i : ℕ) (x : Import) {n k : ℕ} → i < length xs → x ≡ get_or xs i x → n ≡ length (imported_functions types (take i xs)) → k ≡ length (function_type types x.what) → n + k ≡ length (imported_functions types (take (i + 1) xs))
functions_more types xs i x {n} {k} lt e en ek =
    let put : imported_functions types (take i xs) ++ function_type types x.what ≡ imported_functions types (take (i + 1) xs) = one_put (λ (y : Import). function_type types y.what) [] (imported_functions types (take i xs)) _ xs i x x lt e refl refl in
    let joined = length-append (imported_functions types (take i xs)) (function_type types x.what) in
    omega (arith, ap length put, joined, en, ek)
