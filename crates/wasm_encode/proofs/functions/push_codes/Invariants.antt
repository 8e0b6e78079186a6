use Rattle.std.proofs.Common.{◌≡◌, ◌++◌, take, length}
use Rattle.std.specs.List.{flat_map}
use Rattle.wasm_leb.specs.Leb.{unsigned_least}
use Rattle.wasm_grammar.specs.CanonicalModules.{code_bytes}
use Rattle.wasm_encode.proofs.functions.push_codes.Given as goal

abbrev pub invariant-loop-code : goal.invariant-loop-code
invariant-loop-code l = l.out.items ≡ l.fn.out.items ++ (unsigned_least 5 (length l.codes) ++ flat_map code_bytes (take l.code-index l.codes))
