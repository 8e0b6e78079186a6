use Rattle.std.proofs.Common.{◌≡◌, ℕ, ◌<◌, length, get_or}
use Rattle.wasm_typing.specs.Contexts.{context_of}
use Rattle.wasm_typing.specs.Modules.{BodiesAreTypedBefore}
use Rattle.wasm_module_checking.specs.Answers.{IsContextOf}
use Rattle.wasm_module_checking.specs.Heights.{HasHeight}
use Rattle.wasm_module_checking.proofs.codes.check_codes.Given as goal

abbrev pub invariant-loop-k : goal.invariant-loop-k
invariant-loop-k l = record {
  context : IsContextOf l.c (context_of l.m);
  bodies : BodiesAreTypedBefore l.m l.k;
  count : length l.heights ≡ l.k;
  each : (j : ℕ) → j < l.k → HasHeight l.m j (get_or l.heights j 0);
}
