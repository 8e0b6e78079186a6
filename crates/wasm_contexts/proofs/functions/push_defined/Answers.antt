use Rattle.std.proofs.Common.{refl}
use Rattle.std.proofs.Common.{ℕ}
use Rattle.std.specs.Prelude.{option_to_list, slice_get}
use Rattle.wasm_contexts.proofs.Pushes.{none_put, one_put, all_put}
use Rattle.wasm_contexts.proofs.functions.push_defined.Goals as goal

pub loop-n-init : goal.loop-n-init
loop-n-init c = none_put (λ (n : ℕ). option_to_list (slice_get c.args.types.now n)) c.args.functions.now c.args.funcs.now

pub loop-n-preserved : goal.loop-n-preserved
loop-n-preserved c = one_put (λ (n : ℕ). option_to_list (slice_get c.args.types.now n)) c.args.functions.now c.loop-n.functions c.push_type.new.functions c.args.funcs.now c.loop-n.n-index _ _ c.loop-n-test.true refl c.loop-n.invariant c.in_ok-push_type.ensures

pub returns : goal.returns
returns c = all_put (λ (n : ℕ). option_to_list (slice_get c.args.types.now n)) c.args.functions.now c.loop-n.functions c.args.funcs.now c.loop-n.n-index c.loop-n-test.false c.loop-n.invariant
