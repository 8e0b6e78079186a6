use Rattle.std.proofs.Common.{ap}
use Rattle.wasm_reading.specs.Readers.{◌>>=◌}
use Rattle.wasm_reading.specs.ReadTypes.{flag_of, at_most}
use Rattle.wasm_items.specs.LimitsStates.{rest_of_limits, behind_minimum}
use Rattle.wasm_items.proofs.BoundedSteps.{takes_bounded}
use Rattle.wasm_items.proofs.Taking.{takes_of, takes_then, takes_tag_ok}
use Rattle.wasm_items.proofs.limits.LimitsState.push.Goals as goal

pub returns-in_ok-flag-in-Flag : goal.returns-in_ok-flag-in-Flag
returns-in_ok-flag-in-Flag c =
    takes_of (ap rest_of_limits c.in-Flag.is)
    (takes_bounded c.in-Flag.most c.start.result (behind_minimum c.in_ok-flag-in-Flag.field-0) c.start.ensures
    (takes_then (λ has_maximum. at_most c.in-Flag.most >>= behind_minimum has_maximum) (takes_tag_ok c.args.byte c.args.at flag_of c.in_ok-flag-in-Flag.ensures)))
