use Rattle.std.proofs.Common.{refl}
use Rattle.wasm_decode.proofs.CustomSections.{stands_on}
use Rattle.wasm_decode.proofs.LyingInCustom.{no_error_in_custom}
use Rattle.wasm_decode.proofs.Decoding.{answer_advanced, answer_stopped_or, custom_less, custom_no_error}
use Rattle.wasm_decode.proofs.state.DecoderState.push.Goals as goal

pub returns-in-Ok-clause-ok : goal.returns-in-Ok-clause-ok
returns-in-Ok-clause-ok c = λ rest. rw c.set.ensures (answer_advanced c.args.self.now _ c.args.byte c.requires c.requires refl (rw c.replace-step.ensures.value at c.in-Ok.ensures.advances) rest)

pub returns-in-Ok-clause-left : goal.returns-in-Ok-clause-left
returns-in-Ok-clause-left c = rw c.set.ensures (custom_less c.args.self.now.step c.in-Ok.step (rw c.replace-step.ensures.value at c.in-Ok.ensures.custom))

pub returns-in-Ok-clause-stands : goal.returns-in-Ok-clause-stands
returns-in-Ok-clause-stands c =
    rw c.set.ensures
    (stands_on c.args.self.now _ c.args.byte
    (answer_advanced c.args.self.now _ c.args.byte c.requires c.requires refl (rw c.replace-step.ensures.value at c.in-Ok.ensures.advances)) c.requires refl
    (record {
      begins = rw c.replace-step.ensures.value at c.in-Ok.ensures.begins;
      sized = rw c.replace-step.ensures.value at c.in-Ok.ensures.sized;
      custom = rw c.replace-step.ensures.value at c.in-Ok.ensures.custom;
    }))

pub returns-in-Err-clause-err : goal.returns-in-Err-clause-err
returns-in-Err-clause-err c = rw c.fail-in-Err.ensures.result (answer_stopped_or c.args.self.now c.args.byte c.in-Err.e c.requires (rw c.replace-step.ensures.value at c.in-Err.ensures.advances))

pub returns-in-Err-clause-custom : goal.returns-in-Err-clause-custom
returns-in-Err-clause-custom c = λ some place. absurd (custom_no_error c.args.self.now.step c.in-Err.e (rw c.replace-step.ensures.value at c.in-Err.ensures.custom) some)

pub returns-in-Err-clause-in_custom : goal.returns-in-Err-clause-in_custom
returns-in-Err-clause-in_custom c = λ fed s lies small.
    absurd (no_error_in_custom c.args.self.now c.args.byte c.in-Err.e fed
    (record {
      begins = rw c.replace-step.ensures.value at c.in-Err.ensures.begins;
      sized = rw c.replace-step.ensures.value at c.in-Err.ensures.sized;
      custom = rw c.replace-step.ensures.value at c.in-Err.ensures.custom;
    }) s lies)
