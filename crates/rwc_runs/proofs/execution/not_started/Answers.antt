use Rattle.std.proofs.Common.{refl, subst}
use Rattle.wasm_ast.specs.declared.modules.WModule.{WModule}
use Rattle.wasm_starts.specs.Answers.{TellsStart}
use Rattle.rwc_acts.proofs.Loading.{refused_step}
use Rattle.rwc_reports.specs.Executables.{ModuleStarts, unknown_import, segment_out}
use Rattle.rwc_runs.proofs.execution.not_started.Goals as goal

pub returns-in-UnknownImport : goal.returns-in-UnknownImport
returns-in-UnknownImport c = λ m tells.
    refused_step (λ (n : WModule). n) (ModuleStarts c.args.file.now m) 9 c.unknown_import.result c.refused.result _ c.refused.ensures c.unknown_import.ensures
    (unknown_import c.in-UnknownImport.import (subst (TellsStart m) c.in-UnknownImport.is tells) refl)

pub returns-in-SegmentOut : goal.returns-in-SegmentOut
returns-in-SegmentOut c = λ m tells.
    refused_step (λ (n : WModule). n) (ModuleStarts c.args.file.now m) 9 c.segment_out.result c.refused-in-SegmentOut.result _ c.refused-in-SegmentOut.ensures c.segment_out.ensures
    (segment_out c.in-SegmentOut.segment (subst (TellsStart m) c.in-SegmentOut.is tells) refl)
