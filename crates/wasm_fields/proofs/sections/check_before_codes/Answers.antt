use Rattle.std.proofs.Common.{◌∙◌, Err, refl}
use Rattle.std.proofs.lemmas.Result.{err_from_is_err_and}
use Rattle.wasm_fields.specs.Sections.{all_sections}
use Rattle.wasm_fields.specs.declared.section.Section.TheVariants.{Imports}
use Rattle.wasm_fields.proofs.SectionFaults.{tells_as, section_refused, section_passed, sections_done}
use Rattle.wasm_fields.proofs.sections.check_before_codes.Goals as goal

pub returns-in_err-check_section : goal.returns-in_err-check_section
returns-in_err-check_section c =
    let p = err_from_is_err_and c.from_residual.result c.from_residual.ensures.1 in
    rw (p.1, p.2) (tells_as (Err c.in_err-check_section.field-0.0) c.loop-section.invariant (section_refused c.args.m.now all_sections c.loop-section.section-index Imports _ _ c.loop-section-test.true refl c.in_err-check_section.ensures))

pub loop-section-preserved : goal.loop-section-preserved
loop-section-preserved c = c.loop-section.invariant ∙ section_passed c.args.m.now all_sections c.loop-section.section-index Imports _ c.loop-section-test.true refl c.in_ok-check_section.ensures

pub returns : goal.returns
returns c = c.loop-section.invariant ∙ sections_done c.args.m.now all_sections c.loop-section.section-index c.loop-section-test.false
