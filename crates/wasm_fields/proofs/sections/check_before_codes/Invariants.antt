use Rattle.std.proofs.Common.{◌≡◌, map, drop}
use Rattle.wasm_typing.specs.Modules.{earliest, fault_before_codes}
use Rattle.wasm_fields.specs.Sections.{section_fault, all_sections}
use Rattle.wasm_fields.proofs.sections.check_before_codes.Given as goal

abbrev pub invariant-loop-section : goal.invariant-loop-section
invariant-loop-section l = fault_before_codes l.m ≡ earliest (map (section_fault l.m) (drop l.section-index all_sections))
