use Rattle.std.proofs.Common.{◌∙◌, sym}
use Rattle.std.proofs.lemmas.Result.{err_from_is_err_and}
use Rattle.wasm_typing.specs.Fields.{segment_rule}
use Rattle.wasm_typing.specs.Modules.{fault_before_codes, first_alone}
use Rattle.wasm_module_checking.proofs.Bodies.{fields_told, same_segments, segments_told}
use Rattle.wasm_module_checking.proofs.module.check_module.Goals as goal

pub returns-in_err-outside : goal.returns-in_err-outside
returns-in_err-outside c =
    let p = err_from_is_err_and c.from_residual-in_err-outside.result c.from_residual-in_err-outside.ensures.1 in
    rw (p.1, p.2) (record { valid = tt; heights = tt; refused = fields_told c.args.m.now c.in_err-outside.field-0.0 (c.in_err-outside.ensures (fault_before_codes c.args.m.now) c.check_before_codes.ensures) })

pub returns-in_err-heights : goal.returns-in_err-heights
returns-in_err-heights c =
    let p = err_from_is_err_and c.from_residual-in_err-heights.result c.from_residual-in_err-heights.ensures.1 in
    rw (p.1, p.2) (record { valid = tt; heights = tt; refused = c.in_err-heights.ensures.refused })

pub returns-in_err-outside-2 : goal.returns-in_err-outside-2
returns-in_err-outside-2 c =
    let p = err_from_is_err_and c.from_residual-in_err-outside-2.result c.from_residual-in_err-outside-2.ensures.1 in
    let C = c.check_codes.new.c in
    rw (p.1, p.2) (record {
      valid = tt;
      heights = tt;
      refused = segments_told c.args.m.now C c.in_err-outside-2.field-0.0 c.in_ok-heights.ensures.same (c.in_ok-outside.ensures (fault_before_codes c.args.m.now) c.check_before_codes.ensures) c.in_ok-heights.ensures.bodies
          (c.in_err-outside-2.ensures (first_alone (segment_rule C) c.args.m.now.segments) c.check_behind_codes.ensures);
    })

pub returns : goal.returns
returns c =
    let C = c.check_codes.new.c in
    record {
      valid = record {
        before = c.in_ok-outside.ensures (fault_before_codes c.args.m.now) c.check_before_codes.ensures;
        codes = c.in_ok-heights.ensures.bodies;
        behind = sym (same_segments c.args.m.now C c.in_ok-heights.ensures.same) ∙ c.in_ok-outside-2.ensures (first_alone (segment_rule C) c.args.m.now.segments) c.check_behind_codes.ensures;
      };
      heights = c.in_ok-heights.ensures.heights;
      refused = tt;
    }
