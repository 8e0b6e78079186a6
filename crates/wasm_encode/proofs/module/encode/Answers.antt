use Rattle.std.proofs.Common.{append_assoc}
use Rattle.wasm_encode.proofs.FirstLong.{no_section, one_more, exit, all_fit}
use Rattle.wasm_encode.proofs.module.encode.Goals as goal

pub returns-in_err-push_section-clause-long : goal.returns-in_err-push_section-clause-long
returns-in_err-push_section-clause-long c =
    exit c.from_residual-in_err-push_section.result c.in_err-push_section.field-0.0 c.from_residual-in_err-push_section.ensures.1
    (no_section c.args.m.now)
    c.in_err-push_section.ensures.cause

pub returns-in_err-push_section-2-clause-long : goal.returns-in_err-push_section-2-clause-long
returns-in_err-push_section-2-clause-long c =
    exit c.from_residual-in_err-push_section-2.result c.in_err-push_section-2.field-0.0 c.from_residual-in_err-push_section-2.ensures.1
    (one_more (no_section c.args.m.now) c.in_ok-push_section.ensures.short)
    c.in_err-push_section-2.ensures.cause

pub returns-in_err-push_section-3-clause-long : goal.returns-in_err-push_section-3-clause-long
returns-in_err-push_section-3-clause-long c =
    exit c.from_residual-in_err-push_section-3.result c.in_err-push_section-3.field-0.0 c.from_residual-in_err-push_section-3.ensures.1
    (one_more (one_more (no_section c.args.m.now) c.in_ok-push_section.ensures.short) c.in_ok-push_section-2.ensures.short)
    c.in_err-push_section-3.ensures.cause

pub returns-in_err-push_table_section-clause-long : goal.returns-in_err-push_table_section-clause-long
returns-in_err-push_table_section-clause-long c =
    exit c.from_residual-in_err-push_table_section.result c.in_err-push_table_section.field-0.0 c.from_residual-in_err-push_table_section.ensures.1
    (one_more (one_more (one_more (no_section c.args.m.now) c.in_ok-push_section.ensures.short) c.in_ok-push_section-2.ensures.short) c.in_ok-push_section-3.ensures.short)
    c.in_err-push_table_section.ensures.cause

pub returns-in_err-push_section-4-clause-long : goal.returns-in_err-push_section-4-clause-long
returns-in_err-push_section-4-clause-long c =
    exit c.from_residual-in_err-push_section-4.result c.in_err-push_section-4.field-0.0 c.from_residual-in_err-push_section-4.ensures.1
    (one_more (one_more (one_more (one_more (no_section c.args.m.now) c.in_ok-push_section.ensures.short) c.in_ok-push_section-2.ensures.short) c.in_ok-push_section-3.ensures.short) c.in_ok-push_table_section.ensures.short)
    c.in_err-push_section-4.ensures.cause

pub returns-in_err-push_section-5-clause-long : goal.returns-in_err-push_section-5-clause-long
returns-in_err-push_section-5-clause-long c =
    exit c.from_residual-in_err-push_section-5.result c.in_err-push_section-5.field-0.0 c.from_residual-in_err-push_section-5.ensures.1
    (one_more (one_more (one_more (one_more (one_more (no_section c.args.m.now) c.in_ok-push_section.ensures.short) c.in_ok-push_section-2.ensures.short) c.in_ok-push_section-3.ensures.short) c.in_ok-push_table_section.ensures.short) c.in_ok-push_section-4.ensures.short)
    c.in_err-push_section-5.ensures.cause

pub returns-in_err-push_section-6-clause-long : goal.returns-in_err-push_section-6-clause-long
returns-in_err-push_section-6-clause-long c =
    exit c.from_residual-in_err-push_section-6.result c.in_err-push_section-6.field-0.0 c.from_residual-in_err-push_section-6.ensures.1
    (one_more (one_more (one_more (one_more (one_more (one_more (no_section c.args.m.now) c.in_ok-push_section.ensures.short) c.in_ok-push_section-2.ensures.short) c.in_ok-push_section-3.ensures.short) c.in_ok-push_table_section.ensures.short) c.in_ok-push_section-4.ensures.short) c.in_ok-push_section-5.ensures.short)
    c.in_err-push_section-6.ensures.cause

pub returns-in_err-push_start_section-clause-long : goal.returns-in_err-push_start_section-clause-long
returns-in_err-push_start_section-clause-long c =
    exit c.from_residual-in_err-push_start_section.result c.in_err-push_start_section.field-0.0 c.from_residual-in_err-push_start_section.ensures.1
    (one_more (one_more (one_more (one_more (one_more (one_more (one_more (no_section c.args.m.now) c.in_ok-push_section.ensures.short) c.in_ok-push_section-2.ensures.short) c.in_ok-push_section-3.ensures.short) c.in_ok-push_table_section.ensures.short) c.in_ok-push_section-4.ensures.short) c.in_ok-push_section-5.ensures.short) c.in_ok-push_section-6.ensures.short)
    c.in_err-push_start_section.ensures.cause

pub returns-in_err-push_section-7-clause-long : goal.returns-in_err-push_section-7-clause-long
returns-in_err-push_section-7-clause-long c =
    exit c.from_residual-in_err-push_section-7.result c.in_err-push_section-7.field-0.0 c.from_residual-in_err-push_section-7.ensures.1
    (one_more (one_more (one_more (one_more (one_more (one_more (one_more (one_more (no_section c.args.m.now) c.in_ok-push_section.ensures.short) c.in_ok-push_section-2.ensures.short) c.in_ok-push_section-3.ensures.short) c.in_ok-push_table_section.ensures.short) c.in_ok-push_section-4.ensures.short) c.in_ok-push_section-5.ensures.short) c.in_ok-push_section-6.ensures.short) c.in_ok-push_start_section.ensures.short)
    c.in_err-push_section-7.ensures.cause

pub returns-in_err-push_code_section-clause-long : goal.returns-in_err-push_code_section-clause-long
returns-in_err-push_code_section-clause-long c =
    exit c.from_residual-in_err-push_code_section.result c.in_err-push_code_section.field-0.0 c.from_residual-in_err-push_code_section.ensures.1
    (one_more (one_more (one_more (one_more (one_more (one_more (one_more (one_more (one_more (no_section c.args.m.now) c.in_ok-push_section.ensures.short) c.in_ok-push_section-2.ensures.short) c.in_ok-push_section-3.ensures.short) c.in_ok-push_table_section.ensures.short) c.in_ok-push_section-4.ensures.short) c.in_ok-push_section-5.ensures.short) c.in_ok-push_section-6.ensures.short) c.in_ok-push_start_section.ensures.short) c.in_ok-push_section-7.ensures.short)
    c.in_err-push_code_section.ensures.cause

pub returns-in_err-push_section-8-clause-long : goal.returns-in_err-push_section-8-clause-long
returns-in_err-push_section-8-clause-long c =
    exit c.from_residual-in_err-push_section-8.result c.in_err-push_section-8.field-0.0 c.from_residual-in_err-push_section-8.ensures.1
    (one_more (one_more (one_more (one_more (one_more (one_more (one_more (one_more (one_more (one_more (no_section c.args.m.now) c.in_ok-push_section.ensures.short) c.in_ok-push_section-2.ensures.short) c.in_ok-push_section-3.ensures.short) c.in_ok-push_table_section.ensures.short) c.in_ok-push_section-4.ensures.short) c.in_ok-push_section-5.ensures.short) c.in_ok-push_section-6.ensures.short) c.in_ok-push_start_section.ensures.short) c.in_ok-push_section-7.ensures.short) c.in_ok-push_code_section.ensures.short)
    c.in_err-push_section-8.ensures.cause

pub returns-clause-bytes : goal.returns-clause-bytes
returns-clause-bytes c =
    rw (c.in_ok-push_section-8.ensures.ok, c.in_ok-push_code_section.ensures.ok, c.in_ok-push_section-7.ensures.ok, c.in_ok-push_start_section.ensures.ok, c.in_ok-push_section-6.ensures.ok, c.in_ok-push_section-5.ensures.ok, c.in_ok-push_section-4.ensures.ok, c.in_ok-push_table_section.ensures.ok, c.in_ok-push_section-3.ensures.ok, c.in_ok-push_section-2.ensures.ok, c.in_ok-push_section.ensures.ok, c.in_ok-out.ensures.items) (simp append_assoc)

pub returns-clause-fits : goal.returns-clause-fits
returns-clause-fits c = all_fit (one_more (one_more (one_more (one_more (one_more (one_more (one_more (one_more (one_more (one_more (one_more (no_section c.args.m.now) c.in_ok-push_section.ensures.short) c.in_ok-push_section-2.ensures.short) c.in_ok-push_section-3.ensures.short) c.in_ok-push_table_section.ensures.short) c.in_ok-push_section-4.ensures.short) c.in_ok-push_section-5.ensures.short) c.in_ok-push_section-6.ensures.short) c.in_ok-push_start_section.ensures.short) c.in_ok-push_section-7.ensures.short) c.in_ok-push_code_section.ensures.short) c.in_ok-push_section-8.ensures.short)
