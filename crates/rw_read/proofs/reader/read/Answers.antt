use Rattle.std.proofs.Common.{ap}
use Rattle.rich_text_laws.proofs.Whole.{read_is_spelled}
use Rattle.rw_parser.specs.Reads.{Parse}
use Rattle.rw_read.proofs.Wholes.{encoded_read, fails_told, only_one, told_none, well_formed}
use Rattle.rw_read.proofs.reader.read.Goals as goal

pub returns-in-Ok-clause-reads : goal.returns-in-Ok-clause-reads
returns-in-Ok-clause-reads c = encoded_read c.args.bytes.now (ap (λ (p : Parse). p.text) c.new.ensures) (well_formed c.args.bytes.now _ c.in_default.not-Some c.first_ill_formed.ensures) c.in-Ok.ensures

pub returns-in-Ok-clause-spelled : goal.returns-in-Ok-clause-spelled
returns-in-Ok-clause-spelled c =
    read_is_spelled c.args.bytes.now c.in-Ok.module
    (encoded_read c.args.bytes.now (ap (λ (p : Parse). p.text) c.new.ensures) (well_formed c.args.bytes.now _ c.in_default.not-Some c.first_ill_formed.ensures) c.in-Ok.ensures)

pub returns-in-Ok-clause-only : goal.returns-in-Ok-clause-only
returns-in-Ok-clause-only c =
    only_one c.args.bytes.now c.in-Ok.module
    (encoded_read c.args.bytes.now (ap (λ (p : Parse). p.text) c.new.ensures) (well_formed c.args.bytes.now _ c.in_default.not-Some c.first_ill_formed.ensures) c.in-Ok.ensures)

pub returns-in-Err-clause-fault : goal.returns-in-Err-clause-fault
returns-in-Err-clause-fault c =
    fails_told c.args.bytes.now c.in-Err.error c.error_of.result (ap (λ (p : Parse). p.text) c.new.ensures) (well_formed c.args.bytes.now _ c.in_default.not-Some c.first_ill_formed.ensures) c.in-Err.ensures c.error_of.ensures

pub returns-in-Err-clause-none : goal.returns-in-Err-clause-none
returns-in-Err-clause-none c =
    told_none c.args.bytes.now c.error_of.result
    (fails_told c.args.bytes.now c.in-Err.error c.error_of.result (ap (λ (p : Parse). p.text) c.new.ensures) (well_formed c.args.bytes.now _ c.in_default.not-Some c.first_ill_formed.ensures) c.in-Err.ensures c.error_of.ensures)
