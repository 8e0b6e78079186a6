use Rattle.std.proofs.Common.{ap}
use Rattle.rw_types.specs.declared.modules.Module.{Module}
use Rattle.rw_field_forms.specs.declared.heads.FieldKind.TheVariants.{Import, Function, Global, Export}
use Rattle.rw_field_forms.proofs.Filling.{added}
use Rattle.rw_field_forms.proofs.order.read_field.Goals as goal

pub returns-in_ok-push-in-Import : goal.returns-in_ok-push-in-Import
returns-in_ok-push-in-Import c =
    let m = c.args.parsed.now in
    added Import c.in-Import.is c.in_ok-read_import-in-Import.ensures (ap (λ xs. let n : Module = record { imports = xs; funcs = m.funcs; globals = m.globals; exports = m.exports } in n) c.in_ok-push-in-Import.ensures.ok)

pub returns-in_ok-push-in-Function : goal.returns-in_ok-push-in-Function
returns-in_ok-push-in-Function c =
    let m = c.args.parsed.now in
    added Function c.in-Function.is c.in_ok-read_function-in-Function.ensures (ap (λ xs. let n : Module = record { imports = m.imports; funcs = xs; globals = m.globals; exports = m.exports } in n) c.in_ok-push-in-Function.ensures.ok)

pub returns-in_ok-push-in-Global : goal.returns-in_ok-push-in-Global
returns-in_ok-push-in-Global c =
    let m = c.args.parsed.now in
    added Global c.in-Global.is c.in_ok-read_global-in-Global.ensures (ap (λ xs. let n : Module = record { imports = m.imports; funcs = m.funcs; globals = xs; exports = m.exports } in n) c.in_ok-push-in-Global.ensures.ok)

pub returns-in_ok-push-in-Export : goal.returns-in_ok-push-in-Export
returns-in_ok-push-in-Export c =
    let m = c.args.parsed.now in
    added Export c.in-Export.is c.in_ok-export_fields-in-Export.ensures (ap (λ xs. let n : Module = record { imports = m.imports; funcs = m.funcs; globals = m.globals; exports = xs } in n) c.in_ok-push-in-Export.ensures.ok)
