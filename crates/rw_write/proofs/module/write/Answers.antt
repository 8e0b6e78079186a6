use Rattle.std.proofs.Common.{◌∙◌, ◌++◌, ℕ, List, ap}
use Rattle.std.specs.Prelude.{codes}
use Rattle.rw_types.specs.declared.modules.ExportDef.{ExportDef}
use Rattle.rw_types.specs.declared.modules.FuncDef.{FuncDef}
use Rattle.rw_types.specs.declared.modules.GlobalDef.{GlobalDef}
use Rattle.rw_types.specs.declared.modules.ImportDef.{ImportDef}
use Rattle.rich_writing.specs.Modules.{lines, import_text, function_text, global_text, export_text}
use Rattle.rw_plain_texts.proofs.Appended.{both}
use Rattle.rw_write.proofs.module.write.Goals as goal

pub returns : goal.returns
returns c =
    let imports = lines import_text c.args.source.now.imports in
    let functions = lines function_text c.args.source.now.funcs in
    let globals = lines global_text c.args.source.now.globals in
    let exports = lines export_text c.args.source.now.exports in
    let close = codes ")\n" in
    both _ _ _ imports (functions ++ (globals ++ (exports ++ close))) (c.in_ok-push_lines.ensures ∙ ap (λ (z : List ImportDef). c.in_ok-out.out.items ++ lines import_text z) c.as_slice.ensures.items)
    (both _ _ _ functions (globals ++ (exports ++ close)) (c.in_ok-push_lines-2.ensures ∙ ap (λ (z : List FuncDef). c.push_lines.new.out.items ++ lines function_text z) c.as_slice-2.ensures.items)
    (both _ _ _ globals (exports ++ close) (c.in_ok-push_lines-3.ensures ∙ ap (λ (z : List GlobalDef). c.push_lines-2.new.out.items ++ lines global_text z) c.as_slice-3.ensures.items)
    (both _ _ _ exports close (c.in_ok-push_lines-4.ensures ∙ ap (λ (z : List ExportDef). c.push_lines-3.new.out.items ++ lines export_text z) c.as_slice-4.ensures.items) c.in_ok-extend_from_slice.ensures.items)))
    ∙ ap (λ (z : List ℕ). z ++ (imports ++ (functions ++ (globals ++ (exports ++ close))))) c.in_ok-out.ensures.items
