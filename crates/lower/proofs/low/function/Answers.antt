use Rattle.std.proofs.Common.{◌≡◌, ◌∙◌, IfOk, subst, sym}
use Rattle.wasm_ast.specs.declared.modules.Code.{Code}
use Rattle.rw_program.specs.declared.linked.LinkedFunc.{LinkedFunc}
use Rattle.lowering_table.specs.Codes.{low_function}
use Rattle.lowering_table.proofs.PlainBodies.{low_function-plain}
use Rattle.lower.specs.Lone.{lone_code}
use Rattle.lower.proofs.low.function.Goals as goal

-- the code of a function with a plain body
pub returns : goal.returns
returns c =
    let h = c.requires in
    let f = c.args.func.now in
    let is : lone_code f.body f.notes ≡ low_function f =
    subst (λ (g : LinkedFunc). lone_code g.body g.notes ≡ low_function g) (sym h.is) (sym (low_function-plain h.body h.notes h.plain)) in
    let slices : lone_code c.as_slice-body.result.now c.as_slice-notes.result.now ≡ lone_code f.body f.notes =
    λ i. lone_code (c.as_slice-body.ensures.items i) (c.as_slice-notes.ensures.items i) in
    subst (λ (x : Code). IfOk c.lone_function.result (λ code. code ≡ x)) (slices ∙ is) c.lone_function.ensures
