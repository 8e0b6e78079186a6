use Rattle.std.proofs.Common.{◌∙◌, ◌+◌, ◌++◌, ℕ, List, ap, subst}
use Rattle.wasm_ast.specs.declared.instructions.WInstr.{WInstr}
use Rattle.wasm_ast.specs.declared.types.ValTy.{ValTy}
use Rattle.wasm_ast.specs.declared.modules.LocalRun.{LocalRun}
use Rattle.wasm_typing.specs.declared.context.Context.{Context}
use Rattle.wasm_typing.specs.Contexts.{context_of, declared_locals}
use Rattle.wasm_typing.specs.Heights.{height_of}
use Rattle.wasm_typing.specs.Typing.{IsTypedBody}
use Rattle.wasm_typing.specs.Violations.{IsFirstViolation}
use Rattle.wasm_typing_laws.proofs.HeightPoints.{height-is-met}
use Rattle.wasm_module_checking.proofs.Bodies.{checked, body_there, refused_code, context_kept}
use Rattle.wasm_module_checking.proofs.codes.check_code.Goals as goal

pub returns-in_ok-height_of-in-Ok : goal.returns-in_ok-height_of-in-Ok
returns-in_ok-height_of-in-Ok c =
    let C : Context = record c.args.c.now { locals = c.in_ok-c.field-0; result = c.type_of-f.result.now.result } in
    let locals = c.in_ok-c.ensures ∙ ap (λ (ps : List ValTy). ps ++ declared_locals c.as_slice-2.result.now) c.as_slice.ensures.items ∙ ap (λ (rs : List LocalRun). c.type_of-f.result.now.params ++ declared_locals rs) c.as_slice-2.ensures.items in
    let body = body_there c.args.m.now c.args.k c.args.c.now c.type_of-f.result.now c.args.code.now c.in_ok-c.field-0 c.requires.context c.type_of-f.ensures c.requires.there locals in
    record {
      checked = checked c.args.m.now c.args.k C c.args.code.now c.in_ok-height_of-in-Ok.field-0 height-is-met body
          (subst (λ (xs : List WInstr). IsTypedBody C xs) c.as_slice-body.ensures.items c.in-Ok.ensures.valid)
          (c.in_ok-height_of-in-Ok.ensures ∙ ap (height_of C) c.as_slice-body.ensures.items);
      same = context_kept c.args.c.now (context_of c.args.m.now) c.in_ok-c.field-0 c.type_of-f.result.now.result c.requires.context;
      refused = tt;
    }

pub returns-in-Err-Invalid : goal.returns-in-Err-Invalid
returns-in-Err-Invalid c =
    let C : Context = record c.args.c.now { locals = c.in_ok-c.field-0; result = c.type_of-f.result.now.result } in
    let locals = c.in_ok-c.ensures ∙ ap (λ (ps : List ValTy). ps ++ declared_locals c.as_slice-2.result.now) c.as_slice.ensures.items ∙ ap (λ (rs : List LocalRun). c.type_of-f.result.now.params ++ declared_locals rs) c.as_slice-2.ensures.items in
    let body = body_there c.args.m.now c.args.k c.args.c.now c.type_of-f.result.now c.args.code.now c.in_ok-c.field-0 c.requires.context c.type_of-f.ensures c.requires.there locals in
    record {
      checked = tt;
      same = tt;
      refused = refused_code c.args.m.now c.args.k C c.args.code.now (c.function_imports.result + c.args.k) c.in-Err-Invalid.at c.in-Err-Invalid.rule c.invalid.result body
          (subst (λ (xs : List WInstr). IsFirstViolation C xs c.in-Err-Invalid.at c.in-Err-Invalid.rule) c.as_slice-body.ensures.items (c.check_body.ensures.invalid c.in-Err-Invalid.at c.in-Err-Invalid.rule (cc)))
          (ap (λ (n : ℕ). n + c.args.k) c.function_imports.ensures.count) c.in-Err-Invalid.at-is c.in-Err-Invalid.rule-is c.invalid.ensures;
    }
