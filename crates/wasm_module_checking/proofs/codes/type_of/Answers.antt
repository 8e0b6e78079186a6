use Rattle.std.proofs.Common.{◌∙◌, get_or, length, ap, arith}
use Rattle.std.specs.Prelude.{ℕ, List}
use Rattle.wasm_ast.specs.declared.types.FuncType.{FuncType}
use Rattle.wasm_module_checking.proofs.Bodies.{found, index_below}
use Rattle.wasm_module_checking.proofs.codes.type_of.Goals as goal

pub bounds-as_slice-n : goal.bounds-as_slice-n
bounds-as_slice-n c =
    let listed = found c.args.m.now.funcs c.args.k 0 (get_or c.as_slice.result.now c.args.k 0) c.requires.there (ap (λ (xs : List ℕ). get_or xs c.args.k 0) c.as_slice.ensures.items) in
    let below = index_below c.args.m.now c.args.k (get_or c.as_slice.result.now c.args.k 0) c.requires.typed listed in
    omega (arith, below, ap length c.as_slice-2.ensures.items)

pub returns : goal.returns
returns c =
    let listed = found c.args.m.now.funcs c.args.k 0 (get_or c.as_slice.result.now c.args.k 0) c.requires.there (ap (λ (xs : List ℕ). get_or xs c.args.k 0) c.as_slice.ensures.items) in
    let below = index_below c.args.m.now c.args.k (get_or c.as_slice.result.now c.args.k 0) c.requires.typed listed in
    record {
      index = get_or c.as_slice.result.now c.args.k 0;
      listed = listed;
      typed = found c.args.m.now.types (get_or c.as_slice.result.now c.args.k 0) c.index-as_slice-n.result c.index-as_slice-n.result below
          (c.index-as_slice-n.is ∙ ap (λ (xs : List FuncType). get_or xs (get_or c.as_slice.result.now c.args.k 0) c.index-as_slice-n.result) c.as_slice-2.ensures.items);
    }
