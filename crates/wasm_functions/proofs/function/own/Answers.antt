use Rattle.std.proofs.Common.{◌<◌, ℕ, List, get_or, length, ap, subst, sym, arith}
use Rattle.wasm_ast.specs.declared.modules.WModule.{WModule}
use Rattle.wasm_functions.specs.Functions.{IsBodyAt, IsFunction, own_function}
use Rattle.wasm_module_checking.proofs.Bodies.{found, index_below}
use Rattle.wasm_functions.proofs.Numbers.{own_told}
use Rattle.wasm_functions.proofs.function.own.Goals as goal

pub with_type-requires : goal.with_type-requires
with_type-requires c =
    let m = c.module-m.result.now in
    let few : c.args.k < length m.codes = subst (λ (x : WModule). c.args.k < length x.codes) (sym c.module-m.ensures.value) c.requires in
    let lt : c.args.k < length m.funcs = omega (arith, few, c.module-m.ensures.profile.counts) in
    let listed = found m.funcs c.args.k 0 (get_or c.as_slice.result.now c.args.k 0) lt (ap (λ (xs : List ℕ). get_or xs c.args.k 0) c.as_slice.ensures.items) in
    index_below m c.args.k (get_or c.as_slice.result.now c.args.k 0) c.module-m.ensures.valid.before listed

pub returns : goal.returns
returns c =
    let m = c.module-m.result.now in
    let few : c.args.k < length m.codes = subst (λ (x : WModule). c.args.k < length x.codes) (sym c.module-m.ensures.value) c.requires in
    let lt : c.args.k < length m.funcs = omega (arith, few, c.module-m.ensures.profile.counts) in
    let listed = found m.funcs c.args.k 0 (get_or c.as_slice.result.now c.args.k 0) lt (ap (λ (xs : List ℕ). get_or xs c.args.k 0) c.as_slice.ensures.items) in
    let at = subst (λ (x : WModule). IsBodyAt x c.args.k c.body_of.result) (sym c.module-m.ensures.value) c.body_of.ensures in
    subst (λ (x : WModule). IsFunction x (own_function x c.args.k) c.with_type.result) c.module-m.ensures.value
    (own_told m c.args.k (get_or c.as_slice.result.now c.args.k 0) c.body_of.result c.with_type.result listed few at c.with_type.ensures)
