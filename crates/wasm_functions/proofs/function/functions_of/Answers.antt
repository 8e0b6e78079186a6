use Rattle.std.proofs.Common.{◌≡◌, ◌<◌, length, ap, subst, arith}
use Rattle.wasm_ast.specs.declared.modules.WModule.{WModule}
use Rattle.wasm_functions.proofs.Numbers.{one_more}
use Rattle.wasm_functions.proofs.function.functions_of.Goals as goal

pub loop-k-preserved : goal.loop-k-preserved
loop-k-preserved c =
    let m = c.args.valid.now in
    let k = c.loop-k.k in
    let same = c.module-m.ensures.value in
    let counts : length m.funcs ≡ length m.codes = subst (λ (x : WModule). length x.funcs ≡ length x.codes) same c.module-m.ensures.profile.counts in
    let le : k < length m.codes = omega (arith, c.loop-k-test.true, c.len-k-end.ensures.count, ap (λ (x : WModule). length x.codes) same) in
    let lt : k < length m.funcs = omega (arith, le, counts) in
    one_more m k c.loop-k.functions.items c.push.new.self.items c.own.result lt le c.loop-k.invariant c.own.ensures c.in_ok-push.ensures.items
