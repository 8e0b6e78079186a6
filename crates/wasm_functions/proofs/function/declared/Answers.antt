use Rattle.std.proofs.Common.{rules, ◌≡◌, ◌∙◌}
use Rattle.wasm_grammar.specs.Profile.{local_total}
use Rattle.wasm_functions.proofs.Bodies.{declared_is}
use Rattle.wasm_functions.proofs.function.declared.Goals as goal

pub returns-clause-declares : goal.returns-clause-declares
returns-clause-declares c = let e : c.sum.result ≡ local_total c.args.runs.now = search rules in e ∙ declared_is c.args.runs.now
