use Rattle.std.proofs.Common.{◌≡◌, ℕ, List, take, Bor}
use Rattle.std.specs.Str.{bytes_eq}
use Rattle.std.specs.HashSet.{contains}
use Rattle.wasm_typing.specs.Fields.{export_rule, is_exported}
use Rattle.wasm_typing.specs.Modules.{first_fault}
use Rattle.wasm_fields.proofs.Firsts.{left_behind}
use Rattle.wasm_fields.proofs.exports.check_exports.Given as goal

abbrev pub invariant-loop-at : goal.invariant-loop-at
invariant-loop-at l = record {
  told : first_fault (export_rule l.c) l.exports ≡ left_behind (export_rule l.c) l.exports l.at;
  names : (q : Bor (List ℕ)) → contains (λ x y. bytes_eq x.now y.now) l.names q ≡ is_exported l.c q.now (take l.at l.exports);
}
