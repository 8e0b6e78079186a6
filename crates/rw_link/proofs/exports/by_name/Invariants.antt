use Rattle.std.proofs.Common.{◌≡◌, ℕ, List, take, Bor}
use Rattle.std.specs.Str.{bytes_eq}
use Rattle.indexmap.specs.IndexMap.{get}
use Rattle.rw_program.specs.Linking.{exported}
use Rattle.rw_link.proofs.exports.by_name.Given as goal

abbrev pub invariant-loop-export : goal.invariant-loop-export
invariant-loop-export l = (name : Bor (List ℕ)) → get (λ x y. bytes_eq x.now y.now) l.numbers name ≡ exported name.now (take l.export-index l.exports)
