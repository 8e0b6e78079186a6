-- At the start of a program no right stands anywhere; and what is taken apart has what it had.
use Rattle.std.proofs.Common.{◌≡◌, [], ◌∷◌, List, map, refl, arith}
use Rattle.rw_program.specs.declared.linked.LinkedGlobal.{LinkedGlobal}
use Rattle.rich_reduction.specs.Configurations.{Empty}
use Rattle.rich_rights.specs.Rights.{Counter, count_all, Reading, Writing, rights_to}
use Rattle.rich_rights.specs.Laws.{StartsKept, AreDivided}

-- globals that are not set yet
none_in_globals : (c : Counter) (gs : List LinkedGlobal) → count_all c (map (λ g. Empty) gs) ≡ 0
none_in_globals c [] = refl
none_in_globals c (g ∷ gs) = omega (arith, none_in_globals c gs)

pub starts : StartsKept
starts p r n = omega (arith, none_in_globals (rights_to r n) p.globals)

pub divided : AreDivided
divided Reading n l = ((λ p. omega arith), omega arith)
divided Writing n l = ((λ p. omega arith), omega arith)
