-- Programs with numbers, blocks, loops, arms and calls (this project's own rows; the expected numbers come from an independent
-- model).
use Rattle.std.specs.Prelude.{◌≡◌, ◌-◌, ◌^◌, [], ◌∷◌}
use Rattle.rw_types.specs.declared.instrs.Instr as i
use Rattle.rw_types.specs.declared.numbers.NumName.TheVariants.{I32DivS, I64ExtendI32S, I64Eqz, I64Sub, I64Add, I64LtU}
use Rattle.rw_program.specs.declared.linked.LinkedFunc.{LinkedFunc}
use Rattle.machine_steps.specs.declared.Trap.TheVariants.{Overflow, Unreachable}
use Rattle.machine_steps.specs.Steps.{Going}
use Rattle.rich_types.specs.Rows.{long}
use Rattle.rich_reduction.specs.Configurations.{Number}
use Rattle.rich_reduction.specs.Rows.{IsSeen, Takes, StopsShort}
use Rattle.rich_reduction_rows.specs.Programs.{main_with, calling, links, quiet, config_after, TrapsAfter}

-- the least number of 32 bits by -1
abbrev pub OverflowTraps : Type 0
OverflowTraps = TrapsAfter (main_with [] (i.I32Const (2 ^ 31) ∷ i.I32Const (2 ^ 32 - 1) ∷ i.Num I32DivS ∷ i.Num I64ExtendI32S ∷ [])) 4 [] Overflow

-- a list that `unreachable` ends, in a list
abbrev pub UnreachableTraps : Type 0
UnreachableTraps = TrapsAfter (main_with [] (i.Block quiet (i.Unreachable ∷ []) ∷ i.I64Const 0 ∷ [])) 3 [] Unreachable

-- a branch to the loop that it stands in, for ever
abbrev pub EndlessGoes : Type 0
EndlessGoes = IsSeen (main_with [] (i.Loop quiet (i.Br 0 ∷ []) ∷ i.I64Const 0 ∷ [])) 1000 [] Going

-- a function that prints its argument and calls itself with the number before it, until that is 0
abbrev pub counting_down : LinkedFunc
counting_down = record {
  file = 0;
  ty = record { binders = []; params = long ∷ []; results = [] };
  locals = [];
  body =
      i.LocalGet 0
      ∷ i.Num I64Eqz
      ∷ i.If quiet [] (i.LocalGet 0 ∷ i.Print ∷ i.LocalGet 0 ∷ i.I64Const 1 ∷ i.Num I64Sub ∷ i.Call 0 [] ∷ [])
      ∷ [];
  notes = [];
}

abbrev pub CountingTakes : Type 0
CountingTakes = Takes (calling counting_down [] (i.I64Const 2 ∷ i.Call 0 [] ∷ i.I64Const 9 ∷ [])) 33 (2 ∷ 1 ∷ []) 9

-- a branch out of a block leaves what lies beneath its operand
abbrev pub BranchTakes : Type 0
BranchTakes = Takes (main_with [] (i.Block (links [] (long ∷ [])) (i.I64Const 3 ∷ i.Br 0 ∷ []) ∷ [])) 6 [] 3

-- a loop that takes a number and doubles it while it is below 5
abbrev pub LoopTakes : Type 0
LoopTakes = Takes
    (main_with (1 ∷ [])
    (i.I64Const 1
    ∷ i.Loop (links (long ∷ []) (long ∷ [])) (i.LocalSet 0 ∷ i.LocalGet 0 ∷ i.LocalGet 0 ∷ i.Num I64Add ∷ i.LocalGet 0 ∷ i.I64Const 5 ∷ i.Num I64LtU ∷ i.BrIf 0 ∷ [])
    ∷ []))
    38 [] 16

-- `return` out of two lists
abbrev pub ReturnTakes : Type 0
ReturnTakes = Takes (main_with [] (i.Block quiet (i.Block quiet (i.I64Const 7 ∷ i.Return ∷ []) ∷ []) ∷ i.I64Const 0 ∷ [])) 6 [] 7

-- a local is unit after its value was taken
abbrev pub TakenStopsShort : Type 0
TakenStopsShort = StopsShort (main_with (1 ∷ []) (i.I64Const 7 ∷ i.LocalSet 0 ∷ i.LocalTake 0 ∷ i.LocalTake 0 ∷ i.Print ∷ [])) 5

-- the operands of a trap stay where they are
abbrev pub TrapLeavesOperands : Type 0
TrapLeavesOperands = (config_after (main_with [] (i.I32Const (2 ^ 31) ∷ i.I32Const (2 ^ 32 - 1) ∷ i.Num I32DivS ∷ [])) 4).here.operands ≡ Number (2 ^ 32 - 1) ∷ Number (2 ^ 31) ∷ []
