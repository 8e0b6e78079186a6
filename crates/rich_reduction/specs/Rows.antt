-- Programs of one function, and of globals beside it (this project's own rows).
use Rattle.std.specs.Prelude.{◌≡◌, ℕ, ◌+◌, ◌-◌, ◌^◌, List, [], ◌∷◌, false}
use Rattle.std.specs.Int.{cast_signed, w64}
use Rattle.rw_types.specs.declared.instrs.Instr.{Instr, I64Const, Num, Print, Drop}
use Rattle.rw_types.specs.declared.numbers.NumName.TheVariants.{I64Add}
use Rattle.rich_typing.specs.Table.{unr_i64}
use Rattle.rw_program.specs.declared.linked.LinkedGlobal.{LinkedGlobal}
use Rattle.rw_program.specs.LonePrograms.{lone_func, lone_program}
use Rattle.rw_program.specs.Programs.{Program}
use Rattle.machine_steps.specs.declared.End.TheVariants.{Value}
use Rattle.machine_steps.specs.Steps.{Stand, Going, Over, Stuck, reached}
use Rattle.rich_reduction.specs.Configurations.{Number}
use Rattle.rich_reduction.specs.Starts.{first, rich}
use Rattle.rich_reduction.specs.Steps.{step}

-- what a program has printed after so many steps, and how it stands
abbrev pub IsSeen : Program → ℕ → List ℕ → Stand → Type 0
IsSeen p n printed stand = rich p n ≡ record { printed = printed; stand = stand }

-- a program that takes so many steps, and no fewer, and ends with this bit pattern
pub record Takes (p : Program) (n : ℕ) (printed : List ℕ) (value : ℕ) : Type 0 where
  pub before : IsSeen p (n - 1) printed Going
  pub after : IsSeen p n printed (Over (Value (cast_signed w64 value)))

-- a program that is stuck after so many steps, and not before
pub record StopsShort (p : Program) (n : ℕ) : Type 0 where
  pub before : IsSeen p n [] Going
  pub after : IsSeen p (n + 1) [] Stuck

-- a function with this body alone
abbrev pub lone : List Instr → Program
lone body = lone_program body []

abbrev pub PrintingTakes : Type 0
PrintingTakes = Takes (lone (I64Const 7 ∷ Print ∷ I64Const 0 ∷ [])) 6 (7 ∷ []) 0

-- the number beneath the one that is dropped
abbrev pub DroppingTakes : Type 0
DroppingTakes = Takes (lone (I64Const 7 ∷ I64Const 1 ∷ Drop ∷ [])) 6 [] 7

-- the least number, and -1
abbrev pub AddingTakes : Type 0
AddingTakes = Takes (lone (I64Const (2 ^ 63) ∷ I64Const (2 ^ 64 - 1) ∷ Num I64Add ∷ [])) 6 [] (2 ^ 63 - 1)

-- an operand that is not there
abbrev pub DropStopsShort : Type 0
DropStopsShort = StopsShort (lone (Drop ∷ [])) 1

-- a function with an operand left over at its end
abbrev pub LeftOverStopsShort : Type 0
LeftOverStopsShort = StopsShort (lone (I64Const 7 ∷ I64Const 1 ∷ [])) 3

-- a number of 64 bits, with this initialiser
abbrev pub global : List Instr → LinkedGlobal
global body = record { file = 0; mutable = false; ty = unr_i64; body = body; notes = [] }

-- a function that gives 9, and these globals
abbrev pub with_globals : List LinkedGlobal → Program
with_globals globals = record { funcs = lone_func (I64Const 9 ∷ []) [] ∷ []; globals = globals; main = 0 }

-- 5, and the sum of 1 and 2
abbrev pub two_globals : Program
two_globals = with_globals (global (I64Const 5 ∷ []) ∷ global (I64Const 1 ∷ I64Const 2 ∷ Num I64Add ∷ []) ∷ [])

abbrev pub GlobalsTake : Type 0
GlobalsTake = Takes two_globals 14 [] 9

-- the values of the globals when the program is over
abbrev pub GlobalsAreSet : Type 0
GlobalsAreSet = (reached (step two_globals.funcs) 14 (first two_globals)).at.globals ≡ Number 5 ∷ Number 3 ∷ []

-- an initialiser with an operand left over at its end
abbrev pub InitialiserStopsShort : Type 0
InitialiserStopsShort = StopsShort (with_globals (global (I64Const 5 ∷ I64Const 6 ∷ []) ∷ [])) 3
