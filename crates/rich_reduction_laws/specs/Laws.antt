-- Laws on the steps of a linked program, whatever its types are. This project's own.
use Rattle.std.specs.Prelude.{◌≡◌, ℕ, suc, ◌+◌, List, [], ◌∷◌, length}
use Rattle.std.specs.List.{flat_map}
use Rattle.rw_types.specs.declared.instrs.Instr as i
use Rattle.rw_types.specs.declared.types.Mem.{Mem}
use Rattle.rw_program.specs.declared.linked.LinkedFunc.{LinkedFunc}
use Rattle.rw_program.specs.Programs.{Program}
use Rattle.machine_steps.specs.declared.End.{End}
use Rattle.machine_steps.specs.Steps.{Turn, Went, Ended, NoStep, Over, reached}
use Rattle.machine_steps.specs.Ending.{NeverExhausted}
use Rattle.rich_reduction.specs.Configurations.{Val, Number, Location, Config, Event, Touched, prints}
use Rattle.rich_reduction.specs.Starts.{rich}
use Rattle.rich_reduction.specs.Steps.{step}
use Rattle.rich_reduction_laws.specs.Effects.{Effect, Quiet, Prints, next_effect, HasEffect, MayEnd}
use Rattle.rich_reduction_laws.specs.Stores.{AreLater, places, made_in, counting}

-- each step has the effect of its instruction, and the leaving of a list has none
abbrev pub EffectsHold : Type 0
EffectsHold = (funcs : List LinkedFunc) (c : Config) → HasEffect (next_effect c.here.rest) c (step funcs c)

-- what a step says
abbrev pub said_in : Turn Event Config → List Event
said_in (Went es c) = es
said_in (Ended es end c) = es
said_in NoStep = []

abbrev pub touched : Event → List Location
touched (Touched l) = l ∷ []
touched _ = []

-- how often a step of this effect touches a cell
abbrev pub touches : Effect → ℕ
touches Quiet = 0
touches Prints = 0
touches _ = 1

-- a step on a cell says once that it touches a cell, also where it ends the run, and no other step says so
abbrev pub TouchedOnce : Type 0
TouchedOnce =
    (funcs : List LinkedFunc) (c : Config)
    → ((es : List Event) (c' : Config) → step funcs c ≡ Went es c' → length (flat_map touched es) ≡ touches (next_effect c.here.rest))
    × ((es : List Event) (end : End) (c' : Config) → step funcs c ≡ Ended es end c' → length (flat_map touched es) ≡ touches (next_effect c.here.rest))

-- the number that the next step prints
abbrev pub number_on_top : List Val → List ℕ
number_on_top (Number n ∷ vs) = n ∷ []
number_on_top _ = []

abbrev pub next_printed : List i.Instr → List Val → List ℕ
next_printed (i.Print ∷ rest) operands = number_on_top operands
next_printed _ operands = []

-- a step prints the number on top of the operands of a `print`, and no other step prints
abbrev pub PrintedByPrint : Type 0
PrintedByPrint = (funcs : List LinkedFunc) (c : Config) → flat_map prints (said_in (step funcs c)) ≡ next_printed c.here.rest c.here.operands

-- after any number of steps: what was freed stays freed, cells keep their words, and no place goes
abbrev pub StoresOnlyGrow : Type 0
StoresOnlyGrow = (funcs : List LinkedFunc) (c : Config) (n : ℕ) → AreLater c.stores (reached (step funcs) n c).at.stores

-- the cells of a memory that are made in any number of steps have the next numbers, one after the other
abbrev pub MadeInOrder : Type 0
MadeInOrder =
    (funcs : List LinkedFunc) (c : Config) (n : ℕ) (m : Mem)
    → (count : ℕ)
    × (flat_map (made_in m) (reached (step funcs) n c).said ≡ counting (places m c.stores) count)
    × (places m (reached (step funcs) n c).at.stores ≡ places m c.stores + count)

-- a run that is over has come to a value or to one of four traps
abbrev pub EndsInFourTraps : Type 0
EndsInFourTraps = (p : Program) (n : ℕ) (end : End) → (rich p n).stand ≡ Over end → MayEnd end

-- so none is over for want of room
abbrev pub RoomIsNeverWanting : Type 0
RoomIsNeverWanting = (p : Program) → NeverExhausted (rich p)

-- a run that is over stays as it is, with all that it printed
abbrev pub OverStays : Type 0
OverStays = (p : Program) (n : ℕ) (end : End) → (rich p n).stand ≡ Over end → rich p (suc n) ≡ rich p n
