-- What control instructions do, and the ends of lists. This project's own.
use Rattle.std.specs.Prelude.{ℕ, zero, suc, List, [], ◌∷◌, ◌++◌, length, map, replicate, reverse, slice_get}
use Rattle.std.specs.Int.{cast_signed, w64}
use Rattle.rw_types.specs.declared.instrs.BlockSig.{BlockSig}
use Rattle.rw_types.specs.declared.instrs.Instr.{Instr}
use Rattle.rw_types.specs.declared.types.Binder.{Binder}
use Rattle.rich_types.specs.Scopes.{scope_of}
use Rattle.rw_program.specs.declared.linked.LinkedFunc.{LinkedFunc}
use Rattle.machine_steps.specs.declared.End.TheVariants.{Value}
use Rattle.machine_steps.specs.Steps.{Turn, Went, Ended, NoStep, with_top}
use Rattle.rich_reduction.specs.Configurations.{Val, Number, Empty, Aim, Past, Back, Level, Here, Config, Event}
use Rattle.rich_reduction.specs.Turns.{with_number, with_pack, with_code, goes_on, leaves}
use Rattle.machine_steps.specs.Steps.{with_found, with_all}

-- the call that runs, within a list of this signature: a branch to it leads so and takes so many; the list begins with these
-- operands and under these type variables, and beneath it lie those
abbrev pub opened : Aim → ℕ → BlockSig → List ℕ → List Instr → List Val → List Val → Here → Here
opened aim takes sig sizes body operands beneath here = record here {
  sizes = sizes;
  operands = operands;
  rest = body;
  levels = record {
    aim = aim;
    takes = takes;
    gives = length sig.results;
    sizes = here.sizes;
    beneath = beneath;
    rest = here.rest;
  } ∷ here.levels;
}

-- such a list, a branch to which leads past its end, begins with its parameters, and these values on top of them
abbrev pub enter_with : List Val → List Val → BlockSig → List ℕ → List Instr → Here → (Here → Turn Event Config) → Turn Event Config
enter_with values operands sig sizes body here then =
    with_top (length sig.params) operands (λ taken beneath. then (opened Past (length sig.results) sig sizes body (values ++ taken) beneath here))

-- block
abbrev pub enter_block : BlockSig → List Instr → Here → Config → Turn Event Config
enter_block sig body here c = enter_with [] here.operands sig here.sizes body here (λ inner. goes_on inner c)

-- loop: a branch to it leads to its start
abbrev pub enter_loop : BlockSig → List Instr → Here → Config → Turn Event Config
enter_loop sig body here c = with_top (length sig.params) here.operands
    (λ taken beneath. goes_on (opened (Back body) (length sig.params) sig here.sizes body taken beneath here) c)

-- if: the second arm where the number is 0
abbrev pub enter_if : BlockSig → List Instr → List Instr → Here → Config → Turn Event Config
enter_if sig first second here c = with_number here.operands (λ n beneath. elim n [
  | zero ↦ enter_block sig second (record here { operands = beneath }) c
  | suc _ ↦ enter_block sig first (record here { operands = beneath }) c
])

-- mem.unpack: the packed value stands on top; a location adds nothing to the type variables
abbrev pub enter_unpacked : BlockSig → List Instr → Here → Config → Turn Event Config
enter_unpacked sig body here c = with_pack here.operands
    (λ v beneath. enter_with (v ∷ []) beneath sig here.sizes body here (λ inner. goes_on inner c))

-- these operands are taken past the end of a list, or to its start, where it stays open; the type variables of lists within are
-- left
abbrev pub arrive : Aim → List Val → Level → List Level → Here → Config → Turn Event Config
arrive Past vs l levels here c = goes_on (record here { sizes = l.sizes; operands = vs ++ l.beneath; rest = l.rest; levels = levels }) c
arrive (Back body) vs l levels here c = goes_on (record here { sizes = l.sizes; operands = vs; rest = body; levels = l ∷ levels }) c

-- a branch to the open list of this number, the innermost being 0; what lies beneath its operands is left
abbrev pub branch : ℕ → List Level → Here → Config → Turn Event Config
branch n [] here c = NoStep
branch zero (l ∷ levels) here c = with_top l.takes here.operands (λ vs beneath. arrive l.aim vs l levels here c)
branch (suc n) (l ∷ levels) here c = branch n levels here c

-- br
abbrev pub branch_to : ℕ → Here → Config → Turn Event Config
branch_to n here c = branch n here.levels here c

-- br_if
abbrev pub branch_if : ℕ → Here → Config → Turn Event Config
branch_if label here c = with_number here.operands (λ n beneath. elim n [
  | zero ↦ leaves beneath here c
  | suc _ ↦ branch_to label (record here { operands = beneath }) c
])

-- the sizes of the type variables of these binders, the innermost first
abbrev pub sizes_of : List Binder → List ℕ
sizes_of binders = map (λ k. k.size) (scope_of binders).variables

-- a call of this function: the operands on top are its arguments, and its other locals are unit
abbrev pub call : LinkedFunc → Here → Config → Turn Event Config
call f here c = with_top (length f.ty.params) here.operands (λ arguments beneath. Went [] (record c {
  here = record {
    results = length f.ty.results;
    sizes = sizes_of f.ty.binders;
    locals = reverse arguments ++ replicate (length f.locals) Empty;
    operands = [];
    rest = f.body;
    levels = [];
  };
  callers = record here { operands = beneath } ∷ c.callers;
}))

-- call
abbrev pub call_direct : List LinkedFunc → ℕ → Here → Config → Turn Event Config
call_direct funcs n here c = with_found (slice_get funcs n) (λ f. call f here c)

-- call_indirect
abbrev pub call_indirect : List LinkedFunc → Here → Config → Turn Event Config
call_indirect funcs here c = with_code here.operands (λ n beneath. call_direct funcs n (record here { operands = beneath }) c)

-- the program ends with this value
abbrev pub ends_with : List Val → Config → Turn Event Config
ends_with (Number n ∷ []) c = Ended [] (Value (cast_signed w64 n)) c
ends_with _ c = NoStep

-- a call is over with these results
abbrev pub give : List Val → List Here → Config → Turn Event Config
give vs [] c = ends_with vs c
give vs (caller ∷ callers) c = Went [] (record c { here = record caller { operands = vs ++ caller.operands }; callers = callers })

-- return: what lies beneath the results is left
abbrev pub return_now : Here → Config → Turn Event Config
return_now here c = with_top here.results here.operands (λ vs beneath. give vs c.callers c)

-- the end of a list: of a function or of the program, or of a list within
abbrev pub leave : List Level → Here → Config → Turn Event Config
leave [] here c = with_all here.results here.operands (λ vs. give vs c.callers c)
leave (l ∷ levels) here c = with_all l.gives here.operands
    (λ vs. goes_on (record here { sizes = l.sizes; operands = vs ++ l.beneath; rest = l.rest; levels = levels }) c)
