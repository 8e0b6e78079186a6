-- What a row of calls that wait means (WebAssembly Core Specification 1.0, section 4.2.12): each keeps how many operands and locals
-- lie beneath its own, and how many lists it has open.
use Rattle.std.specs.Prelude.{◌≡◌, ℕ, Bool, Option, Some, None, ◌+◌, ◌-◌, ◌≤◌, List, [], ◌∷◌, ◌++◌, length, take, drop, reverse, replicate}
use Rattle.wasm_ast.specs.declared.instructions.WInstr.{WInstr}
use Rattle.wasm_execution.specs.Configurations.{Here}
use Rattle.wasm_values.specs.Stacked.{Stacked, Framed}
use Rattle.wasm_levels.specs.declared.row.OpenList.{OpenList}
use Rattle.wasm_levels.specs.Rows.{Rows}
use Rattle.wasm_levels.specs.Lists.{count_of, levels_of, beneath_all, AreLaid}
use Rattle.wasm_list_steps.specs.Moves.{capacity}
use Rattle.wasm_call_steps.specs.declared.callers.Waiting.{Waiting}

-- of the operands beneath a call, those of the call that waits for it, and those beneath that one's innermost list
abbrev pub upper_part : ℕ → List ℕ → List ℕ
upper_part base beneath = take (length beneath - base) beneath

abbrev pub lower_part : ℕ → List ℕ → List ℕ
lower_part base beneath = drop (length beneath - base) beneath

-- a call that waits, over these lists, operands and locals beneath the call that it waits for
abbrev pub caller_of : Waiting → List OpenList → List ℕ → List ℕ → Here
caller_of w lists beneath locals = record {
  function = w.function;
  argument = w.argument;
  locals = drop w.first_local locals;
  operands = upper_part w.base beneath;
  rest = w.rest.now;
  levels = levels_of (take w.lists lists) (lower_part w.base beneath);
}

-- the calls that wait, the innermost first
abbrev pub callers_of : List Waiting → List OpenList → List ℕ → List ℕ → List Here
callers_of [] lists beneath locals = []
callers_of (w ∷ ws) lists beneath locals =
    caller_of w lists beneath locals ∷ callers_of ws (drop w.lists lists) (beneath_all (take w.lists lists) (lower_part w.base beneath)) (take w.first_local locals)

-- what each call keeps is there
abbrev pub AreWaiting : List Waiting → List OpenList → List ℕ → List ℕ → Type 0
AreWaiting [] lists beneath locals = Unit {0}
AreWaiting (w ∷ ws) lists beneath locals =
    (w.lists ≤ length lists) × (w.base ≤ length beneath) × (w.first_local ≤ length locals) × AreLaid (take w.lists lists) (lower_part w.base beneath)
    × AreWaiting ws (drop w.lists lists) (beneath_all (take w.lists lists) (lower_part w.base beneath)) (take w.first_local locals)

-- the rows of operands, of locals, of open lists and of calls that wait
pub record Run : Type 0 where
  pub values : Stacked
  pub locals : Framed
  pub levels : Rows
  pub callers : List Waiting

-- the rows as the record of them
abbrev pub run : Stacked → Framed → Rows → List Waiting → Run
run values locals levels callers = record { values = values; locals = locals; levels = levels; callers = callers }

-- the call that runs
abbrev pub here_of : ℕ → ℕ → List WInstr → Run → Here
here_of function argument rest r = record {
  function = function;
  argument = argument;
  locals = r.locals.own;
  operands = r.values.own;
  rest = rest;
  levels = levels_of r.levels.own r.values.beneath;
}

-- those that wait for it
abbrev pub below : Run → List Here
below r = callers_of r.callers r.levels.beneath (beneath_all r.levels.own r.values.beneath) r.locals.beneath

-- what is kept of all calls is there
pub record AreCalls (r : Run) : Type 0 where
  pub laid : AreLaid r.levels.own r.values.beneath
  pub waiting : AreWaiting r.callers r.levels.beneath (beneath_all r.levels.own r.values.beneath) r.locals.beneath

-- a call is entered: it has its arguments and so many zeros as locals, and neither operands nor lists, and its caller waits
pub record IsEntered (function argument : ℕ) (rest : List WInstr) (params declared : ℕ) (before after : Run) : Type 0 where
  pub operands : after.values.own ≡ []
  pub lists : after.levels.own ≡ []
  pub locals : after.locals.own ≡ reverse (take params before.values.own) ++ replicate declared 0
  pub callers : below after ≡ record (here_of function argument rest before) { operands = drop params before.values.own } ∷ below before
  pub calls : AreCalls before → AreCalls after

-- a call is over with the values that it gives, and the one that waited for it goes on with these on top of its operands
pub record IsReturned (gives : Bool) (w : Waiting) (before after : Run) : Type 0 where
  pub caller : Here
  pub callers : below before ≡ caller ∷ below after
  pub here : (taken rest : List ℕ) → before.values.own ≡ taken ++ rest → length taken ≡ count_of gives →
      here_of w.function w.argument w.rest.now after ≡ record caller { operands = taken ++ caller.operands }
  pub calls : AreCalls after
  pub room : after.values.room + (count_of gives + length (beneath_all before.levels.own before.values.beneath)) ≡ capacity before.values

-- what the end of a call leaves: the call that waited for it, or all as it was where none waits
abbrev pub Returns : Bool → Option Waiting → Run → Run → Type 0
Returns gives None before after = (before.callers ≡ []) × (after ≡ before)
Returns gives (Some w) before after = IsReturned gives w before after
