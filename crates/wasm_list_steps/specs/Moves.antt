-- What entering, leaving and branching do to the operands and the open lists that the rows mean, whatever else there is
-- (WebAssembly Core Specification 1.0, sections 4.4.5 and 4.4.6).
use Rattle.std.specs.Prelude.{◌≡◌, ℕ, ◌+◌, ◌≤◌, Bool, List, ◌++◌, Option, Some, slice_get, length}
use Rattle.wasm_ast.specs.declared.types.ValTy.{ValTy}
use Rattle.wasm_ast.specs.declared.instructions.WInstr.{WInstr}
use Rattle.wasm_execution.specs.Types.{results_of}
use Rattle.wasm_execution.specs.Configurations.{Here, Config}
use Rattle.wasm_execution.specs.Environments.{Environment}
use Rattle.wasm_execution.specs.Turns.{goes_on}
use Rattle.wasm_execution.specs.Control as machine
use Rattle.wasm_values.specs.Stacked.{Stacked}
use Rattle.wasm_levels.specs.declared.row.Aim.{Aim}
use Rattle.wasm_levels.specs.declared.row.OpenList.{OpenList}
use Rattle.wasm_levels.specs.Rows.{Rows}
use Rattle.wasm_levels.specs.Lists.{aim_of, takes_of, count_of, levels_of, beneath_all, AreLaid}

-- how many operands there are in all, and how many more may be put on top without asking for memory
abbrev pub capacity : Stacked → ℕ
capacity values = values.room + (length values.own + length values.beneath)

-- a call with these operands and open lists
abbrev pub shown : Stacked → Rows → Here → Here
shown values levels here = record here { operands = values.own; levels = levels_of levels.own values.beneath }

-- what lies beneath the call that runs stays, and so do the open lists of the calls that wait for it
pub record Stays (before : Stacked) (levels : Rows) (after : Stacked) (levels' : Rows) : Type 0 where
  pub operands : beneath_all levels'.own after.beneath ≡ beneath_all levels.own before.beneath
  pub lists : levels'.beneath ≡ levels.beneath
  pub laid : AreLaid levels.own before.beneath → AreLaid levels'.own after.beneath

-- a list is entered
abbrev pub EntersList : Aim → Bool → List WInstr → Stacked → Rows → Stacked → Rows → Type 0
EntersList aim gives rest before levels after levels' = (here : Here) (c : Config) (t : Option ValTy) (body : List WInstr) → results_of t ≡ count_of gives → here.rest ≡ rest →
    machine.enter (aim_of aim) (takes_of aim gives) t body (shown before levels here) c ≡ goes_on (record (shown after levels' here) { rest = body }) c

-- the innermost list is left, and these instructions follow
abbrev pub LeavesList : Stacked → Rows → List WInstr → Stacked → Rows → Type 0
LeavesList before levels rest after levels' = (e : Environment) (here : Here) (c : Config) →
    machine.leave e (levels_of levels.own before.beneath) (shown before levels here) c ≡ goes_on (record (shown after levels' here) { rest = rest }) c

-- a branch to the open list of this number leads to these instructions
abbrev pub LandsAt : ℕ → Stacked → Rows → List WInstr → Stacked → Rows → Type 0
LandsAt n before levels rest after levels' = (e : Environment) (here : Here) (c : Config) →
    machine.branch e n (levels_of levels.own before.beneath) (shown before levels here) c ≡ goes_on (record (shown after levels' here) { rest = rest }) c

-- the innermost list has exactly the operands that it gives
abbrev pub IsReady : Stacked → Rows → Type 0
IsReady values levels = (l : OpenList) → slice_get levels.own 0 ≡ Some l → length values.own ≡ count_of l.gives

-- there are as many operands as a branch to this list takes
abbrev pub CanBranch : ℕ → Stacked → Rows → Type 0
CanBranch n values levels = (l : OpenList) → slice_get levels.own n ≡ Some l → takes_of l.aim l.gives ≤ length values.own

-- what a branch past a list leaves: the value that it gives, if it gives one, lies on the operands of the list around it, of which
-- `base` lie beneath and `height` in all
abbrev pub Carries : Bool → ℕ → ℕ → Stacked → Stacked → Type 0
Carries gives height base before after = (taken rest gone own beneath : List ℕ) → before.own ≡ taken ++ rest → length taken ≡ count_of gives →
    rest ++ before.beneath ≡ gone ++ (own ++ beneath) → length beneath ≡ base → length own + base ≡ height →
    (after.own ≡ taken ++ own) × (after.beneath ≡ beneath) × (capacity after ≡ capacity before)
