-- What holds of each configuration that a sound program reaches, and of each step from there. This project's own.
use Rattle.std.specs.Prelude.{◌≡◌, ◌≤◌, ◌⊎◌, ℕ, List, [], ◌∷◌, Some, drop, length, slice_get}
use Rattle.rw_types.specs.declared.instrs.Instr.{Instr}
use Rattle.rw_types.specs.declared.types.Ty.{Ty}
use Rattle.rw_program.specs.declared.linked.LinkedGlobal.{LinkedGlobal}
use Rattle.rw_program.specs.Programs.{Program}
use Rattle.machine_steps.specs.Steps.{Turn, Went, Ended, NoStep}
use Rattle.wasm_operators.specs.declared.Width.TheVariants.{W64}
use Rattle.wasm_num.specs.Widths.{IsWithin}
use Rattle.rich_rules.specs.Points.{Owner, OfFunction, OfGlobal}
use Rattle.rich_linking.specs.TypedPrograms.{types_of_functions}
use Rattle.rich_reduction.specs.Configurations.{Val, Number, Empty, Here, Config, Event}
use Rattle.rich_reduction.specs.Starts.{own_list, first}
use Rattle.rich_reduction.specs.Steps.{step}
use Rattle.rich_rights.specs.Rights.{IsKept}
use Rattle.rich_soundness_values.specs.Heaps.{Heaps}
use Rattle.rich_soundness_values.specs.Values.{HasType, HaveTypes}
use Rattle.rich_soundness_values.specs.Cells.{Stored}
use Rattle.rich_soundness_points.specs.Programs.{IsSound}
use Rattle.rich_soundness_points.specs.Points.{own_rest, InBody, own_call, Callers}

-- how many globals have their first value: all while a function's body runs, those before it while an initialiser does
abbrev pub AreSet : Program → ℕ → Owner → Type 0
AreSet p set OfFunction = set ≡ length p.globals
AreSet p set (OfGlobal n) = set ≡ n

-- the call that runs and those that wait: a body; or the program's own list where it begins or gives the next global its first
-- value, where that value is set, and at its end
pub data Runs (p : Program) (hs : Heaps) (set : ℕ) : Here → List Here → Type 0 where
  in_body : {here : Here} {callers : List Here} (owner : Owner) (results operands : List Ty) → AreSet p set owner → InBody p hs owner results operands here → HaveTypes hs here.operands operands →
      Callers p hs owner results callers → Runs p hs set here callers
  in_own_list : {here : Here} {callers : List Here} → here ≡ own_call [] (own_list set (drop set p.globals) p.main) → callers ≡ [] → Runs p hs set here callers
  sets_global : {here : Here} {callers : List Here} (v : Val) (g : LinkedGlobal) → slice_get p.globals set ≡ Some g → HasType hs v g.ty → here ≡ own_call (v ∷ []) (own_rest p set) → callers ≡ [] →
      Runs p hs set here callers
  at_end : {here : Here} {callers : List Here} (n : ℕ) → IsWithin W64 n → here ≡ own_call (Number n ∷ []) [] → callers ≡ [] → Runs p hs set here callers

-- globals: each has its type, or is unit and does not have its first value yet
pub record AreGlobals (p : Program) (hs : Heaps) (set : ℕ) (vs : List Val) : Type 0 where
  pub same_length : length vs ≡ length p.globals
  pub each : (n : ℕ) (v : Val) (g : LinkedGlobal) → slice_get vs n ≡ Some v → slice_get p.globals n ≡ Some g → HasType hs v g.ty ⊎ ((v ≡ Empty) × (set ≤ n))

-- a configuration whose calls go on, whose globals and cells have their types, and whose rights are kept
pub record Good (p : Program) (c : Config) : Type 0 where
  pub heaps : Heaps
  pub functions : heaps.functions ≡ types_of_functions p.funcs
  pub set : ℕ
  pub runs : Runs p heaps set c.here c.callers
  pub globals_typed : AreGlobals p heaps set c.globals
  pub stored : Stored heaps c.stores
  pub kept : IsKept c

-- a step: there is one, to a good configuration, or to an end where the rights are kept
abbrev pub Fine : Program → Turn Event Config → Type 0
Fine p (Went es c) = Good p c
Fine p (Ended es e c) = IsKept c
Fine p NoStep = ⊥

-- each program begins in a good configuration
abbrev pub StartsGood : Type 0
StartsGood = (p : Program) → Good p (first p)

-- where this instruction is next in a good configuration of a sound program, there is a step, and it keeps what is good
abbrev pub IsSafeAt : Instr → Type 0
IsSafeAt i = (p : Program) (c : Config) (rest : List Instr) → IsSound p → Good p c → c.here.rest ≡ i ∷ rest → Fine p (step p.funcs c)
