-- What parametric and variable instructions do (WebAssembly Core Specification 1.0, sections 4.4.2 and 4.4.3).
use Rattle.std.specs.Prelude.{ℕ, zero, suc, List, [], ◌∷◌, slice_get, slice_set}
use Rattle.machine_steps.specs.Steps.{Turn, Went}
use Rattle.wasm_execution.specs.Configurations.{Here, Config, Event}
use Rattle.wasm_execution.specs.Turns.{with_two, goes_on, leaves}
use Rattle.machine_steps.specs.Steps.{with_found, with_one}

-- drop (4.4.2.1)
abbrev pub drop_one : Here → Config → Turn Event Config
drop_one here c = with_one here.operands (λ v beneath. leaves beneath here c)

-- the first where the number is not zero, else the second
abbrev pub chosen : ℕ → ℕ → ℕ → ℕ
chosen zero first second = second
chosen (suc n) first second = first

-- select (4.4.2.2)
abbrev pub select_one : Here → Config → Turn Event Config
select_one here c = with_one here.operands (λ n rest. with_two rest (λ first second beneath. leaves (chosen n first second ∷ beneath) here c))

-- local.get (4.4.3.1)
abbrev pub get_local : ℕ → Here → Config → Turn Event Config
get_local n here c = with_found (slice_get here.locals n) (λ v. leaves (v ∷ here.operands) here c)

-- a local that is there takes a number, and these operands are left
abbrev pub put_local : ℕ → ℕ → List ℕ → Here → Config → Turn Event Config
put_local n v operands here c = with_found (slice_get here.locals n) (λ old. goes_on (record here { operands = operands; locals = slice_set here.locals n v }) c)

-- local.set (4.4.3.2)
abbrev pub set_local : ℕ → Here → Config → Turn Event Config
set_local n here c = with_one here.operands (λ v beneath. put_local n v beneath here c)

-- local.tee (4.4.3.3)
abbrev pub tee_local : ℕ → Here → Config → Turn Event Config
tee_local n here c = with_one here.operands (λ v beneath. put_local n v (v ∷ beneath) here c)

-- global.get (4.4.3.4)
abbrev pub get_global : ℕ → Here → Config → Turn Event Config
get_global n here c = with_found (slice_get c.store.globals n) (λ v. leaves (v ∷ here.operands) here c)

-- global.set (4.4.3.5)
abbrev pub set_global : ℕ → Here → Config → Turn Event Config
set_global n here c = with_one here.operands (λ v beneath. with_found (slice_get c.store.globals n) (λ old. Went [] (record c {
  here = record here { operands = beneath };
  store = record c.store { globals = slice_set c.store.globals n v };
})))
