-- The open lists of a run as clauses see them (WebAssembly Core Specification 1.0, section 4.2.12).
use Rattle.std.specs.Prelude.{◌≡◌, ℕ, List, take, drop}
use Rattle.wasm_levels.specs.declared.row.OpenList.{OpenList}

-- the open lists of the call that runs, and those of the calls that wait for it, the innermost first
pub record Rows : Type 0 where
  pub own : List OpenList
  pub beneath : List OpenList

-- what is left where a call is over: of the lists beneath it, so many are those of the call that waited for it
abbrev pub IsRejoined : ℕ → Rows → Rows → Type 0
IsRejoined count before after = (after.own ≡ take count before.beneath) × (after.beneath ≡ drop count before.beneath)
