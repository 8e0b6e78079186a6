-- Words of a frame that change and those that stay. This project's own.
use Rattle.std.specs.Prelude.{◌≡◌, ◌≤◌, ◌<◌, ◌⊎◌, ℕ, ◌+◌, List, length, slice_get}
use Rattle.wasm_execution.specs.Configurations as w
use Rattle.rich_reduction.specs.Configurations as r
use Rattle.lowering_rows.specs.Labels.{Label, label_height}
use Rattle.lowering_rows.specs.Surroundings.{operand_place}
use Rattle.lowering_runs.specs.Laws.{written}
use Rattle.simulation_relation.specs.Bodies.{AreOpen, Body, Carried}
use Rattle.simulation_relation.specs.Words.{Book, Holds}

-- the words from one place up to another are the same
abbrev pub AreKept : ℕ → ℕ → List ℕ → List ℕ → Type 0
AreKept from to before after = (n : ℕ) → from ≤ n → n < to → slice_get after n ≡ slice_get before n

-- open lists stay open where the operand words beneath the innermost of them are kept
abbrev pub OpenListsStay : Type 0
OpenListsStay = (b : Body) (book : Book) (before after : List ℕ) (labels : List Label) (carried : List Carried) (ends : Carried) (levels : List r.Level) (lists : List w.Level) →
    AreKept b.around.places.operands (operand_place b.around (label_height labels 0)) before after → AreOpen b book before labels carried ends levels lists → AreOpen b book after labels carried ends levels lists

-- words that are written where there is room are held there, and all others are kept
abbrev pub WordsAreWritten : Type 0
WordsAreWritten = (to : ℕ) (ws locals : List ℕ) → (to + length ws ≤ length locals → Holds (written to ws locals) to ws) × (length (written to ws locals) ≡ length locals)
    × ((n : ℕ) → (n < to) ⊎ (to + length ws ≤ n) → slice_get (written to ws locals) n ≡ slice_get locals n)
