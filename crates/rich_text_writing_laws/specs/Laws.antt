-- What is read can be written (this project's own).
use Rattle.std.specs.Prelude.{◌≡◌, ℕ, List, Ok}
use Rattle.rw_types.specs.declared.modules.Module.{Module}
use Rattle.rich_text.specs.Layout.{canonical_text}
use Rattle.rich_text.specs.Texts.{Spells, reading}
use Rattle.rich_text.specs.Writable.{IsWritable}

-- every module that a text spells can be written
abbrev pub SpelledIsWritable : Type 0
SpelledIsWritable = (bytes : List ℕ) (m : Module) → Spells bytes m → IsWritable m

-- the canonical text of what was read spells it again, and is read as it
abbrev pub ReadAgain : Type 0
ReadAgain = (bytes : List ℕ) (m : Module) → reading bytes ≡ Ok m → Spells (canonical_text m) m × (reading (canonical_text m) ≡ Ok m)
