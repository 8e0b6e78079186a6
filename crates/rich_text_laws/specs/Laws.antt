-- What holds of Rich texts (this project's own).
use Rattle.std.specs.Prelude.{◌≡◌, ℕ, List, ◌++◌, Ok, Err, ◌⊎◌}
use Rattle.rw_types.specs.declared.modules.Module.{Module}
use Rattle.rich_text.specs.Layout.{canonical_text}
use Rattle.rich_text.specs.Places.{Place, the_start, place_after}
use Rattle.rich_text.specs.Texts.{Spells, Found, reading}
use Rattle.rich_text.specs.Writable.{IsWritable}

-- a text spells at most one module
abbrev pub OneModule : Type 0
OneModule = (bytes : List ℕ) (m n : Module) → Spells bytes m → Spells bytes n → m ≡ n

-- what is read is spelled, and what is spelled is read
abbrev pub ReadIsSpelled : Type 0
ReadIsSpelled = (bytes : List ℕ) (m : Module) → reading bytes ≡ Ok m → Spells bytes m

abbrev pub SpelledIsRead : Type 0
SpelledIsRead = (bytes : List ℕ) (m : Module) → Spells bytes m → reading bytes ≡ Ok m

-- the first fault of a text and its place, read from the left
abbrev pub HasFirstFault : List ℕ → Found → Type 0
HasFirstFault bytes e = reading bytes ≡ Err e

abbrev pub ModuleOrFault : Type 0
ModuleOrFault = (bytes : List ℕ) → ((m : Module) × Spells bytes m) ⊎ ((e : Found) × HasFirstFault bytes e)

abbrev pub NeverBoth : Type 0
NeverBoth = (bytes : List ℕ) (m : Module) (e : Found) → Spells bytes m → HasFirstFault bytes e → ⊥

abbrev pub OneFirstFault : Type 0
OneFirstFault = (bytes : List ℕ) (e f : Found) → HasFirstFault bytes e → HasFirstFault bytes f → e ≡ f

-- a place in a text or at its end: that behind some of its bytes
abbrev pub IsIn : List ℕ → Place → Type 0
IsIn text at = (front : List ℕ) × (back : List ℕ) × (text ≡ front ++ back) × (at ≡ place_after front the_start)

abbrev pub FaultIsInText : Type 0
FaultIsInText = (bytes : List ℕ) (e : Found) → HasFirstFault bytes e → IsIn bytes e.at

-- the canonical text of a module spells that module and no other
abbrev pub CanonicalSpells : Type 0
CanonicalSpells = (m : Module) → IsWritable m → Spells (canonical_text m) m × ((n : Module) → Spells (canonical_text m) n → m ≡ n)

-- so it is read as that module
abbrev pub CanonicalIsRead : Type 0
CanonicalIsRead = (m : Module) → IsWritable m → reading (canonical_text m) ≡ Ok m
