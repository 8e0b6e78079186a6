-- A row is read off what is decided of the parts of its module.
use Rattle.std.proofs.Common.{◌≡◌, inl, inr, List, Option, Some, None, subst}
use Rattle.std.specs.Prelude.{⊤}
use Rattle.rich_typing.specs.declared.notes.Note.{Note}
use Rattle.rich_typing.specs.declared.notes.Place.{Place}
use Rattle.rich_rules.specs.Points.{Broken}
use Rattle.rich_rules.specs.Modules.{Part, AreTyped, AreViolated}
use Rattle.rich_rules_laws.proofs.Decided.{DecidedParts, parts_decided}

-- the violation that is decided, if it is one
abbrev pub told : {ps : List Part} → DecidedParts ps → Option (Place × Broken)
told (inl x) = None
told (inr x) = Some (x.0, x.1)

-- what a violation says of the parts; of none, that they are typed
abbrev pub Means : List Part → Option (Place × Broken) → Type 0
Means ps None = (notes : List (List Note)) × AreTyped ps notes
Means ps (Some v) = AreViolated ps v.0 v.1

meant : (ps : List Part) (x : DecidedParts ps) → Means ps (told x)
meant ps (inl x) = x
meant ps (inr x) = x.2

pub accepted : (ps : List Part) → told (parts_decided ps) ≡ None → (notes : List (List Note)) × AreTyped ps notes
accepted ps e = subst (Means ps) e (meant ps (parts_decided ps))

pub refused : (ps : List Part) {place : Place} {b : Broken} → told (parts_decided ps) ≡ Some (place, b) → AreViolated ps place b
refused ps e = subst (Means ps) e (meant ps (parts_decided ps))

-- the notes that are decided, if there are such
abbrev pub noted : {ps : List Part} → DecidedParts ps → Option (List (List Note))
noted (inl x) = Some x.0
noted (inr x) = None

abbrev Notes : List Part → Option (List (List Note)) → Type 0
Notes ps None = ⊤
Notes ps (Some notes) = AreTyped ps notes

noting : (ps : List Part) (x : DecidedParts ps) → Notes ps (noted x)
noting ps (inl x) = x.1
noting ps (inr x) = tt

pub typed : (ps : List Part) {notes : List (List Note)} → noted (parts_decided ps) ≡ Some notes → AreTyped ps notes
typed ps e = subst (Notes ps) e (noting ps (parts_decided ps))
