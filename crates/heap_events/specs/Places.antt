-- What holds at each place of a list. This project's own.
use Rattle.std.specs.Prelude.{◌≡◌, List, ◌∷◌, ◌++◌}

-- this holds, at each place of the list, of what stands before and of the entry
abbrev pub AtEach : {X : Type 0} → (List X → X → Type 0) → List X → Type 0
AtEach P xs = (before after : List _) (x : _) → xs ≡ before ++ (x ∷ after) → P before x
