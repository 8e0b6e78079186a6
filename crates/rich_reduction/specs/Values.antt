-- Values as words, and tuples as lists. This project's own.
use Rattle.std.specs.Prelude.{ℕ, ◌+◌, List, [], ◌∷◌}
use Rattle.rich_reduction.specs.Configurations.{Val, Number, Empty, Tuple, Ref, Ptr, Cap, Own, Fold, Pack, Code, Vals, none, more}

abbrev mutual
  -- the words of a value: a right to a location has none
  pub words : Val → ℕ
  words (Number n) = 1
  words Empty = 0
  words (Tuple vs) = words_of_all vs
  words (Ref l p) = 1
  words (Ptr l) = 1
  words (Cap l p) = 0
  words (Own l) = 0
  words (Fold v) = words v
  words (Pack v) = words v
  words (Code f) = 1

  -- the words of the parts of a tuple together
  pub words_of_all : Vals → ℕ
  words_of_all none = 0
  words_of_all (more v vs) = words v + words_of_all vs

-- the parts of a tuple, from a list
abbrev pub parts_of : List Val → Vals
parts_of [] = none
parts_of (v ∷ vs) = more v (parts_of vs)

-- the list of the parts of a tuple
abbrev pub list_of : Vals → List Val
list_of none = []
list_of (more v vs) = v ∷ list_of vs
