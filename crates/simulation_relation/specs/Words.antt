-- Values as words of 64 bits, and the Wasm locals and globals that hold them. This project's own.
use Rattle.std.specs.Prelude.{◌≡◌, ℕ, suc, List, [], ◌∷◌, ◌++◌, length, Option, Some, None, slice_get, ⊤}
use Rattle.rw_types.specs.declared.types.Ty.{Ty}
use Rattle.rich_types.specs.Scopes.{Scope}
use Rattle.rich_types.specs.Sizes.{size_under}
use Rattle.rich_reduction.specs.Configurations.{Cap, Code, Empty, Fold, Location, Number, Own, Pack, Ptr, Ref, Tuple, Val, Vals, more, none}

-- the addresses of cells, each by its location; there is none where there are no cells
abbrev pub Book : Type 0
Book = Location → Option ℕ

abbrev pub no_book : Book
no_book l = None

module _ (book : Book) where
  abbrev mutual
    -- the words of a value: of a number its bits, of code the function's number, of what refers to a cell its address
    pub Spells : Val → List ℕ → Type 0
    Spells (Number n) ws = ws ≡ n ∷ []
    Spells Empty ws = ws ≡ []
    Spells (Tuple vs) ws = SpellsAll vs ws
    Spells (Ref l p) ws = (a : ℕ) × (book l ≡ Some a) × (ws ≡ a ∷ [])
    Spells (Ptr l) ws = (a : ℕ) × (book l ≡ Some a) × (ws ≡ a ∷ [])
    Spells (Cap l p) ws = ws ≡ []
    Spells (Own l) ws = ws ≡ []
    Spells (Fold v) ws = Spells v ws
    Spells (Pack v) ws = Spells v ws
    Spells (Code n) ws = ws ≡ n ∷ []

    -- of the parts of a tuple, one behind another
    pub SpellsAll : Vals → List ℕ → Type 0
    SpellsAll none ws = ws ≡ []
    SpellsAll (more v vs) ws = (first : List ℕ) × (rest : List ℕ) × (ws ≡ first ++ rest) × Spells v first × SpellsAll vs rest

  -- a value with as many words as its type
  pub record IsSpelled (c : Scope) (t : Ty) (v : Val) (ws : List ℕ) : Type 0 where
    pub spelled : Spells v ws
    pub sized : length ws ≡ size_under c t

  -- operands of these types, the top one first; their words stand the deepest first
  abbrev pub AreSpelled : Scope → List Ty → List Val → List ℕ → Type 0
  AreSpelled c [] [] ws = ws ≡ []
  AreSpelled c (t ∷ ts) (v ∷ vs) ws = (beneath : List ℕ) × (own : List ℕ) × (ws ≡ beneath ++ own) × IsSpelled c t v own × AreSpelled c ts vs beneath
  AreSpelled c _ _ ws = ⊥

-- these words stand side by side from a place on
abbrev pub Holds : List ℕ → ℕ → List ℕ → Type 0
Holds locals at [] = ⊤
Holds locals at (n ∷ ws) = (slice_get locals at ≡ Some n) × Holds locals (suc at) ws

-- locals of these types hold their values, each from its place on
abbrev pub LocalsHold : Book → Scope → List ℕ → List ℕ → List Ty → List Val → Type 0
LocalsHold book c locals [] [] [] = ⊤
LocalsHold book c locals (at ∷ places) (t ∷ ts) (v ∷ vs) = (ws : List ℕ) × IsSpelled book c t v ws × Holds locals at ws × LocalsHold book c locals places ts vs
LocalsHold book c locals _ _ _ = ⊥
