-- Values and the configurations of a linked program that runs. This project's own.
use Rattle.std.specs.Prelude.{ℕ, List, [], ◌∷◌, Option}
use Rattle.rw_types.specs.declared.instrs.Instr.{Instr}
use Rattle.rw_types.specs.declared.types.Mem.{Mem}
use Rattle.rw_types.specs.declared.types.Priv.{Priv}

-- a memory, and a number in its store
pub record Location : Type 0 where
  pub mem : Mem
  pub number : ℕ

mutual
  -- a number, as a bit pattern; unit; a tuple; what names a location; a value behind a fold or a hidden type; a function
  pub data Val : Type 0 where
    Number : ℕ → Val
    Empty : Val
    Tuple : Vals → Val
    Ref : Location → Priv → Val
    Ptr : Location → Val
    Cap : Location → Priv → Val
    Own : Location → Val
    Fold : Val → Val
    Pack : Val → Val
    Code : ℕ → Val

  pub data Vals : Type 0 where
    none : Vals
    more : Val → Vals → Vals

-- a slot of a struct: its size in words, which stays, and its value
pub record Slot : Type 0 where
  pub size : ℕ
  pub value : Val

-- what a cell holds: the slots of a struct; the number of a case and its value; the elements of an array; the size in words of
-- a hidden type, and the value in whose type it stands
pub data Content : Type 0 where
  Slots : List Slot → Content
  Case : ℕ → Val → Content
  Elements : List Val → Content
  Hidden : ℕ → Val → Content

-- a cell, with its count of words, which is fixed when it is made
pub record Cell : Type 0 where
  pub words : ℕ
  pub content : Content

-- the place of a cell in its store is its location; a linear cell may be taken out
pub record Stores : Type 0 where
  pub linear : List (Option Cell)
  pub unrestricted : List Cell

-- where a branch to an open list leads: past its end, or to its start
pub data Aim : Type 0 where
  Past : Aim
  Back : List Instr → Aim

-- an open list: where a branch to it leads and how many operands it takes, how many its end leaves, and of the list around it
-- the sizes of type variables, the operands, the top one first, and what is left
pub record Level : Type 0 where
  pub aim : Aim
  pub takes : ℕ
  pub gives : ℕ
  pub sizes : List ℕ
  pub beneath : List Val
  pub rest : List Instr

-- a call: the number of its results, the sizes in words of the type variables in force, the innermost first, its locals, the
-- operands, the top one first, what is left of the list, and the open lists, the innermost first
pub record Here : Type 0 where
  pub results : ℕ
  pub sizes : List ℕ
  pub locals : List Val
  pub operands : List Val
  pub rest : List Instr
  pub levels : List Level

-- the call that runs, those that wait for it, the innermost first and the program's own list last, globals and stores
pub record Config : Type 0 where
  pub here : Here
  pub callers : List Here
  pub globals : List Val
  pub stores : Stores

-- what a step says: that a number was printed; that a cell of so many words was made; that it made, read, wrote, freed or took
-- out a cell; that a cell was freed or taken out
pub data Event : Type 0 where
  Print : ℕ → Event
  Made : Location → ℕ → Event
  Touched : Location → Event
  Freed : Location → Event

-- the numbers that an event prints
abbrev pub prints : Event → List ℕ
prints (Print n) = n ∷ []
prints _ = []
