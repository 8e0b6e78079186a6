-- What each instruction does to the stores, and says. This project's own.
use Rattle.std.specs.Prelude.{◌≡◌, ℕ, List, [], ◌∷◌, Some, ⊤}
use Rattle.rw_types.specs.declared.instrs.Instr as i
use Rattle.rw_types.specs.declared.types.Mem.{Mem}
use Rattle.rw_types.specs.declared.types.Mem.TheVariants.{L}
use Rattle.machine_steps.specs.declared.End.{End}
use Rattle.machine_steps.specs.declared.End.TheVariants.{Value, Trap}
use Rattle.machine_steps.specs.declared.Trap.TheVariants.{DivideByZero, Overflow, Index, Unreachable}
use Rattle.machine_steps.specs.Steps.{Turn, Went, Ended, NoStep}
use Rattle.rich_reduction.specs.Configurations.{Val, Number, Location, Content, Cell, Stores, Config, Event, Print, Made, Touched}
use Rattle.rich_reduction.specs.Cells.{cell_at, put_at, new_location, with_new, opening, opened_in}

-- nothing; a number is printed; a cell of this memory is made; a cell is read, or written; the content of a cell is taken, with the
-- cell where it is linear; a linear cell is freed
pub data Effect : Type 0 where
  Quiet : Effect
  Prints : Effect
  Makes : Mem → Effect
  Reads : Effect
  Writes : Effect
  Opens : Effect
  Frees : Effect

abbrev pub effect_of : i.Instr → Effect
effect_of i.Print = Prints
effect_of (i.StructMalloc m sizes) = Makes m
effect_of i.StructFree = Frees
effect_of (i.StructGet n) = Reads
effect_of (i.StructSet n) = Writes
effect_of (i.StructSwap n) = Writes
effect_of (i.VariantMalloc m n cases) = Makes m
effect_of (i.VariantCase' sig _ arms) = Opens
effect_of (i.ArrayMalloc m) = Makes m
effect_of i.ArrayGet = Reads
effect_of i.ArraySet = Writes
effect_of i.ArrayLen = Reads
effect_of i.ArrayFree = Frees
effect_of (i.ExistPack m q size t body) = Makes m
effect_of (i.ExistUnpack' sig _ body) = Opens
effect_of _ = Quiet

-- the effect of the next step; the leaving of a list has none
abbrev pub next_effect : List i.Instr → Effect
next_effect [] = Quiet
next_effect (i ∷ rest) = effect_of i

-- nothing is said, and the stores stay
pub record IsQuiet (s s' : Stores) (es : List Event) : Type 0 where
  pub said : es ≡ []
  pub stays : s' ≡ s

-- the top operand is a number, which is printed
pub record PrintsTop (operands : List Val) (s s' : Stores) (es : List Event) : Type 0 where
  pub number : ℕ
  pub beneath : List Val
  pub is_top : operands ≡ Number number ∷ beneath
  pub said : es ≡ Print number ∷ []
  pub stays : s' ≡ s

-- a cell is made at the new location of its memory, and touched
pub record MakesCell (m : Mem) (s s' : Stores) (es : List Event) : Type 0 where
  pub cell : Cell
  pub said : es ≡ Made (new_location m s) cell.words ∷ Touched (new_location m s) ∷ []
  pub made : s' ≡ with_new m cell s

-- a cell is touched, and the stores stay
pub record ReadsCell (s s' : Stores) (es : List Event) : Type 0 where
  pub location : Location
  pub cell : Cell
  pub there : cell_at location s ≡ Some cell
  pub said : es ≡ Touched location ∷ []
  pub stays : s' ≡ s

-- a cell is touched, and holds something else afterwards; its words stay
pub record WritesCell (s s' : Stores) (es : List Event) : Type 0 where
  pub location : Location
  pub cell : Cell
  pub content : Content
  pub there : cell_at location s ≡ Some cell
  pub said : es ≡ Touched location ∷ []
  pub written : s' ≡ put_at location (record cell { content = content }) s

-- a cell is touched, and where it is linear it is freed
pub record OpensCell (s s' : Stores) (es : List Event) : Type 0 where
  pub location : Location
  pub cell : Cell
  pub there : cell_at location s ≡ Some cell
  pub said : es ≡ opening location.mem location
  pub opened : s' ≡ opened_in location.mem location.number s

-- a linear cell is touched and freed
pub record FreesCell (s s' : Stores) (es : List Event) : Type 0 where
  pub opens : OpensCell s s' es
  pub linear : opens.location.mem ≡ L

-- with these operands a step of this effect from these stores to those says this
abbrev pub Does : Effect → List Val → Stores → Stores → List Event → Type 0
Does Quiet operands s s' es = IsQuiet s s' es
Does Prints operands s s' es = PrintsTop operands s s' es
Does (Makes m) operands s s' es = MakesCell m s s' es
Does Reads operands s s' es = ReadsCell s s' es
Does Writes operands s s' es = WritesCell s s' es
Does Opens operands s s' es = OpensCell s s' es
Does Frees operands s s' es = FreesCell s s' es

-- the effect of a step that ends the run: nothing is written
abbrev pub at_end : Effect → Effect
at_end Writes = Reads
at_end e = e

-- the ends that come: a value, and four traps
abbrev pub MayEnd : End → Type 0
MayEnd (Value v) = ⊤
MayEnd (Trap DivideByZero) = ⊤
MayEnd (Trap Overflow) = ⊤
MayEnd (Trap Index) = ⊤
MayEnd (Trap Unreachable) = ⊤
MayEnd (Trap _) = ⊥

-- a run that ends at this configuration
pub record EndsAt (e : Effect) (c : Config) (es : List Event) (end : End) (c' : Config) : Type 0 where
  pub same : c' ≡ c
  pub may : MayEnd end
  pub does : Does (at_end e) c.here.operands c.stores c.stores es

-- a step of this effect, if there is one
abbrev pub HasEffect : Effect → Config → Turn Event Config → Type 0
HasEffect e c (Went es c') = Does e c.here.operands c.stores c'.stores es
HasEffect e c (Ended es end c') = EndsAt e c es end c'
HasEffect e c NoStep = ⊤
