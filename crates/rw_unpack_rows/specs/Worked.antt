-- Rows of unpacking and of variants, with what is entered written out. This project's own.
use Rattle.std.specs.Prelude.{◌≡◌, [], ◌∷◌, Some, None}
use Rattle.rw_types.specs.declared.instrs.BlockSig.{BlockSig}
use Rattle.rw_types.specs.declared.types.Binder.TheVariants.{Loc, Kind}
use Rattle.rw_types.specs.declared.types.Heap.TheVariants.{Variant, Exist}
use Rattle.rw_types.specs.declared.types.Mem.TheVariants.{L}
use Rattle.rw_types.specs.declared.types.Pre.{Own, Ref}
use Rattle.rw_types.specs.declared.types.Pre.TheVariants.{Hidden}
use Rattle.rw_types.specs.declared.types.Priv.TheVariants.{Rw}
use Rattle.rw_types.specs.declared.types.Qual.TheVariants.{Lin, Unr}
use Rattle.rw_types.specs.declared.types.Ty.{Ty, Of, Var}
use Rattle.rich_types.specs.Rows.{address, long, short, unit_type}
use Rattle.rich_rules.specs.Blocks.{mem_unpack_row, exist_unpack_row, variant_case_row}
use Rattle.rich_rules.specs.Points.{Frame, OfFunction, Point, Enters}
use Rattle.rw_block_rows.specs.declared.entries.Aim.TheVariants.{Behind}
use Rattle.rw_block_rows.specs.declared.entries.Entry.{Entry}
use Rattle.rw_block_rows.specs.Entries.{entry_seen}

-- a frame without slots
abbrev pub frame : Frame
frame = record { functions = []; globals = []; slots = []; owner = OfFunction }

-- a block that takes and gives the address of the innermost location
abbrev pub signature : BlockSig
signature = record { params = address 0 ∷ []; results = address 0 ∷ []; locals = [] }

-- a point below one location, with its address in the local and, under this operand, on the stack
abbrev pub point : Ty → Point
point top = record { binders = Loc L ∷ []; locals = address 0 ∷ []; labels = []; results = []; operands = top ∷ address 0 ∷ unit_type ∷ [] }

-- a hidden right to a location, a reference to a package, and one to a variant
abbrev pub hidden : Ty
hidden = Of Lin (Hidden L (Of Lin (Own 0)))

abbrev pub packed : Ty
packed = Of Lin (Ref Rw 0 (Exist Unr 1 (Var 0)))

abbrev pub cases : Ty
cases = Of Lin (Ref Rw 0 (Variant (long ∷ short ∷ [])))

-- below one location more the address has the next number
abbrev pub below_location : Entry
below_location = record {
  binder = Some (Loc L);
  aim = Behind;
  start = record { operands = address 1 ∷ Of Lin (Own 0) ∷ []; locals = address 1 ∷ [] };
  payloads = [];
  end = record { operands = address 1 ∷ []; locals = address 1 ∷ [] };
  after = record { operands = address 0 ∷ []; locals = address 0 ∷ [] };
}

-- below a type variable it has the same one
abbrev pub below_variable : Entry
below_variable = record {
  binder = Some (Kind Unr 1);
  aim = Behind;
  start = record { operands = address 0 ∷ Var 0 ∷ []; locals = address 0 ∷ [] };
  payloads = [];
  end = record { operands = address 0 ∷ []; locals = address 0 ∷ [] };
  after = record { operands = address 0 ∷ []; locals = address 0 ∷ [] };
}

-- a list for each case, with its payload on top
abbrev pub of_cases : Entry
of_cases = record {
  binder = None;
  aim = Behind;
  start = record { operands = address 0 ∷ []; locals = address 0 ∷ [] };
  payloads = long ∷ short ∷ [];
  end = record { operands = address 0 ∷ []; locals = address 0 ∷ [] };
  after = record { operands = address 0 ∷ []; locals = address 0 ∷ [] };
}

-- each of the three rows
pub record WorkedUnpacking : Type 0 where
  pub of_a_hidden_location : mem_unpack_row frame (point hidden) signature ≡ Enters (entry_seen below_location (point hidden) (unit_type ∷ []))
  pub of_a_package : exist_unpack_row frame (point packed) signature ≡ Enters (entry_seen below_variable (point packed) (unit_type ∷ []))
  pub of_a_variant : variant_case_row frame (point cases) signature 2 ≡ Enters (entry_seen of_cases (point cases) (unit_type ∷ []))
