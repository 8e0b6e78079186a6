-- Rows of blocks, with what is entered written out. This project's own.
use Rattle.std.specs.Prelude.{◌≡◌, List, [], ◌∷◌, Some, None}
use Rattle.rw_types.specs.declared.instrs.BlockSig.{BlockSig}
use Rattle.rw_types.specs.declared.types.Ty.{Ty}
use Rattle.rich_types.specs.Rows.{long, short, unit_type}
use Rattle.rich_typing.specs.declared.rules.Rule.TheVariants as rule
use Rattle.rich_rules.specs.Blocks.{block_row, loop_row, if_row}
use Rattle.rich_rules.specs.Points.{Frame, OfFunction, Label, Point, Enters, Breaks, Broke, Exactly, start, after}
use Rattle.rw_block_rows.specs.declared.entries.Aim.{Aim}
use Rattle.rw_block_rows.specs.declared.entries.Aim.TheVariants.{Start, Behind}
use Rattle.rw_block_rows.specs.declared.entries.Entry.{Entry}
use Rattle.rw_block_rows.specs.Entries.{entry_seen}

-- a frame with one slot of two words
abbrev pub frame : Frame
frame = record { functions = []; globals = []; slots = 2 ∷ []; owner = OfFunction }

-- a block that takes a number of 64 bits and, on top, one of 32, gives one of 32, and leaves one of 64 in the local
abbrev pub signature : BlockSig
signature = record { params = long ∷ short ∷ []; results = short ∷ []; locals = record { index = 0; ty = long } ∷ [] }

-- a point where the local is a unit
abbrev pub point : List Ty → Point
point operands = record { binders = []; locals = unit_type ∷ []; labels = []; results = long ∷ []; operands = operands }

-- what is entered there, in the order of the text
abbrev pub entry_aimed : Aim → Entry
entry_aimed aim = record {
  binder = None;
  aim = aim;
  start = record { operands = long ∷ short ∷ []; locals = unit_type ∷ [] };
  payloads = [];
  end = record { operands = short ∷ []; locals = long ∷ [] };
  after = record { operands = short ∷ []; locals = long ∷ [] };
}

-- the point at the start of the list, under this label
abbrev pub inside : Label → Point
inside label = record { binders = []; locals = unit_type ∷ []; labels = label ∷ []; results = long ∷ []; operands = short ∷ long ∷ [] }

-- each of the three rows, and what stands in an entry
pub record WorkedEntries : Type 0 where
  pub a_block : block_row frame (point (short ∷ long ∷ unit_type ∷ [])) signature ≡ Enters (entry_seen (entry_aimed Behind) (point (short ∷ long ∷ unit_type ∷ [])) (unit_type ∷ []))
  pub a_loop : loop_row frame (point (short ∷ long ∷ unit_type ∷ [])) signature ≡ Enters (entry_seen (entry_aimed Start) (point (short ∷ long ∷ unit_type ∷ [])) (unit_type ∷ []))
  pub an_if : if_row frame (point (short ∷ short ∷ long ∷ unit_type ∷ [])) signature ≡ Enters (entry_seen (entry_aimed Behind) (point (short ∷ short ∷ long ∷ unit_type ∷ [])) (unit_type ∷ []))
  pub an_if_without_its_number : if_row frame (point (long ∷ short ∷ long ∷ [])) signature ≡ Breaks (Broke rule.OperandType (Some long) (Some short))
  pub the_start_of_a_block : start (entry_seen (entry_aimed Behind) (point []) (unit_type ∷ [])) 0 ≡ inside (record { types = short ∷ []; locals = long ∷ []; rest = unit_type ∷ [] })
  pub the_start_of_a_loop : start (entry_seen (entry_aimed Start) (point []) (unit_type ∷ [])) 0 ≡ inside (record { types = short ∷ long ∷ []; locals = unit_type ∷ []; rest = unit_type ∷ [] })
  pub the_end : (entry_seen (entry_aimed Behind) (point []) (unit_type ∷ [])).demand ≡ record { types = short ∷ []; locals = Exactly (long ∷ []) }
  pub behind : after (entry_seen (entry_aimed Behind) (point []) (unit_type ∷ [])) (point []) ≡ record { binders = []; locals = long ∷ []; labels = []; results = long ∷ []; operands = short ∷ unit_type ∷ [] }
