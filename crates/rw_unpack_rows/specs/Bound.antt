-- The list that a block opens below a binder, as code tells it. This project's own.
use Rattle.std.specs.Prelude.{List, [], ◌∷◌, ◌++◌, Some}
use Rattle.rw_types.specs.declared.instrs.BlockSig.{BlockSig}
use Rattle.rw_types.specs.declared.types.Binder.{Binder}
use Rattle.rw_types.specs.declared.types.Ty.{Ty}
use Rattle.rich_rules.specs.Blocks.{changed_by}
use Rattle.rich_rules.specs.Raised.{below_one, raise_all}
use Rattle.rw_block_rows.specs.declared.entries.Aim.TheVariants.{Behind}
use Rattle.rw_block_rows.specs.declared.entries.Entry.{Entry}

-- with an operand of this type on top, where the locals have these types outside
abbrev pub entry_inside : Binder → List Ty → BlockSig → Ty → Entry
entry_inside binder locals b t = record {
  binder = Some binder;
  aim = Behind;
  start = record { operands = raise_all (below_one binder) b.params ++ t ∷ []; locals = raise_all (below_one binder) locals };
  payloads = [];
  end = record { operands = raise_all (below_one binder) b.results; locals = raise_all (below_one binder) (changed_by b.locals locals) };
  after = record { operands = b.results; locals = changed_by b.locals locals };
}
