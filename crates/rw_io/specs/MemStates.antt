-- What the forms in memory tell, which is everything, and their plans; this project's own.
use Rattle.std.specs.Prelude.{◌≡◌, ℕ, List, is_some}
use Rattle.std.specs.declared.option.Option.TheVariants.{Some}
use Rattle.rw_io.specs.declared.mem.MemShelf.{MemShelf}
use Rattle.rw_io.specs.declared.mem.MemSink.{MemSink}
use Rattle.rw_io.specs.CountedCalls.{CountsAppend, CountsPut}
use Rattle.rw_io.specs.Pieces.{Answer}
use Rattle.rw_io.specs.MemForms.{Plan, named_files, created_last, next_plan}
use Rattle.rw_io.specs.States.{ShelfState, SinkState}

-- what a shelf in memory tells
abbrev pub shelf_state : MemShelf → ShelfState
shelf_state shelf = record {
  holding = record { files = Some (named_files shelf.files.items); created = Some (created_last shelf.created); has_created = is_some shelf.created };
  load_faults = shelf.load_faults;
  put_faults = shelf.put_faults;
  stalls = shelf.stalls;
}

-- what a sink in memory tells
abbrev pub sink_state : MemSink → SinkState
sink_state sink = record { bytes = Some sink.bytes.items; faults = sink.faults; stalls = sink.stalls }

-- when a shelf in memory is to fail, and how much it takes
abbrev pub shelf_plan : MemShelf → Plan
shelf_plan shelf = record { fails = shelf.fails.items; most = shelf.most; calls = shelf.calls }

-- when a sink in memory is to fail, and how much it takes
abbrev pub sink_plan : MemSink → Plan
sink_plan sink = record { fails = sink.fails.items; most = sink.most; calls = sink.calls }

-- an append to a shelf in memory is one more call of its plan, and counts what happened
abbrev pub mem_appends : MemShelf → List ℕ → Answer → MemShelf → Type 0
mem_appends before piece answer after = (shelf_plan after ≡ next_plan (shelf_plan before)) × CountsAppend piece answer (shelf_state before) (shelf_state after)

-- a put to a sink in memory is one more call of its plan, and counts what happened
abbrev pub mem_puts : MemSink → List ℕ → Answer → MemSink → Type 0
mem_puts before piece answer after = (sink_plan after ≡ next_plan (sink_plan before)) × CountsPut piece answer (sink_state before) (sink_state after)
