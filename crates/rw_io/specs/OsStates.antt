-- What the forms over the system tell, which is no contents, and how their calls may go; this project's own.
use Rattle.std.specs.Prelude.{◌≡◌, ℕ, List, is_some, IfErr}
use Rattle.std.specs.declared.option.Option.TheVariants.{None}
use Rattle.rw_io.specs.declared.error.PutError.TheVariants.{Failed}
use Rattle.rw_io.specs.declared.os.OsShelf.{OsShelf}
use Rattle.rw_io.specs.declared.os.OsSink.{OsSink}
use Rattle.rw_io.specs.CountedCalls.{CountsAppend, CountsPut}
use Rattle.rw_io.specs.Pieces.{Answer}
use Rattle.rw_io.specs.States.{ShelfState, SinkState}

-- what a shelf over the system's files tells: whether something was created, and its counts
abbrev pub os_shelf_state : {R File Dir : Type 0} → OsShelf R File Dir → ShelfState
os_shelf_state shelf = record {
  holding = record { files = None; created = None; has_created = is_some shelf.created };
  load_faults = shelf.load_faults;
  put_faults = shelf.put_faults;
  stalls = shelf.stalls;
}

-- what a sink over a writer tells: its counts
abbrev pub os_sink_state : {W : Type 0} → OsSink W → SinkState
os_sink_state sink = record { bytes = None; faults = sink.faults; stalls = sink.stalls }

-- an append to a shelf over the system's files counts what happened, and its one error is a failure
abbrev pub os_appends : {R File Dir : Type 0} → OsShelf R File Dir → List ℕ → Answer → OsShelf R File Dir → Type 0
os_appends before piece answer after = CountsAppend piece answer (os_shelf_state before) (os_shelf_state after) × IfErr answer (λ error. error ≡ Failed)

-- a put to a sink over a writer counts what happened, and its one error is a failure
abbrev pub os_puts : {W : Type 0} → OsSink W → List ℕ → Answer → OsSink W → Type 0
os_puts before piece answer after = CountsPut piece answer (os_sink_state before) (os_sink_state after) × IfErr answer (λ error. error ≡ Failed)
