-- Instructions on locals. This project's own.
use Rattle.std.specs.Prelude.{◌≡◌, ℕ, ◌+◌, List, ◌∷◌, ⊤}
use Rattle.wasm_execution.specs.Configurations as w
use Rattle.wasm_execution.specs.Environments.{Environment}
use Rattle.rw_types.specs.declared.instrs.Instr.{Instr, LocalGet, LocalSet, LocalTake}
use Rattle.rich_typing.specs.declared.notes.Note.{Note}
use Rattle.rich_rules.specs.Table.{note_of}
use Rattle.rich_reduction.specs.Configurations as r
use Rattle.rw_program.specs.Programs.{Program}
use Rattle.layout.specs.Frames.{taken_words}
use Rattle.lowering_rows.specs.Taken.{local_size, scope_at}
use Rattle.lowering_names.specs.Placed.{StandsIn}
use Rattle.simulation_relation.specs.Bodies.{Body, IsRunning}
use Rattle.simulation_relation.specs.Words.{Book}
use Rattle.simulation_frames.specs.Steps.{StepsAlike}

abbrev pub IsOnLocals : Instr → Type 0
IsOnLocals (LocalGet n) = ⊤
IsOnLocals (LocalTake n) = ⊤
IsOnLocals (LocalSet n) = ⊤
IsOnLocals _ = ⊥

-- the words that such an instruction moves
abbrev pub words_moved : Instr → Note → ℕ
words_moved (LocalSet n) note = taken_words note
words_moved _ note = local_size (scope_at note) note.local

-- where such an instruction is next in a body that stands in its frame, one step is answered by two for each word
abbrev pub LocalsStepAlike : Type 0
LocalsStepAlike = (p : Program) (e : Environment) (b : Body) (book : Book) (a : r.Config) (c : w.Config) (i : Instr) (is : List Instr) → IsOnLocals i → StandsIn b.around b.frame b.room →
    (run : IsRunning b book a.here c.here) → a.here.rest ≡ i ∷ is → StepsAlike p e b book a c is (words_moved i (note_of b.frame run.point i) + words_moved i (note_of b.frame run.point i))
