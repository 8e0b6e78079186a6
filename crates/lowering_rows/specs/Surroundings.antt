-- What the code of an instruction is told beside its note: the program, and the frame of the body. This project's own.
use Rattle.std.specs.Prelude.{ℕ, zero, suc, ◌+◌, List, [], ◌∷◌, Option, Some, None, slice_get}
use Rattle.rw_types.specs.declared.types.Mem.{Mem}
use Rattle.rw_types.specs.declared.types.Mem.TheVariants.{L, U}
use Rattle.rw_program.specs.declared.linked.LinkedFunc.{LinkedFunc}
use Rattle.rw_program.specs.declared.linked.LinkedGlobal.{LinkedGlobal}
use Rattle.rw_program.specs.Programs.{Program}
use Rattle.layout.specs.Frames.{function_frame, global_words, local_places, result_words, start_frame}
use Rattle.layout.specs.Limits.{globals_before, greatest_result}

-- the first Wasm local of each local, of the operands and of the two scratch words
pub record Places : Type 0 where
  pub locals : List ℕ
  pub operands : ℕ
  pub scratch : ℕ

-- what does not change in a body; `type_of` has the index of the function type that takes so many words and gives nothing
pub record Surroundings : Type 0 where
  pub program : Program
  pub type_of : ℕ → ℕ
  pub places : Places

-- in the body of a function
abbrev pub in_function : Program → (ℕ → ℕ) → LinkedFunc → Surroundings
in_function p type_of f = record {
  program = p;
  type_of = type_of;
  places = record { locals = local_places f; operands = (function_frame f).operands; scratch = (function_frame f).scratch };
}

-- in the initialisers, which stand in the exported main
abbrev pub in_initialiser : Program → (ℕ → ℕ) → Surroundings
in_initialiser p type_of = record {
  program = p;
  type_of = type_of;
  places = record { locals = []; operands = (start_frame p).operands; scratch = (start_frame p).scratch };
}

-- the first Wasm local of a local
abbrev pub place_in : Option ℕ → ℕ
place_in (Some n) = n
place_in None = 0

abbrev pub local_place : Surroundings → ℕ → ℕ
local_place s n = place_in (slice_get s.places.locals n)

-- the Wasm local of an operand word, by its height
abbrev pub operand_place : Surroundings → ℕ → ℕ
operand_place s height = s.places.operands + height

-- the two scratch words
abbrev pub first_scratch : Surroundings → ℕ
first_scratch s = s.places.scratch

abbrev pub second_scratch : Surroundings → ℕ
second_scratch s = suc s.places.scratch

-- the words that a function gives
abbrev pub words_given_by : Option LinkedFunc → ℕ
words_given_by (Some f) = result_words f
words_given_by None = 0

abbrev pub called_results : Surroundings → ℕ → ℕ
called_results s n = words_given_by (slice_get s.program.funcs n)

-- the words of the global of this number, and the first of its Wasm globals, where these begin at one
abbrev pub words_of_global : List LinkedGlobal → ℕ → ℕ
words_of_global [] n = 0
words_of_global (g ∷ gs) zero = global_words g
words_of_global (g ∷ gs) (suc n) = words_of_global gs n

abbrev pub place_of_global : ℕ → List LinkedGlobal → ℕ → ℕ
place_of_global at [] n = at
place_of_global at (g ∷ gs) zero = at
place_of_global at (g ∷ gs) (suc n) = place_of_global (at + global_words g) gs n

-- the first result global
abbrev pub first_result : ℕ
first_result = globals_before

-- the first Wasm global of the program's globals
abbrev pub first_global : Program → ℕ
first_global p = globals_before + greatest_result p.funcs

abbrev pub global_size : Surroundings → ℕ → ℕ
global_size s n = words_of_global s.program.globals n

abbrev pub global_place : Surroundings → ℕ → ℕ
global_place s n = place_of_global (first_global s.program) s.program.globals n

-- the allocator of a memory, and the function that frees
abbrev pub allocator : Mem → ℕ
allocator L = 1
allocator U = 3

abbrev pub free_function : ℕ
free_function = 2
