-- The limits of lowered programs, and which of them a program passes. This project's own.
use Rattle.std.specs.Prelude.{ℕ, suc, ◌+◌, max, map, nat_lt, List, [], ◌∷◌, ◌++◌, length, Option, Some, None, if◌then◌else◌}
use Rattle.rw_program.specs.declared.linked.LinkedFunc.{LinkedFunc}
use Rattle.rw_program.specs.declared.linked.LinkedGlobal.{LinkedGlobal}
use Rattle.rw_program.specs.Programs.{Program}
use Rattle.layout.specs.Bodies.{text_order}
use Rattle.layout.specs.Calls.{greatest_indirect}
use Rattle.layout.specs.Frames.{function_frame, global_words, result_words, start_frame}

-- Wasm functions before the linked ones: the print, and the three of the allocators
abbrev pub functions_before : ℕ
functions_before = 4

-- Wasm globals before the result globals: the trap code, and the next address of the unrestricted region
abbrev pub globals_before : ℕ
globals_before = 2

-- all Wasm functions: those, the linked ones and the exported main
abbrev pub function_count : Program → ℕ
function_count p = functions_before + length p.funcs + 1

-- the greatest number of words that a function gives, or that a call through a type in its body gives
abbrev pub handed_words : LinkedFunc → ℕ
handed_words f = max (result_words f) (greatest_indirect (text_order f.body) f.notes)

-- the greatest of these over all functions
abbrev pub greatest_result : List LinkedFunc → ℕ
greatest_result [] = 0
greatest_result (f ∷ fs) = max (handed_words f) (greatest_result fs)

-- the words of these globals together
abbrev pub globals_words : List LinkedGlobal → ℕ
globals_words [] = 0
globals_words (g ∷ gs) = global_words g + globals_words gs

-- all Wasm globals: those, one for each result word, and the words of the program's globals
abbrev pub global_count : Program → ℕ
global_count p = globals_before + greatest_result p.funcs + globals_words p.globals

-- what there is too much of
pub data Many : Type 0 where
  Functions : Many
  Globals : Many
  Table : Many

-- a limit that is passed: by a count, or by the frame of the function of this number, after the last of which stands the
-- exported main
pub data Passed : Type 0 where
  TooMany : Many → ℕ → Passed
  TooWide : ℕ → ℕ → Passed

abbrev pub most_words : ℕ
most_words = 10000

abbrev pub most_entries : ℕ
most_entries = 100000

-- a count that passes its limit, and else what follows
abbrev pub counted_within : Many → ℕ → Option Passed → Option Passed
counted_within many count rest = if nat_lt most_entries count then Some (TooMany many count) else rest

-- the least of these frames, numbered from one on, that has too many words
abbrev pub first_too_wide : ℕ → List ℕ → Option Passed
first_too_wide n [] = None
first_too_wide n (words ∷ rest) = if nat_lt most_words words then Some (TooWide n words) else first_too_wide (suc n) rest

-- the words of all frames, that of the exported main last
abbrev pub frame_totals : Program → List ℕ
frame_totals p = map (λ (f : LinkedFunc). (function_frame f).total) p.funcs ++ (start_frame p).total ∷ []

-- the first limit that a program passes: functions, globals, the table, and then frames
abbrev pub first_passed : Program → Option Passed
first_passed p =
    counted_within Functions (function_count p)
    (counted_within Globals (global_count p)
    (counted_within Table (length p.funcs)
    (first_too_wide 0 (frame_totals p))))
