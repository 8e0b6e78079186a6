-- What a program that passes no limit keeps.
use Rattle.std.proofs.Common.{◌≡◌, ◌≤◌, ℕ, suc, Bool, true, false, List, [], ◌∷◌, ◌++◌, All, Option, Some, None, length, map, refl}
use Rattle.std.specs.Prelude.{if◌then◌else◌, nat_lt}
use Rattle.std.proofs.lemmas.Bool.{ltb-false}
use Rattle.std.proofs.lemmas.List.Elements.{All-cons, All-nil}
use Rattle.rw_program.specs.declared.linked.LinkedFunc.{LinkedFunc}
use Rattle.rw_program.specs.Programs.{Program}
use Rattle.layout.specs.Frames.{function_frame, start_frame}
use Rattle.layout.specs.Limits.{Functions, Globals, Many, Passed, Table, TooMany, TooWide, counted_within, first_passed, first_too_wide, frame_totals, function_count, global_count, most_entries, most_words}

kept : (many : Many) (count : ℕ) (rest : Option Passed) → counted_within many count rest ≡ None → (count ≤ most_entries) × (rest ≡ None)
kept many count rest e = by_test (nat_lt most_entries count) refl e
  where
    by_test : (b : Bool) → nat_lt most_entries count ≡ b → (if b then Some (TooMany many count) else rest) ≡ None → (count ≤ most_entries) × (rest ≡ None)
    by_test true t e = cc
    by_test false t e = (ltb-false most_entries count t, e)

narrow : (n words : ℕ) (rest : List ℕ) → first_too_wide n (words ∷ rest) ≡ None → (words ≤ most_words) × (first_too_wide (suc n) rest ≡ None)
narrow n words rest e = by_test (nat_lt most_words words) refl e
  where
    by_test : (b : Bool) → nat_lt most_words words ≡ b → (if b then Some (TooWide n words) else first_too_wide (suc n) rest) ≡ None → (words ≤ most_words) × (first_too_wide (suc n) rest ≡ None)
    by_test true t e = cc
    by_test false t e = (ltb-false most_words words t, e)

-- the frame of a function has few words
abbrev pub IsNarrow : LinkedFunc → Type 0
IsNarrow f = (function_frame f).total ≤ most_words

all_narrow : (n last : ℕ) (fs : List LinkedFunc) → first_too_wide n (map (λ (f : LinkedFunc). (function_frame f).total) fs ++ last ∷ []) ≡ None → All IsNarrow fs × (last ≤ most_words)
all_narrow n last [] e = (All-nil IsNarrow, (narrow n last [] e).0)
all_narrow n last (f ∷ fs) e =
    let first = narrow n (function_frame f).total (map (λ (g : LinkedFunc). (function_frame g).total) fs ++ last ∷ []) e in
    let rest = all_narrow (suc n) last fs first.1 in
    (All-cons IsNarrow f fs first.0 rest.0, rest.1)

pub record KeepsLimits (p : Program) : Type 0 where
  pub functions : function_count p ≤ most_entries
  pub globals : global_count p ≤ most_entries
  pub table : length p.funcs ≤ most_entries
  pub frames : All IsNarrow p.funcs
  pub start : (start_frame p).total ≤ most_words

pub keeps : (p : Program) → first_passed p ≡ None → KeepsLimits p
keeps p e =
    let functions = kept Functions (function_count p) (counted_within Globals (global_count p) (counted_within Table (length p.funcs) (first_too_wide 0 (frame_totals p)))) e in
    let globals = kept Globals (global_count p) (counted_within Table (length p.funcs) (first_too_wide 0 (frame_totals p))) functions.1 in
    let table = kept Table (length p.funcs) (first_too_wide 0 (frame_totals p)) globals.1 in
    let frames = all_narrow 0 (start_frame p).total p.funcs table.1 in
    record { functions = functions.0; globals = globals.0; table = table.0; frames = frames.0; start = frames.1 }
