-- Segments that are put one after another: what is left to be put, put on what stands, is all.
use Rattle.std.proofs.Common.{◌≡◌, ◌∙◌, ℕ, ◌+◌, ◌<◌, ◌≤◌, List, length, map, drop, get_or, sym, ap}
use Rattle.std.specs.Prelude.{Option, None}
use Rattle.std.proofs.lemmas.Bool.{leb-true}
use Rattle.memory_words.specs.Memories.{put}
use Rattle.wasm_ast.specs.declared.instructions.WInstr.{out-WInstr}
use Rattle.wasm_ast.specs.declared.modules.DataSeg.{DataSeg}
use Rattle.wasm_ast.specs.declared.modules.ElemSeg.{ElemSeg}
use Rattle.wasm_execution.specs.Starts.{first_failing, fits_memory, fits_table, put_elements, put_functions, put_segments, value_in}
use Rattle.wasm_starts.proofs.Failing.{drop_cons, passes}

module _ (globals : List ℕ) where
  pub element_fits : (entries n : ℕ) (ss : List ElemSeg) (i : ℕ) (s : ElemSeg) → first_failing n (map (fits_table globals entries) ss) ≡ None → i < length ss → s ≡ get_or ss i s
      → value_in globals (out-WInstr s.offset) + length s.funcs ≤ entries
  element_fits entries n ss i s e lt q = leb-true (value_in globals (out-WInstr s.offset) + length s.funcs) entries (passes (fits_table globals entries) n ss i s e lt q)

  pub segment_fits : (bytes n : ℕ) (ss : List DataSeg) (i : ℕ) (s : DataSeg) → first_failing n (map (fits_memory globals bytes) ss) ≡ None → i < length ss → s ≡ get_or ss i s
      → value_in globals (out-WInstr s.offset) + length s.bytes ≤ bytes
  segment_fits bytes n ss i s e lt q = leb-true (value_in globals (out-WInstr s.offset) + length s.bytes) bytes (passes (fits_memory globals bytes) n ss i s e lt q)

  pub one_element : (ss : List ElemSeg) (first table next : List (Option ℕ)) (i at : ℕ) (s : ElemSeg) → i < length ss → s ≡ get_or ss i s → at ≡ value_in globals (out-WInstr s.offset) → next ≡ put_functions at s.funcs table
      → put_elements globals (drop i ss) table ≡ put_elements globals ss first → put_elements globals (drop (i + 1) ss) next ≡ put_elements globals ss first
  one_element ss first table next i at s lt q a e before =
      ap (put_elements globals (drop (i + 1) ss)) (e ∙ ap (λ (k : ℕ). put_functions k s.funcs table) a)
      ∙ sym (ap (λ (l : List ElemSeg). put_elements globals l table) (drop_cons ss i s lt q)) ∙ before

  pub one_segment : (ss : List DataSeg) (first memory next : List ℕ) (i at : ℕ) (s : DataSeg) → i < length ss → s ≡ get_or ss i s → at ≡ value_in globals (out-WInstr s.offset) → next ≡ put memory at s.bytes
      → put_segments globals (drop i ss) memory ≡ put_segments globals ss first → put_segments globals (drop (i + 1) ss) next ≡ put_segments globals ss first
  one_segment ss first memory next i at s lt q a e before =
      ap (put_segments globals (drop (i + 1) ss)) (e ∙ ap (λ (k : ℕ). put memory k s.bytes) a)
      ∙ sym (ap (λ (l : List DataSeg). put_segments globals l memory) (drop_cons ss i s lt q)) ∙ before
