-- The first segment out of bounds is the first of the element segments, or of the data segments behind them.
use Rattle.std.proofs.Common.{◌≡◌, ◌∙◌, ℕ, ◌+◌, List, length, map, sym, ap, arith}
use Rattle.std.specs.Prelude.{Option, Some, None}
use Rattle.std.proofs.lemmas.List.{length-map}
use Rattle.wasm_ast.specs.declared.modules.DataSeg.{DataSeg}
use Rattle.wasm_ast.specs.declared.modules.ElemSeg.{ElemSeg}
use Rattle.wasm_ast.specs.declared.modules.WModule.{WModule}
use Rattle.wasm_execution.specs.Starts.{first_bytes, first_entries, first_failing, first_globals, first_out, fits_memory, fits_table}
use Rattle.wasm_starts.proofs.Failing.{joined_first, joined_second}

table_is : (m : WModule) (gs : List ℕ) (entries : ℕ) (es : List ElemSeg) (o : Option ℕ) → gs ≡ first_globals m.globals → entries ≡ first_entries m.tables → es ≡ m.elements → o ≡ first_failing 0 (map (fits_table gs entries) es)
    → first_failing 0 (map (fits_table (first_globals m.globals) (first_entries m.tables)) m.elements) ≡ o
table_is m gs entries es o g t e q =
    sym (q
    ∙ ap (λ (x : List ℕ). first_failing 0 (map (fits_table x entries) es)) g
    ∙ ap (λ (x : ℕ). first_failing 0 (map (fits_table (first_globals m.globals) x) es)) t
    ∙ ap (λ (x : List ElemSeg). first_failing 0 (map (fits_table (first_globals m.globals) (first_entries m.tables)) x)) e)

pub out_in_elements : (m : WModule) (gs : List ℕ) (entries : ℕ) (es : List ElemSeg) (i : ℕ) → gs ≡ first_globals m.globals → entries ≡ first_entries m.tables → es ≡ m.elements → Some i ≡ first_failing 0 (map (fits_table gs entries) es)
    → Some i ≡ first_out m
out_in_elements m gs entries es i g t e q =
    sym (joined_first 0 i (map (fits_table (first_globals m.globals) (first_entries m.tables)) m.elements) (map (fits_memory (first_globals m.globals) (first_bytes m.memories)) m.segments)
    (table_is m gs entries es (Some i) g t e q))

pub out_in_segments : (m : WModule) (gs : List ℕ) (entries bytes : ℕ) (es : List ElemSeg) (ss : List DataSeg) (o : Option ℕ) → gs ≡ first_globals m.globals → entries ≡ first_entries m.tables → bytes ≡ first_bytes m.memories
    → es ≡ m.elements → ss ≡ m.segments → None ≡ first_failing 0 (map (fits_table gs entries) es) → o ≡ first_failing (length es) (map (fits_memory gs bytes) ss) → o ≡ first_out m
out_in_segments m gs entries bytes es ss o g t b e s q r =
    let left = map (fits_table (first_globals m.globals) (first_entries m.tables)) m.elements in
    let right = map (fits_memory (first_globals m.globals) (first_bytes m.memories)) m.segments in
    r
    ∙ ap (λ (x : List ℕ). first_failing (length es) (map (fits_memory x bytes) ss)) g
    ∙ ap (λ (x : ℕ). first_failing (length es) (map (fits_memory (first_globals m.globals) x) ss)) b
    ∙ ap (λ (x : List DataSeg). first_failing (length es) (map (fits_memory (first_globals m.globals) (first_bytes m.memories)) x)) s
    ∙ ap (λ (k : ℕ). first_failing k right) (ap length e ∙ sym (length-map m.elements (fits_table (first_globals m.globals) (first_entries m.tables))) ∙ from_zero (length left))
    ∙ sym (joined_second 0 left right (table_is m gs entries es None g t e q))
  where
    from_zero : (n : ℕ) → n ≡ 0 + n
    from_zero n = omega (arith)
