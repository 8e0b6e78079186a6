-- What a module begins with, put together.
use Rattle.std.proofs.Common.{◌≡◌, ◌∙◌, ℕ, List, [], map, sym, ap, subst}
use Rattle.std.specs.Prelude.{Option, Some, None, replicate}
use Rattle.memory_words.specs.Memories.{zeros}
use Rattle.wasm_ast.specs.declared.types.Limits.{Limits}
use Rattle.wasm_ast.specs.declared.modules.DataSeg.{DataSeg}
use Rattle.wasm_ast.specs.declared.modules.ElemSeg.{ElemSeg}
use Rattle.wasm_ast.specs.declared.modules.WModule.{WModule}
use Rattle.wasm_grammar.specs.Profile.{IsInProfile}
use Rattle.wasm_typing.specs.Modules.{IsValid}
use Rattle.wasm_execution.specs.Calls.{entered}
use Rattle.wasm_execution.specs.Configurations.{Store}
use Rattle.wasm_execution.specs.Imports.{is_print}
use Rattle.wasm_execution.specs.Starts.{Begins, first_bytes, first_entries, first_failing, first_globals, first_out, first_store, fits_memory, fits_table, put_elements, put_segments}
use Rattle.wasm_starts.specs.Answers.{FindsMain, Starts, bottom_of, first_call, next_call}
use Rattle.wasm_starts.specs.declared.starts.Started.{Started}
use Rattle.wasm_starts.proofs.Begins.{begins, elements_fit, segments_fit}

pub segments_in : (m : WModule) (gs : List ℕ) (ls : List Limits) (ss : List DataSeg) → gs ≡ first_globals m.globals → ls ≡ m.memories → ss ≡ m.segments → first_out m ≡ None
    → (n : ℕ) × (first_failing n (map (fits_memory gs (first_bytes ls)) ss) ≡ None)
segments_in m gs ls ss g l s e =
    let p = segments_fit m e in (
      p.0,
      ap (λ (x : List ℕ). first_failing p.0 (map (fits_memory x (first_bytes ls)) ss)) g
          ∙ ap (λ (x : List Limits). first_failing p.0 (map (fits_memory (first_globals m.globals) (first_bytes x)) ss)) l
          ∙ ap (λ (x : List DataSeg). first_failing p.0 (map (fits_memory (first_globals m.globals) (first_bytes m.memories)) x)) s
          ∙ p.1,
    )

pub elements_in : (m : WModule) (gs : List ℕ) (ls : List Limits) (ss : List ElemSeg) → gs ≡ first_globals m.globals → ls ≡ m.tables → ss ≡ m.elements → first_out m ≡ None
    → first_failing 0 (map (fits_table gs (first_entries ls)) ss) ≡ None
elements_in m gs ls ss g l s e =
    ap (λ (x : List ℕ). first_failing 0 (map (fits_table x (first_entries ls)) ss)) g
    ∙ ap (λ (x : List Limits). first_failing 0 (map (fits_table (first_globals m.globals) (first_entries x)) ss)) l
    ∙ ap (λ (x : List ElemSeg). first_failing 0 (map (fits_table (first_globals m.globals) (first_entries m.tables)) x)) s
    ∙ elements_fit m e

pub memory_is : (m : WModule) (gs : List ℕ) (ls : List Limits) (ss : List DataSeg) → gs ≡ first_globals m.globals → ls ≡ m.memories → ss ≡ m.segments
    → put_segments gs ss (zeros (first_bytes ls)) ≡ put_segments (first_globals m.globals) m.segments (zeros (first_bytes m.memories))
memory_is m gs ls ss g l s =
    ap (λ (x : List ℕ). put_segments x ss (zeros (first_bytes ls))) g
    ∙ ap (λ (x : List Limits). put_segments (first_globals m.globals) ss (zeros (first_bytes x))) l
    ∙ ap (λ (x : List DataSeg). put_segments (first_globals m.globals) x (zeros (first_bytes m.memories))) s

pub table_is : (m : WModule) (gs : List ℕ) (ls : List Limits) (ss : List ElemSeg) → gs ≡ first_globals m.globals → ls ≡ m.tables → ss ≡ m.elements
    → put_elements gs ss (replicate (first_entries ls) None) ≡ put_elements (first_globals m.globals) m.elements (replicate (first_entries m.tables) None)
table_is m gs ls ss g l s =
    ap (λ (x : List ℕ). put_elements x ss (replicate (first_entries ls) None)) g
    ∙ ap (λ (x : List Limits). put_elements (first_globals m.globals) ss (replicate (first_entries x) None)) l
    ∙ ap (λ (x : List ElemSeg). put_elements (first_globals m.globals) x (replicate (first_entries m.tables) None)) s

pub starts_with : (m v : WModule) (main : ℕ) (s : Started) → m ≡ v → IsValid m → IsInProfile m → first_failing 0 (map (is_print m.types) m.imports) ≡ None → first_out m ≡ None → FindsMain m (Some main)
    → s.memory ≡ put_segments (first_globals m.globals) m.segments (zeros (first_bytes m.memories)) → s.table.items ≡ put_elements (first_globals m.globals) m.elements (replicate (first_entries m.tables) None)
    → s.globals.items ≡ first_globals m.globals → s.first ≡ first_call m.start main → s.next_call ≡ next_call m.start main → Starts v s
starts_with m v main s same valid profile prints out found memory table globals first next =
    let p = begins m valid profile prints out main found in
    let store : first_store m ≡ record { memory = s.memory; table = s.table.items; globals = s.globals.items } = λ i. record { memory = sym memory i; table = sym table i; globals = sym globals i } in
    subst (λ (x : WModule). Starts x s) same (record {
      code = p.0;
      begins =
          p.1
          ∙ ap (λ (n : ℕ). Begins (entered n p.0 [] [] (bottom_of (next_call m.start main)) (first_store m))) (sym first)
          ∙ ap (λ (n : Option ℕ). Begins (entered s.first p.0 [] [] (bottom_of n) (first_store m))) (sym next)
          ∙ ap (λ (x : Store). Begins (entered s.first p.0 [] [] (bottom_of s.next_call) x)) store;
    })
