-- The first configurations are related: no global has its value yet.
use Rattle.std.proofs.Common.{◌≡◌, ◌∙◌, ◌<◌, ℕ, zero, suc, ◌+◌, List, [], ◌∷◌, ◌++◌, length, map, replicate, refl, ap, sym, arith}
use Rattle.wasm_ast.specs.declared.instructions.WInstr as wasm
use Rattle.wasm_ast.specs.declared.modules.WGlobal.{WGlobal}
use Rattle.wasm_execution.specs.Starts.{first_globals, value_in}
use Rattle.wasm_ast.specs.declared.instructions.WInstr.{out-WInstr}
use Rattle.rich_reduction.specs.Configurations as r
use Rattle.rich_reduction.specs.Starts.{first}
use Rattle.rw_program.specs.declared.linked.LinkedGlobal.{LinkedGlobal}
use Rattle.rw_program.specs.Programs.{Program}
use Rattle.layout.specs.Frames.{start_frame}
use Rattle.layout.specs.Limits.{functions_before, globals_before, globals_words, greatest_result}
use Rattle.lowering_table.specs.declared.Pages.{Pages}
use Rattle.lowering_table.specs.Allocators.{Allocators}
use Rattle.lowering_table.specs.Modules.{word_global}
use Rattle.lowering_rows.specs.Functions.{initialisers, start_locals}
use Rattle.lowering_rows.specs.Surroundings.{first_global, in_initialiser, place_of_global}
use Rattle.lowering_modules.specs.Types.{index_of_words}
use Rattle.lowering_modules.specs.Modules.{module_globals}
use Rattle.lowering_modules_laws.specs.Laws.{first_configuration}
use Rattle.simulation_relation.specs.Calls.{main_call, main_rest}
use Rattle.simulation_relation.specs.Laws.{StartsRelated}
use Rattle.simulation_relation.specs.Relation.{GlobalsHold, in_own_list}

mapped_length : {A B : Type 0} (f : A → B) (xs : List A) → length (map f xs) ≡ length xs
mapped_length f [] = refl
mapped_length f (x ∷ xs) = ap suc (mapped_length f xs)

repeated_length : {A : Type 0} (n : ℕ) (x : A) → length (replicate n x) ≡ n
repeated_length zero x = refl
repeated_length (suc n) x = ap suc (repeated_length n x)

first_place : (at : ℕ) (gs : List LinkedGlobal) → place_of_global at gs 0 ≡ at
first_place at [] = refl
first_place at (g ∷ gs) = refl

not_set : {A : Type 0} (n : ℕ) → n < 0 → A
not_set n h = absurd (omega (arith, h))

globals_hold : (codes_of : Allocators) (p : Program) (pages : Pages) → GlobalsHold p 0 (first p).globals (first_globals (module_globals p pages))
globals_hold codes_of p pages = record {
  values = mapped_length (λ (g : LinkedGlobal). r.Empty) p.globals;
  count = (
      let n = greatest_result p.funcs + globals_words p.globals in
      let mapped = mapped_length (λ (g : WGlobal). value_in [] (out-WInstr g.init)) (module_globals p pages) in
      omega (arith, mapped, repeated_length n (word_global 0)));
  each = λ n g v there found h. not_set n h;
}

pub starts_related : StartsRelated
starts_related codes_of p pages =
    in_own_list 0 (replicate (start_locals p + 0) 0)
    (record { no_cells = refl; memory = refl; table = refl; globals = globals_hold codes_of p pages; bottom = refl })
    refl refl (repeated_length (start_locals p + 0) 0 ∙ same) here refl
  where
    same : start_locals p + 0 ≡ (start_frame p).total
    same = omega arith

    here : (first_configuration codes_of p pages).here ≡ main_call p (replicate (start_locals p + 0) 0) (main_rest p 0) []
    here =
        ap
        (λ (k : ℕ). main_call p (replicate (start_locals p + 0) 0) (initialisers (in_initialiser p (index_of_words p)) k p.globals ++ wasm.Call (functions_before + p.main) ∷ wasm.GlobalGet globals_before ∷ []) [])
        (sym (first_place (first_global p) p.globals))
