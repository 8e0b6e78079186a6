-- Calls that run and those that wait for them. This project's own.
use Rattle.std.specs.Prelude.{◌≡◌, ℕ, suc, ◌+◌, List, [], ◌∷◌, ◌++◌, drop, length, reverse, slice_get, Some}
use Rattle.wasm_ast.specs.declared.instructions.WInstr as wasm
use Rattle.wasm_ast.specs.declared.instructions.WInstr.{WInstr}
use Rattle.wasm_execution.specs.Configurations as w
use Rattle.rw_types.specs.declared.instrs.Instr.{GlobalSet, Instr}
use Rattle.rich_types.specs.Scopes.{scope_of}
use Rattle.rich_reduction.specs.Configurations as r
use Rattle.rich_reduction.specs.Starts.{own_list}
use Rattle.rw_program.specs.declared.linked.LinkedFunc.{LinkedFunc}
use Rattle.rw_program.specs.declared.linked.LinkedGlobal.{LinkedGlobal}
use Rattle.rw_program.specs.Programs.{Program}
use Rattle.layout.specs.Frames.{global_words, initialiser_room, result_words, room_of}
use Rattle.layout.specs.Limits.{functions_before, globals_before}
use Rattle.lowering_table.specs.Modules.{main_function}
use Rattle.lowering_rows.specs.Moves.{gives}
use Rattle.lowering_rows.specs.Surroundings.{first_global, in_function, in_initialiser, place_of_global}
use Rattle.lowering_rows.specs.Taken.{each_size}
use Rattle.lowering_rows.specs.Functions.{initialisers}
use Rattle.lowering_heights.specs.Laws.{frame_of_function, frame_of_initialiser}
use Rattle.lowering_modules.specs.Types.{index_of_words}
use Rattle.simulation_relation.specs.Words.{Book}
use Rattle.simulation_relation.specs.Bodies.{Body, IsRunning, IsWaiting, open_list}

-- the program's own list as a call, and what is left of it once the value of a global stands on the operands
abbrev pub own_call : List r.Val → List Instr → r.Here
own_call operands rest = record { results = 1; sizes = []; locals = []; operands = operands; rest = rest; levels = [] }

abbrev pub own_rest : Program → ℕ → List Instr
own_rest p n = GlobalSet n ∷ own_list (suc n) (drop (suc n) p.globals) p.main

-- the first Wasm global of the global of this number
abbrev pub place_of : Program → ℕ → ℕ
place_of p n = place_of_global (first_global p) p.globals n

-- what is left of the exported main from the global of this number on
abbrev pub main_rest : Program → ℕ → List WInstr
main_rest p n = initialisers (in_initialiser p (index_of_words p)) (place_of p n) (drop n p.globals) ++ wasm.Call (functions_before + p.main) ∷ wasm.GlobalGet globals_before ∷ []

-- and once the value of that global stands in the operand words
abbrev pub after_initialiser : Program → ℕ → LinkedGlobal → List WInstr
after_initialiser p n g = gives (global_words g) (in_initialiser p (index_of_words p)).places.operands (place_of p n) ++ main_rest p (suc n)

-- the call of the exported main
abbrev pub main_call : Program → List ℕ → List WInstr → List w.Level → w.Here
main_call p locals rest levels = record { function = main_function p; argument = 0; locals = locals; operands = []; rest = rest; levels = levels }

-- the words of a function's results, the top one first
abbrev pub result_sizes : LinkedFunc → List ℕ
result_sizes g = each_size (scope_of g.ty.binders) (reverse g.ty.results)

-- the body of a function, and that of an initialiser, which stands in a block of each list
abbrev pub function_body_of : Program → LinkedFunc → Body
function_body_of p g = record {
  around = in_function p (index_of_words p) g;
  frame = frame_of_function p g;
  room = room_of g;
  results = result_sizes g;
  end = gives (result_words g) (in_function p (index_of_words p) g).places.operands globals_before;
  outer = [];
  outer_lists = [];
}

abbrev pub initialiser_body_of : Program → ℕ → LinkedGlobal → Body
initialiser_body_of p n g = record {
  around = in_initialiser p (index_of_words p);
  frame = frame_of_initialiser p n;
  room = initialiser_room p.globals;
  results = global_words g ∷ [];
  end = [];
  outer = record { aim = r.Past; takes = 1; gives = 1; sizes = []; beneath = []; rest = own_rest p n } ∷ [];
  outer_lists = open_list w.Past (after_initialiser p n g) ∷ [];
}

-- a call of the function of this number
pub record IsCall (p : Program) (n : ℕ) (g : LinkedFunc) (here : r.Here) (target : w.Here) : Type 0 where
  pub there : slice_get p.funcs n ≡ Some g
  pub number : target.function ≡ functions_before + n
  pub results : here.results ≡ length g.ty.results

-- the calls that wait for results of these sizes: the program's own list for the main function, or a function's body and those
-- that wait for it
pub data AreWaiting (p : Program) (book : Book) : List ℕ → List r.Here → List w.Here → Type 0 where
  of_main : {sizes : List ℕ} {here : r.Here} {target : w.Here} (locals : List ℕ) → sizes ≡ 1 ∷ [] → here ≡ own_call [] [] → target ≡ main_call p locals (wasm.GlobalGet globals_before ∷ []) [] →
      AreWaiting p book sizes (here ∷ []) (target ∷ [])
  of_call : {sizes : List ℕ} {here : r.Here} {callers : List r.Here} {target : w.Here} {targets : List w.Here} (n : ℕ) (g : LinkedFunc) → IsCall p n g here target → IsWaiting (function_body_of p g) book sizes here target →
      AreWaiting p book (result_sizes g) callers targets → AreWaiting p book sizes (here ∷ callers) (target ∷ targets)

-- a call of a function that runs, with those that wait for it
pub record RunsFunction (p : Program) (book : Book) (here : r.Here) (callers : List r.Here) (target : w.Here) (targets : List w.Here) : Type 0 where
  pub number : ℕ
  pub function : LinkedFunc
  pub call : IsCall p number function here target
  pub running : IsRunning (function_body_of p function) book here target
  pub waiting : AreWaiting p book (result_sizes function) callers targets
