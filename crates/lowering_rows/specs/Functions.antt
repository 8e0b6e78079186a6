-- The codes of a lowered module's linked functions and of its exported main. This project's own.
use Rattle.std.specs.Prelude.{ℕ, ◌+◌, sum, List, [], ◌∷◌, ◌++◌, None}
use Rattle.wasm_ast.specs.declared.types.ValTy.TheVariants.{I64}
use Rattle.wasm_ast.specs.declared.instructions.WInstr as w
use Rattle.wasm_ast.specs.declared.modules.Code.{Code}
use Rattle.rw_program.specs.declared.linked.LinkedFunc.{LinkedFunc}
use Rattle.rw_program.specs.declared.linked.LinkedGlobal.{LinkedGlobal}
use Rattle.rw_program.specs.Programs.{Program}
use Rattle.layout.specs.Frames.{end_words, global_words, initialiser_room, room_of}
use Rattle.layout.specs.Limits.{functions_before, globals_before}
use Rattle.lowering_rows.specs.Moves.{gives}
use Rattle.lowering_rows.specs.Surroundings.{Surroundings, first_global, in_function, in_initialiser}
use Rattle.lowering_rows.specs.Rows.{rows}

-- the Wasm locals that a function declares: its slots, its operands and two scratch words
abbrev pub declared_locals : LinkedFunc → ℕ
declared_locals f = sum f.locals + room_of f + 2

-- a function's list, and then, unless it was ended, its result words go to the result globals
abbrev pub function_body : Program → (ℕ → ℕ) → LinkedFunc → List w.WInstr
function_body p type_of f =
    let s = in_function p type_of f in
    rows s [] f.body f.notes ++ gives (end_words f) s.places.operands globals_before

-- the initialisers one after another, each in a block, behind which its words go to the Wasm globals from one on, also where
-- its list was ended
abbrev pub initialisers : Surroundings → ℕ → List LinkedGlobal → List w.WInstr
initialisers s global [] = []
initialisers s global (g ∷ gs) =
    w.Block None (rows s [] g.body g.notes) ∷ (gives (global_words g) s.places.operands global ++ initialisers s (global + global_words g) gs)

-- those that the exported main declares: operands and two scratch words
abbrev pub start_locals : Program → ℕ
start_locals p = initialiser_room p.globals + 2

-- the exported main: the initialisers, the program's main, and its result
abbrev pub start_body : Program → (ℕ → ℕ) → List w.WInstr
start_body p type_of =
    initialisers (in_initialiser p type_of) (first_global p) p.globals ++ w.Call (functions_before + p.main) ∷ w.GlobalGet globals_before ∷ []

-- a run of 64-bit locals, and a body
abbrev pub code_of : ℕ → List w.WInstr → Code
code_of locals body = record { locals = record { count = locals; ty = I64 } ∷ []; body = body }

-- the code of a linked function, and that of the exported main
abbrev pub function_code : Program → (ℕ → ℕ) → LinkedFunc → Code
function_code p type_of f = code_of (declared_locals f) (function_body p type_of f)

abbrev pub start_code : Program → (ℕ → ℕ) → Code
start_code p type_of = code_of (start_locals p) (start_body p type_of)
