-- Lowered modules are valid (WebAssembly Core Specification 1.0, section 3.4). This project's own.
use Rattle.std.specs.Prelude.{◌≡◌, ℕ, List, [], ◌∷◌, Some, slice_get, ⊤}
use Rattle.wasm_ast.specs.declared.types.FuncType.{FuncType}
use Rattle.wasm_ast.specs.declared.modules.Code.{Code}
use Rattle.wasm_typing.specs.declared.context.Context.{Context}
use Rattle.wasm_typing.specs.Contexts.{body_context, context_of}
use Rattle.wasm_typing.specs.Modules.{IsValid}
use Rattle.wasm_typing.specs.Typing.{IsTypedBody}
use Rattle.rw_types.specs.declared.instrs.Instr.{Instr}
use Rattle.rich_typing.specs.declared.notes.Note.{Note}
use Rattle.rw_program.specs.declared.linked.LinkedFunc.{LinkedFunc}
use Rattle.rw_program.specs.declared.linked.LinkedGlobal.{LinkedGlobal}
use Rattle.rw_program.specs.Programs.{Program}
use Rattle.rich_linking.specs.TypedPrograms.{IsTypedProgram}
use Rattle.layout.specs.Bodies.{text_order}
use Rattle.lowering_table.specs.declared.Pages.{Pages}
use Rattle.lowering_table.specs.Allocators.{Allocators}
use Rattle.lowering_table.specs.Modules.{ArePages}
use Rattle.lowering_table.specs.Types.{alloc_type}
use Rattle.lowering_rows.specs.Surroundings.{Surroundings, in_function}
use Rattle.lowering_rows.specs.Functions.{function_code}
use Rattle.lowering_rows_typed.specs.Contexts.{taking_words}
use Rattle.lowering_names.specs.Placed.{HasFormedTypes, IsListed, IsWithoutCells}
use Rattle.lowering_modules.specs.Types.{function_type, index_of_words}
use Rattle.lowering_modules.specs.Modules.{lowered_module}

-- instructions of which none is on cells
abbrev pub AreWithoutCells : List Instr → Type 0
AreWithoutCells [] = ⊤
AreWithoutCells (i ∷ is) = IsWithoutCells i × AreWithoutCells is

-- each body
pub record HasBodiesWithoutCells (p : Program) : Type 0 where
  pub functions : (n : ℕ) (f : LinkedFunc) → slice_get p.funcs n ≡ Some f → AreWithoutCells (text_order f.body)
  pub globals : (n : ℕ) (g : LinkedGlobal) → slice_get p.globals n ≡ Some g → AreWithoutCells (text_order g.body)

-- instructions with their notes: of each call through a type the type is listed, and there are globals for what it gives
abbrev pub AreListed : Surroundings → Context → List Instr → List Note → Type 0
AreListed s C [] notes = ⊤
AreListed s C (i ∷ is) [] = ⊤
AreListed s C (i ∷ is) (note ∷ notes) = IsListed s C i note × AreListed s C is notes

-- so it is in the body of each function, under the context of its code in the lowered module
abbrev pub CallsAreListed : Type 0
CallsAreListed = (codes_of : Allocators) (p : Program) (pages : Pages) (n : ℕ) (f : LinkedFunc) → slice_get p.funcs n ≡ Some f →
    AreListed (in_function p (index_of_words p) f) (body_context (context_of (lowered_module codes_of p pages)) (function_type f) (function_code p (index_of_words p) f)) (text_order f.body) f.notes

-- the code of a function of this type is typed
abbrev pub IsTypedCode : Context → FuncType → Code → Type 0
IsTypedCode C ty code = IsTypedBody (body_context C ty code) code.body

-- the codes of the allocators are typed in a module
pub record AreTypedAllocators (C : Context) (codes_of : Allocators) : Type 0 where
  pub alloc_lin : IsTypedCode C alloc_type codes_of.alloc_lin
  pub free_lin : IsTypedCode C (taking_words 1) codes_of.free_lin
  pub alloc_unr : IsTypedCode C alloc_type codes_of.alloc_unr

-- the lowered module of a typed program without cells is valid
abbrev pub LowModuleIsValid : Type 0
LowModuleIsValid = (codes_of : Allocators) (p : Program) (pages : Pages) → IsTypedProgram p → HasFormedTypes p → HasBodiesWithoutCells p → ArePages pages →
    AreTypedAllocators (context_of (lowered_module codes_of p pages)) codes_of → IsValid (lowered_module codes_of p pages)
