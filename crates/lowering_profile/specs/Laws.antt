-- Lowered modules are in the profile, where the bodies of their codes are. This project's own.
use Rattle.std.specs.Prelude.{◌≡◌, ℕ, ◌+◌, ◌^◌, ◌<◌, ◌≤◌, List, [], ◌∷◌, length, All, None}
use Rattle.wasm_ast.specs.declared.instructions.WInstr.{WInstr}
use Rattle.wasm_ast.specs.declared.modules.Code.{Code}
use Rattle.wasm_grammar.specs.Nesting.{nesting_limit, NestsAtMost}
use Rattle.wasm_grammar.specs.Profile.{CodeFits, IsInProfile}
use Rattle.wasm_grammar.specs.ProfileInstructions.{InstructionsFit}
use Rattle.rw_program.specs.declared.linked.LinkedFunc.{LinkedFunc}
use Rattle.rw_program.specs.Programs.{Program}
use Rattle.layout.specs.Bodies.{text_order}
use Rattle.layout.specs.Limits.{first_passed}
use Rattle.lowering_table.specs.declared.Pages.{Pages}
use Rattle.lowering_table.specs.Allocators.{Allocators}
use Rattle.lowering_table.specs.Modules.{ArePages}
use Rattle.lowering_bounds.specs.Depths.{AreWithinDepth, depth_limit, list_depth}
use Rattle.lowering_rows.specs.Functions.{function_body, start_body}
use Rattle.lowering_modules.specs.Types.{index_of_words}
use Rattle.lowering_modules.specs.Modules.{lowered_module}

-- how many instructions stand in the bodies of functions, those of lists within them too
abbrev pub instruction_count : List LinkedFunc → ℕ
instruction_count [] = 0
instruction_count (f ∷ fs) = length (text_order f.body) + instruction_count fs

-- no body is deeper than what is lowered
pub record HasShallowBodies (p : Program) : Type 0 where
  pub functions : All (λ (f : LinkedFunc). list_depth f.body ≤ depth_limit) p.funcs
  pub globals : AreWithinDepth p.globals

-- a body whose instructions fit, and which a vector can hold
pub record IsBodyInProfile (body : List WInstr) : Type 0 where
  pub short : length body < 2 ^ 32
  pub fits : InstructionsFit body

-- the bodies of a program's codes
pub record HasBodiesInProfile (p : Program) : Type 0 where
  pub functions : All (λ (f : LinkedFunc). IsBodyInProfile (function_body p (index_of_words p) f)) p.funcs
  pub start : IsBodyInProfile (start_body p (index_of_words p))

-- a code
pub record IsCodeInProfile (code : Code) : Type 0 where
  pub fits : CodeFits code
  pub nests : NestsAtMost nesting_limit code.body

-- the codes of the allocators
pub record AreAllocatorsInProfile (codes_of : Allocators) : Type 0 where
  pub alloc_lin : IsCodeInProfile codes_of.alloc_lin
  pub free_lin : IsCodeInProfile codes_of.free_lin
  pub alloc_unr : IsCodeInProfile codes_of.alloc_unr

-- of a program that passes no limit
abbrev pub LowModuleIsInProfile : Type 0
LowModuleIsInProfile = (codes_of : Allocators) (p : Program) (pages : Pages) → first_passed p ≡ None → HasShallowBodies p → instruction_count p.funcs < 2 ^ 31 → ArePages pages →
    HasBodiesInProfile p → AreAllocatorsInProfile codes_of → IsInProfile (lowered_module codes_of p pages)
