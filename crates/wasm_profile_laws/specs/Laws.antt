-- Typed bodies are in the profile. This project's own.
use Rattle.std.specs.Prelude.{◌^◌, ◌<◌, ◌≤◌, List, length}
use Rattle.std.specs.List.{flat_map}
use Rattle.wasm_ast.specs.declared.instructions.WInstr.{WInstr}
use Rattle.wasm_grammar.specs.CanonicalInstructions.{instruction_bytes}
use Rattle.wasm_grammar.specs.Nesting.{NestsAtMost, nesting_limit}
use Rattle.wasm_grammar.specs.ProfileInstructions.{InstructionsFit}
use Rattle.wasm_typing.specs.declared.context.Context.{Context}
use Rattle.wasm_typing.specs.Typing.{IsTypedBody}
use Rattle.wasm_profile_laws.specs.Literals.{HaveLiterals}

-- vectors can hold what a context names
pub record IsShortContext (C : Context) : Type 0 where
  pub types : length C.types ≤ 2 ^ 32
  pub functions : length C.functions ≤ 2 ^ 32
  pub globals : length C.globals ≤ 2 ^ 32
  pub locals : length C.locals ≤ 2 ^ 32

-- a typed body, by its canonical bytes
abbrev pub TypedBodiesAreInProfile : Type 0
TypedBodiesAreInProfile = (C : Context) (body : List WInstr) → IsShortContext C → IsTypedBody C body → NestsAtMost nesting_limit body → length (flat_map instruction_bytes body) < 2 ^ 32 → HaveLiterals body →
    (length body < 2 ^ 32) × InstructionsFit body
