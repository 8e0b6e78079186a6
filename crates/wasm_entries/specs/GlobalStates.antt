-- Globals in the middle (WebAssembly Core Specification 1.0, section 5.5.9); the states are this project's own.
use Rattle.std.specs.Prelude.{Bool}
use Rattle.wasm_ast.specs.declared.types.ValTy.{ValTy}
use Rattle.wasm_ast.specs.declared.instructions.WInstr.{WInstr}
use Rattle.wasm_ast.specs.declared.modules.WGlobal.{WGlobal}
use Rattle.wasm_reading.specs.Readers.{Reader, ◌>>=◌, give}
use Rattle.wasm_reading.specs.ReadValues.{tag_at}
use Rattle.wasm_reading.specs.ReadTypes.{value_type_of, flag_of}
use Rattle.wasm_reading.specs.ReadInstructions.{constant_at}
use Rattle.wasm_items.specs.Residuals.{WantsAByte}
use Rattle.wasm_items.specs.WantsBytes.{wants_then, wants_tag}
use Rattle.wasm_items.specs.ConstantStates.{rest_of_constant, wants_constant}
use Rattle.wasm_entries.specs.declared.global.GlobalState.{GlobalState}
use Rattle.wasm_entries.specs.declared.global.GlobalState.TheVariants.{ValueType, Mutability, Init}

-- the global of an initial value
abbrev pub initialized : ValTy → Bool → WInstr → Reader WGlobal
initialized t mutable init = give (record { ty = t; mutable = mutable; init = init })

-- what is read behind the type and the mutability
abbrev pub behind_mutability : ValTy → Bool → Reader WGlobal
behind_mutability t mutable = constant_at >>= initialized t mutable

-- what is read behind the type
abbrev pub behind_type : ValTy → Reader WGlobal
behind_type t = tag_at flag_of >>= behind_mutability t

-- a global in the middle
abbrev pub rest_of_global : GlobalState → Reader WGlobal
rest_of_global (ValueType alloc) = tag_at value_type_of >>= behind_type
rest_of_global (Mutability alloc t) = behind_type t
rest_of_global (Init t mutable init) = rest_of_constant init >>= initialized t mutable

-- a global wants a byte
pub wants_global : (state : GlobalState) → WantsAByte (rest_of_global state)
wants_global (ValueType alloc) = wants_then behind_type (wants_tag value_type_of)
wants_global (Mutability alloc t) = wants_then (behind_mutability t) (wants_tag flag_of)
wants_global (Init t mutable init) = wants_then (initialized t mutable) (wants_constant init)
