-- What the codes of a lowered module are typed under, in the terms of the WebAssembly Core Specification 1.0, section 3.1.1. This
-- project's own.
use Rattle.std.specs.Prelude.{◌≡◌, ◌<◌, ℕ, ◌+◌, replicate, [], ◌∷◌, IsTrue, nat_lt, None, Some, slice_get, true}
use Rattle.wasm_ast.specs.declared.types.FuncType.{FuncType}
use Rattle.wasm_ast.specs.declared.types.ValTy.TheVariants.{I32, I64}
use Rattle.wasm_typing.specs.declared.context.Context.{Context}
use Rattle.wasm_typing.specs.declared.context.GlobalType.{GlobalType}
use Rattle.rw_types.specs.declared.types.Mem.{Mem}
use Rattle.rw_program.specs.declared.linked.LinkedFunc.{LinkedFunc}
use Rattle.layout.specs.Frames.{parameter_words}
use Rattle.layout.specs.Limits.{functions_before, global_count}
use Rattle.lowering_rows.specs.Surroundings.{Surroundings, allocator, first_scratch, free_function}

-- the type of a function that takes so many words and gives nothing
abbrev pub taking_words : ℕ → FuncType
taking_words n = record { params = replicate n I64; result = None }

-- the type of an allocator: it takes a count of words, and gives an address
abbrev pub allocator_type : FuncType
allocator_type = record { params = I64 ∷ []; result = Some I64 }

-- a global that holds a word, and one that holds a trap's code
abbrev pub word_global : GlobalType
word_global = record { ty = I64; mutable = true }

abbrev pub code_global : GlobalType
code_global = record { ty = I32; mutable = true }

-- a context has the locals of a frame, the functions of the module, its globals, its memory and its table
pub record HasWhatIsNamed (s : Surroundings) (C : Context) : Type 0 where
  pub locals : (n : ℕ) → n < first_scratch s + 2 → slice_get C.locals n ≡ Some I64
  pub prints : slice_get C.functions 0 ≡ Some (taking_words 1)
  pub allocates : (m : Mem) → slice_get C.functions (allocator m) ≡ Some allocator_type
  pub frees : slice_get C.functions free_function ≡ Some (taking_words 1)
  pub functions : (n : ℕ) (f : LinkedFunc) → slice_get s.program.funcs n ≡ Some f → slice_get C.functions (functions_before + n) ≡ Some (taking_words (parameter_words f))
  pub trap_code : slice_get C.globals 0 ≡ Some code_global
  pub words : (n : ℕ) → 0 < n → n < global_count s.program → slice_get C.globals n ≡ Some word_global
  pub memory : IsTrue (nat_lt 0 C.memories)
  pub table : IsTrue (nat_lt 0 C.tables)
