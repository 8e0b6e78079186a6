-- Values of a row of types (WebAssembly Core Specification 1.0, section 4.2.1). They are not tagged: of its type a value has only the
-- width.
use Rattle.std.specs.Prelude.{ℕ, List, [], ◌∷◌}
use Rattle.wasm_num.specs.Widths.{IsWithin}
use Rattle.wasm_ast.specs.declared.types.ValTy.{ValTy}
use Rattle.wasm_execution.specs.Types.{width_of}

-- as many values as types, each of its type
abbrev pub AreOf : List ValTy → List ℕ → Type 0
AreOf [] [] = Unit {0}
AreOf [] (v ∷ vs) = ⊥
AreOf (t ∷ ts) [] = ⊥
AreOf (t ∷ ts) (v ∷ vs) = IsWithin (width_of t) v × AreOf ts vs
