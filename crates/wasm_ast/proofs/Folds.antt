-- A fold over opcode and immediates, one layer at a time: the opcode and the kind of immediates do not
-- depend on what stands for the nested instructions.
use Rattle.std.proofs.Common.{◌≡◌, ◌∙◌, ℕ, refl, ap}
use Rattle.wasm_ast.specs.declared.instructions.WInstr.{WInstr, out-WInstr, fold_out-WInstr}
use Rattle.wasm_ast.specs.declared.instructions.WInstr.TheFolds.{map-WInstr}
use Rattle.wasm_ast.specs.declared.instructions.WInstr.TheOpen.{WInstr-F}
use Rattle.wasm_ast.specs.Opcodes.{opcode_in, opcode_of}
use Rattle.wasm_ast.specs.Immediates.{Immediate, immediate_in, immediate_of, map_nested}
use Rattle.wasm_ast.specs.Folds.{fold_by}

pub opcode_in-map : (A B : Type 0) (f : A → B) (x : WInstr-F A) → opcode_in (map-WInstr A B f x) ≡ opcode_in x
opcode_in-map A B f WInstr-F.Unreachable = refl
opcode_in-map A B f _ = refl

pub immediate_in-map : (A B : Type 0) (f : A → B) (x : WInstr-F A) → immediate_in (map-WInstr A B f x) ≡ map_nested f (immediate_in x)
immediate_in-map A B f WInstr-F.Unreachable = refl
immediate_in-map A B f _ = refl

pub fold_by-layer : {X : Type 0} (value : ℕ → Immediate X → X) (w : WInstr) → fold_by value w ≡ value (opcode_of w) (map_nested (fold_by value) (immediate_of w))
fold_by-layer {X} value w =
    let step : WInstr-F X → X = λ x. value (opcode_in x) (immediate_in x) in
    let layer = map-WInstr WInstr X (fold_by value) (out-WInstr w) in
    fold_out-WInstr X step w ∙ ap (λ o. value o (immediate_in layer)) (opcode_in-map WInstr X (fold_by value) (out-WInstr w))
    ∙ ap (value (opcode_of w)) (immediate_in-map WInstr X (fold_by value) (out-WInstr w))
