-- How many instructions an instruction is, which falls where a function goes down a tree: a measure, by layers.
use Rattle.std.proofs.Common.{◌≡◌, ◌∙◌, ℕ, ◌+◌, ◌<◌, map, refl, ap, arith}
use Rattle.std.specs.Prelude.{sum_by}
use Rattle.std.proofs.lemmas.List.Sums.{sum-map}
use Rattle.wasm_ast.specs.declared.instructions.WInstr.{WInstr}
use Rattle.wasm_ast.specs.Immediates.{Immediate, Body, Bodies, immediate_of, map_nested}
use Rattle.wasm_ast.specs.Folds.{fold_by}
use Rattle.wasm_ast.proofs.Folds.{fold_by-layer}

-- the instructions in immediates, where `nested` gives those of a nested instruction
abbrev pub immediate_count : {A : Type 0} → (A → ℕ) → Immediate A → ℕ
immediate_count nested (Body t xs) = sum_by nested xs
immediate_count nested (Bodies t xs ys) = sum_by nested xs + sum_by nested ys
immediate_count nested _ = 0

-- an instruction with those nested in it
abbrev pub instruction_count : WInstr → ℕ
instruction_count = fold_by (λ _ immediate. 1 + immediate_count (λ count. count) immediate)

immediate_count-map : {A : Type 0} (f : A → ℕ) (i : Immediate A) → immediate_count (λ count. count) (map_nested f i) ≡ immediate_count f i
immediate_count-map f (Body t xs) = sum-map f xs
immediate_count-map f (Bodies t xs ys) =
    ap (λ first. first + sum_by (λ count. count) (map f ys)) (sum-map f xs) ∙ ap (λ second. sum_by f xs + second) (sum-map f ys)
immediate_count-map f _ = refl

pub instruction_count-layer : (w : WInstr) → instruction_count w ≡ 1 + immediate_count instruction_count (immediate_of w)
instruction_count-layer w =
    fold_by-layer (λ _ immediate. 1 + immediate_count (λ count. count) immediate) w
    ∙ ap (λ count. 1 + count) (immediate_count-map instruction_count (immediate_of w))

-- what is nested counts less than the instruction
pub immediate_count-less : (w : WInstr) (i : Immediate WInstr) → i ≡ immediate_of w → immediate_count instruction_count i < instruction_count w
immediate_count-less w i same =
    let layer = instruction_count-layer w in
    let nested : immediate_count instruction_count i ≡ immediate_count instruction_count (immediate_of w) = ap (immediate_count instruction_count) same in
    omega (arith, layer, nested)
