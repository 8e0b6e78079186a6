-- Bytes and nesting, one layer at a time: the fold's own equation, with the nested results taken back to
-- the nested instructions.
use Rattle.std.proofs.Common.{◌≡◌, ◌∙◌, ℕ, ◌+◌, List, [], ◌∷◌, ◌++◌, max, map, refl, sym, ap}
use Rattle.std.specs.List.{flat_map}
use Rattle.wasm_ast.specs.declared.instructions.WInstr.{WInstr, roll-WInstr, out-roll-WInstr}
use Rattle.wasm_ast.specs.declared.instructions.WInstr.TheOpen.{WInstr-F}
use Rattle.wasm_ast.specs.Opcodes.{opcode_in, opcode_of}
use Rattle.wasm_ast.specs.Immediates.{Immediate, Body, Bodies, immediate_in, immediate_of, map_nested}
use Rattle.wasm_ast.proofs.Folds.{fold_by-layer}
use Rattle.wasm_grammar.specs.Tags.{block_type}
use Rattle.wasm_grammar.specs.CanonicalInstructions.{immediate_bytes, instruction_bytes}
use Rattle.wasm_grammar.specs.Nesting.{greatest, immediate_nesting, nesting}
use Rattle.wasm_grammar.specs.Layers.{BytesByLayers, NestingByLayers}

pub flat_map-map : {A : Type 0} (f : A → List ℕ) (xs : List A) → flat_map (λ bytes. bytes) (map f xs) ≡ flat_map f xs
flat_map-map f [] = refl
flat_map-map f (x ∷ xs) = ap (λ rest. f x ++ rest) (flat_map-map f xs)

pub greatest-map : {A : Type 0} (f : A → ℕ) (xs : List A) → greatest (λ depth. depth) (map f xs) ≡ greatest f xs
greatest-map f [] = refl
greatest-map f (x ∷ xs) = ap (max (f x)) (greatest-map f xs)

immediate_bytes-map : {A : Type 0} (f : A → List ℕ) (i : Immediate A) → immediate_bytes (λ bytes. bytes) (map_nested f i) ≡ immediate_bytes f i
immediate_bytes-map f (Body t xs) = ap (λ body. block_type t ∷ (body ++ 0x0B ∷ [])) (flat_map-map f xs)
immediate_bytes-map f (Bodies t xs ys) =
    ap (λ first. block_type t ∷ (first ++ (0x05 ∷ (flat_map (λ bytes. bytes) (map f ys) ++ 0x0B ∷ [])))) (flat_map-map f xs)
    ∙ ap (λ second. block_type t ∷ (flat_map f xs ++ (0x05 ∷ (second ++ 0x0B ∷ [])))) (flat_map-map f ys)
immediate_bytes-map f _ = refl

immediate_nesting-map : {A : Type 0} (f : A → ℕ) (i : Immediate A) → immediate_nesting (λ depth. depth) (map_nested f i) ≡ immediate_nesting f i
immediate_nesting-map f (Body t xs) = ap (λ depth. 1 + depth) (greatest-map f xs)
immediate_nesting-map f (Bodies t xs ys) =
    ap (λ depth. 1 + max depth (greatest (λ d. d) (map f ys))) (greatest-map f xs)
    ∙ ap (λ depth. 1 + max (greatest f xs) depth) (greatest-map f ys)
immediate_nesting-map f _ = refl

pub instruction_bytes-layer : BytesByLayers
instruction_bytes-layer w =
    fold_by-layer (λ opcode immediate. opcode ∷ immediate_bytes (λ bytes. bytes) immediate) w
    ∙ ap (λ rest. opcode_of w ∷ rest) (immediate_bytes-map instruction_bytes (immediate_of w))

pub nesting-layer : NestingByLayers
nesting-layer w =
    fold_by-layer (λ _ immediate. immediate_nesting (λ depth. depth) immediate) w ∙ immediate_nesting-map nesting (immediate_of w)

pub instruction_bytes-roll : (x : WInstr-F WInstr) → instruction_bytes (roll-WInstr x) ≡ opcode_in x ∷ immediate_bytes instruction_bytes (immediate_in x)
instruction_bytes-roll x =
    instruction_bytes-layer (roll-WInstr x)
    ∙ ap (λ layer. opcode_in layer ∷ immediate_bytes instruction_bytes (immediate_in layer)) (out-roll-WInstr x)

-- the bytes of an instruction from an opcode and immediates that were found to be its own
pub instruction_bytes-parts : (w : WInstr) (opcode : ℕ) (immediate : Immediate WInstr) → opcode ≡ opcode_of w → immediate ≡ immediate_of w → instruction_bytes w ≡ opcode ∷ immediate_bytes instruction_bytes immediate
instruction_bytes-parts w opcode immediate o i =
    instruction_bytes-layer w ∙ ap (λ first. first ∷ immediate_bytes instruction_bytes (immediate_of w)) (sym o)
    ∙ ap (λ rest. opcode ∷ immediate_bytes instruction_bytes rest) (sym i)
