-- What instructions that are spelled have: their opcode first, no more instructions than bytes, numbers that fit their
-- fields where there are fewer than 2 ^ 32 bytes, and the nesting of their lists.
use Rattle.std.proofs.Common.{◌≡◌, ◌∙◌, ℕ, ◌+◌, ◌^◌, ◌<◌, ◌≤◌, max, List, [], ◌∷◌, ◌++◌, length, refl, sym, ap, arith, length-append, true, false, Option, None}
use Rattle.wasm_ast.specs.declared.types.ValTy.{ValTy}
use Rattle.wasm_ast.specs.declared.instructions.WInstr.{WInstr}
use Rattle.wasm_ast.specs.Opcodes.{opcode_of}
use Rattle.wasm_ast.specs.Immediates.{Immediate, Body, Bodies, immediate_of}
use Rattle.wasm_grammar.specs.Tags.{block_type}
use Rattle.wasm_grammar.specs.Nesting.{greatest, immediate_nesting, nesting}
use Rattle.wasm_grammar.specs.GrammarInstructions.{IsImmediate, IsInstruction, IsInstructions, plain, nested, two_arms, none, more}
use Rattle.wasm_grammar.specs.ProfileInstructions.{InstructionFits, InstructionsFit, plain_fits, nested_fits, two_arms_fit, none_fit, more_fit}
use Rattle.wasm_grammar.proofs.InstructionLayers.{nesting-layer}
use Rattle.wasm_reading.specs.ReadInstructions.{is_from_to, kind_of}
use Rattle.wasm_reading_values.specs.EntriesRead.{ShortExpressionsFit}
use Rattle.wasm_reading_bodies.specs.BodiesRead.{ConstantsNestNone}
use Rattle.wasm_reading_bodies.proofs.OpcodeKinds.{kind_in, nests, IsThere, opcode_kind, opcode_nests, constant_there}
use Rattle.wasm_reading_bodies.proofs.ExactImmediates.{immediate_fits}

-- an instruction begins with its opcode
pub opcode_first : (w : WInstr) (bytes : List ℕ) → IsInstruction w bytes → (rest : List ℕ) × (bytes ≡ opcode_of w ∷ rest)
opcode_first w bytes (plain rest p e) = (rest, e)
opcode_first w bytes (nested t xs inner p q e) = (block_type t ∷ (inner ++ 0x0B ∷ []), e)
opcode_first w bytes (two_arms t xs ys first second p q r e) = (block_type t ∷ (first ++ (0x05 ∷ (second ++ 0x0B ∷ []))), e)

pub has_opcode : (w : WInstr) (opcode : ℕ) (bytes : List ℕ) → IsInstruction w (opcode ∷ bytes) → opcode_of w ≡ opcode
has_opcode w opcode bytes p =
    let first = opcode_first w (opcode ∷ bytes) p in
    cc (first.1)

-- no more instructions than bytes
pub as_many : (ws : List WInstr) (bytes : List ℕ) → IsInstructions ws bytes → length ws ≤ length bytes
as_many ws bytes (none e f) =
    let count : length ws ≡ 0 = ap length e in
    omega arith
as_many ws bytes (more x xs front back e p q f) =
    let first = opcode_first x front p in
    let count : length ws ≡ length (x ∷ xs) = ap length e in
    let size : length bytes ≡ length (front ++ back) = ap length f in
    let one : length front ≡ length (opcode_of x ∷ first.0) = ap length first.1 in
    let others = as_many xs back q in
    omega (arith, length-append front back)

mutual
  -- an instruction of fewer than 2 ^ 32 bytes fits
  pub instruction_fits : (w : WInstr) (bytes : List ℕ) → length bytes < 2 ^ 32 → IsInstruction w bytes → InstructionFits w
  instruction_fits w bytes h (plain rest p e) = plain_fits (immediate_fits (immediate_of w) rest p)
  instruction_fits w bytes h (nested t xs inner p q e) =
      let size : length bytes ≡ length (opcode_of w ∷ block_type t ∷ (inner ++ 0x0B ∷ [])) = ap length e in
      let shorter : length inner < 2 ^ 32 = omega (arith, length-append inner (0x0B ∷ [])) in
      let count = as_many xs inner q in
      nested_fits t xs p (omega arith) (instructions_fit xs inner shorter q)
  instruction_fits w bytes h (two_arms t xs ys first second p q r e) =
      let size : length bytes ≡ length (opcode_of w ∷ block_type t ∷ (first ++ (0x05 ∷ (second ++ 0x0B ∷ [])))) = ap length e in
      let shorter : length first < 2 ^ 32 = omega (arith, length-append first (0x05 ∷ (second ++ 0x0B ∷ []))) in
      let also : length second < 2 ^ 32 = omega (arith, length-append first (0x05 ∷ (second ++ 0x0B ∷ [])), length-append second (0x0B ∷ [])) in
      let count = as_many xs first q in
      let counted = as_many ys second r in
      two_arms_fit t xs ys p (omega arith) (omega arith) (instructions_fit xs first shorter q) (instructions_fit ys second also r)

  -- instructions of fewer than 2 ^ 32 bytes fit
  pub instructions_fit : (ws : List WInstr) (bytes : List ℕ) → length bytes < 2 ^ 32 → IsInstructions ws bytes → InstructionsFit ws
  instructions_fit ws bytes h (none e f) = none_fit e
  instructions_fit ws bytes h (more x xs front back e p q f) =
      let size : length bytes ≡ length (front ++ back) = ap length f in
      let shorter : length front < 2 ^ 32 = omega (arith, length-append front back) in
      let also : length back < 2 ^ 32 = omega (arith, length-append front back) in
      more_fit x xs e (instruction_fits x front shorter p) (instructions_fit xs back also q)

-- so does an expression of fewer than 2 ^ 32 bytes, and its length
pub short_expressions_fit : ShortExpressionsFit
short_expressions_fit ws bytes p h =
    let size : length bytes ≡ length (p.front ++ p.back) = ap length p.whole in
    let shorter : length p.front < 2 ^ 32 = omega (arith, length-append p.front p.back) in
    let count = as_many ws p.front p.first in
    (omega arith, instructions_fit ws p.front shorter p.first)

-- immediates that are spelled by themselves nest no instruction
pub not_nesting : (i : Immediate WInstr) (bytes : List ℕ) → IsImmediate i bytes → nests i ≡ false
not_nesting (Body t xs) bytes p = absurd p
not_nesting (Bodies t xs ys) bytes p = absurd p
not_nesting _ bytes p = refl

nests_by_kind : (i : Immediate WInstr) → kind_in i ≡ None → nests i ≡ true
nests_by_kind (Body t xs) e = refl
nests_by_kind (Bodies t xs ys) e = refl
nests_by_kind _ e = absurd (cc)

-- no instruction begins with a byte that no table has and that begins no block, loop or if
no_instruction : (opcode : ℕ) → kind_of opcode ≡ None → is_from_to 0x02 0x04 opcode ≡ false → (w : WInstr) → opcode_of w ≡ opcode → ⊥
no_instruction opcode k n w e =
    let nesting_is : nests (immediate_of w) ≡ true = nests_by_kind (immediate_of w) (sym (opcode_kind w) ∙ ap kind_of e ∙ k) in
    let none_is : nests (immediate_of w) ≡ false = sym (opcode_nests w) ∙ ap (is_from_to 0x02 0x04) e ∙ n in
    cc (nesting_is, none_is)

-- so with the byte of the end, and with that of `else`
pub not_end : (w : WInstr) → opcode_of w ≡ 0x0B → ⊥
not_end w e = no_instruction 0x0B refl refl w e

pub not_else : (w : WInstr) → opcode_of w ≡ 0x05 → ⊥
not_else w e = no_instruction 0x05 refl refl w e

-- the nesting of an instruction, by its immediates
nesting_by : (w : WInstr) (i : Immediate WInstr) → immediate_of w ≡ i → nesting w ≡ immediate_nesting nesting i
nesting_by w i e = nesting-layer w ∙ ap (immediate_nesting nesting) e

nests_none : (i : Immediate WInstr) → nests i ≡ false → immediate_nesting nesting i ≡ 0
nests_none (Body t xs) e = absurd (cc)
nests_none (Bodies t xs ys) e = absurd (cc)
nests_none _ e = refl

pub nesting_of_plain : (w : WInstr) → nests (immediate_of w) ≡ false → nesting w ≡ 0
nesting_of_plain w e = nesting-layer w ∙ nests_none (immediate_of w) e

pub nesting_of_list : (w : WInstr) (t : Option ValTy) (xs : List WInstr) → immediate_of w ≡ Body t xs → nesting w ≡ 1 + greatest nesting xs
nesting_of_list w t xs e = nesting_by w (Body t xs) e

pub nesting_of_arms : (w : WInstr) (t : Option ValTy) (xs ys : List WInstr) → immediate_of w ≡ Bodies t xs ys → nesting w ≡ 1 + max (greatest nesting xs) (greatest nesting ys)
nesting_of_arms w t xs ys e = nesting_by w (Bodies t xs ys) e

kind_nests_none : (i : Immediate WInstr) → IsThere (kind_in i) → nests i ≡ false
kind_nests_none (Body t xs) h = absurd h
kind_nests_none (Bodies t xs ys) h = absurd h
kind_nests_none _ h = refl

pub constants_nest_none : ConstantsNestNone
constants_nest_none w h = nesting_of_plain w (kind_nests_none (immediate_of w) (constant_there w h))
