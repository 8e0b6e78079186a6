-- What is computed of an instruction that is written out, by its layer `x`.
use Rattle.std.proofs.Common.{◌≡◌, ◌∙◌, ℕ, ◌^◌, ◌<◌, List, [], ◌∷◌, length, sym, ap, subst, arith}
use Rattle.std.specs.Prelude.{All, Bool, true, false, if◌then◌else◌}
use Rattle.std.proofs.lemmas.List.Elements.{All-cons, All-nil}
use Rattle.wasm_ast.specs.declared.instructions.WInstr.{WInstr, out-WInstr, roll-WInstr, out-roll-WInstr}
use Rattle.wasm_ast.specs.declared.instructions.WInstr.TheOpen.{WInstr-F}
use Rattle.wasm_ast.specs.Opcodes.{opcode_in, opcode_of}
use Rattle.wasm_ast.specs.Immediates.{immediate_in, immediate_of}
use Rattle.wasm_grammar.specs.CanonicalInstructions.{immediate_bytes, instruction_bytes}
use Rattle.wasm_grammar.specs.Nesting.{immediate_nesting, nesting}
use Rattle.wasm_grammar.specs.ProfileInstructions.{ImmediateFits, IsShortListOf, InstructionFits, plain_fits, IsConstantIn, IsConstant}
use Rattle.wasm_grammar.proofs.InstructionLayers.{instruction_bytes-layer, nesting-layer}

pub known : (x : WInstr-F WInstr) (w : WInstr) → roll-WInstr x ≡ w → out-WInstr w ≡ x
known x w e = ap out-WInstr (sym e) ∙ out-roll-WInstr x

pub known_opcode : (x : WInstr-F WInstr) (w : WInstr) → roll-WInstr x ≡ w → opcode_of w ≡ opcode_in x
known_opcode x w e = ap opcode_in (known x w e)

pub known_immediate : (x : WInstr-F WInstr) (w : WInstr) → roll-WInstr x ≡ w → immediate_of w ≡ immediate_in x
known_immediate x w e = ap immediate_in (known x w e)

pub known_bytes : (x : WInstr-F WInstr) (w : WInstr) → roll-WInstr x ≡ w → instruction_bytes w ≡ opcode_in x ∷ immediate_bytes instruction_bytes (immediate_in x)
known_bytes x w e =
    instruction_bytes-layer w ∙ ap (λ (y : WInstr-F WInstr). opcode_in y ∷ immediate_bytes instruction_bytes (immediate_in y)) (known x w e)

pub known_nesting : (x : WInstr-F WInstr) (w : WInstr) → roll-WInstr x ≡ w → nesting w ≡ immediate_nesting nesting (immediate_in x)
known_nesting x w e = nesting-layer w ∙ ap (immediate_nesting nesting) (known_immediate x w e)

pub known_fits : (x : WInstr-F WInstr) (w : WInstr) → roll-WInstr x ≡ w → ImmediateFits (immediate_in x) → InstructionFits w
known_fits x w e h = plain_fits (subst ImmediateFits (sym (known_immediate x w e)) h)

pub known_constant : (x : WInstr-F WInstr) (w : WInstr) → roll-WInstr x ≡ w → IsConstantIn x → IsConstant w
known_constant x w e h = subst IsConstantIn (sym (known x w e)) h

-- lists of one entry and of none
pub one : {X : Type 0} (P : X → Type 0) (x : X) → P x → IsShortListOf P (x ∷ [])
one P x h = record { short = omega arith; each = All-cons P x [] h (All-nil P) }

pub empty : {X : Type 0} (P : X → Type 0) → IsShortListOf P []
empty P = record { short = omega arith; each = All-nil P }

-- bytes one after another
pub one_byte : (b : ℕ) (bs : List ℕ) → b < 256 → All (λ c. c < 256) bs → All (λ c. c < 256) (b ∷ bs)
one_byte b bs h k = All-cons (λ c. c < 256) b bs h k

pub no_byte : All (λ c. c < 256) []
no_byte = All-nil (λ c. c < 256)

-- a length, whichever way a test goes
pub chosen : (c : Bool) (a b : List ℕ) → length a < 2 ^ 32 → length b < 2 ^ 32 → length (if c then a else b) < 2 ^ 32
chosen true a b h k = h
chosen false a b h k = k
