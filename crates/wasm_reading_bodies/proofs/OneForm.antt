-- Spellings of instructions at the front of the same bytes are one, since what is read there is one.
use Rattle.std.proofs.Common.{◌≡◌, ◌∙◌, ℕ, ◌≤◌, List, ◌∷◌, ◌++◌, length, refl, sym, ap, subst, arith, None, Some, Ok}
use Rattle.std.proofs.lemmas.List.{append_cancel_right}
use Rattle.wasm_ast.specs.declared.instructions.WInstr.{WInstr}
use Rattle.wasm_ast.specs.Opcodes.{opcode_of}
use Rattle.wasm_grammar.specs.Nesting.{nesting, nesting_limit}
use Rattle.wasm_grammar.specs.GrammarInstructions.{IsInstruction}
use Rattle.wasm_reading.specs.Readers.{Input}
use Rattle.wasm_reading.specs.ReadInstructions.{instruction_from, instructions_at}
use Rattle.wasm_reading_values.proofs.Compose.{read_one}
use Rattle.wasm_reading_bodies.specs.BodiesRead.{InstructionsHaveOneForm}
use Rattle.wasm_reading_bodies.proofs.Spelled.{opcode_first}
use Rattle.wasm_reading_bodies.proofs.ExactBlocks.{instruction_exact}
use Rattle.wasm_reading_bodies.proofs.ExactBodies.{instructions}

-- an instruction at the front of bytes is read there, behind its opcode
read_at_front : (opcode : ℕ) (w : WInstr) (bytes front back : List ℕ) → nesting w ≤ nesting_limit → IsInstruction w (opcode ∷ front) → bytes ≡ front ++ back →
    instruction_from (instructions_at (length bytes)) 0 0 opcode (record { at = 0; end = None; rest = bytes }) ≡ Ok (w, record { at = length front; end = None; rest = back })
read_at_front opcode w bytes front back within p e =
    (instruction_exact (Some (length bytes)) (instructions_at (length bytes)) (instructions (length bytes)) 0 0 opcode).complete
    (record { at = 0; end = None; rest = bytes }) (record { at = length front; end = None; rest = back }) w
    (record { front = front; holds = (omega (arith, within), p); whole = e; place = omega arith; same_end = refl }) tt (omega arith)

pub instructions_have_one_form : InstructionsHaveOneForm
instructions_have_one_form w z a b u v within also p q e =
    let s = opcode_first w a p in
    let t = opcode_first z b q in
    let whole : opcode_of w ∷ (s.0 ++ u) ≡ opcode_of z ∷ (t.0 ++ v) = ap (λ (xs : List ℕ). xs ++ u) (sym s.1) ∙ e ∙ ap (λ (xs : List ℕ). xs ++ v) t.1 in
    let opcode : opcode_of z ≡ opcode_of w = cc (whole) in
    let same : s.0 ++ u ≡ t.0 ++ v = cc (whole) in
    let one = read_at_front (opcode_of w) w (s.0 ++ u) s.0 u within (subst (λ (xs : List ℕ). IsInstruction w xs) s.1 p) refl in
    let other = read_at_front (opcode_of w) z (s.0 ++ u) t.0 v also (subst (λ (xs : List ℕ). IsInstruction z xs) (t.1 ∙ ap (λ (o : ℕ). o ∷ t.0) opcode) q) same in
    let r = read_one w z (record { at = length s.0; end = None; rest = u }) (record { at = length t.0; end = None; rest = v }) (sym one ∙ other) in
    let back : u ≡ v = ap (λ (i : Input). i.rest) r.1 in
    (append_cancel_right a b u (e ∙ ap (λ (xs : List ℕ). b ++ xs) (sym back)), r.0)
