-- An instruction stands in the tables at its opcode and its immediates: what is looked up there is the
-- instruction itself, by the lemma on one layer of `wasm_ast`.
use Rattle.std.proofs.Common.{◌≡◌, ◌∙◌, ℕ, Some, sym, ap}
use Rattle.std.specs.Prelude.{Option, IsSome, refl}
use Rattle.std.specs.Option.{option_map}
use Rattle.wasm_ast.specs.declared.instructions.WInstr.{WInstr, out-WInstr, roll-WInstr, roll-out-WInstr}
use Rattle.wasm_ast.specs.Opcodes.{opcode_of}
use Rattle.wasm_ast.specs.Immediates.{Immediate, immediate_of}
use Rattle.wasm_ast.specs.ByOpcode.{instruction_at}
use Rattle.wasm_ast.proofs.Tables.{instruction_at-found}

-- what was looked up, at what is an instruction's opcode and immediates
pub record LooksUp (w : WInstr) (found : Option WInstr) : Type 0 where
  pub opcode : ℕ
  pub immediate : Immediate WInstr
  pub same_opcode : opcode ≡ opcode_of w
  pub same_immediate : immediate ≡ immediate_of w
  pub is : found ≡ option_map roll-WInstr (instruction_at opcode immediate)

pub looked_up : (w : WInstr) (found : Option WInstr) → LooksUp w found → found ≡ Some w
looked_up w found h =
    h.is ∙ ap (λ opcode. option_map roll-WInstr (instruction_at opcode h.immediate)) h.same_opcode
    ∙ ap (λ immediate. option_map roll-WInstr (instruction_at (opcode_of w) immediate)) h.same_immediate
    ∙ ap (option_map roll-WInstr) (instruction_at-found (out-WInstr w)) ∙ ap Some (roll-out-WInstr w)

pub is_found : (w : WInstr) (found : Option WInstr) → LooksUp w found → IsSome found
is_found w found h = rw (looked_up w found h) refl

pub is_itself : (w v : WInstr) (found : Option WInstr) → LooksUp w found → found ≡ Some v → v ≡ w
is_itself w v found h e =
    let same : Some v ≡ Some w = sym e ∙ looked_up w found h in
    cc
