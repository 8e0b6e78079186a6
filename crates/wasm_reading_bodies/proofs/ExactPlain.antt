-- Instructions that nest none are read exactly, and so are constant expressions.
use Rattle.std.proofs.Common.{◌≡◌, ◌∙◌, ℕ, List, [], ◌∷◌, ◌++◌, refl, sym, ap, subst, append-nil, Option, Some, None}
use Rattle.wasm_ast.specs.declared.instructions.WInstr.{WInstr, out-WInstr, roll-WInstr, out-roll-WInstr, roll-out-WInstr}
use Rattle.wasm_ast.specs.declared.instructions.WInstr.TheOpen.{WInstr-F}
use Rattle.wasm_ast.specs.Opcodes.{opcode_of}
use Rattle.wasm_ast.specs.Immediates.{Immediate, Body, Bodies, immediate_of}
use Rattle.wasm_ast.specs.ByOpcode.{instruction_at}
use Rattle.wasm_ast.proofs.Tables.{instruction_at-found}
use Rattle.wasm_grammar.specs.GrammarValues.{Joined, IsByte}
use Rattle.wasm_grammar.specs.GrammarInstructions.{IsImmediate, IsInstruction, plain, nested, two_arms, IsConstantExpression}
use Rattle.wasm_grammar.specs.ProfileInstructions.{plain_fits, ConstantFits}
use Rattle.wasm_reading.specs.declared.kinds.ImmediateKind.{ImmediateKind}
use Rattle.wasm_reading.specs.declared.fault.DecodeFault.TheVariants.{BadTag}
use Rattle.wasm_reading.specs.Readers.{Reader, ◌>>=◌, byte_at}
use Rattle.wasm_reading.specs.ReadInstructions.{kind_of, opcode_fault, made, plain_at, constant_kind_of}
use Rattle.wasm_reading_values.specs.Exactness.{HasRoom, ExactIn, Exact}
use Rattle.wasm_reading_values.proofs.Compose.{alike, giving, failing, placed, followed, followed_in, in_room}
use Rattle.wasm_reading_values.proofs.ExactNumbers.{one_byte, before_byte}
use Rattle.wasm_reading_values.specs.EntriesRead.{ConstantsReadExactly}
use Rattle.wasm_reading_bodies.specs.BodiesRead.{PlainReadExactly}
use Rattle.wasm_reading_bodies.proofs.OpcodeKinds.{kind_in, IsThere, opcode_kind, constant_kind, constant_there, is_constant}
use Rattle.wasm_reading_bodies.proofs.ByTables.{by_opcode}
use Rattle.wasm_reading_bodies.proofs.ExactImmediates.{immediate, immediate_fits}

made_from : {room : Option ℕ} (place : ℕ) (o : Option (WInstr-F WInstr)) → ExactIn room (made place o) (λ w bytes. (o ≡ Some (out-WInstr w)) × (bytes ≡ []))
made_from place (Some x) =
    alike (giving (roll-WInstr x))
    (λ w bytes p. (ap Some (sym (ap out-WInstr p.0 ∙ out-roll-WInstr x)), p.1))
    (λ w bytes p.
    let same : x ≡ out-WInstr w = cc (p.0) in
    (sym (roll-out-WInstr w) ∙ ap roll-WInstr (sym same), p.1))
made_from place None = failing BadTag place _ (λ w bytes p. absurd (cc (p.0)))

-- an instruction, and nothing more of its bytes
abbrev pub IsOf : ℕ → Immediate WInstr → WInstr → List ℕ → Type 0
IsOf opcode i w bytes = (opcode_of w ≡ opcode) × (immediate_of w ≡ i) × (bytes ≡ [])

-- the instruction of an opcode and immediates, where there is one
pub made_instruction : {room : Option ℕ} (place opcode : ℕ) (i : Immediate WInstr) → ExactIn room (made place (instruction_at opcode i)) (IsOf opcode i)
made_instruction place opcode i =
    alike (made_from place (instruction_at opcode i))
    (λ w bytes p.
    let parts = by_opcode opcode i (out-WInstr w) p.0 in
    (parts.0, parts.1, p.1))
    (λ w bytes p.
    (ap (λ o. instruction_at o i) (sym p.0) ∙ ap (λ j. instruction_at (opcode_of w) j) (sym p.1) ∙ instruction_at-found (out-WInstr w), p.2))

-- immediates that are spelled by themselves have a kind
has_kind : (i : Immediate WInstr) (bytes : List ℕ) → IsImmediate i bytes → IsThere (kind_in i)
has_kind (Body t xs) bytes p = p
has_kind (Bodies t xs ys) bytes p = p
has_kind _ bytes p = tt

-- an instruction of this opcode and of immediates of this kind, which are spelled
abbrev pub IsPlainBy : ℕ → Option ImmediateKind → WInstr → List ℕ → Type 0
IsPlainBy opcode kind w bytes = (kind_in (immediate_of w) ≡ kind) × (opcode_of w ≡ opcode) × IsImmediate (immediate_of w) bytes

-- an instruction that nests none, behind its opcode
pub plain_by : (place opcode : ℕ) (kind : Option ImmediateKind) → Exact (plain_at place opcode kind) (IsPlainBy opcode kind)
plain_by place opcode (Some kind) =
    alike (followed (λ i. made place (instruction_at opcode i)) (IsOf opcode) (immediate kind) (λ i. made_instruction place opcode i))
    (λ w bytes p.
    let q = p.1 in
    let all : bytes ≡ q.front = q.whole ∙ ap (λ (back : List ℕ). q.front ++ back) q.second.2 ∙ append-nil q.front in
    let spelled : IsImmediate (immediate_of w) q.front = subst (λ j. IsImmediate j q.front) (sym q.second.1) q.first.1 in
    (ap kind_in q.second.1 ∙ q.first.0, q.second.0, subst (λ (xs : List ℕ). IsImmediate (immediate_of w) xs) (sym all) spelled))
    (λ w bytes p. (immediate_of w, record { front = bytes; back = []; first = (p.0, p.2); second = (p.1, refl, refl); whole = sym (append-nil bytes) }))
plain_by place opcode None =
    failing (opcode_fault opcode) place _ (λ w bytes p. subst IsThere p.0 (has_kind (immediate_of w) bytes p.2))

-- the same, by the opcode alone, which tells the kind
pub plain_behind_opcode : PlainReadExactly
plain_behind_opcode place opcode =
    alike (plain_by place opcode (kind_of opcode))
    (λ w bytes p. ((p.1, immediate_fits (immediate_of w) bytes p.2), p.2))
    (λ w bytes p. (sym (opcode_kind w) ∙ ap kind_of p.0.0, p.0.0, p.1))

-- a byte, and what it begins
pub by_first_byte : {room : Option ℕ} (less : Option ℕ) {A : Type 0} (next : ℕ → Reader A) (P : A → List ℕ → Type 0) → ((b : ℕ) (bytes : List ℕ) → HasRoom room (b ∷ bytes) → HasRoom less bytes) → ((a : A) → P a [] → ⊥) → ((b : ℕ) → ExactIn less (next b) (λ a bytes. P a (b ∷ bytes))) → ExactIn room (byte_at >>= next) P
by_first_byte {room} less {A} next P smaller some k =
    alike (followed_in less next (λ b a bytes. P a (b ∷ bytes)) (λ b front back p h. smaller b back (subst (λ (xs : List ℕ). HasRoom room (xs ++ back)) p h)) (in_room room one_byte) k)
    (λ a bytes p.
    let q = p.1 in
    subst (λ (xs : List ℕ). P a xs) (sym (q.whole ∙ ap (λ (front : List ℕ). front ++ q.back) q.first)) q.second)
    first_and_rest
  where
    first_and_rest : (a : A) (bytes : List ℕ) → P a bytes → (b : ℕ) × Joined (IsByte b) (λ back. P a (b ∷ back)) bytes
    first_and_rest a [] p = absurd (some a p)
    first_and_rest a (b ∷ bytes) p = (b, record { front = b ∷ []; back = bytes; first = refl; second = p; whole = refl })

-- a constant expression that fits
abbrev IsFittingConstant : WInstr → List ℕ → Type 0
IsFittingConstant w bytes = ConstantFits w × IsConstantExpression w bytes

no_constant : (w : WInstr) (front back : List ℕ) → IsInstruction w front → front ++ back ≡ [] → ⊥
no_constant w front back (plain rest p e) h = cc
no_constant w front back (nested t xs inner p q e) h = cc
no_constant w front back (two_arms t xs ys first second p q r e) h = cc

-- what a constant expression has behind its opcode
constant_behind : (opcode : ℕ) (w : WInstr) (bytes : List ℕ) → IsFittingConstant w (opcode ∷ bytes) → Joined (IsPlainBy opcode (constant_kind_of opcode) w) (IsByte 0x0B) bytes
constant_behind opcode w bytes p = by_form p.1.front p.1.first p.1.back p.1.second p.1.whole
  where
    by_form : (front : List ℕ) → IsInstruction w front → (back : List ℕ) → IsByte 0x0B back → opcode ∷ bytes ≡ front ++ back → Joined (IsPlainBy opcode (constant_kind_of opcode) w) (IsByte 0x0B) bytes
    by_form front (plain rest q e) back second whole =
        let g : opcode ∷ bytes ≡ opcode_of w ∷ (rest ++ back) = whole ∙ ap (λ (xs : List ℕ). xs ++ back) e in
        let same : opcode_of w ≡ opcode = cc (g) in
        let behind : bytes ≡ rest ++ back = cc (g) in
        let kind : kind_in (immediate_of w) ≡ constant_kind_of opcode = sym (constant_kind w p.0.0) ∙ ap constant_kind_of same in
        record { front = rest; back = back; first = (kind, same, q); second = second; whole = behind }
    by_form front (nested t xs inner q r e) back second whole = absurd (subst (λ i. IsThere (kind_in i)) q (constant_there w p.0.0))
    by_form front (two_arms t xs ys first other q r s e) back second whole = absurd (subst (λ i. IsThere (kind_in i)) q (constant_there w p.0.0))

constant_with : (opcode : ℕ) (w : WInstr) (bytes : List ℕ) → Joined (IsPlainBy opcode (constant_kind_of opcode) w) (IsByte 0x0B) bytes → IsFittingConstant w (opcode ∷ bytes)
constant_with opcode w bytes p =
    let f = p.first in
    let found : kind_in (immediate_of w) ≡ constant_kind_of (opcode_of w) = f.0 ∙ ap constant_kind_of (sym f.1) in
    let allowed = is_constant w (subst IsThere found (has_kind (immediate_of w) p.front f.2)) in
    let spelled : IsInstruction w (opcode ∷ p.front) = plain p.front f.2 (ap (λ (o : ℕ). o ∷ p.front) (sym f.1)) in
    ((allowed, plain_fits (immediate_fits (immediate_of w) p.front f.2)), record { front = opcode ∷ p.front; back = p.back; first = spelled; second = p.second; whole = ap (λ (xs : List ℕ). opcode ∷ xs) p.whole })

-- a constant expression
pub constant : ConstantsReadExactly
constant =
    placed _ _ (λ place.
    by_first_byte None _ IsFittingConstant (λ b bytes h. h) (λ w p. no_constant w p.1.front p.1.back p.1.first (sym p.1.whole)) (λ opcode.
    alike (before_byte 0x0B (plain_by place opcode (constant_kind_of opcode))) (constant_with opcode) (constant_behind opcode)))
