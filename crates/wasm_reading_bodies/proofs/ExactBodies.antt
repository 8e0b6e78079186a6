-- Lists of instructions are read exactly, with room for as many bytes as there may be instructions: by induction on
-- that number. So are expressions.
use Rattle.std.proofs.Common.{◌≡◌, ◌∙◌, ℕ, zero, suc, ◌-◌, ◌≤◌, Bool, true, false, List, [], ◌∷◌, ◌++◌, length, refl, sym, ap, subst, arith, append_assoc, length-append, Option, Some}
use Rattle.std.specs.Prelude.{◌==◌, if◌then◌else◌}
use Rattle.std.proofs.lemmas.Bool.{eqb-true, eqb-false}
use Rattle.wasm_ast.specs.declared.instructions.WInstr.{WInstr}
use Rattle.wasm_ast.specs.Opcodes.{opcode_of}
use Rattle.wasm_grammar.specs.Nesting.{greatest, nesting, nesting_limit, NestsAtMost}
use Rattle.wasm_grammar.specs.GrammarValues.{Joined}
use Rattle.wasm_grammar.specs.GrammarInstructions.{IsInstruction, IsInstructions, none, more}
use Rattle.wasm_reading.specs.declared.fault.DecodeFault.TheVariants.{BadTag}
use Rattle.wasm_reading.specs.Readers.{Reader, ◌>>=◌, give, fail, byte_at}
use Rattle.wasm_reading.specs.ReadInstructions.{Listed, instruction_from, listed_from, instructions_at}
use Rattle.wasm_reading_values.specs.Exactness.{ExactIn}
use Rattle.wasm_reading_values.specs.EntriesRead.{ExpressionsReadExactly}
use Rattle.wasm_reading_values.proofs.Compose.{alike, giving, failing, branch, placed, followed, made, from_and_then, by_length}
use Rattle.wasm_reading_bodies.specs.BodiesRead.{IsCloser, IsListed, ListsReadExactly}
use Rattle.wasm_reading_bodies.proofs.ExactPlain.{by_first_byte}
use Rattle.wasm_reading_bodies.proofs.Spelled.{opcode_first, has_opcode, not_end, not_else}
use Rattle.wasm_reading_bodies.proofs.ExactBlocks.{IsBehind, only_end, instruction_exact}

-- what an opcode begins, and what is read of it: the end, `else`, or an instruction and those behind it
pub data Begins (with_else : Bool) (depth opcode : ℕ) (listed : Listed) (bytes : List ℕ) : Type 0 where
  ends : opcode ≡ 0x0B → listed ≡ ([], false) → bytes ≡ [] → Begins with_else depth opcode listed bytes
  stops : opcode ≡ 0x05 → with_else ≡ true → listed ≡ ([], true) → bytes ≡ [] → Begins with_else depth opcode listed bytes
  goes_on : (x : WInstr) (xs : Listed) → listed ≡ (x ∷ xs.0, xs.1) → Joined (IsBehind depth opcode x) (IsListed with_else depth xs) bytes → Begins with_else depth opcode listed bytes

closes : (with_else stop : Bool) (depth opcode : ℕ) (ws : List WInstr) (bytes : List ℕ) → ws ≡ [] → IsCloser with_else stop (opcode ∷ bytes) → Begins with_else depth opcode (ws, stop) bytes
closes with_else false depth opcode ws bytes e p = ends (cc (p)) (λ i. (e i, false)) (cc (p))
closes true true depth opcode ws bytes e p = stops (cc (p)) refl (λ i. (e i, true)) (cc (p))
closes false true depth opcode ws bytes e p = absurd p

begins : (with_else : Bool) (depth opcode : ℕ) (listed : Listed) (bytes : List ℕ) → IsListed with_else depth listed (opcode ∷ bytes) → Begins with_else depth opcode listed bytes
begins with_else depth opcode listed bytes p = by_form p.1.front p.1.first p.1.back p.1.second p.1.whole
  where
    by_form : (front : List ℕ) → IsInstructions listed.0 front → (back : List ℕ) → IsCloser with_else listed.1 back → opcode ∷ bytes ≡ front ++ back → Begins with_else depth opcode listed bytes
    by_form front (none e f) back closer whole =
        let same : back ≡ opcode ∷ bytes = sym (whole ∙ ap (λ (xs : List ℕ). xs ++ back) f) in
        closes with_else listed.1 depth opcode listed.0 bytes e (subst (λ (xs : List ℕ). IsCloser with_else listed.1 xs) same closer)
    by_form front (more x xs first others e q r f) back closer whole =
        let o = opcode_first x first q in
        let all : opcode ∷ bytes ≡ opcode_of x ∷ (o.0 ++ (others ++ back)) =
        whole ∙ ap (λ (bs : List ℕ). bs ++ back) f ∙ append_assoc first others back ∙ ap (λ (bs : List ℕ). bs ++ (others ++ back)) o.1 in
        let same : opcode_of x ≡ opcode = cc (all) in
        let behind : bytes ≡ o.0 ++ (others ++ back) = cc (all) in
        let greater : greatest nesting listed.0 ≡ greatest nesting (x ∷ xs) = ap (greatest nesting) e in
        let one : nesting x ≤ nesting_limit - depth = omega (arith, p.0) in
        let rest : NestsAtMost (nesting_limit - depth) xs = omega (arith, p.0) in
        let spelled : IsInstruction x (opcode ∷ o.0) = subst (λ (bs : List ℕ). IsInstruction x bs) (o.1 ∙ ap (λ (b : ℕ). b ∷ o.0) same) q in
        goes_on x (xs, listed.1) (λ i. (e i, listed.1)) (record { front = o.0; back = others ++ back; first = (one, spelled); second = (rest, record { front = others; back = back; first = r; second = closer; whole = refl }); whole = behind })

-- an empty list and the byte behind it
nothing_listed : (with_else stop : Bool) (depth : ℕ) (bytes : List ℕ) → IsCloser with_else stop bytes → IsListed with_else depth ([], stop) bytes
nothing_listed with_else stop depth bytes p = (omega arith, record { front = []; back = bytes; first = none refl refl; second = p; whole = refl })

-- an instruction and a list behind it
one_listed : (with_else : Bool) (depth opcode : ℕ) (x : WInstr) (xs : Listed) (bytes : List ℕ) → Joined (IsBehind depth opcode x) (IsListed with_else depth xs) bytes → IsListed with_else depth (x ∷ xs.0, xs.1) (opcode ∷ bytes)
one_listed with_else depth opcode x xs bytes p =
    let one = p.first.0 in
    let rest = p.second.0 in
    let l = p.second.1 in
    let within : NestsAtMost (nesting_limit - depth) (x ∷ xs.0) = omega arith in
    let whole : opcode ∷ bytes ≡ ((opcode ∷ p.front) ++ l.front) ++ l.back =
    ap (λ (bs : List ℕ). opcode ∷ bs) (p.whole ∙ ap (λ (bs : List ℕ). p.front ++ bs) l.whole ∙ sym (append_assoc p.front l.front l.back)) in
    (within, record { front = (opcode ∷ p.front) ++ l.front; back = l.back; first = more x xs.0 (opcode ∷ p.front) l.front refl p.first.1 l.first refl; second = l.second; whole = whole })

module _ (room : Option ℕ) (list : Bool → ℕ → Reader Listed) (lists : (with_else : Bool) (depth : ℕ) → ExactIn room (list with_else depth) (IsListed with_else depth)) where
  at_end : (with_else : Bool) (depth opcode : ℕ) → opcode ≡ 0x0B → ExactIn room (give ([], false)) (λ listed bytes. IsListed with_else depth listed (opcode ∷ bytes))
  at_end with_else depth opcode same =
      alike (giving ([], false))
      (λ listed bytes p.
      let closer : IsCloser with_else false (opcode ∷ bytes) = λ i. same i ∷ p.1 i in
      subst (λ (r : Listed). IsListed with_else depth r (opcode ∷ bytes)) (sym p.0) (nothing_listed with_else false depth (opcode ∷ bytes) closer))
      (λ listed bytes p. by_form listed bytes (begins with_else depth opcode listed bytes p))
    where
      by_form : (listed : Listed) (bytes : List ℕ) → Begins with_else depth opcode listed bytes → (listed ≡ ([], false)) × (bytes ≡ [])
      by_form listed bytes (ends o l b) = (l, b)
      by_form listed bytes (stops o e l b) = absurd (omega (arith, o, same))
      by_form listed bytes (goes_on x xs l j) = absurd (not_end x (has_opcode x opcode j.front j.first.1 ∙ same))

  at_else : (depth opcode : ℕ) → opcode ≡ 0x05 → ExactIn room (give ([], true)) (λ listed bytes. IsListed true depth listed (opcode ∷ bytes))
  at_else depth opcode same =
      alike (giving ([], true))
      (λ listed bytes p.
      let closer : IsCloser true true (opcode ∷ bytes) = λ i. same i ∷ p.1 i in
      subst (λ (r : Listed). IsListed true depth r (opcode ∷ bytes)) (sym p.0) (nothing_listed true true depth (opcode ∷ bytes) closer))
      (λ listed bytes p. by_form listed bytes (begins true depth opcode listed bytes p))
    where
      by_form : (listed : Listed) (bytes : List ℕ) → Begins true depth opcode listed bytes → (listed ≡ ([], true)) × (bytes ≡ [])
      by_form listed bytes (ends o l b) = absurd (omega (arith, o, same))
      by_form listed bytes (stops o e l b) = (l, b)
      by_form listed bytes (goes_on x xs l j) = absurd (not_else x (has_opcode x opcode j.front j.first.1 ∙ same))

  no_else : (depth place opcode : ℕ) → opcode ≡ 0x05 → ExactIn room (fail BadTag place) (λ listed bytes. IsListed false depth listed (opcode ∷ bytes))
  no_else depth place opcode same =
      failing BadTag place _ (λ listed bytes p. by_form listed bytes (begins false depth opcode listed bytes p))
    where
      by_form : (listed : Listed) (bytes : List ℕ) → Begins false depth opcode listed bytes → ⊥
      by_form listed bytes (ends o l b) = omega (arith, o, same)
      by_form listed bytes (stops o e l b) = cc (e)
      by_form listed bytes (goes_on x xs l j) = not_else x (has_opcode x opcode j.front j.first.1 ∙ same)

  else_exact : (with_else : Bool) (depth place opcode : ℕ) → opcode ≡ 0x05 → ExactIn room (if with_else then give ([], true) else fail BadTag place) (λ listed bytes. IsListed with_else depth listed (opcode ∷ bytes))
  else_exact true depth place opcode same = at_else depth opcode same
  else_exact false depth place opcode same = no_else depth place opcode same

  going_on : (with_else : Bool) (depth place opcode : ℕ) → (opcode ≡ 0x0B → ⊥) → (opcode ≡ 0x05 → ⊥) → ExactIn room (instruction_from list depth place opcode >>= λ x. list with_else depth >>= λ xs. give (x ∷ xs.0, xs.1)) (λ listed bytes. IsListed with_else depth listed (opcode ∷ bytes))
  going_on with_else depth place opcode no_end no_stop =
      alike
      (followed (λ x. list with_else depth >>= λ xs. give (x ∷ xs.0, xs.1)) (λ x listed bytes. (xs : Listed) × (listed ≡ (x ∷ xs.0, xs.1)) × IsListed with_else depth xs bytes)
      (instruction_exact room list lists depth place opcode)
      (λ x. made (λ xs. (x ∷ xs.0, xs.1)) (lists with_else depth)))
      (λ listed bytes p.
      let q = p.1 in
      let xs = q.second.0 in
      let joined : Joined (IsBehind depth opcode p.0) (IsListed with_else depth xs) bytes = record { front = q.front; back = q.back; first = q.first; second = q.second.2; whole = q.whole } in
      subst (λ (r : Listed). IsListed with_else depth r (opcode ∷ bytes)) (sym q.second.1) (one_listed with_else depth opcode p.0 xs bytes joined))
      (λ listed bytes p. by_form listed bytes (begins with_else depth opcode listed bytes p))
    where
      by_form : (listed : Listed) (bytes : List ℕ) → Begins with_else depth opcode listed bytes → (x : WInstr) × Joined (IsBehind depth opcode x) (λ back. (xs : Listed) × (listed ≡ (x ∷ xs.0, xs.1)) × IsListed with_else depth xs back) bytes
      by_form listed bytes (ends o l b) = absurd (no_end o)
      by_form listed bytes (stops o e l b) = absurd (no_stop o)
      by_form listed bytes (goes_on x xs l j) = (x, record { front = j.front; back = j.back; first = j.first; second = (xs, l, j.second); whole = j.whole })

  -- a list, behind its first byte
  listed_exact : (with_else : Bool) (depth place opcode : ℕ) → ExactIn room (listed_from list with_else depth place opcode) (λ listed bytes. IsListed with_else depth listed (opcode ∷ bytes))
  listed_exact with_else depth place opcode =
      branch (opcode == 0x0B) (give ([], false)) _ _ (λ e. at_end with_else depth opcode (eqb-true opcode 0x0B e))
      (λ e. branch (opcode == 0x05) (if with_else then give ([], true) else fail BadTag place) _ _
      (λ f. else_exact with_else depth place opcode (eqb-true opcode 0x05 f))
      (λ f. going_on with_else depth place opcode (eqb-false opcode 0x0B e) (eqb-false opcode 0x05 f)))

closer_byte : (with_else stop : Bool) (bytes : List ℕ) → IsCloser with_else stop bytes → (b : ℕ) × (bytes ≡ b ∷ [])
closer_byte with_else false bytes p = (0x0B, p)
closer_byte true true bytes p = (0x05, p)
closer_byte false true bytes p = absurd p

-- a list takes a byte at least
some_byte : (with_else : Bool) (depth : ℕ) (listed : Listed) → IsListed with_else depth listed [] → ⊥
some_byte with_else depth listed p =
    let closer = closer_byte with_else listed.1 p.1.back p.1.second in
    let one : length p.1.back ≡ 1 = ap length closer.1 in
    let all : 0 ≡ length (p.1.front ++ p.1.back) = ap length p.1.whole in
    omega (arith, length-append p.1.front p.1.back)

no_bytes : (bytes : List ℕ) → length bytes ≤ 0 → bytes ≡ []
no_bytes [] h = refl
no_bytes (b ∷ bytes) h = absurd (omega arith)

-- where there is room for no byte, none is read
no_room : (place : ℕ) (P : Listed → List ℕ → Type 0) → ((listed : Listed) → P listed [] → ⊥) → ExactIn (Some 0) (byte_at >>= λ _. fail BadTag place) P
no_room place P some = record {
  sound = λ input behind a h e.
      let r = from_and_then (byte_at input) (λ _. fail BadTag place) a behind e in
      absurd (cc (r.3));
  complete = λ input behind a t h r.
      let size : length input.rest ≡ length (t.front ++ behind.rest) = ap length t.whole in
      let empty = no_bytes t.front (omega (arith, r, length-append t.front behind.rest)) in
      absurd (some a (subst (λ (bytes : List ℕ). P a bytes) empty t.holds));
}

-- a list of instructions
pub instructions : ListsReadExactly
instructions zero with_else depth = placed _ _ (λ place. no_room place (IsListed with_else depth) (some_byte with_else depth))
instructions (suc fuel) with_else depth =
    placed _ _ (λ place.
    by_first_byte (Some fuel) _ (IsListed with_else depth) (λ b bytes h. omega arith) (some_byte with_else depth)
    (λ opcode. listed_exact (Some fuel) (instructions_at fuel) (λ e d. instructions fuel e d) with_else depth place opcode))

-- an expression within the nesting of the profile
pub expression : ExpressionsReadExactly
expression =
    by_length (λ fuel. instructions_at fuel false 0 >>= λ xs. give xs.0) _ (λ most.
    alike (made (λ xs. xs.0) (instructions most false 0))
    (λ xs bytes p.
    let l = p.2.1 in
    let within = p.2.0 in
    let same : greatest nesting xs ≡ greatest nesting p.0.0 = ap (greatest nesting) p.1 in
    let first = subst (λ (ws : List WInstr). IsInstructions ws l.front) (sym p.1) l.first in
    (omega arith, record { front = l.front; back = l.back; first = first; second = only_end p.0.1 l.back l.second; whole = l.whole }))
    (λ xs bytes p.
    let l = p.1 in
    let within : NestsAtMost (nesting_limit - 0) xs = omega (arith, p.0) in
    ((xs, false), refl, (within, record { front = l.front; back = l.back; first = l.first; second = l.second; whole = l.whole }))))
