-- A reader of instructions or sections reads alike with each `fuel` that is at least the number of the bytes that
-- follow. Two readers are compared on inputs of at most so many bytes.
use Rattle.std.proofs.Common.{◌≡◌, ◌∙◌, ℕ, zero, suc, ◌+◌, ◌≤◌, List, [], ◌∷◌, length, refl, sym, ap, arith}
use Rattle.std.specs.Prelude.{Result, Ok, Err, Bool, true, false, if◌then◌else◌, ◌==◌, nat_lt, nat_le}
use Rattle.wasm_ast.specs.declared.modules.WModule.{WModule}
use Rattle.wasm_grammar.specs.Nesting.{nesting_limit}
use Rattle.wasm_reading.specs.declared.fault.DecodeError.{DecodeError}
use Rattle.wasm_reading.specs.Readers.{Input, Reader, and_then, ◌>>=◌, here, byte_at}
use Rattle.wasm_reading.specs.ReadValues.{tag_at, sized_at}
use Rattle.wasm_reading.specs.ReadTypes.{block_type_of}
use Rattle.wasm_reading.specs.ReadInstructions.{is_from_to, kind_of, plain_at, other_arm_at, instruction_from, listed_from, instructions_at, Listed}
use Rattle.wasm_reading.specs.ReadModules.{content_at, custom_at, section_from, sections_at, is_empty, module_at_end}
use Rattle.wasm_reading.specs.Laws.{InstructionsNeedNoMore, SectionsNeedNoMore}
use Rattle.wasm_reading.proofs.Shrinking.{Shrinks, byte_less, shrinks_here, shrinks_tag, shrinks_sized}
use Rattle.wasm_reading.proofs.ShrinkingEntries.{shrinks_instruction, shrinks_instructions, shrinks_content, shrinks_custom}

pub record AlikeTo {A : Type 0} (n : ℕ) (read read' : Reader A) : Type 0 where
  pub same : (input : Input) → length input.rest ≤ n → read input ≡ read' input

pub alike_refl : {A : Type 0} (n : ℕ) (read : Reader A) → AlikeTo n read read
alike_refl n read = record { same = λ input h. refl }

then_same : {A B : Type 0} (o : Result (A × Input) DecodeError) (f f' : A → Reader B) → ((a : A) (mid : Input) → o ≡ Ok (a, mid) → f a mid ≡ f' a mid) → and_then o f ≡ and_then o f'
then_same (Ok done) f f' h = h done.0 done.1 refl
then_same (Err e) f f' h = refl

pub alike_then : {A B : Type 0} {n : ℕ} {r r' : Reader A} {f f' : A → Reader B} → AlikeTo n r r' → Shrinks r → ((a : A) → AlikeTo n (f a) (f' a)) → AlikeTo n (r >>= f) (r' >>= f')
alike_then {A} {B} {n} {r} {r'} {f} {f'} h s k = record {
  same = λ input l.
      then_same (r input) f f' (λ a mid e. let l' = s.less input mid a e in (k a).same mid (omega arith))
      ∙ ap (λ o. and_then o f') (h.same input l);
}

-- behind a byte there is a byte less
pub alike_byte : {B : Type 0} (n : ℕ) {f f' : ℕ → Reader B} → ((b : ℕ) → AlikeTo n (f b) (f' b)) → AlikeTo (suc n) (byte_at >>= f) (byte_at >>= f')
alike_byte n {f} {f'} k = record {
  same = λ input l. then_same (byte_at input) f f' (λ b mid e. let l' = byte_less input mid b e in (k b).same mid (omega arith));
}

no_byte : (input : Input) (b : ℕ) (mid : Input) → length input.rest ≤ 0 → byte_at input ≡ Ok (b, mid) → ⊥
no_byte input b mid l e = let l' = byte_less input mid b e in omega arith

-- without bytes it does not matter what stands behind a byte
pub alike_empty : {B : Type 0} (f f' : ℕ → Reader B) → AlikeTo 0 (byte_at >>= f) (byte_at >>= f')
alike_empty f f' = record { same = λ input l. then_same (byte_at input) f f' (λ b mid e. absurd (no_byte input b mid l e)) }

pub alike_if : {A : Type 0} {n : ℕ} (t : Bool) {r r' s s' : Reader A} → AlikeTo n r r' → AlikeTo n s s' → AlikeTo n (if t then r else s) (if t then r' else s')
alike_if true h k = h
alike_if false h k = k

pub alike_here : {B : Type 0} {n : ℕ} {f f' : ℕ → Reader B} → ((place : ℕ) → AlikeTo n (f place) (f' place)) → AlikeTo n (here >>= f) (here >>= f')
alike_here {B} {n} k = alike_then (alike_refl n here) shrinks_here k

alike_other : (n place : ℕ) (t : _) (xs : Listed) {r r' : Reader Listed} → AlikeTo n r r' → Shrinks r → AlikeTo n (other_arm_at place t xs r) (other_arm_at place t xs r')
alike_other n place t (xs, false) h s = alike_refl n _
alike_other n place t (xs, true) h s = alike_then h s (λ ys. alike_refl n _)

module _ (n : ℕ) (list list' : Bool → ℕ → Reader Listed) (h : (with_else : Bool) (depth : ℕ) → AlikeTo n (list with_else depth) (list' with_else depth))
    (s : (with_else : Bool) (depth : ℕ) → Shrinks (list with_else depth)) where
  alike_instruction : (depth place opcode : ℕ) → AlikeTo n (instruction_from list depth place opcode) (instruction_from list' depth place opcode)
  alike_instruction depth place opcode =
      alike_if (is_from_to 0x02 0x04 opcode)
      (alike_if (nat_le nesting_limit depth) (alike_refl n _)
      (alike_if (opcode == 0x04)
      (alike_then (alike_refl n (tag_at block_type_of)) (shrinks_tag _) (λ t. alike_then (h true (depth + 1)) (s true (depth + 1)) (λ xs. alike_other n place t xs (h false (depth + 1)) (s false (depth + 1)))))
      (alike_then (alike_refl n (tag_at block_type_of)) (shrinks_tag _) (λ t. alike_then (h false (depth + 1)) (s false (depth + 1)) (λ xs. alike_refl n _)))))
      (alike_refl n (plain_at place opcode (kind_of opcode)))

  pub alike_listed : (with_else : Bool) (depth place opcode : ℕ) → AlikeTo n (listed_from list with_else depth place opcode) (listed_from list' with_else depth place opcode)
  alike_listed with_else depth place opcode =
      alike_if (opcode == 0x0B) (alike_refl n _) (alike_if (opcode == 0x05) (alike_refl n _)
      (alike_then (alike_instruction depth place opcode) (shrinks_instruction s depth place opcode) (λ x. alike_then (h with_else depth) (s with_else depth) (λ xs. alike_refl n _))))

pub instructions_alike : (fuel fuel' n : ℕ) (with_else : Bool) (depth : ℕ) → n ≤ fuel → n ≤ fuel' → AlikeTo n (instructions_at fuel with_else depth) (instructions_at fuel' with_else depth)
instructions_alike zero zero n with_else depth h k = alike_refl n _
instructions_alike zero (suc fuel') zero with_else depth h k = alike_here (λ place. alike_empty _ _)
instructions_alike zero (suc fuel') (suc n) with_else depth h k = absurd (omega arith)
instructions_alike (suc fuel) zero zero with_else depth h k = alike_here (λ place. alike_empty _ _)
instructions_alike (suc fuel) zero (suc n) with_else depth h k = absurd (omega arith)
instructions_alike (suc fuel) (suc fuel') zero with_else depth h k = alike_here (λ place. alike_empty _ _)
instructions_alike (suc fuel) (suc fuel') (suc n) with_else depth h k =
    alike_here (λ place. alike_byte n (λ opcode.
    alike_listed n (instructions_at fuel) (instructions_at fuel') (λ e d. instructions_alike fuel fuel' n e d (omega arith) (omega arith)) (λ e d. shrinks_instructions fuel e d) with_else depth place opcode))

module _ (n : ℕ) (more more' : ℕ → WModule → Reader WModule) (h : (last : ℕ) (m : WModule) → AlikeTo n (more last m) (more' last m)) where
  alike_section : (last : ℕ) (m : WModule) → AlikeTo (suc n) (section_from more last m) (section_from more' last m)
  alike_section last m =
      alike_here (λ place. alike_byte n (λ id.
      alike_if (id == 0) (alike_then (alike_refl n custom_at) shrinks_custom (λ _. h last m))
      (alike_if (nat_lt 11 id) (alike_refl n _) (alike_if (nat_le id last) (alike_refl n _)
      (alike_then (alike_refl n (sized_at (content_at id m))) (shrinks_sized (shrinks_content id m)) (λ m'. h id m'))))))

empty_alike : {A : Type 0} (t : Bool) (x y : A) → t ≡ true → (if t then x else y) ≡ x
empty_alike true x y e = refl
empty_alike false x y e = absurd (cc)

no_bytes : (bytes : List ℕ) → length bytes ≤ 0 → (length bytes == 0) ≡ true
no_bytes [] h = refl
no_bytes (b ∷ bytes) h = absurd (omega arith)

choose_alike : {A : Type 0} (t : Bool) (x y y' : A) → y ≡ y' → (if t then x else y) ≡ (if t then x else y')
choose_alike true x y y' e = refl
choose_alike false x y y' e = e

pub sections_alike : (fuel fuel' n last : ℕ) (m : WModule) → n ≤ fuel → n ≤ fuel' → AlikeTo n (sections_at fuel last m) (sections_at fuel' last m)
sections_alike zero zero n last m h k = alike_refl n _
sections_alike zero (suc fuel') n last m h k = record { same = λ input l. sym (empty_alike (is_empty input) _ _ (no_bytes input.rest (omega arith))) }
sections_alike (suc fuel) zero n last m h k = record { same = λ input l. empty_alike (is_empty input) _ _ (no_bytes input.rest (omega arith)) }
sections_alike (suc fuel) (suc fuel') zero last m h k = record {
  same = λ input l. empty_alike (is_empty input) _ _ (no_bytes input.rest l) ∙ sym (empty_alike (is_empty input) _ _ (no_bytes input.rest l));
}
sections_alike (suc fuel) (suc fuel') (suc n) last m h k = record {
  same = λ input l.
      choose_alike (is_empty input) (module_at_end m input) _ _
      ((alike_section n (sections_at fuel) (sections_at fuel') (λ i m'. sections_alike fuel fuel' n i m' (omega arith) (omega arith)) last m).same input l);
}

pub instructions_need_no_more : InstructionsNeedNoMore
instructions_need_no_more fuel with_else depth input h = (instructions_alike fuel (length input.rest) (length input.rest) with_else depth h (omega arith)).same input (omega arith)

pub sections_need_no_more : SectionsNeedNoMore
sections_need_no_more fuel last m input h = (sections_alike fuel (length input.rest) (length input.rest) last m h (omega arith)).same input (omega arith)
