-- Instructions that nest others are read exactly where the lists in them are: a block, a loop, an if with one arm or
-- with two.
use Rattle.std.proofs.Common.{◌≡◌, ◌∙◌, ℕ, ◌+◌, ◌-◌, ◌<◌, ◌≤◌, Bool, true, false, List, [], ◌∷◌, ◌++◌, refl, sym, ap, subst, arith, append-nil, append_assoc, Option}
use Rattle.std.specs.Prelude.{◌==◌, nat_le}
use Rattle.std.proofs.lemmas.Bool.{leb-true, leb-false, eqb-true}
use Rattle.wasm_ast.specs.declared.types.ValTy.{ValTy}
use Rattle.wasm_ast.specs.declared.instructions.WInstr.{WInstr}
use Rattle.wasm_ast.specs.Opcodes.{opcode_of}
use Rattle.wasm_ast.specs.Immediates.{Body, Bodies, immediate_of}
use Rattle.wasm_ast.specs.ByOpcode.{instruction_at}
use Rattle.wasm_grammar.specs.Tags.{block_type}
use Rattle.wasm_grammar.specs.Nesting.{nesting, nesting_limit, NestsAtMost}
use Rattle.wasm_grammar.specs.GrammarValues.{Joined, IsByte}
use Rattle.wasm_grammar.specs.GrammarInstructions.{IsImmediate, IsInstruction, plain, nested, two_arms}
use Rattle.wasm_reading.specs.declared.fault.DecodeFault.TheVariants.{LimitOutside}
use Rattle.wasm_reading.specs.Readers.{Reader, ◌>>=◌, fail}
use Rattle.wasm_reading.specs.ReadInstructions.{Listed, is_from_to, kind_of, made, plain_at, nested_at, other_arm_at, if_at, instruction_from}
use Rattle.wasm_reading_values.specs.Exactness.{ExactIn}
use Rattle.wasm_reading_values.proofs.Compose.{alike, failing, branch, followed, in_room}
use Rattle.wasm_reading_values.proofs.ExactTables.{block_type_byte}
use Rattle.wasm_reading_bodies.specs.BodiesRead.{IsCloser, IsListed}
use Rattle.wasm_reading_bodies.proofs.OpcodeKinds.{nests, has_else, opcode_kind, opcode_nests, else_opcode}
use Rattle.wasm_reading_bodies.proofs.ExactPlain.{IsOf, IsPlainBy, made_instruction, plain_by}
use Rattle.wasm_reading_bodies.proofs.Spelled.{has_opcode, not_nesting, nesting_of_plain, nesting_of_list, nesting_of_arms}

-- an instruction within the nesting that is left, by its bytes behind the opcode
abbrev pub IsBehind : ℕ → ℕ → WInstr → List ℕ → Type 0
IsBehind depth opcode w bytes = (nesting w ≤ nesting_limit - depth) × IsInstruction w (opcode ∷ bytes)

-- where no `else` may stand, the end does
pub only_end : (stop : Bool) (bytes : List ℕ) → IsCloser false stop bytes → bytes ≡ 0x0B ∷ []
only_end false bytes p = p
only_end true bytes p = absurd p

-- a block type, a list, the byte behind it and what stands behind that, as bytes
list_bytes : (t : Option ValTy) (close : ℕ) (bytes a b c d inner end rest : List ℕ) → bytes ≡ a ++ b → a ≡ block_type t ∷ [] → b ≡ c ++ d → c ≡ inner ++ end → end ≡ close ∷ [] → d ≡ rest → bytes ≡ block_type t ∷ (inner ++ close ∷ rest)
list_bytes t close bytes a b c d inner end rest e f g h k l =
    e ∙ (λ i. f i ++ g i) ∙ ap (λ (xs : List ℕ). block_type t ∷ (xs ++ d)) (h ∙ ap (λ (xs : List ℕ). inner ++ xs) k)
    ∙ ap (λ (xs : List ℕ). block_type t ∷ xs) (append_assoc inner (close ∷ []) d) ∙ ap (λ (xs : List ℕ). block_type t ∷ (inner ++ close ∷ xs)) l

under_opcode : (o opcode : ℕ) (bytes rest : List ℕ) → o ≡ opcode → bytes ≡ rest → opcode ∷ bytes ≡ o ∷ rest
under_opcode o opcode bytes rest e f = ap (λ (first : ℕ). first ∷ bytes) (sym e) ∙ ap (λ (xs : List ℕ). o ∷ xs) f

-- a block type and a list, behind an opcode
abbrev IsOneList : ℕ → ℕ → WInstr → List ℕ → Type 0
IsOneList depth opcode w bytes =
    (t : Option ValTy) × Joined (IsByte (block_type t)) (λ b. (xs : Listed) × Joined (IsListed false (depth + 1) xs) (IsOf opcode (Body t xs.0) w) b) bytes

one_list : (depth opcode : ℕ) → depth < nesting_limit → (w : WInstr) (bytes : List ℕ) → IsOneList depth opcode w bytes → IsBehind depth opcode w bytes
one_list depth opcode room w bytes p =
    let t = p.0 in
    let q = p.1 in
    let xs = q.second.0 in
    let r = q.second.1 in
    let l = r.first.1 in
    let within = r.first.0 in
    let layer = nesting_of_list w t xs.0 r.second.1 in
    let whole = list_bytes t 0x0B bytes q.front q.back r.front r.back l.front l.back [] q.whole q.first r.whole l.whole (only_end xs.1 l.back l.second) r.second.2 in
    (omega arith, nested t xs.0 l.front r.second.1 l.first (under_opcode (opcode_of w) opcode bytes (block_type t ∷ (l.front ++ 0x0B ∷ [])) r.second.0 whole))

-- an instruction that is spelled by its opcode and its immediates has no opcode of a block, a loop or an if
not_plain : (w : WInstr) (opcode : ℕ) (rest : List ℕ) → is_from_to 0x02 0x04 opcode ≡ true → opcode_of w ≡ opcode → IsImmediate (immediate_of w) rest → ⊥
not_plain w opcode rest n e p =
    let nesting_is : nests (immediate_of w) ≡ true = sym (opcode_nests w) ∙ ap (is_from_to 0x02 0x04) e ∙ n in
    let none_is : nests (immediate_of w) ≡ false = not_nesting (immediate_of w) rest p in
    cc (nesting_is, none_is)

-- an instruction with two lists begins with the opcode of an if
not_two : (w : WInstr) (opcode : ℕ) (t : Option ValTy) (xs ys : List WInstr) → (opcode == 0x04) ≡ false → opcode_of w ≡ opcode → immediate_of w ≡ Bodies t xs ys → ⊥
not_two w opcode t xs ys n e p =
    let is_if : (opcode_of w == 0x04) ≡ true = else_opcode w (ap has_else p) in
    let is_none : (opcode_of w == 0x04) ≡ false = ap (λ (o : ℕ). o == 0x04) e ∙ n in
    cc (is_if, is_none)

one_list_behind : (depth opcode : ℕ) → depth < nesting_limit → is_from_to 0x02 0x04 opcode ≡ true → (opcode == 0x04) ≡ false → (w : WInstr) (bytes : List ℕ) → IsBehind depth opcode w bytes → IsOneList depth opcode w bytes
one_list_behind depth opcode room n m w bytes p = by_form p.1
  where
    same : opcode_of w ≡ opcode
    same = has_opcode w opcode bytes p.1

    by_form : IsInstruction w (opcode ∷ bytes) → IsOneList depth opcode w bytes
    by_form (plain rest q e) = absurd (not_plain w opcode rest n same q)
    by_form (two_arms t xs ys first second q r s e) = absurd (not_two w opcode t xs ys m same q)
    by_form (nested t xs inner q r e) =
        let behind : bytes ≡ block_type t ∷ (inner ++ 0x0B ∷ []) = cc (e) in
        let layer = nesting_of_list w t xs q in
        let within : NestsAtMost (nesting_limit - (depth + 1)) xs = omega (arith, p.0) in
        let closed : IsListed false (depth + 1) (xs, false) (inner ++ 0x0B ∷ []) = (within, record { front = inner; back = 0x0B ∷ []; first = r; second = refl; whole = refl }) in
        (t, record { front = block_type t ∷ []; back = inner ++ 0x0B ∷ []; first = refl; second = ((xs, false), record { front = inner ++ 0x0B ∷ []; back = []; first = closed; second = (same, q, refl); whole = sym (append-nil (inner ++ 0x0B ∷ [])) }); whole = behind })

-- what stands behind the first arm of an if: nothing, or the other arm
abbrev IsOtherArm : ℕ → Option ValTy → Listed → WInstr → List ℕ → Type 0
IsOtherArm depth t (xs, false) w bytes = IsOf 0x04 (Body t xs) w bytes
IsOtherArm depth t (xs, true) w bytes = (ys : Listed) × Joined (IsListed false (depth + 1) ys) (IsOf 0x04 (Bodies t xs ys.0) w) bytes

-- a block type, an arm and the other arm, behind the opcode of an if
abbrev IsIf : ℕ → WInstr → List ℕ → Type 0
IsIf depth w bytes =
    (t : Option ValTy) × Joined (IsByte (block_type t)) (λ b. (xs : Listed) × Joined (IsListed true (depth + 1) xs) (IsOtherArm depth t xs w) b) bytes

if_arms : (depth : ℕ) → depth < nesting_limit → (w : WInstr) (bytes : List ℕ) (t : Option ValTy) (a b c d : List ℕ) → bytes ≡ a ++ b → a ≡ block_type t ∷ [] → b ≡ c ++ d → (xs : Listed) → IsListed true (depth + 1) xs c → IsOtherArm depth t xs w d → IsBehind depth 0x04 w bytes
if_arms depth room w bytes t a b c d e f g (xs, false) p q =
    let l = p.1 in
    let within = p.0 in
    let layer = nesting_of_list w t xs q.1 in
    let whole = list_bytes t 0x0B bytes a b c d l.front l.back [] e f g l.whole l.second q.2 in
    (omega arith, nested t xs l.front q.1 l.first (under_opcode (opcode_of w) 0x04 bytes (block_type t ∷ (l.front ++ 0x0B ∷ [])) q.0 whole))
if_arms depth room w bytes t a b c d e f g (xs, true) p q =
    let ys = q.0 in
    let r = q.1 in
    let l = p.1 in
    let m = r.first.1 in
    let o = r.second in
    let within = p.0 in
    let also = r.first.0 in
    let layer = nesting_of_arms w t xs ys.0 o.1 in
    let closed : m.back ≡ 0x0B ∷ [] = only_end ys.1 m.back m.second in
    let other : d ≡ m.front ++ 0x0B ∷ [] = r.whole ∙ (λ i. r.first.1.whole i ++ o.2 i) ∙ append-nil (m.front ++ m.back) ∙ ap (λ (end : List ℕ). m.front ++ end) closed in
    let whole = list_bytes t 0x05 bytes a b c d l.front l.back (m.front ++ 0x0B ∷ []) e f g l.whole l.second other in
    (omega arith, two_arms t xs ys.0 l.front m.front o.1 l.first m.first (under_opcode (opcode_of w) 0x04 bytes (block_type t ∷ (l.front ++ (0x05 ∷ (m.front ++ 0x0B ∷ [])))) o.0 whole))

if_behind : (depth : ℕ) → depth < nesting_limit → (w : WInstr) (bytes : List ℕ) → IsBehind depth 0x04 w bytes → IsIf depth w bytes
if_behind depth room w bytes p = by_form p.1
  where
    same : opcode_of w ≡ 0x04
    same = has_opcode w 0x04 bytes p.1

    by_form : IsInstruction w (0x04 ∷ bytes) → IsIf depth w bytes
    by_form (plain rest q e) = absurd (not_plain w 0x04 rest refl same q)
    by_form (nested t xs inner q r e) =
        let behind : bytes ≡ block_type t ∷ (inner ++ 0x0B ∷ []) = cc (e) in
        let layer = nesting_of_list w t xs q in
        let within : NestsAtMost (nesting_limit - (depth + 1)) xs = omega (arith, p.0) in
        let closed : IsListed true (depth + 1) (xs, false) (inner ++ 0x0B ∷ []) = (within, record { front = inner; back = 0x0B ∷ []; first = r; second = refl; whole = refl }) in
        let alone : IsOtherArm depth t (xs, false) w [] = (same, q, refl) in
        (t, record { front = block_type t ∷ []; back = inner ++ 0x0B ∷ []; first = refl; second = ((xs, false), record { front = inner ++ 0x0B ∷ []; back = []; first = closed; second = alone; whole = sym (append-nil (inner ++ 0x0B ∷ [])) }); whole = behind })
    by_form (two_arms t xs ys first second q r s e) =
        let behind : bytes ≡ block_type t ∷ (first ++ (0x05 ∷ (second ++ 0x0B ∷ []))) = cc (e) in
        let layer = nesting_of_arms w t xs ys q in
        let within : NestsAtMost (nesting_limit - (depth + 1)) xs = omega (arith, p.0) in
        let also : NestsAtMost (nesting_limit - (depth + 1)) ys = omega (arith, p.0) in
        let open_arm : IsListed true (depth + 1) (xs, true) (first ++ 0x05 ∷ []) = (within, record { front = first; back = 0x05 ∷ []; first = r; second = refl; whole = refl }) in
        let closed : IsListed false (depth + 1) (ys, false) (second ++ 0x0B ∷ []) = (also, record { front = second; back = 0x0B ∷ []; first = s; second = refl; whole = refl }) in
        let other : IsOtherArm depth t (xs, true) w (second ++ 0x0B ∷ []) = ((ys, false), record { front = second ++ 0x0B ∷ []; back = []; first = closed; second = (same, q, refl); whole = sym (append-nil (second ++ 0x0B ∷ [])) }) in
        (t, record { front = block_type t ∷ []; back = first ++ (0x05 ∷ (second ++ 0x0B ∷ [])); first = refl; second = ((xs, true), record { front = first ++ 0x05 ∷ []; back = second ++ 0x0B ∷ []; first = open_arm; second = other; whole = sym (append_assoc first (0x05 ∷ []) (second ++ 0x0B ∷ [])) }); whole = behind })

-- where no nesting is left there is no block, loop or if
too_deep : (depth opcode : ℕ) → nesting_limit ≤ depth → is_from_to 0x02 0x04 opcode ≡ true → (w : WInstr) (bytes : List ℕ) → IsBehind depth opcode w bytes → ⊥
too_deep depth opcode full n w bytes p = by_form p.1
  where
    by_form : IsInstruction w (opcode ∷ bytes) → ⊥
    by_form (plain rest q e) = not_plain w opcode rest n (has_opcode w opcode bytes p.1) q
    by_form (nested t xs inner q r e) =
        let layer = nesting_of_list w t xs q in
        omega (arith, p.0)
    by_form (two_arms t xs ys first second q r s e) =
        let layer = nesting_of_arms w t xs ys q in
        omega (arith, p.0)

-- an instruction that nests none is spelled by its opcode and its immediates
plain_with : (depth opcode : ℕ) (w : WInstr) (bytes : List ℕ) → IsPlainBy opcode (kind_of opcode) w bytes → IsBehind depth opcode w bytes
plain_with depth opcode w bytes p =
    let layer = nesting_of_plain w (not_nesting (immediate_of w) bytes p.2) in
    (omega arith, plain bytes p.2 (under_opcode (opcode_of w) opcode bytes bytes p.1 refl))

plain_behind : (depth opcode : ℕ) → is_from_to 0x02 0x04 opcode ≡ false → (w : WInstr) (bytes : List ℕ) → IsBehind depth opcode w bytes → IsPlainBy opcode (kind_of opcode) w bytes
plain_behind depth opcode n w bytes p = by_form p.1
  where
    same : opcode_of w ≡ opcode
    same = has_opcode w opcode bytes p.1

    nests_none : nests (immediate_of w) ≡ false
    nests_none = sym (opcode_nests w) ∙ ap (is_from_to 0x02 0x04) same ∙ n

    by_form : IsInstruction w (opcode ∷ bytes) → IsPlainBy opcode (kind_of opcode) w bytes
    by_form (plain rest q e) =
        let behind : rest ≡ bytes = cc (e) in
        (sym (opcode_kind w) ∙ ap kind_of same, same, subst (λ (xs : List ℕ). IsImmediate (immediate_of w) xs) behind q)
    by_form (nested t xs inner q r e) =
        let nesting_is : nests (immediate_of w) ≡ true = ap nests q in
        absurd (cc (nesting_is, nests_none))
    by_form (two_arms t xs ys first second q r s e) =
        let nesting_is : nests (immediate_of w) ≡ true = ap nests q in
        absurd (cc (nesting_is, nests_none))

module _ (room : Option ℕ) (list : Bool → ℕ → Reader Listed) (lists : (with_else : Bool) (depth : ℕ) → ExactIn room (list with_else depth) (IsListed with_else depth)) where
  -- a block, a loop, or what has their form
  one_list_exact : (depth place opcode : ℕ) → depth < nesting_limit → is_from_to 0x02 0x04 opcode ≡ true → (opcode == 0x04) ≡ false → ExactIn room (nested_at place opcode (list false (depth + 1))) (IsBehind depth opcode)
  one_list_exact depth place opcode deep n m =
      alike
      (followed (λ t. list false (depth + 1) >>= λ xs. made place (instruction_at opcode (Body t xs.0)))
      (λ t w bytes. (xs : Listed) × Joined (IsListed false (depth + 1) xs) (IsOf opcode (Body t xs.0) w) bytes)
      (in_room room block_type_byte)
      (λ t. followed (λ xs. made place (instruction_at opcode (Body t xs.0))) (λ xs w bytes. IsOf opcode (Body t xs.0) w bytes) (lists false (depth + 1)) (λ xs. made_instruction place opcode (Body t xs.0))))
      (one_list depth opcode deep) (one_list_behind depth opcode deep n m)

  other_arm_exact : (depth place : ℕ) (t : Option ValTy) (xs : Listed) → ExactIn room (other_arm_at place t xs (list false (depth + 1))) (λ w bytes. IsOtherArm depth t xs w bytes)
  other_arm_exact depth place t (xs, false) = made_instruction place 0x04 (Body t xs)
  other_arm_exact depth place t (xs, true) =
      followed (λ ys. made place (instruction_at 0x04 (Bodies t xs ys.0))) (λ ys w bytes. IsOf 0x04 (Bodies t xs ys.0) w bytes) (lists false (depth + 1)) (λ ys. made_instruction place 0x04 (Bodies t xs ys.0))

  -- an if
  if_exact : (depth place : ℕ) → depth < nesting_limit → ExactIn room (if_at place (list true (depth + 1)) (list false (depth + 1))) (IsBehind depth 0x04)
  if_exact depth place deep =
      alike
      (followed (λ t. list true (depth + 1) >>= λ xs. other_arm_at place t xs (list false (depth + 1)))
      (λ t w bytes. (xs : Listed) × Joined (IsListed true (depth + 1) xs) (IsOtherArm depth t xs w) bytes)
      (in_room room block_type_byte)
      (λ t. followed (λ xs. other_arm_at place t xs (list false (depth + 1))) (λ xs w bytes. IsOtherArm depth t xs w bytes) (lists true (depth + 1)) (other_arm_exact depth place t)))
      (λ w bytes p.
      let q = p.1 in
      let r = q.second.1 in
      if_arms depth deep w bytes p.0 q.front q.back r.front r.back q.whole q.first r.whole q.second.0 r.first r.second)
      (if_behind depth deep)

  -- an instruction that nests none
  plain_exact : (depth place opcode : ℕ) → is_from_to 0x02 0x04 opcode ≡ false → ExactIn room (plain_at place opcode (kind_of opcode)) (IsBehind depth opcode)
  plain_exact depth place opcode n =
      alike (in_room room (plain_by place opcode (kind_of opcode))) (plain_with depth opcode) (plain_behind depth opcode n)

  -- an instruction, behind its opcode
  pub instruction_exact : (depth place opcode : ℕ) → ExactIn room (instruction_from list depth place opcode) (IsBehind depth opcode)
  instruction_exact depth place opcode =
      branch (is_from_to 0x02 0x04 opcode) _ (plain_at place opcode (kind_of opcode)) (IsBehind depth opcode)
      (λ n. branch (nat_le nesting_limit depth) (fail LimitOutside place) _ (IsBehind depth opcode)
      (λ l. failing LimitOutside place (IsBehind depth opcode) (too_deep depth opcode (leb-true nesting_limit depth l) n))
      (λ l.
      let deep = leb-false nesting_limit depth l in
      branch (opcode == 0x04) (if_at place (list true (depth + 1)) (list false (depth + 1))) (nested_at place opcode (list false (depth + 1))) (IsBehind depth opcode)
      (λ m. subst (λ (o : ℕ). ExactIn room (if_at place (list true (depth + 1)) (list false (depth + 1))) (IsBehind depth o)) (sym (eqb-true opcode 0x04 m)) (if_exact depth place deep))
      (λ m. one_list_exact depth place opcode deep n m)))
      (λ n. plain_exact depth place opcode n)
