-- Memories of bytes: what is read of them is within its width, and what is written leaves bytes.
use Rattle.std.proofs.Common.{◌≡◌, ℕ, zero, suc, ◌+◌, ◌-◌, ◌*◌, ◌/◌, ◌%◌, ◌^◌, ◌<◌, ◌≤◌, Bool, true, false, List, [], ◌∷◌, ◌++◌, length, take, drop, sym, subst, arith}
use Rattle.std.specs.Prelude.{All, nat_lt, cond}
use Rattle.std.proofs.lemmas.List.{length-take}
use Rattle.std.proofs.lemmas.List.Elements.{All-append, All-take, All-drop, All-replicate}
use Rattle.std.proofs.lemmas.Nat.{pow_pos, pow-add}
use Rattle.wasm_num.specs.Widths.{IsWithin, modulus}
use Rattle.wasm_ast.specs.declared.types.ValTy.{ValTy}
use Rattle.wasm_ast.specs.declared.types.ValTy.TheVariants.{I32, I64}
use Rattle.wasm_ast.specs.declared.operation.Access.{Access}
use Rattle.wasm_ast.specs.Operations.{log_bytes}
use Rattle.memory_words.specs.Memories.{little_endian, number_of, zeros, put, read, write}
use Rattle.wasm_execution.specs.Types.{width_of}
use Rattle.wasm_execution.specs.Memories.{with_sign_of, loaded}

abbrev pub AreBytes : List ℕ → Type 0
AreBytes = All (λ (b : ℕ). b < 256)

number-within : (bs : List ℕ) (n : ℕ) → AreBytes bs → length bs ≤ n → number_of bs < 2 ^ (8 * n)
number-within [] n h le = pow_pos (8 * n)
number-within (b ∷ bs) zero h le = absurd (omega (arith, le))
number-within (b ∷ bs) (suc n) h le =
    let first = h 0 0 (omega arith) in
    let others = number-within bs n (λ k d lt. h (suc k) d (omega (arith, lt))) (omega (arith, le)) in
    let p = pow-add 2 (8 * n) 8 in
    let q : 8 * suc n ≡ 8 * n + 8 = omega arith in
    let goal : b + 256 * number_of bs < 2 ^ (8 * n) * 256 = omega (arith, first, others) in
    subst (λ (k : ℕ). b + 256 * number_of bs < 2 ^ k) (sym q) (subst (λ (k : ℕ). b + 256 * number_of bs < k) (sym p) goal)

pub read-within : (k : ℕ) (m : List ℕ) (a : ℕ) → AreBytes m → read k m a < 2 ^ (8 * k)
unfolding read
read-within k m a h =
    let l = length-take k (drop a m) in
    number-within (take k (drop a m)) k (All-take (λ (b : ℕ). b < 256) k (drop a m) (All-drop (λ (b : ℕ). b < 256) a m h)) (omega (arith, l))

wide : (t : ValTy) (k : ℕ) → k ≤ log_bytes t → 2 ^ (8 * 2 ^ k) ≤ modulus (width_of t)
wide I32 zero le = omega arith
wide I32 (suc zero) le = omega arith
wide I32 (suc (suc zero)) le = omega arith
wide I32 (suc (suc (suc k))) le = absurd (omega (arith, le))
wide I64 zero le = omega arith
wide I64 (suc zero) le = omega arith
wide I64 (suc (suc zero)) le = omega arith
wide I64 (suc (suc (suc zero))) le = omega arith
wide I64 (suc (suc (suc (suc k)))) le = absurd (omega (arith, le))

sign-within : (b : Bool) (m p n : ℕ) → p ≤ m → n < p → cond b n (n + (m - p)) < m
sign-within true m p n le lt = omega (arith, le, lt)
sign-within false m p n le lt = omega (arith, le, lt)

extended-within : (b : Bool) (m p n x : ℕ) → p ≤ m → n < p → x < m → cond b x n < m
extended-within true m p n x le lt lx = lx
extended-within false m p n x le lt lx = omega (arith, le, lt)

pub loaded-within : (t : ValTy) (access : Access) (n : ℕ) → access.log_width ≤ log_bytes t → n < 2 ^ (8 * 2 ^ access.log_width) → IsWithin (width_of t) (loaded t access n)
loaded-within t access n le lt =
    let bits = 8 * 2 ^ access.log_width in
    let w = wide t access.log_width le in
    extended-within access.signed (modulus (width_of t)) (2 ^ bits) n (with_sign_of bits (width_of t) n) w lt
    (sign-within (nat_lt n (2 ^ (bits - 1))) (modulus (width_of t)) (2 ^ bits) n w lt)

bytes-low : (k v : ℕ) → AreBytes (little_endian k v)
bytes-low zero v = λ j d lt. absurd (omega (arith, lt))
bytes-low (suc k) v = All-append (λ (b : ℕ). b < 256) (v % 256 ∷ []) (little_endian k (v / 256)) (λ j d lt. first j d lt) (bytes-low k (v / 256))
  where
    first : (j d : ℕ) → j < 1 → Rattle.std.specs.Prelude.slice_index_or (v % 256 ∷ []) j d < 256
    first zero d lt = omega arith
    first (suc j) d lt = absurd (omega (arith, lt))

pub bytes-write : (k : ℕ) (m : List ℕ) (a v : ℕ) → AreBytes m → AreBytes (write k m a v)
unfolding write put
bytes-write k m a v h =
    All-append (λ (b : ℕ). b < 256) (take a m) (little_endian k v ++ drop (a + length (little_endian k v)) m) (All-take (λ (b : ℕ). b < 256) a m h)
    (All-append (λ (b : ℕ). b < 256) (little_endian k v) (drop (a + length (little_endian k v)) m) (bytes-low k v) (All-drop (λ (b : ℕ). b < 256) (a + length (little_endian k v)) m h))

pub bytes-more : (m : List ℕ) (n : ℕ) → AreBytes m → AreBytes (m ++ zeros n)
unfolding zeros
bytes-more m n h = All-append (λ (b : ℕ). b < 256) m _ h (All-replicate (λ (b : ℕ). b < 256) n 0 (omega arith))
