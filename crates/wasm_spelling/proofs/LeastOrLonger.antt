-- Bytes that are the least ones or more than these: of two lists joined, and of spellings of numbers.
use Rattle.std.proofs.Common.{◌≡◌, ◌∙◌, ℕ, zero, suc, ◌+◌, ◌-◌, ◌*◌, ◌/◌, ◌%◌, ◌<◌, ◌≤◌, List, [], ◌∷◌, ◌++◌, ◌⊎◌, length, inl, inr, refl, sym, ap, arith, subst, min, length-append}
use Rattle.std.proofs.lemmas.Bool.{cases_lt}
use Rattle.wasm_leb.specs.Leb.{IsUnsignedEnd, IsSignedEnd, IsLeb, unsigned_least, signed_least}
use Rattle.wasm_leb.proofs.Least.{unsigned_last, unsigned_more, signed_last, signed_negative, signed_more}

-- the bytes are the least ones, or there are more of them
abbrev pub IsLeastOrLonger : List ℕ → List ℕ → Type 0
IsLeastOrLonger least bytes = (bytes ≡ least) ⊎ (length least < length bytes)

pub not_shorter : (least bytes : List ℕ) → IsLeastOrLonger least bytes → length least ≤ length bytes
not_shorter least bytes (inl h) = let e : length bytes ≡ length least = ap length h in omega (arith, e)
not_shorter least bytes (inr h) = omega arith

-- the same of equal lists
pub alike : (least bytes least' bytes' : List ℕ) → least ≡ least' → bytes ≡ bytes' → IsLeastOrLonger least' bytes' → IsLeastOrLonger least bytes
alike least bytes least' bytes' e f (inl h) = inl (f ∙ h ∙ sym e)
alike least bytes least' bytes' e f (inr h) =
    let a : length least ≡ length least' = ap length e in
    let b : length bytes ≡ length bytes' = ap length f in
    inr (omega (arith, a, b))

-- two lists joined
pub both : (a b front back : List ℕ) → IsLeastOrLonger a front → IsLeastOrLonger b back → IsLeastOrLonger (a ++ b) (front ++ back)
both a b front back (inl p) (inl q) = inl (λ i. p i ++ q i)
both a b front back (inl p) (inr q) =
    let e : length front ≡ length a = ap length p in
    inr (omega (arith, e, length-append a b, length-append front back))
both a b front back (inr p) q =
    let h = not_shorter b back q in
    inr (omega (arith, h, length-append a b, length-append front back))

-- the same bytes in front, and behind
pub behind : (front least bytes : List ℕ) → IsLeastOrLonger least bytes → IsLeastOrLonger (front ++ least) (front ++ bytes)
behind front least bytes h = both front least front bytes (inl refl) h

pub before : (back least bytes : List ℕ) → IsLeastOrLonger least bytes → IsLeastOrLonger (least ++ back) (bytes ++ back)
before back least bytes h = both least back bytes back h (inl refl)

-- no bytes are fewer than none
pub none_or_some : (bytes : List ℕ) → IsLeastOrLonger [] bytes
none_or_some [] = inl refl
none_or_some (b ∷ bs) = inr (omega arith)

pred : (k : ℕ) → suc k - 1 ≡ k
pred k = omega arith

rest_is : (b m n : ℕ) → 128 ≤ b → b < 256 → n + 128 ≡ b + 128 * m → m ≡ n / 128
rest_is b m n l h e = omega arith

byte_is : (b m n : ℕ) → 128 ≤ b → b < 256 → n + 128 ≡ b + 128 * m → b ≡ n % 128 + 128
byte_is b m n l h e = omega arith

some_bytes : (End : ℕ → ℕ → ℕ → Type 0) (limit : ℕ) (bytes : List ℕ) (n : ℕ) → IsLeb End limit bytes n → 0 < length bytes
some_bytes End limit [] n p = absurd p
some_bytes End limit (b ∷ bs) n p = omega arith

-- where the last byte of a number can only be `c`
one_byte : (End : ℕ → ℕ → ℕ → Type 0) (limit b : ℕ) (bs : List ℕ) (n c : ℕ) → (End limit b n → b ≡ c) → IsLeb End limit (b ∷ bs) n → IsLeastOrLonger (c ∷ []) (b ∷ bs)
one_byte End limit b bs n c is p =
    elim p [
      | inl u ↦ let e : b ≡ c = is u.0 in let f : bs ≡ [] = u.1 in inl (λ i. e i ∷ f i)
      | inr u ↦ let s = some_bytes End (limit / 128) bs u.3 u.5 in inr (omega (arith, s))
    ]

-- a byte that more bytes follow
more_bytes : (b : ℕ) (bs least : List ℕ) (n : ℕ) → b ≡ n % 128 + 128 → IsLeastOrLonger least bs → IsLeastOrLonger ((n % 128 + 128) ∷ least) (b ∷ bs)
more_bytes b bs least n e (inl h) = inl (λ i. e i ∷ h i)
more_bytes b bs least n e (inr h) = inr (omega arith)

pub unsigned_least_or_longer : (k limit : ℕ) (bytes : List ℕ) (n : ℕ) → IsLeb IsUnsignedEnd limit bytes n → IsLeastOrLonger (unsigned_least k n) bytes
unsigned_least_or_longer k limit [] n p = absurd p
unsigned_least_or_longer zero limit (b ∷ bs) n p = inr (omega arith)
unsigned_least_or_longer (suc k) limit (b ∷ bs) n p =
    elim (cases_lt n 128) [
      | inl l ↦
          alike (unsigned_least (suc k) n) (b ∷ bs) (n ∷ []) (b ∷ bs) (unsigned_last (suc k) n (omega arith) l) refl
          (one_byte IsUnsignedEnd limit b bs n n (λ (e : IsUnsignedEnd limit b n). sym e.2) p)
      | inr l ↦ elim p [
        | inl u ↦ absurd (omega (arith, u.0))
        | inr u ↦
            let f : u.3 ≡ n / 128 = rest_is b u.3 n u.0 u.1 u.4 in
            let r = unsigned_least_or_longer k (limit / 128) bs (n / 128) (subst (λ (m : ℕ). IsLeb IsUnsignedEnd (limit / 128) bs m) f u.5) in
            let e = unsigned_more (suc k) n (omega arith) l ∙ ap (λ j. (n % 128 + 128) ∷ unsigned_least j (n / 128)) (pred k) in
            alike (unsigned_least (suc k) n) (b ∷ bs) ((n % 128 + 128) ∷ unsigned_least k (n / 128)) (b ∷ bs) e refl
            (more_bytes b bs (unsigned_least k (n / 128)) n (byte_is b u.3 n u.0 u.1 u.4) r)
      ]
    ]

low_byte : (limit b n : ℕ) → 2 * n < min 128 limit → IsSignedEnd limit b n → b ≡ n
low_byte limit b n l (inl u) = omega arith
low_byte limit b n l (inr u) = absurd (omega arith)

high_byte : (limit b n : ℕ) → min 128 limit ≤ 2 * n → limit ≤ n + 64 → IsSignedEnd limit b n → b ≡ n + 128 - limit
high_byte limit b n l m (inl u) = absurd (omega arith)
high_byte limit b n l m (inr u) = omega arith

pub signed_least_or_longer : (k limit : ℕ) (bytes : List ℕ) (n : ℕ) → IsLeb IsSignedEnd limit bytes n → IsLeastOrLonger (signed_least k limit n) bytes
signed_least_or_longer k limit [] n p = absurd p
signed_least_or_longer zero limit (b ∷ bs) n p = inr (omega arith)
signed_least_or_longer (suc k) limit (b ∷ bs) n p =
    elim (cases_lt (2 * n) (min 128 limit)) [
      | inl l ↦
          alike (signed_least (suc k) limit n) (b ∷ bs) (n ∷ []) (b ∷ bs) (signed_last (suc k) limit n (omega arith) l) refl
          (one_byte IsSignedEnd limit b bs n n (low_byte limit b n l) p)
      | inr l ↦ elim (cases_lt (n + 64) limit) [
        | inr m ↦
            alike (signed_least (suc k) limit n) (b ∷ bs) ((n + 128 - limit) ∷ []) (b ∷ bs) (signed_negative (suc k) limit n (omega arith) l m) refl
            (one_byte IsSignedEnd limit b bs n (n + 128 - limit) (high_byte limit b n l m) p)
        | inl m ↦ elim p [
          | inl u ↦ elim u.0 [ inl v ↦ absurd (omega arith) | inr v ↦ absurd (omega arith) ]
          | inr u ↦
              let f : u.3 ≡ n / 128 = rest_is b u.3 n u.0 u.1 u.4 in
              let r = signed_least_or_longer k (limit / 128) bs (n / 128) (subst (λ (q : ℕ). IsLeb IsSignedEnd (limit / 128) bs q) f u.5) in
              let e = signed_more (suc k) limit n (omega arith) l m ∙ ap (λ j. (n % 128 + 128) ∷ signed_least j (limit / 128) (n / 128)) (pred k) in
              alike (signed_least (suc k) limit n) (b ∷ bs) ((n % 128 + 128) ∷ signed_least k (limit / 128) (n / 128)) (b ∷ bs) e refl
              (more_bytes b bs (signed_least k (limit / 128) (n / 128)) n (byte_is b u.3 n u.0 u.1 u.4) r)
        ]
      ]
    ]

least_some : (k n : ℕ) → 0 < length (unsigned_least (suc k) n)
least_some k n =
    elim (cases_lt n 128) [
      | inl l ↦ rw (unsigned_last (suc k) n (omega arith) l) (omega arith)
      | inr l ↦ rw (unsigned_more (suc k) n (omega arith) l) (omega arith)
    ]

-- a number that is not greater has no longer a least spelling
pub unsigned_rises : (k m n : ℕ) → m ≤ n → length (unsigned_least k m) ≤ length (unsigned_least k n)
unsigned_rises zero m n h = omega arith
unsigned_rises (suc k) m n h =
    elim (cases_lt m 128) [
      | inl l ↦ let s = least_some k n in rw (unsigned_last (suc k) m (omega arith) l) (omega (arith, s))
      | inr l ↦
          let r = unsigned_rises k (m / 128) (n / 128) (omega arith) in
          let large : 128 ≤ n = omega arith in
          rw (unsigned_more (suc k) m (omega arith) l, unsigned_more (suc k) n (omega arith) large, pred k) (omega arith)
    ]
