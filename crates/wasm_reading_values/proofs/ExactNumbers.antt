-- A byte, a byte of a table and a number in LEB128 are read exactly. Numbers go by induction on the most bytes, along
-- the chain of limits.
use Rattle.std.proofs.Common.{◌≡◌, ◌∙◌, ℕ, zero, suc, ◌+◌, ◌-◌, ◌*◌, ◌/◌, ◌^◌, ◌<◌, ◌≤◌, Bool, true, false, List, [], ◌∷◌, ◌++◌, length, refl, sym, ap, subst, arith, inl, inr, Option, Some, None, Result, Ok, Err}
use Rattle.std.specs.Prelude.{if◌then◌else◌, ◌⊎◌, nat_lt, nat_le, ◌==◌}
use Rattle.std.proofs.lemmas.Bool.{ltb-true, ltb-false, leb-true, eqb-true, cond-true, cond-false, eq-eqb, ne_eqb, lt-ltb, le-ltb, le-leb}
use Rattle.std.proofs.lemmas.List.Elements.{All-head}
use Rattle.wasm_leb.specs.Leb.{IsUnsignedEnd, IsSignedEnd, IsLeb}
use Rattle.wasm_leb.proofs.Spelled.{IsChain, chain32, chain64}
use Rattle.wasm_grammar.specs.GrammarValues.{Joined, ◌followed_by◌, IsByte, IsUnsigned, IsSigned32, IsSigned64}
use Rattle.wasm_reading.specs.declared.fault.DecodeError.{DecodeError}
use Rattle.wasm_reading.specs.declared.fault.DecodeFault.{DecodeFault}
use Rattle.wasm_reading.specs.declared.fault.DecodeFault.TheVariants.{BadLeb, BadTag}
use Rattle.wasm_reading.specs.Readers.{IsWithin, Input, Reader, ◌>>=◌, give, fail, is_at_end, first_byte, byte_at}
use Rattle.wasm_reading.specs.ReadValues.{unsigned_end, signed_end, number_or, number_at, u32_at, s32_at, s64_at, tagged, tag_at, only}
use Rattle.wasm_reading_values.specs.Exactness.{AreBytes, Took, ExactIn, Exact}
use Rattle.wasm_reading_values.proofs.Compose.{read_one, read_same, same_input, took_so, alike, giving, failing, branch, placed, followed, in_room, made}

-- the first byte, by the parts of an input
first_of : (at : ℕ) (end : Option ℕ) (rest : List ℕ) (behind : Input) (b : ℕ) → first_byte at end rest ≡ Ok (b, behind) → Took (λ bytes. bytes ≡ b ∷ []) (record { at = at; end = end; rest = rest }) behind
first_of at end [] behind b e = absurd (cc)
first_of at end (c ∷ rest) behind b e =
    let same = read_one c b (record { at = at + 1; end = end; rest = rest }) behind e in
    record {
      front = b ∷ [];
      holds = refl;
      whole = λ i. same.0 i ∷ (same.1 i).rest;
      place = ap (λ (i : Input). i.at) (sym same.1);
      same_end = ap (λ (i : Input). i.end) (sym same.1);
    }

-- reading does not stand at an end that is further on
not_at_end : (at : ℕ) (end : Option ℕ) (rest : List ℕ) → IsWithin (at + 1) end → is_at_end (record { at = at; end = end; rest = rest }) ≡ false
not_at_end at None rest h = refl
not_at_end at (Some end) rest h = ne_eqb at end (λ e. omega arith)

byte_sound : (stop : Bool) (fault : DecodeError) (input behind : Input) (b : ℕ) → (if stop then Err fault else first_byte input.at input.end input.rest) ≡ Ok (b, behind) → Took (IsByte b) input behind
byte_sound true fault input behind b e = absurd (cc)
byte_sound false fault input behind b e = first_of input.at input.end input.rest behind b e

-- a byte, as it stands
pub one_byte : Exact byte_at IsByte
one_byte = record {
  sound = λ input behind b h e. byte_sound (is_at_end input) _ input behind b e;
  complete = λ input behind b t h r.
      let bytes : t.front ≡ b ∷ [] = t.holds in
      let whole : input.rest ≡ b ∷ behind.rest = t.whole ∙ ap (λ (front : List ℕ). front ++ behind.rest) bytes in
      let size : length t.front ≡ 1 = ap length bytes in
      let place : behind.at ≡ input.at + 1 = omega (arith, t.place, size) in
      let later : IsWithin (input.at + 1) input.end = subst (λ (end : Option ℕ). IsWithin (input.at + 1) end) t.same_end (subst (λ (at : ℕ). IsWithin at behind.end) place h) in
      cond-false (is_at_end input) _ (first_byte input.at input.end input.rest) (not_at_end input.at input.end input.rest later)
      ∙ ap (λ (rest : List ℕ). first_byte input.at input.end rest) whole
      ∙ read_same b b (record { at = input.at + 1; end = input.end; rest = behind.rest }) behind refl (same_input _ behind (sym place) (sym t.same_end) refl);
}

-- a byte, and that it is one
pub raw_byte : Exact byte_at (λ b bytes. (b < 256) × IsByte b bytes)
raw_byte = record {
  sound = λ input behind b h e.
      let t = one_byte.sound input behind b h e in
      let whole : input.rest ≡ b ∷ behind.rest = t.whole ∙ ap (λ (front : List ℕ). front ++ behind.rest) t.holds in
      let below : b < 256 = All-head (λ b. b < 256) b behind.rest (subst AreBytes whole h) in
      took_so t (λ bytes p. (below, p));
  complete = λ input behind b t h r. one_byte.complete input behind b (took_so t (λ bytes p. p.1)) h r;
}

-- a byte that stands for a value, where the table gives each value for its own byte and for no other
pub tag : {A : Type 0} (of : ℕ → Result A DecodeFault) (code : A → ℕ) → ((a : A) → of (code a) ≡ Ok a) → ((b : ℕ) (a : A) → of b ≡ Ok a → b ≡ code a) → Exact (tag_at of) (λ a bytes. IsByte (code a) bytes)
tag {A} of code gives only =
    placed (λ place. byte_at >>= λ b. tagged place (of b)) _ (λ place.
    alike (followed (λ b. tagged place (of b)) (λ b a bytes. (of b ≡ Ok a) × (bytes ≡ [])) one_byte (λ b. tagged_one place (of b)))
    (λ a bytes p. p.1.whole ∙ (λ i. p.1.first i ++ p.1.second.1 i) ∙ ap (λ (b : ℕ). b ∷ []) (only p.0 a p.1.second.0))
    (λ a bytes p. (code a, record { front = code a ∷ []; back = []; first = refl; second = (gives a, refl); whole = p })))
  where
    tagged_one : (place : ℕ) (r : Result A DecodeFault) → Exact (tagged place r) (λ a bytes. (r ≡ Ok a) × (bytes ≡ []))
    tagged_one place (Ok v) = alike (giving v) (λ a bytes p. ((λ i. Ok (sym p.0 i)), p.1)) (λ a bytes p. (cc, p.1))
    tagged_one place (Err fault) = failing fault place _ (λ a bytes p. absurd (cc))

-- what a reader makes of a last byte is what it is the last byte of
pub record IsEndOf (end_of : ℕ → ℕ → Option ℕ) (End : ℕ → ℕ → ℕ → Type 0) : Type 0 where
  pub gives : (limit b n : ℕ) → b < 128 → end_of limit b ≡ Some n → End limit b n
  pub given : (limit b n : ℕ) → End limit b n → (b < 128) × (end_of limit b ≡ Some n)

-- what stands behind the first byte of a number: nothing, or a spelling of the rest
abbrev Behind : (ℕ → ℕ → ℕ → Type 0) → ℕ → ℕ → ℕ → List ℕ → Type 0
Behind End limit b n bytes =
    ((b < 128) × End limit b n × (bytes ≡ [])) ⊎ ((128 ≤ b) × (128 < limit) × (m : ℕ) × (n + 128 ≡ b + 128 * m) × IsLeb End (limit / 128) bytes m)

to_leb : (End : ℕ → ℕ → ℕ → Type 0) (limit b n : ℕ) (back : List ℕ) → b < 256 → Behind End limit b n back → IsLeb End limit (b ∷ back) n
to_leb End limit b n back h p = elim p [ inl u ↦ inl (u.1, u.2) | inr u ↦ inr (u.0, h, u.1, u.2, u.3, u.4) ]

from_leb : (end_of : ℕ → ℕ → Option ℕ) (End : ℕ → ℕ → ℕ → Type 0) → IsEndOf end_of End → (limit n : ℕ) (bytes : List ℕ) → IsLeb End limit bytes n → (b : ℕ) × Joined (λ front. (b < 256) × IsByte b front) (Behind End limit b n) bytes
from_leb end_of End k limit n [] p = absurd p
from_leb end_of End k limit n (b ∷ bs) p =
    let below : b < 256 = elim p [ inl u ↦ omega (arith, (k.given limit b n u.0).0) | inr u ↦ u.1 ] in
    let second : Behind End limit b n bs = elim p [ inl u ↦ inl ((k.given limit b n u.0).0, u.0, u.1) | inr u ↦ inr (u.0, u.2, u.3, u.4, u.5) ] in
    (b, record { front = b ∷ []; back = bs; first = (below, refl); second = second; whole = refl })

number_or_one : (place : ℕ) (o : Option ℕ) → Exact (number_or place o) (λ n bytes. (o ≡ Some n) × (bytes ≡ []))
number_or_one place None = failing BadLeb place _ (λ n bytes p. absurd (cc))
number_or_one place (Some m) = alike (giving m) (λ n bytes p. ((λ i. Some (sym p.0 i)), p.1)) (λ n bytes p. (cc, p.1))

-- a last byte
low : (end_of : ℕ → ℕ → Option ℕ) (End : ℕ → ℕ → ℕ → Type 0) → IsEndOf end_of End → (limit b place : ℕ) → b < 128 → Exact (number_or place (end_of limit b)) (Behind End limit b)
low end_of End k limit b place h =
    alike (number_or_one place (end_of limit b))
    (λ n bytes p. inl (h, k.gives limit b n h p.0, p.1))
    (λ n bytes p. elim p [ inl u ↦ ((k.given limit b n u.1).1, u.2) | inr u ↦ absurd (omega (arith, u.0)) ])

-- a byte that is followed by the rest
high : (end_of : ℕ → ℕ → Option ℕ) (End : ℕ → ℕ → ℕ → Type 0) (most limit b place : ℕ) → 128 ≤ b → (128 < limit → Exact (number_at end_of most (limit / 128)) (λ n bytes. IsLeb End (limit / 128) bytes n)) → Exact (if nat_lt 128 limit then (number_at end_of most (limit / 128) >>= λ m. give (b - 128 + 128 * m)) else fail BadLeb place) (Behind End limit b)
high end_of End most limit b place h rest =
    branch (nat_lt 128 limit) _ (fail BadLeb place) _
    (λ e.
    let wide = ltb-true 128 limit e in
    alike (made (λ m. b - 128 + 128 * m) (rest wide))
    (λ n bytes p. inr (h, wide, p.0, omega (arith, p.1), p.2))
    (λ n bytes p. elim p [ inl u ↦ absurd (omega (arith, u.0)) | inr u ↦ (u.2, omega (arith, u.3), u.4) ]))
    (λ e. failing BadLeb place _ (λ n bytes p.
    elim p [ inl u ↦ absurd (omega (arith, u.0)) | inr u ↦ absurd (omega (arith, ltb-false 128 limit e, u.1)) ]))

number_step : (end_of : ℕ → ℕ → Option ℕ) (End : ℕ → ℕ → ℕ → Type 0) → IsEndOf end_of End → (most limit : ℕ) → (128 < limit → Exact (number_at end_of most (limit / 128)) (λ n bytes. IsLeb End (limit / 128) bytes n)) → Exact (number_at end_of (suc most) limit) (λ n bytes. IsLeb End limit bytes n)
number_step end_of End k most limit rest =
    placed _ _ (λ place.
    alike (followed _ (λ b n bytes. Behind End limit b n bytes) raw_byte (λ b.
    branch (nat_lt b 128) (number_or place (end_of limit b)) _ _
    (λ e. low end_of End k limit b place (ltb-true b 128 e))
    (λ e. high end_of End most limit b place (ltb-false b 128 e) rest)))
    (λ n bytes p.
    let q = p.1 in
    let whole : bytes ≡ p.0 ∷ q.back = q.whole ∙ ap (λ (front : List ℕ). front ++ q.back) q.first.1 in
    subst (λ (xs : List ℕ). IsLeb End limit xs n) (sym whole) (to_leb End limit p.0 n q.back q.first.0 q.second))
    (λ n bytes p. from_leb end_of End k limit n bytes p))

pub number : (end_of : ℕ → ℕ → Option ℕ) (End : ℕ → ℕ → ℕ → Type 0) → IsEndOf end_of End → (most limit : ℕ) → IsChain most limit → Exact (number_at end_of (suc most) limit) (λ n bytes. IsLeb End limit bytes n)
number end_of End k zero limit c = number_step end_of End k zero limit (λ h. absurd (omega (arith, c)))
number end_of End k (suc most) limit c = number_step end_of End k (suc most) limit (λ h. number end_of End k most (limit / 128) c.2)

some_if : (test : Bool) (v n : ℕ) → ◌≡◌ {A = Option ℕ} (if test then Some v else None) (Some n) → (test ≡ true) × (v ≡ n)
some_if true v n e = (refl, cc)
some_if false v n e = absurd (cc)

unsigned_ends : IsEndOf unsigned_end IsUnsignedEnd
unsigned_ends = record {
  gives = λ limit b n h e.
      let s = some_if (nat_lt b limit) b n e in
      (h, ltb-true b limit s.0, sym s.1);
  given = λ limit b n p.
      (p.0, cond-true (nat_lt b limit) (Some b) None (lt-ltb b limit p.1) ∙ ap (λ (m : ℕ). Some m) (sym p.2));
}

signed_gives : (low : Bool) (limit b n : ℕ) → nat_lt b 64 ≡ low → b < 128 → ◌≡◌ {A = Option ℕ} (if low then (if nat_lt (2 * b) limit then Some b else None) else (if nat_le 256 (2 * b + limit) then Some (b + limit - 128) else None)) (Some n) → IsSignedEnd limit b n
signed_gives true limit b n l h e =
    let s = some_if (nat_lt (2 * b) limit) b n e in
    inl (ltb-true b 64 l, ltb-true (2 * b) limit s.0, sym s.1)
signed_gives false limit b n l h e =
    let s = some_if (nat_le 256 (2 * b + limit)) (b + limit - 128) n e in
    let negative : 64 ≤ b = ltb-false b 64 l in
    let wide : 256 ≤ 2 * b + limit = leb-true 256 (2 * b + limit) s.0 in
    let value : n ≡ b + limit - 128 = sym s.1 in
    inr (negative, h, wide, omega arith)

signed_given : (limit b n : ℕ) → IsSignedEnd limit b n → (b < 128) × (signed_end limit b ≡ Some n)
signed_given limit b n (inl p) =
    let below : b < 128 = omega (arith, p.0) in
    (below, cond-true (nat_lt b 64) _ _ (lt-ltb b 64 p.0) ∙ cond-true (nat_lt (2 * b) limit) (Some b) None (lt-ltb (2 * b) limit p.1) ∙ ap (λ (m : ℕ). Some m) (sym p.2))
signed_given limit b n (inr p) =
    let value : b + limit - 128 ≡ n = omega (arith, p.2, p.3, p.1) in
    (p.1, cond-false (nat_lt b 64) _ _ (le-ltb b 64 p.0) ∙ cond-true (nat_le 256 (2 * b + limit)) (Some (b + limit - 128)) None (le-leb 256 (2 * b + limit) p.2) ∙ ap (λ (m : ℕ). Some m) value)

signed_ends : IsEndOf signed_end IsSignedEnd
signed_ends = record { gives = λ limit b n h e. signed_gives (nat_lt b 64) limit b n refl h e; given = signed_given }

-- a u32
pub u32 : Exact u32_at IsUnsigned
u32 = number unsigned_end IsUnsignedEnd unsigned_ends 4 (2 ^ 32) chain32

-- an s32
pub s32 : Exact s32_at IsSigned32
s32 = number signed_end IsSignedEnd signed_ends 4 (2 ^ 32) chain32

-- an s64
pub s64 : Exact s64_at IsSigned64
s64 = number signed_end IsSignedEnd signed_ends 9 (2 ^ 64) chain64

-- the one byte that is wanted
pub only_byte : (wanted : ℕ) → Exact (tag_at (only wanted)) (λ a bytes. IsByte wanted bytes)
only_byte wanted =
    tag (only wanted) (λ a. wanted)
    (λ a. cond-true (wanted == wanted) (Ok tt) (Err BadTag) (eq-eqb wanted wanted refl))
    (λ b a e. only_if (b == wanted) b refl e)
  where
    only_if : (test : Bool) (b : ℕ) → (b == wanted) ≡ test → {a : Unit {0}} → ◌≡◌ {A = Result (Unit {0}) DecodeFault} (if test then Ok tt else Err BadTag) (Ok a) → b ≡ wanted
    only_if true b h e = eqb-true b wanted h
    only_if false b h e = absurd (cc)

-- a wanted byte, and what stands behind it
pub after_byte : {room : Option ℕ} {A : Type 0} (wanted : ℕ) {read : Reader A} {P : A → List ℕ → Type 0} → ExactIn room read P → ExactIn room (tag_at (only wanted) >>= λ _. read) (λ a bytes. (IsByte wanted followed_by P a) bytes)
after_byte {room} wanted {read = read} {P = P} k =
    alike (followed (λ _. read) (λ _ a bytes. P a bytes) (in_room room (only_byte wanted)) (λ _. k)) (λ a bytes p. p.1) (λ a bytes p. (tt, p))

-- a value, and a wanted byte behind it
pub before_byte : {room : Option ℕ} {A : Type 0} (wanted : ℕ) {read : Reader A} {P : A → List ℕ → Type 0} → ExactIn room read P → ExactIn room (read >>= λ a. tag_at (only wanted) >>= λ _. give a) (λ a bytes. (P a followed_by IsByte wanted) bytes)
before_byte {room} wanted {P = P} k =
    alike (followed (λ a. tag_at (only wanted) >>= λ _. give a) (λ a b bytes. (u : Unit {0}) × (b ≡ a) × IsByte wanted bytes) k
    (λ a. made (λ _. a) (in_room room (only_byte wanted))))
    (λ b bytes p.
    let q = p.1 in
    record { front = q.front; back = q.back; first = subst (λ a. P a q.front) (sym q.second.1) q.first; second = q.second.2; whole = q.whole })
    (λ b bytes p. (b, record { front = p.front; back = p.back; first = p.first; second = (tt, refl, p.second); whole = p.whole }))
