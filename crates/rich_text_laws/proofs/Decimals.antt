-- What is written in decimal is read again: by induction on the digits that are still to be written.
use Rattle.std.proofs.Common.{◌≡◌, ◌∙◌, ℕ, zero, suc, ◌+◌, ◌-◌, ◌*◌, ◌/◌, ◌%◌, ◌^◌, ◌<◌, ◌≤◌, true, false, List, [], ◌∷◌, refl, sym, ap, subst, inl, inr, arith}
use Rattle.std.specs.Prelude.{if◌then◌else◌, ◌==◌, nat_lt, nat_le}
use Rattle.std.specs.List.{list_all}
use Rattle.std.specs.Char.{is_ascii_digit}
use Rattle.std.proofs.Math.Nat.{pow-suc}
use Rattle.std.proofs.lemmas.Bool.{cond-true, cond-false, lt-ltb, le-ltb, le-leb, ne_eqb, cases_lt, and_from, and_parts, false≢true}
use Rattle.rich_text.specs.Numbers.{NumberRange, Index, Constant32, Constant64, Within, OutOfRange, NoNumber, value_after, are_digits, natural_of, negative_of, signed_of, number_of}
use Rattle.rich_text.specs.Canonical.{digits_from, decimal_word, number_word}
use Rattle.rich_text.specs.Writable.{IsInRange}

tenth_below : (fuel n : ℕ) → n < 10 ^ suc fuel → n / 10 < 10 ^ fuel
tenth_below fuel n h = let e : 10 ^ suc fuel ≡ 10 ^ fuel * 10 = pow-suc 10 fuel in omega arith

-- the value of what is written before other digits
value-digits : (fuel n : ℕ) (ds : List ℕ) → n < 10 ^ fuel → value_after 0 (digits_from fuel n ds) ≡ value_after n ds
value-digits zero n ds h = ap (λ m. value_after m ds) (let e : 0 ≡ n = omega arith in e)
value-digits (suc fuel) n ds h =
    elim (cases_lt n 10) [
      | inl g ↦ ap (value_after 0) (cond-true (nat_lt n 10) ((48 + n) ∷ ds) (digits_from fuel (n / 10) ((48 + n % 10) ∷ ds)) (lt-ltb n 10 g))
          ∙ ap (λ m. value_after m ds) (let e : 10 * 0 + (48 + n - 48) ≡ n = omega arith in e)
      | inr g ↦ ap (value_after 0) (cond-false (nat_lt n 10) ((48 + n) ∷ ds) (digits_from fuel (n / 10) ((48 + n % 10) ∷ ds)) (le-ltb n 10 g))
          ∙ value-digits fuel (n / 10) ((48 + n % 10) ∷ ds) (tenth_below fuel n h)
          ∙ ap (λ m. value_after m ds) (let e : 10 * (n / 10) + (48 + n % 10 - 48) ≡ n = omega arith in e)
    ]

pub digit-is : (n : ℕ) → n < 10 → is_ascii_digit (48 + n) ≡ true
digit-is n h = grind arith

-- digits, of which the first is not 0
pub record Leads (ds : List ℕ) : Type 0 where
  pub first : ℕ
  pub others : List ℕ
  pub is : ds ≡ first ∷ others
  pub more : (first == 48) ≡ false
  pub all : list_all is_ascii_digit ds ≡ true

leads-digits : (fuel n : ℕ) (ds : List ℕ) → 0 < n → n < 10 ^ fuel → list_all is_ascii_digit ds ≡ true → Leads (digits_from fuel n ds)
leads-digits zero n ds p h all = absurd (omega arith)
leads-digits (suc fuel) n ds p h all =
    elim (cases_lt n 10) [
      | inl g ↦ subst Leads (sym (cond-true (nat_lt n 10) ((48 + n) ∷ ds) (digits_from fuel (n / 10) ((48 + n % 10) ∷ ds)) (lt-ltb n 10 g)))
          (record { first = 48 + n; others = ds; is = refl; more = ne_eqb (48 + n) 48 (λ e. omega (arith, e, p)); all = and_from _ _ (digit-is n g) all })
      | inr g ↦ subst Leads (sym (cond-false (nat_lt n 10) ((48 + n) ∷ ds) (digits_from fuel (n / 10) ((48 + n % 10) ∷ ds)) (le-ltb n 10 g)))
          (leads-digits fuel (n / 10) ((48 + n % 10) ∷ ds) (omega arith) (tenth_below fuel n h) (and_from _ _ (digit-is (n % 10) (omega arith)) all))
    ]

digits-of : (d : ℕ) (ds : List ℕ) → (d == 48) ≡ false → list_all is_ascii_digit (d ∷ ds) ≡ true → are_digits (d ∷ ds) ≡ true
digits-of d [] e all = (and_parts (is_ascii_digit d) true all).0
digits-of d (x ∷ xs) e all = cond-false (d == 48) false (list_all is_ascii_digit (d ∷ x ∷ xs)) e ∙ all

-- a word that leads so is written without a sign
digits-leads : (w : List ℕ) → Leads w → are_digits w ≡ true
digits-leads w l = ap are_digits l.is ∙ digits-of l.first l.others l.more (sym (ap (list_all is_ascii_digit) l.is) ∙ l.all)

no_sign : (d : ℕ) → is_ascii_digit d ≡ true → (d == 45) ≡ false
no_sign d h = ne_eqb d 45 (λ e. false≢true (sym (ap is_ascii_digit e) ∙ h))

unsigned-leads : (least modulus : ℕ) (w : List ℕ) → Leads w → signed_of least modulus w ≡ natural_of modulus w
unsigned-leads least modulus w l =
    let digit = (and_parts (is_ascii_digit l.first) (list_all is_ascii_digit l.others) (sym (ap (list_all is_ascii_digit) l.is) ∙ l.all)).0 in
    ap (signed_of least modulus) l.is
    ∙ cond-false (l.first == 45) (negative_of least modulus l.others) (natural_of modulus (l.first ∷ l.others)) (no_sign l.first digit)
    ∙ ap (natural_of modulus) (sym l.is)

pub decimal-leads : (n : ℕ) → 0 < n → n < 10 ^ 20 → Leads (decimal_word n)
decimal-leads n p h = leads-digits 20 n [] p h refl

-- a number of at most 20 digits
decimal-digits : (n : ℕ) → n < 10 ^ 20 → are_digits (decimal_word n) ≡ true
decimal-digits zero h = refl
decimal-digits (suc n) h = digits-leads (decimal_word (suc n)) (leads-digits 20 (suc n) [] (omega arith) h refl)

decimal-unsigned : (least modulus n : ℕ) → n < 10 ^ 20 → signed_of least modulus (decimal_word n) ≡ natural_of modulus (decimal_word n)
decimal-unsigned least modulus zero h = refl
decimal-unsigned least modulus (suc n) h = unsigned-leads least modulus (decimal_word (suc n)) (leads-digits 20 (suc n) [] (omega arith) h refl)

natural-is : (limit n v : ℕ) → v ≡ n → n < limit → (if nat_lt v limit then Within v else OutOfRange) ≡ Within n
natural-is limit n v e h = cond-true (nat_lt v limit) (Within v) OutOfRange (lt-ltb v limit (omega (arith, e, h))) ∙ ap Within e

plain : (least modulus n : ℕ) → n < modulus → n < 10 ^ 20 → signed_of least modulus (decimal_word n) ≡ Within n
plain least modulus n h g =
    decimal-unsigned least modulus n g
    ∙ cond-true (are_digits (decimal_word n)) (if nat_lt (value_after 0 (decimal_word n)) modulus then Within (value_after 0 (decimal_word n)) else OutOfRange) NoNumber (decimal-digits n g)
    ∙ natural-is modulus n (value_after 0 (decimal_word n)) (value-digits 20 n [] g) h

negative-is : (least modulus n v : ℕ) → v ≡ n → 0 < n → n ≤ least
    → (if v == 0 then NoNumber else (if nat_le v least then Within (modulus - v) else OutOfRange)) ≡ Within (modulus - n)
negative-is least modulus n v e p h =
    cond-false (v == 0) NoNumber (if nat_le v least then Within (modulus - v) else OutOfRange) (ne_eqb v 0 (λ z. omega (arith, e, z, p)))
    ∙ cond-true (nat_le v least) (Within (modulus - v)) OutOfRange (le-leb v least (omega (arith, e, h)))
    ∙ ap (λ x. Within (modulus - x)) e

negative : (least modulus n : ℕ) → 0 < n → n ≤ least → n < 10 ^ 20 → signed_of least modulus (45 ∷ decimal_word n) ≡ Within (modulus - n)
negative least modulus n p h g =
    cond-true (are_digits (decimal_word n)) (if value_after 0 (decimal_word n) == 0 then NoNumber else (if nat_le (value_after 0 (decimal_word n)) least then Within (modulus - value_after 0 (decimal_word n)) else OutOfRange)) NoNumber (decimal-digits n g)
    ∙ negative-is least modulus n (value_after 0 (decimal_word n)) (value-digits 20 n [] g) p h

pub number-written : (k : NumberRange) (n : ℕ) → IsInRange k n → number_of k (number_word k n) ≡ Within n
number-written Index n h = plain 0 (2 ^ 32) n h (omega arith)
number-written Constant32 n h =
    elim (cases_lt n (2 ^ 31)) [
      | inl g ↦ ap (number_of Constant32) (cond-true (nat_lt n (2 ^ 31)) (decimal_word n) (45 ∷ decimal_word (2 ^ 32 - n)) (lt-ltb n (2 ^ 31) g)) ∙ plain (2 ^ 31) (2 ^ 32) n h (omega arith)
      | inr g ↦ ap (number_of Constant32) (cond-false (nat_lt n (2 ^ 31)) (decimal_word n) (45 ∷ decimal_word (2 ^ 32 - n)) (le-ltb n (2 ^ 31) g))
          ∙ negative (2 ^ 31) (2 ^ 32) (2 ^ 32 - n) (omega arith) (omega arith) (omega arith)
          ∙ ap Within (let e : 2 ^ 32 - (2 ^ 32 - n) ≡ n = omega arith in e)
    ]
number-written Constant64 n h =
    elim (cases_lt n (2 ^ 63)) [
      | inl g ↦ ap (number_of Constant64) (cond-true (nat_lt n (2 ^ 63)) (decimal_word n) (45 ∷ decimal_word (2 ^ 64 - n)) (lt-ltb n (2 ^ 63) g)) ∙ plain (2 ^ 63) (2 ^ 64) n h (omega arith)
      | inr g ↦ ap (number_of Constant64) (cond-false (nat_lt n (2 ^ 63)) (decimal_word n) (45 ∷ decimal_word (2 ^ 64 - n)) (le-ltb n (2 ^ 63) g))
          ∙ negative (2 ^ 63) (2 ^ 64) (2 ^ 64 - n) (omega arith) (omega arith) (omega arith)
          ∙ ap Within (let e : 2 ^ 64 - (2 ^ 64 - n) ≡ n = omega arith in e)
    ]
