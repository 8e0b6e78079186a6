-- Readers that read to the end of the input, where no end is declared: which bytes they read, and how they stand behind
-- exact readers. `most` is how many bytes may follow.
use Rattle.std.proofs.Common.{◌≡◌, ◌∙◌, ℕ, ◌+◌, ◌≤◌, Bool, true, false, List, ◌++◌, length, refl, sym, ap, subst, Option, None, Ok}
use Rattle.std.specs.Prelude.{if◌then◌else◌}
use Rattle.wasm_grammar.specs.GrammarValues.{Joined}
use Rattle.wasm_reading.specs.declared.fault.DecodeFault.{DecodeFault}
use Rattle.wasm_reading.specs.Readers.{IsWithin, Input, Reader, and_then, ◌>>=◌, fail, here}
use Rattle.wasm_reading_values.specs.Exactness.{AreBytes, Took, Exact}
use Rattle.wasm_reading_values.proofs.Compose.{behind_took, from_and_then}

pub record ToEnd (most : ℕ) {A : Type 0} (read : Reader A) (Spells : A → List ℕ → Type 0) : Type 0 where
  pub sound : (input behind : Input) (a : A) → AreBytes input.rest → length input.rest ≤ most → read input ≡ Ok (a, behind) → Spells a input.rest
  pub complete : (input : Input) (a : A) → input.end ≡ None → length input.rest ≤ most → Spells a input.rest → (behind : Input) × (read input ≡ Ok (a, behind))

-- the same bytes by another relation that holds of them alike
pub alike_to_end : {most : ℕ} {A : Type 0} {read : Reader A} {P Q : A → List ℕ → Type 0} → ToEnd most read P → ((a : A) (bytes : List ℕ) → P a bytes → Q a bytes) → ((a : A) (bytes : List ℕ) → Q a bytes → P a bytes) → ToEnd most read Q
alike_to_end k f g = record {
  sound = λ input behind a h small e. f a input.rest (k.sound input behind a h small e);
  complete = λ input a unbounded small p. k.complete input a unbounded small (g a input.rest p);
}

-- a fault, where no value has a spelling
pub failing_to_end : {most : ℕ} {A : Type 0} (fault : DecodeFault) (place : ℕ) (P : A → List ℕ → Type 0) → ((a : A) (bytes : List ℕ) → P a bytes → ⊥) → ToEnd most (fail fault place) P
failing_to_end fault place P none = record {
  sound = λ input behind a h small e. absurd (cc);
  complete = λ input a unbounded small p. absurd (none a input.rest p);
}

-- what reads differently by a test
pub branch_to_end : {most : ℕ} {A : Type 0} (test : Bool) (x y : Reader A) (P : A → List ℕ → Type 0) → (test ≡ true → ToEnd most x P) → (test ≡ false → ToEnd most y P) → ToEnd most (if test then x else y) P
branch_to_end true x y P k l = k refl
branch_to_end false x y P k l = l refl

-- what reads from where reading stands
pub placed_to_end : {most : ℕ} {A : Type 0} (next : ℕ → Reader A) (P : A → List ℕ → Type 0) → ((place : ℕ) → ToEnd most (next place) P) → ToEnd most (here >>= next) P
placed_to_end next P k = record {
  sound = λ input behind a h small e. (k input.at).sound input behind a h small e;
  complete = λ input a unbounded small p. (k input.at).complete input a unbounded small p;
}

-- an exact reader, and one to the end behind it, which may need room for fewer bytes
pub followed_to_end : {most : ℕ} (less : ℕ) {A B : Type 0} {first : Reader A} {First : A → List ℕ → Type 0} (next : A → Reader B) (Next : A → B → List ℕ → Type 0) → ((a : A) (front back : List ℕ) → First a front → length (front ++ back) ≤ most → length back ≤ less) → Exact first First → ((a : A) → ToEnd less (next a) (Next a)) → ToEnd most (first >>= next) (λ b bytes. (a : A) × Joined (First a) (Next a b) bytes)
followed_to_end {most} less {first = first} {First = First} next Next smaller k l = record {
  sound = λ input behind b h small e.
      let r = from_and_then (first input) next b behind e in
      let s = k.sound input r.1 r.0 h r.2 in
      let left = smaller r.0 s.front r.1.rest s.holds (subst (λ (bytes : List ℕ). length bytes ≤ most) s.whole small) in
      (r.0, record { front = s.front; back = r.1.rest; first = s.holds; second = (l r.0).sound r.1 behind b (behind_took s h) left r.3; whole = s.whole });
  complete = λ input b unbounded small p.
      let a = p.0 in
      let q = p.1 in
      let middle : Input = record { at = input.at + length q.front; end = input.end; rest = q.back } in
      let t : Took (First a) input middle = record { front = q.front; holds = q.first; whole = q.whole; place = refl; same_end = refl } in
      let left = smaller a q.front q.back q.first (subst (λ (bytes : List ℕ). length bytes ≤ most) q.whole small) in
      let done = (l a).complete middle b unbounded left q.second in
      (done.0, ap (λ r. and_then r next) (k.complete input middle a t (subst (λ (end : Option ℕ). IsWithin middle.at end) (sym unbounded) tt) tt) ∙ done.1);
}
