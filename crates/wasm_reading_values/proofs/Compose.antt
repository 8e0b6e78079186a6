-- Exact readers compose: one behind another, branches, values that are looked at, and a change of the production
-- to one that holds of the same bytes.
use Rattle.std.proofs.Common.{◌≡◌, ◌∙◌, ℕ, suc, ◌+◌, ◌<◌, ◌≤◌, Bool, true, false, List, [], ◌∷◌, ◌++◌, length, refl, sym, ap, subst, arith, append_assoc, append-nil, length-append, Option, Some, None, Result, Ok, Err}
use Rattle.std.specs.Prelude.{if◌then◌else◌}
use Rattle.std.proofs.lemmas.List.Elements.{All-tail}
use Rattle.wasm_grammar.specs.GrammarValues.{Joined}
use Rattle.wasm_reading.specs.declared.fault.DecodeError.{DecodeError}
use Rattle.wasm_reading.specs.declared.fault.DecodeFault.{DecodeFault}
use Rattle.wasm_reading.specs.Readers.{IsWithin, Input, Reader, and_then, ◌>>=◌, give, fail, here}
use Rattle.wasm_reading_values.specs.Exactness.{AreBytes, Took, HasRoom, ExactIn, Exact}

-- the bytes behind others
pub bytes_behind : (front back : List ℕ) → AreBytes (front ++ back) → AreBytes back
bytes_behind [] back h = h
bytes_behind (b ∷ front) back h = bytes_behind front back (All-tail (λ b. b < 256) b (front ++ back) h)

pub behind_took : {P : List ℕ → Type 0} {input behind : Input} → Took P input behind → AreBytes input.rest → AreBytes behind.rest
behind_took {behind = behind} t h = bytes_behind t.front behind.rest (subst (λ (bytes : List ℕ). AreBytes bytes) t.whole h)

-- an input by its parts
pub same_input : (i j : Input) → i.at ≡ j.at → i.end ≡ j.end → i.rest ≡ j.rest → i ≡ j
same_input i j at end rest = λ k. record { at = at k; end = end k; rest = rest k }

pub took_so : {P Q : List ℕ → Type 0} {input behind : Input} → Took P input behind → ((bytes : List ℕ) → P bytes → Q bytes) → Took Q input behind
took_so t f = record { front = t.front; holds = f t.front t.holds; whole = t.whole; place = t.place; same_end = t.same_end }

-- nothing is taken
pub took_nothing : (P : List ℕ → Type 0) (input behind : Input) → P [] → input ≡ behind → Took P input behind
took_nothing P input behind h e = record {
  front = [];
  holds = h;
  whole = ap (λ (i : Input). i.rest) e;
  place = omega (arith, ap (λ (i : Input). i.at) e);
  same_end = ap (λ (i : Input). i.end) (sym e);
}

pub nothing_taken : {P : List ℕ → Type 0} {input behind : Input} (t : Took P input behind) → t.front ≡ [] → input ≡ behind
nothing_taken {input = input} {behind = behind} t e =
    let none : length t.front ≡ 0 = ap length e in
    same_input input behind (omega (arith, t.place)) (sym t.same_end) (t.whole ∙ ap (λ (bytes : List ℕ). bytes ++ behind.rest) e)

-- bytes taken, and others behind them
pub took_joined : {P Q : List ℕ → Type 0} {input middle behind : Input} → Took P input middle → Took Q middle behind → Took (Joined P Q) input behind
took_joined {input = input} {middle = middle} {behind = behind} s t = record {
  front = s.front ++ t.front;
  holds = record { front = s.front; back = t.front; first = s.holds; second = t.holds; whole = refl };
  whole = s.whole ∙ ap (λ (bytes : List ℕ). s.front ++ bytes) t.whole ∙ sym (append_assoc s.front t.front behind.rest);
  place = omega (arith, s.place, t.place, length-append s.front t.front);
  same_end = t.same_end ∙ s.same_end;
}

-- bytes taken by two productions, one after the other
pub first_took : {P Q : List ℕ → Type 0} {input behind : Input} (t : Took (Joined P Q) input behind) → Took P input (record { at = input.at + length t.holds.front; end = input.end; rest = t.holds.back ++ behind.rest })
first_took {input = input} {behind = behind} t = record {
  front = t.holds.front;
  holds = t.holds.first;
  whole = t.whole ∙ ap (λ (bytes : List ℕ). bytes ++ behind.rest) t.holds.whole ∙ append_assoc t.holds.front t.holds.back behind.rest;
  place = refl;
  same_end = refl;
}

pub second_took : {P Q : List ℕ → Type 0} {input behind : Input} (t : Took (Joined P Q) input behind) → Took Q (record { at = input.at + length t.holds.front; end = input.end; rest = t.holds.back ++ behind.rest }) behind
second_took {input = input} {behind = behind} t =
    let sum : length t.front ≡ length t.holds.front + length t.holds.back = ap length t.holds.whole ∙ length-append t.holds.front t.holds.back in
    record { front = t.holds.back; holds = t.holds.second; whole = refl; place = omega (arith, t.place, sum); same_end = t.same_end }

pub by_earlier : (end : Option ℕ) (at later : ℕ) → at ≤ later → IsWithin later end → IsWithin at end
by_earlier None at later l h = tt
by_earlier (Some end) at later l h = omega arith

-- the same bytes by another relation that holds of them alike
pub alike : {room : Option ℕ} {A : Type 0} {read : Reader A} {P Q : A → List ℕ → Type 0} → ExactIn room read P → ((a : A) (bytes : List ℕ) → P a bytes → Q a bytes) → ((a : A) (bytes : List ℕ) → Q a bytes → P a bytes) → ExactIn room read Q
alike k f g = record {
  sound = λ input behind a h e. took_so (k.sound input behind a h e) (f a);
  complete = λ input behind a t h r. k.complete input behind a (took_so t (g a)) h r;
}

-- the value and the input behind it of what was read
ok_one : {X E : Type 0} (x y : X) → ◌≡◌ {A = Result X E} (Ok x) (Ok y) → x ≡ y
ok_one x y e = cc

pub read_one : {A : Type 0} (a b : A) (i j : Input) → ◌≡◌ {A = Result (A × Input) DecodeError} (Ok (a, i)) (Ok (b, j)) → (a ≡ b) × (i ≡ j)
read_one {A} a b i j e =
    let h = ok_one {X = A × Input} {E = DecodeError} (a, i) (b, j) e in
    (ap (λ (done : A × Input). done.0) h, ap (λ (done : A × Input). done.1) h)

pub read_same : {A : Type 0} (a b : A) (i j : Input) → a ≡ b → i ≡ j → ◌≡◌ {A = Result (A × Input) DecodeError} (Ok (a, i)) (Ok (b, j))
read_same a b i j e f = λ k. Ok (e k, f k)

-- a value that is given, for no bytes
pub giving : {room : Option ℕ} {A : Type 0} (v : A) → ExactIn room (give v) (λ a bytes. (a ≡ v) × (bytes ≡ []))
giving v = record {
  sound = λ input behind a h e.
      let same = read_one v a input behind e in
      took_nothing (λ bytes. (a ≡ v) × (bytes ≡ [])) input behind (sym same.0, refl) same.1;
  complete = λ input behind a t h r. read_same v a input behind (sym t.holds.0) (nothing_taken t t.holds.1);
}

-- a fault, where no value has a spelling
pub failing : {room : Option ℕ} {A : Type 0} (fault : DecodeFault) (place : ℕ) (P : A → List ℕ → Type 0) → ((a : A) (bytes : List ℕ) → P a bytes → ⊥) → ExactIn room (fail fault place) P
failing fault place P none = record {
  sound = λ input behind a h e. absurd (cc);
  complete = λ input behind a t h r. absurd (none a t.front t.holds);
}

-- what reads differently by a test
pub branch : {room : Option ℕ} {A : Type 0} (test : Bool) (x y : Reader A) (P : A → List ℕ → Type 0) → (test ≡ true → ExactIn room x P) → (test ≡ false → ExactIn room y P) → ExactIn room (if test then x else y) P
branch true x y P k l = k refl
branch false x y P k l = l refl

-- what reads from where reading stands
pub placed : {room : Option ℕ} {A : Type 0} (next : ℕ → Reader A) (P : A → List ℕ → Type 0) → ((place : ℕ) → ExactIn room (next place) P) → ExactIn room (here >>= next) P
placed next P k = record {
  sound = λ input behind a h e. (k input.at).sound input behind a h e;
  complete = λ input behind a t h r. (k input.at).complete input behind a t h r;
}

-- what was read by two readers, one behind the other
pub from_and_then : {A B : Type 0} (r : Result (A × Input) DecodeError) (next : A → Reader B) (b : B) (behind : Input) → and_then r next ≡ Ok (b, behind) → (a : A) × (middle : Input) × (r ≡ Ok (a, middle)) × (next a middle ≡ Ok (b, behind))
from_and_then (Ok done) next b behind e = (done.0, done.1, refl, e)
from_and_then (Err fault) next b behind e = absurd (cc)

room_behind : (room : Option ℕ) (front back : List ℕ) → HasRoom room (front ++ back) → HasRoom room back
room_behind None front back h = tt
room_behind (Some most) front back h = omega (arith, length-append front back)

-- one reader behind another, which may have another room, and which has to be exact where the first value is spelled
pub followed_where : {room : Option ℕ} (less : Option ℕ) {A B : Type 0} {first : Reader A} {First : A → List ℕ → Type 0} (next : A → Reader B) (Next : A → B → List ℕ → Type 0) → ((a : A) (front back : List ℕ) → First a front → HasRoom room (front ++ back) → HasRoom less back) → ExactIn room first First → ((a : A) (front : List ℕ) → First a front → ExactIn less (next a) (Next a)) → ExactIn room (first >>= next) (λ b bytes. (a : A) × Joined (First a) (Next a b) bytes)
followed_where {room} less {first = first} {First = First} next Next smaller k l = record {
  sound = λ input behind b h e.
      let r = from_and_then (first input) next b behind e in
      let s = k.sound input r.1 r.0 h r.2 in
      let t = (l r.0 s.front s.holds).sound r.1 behind b (behind_took s h) r.3 in
      took_so (took_joined s t) (λ bytes p. (r.0, p));
  complete = λ input behind b t h space.
      let a = t.holds.0 in
      let u : Took (Joined (First a) (Next a b)) input behind = record { front = t.front; holds = t.holds.1; whole = t.whole; place = t.place; same_end = t.same_end } in
      let middle : Input = record { at = input.at + length u.holds.front; end = input.end; rest = u.holds.back ++ behind.rest } in
      let s = first_took u in
      let v = second_took u in
      let early : IsWithin middle.at input.end = by_earlier input.end middle.at behind.at (omega (arith, v.place)) (subst (λ (end : Option ℕ). IsWithin behind.at end) t.same_end h) in
      let left = smaller a s.front middle.rest s.holds (subst (λ (bytes : List ℕ). HasRoom room bytes) s.whole space) in
      ap (λ r. and_then r next) (k.complete input middle a s early space) ∙ (l a s.front s.holds).complete middle behind b v h left;
}

-- the same, exact for each first value
pub followed_in : {room : Option ℕ} (less : Option ℕ) {A B : Type 0} {first : Reader A} {First : A → List ℕ → Type 0} (next : A → Reader B) (Next : A → B → List ℕ → Type 0) → ((a : A) (front back : List ℕ) → First a front → HasRoom room (front ++ back) → HasRoom less back) → ExactIn room first First → ((a : A) → ExactIn less (next a) (Next a)) → ExactIn room (first >>= next) (λ b bytes. (a : A) × Joined (First a) (Next a b) bytes)
followed_in less next Next smaller k l = followed_where less next Next smaller k (λ a front p. l a)

-- one reader behind another: the bytes of the first value, and then those of the second
pub followed : {room : Option ℕ} {A B : Type 0} {first : Reader A} {First : A → List ℕ → Type 0} (next : A → Reader B) (Next : A → B → List ℕ → Type 0) → ExactIn room first First → ((a : A) → ExactIn room (next a) (Next a)) → ExactIn room (first >>= next) (λ b bytes. (a : A) × Joined (First a) (Next a b) bytes)
followed {room} next Next k l = followed_in room next Next (λ a front back p h. room_behind room front back h) k l

-- the same, where the first takes a byte at least, so that the second needs room for one less
pub followed_after_byte : {A B : Type 0} (most : ℕ) {first : Reader A} {First : A → List ℕ → Type 0} (next : A → Reader B) (Next : A → B → List ℕ → Type 0) → ((a : A) (front : List ℕ) → First a front → 0 < length front) → ExactIn (Some (suc most)) first First → ((a : A) → ExactIn (Some most) (next a) (Next a)) → ExactIn (Some (suc most)) (first >>= next) (λ b bytes. (a : A) × Joined (First a) (Next a b) bytes)
followed_after_byte most next Next takes k l =
    followed_in (Some most) next Next (λ a front back p h. omega (arith, length-append front back, takes a front p)) k l

-- what is read exactly, however many bytes follow, is so where there is less room
pub in_room : {A : Type 0} {read : Reader A} {P : A → List ℕ → Type 0} (room : Option ℕ) → Exact read P → ExactIn room read P
in_room room k = record { sound = k.sound; complete = λ input behind a t h r. k.complete input behind a t h tt }

-- what is read exactly with room for as many bytes as follow
pub by_length : {A : Type 0} (read : ℕ → Reader A) (P : A → List ℕ → Type 0) → ((most : ℕ) → ExactIn (Some most) (read most) P) → Exact (λ input. read (length input.rest) input) P
by_length read P k = record {
  sound = λ input behind a h e. (k (length input.rest)).sound input behind a h e;
  complete = λ input behind a t h r. (k (length input.rest)).complete input behind a t h (omega arith);
}

-- a value made of one that is read
pub made : {room : Option ℕ} {A B : Type 0} {read : Reader A} {P : A → List ℕ → Type 0} (make : A → B) → ExactIn room read P → ExactIn room (read >>= λ a. give (make a)) (λ b bytes. (a : A) × (b ≡ make a) × P a bytes)
made {P = P} make k =
    alike (followed (λ a. give (make a)) (λ a b bytes. (b ≡ make a) × (bytes ≡ [])) k (λ a. giving (make a)))
    (λ b bytes p.
    let all : bytes ≡ p.1.front = p.1.whole ∙ ap (λ (back : List ℕ). p.1.front ++ back) p.1.second.1 ∙ append-nil p.1.front in
    (p.0, p.1.second.0, subst (λ (xs : List ℕ). P p.0 xs) (sym all) p.1.first))
    (λ b bytes p. (p.0, record { front = bytes; back = []; first = p.2; second = (p.1, refl); whole = sym (append-nil bytes) }))

-- a field of a value, and what is read of it behind, which has to be exact where the field is spelled; of the fields before it
-- is known what was read
pub field_where : {room : Option ℕ} {A B : Type 0} {first : Reader A} {First : A → List ℕ → Type 0} (of : B → A) (next : A → Reader B) (Known : B → Type 0) (Next : B → List ℕ → Type 0) → ExactIn room first First → ((a : A) (front : List ℕ) → First a front → ExactIn room (next a) (λ b bytes. (Known b × (of b ≡ a)) × Next b bytes)) → ExactIn room (first >>= next) (λ b bytes. Known b × Joined (First (of b)) (Next b) bytes)
field_where {room} {First = First} of next Known Next k l =
    alike (followed_where room next (λ a b bytes. (Known b × (of b ≡ a)) × Next b bytes) (λ a front back p h. room_behind room front back h) k l)
    (λ b bytes p.
    let q = p.1 in
    let first = subst (λ a. First a q.front) (sym q.second.0.1) q.first in
    (q.second.0.0, record { front = q.front; back = q.back; first = first; second = q.second.1; whole = q.whole }))
    (λ b bytes p.
    let q = p.1 in
    (of b, record { front = q.front; back = q.back; first = q.first; second = ((p.0, refl), q.second); whole = q.whole }))

-- the same, exact for each value of the field
pub field : {room : Option ℕ} {A B : Type 0} {first : Reader A} {First : A → List ℕ → Type 0} (of : B → A) (next : A → Reader B) (Known : B → Type 0) (Next : B → List ℕ → Type 0) → ExactIn room first First → ((a : A) → ExactIn room (next a) (λ b bytes. (Known b × (of b ≡ a)) × Next b bytes)) → ExactIn room (first >>= next) (λ b bytes. Known b × Joined (First (of b)) (Next b) bytes)
field of next Known Next k l = field_where of next Known Next k (λ a front p. l a)

-- the last field of a value
pub last_field : {room : Option ℕ} {A B : Type 0} {first : Reader A} {First : A → List ℕ → Type 0} (of : B → A) (make : A → B) (Known : B → Type 0) → ExactIn room first First → ((a : A) → Known (make a) × (of (make a) ≡ a)) → ((b : B) → Known b → b ≡ make (of b)) → ExactIn room (first >>= λ a. give (make a)) (λ b bytes. Known b × First (of b) bytes)
last_field {First = First} of make Known k known one =
    alike (made make k)
    (λ b bytes p.
    let same = known p.0 in
    (subst Known (sym p.1) same.0, subst (λ a. First a bytes) (sym (ap of p.1 ∙ same.1)) p.2))
    (λ b bytes p. (of b, one b p.0, p.1))

-- nothing is known of a value before its first field is read
pub fields : {room : Option ℕ} {B : Type 0} {read : Reader B} {P : B → List ℕ → Type 0} → ExactIn room read (λ b bytes. Unit {0} × P b bytes) → ExactIn room read P
fields k = alike k (λ b bytes p. p.1) (λ b bytes p. (tt, p))

-- a value that is given back where it is good
pub checked : {room : Option ℕ} {A : Type 0} {read : Reader A} {P : A → List ℕ → Type 0} (next : A → Reader A) (Good : A → Type 0) → ExactIn room read P → ((a : A) → ExactIn room (next a) (λ b bytes. (b ≡ a) × Good a × (bytes ≡ []))) → ExactIn room (read >>= next) (λ a bytes. Good a × P a bytes)
checked {P = P} next Good k l =
    alike (followed next (λ a b bytes. (b ≡ a) × Good a × (bytes ≡ [])) k l)
    (λ b bytes p.
    let q = p.1 in
    let all : bytes ≡ q.front = q.whole ∙ ap (λ (back : List ℕ). q.front ++ back) q.second.2 ∙ append-nil q.front in
    let first = subst (λ a. P a q.front) (sym q.second.0) q.first in
    (subst Good (sym q.second.0) q.second.1, subst (λ (xs : List ℕ). P b xs) (sym all) first))
    (λ b bytes p. (b, record { front = bytes; back = []; first = p.1; second = (refl, p.0, refl); whole = sym (append-nil bytes) }))

-- a value is given, or it is not good
pub give_if : {room : Option ℕ} {A : Type 0} (test : Bool) (a : A) (fault : DecodeFault) (place : ℕ) (Good : Type 0) → (test ≡ true → Good) → (test ≡ false → Good → ⊥) → ExactIn room (if test then give a else fail fault place) (λ b bytes. (b ≡ a) × Good × (bytes ≡ []))
give_if test a fault place Good gives fails =
    branch test (give a) (fail fault place) _
    (λ e. alike (giving a) (λ b bytes p. (p.0, gives e, p.1)) (λ b bytes p. (p.0, p.2)))
    (λ e. failing fault place _ (λ b bytes p. fails e p.1))

-- a value is not good, or it is given
pub fail_if : {room : Option ℕ} {A : Type 0} (test : Bool) (a : A) (fault : DecodeFault) (place : ℕ) (Good : Type 0) → (test ≡ false → Good) → (test ≡ true → Good → ⊥) → ExactIn room (if test then fail fault place else give a) (λ b bytes. (b ≡ a) × Good × (bytes ≡ []))
fail_if test a fault place Good gives fails =
    branch test (fail fault place) (give a) _
    (λ e. failing fault place _ (λ b bytes p. fails e p.1))
    (λ e. alike (giving a) (λ b bytes p. (p.0, gives e, p.1)) (λ b bytes p. (p.0, p.2)))

-- no value is read, and none is spelled
pub never : {room : Option ℕ} {A : Type 0} (fault : DecodeFault) (place : ℕ) → ExactIn room (fail {A = A} fault place) (λ a bytes. ⊥)
never fault place = failing fault place (λ a bytes. ⊥) (λ a bytes p. p)

-- productions one after another, grouped from the left and from the right
pub from_left : {P Q R : List ℕ → Type 0} (bytes : List ℕ) → Joined (Joined P Q) R bytes → Joined P (Joined Q R) bytes
from_left bytes p =
    let q = p.first in
    let whole : bytes ≡ q.front ++ (q.back ++ p.back) = p.whole ∙ ap (λ (front : List ℕ). front ++ p.back) q.whole ∙ append_assoc q.front q.back p.back in
    record { front = q.front; back = q.back ++ p.back; first = q.first; second = record { front = q.back; back = p.back; first = q.second; second = p.second; whole = refl }; whole = whole }

pub from_right : {P Q R : List ℕ → Type 0} (bytes : List ℕ) → Joined P (Joined Q R) bytes → Joined (Joined P Q) R bytes
from_right bytes p =
    let q = p.second in
    let whole : bytes ≡ (p.front ++ q.front) ++ q.back = p.whole ∙ ap (λ (back : List ℕ). p.front ++ back) q.whole ∙ sym (append_assoc p.front q.front q.back) in
    record { front = p.front ++ q.front; back = q.back; first = record { front = p.front; back = q.front; first = p.first; second = q.first; whole = refl }; second = q.second; whole = whole }
