-- What is read is what is spelled, for every grammar whose tables have each word once.
use Rattle.std.proofs.Common.{◌≡◌, ◌∙◌, ℕ, zero, suc, ◌≤◌, Bool, true, false, List, [], ◌∷◌, ◌++◌, length, refl, sym, ap, subst, inl, inr, arith, append_assoc, length-append, Option, Some, None, Result, Ok, Err}
use Rattle.std.specs.Prelude.{⊤, not, if◌then◌else◌}
use Rattle.std.proofs.lemmas.Bool.{false≢true, cond-true, cond-false}
use Rattle.rich_text.specs.Forms.{Form}
use Rattle.rich_text.specs.Tokens.{Token, Opening, Closing, Word, Quoted, Unended}
use Rattle.rich_text.specs.Numbers.{NumberRange, Number, Within, OutOfRange, NoNumber, number_of}
use Rattle.rich_text.specs.Grammars.{Part, a_number, a_name, a_form, PartValue, Fields, done, one, many, parts, PartsValue, begins, apart, IsRun, IsParts, Row, Shape, Grammar, Has, Joined, IsEach, SpellsFields, SpellsRow, SpellsInside, SpellsForm, SpellsNumber, SpellsPart}
use Rattle.rich_text.specs.Reading.{Stop, Reader, and_then, ◌>>=◌, give, fail_at, look_up, read_close, read_name, number_or, read_number, read_many, read_run, read_last, read_parts, read_fields, read_row, row_or, headed, read_inside, word_or, has_lists, opens, read_form, read_part}
use Rattle.rich_text_laws.proofs.Looking.{from_look, to_look, is_distinct}

-- tokens at the front that spell a value, and what is behind them
pub record Took (P : List Token → Type 0) (ts rest : List Token) : Type 0 where
  pub front : List Token
  pub is : ts ≡ front ++ rest
  pub holds : P front

pub record Exact {A : Type 0} (read : Reader A) (P : A → List Token → Type 0) : Type 0 where
  pub sound : (ts rest : List Token) (a : A) → read ts ≡ Ok (a, rest) → Took (P a) ts rest
  pub complete : (front rest : List Token) (a : A) → P a front → read (front ++ rest) ≡ Ok (a, rest)

-- tokens that begin with no `)`
abbrev pub Starts : List Token → Type 0
Starts [] = ⊥
Starts (Closing ∷ ts) = ⊥
Starts (t ∷ ts) = ⊤

ok_one : {X E : Type 0} (x y : X) → ◌≡◌ {A = Result X E} (Ok x) (Ok y) → x ≡ y
ok_one x y e = cc

pub read_one : {A : Type 0} (a b : A) (i j : List Token) → ◌≡◌ {A = Result (A × List Token) Stop} (Ok (a, i)) (Ok (b, j)) → (a ≡ b) × (i ≡ j)
read_one {A} a b i j e =
    let h = ok_one {X = A × List Token} {E = Stop} (a, i) (b, j) e in
    (ap (λ (r : A × List Token). r.0) h, ap (λ (r : A × List Token). r.1) h)

pub from_and_then : {A B : Type 0} (r : Result (A × List Token) Stop) (next : A → Reader B) (b : B) (rest : List Token) → and_then r next ≡ Ok (b, rest) → (a : A) × (middle : List Token) × (r ≡ Ok (a, middle)) × (next a middle ≡ Ok (b, rest))
from_and_then (Ok r) next b rest e = (r.0, r.1, refl, e)
from_and_then (Err fault) next b rest e = absurd (cc)

-- one token that was taken
took_one : {A : Type 0} (P : A → List Token → Type 0) (t : Token) (ts rest : List Token) (a b : A) → ◌≡◌ {A = Result (A × List Token) Stop} (Ok (a, ts)) (Ok (b, rest)) → P a (t ∷ []) → Took (P b) (t ∷ ts) rest
took_one P t ts rest a b e p =
    let same = read_one a b ts rest e in
    record { front = t ∷ []; is = ap (λ (us : List Token). t ∷ us) same.1; holds = subst (λ c. P c (t ∷ [])) same.0 p }

-- a `)`
pub close : Exact read_close (λ a ts. ts ≡ Closing ∷ [])
close = record { sound = close_sound; complete = λ front rest a p. subst (λ (ts : List Token). read_close (ts ++ rest) ≡ Ok (a, rest)) (sym p) refl }
  where
    close_sound : (ts rest : List Token) (a : Unit {0}) → read_close ts ≡ Ok (a, rest) → Took (λ us. us ≡ Closing ∷ []) ts rest
    close_sound [] rest a e = absurd (cc e)
    close_sound (Closing ∷ ts) rest a e = took_one (λ (c : Unit {0}) us. us ≡ Closing ∷ []) Closing ts rest tt a e refl
    close_sound (Opening ∷ ts) rest a e = absurd (cc e)
    close_sound (Word w ∷ ts) rest a e = absurd (cc e)
    close_sound (Quoted n ∷ ts) rest a e = absurd (cc e)

pub name : Exact read_name (λ v ts. ts ≡ Quoted v ∷ [])
name = record { sound = name_sound; complete = λ front rest a p. subst (λ (ts : List Token). read_name (ts ++ rest) ≡ Ok (a, rest)) (sym p) refl }
  where
    name_sound : (ts rest : List Token) (a : List ℕ) → read_name ts ≡ Ok (a, rest) → Took (λ us. us ≡ Quoted a ∷ []) ts rest
    name_sound [] rest a e = absurd (cc e)
    name_sound (Closing ∷ ts) rest a e = absurd (cc e)
    name_sound (Opening ∷ ts) rest a e = absurd (cc e)
    name_sound (Word w ∷ ts) rest a e = absurd (cc e)
    name_sound (Quoted n ∷ ts) rest a e = took_one (λ (v : List ℕ) us. us ≡ Quoted v ∷ []) (Quoted n) ts rest n a e refl

number_case : (k : NumberRange) (r : Number) (w : List ℕ) (ts rest : List Token) (n : ℕ) → number_of k w ≡ r → number_or r w ts ≡ Ok (n, rest) → Took (SpellsNumber k n) (Word w ∷ ts) rest
number_case k (Within m) w ts rest n is e = took_one (SpellsNumber k) (Word w) ts rest m n e (w, is, refl)
number_case k OutOfRange w ts rest n is e = absurd (cc e)
number_case k NoNumber w ts rest n is e = absurd (cc e)

pub number : (k : NumberRange) → Exact (read_number k) (SpellsNumber k)
number k = record {
  sound = number_sound;
  complete = λ front rest n p. subst (λ (ts : List Token). read_number k (ts ++ rest) ≡ Ok (n, rest)) (sym p.2) (ap (λ r. number_or r p.0 rest) p.1);
}
  where
    number_sound : (ts rest : List Token) (n : ℕ) → read_number k ts ≡ Ok (n, rest) → Took (SpellsNumber k n) ts rest
    number_sound [] rest a e = absurd (cc e)
    number_sound (Closing ∷ ts) rest a e = absurd (cc e)
    number_sound (Opening ∷ ts) rest a e = absurd (cc e)
    number_sound (Word w ∷ ts) rest a e = number_case k (number_of k w) w ts rest a refl e
    number_sound (Quoted n ∷ ts) rest a e = absurd (cc e)

took_joined : {P Q : List Token → Type 0} {ts middle rest : List Token} → Took P ts middle → Took Q middle rest → Took (Joined P Q) ts rest
took_joined {rest = rest} s t = record {
  front = s.front ++ t.front;
  is = s.is ∙ ap (λ (us : List Token). s.front ++ us) t.is ∙ sym (append_assoc s.front t.front rest);
  holds = record { front = s.front; back = t.front; first = s.holds; second = t.holds; whole = refl };
}

-- tokens of two parts and more behind them
rejoined : {P Q : List Token → Type 0} (ts rest : List Token) (j : Joined P Q ts) → j.front ++ (j.back ++ rest) ≡ ts ++ rest
rejoined ts rest j = sym (ap (λ (us : List Token). us ++ rest) j.whole ∙ append_assoc j.front j.back rest)

pub pair : {A B : Type 0} {first : Reader A} {next : Reader B} {P : A → List Token → Type 0} {Q : B → List Token → Type 0} → Exact first P → Exact next Q → Exact (first >>= λ a. next >>= λ b. give (a, b)) (λ (v : A × B) ts. Joined (P v.0) (Q v.1) ts)
pair {A} {B} {first = first} {next = next} {P = P} {Q = Q} k l = record {
  sound = λ ts rest v e.
      let r = from_and_then (first ts) (λ a. next >>= λ b. give (a, b)) v rest e in
      let s = from_and_then (next r.1) (λ b. give (r.0, b)) v rest r.3 in
      let same = read_one (r.0, s.0) v s.1 rest s.3 in
      let t = k.sound ts r.1 r.0 r.2 in
      let u = l.sound r.1 s.1 s.0 s.2 in
      let whole = took_joined t u in
      subst (λ (w : A × B). Took (Joined (P w.0) (Q w.1)) ts rest) same.0 (subst (λ (us : List Token). Took (Joined (P r.0) (Q s.0)) ts us) same.1 whole);
  complete = λ front rest v j.
      subst (λ (us : List Token). and_then (first us) (λ a. next >>= λ b. give (a, b)) ≡ Ok (v, rest)) (rejoined front rest j)
      (ap (λ r. and_then r (λ a. next >>= λ b. give (a, b))) (k.complete j.front (j.back ++ rest) v.0 j.first)
      ∙ ap (λ r. and_then r (λ b. give (v.0, b))) (l.complete j.back rest v.1 j.second));
}

-- a value that is made of what was read
pub making : {A B : Type 0} {first : Reader A} {P : A → List Token → Type 0} (make : A → B) → Exact first P → Exact (first >>= λ a. give (make a)) (λ b ts. (a : A) × (b ≡ make a) × P a ts)
making {A} {B} {first = first} {P = P} make k = record {
  sound = λ ts rest b e.
      let r = from_and_then (first ts) (λ a. give (make a)) b rest e in
      let same = read_one (make r.0) b r.1 rest r.3 in
      let t = k.sound ts r.1 r.0 r.2 in
      record { front = t.front; is = t.is ∙ ap (λ (us : List Token). t.front ++ us) same.1; holds = (r.0, sym same.0, t.holds) };
  complete = λ front rest b p.
      ap (λ r. and_then r (λ a. give (make a))) (k.complete front rest p.0 p.2) ∙ ap (λ (c : B). let r : Result (B × List Token) Stop = Ok (c, rest) in r) (sym p.1);
}

-- values up to a `)`
many_more : {A : Type 0} {item : Reader A} {P : A → List Token → Type 0} → Exact item P → (fuel : ℕ) → ((ts rest : List Token) (xs : List A) → read_many item fuel ts ≡ Ok (xs, rest) → Took (IsEach P xs) ts rest) →
    (ts rest : List Token) (xs : List A) → (item >>= λ x. read_many item fuel >>= λ ys. give (x ∷ ys)) ts ≡ Ok (xs, rest) → Took (IsEach P xs) ts rest
many_more {A} {item} {P} k fuel again ts rest xs e =
    let r = from_and_then (item ts) (λ x. read_many item fuel >>= λ ys. give (x ∷ ys)) xs rest e in
    let s = from_and_then (read_many item fuel r.1) (λ ys. give (r.0 ∷ ys)) xs rest r.3 in
    let same = read_one (r.0 ∷ s.0) xs s.1 rest s.3 in
    let whole = took_joined (k.sound ts r.1 r.0 r.2) (again r.1 s.1 s.0 s.2) in
    subst (λ (ys : List A). Took (IsEach P ys) ts rest) same.0 (subst (λ (us : List Token). Took (Joined (P r.0) (IsEach P s.0)) ts us) same.1 whole)

many_sound : {A : Type 0} {item : Reader A} {P : A → List Token → Type 0} → Exact item P → (fuel : ℕ) (ts rest : List Token) (xs : List A) → read_many item fuel ts ≡ Ok (xs, rest) → Took (IsEach P xs) ts rest
many_sound k zero ts rest xs e = absurd (cc e)
many_sound k (suc fuel) [] rest xs e = absurd (cc e)
many_sound {A} {item} {P} k (suc fuel) (Closing ∷ ts) rest xs e = took_one (IsEach P) Closing ts rest [] xs e refl
many_sound k (suc fuel) (Opening ∷ ts) rest xs e = many_more k fuel (many_sound k fuel) (Opening ∷ ts) rest xs e
many_sound k (suc fuel) (Word w ∷ ts) rest xs e = many_more k fuel (many_sound k fuel) (Word w ∷ ts) rest xs e
many_sound k (suc fuel) (Quoted n ∷ ts) rest xs e = many_more k fuel (many_sound k fuel) (Quoted n ∷ ts) rest xs e

many_here : {A : Type 0} (item : Reader A) (fuel : ℕ) (front back : List Token) → Starts front → read_many item (suc fuel) (front ++ back) ≡ (item >>= λ x. read_many item fuel >>= λ ys. give (x ∷ ys)) (front ++ back)
many_here item fuel [] back s = absurd s
many_here item fuel (Closing ∷ ts) back s = absurd s
many_here item fuel (Opening ∷ ts) back s = refl
many_here item fuel (Word w ∷ ts) back s = refl
many_here item fuel (Quoted n ∷ ts) back s = refl

starts_some : (ts : List Token) → Starts ts → 1 ≤ length ts
starts_some [] s = absurd s
starts_some (t ∷ ts) s = omega arith

many_complete : {A : Type 0} {item : Reader A} {P : A → List Token → Type 0} → Exact item P → ((a : A) (ts : List Token) → P a ts → Starts ts) → (fuel : ℕ) (xs : List A) (front rest : List Token) → length front ≤ fuel → IsEach P xs front → read_many item fuel (front ++ rest) ≡ Ok (xs, rest)
many_complete k starts zero [] front rest l p = absurd (omega (arith, ap length p))
many_complete k starts zero (x ∷ xs) front rest l p = absurd (omega (arith, ap length p.whole, length-append p.front p.back, starts_some p.front (starts x p.front p.first)))
many_complete {A} {item} {P} k starts (suc fuel) [] front rest l p = subst (λ (ts : List Token). read_many item (suc fuel) (ts ++ rest) ≡ Ok ([], rest)) (sym p) refl
many_complete {A} {item} {P} k starts (suc fuel) (x ∷ xs) front rest l p =
    let s = starts x p.front p.first in
    let less : length p.back ≤ fuel = omega (arith, l, ap length p.whole, length-append p.front p.back, starts_some p.front s) in
    subst (λ (us : List Token). read_many item (suc fuel) us ≡ Ok (x ∷ xs, rest)) (rejoined front rest p)
    (many_here item fuel p.front (p.back ++ rest) s
    ∙ ap (λ r. and_then r (λ y. read_many item fuel >>= λ ys. give (y ∷ ys))) (k.complete p.front (p.back ++ rest) x p.first)
    ∙ ap (λ r. and_then r (λ ys. give (x ∷ ys))) (many_complete k starts fuel xs p.back rest less p.second))

pub several : {A : Type 0} {item : Reader A} {P : A → List Token → Type 0} → Exact item P → ((a : A) (ts : List Token) → P a ts → Starts ts) → Exact (λ ts. read_many item (length ts) ts) (IsEach P)
several k starts = record {
  sound = λ ts rest xs e. many_sound k (length ts) ts rest xs e;
  complete = λ front rest xs p. many_complete k starts (length (front ++ rest)) xs front rest (omega (arith, length-append front rest)) p;
}

-- things that are read exactly, and begin with no `)`
pub record Things (item : (k : Part) → Reader (PartValue k)) (P : (k : Part) → PartValue k → List Token → Type 0) : Type 0 where
  pub exact : (k : Part) → Exact (item k) (P k)
  pub starts : (k : Part) (v : PartValue k) (ts : List Token) → P k v ts → Starts ts

-- tokens that begin with `)`, or with `(` and a word
abbrev pub Ready : List Token → Type 0
Ready (Closing ∷ ts) = ⊤
Ready (Opening ∷ Word u ∷ ts) = ⊤
Ready _ = ⊥

begins_ready : (w : List ℕ) (ts : List Token) → begins w ts ≡ true → Ready ts
begins_ready w (Opening ∷ Word u ∷ ts) e = tt
begins_ready w [] e = absurd (false≢true e)
begins_ready w (Closing ∷ ts) e = tt
begins_ready w (Word u ∷ ts) e = absurd (false≢true e)
begins_ready w (Quoted u ∷ ts) e = absurd (false≢true e)
begins_ready w (Opening ∷ []) e = absurd (false≢true e)
begins_ready w (Opening ∷ Opening ∷ ts) e = absurd (false≢true e)
begins_ready w (Opening ∷ Closing ∷ ts) e = absurd (false≢true e)
begins_ready w (Opening ∷ Quoted u ∷ ts) e = absurd (false≢true e)

apart_ready : (w : List ℕ) (ts : List Token) → apart w ts ≡ true → Ready ts
apart_ready w (Opening ∷ Word u ∷ ts) e = tt
apart_ready w [] e = absurd (false≢true e)
apart_ready w (Closing ∷ ts) e = tt
apart_ready w (Word u ∷ ts) e = absurd (false≢true e)
apart_ready w (Quoted u ∷ ts) e = absurd (false≢true e)
apart_ready w (Opening ∷ []) e = absurd (false≢true e)
apart_ready w (Opening ∷ Opening ∷ ts) e = absurd (false≢true e)
apart_ready w (Opening ∷ Closing ∷ ts) e = absurd (false≢true e)
apart_ready w (Opening ∷ Quoted u ∷ ts) e = absurd (false≢true e)

-- what tokens begin with does not hang on those behind them
begins_more : (w : List ℕ) (ts rest : List Token) → Ready ts → begins w (ts ++ rest) ≡ begins w ts
begins_more w [] rest r = absurd r
begins_more w (Closing ∷ ts) rest r = refl
begins_more w (Opening ∷ Word u ∷ ts) rest r = refl
begins_more w (Word u ∷ ts) rest r = absurd r
begins_more w (Quoted u ∷ ts) rest r = absurd r
begins_more w (Opening ∷ []) rest r = absurd r
begins_more w (Opening ∷ Opening ∷ ts) rest r = absurd r
begins_more w (Opening ∷ Closing ∷ ts) rest r = absurd r
begins_more w (Opening ∷ Quoted u ∷ ts) rest r = absurd r

not_true : (b : Bool) → not b ≡ true → b ≡ false
not_true true e = absurd (false≢true e)
not_true false e = refl

apart_no : (w : List ℕ) (ts : List Token) → Ready ts → apart w ts ≡ not (begins w ts)
apart_no w [] r = absurd r
apart_no w (Closing ∷ ts) r = refl
apart_no w (Opening ∷ Word u ∷ ts) r = refl
apart_no w (Word u ∷ ts) r = absurd r
apart_no w (Quoted u ∷ ts) r = absurd r
apart_no w (Opening ∷ []) r = absurd r
apart_no w (Opening ∷ Opening ∷ ts) r = absurd r
apart_no w (Opening ∷ Closing ∷ ts) r = absurd r
apart_no w (Opening ∷ Quoted u ∷ ts) r = absurd r

-- two tokens at least, of which more behind them do not change what they begin with
begins_two : (w : List ℕ) (front back rest : List Token) → Starts front → Ready back → begins w ((front ++ back) ++ rest) ≡ begins w (front ++ back)
begins_two w [] back rest s r = absurd s
begins_two w (Closing ∷ ts) back rest s r = absurd s
begins_two w (Word u ∷ ts) back rest s r = refl
begins_two w (Quoted u ∷ ts) back rest s r = refl
begins_two w (Opening ∷ Opening ∷ ts) back rest s r = refl
begins_two w (Opening ∷ Closing ∷ ts) back rest s r = refl
begins_two w (Opening ∷ Word u ∷ ts) back rest s r = refl
begins_two w (Opening ∷ Quoted u ∷ ts) back rest s r = refl
begins_two w (Opening ∷ []) [] rest s r = absurd r
begins_two w (Opening ∷ []) (Opening ∷ ts) rest s r = refl
begins_two w (Opening ∷ []) (Closing ∷ ts) rest s r = refl
begins_two w (Opening ∷ []) (Word u ∷ ts) rest s r = absurd r
begins_two w (Opening ∷ []) (Quoted u ∷ ts) rest s r = absurd r

run_ready : {A : Type 0} (P : A → List Token → Type 0) (Rest : List Token → Type 0) (w : List ℕ) (xs : List A) (ts : List Token) → IsRun P w Rest xs ts → Ready ts
run_ready P Rest w [] ts p = apart_ready w ts p.0
run_ready P Rest w (x ∷ xs) ts p = begins_ready w ts p.0

parts_ready : (P : (k : Part) → PartValue k → List Token → Type 0) (ps : List (Form × List ℕ)) (v : PartsValue ps) (ts : List Token) → IsParts P ps v ts → Ready ts
parts_ready P [] v ts p = subst Ready (sym p) tt
parts_ready P (q ∷ ps) v ts p = run_ready (P (a_form q.0)) (IsParts P ps v.1) q.1 v.0 ts p

run_test_sound : {A B : Type 0} {item : Reader A} {rest : Reader B} {P : A → List Token → Type 0} {R : B → List Token → Type 0} (w : List ℕ) → Exact item P → Exact rest R → ((a : A) (ts : List Token) → P a ts → Starts ts) → ((b : B) (ts : List Token) → R b ts → Ready ts) → (fuel : ℕ) → ((ts us : List Token) (v : List A × B) → read_run w item rest fuel ts ≡ Ok (v, us) → Took (IsRun P w (R v.1) v.0) ts us) →
    (test : Bool) (ts us : List Token) (v : List A × B) → begins w ts ≡ test → (if test then (item >>= λ x. read_run w item rest fuel >>= λ r. give (x ∷ r.0, r.1)) ts else (rest >>= λ b. give ([], b)) ts) ≡ Ok (v, us) → Took (IsRun P w (R v.1) v.0) ts us
unfolding took_joined
run_test_sound {A} {B} {item} {rest} {P} {R} w k l starts ready fuel again true ts us v is e =
    let r = from_and_then (item ts) (λ x. read_run w item rest fuel >>= λ r. give (x ∷ r.0, r.1)) v us e in
    let s = from_and_then (read_run w item rest fuel r.1) (λ q. give (r.0 ∷ q.0, q.1)) v us r.3 in
    let same = read_one (r.0 ∷ s.0.0, s.0.1) v s.1 us s.3 in
    let t = k.sound ts r.1 r.0 r.2 in
    let u = again r.1 s.1 s.0 s.2 in
    let both = took_joined t u in
    let test = sym (begins_two w t.front u.front s.1 (starts r.0 t.front t.holds) (run_ready P (R s.0.1) w s.0.0 u.front u.holds)) ∙ ap (begins w) (sym both.is) ∙ is in
    let all : Took (IsRun P w (R s.0.1) (r.0 ∷ s.0.0)) ts s.1 = record { front = both.front; is = both.is; holds = (test, both.holds) } in
    subst (λ (x : List A × B). Took (IsRun P w (R x.1) x.0) ts us) same.0 (subst (λ (vs : List Token). Took (IsRun P w (R s.0.1) (r.0 ∷ s.0.0)) ts vs) same.1 all)
run_test_sound {A} {B} {item} {rest} {P} {R} w k l starts ready fuel again false ts us v is e =
    let r = from_and_then (rest ts) (λ b. give ([], b)) v us e in
    let nil : List A = [] in
    let same = read_one (nil, r.0) v r.1 us r.3 in
    let t = l.sound ts r.1 r.0 r.2 in
    let h = ready r.0 t.front t.holds in
    let test = apart_no w t.front h ∙ ap not (sym (begins_more w t.front r.1 h) ∙ ap (begins w) (sym t.is) ∙ is) in
    let all : Took (IsRun P w (R r.0) nil) ts r.1 = record { front = t.front; is = t.is; holds = (test, t.holds) } in
    subst (λ (x : List A × B). Took (IsRun P w (R x.1) x.0) ts us) same.0 (subst (λ (vs : List Token). Took (IsRun P w (R r.0) nil) ts vs) same.1 all)

run_sound : {A B : Type 0} {item : Reader A} {rest : Reader B} {P : A → List Token → Type 0} {R : B → List Token → Type 0} (w : List ℕ) → Exact item P → Exact rest R → ((a : A) (ts : List Token) → P a ts → Starts ts) → ((b : B) (ts : List Token) → R b ts → Ready ts) → (fuel : ℕ) (ts us : List Token) (v : List A × B) → read_run w item rest fuel ts ≡ Ok (v, us) → Took (IsRun P w (R v.1) v.0) ts us
run_sound w k l starts ready zero ts us v e = absurd (cc e)
run_sound w k l starts ready (suc fuel) ts us v e = run_test_sound w k l starts ready fuel (run_sound w k l starts ready fuel) (begins w ts) ts us v refl e

run_complete : {A B : Type 0} {item : Reader A} {rest : Reader B} {P : A → List Token → Type 0} {R : B → List Token → Type 0} (w : List ℕ) → Exact item P → Exact rest R → ((a : A) (ts : List Token) → P a ts → Starts ts) → (fuel : ℕ) (xs : List A) (b : B) (front us : List Token) → suc (length front) ≤ fuel → IsRun P w (R b) xs front → read_run w item rest fuel (front ++ us) ≡ Ok ((xs, b), us)
run_complete w k l starts zero xs b front us m p = absurd (omega (arith, m))
run_complete {A} {B} {item} {rest} w k l starts (suc fuel) [] b front us m p =
    let ready = apart_ready w front p.0 in
    cond-false (begins w (front ++ us)) _ _ (begins_more w front us ready ∙ not_true (begins w front) (sym (apart_no w front ready) ∙ p.0))
    ∙ ap (λ r. and_then r (λ c. give {A = List A × B} ([], c))) (l.complete front us b p.1)
run_complete {A} {B} {item} {rest} w k l starts (suc fuel) (x ∷ xs) b front us m p =
    let j = p.1 in
    let less : suc (length j.back) ≤ fuel = omega (arith, m, ap length j.whole, length-append j.front j.back, starts_some j.front (starts x j.front j.first)) in
    cond-true (begins w (front ++ us)) _ _ (begins_more w front us (begins_ready w front p.0) ∙ p.0)
    ∙ subst (λ (vs : List Token). and_then (item vs) (λ y. read_run w item rest fuel >>= λ r. give {A = List A × B} (y ∷ r.0, r.1)) ≡ Ok ((x ∷ xs, b), us)) (rejoined front us j)
    (ap (λ r. and_then r (λ y. read_run w item rest fuel >>= λ q. give {A = List A × B} (y ∷ q.0, q.1))) (k.complete j.front (j.back ++ us) x j.first)
    ∙ ap (λ r. and_then r (λ q. give {A = List A × B} (x ∷ q.0, q.1))) (run_complete w k l starts fuel xs b j.back us less j.second))

last : Exact read_last (λ a ts. ts ≡ Closing ∷ [])
last = record { sound = last_sound; complete = λ front rest a p. subst (λ (ts : List Token). read_last (ts ++ rest) ≡ Ok (a, rest)) (sym p) refl }
  where
    last_sound : (ts rest : List Token) (a : Unit {0}) → read_last ts ≡ Ok (a, rest) → Took (λ us. us ≡ Closing ∷ []) ts rest
    last_sound [] rest a e = absurd (cc e)
    last_sound (Closing ∷ ts) rest a e = took_one (λ (c : Unit {0}) us. us ≡ Closing ∷ []) Closing ts rest tt a e refl
    last_sound (Opening ∷ []) rest a e = absurd (cc e)
    last_sound (Opening ∷ t ∷ ts) rest a e = absurd (cc e)
    last_sound (Word w ∷ ts) rest a e = absurd (cc e)
    last_sound (Quoted n ∷ ts) rest a e = absurd (cc e)

pub in_parts : {item : (k : Part) → Reader (PartValue k)} {P : (k : Part) → PartValue k → List Token → Type 0} → Things item P → (ps : List (Form × List ℕ)) → Exact (read_parts item ps) (IsParts P ps)
in_parts h [] = last
in_parts {item} {P} h (p ∷ ps) = record {
  sound = λ ts us v e. run_sound p.1 (h.exact (a_form p.0)) (in_parts h ps) (h.starts (a_form p.0)) (parts_ready P ps) (suc (length ts)) ts us v e;
  complete = λ front us v q. run_complete p.1 (h.exact (a_form p.0)) (in_parts h ps) (h.starts (a_form p.0)) (suc (length (front ++ us))) v.0 v.1 front us (omega (arith, length-append front us)) q;
}

pub fields : {item : (k : Part) → Reader (PartValue k)} {P : (k : Part) → PartValue k → List Token → Type 0} → Things item P → (f : Fields) → Exact (read_fields item f) (SpellsFields P f)
fields h done = close
fields h (one k f) = pair (h.exact k) (fields h f)
fields h (many k) = several (h.exact k) (h.starts k)
fields h (parts ps) = in_parts h ps

pub row : {item : (k : Part) → Reader (PartValue k)} {P : (k : Part) → PartValue k → List Token → Type 0} → Things item P → {X : Type 0} (r : Row X) → Exact (read_row item r) (SpellsRow P r)
row h r = making r.make (fields h r.fields)

-- no form begins with a word where one begins with none, and each word stands once
pub record IsSorted {X : Type 0} (shape : Shape X) : Type 0 where
  pub words : is_distinct shape.words ≡ true
  pub heads : is_distinct shape.heads ≡ true
  pub apart : (r : Row X) → shape.plain ≡ Some r → shape.heads ≡ []

plain_sound : {item : (k : Part) → Reader (PartValue k)} {P : (k : Part) → PartValue k → List Token → Type 0} → Things item P → {X : Type 0} (shape : Shape X) (plain : Option (Row X)) (ts rest : List Token) (x : X) → shape.plain ≡ plain → row_or item plain ts ≡ Ok (x, rest) → Took (SpellsInside P shape x) ts rest
plain_sound h shape (Some r) ts rest x is e =
    let t = (row h r).sound ts rest x e in
    record { front = t.front; is = t.is; holds = inr (r, is, t.holds) }
plain_sound h shape None [] rest x is e = absurd (cc e)
plain_sound h shape None (t ∷ ts) rest x is e = absurd (cc e)

headed_sound : {item : (k : Part) → Reader (PartValue k)} {P : (k : Part) → PartValue k → List Token → Type 0} → Things item P → {X : Type 0} (shape : Shape X) (found : Option (Row X)) (w : List ℕ) (ts rest : List Token) (x : X) → look_up w shape.heads ≡ found → headed item found shape.plain (Word w) ts ≡ Ok (x, rest) → Took (SpellsInside P shape x) (Word w ∷ ts) rest
headed_sound h shape (Some r) w ts rest x is e =
    let t = (row h r).sound ts rest x e in
    record { front = Word w ∷ t.front; is = ap (λ (us : List Token). Word w ∷ us) t.is; holds = inl (w, t.front, r, from_look shape.heads w r is, t.holds, refl) }
headed_sound h shape None w ts rest x is e = plain_sound h shape shape.plain (Word w ∷ ts) rest x refl e

headed_none : (item : (k : Part) → Reader (PartValue k)) {X : Type 0} (shape : Shape X) (r : Row X) → shape.plain ≡ Some r → shape.heads ≡ [] → (ts : List Token) → read_inside item shape ts ≡ read_row item r ts
headed_none item {X} shape r is none [] = ap (λ (p : Option (Row X)). row_or item p []) is
headed_none item {X} shape r is none (Opening ∷ ts) = ap (λ (p : Option (Row X)). row_or item p (Opening ∷ ts)) is
headed_none item {X} shape r is none (Closing ∷ ts) = ap (λ (p : Option (Row X)). row_or item p (Closing ∷ ts)) is
headed_none item {X} shape r is none (Quoted n ∷ ts) = ap (λ (p : Option (Row X)). row_or item p (Quoted n ∷ ts)) is
headed_none item {X} shape r is none (Word w ∷ ts) =
    ap (λ (t : List (List ℕ × Row X)). headed item (look_up w t) shape.plain (Word w) ts) none
    ∙ ap (λ (p : Option (Row X)). row_or item p (Word w ∷ ts)) is

inside_sound : {item : (k : Part) → Reader (PartValue k)} {P : (k : Part) → PartValue k → List Token → Type 0} → Things item P → {X : Type 0} (shape : Shape X) (ts rest : List Token) (x : X) → read_inside item shape ts ≡ Ok (x, rest) → Took (SpellsInside P shape x) ts rest
inside_sound h shape [] rest x e = plain_sound h shape shape.plain [] rest x refl e
inside_sound h shape (Opening ∷ ts) rest x e = plain_sound h shape shape.plain (Opening ∷ ts) rest x refl e
inside_sound h shape (Closing ∷ ts) rest x e = plain_sound h shape shape.plain (Closing ∷ ts) rest x refl e
inside_sound h shape (Quoted n ∷ ts) rest x e = plain_sound h shape shape.plain (Quoted n ∷ ts) rest x refl e
inside_sound h shape (Word w ∷ ts) rest x e = headed_sound h shape (look_up w shape.heads) w ts rest x refl e

inside_complete : {item : (k : Part) → Reader (PartValue k)} {P : (k : Part) → PartValue k → List Token → Type 0} → Things item P → {X : Type 0} (shape : Shape X) → IsSorted shape → (front rest : List Token) (x : X) → SpellsInside P shape x front → read_inside item shape (front ++ rest) ≡ Ok (x, rest)
inside_complete {item} h {X} shape sorted front rest x (inl p) =
    subst (λ (us : List Token). read_inside item shape (us ++ rest) ≡ Ok (x, rest)) (sym p.5)
    (ap (λ (f : Option (Row X)). headed item f shape.plain (Word p.0) (p.1 ++ rest)) (to_look shape.heads p.0 p.2 sorted.heads p.3)
    ∙ (row h p.2).complete p.1 rest x p.4)
inside_complete {item} h shape sorted front rest x (inr p) = headed_none item shape p.0 p.1 (sorted.apart p.0 p.1) (front ++ rest) ∙ (row h p.0).complete front rest x p.2

pub inside : {item : (k : Part) → Reader (PartValue k)} {P : (k : Part) → PartValue k → List Token → Type 0} → Things item P → {X : Type 0} (shape : Shape X) → IsSorted shape → Exact (read_inside item shape) (SpellsInside P shape)
inside h shape sorted = record { sound = inside_sound h shape; complete = inside_complete h shape sorted }

words_sound : {X : Type 0} (shape : Shape X) (P : X → List Token → Type 0) (found : Option X) (w : List ℕ) (ts rest : List Token) (x : X) → look_up w shape.words ≡ found → word_or found (Word w) ts ≡ Ok (x, rest) → Took (SpellsForm (P x) shape x) (Word w ∷ ts) rest
words_sound shape P (Some y) w ts rest x is e = took_one (λ z us. SpellsForm (P z) shape z us) (Word w) ts rest y x e (inl (w, from_look shape.words w y is, refl))
words_sound shape P None w ts rest x is e = absurd (cc e)

opens_sound : {X : Type 0} {read : Reader X} (shape : Shape X) (P : X → List Token → Type 0) → Exact read P → (b : Bool) (ts rest : List Token) (x : X) → opens b read ts ≡ Ok (x, rest) → Took (SpellsForm (P x) shape x) (Opening ∷ ts) rest
opens_sound shape P k true ts rest x e =
    let t = k.sound ts rest x e in
    record { front = Opening ∷ t.front; is = ap (λ (us : List Token). Opening ∷ us) t.is; holds = inr (t.front, t.holds, refl) }
opens_sound shape P k false ts rest x e = absurd (cc e)

sort_sound : {X : Type 0} {read : Reader X} (shape : Shape X) (P : X → List Token → Type 0) → Exact read P → (ts rest : List Token) (x : X) → read_form read shape ts ≡ Ok (x, rest) → Took (SpellsForm (P x) shape x) ts rest
sort_sound shape P k [] rest x e = absurd (cc e)
sort_sound shape P k (Closing ∷ ts) rest x e = absurd (cc e)
sort_sound shape P k (Quoted n ∷ ts) rest x e = absurd (cc e)
sort_sound shape P k (Word w ∷ ts) rest x e = words_sound shape P (look_up w shape.words) w ts rest x refl e
sort_sound shape P k (Opening ∷ ts) rest x e = opens_sound shape P k (has_lists shape.heads shape.plain) ts rest x e

sort_complete : {X : Type 0} {read : Reader X} (shape : Shape X) (P : X → List Token → Type 0) → IsSorted shape → Exact read P → ((x : X) (ts : List Token) → P x ts → has_lists shape.heads shape.plain ≡ true) → (front rest : List Token) (x : X) → SpellsForm (P x) shape x front → read_form read shape (front ++ rest) ≡ Ok (x, rest)
sort_complete {X} {read} shape P sorted k lists front rest x (inl p) =
    subst (λ (us : List Token). read_form read shape (us ++ rest) ≡ Ok (x, rest)) (sym p.2)
    (ap (λ (f : Option X). word_or f (Word p.0) rest) (to_look shape.words p.0 x sorted.words p.1))
sort_complete {X} {read} shape P sorted k lists front rest x (inr p) =
    subst (λ (us : List Token). read_form read shape (us ++ rest) ≡ Ok (x, rest)) (sym p.2)
    (ap (λ (b : Bool). opens b read (p.0 ++ rest)) (lists x p.0 p.1) ∙ k.complete p.0 rest x p.1)

pub has_heads : {X : Type 0} (heads : List (List ℕ × Row X)) (plain : Option (Row X)) (w : List ℕ) (r : Row X) → Has heads w r → has_lists heads plain ≡ true
has_heads [] plain w r h = absurd h
has_heads (e ∷ es) plain w r h = refl

has_plain : {X : Type 0} (heads : List (List ℕ × Row X)) (plain : Option (Row X)) (r : Row X) → plain ≡ Some r → has_lists heads plain ≡ true
has_plain [] None r e = absurd (cc e)
has_plain [] (Some q) r e = refl
has_plain (h ∷ hs) plain r e = refl

inside_lists : (P : (k : Part) → PartValue k → List Token → Type 0) {X : Type 0} (shape : Shape X) (x : X) (ts : List Token) → SpellsInside P shape x ts → has_lists shape.heads shape.plain ≡ true
inside_lists P shape x ts (inl p) = has_heads shape.heads shape.plain p.0 p.2 p.3
inside_lists P shape x ts (inr p) = has_plain shape.heads shape.plain p.0 p.1

nothing : {X : Type 0} → Exact (λ ts. fail_at {A = X} Unended ts) (λ x ts. ⊥)
nothing = record { sound = λ ts rest x e. absurd (cc e); complete = λ front rest x p. absurd p }

pub starts : (G : Grammar) (n : ℕ) (k : Part) (v : PartValue k) (ts : List Token) → SpellsPart G n k v ts → Starts ts
starts G n (a_number k) v ts p = subst Starts (sym p.2) tt
starts G n a_name v ts p = subst Starts (sym p) tt
starts G zero (a_form s) v ts (inl p) = subst Starts (sym p.2) tt
starts G zero (a_form s) v ts (inr p) = subst Starts (sym p.2) tt
starts G (suc n) (a_form s) v ts (inl p) = subst Starts (sym p.2) tt
starts G (suc n) (a_form s) v ts (inr p) = subst Starts (sym p.2) tt

-- a grammar whose tables are sorted is read exactly
pub exact : (G : Grammar) → ((s : Form) → IsSorted (G s)) → (n : ℕ) (k : Part) → Exact (read_part G n k) (SpellsPart G n k)
exact G sorted n (a_number k) = number k
exact G sorted n a_name = name
exact G sorted zero (a_form s) = record { sound = sort_sound (G s) (λ x ts. ⊥) nothing; complete = sort_complete (G s) (λ x ts. ⊥) (sorted s) nothing (λ x ts p. absurd p) }
exact G sorted (suc n) (a_form s) =
    let things : Things (read_part G n) (SpellsPart G n) = record { exact = exact G sorted n; starts = starts G n } in
    let k = inside things (G s) (sorted s) in
    record { sound = sort_sound (G s) (SpellsInside (SpellsPart G n) (G s)) k; complete = sort_complete (G s) (SpellsInside (SpellsPart G n) (G s)) (sorted s) k (λ x ts p. inside_lists (SpellsPart G n) (G s) x ts p) }
