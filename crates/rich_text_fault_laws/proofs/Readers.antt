-- Reading is local: two lists of tokens that share a front are read alike, up to what is read behind the front of the first.
use Rattle.std.proofs.Common.{◌≡◌, ℕ, zero, suc, ◌+◌, ◌<◌, ◌≤◌, Bool, true, false, List, [], ◌∷◌, ◌++◌, length, refl, sym, ap, subst, inl, inr, arith, length-append, Option, Some, None, Result, Ok, Err}
use Rattle.std.specs.Prelude.{⊤, if◌then◌else◌}
use Rattle.std.proofs.lemmas.Bool.{false≢true}
use Rattle.rich_text.specs.Forms.{Form}
use Rattle.rich_text.specs.Tokens.{Token, Opening, Closing, Word, Quoted, Fault, BadForm, NumberOut, Unended}
use Rattle.rich_text.specs.Numbers.{NumberRange, Number, Within, OutOfRange, NoNumber, number_of}
use Rattle.rich_text.specs.Grammars.{Part, a_number, a_name, a_form, PartValue, Fields, done, one, many, parts, begins, Row, Shape, Grammar, Has}
use Rattle.rich_text.specs.Reading.{Stop, Reader, and_then, ◌>>=◌, give, fail_at, look_up, read_close, read_name, number_or, read_number, read_many, read_run, read_last, read_parts, read_fields, read_row, row_or, headed, read_inside, word_or, has_lists, opens, read_form, read_part}
use Rattle.rich_text_laws.proofs.Looking.{from_look, present_case}

abbrev pub Read : Type 0 → Type 0
Read A = Result (A × List Token) Stop

-- a value that leaves less than so many tokens, or a fault at one of them or at their end
abbrev pub Falls : {A : Type 0} → ℕ → Read A → Type 0
Falls n (Ok r) = length r.1 < n
Falls n (Err e) = e.left ≤ n

-- at most so many
abbrev pub Leaves : {A : Type 0} → ℕ → Read A → Type 0
Leaves n (Ok r) = length r.1 ≤ n
Leaves n (Err e) = e.left ≤ n

abbrev stopped : Fault → ℕ → Stop
stopped fault n = record { fault = fault; left = n }

-- what was read of a front before some tokens and before others
pub data Shared {A : Type 0} (front a b : List Token) (x y : Read A) : Type 0 where
  value : (v : A) (rest : List Token) → length rest ≤ length front → x ≡ Ok (v, rest ++ a) → y ≡ Ok (v, rest ++ b) → Shared front a b x y
  fault : (why : Fault) (n : ℕ) → 0 < n → n ≤ length front → x ≡ Err (stopped why (n + length a)) → y ≡ Err (stopped why (n + length b)) → Shared front a b x y
  beyond : Leaves (length a) x → Shared front a b x y

pub record Steady {A : Type 0} (read : Reader A) : Type 0 where
  pub falls : (ts : List Token) → Falls (length ts) (read ts)
  pub shares : (front a b : List Token) → Shared front a b (read (front ++ a)) (read (front ++ b))

falls_leaves : {A : Type 0} (n : ℕ) (r : Read A) → Falls n r → Leaves n r
falls_leaves n (Ok r) h = omega (arith, h)
falls_leaves n (Err e) h = h

falls_more : {A : Type 0} (n m : ℕ) (r : Read A) → n ≤ m → Falls n r → Falls m r
falls_more n m (Ok r) l h = omega (arith, l, h)
falls_more n m (Err e) l h = omega (arith, l, h)

leaves_falls : {A : Type 0} (n m : ℕ) (r : Read A) → n < m → Leaves n r → Falls m r
leaves_falls n m (Ok r) l h = omega (arith, l, h)
leaves_falls n m (Err e) l h = omega (arith, l, h)

leaves_more : {A : Type 0} (n m : ℕ) (r : Read A) → n ≤ m → Leaves n r → Leaves m r
leaves_more n m (Ok r) l h = omega (arith, l, h)
leaves_more n m (Err e) l h = omega (arith, l, h)

-- reading on
leaves_then : {A B : Type 0} (n : ℕ) (r : Read A) (next : A → Reader B) → Leaves n r → ((v : A) (ts : List Token) → Leaves (length ts) (next v ts)) → Leaves n (and_then r next)
leaves_then n (Ok r) next h more = leaves_more (length r.1) n (next r.0 r.1) h (more r.0 r.1)
leaves_then n (Err e) next h more = h

falls_then : {A B : Type 0} (n : ℕ) (r : Read A) (next : A → Reader B) → Falls n r → ((v : A) (ts : List Token) → Leaves (length ts) (next v ts)) → Falls n (and_then r next)
falls_then n (Ok r) next h more = leaves_falls (length r.1) n (next r.0 r.1) h (more r.0 r.1)
falls_then n (Err e) next h more = h

-- at the first token of a front
fault_here : {A : Type 0} (why : Fault) (t : Token) (ts a b : List Token) → Shared {A = A} (t ∷ ts) a b (fail_at why (t ∷ (ts ++ a))) (fail_at why (t ∷ (ts ++ b)))
fault_here {A} why t ts a b =
    fault why (suc (length ts)) (omega arith) (omega arith) (counted a) (counted b)
  where
    counted : (c : List Token) → ◌≡◌ {A = Read A} (fail_at why (t ∷ (ts ++ c))) (Err (stopped why (suc (length ts) + length c)))
    counted c =
        let e : suc (length (ts ++ c)) ≡ suc (length ts) + length c = omega (arith, length-append ts c) in
        ap (λ n. let r : Read A = Err (stopped why n) in r) e

value_here : {A : Type 0} (v : A) (t : Token) (ts a b : List Token) → Shared {A = A} (t ∷ ts) a b (Ok (v, ts ++ a)) (Ok (v, ts ++ b))
value_here v t ts a b = value v ts (omega arith) refl refl

-- one token more before
longer : {A : Type 0} (t : Token) (ts a b : List Token) (x y : Read A) → Shared ts a b x y → Shared (t ∷ ts) a b x y
longer t ts a b x y (value v rest l e f) = value v rest (omega (arith, l)) e f
longer t ts a b x y (fault why n p l e f) = fault why n p (omega (arith, l)) e f
longer t ts a b x y (beyond h) = beyond h

wider : {A : Type 0} (ts us a b : List Token) (x y : Read A) → length ts ≤ length us → Shared ts a b x y → Shared us a b x y
wider ts us a b x y m (value v rest l e f) = value v rest (omega (arith, l, m)) e f
wider ts us a b x y m (fault why n p l e f) = fault why n p (omega (arith, l, m)) e f
wider ts us a b x y m (beyond h) = beyond h

-- reading on behind what is shared
shared_then : {A B : Type 0} (front a b : List Token) (x y : Read A) (next to : A → Reader B) → Shared front a b x y →
    ((v : A) (ts : List Token) → Leaves (length ts) (next v ts)) →
    ((v : A) (rest : List Token) → length rest ≤ length front → x ≡ Ok (v, rest ++ a) → y ≡ Ok (v, rest ++ b) → Shared rest a b (next v (rest ++ a)) (to v (rest ++ b))) → Shared front a b (and_then x next) (and_then y to)
shared_then {B = B} front a b x y next to (value v rest l e f) more again =
    subst (λ r. Shared front a b (and_then r next) (and_then y to)) (sym e)
    (subst (λ r. Shared front a b (next v (rest ++ a)) (and_then r to)) (sym f) (wider rest front a b _ _ l (again v rest l e f)))
shared_then {B = B} front a b x y next to (fault why n p l e f) more again = fault why n p l (ap (λ r. and_then r next) e) (ap (λ r. and_then r to) f)
shared_then front a b x y next to (beyond h) more again = beyond (leaves_then (length a) x next h more)

give_leaves : {A : Type 0} (v : A) (ts : List Token) → Leaves (length ts) (give v ts)
give_leaves v ts = omega arith

give_shares : {A : Type 0} (v : A) (rest a b : List Token) → Shared rest a b (give v (rest ++ a)) (give v (rest ++ b))
give_shares v rest a b = value v rest (omega arith) refl refl

making : {A B : Type 0} {first : Reader A} (make : A → B) → Steady first → Steady (first >>= λ a. give (make a))
making {first = first} make k = record {
  falls = λ ts. falls_then (length ts) (first ts) _ (k.falls ts) (λ v us. give_leaves (make v) us);
  shares = λ front a b. shared_then front a b (first (front ++ a)) (first (front ++ b)) _ _ (k.shares front a b) (λ v us. give_leaves (make v) us) (λ v rest l e f. give_shares (make v) rest a b);
}

pair : {A B : Type 0} {first : Reader A} {next : Reader B} → Steady first → Steady next → Steady {A = A × B} (first >>= λ a. next >>= λ b. give (a, b))
pair {A} {B} {first = first} {next = next} k l = record {
  falls = λ ts. falls_then (length ts) (first ts) _ (k.falls ts) later;
  shares = λ front a b. shared_then front a b (first (front ++ a)) (first (front ++ b)) _ _ (k.shares front a b) later
      (λ v rest m e f. shared_then rest a b (next (rest ++ a)) (next (rest ++ b)) _ _ (l.shares rest a b) (λ w us. give_leaves {A = A × B} (v, w) us) (λ w more n g h. give_shares {A = A × B} (v, w) more a b));
}
  where
    later : (v : A) (ts : List Token) → Leaves {A = A × B} (length ts) ((next >>= λ b. give (v, b)) ts)
    later v ts = leaves_then (length ts) (next ts) _ (falls_leaves (length ts) (next ts) (l.falls ts)) (λ w us. give_leaves {A = A × B} (v, w) us)

-- ---- single tokens

close : Steady read_close
close = record { falls = falls; shares = shares }
  where
    falls : (ts : List Token) → Falls (length ts) (read_close ts)
    falls [] = omega arith
    falls (Closing ∷ ts) = omega arith
    falls (Opening ∷ ts) = omega arith
    falls (Word w ∷ ts) = omega arith
    falls (Quoted n ∷ ts) = omega arith

    shares : (front a b : List Token) → Shared front a b (read_close (front ++ a)) (read_close (front ++ b))
    shares [] a b = beyond (falls_leaves (length a) (read_close a) (falls a))
    shares (Closing ∷ ts) a b = value_here tt Closing ts a b
    shares (Opening ∷ ts) a b = fault_here BadForm Opening ts a b
    shares (Word w ∷ ts) a b = fault_here BadForm (Word w) ts a b
    shares (Quoted n ∷ ts) a b = fault_here BadForm (Quoted n) ts a b

name : Steady read_name
name = record { falls = falls; shares = shares }
  where
    falls : (ts : List Token) → Falls (length ts) (read_name ts)
    falls [] = omega arith
    falls (Closing ∷ ts) = omega arith
    falls (Opening ∷ ts) = omega arith
    falls (Word w ∷ ts) = omega arith
    falls (Quoted n ∷ ts) = omega arith

    shares : (front a b : List Token) → Shared front a b (read_name (front ++ a)) (read_name (front ++ b))
    shares [] a b = beyond (falls_leaves (length a) (read_name a) (falls a))
    shares (Closing ∷ ts) a b = fault_here BadForm Closing ts a b
    shares (Opening ∷ ts) a b = fault_here BadForm Opening ts a b
    shares (Word w ∷ ts) a b = fault_here BadForm (Word w) ts a b
    shares (Quoted n ∷ ts) a b = value_here n (Quoted n) ts a b

number_falls : (n : Number) (w : List ℕ) (ts : List Token) → Falls (suc (length ts)) (number_or n w ts)
number_falls (Within n) w ts = omega arith
number_falls OutOfRange w ts = omega arith
number_falls NoNumber w ts = omega arith

number_shares : (n : Number) (w : List ℕ) (ts a b : List Token) → Shared (Word w ∷ ts) a b (number_or n w (ts ++ a)) (number_or n w (ts ++ b))
number_shares (Within n) w ts a b = value_here n (Word w) ts a b
number_shares OutOfRange w ts a b = fault_here NumberOut (Word w) ts a b
number_shares NoNumber w ts a b = fault_here BadForm (Word w) ts a b

number : (k : NumberRange) → Steady (read_number k)
number k = record { falls = falls; shares = shares }
  where
    falls : (ts : List Token) → Falls (length ts) (read_number k ts)
    falls [] = omega arith
    falls (Closing ∷ ts) = omega arith
    falls (Opening ∷ ts) = omega arith
    falls (Word w ∷ ts) = number_falls (number_of k w) w ts
    falls (Quoted n ∷ ts) = omega arith

    shares : (front a b : List Token) → Shared front a b (read_number k (front ++ a)) (read_number k (front ++ b))
    shares [] a b = beyond (falls_leaves (length a) (read_number k a) (falls a))
    shares (Closing ∷ ts) a b = fault_here BadForm Closing ts a b
    shares (Opening ∷ ts) a b = fault_here BadForm Opening ts a b
    shares (Word w ∷ ts) a b = number_shares (number_of k w) w ts a b
    shares (Quoted n ∷ ts) a b = fault_here BadForm (Quoted n) ts a b

-- ---- values up to a `)`

cons_leaves : {A : Type 0} (x : A) (r : Reader (List A)) → ((ts : List Token) → Leaves (length ts) (r ts)) → (ts : List Token) → Leaves (length ts) ((r >>= λ xs. give (x ∷ xs)) ts)
cons_leaves x r h ts = leaves_then (length ts) (r ts) _ (h ts) (λ w us. give_leaves (x ∷ w) us)

many_falls : {A : Type 0} {item : Reader A} → Steady item → (fuel : ℕ) (ts : List Token) → Falls (length ts) (read_many item fuel ts)
many_falls k zero ts = omega arith
many_falls k (suc fuel) [] = omega arith
many_falls k (suc fuel) (Closing ∷ ts) = omega arith
many_falls {item = item} k (suc fuel) (Opening ∷ ts) = falls_then (length (Opening ∷ ts)) (item (Opening ∷ ts)) _ (k.falls (Opening ∷ ts)) (λ x us. cons_leaves x (read_many item fuel) (λ vs. falls_leaves (length vs) _ (many_falls k fuel vs)) us)
many_falls {item = item} k (suc fuel) (Word w ∷ ts) = falls_then (length (Word w ∷ ts)) (item (Word w ∷ ts)) _ (k.falls (Word w ∷ ts)) (λ x us. cons_leaves x (read_many item fuel) (λ vs. falls_leaves (length vs) _ (many_falls k fuel vs)) us)
many_falls {item = item} k (suc fuel) (Quoted n ∷ ts) = falls_then (length (Quoted n ∷ ts)) (item (Quoted n ∷ ts)) _ (k.falls (Quoted n ∷ ts)) (λ x us. cons_leaves x (read_many item fuel) (λ vs. falls_leaves (length vs) _ (many_falls k fuel vs)) us)

-- an item takes a token
taken : {A : Type 0} (n : ℕ) (r : Read A) (v : A) (ts : List Token) → Falls n r → r ≡ Ok (v, ts) → length ts < n
taken n r v ts h e = subst (λ s. Falls n s) e h

-- an item, and what is read behind it
item_then : {A C D : Type 0} {item : Reader A} → Steady item → (next to : Reader C) (make : A → C → D) → ((ts : List Token) → Leaves (length ts) (next ts)) → (t : Token) (ts a b : List Token) →
    ((rest : List Token) → length (rest ++ a) ≤ length (ts ++ a) → length (rest ++ b) ≤ length (ts ++ b) → Shared rest a b (next (rest ++ a)) (to (rest ++ b))) →
    Shared (t ∷ ts) a b ((item >>= λ x. next >>= λ c. give (make x c)) (t ∷ (ts ++ a))) ((item >>= λ x. to >>= λ c. give (make x c)) (t ∷ (ts ++ b)))
item_then {item = item} k next to make h t ts a b again =
    shared_then (t ∷ ts) a b (item (t ∷ (ts ++ a))) (item (t ∷ (ts ++ b))) _ _ (k.shares (t ∷ ts) a b) (λ x us. leaves_then (length us) (next us) _ (h us) (λ w vs. give_leaves (make x w) vs))
    (λ v rest p e f.
    let less = taken (length (t ∷ (ts ++ a))) (item (t ∷ (ts ++ a))) v (rest ++ a) (k.falls (t ∷ (ts ++ a))) e in
    let fewer = taken (length (t ∷ (ts ++ b))) (item (t ∷ (ts ++ b))) v (rest ++ b) (k.falls (t ∷ (ts ++ b))) f in
    shared_then rest a b (next (rest ++ a)) (to (rest ++ b)) _ _ (again rest (omega (arith, less)) (omega (arith, fewer))) (λ w us. give_leaves (make v w) us) (λ w more q g h. give_shares (make v w) more a b))

many_shares : {A : Type 0} {item : Reader A} → Steady item → (n m : ℕ) (front a b : List Token) → length (front ++ a) ≤ n → length (front ++ b) ≤ m → Shared front a b (read_many item n (front ++ a)) (read_many item m (front ++ b))
many_shares {item = item} k n m [] a b l o = beyond (falls_leaves (length a) (read_many item n a) (many_falls k n a))
many_shares k zero m (t ∷ ts) a b l o = absurd (omega (arith, l))
many_shares k (suc n) zero (t ∷ ts) a b l o = absurd (omega (arith, o))
many_shares k (suc n) (suc m) (Closing ∷ ts) a b l o = value_here [] Closing ts a b
many_shares {item = item} k (suc n) (suc m) (Opening ∷ ts) a b l o =
    item_then k (read_many item n) (read_many item m) (λ x xs. x ∷ xs) (λ vs. falls_leaves (length vs) _ (many_falls k n vs)) Opening ts a b
    (λ rest g h. many_shares k n m rest a b (omega (arith, l, g)) (omega (arith, o, h)))
many_shares {item = item} k (suc n) (suc m) (Word w ∷ ts) a b l o =
    item_then k (read_many item n) (read_many item m) (λ x xs. x ∷ xs) (λ vs. falls_leaves (length vs) _ (many_falls k n vs)) (Word w) ts a b
    (λ rest g h. many_shares k n m rest a b (omega (arith, l, g)) (omega (arith, o, h)))
many_shares {item = item} k (suc n) (suc m) (Quoted w ∷ ts) a b l o =
    item_then k (read_many item n) (read_many item m) (λ x xs. x ∷ xs) (λ vs. falls_leaves (length vs) _ (many_falls k n vs)) (Quoted w) ts a b
    (λ rest g h. many_shares k n m rest a b (omega (arith, l, g)) (omega (arith, o, h)))

several : {A : Type 0} {item : Reader A} → Steady item → Steady (λ ts. read_many item (length ts) ts)
several k = record {
  falls = λ ts. many_falls k (length ts) ts;
  shares = λ front a b. many_shares k (length (front ++ a)) (length (front ++ b)) front a b (omega arith) (omega arith);
}

-- ---- lists by kind

-- behind a `(`, nothing is settled before the next token
abbrev pub Late : {A : Type 0} → Reader A → Type 0
Late read = (a : List Token) → Leaves (length a) (read (Opening ∷ a))

falls_if : {A : Type 0} (n : ℕ) (b : Bool) (x y : Read A) → Falls n x → Falls n y → Falls n (if b then x else y)
falls_if n true x y h g = h
falls_if n false x y h g = g

leaves_if : {A : Type 0} (n : ℕ) (b : Bool) (x y : Read A) → Leaves n x → Leaves n y → Leaves n (if b then x else y)
leaves_if n true x y h g = h
leaves_if n false x y h g = g

shared_if : {A : Type 0} (front a b : List Token) (c : Bool) (x y z w : Read A) → Shared front a b x z → Shared front a b y w → Shared front a b (if c then x else y) (if c then z else w)
shared_if front a b true x y z w h g = h
shared_if front a b false x y z w h g = g

module _ {A B : Type 0} {item : Reader A} {rest : Reader B} (w : List ℕ) (k : Steady item) (l : Steady rest) where
  run_falls : (fuel : ℕ) (ts : List Token) → Falls (length ts) (read_run w item rest fuel ts)
  run_falls zero ts = omega arith
  run_falls (suc fuel) ts =
      falls_if (length ts) (begins w ts) _ _
      (falls_then (length ts) (item ts) _ (k.falls ts) (λ x us. leaves_then (length us) (read_run w item rest fuel us) _ (falls_leaves (length us) _ (run_falls fuel us)) (λ r vs. give_leaves {A = List A × B} (x ∷ r.0, r.1) vs)))
      (falls_then (length ts) (rest ts) _ (l.falls ts) (λ r us. give_leaves {A = List A × B} ([], r) us))

  run_late : Late item → Late rest → (fuel : ℕ) → Late (read_run w item rest (suc fuel))
  run_late h g fuel a =
      leaves_if (length a) (begins w (Opening ∷ a)) _ _
      (leaves_then (length a) (item (Opening ∷ a)) _ (h a) (λ x us. leaves_then (length us) (read_run w item rest fuel us) _ (falls_leaves (length us) _ (run_falls fuel us)) (λ r vs. give_leaves {A = List A × B} (x ∷ r.0, r.1) vs)))
      (leaves_then (length a) (rest (Opening ∷ a)) _ (g a) (λ r us. give_leaves {A = List A × B} ([], r) us))

  abbrev RunShares : ℕ → ℕ → List Token → List Token → List Token → Type 0
  RunShares n m front a b = Shared front a b (read_run w item rest n (front ++ a)) (read_run w item rest m (front ++ b))

  run_test : (test : Bool) (n m : ℕ) (t : Token) (ts a b : List Token)
      → ((us : List Token) → length (us ++ a) ≤ length (ts ++ a) → length (us ++ b) ≤ length (ts ++ b) → RunShares n m us a b)
      → Shared {A = List A × B} (t ∷ ts) a b
      (if test then (item >>= λ x. read_run w item rest n >>= λ r. give (x ∷ r.0, r.1)) (t ∷ (ts ++ a)) else (rest >>= λ r. give ([], r)) (t ∷ (ts ++ a)))
      (if test then (item >>= λ x. read_run w item rest m >>= λ r. give (x ∷ r.0, r.1)) (t ∷ (ts ++ b)) else (rest >>= λ r. give ([], r)) (t ∷ (ts ++ b)))
  run_test test n m t ts a b again =
      shared_if (t ∷ ts) a b test _ _ _ _
      (item_then {D = List A × B} k (read_run w item rest n) (read_run w item rest m) (λ x r. (x ∷ r.0, r.1)) (λ vs. falls_leaves (length vs) _ (run_falls n vs)) t ts a b again)
      (shared_then (t ∷ ts) a b (rest (t ∷ (ts ++ a))) (rest (t ∷ (ts ++ b))) _ _ (l.shares (t ∷ ts) a b) (λ r us. give_leaves {A = List A × B} ([], r) us) (λ r us p e f. give_shares {A = List A × B} ([], r) us a b))

  run_shares : Late item → Late rest → (n m : ℕ) (front a b : List Token) → length (front ++ a) < n → length (front ++ b) < m → RunShares n m front a b
  run_shares h g n m [] a b i j = beyond (falls_leaves (length a) (read_run w item rest n a) (run_falls n a))
  run_shares h g zero m (t ∷ ts) a b i j = absurd (omega (arith, i))
  run_shares h g (suc n) zero (t ∷ ts) a b i j = absurd (omega (arith, j))
  run_shares h g (suc n) (suc m) (Opening ∷ []) a b i j = beyond (run_late h g n a)
  run_shares h g (suc n) (suc m) (Closing ∷ ts) a b i j = run_test false n m Closing ts a b (λ us p q. run_shares h g n m us a b (omega (arith, i, p)) (omega (arith, j, q)))
  run_shares h g (suc n) (suc m) (Word u ∷ ts) a b i j = run_test false n m (Word u) ts a b (λ us p q. run_shares h g n m us a b (omega (arith, i, p)) (omega (arith, j, q)))
  run_shares h g (suc n) (suc m) (Quoted u ∷ ts) a b i j = run_test false n m (Quoted u) ts a b (λ us p q. run_shares h g n m us a b (omega (arith, i, p)) (omega (arith, j, q)))
  run_shares h g (suc n) (suc m) (Opening ∷ Opening ∷ ts) a b i j = run_test false n m Opening (Opening ∷ ts) a b (λ us p q. run_shares h g n m us a b (omega (arith, i, p)) (omega (arith, j, q)))
  run_shares h g (suc n) (suc m) (Opening ∷ Closing ∷ ts) a b i j = run_test false n m Opening (Closing ∷ ts) a b (λ us p q. run_shares h g n m us a b (omega (arith, i, p)) (omega (arith, j, q)))
  run_shares h g (suc n) (suc m) (Opening ∷ Quoted u ∷ ts) a b i j = run_test false n m Opening (Quoted u ∷ ts) a b (λ us p q. run_shares h g n m us a b (omega (arith, i, p)) (omega (arith, j, q)))
  run_shares h g (suc n) (suc m) (Opening ∷ Word u ∷ ts) a b i j = run_test (begins w (Opening ∷ Word u ∷ ts)) n m Opening (Word u ∷ ts) a b (λ us p q. run_shares h g n m us a b (omega (arith, i, p)) (omega (arith, j, q)))

last : Steady read_last
last = record { falls = falls; shares = shares }
  where
    falls : (ts : List Token) → Falls (length ts) (read_last ts)
    falls [] = omega arith
    falls (Closing ∷ ts) = omega arith
    falls (Opening ∷ []) = omega arith
    falls (Opening ∷ t ∷ ts) = omega arith
    falls (Word w ∷ ts) = omega arith
    falls (Quoted n ∷ ts) = omega arith

    opened : (a : List Token) → Leaves (length a) (read_last (Opening ∷ a))
    opened [] = omega arith
    opened (t ∷ ts) = omega arith

    shares : (front a b : List Token) → Shared front a b (read_last (front ++ a)) (read_last (front ++ b))
    shares [] a b = beyond (falls_leaves (length a) (read_last a) (falls a))
    shares (Closing ∷ ts) a b = value_here tt Closing ts a b
    shares (Opening ∷ []) a b = beyond (opened a)
    shares (Opening ∷ t ∷ ts) a b = longer Opening (t ∷ ts) a b _ _ (fault_here BadForm t ts a b)
    shares (Word w ∷ ts) a b = fault_here BadForm (Word w) ts a b
    shares (Quoted n ∷ ts) a b = fault_here BadForm (Quoted n) ts a b

last_late : Late read_last
last_late [] = omega arith
last_late (t ∷ ts) = omega arith

-- ---- rows

module _ {item : (k : Part) → Reader (PartValue k)} (things : (k : Part) → Steady (item k)) where
  abbrev AreLate : List (Form × List ℕ) → Type 0
  AreLate [] = ⊤
  AreLate (p ∷ ps) = Late (item (a_form p.0)) × AreLate ps

  abbrev pub AllLate : Fields → Type 0
  AllLate done = ⊤
  AllLate (one k f) = AllLate f
  AllLate (many k) = ⊤
  AllLate (parts ps) = AreLate ps

  record Run (ps : List (Form × List ℕ)) : Type 0 where
    steady : Steady (read_parts item ps)
    late : Late (read_parts item ps)

  in_parts : (ps : List (Form × List ℕ)) → AreLate ps → Run ps
  in_parts [] h = record { steady = last; late = last_late }
  in_parts (p ∷ ps) h =
      let more = in_parts ps h.1 in
      record {
        steady = record {
          falls = λ ts. run_falls p.1 (things (a_form p.0)) more.steady (suc (length ts)) ts;
          shares = λ front a b. run_shares p.1 (things (a_form p.0)) more.steady h.0 more.late (suc (length (front ++ a))) (suc (length (front ++ b))) front a b (omega arith) (omega arith);
        };
        late = λ a. run_late p.1 (things (a_form p.0)) more.steady h.0 more.late (suc (length a)) a;
      }

  fields : (f : Fields) → AllLate f → Steady (read_fields item f)
  fields done h = close
  fields (one k f) h = pair (things k) (fields f h)
  fields (many k) h = several (things k)
  fields (parts ps) h = (in_parts ps h).steady

  row : {X : Type 0} (r : Row X) → AllLate r.fields → Steady (read_row item r)
  row r h = making r.make (fields r.fields h)

  row_or_steady : {X : Type 0} (plain : Option (Row X)) → ((r : Row X) → plain ≡ Some r → AllLate r.fields) → Steady (row_or item plain)
  row_or_steady (Some r) h = let k = row r (h r refl) in record { falls = λ ts. k.falls ts; shares = λ front a b. k.shares front a b }
  row_or_steady {X} None h = record { falls = falls; shares = shares }
    where
      falls : (ts : List Token) → Falls (length ts) (row_or item {X = X} None ts)
      falls [] = omega arith
      falls (t ∷ ts) = omega arith

      shares : (front a b : List Token) → Shared front a b (row_or item {X = X} None (front ++ a)) (row_or item {X = X} None (front ++ b))
      shares [] a b = beyond (falls_leaves (length a) (row_or item {X = X} None a) (falls a))
      shares (t ∷ ts) a b = fault_here BadForm t ts a b

  headed_falls : {X : Type 0} (found plain : Option (Row X)) → ((r : Row X) → found ≡ Some r → AllLate r.fields) → ((r : Row X) → plain ≡ Some r → AllLate r.fields) → (t : Token) (ts : List Token) → Falls (suc (length ts)) (headed item found plain t ts)
  headed_falls (Some r) plain h g t ts = falls_more (length ts) (suc (length ts)) _ (omega arith) ((row r (h r refl)).falls ts)
  headed_falls None plain h g t ts = (row_or_steady plain g).falls (t ∷ ts)

  headed_shares : {X : Type 0} (found plain : Option (Row X)) → ((r : Row X) → found ≡ Some r → AllLate r.fields) → ((r : Row X) → plain ≡ Some r → AllLate r.fields) → (t : Token) (ts a b : List Token)
      → Shared (t ∷ ts) a b (headed item found plain t (ts ++ a)) (headed item found plain t (ts ++ b))
  headed_shares (Some r) plain h g t ts a b = longer t ts a b _ _ ((row r (h r refl)).shares ts a b)
  headed_shares None plain h g t ts a b = (row_or_steady plain g).shares (t ∷ ts) a b

  inside : {X : Type 0} (shape : Shape X) → ((w : List ℕ) (r : Row X) → look_up w shape.heads ≡ Some r → AllLate r.fields) → ((r : Row X) → shape.plain ≡ Some r → AllLate r.fields) → Steady (read_inside item shape)
  inside shape h g = record { falls = falls; shares = shares }
    where
      falls : (ts : List Token) → Falls (length ts) (read_inside item shape ts)
      falls [] = (row_or_steady shape.plain g).falls []
      falls (Opening ∷ ts) = (row_or_steady shape.plain g).falls (Opening ∷ ts)
      falls (Closing ∷ ts) = (row_or_steady shape.plain g).falls (Closing ∷ ts)
      falls (Quoted n ∷ ts) = (row_or_steady shape.plain g).falls (Quoted n ∷ ts)
      falls (Word w ∷ ts) = headed_falls (look_up w shape.heads) shape.plain (h w) g (Word w) ts

      shares : (front a b : List Token) → Shared front a b (read_inside item shape (front ++ a)) (read_inside item shape (front ++ b))
      shares [] a b = beyond (falls_leaves (length a) (read_inside item shape a) (falls a))
      shares (Opening ∷ ts) a b = (row_or_steady shape.plain g).shares (Opening ∷ ts) a b
      shares (Closing ∷ ts) a b = (row_or_steady shape.plain g).shares (Closing ∷ ts) a b
      shares (Quoted n ∷ ts) a b = (row_or_steady shape.plain g).shares (Quoted n ∷ ts) a b
      shares (Word w ∷ ts) a b = headed_shares (look_up w shape.heads) shape.plain (h w) g (Word w) ts a b

-- ---- forms

word_falls : {X : Type 0} (found : Option X) (t : Token) (ts : List Token) → Falls (suc (length ts)) (word_or found t ts)
word_falls (Some x) t ts = omega arith
word_falls None t ts = omega arith

word_shares : {X : Type 0} (found : Option X) (t : Token) (ts a b : List Token) → Shared (t ∷ ts) a b (word_or found t (ts ++ a)) (word_or found t (ts ++ b))
word_shares (Some x) t ts a b = value_here x t ts a b
word_shares None t ts a b = fault_here BadForm t ts a b

opens_falls : {X : Type 0} {read : Reader X} → Steady read → (c : Bool) (ts : List Token) → Falls (suc (length ts)) (opens c read ts)
opens_falls {read = read} k true ts = falls_more (length ts) (suc (length ts)) (read ts) (omega arith) (k.falls ts)
opens_falls k false ts = omega arith

opens_shares : {X : Type 0} {read : Reader X} → Steady read → (c : Bool) (ts a b : List Token) → Shared (Opening ∷ ts) a b (opens c read (ts ++ a)) (opens c read (ts ++ b))
opens_shares k true ts a b = longer Opening ts a b _ _ (k.shares ts a b)
opens_shares k false ts a b = fault_here BadForm Opening ts a b

form : {X : Type 0} {read : Reader X} (shape : Shape X) → Steady read → Steady (read_form read shape)
form {read = read} shape k = record { falls = falls; shares = shares }
  where
    falls : (ts : List Token) → Falls (length ts) (read_form read shape ts)
    falls [] = omega arith
    falls (Word w ∷ ts) = word_falls (look_up w shape.words) (Word w) ts
    falls (Opening ∷ ts) = opens_falls k (has_lists shape.heads shape.plain) ts
    falls (Closing ∷ ts) = omega arith
    falls (Quoted n ∷ ts) = omega arith

    shares : (front a b : List Token) → Shared front a b (read_form read shape (front ++ a)) (read_form read shape (front ++ b))
    shares [] a b = beyond (falls_leaves (length a) (read_form read shape a) (falls a))
    shares (Word w ∷ ts) a b = word_shares (look_up w shape.words) (Word w) ts a b
    shares (Opening ∷ ts) a b = opens_shares k (has_lists shape.heads shape.plain) ts a b
    shares (Closing ∷ ts) a b = fault_here BadForm Closing ts a b
    shares (Quoted n ∷ ts) a b = fault_here BadForm (Quoted n) ts a b

opens_late : {X : Type 0} {read : Reader X} → Steady read → (c : Bool) → c ≡ true → (a : List Token) → Leaves (length a) (opens c read a)
opens_late {read = read} k true e a = falls_leaves (length a) (read a) (k.falls a)
opens_late k false e a = absurd (false≢true e)

form_late : {X : Type 0} {read : Reader X} (shape : Shape X) → Steady read → has_lists shape.heads shape.plain ≡ true → Late (read_form read shape)
form_late shape k e a = opens_late k (has_lists shape.heads shape.plain) e a

nothing : {X : Type 0} → Steady (λ ts. fail_at {A = X} Unended ts)
nothing {X} = record { falls = λ ts. omega arith; shares = shares }
  where
    shares : (front a b : List Token) → Shared {A = X} front a b (fail_at Unended (front ++ a)) (fail_at Unended (front ++ b))
    shares [] a b = beyond (omega arith)
    shares (t ∷ ts) a b = fault_here Unended t ts a b

-- ---- a grammar whose lists by kind are forms in parentheses

module _ (G : Grammar) where
  abbrev pub has_no_bare : List (Form × List ℕ) → Bool
  has_no_bare [] = true
  has_no_bare (p ∷ ps) = if has_lists (G p.0).heads (G p.0).plain then has_no_bare ps else false

  abbrev pub is_listed : Fields → Bool
  is_listed done = true
  is_listed (one k f) = is_listed f
  is_listed (many k) = true
  is_listed (parts ps) = has_no_bare ps

  abbrev pub rows_listed : {X : Type 0} → List (List ℕ × Row X) → Bool
  rows_listed [] = true
  rows_listed (e ∷ es) = if is_listed e.1.fields then rows_listed es else false

  abbrev pub plain_listed : {X : Type 0} → Option (Row X) → Bool
  plain_listed None = true
  plain_listed (Some r) = is_listed r.fields

  pub record IsListed : Type 0 where
    pub rows : (s : Form) → rows_listed (G s).heads ≡ true
    pub plain : (s : Form) → plain_listed (G s).plain ≡ true

  module _ {item : (k : Part) → Reader (PartValue k)} (things : (k : Part) → Steady (item k)) (later : (s : Form) → has_lists (G s).heads (G s).plain ≡ true → Late (item (a_form s))) where
    parts_late : (ps : List (Form × List ℕ)) → has_no_bare ps ≡ true → AreLate things ps
    parts_late [] e = tt
    parts_late (p ∷ ps) e = let q = present_case (has_lists (G p.0).heads (G p.0).plain) (has_no_bare ps) e in (later p.0 q.0, parts_late ps q.1)

    fields_late : (f : Fields) → is_listed f ≡ true → AllLate things f
    fields_late done e = tt
    fields_late (one k f) e = fields_late f e
    fields_late (many k) e = tt
    fields_late (parts ps) e = parts_late ps e

    rows_late : {X : Type 0} (es : List (List ℕ × Row X)) (w : List ℕ) (r : Row X) → rows_listed es ≡ true → Has es w r → AllLate things r.fields
    rows_late [] w r e h = absurd h
    rows_late (x ∷ es) w r e (inl h) = subst (λ q. AllLate things q.fields) h.1 (fields_late x.1.fields (present_case (is_listed x.1.fields) (rows_listed es) e).0)
    rows_late (x ∷ es) w r e (inr h) = rows_late es w r (present_case (is_listed x.1.fields) (rows_listed es) e).1 h

    plain_late : {X : Type 0} (plain : Option (Row X)) (r : Row X) → plain_listed plain ≡ true → plain ≡ Some r → AllLate things r.fields
    plain_late None r e h = absurd (cc h)
    plain_late (Some q) r e h = subst (λ x. AllLate things x.fields) (same q r h) (fields_late q.fields e)
      where
        same : {X : Type 0} (q r : Row X) → ◌≡◌ {A = Option (Row X)} (Some q) (Some r) → q ≡ r
        same q r h = cc

  pub record IsSteady (n : ℕ) : Type 0 where
    pub part : (k : Part) → Steady (read_part G n k)
    pub later : (s : Form) → has_lists (G s).heads (G s).plain ≡ true → Late (read_part G n (a_form s))

  pub steady : IsListed → (n : ℕ) → IsSteady n
  steady listed zero = record { part = part; later = λ s e. form_late (G s) nothing e }
    where
      part : (k : Part) → Steady (read_part G zero k)
      part (a_number k) = number k
      part a_name = name
      part (a_form s) = form (G s) nothing
  steady listed (suc n) = deeper (steady listed n)
    where
      deeper : IsSteady n → IsSteady (suc n)
      deeper k = record { part = part; later = λ s e. form_late (G s) (within s) e }
        where
          within : (s : Form) → Steady (read_inside (read_part G n) (G s))
          within s = inside k.part (G s) (λ w r e. rows_late k.part k.later (G s).heads w r (listed.rows s) (from_look (G s).heads w r e)) (λ r e. plain_late k.part k.later (G s).plain r (listed.plain s) e)

          part : (m : Part) → Steady (read_part G (suc n) m)
          part (a_number m) = number m
          part a_name = name
          part (a_form s) = form (G s) (within s)
