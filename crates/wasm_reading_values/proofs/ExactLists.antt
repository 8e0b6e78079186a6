-- Values one after another, vectors, byte vectors, names and contents of a declared size are read exactly.
use Rattle.std.proofs.Common.{◌≡◌, ◌∙◌, ℕ, zero, suc, ◌+◌, ◌^◌, ◌<◌, ◌≤◌, Bool, true, false, List, [], ◌∷◌, ◌++◌, length, refl, sym, ap, subst, arith, Option, Some, None, Result, Ok, Err, eqb}
use Rattle.std.specs.Prelude.{All, IsUtf8, if◌then◌else◌}
use Rattle.std.specs.Str.{is_utf8}
use Rattle.std.proofs.lemmas.Bool.{false≢true, eqb-true, eq-eqb, cond-true}
use Rattle.std.proofs.lemmas.List.Elements.{All-nil, All-cons, All-head, All-tail}
use Rattle.std.proofs.lemmas.Str.{IsUtf8-from_is_utf8, is_utf8-from_IsUtf8}
use Rattle.wasm_leb.specs.Leb.{IsUnsignedEnd}
use Rattle.wasm_leb.proofs.Spelled.{below, unsigned_below}
use Rattle.wasm_grammar.specs.ProfileInstructions.{FitsU32, IsShortListOf}
use Rattle.wasm_grammar.specs.Profile.{NameFits}
use Rattle.wasm_grammar.specs.GrammarValues.{Joined, ◌followed_by◌, IsExactly, IsByte, IsRaw, IsUnsigned, IsEach, IsVector, IsByteVector, IsName, IsSized}
use Rattle.wasm_reading.specs.declared.fault.DecodeError.{DecodeError}
use Rattle.wasm_reading.specs.declared.fault.DecodeFault.TheVariants.{BadUtf8}
use Rattle.wasm_reading.specs.Readers.{IsWithin, Input, Reader, ◌>>=◌, give, here, byte_at, each_at, lesser_end, and_then, ended, within}
use Rattle.wasm_reading.specs.ReadValues.{u32_at, vector_at, name_at, sized_at}
use Rattle.wasm_reading_values.specs.Exactness.{AreBytes, Took, Exact}
use Rattle.wasm_reading_values.proofs.Compose.{from_and_then, read_one, read_same, same_input, alike, giving, placed, followed, made, field, fields, checked, give_if}
use Rattle.wasm_reading_values.proofs.ExactNumbers.{one_byte, raw_byte, u32}

-- what a number of 32 bits spells is below 2 ^ 32
pub unsigned_fits : (n : ℕ) (bytes : List ℕ) → IsUnsigned n bytes → n < 2 ^ 32
unsigned_fits n bytes p = below IsUnsignedEnd unsigned_below (2 ^ 32) bytes n p

-- so many values, one after another
pub each : {X : Type 0} {item : Reader X} {Entry : X → List ℕ → Type 0} → Exact item Entry → (n : ℕ) → Exact (each_at item n) (λ xs bytes. (length xs ≡ n) × IsEach Entry xs bytes)
each {Entry = Entry} k zero =
    alike (giving [])
    (λ xs bytes p. (ap length p.0, subst (λ ys. IsEach Entry ys bytes) (sym p.0) p.1))
    (λ xs bytes p. none xs bytes p)
  where
    none : (xs : List _) (bytes : List ℕ) → (length xs ≡ 0) × IsEach Entry xs bytes → (xs ≡ []) × (bytes ≡ [])
    none [] bytes p = (refl, p.1)
    none (x ∷ xs) bytes p = absurd (omega (arith, p.0))
each {X} {item} {Entry} k (suc n) =
    alike (followed (λ x. each_at item n >>= λ xs. give (x ∷ xs)) (λ x xs bytes. (ys : List X) × (xs ≡ x ∷ ys) × ((length ys ≡ n) × IsEach Entry ys bytes)) k
    (λ x. made (λ xs. x ∷ xs) (each k n)))
    (λ xs bytes p.
    let q = p.1 in
    let r = q.second in
    (ap length r.1 ∙ ap suc r.2.0, subst (λ zs. IsEach Entry zs bytes) (sym r.1) (record { front = q.front; back = q.back; first = q.first; second = r.2.1; whole = q.whole })))
    (λ xs bytes p. some xs bytes p)
  where
    some : (xs : List X) (bytes : List ℕ) → (length xs ≡ suc n) × IsEach Entry xs bytes → (x : X) × Joined (Entry x) (λ back. (ys : List X) × (xs ≡ x ∷ ys) × ((length ys ≡ n) × IsEach Entry ys back)) bytes
    some [] bytes p = absurd (omega (arith, p.0))
    some (x ∷ xs) bytes p =
        let size : length xs ≡ n = omega (arith, p.0) in
        (x, record { front = p.1.front; back = p.1.back; first = p.1.first; second = (xs, refl, (size, p.1.second)); whole = p.1.whole })

-- a count, and so many values
pub counted : {X : Type 0} {item : ℕ → Reader (List X)} {Items : List X → List ℕ → Type 0} → ((n : ℕ) → Exact (item n) (λ xs bytes. (length xs ≡ n) × Items xs bytes)) → Exact (u32_at >>= item) (λ xs bytes. (IsUnsigned (length xs) followed_by Items xs) bytes)
counted {X} {item} {Items} k =
    fields (field (λ xs. length xs) item (λ xs. Unit {0}) Items u32
    (λ n. alike (k n) (λ xs bytes p. ((tt, p.0), p.1)) (λ xs bytes p. (p.0.1, p.1))))

-- a vector
pub vector : {X : Type 0} {item : Reader X} {Entry : X → List ℕ → Type 0} → Exact item Entry → Exact (vector_at item) (IsVector Entry)
vector k = counted (each k)

-- entries and what holds of each, apart
pub each_apart : {X : Type 0} (Fits : X → Type 0) (Entry : X → List ℕ → Type 0) (xs : List X) (bytes : List ℕ) → IsEach (λ x front. Fits x × Entry x front) xs bytes → All Fits xs × IsEach Entry xs bytes
each_apart Fits Entry [] bytes p = (All-nil Fits, p)
each_apart Fits Entry (x ∷ xs) bytes p =
    let rest = each_apart Fits Entry xs p.back p.second in
    (All-cons Fits x xs p.first.0 rest.0, record { front = p.front; back = p.back; first = p.first.1; second = rest.1; whole = p.whole })

pub each_together : {X : Type 0} (Fits : X → Type 0) (Entry : X → List ℕ → Type 0) (xs : List X) (bytes : List ℕ) → All Fits xs → IsEach Entry xs bytes → IsEach (λ x front. Fits x × Entry x front) xs bytes
each_together Fits Entry [] bytes h p = p
each_together Fits Entry (x ∷ xs) bytes h p = record {
  front = p.front;
  back = p.back;
  first = (All-head Fits x xs h, p.first);
  second = each_together Fits Entry xs p.back (All-tail Fits x xs h) p.second;
  whole = p.whole;
}

-- what holds of each entry, where its bytes say so
pub each_fits : {X : Type 0} (Fits : X → Type 0) (Entry : X → List ℕ → Type 0) → ((x : X) (bytes : List ℕ) → Entry x bytes → Fits x) → (xs : List X) (bytes : List ℕ) → IsEach Entry xs bytes → All Fits xs
each_fits Fits Entry fits [] bytes p = All-nil Fits
each_fits Fits Entry fits (x ∷ xs) bytes p = All-cons Fits x xs (fits x p.front p.first) (each_fits Fits Entry fits xs p.back p.second)

-- a vector of entries of which something holds
pub fitting_vector : {X : Type 0} {item : Reader X} {Fits : X → Type 0} {Entry : X → List ℕ → Type 0} → Exact item (λ x bytes. Fits x × Entry x bytes) → Exact (vector_at item) (λ xs bytes. IsShortListOf Fits xs × IsVector Entry xs bytes)
fitting_vector {Fits = Fits} {Entry = Entry} k =
    alike (vector k)
    (λ xs bytes p.
    let q = each_apart Fits Entry xs p.back p.second in
    (record { short = unsigned_fits (length xs) p.front p.first; each = q.0 }, record { front = p.front; back = p.back; first = p.first; second = q.1; whole = p.whole }))
    (λ xs bytes p.
    let q = p.1 in
    record { front = q.front; back = q.back; first = q.first; second = each_together Fits Entry xs q.back p.0.each q.second; whole = q.whole })

-- a number of 32 bits, and that it is one
pub fitting_u32 : Exact u32_at (λ n bytes. FitsU32 n × IsUnsigned n bytes)
fitting_u32 = alike u32 (λ n bytes p. (unsigned_fits n bytes p, p)) (λ n bytes p. p.1)

-- a vector of indices
pub indices : Exact (vector_at u32_at) (λ ns bytes. IsShortListOf FitsU32 ns × IsVector IsUnsigned ns bytes)
indices = fitting_vector fitting_u32

each_byte : (xs bytes : List ℕ) → IsEach IsByte xs bytes → bytes ≡ xs
each_byte [] bytes p = p
each_byte (x ∷ xs) bytes p = p.whole ∙ (λ i. p.first i ++ each_byte xs p.back p.second i)

by_bytes : (xs bytes : List ℕ) → bytes ≡ xs → IsEach IsByte xs bytes
by_bytes [] bytes e = e
by_bytes (x ∷ xs) bytes e = record { front = x ∷ []; back = xs; first = refl; second = by_bytes xs xs refl; whole = e }

-- so many bytes, which stand for themselves
pub some_bytes : (n : ℕ) → Exact (each_at byte_at n) (λ xs bytes. (length xs ≡ n) × IsExactly xs bytes)
some_bytes n = alike (each one_byte n) (λ xs bytes p. (p.0, each_byte xs bytes p.1)) (λ xs bytes p. (p.0, by_bytes xs bytes p.1))

-- the same, and that they are bytes
pub raw_bytes : (n : ℕ) → Exact (each_at byte_at n) (λ xs bytes. (length xs ≡ n) × IsRaw xs bytes)
raw_bytes n =
    alike (each raw_byte n)
    (λ xs bytes p.
    let q = each_apart (λ b. b < 256) IsByte xs bytes p.1 in
    (p.0, (q.0, each_byte xs bytes q.1)))
    (λ xs bytes p. (p.0, each_together (λ b. b < 256) IsByte xs bytes p.1.0 (by_bytes xs bytes p.1.1)))

-- a vector of bytes
pub byte_vector : Exact (vector_at byte_at) IsByteVector
byte_vector = counted raw_bytes

pub fitting_byte_vector : Exact (vector_at byte_at) (λ xs bytes. IsShortListOf (λ b. b < 256) xs × IsByteVector xs bytes)
fitting_byte_vector =
    alike byte_vector
    (λ xs bytes p. (record { short = unsigned_fits (length xs) p.front p.first; each = p.second.0 }, p))
    (λ xs bytes p. p.1)

-- a name
pub name : Exact name_at IsName
name =
    alike (counted {Items = λ xs bytes. IsUtf8 xs × IsExactly xs bytes} (λ n. placed _ _ (λ place.
    alike (checked _ IsUtf8 (some_bytes n) (λ xs. give_if (is_utf8 xs) xs BadUtf8 place (IsUtf8 xs) (IsUtf8-from_is_utf8 xs)
    (λ e u. false≢true (sym e ∙ is_utf8-from_IsUtf8 xs u))))
    (λ xs bytes p. (p.1.0, (p.0, p.1.1)))
    (λ xs bytes p. (p.1.0, (p.0, p.1.1))))))
    (λ xs bytes p. (p.second.0, record { front = p.front; back = p.back; first = p.first; second = p.second.1; whole = p.whole }))
    (λ xs bytes p. record { front = p.1.front; back = p.1.back; first = p.1.first; second = (p.0, p.1.second); whole = p.1.whole })

pub name_fits : (xs bytes : List ℕ) → IsName xs bytes → NameFits xs
name_fits xs bytes p = (p.0, unsigned_fits (length xs) p.1.front p.1.first)

pub fitting_name : Exact name_at (λ xs bytes. NameFits xs × IsName xs bytes)
fitting_name = alike name (λ xs bytes p. (name_fits xs bytes p, p)) (λ xs bytes p. p.1)

-- what was read up to a declared end, and ended there
from_ended : {A : Type 0} (at_stop : Bool) (fault : DecodeError) (end : Option ℕ) (a b : A) (middle behind : Input) → ◌≡◌ {A = Result (A × Input) DecodeError} (if at_stop then Ok (a, record { at = middle.at; end = end; rest = middle.rest }) else Err fault) (Ok (b, behind)) → (at_stop ≡ true) × (a ≡ b) × (record { at = middle.at; end = end; rest = middle.rest } ≡ behind)
from_ended true fault end a b middle behind e =
    let same = read_one a b (record { at = middle.at; end = end; rest = middle.rest }) behind e in
    (refl, same.0, same.1)
from_ended false fault end a b middle behind e = absurd (cc)

by_lesser : (end : Option ℕ) (stop at : ℕ) → at ≡ stop → IsWithin at end → at ≤ lesser_end end stop
by_lesser None stop at e h = omega arith
by_lesser (Some end) stop at e h = omega arith

within_sound : {A : Type 0} {content : Reader A} {Content : A → List ℕ → Type 0} → Exact content Content → (size : ℕ) (input behind : Input) (a : A) → AreBytes input.rest → within (input.at + size) content input ≡ Ok (a, behind) → Took (λ bytes. (length bytes ≡ size) × Content a bytes) input behind
within_sound {content = content} {Content = Content} k size input behind a h e =
    let stop = input.at + size in
    let inner : Input = record { at = input.at; end = Some (lesser_end input.end stop); rest = input.rest } in
    let r = from_and_then (content inner) (ended input.end stop) a behind e in
    let s = from_ended (eqb r.1.at stop) _ input.end r.0 a r.1 behind r.3 in
    let t = k.sound inner r.1 r.0 h r.2 in
    let stops : r.1.at ≡ stop = eqb-true r.1.at stop s.0 in
    let size_is : length t.front ≡ size = omega (arith, t.place, stops) in
    record {
      front = t.front;
      holds = (size_is, subst (λ b. Content b t.front) s.1 t.holds);
      whole = t.whole ∙ ap (λ (i : Input). t.front ++ i.rest) s.2;
      place = ap (λ (i : Input). i.at) (sym s.2) ∙ t.place;
      same_end = ap (λ (i : Input). i.end) (sym s.2);
    }

within_complete : {A : Type 0} {content : Reader A} {Content : A → List ℕ → Type 0} → Exact content Content → (size : ℕ) (input behind : Input) (a : A) → Took (λ bytes. (length bytes ≡ size) × Content a bytes) input behind → IsWithin behind.at behind.end → within (input.at + size) content input ≡ Ok (a, behind)
within_complete {content = content} {Content = Content} k size input behind a t h =
    let stop = input.at + size in
    let end : Option ℕ = Some (lesser_end input.end stop) in
    let inner : Input = record { at = input.at; end = end; rest = input.rest } in
    let left : Input = record { at = behind.at; end = end; rest = behind.rest } in
    let stops : behind.at ≡ stop = omega (arith, t.place, t.holds.0) in
    let u : Took (Content a) inner left = record { front = t.front; holds = t.holds.1; whole = t.whole; place = t.place; same_end = refl } in
    let fits : IsWithin left.at left.end = by_lesser input.end stop behind.at stops (subst (λ (e : Option ℕ). IsWithin behind.at e) t.same_end h) in
    let done : Input = record { at = behind.at; end = input.end; rest = behind.rest } in
    ap (λ r. and_then r (ended input.end stop)) (k.complete inner left a u fits tt)
    ∙ cond-true (eqb behind.at stop) _ _ (eq-eqb behind.at stop stops)
    ∙ read_same a a done behind refl (same_input done behind refl (sym t.same_end) refl)

-- a content of so many bytes
pub within_size : {A : Type 0} {content : Reader A} {Content : A → List ℕ → Type 0} → Exact content Content → (size : ℕ) → Exact (here >>= λ place. within (place + size) content) (λ a bytes. (length bytes ≡ size) × Content a bytes)
within_size k size = record { sound = within_sound k size; complete = λ input behind a t h r. within_complete k size input behind a t h }

-- a size, and a content of that size
pub sized : {A : Type 0} {content : Reader A} {Content : A → List ℕ → Type 0} → Exact content Content → Exact (sized_at content) (λ a bytes. IsSized (Content a) bytes)
sized {content = content} {Content = Content} k =
    alike (followed (λ size. here >>= λ place. within (place + size) content) (λ size a bytes. (length bytes ≡ size) × Content a bytes) u32 (within_size k))
    (λ a bytes p.
    let q = p.1 in
    record { size = q.front; content = q.back; measured = subst (λ (n : ℕ). IsUnsigned n q.front) (sym q.second.0) q.first; spelled = q.second.1; whole = q.whole })
    (λ a bytes p. (length p.content, record { front = p.size; back = p.content; first = p.measured; second = (refl, p.spelled); whole = p.whole }))

-- the same of a content of which something holds
pub fitting_sized : {A : Type 0} {content : Reader A} {Fits : A → Type 0} {Content : A → List ℕ → Type 0} → Exact content (λ a bytes. Fits a × Content a bytes) → Exact (sized_at content) (λ a bytes. Fits a × IsSized (Content a) bytes)
fitting_sized k =
    alike (sized k)
    (λ a bytes p. (p.spelled.0, record { size = p.size; content = p.content; measured = p.measured; spelled = p.spelled.1; whole = p.whole }))
    (λ a bytes p. record { size = p.1.size; content = p.1.content; measured = p.1.measured; spelled = (p.0, p.1.spelled); whole = p.1.whole })
