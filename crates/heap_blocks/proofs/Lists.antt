-- Which words blocks have, and what stays of lists of blocks where the words that their readers give stay.
use Rattle.std.proofs.Common.{◌≡◌, ℕ, suc, ◌+◌, ◌*◌, ◌<◌, ◌≤◌, ◌≢◌, ◌⊎◌, inl, inr, ⊎_elim, List, [], ◌∷◌, ◌++◌, sym, ap, ◌∙◌, subst, arith}
use Rattle.heap_blocks.specs.Blocks.{Block, Headed, covers, covering, room_of, HavePayloads, HaveHeaders, AreChained}

-- a list in reverse, before another
abbrev pub onto : {A : Type 0} → List A → List A → List A
onto [] ys = ys
onto (x ∷ xs) ys = onto xs (x ∷ ys)

pub covers_in : (w j s : ℕ) → j ≤ w → w ≤ j + s → covers w j s ≡ 1
unfolding covers
covers_in w j s a b = omega arith

pub covers_most : (w j s : ℕ) → covers w j s ≤ 1
unfolding covers
covers_most w j s = omega arith

pub covers_left : (w j s : ℕ) → 1 ≤ covers w j s → j ≤ w
unfolding covers
covers_left w j s h = omega arith

pub covers_right : (w j s : ℕ) → 1 ≤ covers w j s → w ≤ j + s
unfolding covers
covers_right w j s h = omega arith

pub covers_split : (w j s a t : ℕ) → s ≡ suc (a + t) → covers w j s ≡ covers w j a + covers w (suc (j + a)) t
unfolding covers
covers_split w j s a t e = omega arith

-- a word that no block has is no word of a block
pub apart : (bs : List Block) (i k : ℕ) → 1 ≤ covering i bs → covering k bs ≡ 0 → i ≢ k
apart bs i k h z e =
    let f : covering i bs ≡ covering k bs = ap (λ x. covering x bs) e in
    omega arith

pub covering_append : (w : ℕ) (bs cs : List Block) → covering w (bs ++ cs) ≡ covering w bs + covering w cs
covering_append w [] cs = omega arith
covering_append w (Headed j s ∷ bs) cs = omega (arith, covering_append w bs cs)

pub room_append : (bs cs : List Block) → room_of (bs ++ cs) ≡ room_of bs + room_of cs
room_append [] cs = omega arith
room_append (Headed j s ∷ bs) cs = omega (arith, room_append bs cs)

pub payloads_front : (bs cs : List Block) → HavePayloads (bs ++ cs) → HavePayloads bs
payloads_front [] cs h = tt
payloads_front (Headed j s ∷ bs) cs h = (h.0, payloads_front bs cs h.1)

pub payloads_back : (bs cs : List Block) → HavePayloads (bs ++ cs) → HavePayloads cs
payloads_back [] cs h = h
payloads_back (Headed j s ∷ bs) cs h = payloads_back bs cs h.1

pub payloads_both : (bs cs : List Block) → HavePayloads bs → HavePayloads cs → HavePayloads (bs ++ cs)
payloads_both [] cs h k = k
payloads_both (Headed j s ∷ bs) cs h k = (h.0, payloads_both bs cs h.1 k)

pub headers_front : (r : ℕ → ℕ) (bs cs : List Block) → HaveHeaders r (bs ++ cs) → HaveHeaders r bs
headers_front r [] cs h = tt
headers_front r (Headed j s ∷ bs) cs h = (h.0, headers_front r bs cs h.1)

pub headers_back : (r : ℕ → ℕ) (bs cs : List Block) → HaveHeaders r (bs ++ cs) → HaveHeaders r cs
headers_back r [] cs h = h
headers_back r (Headed j s ∷ bs) cs h = headers_back r bs cs h.1

pub headers_both : (r : ℕ → ℕ) (bs cs : List Block) → HaveHeaders r bs → HaveHeaders r cs → HaveHeaders r (bs ++ cs)
headers_both r [] cs h k = k
headers_both r (Headed j s ∷ bs) cs h k = (h.0, headers_both r bs cs h.1 k)

-- the readers agree on the words of these blocks
abbrev pub Agree : (ℕ → ℕ) → (ℕ → ℕ) → List Block → Type 0
Agree r r' bs = (i : ℕ) → 1 ≤ covering i bs → r' i ≡ r i

pub headers_kept : (bs : List Block) (r r' : ℕ → ℕ) → Agree r r' bs → HaveHeaders r bs → HaveHeaders r' bs
headers_kept [] r r' a h = tt
headers_kept (Headed j s ∷ bs) r r' a h =
    let one = covers_in j j s (omega arith) (omega arith) in
    (a j (omega arith) ∙ h.0, headers_kept bs r r' (λ i c. a i (omega arith)) h.1)

pub chain_kept : (bs : List Block) (r r' : ℕ → ℕ) (h : ℕ) → HavePayloads bs → Agree r r' bs → AreChained r h bs → AreChained r' h bs
chain_kept [] r r' h z a c = c
chain_kept (Headed j s ∷ bs) r r' h z a c =
    let one = covers_in j j s (omega arith) (omega arith) in
    let two = covers_in (suc j) j s (omega arith) (omega (arith, z.0)) in
    let e : r' j ≡ r j = a j (omega arith) in
    let e1 : r' (suc j) ≡ r (suc j) = a (suc j) (omega arith) in
    (c.0, e ∙ c.1, subst (λ x. AreChained r' x bs) (sym e1) (chain_kept bs r r' (r (suc j)) z.1 (λ i k. a i (omega arith)) c.2))

pub covering_rev : (w : ℕ) (ds bs : List Block) → covering w (onto ds bs) ≡ covering w ds + covering w bs
covering_rev w [] bs = omega arith
covering_rev w (Headed j s ∷ ds) bs = omega (arith, covering_rev w ds (Headed j s ∷ bs))

pub room_rev : (ds bs : List Block) → room_of (onto ds bs) ≡ room_of ds + room_of bs
room_rev [] bs = omega arith
room_rev (Headed j s ∷ ds) bs = omega (arith, room_rev ds (Headed j s ∷ bs))

pub payloads_rev : (ds bs : List Block) → HavePayloads ds → HavePayloads bs → HavePayloads (onto ds bs)
payloads_rev [] bs h k = k
payloads_rev (Headed j s ∷ ds) bs h k = payloads_rev ds (Headed j s ∷ bs) h.1 (h.0, k)

pub payloads_rest : (ds bs : List Block) → HavePayloads (onto ds bs) → HavePayloads bs
payloads_rest [] bs h = h
payloads_rest (Headed j s ∷ ds) bs h = (payloads_rest ds (Headed j s ∷ bs) h).1

pub payloads_done : (ds bs : List Block) → HavePayloads (onto ds bs) → HavePayloads ds
payloads_done [] bs h = tt
payloads_done (Headed j s ∷ ds) bs h = ((payloads_rest ds (Headed j s ∷ bs) h).0, payloads_done ds (Headed j s ∷ bs) h)

-- the blocks already passed, the last first, and the word that links to the next
abbrev pub ArePassed : (ℕ → ℕ) → List Block → ℕ → Type 0
ArePassed r [] p = p ≡ 1
ArePassed r (Headed j s ∷ ds) p = (p ≡ suc j) × (r j ≡ s) × ((q : ℕ) × ((r q ≡ 8 * suc j) × ArePassed r ds q))

pub passed_chain : (ds : List Block) (r : ℕ → ℕ) (p : ℕ) (bs : List Block) → ArePassed r ds p → AreChained r (r p) bs → AreChained r (r 1) (onto ds bs)
passed_chain [] r p bs b c = subst (λ x. AreChained r (r x) bs) b c
passed_chain (Headed j s ∷ ds) r p bs b c = passed_chain ds r b.2.0 (Headed j s ∷ bs) b.2.1.1 (b.2.1.0, b.1, subst (λ x. AreChained r (r x) bs) b.0 c)

pub passed_place : (ds : List Block) (r : ℕ → ℕ) (p : ℕ) → HavePayloads ds → ArePassed r ds p → (p ≡ 1) ⊎ (1 ≤ covering p ds)
passed_place [] r p z b = inl b
passed_place (Headed j s ∷ ds) r p z b =
    let two = covers_in p j s (omega (arith, b.0)) (omega (arith, b.0, z.0)) in
    inr (omega (arith, two))

pub passed_kept : (ds : List Block) (r r' : ℕ → ℕ) (p : ℕ) → HavePayloads ds → r' 1 ≡ r 1 → Agree r r' ds → ArePassed r ds p → ArePassed r' ds p
passed_kept [] r r' p z o a b = b
passed_kept (Headed j s ∷ ds) r r' p z o a b =
    let one = covers_in j j s (omega arith) (omega arith) in
    let a' : Agree r r' ds = λ i k. a i (omega arith) in
    let q = b.2.0 in
    let eq : r' q ≡ r q = ⊎_elim (λ e. ap r' e ∙ o ∙ sym (ap r e)) (λ k. a' q k) (passed_place ds r q z.1 b.2.1.1) in
    (b.0, a j (omega arith) ∙ b.1, (q, (eq ∙ b.2.1.0, passed_kept ds r r' q z.1 o a' b.2.1.1)))

-- a write at the link itself
pub passed_linked : (ds : List Block) (r r' : ℕ → ℕ) (p : ℕ) → HavePayloads ds → ((i : ℕ) → covering i ds ≤ 1) → covering 1 ds ≡ 0 → ((i : ℕ) → i ≢ p → r' i ≡ r i) → ArePassed r ds p → ArePassed r' ds p
passed_linked [] r r' p z one o a b = b
passed_linked (Headed j s ∷ ds) r r' p z most o a b =
    let mine = covers_in p j s (omega (arith, b.0)) (omega (arith, b.0, z.0)) in
    let none : covering p ds ≡ 0 = omega (arith, mine, most p) in
    let p1 : 1 ≢ p = λ e. apart2 e mine in
    let a' : Agree r r' ds = λ i k. a i (apart ds i p k none) in
    let q = b.2.0 in
    let eq : r' q ≡ r q = ⊎_elim (λ e. ap r' e ∙ a 1 p1 ∙ sym (ap r e)) (λ k. a' q k) (passed_place ds r q z.1 b.2.1.1) in
    (b.0, a j (λ e. omega (arith, e, b.0)) ∙ b.1, (q, (eq ∙ b.2.1.0, passed_kept ds r r' q z.1 (a 1 p1) a' b.2.1.1)))
  where
    apart2 : 1 ≡ p → covers p j s ≡ 1 → ⊥
    apart2 e mine = let f : covers 1 j s ≡ covers p j s = ap (λ x. covers x j s) e in omega arith

pub covers_less : (w j a s : ℕ) → a ≤ s → covers w j a ≤ covers w j s
unfolding covers
covers_less w j a s le = omega arith

pub covers_out : (w j s : ℕ) → w < j → covers w j s ≡ 0
unfolding covers
covers_out w j s lt = omega arith

pub chain_headers : (bs : List Block) (r : ℕ → ℕ) (h : ℕ) → AreChained r h bs → HaveHeaders r bs
chain_headers [] r h c = tt
chain_headers (Headed j s ∷ bs) r h c = (c.1, chain_headers bs r (r (suc j)) c.2)

pub passed_headers : (ds : List Block) (r : ℕ → ℕ) (p : ℕ) → ArePassed r ds p → HaveHeaders r ds
passed_headers [] r p b = tt
passed_headers (Headed j s ∷ ds) r p b = (b.1, passed_headers ds r b.2.0 b.2.1.1)

pub covers_past : (w j s : ℕ) → j + s < w → covers w j s ≡ 0
unfolding covers
covers_past w j s lt = omega arith
