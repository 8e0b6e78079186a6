-- A walk by headers comes to the end of the linear part.
use Rattle.std.proofs.Common.{◌≡◌, ℕ, zero, suc, ◌+◌, ◌-◌, ◌<◌, ◌≤◌, ◌⊎◌, inl, inr, ⊎_elim, List, [], ◌∷◌, ◌++◌, refl, sym, ap, ◌∙◌, subst, arith}
use Rattle.std.proofs.lemmas.Bool.{cases_lt}
use Rattle.heap_blocks.specs.Blocks.{Block, Headed, covers, covering, HaveHeaders, header_walk}
use Rattle.heap_blocks.specs.Laws.{HeadersLead}
use Rattle.heap_blocks.proofs.Lists.{covers_in, covers_most, covers_left, covers_right, covering_append, headers_back}

-- no block lies on both sides of p
abbrev Border : ℕ → List Block → Type 0
Border p [] = Unit {0}
Border p (Headed j s ∷ bs) = ((j + s < p) ⊎ (p ≤ j)) × Border p bs

record Split (p : ℕ) (bs : List Block) : Type 0 where
  pub pre : List Block
  pub post : List Block
  pub j : ℕ
  pub s : ℕ
  pub is : bs ≡ pre ++ (Headed j s ∷ post)
  pub hits : 1 ≤ covers p j s

find : (p : ℕ) (bs : List Block) → 1 ≤ covering p bs → Split p bs
find p [] h = absurd (omega arith)
find p (Headed j s ∷ bs) h = ⊎_elim
    (λ (lt : covers p j s < 1). let f = find p bs (omega arith) in record { pre = Headed j s ∷ f.pre; post = f.post; j = f.j; s = f.s; is = ap (λ (l : List Block). Headed j s ∷ l) f.is; hits = f.hits })
    (λ ge. record { pre = []; post = bs; j = j; s = s; is = refl; hits = ge })
    (cases_lt (covers p j s) 1)

border_mid : (p j s : ℕ) (pre post : List Block) → Border p (pre ++ (Headed j s ∷ post)) → (j + s < p) ⊎ (p ≤ j)
border_mid p j s [] post b = b.0
border_mid p j s (Headed j' s' ∷ pre) post b = border_mid p j s pre post b.1

border_next : (p s : ℕ) (bs : List Block) → ((i : ℕ) → i ≤ p + s → p ≤ i → covering i bs ≤ 0) → Border p bs → Border (suc (p + s)) bs
border_next p s [] z b = tt
border_next p s (Headed j' s' ∷ bs) z b =
    let one = covers_in j' j' s' (omega arith) (omega arith) in
    (⊎_elim (λ e. inl (omega arith)) (λ (g : p ≤ j'). ⊎_elim (λ (lt : j' < suc (p + s)). absurd (omega (arith, z j' (omega arith) g))) (λ ge. inr ge) (cases_lt j' (suc (p + s)))) b.0, border_next p s bs (λ i a c. omega (arith, z i a c)) b.1)

border_front : (p : ℕ) (pre post : List Block) → Border p (pre ++ post) → Border p pre
border_front p [] post b = tt
border_front p (Headed j s ∷ pre) post b = (b.0, border_front p pre post b.1)

border_back : (p : ℕ) (pre post : List Block) → Border p (pre ++ post) → Border p post
border_back p [] post b = b
border_back p (Headed j s ∷ pre) post b = border_back p pre post b.1

border_both : (p : ℕ) (pre post : List Block) → Border p pre → Border p post → Border p (pre ++ post)
border_both p [] post a b = b
border_both p (Headed j s ∷ pre) post a b = (a.0, border_both p pre post a.1 b)

border_start : (words : ℕ) (bs : List Block) → ((w : ℕ) → covering w bs ≤ covers w 2 (words - 3)) → Border 2 bs
border_start words [] c = tt
border_start words (Headed j s ∷ bs) c =
    let one = covers_in j j s (omega arith) (omega arith) in
    let l = covers_left j 2 (words - 3) (omega (arith, c j)) in
    (inr l, border_start words bs (λ w. omega (arith, c w)))

module _ (words : ℕ) (r : ℕ → ℕ) (w3 : 3 ≤ words) (bs : List Block) (heads : HaveHeaders r bs) (cover : (w : ℕ) → covering w bs ≡ covers w 2 (words - 3)) where
  from : (d p : ℕ) → words ≤ p + d → 2 ≤ p → p ≤ words → Border p bs → (n : ℕ) × (header_walk r n p ≡ words)
  from zero p far lo hi b = (0, omega arith)
  from (suc d) p far lo hi b = ⊎_elim
      (λ (lt : p < words).
      let f = find p bs (omega (arith, cover p, covers_in p 2 (words - 3) lo (omega arith))) in
      let b' = subst (Border p) f.is b in
      let l = covers_left p f.j f.s f.hits in
      let h = covers_right p f.j f.s f.hits in
      let e : f.j ≡ p = ⊎_elim (λ (x : f.j + f.s < p). absurd (omega arith)) (λ (x : p ≤ f.j). omega arith) (border_mid p f.j f.s f.pre f.post b') in
      let c : (i : ℕ) → covering i bs ≡ covering i f.pre + (covers i f.j f.s + covering i f.post) = λ i. ap (covering i) f.is ∙ covering_append i f.pre (Headed f.j f.s ∷ f.post) in
      let none : (i : ℕ) → i ≤ p + f.s → p ≤ i → covering i f.pre + covering i f.post ≤ 0 = λ i x y. omega (arith, c i, cover i, covers_most i 2 (words - 3), covers_in i f.j f.s (omega (arith, e)) (omega (arith, e))) in
      let rp : r p ≡ f.s = ap r (sym e) ∙ (headers_back r f.pre (Headed f.j f.s ∷ f.post) (subst (HaveHeaders r) f.is heads)).0 in
      let top = covers_in (f.j + f.s) f.j f.s (omega arith) (omega arith) in
      let end = covers_right (f.j + f.s) 2 (words - 3) (omega (arith, top, c (f.j + f.s), cover (f.j + f.s))) in
      let b1 = border_front p f.pre (Headed f.j f.s ∷ f.post) b' in
      let b2 = (border_back p f.pre (Headed f.j f.s ∷ f.post) b').1 in
      let next : Border (suc (p + f.s)) bs = subst (Border (suc (p + f.s))) (sym f.is) (border_both (suc (p + f.s)) f.pre (Headed f.j f.s ∷ f.post) (border_next p f.s f.pre (λ i x y. omega (arith, none i x y)) b1) (inl (omega (arith, e)), border_next p f.s f.post (λ i x y. omega (arith, none i x y)) b2)) in
      let g = from d (suc (p + f.s)) (omega arith) (omega arith) (omega (arith, e, end, w3)) next in
      (suc g.0, ap (λ x. header_walk r g.0 (suc (p + x))) rp ∙ g.1))
      (λ ge. (0, omega arith))
      (cases_lt p words)

pub headers_lead : HeadersLead
headers_lead words r w3 t =
    from words r w3 t.blocks t.headers t.cover words 2 (omega (arith, w3)) (omega arith) (omega (arith, w3)) (border_start words t.blocks (λ w. omega (arith, t.cover w)))
