-- Payloads in their blocks, and grants, where one is added or taken away.
use Rattle.std.proofs.Common.{◌≡◌, ◌∙◌, ◌≢◌, ℕ, zero, suc, ◌*◌, ◌≤◌, ⊎_elim, Bool, List, [], ◌∷◌, ◌++◌, Option, Some, None, slice_get, refl, ap, sym, subst, arith}
use Rattle.std.specs.Prelude.{if◌then◌else◌, map}
use Rattle.std.proofs.lemmas.Bool.{cases_eq, eq-eqb, ne_eqb}
use Rattle.heap_blocks.specs.Blocks.{Block, Headed, address_of, words_of, covering}
use Rattle.heap_blocks.proofs.Lists.{covers_in}
use Rattle.heap_events.specs.Heaps.{Extent, end_of}
use Rattle.heap_histories.specs.Histories.{LieAt, Follow}
use Rattle.heap_histories.specs.Laws.{cleared}

pub lie_more : (xs : List (Option Extent)) (bs : List Block) (x : Extent) (b : Block) → LieAt xs bs → x.address ≡ address_of b → x.words ≤ words_of b → LieAt (xs ++ (Some x ∷ [])) (bs ++ (b ∷ []))
lie_more [] [] x b h a n = (a, n, refl)
lie_more [] (c ∷ bs) x b h a n = absurd cc
lie_more (None ∷ xs) bs x b h a n = lie_more xs bs x b h a n
lie_more (Some y ∷ xs) [] x b h a n = absurd h
lie_more (Some y ∷ xs) (c ∷ bs) x b h a n = (h.0, h.1, lie_more xs bs x b h.2 a n)

pub follow_more : (from to : ℕ) (xs : List Extent) (x : Extent) → Follow from xs to → x.address ≡ to → Follow from (xs ++ (x ∷ [])) (end_of x)
follow_more from to [] x h a = (a ∙ sym h, refl)
follow_more from to (y ∷ xs) x h a = (h.0, follow_more (end_of y) to xs x h.1 a)

abbrev unless : Bool → Extent → Option Extent
unless c x = if c then None else Some x

stays : (a : ℕ) (x : Extent) → x.address ≢ a → cleared a (Some x) ≡ Some x
stays a x n = ap (λ (c : Bool). unless c x) (ne_eqb x.address a n)

goes : (a : ℕ) (x : Extent) → x.address ≡ a → cleared a (Some x) ≡ None
goes a x e = ap (λ (c : Bool). unless c x) (eq-eqb x.address a e)

-- where no block has this header's word, none is gone
none_gone : (xs : List (Option Extent)) (bs : List Block) (j a : ℕ) → LieAt xs bs → covering j bs ≡ 0 → a ≡ 8 * suc j → LieAt (map (cleared a) xs) bs
none_gone [] bs j a h z e = h
none_gone (None ∷ xs) bs j a h z e = none_gone xs bs j a h z e
none_gone (Some x ∷ xs) [] j a h z e = absurd h
none_gone (Some x ∷ xs) (Headed k n ∷ bs) j a h z e =
    let other : x.address ≢ a = λ q. ⊎_elim (λ (same : j ≡ k). let one = covers_in j k n (omega (arith, same)) (omega (arith, same)) in absurd (omega (arith, one, z))) (λ ne. ne (omega (arith, h.0, q, e))) (cases_eq j k) in
    let rest = none_gone xs bs j a h.2 (omega (arith, z)) e in
    subst (λ (o : Option Extent). LieAt (o ∷ map (cleared a) xs) (Headed k n ∷ bs)) (sym (stays a x other)) (h.0, h.1, rest)

-- the block at this address, among the others, which stay
pub record Split (a : ℕ) (xs : List (Option Extent)) (bs : List Block) : Type 0 where
  pub before : List Block
  pub block : Block
  pub behind : List Block
  pub is : bs ≡ before ++ (block ∷ behind)
  pub address : address_of block ≡ a
  pub others : LieAt (map (cleared a) xs) (before ++ behind)

pub split : (a : ℕ) (xs : List (Option Extent)) (bs : List Block) (i : ℕ) (x : Extent) → ((w : ℕ) → covering w bs ≤ 1) → LieAt xs bs → slice_get xs i ≡ Some (Some x) → x.address ≡ a → Split a xs bs
split a [] bs i x once h q e = absurd cc
split a (None ∷ xs) bs zero x once h q e = absurd cc
split a (None ∷ xs) bs (suc i) x once h q e =
    let r = split a xs bs i x once h q e in
    record { before = r.before; block = r.block; behind = r.behind; is = r.is; address = r.address; others = r.others }
split a (Some y ∷ xs) [] i x once h q e = absurd h
split a (Some y ∷ xs) (Headed k n ∷ bs) i x once h q e = ⊎_elim (λ same. here same) (λ other. further i q other (λ j f. split a xs bs j x (λ w. omega (arith, once w)) h.2 f e)) (cases_eq y.address a)
  where
    here : y.address ≡ a → Split a (Some y ∷ xs) (Headed k n ∷ bs)
    here same =
        let one = covers_in k k n (omega arith) (omega arith) in
        let rest = none_gone xs bs k a h.2 (omega (arith, one, once k)) (sym same ∙ h.0) in
        record {
          before = [];
          block = Headed k n;
          behind = bs;
          is = refl;
          address = sym h.0 ∙ same;
          others = subst (λ (o : Option Extent). LieAt (o ∷ map (cleared a) xs) bs) (sym (goes a y same)) rest;
        }

    further : (i : ℕ) → slice_get (Some y ∷ xs) i ≡ Some (Some x) → y.address ≢ a → ((j : ℕ) → slice_get xs j ≡ Some (Some x) → Split a xs bs) → Split a (Some y ∷ xs) (Headed k n ∷ bs)
    further zero q other again = let same : y ≡ x = cc in absurd (other (ap (λ (z : Extent). z.address) same ∙ e))
    further (suc i) q other again =
        let r = again i q in
        record {
          before = Headed k n ∷ r.before;
          block = r.block;
          behind = r.behind;
          is = ap (λ (cs : List Block). Headed k n ∷ cs) r.is;
          address = r.address;
          others = subst (λ (o : Option Extent). LieAt (o ∷ map (cleared a) xs) (Headed k n ∷ (r.before ++ r.behind))) (sym (stays a y other)) (h.0, h.1, r.others);
        }
