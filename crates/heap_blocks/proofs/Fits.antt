-- The first block that fits.
use Rattle.std.proofs.Common.{◌≡◌, ℕ, suc, ◌+◌, ◌-◌, ◌<◌, ◌≤◌, Bool, inl, inr, ⊎_elim, List, [], ◌∷◌, ◌++◌, Option, Some, None, refl, sym, ap, ◌∙◌, arith}
use Rattle.std.specs.Prelude.{option_map, if◌then◌else◌}
use Rattle.std.proofs.lemmas.Bool.{le-leb, lt-leb, lt-ltb, le-ltb, cases_lt}
use Rattle.heap_blocks.specs.Blocks.{Block, Headed}
use Rattle.heap_blocks.specs.Allocation.{Taken, given, left_behind, behind, first_fit, AreSmaller, IsFirstFit}
use Rattle.heap_blocks.specs.Laws.{FitIsFirst, NoneIsSmall}
use Rattle.heap_blocks.proofs.Lists.{onto}

-- a block that holds the asked words is taken
pub takes : (asked j n : ℕ) (bs : List Block) → asked ≤ n → first_fit asked (Headed j n ∷ bs) ≡ Some (record { block = Headed j (given asked n); free = left_behind asked j n ++ bs })
takes asked j n bs le =
    let some : Option Taken = Some (record { block = Headed j (given asked n); free = left_behind asked j n ++ bs }) in
    ap (λ (b : Bool). if b then some else option_map (behind (Headed j n)) (first_fit asked bs)) (le-leb asked n le)

-- one that does not is passed
pub passes : (asked j n : ℕ) (bs : List Block) → n < asked → first_fit asked (Headed j n ∷ bs) ≡ option_map (behind (Headed j n)) (first_fit asked bs)
passes asked j n bs lt =
    let some : Option Taken = Some (record { block = Headed j (given asked n); free = left_behind asked j n ++ bs }) in
    ap (λ (b : Bool). if b then some else option_map (behind (Headed j n)) (first_fit asked bs)) (lt-leb asked n lt)

-- all words of a block are given, or the asked ones and a rest
pub whole_given : (asked j n : ℕ) (bs : List Block) → asked ≤ n → n - asked < 2 → first_fit asked (Headed j n ∷ bs) ≡ Some (record { block = Headed j n; free = bs })
whole_given asked j n bs le lt =
    takes asked j n bs le
    ∙ ap (λ (b : Bool). let t : Taken = record { block = Headed j (if b then n else asked); free = (if b then [] else Headed (suc (j + asked)) (n - asked - 1) ∷ []) ++ bs } in Some t) (lt-ltb (n - asked) 2 lt)

pub part_given : (asked j n rest : ℕ) (bs : List Block) → n ≡ asked + suc rest → 1 ≤ rest → first_fit asked (Headed j n ∷ bs) ≡ Some (record { block = Headed j asked; free = Headed (suc (j + asked)) rest ∷ bs })
part_given asked j n rest bs e some =
    takes asked j n bs (omega (arith, e))
    ∙ ap (λ (b : Bool). let t : Taken = record { block = Headed j (if b then n else asked); free = (if b then [] else Headed (suc (j + asked)) (n - asked - 1) ∷ []) ++ bs } in Some t) (le-ltb (n - asked) 2 (omega (arith, e, some)))
    ∙ ap (λ (k : ℕ). let t : Taken = record { block = Headed j asked; free = Headed (suc (j + asked)) k ∷ bs } in Some t) (omega (arith, e))

-- behind blocks that are passed, the last one first
pub fit_behind : (asked : ℕ) (passed bs : List Block) (t : Taken) → AreSmaller asked passed → first_fit asked bs ≡ Some t → first_fit asked (onto passed bs) ≡ Some (record { block = t.block; free = onto passed t.free })
fit_behind asked [] bs t small e = e
fit_behind asked (Headed j n ∷ passed) bs t small e =
    fit_behind asked passed (Headed j n ∷ bs) (behind (Headed j n) t) small.1 (passes asked j n bs small.0 ∙ ap (option_map (behind (Headed j n))) e)

pub none_behind : (asked : ℕ) (passed bs : List Block) → AreSmaller asked passed → first_fit asked bs ≡ None → first_fit asked (onto passed bs) ≡ None
none_behind asked [] bs small e = e
none_behind asked (Headed j n ∷ passed) bs small e =
    none_behind asked passed (Headed j n ∷ bs) small.1 (passes asked j n bs small.0 ∙ ap (option_map (behind (Headed j n))) e)

one_first : (asked j n : ℕ) (bs : List Block) (t : Taken) → asked ≤ n → first_fit asked (Headed j n ∷ bs) ≡ Some t → IsFirstFit asked (Headed j n ∷ bs) t
one_first asked j n bs t le e =
    ⊎_elim
    (λ (lt : n - asked < 2).
    let same : Some (record { block = Headed j n; free = bs }) ≡ Some t = sym (whole_given asked j n bs le lt) ∙ e in
    record {
      passed = [];
      header = j;
      before = n;
      words = n;
      others = bs;
      order = refl;
      smaller = tt;
      holds = le;
      block = block_of (record { block = Headed j n; free = bs }) t same;
      sized = ⊎_elim (λ (l : n < suc asked). inl (omega arith)) (λ g. inr (omega arith, omega arith)) (cases_lt n (suc asked));
    })
    (λ (ge : 2 ≤ n - asked).
    let more : n ≡ asked + suc (n - asked - 1) = omega arith in
    let same = sym (part_given asked j n (n - asked - 1) bs more (omega arith)) ∙ e in
    record {
      passed = [];
      header = j;
      before = n;
      words = asked;
      others = bs;
      order = refl;
      smaller = tt;
      holds = le;
      block = block_of (record { block = Headed j asked; free = Headed (suc (j + asked)) (n - asked - 1) ∷ bs }) t same;
      sized = inl refl;
    })
    (cases_lt (n - asked) 2)
  where
    block_of : (u t : Taken) → Some u ≡ Some t → t.block ≡ u.block
    block_of u t q = let same : u ≡ t = cc in ap (λ (x : Taken). x.block) (sym same)

pub fit_is_first : FitIsFirst
fit_is_first asked [] t e = absurd cc
fit_is_first asked (Headed j n ∷ bs) t e =
    ⊎_elim
    (λ (lt : n < asked). further (first_fit asked bs) refl (sym (passes asked j n bs lt) ∙ e) lt (λ u q. fit_is_first asked bs u q))
    (λ ge. one_first asked j n bs t ge e)
    (cases_lt n asked)
  where
    further : (o : Option Taken) → first_fit asked bs ≡ o → option_map (behind (Headed j n)) (first_fit asked bs) ≡ Some t → n < asked → ((u : Taken) → first_fit asked bs ≡ Some u → IsFirstFit asked bs u) → IsFirstFit asked (Headed j n ∷ bs) t
    further None q same lt again = let none : None ≡ Some t = ap (option_map (behind (Headed j n))) (sym q) ∙ same in absurd cc
    further (Some u) q same lt again =
        let found : Some (behind (Headed j n) u) ≡ Some t = ap (option_map (behind (Headed j n))) (sym q) ∙ same in
        let is : behind (Headed j n) u ≡ t = cc in
        let f = again u q in
        record {
          passed = Headed j n ∷ f.passed;
          header = f.header;
          before = f.before;
          words = f.words;
          others = f.others;
          order = ap (λ (l : List Block). Headed j n ∷ l) f.order;
          smaller = (lt, f.smaller);
          holds = f.holds;
          block = ap (λ (x : Taken). x.block) (sym is) ∙ f.block;
          sized = f.sized;
        }

pub none_is_small : NoneIsSmall
none_is_small asked [] e = tt
none_is_small asked (Headed j n ∷ bs) e =
    ⊎_elim
    (λ (lt : n < asked). (lt, none_is_small asked bs (below (first_fit asked bs) (sym (passes asked j n bs lt) ∙ e))))
    (λ ge. let some = sym (takes asked j n bs ge) ∙ e in absurd cc)
    (cases_lt n asked)
  where
    below : (o : Option Taken) → option_map (behind (Headed j n)) o ≡ None → o ≡ None
    below None q = refl
    below (Some u) q = absurd cc
