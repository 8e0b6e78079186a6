-- Leaving a list and branching to one, on lists and numbers: what the definitions compute to.
use Rattle.std.proofs.Common.{◌≡◌, ℕ, zero, suc, ◌+◌, ◌-◌, ◌≤◌, List, [], ◌∷◌, ◌++◌, length, take, drop, slice_get, Some, refl, sym, ap, ap₂, subst, subst₂, Bor, ◌∙◌, arith, length-drop, length-append, append_assoc}
use Rattle.std.proofs.lemmas.List.{take-append-drop, length-take-le}
use Rattle.machine_steps.specs.Steps.{Turn, with_top}
use Rattle.wasm_ast.specs.declared.instructions.WInstr.{WInstr}
use Rattle.wasm_execution.specs.Configurations.{Here, Config, Event}
use Rattle.wasm_execution.specs.Environments.{Environment}
use Rattle.wasm_execution.specs.Turns.{goes_on}
use Rattle.machine_steps.specs.Steps.{with_all}
use Rattle.wasm_execution.specs.Control as machine
use Rattle.wasm_values.specs.Stacked.{Stacked, IsCut}
use Rattle.wasm_levels.specs.declared.row.Aim.{Aim}
use Rattle.wasm_levels.specs.declared.row.Aim.TheVariants.{Past, Back}
use Rattle.wasm_levels.specs.declared.row.OpenList.{OpenList}
use Rattle.wasm_levels.specs.Rows.{Rows}
use Rattle.wasm_levels.specs.Lists.{aim_of, takes_of, count_of, around, outer, level_of, levels_of, beneath_all, AreLaid}
use Rattle.wasm_list_steps.specs.Moves.{shown, Stays, LeavesList, LandsAt, Carries, capacity}

-- exactly so many operands are taken whole
top_is : {Y : Type 0} (n : ℕ) (vs : List ℕ) (then_do : List ℕ → List ℕ → Turn Event Y) → length vs ≡ n → with_top n vs then_do ≡ then_do vs []
top_is zero [] then_do e = refl
top_is zero (v ∷ vs) then_do e = absurd (omega arith)
top_is (suc n) [] then_do e = absurd (omega arith)
top_is (suc n) (v ∷ vs) then_do e = top_is n vs (λ taken beneath. then_do (v ∷ taken) beneath) (omega (arith, e))

all_is : {Y : Type 0} (n : ℕ) (vs : List ℕ) (then_do : List ℕ → Turn Event Y) → length vs ≡ n → with_all n vs then_do ≡ then_do vs
all_is n vs then_do e = top_is n vs _ e

-- the first list and the others
pub first_of : (ls : List OpenList) (l : OpenList) → slice_get ls 0 ≡ Some l → ls ≡ l ∷ drop 1 ls
first_of [] l e = absurd (cc)
first_of (x ∷ xs) l e = let same : x ≡ l = (cc) in ap (λ (y : OpenList). y ∷ xs) same

-- what lies beneath an open list is in two parts
pub outer-long : (l : OpenList) (beneath : List ℕ) → l.base ≤ length beneath → length (outer l beneath) ≡ l.base
outer-long l beneath le = let e = length-drop (length beneath - l.base) beneath in omega (arith, e, le)

pub around-outer : (l : OpenList) (beneath : List ℕ) → beneath ≡ around l beneath ++ outer l beneath
around-outer l beneath = sym (take-append-drop (length beneath - l.base) beneath)

pub leaves : (before after : Stacked) (levels levels' : Rows) (l : OpenList) → levels.own ≡ l ∷ levels'.own → length before.own ≡ count_of l.gives →
    after.own ≡ before.own ++ around l before.beneath → after.beneath ≡ outer l before.beneath → LeavesList before levels l.rest.now after levels'
leaves before after levels levels' l lists ready own beneath e here c =
    ap (λ (ls : List OpenList). machine.leave e (levels_of ls before.beneath) (record here { operands = before.own; levels = levels_of ls before.beneath }) c) lists
    ∙ all_is (count_of l.gives) before.own _ ready
    ∙ ap₂ (λ (vs bs : List ℕ). goes_on (record here { operands = vs; rest = l.rest.now; levels = levels_of levels'.own bs }) c) (sym own) (sym beneath)

pub left-stays : (before after : Stacked) (levels levels' : Rows) (l : OpenList) → levels.own ≡ l ∷ levels'.own → levels'.beneath ≡ levels.beneath →
    after.beneath ≡ outer l before.beneath → Stays before levels after levels'
left-stays before after levels levels' l lists under beneath = record {
  operands = ap (beneath_all levels'.own) beneath ∙ sym (ap (λ (ls : List OpenList). beneath_all ls before.beneath) lists);
  lists = under;
  laid = λ h. let P : List ℕ → Type 0 = λ bs. AreLaid levels'.own bs in let Q : List OpenList → Type 0 = λ ls. AreLaid ls before.beneath in subst P (sym beneath) (subst Q lists h).1;
}

-- so many of the top operands are taken
top-splits : {Y : Type 0} (k : ℕ) (taken rest : List ℕ) (then_do : List ℕ → List ℕ → Turn Event Y) → length taken ≡ k → with_top k (taken ++ rest) then_do ≡ then_do taken rest
top-splits zero [] rest then_do e = refl
top-splits zero (v ∷ taken) rest then_do e = absurd (omega arith)
top-splits (suc k) [] rest then_do e = absurd (omega arith)
top-splits (suc k) (v ∷ taken) rest then_do e = top-splits k taken rest (λ vs beneath. then_do (v ∷ vs) beneath) (omega (arith, e))

-- a branch leads to the list with its number
lands : (n : ℕ) (ls : List OpenList) (b : List ℕ) (e : Environment) (here : Here) (c : Config) (l : OpenList) → slice_get ls n ≡ Some l →
    machine.branch e n (levels_of ls b) here c
    ≡ with_top (takes_of l.aim l.gives) here.operands
    (λ vs beneath. machine.arrive (aim_of l.aim) vs (level_of l (beneath_all (take n ls) b)) (levels_of (drop (suc n) ls) (outer l (beneath_all (take n ls) b))) here c)
lands zero [] b e here c l g = absurd (cc)
lands zero (x ∷ xs) b e here c l g =
    let same : x ≡ l = (cc) in
    ap (λ (y : OpenList). with_top (takes_of y.aim y.gives) here.operands (λ (vs beneath : List ℕ). machine.arrive (aim_of y.aim) vs (level_of y b) (levels_of xs (outer y b)) here c)) same
lands (suc n) [] b e here c l g = absurd (cc)
lands (suc n) (x ∷ xs) b e here c l g = lands n xs (outer x b) e here c l g

under-next : (n : ℕ) (ls : List OpenList) (b : List ℕ) (l : OpenList) → slice_get ls n ≡ Some l → beneath_all (take (suc n) ls) b ≡ outer l (beneath_all (take n ls) b)
under-next zero [] b l g = absurd (cc)
under-next zero (x ∷ xs) b l g = let same : x ≡ l = (cc) in ap (λ (y : OpenList). outer y b) same
under-next (suc n) [] b l g = absurd (cc)
under-next (suc n) (x ∷ xs) b l g = under-next n xs (outer x b) l g

all-drop : (k : ℕ) (ls : List OpenList) (b : List ℕ) → beneath_all (drop k ls) (beneath_all (take k ls) b) ≡ beneath_all ls b
all-drop zero ls b = refl
all-drop (suc k) [] b = refl
all-drop (suc k) (x ∷ xs) b = all-drop k xs (outer x b)

laid-drop : (k : ℕ) (ls : List OpenList) (b : List ℕ) → AreLaid ls b → AreLaid (drop k ls) (beneath_all (take k ls) b)
laid-drop zero ls b h = h
laid-drop (suc k) [] b h = tt
laid-drop (suc k) (x ∷ xs) b h = laid-drop k xs (outer x b) h.1

drop-here : (n : ℕ) (ls : List OpenList) (l : OpenList) → slice_get ls n ≡ Some l → drop n ls ≡ l ∷ drop (suc n) ls
drop-here zero [] l g = absurd (cc)
drop-here zero (x ∷ xs) l g = let same : x ≡ l = (cc) in ap (λ (y : OpenList). y ∷ xs) same
drop-here (suc n) [] l g = absurd (cc)
drop-here (suc n) (x ∷ xs) l g = drop-here n xs l g

-- the list with a number lies on as many as it is said to
pub laid-here : (n : ℕ) (ls : List OpenList) (b : List ℕ) (l : OpenList) → slice_get ls n ≡ Some l → AreLaid ls b → l.base ≤ length (beneath_all (take n ls) b)
laid-here n ls b l g h =
    let Q : List OpenList → Type 0 = λ xs. AreLaid xs (beneath_all (take n ls) b) in
    (subst Q (drop-here n ls l g) (laid-drop n ls b h)).0

-- what lies beneath a list lies beneath all lists in it
pub suffix : (ls : List OpenList) (b : List ℕ) → (front : List ℕ) × (b ≡ front ++ beneath_all ls b)
suffix [] b = ([], refl)
suffix (x ∷ xs) b =
    let i = suffix xs (outer x b) in
    (around x b ++ i.0, around-outer x b ∙ ap (λ (l : List ℕ). around x b ++ l) i.1 ∙ sym (append_assoc (around x b) i.0 (beneath_all xs (outer x b))))

pub height-next : (k : ℕ) (ls : List OpenList) (b : List ℕ) (l : OpenList) → slice_get ls k ≡ Some l → AreLaid ls b → length (beneath_all (take (suc k) ls) b) ≡ l.base
height-next k ls b l g h = ap length (under-next k ls b l g) ∙ outer-long l (beneath_all (take k ls) b) (laid-here k ls b l g h)

module _ (n : ℕ) (before after : Stacked) (levels levels' : Rows) (l : OpenList) (g : slice_get levels.own n ≡ Some l) where
  -- a branch past a list
  pub past-lands : (taken rest : List ℕ) → l.aim ≡ Past → levels'.own ≡ drop (n + 1) levels.own → before.own ≡ taken ++ rest → length taken ≡ count_of l.gives →
      after.own ≡ taken ++ around l (beneath_all (take n levels.own) before.beneath) → after.beneath ≡ outer l (beneath_all (take n levels.own) before.beneath) →
      LandsAt n before levels l.rest.now after levels'
  past-lands taken rest aim lists split long own beneath e here c =
      let under = beneath_all (take n levels.own) before.beneath in
      let more : suc n ≡ n + 1 = omega arith in
      let next : drop (suc n) levels.own ≡ levels'.own = ap (λ (k : ℕ). drop k levels.own) more ∙ sym lists in
      let landed = λ (a : Aim) (vs : List ℕ). machine.arrive (aim_of a) vs (level_of l under) (levels_of (drop (suc n) levels.own) (outer l under)) (shown before levels here) c in
      lands n levels.own before.beneath e (shown before levels here) c l g
      ∙ ap (λ (a : Aim). with_top (takes_of a l.gives) before.own (λ (vs beneath : List ℕ). landed a vs)) aim
      ∙ ap (λ (vs : List ℕ). with_top (count_of l.gives) vs (λ (vs beneath : List ℕ). landed Past vs)) split
      ∙ top-splits (count_of l.gives) taken rest _ long
      ∙ ap (λ (ls : List OpenList). goes_on (record here { operands = taken ++ around l under; rest = l.rest.now; levels = levels_of ls (outer l under) }) c) next
      ∙ ap₂ (λ (vs bs : List ℕ). goes_on (record here { operands = vs; rest = l.rest.now; levels = levels_of levels'.own bs }) c) (sym own) (sym beneath)

  -- a branch to the start of a list
  pub back-lands : (body : Bor (List WInstr)) → l.aim ≡ Back body → levels'.own ≡ drop n levels.own → after.own ≡ [] → after.beneath ≡ beneath_all (take n levels.own) before.beneath →
      LandsAt n before levels body.now after levels'
  back-lands body aim lists own beneath e here c =
      let under = beneath_all (take n levels.own) before.beneath in
      let next : l ∷ drop (suc n) levels.own ≡ levels'.own = sym (drop-here n levels.own l g) ∙ sym lists in
      let landed = λ (a : Aim) (vs : List ℕ). machine.arrive (aim_of a) vs (level_of l under) (levels_of (drop (suc n) levels.own) (outer l under)) (shown before levels here) c in
      lands n levels.own before.beneath e (shown before levels here) c l g
      ∙ ap (λ (a : Aim). with_top (takes_of a l.gives) before.own (λ (vs beneath : List ℕ). landed a vs)) aim
      ∙ ap (λ (ls : List OpenList). goes_on (record here { operands = []; rest = body.now; levels = levels_of ls under }) c) next
      ∙ ap₂ (λ (vs bs : List ℕ). goes_on (record here { operands = vs; rest = body.now; levels = levels_of levels'.own bs }) c) (sym own) (sym beneath)

-- what lies beneath the call stays where the inner lists are closed
pub kept : (k : ℕ) (before after : Stacked) (levels levels' : Rows) → levels'.own ≡ drop k levels.own → levels'.beneath ≡ levels.beneath →
    after.beneath ≡ beneath_all (take k levels.own) before.beneath → Stays before levels after levels'
kept k before after levels levels' lists under beneath = record {
  operands = ap₂ beneath_all lists beneath ∙ all-drop k levels.own before.beneath;
  lists = under;
  laid = λ h. let P : List OpenList → List ℕ → Type 0 = λ ls bs. AreLaid ls bs in subst₂ P (sym lists) (sym beneath) (laid-drop k levels.own before.beneath h);
}

-- one operand is taken
pub one_taken : (taken rest : List ℕ) (v : ℕ) (vs : List ℕ) → length taken ≡ 1 → taken ++ rest ≡ v ∷ vs → (taken ≡ v ∷ []) × (rest ≡ vs)
one_taken [] rest v vs e split = absurd (omega arith)
one_taken (t ∷ []) rest v vs e split = let same : t ≡ v = (cc) in let left : rest ≡ vs = (cc) in (ap (λ (n : ℕ). n ∷ []) same, left)
one_taken (t ∷ (u ∷ taken)) rest v vs e split = absurd (omega (arith, e))

-- no more lies beneath an outer list
pub shorter : (ls : List OpenList) (b : List ℕ) → length (beneath_all ls b) ≤ length b
shorter ls b =
    let f = suffix ls b in
    let e = ap length f.1 ∙ length-append f.0 (beneath_all ls b) in
    omega (arith, e)

-- a branch past a list, by its operands: those that it takes, the others, and those that are left
pub record Carried (n : ℕ) (l : OpenList) (before after : Stacked) (ls : List OpenList) : Type 0 where
  pub taken : List ℕ
  pub rest : List ℕ
  pub split : before.own ≡ taken ++ rest
  pub long : length taken ≡ count_of l.gives
  pub own : after.own ≡ taken ++ around l (beneath_all (take n ls) before.beneath)
  pub beneath : after.beneath ≡ outer l (beneath_all (take n ls) before.beneath)
  pub capacity : capacity after ≡ capacity before

pub carried : (n : ℕ) (l : OpenList) (before after : Stacked) (ls : List OpenList) (height : ℕ) → slice_get ls n ≡ Some l → AreLaid ls before.beneath → count_of l.gives ≤ length before.own →
    height ≡ length (beneath_all (take n ls) before.beneath) → Carries l.gives height l.base before after → Carried n l before after ls
carried n l before after ls height g laid enough high carries =
    let k = count_of l.gives in
    let b = before.beneath in
    let under = beneath_all (take n ls) b in
    let taken = take k before.own in
    let rest = drop k before.own in
    let front = suffix (take n ls) b in
    let split : before.own ≡ taken ++ rest = sym (take-append-drop k before.own) in
    let long : length taken ≡ k = length-take-le k before.own enough in
    let parts : rest ++ b ≡ (rest ++ front.0) ++ (around l under ++ outer l under) =
    ap (λ (vs : List ℕ). rest ++ vs) (front.1 ∙ ap (λ (vs : List ℕ). front.0 ++ vs) (around-outer l under)) ∙ sym (append_assoc rest front.0 (around l under ++ outer l under)) in
    let low : length (outer l under) ≡ l.base = outer-long l under (laid-here n ls b l g laid) in
    let all = ap length (around-outer l under) ∙ length-append (around l under) (outer l under) in
    let done = carries taken rest (rest ++ front.0) (around l under) (outer l under) split long parts low (omega (arith, all, low, high)) in
    record { taken = taken; rest = rest; split = split; long = long; own = done.0; beneath = done.1; capacity = done.2 }

-- a branch to the start of a list, by its operands
pub cut_back : (n : ℕ) (before after : Stacked) (ls : List OpenList) (height : ℕ) → height ≡ length (beneath_all (take n ls) before.beneath) → IsCut height height before after →
    (after.own ≡ []) × (after.beneath ≡ beneath_all (take n ls) before.beneath) × (capacity after ≡ capacity before)
cut_back n before after ls height high cut =
    let under = beneath_all (take n ls) before.beneath in
    let front = suffix (take n ls) before.beneath in
    let parts : before.own ++ before.beneath ≡ (before.own ++ front.0) ++ ([] ++ under) =
    ap (λ (vs : List ℕ). before.own ++ vs) front.1 ∙ sym (append_assoc before.own front.0 under) in
    let done = cut (before.own ++ front.0) [] under parts (sym high) (omega arith) in
    let lo = ap length done.0 in
    let lb = ap length done.1 in
    let lf = length-append before.own front.0 in
    let la = ap length front.1 ∙ length-append front.0 under in
    let lr = done.2 in
    (done.0, done.1, omega (arith, lo, lb, lf, la, lr))

-- what lies beneath the call stays where a list is branched past
pub kept-past : (n : ℕ) (l : OpenList) (before after : Stacked) (levels levels' : Rows) → slice_get levels.own n ≡ Some l → levels'.own ≡ drop (n + 1) levels.own → levels'.beneath ≡ levels.beneath →
    after.beneath ≡ outer l (beneath_all (take n levels.own) before.beneath) → Stays before levels after levels'
kept-past n l before after levels levels' g lists under beneath =
    let more : n + 1 ≡ suc n = omega arith in
    kept (suc n) before after levels levels' (lists ∙ ap (λ (k : ℕ). drop k levels.own) more) under (beneath ∙ sym (under-next n levels.own before.beneath l g))
