-- The end of a call, on lists and numbers.
use Rattle.std.proofs.Common.{◌≡◌, ℕ, ◌-◌, ◌≤◌, Bool, List, ◌∷◌, ◌++◌, length, take, drop, sym, ap, ap₂, subst, subst₂, ◌∙◌, arith, append_assoc, length-append, length-drop}
use Rattle.std.proofs.lemmas.List.{take-append-drop, length-take-le}
use Rattle.wasm_execution.specs.Configurations.{Here}
use Rattle.wasm_values.specs.Stacked.{Stacked}
use Rattle.wasm_levels.specs.declared.row.OpenList.{OpenList}
use Rattle.wasm_levels.specs.Lists.{count_of, levels_of, beneath_all, AreLaid}
use Rattle.wasm_list_steps.specs.Moves.{capacity, Carries}
use Rattle.wasm_list_steps.proofs.Landing.{suffix}
use Rattle.wasm_call_steps.specs.declared.callers.Waiting.{Waiting}
use Rattle.wasm_call_steps.specs.Callers.{upper_part, lower_part, caller_of, callers_of, AreWaiting, Run, AreCalls, IsReturned}

-- the operands that the caller has then, and those beneath its innermost list
pub carried : (gives : Bool) (height base : ℕ) (before after : Stacked) (ls : List OpenList) → height ≡ length (beneath_all ls before.beneath) → base ≤ height → Carries gives height base before after →
    (taken rest : List ℕ) → before.own ≡ taken ++ rest → length taken ≡ count_of gives →
    (after.own ≡ taken ++ upper_part base (beneath_all ls before.beneath)) × (after.beneath ≡ lower_part base (beneath_all ls before.beneath)) × (capacity after ≡ capacity before)
carried gives height base before after ls high le carries taken rest split long =
    let b = before.beneath in
    let under = beneath_all ls b in
    let front = suffix ls b in
    let two : under ≡ upper_part base under ++ lower_part base under = sym (take-append-drop (length under - base) under) in
    let parts : rest ++ b ≡ (rest ++ front.0) ++ (upper_part base under ++ lower_part base under) =
    ap (λ (vs : List ℕ). rest ++ vs) (front.1 ∙ ap (λ (vs : List ℕ). front.0 ++ vs) two) ∙ sym (append_assoc rest front.0 (upper_part base under ++ lower_part base under)) in
    let fewer = length-drop (length under - base) under in
    let low : length (lower_part base under) ≡ base = omega (arith, fewer, high, le) in
    let all = ap length two ∙ length-append (upper_part base under) (lower_part base under) in
    let done = carries taken rest (rest ++ front.0) (upper_part base under) (lower_part base under) split long parts low (omega (arith, all, low, high)) in
    (done.0, done.1, done.2)

-- a call as its caller goes on
abbrev made : Waiting → List ℕ → List ℕ → List OpenList → List ℕ → Here
made w ms vs ls bs = record { function = w.function; argument = w.argument; locals = ms; operands = vs; rest = w.rest.now; levels = levels_of ls bs }

pub returned : (gives : Bool) (w : Waiting) (before after : Run) → before.callers ≡ w ∷ after.callers → AreCalls before → count_of gives ≤ length before.values.own →
    ((taken rest : List ℕ) → before.values.own ≡ taken ++ rest → length taken ≡ count_of gives →
    (after.values.own ≡ taken ++ upper_part w.base (beneath_all before.levels.own before.values.beneath)) × (after.values.beneath ≡ lower_part w.base (beneath_all before.levels.own before.values.beneath)) × (capacity after.values ≡ capacity before.values)) →
    after.levels.own ≡ take w.lists before.levels.beneath → after.levels.beneath ≡ drop w.lists before.levels.beneath →
    after.locals.own ≡ drop w.first_local before.locals.beneath → after.locals.beneath ≡ take w.first_local before.locals.beneath → IsReturned gives w before after
returned gives w before after calls kept enough operands own_lists lists own_locals locals =
    let under = beneath_all before.levels.own before.values.beneath in
    let ws = after.callers in
    let ls = before.levels.beneath in
    let ms = before.locals.beneath in
    let k = count_of gives in
    let some = operands (take k before.values.own) (drop k before.values.own) (sym (take-append-drop k before.values.own)) (length-take-le k before.values.own enough) in
    let lower : after.values.beneath ≡ lower_part w.base under = some.1 in
    let P : List Waiting → Type 0 = λ cs. AreWaiting cs ls under ms in
    let waiting : AreWaiting (w ∷ ws) ls under ms = subst P calls kept.waiting in
    let Q0 : List OpenList → Type 0 = λ l. AreWaiting ws l (beneath_all (take w.lists ls) (lower_part w.base under)) (take w.first_local ms) in
    let Q1 : List OpenList → List ℕ → Type 0 = λ o b. AreWaiting ws after.levels.beneath (beneath_all o b) (take w.first_local ms) in
    let Q2 : List ℕ → Type 0 = λ m. AreWaiting ws after.levels.beneath (beneath_all after.levels.own after.values.beneath) m in
    let R : List OpenList → List ℕ → Type 0 = λ o b. AreLaid o b in
    record {
      caller = caller_of w ls under ms;
      callers = ap (λ (cs : List Waiting). callers_of cs ls under ms) calls ∙ ap (λ (hs : List Here). caller_of w ls under ms ∷ hs)
          (ap (λ (l : List OpenList). callers_of ws l (beneath_all (take w.lists ls) (lower_part w.base under)) (take w.first_local ms)) (sym lists)
          ∙ ap₂ (λ (o : List OpenList) (b : List ℕ). callers_of ws after.levels.beneath (beneath_all o b) (take w.first_local ms)) (sym own_lists) (sym lower)
          ∙ ap (λ (m : List ℕ). callers_of ws after.levels.beneath (beneath_all after.levels.own after.values.beneath) m) (sym locals));
      here = λ taken rest split long.
          ap₂ (λ (m v : List ℕ). made w m v after.levels.own after.values.beneath) own_locals (operands taken rest split long).0
          ∙ ap₂ (λ (o : List OpenList) (b : List ℕ). made w (drop w.first_local ms) (taken ++ upper_part w.base under) o b) own_lists lower;
      calls = record {
        laid = subst₂ R (sym own_lists) (sym lower) waiting.3;
        waiting = subst Q2 (sym locals) (subst₂ Q1 (sym own_lists) (sym lower) (subst Q0 (sym lists) waiting.4));
      };
      room =
          let own = ap length some.0 ∙ length-append (take k before.values.own) (upper_part w.base under) in
          let low = ap length some.1 in
          let all = ap length (sym (take-append-drop (length under - w.base) under)) ∙ length-append (upper_part w.base under) (lower_part w.base under) in
          let few = length-take-le k before.values.own enough in
          let kept_all = some.2 in
          omega (arith, own, low, all, few, kept_all);
    }
