-- What a whole call says.
use Rattle.std.proofs.Common.{◌≡◌, ◌∙◌, ℕ, List, [], ◌∷◌, ◌++◌, ap, sym, subst, append_assoc}
use Rattle.machine_steps.specs.declared.Trap.TheVariants.{Exhausted}
use Rattle.wasm_execution.specs.Configurations.{Store, Event, Called, Returned, Stopped}
use Rattle.heap_events.specs.Events.{HeapEvent, AllocatorCall, at_entry, at_return, open_calls, heap_events}
use Rattle.heap_events.specs.Honesty.{GivesHonestly, LacksRoom, OfInnermost, IsHonest}
use Rattle.heap_histories.proofs.Growing.{runs_grow, honesty_grows, nothing_more}
use Rattle.allocator_events.specs.Calls.{call_of, call_events}
use Rattle.allocator_events.specs.Laws.{CallsAreWhole, CallsStayHonest, StopsStayHonest}

pub calls_are_whole : CallsAreWhole
calls_are_whole said f x v s s' =
    let g = runs_grow said (call_events f x v s s') in
    (g.0, g.1 ∙ ap (λ (es : List HeapEvent). heap_events said ++ (at_entry f x ++ es)) (nothing_more (at_return f v x)))

-- the call is the innermost one that runs when it was said
inside : (said : List Event) (f x : ℕ) (s : Store) → open_calls (said ++ (Called f x s ∷ [])) ≡ call_of f x s ∷ open_calls said
inside said f x s = (runs_grow said (Called f x s ∷ [])).0

two : (said : List Event) (d e : Event) → (said ++ (d ∷ [])) ++ (e ∷ []) ≡ said ++ (d ∷ e ∷ [])
two said d e = append_assoc said (d ∷ []) (e ∷ [])

pub calls_stay_honest : CallsStayHonest
calls_stay_honest linear unrestricted said f x v s s' h g =
    let called = honesty_grows linear unrestricted said (Called f x s) h tt in
    let given : OfInnermost (GivesHonestly linear f v s') (open_calls (said ++ (Called f x s ∷ []))) = subst (λ (calls : List AllocatorCall). OfInnermost (GivesHonestly linear f v s') calls) (sym (inside said f x s)) g in
    subst (λ (es : List Event). IsHonest linear unrestricted es) (two said (Called f x s) (Returned f v s')) (honesty_grows linear unrestricted (said ++ (Called f x s ∷ [])) (Returned f v s') called given)

pub stops_stay_honest : StopsStayHonest
stops_stay_honest linear unrestricted said f x s h g =
    let called = honesty_grows linear unrestricted said (Called f x s) h tt in
    let lacks : OfInnermost (LacksRoom linear unrestricted) (open_calls (said ++ (Called f x s ∷ []))) = subst (λ (calls : List AllocatorCall). OfInnermost (LacksRoom linear unrestricted) calls) (sym (inside said f x s)) g in
    subst (λ (es : List Event). IsHonest linear unrestricted es) (two said (Called f x s) (Stopped Exhausted)) (honesty_grows linear unrestricted (said ++ (Called f x s ∷ [])) (Stopped Exhausted) called lacks)
