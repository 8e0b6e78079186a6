-- How histories grow.
use Rattle.std.proofs.Common.{◌≡◌, ◌∙◌, ℕ, Bool, true, false, List, [], ◌∷◌, ◌++◌, Option, Some, None, refl, ap, sym, append_assoc}
use Rattle.std.specs.Prelude.{◌==◌, ◌||◌, if◌then◌else◌, map}
use Rattle.wasm_execution.specs.Configurations.{Event}
use Rattle.heap_events.specs.Events.{HeapEvent, Alloc, Free, Grant, Touch, AllocatorCall, calls_after, calls_from, events_of, events_from}
use Rattle.heap_events.specs.Heaps.{Extent, is_freed, blocks_of, grants_of}
use Rattle.heap_events.specs.Safety.{IsSafeAfter}
use Rattle.heap_events.specs.Honesty.{IsHonestAfter}
use Rattle.heap_events.proofs.Places.{each_more}
use Rattle.heap_histories.specs.Laws.{RunsGrow, HonestyGrows, SafetyGrows, cleared, blocks_then, grants_then, HeapsGrow}

pub calls_from_both : (calls : List AllocatorCall) (said more : List Event) → calls_from calls (said ++ more) ≡ calls_from (calls_from calls said) more
calls_from_both calls [] more = refl
calls_from_both calls (e ∷ said) more = calls_from_both (calls_after e calls) said more

pub events_from_both : (calls : List AllocatorCall) (said more : List Event) → events_from calls (said ++ more) ≡ events_from calls said ++ events_from (calls_from calls said) more
events_from_both calls [] more = refl
events_from_both calls (e ∷ said) more =
    let next = calls_after e calls in
    ap (λ (es : List HeapEvent). events_of calls e ++ es) (events_from_both next said more) ∙ sym (append_assoc (events_of calls e) (events_from next said) (events_from (calls_from next said) more))

pub runs_grow : RunsGrow
runs_grow said more = (calls_from_both [] said more, events_from_both [] said more)

pub honesty_grows : HonestyGrows
honesty_grows linear unrestricted said e h k = each_more (IsHonestAfter linear unrestricted) said e h k

pub safety_grows : SafetyGrows
safety_grows linear unrestricted es e h k = each_more (IsSafeAfter linear unrestricted) es e h k

or_none : (b : Bool) → (b || false) ≡ b
or_none true = refl
or_none false = refl

or_both : (a b c : Bool) → (a || (b || c)) ≡ ((a || b) || c)
or_both true b c = refl
or_both false b c = refl

-- a list and more behind it
freed_both : (a : ℕ) (es more : List HeapEvent) → is_freed a (es ++ more) ≡ (is_freed a es || is_freed a more)
freed_both a [] more = refl
freed_both a (Alloc b n ∷ es) more = freed_both a es more
freed_both a (Grant b n ∷ es) more = freed_both a es more
freed_both a (Touch b n ∷ es) more = freed_both a es more
freed_both a (Free b ∷ es) more = ap (λ (c : Bool). (a == b) || c) (freed_both a es more) ∙ or_both (a == b) (is_freed a es) (is_freed a more)

-- one event that frees nothing
not_freed : (a : ℕ) (es : List HeapEvent) (e : HeapEvent) → is_freed a (e ∷ []) ≡ false → is_freed a (es ++ (e ∷ [])) ≡ is_freed a es
not_freed a es e none = freed_both a es (e ∷ []) ∙ ap (λ (c : Bool). is_freed a es || c) none ∙ or_none (is_freed a es)

abbrev unless : Bool → Extent → Option Extent
unless c x = if c then None else Some x

abbrev extent : ℕ → ℕ → Extent
extent a n = record { address = a; words = n }

-- where nothing more is freed, the blocks that were there stay
stay : (es : List HeapEvent) (e : HeapEvent) → ((a : ℕ) → is_freed a (e ∷ []) ≡ false) → blocks_of (es ++ (e ∷ [])) ≡ blocks_of es ++ blocks_of (e ∷ [])
stay [] e none = refl
stay (Alloc a n ∷ es) e none =
    ap (λ (c : Bool). unless c (extent a n) ∷ blocks_of (es ++ (e ∷ []))) (not_freed a es e (none a)) ∙ ap (λ (xs : List (Option Extent)). unless (is_freed a es) (extent a n) ∷ xs) (stay es e none)
stay (Free a ∷ es) e none = stay es e none
stay (Grant a n ∷ es) e none = stay es e none
stay (Touch a n ∷ es) e none = stay es e none

unless_either : (c d : Bool) (x : Extent) (a : ℕ) → (x.address == a) ≡ d → unless (c || d) x ≡ cleared a (unless c x)
unless_either true d x a e = refl
unless_either false d x a e = ap (λ (b : Bool). unless b x) (sym e)

clear : (es : List HeapEvent) (a : ℕ) → blocks_of (es ++ (Free a ∷ [])) ≡ map (cleared a) (blocks_of es)
clear [] a = refl
clear (Alloc b n ∷ es) a =
    ap (λ (c : Bool). unless c (extent b n) ∷ blocks_of (es ++ (Free a ∷ []))) (freed_both b es (Free a ∷ []) ∙ ap (λ (c : Bool). is_freed b es || c) (or_none (b == a)))
    ∙ ap (λ (o : Option Extent). o ∷ blocks_of (es ++ (Free a ∷ []))) (unless_either (is_freed b es) (b == a) (extent b n) a refl)
    ∙ ap (λ (xs : List (Option Extent)). cleared a (unless (is_freed b es) (extent b n)) ∷ xs) (clear es a)
clear (Free b ∷ es) a = clear es a
clear (Grant b n ∷ es) a = clear es a
clear (Touch b n ∷ es) a = clear es a

pub nothing_more : {X : Type 0} (xs : List X) → xs ++ [] ≡ xs
nothing_more [] = refl
nothing_more (x ∷ xs) = ap (λ (ys : List _). x ∷ ys) (nothing_more xs)

pub blocks_grow : (es : List HeapEvent) (e : HeapEvent) → blocks_of (es ++ (e ∷ [])) ≡ blocks_then e (blocks_of es)
blocks_grow es (Alloc a n) = stay es (Alloc a n) (λ b. refl)
blocks_grow es (Free a) = clear es a
blocks_grow es (Grant a n) = stay es (Grant a n) (λ b. refl) ∙ nothing_more (blocks_of es)
blocks_grow es (Touch a n) = stay es (Touch a n) (λ b. refl) ∙ nothing_more (blocks_of es)

pub grants_both : (es more : List HeapEvent) → grants_of (es ++ more) ≡ grants_of es ++ grants_of more
grants_both [] more = refl
grants_both (Grant a n ∷ es) more = ap (λ (xs : List Extent). extent a n ∷ xs) (grants_both es more)
grants_both (Alloc a n ∷ es) more = grants_both es more
grants_both (Free a ∷ es) more = grants_both es more
grants_both (Touch a n ∷ es) more = grants_both es more

pub grants_grow : (es : List HeapEvent) (e : HeapEvent) → grants_of (es ++ (e ∷ [])) ≡ grants_then e (grants_of es)
grants_grow es (Grant a n) = grants_both es (Grant a n ∷ [])
grants_grow es (Alloc a n) = grants_both es (Alloc a n ∷ []) ∙ nothing_more (grants_of es)
grants_grow es (Free a) = grants_both es (Free a ∷ []) ∙ nothing_more (grants_of es)
grants_grow es (Touch a n) = grants_both es (Touch a n ∷ []) ∙ nothing_more (grants_of es)

pub heaps_grow : HeapsGrow
heaps_grow es e = (blocks_grow es e, grants_grow es e)
