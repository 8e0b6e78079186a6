-- The first ill-formed sequence of a text does not hang on what stands behind it.
use Rattle.std.proofs.Common.{◌≡◌, ◌∙◌, ℕ, zero, suc, ◌≤◌, Bool, true, false, List, [], ◌∷◌, ◌++◌, length, refl, sym, ap, subst, arith, Option, Some, None}
use Rattle.std.specs.Prelude.{if◌then◌else◌, ◌==◌, ◌&&◌, ◌||◌, nat_le}
use Rattle.rich_text.specs.Places.{Place, the_start, place_behind, place_after}
use Rattle.rich_text.specs.Texts.{reading_tokens, if_encoded}
use Rattle.rich_text.specs.Lexing.{lexed}
use Rattle.rich_text.specs.Utf8.{between, continue, second_in, more_of, at_sequence, ill_formed_from}
use Rattle.rich_text_fault_laws.specs.Laws.{BeginNone, EncodingIsFirst, FourBytesTell, NothingBehindBytesCounts}
use Rattle.rich_text_fault_laws.proofs.Order.{Earlier, Apart, one_behind, earlier_trans, earlier_apart, later_apart, all_behind}

pub encoding_is_first : EncodingIsFirst
encoding_is_first bytes at e = ap (λ o. if_encoded o (reading_tokens (lexed bytes))) e

pub four_bytes_tell : FourBytesTell
four_bytes_tell b c d f e behind = e

-- at least so many
abbrev AtLeast : ℕ → Option ℕ → Type 0
AtLeast k o = (m : ℕ) → o ≡ Some m → k ≤ m

-- the same, where it is at most so many
abbrev SameTo : ℕ → Option ℕ → Option ℕ → Type 0
SameTo k x y = (m : ℕ) → m ≤ k → x ≡ Some m → y ≡ Some m

least_if : (k : ℕ) (b : Bool) (x y : Option ℕ) → AtLeast k x → AtLeast k y → AtLeast k (if b then x else y)
least_if k true x y h g = h
least_if k false x y h g = g

same_if : (k : ℕ) (b : Bool) (x y z w : Option ℕ) → SameTo k x z → SameTo k y w → SameTo k (if b then x else y) (if b then z else w)
same_if k true x y z w h g = h
same_if k false x y z w h g = g

least_some : (k n : ℕ) → k ≤ n → AtLeast k (Some n)
least_some k n l m e = subst (λ i. k ≤ i) (same n m e) l
  where
    same : (n m : ℕ) → ◌≡◌ {A = Option ℕ} (Some n) (Some m) → n ≡ m
    same n m e = cc

least_none : (k : ℕ) → AtLeast k None
least_none k m e = absurd (cc e)

too_many : (k : ℕ) (x y : Option ℕ) → AtLeast (suc k) x → SameTo k x y
too_many k x y h m l e = absurd (omega (arith, l, h m e))

same_self : (k : ℕ) (x : Option ℕ) → SameTo k x x
same_self k x m l e = e

-- the tests by which the length of a sequence is found, in their order
abbrev by_tests : Bool → Bool → Bool → Bool → Bool → Bool → Option ℕ
by_tests c d e f g h = if c then Some 0 else (if d then Some 1 else (if e then Some 2 else (if f then Some 2 else (if g then Some 3 else (if h then Some 3 else None)))))

three : (k : ℕ) (g h : Bool) → k ≤ 3 → AtLeast k (if g then Some 3 else (if h then Some 3 else None))
three k g h l = least_if k g (Some 3) (if h then Some 3 else None) (least_some k 3 l) (least_if k h (Some 3) None (least_some k 3 l) (least_none k))

two : (k : ℕ) (e f g h : Bool) → k ≤ 2 → AtLeast k (if e then Some 2 else (if f then Some 2 else (if g then Some 3 else (if h then Some 3 else None))))
two k e f g h l = least_if k e (Some 2) _ (least_some k 2 l) (least_if k f (Some 2) _ (least_some k 2 l) (three k g h (omega (arith, l))))

one : (d e f g h : Bool) → AtLeast 1 (if d then Some 1 else (if e then Some 2 else (if f then Some 2 else (if g then Some 3 else (if h then Some 3 else None)))))
one d e f g h = least_if 1 d (Some 1) _ (least_some 1 1 (omega arith)) (two 1 e f g h (omega arith))

to_none : (c d e f g h s t u v w : Bool) → SameTo 0 (by_tests c d e f g h) (by_tests c s t u v w)
to_none c d e f g h s t u v w = same_if 0 c (Some 0) _ (Some 0) _ (same_self 0 (Some 0)) (too_many 0 _ _ (one d e f g h))

to_one : (c d e f g h t u v w : Bool) → SameTo 1 (by_tests c d e f g h) (by_tests c d t u v w)
to_one c d e f g h t u v w =
    same_if 1 c (Some 0) _ (Some 0) _ (same_self 1 (Some 0)) (same_if 1 d (Some 1) _ (Some 1) _ (same_self 1 (Some 1)) (too_many 1 _ _ (two 2 e f g h (omega arith))))

to_two : (c d e f g h v w : Bool) → SameTo 2 (by_tests c d e f g h) (by_tests c d e f v w)
to_two c d e f g h v w =
    same_if 2 c (Some 0) _ (Some 0) _ (same_self 2 (Some 0))
    (same_if 2 d (Some 1) _ (Some 1) _ (same_self 2 (Some 1))
    (same_if 2 e (Some 2) _ (Some 2) _ (same_self 2 (Some 2)) (same_if 2 f (Some 2) _ (Some 2) _ (same_self 2 (Some 2)) (too_many 2 _ _ (three 3 g h (omega arith))))))

abbrev two_more : ℕ → List ℕ → Bool
two_more b bs = between 0xC2 0xDF b && continue 1 bs

abbrev three_bounded : ℕ → List ℕ → Bool
three_bounded b bs = (b == 0xE0 && second_in 0xA0 0xBF 1 bs) || (b == 0xED && second_in 0x80 0x9F 1 bs)

abbrev three_more : ℕ → List ℕ → Bool
three_more b bs = (between 0xE1 0xEC b || between 0xEE 0xEF b) && continue 2 bs

abbrev four_bounded : ℕ → List ℕ → Bool
four_bounded b bs = (b == 0xF0 && second_in 0x90 0xBF 2 bs) || (b == 0xF4 && second_in 0x80 0x8F 2 bs)

abbrev four_more : ℕ → List ℕ → Bool
four_more b bs = between 0xF1 0xF3 b && continue 3 bs

-- a sequence that ends in the bytes shown is one before any others
more_same : (b : ℕ) (shown back other : List ℕ) → SameTo (length shown) (more_of b (shown ++ back)) (more_of b (shown ++ other))
more_same b [] x y =
    to_none (nat_le b 0x7F) (two_more b x) (three_bounded b x) (three_more b x) (four_bounded b x) (four_more b x)
    (two_more b y) (three_bounded b y) (three_more b y) (four_bounded b y) (four_more b y)
more_same b (c ∷ []) x y =
    to_one (nat_le b 0x7F) (two_more b (c ∷ x)) (three_bounded b (c ∷ x)) (three_more b (c ∷ x)) (four_bounded b (c ∷ x)) (four_more b (c ∷ x))
    (three_bounded b (c ∷ y)) (three_more b (c ∷ y)) (four_bounded b (c ∷ y)) (four_more b (c ∷ y))
more_same b (c ∷ d ∷ []) x y =
    to_two (nat_le b 0x7F) (two_more b (c ∷ d ∷ x)) (three_bounded b (c ∷ d ∷ x)) (three_more b (c ∷ d ∷ x)) (four_bounded b (c ∷ d ∷ x)) (four_more b (c ∷ d ∷ x))
    (four_bounded b (c ∷ d ∷ y)) (four_more b (c ∷ d ∷ y))
more_same b (c ∷ d ∷ f ∷ shown) x y = same_self (length (c ∷ d ∷ f ∷ shown)) (more_of b (c ∷ d ∷ f ∷ (shown ++ x)))

some_place : (x y : Place) → ◌≡◌ {A = Option Place} (Some x) (Some y) → x ≡ y
some_place x y e = cc

sequence_clear : (o : Option ℕ) (go : ℕ → Option Place) (at p : Place) → Apart p at → ((m : ℕ) → go m ≡ Some p → ⊥) → at_sequence at o go ≡ Some p → ⊥
sequence_clear None go at p h more e = h (sym (some_place at p e))
sequence_clear (Some m) go at p h more e = more m e

-- where reading has passed a place, no fault is found at it
none_before : (bs : List ℕ) (more : ℕ) (at p : Place) → Earlier p at → ill_formed_from more at bs ≡ Some p → ⊥
none_before [] zero at p h e = absurd (cc e)
none_before [] (suc more) at p h e = absurd (cc e)
none_before (b ∷ bs) (suc more) at p h e = none_before bs more (place_behind b at) p (earlier_trans p at (place_behind b at) h (one_behind b at)) e
none_before (b ∷ bs) zero at p h e =
    sequence_clear (more_of b bs) (λ m. ill_formed_from m (place_behind b at) bs) at p (earlier_apart p at h)
    (λ m. none_before bs m (place_behind b at) p (earlier_trans p at (place_behind b at) h (one_behind b at))) e

-- at the place: the bytes that begin no sequence, unless a sequence is still to end
here : (shown back other : List ℕ) (more : ℕ) (p : Place) → BeginNone shown → ill_formed_from more p (shown ++ back) ≡ Some p → ill_formed_from more p (shown ++ other) ≡ Some p
here [] back other more p h e = absurd h
here (b ∷ bs) back other zero p h e = ap (λ o. at_sequence p o (λ m. ill_formed_from m (place_behind b p) (bs ++ other))) (h other)
here (b ∷ bs) back other (suc more) p h e = absurd (none_before (bs ++ back) more (place_behind b p) p (one_behind b p) e)

-- a sequence begun before the place ends before it
ends_before : (m : ℕ) (front rest : List ℕ) (at p : Place) → p ≡ place_after front at → ill_formed_from m at (front ++ rest) ≡ Some p → m ≤ length front
ends_before zero front rest at p q e = omega arith
ends_before (suc m) (b ∷ front) rest at p q e = let l = ends_before m front rest (place_behind b at) p q e in omega (arith, l)
ends_before (suc m) [] [] at p q e = absurd (cc e)
ends_before (suc m) [] (b ∷ rest) at p q e = absurd (none_before rest m (place_behind b at) p (subst (λ r. Earlier r (place_behind b at)) (sym q) (one_behind b at)) e)

sequence_same : (o i : Option ℕ) (k : ℕ) (go to : ℕ → Option Place) (at p : Place) → Apart p at → SameTo k o i → ((m : ℕ) → go m ≡ Some p → m ≤ k) → ((m : ℕ) → go m ≡ Some p → to m ≡ Some p) → at_sequence at o go ≡ Some p → at_sequence at i to ≡ Some p
sequence_same None i k go to at p h same ends again e = absurd (h (sym (some_place at p e)))
sequence_same (Some m) i k go to at p h same ends again e = ap (λ o. at_sequence at o to) (same m (ends m e) refl) ∙ again m e

from_front : (shown back other : List ℕ) → BeginNone shown → (front : List ℕ) (more : ℕ) (at p : Place) → p ≡ place_after front at → ill_formed_from more at (front ++ (shown ++ back)) ≡ Some p → ill_formed_from more at (front ++ (shown ++ other)) ≡ Some p
from_front shown back other h [] more at p q e =
    subst (λ r. ill_formed_from more r (shown ++ other) ≡ Some p) q (here shown back other more p h (subst (λ r. ill_formed_from more r (shown ++ back) ≡ Some p) (sym q) e))
from_front shown back other h (b ∷ front) (suc more) at p q e = from_front shown back other h front more (place_behind b at) p q e
from_front shown back other h (b ∷ front) zero at p q e =
    sequence_same (more_of b (front ++ (shown ++ back))) (more_of b (front ++ (shown ++ other))) (length front)
    (λ m. ill_formed_from m (place_behind b at) (front ++ (shown ++ back))) (λ m. ill_formed_from m (place_behind b at) (front ++ (shown ++ other))) at p
    (subst (λ r. Apart r at) (sym q) (later_apart at (place_after (b ∷ front) at) (all_behind b front at)))
    (more_same b front (shown ++ back) (shown ++ other))
    (λ m g. ends_before m front (shown ++ back) (place_behind b at) p q g)
    (λ m g. from_front shown back other h front m (place_behind b at) p q g) e

pub nothing_behind_bytes_counts : NothingBehindBytesCounts
nothing_behind_bytes_counts front shown back other at e q h = encoding_is_first (front ++ (shown ++ other)) at (from_front shown back other h front 0 the_start at q e)
