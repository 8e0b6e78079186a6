-- Labels of a table, one after another.
use Rattle.std.proofs.Common.{◌≡◌, ◌∙◌, ℕ, zero, suc, ◌+◌, ◌<◌, Bool, true, false, ◌&&◌, List, [], ◌∷◌, ◌++◌, map, take, length, get_or, slice_get, refl, sym, ap, arith}
use Rattle.std.specs.Prelude.{Option, Some, None, option_map}
use Rattle.std.proofs.lemmas.List.{take_more}
use Rattle.wasm_ast.specs.declared.types.ValTy.{ValTy}
use Rattle.wasm_typing.specs.Signatures.{all_of, all_same}
use Rattle.wasm_ast.specs.SameTypes.{is_same_result}
use Rattle.wasm_typing.specs.Typing.{Labels}
use Rattle.wasm_plain_checking.specs.Answers.{AgreeAs}

pub all_of-none : {A : Type 0} (f : ℕ → Option A) (xs : List ℕ) (i : ℕ) → i < length xs → f (get_or xs i 0) ≡ None → all_of (map f xs) ≡ None
all_of-none f [] i lt e = absurd (omega arith)
all_of-none {A} f (x ∷ xs) zero lt e = ap (λ (o : Option A). all_of (o ∷ map f xs)) e
all_of-none f (x ∷ xs) (suc i) lt e =
    let lt' : i < length xs = omega arith in
    elim (f x) as (λ o. all_of (o ∷ map f xs) ≡ None) [ None ↦ refl | Some a ↦ ap (option_map (λ as'. a ∷ as')) (all_of-none f xs i lt' e) ]

mapped : {A B : Type 0} (f : A → B) (o : Option A) (b : B) → option_map f o ≡ Some b → (a : A) × (o ≡ Some a) × (b ≡ f a)
mapped f None b e = absurd (cc)
mapped f (Some a) b e = (a, refl, cc)

all_of-more : {A : Type 0} (f : ℕ → Option A) (xs : List ℕ) (x : ℕ) (ts : List A) (u : A) → all_of (map f xs) ≡ Some ts → f x ≡ Some u → all_of (map f (xs ++ x ∷ [])) ≡ Some (ts ++ u ∷ [])
all_of-more {A} f [] x ts u e h =
    let et : ts ≡ [] = (cc) in
    ap (λ (o : Option A). all_of (o ∷ [])) h ∙ ap (λ (l : List A). Some (l ++ u ∷ [])) (sym et)
all_of-more {A} f (y ∷ xs) x ts u e h =
    elim (f y) as (λ o. all_of (o ∷ map f xs) ≡ Some ts → all_of (o ∷ map f (xs ++ x ∷ [])) ≡ Some (ts ++ u ∷ [])) [
      | None ↦ λ q. absurd (cc)
      | Some a ↦ λ q.
          let m = mapped (λ (l : List A). a ∷ l) (all_of (map f xs)) ts q in
          ap (option_map (λ as'. a ∷ as')) (all_of-more f xs x m.0 u m.1 h) ∙ ap (λ (l : List A). Some (l ++ u ∷ [])) (sym m.2)
    ] e

and_true : (b : Bool) → (b && true) ≡ b
and_true true = refl
and_true false = refl

and_more : (b x y : Bool) → ((b && x) && y) ≡ (b && (x && y))
and_more true x y = refl
and_more false x y = refl

all_same-more : (t : Option ValTy) (ts : List (Option ValTy)) (u : Option ValTy) → all_same t (ts ++ u ∷ []) ≡ (all_same t ts && is_same_result u t)
all_same-more t [] u = and_true (is_same_result u t)
all_same-more t (v ∷ ts) u = ap (λ (b : Bool). is_same_result v t && b) (all_same-more t ts u) ∙ sym (and_more (is_same_result v t) (all_same t ts) (is_same_result u t))

pub agree-more : (ls : Labels) (xs : List ℕ) (i : ℕ) (t u : Option ValTy) (same now : Bool) → i < length xs → AgreeAs ls (take i xs) t same → slice_get ls (get_or xs i 0) ≡ Some u → now ≡ (same && is_same_result u t) → AgreeAs ls (take (i + 1) xs) t now
agree-more ls xs i t u same now lt a h en =
    let m : take (i + 1) xs ≡ take i xs ++ get_or xs i 0 ∷ [] = take_more xs i 0 lt in
    record {
      types = a.types ++ u ∷ [];
      there = ap (λ (l : List ℕ). all_of (map (slice_get ls) l)) m ∙ all_of-more (slice_get ls) (take i xs) (get_or xs i 0) a.types u a.there h;
      told = en ∙ ap (λ (b : Bool). b && is_same_result u t) a.told ∙ sym (all_same-more t a.types u);
    }
