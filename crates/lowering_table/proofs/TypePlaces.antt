-- Where a type stands in the list of first uses: at its index, and there alone.
use Rattle.std.proofs.Common.{◌≡◌, ◌∙◌, ℕ, zero, suc, Bool, true, false, List, [], ◌∷◌, ◌++◌, Some, length, ◌⊎◌, inl, inr, ⊎_elim, refl, ap, sym, subst, arith}
use Rattle.std.specs.Prelude.{slice_get, if◌then◌else◌}
use Rattle.std.proofs.lemmas.Bool.{cond_both}
use Rattle.std.proofs.lemmas.Option.{same_Some, none-some}
use Rattle.wasm_ast.specs.declared.types.FuncType.{FuncType}
use Rattle.lowering_table.specs.TypeUses.{is_among, first_uses, type_index}
use Rattle.wasm_ast.specs.SameTypes.{is_same_type}
use Rattle.lowering_table.proofs.SameTypes.{same_type, type_itself}

-- the type stands at its index
abbrev pub Has : List FuncType → FuncType → Type 0
Has us t = slice_get us (type_index t us) ≡ Some t

-- and nowhere else
abbrev pub Once : List FuncType → FuncType → Type 0
Once us t = (i : ℕ) → slice_get us i ≡ Some t → i ≡ type_index t us

-- the index in a list that begins with another type or with this one
abbrev index_by : Bool → FuncType → List FuncType → ℕ
index_by same t us = if same then 0 else suc (type_index t us)

has_by : (same : Bool) (t u : FuncType) (us : List FuncType) → is_same_type t u ≡ same → (same ≡ false → Has us t) → slice_get (u ∷ us) (index_by same t us) ≡ Some t
has_by true t u us is rest = ap (λ (x : FuncType). Some x) (sym (same_type t u is))
has_by false t u us is rest = rest refl

among_by : (same : Bool) (t : FuncType) (us : List FuncType) → (if same then true else is_among t us) ≡ true → same ≡ false → is_among t us ≡ true
among_by true t us h is = absurd cc
among_by false t us h is = h

pub among_has : (t : FuncType) (us : List FuncType) → is_among t us ≡ true → Has us t
among_has t [] h = absurd cc
among_has t (u ∷ us) h = has_by (is_same_type t u) t u us refl (λ is. among_has t us (among_by (is_same_type t u) t us h is))

pub pushed_has : (t : FuncType) (us : List FuncType) → Has (us ++ t ∷ []) t
pushed_has t [] = has_by (is_same_type t t) t t [] refl (λ is. absurd (let same : true ≡ false = sym (type_itself t) ∙ is in cc))
pushed_has t (u ∷ us) = has_by (is_same_type t u) t u (us ++ t ∷ []) refl (λ is. pushed_has t us)

has_on_by : (same : Bool) (t u : FuncType) (us : List FuncType) → slice_get (u ∷ us) (index_by same t us) ≡ Some t → same ≡ false → Has us t
has_on_by true t u us h is = absurd cc
has_on_by false t u us h is = h

pub has_on : (t v : FuncType) (us : List FuncType) → Has us t → Has (us ++ v ∷ []) t
has_on t v [] h = absurd (none-some t h)
has_on t v (u ∷ us) h = has_by (is_same_type t u) t u (us ++ v ∷ []) refl (λ is. has_on t v us (has_on_by (is_same_type t u) t u us h is))

-- what stands in a list with one more at its end, and where
pub pushed_cases : (t x : FuncType) (us : List FuncType) (i : ℕ) → slice_get (us ++ t ∷ []) i ≡ Some x → (slice_get us i ≡ Some x) ⊎ ((i ≡ length us) × (t ≡ x))
pushed_cases t x [] zero h = inr (refl, same_Some t x h)
pushed_cases t x [] (suc i) h = absurd (none-some x h)
pushed_cases t x (u ∷ us) zero h = inl h
pushed_cases t x (u ∷ us) (suc i) h = ⊎_elim (λ at. inl at) (λ last. inr (ap (λ (n : ℕ). suc n) last.0, last.1)) (pushed_cases t x us i h)

once_rest : (same : Bool) (x : FuncType) (us : List FuncType) (i : ℕ) → suc i ≡ index_by same x us → same ≡ false → i ≡ type_index x us
once_rest true x us i h is = absurd cc
once_rest false x us i h is = omega (arith, h)

once_first : (same : Bool) (x : FuncType) (us vs : List FuncType) → 0 ≡ index_by same x us → 0 ≡ index_by same x vs
once_first true x us vs h = refl
once_first false x us vs h = absurd (omega (arith, h))

not_among : (same : Bool) (t : FuncType) (us : List FuncType) → (if same then true else is_among t us) ≡ false → (same ≡ false) × (is_among t us ≡ false)
not_among true t us h = absurd cc
not_among false t us h = (refl, h)

-- a later place, by whether the first one has the type
later_by : (same : Bool) (t x u : FuncType) (us : List FuncType) (i : ℕ) → is_same_type x u ≡ same → is_same_type t u ≡ false → Once (u ∷ us) x →
    slice_get (us ++ t ∷ []) i ≡ Some x → (same ≡ false → i ≡ type_index x (us ++ t ∷ [])) → suc i ≡ index_by same x (us ++ t ∷ [])
later_by true t x u us i is differs once h rest =
    ⊎_elim
    (λ stands. absurd (let place : suc i ≡ index_by true x us = subst (λ (b : Bool). suc i ≡ index_by b x us) is (once (suc i) stands) in omega (arith, place)))
    (λ last. absurd (let both : true ≡ false = sym is ∙ ap (λ (y : FuncType). is_same_type y u) (sym last.1) ∙ differs in cc))
    (pushed_cases t x us i h)
later_by false t x u us i is differs once h rest = ap (λ (n : ℕ). suc n) (rest refl)

pub pushed_once : (t x : FuncType) (us : List FuncType) → is_among t us ≡ false → Once us x → Once (us ++ t ∷ []) x
pushed_once t x [] new once zero h = subst (λ (y : FuncType). 0 ≡ type_index x (y ∷ [])) (sym (same_Some t x h)) (subst (λ (b : Bool). 0 ≡ index_by b x []) (sym (type_itself x)) refl)
pushed_once t x [] new once (suc i) h = absurd (none-some x h)
pushed_once t x (u ∷ us) new once zero h = once_first (is_same_type x u) x us (us ++ t ∷ []) (once zero h)
pushed_once t x (u ∷ us) new once (suc i) h =
    let parts = not_among (is_same_type t u) t us new in
    later_by (is_same_type x u) t x u us i refl parts.0 once h
    (λ is. pushed_once t x us parts.1 (λ k stands. once_rest (is_same_type x u) x us k (once (suc k) stands) is) i h)

-- the list of first uses, by whether the next type is listed already
pub uses_by : (listed ts : List FuncType) (t : FuncType) (P : List FuncType → Type 0) → (is_among t listed ≡ true → P (first_uses listed ts)) →
    (is_among t listed ≡ false → P (first_uses (listed ++ t ∷ []) ts)) → P (first_uses listed (t ∷ ts))
uses_by listed ts t P old new = cond_both (is_among t listed) (first_uses listed ts) (first_uses (listed ++ t ∷ []) ts) P old new

pub uses_have : (listed ts : List FuncType) (x : FuncType) → Has listed x → Has (first_uses listed ts) x
uses_have listed [] x h = h
uses_have listed (t ∷ ts) x h = uses_by listed ts t (λ us. Has us x) (λ is. uses_have listed ts x h) (λ is. uses_have (listed ++ t ∷ []) ts x (has_on x t listed h))

pub uses_once : (listed ts : List FuncType) (x : FuncType) → Once listed x → Once (first_uses listed ts) x
uses_once listed [] x once = once
uses_once listed (t ∷ ts) x once =
    uses_by listed ts t (λ us. Once us x) (λ is. uses_once listed ts x once) (λ is. uses_once (listed ++ t ∷ []) ts x (pushed_once t x listed is once))

pub each_use : (listed ts : List FuncType) (k : ℕ) (x : FuncType) → slice_get ts k ≡ Some x → Has (first_uses listed ts) x
each_use listed [] k x h = absurd (none-some x h)
each_use listed (t ∷ ts) zero x h =
    uses_by listed ts t (λ us. Has us x)
    (λ is. subst (Has (first_uses listed ts)) (same_Some t x h) (uses_have listed ts t (among_has t listed is)))
    (λ is. subst (Has (first_uses (listed ++ t ∷ []) ts)) (same_Some t x h) (uses_have (listed ++ t ∷ []) ts t (pushed_has t listed)))
each_use listed (t ∷ ts) (suc k) x h = uses_by listed ts t (λ us. Has us x) (λ is. each_use listed ts k x h) (λ is. each_use (listed ++ t ∷ []) ts k x h)

-- a type stands somewhere in a list
abbrev pub Stands : List FuncType → FuncType → Type 0
Stands us t = (k : ℕ) × (slice_get us k ≡ Some t)

stands_later : (x t : FuncType) (listed ts : List FuncType) → Stands ts x → Stands listed x ⊎ Stands (t ∷ ts) x
stands_later x t listed ts s = inr (suc s.0, s.1)

stands_pushed : (x t : FuncType) (listed ts : List FuncType) → Stands (listed ++ t ∷ []) x → Stands listed x ⊎ Stands (t ∷ ts) x
stands_pushed x t listed ts s = ⊎_elim (λ stands. inl (s.0, stands)) (λ last. inr (0, ap (λ (y : FuncType). Some y) last.1)) (pushed_cases t x listed s.0 s.1)

pub uses_stand : (listed ts : List FuncType) (x : FuncType) → Stands (first_uses listed ts) x → Stands listed x ⊎ Stands ts x
uses_stand listed [] x s = inl s
uses_stand listed (t ∷ ts) x s =
    uses_by listed ts t (λ us. Stands us x → Stands listed x ⊎ Stands (t ∷ ts) x)
    (λ is old. ⊎_elim (λ at. inl at) (stands_later x t listed ts) (uses_stand listed ts x old))
    (λ is new. ⊎_elim (stands_pushed x t listed ts) (stands_later x t listed ts) (uses_stand (listed ++ t ∷ []) ts x new))
    s
