-- The types are listed in the order of their first uses: what is listed after so many uses stands among these, and what comes
-- next is first used there.
use Rattle.std.proofs.Common.{◌≡◌, ◌∙◌, ℕ, zero, suc, ◌+◌, ◌<◌, ◌≤◌, Bool, true, false, List, [], ◌∷◌, ◌++◌, Some, ⊎_elim, refl, sym, subst, arith}
use Rattle.std.specs.Prelude.{slice_get, if◌then◌else◌}
use Rattle.std.proofs.lemmas.Bool.{cases_lt}
use Rattle.std.proofs.lemmas.Option.{same_Some, none-some, slice_get_within}
use Rattle.wasm_ast.specs.declared.types.FuncType.{FuncType}
use Rattle.lowering_table.specs.TypeUses.{is_among, first_uses, type_index}
use Rattle.wasm_ast.specs.SameTypes.{is_same_type}
use Rattle.lowering_table.proofs.SameTypes.{type_itself}
use Rattle.lowering_table.proofs.TypePlaces.{Stands, among_has, pushed_cases, pushed_has, uses_by}

stands_on : (t x : FuncType) (us : List FuncType) (i : ℕ) → slice_get us i ≡ Some x → slice_get (us ++ t ∷ []) i ≡ Some x
stands_on t x [] i h = absurd (none-some x h)
stands_on t x (u ∷ us) zero h = h
stands_on t x (u ∷ us) (suc i) h = stands_on t x us i h

among_later : (same : Bool) (x : FuncType) (us : List FuncType) → is_among x us ≡ true → (if same then true else is_among x us) ≡ true
among_later true x us h = refl
among_later false x us h = h

stands_among : (x : FuncType) (us : List FuncType) (i : ℕ) → slice_get us i ≡ Some x → is_among x us ≡ true
stands_among x [] i h = absurd (none-some x h)
stands_among x (u ∷ us) zero h =
    subst (λ (y : FuncType). (if is_same_type x y then true else is_among x us) ≡ true) (sym (same_Some u x h))
    (subst (λ (b : Bool). (if b then true else is_among x us) ≡ true) (sym (type_itself x)) refl)
stands_among x (u ∷ us) (suc i) h = among_later (is_same_type x u) x us (stands_among x us i h)

index_later : (same : Bool) (n i : ℕ) → n ≤ i → (if same then 0 else suc n) ≤ suc i
index_later true n i le = omega arith
index_later false n i le = omega (arith, le)

-- an index is the first place
index_first : (x : FuncType) (us : List FuncType) (i : ℕ) → slice_get us i ≡ Some x → type_index x us ≤ i
index_first x [] i h = absurd (none-some x h)
index_first x (u ∷ us) zero h =
    subst (λ (y : FuncType). (if is_same_type x y then 0 else suc (type_index x us)) ≤ 0) (sym (same_Some u x h))
    (subst (λ (b : Bool). (if b then 0 else suc (type_index x us)) ≤ 0) (sym (type_itself x)) (omega arith))
index_first x (u ∷ us) (suc i) h = index_later (is_same_type x u) (type_index x us) i (index_first x us i h)

module _ (whole : List FuncType) where
  abbrev pub Ordered : List FuncType → Type 0
  Ordered listed = (i j : ℕ) (t u : FuncType) → slice_get listed i ≡ Some t → slice_get listed j ≡ Some u → i < j → type_index t whole < type_index u whole

  -- what is listed after so many uses
  pub record IsListed (n : ℕ) (listed : List FuncType) : Type 0 where
    pub early : (i : ℕ) (x : FuncType) → slice_get listed i ≡ Some x → type_index x whole < n
    pub seen : (k : ℕ) (x : FuncType) → k < n → slice_get whole k ≡ Some x → Stands listed x
    pub ordered : Ordered listed

  -- of one use more, a type that is listed already, or another
  listed_old : (n : ℕ) (listed : List FuncType) (t : FuncType) → slice_get whole n ≡ Some t → is_among t listed ≡ true → IsListed n listed → IsListed (suc n) listed
  listed_old n listed t at is h = record {
    early = λ i x stands. omega (arith, h.early i x stands);
    seen = λ k x lt stands.
        ⊎_elim
        (λ before. h.seen k x before stands)
        (λ after.
        let here : k ≡ n = omega (arith, lt, after) in
        let same : t ≡ x = same_Some t x (sym at ∙ subst (λ (j : ℕ). slice_get whole j ≡ Some x) here stands) in
        subst (Stands listed) same (type_index t listed, among_has t listed is))
        (cases_lt k n);
    ordered = h.ordered;
  }

  -- a type that is not listed yet was not used before
  first_used : (n : ℕ) (listed : List FuncType) (t : FuncType) → slice_get whole n ≡ Some t → is_among t listed ≡ false → IsListed n listed → n ≤ type_index t whole
  first_used n listed t at is h =
      ⊎_elim
      (λ before.
      let s = h.seen (type_index t whole) t before (among_has t whole (stands_among t whole n at)) in
      absurd (let both : true ≡ false = sym (stands_among t listed s.0 s.1) ∙ is in cc))
      (λ after. after)
      (cases_lt (type_index t whole) n)

  ordered_on : (n : ℕ) (listed : List FuncType) (t : FuncType) → slice_get whole n ≡ Some t → is_among t listed ≡ false → IsListed n listed → Ordered (listed ++ t ∷ [])
  ordered_on n listed t at is h i j x y first second lt =
      ⊎_elim
      (λ later.
      ⊎_elim
      (λ earlier. h.ordered i j x y earlier later lt)
      (λ last. absurd (omega (arith, lt, last.0, slice_get_within listed j y later)))
      (pushed_cases t x listed i first))
      (λ last.
      ⊎_elim
      (λ earlier.
      let before = h.early i x earlier in
      let after = first_used n listed t at is h in
      subst (λ (z : FuncType). type_index x whole < type_index z whole) last.1 (omega (arith, before, after)))
      (λ same. absurd (omega (arith, lt, last.0, same.0)))
      (pushed_cases t x listed i first))
      (pushed_cases t y listed j second)

  listed_new : (n : ℕ) (listed : List FuncType) (t : FuncType) → slice_get whole n ≡ Some t → is_among t listed ≡ false → IsListed n listed → IsListed (suc n) (listed ++ t ∷ [])
  listed_new n listed t at is h = record {
    early = λ i x stands.
        ⊎_elim
        (λ earlier. omega (arith, h.early i x earlier))
        (λ last. subst (λ (z : FuncType). type_index z whole < suc n) last.1 (omega (arith, index_first t whole n at)))
        (pushed_cases t x listed i stands);
    seen = λ k x lt stands.
        ⊎_elim
        (λ before. let s = h.seen k x before stands in (s.0, stands_on t x listed s.0 s.1))
        (λ after.
        let here : k ≡ n = omega (arith, lt, after) in
        let same : t ≡ x = same_Some t x (sym at ∙ subst (λ (j : ℕ). slice_get whole j ≡ Some x) here stands) in
        subst (Stands (listed ++ t ∷ [])) same (type_index t (listed ++ t ∷ []), pushed_has t listed))
        (cases_lt k n);
    ordered = ordered_on n listed t at is h;
  }

  pub uses_in_order : (n : ℕ) (listed ts : List FuncType) → ((k : ℕ) (t : FuncType) → slice_get ts k ≡ Some t → slice_get whole (n + k) ≡ Some t) → IsListed n listed → Ordered (first_uses listed ts)
  uses_in_order n listed [] rest h = h.ordered
  uses_in_order n listed (t ∷ ts) rest h =
      let here : n + 0 ≡ n = omega arith in
      let at : slice_get whole n ≡ Some t = subst (λ (j : ℕ). slice_get whole j ≡ Some t) here (rest 0 t refl) in
      let later : (k : ℕ) (u : FuncType) → slice_get ts k ≡ Some u → slice_get whole (suc n + k) ≡ Some u =
      λ k u stands. let next : n + suc k ≡ suc n + k = omega arith in subst (λ (j : ℕ). slice_get whole j ≡ Some u) next (rest (suc k) u stands) in
      uses_by listed ts t Ordered
      (λ is. uses_in_order (suc n) listed ts later (listed_old n listed t at is h))
      (λ is. uses_in_order (suc n) (listed ++ t ∷ []) ts later (listed_new n listed t at is h))
