-- A module is valid or has exactly one first violation: the bodies by induction on their number, the rest by what was found.
use Rattle.std.proofs.Common.{◌≡◌, ◌∙◌, ℕ, zero, suc, ◌+◌, ◌<◌, List, [], ◌∷◌, ◌⊎◌, inl, inr, length, slice_get, refl, sym, ap, subst, arith}
use Rattle.std.specs.Prelude.{Option, Some, None}
use Rattle.wasm_ast.specs.declared.types.FuncType.{FuncType}
use Rattle.wasm_ast.specs.declared.modules.Code.{Code}
use Rattle.wasm_ast.specs.declared.modules.WModule.{WModule}
use Rattle.wasm_typing.specs.declared.rule.WRule.{WRule}
use Rattle.wasm_typing.specs.declared.context.Context.{Context}
use Rattle.wasm_typing.specs.Contexts.{body_context, context_of}
use Rattle.wasm_typing.specs.Typing.{IsTypedBody}
use Rattle.wasm_typing.specs.Violations.{IsFirstViolation}
use Rattle.wasm_typing.specs.Modules.{fault_before_codes, fault_behind_codes, HasBody, BodiesAreTypedBefore, IsValid, Violation, outside, FirstViolation, before_codes, in_code, behind_codes, function_imports}
use Rattle.wasm_typing_laws.proofs.Balance.{typed_or_violated}
use Rattle.wasm_typing_laws.proofs.Refusals.{typed_none}
use Rattle.wasm_typing_laws.proofs.OneRule.{one_violation}

is_there : {A : Type 0} (xs : List A) (k : ℕ) (x : A) → slice_get xs k ≡ Some x → k < length xs
is_there [] k x e = absurd (cc)
is_there (y ∷ xs) zero x e = omega arith
is_there (y ∷ xs) (suc k) x e = let i = is_there xs k x e in omega (arith, i)

module _ (m : WModule) where
  -- a function has one body, under one context
  one_body : (k : ℕ) (C D : Context) (a b : Code) → HasBody m k C a → HasBody m k D b → (C ≡ D) × (a ≡ b)
  one_body k C D a b f g =
      let en : f.type_index ≡ g.type_index = (let x = f.listed in let y = g.listed in cc) in
      let et : f.ty ≡ g.ty = (let x = f.typed in let y = ap (slice_get m.types) en ∙ g.typed in cc) in
      let ea : a ≡ b = (let x = f.there in let y = g.there in cc) in
      (f.context ∙ ap (λ (t : FuncType). body_context (context_of m) t a) et ∙ ap (λ (c : Code). body_context (context_of m) g.ty c) ea ∙ sym g.context, ea)

  -- whether there is one
  with_code : (k : ℕ) (n : ℕ) (t : FuncType) → slice_get m.funcs k ≡ Some n → slice_get m.types n ≡ Some t → ((C : Context) × (code : Code) × HasBody m k C code) ⊎ ((C : Context) (code : Code) → HasBody m k C code → ⊥)
  with_code k n t e f =
      elim (slice_get m.codes k) as (λ o. (slice_get m.codes k ≡ o) → ((C : Context) × (code : Code) × HasBody m k C code) ⊎ ((C : Context) (code : Code) → HasBody m k C code → ⊥)) [
        | None ↦ λ g. inr (λ C code h. let x = h.there in absurd (cc))
        | Some code ↦ λ g. inl (body_context (context_of m) t code, code, record { type_index = n; ty = t; listed = e; typed = f; there = g; context = refl })
      ] refl

  with_type : (k n : ℕ) → slice_get m.funcs k ≡ Some n → ((C : Context) × (code : Code) × HasBody m k C code) ⊎ ((C : Context) (code : Code) → HasBody m k C code → ⊥)
  with_type k n e =
      elim (slice_get m.types n) as (λ o. (slice_get m.types n ≡ o) → ((C : Context) × (code : Code) × HasBody m k C code) ⊎ ((C : Context) (code : Code) → HasBody m k C code → ⊥)) [
        | None ↦ λ f. inr (λ C code h. let same : n ≡ h.type_index = (let x = h.listed in cc) in let x = ap (slice_get m.types) same ∙ h.typed in absurd (cc))
        | Some t ↦ λ f. with_code k n t e f
      ] refl

  has_body : (k : ℕ) → ((C : Context) × (code : Code) × HasBody m k C code) ⊎ ((C : Context) (code : Code) → HasBody m k C code → ⊥)
  has_body k =
      elim (slice_get m.funcs k) as (λ o. (slice_get m.funcs k ≡ o) → ((C : Context) × (code : Code) × HasBody m k C code) ⊎ ((C : Context) (code : Code) → HasBody m k C code → ⊥)) [
        | None ↦ λ e. inr (λ C code h. let x = h.listed in absurd (cc))
        | Some n ↦ λ e. with_type k n e
      ] refl

  one_more : (n : ℕ) → BodiesAreTypedBefore m n → ((C : Context) (code : Code) → HasBody m n C code → IsTypedBody C code.body) → BodiesAreTypedBefore m (suc n)
  one_more n before last k C code lt h =
      elim (nat_split k n lt) [ inl less ↦ before k C code less h | inr same ↦ last C code (subst (λ (j : ℕ). HasBody m j C code) same h) ]
    where
      nat_split : (k n : ℕ) → k < suc n → (k < n) ⊎ (k ≡ n)
      nat_split zero zero lt = inr refl
      nat_split zero (suc n) lt = inl (omega arith)
      nat_split (suc k) zero lt = absurd (omega arith)
      nat_split (suc k) (suc n) lt = elim (nat_split k n (omega arith)) [ inl less ↦ inl (omega (arith, less)) | inr same ↦ inr (ap suc same) ]

  -- the first body that is not typed
  record Untyped : Type 0 where
    pub k : ℕ
    pub C : Context
    pub code : Code
    pub before : BodiesAreTypedBefore m k
    pub body : HasBody m k C code
    pub at : ℕ
    pub rule : WRule
    pub first : IsFirstViolation C code.body at rule

  bodies : (n : ℕ) → BodiesAreTypedBefore m n ⊎ Untyped
  bodies zero = inl (λ k C code lt h. absurd (omega arith))
  bodies (suc n) =
      elim (bodies n) [
        | inr u ↦ inr u
        | inl before ↦
            elim (has_body n) [
              | inr none ↦ inl (one_more n before (λ C code h. absurd (none C code h)))
              | inl (C, code, h) ↦
                  elim (typed_or_violated C code.body) [
                    | inl d ↦ inl (one_more n before (λ D other g.
                        let same = one_body n C D code other h g in
                        subst (λ (x : Code). IsTypedBody D x.body) same.1 (subst (λ (E : Context). IsTypedBody E code.body) same.0 d)))
                    | inr (at, rule, first) ↦ inr (record { k = n; C = C; code = code; before = before; body = h; at = at; rule = rule; first = first })
                  ]
            ]
      ]

  behind_bodies : fault_before_codes m ≡ None → BodiesAreTypedBefore m (length m.codes) → IsValid m ⊎ ((v : Violation) × FirstViolation m v)
  behind_bodies e before =
      elim (fault_behind_codes m) as (λ o. (fault_behind_codes m ≡ o) → IsValid m ⊎ ((v : Violation) × FirstViolation m v)) [
        | None ↦ λ f. inl (record { before = e; codes = before; behind = f })
        | Some fault ↦ λ f. inr (outside fault, behind_codes fault e before f refl)
      ] refl

  from_bodies : fault_before_codes m ≡ None → IsValid m ⊎ ((v : Violation) × FirstViolation m v)
  from_bodies e =
      elim (bodies (length m.codes)) [
        | inl before ↦ behind_bodies e before
        | inr u ↦ inr (record { func = Some (function_imports m + u.k); at = u.at; rule = u.rule }, in_code u.k u.C u.code e u.before u.body u.first refl)
      ]

  pub valid_or_violated : IsValid m ⊎ ((v : Violation) × FirstViolation m v)
  valid_or_violated =
      elim (fault_before_codes m) as (λ o. (fault_before_codes m ≡ o) → IsValid m ⊎ ((v : Violation) × FirstViolation m v)) [
        | None ↦ λ e. from_bodies e
        | Some fault ↦ λ e. inr (outside fault, before_codes fault e refl)
      ] refl

  typed_before_is_not_violated : (n k : ℕ) (C : Context) (code : Code) (at : ℕ) (rule : WRule) → BodiesAreTypedBefore m n → k < n → HasBody m k C code → IsFirstViolation C code.body at rule → ⊥
  typed_before_is_not_violated n k C code at rule before lt h f = typed_none C code.body at (before k C code lt h) f.place

  pub never_both : (v : Violation) → IsValid m → FirstViolation m v → ⊥
  never_both v valid (before_codes fault e ev) = let x = valid.before in absurd (cc)
  never_both v valid (in_code k C code e before h f ef) = typed_before_is_not_violated (length m.codes) k C code v.at v.rule valid.codes (is_there m.codes k code h.there) h f
  never_both v valid (behind_codes fault e before f ev) = let x = valid.behind in absurd (cc)

  same_violation : (v w : Violation) → v.func ≡ w.func → v.at ≡ w.at → v.rule ≡ w.rule → v ≡ w
  same_violation v w ef ea er =
      ap (λ (f : Option ℕ). record { func = f; at = v.at; rule = v.rule }) ef
      ∙ ap (λ (a : ℕ). record { func = w.func; at = a; rule = v.rule }) ea
      ∙ ap (λ (r : WRule). record { func = w.func; at = w.at; rule = r }) er

  in_one_code : (v w : Violation) (k l : ℕ) (C D : Context) (a b : Code) → BodiesAreTypedBefore m k → BodiesAreTypedBefore m l → HasBody m k C a → HasBody m l D b →
      IsFirstViolation C a.body v.at v.rule → IsFirstViolation D b.body w.at w.rule → v.func ≡ Some (function_imports m + k) → w.func ≡ Some (function_imports m + l) → v ≡ w
  in_one_code v w k l C D a b before also f g x y ex ey =
      let no_less : k < l → ⊥ = λ lt. typed_before_is_not_violated l k C a v.at v.rule also lt f x in
      let no_more : l < k → ⊥ = λ lt. typed_before_is_not_violated k l D b w.at w.rule before lt g y in
      let e : k ≡ l = omega (arith, no_less, no_more) in
      let same = one_body l C D a b (subst (λ (n : ℕ). HasBody m n C a) e f) g in
      let z : IsFirstViolation D b.body v.at v.rule = subst (λ (c : Code). IsFirstViolation D c.body v.at v.rule) same.1 (subst (λ (E : Context). IsFirstViolation E a.body v.at v.rule) same.0 x) in
      let one = one_violation D b.body v.at w.at v.rule w.rule z y in
      same_violation v w (ex ∙ ap (λ (n : ℕ). Some (function_imports m + n)) e ∙ sym ey) one.0 one.1

  pub one : (v w : Violation) → FirstViolation m v → FirstViolation m w → v ≡ w
  one v w (before_codes fault e ev) (before_codes other f ew) = let same : fault ≡ other = (cc) in ev ∙ ap outside same ∙ sym ew
  one v w (before_codes fault e ev) (in_code l D b f also g y ey) = absurd (cc)
  one v w (before_codes fault e ev) (behind_codes other f also g ew) = absurd (cc)
  one v w (in_code k C a e before h x ex) (before_codes other f ew) = absurd (cc)
  one v w (in_code k C a e before h x ex) (in_code l D b f also g y ey) = in_one_code v w k l C D a b before also h g x y ex ey
  one v w (in_code k C a e before h x ex) (behind_codes other f also g ew) = absurd (typed_before_is_not_violated (length m.codes) k C a v.at v.rule also (is_there m.codes k a h.there) h x)
  one v w (behind_codes fault e before f ev) (before_codes other g ew) = absurd (cc)
  one v w (behind_codes fault e before f ev) (in_code l D b g also h y ey) = absurd (typed_before_is_not_violated (length m.codes) l D b w.at w.rule before (is_there m.codes l b h.there) h y)
  one v w (behind_codes fault e before f ev) (behind_codes other g also h ew) = let same : fault ≡ other = (cc) in ev ∙ ap outside same ∙ sym ew
