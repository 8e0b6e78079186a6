-- The first section that is too long, found by encoding the sections in order: what is known after each.
use Rattle.std.proofs.Common.{◌≡◌, ◌∙◌, ap, List, ℕ, ◌+◌, ◌<◌, ◌≤◌, ◌^◌, [], length, sym, subst, arith, lit<, Err, IsErrOf, below_more, inl, inr}
use Rattle.std.specs.Prelude.{Result, ◌==◌, if◌then◌else◌}
use Rattle.std.specs.Result.{IsErrAnd}
use Rattle.std.proofs.lemmas.Bool.{cases_lt, cond-false, ne_eqb}
use Rattle.std.proofs.lemmas.Result.{err_from_is_err_and}
use Rattle.wasm_ast.specs.declared.modules.WModule.{WModule}
use Rattle.wasm_grammar.specs.CanonicalModules.{HasShortContents, content_of}
use Rattle.wasm_encode.specs.declared.error.EncodeError.{EncodeError}
use Rattle.wasm_encode.specs.declared.error.EncodeError.TheVariants.{TooLong}
use Rattle.wasm_encode.specs.Contents.{EarlierContentsFit, IsFirstTooLong}

-- the contents of the sections before this one fit
pub record FitBefore (m : WModule) (id : ℕ) : Type 0 where
  pub fit : EarlierContentsFit m id

pub no_section : (m : WModule) → FitBefore m 1
no_section m = record { fit = λ earlier h. subst (λ (k : ℕ). length (content_of k m) < 2 ^ 32) (let e : 0 ≡ earlier = omega arith in e) (lit< tt) }

pub one_more : {m : WModule} {id : ℕ} → FitBefore m id → length (content_of id m) < 2 ^ 32 → FitBefore m (id + 1)
one_more {m} {id} before here = record { fit = below_more (λ k. length (content_of k m) < 2 ^ 32) id before.fit here }

same_error : {T : Type 0} (r : Result T EncodeError) (y e d : EncodeError) → r ≡ Err y → y ≡ e → r ≡ Err d → e ≡ d
same_error r y e d p q k = cc

-- an error that is handed on
pub exit : {T S : Type 0} {m : WModule} {id : ℕ} (r : Result T EncodeError) (e : EncodeError) → IsErrAnd r (λ y. y ≡ e) → FitBefore m id
    → ((j : ℕ) → IsErrOf {T = S} (Err e) (TooLong j) → (j ≡ id) × (2 ^ 32 ≤ length (content_of id m)))
    → (j : ℕ) → IsErrOf r (TooLong j) → IsFirstTooLong m j
exit {T} {S} {m} {id} r e h before cause j k =
    let p = err_from_is_err_and r h in
    let f = cause j (ap Err (same_error r p.0 e (TooLong j) p.1 p.2 k)) in
    subst (λ (i : ℕ). IsFirstTooLong m i) (sym f.0) (f.1, before.fit)

other : {A : Type 0} (a b : ℕ) (x y : A) → b < a → (if a == b then x else y) ≡ y
other a b x y h = cond-false (a == b) x y (ne_eqb a b (λ e. omega arith))

-- there is no section past 11
none_past : (m : WModule) (id : ℕ) → 12 ≤ id → content_of id m ≡ []
none_past m id h =
    other id 1 _ _ (omega arith) ∙ other id 2 _ _ (omega arith) ∙ other id 3 _ _ (omega arith) ∙ other id 4 _ _ (omega arith)
    ∙ other id 5 _ _ (omega arith) ∙ other id 6 _ _ (omega arith) ∙ other id 7 _ _ (omega arith) ∙ other id 8 _ _ (omega arith)
    ∙ other id 9 _ _ (omega arith) ∙ other id 10 _ _ (omega arith) ∙ other id 11 _ _ (omega arith)

pub all_fit : {m : WModule} → FitBefore m 12 → HasShortContents m
all_fit {m} before id =
    elim (cases_lt id 12) [
      | inl h ↦ before.fit id h
      | inr h ↦ subst (λ (c : List ℕ). length c < 2 ^ 32) (sym (none_past m id h)) (lit< tt)
    ]
