-- The first fault of a section: what is left to look at behind so many entries.
use Rattle.std.proofs.Common.{◌≡◌, ◌∙◌, ℕ, ◌+◌, ◌<◌, List, [], ◌∷◌, ◌++◌, Option, Some, None, length, take, drop, get_or, refl, sym, ap, suc, zero, arith, length-take, drop-cons, add-one}
use Rattle.std.proofs.lemmas.List.{take_more}
use Rattle.wasm_ast.specs.declared.types.Limits.{Limits}
use Rattle.wasm_typing.specs.Fields.{table_rule, memory_rule}
use Rattle.wasm_typing.specs.declared.rule.WRule.{WRule}
use Rattle.wasm_typing.specs.Modules.{Fault, first_fault_behind}

pub length_front : {A : Type 0} (xs : List A) (i : ℕ) → i < length xs → length (take i xs) ≡ i
length_front xs i h = omega (arith, length-take i xs)

-- a table, and a memory, behind others
abbrev pub table_behind : ℕ → List Limits → Limits → Option WRule
table_behind imported before l = table_rule (imported + length before) l

abbrev pub memory_behind : ℕ → List Limits → Limits → Option WRule
memory_behind imported before l = memory_rule (imported + length before) l

module _ {A : Type 0} (rule_of : List A → A → Option WRule) where
  here : (before : List A) (x : A) (xs : List A) {r : WRule} → rule_of before x ≡ Some r → first_fault_behind rule_of before (x ∷ xs) ≡ Some (record { at = length before; rule = r })
  here before x xs e = rw (e, first_fault_behind) refl

  later : (before : List A) (x : A) (xs : List A) → rule_of before x ≡ None → first_fault_behind rule_of before (x ∷ xs) ≡ first_fault_behind rule_of (before ++ x ∷ []) xs
  later before x xs e = rw (e, first_fault_behind) refl

  -- what is left behind the first `i` entries
  abbrev pub left_behind : List A → ℕ → Option Fault
  left_behind xs i = first_fault_behind rule_of (take i xs) (drop i xs)

  parted : (xs : List A) (i : ℕ) (d x : A) → i < length xs → x ≡ get_or xs i d → drop i xs ≡ x ∷ drop (i + 1) xs
  parted xs i d x lt e = rw add-one (drop-cons xs i d lt ∙ ap (λ (y : A). y ∷ drop (suc i) xs) (sym e))

  pub fault_at : (xs : List A) (i : ℕ) (d x : A) {r : WRule} → i < length xs → x ≡ get_or xs i d → rule_of (take i xs) x ≡ Some r → left_behind xs i ≡ Some (record { at = i; rule = r })
  fault_at xs i d x {r} lt e broken =
      ap (λ (ys : List A). first_fault_behind rule_of (take i xs) ys) (parted xs i d x lt e)
      ∙ here (take i xs) x (drop (i + 1) xs) broken
      ∙ ap (λ (n : ℕ). Some (record { at = n; rule = r })) (length_front xs i lt)

  pub fault_behind : (xs : List A) (i : ℕ) (d x : A) → i < length xs → x ≡ get_or xs i d → rule_of (take i xs) x ≡ None → left_behind xs i ≡ left_behind xs (i + 1)
  fault_behind xs i d x lt e kept =
      ap (λ (ys : List A). first_fault_behind rule_of (take i xs) ys) (parted xs i d x lt e)
      ∙ later (take i xs) x (drop (i + 1) xs) kept
      ∙ ap (λ (ys : List A). first_fault_behind rule_of ys (drop (i + 1) xs)) (ap (λ (y : A). take i xs ++ y ∷ []) e ∙ sym (take_more xs i d lt))

  pub none_left : (xs : List A) (i : ℕ) → (i < length xs → ⊥) → left_behind xs i ≡ None
  none_left xs i past = ap (λ (ys : List A). first_fault_behind rule_of (take i xs) ys) (all_dropped xs i past)
    where
      all_dropped : (ys : List A) (n : ℕ) → (n < length ys → ⊥) → drop n ys ≡ []
      all_dropped [] zero h = refl
      all_dropped [] (suc n) h = refl
      all_dropped (y ∷ ys) zero h = absurd (omega arith)
      all_dropped (y ∷ ys) (suc n) h = let g : n < length ys → ⊥ = λ l. omega arith in all_dropped ys n g
