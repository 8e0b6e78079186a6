-- What holds where no fault is found, and where no test fails.
use Rattle.std.proofs.Common.{◌≡◌, ◌∙◌, ℕ, zero, suc, ◌+◌, ◌<◌, Bool, true, false, List, [], ◌∷◌, ◌++◌, length, slice_get, refl, sym, ap, subst, arith}
use Rattle.std.specs.Prelude.{Option, Some, None, All}
use Rattle.std.proofs.lemmas.Bool.{leb-true}
use Rattle.wasm_typing.specs.declared.rule.WRule.{WRule}
use Rattle.wasm_ast.specs.declared.modules.WModule.{WModule}
use Rattle.wasm_typing.specs.Contexts.{context_of, imported_globals, imported_memories, imported_tables}
use Rattle.wasm_typing.specs.Fields.{breaks_unless, first_of, is_index, element_rule, export_rule, function_rule, global_rule, import_rule, memory_rule, start_rule, table_rule}
use Rattle.wasm_typing.specs.Modules.{Fault, earliest, first_alone, first_fault, first_fault_behind, fault_before_codes, start_entries}
use Rattle.wasm_execution.specs.Starts.{first_failing}

pub all_head : {X : Type 0} (P : X → Type 0) (x : X) (xs : List X) → All P (x ∷ xs) → P x
all_head P x xs h = h 0 x (omega arith)

pub all_tail : {X : Type 0} (P : X → Type 0) (x : X) (xs : List X) → All P (x ∷ xs) → All P xs
all_tail P x xs h = λ k d lt. h (suc k) d (omega (arith, lt))

pub all_at : {X : Type 0} (P : X → Type 0) (xs : List X) (k : ℕ) (x : X) → All P xs → slice_get xs k ≡ Some x → P x
all_at P [] k x h e = absurd (cc)
all_at P (y ∷ xs) zero x h e = let f : y ≡ x = (cc) in subst P f (all_head P y xs h)
all_at P (y ∷ xs) (suc k) x h e = all_at P xs k x (all_tail P y xs h) e

eight : (a b c d f g h i : Option Fault) → earliest (a ∷ b ∷ c ∷ d ∷ f ∷ g ∷ h ∷ i ∷ []) ≡ None → (b ≡ None) × (f ≡ None) × (i ≡ None)
eight None None None None None None None None e = (refl, refl, refl)
eight (Some x) b c d f g h i e = absurd (cc)
eight None (Some x) c d f g h i e = absurd (cc)
eight None None (Some x) d f g h i e = absurd (cc)
eight None None None (Some x) f g h i e = absurd (cc)
eight None None None None (Some x) g h i e = absurd (cc)
eight None None None None None (Some x) h i e = absurd (cc)
eight None None None None None None (Some x) i e = absurd (cc)
eight None None None None None None None (Some x) e = absurd (cc)

-- no function, no global and no element segment of a valid module breaks a rule
pub sound_fields : (m : WModule) → fault_before_codes m ≡ None
    → (first_alone (function_rule (context_of m)) m.funcs ≡ None) × (first_alone (global_rule (imported_globals m.imports)) m.globals ≡ None) × (first_alone (element_rule (context_of m)) m.elements ≡ None)
sound_fields m e =
    eight (first_fault (import_rule m.types) m.imports) (first_alone (function_rule (context_of m)) m.funcs) (first_fault (λ before l. table_rule (imported_tables m.imports + length before) l) m.tables)
    (first_fault (λ before l. memory_rule (imported_memories m.imports + length before) l) m.memories) (first_alone (global_rule (imported_globals m.imports)) m.globals) (first_fault (export_rule (context_of m)) m.exports)
    (first_alone (start_rule (context_of m)) (start_entries m.start)) (first_alone (element_rule (context_of m)) m.elements) e

pub third : (a b c : Option WRule) (rest : List (Option WRule)) → first_of (a ∷ b ∷ c ∷ rest) ≡ None → c ≡ None
third None None None rest e = refl
third (Some x) b c rest e = absurd (cc)
third None (Some x) c rest e = absurd (cc)
third None None (Some x) rest e = absurd (cc)

pub unbroken : (b : Bool) (rule : WRule) → breaks_unless b rule ≡ None → b ≡ true
unbroken true rule e = refl
unbroken false rule e = absurd (cc)

no_fault : (o : Option WRule) (n : ℕ) (k : Option Fault) → ◌≡◌ {A = Option Fault} (elim o [ Some rule ↦ Some (record { at = n; rule = rule }) | None ↦ k ]) None → (o ≡ None) × (k ≡ None)
no_fault None n k e = (refl, e)
no_fault (Some r) n k e = absurd (cc)

-- no entry breaks a rule
pub alone_none : {A : Type 0} (rule_of : A → Option WRule) (before xs : List A) (k : ℕ) (x : A) → first_fault_behind (λ (_ : List A) (y : A). rule_of y) before xs ≡ None → slice_get xs k ≡ Some x → rule_of x ≡ None
alone_none rule_of before [] k x e q = absurd (cc)
alone_none {A} rule_of before (y ∷ xs) zero x e q =
    let p = no_fault (rule_of y) (length before) (first_fault_behind (λ (_ : List A) (z : A). rule_of z) (before ++ y ∷ []) xs) e in
    let f : y ≡ x = (cc) in
    ap rule_of (sym f) ∙ p.0
alone_none {A} rule_of before (y ∷ xs) (suc k) x e q =
    let p = no_fault (rule_of y) (length before) (first_fault_behind (λ (_ : List A) (z : A). rule_of z) (before ++ y ∷ []) xs) e in
    alone_none rule_of (before ++ y ∷ []) xs k x p.1 q

pub failing : (n : ℕ) (b : Bool) (bs : List Bool) → first_failing n (b ∷ bs) ≡ None → (b ≡ true) × (first_failing (suc n) bs ≡ None)
failing n true bs e = (refl, e)
failing n false bs e = absurd (cc)

pub failing_behind : (n : ℕ) (as' bs : List Bool) → first_failing n (as' ++ bs) ≡ None → (k : ℕ) × (first_failing k bs ≡ None)
failing_behind n [] bs e = (n, e)
failing_behind n (a ∷ as') bs e = let p = failing n a (as' ++ bs) e in failing_behind (suc n) as' bs p.1

pub index_found : {A : Type 0} (n : ℕ) (xs : List A) → n < length xs → (x : A) × (slice_get xs n ≡ Some x)
index_found n [] lt = absurd (omega (arith, lt))
index_found zero (x ∷ xs) lt = (x, refl)
index_found (suc n) (x ∷ xs) lt = index_found n xs (omega (arith, lt))

pub is_found : {A : Type 0} (n : ℕ) (xs : List A) → is_index n xs ≡ true → (x : A) × (slice_get xs n ≡ Some x)
is_found n xs e = index_found n xs (leb-true (suc n) (length xs) e)
