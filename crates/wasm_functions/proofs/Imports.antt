-- In a valid module the type of each imported function is there.
use Rattle.std.proofs.Common.{◌≡◌, ◌∙◌, ℕ, zero, suc, ◌<◌, Bool, true, false, List, [], ◌∷◌, ◌++◌, length, slice_get, refl, sym, ap}
use Rattle.std.specs.Prelude.{Option, Some, None}
use Rattle.std.proofs.lemmas.Bool.{ltb-true}
use Rattle.wasm_ast.specs.declared.modules.Import.{Import}
use Rattle.wasm_ast.specs.declared.modules.ImportKind.TheVariants as import_kind
use Rattle.wasm_ast.specs.declared.modules.WModule.{WModule}
use Rattle.wasm_typing.specs.declared.rule.WRule.{WRule}
use Rattle.wasm_typing.specs.declared.rule.WRule.TheVariants.{TypeIndex}
use Rattle.wasm_typing.specs.Fields.{breaks_unless, is_index, import_kind_rule, import_rule}
use Rattle.wasm_typing.specs.Modules.{Fault, earliest, first_fault, first_fault_behind, fault_before_codes}

none_first : (o : Option Fault) (os : List (Option Fault)) → earliest (o ∷ os) ≡ None → o ≡ None
none_first None os e = refl
none_first (Some f) os e = absurd (cc)

no_fault : (o : Option WRule) (n : ℕ) (k : Option Fault) → ◌≡◌ {A = Option Fault} (elim o [ Some rule ↦ Some (record { at = n; rule = rule }) | None ↦ k ]) None → (o ≡ None) × (k ≡ None)
no_fault None n k e = (refl, e)
no_fault (Some r) n k e = absurd (cc)

-- behind some others, an entry breaks no rule
each : {A : Type 0} (rule_of : List A → A → Option WRule) (before xs : List A) (k : ℕ) (x : A) → first_fault_behind rule_of before xs ≡ None → slice_get xs k ≡ Some x → (b : List A) × (rule_of b x ≡ None)
each rule_of before [] k x e q = absurd (cc)
each {A} rule_of before (y ∷ xs) zero x e q =
    let p = no_fault (rule_of before y) (length before) (first_fault_behind rule_of (before ++ y ∷ []) xs) e in
    let f : y ≡ x = (cc) in
    (before, ap (rule_of before) (sym f) ∙ p.0)
each {A} rule_of before (y ∷ xs) (suc k) x e q = each rule_of (before ++ y ∷ []) xs k x (no_fault (rule_of before y) (length before) (first_fault_behind rule_of (before ++ y ∷ []) xs) e).1 q

unbroken : (b : Bool) (rule : WRule) → breaks_unless b rule ≡ None → b ≡ true
unbroken true rule e = refl
unbroken false rule e = absurd (cc)

pub type_there : (m : WModule) (k n : ℕ) (i : Import) → fault_before_codes m ≡ None → slice_get m.imports k ≡ Some i → i.what ≡ import_kind.Func n → n < length m.types
type_there m k n i e q w =
    let p = each (import_rule m.types) [] m.imports k i (none_first (first_fault (import_rule m.types) m.imports) _ e) q in
    ltb-true n (length m.types) (unbroken (is_index n m.types) TypeIndex (ap (import_kind_rule m.types p.0) (sym w) ∙ p.1))
