-- A set of names keeps up with the exports, and what it tells of the next one.
use Rattle.std.proofs.Common.{◌≡◌, ◌∙◌, ℕ, Bool, true, false, cond, not, ◌||◌, List, [], ◌∷◌, ◌++◌, Option, Some, None, Bor, refl, sym, ap}
use Rattle.std.specs.Str.{bytes_eq}
use Rattle.std.specs.HashSet.{HashSet, contains, Updates}
use Rattle.std.proofs.lemmas.Slice.Eq.{bytes_eq-Decides}
use Rattle.wasm_ast.specs.declared.modules.Export.{Export}
use Rattle.wasm_typing.specs.declared.rule.WRule.{WRule}
use Rattle.wasm_typing.specs.declared.rule.WRule.TheVariants.{DuplicateExport}
use Rattle.wasm_typing.specs.declared.context.Context.{Context}
use Rattle.wasm_typing.specs.Fields.{export_index, export_rule, first_of, is_exported, no_duplicate}

-- two names are the same
abbrev pub same_name : Bor (List ℕ) → Bor (List ℕ) → Bool
same_name x y = bytes_eq x.now y.now

or_false : (b : Bool) → (b || false) ≡ (false || b)
or_false true = refl
or_false false = refl

or_later : (a b c : Bool) → (a || (b || c)) ≡ ((a || b) || c)
or_later true b c = refl
or_later false b c = refl

joined : (b b' x : Bool) → (b ≡ true → b' ≡ true) → (b' ≡ true → b ≡ true) → cond b true x ≡ (x || b')
joined true true true to back = refl
joined true true false to back = refl
joined true false x to back = absurd (apart (to refl))
  where
    apart : false ≡ true → ⊥
    apart e = cc
joined false true x to back = absurd (apart (back refl))
  where
    apart : false ≡ true → ⊥
    apart e = cc
joined false false true to back = refl
joined false false false to back = refl

pub was_there : (b : Bool) → false ≡ not b → b ≡ true
was_there true e = refl
was_there false e = cc

pub was_new : (b : Bool) → true ≡ not b → b ≡ false
was_new true e = cc
was_new false e = refl

module _ (C : Context) where
  exported_end : (q : List ℕ) (es : List Export) (e : Export) → is_exported C q (es ++ e ∷ []) ≡ (is_exported C q es || bytes_eq q e.name)
  exported_end q [] e = or_false (bytes_eq q e.name)
  exported_end q (x ∷ es) e = ap (λ (b : Bool). bytes_eq q x.name || b) (exported_end q es e) ∙ or_later (bytes_eq q x.name) (is_exported C q es) (bytes_eq q e.name)

  module _ {S : Type 0} (es : List Export) (e : Export) (k : Bor (List ℕ)) (m n : HashSet (Bor (List ℕ)) S) where
    pub names_more : k.now ≡ e.name → ((q : Bor (List ℕ)) → contains same_name m q ≡ is_exported C q.now es) → Updates same_name m n k true → (q : Bor (List ℕ)) → contains same_name n q ≡ is_exported C q.now (es ++ e ∷ [])
    names_more name tells updates q =
        updates.0 q
        ∙ ap (λ (b : Bool). cond (same_name k q) true b) (tells q)
        ∙ joined (same_name k q) (bytes_eq q.now e.name) (is_exported C q.now es)
        (λ t. (bytes_eq-Decides q.now e.name).1 (sym ((bytes_eq-Decides k.now q.now).0 t) ∙ name))
        (λ t. (bytes_eq-Decides k.now q.now).1 (name ∙ sym ((bytes_eq-Decides q.now e.name).0 t)))
        ∙ sym (exported_end q.now es e)

    pub told_by_names : k.now ≡ e.name → ((q : Bor (List ℕ)) → contains same_name m q ≡ is_exported C q.now es) → is_exported C e.name es ≡ contains same_name m k
    told_by_names name tells = ap (λ (b : List ℕ). is_exported C b es) (sym name) ∙ sym (tells k)

  pub export_lacks : (es : List Export) (e : Export) {r : WRule} → export_index C e.kind e.index ≡ Some r → export_rule C es e ≡ Some r
  export_lacks es e h = ap (λ (o : Option WRule). first_of (o ∷ no_duplicate C es e ∷ [])) h

  duplicate : Bool → Option WRule
  duplicate true = Some DuplicateExport
  duplicate false = None

  pub exported_twice : (es : List Export) (e : Export) → export_index C e.kind e.index ≡ None → is_exported C e.name es ≡ true → export_rule C es e ≡ Some DuplicateExport
  exported_twice es e h t = ap (λ (o : Option WRule). first_of (o ∷ no_duplicate C es e ∷ [])) h ∙ rw (t, no_duplicate C) refl

  pub exported_once : (es : List Export) (e : Export) → export_index C e.kind e.index ≡ None → is_exported C e.name es ≡ false → export_rule C es e ≡ None
  exported_once es e h t = ap (λ (o : Option WRule). first_of (o ∷ no_duplicate C es e ∷ [])) h ∙ rw (t, no_duplicate C) refl
