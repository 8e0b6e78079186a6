-- What a list of exports tells of a name once an export stands after it, and that a map from names to
-- numbers keeps up with it.
use Rattle.std.proofs.Common.{◌≡◌, ℕ, Bool, true, false, cond, List, [], ◌∷◌, ◌++◌, Option, Some, None, Bor, is_some, refl, sym, ap, ◌∙◌, find}
use Rattle.std.specs.Option.{option_map, option_or}
use Rattle.std.specs.Str.{bytes_eq}
use Rattle.std.proofs.lemmas.List.Folds.{find-append}
use Rattle.std.proofs.lemmas.Slice.Eq.{bytes_eq-Decides}
use Rattle.indexmap.specs.IndexMap.{IndexMap, get, Updates}
use Rattle.rw_types.specs.declared.modules.ExportDef.{ExportDef}
use Rattle.rw_program.specs.Linking.{exported}

-- two names are the same
abbrev pub same_name : Bor (List ℕ) → Bor (List ℕ) → Bool
same_name x y = bytes_eq x.now y.now

exported_end : (name : List ℕ) (es : List ExportDef) (e : ExportDef) → exported name (es ++ e ∷ []) ≡ option_or (exported name es) (cond (bytes_eq name e.name) (Some e.func) None)
exported_end name es e = ap (option_map (λ (x : ExportDef). x.func)) (find-append (λ (x : ExportDef). bytes_eq name x.name) es (e ∷ [])) ∙ go (find (λ (x : ExportDef). bytes_eq name x.name) es) (bytes_eq name e.name)
  where
    go : (o : Option ExportDef) (b : Bool) → option_map (λ (x : ExportDef). x.func) (option_or o (cond b (Some e) None)) ≡ option_or (option_map (λ (x : ExportDef). x.func) o) (cond b (Some e.func) None)
    go (Some x) b = refl
    go None true = refl
    go None false = refl

or_none : (o : Option ℕ) → o ≡ option_or o None
or_none (Some x) = refl
or_none None = refl

new_at : (b b' : Bool) (o : Option ℕ) (v : ℕ) → (b ≡ true → b' ≡ true) → (b' ≡ true → b ≡ true) → (b ≡ true → o ≡ None) → cond b (Some v) o ≡ option_or o (cond b' (Some v) None)
new_at true true o v to back none = ap (λ (p : Option ℕ). option_or p (Some v)) (sym (none refl))
new_at true false o v to back none = absurd (apart (to refl))
  where
    apart : false ≡ true → ⊥
    apart e = cc
new_at false true o v to back none = absurd (apart (back refl))
  where
    apart : false ≡ true → ⊥
    apart e = cc
new_at false false o v to back none = or_none o

old_at : (b : Bool) (o : Option ℕ) (v : ℕ) → (b ≡ true → is_some o ≡ true) → o ≡ option_or o (cond b (Some v) None)
old_at b (Some x) v there = refl
old_at true None v there = absurd (apart (there refl))
  where
    apart : false ≡ true → ⊥
    apart e = cc
old_at false None v there = refl

none_from : (o : Option ℕ) → is_some o ≡ false → o ≡ None
none_from None e = refl
none_from (Some x) e = cc

module _ {S : Type 0} (es : List ExportDef) (e : ExportDef) (k : Bor (List ℕ)) (m n : IndexMap (Bor (List ℕ)) ℕ S) where
  -- a name that is new is put into the map
  pub tells_new : k.now ≡ e.name → ((q : Bor (List ℕ)) → get same_name m q ≡ exported q.now es) → is_some (get same_name m k) ≡ false → Updates same_name m n k (Some e.func) → (q : Bor (List ℕ)) → get same_name n q ≡ exported q.now (es ++ e ∷ [])
  tells_new name tells none updates q =
      updates.0 q
      ∙ ap (λ (o : Option ℕ). cond (same_name k q) (Some e.func) o) (tells q)
      ∙ new_at (same_name k q) (bytes_eq q.now e.name) (exported q.now es) e.func
      (λ t. (bytes_eq-Decides q.now e.name).1 (sym ((bytes_eq-Decides k.now q.now).0 t) ∙ name))
      (λ t. (bytes_eq-Decides k.now q.now).1 (name ∙ sym ((bytes_eq-Decides q.now e.name).0 t)))
      (λ t. ap (λ (name : List ℕ). exported name es) (sym ((bytes_eq-Decides k.now q.now).0 t)) ∙ sym (tells k) ∙ none_from (get same_name m k) none)
      ∙ sym (exported_end q.now es e)

  -- a name that is there keeps its number
  pub tells_old : k.now ≡ e.name → ((q : Bor (List ℕ)) → get same_name m q ≡ exported q.now es) → is_some (get same_name m k) ≡ true → (q : Bor (List ℕ)) → get same_name m q ≡ exported q.now (es ++ e ∷ [])
  tells_old name tells there q =
      tells q
      ∙ old_at (bytes_eq q.now e.name) (exported q.now es) e.func
      (λ t. ap (λ (name : List ℕ). is_some (exported name es)) ((bytes_eq-Decides q.now e.name).0 t ∙ sym name) ∙ ap is_some (sym (tells k)) ∙ there)
      ∙ sym (exported_end q.now es e)
