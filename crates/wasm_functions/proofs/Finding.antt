-- What is exported under a name, from each place in the list on.
use Rattle.std.proofs.Common.{◌≡◌, ◌∙◌, ℕ, zero, suc, ◌+◌, ◌<◌, Bool, true, false, List, [], ◌∷◌, length, drop, get_or, refl, sym, ap, arith}
use Rattle.std.specs.Prelude.{Option, Some, ◌&&◌, if◌then◌else◌}
use Rattle.std.specs.Str.{bytes_eq}
use Rattle.std.proofs.Math.Numerals.{add-one}
use Rattle.wasm_ast.specs.declared.modules.Export.{Export}
use Rattle.wasm_ast.specs.declared.modules.ExportKind.{ExportKind}
use Rattle.wasm_execution.specs.Environments.{exported}

module _ (is_kind : ExportKind → Bool) (name : List ℕ) where
  abbrev pub is_it : Export → Bool
  is_it e = is_kind e.kind && bytes_eq name e.name

  at_first : (k b : Bool) (n : ℕ) (rest : Option ℕ) → (k && b) ≡ true → ◌≡◌ {A = Option ℕ} (if k then (if b then Some n else rest) else rest) (Some n)
  at_first true true n rest e = refl
  at_first true false n rest e = absurd (cc)
  at_first false b n rest e = absurd (cc)

  later : (k b : Bool) (n : ℕ) (rest : Option ℕ) → (k && b) ≡ false → ◌≡◌ {A = Option ℕ} (if k then (if b then Some n else rest) else rest) rest
  later true true n rest e = absurd (cc)
  later true false n rest e = refl
  later false b n rest e = refl

  found_suc : (es : List Export) (i : ℕ) (x : Export) → i < length es → x ≡ get_or es i x → is_it x ≡ true → exported is_kind name (drop i es) ≡ Some x.index
  found_suc [] i x lt e t = absurd (omega (arith, lt))
  found_suc (y ∷ es) zero x lt e t =
      ap (λ (z : Export). exported is_kind name (z ∷ es)) (sym e) ∙ at_first (is_kind x.kind) (bytes_eq name x.name) x.index (exported is_kind name es) t
  found_suc (y ∷ es) (suc i) x lt e t = found_suc es i x (omega (arith, lt)) e t

  pub found : (es : List Export) (i : ℕ) (x : Export) → i < length es → x ≡ get_or es i x → is_it x ≡ true → exported is_kind name es ≡ exported is_kind name (drop i es) → exported is_kind name es ≡ Some x.index
  found es i x lt e t before = before ∙ found_suc es i x lt e t

  passed_suc : (es : List Export) (i : ℕ) (x : Export) → i < length es → x ≡ get_or es i x → is_it x ≡ false → exported is_kind name (drop i es) ≡ exported is_kind name (drop (suc i) es)
  passed_suc [] i x lt e t = absurd (omega (arith, lt))
  passed_suc (y ∷ es) zero x lt e t =
      ap (λ (z : Export). exported is_kind name (z ∷ es)) (sym e) ∙ later (is_kind x.kind) (bytes_eq name x.name) x.index (exported is_kind name es) t
  passed_suc (y ∷ es) (suc i) x lt e t = passed_suc es i x (omega (arith, lt)) e t

  pub passed : (es : List Export) (i : ℕ) (x : Export) → i < length es → x ≡ get_or es i x → is_it x ≡ false → exported is_kind name es ≡ exported is_kind name (drop i es) → exported is_kind name es ≡ exported is_kind name (drop (i + 1) es)
  passed es i x lt e t before = before ∙ passed_suc es i x lt e t ∙ ap (λ (j : ℕ). exported is_kind name (drop j es)) (sym (add-one i))
