-- The label that is found.
use Rattle.std.proofs.Common.{◌≡◌, ◌≤◌, ◌∙◌, ℕ, zero, suc, List, ◌∷◌, Some, reverse, ap, sym, arith}
use Rattle.std.specs.Prelude.{slice_get}
use Rattle.std.proofs.lemmas.List.{reverse-reverse}
use Rattle.rw_types.specs.declared.types.Ty.{Ty}
use Rattle.rich_types.specs.declared.depth.Depth.{Depth}
use Rattle.rich_rules.specs.Points.{Label}
use Rattle.rich_rules.specs.Raised.{raise_all, raise_labels}
use Rattle.rw_scopes.specs.Labels.{target_seen}
use Rattle.rw_scopes.proofs.Binders.{raise_reversed}

module _ (by : Depth) (types locals rest made_types made_locals : List Ty) (outer : List Label) (types_made : made_types ≡ raise_all by types) (locals_made : made_locals ≡ raise_all by locals) where
  text_order : reverse (raise_all by (reverse types)) ≡ raise_all by types
  text_order = ap reverse (raise_reversed by types) ∙ reverse-reverse (raise_all by types)

  pub target_here : (k : ℕ) (labels : List Label) → k ≤ 0 → labels ≡ record { types = reverse types; locals = locals; rest = rest } ∷ outer → Some (record { types = made_types; locals = made_locals }) ≡ target_seen (slice_get (raise_labels by labels) k)
  target_here (suc k) labels none is = absurd (omega arith)
  target_here zero labels none is =
      ap (λ (ts : List Ty). Some (record { types = ts; locals = made_locals })) (types_made ∙ sym text_order)
      ∙ ap (λ (ts : List Ty). Some (record { types = reverse (raise_all by (reverse types)); locals = ts })) locals_made
      ∙ sym (ap (λ (ls : List Label). target_seen (slice_get (raise_labels by ls) 0)) is)
