-- Dropping and copying are no exchanges: way by way.
use Rattle.std.proofs.Common.{List, [], ◌∷◌, Bool, true, false, sym, ap, ◌∙◌}
use Rattle.std.proofs.lemmas.Bool.{false≢true}
use Rattle.rw_types.specs.declared.types.Pre.{Own}
use Rattle.rw_types.specs.declared.types.Ty.{Of, Ty}
use Rattle.rich_linear_laws.specs.Exchanges.{Exchange, array_freed, array_made, called, capability_joined, capability_split, folded, grouped, hidden, package_made, passed_on, qualified, reference_joined, reference_split, slot_set, slot_swapped, struct_freed, struct_made, unfolded, ungrouped, value_called, variant_made}
use Rattle.rich_linear_laws.specs.Rows.{NoExchanges, bare, one_linear, own}

-- whether the first of these types is the right to write
is_own : List Ty → Bool
is_own (Of q (Own l) ∷ ts) = true
is_own _ = false

dropped : Exchange bare one_linear (own ∷ []) [] → ⊥
unfolding is_own
dropped (passed_on e) = cc
dropped (qualified p e g) = cc
dropped (grouped q g) = cc
dropped (ungrouped q parts e g) = false≢true (sym (ap is_own e))
dropped (folded q s body e g) = cc
dropped (unfolded q s body e g) = cc
dropped (hidden l m t i e g) = cc
dropped (reference_split q p l h e g) = cc
dropped (reference_joined q r p l h e g) = cc
dropped (capability_split q l h e g) = cc
dropped (capability_joined q r l h e g) = cc
dropped (struct_made m sizes n g) = cc
dropped (variant_made m i t ts x e g) = cc
dropped (array_made m t u e g) = cc
dropped (package_made m q s t body z e g) = cc
dropped (slot_set u t r slots i s x y z e g) = cc
dropped (slot_swapped u t r slots i s x y e g) = cc
dropped (struct_freed t r slots x m w z e g) = false≢true (sym (ap is_own (e ∙ ap (λ (v : Ty). v ∷ []) x.form)))
dropped (array_freed t r element x m w z e g) = false≢true (sym (ap is_own (e ∙ ap (λ (v : Ty). v ∷ []) x.form)))
dropped (called n k args x e g) = cc
dropped (value_called k b e g) = false≢true (sym (ap is_own e))

copied : Exchange bare one_linear (own ∷ []) (own ∷ own ∷ []) → ⊥
unfolding is_own
copied (passed_on e) = cc
copied (qualified p e g) = cc
copied (grouped q g) = cc
copied (ungrouped q parts e g) = false≢true (sym (ap is_own e))
copied (folded q s body e g) = cc
copied (unfolded q s body e g) = cc
copied (hidden l m t i e g) = cc
copied (reference_split q p l h e g) = cc
copied (reference_joined q r p l h e g) = cc
copied (capability_split q l h e g) = cc
copied (capability_joined q r l h e g) = cc
copied (struct_made m sizes n g) = cc
copied (variant_made m i t ts x e g) = cc
copied (array_made m t u e g) = cc
copied (package_made m q s t body z e g) = cc
copied (slot_set u t r slots i s x y z e g) = cc
copied (slot_swapped u t r slots i s x y e g) = cc
copied (struct_freed t r slots x m w z e g) = false≢true (sym (ap is_own (e ∙ ap (λ (v : Ty). v ∷ []) x.form)))
copied (array_freed t r element x m w z e g) = false≢true (sym (ap is_own (e ∙ ap (λ (v : Ty). v ∷ []) x.form)))
copied (called n k args x e g) = cc
copied (value_called k b e g) = false≢true (sym (ap is_own e))

pub no_exchanges : NoExchanges
no_exchanges = record { dropped = dropped; copied = copied }
