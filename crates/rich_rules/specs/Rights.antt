-- Rows on hidden locations and on the rights to locations. This project's own.
use Rattle.std.specs.Prelude.{ℕ, List, [], ◌∷◌, ◌==◌, Some, None}
use Rattle.rw_types.specs.declared.types.Arg.TheVariants.{Loc}
use Rattle.rw_types.specs.declared.types.Pre.{Ref, Ptr, Cap, Own}
use Rattle.rw_types.specs.declared.types.Pre.TheVariants.{Hidden}
use Rattle.rw_types.specs.declared.types.Priv.TheVariants.{Rw, R}
use Rattle.rw_types.specs.declared.types.Qual.TheVariants.{Unr, Lin}
use Rattle.rw_types.specs.declared.types.Ty.{Ty, Of}
use Rattle.rich_types.specs.Scopes.{Scope, with_location, memory_of}
use Rattle.rich_types.specs.Sizes.{qual_under}
use Rattle.rich_types.specs.Instances.{instance}
use Rattle.rich_typing.specs.declared.rules.Rule.TheVariants as rule
use Rattle.rich_rules.specs.Forms.{is_formed, is_linear_location, is_rw, is_r}
use Rattle.rich_rules.specs.Points.{Outcome}
use Rattle.rich_rules.specs.Takers.{need, with_some, one, two, these, cap_form, own_form, ptr_form, held_ref_form, gives, gives_formed}

-- `mem.pack` hides a location
abbrev pub mem_pack_row : Scope → ℕ → Ty → List Ty → Outcome
mem_pack_row c l t operands = with_some (memory_of c l) rule.Index None (λ m. need (is_formed (with_location m c) t) rule.TypeForm (Some t) None (these (instance t (Loc l ∷ []) ∷ []) operands (λ beneath. gives_formed c (Of (qual_under (with_location m c) t) (Hidden m t)) beneath)))

-- `ref.split` gives the capability and the address apart
abbrev pub ref_split_row : Scope → List Ty → Outcome
ref_split_row c operands = one operands (λ t beneath. held_ref_form t (λ p l h. need (is_linear_location (memory_of c l)) rule.Memory (Some t) None (gives (Of Unr (Ptr l) ∷ Of Lin (Cap p l h) ∷ []) beneath)))

-- `ref.join` joins them
abbrev pub ref_join_row : List Ty → Outcome
ref_join_row operands = two operands (λ u t beneath. cap_form t (λ p l h. ptr_form u (λ k. need (l == k) rule.LocationsDiffer (Some u) (Some (Of Unr (Ptr l))) (gives (Of Lin (Ref p l h) ∷ []) beneath))))

-- `cap.split` gives the right to write apart
abbrev pub cap_split_row : List Ty → Outcome
cap_split_row operands = one operands (λ t beneath. cap_form t (λ p l h. need (is_rw p) rule.Privilege (Some t) None (gives (Of Lin (Own l) ∷ Of Lin (Cap R l h) ∷ []) beneath)))

-- `cap.join` joins it
abbrev pub cap_join_row : List Ty → Outcome
cap_join_row operands = two operands (λ u t beneath. cap_form t (λ p l h. own_form u (λ k. need (is_r p) rule.Privilege (Some t) None (need (l == k) rule.LocationsDiffer (Some u) (Some (Of Lin (Own l))) (gives (Of Lin (Cap Rw l h) ∷ []) beneath)))))
