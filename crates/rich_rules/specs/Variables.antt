-- Rows on locals and globals. This project's own.
use Rattle.std.specs.Prelude.{ℕ, List, [], ◌∷◌, not, nat_lt, Option, Some, None, slice_get}
use Rattle.rw_types.specs.declared.types.Ty.{Ty}
use Rattle.rich_types.specs.Scopes.{Scope}
use Rattle.rich_typing.specs.declared.rules.Rule.TheVariants as rule
use Rattle.rich_rules.specs.Forms.{is_unr_type, fits}
use Rattle.rich_rules.specs.Points.{Frame, Owner, OfFunction, OfGlobal, Becomes, Outcome, Gives}
use Rattle.rich_rules.specs.Takers.{unr_unit, need, with_some, one, these, gives, gives_formed}

-- `local.get` copies a value that is `unr`
abbrev pub local_get_row : Scope → List Ty → ℕ → List Ty → Outcome
local_get_row c locals n operands = with_some (slice_get locals n) rule.Index None (λ t. need (is_unr_type c t) rule.LinearCopy (Some t) None (gives (t ∷ []) operands))

-- `local.take` moves a value that is not `unr`, and leaves a unit
abbrev pub local_take_row : Scope → List Ty → ℕ → List Ty → Outcome
local_take_row c locals n operands = with_some (slice_get locals n) rule.Index None (λ t. need (not (is_unr_type c t)) rule.Spent (Some t) None (Gives (t ∷ operands) (Some (Becomes n unr_unit))))

-- a value is at most as large as the slot of this number, where there is one
abbrev pub fits_slot : Scope → Option ℕ → Ty → Outcome → Outcome
fits_slot c (Some s) t rest = need (fits c s t) rule.SlotSize (Some t) None rest
fits_slot c None t rest = rest

-- `local.set` puts a value in the place of one that is `unr`
abbrev pub local_set_row : Scope → List ℕ → List Ty → ℕ → List Ty → Outcome
local_set_row c slots locals n operands = with_some (slice_get locals n) rule.Index None (λ old. one operands (λ t beneath. need (is_unr_type c old) rule.LinearDrop (Some old) None (fits_slot c (slice_get slots n) t (Gives beneath (Some (Becomes n t))))))

-- a function's body may get every global, and an initialiser those of lesser numbers than its own
abbrev pub may_get : Owner → ℕ → Outcome → Outcome
may_get OfFunction n rest = rest
may_get (OfGlobal own) n rest = need (nat_lt n own) rule.Initialiser None None rest

-- `global.get`
abbrev pub global_get_row : Frame → Scope → ℕ → List Ty → Outcome
global_get_row f c n operands = may_get f.owner n (with_some (slice_get f.globals n) rule.Index None (λ g. gives_formed c g.ty operands))

-- `global.set` sets a global that can be set
abbrev pub global_set_row : Frame → ℕ → List Ty → Outcome
global_set_row f n operands = with_some (slice_get f.globals n) rule.Index None (λ g. need g.mutable rule.ConstGlobal None None (these (g.ty ∷ []) operands (λ beneath. gives [] beneath)))
