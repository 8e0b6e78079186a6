-- Rows that look at operands alone: constants, numbers, tuples, recursive types. This project's own.
use Rattle.std.specs.Prelude.{ℕ, List, [], ◌∷◌, Some, None, reverse}
use Rattle.rw_types.specs.declared.types.Arg.TheVariants.{Given}
use Rattle.rw_types.specs.declared.types.Pre.TheVariants.{Tuple}
use Rattle.rw_types.specs.declared.types.Qual.{Qual}
use Rattle.rw_types.specs.declared.types.Qual.TheVariants.{Lin}
use Rattle.rw_types.specs.declared.types.Ty.{Ty, Of}
use Rattle.rich_types.specs.Scopes.{Scope}
use Rattle.rich_types.specs.Instances.{instance}
use Rattle.rich_typing.specs.declared.rules.Rule.TheVariants as rule
use Rattle.rich_rules.specs.Forms.{is_unr_type, is_formed}
use Rattle.rich_rules.specs.Points.{Outcome}
use Rattle.rich_rules.specs.Takers.{need, one, taking, these, unr_form, tuple_form, rec_form, gives, gives_formed}

-- takes these, the top one first, and gives those
abbrev pub from_to : List Ty → List Ty → List Ty → Outcome
from_to taken given operands = these taken operands (λ beneath. gives given beneath)

-- `drop` takes a value that is `unr`
abbrev pub drop_row : Scope → List Ty → Outcome
drop_row c operands = one operands (λ t beneath. need (is_unr_type c t) rule.LinearDrop (Some t) None (gives [] beneath))

-- `qualify` makes what is `unr` `lin`
abbrev pub qualify_row : List Ty → Outcome
qualify_row operands = one operands (λ t beneath. unr_form t (λ p. gives (Of Lin p ∷ []) beneath))

-- `rec.fold` takes the body of a recursive type with that type put in
abbrev pub fold_row : Scope → Ty → List Ty → Outcome
fold_row c t operands = need (is_formed c t) rule.TypeForm (Some t) None (rec_form t (λ body. these (instance body (Given t ∷ []) ∷ []) operands (λ beneath. gives_formed c t beneath)))

-- `rec.unfold` gives it
abbrev pub unfold_row : List Ty → Outcome
unfold_row operands = one operands (λ t beneath. rec_form t (λ body. gives (instance body (Given t ∷ []) ∷ []) beneath))

-- `group` makes a tuple of this qualifier of so many operands
abbrev pub group_row : Scope → ℕ → Qual → List Ty → Outcome
group_row c n q operands = taking n operands (λ taken beneath. gives_formed c (Of q (Tuple (reverse taken))) beneath)

-- `ungroup` gives the parts of a tuple
abbrev pub ungroup_row : List Ty → Outcome
ungroup_row operands = one operands (λ t beneath. tuple_form t (λ parts. gives (reverse parts) beneath))
