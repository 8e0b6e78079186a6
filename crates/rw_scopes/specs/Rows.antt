-- What lists inside blocks and binders see, written out. This project's own.
use Rattle.std.specs.Prelude.{◌≡◌, [], ◌∷◌, Some, None}
use Rattle.std.specs.Borrow.{Bor}
use Rattle.rw_types.specs.declared.types.Binder.TheVariants.{Kind, Loc}
use Rattle.rw_types.specs.declared.types.Mem.TheVariants.{L}
use Rattle.rw_types.specs.declared.types.Pre.{Own}
use Rattle.rw_types.specs.declared.types.Qual.TheVariants.{Lin, Unr}
use Rattle.rw_types.specs.declared.types.Ty.{Ty, Of, Var}
use Rattle.rich_types.specs.Rows.{address, long, short}
use Rattle.rich_rules.specs.Points.{Label}
use Rattle.rw_operand_stack.specs.declared.operand.Operand.TheVariants.{Plain, Linear}
use Rattle.rw_scopes.specs.declared.enclosing.Enclosing.{Enclosing, Body, Block', Below'}
use Rattle.rw_scopes.specs.Labels.{labels_seen, point_seen, results_seen, target_seen}

-- a reference to this value
abbrev pub lent : {A : Type 0} → A → Bor A
lent x = record { ref_ptr = (0, 0); now = x }

abbrev pub right : Ty
right = Of Lin (Own 0)

-- a body under the binders of a location and of a variable; a block in it; a location and a variable that are bound there; and
-- a block within them
abbrev pub body : Enclosing
body = Body (lent (long ∷ Var 0 ∷ []))

abbrev pub block : Enclosing
block = Block' (lent (short ∷ address 0 ∷ [])) (lent (Var 0 ∷ long ∷ [])) (lent (Plain (address 0) ∷ Linear (record { ty = right }) ∷ [])) (lent tt) body

abbrev pub below_location : Enclosing
below_location = Below' (Loc L) (lent tt) block

abbrev pub below_both : Enclosing
below_both = Below' (Kind Unr 1) (lent tt) below_location

abbrev pub inner : Enclosing
inner = Block' (lent (Var 0 ∷ [])) (lent (Var 1 ∷ long ∷ [])) (lent []) (lent tt) below_both

-- the label of the block, as it is seen in it and below both binders
abbrev pub label_near : Label
label_near = record { types = address 0 ∷ short ∷ []; locals = Var 0 ∷ long ∷ []; rest = right ∷ address 0 ∷ [] }

abbrev pub label_far : Label
label_far = record { types = address 1 ∷ short ∷ []; locals = Var 1 ∷ long ∷ []; rest = Of Lin (Own 1) ∷ address 1 ∷ [] }

abbrev pub label_inner : Label
label_inner = record { types = Var 0 ∷ []; locals = Var 1 ∷ long ∷ []; rest = [] }

-- a label is raised by each binder inside it, the results by each; operands stand the top one first, and what a branch carries in
-- the order of the text
pub record WorkedLabels : Type 0 where
  pub no_labels : labels_seen body ≡ []
  pub one_label : labels_seen block ≡ label_near ∷ []
  pub two_labels : labels_seen inner ≡ label_inner ∷ label_far ∷ []
  pub results_near : results_seen block ≡ Var 0 ∷ long ∷ []
  pub results_far : results_seen inner ≡ Var 1 ∷ long ∷ []
  pub operands_top_first : (point_seen (Loc L ∷ []) block [] (Plain long ∷ Linear (record { ty = right }) ∷ [])).operands ≡ long ∷ right ∷ []
  pub target_in_text_order : target_seen (Some label_far) ≡ Some (record { types = short ∷ address 1 ∷ []; locals = Var 1 ∷ long ∷ [] })
  pub no_target : target_seen None ≡ None
