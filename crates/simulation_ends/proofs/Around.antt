-- What stands around a list that is open within a body.
use Rattle.std.proofs.Common.{◌≡◌, ◌∙◌, ℕ, ◌+◌, List, [], ◌∷◌, ◌++◌, Some, length, map, refl, ap, sym}
use Rattle.wasm_ast.specs.declared.instructions.WInstr.{WInstr}
use Rattle.wasm_typing.specs.Typing as typing
use Rattle.wasm_execution.specs.Configurations as w
use Rattle.rw_types.specs.declared.types.Ty.{Ty}
use Rattle.rich_types.specs.Scopes.{Scope, scope_of}
use Rattle.rich_types.specs.Sizes.{list_size}
use Rattle.rich_rules.specs.Points as rules
use Rattle.rich_rules.specs.Points.{Demand, Point}
use Rattle.rich_rules.specs.Table.{rest_size}
use Rattle.rich_reduction.specs.Configurations as r
use Rattle.rich_reduction.specs.Control.{sizes_of}
use Rattle.lowering_rows.specs.Labels.{Label, plain_label}
use Rattle.lowering_names.specs.Placed.{AreLowered}
use Rattle.simulation_relation.specs.Bodies.{AreHeld, AreOpen, Body, Carried, IsLeft, back, base_at, body, carried_at, demanded_at, open_list, past, sizes_at, standing_at}
use Rattle.simulation_relation.specs.Words.{Book}

-- the list around the innermost open one: the point behind this and what is left there
pub record HasAround (b : Body) (book : Book) (locals : List ℕ) (labels : List Label) (carried : List Carried) (ends : Carried) (levels : List r.Level) (lists : List w.Level) : Type 0 where
  pub outer : List Label
  pub demand : Demand
  pub point : Point
  pub given : List Ty
  pub beneath : List Ty
  pub code : List WInstr
  pub level : r.Level
  pub others : List r.Level
  pub aim : w.Aim
  pub other_lists : List w.Level
  pub first : Carried
  pub labelled : labels ≡ plain_label (list_size (scope_of point.binders) beneath + base_at point) ∷ outer
  pub carries : carried ≡ first ∷ carried_at point
  pub gives : ends ≡ standing_at point given
  pub in_levels : levels ≡ level ∷ others
  pub in_lists : lists ≡ open_list aim code ∷ other_lists
  pub operands : point.operands ≡ given ++ beneath
  pub count : level.gives ≡ length given
  pub sizes : level.sizes ≡ sizes_of point.binders
  pub left : IsLeft b book outer demand point level.rest code
  pub held : AreHeld b book locals point beneath level.beneath
  pub open_lists : AreOpen b book locals outer (carried_at point) (demanded_at point demand) others other_lists

pub around : {b : Body} {book : Book} {locals : List ℕ} {labels : List Label} {carried : List Carried} {ends : Carried} {levels : List r.Level} {lists : List w.Level} (label : Label) (rest : List Label) → labels ≡ label ∷ rest →
    AreOpen b book locals labels carried ends levels lists → HasAround b book locals labels carried ends levels lists
around label rest e (body g l m) = absurd (cc)
around label rest e (past {labels} {carried} {ends} {l} {levels} {opened} {lists} d q given beneath code o aim takes gives sizes left held opens c leaves outer) = record {
  outer = labels;
  demand = d;
  point = q;
  given = given;
  beneath = beneath;
  code = code;
  level = l;
  others = levels;
  aim = w.Past;
  other_lists = lists;
  first = standing_at q given;
  labelled = refl;
  carries = c;
  gives = leaves;
  in_levels = refl;
  in_lists = ap (λ (x : w.Level). x ∷ lists) opens;
  operands = o;
  count = gives;
  sizes = sizes;
  left = left;
  held = held;
  open_lists = outer;
}
around label rest e (back {labels} {carried} {ends} {l} {levels} {opened} {lists} d inner q start given beneath is code loop o aim takes gives sizes same left again alike held opens c carried_too leaves outer) = record {
  outer = labels;
  demand = d;
  point = q;
  given = given;
  beneath = beneath;
  code = code;
  level = l;
  others = levels;
  aim = w.Back loop;
  other_lists = lists;
  first = standing_at start start.operands;
  labelled = refl;
  carries = c;
  gives = leaves;
  in_levels = refl;
  in_lists = ap (λ (x : w.Level). x ∷ lists) opens;
  operands = o;
  count = gives;
  sizes = sizes;
  left = left;
  held = held;
  open_lists = outer;
}

height_known : (c : Scope) (outer : List rules.Label) (labels : List Label) (ls : typing.Labels) (label : Label) (rest : List Label) → labels ≡ label ∷ rest → AreLowered c outer labels ls → (outer ≡ [] → ⊥) → label.height ≡ rest_size c outer
height_known c [] labels ls label rest e h some = absurd (some refl)
height_known c (l ∷ outer) [] ls label rest e h some = absurd h
height_known c (l ∷ outer) (x ∷ labels) ls label rest e h some = let same : x ≡ label = cc in sym (ap (λ (y : Label). y.height) same) ∙ h.0

nothing_carried : (first : Carried) (others : List Carried) → [] ≡ first ∷ others → ⊥
nothing_carried first others e = absurd (cc)

-- the operands of the list begin at the height of its label
pub base_is : {b : Body} {book : Book} {locals : List ℕ} {labels : List Label} {ends : Carried} {levels : List r.Level} {lists : List w.Level} (q : Point) (ls : typing.Labels) → AreLowered (scope_of q.binders) q.labels labels ls →
    (x : HasAround b book locals labels (carried_at q) ends levels lists) → list_size (scope_of x.point.binders) x.beneath + base_at x.point ≡ base_at q
base_is {labels = labels} q ls h x =
    height_known (scope_of q.binders) q.labels labels ls (plain_label (list_size (scope_of x.point.binders) x.beneath + base_at x.point)) x.outer x.labelled h
    (λ e. nothing_carried x.first (carried_at x.point) (sym (ap (λ (y : List rules.Label). map (λ (l : rules.Label). record { operands = sizes_at q l.types; locals = Some (sizes_at q l.locals) }) y) e) ∙ x.carries))
