-- Open lists where words change above the operands of the innermost of them.
use Rattle.std.proofs.Common.{◌≡◌, ◌∙◌, ◌≤◌, ℕ, ◌+◌, List, [], ◌∷◌, Some, map, refl, ap, sym, arith}
use Rattle.wasm_typing.specs.Typing as typing
use Rattle.wasm_execution.specs.Configurations as w
use Rattle.rw_types.specs.declared.types.Ty.{Ty}
use Rattle.rich_types.specs.Scopes.{Scope, scope_of}
use Rattle.rich_types.specs.Sizes.{list_size}
use Rattle.rich_rules.specs.Points as rules
use Rattle.rich_rules.specs.Points.{Point}
use Rattle.rich_rules.specs.Table.{rest_size}
use Rattle.rich_reduction.specs.Configurations as r
use Rattle.lowering_rows.specs.Labels.{Label, label_height}
use Rattle.lowering_rows.specs.Surroundings.{operand_place}
use Rattle.lowering_names.specs.Placed.{AreLowered}
use Rattle.simulation_relation.specs.Bodies.{AreHeld, AreOpen, Body, Carried, back, base_at, body, carried_at, past, sizes_at}
use Rattle.simulation_relation.specs.Words.{Book}
use Rattle.simulation_frames.specs.Laws.{AreKept, OpenListsStay}
use Rattle.simulation_frames.proofs.Words.{kept_held, spelled_size}

-- where nothing is carried no list is open
none_open : {b : Body} {book : Book} {locals : List ℕ} {labels : List Label} {carried : List Carried} {ends : Carried} {levels : List r.Level} {lists : List w.Level} → AreOpen b book locals labels carried ends levels lists → carried ≡ [] → label_height labels 0 ≡ 0
none_open (body r l m) n = refl
none_open (past d q given beneath code o aim takes gives sizes left held opened c ends outer) n = absurd (let none = sym c ∙ n in cc)
none_open (back d inner q start given beneath is code loop o aim takes gives sizes same left again ends_alike held opened c carried ends outer) n = absurd (let none = sym c ∙ n in cc)

height_known : (c : Scope) (outer : List rules.Label) (labels : List Label) (ls : typing.Labels) → AreLowered c outer labels ls → (outer ≡ [] → label_height labels 0 ≡ 0) → label_height labels 0 ≤ rest_size c outer
height_known c [] labels ls h e = omega (arith, e refl)
height_known c (l ∷ outer) [] ls h e = absurd h
height_known c (l ∷ outer) (label ∷ labels) ls h e = omega (arith, h.0)

-- the operands of a list begin at the height of its label
pub base_above : {b : Body} {book : Book} {locals : List ℕ} {labels : List Label} {ends : Carried} {levels : List r.Level} {lists : List w.Level} (q : Point) (ls : typing.Labels) → AreLowered (scope_of q.binders) q.labels labels ls →
    AreOpen b book locals labels (carried_at q) ends levels lists → label_height labels 0 ≤ base_at q
base_above {labels = labels} q ls h x =
    height_known (scope_of q.binders) q.labels labels ls h
    (λ e. none_open x (ap (λ (y : List rules.Label). map (λ (l : rules.Label). record { operands = sizes_at q l.types; locals = Some (sizes_at q l.locals) }) y) e))

module _ (b : Body) (book : Book) (before after : List ℕ) where
  abbrev Below : ℕ → Type 0
  Below height = AreKept b.around.places.operands (operand_place b.around height) before after

  lower : (height up : ℕ) → height ≤ up → Below up → Below height
  lower height up h k = λ n l u. k n l (omega (arith, h, u))

  -- operands that lie lower are held
  pub still_held : (q : Point) (types : List Ty) (vs : List r.Val) → Below (list_size (scope_of q.binders) types + base_at q) → AreHeld b book before q types vs → AreHeld b book after q types vs
  still_held q types vs k h = record {
    words = h.words;
    spelled = h.spelled;
    held = kept_held before after b.around.places.operands (operand_place b.around (list_size (scope_of q.binders) types + base_at q)) k (operand_place b.around (base_at q)) h.words (omega arith)
        (omega (arith, spelled_size book (scope_of q.binders) types vs h.words h.spelled)) h.held;
  }

  stay : {labels : List Label} {carried : List Carried} {ends : Carried} {levels : List r.Level} {lists : List w.Level} → Below (label_height labels 0) → AreOpen b book before labels carried ends levels lists → AreOpen b book after labels carried ends levels lists
  stay k (body r l m) = body r l m
  stay k (past d q given beneath code o aim takes gives sizes left held opened c ends outer) =
      let height = list_size (scope_of q.binders) beneath + base_at q in
      let inner = base_above q left.lists left.placed.lowered outer in
      past d q given beneath code o aim takes gives sizes left (still_held q beneath _ k held) opened c ends (stay (lower _ height (omega (arith, inner)) k) outer)
  stay k (back d inner q start given beneath is code loop o aim takes gives sizes same left again ends_alike held opened c carried ends outer) =
      let height = list_size (scope_of q.binders) beneath + base_at q in
      let lowest = base_above q left.lists left.placed.lowered outer in
      back d inner q start given beneath is code loop o aim takes gives sizes same left again ends_alike (still_held q beneath _ k held) opened c carried ends (stay (lower _ height (omega (arith, lowest)) k) outer)

pub open_lists_stay : OpenListsStay
open_lists_stay b book before after labels carried ends levels lists k x = stay b book before after k x
