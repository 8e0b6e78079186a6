-- A body that runs and its code: of each open list what is left has a derivation, and its code is left of the Wasm list. This
-- project's own.
use Rattle.std.specs.Prelude.{◌≡◌, ◌≤◌, ℕ, ◌+◌, map, List, [], ◌∷◌, ◌++◌, length, Option, Some, None, if◌then◌else◌}
use Rattle.wasm_ast.specs.declared.instructions.WInstr.{WInstr}
use Rattle.wasm_typing.specs.Typing.{Labels}
use Rattle.wasm_execution.specs.Configurations as w
use Rattle.rw_types.specs.declared.instrs.Instr.{Instr}
use Rattle.rw_types.specs.declared.types.Ty.{Ty}
use Rattle.rich_types.specs.Scopes.{scope_of}
use Rattle.rich_types.specs.Sizes.{list_size}
use Rattle.rich_typing.specs.declared.notes.Note.{Note}
use Rattle.rich_rules.specs.Derivations.{Derives}
use Rattle.rich_rules.specs.Points as rules
use Rattle.rich_rules.specs.Points.{AllUnr, Demand, Exactly, Frame, LocalsDemand, OfFunction, Point}
use Rattle.rich_rules.specs.Table.{rest_size}
use Rattle.rich_reduction.specs.Configurations as r
use Rattle.rich_reduction.specs.Control.{sizes_of}
use Rattle.layout.specs.Bodies.{is_ended, text_order}
use Rattle.layout.specs.Frames.{greatest_height}
use Rattle.lowering_rows.specs.Labels.{Label, plain_label}
use Rattle.lowering_rows.specs.Moves.{fetches}
use Rattle.lowering_rows.specs.Surroundings.{Surroundings, first_result, operand_place}
use Rattle.lowering_rows.specs.Taken.{each_size}
use Rattle.lowering_rows.specs.Rows.{rows}
use Rattle.lowering_heights.specs.Heights.{end_height}
use Rattle.lowering_names.specs.Placed.{IsPlaced}
use Rattle.simulation_relation.specs.Words.{AreSpelled, Book, Holds, LocalsHold}

-- an open Wasm list without operands and results: a branch to it leads so, and this is left of the list around it
abbrev pub open_list : w.Aim → List WInstr → w.Level
open_list aim rest = record { aim = aim; takes = 0; gives = 0; beneath = []; rest = rest }

-- the words of each of these types at a point
abbrev pub sizes_at : Point → List Ty → List ℕ
sizes_at q types = each_size (scope_of q.binders) types

-- how many words lists under different binders agree on: those of each operand that is carried from one to the other, and those of
-- each local there; of locals that are only to be `unr` they agree on none
pub record Carried : Type 0 where
  pub operands : List ℕ
  pub locals : Option (List ℕ)

-- what goes on at a point with these operands
abbrev pub standing_at : Point → List Ty → Carried
standing_at q types = record { operands = sizes_at q types; locals = Some (sizes_at q q.locals) }

-- what a branch to each label of a point carries
abbrev pub carried_at : Point → List Carried
carried_at q = map (λ (l : rules.Label). record { operands = sizes_at q l.types; locals = Some (sizes_at q l.locals) }) q.labels

-- what a list's end leaves
abbrev pub locals_demanded : Point → LocalsDemand → Option (List ℕ)
locals_demanded q (Exactly types) = Some (sizes_at q types)
locals_demanded q AllUnr = None

abbrev pub demanded_at : Point → Demand → Carried
demanded_at q d = record { operands = sizes_at q d.types; locals = locals_demanded q d.locals }

-- the height at which the operands of the current list begin
abbrev pub base_at : Point → ℕ
base_at q = rest_size (scope_of q.binders) q.labels

-- what stands behind the code of a list: that of a body has its function's end behind it, but where it is ended within; and a list
-- within has nothing
abbrev pub behind : List WInstr → List Label → List Instr → List WInstr
behind end [] rest = if is_ended rest then [] else end
behind end (label ∷ labels) rest = []

-- a body in its frame: the surroundings of its code, what the rules see, the operand words, the words of each result, the top one
-- first, what stands behind its code, and the lists that are open around it, with those of Wasm
pub record Body : Type 0 where
  pub around : Surroundings
  pub frame : Frame
  pub room : ℕ
  pub results : List ℕ
  pub end : List WInstr
  pub outer : List r.Level
  pub outer_lists : List w.Level

module _ (b : Body) (book : Book) where
  -- what is left of a list, from a point on to what its end demands, and the code that is left; a `return` there gives the results
  pub record IsLeft (labels : List Label) (d : Demand) (q : Point) (rest : List Instr) (code : List WInstr) : Type 0 where
    pub notes : List Note
    pub derived : Derives b.frame d q rest notes
    pub lists : Labels
    pub placed : IsPlaced b.around b.frame b.room lists labels q
    pub fits : greatest_height (text_order rest) notes (end_height rest d q) ≤ b.room
    pub returned : b.frame.owner ≡ OfFunction → sizes_at q q.results ≡ b.results
    pub lowered : code ≡ rows b.around labels rest notes ++ behind b.end labels rest

  -- operands of these types, the top one first, whose words the locals hold from the current list's height on
  pub record AreHeld (locals : List ℕ) (q : Point) (types : List Ty) (vs : List r.Val) : Type 0 where
    pub words : List ℕ
    pub spelled : AreSpelled book (scope_of q.binders) types vs words
    pub held : Holds locals (operand_place b.around (base_at q)) words

  -- the lists that are open around a list, the innermost first: their labels, what a branch to each carries, and what the list
  -- within leaves. Around a block stands the point behind it, where what the block leaves lies on top
  pub data AreOpen (locals : List ℕ) : List Label → List Carried → Carried → List r.Level → List w.Level → Type 0 where
    body : {ends : Carried} {levels : List r.Level} {lists : List w.Level} → ends.operands ≡ b.results → levels ≡ b.outer → lists ≡ b.outer_lists → AreOpen locals [] [] ends levels lists
    past : {labels : List Label} {carried : List Carried} {ends : Carried} {l : r.Level} {levels : List r.Level} {opened : w.Level} {lists : List w.Level} (d : Demand) (q : Point) (given beneath : List Ty) (code : List WInstr) →
        q.operands ≡ given ++ beneath → l.aim ≡ r.Past → l.takes ≡ length given → l.gives ≡ length given → l.sizes ≡ sizes_of q.binders → IsLeft labels d q l.rest code → AreHeld locals q beneath l.beneath →
        opened ≡ open_list w.Past code → carried ≡ standing_at q given ∷ carried_at q → ends ≡ standing_at q given → AreOpen locals labels (carried_at q) (demanded_at q d) levels lists →
        AreOpen locals (plain_label (list_size (scope_of q.binders) beneath + base_at q) ∷ labels) carried ends (l ∷ levels) (opened ∷ lists)
    back : {labels : List Label} {carried : List Carried} {ends : Carried} {l : r.Level} {levels : List r.Level} {opened : w.Level} {lists : List w.Level} (d inner : Demand) (q start : Point) (given beneath : List Ty) (is : List Instr) (code loop : List WInstr) →
        q.operands ≡ given ++ beneath → l.aim ≡ r.Back is → l.takes ≡ length start.operands → l.gives ≡ length given → l.sizes ≡ sizes_of q.binders → start.binders ≡ q.binders → IsLeft labels d q l.rest code →
        IsLeft (plain_label (list_size (scope_of q.binders) beneath + base_at q) ∷ labels) inner start is loop → demanded_at start inner ≡ standing_at q given → AreHeld locals q beneath l.beneath →
        opened ≡ open_list (w.Back loop) code → carried ≡ standing_at start start.operands ∷ carried_at q → carried_at start ≡ carried → ends ≡ standing_at q given → AreOpen locals labels (carried_at q) (demanded_at q d) levels lists →
        AreOpen locals (plain_label (list_size (scope_of q.binders) beneath + base_at q) ∷ labels) carried ends (l ∷ levels) (opened ∷ lists)

  -- a call stands between two instructions of this body: at this point, with these of its operands held; this code is left
  pub record StandsAt (q : Point) (types : List Ty) (code : List WInstr) (here : r.Here) (target : w.Here) : Type 0 where
    pub labels : List Label
    pub demand : Demand
    pub rest_left : IsLeft labels demand q here.rest code
    pub operands : AreHeld target.locals q types here.operands
    pub locals : LocalsHold book (scope_of q.binders) target.locals b.around.places.locals q.locals here.locals
    pub lists : AreOpen target.locals labels (carried_at q) (demanded_at q demand) here.levels target.levels
    pub sizes : here.sizes ≡ sizes_of q.binders
    pub frame : length target.locals ≡ b.around.places.scratch + 2
    pub no_operands : target.operands ≡ []

  -- it runs: all operands of the point are held
  pub record IsRunning (here : r.Here) (target : w.Here) : Type 0 where
    pub point : Point
    pub stands : StandsAt point point.operands target.rest here target

  -- it waits for results of these sizes, which are fetched from the result globals to lie on top of its operands
  pub record IsWaiting (results : List ℕ) (here : r.Here) (target : w.Here) : Type 0 where
    pub point : Point
    pub given : List Ty
    pub beneath : List Ty
    pub operands : point.operands ≡ given ++ beneath
    pub sizes : results ≡ sizes_at point given
    pub code : List WInstr
    pub stands : StandsAt point beneath code here target
    pub fetching : target.rest ≡ fetches (list_size (scope_of point.binders) given) first_result (operand_place b.around (list_size (scope_of point.binders) beneath + base_at point)) ++ code
