-- Points of a run: code that is open under binders, and what lists and calls around it see of it, in closed types. This project's
-- own.
use Rattle.std.specs.Prelude.{◌≡◌, ℕ, suc, List, [], ◌∷◌, ◌++◌, Some, drop, length, slice_get}
use Rattle.rw_types.specs.declared.instrs.Instr.{Instr, GlobalSet}
use Rattle.rw_types.specs.declared.types.Ty.{Ty}
use Rattle.rw_program.specs.declared.linked.LinkedGlobal.{LinkedGlobal}
use Rattle.rw_program.specs.Programs.{Program}
use Rattle.rich_types.specs.Scopes.{scope_of}
use Rattle.rich_types.specs.Instances.{Substitution}
use Rattle.rich_typing.specs.declared.notes.Note.{Note}
use Rattle.rich_rules.specs.Points.{Frame, Owner, OfFunction, OfGlobal, Label, Point, LocalsDemand, Exactly, AllUnr, Demand}
use Rattle.rich_rules.specs.Takers.{unr_i64}
use Rattle.rich_rules.specs.Derivations.{Derives}
use Rattle.rich_linking.specs.TypedPrograms.{types_of_functions, types_of_globals}
use Rattle.rich_reduction.specs.Configurations.{Val, Past, Back, Level, Here}
use Rattle.rich_reduction.specs.Control.{sizes_of}
use Rattle.rich_reduction.specs.Starts.{own_list}
use Rattle.rich_soundness_values.specs.Heaps.{Heaps, Answer, all_at}
use Rattle.rich_soundness_values.specs.Values.{HaveTypes}
use Rattle.rich_soundness_points.specs.Programs.{AllFit}

-- a label, labels, a demand and a point where these names and closed types stand for the binders around them
abbrev pub label_at : Substitution → Label → Label
label_at g l = record { types = all_at g l.types; locals = all_at g l.locals; rest = all_at g l.rest }

abbrev pub labels_at : Substitution → List Label → List Label
labels_at g [] = []
labels_at g (l ∷ ls) = label_at g l ∷ labels_at g ls

abbrev pub locals_demand_at : Substitution → LocalsDemand → LocalsDemand
locals_demand_at g (Exactly ts) = Exactly (all_at g ts)
locals_demand_at g AllUnr = AllUnr

abbrev pub demand_at : Substitution → Demand → Demand
demand_at g d = record { types = all_at g d.types; locals = locals_demand_at g d.locals }

abbrev pub point_at : Substitution → Point → Point
point_at g p = record { binders = []; locals = all_at g p.locals; labels = labels_at g p.labels; results = all_at g p.results; operands = all_at g p.operands }

-- a point of closed types
abbrev pub closed : List Ty → List Label → List Ty → List Ty → Point
closed locals labels results operands = record { binders = []; locals = locals; labels = labels; results = results; operands = operands }

-- what is left of a list: it goes on from this point, in closed types, to what its end demands, with type variables of these sizes
-- in force. Its derivation is open, and names and closed types answer its binders
pub record GoesOn (p : Program) (owner : Owner) (d : Demand) (q : Point) (sizes : List ℕ) (is : List Instr) : Type 0 where
  pub frame : Frame
  pub demand : Demand
  pub point : Point
  pub notes : List Note
  pub code : Derives frame demand point is notes
  pub fit : AllFit is
  pub owned : frame.owner ≡ owner
  pub functions : frame.functions ≡ types_of_functions p.funcs
  pub globals : frame.globals ≡ types_of_globals p.globals
  pub answers : Substitution
  pub answered : Answer answers (scope_of point.binders)
  pub demanded : d ≡ demand_at answers demand
  pub seen : q ≡ point_at answers point
  pub sized : sizes ≡ sizes_of point.binders

-- what is left of the program's own list after the first value of this global stands on the operands
abbrev pub own_rest : Program → ℕ → List Instr
own_rest p n = GlobalSet n ∷ own_list (suc n) (drop (suc n) p.globals) p.main

-- the block of the program's own list in which this global gets its first value
abbrev pub own_level : Program → ℕ → Level
own_level p n = record { aim = Past; takes = 1; gives = 1; sizes = []; beneath = []; rest = own_rest p n }

-- the open lists of a call with so many locals, the innermost first, with the labels and the demand that the list within sees: at
-- the bottom a function's body, or an initialiser in its block; a list that a branch leads past; or a loop
pub data Levels (p : Program) (hs : Heaps) (owner : Owner) (results : List Ty) (count : ℕ) : List Label → Demand → List Level → Type 0 where
  of_function : {d : Demand} → owner ≡ OfFunction → d ≡ record { types = results; locals = AllUnr } → Levels p hs owner results count [] d []
  of_initialiser : {d : Demand} {l : Level} (n : ℕ) (g : LinkedGlobal) → owner ≡ OfGlobal n → slice_get p.globals n ≡ Some g → d ≡ record { types = g.ty ∷ []; locals = AllUnr } → l ≡ own_level p n →
      Levels p hs owner results count [] d (l ∷ [])
  past : {labels : List Label} {l : Level} {levels : List Level} (types locals rest : List Ty) (outer : Demand) → length locals ≡ count → l.aim ≡ Past → l.takes ≡ length types → l.gives ≡ length types →
      HaveTypes hs l.beneath rest → GoesOn p owner outer (closed locals labels results (types ++ rest)) l.sizes l.rest → Levels p hs owner results count labels outer levels →
      Levels p hs owner results count (record { types = types; locals = locals; rest = rest } ∷ labels) (record { types = types; locals = Exactly locals }) (l ∷ levels)
  back : {labels : List Label} {l : Level} {levels : List Level} (types locals carried starting rest : List Ty) (outer : Demand) (body : List Instr) → length locals ≡ count → length starting ≡ count → l.aim ≡ Back body → l.takes ≡ length carried → l.gives ≡ length types →
      HaveTypes hs l.beneath rest →
      GoesOn p owner (record { types = types; locals = Exactly locals }) (closed starting (record { types = carried; locals = starting; rest = rest } ∷ labels) results carried) l.sizes body →
      GoesOn p owner outer (closed locals labels results (types ++ rest)) l.sizes l.rest → Levels p hs owner results count labels outer levels →
      Levels p hs owner results count (record { types = carried; locals = starting; rest = rest } ∷ labels) (record { types = types; locals = Exactly locals }) (l ∷ levels)

-- a call of a body that goes on from these operands to these results, in closed types
pub record InBody (p : Program) (hs : Heaps) (owner : Owner) (results operands : List Ty) (here : Here) : Type 0 where
  pub labels : List Label
  pub demand : Demand
  pub locals : List Ty
  pub goes_on : GoesOn p owner demand (closed locals labels results operands) here.sizes here.rest
  pub levels : Levels p hs owner results (length locals) labels demand here.levels
  pub locals_typed : HaveTypes hs here.locals locals
  pub gives : owner ≡ OfFunction → here.results ≡ length results

-- the call of the program's own list
abbrev pub own_call : List Val → List Instr → Here
own_call operands rest = record { results = 1; sizes = []; locals = []; operands = operands; rest = rest; levels = [] }

-- the calls that wait for these results: none for an initialiser, the program's own list for the main function, or a call and
-- those that wait for it
pub data Callers (p : Program) (hs : Heaps) : Owner → List Ty → List Here → Type 0 where
  of_own_list : {results : List Ty} (n : ℕ) → results ≡ [] → Callers p hs (OfGlobal n) results []
  of_main : {results : List Ty} {here : Here} → results ≡ unr_i64 ∷ [] → here ≡ own_call [] [] → Callers p hs OfFunction results (here ∷ [])
  waits : {results : List Ty} {here : Here} {callers : List Here} (outer beneath : List Ty) → InBody p hs OfFunction outer (results ++ beneath) here → HaveTypes hs here.operands beneath →
      Callers p hs OfFunction outer callers → Callers p hs OfFunction results (here ∷ callers)
