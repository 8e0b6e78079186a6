-- What holds of no step, and of all that may follow from a form, holds of what follows where the form is there.
use Rattle.std.proofs.Common.{◌≡◌, ℕ, zero, suc, List, [], ◌∷◌, Bool, true, false, Option, Some, None, refl, if◌then◌else◌}
use Rattle.rw_types.specs.declared.types.Mem.{Mem}
use Rattle.rw_types.specs.declared.types.Mem.TheVariants.{L, U}
use Rattle.rw_types.specs.declared.types.Priv.{Priv}
use Rattle.machine_steps.specs.Steps.{Turn, NoStep, with_top}
use Rattle.rich_reduction.specs.Configurations.{Val, Number, Tuple, Ref, Ptr, Cap, Own, Fold, Pack, Code, Vals, Location, Slot, Content, Slots, Case, Elements, Hidden, Cell, Stores, Config, Event}
use Rattle.rich_reduction.specs.Turns.{with_number, with_tuple, with_ref, with_ptr, with_cap, with_own, with_fold, with_pack, with_code}
use Rattle.machine_steps.specs.Steps.{with_found, with_one, with_none, with_all}
use Rattle.rich_reduction.specs.Cells.{cell_at, with_slots, with_case, with_elements, with_hidden, with_linear}
use Rattle.rich_reduction.specs.Structs.{with_struct}
use Rattle.rich_reduction.specs.Arrays.{with_array}
use Rattle.rich_reduction.specs.Packages.{with_content}

module _ (P : Turn Event Config → Type 0) (no : P NoStep) where
  pub found : {X : Type 0} (o : Option X) {next : X → Turn Event Config} → ((x : X) → o ≡ Some x → P (next x)) → P (with_found o next)
  found None h = no
  found (Some x) h = h x refl

  pub one : (vs : List Val) {next : Val → List Val → Turn Event Config} → ((v : Val) (rest : List Val) → P (next v rest)) → P (with_one vs next)
  one [] h = no
  one (v ∷ vs) h = h v vs

  pub number : (vs : List Val) {next : ℕ → List Val → Turn Event Config} → ((n : ℕ) (rest : List Val) → vs ≡ Number n ∷ rest → P (next n rest)) → P (with_number vs next)
  number (Number n ∷ vs) h = h n vs refl
  number _ h = no

  pub tuple : (vs : List Val) {next : Vals → List Val → Turn Event Config} → ((parts : Vals) (rest : List Val) → P (next parts rest)) → P (with_tuple vs next)
  tuple (Tuple parts ∷ vs) h = h parts vs
  tuple _ h = no

  pub ref : (vs : List Val) {next : Location → Priv → List Val → Turn Event Config} → ((l : Location) (p : Priv) (rest : List Val) → P (next l p rest)) → P (with_ref vs next)
  ref (Ref l p ∷ vs) h = h l p vs
  ref _ h = no

  pub ptr : (vs : List Val) {next : Location → List Val → Turn Event Config} → ((l : Location) (rest : List Val) → P (next l rest)) → P (with_ptr vs next)
  ptr (Ptr l ∷ vs) h = h l vs
  ptr _ h = no

  pub cap : (vs : List Val) {next : Location → Priv → List Val → Turn Event Config} → ((l : Location) (p : Priv) (rest : List Val) → P (next l p rest)) → P (with_cap vs next)
  cap (Cap l p ∷ vs) h = h l p vs
  cap _ h = no

  pub own : (vs : List Val) {next : Location → List Val → Turn Event Config} → ((l : Location) (rest : List Val) → P (next l rest)) → P (with_own vs next)
  own (Own l ∷ vs) h = h l vs
  own _ h = no

  pub folded : (vs : List Val) {next : Val → List Val → Turn Event Config} → ((v : Val) (rest : List Val) → P (next v rest)) → P (with_fold vs next)
  folded (Fold v ∷ vs) h = h v vs
  folded _ h = no

  pub packed : (vs : List Val) {next : Val → List Val → Turn Event Config} → ((v : Val) (rest : List Val) → P (next v rest)) → P (with_pack vs next)
  packed (Pack v ∷ vs) h = h v vs
  packed _ h = no

  pub code : (vs : List Val) {next : ℕ → List Val → Turn Event Config} → ((f : ℕ) (rest : List Val) → P (next f rest)) → P (with_code vs next)
  code (Code f ∷ vs) h = h f vs
  code _ h = no

  pub nothing : (vs : List Val) {next : Turn Event Config} → P next → P (with_none vs next)
  nothing [] h = h
  nothing (v ∷ vs) h = no

  pub top : (n : ℕ) (vs : List Val) {next : List Val → List Val → Turn Event Config} → ((taken beneath : List Val) → P (next taken beneath)) → P (with_top n vs next)
  top zero vs h = h [] vs
  top (suc n) [] h = no
  top (suc n) (v ∷ vs) {next} h = top n vs {next = λ taken beneath. next (v ∷ taken) beneath} (λ taken beneath. h (v ∷ taken) beneath)

  pub all : (n : ℕ) (vs : List Val) {next : List Val → Turn Event Config} → ((taken : List Val) → P (next taken)) → P (with_all n vs next)
  all n vs {next} h = top n vs {next = λ taken beneath. with_none beneath (next taken)} (λ taken beneath. nothing beneath {next = next taken} (h taken))

  pub whether : (b : Bool) (t : Turn Event Config) → P t → P (if b then t else NoStep)
  whether true t h = h
  whether false t h = no

  pub unless : (b : Bool) (t : Turn Event Config) → P t → P (if b then NoStep else t)
  unless true t h = no
  unless false t h = h

  pub slots : (x : Content) {next : List Slot → Turn Event Config} → ((ss : List Slot) → P (next ss)) → P (with_slots x next)
  slots (Slots ss) h = h ss
  slots _ h = no

  pub case_of : (x : Content) {next : ℕ → Val → Turn Event Config} → ((n : ℕ) (v : Val) → P (next n v)) → P (with_case x next)
  case_of (Case n v) h = h n v
  case_of _ h = no

  pub elements : (x : Content) {next : List Val → Turn Event Config} → ((vs : List Val) → P (next vs)) → P (with_elements x next)
  elements (Elements vs) h = h vs
  elements _ h = no

  pub hidden : (x : Content) {next : ℕ → Val → Turn Event Config} → ((n : ℕ) (v : Val) → P (next n v)) → P (with_hidden x next)
  hidden (Hidden n v) h = h n v
  hidden _ h = no

  pub linear : (m : Mem) {next : Turn Event Config} → (m ≡ L → P next) → P (with_linear m next)
  linear L h = h refl
  linear U h = no

  pub struct : (vs : List Val) (s : Stores) {next : Location → Priv → Cell → List Slot → List Val → Turn Event Config}
      → ((l : Location) (p : Priv) (cell : Cell) (ss : List Slot) (rest : List Val) → cell_at l s ≡ Some cell → P (next l p cell ss rest)) → P (with_struct vs s next)
  struct vs s h = ref vs (λ l p rest. found (cell_at l s) (λ cell e. slots cell.content (λ ss. h l p cell ss rest e)))

  pub array : (vs : List Val) (s : Stores) {next : Location → Priv → Cell → List Val → List Val → Turn Event Config}
      → ((l : Location) (p : Priv) (cell : Cell) (ws : List Val) (rest : List Val) → cell_at l s ≡ Some cell → P (next l p cell ws rest)) → P (with_array vs s next)
  array vs s h = ref vs (λ l p rest. found (cell_at l s) (λ cell e. elements cell.content (λ ws. h l p cell ws rest e)))

  pub content : (vs : List Val) (s : Stores) {next : Location → Content → List Val → Turn Event Config}
      → ((l : Location) (cell : Cell) (x : Content) (rest : List Val) → cell_at l s ≡ Some cell → P (next l x rest)) → P (with_content vs s next)
  content vs s h = ref vs (λ l p rest. found (cell_at l s) (λ cell e. h l cell cell.content rest e))
