-- Laws on values of closed types. This project's own.
use Rattle.std.specs.Prelude.{◌≡◌, ℕ, List}
use Rattle.rw_types.specs.declared.types.Heap.{Heap}
use Rattle.rw_types.specs.declared.types.Mem.{Mem}
use Rattle.rw_types.specs.declared.types.Pre.{Pre, Unit, I32, I64, Tuple', Ref, Ptr, Cap, Own, Hidden', Code'}
use Rattle.rw_types.specs.declared.types.Ty.{Ty, Of, Var, Rec'}
use Rattle.rich_reduction.specs.Configurations as value
use Rattle.rich_reduction.specs.Configurations.{Val, Location, Content}
use Rattle.rich_reduction.specs.Values.{words}
use Rattle.rich_rights.specs.Rights.{Right, Reading, rights_to, is_at, count, count_all, count_content}
use Rattle.rich_soundness_values.specs.Heaps.{Heaps, Stands, IsUnr, size_of}
use Rattle.rich_soundness_values.specs.Values.{HasType, HaveTypes}
use Rattle.rich_soundness_values.specs.Cells.{Holds}

-- the forms of values
pub data Form : Type 0 where
  ANumber : Form
  AUnit : Form
  ATuple : Form
  AReference : Form
  AnAddress : Form
  ACapability : Form
  ARightToWrite : Form
  AFolded : Form
  APacked : Form
  AFunction : Form
  ANone : Form

abbrev pub form_of : Val → Form
form_of (value.Number n) = ANumber
form_of value.Empty = AUnit
form_of (value.Tuple vs) = ATuple
form_of (value.Ref l p) = AReference
form_of (value.Ptr l) = AnAddress
form_of (value.Cap l p) = ACapability
form_of (value.Own l) = ARightToWrite
form_of (value.Fold v) = AFolded
form_of (value.Pack v) = APacked
form_of (value.Code f) = AFunction

abbrev pub form_in : Pre → Form
form_in Unit = AUnit
form_in I32 = ANumber
form_in I64 = ANumber
form_in (Tuple' m ts) = ATuple
form_in (Ref p l h) = AReference
form_in (Ptr l) = AnAddress
form_in (Cap p l h) = ACapability
form_in (Own l) = ARightToWrite
form_in (Hidden' m a t) = APacked
form_in (Code' a f) = AFunction

-- the form that a type demands of its values; a variable is no closed type
abbrev pub form_for : Ty → Form
form_for (Of q p) = form_in p
form_for (Var n) = ANone
form_for (Rec' q s a t) = AFolded

-- a value has the form of its type
abbrev pub ValuesHaveForms : Type 0
ValuesHaveForms = (hs : Heaps) (v : Val) (t : Ty) → HasType hs v t → form_of v ≡ form_for t

-- and the words of its type
abbrev pub ValuesHaveWords : Type 0
ValuesHaveWords = (hs : Heaps) (v : Val) (t : Ty) → HasType hs v t → words v ≡ size_of t

-- what may be dropped and copied has no right to a linear location
abbrev pub UnrHasNoRights : Type 0
UnrHasNoRights = (hs : Heaps) (v : Val) (t : Ty) (r : Right) (n : ℕ) → HasType hs v t → IsUnr t → count (rights_to r n) v ≡ 0

-- what stands elsewhere than at the linear location of this number stands there afterwards too, and functions keep their types
pub record Keeps (n : ℕ) (hs hs' : Heaps) : Type 0 where
  pub stands : (l : Location) (h : Heap) → is_at n l ≡ 0 → Stands hs l h → Stands hs' l h
  pub functions : hs'.functions ≡ hs.functions

-- so values and cells that have no right to read there keep their types, whatever comes to stand there
pub record AreFramed (n : ℕ) (hs hs' : Heaps) : Type 0 where
  pub value : (v : Val) (t : Ty) → HasType hs v t → count (rights_to Reading n) v ≡ 0 → HasType hs' v t
  pub values : (vs : List Val) (ts : List Ty) → HaveTypes hs vs ts → count_all (rights_to Reading n) vs ≡ 0 → HaveTypes hs' vs ts
  pub content : (m : Mem) (h : Heap) (x : Content) → Holds hs m h x → count_content (rights_to Reading n) x ≡ 0 → Holds hs' m h x

abbrev pub TypesAreFramed : Type 0
TypesAreFramed = (n : ℕ) (hs hs' : Heaps) → Keeps n hs hs' → AreFramed n hs hs'
