-- Rows that enter lists. This project's own.
use Rattle.std.specs.Prelude.{ℕ, List, [], ◌∷◌, ◌++◌, ◌&&◌, ◌||◌, ◌==◌, not, nat_lt, Bool, true, false, if◌then◌else◌, Option, Some, None, length, reverse, slice_get, slice_set}
use Rattle.rw_types.specs.declared.instrs.BlockSig.{BlockSig}
use Rattle.rw_types.specs.declared.instrs.LocalTy.{LocalTy}
use Rattle.rw_types.specs.declared.types.Binder.{Binder}
use Rattle.rw_types.specs.declared.types.Binder.TheVariants.{Loc, Kind}
use Rattle.rw_types.specs.declared.types.Ty.{Ty}
use Rattle.rich_types.specs.Scopes.{Scope, scope_of}
use Rattle.rich_typing.specs.declared.rules.Rule.TheVariants as rule
use Rattle.rich_rules.specs.Forms.{is_rw, fits, first_ill_formed}
use Rattle.rich_rules.specs.Points.{Frame, Label, Point, Exactly, Entry, Outcome, Enters}
use Rattle.rich_rules.specs.Raised.{below_one, raise_all, entered}
use Rattle.rich_rules.specs.Takers.{unr_i32, need, without, these, one_over, of_type, hidden_form, variant_form, package_form}

-- whether the local with this number is among these
abbrev pub is_named : ℕ → List LocalTy → Bool
is_named n [] = false
is_named n (l ∷ ls) = (n == l.index) || is_named n ls

-- whether the locals of a signature are among so many, and none is named twice
abbrev pub are_named_once : ℕ → List LocalTy → Bool
are_named_once count [] = true
are_named_once count (l ∷ ls) = (nat_lt l.index count && not (is_named l.index ls)) && are_named_once count ls

-- the types that a signature gives to locals
abbrev pub local_types : List LocalTy → List Ty
local_types [] = []
local_types (l ∷ ls) = l.ty ∷ local_types ls

-- whether a type fits the slot of this number, if there is one
abbrev pub fits_in : Scope → Option ℕ → Ty → Bool
fits_in c (Some s) t = fits c s t
fits_in c None t = true

-- the first type of a local that is larger than its slot
abbrev pub first_too_large : Scope → List ℕ → List LocalTy → Option Ty
first_too_large c slots [] = None
first_too_large c slots (l ∷ ls) = if fits_in c (slice_get slots l.index) l.ty then first_too_large c slots ls else Some l.ty

-- the locals after a block
abbrev pub changed_by : List LocalTy → List Ty → List Ty
changed_by [] locals = locals
changed_by (l ∷ ls) locals = changed_by ls (slice_set locals l.index l.ty)

-- the conditions of a signature: its locals, its types, and the sizes of those of its locals
abbrev pub signed : Frame → Point → BlockSig → Outcome → Outcome
signed f p b rest = need (are_named_once (length p.locals) b.locals) rule.Index None None (without (first_ill_formed (scope_of p.binders) (b.params ++ b.results ++ local_types b.locals)) rule.TypeForm (without (first_too_large (scope_of p.binders) f.slots b.locals) rule.SlotSize rest))

-- the label of a block, over the operands beneath it: a branch to it goes behind the block
abbrev pub end_label : Point → BlockSig → List Ty → Label
end_label p b beneath = record { types = reverse b.results; locals = changed_by b.locals p.locals; rest = beneath }

-- and that of a loop: a branch to it goes to its start
abbrev pub start_label : Point → BlockSig → List Ty → Label
start_label p b beneath = record { types = reverse b.params; locals = p.locals; rest = beneath }

-- lists that are entered under this label, without a binder: each begins with what the block takes, under its payload
abbrev pub entry : Point → BlockSig → Label → List Ty → List (List Ty) → Entry
entry p b label beneath payloads = record {
  operands = reverse b.results ++ beneath;
  locals = changed_by b.locals p.locals;
  inner = record p { labels = label ∷ p.labels; operands = reverse b.params };
  payloads = payloads;
  demand = record { types = reverse b.results; locals = Exactly (changed_by b.locals p.locals) };
}

-- a list that is entered below a binder, with this type on top of what the block takes
abbrev pub entry_below : Point → BlockSig → Binder → Label → List Ty → Ty → Entry
entry_below p b binder label beneath t = record {
  operands = reverse b.results ++ beneath;
  locals = changed_by b.locals p.locals;
  inner = record (entered binder (record p { labels = label ∷ p.labels })) { operands = t ∷ raise_all (below_one binder) (reverse b.params) };
  payloads = [];
  demand = record { types = raise_all (below_one binder) (reverse b.results); locals = Exactly (raise_all (below_one binder) (changed_by b.locals p.locals)) };
}

-- `block`
abbrev pub block_row : Frame → Point → BlockSig → Outcome
block_row f p b = signed f p b (these (reverse b.params) p.operands (λ beneath. Enters (entry p b (end_label p b beneath) beneath [])))

-- `loop`
abbrev pub loop_row : Frame → Point → BlockSig → Outcome
loop_row f p b = signed f p b (these (reverse b.params) p.operands (λ beneath. Enters (entry p b (start_label p b beneath) beneath [])))

-- `if`, with two lists
abbrev pub if_row : Frame → Point → BlockSig → Outcome
if_row f p b = signed f p b (one_over (reverse b.params) p.operands (λ t beneath. of_type unr_i32 t (Enters (entry p b (end_label p b beneath) beneath []))))

-- `mem.unpack` enters a location
abbrev pub mem_unpack_row : Frame → Point → BlockSig → Outcome
mem_unpack_row f p b = signed f p b (one_over (reverse b.params) p.operands (λ u beneath. hidden_form u (λ m t. Enters (entry_below p b (Loc m) (end_label p b beneath) beneath t))))

-- a list for each type, with it alone
abbrev pub each_alone : List Ty → List (List Ty)
each_alone [] = []
each_alone (t ∷ ts) = (t ∷ []) ∷ each_alone ts

-- `variant.case`, with so many lists
abbrev pub variant_case_row : Frame → Point → BlockSig → ℕ → Outcome
variant_case_row f p b lists = signed f p b (one_over (reverse b.params) p.operands (λ u beneath. variant_form (scope_of p.binders) u (λ r ts. need (is_rw r.privilege) rule.Privilege (Some u) None (need (lists == length ts) rule.Arms None None (Enters (entry p b (end_label p b beneath) beneath (each_alone ts)))))))

-- `exist.unpack` enters a type variable
abbrev pub exist_unpack_row : Frame → Point → BlockSig → Outcome
exist_unpack_row f p b = signed f p b (one_over (reverse b.params) p.operands (λ u beneath. package_form (scope_of p.binders) u (λ r q s t. need (is_rw r.privilege) rule.Privilege (Some u) None (Enters (entry_below p b (Kind q s) (end_label p b beneath) beneath t)))))
