-- What holds where a row on operands, variables, branches, lists and functions breaks no rule. This project's own.
use Rattle.std.specs.Prelude.{◌≡◌, ◌≤◌, ℕ, List, [], ◌∷◌, ◌++◌, None, Option, Some, IsFalse, IsTrue, ⊤, drop, length, nat_lt, reverse, slice_get, take}
use Rattle.rw_types.specs.declared.instrs.BlockSig.{BlockSig}
use Rattle.rw_types.specs.declared.types.Arg.{Arg}
use Rattle.rw_types.specs.declared.types.Arg.TheVariants.{Given, Loc as to_location}
use Rattle.rw_types.specs.declared.types.Binder.TheVariants.{Kind, Loc}
use Rattle.rw_types.specs.declared.types.FunType.{FunType}
use Rattle.rw_types.specs.declared.types.Heap.TheVariants.{Exist, Variant}
use Rattle.rw_types.specs.declared.types.Mem.{Mem}
use Rattle.rw_types.specs.declared.types.Pre.{Pre}
use Rattle.rw_types.specs.declared.types.Pre.TheVariants.{Code, Hidden, Tuple}
use Rattle.rw_types.specs.declared.types.Priv.TheVariants.{Rw}
use Rattle.rw_types.specs.declared.types.Qual.{Qual}
use Rattle.rw_types.specs.declared.types.Qual.TheVariants.{Lin, Unr}
use Rattle.rw_types.specs.declared.types.Ty.{Of, Ty}
use Rattle.rw_types.specs.declared.types.Ty.TheVariants.{Rec}
use Rattle.rich_types.specs.Scopes.{Scope, memory_of, scope_of, with_location}
use Rattle.rich_types.specs.Sizes.{qual_under}
use Rattle.rich_types.specs.Instances.{instance}
use Rattle.rich_rules.specs.Forms.{first_ill_formed, fits, is_formed, is_unr, is_unr_type}
use Rattle.rich_rules.specs.Points.{Becomes, Ends, Enters, Frame, GlobalType, Gives, Label, OfFunction, OfGlobal, Outcome, Owner, Point}
use Rattle.rich_rules.specs.Raised.{instances}
use Rattle.rich_rules.specs.Takers.{Reference, first_difference, first_held, gives, unr_i32, unr_unit}
use Rattle.rich_rules.specs.Plain.{drop_row, fold_row, from_to, group_row, qualify_row, unfold_row, ungroup_row}
use Rattle.rich_rules.specs.Variables.{global_get_row, global_set_row, local_get_row, local_set_row, local_take_row}
use Rattle.rich_rules.specs.Branches.{br_if_row, br_row, crossed, return_row}
use Rattle.rich_rules.specs.Blocks.{are_named_once, block_row, each_alone, end_label, entry, entry_below, exist_unpack_row, first_too_large, if_row, local_types, loop_row, mem_unpack_row, start_label, variant_case_row}
use Rattle.rich_rules.specs.Calls.{answer_all, are_locations, argument_types, call_indirect_row, call_row, coderef_row, inst_row, instantiated}
use Rattle.rich_rules.specs.Rights.{mem_pack_row}
use Rattle.rich_rules_inversions.specs.Cells.{Goes, IsReference}

pub record TakesThese (demanded given operands : List Ty) (o : Outcome) : Type 0 where
  pub beneath : List Ty
  pub taken : operands ≡ demanded ++ beneath
  pub result : o ≡ gives given beneath

pub record Drops (c : Scope) (operands : List Ty) (o : Outcome) : Type 0 where
  pub beneath : List Ty
  pub value : Ty
  pub taken : operands ≡ value ∷ beneath
  pub unrestricted : IsTrue (is_unr_type c value)
  pub given : o ≡ gives [] beneath

pub record Qualifies (operands : List Ty) (o : Outcome) : Type 0 where
  pub beneath : List Ty
  pub qual : Qual
  pub form : Pre
  pub taken : operands ≡ Of qual form ∷ beneath
  pub unrestricted : IsTrue (is_unr qual)
  pub given : o ≡ gives (Of Lin form ∷ []) beneath

pub record Folds (c : Scope) (t : Ty) (operands : List Ty) (o : Outcome) : Type 0 where
  pub beneath : List Ty
  pub qual : Qual
  pub size : ℕ
  pub body : Ty
  pub form : t ≡ Rec qual size body
  pub formed : IsTrue (is_formed c t)
  pub taken : operands ≡ instance body (Given t ∷ []) ∷ beneath
  pub given : o ≡ gives (t ∷ []) beneath

pub record Unfolds (operands : List Ty) (o : Outcome) : Type 0 where
  pub beneath : List Ty
  pub qual : Qual
  pub size : ℕ
  pub body : Ty
  pub taken : operands ≡ Rec qual size body ∷ beneath
  pub given : o ≡ gives (instance body (Given (Rec qual size body) ∷ []) ∷ []) beneath

pub record Groups (c : Scope) (n : ℕ) (q : Qual) (operands : List Ty) (o : Outcome) : Type 0 where
  pub enough : n ≤ length operands
  pub formed : IsTrue (is_formed c (Of q (Tuple (reverse (take n operands)))))
  pub given : o ≡ gives (Of q (Tuple (reverse (take n operands))) ∷ []) (drop n operands)

pub record Ungroups (operands : List Ty) (o : Outcome) : Type 0 where
  pub beneath : List Ty
  pub qual : Qual
  pub parts : List Ty
  pub taken : operands ≡ Of qual (Tuple parts) ∷ beneath
  pub given : o ≡ gives (reverse parts) beneath

pub record GetsLocal (c : Scope) (locals : List Ty) (n : ℕ) (operands : List Ty) (o : Outcome) : Type 0 where
  pub value : Ty
  pub found : slice_get locals n ≡ Some value
  pub unrestricted : IsTrue (is_unr_type c value)
  pub given : o ≡ gives (value ∷ []) operands

pub record TakesLocal (c : Scope) (locals : List Ty) (n : ℕ) (operands : List Ty) (o : Outcome) : Type 0 where
  pub value : Ty
  pub found : slice_get locals n ≡ Some value
  pub held : IsFalse (is_unr_type c value)
  pub given : o ≡ Gives (value ∷ operands) (Some (Becomes n unr_unit))

-- a value fits the slot, where there is one
abbrev pub FitsSlot : Scope → Option ℕ → Ty → Type 0
FitsSlot c (Some n) t = IsTrue (fits c n t)
FitsSlot c None t = ⊤

pub record SetsLocal (c : Scope) (slots : List ℕ) (locals : List Ty) (n : ℕ) (operands : List Ty) (o : Outcome) : Type 0 where
  pub beneath : List Ty
  pub value : Ty
  pub before : Ty
  pub found : slice_get locals n ≡ Some before
  pub taken : operands ≡ value ∷ beneath
  pub unrestricted : IsTrue (is_unr_type c before)
  pub fit : FitsSlot c (slice_get slots n) value
  pub given : o ≡ Gives beneath (Some (Becomes n value))

-- a body may get the global with this number
abbrev pub MayGet : Owner → ℕ → Type 0
MayGet OfFunction n = ⊤
MayGet (OfGlobal own) n = IsTrue (nat_lt n own)

pub record GetsGlobal (f : Frame) (c : Scope) (n : ℕ) (operands : List Ty) (o : Outcome) : Type 0 where
  pub variable : GlobalType
  pub allowed : MayGet f.owner n
  pub found : slice_get f.globals n ≡ Some variable
  pub formed : IsTrue (is_formed c variable.ty)
  pub given : o ≡ gives (variable.ty ∷ []) operands

pub record SetsGlobal (f : Frame) (n : ℕ) (operands : List Ty) (o : Outcome) : Type 0 where
  pub beneath : List Ty
  pub variable : GlobalType
  pub found : slice_get f.globals n ≡ Some variable
  pub mutable : IsTrue variable.mutable
  pub taken : operands ≡ variable.ty ∷ beneath
  pub given : o ≡ gives [] beneath

pub record Branches (p : Point) (k : ℕ) (o : Outcome) : Type 0 where
  pub beneath : List Ty
  pub label : Label
  pub found : slice_get p.labels k ≡ Some label
  pub taken : p.operands ≡ label.types ++ beneath
  pub skipped : crossed p k beneath ≡ None
  pub same : first_difference p.locals label.locals ≡ None
  pub given : o ≡ Ends

pub record MayBranch (p : Point) (k : ℕ) (o : Outcome) : Type 0 where
  pub beneath : List Ty
  pub label : Label
  pub found : slice_get p.labels k ≡ Some label
  pub taken : p.operands ≡ unr_i32 ∷ (label.types ++ beneath)
  pub skipped : crossed p k beneath ≡ None
  pub same : first_difference p.locals label.locals ≡ None
  pub given : o ≡ gives label.types beneath

pub record Returns (p : Point) (o : Outcome) : Type 0 where
  pub beneath : List Ty
  pub taken : p.operands ≡ p.results ++ beneath
  pub skipped : crossed p (length p.labels) beneath ≡ None
  pub unrestricted : first_held (scope_of p.binders) p.locals ≡ None
  pub given : o ≡ Ends

-- the conditions of a signature
pub record IsSigned (f : Frame) (p : Point) (b : BlockSig) : Type 0 where
  pub named : IsTrue (are_named_once (length p.locals) b.locals)
  pub formed : first_ill_formed (scope_of p.binders) (b.params ++ b.results ++ local_types b.locals) ≡ None
  pub fit : first_too_large (scope_of p.binders) f.slots b.locals ≡ None

pub record EntersBlock (f : Frame) (p : Point) (b : BlockSig) (o : Outcome) : Type 0 where
  pub is_signed : IsSigned f p b
  pub beneath : List Ty
  pub taken : p.operands ≡ reverse b.params ++ beneath
  pub given : o ≡ Enters (entry p b (end_label p b beneath) beneath [])

pub record EntersLoop (f : Frame) (p : Point) (b : BlockSig) (o : Outcome) : Type 0 where
  pub is_signed : IsSigned f p b
  pub beneath : List Ty
  pub taken : p.operands ≡ reverse b.params ++ beneath
  pub given : o ≡ Enters (entry p b (start_label p b beneath) beneath [])

pub record EntersArms (f : Frame) (p : Point) (b : BlockSig) (o : Outcome) : Type 0 where
  pub is_signed : IsSigned f p b
  pub beneath : List Ty
  pub taken : p.operands ≡ unr_i32 ∷ (reverse b.params ++ beneath)
  pub given : o ≡ Enters (entry p b (end_label p b beneath) beneath [])

pub record EntersLocation (f : Frame) (p : Point) (b : BlockSig) (o : Outcome) : Type 0 where
  pub is_signed : IsSigned f p b
  pub beneath : List Ty
  pub qual : Qual
  pub memory : Mem
  pub body : Ty
  pub taken : p.operands ≡ Of qual (Hidden memory body) ∷ (reverse b.params ++ beneath)
  pub given : o ≡ Enters (entry_below p b (Loc memory) (end_label p b beneath) beneath body)

pub record EntersCases (f : Frame) (p : Point) (b : BlockSig) (lists : ℕ) (o : Outcome) : Type 0 where
  pub is_signed : IsSigned f p b
  pub beneath : List Ty
  pub first : Ty
  pub reference : Reference
  pub cases : List Ty
  pub taken : p.operands ≡ first ∷ (reverse b.params ++ beneath)
  pub form : IsReference (scope_of p.binders) first reference (Variant cases)
  pub privilege : reference.privilege ≡ Rw
  pub count : lists ≡ length cases
  pub given : o ≡ Enters (entry p b (end_label p b beneath) beneath (each_alone cases))

pub record EntersPackage (f : Frame) (p : Point) (b : BlockSig) (o : Outcome) : Type 0 where
  pub is_signed : IsSigned f p b
  pub beneath : List Ty
  pub first : Ty
  pub reference : Reference
  pub qual : Qual
  pub size : ℕ
  pub body : Ty
  pub taken : p.operands ≡ first ∷ (reverse b.params ++ beneath)
  pub form : IsReference (scope_of p.binders) first reference (Exist qual size body)
  pub privilege : reference.privilege ≡ Rw
  pub given : o ≡ Enters (entry_below p b (Kind qual size) (end_label p b beneath) beneath body)

pub record NamesFunction (f : Frame) (c : Scope) (n : ℕ) (operands : List Ty) (o : Outcome) : Type 0 where
  pub function : FunType
  pub found : slice_get f.functions n ≡ Some function
  pub formed : IsTrue (is_formed c (Of Unr (Code function)))
  pub given : o ≡ gives (Of Unr (Code function) ∷ []) operands

pub record Instantiates (c : Scope) (args : List Arg) (operands : List Ty) (o : Outcome) : Type 0 where
  pub beneath : List Ty
  pub qual : Qual
  pub function : FunType
  pub locations : IsTrue (are_locations c args)
  pub written : first_ill_formed c (argument_types args) ≡ None
  pub taken : operands ≡ Of qual (Code function) ∷ beneath
  pub unrestricted : IsTrue (is_unr qual)
  pub answered : IsTrue (answer_all c function.binders args)
  pub formed : IsTrue (is_formed c (Of Unr (Code (instantiated function args))))
  pub given : o ≡ gives (Of Unr (Code (instantiated function args)) ∷ []) beneath

pub record Calls (f : Frame) (c : Scope) (n : ℕ) (args : List Arg) (operands : List Ty) (o : Outcome) : Type 0 where
  pub beneath : List Ty
  pub function : FunType
  pub found : slice_get f.functions n ≡ Some function
  pub locations : IsTrue (are_locations c args)
  pub written : first_ill_formed c (argument_types args) ≡ None
  pub answered : IsTrue (answer_all c function.binders args)
  pub taken : operands ≡ reverse (instances args function.params) ++ beneath
  pub formed : first_ill_formed c (instances args function.results) ≡ None
  pub given : o ≡ gives (reverse (instances args function.results)) beneath

pub record CallsTop (operands : List Ty) (o : Outcome) : Type 0 where
  pub beneath : List Ty
  pub qual : Qual
  pub function : FunType
  pub unrestricted : IsTrue (is_unr qual)
  pub unbound : function.binders ≡ []
  pub taken : operands ≡ Of qual (Code function) ∷ (reverse function.params ++ beneath)
  pub given : o ≡ gives (reverse function.results) beneath

pub record HidesLocation (c : Scope) (l : ℕ) (t : Ty) (operands : List Ty) (o : Outcome) : Type 0 where
  pub beneath : List Ty
  pub memory : Mem
  pub found : memory_of c l ≡ Some memory
  pub written : IsTrue (is_formed (with_location memory c) t)
  pub taken : operands ≡ instance t (to_location l ∷ []) ∷ beneath
  pub given : o ≡ gives (Of (qual_under (with_location memory c) t) (Hidden memory t) ∷ []) beneath

-- each row but those on cells and rights
pub record BodyRowsInverted : Type 0 where
  pub from_to : (demanded given operands : List Ty) (o : Outcome) → from_to demanded given operands ≡ o → Goes o → TakesThese demanded given operands o
  pub drop : (c : Scope) (operands : List Ty) (o : Outcome) → drop_row c operands ≡ o → Goes o → Drops c operands o
  pub qualify : (operands : List Ty) (o : Outcome) → qualify_row operands ≡ o → Goes o → Qualifies operands o
  pub rec_fold : (c : Scope) (t : Ty) (operands : List Ty) (o : Outcome) → fold_row c t operands ≡ o → Goes o → Folds c t operands o
  pub rec_unfold : (operands : List Ty) (o : Outcome) → unfold_row operands ≡ o → Goes o → Unfolds operands o
  pub group : (c : Scope) (n : ℕ) (q : Qual) (operands : List Ty) (o : Outcome) → group_row c n q operands ≡ o → Goes o → Groups c n q operands o
  pub ungroup : (operands : List Ty) (o : Outcome) → ungroup_row operands ≡ o → Goes o → Ungroups operands o
  pub local_get : (c : Scope) (locals : List Ty) (n : ℕ) (operands : List Ty) (o : Outcome) → local_get_row c locals n operands ≡ o → Goes o → GetsLocal c locals n operands o
  pub local_take : (c : Scope) (locals : List Ty) (n : ℕ) (operands : List Ty) (o : Outcome) → local_take_row c locals n operands ≡ o → Goes o → TakesLocal c locals n operands o
  pub local_set : (c : Scope) (slots : List ℕ) (locals : List Ty) (n : ℕ) (operands : List Ty) (o : Outcome) → local_set_row c slots locals n operands ≡ o → Goes o → SetsLocal c slots locals n operands o
  pub global_get : (f : Frame) (c : Scope) (n : ℕ) (operands : List Ty) (o : Outcome) → global_get_row f c n operands ≡ o → Goes o → GetsGlobal f c n operands o
  pub global_set : (f : Frame) (n : ℕ) (operands : List Ty) (o : Outcome) → global_set_row f n operands ≡ o → Goes o → SetsGlobal f n operands o
  pub br : (p : Point) (k : ℕ) (o : Outcome) → br_row p k ≡ o → Goes o → Branches p k o
  pub br_if : (p : Point) (k : ℕ) (o : Outcome) → br_if_row p k ≡ o → Goes o → MayBranch p k o
  pub returns : (p : Point) (o : Outcome) → return_row p ≡ o → Goes o → Returns p o
  pub block : (f : Frame) (p : Point) (b : BlockSig) (o : Outcome) → block_row f p b ≡ o → Goes o → EntersBlock f p b o
  pub loops : (f : Frame) (p : Point) (b : BlockSig) (o : Outcome) → loop_row f p b ≡ o → Goes o → EntersLoop f p b o
  pub arms : (f : Frame) (p : Point) (b : BlockSig) (o : Outcome) → if_row f p b ≡ o → Goes o → EntersArms f p b o
  pub mem_unpack : (f : Frame) (p : Point) (b : BlockSig) (o : Outcome) → mem_unpack_row f p b ≡ o → Goes o → EntersLocation f p b o
  pub variant_case : (f : Frame) (p : Point) (b : BlockSig) (lists : ℕ) (o : Outcome) → variant_case_row f p b lists ≡ o → Goes o → EntersCases f p b lists o
  pub exist_unpack : (f : Frame) (p : Point) (b : BlockSig) (o : Outcome) → exist_unpack_row f p b ≡ o → Goes o → EntersPackage f p b o
  pub coderef : (f : Frame) (c : Scope) (n : ℕ) (operands : List Ty) (o : Outcome) → coderef_row f c n operands ≡ o → Goes o → NamesFunction f c n operands o
  pub inst : (c : Scope) (args : List Arg) (operands : List Ty) (o : Outcome) → inst_row c args operands ≡ o → Goes o → Instantiates c args operands o
  pub call : (f : Frame) (c : Scope) (n : ℕ) (args : List Arg) (operands : List Ty) (o : Outcome) → call_row f c n args operands ≡ o → Goes o → Calls f c n args operands o
  pub call_indirect : (operands : List Ty) (o : Outcome) → call_indirect_row operands ≡ o → Goes o → CallsTop operands o
  pub mem_pack : (c : Scope) (l : ℕ) (t : Ty) (operands : List Ty) (o : Outcome) → mem_pack_row c l t operands ≡ o → Goes o → HidesLocation c l t operands o
