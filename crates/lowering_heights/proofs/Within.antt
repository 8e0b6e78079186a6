-- Each point of a list has its words within the room of the list: by induction on where it stands.
use Rattle.std.proofs.Common.{◌≡◌, ◌∙◌, ℕ, zero, suc, ◌+◌, ◌≤◌, List, [], ◌∷◌, ◌++◌, Bool, true, false, Option, Some, length, reverse, refl, ap, sym, subst, arith}
use Rattle.std.specs.Prelude.{slice_get, if◌then◌else◌}
use Rattle.std.proofs.Math.Path.{subst⁻¹}
use Rattle.rw_types.specs.declared.instrs.BlockSig.{BlockSig}
use Rattle.rw_types.specs.declared.instrs.Instr.{Instr, Block', Loop', If', MemUnpack', VariantCase', ExistUnpack'}
use Rattle.rw_types.specs.declared.types.Binder.{Binder}
use Rattle.rw_types.specs.declared.types.Binder.TheVariants.{Kind, Loc}
use Rattle.rw_types.specs.declared.types.Ty.{Ty}
use Rattle.rich_types.specs.Scopes.{Scope, no_scope, scope_of}
use Rattle.rich_types.specs.Sizes.{list_size}
use Rattle.rich_typing.specs.declared.notes.Note.{Note}
use Rattle.rich_rules.specs.Blocks.{each_alone, end_label, entry, entry_below, start_label}
use Rattle.rich_rules.specs.Points.{Change, Demand, Enters, Entry, Frame, Gives, Label, Outcome, Point, after, moved, start}
use Rattle.rich_rules.specs.Raised.{below_one, raise_all, raise_labels}
use Rattle.rich_rules.specs.Table.{arms_of, lists_of, note_of, rest_size, row}
use Rattle.rich_rules.specs.Derivations.{Derives, DerivesArms, Follows, arm, at_end, enters, goes_on, step}
use Rattle.rich_rules_inversions.proofs.Bodies.{rows}
use Rattle.rich_rules_formed.specs.Formed.{AreFormed, IsFormedOutcome, IsFormedPoint}
use Rattle.rich_rules_formed.specs.Standing.{Stands, beyond, here, inside, later}
use Rattle.rich_rules_formed.proofs.Lists.{back, front, within_last}
use Rattle.rich_rules_formed.proofs.Rows.{row_formed}
use Rattle.layout.specs.Bodies.{ends_list, nested, text_order}
use Rattle.layout.specs.Frames.{greatest_height}
use Rattle.lowering_heights.specs.Heights.{end_height, height_at}
use Rattle.lowering_heights.specs.Laws.{PointsAreWithin}
use Rattle.lowering_heights.proofs.Sizes.{rest-raised, size-append, size-raised}
use Rattle.lowering_heights.proofs.Ends.{end_operands, goes_further}
use Rattle.lowering_heights.proofs.Counted.{at_least, counted, counted_arms, heights_end, heights_parted, nested_texts, note_tells, texts}

-- the words at the end of a list that an entry opens
abbrev pub inner_end : Entry → ℕ
inner_end e = list_size (scope_of e.inner.binders) e.demand.types + rest_size (scope_of e.inner.binders) e.inner.labels

-- they are those behind the instruction
abbrev pub EndsAlike : Point → Entry → Type 0
EndsAlike p e = inner_end e ≡ height_at (after e p)

plain_entry : (p : Point) (b : BlockSig) (l : Label) (beneath : List Ty) (payloads : List (List Ty)) → l.rest ≡ beneath → EndsAlike p (entry p b l beneath payloads)
plain_entry p b l beneath payloads same =
    let c = scope_of p.binders in
    omega (arith, size-append c (reverse b.results) beneath, ap (λ (ts : List Ty). list_size c ts) same)

entry_of_binder : (p : Point) (b : BlockSig) (binder : Binder) (beneath : List Ty) (t : Ty) → IsFormedPoint p → AreFormed (scope_of p.binders) (reverse b.results ++ beneath) →
    EndsAlike p (entry_below p b binder (end_label p b beneath) beneath t)
entry_of_binder p b binder beneath t w v =
    let c = scope_of p.binders in
    subst⁻¹ (λ (d : Scope). list_size d (raise_all (below_one binder) (reverse b.results)) + (list_size d (raise_all (below_one binder) beneath) + rest_size d (raise_labels (below_one binder) p.labels)) ≡ list_size c (reverse b.results ++ beneath) + rest_size c p.labels)
    (within_last p.binders binder no_scope)
    (omega (
      arith,
      size-raised c binder (reverse b.results) (front c (reverse b.results) beneath v),
      size-raised c binder beneath (back c (reverse b.results) beneath v),
      rest-raised c binder p.labels w.labels,
      size-append c (reverse b.results) beneath,
    ))

same_entry : (e g : Entry) → Enters e ≡ Enters g → e ≡ g
same_entry e g x = cc

module _ (f : Frame) (p : Point) (w : IsFormedPoint p) where
  of_entry : (e g : Entry) → Enters e ≡ Enters g → EndsAlike p g → EndsAlike p e
  of_entry e g x h = subst⁻¹ (EndsAlike p) (same_entry e g x) h

  of_binder : (e : Entry) (b : BlockSig) (binder : Binder) (beneath : List Ty) (t : Ty) → IsFormedPoint (after e p) → Enters e ≡ Enters (entry_below p b binder (end_label p b beneath) beneath t) → EndsAlike p e
  of_binder e b binder beneath t v x =
      let g = entry_below p b binder (end_label p b beneath) beneath t in
      let formed = subst (λ (h : Entry). AreFormed (scope_of p.binders) h.operands) (same_entry e g x) v.operands in
      of_entry e g x (entry_of_binder p b binder beneath t w formed)

  pub ends_alike : (i : Instr) (e : Entry) (j : ℕ) (list : List Instr) → row f p i ≡ Enters e → slice_get (arms_of i) j ≡ Some list → IsFormedPoint (after e p) → EndsAlike p e
  unfolding row
  ends_alike (Block' b m is) e j list r g v = let x = rows.block f p b (Enters e) r tt in of_entry e _ x.given (plain_entry p b (end_label p b x.beneath) x.beneath [] refl)
  ends_alike (Loop' b m is) e j list r g v = let x = rows.loops f p b (Enters e) r tt in of_entry e _ x.given (plain_entry p b (start_label p b x.beneath) x.beneath [] refl)
  ends_alike (If' b m is n js) e j list r g v = let x = rows.arms f p b (Enters e) r tt in of_entry e _ x.given (plain_entry p b (end_label p b x.beneath) x.beneath [] refl)
  ends_alike (MemUnpack' b m is) e j list r g v = let x = rows.mem_unpack f p b (Enters e) r tt in of_binder e b (Loc x.memory) x.beneath x.body v x.given
  ends_alike (VariantCase' b m arms) e j list r g v =
      let x = rows.variant_case f p b (length (lists_of arms)) (Enters e) r tt in of_entry e _ x.given (plain_entry p b (end_label p b x.beneath) x.beneath (each_alone x.cases) refl)
  ends_alike (ExistUnpack' b m is) e j list r g v = let x = rows.exist_unpack f p b (Enters e) r tt in of_binder e b (Kind x.qual x.size) x.beneath x.body v x.given
  ends_alike _ e j list r g v = cc

-- the end of a list behind an instruction that goes on
pub end_behind : (i : Instr) (is : List Instr) (d : Demand) (p : Point) → ends_list i ≡ false → end_height (i ∷ is) d p ≡ end_height is d p
end_behind i [] d p e = ap (λ (b : Bool). if b then 0 else list_size (scope_of p.binders) d.types + rest_size (scope_of p.binders) p.labels) e
end_behind i (j ∷ is) d p e = refl

-- a list that is ended needs no more than one that is not
pub end_within : (is : List Instr) (d : Demand) (p : Point) (room : ℕ) → list_size (scope_of p.binders) d.types + rest_size (scope_of p.binders) p.labels ≤ room → end_height is d p ≤ room
end_within is d p room h = by_test (Rattle.layout.specs.Bodies.is_ended is)
  where
    by_test : (b : Bool) → (if b then 0 else list_size (scope_of p.binders) d.types + rest_size (scope_of p.binders) p.labels) ≤ room
    by_test true = omega arith
    by_test false = h

module _ (f : Frame) where
  -- a list has this room
  abbrev pub HasRoom : ℕ → Demand → Point → List Instr → List Note → Type 0
  HasRoom room d p is notes = greatest_height (text_order is) notes (end_height is d p) ≤ room

  pub first : {d : Demand} {p : Point} (is : List Instr) {notes : List Note} (room : ℕ) → Derives f d p is notes → HasRoom room d p is notes → height_at p ≤ room
  first {d} {p} [] {notes} room (at_end e nn) h = omega (arith, h, ap (λ (ts : List Ty). list_size (scope_of p.binders) ts) (end_operands d p e))
  first {d} {p} (i ∷ is) room (step o ns r nn x) h =
      let g = subst (λ (l : List Note). HasRoom room d p (i ∷ is) l) nn h in
      omega (arith, g, at_least i (note_of f p i), note_tells f p i)

  -- what is left of the room for the lists of an instruction, and for those behind it
  pub parted : (d : Demand) (p : Point) (i : Instr) (is : List Instr) (note : Note) (inner outer : List Note) (room : ℕ) → length inner ≡ length (nested i) → ends_list i ≡ false → HasRoom room d p (i ∷ is) (note ∷ (inner ++ outer)) →
      (greatest_height (nested i) inner 0 ≤ room) × HasRoom room d p is outer
  parted d p i is note inner outer room l e h =
      let both = heights_parted (nested i) (text_order is) inner outer (end_height (i ∷ is) d p) l in
      let behind = ap (λ (n : ℕ). greatest_height (text_order is) outer n) (end_behind i is d p e) in
      (omega (arith, h, both), omega (arith, h, both, behind))

  after_gives : {d : Demand} {p : Point} {i : Instr} {is : List Instr} {operands : List Ty} {change : Option Change} {notes : List Note} → Follows f d p i is (Gives operands change) notes → Derives f d (moved p operands change) is notes
  after_gives (goes_on x) = x

  -- of the list with this number: its notes, and their room
  abbrev OfArm : ℕ → Entry → ℕ → List Instr → Type 0
  OfArm room e j is = (notes : List Note) × Derives f e.demand (start e j) is notes × (greatest_height (text_order is) notes 0 ≤ room)

  of_arms : {e : Entry} {j : ℕ} (arms : List (List Instr)) {notes : List Note} (room k : ℕ) (list : List Instr) → DerivesArms f e j arms notes → greatest_height (texts arms) notes 0 ≤ room → slice_get arms k ≡ Some list →
      (m : ℕ) × (m ≡ j + k) × OfArm room e m list
  of_arms [] room k list x h g = cc
  of_arms {e} {j} (is ∷ arms) room zero list (arm inner outer nn x xs) h g =
      let same : is ≡ list = cc in
      let here : j ≡ j + 0 = omega arith in
      let all = subst (λ (l : List Note). greatest_height (texts (is ∷ arms)) l 0 ≤ room) nn h in
      let both = heights_parted (text_order is) (texts arms) inner outer 0 (counted f is x) in
      let own : OfArm room e j is = (inner, x, omega (arith, all, both)) in
      (j, here, subst (OfArm room e j) same own)
  of_arms {e} {j} (is ∷ arms) room (suc k) list (arm inner outer nn x xs) h g =
      let all = subst (λ (l : List Note). greatest_height (texts (is ∷ arms)) l 0 ≤ room) nn h in
      let both = heights_parted (text_order is) (texts arms) inner outer 0 (counted f is x) in
      let y = of_arms arms room k list xs (omega (arith, all, both)) g in
      let one_more : y.0 ≡ j + suc k = omega (arith, y.1) in
      (y.0, one_more, y.2)

  abbrev Entered : Demand → Point → Instr → List Instr → Entry → List Note → Type 0
  Entered d p i is e notes = (inner : List Note) × (outer : List Note) × (notes ≡ inner ++ outer) × DerivesArms f e 0 (arms_of i) inner × Derives f d (after e p) is outer

  after_enters : {d : Demand} {p : Point} {i : Instr} {is : List Instr} {e : Entry} {notes : List Note} → Follows f d p i is (Enters e) notes → Entered d p i is e notes
  after_enters (enters inner outer nn arms x) = (inner, outer, nn, arms, x)

  pub stays_within : {p q : Point} (is : List Instr) (d : Demand) {notes : List Note} (room : ℕ) → IsFormedPoint p → Derives f d p is notes → HasRoom room d p is notes → Stands f p is q → height_at q ≤ room
  stays_within is d room w x h (here e) = subst⁻¹ (λ (z : Point). height_at z ≤ room) e (first is room x h)
  stays_within {p} (i ∷ is) d room w (step o ns r nn x) h (later operands change e s) =
      let go = subst (λ (z : Outcome). Follows f d p i is z ns) (sym r ∙ e) x in
      let none = Rattle.lowering_heights.proofs.Ends.no_lists (Gives operands change) tt f p i e tt in
      let l : 0 ≡ length (nested i) = sym (ap (λ (l : List Instr). length l) none) in
      let all = subst (λ (l : List Note). HasRoom room d p (i ∷ is) l) nn h in
      let y = parted d p i is (note_of f p i) [] ns room l (goes_further (Gives operands change) tt f p i e tt) all in
      stays_within is d room (subst (IsFormedOutcome p) e (row_formed f p w i)) (after_gives go) y.1 s
  stays_within {p} (i ∷ is) d room w (step o ns r nn x) h (inside en j list e g s) =
      let go = after_enters (subst (λ (z : Outcome). Follows f d p i is z ns) (sym r ∙ e) x) in
      let formed = subst (IsFormedOutcome p) e (row_formed f p w i) in
      let lists = ap (λ (l : List Instr). length l) (nested_texts i) in
      let l : length go.0 ≡ length (nested i) = omega (arith, counted_arms f (arms_of i) go.3, lists) in
      let all = subst (λ (l : List Note). HasRoom room d p (i ∷ is) l) (nn ∙ ap (λ (l : List Note). note_of f p i ∷ l) go.2) h in
      let y = parted d p i is (note_of f p i) go.0 go.1 room l (goes_further (Enters en) tt f p i e tt) all in
      let inner = subst (λ (l : List Instr). greatest_height l go.0 0 ≤ room) (nested_texts i) y.0 in
      let a = of_arms (arms_of i) room j list go.3 inner g in
      let number : a.0 ≡ j = omega (arith, a.1) in
      let own = subst (λ (m : ℕ). OfArm room en m list) number a.2 in
      let outer = first is room go.4 y.1 in
      let end = end_within list en.demand (start en j) room (omega (arith, outer, ends_alike f p w i en j list e g formed.1)) in
      stays_within list en.demand {notes = own.0} room (formed.0 j) own.1 (heights_end (text_order list) own.0 (end_height list en.demand (start en j)) room own.2 end) s
  stays_within {p} (i ∷ is) d room w (step o ns r nn x) h (beyond en e s) =
      let go = after_enters (subst (λ (z : Outcome). Follows f d p i is z ns) (sym r ∙ e) x) in
      let formed = subst (IsFormedOutcome p) e (row_formed f p w i) in
      let lists = ap (λ (l : List Instr). length l) (nested_texts i) in
      let l : length go.0 ≡ length (nested i) = omega (arith, counted_arms f (arms_of i) go.3, lists) in
      let all = subst (λ (l : List Note). HasRoom room d p (i ∷ is) l) (nn ∙ ap (λ (l : List Note). note_of f p i ∷ l) go.2) h in
      let y = parted d p i is (note_of f p i) go.0 go.1 room l (goes_further (Enters en) tt f p i e tt) all in
      stays_within is d room formed.1 go.4 y.1 s

pub points_within : PointsAreWithin
points_within f d p is notes q w x s = stays_within f is d (greatest_height (text_order is) notes (end_height is d p)) w x (omega arith) s
