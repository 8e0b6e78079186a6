-- The code of a list that has a derivation is typed: by induction on the derivation.
use Rattle.std.proofs.Common.{◌≡◌, ◌∙◌, ◌≤◌, ℕ, suc, ◌+◌, List, [], ◌∷◌, ◌++◌, Option, None, Some, length, reverse, refl, ap, sym, subst, arith}
use Rattle.std.specs.Prelude.{drop, slice_get, ⊤}
use Rattle.std.proofs.Math.Path.{subst⁻¹}
use Rattle.std.proofs.lemmas.List.{length-reverse}
use Rattle.wasm_ast.specs.declared.instructions.WInstr as w
use Rattle.wasm_typing.specs.declared.context.Context.{Context}
use Rattle.wasm_typing.specs.Typing.{AreTyped, Labels}
use Rattle.rw_types.specs.declared.instrs.BlockSig.{BlockSig}
use Rattle.rw_types.specs.declared.instrs.Instr.{Instr, Block', Loop', If', MemUnpack', VariantCase', ExistUnpack', Row_of-Instr, items-the_row-Instr}
use Rattle.rw_types.specs.declared.types.Ty.{Ty}
use Rattle.rich_types.specs.Scopes.{scope_of}
use Rattle.rich_types.specs.Sizes.{list_size}
use Rattle.rich_typing.specs.declared.notes.Note.{Note}
use Rattle.rich_rules.specs.Derivations.{Derives, DerivesArms, Follows, arm, at_end, ends, enters, goes_on, no_arm, step}
use Rattle.rich_rules.specs.Points.{Change, Demand, Ends, Enters, Entry, Frame, Gives, OfFunction, Outcome, Point, after, moved, start}
use Rattle.rich_rules.specs.Table.{arms_of, lists_of, note_of, row, takes}
use Rattle.rich_rules.specs.Takers.{unr_i32}
use Rattle.rich_rules_inversions.specs.Cells.{Goes}
use Rattle.rich_rules_inversions.proofs.Bodies as inverted
use Rattle.rich_rules_formed.specs.Formed.{IsFormedOutcome}
use Rattle.rich_rules_formed.proofs.Rows.{row_formed}
use Rattle.layout.specs.Bodies.{nested, nested_count, row_count, text_order}
use Rattle.layout.specs.Frames.{greatest_height}
use Rattle.lowering_rows.specs.Labels.{Label}
use Rattle.lowering_rows.specs.Surroundings.{Surroundings}
use Rattle.lowering_rows.specs.Taken.{top_height}
use Rattle.lowering_rows.specs.Rows as code
use Rattle.lowering_heights.specs.Heights.{end_height, height_at}
use Rattle.lowering_heights.proofs.Counted.{counted, counted_arms, heights_end, heights_parted, nested_texts, note_tells, texts}
use Rattle.lowering_heights.proofs.Ends.{EntersNone, goes_further, no_lists}
use Rattle.lowering_heights.proofs.Within.{HasRoom, end_within, ends_alike, first, inner_end, parted}
use Rattle.lowering_locals.specs.Fitting.{OutcomeFits}
use Rattle.lowering_locals.proofs.Rows.{row_fits}
use Rattle.lowering_rows_typed.specs.Contexts.{HasWhatIsNamed}
use Rattle.lowering_rows_typed.specs.Lists.{AreListsTyped}
use Rattle.lowering_rows_typed.specs.Names as names
use Rattle.lowering_rows_typed.proofs.Lists.{all_rows}
use Rattle.lowering_rows_typed.proofs.Steps.{joined, stop}
use Rattle.lowering_names.specs.Placed.{HasFormedTypes, IsPlaced, IsWithoutCells, StandsIn}
use Rattle.lowering_names.proofs.Names.{names_follow}
use Rattle.lowering_names.proofs.Notes.{under_are, words_are}
use Rattle.lowering_bodies_typed.specs.Allowed.{AreAllowed}
use Rattle.lowering_bodies_typed.specs.Laws.{ListsTyped}
use Rattle.lowering_rows_laws.proofs.Lists.{row_counted}
use Rattle.lowering_bodies_typed.proofs.Alone.{behind, nested_counted, own_code}
use Rattle.lowering_bodies_typed.proofs.Entered.{HasLists, begins, inner_labels}

allowed_parted : (s : Surroundings) (C : Context) (xs ys : List Instr) (ns ms : List Note) → length ns ≡ length xs → AreAllowed s C (xs ++ ys) (ns ++ ms) → AreAllowed s C xs ns × AreAllowed s C ys ms
allowed_parted s C [] ys [] ms e h = (tt, h)
allowed_parted s C [] ys (n ∷ ns) ms e h = absurd (omega (arith, e))
allowed_parted s C (x ∷ xs) ys [] ms e h = absurd (omega (arith, e))
allowed_parted s C (x ∷ xs) ys (n ∷ ns) ms e h = let y = allowed_parted s C xs ys ns ms (omega (arith, e)) h.1 in ((h.0, y.0), y.1)

joined_again : {A : Type 0} (xs ys zs : List A) → (xs ++ ys) ++ zs ≡ xs ++ (ys ++ zs)
joined_again [] ys zs = refl
joined_again (x ∷ xs) ys zs = ap (λ l. x ∷ l) (joined_again xs ys zs)

module _ (s : Surroundings) (f : Frame) (room : ℕ) (C : Context) (types : HasFormedTypes s.program) (stands : StandsIn s f room) (has : HasWhatIsNamed s C) (result : f.owner ≡ OfFunction → C.result ≡ None) where
  -- lists, each with its own notes, are typed within a label
  abbrev ArmsTyped : Labels → List Label → List (List Instr) → List Note → Type 0
  ArmsTyped ls labels [] notes = ⊤
  ArmsTyped ls labels (is ∷ arms) notes =
      (inner : List Note) × (outer : List Note) × (notes ≡ inner ++ outer) × (length inner ≡ length (text_order is)) × AreTyped C ls (code.rows s labels is inner) [] [] × ArmsTyped ls labels arms outer

  -- one list of an instruction, whose notes stand in front
  of_list : {n : _} (ls : Labels) (labels : List Label) (is : Row_of-Instr n) (inner outer later : List Note) → later ≡ inner ++ outer → length inner ≡ length (text_order (items-the_row-Instr _ is)) →
      AreTyped C ls (code.rows s labels (items-the_row-Instr _ is) inner) [] [] → AreTyped C ls (code.row_code s labels is later) [] []
  of_list ls labels is inner outer later e l t =
      subst⁻¹ (λ (notes : List Note). AreTyped C ls (code.row_code s labels is notes) [] []) e
      (subst⁻¹ (λ (ws : List w.WInstr). AreTyped C ls ws [] []) (own_code s labels is inner outer l) t)

  module _ (ls : Labels) (labels : List Label) (p : Point) (placed : IsPlaced s f room ls labels p) where
    -- an instruction that enters no list has none
    no_lists_typed : (i : Instr) (o : Outcome) (note : Note) (later : List Note) → row f p i ≡ o → EntersNone o → Goes o → AreListsTyped s C ls labels i note later
    unfolding row
    no_lists_typed (Block' b m is) o note later r h go = absurd (subst EntersNone (inverted.rows.block f p b o r go).given h)
    no_lists_typed (Loop' b m is) o note later r h go = absurd (subst EntersNone (inverted.rows.loops f p b o r go).given h)
    no_lists_typed (If' b m is n js) o note later r h go = absurd (subst EntersNone (inverted.rows.arms f p b o r go).given h)
    no_lists_typed (MemUnpack' b m is) o note later r h go = absurd (subst EntersNone (inverted.rows.mem_unpack f p b o r go).given h)
    no_lists_typed (VariantCase' b m arms) o note later r h go = absurd (subst EntersNone (inverted.rows.variant_case f p b (length (lists_of arms)) o r go).given h)
    no_lists_typed (ExistUnpack' b m is) o note later r h go = absurd (subst EntersNone (inverted.rows.exist_unpack f p b o r go).given h)
    no_lists_typed _ o note later r h go = tt

    -- a condition stands within the room
    condition_room : (i : Instr) (b : BlockSig) (beneath : List Ty) → takes f p i ≡ length b.params + 1 → p.operands ≡ unr_i32 ∷ (reverse b.params ++ beneath) → names.HasRoom s (suc (top_height (note_of f p i)))
    condition_room i b beneath counts taken =
        let params = reverse b.params in
        let count : takes f p i ≡ suc (length params) = omega (arith, counts, length-reverse b.params) in
        let one : list_size (scope_of p.binders) (unr_i32 ∷ params) ≡ 1 + list_size (scope_of p.binders) params = refl in
        omega (arith, note_tells f p i, placed.height, stands.scratch, under_are f p i unr_i32 params beneath count taken, words_are f p i (unr_i32 ∷ params) beneath count taken, one)

    -- an instruction that enters lists has those that are typed
    lists_typed_of : (i : Instr) (e : Entry) (inner outer later : List Note) → row f p i ≡ Enters e → IsWithoutCells i → later ≡ inner ++ outer → ArmsTyped (None ∷ ls) (inner_labels s f room ls labels p placed i) (arms_of i) inner →
        AreListsTyped s C ls labels i (note_of f p i) later
    unfolding row takes
    lists_typed_of (Block' b m is) e inner outer later r h g t = of_list (None ∷ ls) _ is t.0 (t.1 ++ outer) later (g ∙ ap (λ (l : List Note). l ++ outer) t.2 ∙ joined_again t.0 t.1 outer) t.3 t.4
    lists_typed_of (Loop' b m is) e inner outer later r h g t = of_list (None ∷ ls) _ is t.0 (t.1 ++ outer) later (g ∙ ap (λ (l : List Note). l ++ outer) t.2 ∙ joined_again t.0 t.1 outer) t.3 t.4
    lists_typed_of (If' b m is n js) e inner outer later r h g t =
        let all : later ≡ t.0 ++ (t.1 ++ outer) = g ∙ ap (λ (l : List Note). l ++ outer) t.2 ∙ joined_again t.0 t.1 outer in
        let rest : drop (row_count is) later ≡ t.5.0 ++ (t.5.1 ++ outer) =
        ap (λ (l : List Note). drop (row_count is) l) all ∙ behind (row_count is) t.0 (t.1 ++ outer) (row_counted is ∙ sym t.3) ∙ ap (λ (l : List Note). l ++ outer) t.5.2 ∙ joined_again t.5.0 t.5.1 outer in
        let x = inverted.rows.arms f p b (Enters e) r tt in
        (condition_room (If' b m is n js) b x.beneath refl x.taken, of_list (None ∷ ls) _ is t.0 (t.1 ++ outer) later all t.3 t.4, of_list (None ∷ ls) _ js t.5.0 (t.5.1 ++ outer) (drop (row_count is) later) rest t.5.3 t.5.4)
    lists_typed_of (MemUnpack' b m is) e inner outer later r h g t = of_list (None ∷ ls) _ is t.0 (t.1 ++ outer) later (g ∙ ap (λ (l : List Note). l ++ outer) t.2 ∙ joined_again t.0 t.1 outer) t.3 t.4
    lists_typed_of (VariantCase' b m arms) e inner outer later r h g t = absurd h
    lists_typed_of (ExistUnpack' b m is) e inner outer later r h g t = absurd h
    lists_typed_of _ e inner outer later r h g t = tt

    -- the point after an instruction is placed
    pub moved_placed : (i : Instr) (operands : List Ty) (change : Option Change) → row f p i ≡ Gives operands change → height_at (moved p operands change) ≤ room → IsPlaced s f room ls labels (moved p operands change)
    moved_placed i operands change r h = record {
      formed = subst (IsFormedOutcome p) r (row_formed f p placed.formed i);
      locals = subst (OutcomeFits f.slots p) r (row_fits f p placed.formed placed.locals i);
      lowered = placed.lowered;
      results = placed.results;
      height = h;
    }

    pub after_placed : (i : Instr) (e : Entry) → row f p i ≡ Enters e → height_at (after e p) ≤ room → IsPlaced s f room ls labels (after e p)
    after_placed i e r h = record {
      formed = (subst (IsFormedOutcome p) r (row_formed f p placed.formed i)).1;
      locals = (subst (OutcomeFits f.slots p) r (row_fits f p placed.formed placed.locals i)).1;
      lowered = placed.lowered;
      results = placed.results;
      height = h;
    }

    -- what is known of the lists of an instruction
    abbrev Known : Instr → Entry → Type 0
    Known i e = ((j : ℕ) → height_at (start e j) ≤ room → IsPlaced s f room (None ∷ ls) (inner_labels s f room ls labels p placed i) (start e j)) × (inner_end e ≤ room)

    has_lists : (i : Instr) (k : ℕ) (list : List Instr) → slice_get (arms_of i) k ≡ Some list → HasLists i
    has_lists (Block' b m is) k list g = tt
    has_lists (Loop' b m is) k list g = tt
    has_lists (If' b m is n js) k list g = tt
    has_lists (MemUnpack' b m is) k list g = tt
    has_lists (VariantCase' b m arms) k list g = tt
    has_lists (ExistUnpack' b m is) k list g = tt
    has_lists _ k list g = cc

    known : (i : Instr) (e : Entry) → row f p i ≡ Enters e → IsWithoutCells i → height_at (after e p) ≤ room → (k : ℕ) (list : List Instr) → slice_get (arms_of i) k ≡ Some list → Known i e
    known i e r h height k list g =
        let formed = subst (IsFormedOutcome p) r (row_formed f p placed.formed i) in
        let fits = subst (OutcomeFits f.slots p) r (row_fits f p placed.formed placed.locals i) in
        let x = begins s f room ls labels p placed i e r formed.0 h (has_lists i k list g) in
        (λ j few. record { formed = formed.0 j; locals = fits.0 j; lowered = x.lowered; results = x.results; height = few }, omega (arith, ends_alike f p placed.formed i e k list r g formed.1, height))

  mutual
    typed_list : {d : Demand} {p : Point} (is : List Instr) {notes : List Note} (ls : Labels) (labels : List Label) → IsPlaced s f room ls labels p → Derives f d p is notes → HasRoom f room d p is notes → AreAllowed s C (text_order is) notes →
        AreTyped C ls (code.rows s labels is notes) [] []
    typed_list [] ls labels placed (at_end e nn) h a = stop C ls []
    typed_list {d} {p} (i ∷ is) {notes} ls labels placed (step o later r nn x) h a =
        let room_left = subst (λ (l : List Note). HasRoom f room d p (i ∷ is) l) nn h in
        let allowed = subst (λ (l : List Note). AreAllowed s C (text_order (i ∷ is)) l) nn a in
        subst⁻¹ (λ (l : List Note). AreTyped C ls (code.rows s labels (i ∷ is) l) [] []) nn (typed_step i is ls labels placed r x room_left allowed)

    typed_step : {d : Demand} {p : Point} (i : Instr) (is : List Instr) {o : Outcome} {later : List Note} (ls : Labels) (labels : List Label) → IsPlaced s f room ls labels p → row f p i ≡ o → Follows f d p i is o later →
        HasRoom f room d p (i ∷ is) (note_of f p i ∷ later) → AreAllowed s C (text_order (i ∷ is)) (note_of f p i ∷ later) →
        AreTyped C ls (code.row s labels i (note_of f p i) later ++ code.rows s labels is (drop (nested_count i) later)) [] []
    typed_step {d} {p} i is {o} {later} ls labels placed r (ends e nn) h a =
        let names = names_follow s f room C ls labels p i Ends types stands result placed r tt tt a.0.0 a.0.1 in
        let own = all_rows s C ls labels i (note_of f p i) later [] has names (no_lists_typed ls labels p placed i Ends (note_of f p i) later r tt tt) (λ x. refl) in
        joined C ls own (subst⁻¹ (λ (l : List Instr). AreTyped C ls (code.rows s labels l (drop (nested_count i) later)) [] []) e (stop C ls []))
    typed_step {d} {p} i is {o} {later} ls labels placed r (goes_on {operands = operands} {change = change} x) h a =
        let none = no_lists (Gives operands change) tt f p i r tt in
        let count : 0 ≡ length (nested i) = sym (ap (λ (l : List Instr). length l) none) in
        let left' = parted f d p i is (note_of f p i) [] later room count (goes_further (Gives operands change) tt f p i r tt) h in
        let height = first f is room x left'.1 in
        let names = names_follow s f room C ls labels p i (Gives operands change) types stands result placed r tt height a.0.0 a.0.1 in
        let own = all_rows s C ls labels i (note_of f p i) later [] has names (no_lists_typed ls labels p placed i (Gives operands change) (note_of f p i) later r tt tt) (λ y. refl) in
        let allowed = (allowed_parted s C (nested i) (text_order is) [] later count a.1).1 in
        let rest = typed_list is ls labels (moved_placed ls labels p placed i operands change r height) x left'.1 allowed in
        joined C ls own (subst⁻¹ (λ (l : List Note). AreTyped C ls (code.rows s labels is l) [] []) (behind (nested_count i) [] later (nested_counted i ∙ sym count)) rest)
    typed_step {d} {p} i is {o} {later} ls labels placed r (enters {e = e} inner outer nn arms x) h a =
        let lists = ap (λ (l : List Instr). length l) (nested_texts i) in
        let count : length inner ≡ length (nested i) = omega (arith, counted_arms f (arms_of i) arms, lists) in
        let left' = parted f d p i is (note_of f p i) inner outer room count (goes_further (Enters e) tt f p i r tt) (subst (λ (l : List Note). HasRoom f room d p (i ∷ is) (note_of f p i ∷ l)) nn h) in
        let height = first f is room x left'.1 in
        let names = names_follow s f room C ls labels p i (Enters e) types stands result placed r tt tt a.0.0 a.0.1 in
        let allowed = allowed_parted s C (nested i) (text_order is) inner outer count (subst (λ (l : List Note). AreAllowed s C (nested i ++ text_order is) l) nn a.1) in
        let arms_typed = typed_arms (arms_of i) (None ∷ ls) (inner_labels s f room ls labels p placed i) (known ls labels p placed i e r a.0.1 height) arms
        (subst (λ (l : List Instr). greatest_height l inner 0 ≤ room) (nested_texts i) left'.0) (subst (λ (l : List Instr). AreAllowed s C l inner) (nested_texts i) allowed.0) in
        let own = all_rows s C ls labels i (note_of f p i) later [] has names (lists_typed_of ls labels p placed i e inner outer later r a.0.1 nn arms_typed) (λ y. refl) in
        let rest = typed_list is ls labels (after_placed ls labels p placed i e r height) x left'.1 allowed.1 in
        let dropped = ap (λ (l : List Note). drop (nested_count i) l) nn ∙ behind (nested_count i) inner outer (nested_counted i ∙ sym count) in
        joined C ls own (subst⁻¹ (λ (l : List Note). AreTyped C ls (code.rows s labels is l) [] []) dropped rest)

    typed_arms : {e : Entry} {j : ℕ} (arms : List (List Instr)) {notes : List Note} (ls : Labels) (labels : List Label) →
        ((k : ℕ) (list : List Instr) → slice_get arms k ≡ Some list → ((m : ℕ) → height_at (start e m) ≤ room → IsPlaced s f room ls labels (start e m)) × (inner_end e ≤ room)) → DerivesArms f e j arms notes →
        greatest_height (texts arms) notes 0 ≤ room → AreAllowed s C (texts arms) notes → ArmsTyped ls labels arms notes
    typed_arms [] ls labels k (no_arm nn) h a = tt
    typed_arms {e} {j} (is ∷ arms) ls labels k (arm inner outer nn x xs) h a =
        let count = counted f is x in
        let both = heights_parted (text_order is) (texts arms) inner outer 0 count in
        let room_left = subst (λ (l : List Note). greatest_height (texts (is ∷ arms)) l 0 ≤ room) nn h in
        let allowed = allowed_parted s C (text_order is) (texts arms) inner outer count (subst (λ (l : List Note). AreAllowed s C (texts (is ∷ arms)) l) nn a) in
        let of_all = k 0 is refl in
        let end = end_within is e.demand (start e j) room of_all.1 in
        let own = heights_end (text_order is) inner (end_height is e.demand (start e j)) room (omega (arith, room_left, both)) end in
        let placed = of_all.0 j (first f is room x own) in
        (inner, outer, nn, count, typed_list is ls labels placed x own allowed.0, typed_arms arms ls labels (λ m l g. k (suc m) l g) xs (omega (arith, room_left, both)) allowed.1)

pub lists_typed : ListsTyped
lists_typed s f room C ls labels d p is notes types stands has result placed x h a = typed_list s f room C types stands has result is ls labels placed x h a
