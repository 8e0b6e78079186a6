-- A list without a binder that is entered: what is left within it, and behind its instruction.
use Rattle.std.proofs.Common.{◌≡◌, ◌∙◌, ◌≤◌, List, [], ◌∷◌, ◌++◌, Bool, false, cond, None, length, refl, ap, sym, subst, append_assoc, arith}
use Rattle.std.specs.Prelude.{drop, slice_get}
use Rattle.std.proofs.lemmas.List.{append-nil}
use Rattle.wasm_ast.specs.declared.instructions.WInstr.{WInstr}
use Rattle.rw_types.specs.declared.instrs.Instr.{Instr, Row_of-Instr, items-the_row-Instr}
use Rattle.rich_typing.specs.declared.notes.Note.{Note}
use Rattle.rich_rules.specs.Derivations.{Derives, DerivesArms, Follows, arm, enters, no_arm, step}
use Rattle.rich_rules.specs.Points.{Demand, Enters, Entry, Frame, Outcome, Point, after, start}
use Rattle.rich_rules.specs.Table.{arms_of, note_of, row}
use Rattle.rich_rules_formed.specs.Formed.{IsFormedOutcome}
use Rattle.rich_rules_formed.proofs.Rows.{row_formed}
use Rattle.layout.specs.Bodies.{ends_list, nested, nested_count, text_order}
use Rattle.layout.specs.Frames.{greatest_height}
use Rattle.lowering_rows.specs.Labels.{Label, plain_label}
use Rattle.lowering_rows.specs.Rows as code
use Rattle.lowering_heights.specs.Heights.{end_height}
use Rattle.lowering_heights.proofs.Counted.{counted, heights_end, nested_texts, texts}
use Rattle.lowering_heights.proofs.Ends.{goes_further}
use Rattle.lowering_heights.proofs.Within.{HasRoom, end_within, ends_alike, first, parted}
use Rattle.lowering_locals.specs.Fitting.{OutcomeFits}
use Rattle.lowering_locals.proofs.Rows.{row_fits}
use Rattle.lowering_names.specs.Placed.{IsWithoutCells}
use Rattle.lowering_bodies_typed.proofs.Alone.{behind as dropped, nested_counted, own_code}
use Rattle.lowering_bodies_typed.proofs.Entered.{HasLists, begins}
use Rattle.simulation_relation.specs.Bodies.{Body, IsLeft, behind, sizes_at}
use Rattle.simulation_relation.specs.Words.{Book}

-- what a derivation tells of an instruction with one list
pub record HasOne (f : Frame) (d : Demand) (p : Point) (is list : List Instr) (e : Entry) (notes : List Note) : Type 0 where
  pub inner : List Note
  pub outer : List Note
  pub parts : notes ≡ inner ++ outer
  pub within : Derives f e.demand (start e 0) list inner
  pub later : Derives f d (after e p) is outer

one_arm : {f : Frame} {e : Entry} (list : List Instr) {notes : List Note} → DerivesArms f e 0 (list ∷ []) notes → Derives f e.demand (start e 0) list notes
one_arm {f} {e} list (arm inner outer nn x (no_arm mm)) = subst (λ (l : List Note). Derives f e.demand (start e 0) list l) (sym (append-nil inner) ∙ ap (λ (l : List Note). inner ++ l) (sym mm) ∙ sym nn) x

follows_one : {f : Frame} {d : Demand} {p : Point} {i : Instr} {is : List Instr} {e : Entry} {notes : List Note} (list : List Instr) → arms_of i ≡ list ∷ [] → Follows f d p i is (Enters e) notes → HasOne f d p is list e notes
follows_one {f} {e = e} list a (enters inner outer nn arms x) =
    record { inner = inner; outer = outer; parts = nn; within = one_arm list (subst (λ (l : List (List Instr)). DerivesArms f e 0 l inner) a arms); later = x }

-- the notes behind that of the instruction
has_one : (f : Frame) (d : Demand) (p : Point) (i : Instr) (is list : List Instr) (e : Entry) (notes : List Note) → arms_of i ≡ list ∷ [] → Derives f d p (i ∷ is) notes → row f p i ≡ Enters e → (later : List Note) × (notes ≡ note_of f p i ∷ later) × HasOne f d p is list e later
has_one f d p i is list e notes a (step o later r nn x) g = (later, nn, follows_one list a (subst (λ (z : Outcome). Follows f d p i is z later) (sym r ∙ g) x))

-- what stands behind a list is not changed by an instruction that goes on
same_end : (end : List WInstr) (labels : List Label) (i : Instr) (is : List Instr) → ends_list i ≡ false → behind end labels (i ∷ is) ≡ behind end labels is
same_end end [] i [] e = ap (λ (h : Bool). cond h [] end) e
same_end end [] i (j ∷ is) e = refl
same_end end (label ∷ labels) i is e = refl

module _ (b : Body) (book : Book) (labels : List Label) (d : Demand) (q : Point) (i : Instr) {n : _} (list : Row_of-Instr n) (is : List Instr) (target : List WInstr) (e : Entry) where
  -- both lists, and the notes by which the code of the instruction is made
  pub record IsEntered : Type 0 where
    pub later : List Note
    pub rest : List WInstr
    pub lowered : target ≡ code.row b.around labels i (note_of b.frame q i) later ++ rest
    pub within : IsLeft b book (plain_label (note_of b.frame q i).beneath ∷ labels) e.demand (start e 0) (items-the_row-Instr n list) (code.row_code b.around (plain_label (note_of b.frame q i).beneath ∷ labels) list later)
    pub left : IsLeft b book labels d (after e q) is rest

  module _ (h : IsLeft b book labels d q (i ∷ is) target) (r : row b.frame q i ≡ Enters e) (a : arms_of i ≡ items-the_row-Instr n list ∷ []) (allowed : IsWithoutCells i) (lists : HasLists i) (same_results : sizes_at (start e 0) (start e 0).results ≡ sizes_at q q.results) where
    abbrev f : Frame
    f = b.frame

    abbrev body : List Instr
    body = items-the_row-Instr n list

    abbrev label : Label
    label = plain_label (note_of f q i).beneath

    pub entered : IsEntered
    entered =
        let y = has_one f d q i is body e h.notes a h.derived r in
        let later = y.0 in
        let one = y.2 in
        let inner = one.inner in
        let outer = one.outer in
        let count_in = counted f body one.within in
        let only : nested i ≡ text_order body = nested_texts i ∙ ap texts a ∙ append-nil (text_order body) in
        let count : length inner ≡ length (nested i) = count_in ∙ sym (ap (λ (l : List Instr). length l) only) in
        let further = goes_further (Enters e) tt f q i r tt in
        let room = subst (λ (l : List Note). HasRoom f b.room d q (i ∷ is) l) (y.1 ∙ ap (λ (l : List Note). note_of f q i ∷ l) one.parts) h.fits in
        let rooms = parted f d q i is (note_of f q i) inner outer b.room count further room in
        let height = first f is b.room one.later rooms.1 in
        let formed = subst (IsFormedOutcome q) r (row_formed f q h.placed.formed i) in
        let fits = subst (OutcomeFits f.slots q) r (row_fits f q h.placed.formed h.placed.locals i) in
        let begun = begins b.around f b.room h.lists labels q h.placed i e r formed.0 allowed lists in
        let up = ends_alike f q h.placed.formed i e 0 body r (ap (λ (l : List (List Instr)). slice_get l 0) a) formed.1 in
        let end = end_within body e.demand (start e 0) b.room (omega (arith, height, up)) in
        let own = heights_end (text_order body) inner (end_height body e.demand (start e 0)) b.room (subst (λ (l : List Instr). greatest_height l inner 0 ≤ b.room) only rooms.0) end in
        let kept = ap (λ (l : List Note). code.rows b.around labels is l) (ap (λ (l : List Note). drop (nested_count i) l) one.parts ∙ dropped (nested_count i) inner outer (nested_counted i ∙ sym count)) in
        let ended = same_end b.end labels i is further in
        let rest : List WInstr = code.rows b.around labels is outer ++ behind b.end labels is in
        record {
          later = later;
          rest = rest;
          lowered =
              h.lowered
              ∙ ap (λ (l : List Note). code.rows b.around labels (i ∷ is) l ++ behind b.end labels (i ∷ is)) y.1
              ∙ (λ j. (code.row b.around labels i (note_of f q i) later ++ kept j) ++ ended j)
              ∙ append_assoc (code.row b.around labels i (note_of f q i) later) (code.rows b.around labels is outer) (behind b.end labels is);
          within = record {
            notes = inner;
            derived = one.within;
            lists = None ∷ h.lists;
            placed = record { formed = formed.0 0; locals = fits.0 0; lowered = begun.lowered; results = begun.results; height = first f body b.room one.within own };
            fits = own;
            returned = λ o. same_results ∙ h.returned o;
            lowered = ap (λ (l : List Note). code.row_code b.around (label ∷ labels) list l) one.parts ∙ own_code b.around (label ∷ labels) list inner outer count_in ∙ sym (append-nil (code.rows b.around (label ∷ labels) body inner));
          };
          left = record {
            notes = outer;
            derived = one.later;
            lists = h.lists;
            placed = record { formed = formed.1; locals = fits.1; lowered = h.placed.lowered; results = h.placed.results; height = height };
            fits = rooms.1;
            returned = h.returned;
            lowered = refl;
          };
        }
