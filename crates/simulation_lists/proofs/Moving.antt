-- Behind an instruction that gives operands.
use Rattle.std.proofs.Common.{◌≡◌, ◌∙◌, List, [], ◌∷◌, ◌++◌, Bool, false, Option, cond, length, refl, ap, sym, subst, append_assoc}
use Rattle.wasm_ast.specs.declared.instructions.WInstr.{WInstr}
use Rattle.rw_types.specs.declared.instrs.Instr.{Instr, Block', Loop', If', MemUnpack', VariantCase', ExistUnpack'}
use Rattle.rw_types.specs.declared.types.Ty.{Ty}
use Rattle.rich_typing.specs.declared.notes.Note.{Note}
use Rattle.rich_rules.specs.Derivations.{Derives, Follows, goes_on, step}
use Rattle.rich_rules.specs.Points.{Change, Demand, Frame, Gives, Outcome, Point, moved}
use Rattle.rich_rules.specs.Table.{lists_of, note_of, row}
use Rattle.rich_rules_inversions.proofs.Bodies as inverted
use Rattle.rich_rules_formed.specs.Formed.{IsFormedOutcome}
use Rattle.rich_rules_formed.proofs.Rows.{row_formed}
use Rattle.layout.specs.Bodies.{ends_list, nested, nested_count}
use Rattle.lowering_rows.specs.Labels.{Label}
use Rattle.lowering_rows.specs.Plain.{plain_row}
use Rattle.lowering_rows.specs.Surroundings.{Surroundings}
use Rattle.lowering_rows.specs.Rows as code
use Rattle.lowering_heights.proofs.Ends.{EntersNone, goes_further, no_lists}
use Rattle.lowering_heights.proofs.Within.{HasRoom, first, parted}
use Rattle.lowering_locals.specs.Fitting.{OutcomeFits}
use Rattle.lowering_locals.proofs.Rows.{row_fits}
use Rattle.lowering_bodies_typed.proofs.Alone.{behind as dropped, nested_counted}
use Rattle.simulation_relation.specs.Bodies.{behind}
use Rattle.simulation_lists.specs.Laws.{ListsMoveOn}

-- an instruction that gives operands has no list
plain_code : (f : Frame) (q : Point) (i : Instr) (operands : List Ty) (change : Option Change) (s : Surroundings) (labels : List Label) (note : Note) (later : List Note) → row f q i ≡ Gives operands change → code.row s labels i note later ≡ plain_row s labels i note
unfolding row
plain_code f q (Block' b m is) operands change s labels note later r = absurd (subst EntersNone (inverted.rows.block f q b (Gives operands change) r tt).given tt)
plain_code f q (Loop' b m is) operands change s labels note later r = absurd (subst EntersNone (inverted.rows.loops f q b (Gives operands change) r tt).given tt)
plain_code f q (If' b m is n js) operands change s labels note later r = absurd (subst EntersNone (inverted.rows.arms f q b (Gives operands change) r tt).given tt)
plain_code f q (MemUnpack' b m is) operands change s labels note later r = absurd (subst EntersNone (inverted.rows.mem_unpack f q b (Gives operands change) r tt).given tt)
plain_code f q (VariantCase' b m arms) operands change s labels note later r = absurd (subst EntersNone (inverted.rows.variant_case f q b (length (lists_of arms)) (Gives operands change) r tt).given tt)
plain_code f q (ExistUnpack' b m is) operands change s labels note later r = absurd (subst EntersNone (inverted.rows.exist_unpack f q b (Gives operands change) r tt).given tt)
plain_code f q _ operands change s labels note later r = refl

after_gives : {f : Frame} {d : Demand} {p : Point} {i : Instr} {is : List Instr} {operands : List Ty} {change : Option Change} {notes : List Note} → Follows f d p i is (Gives operands change) notes → Derives f d (moved p operands change) is notes
after_gives (goes_on x) = x

-- what a derivation tells of the notes behind the first
abbrev Behind : Frame → Demand → Point → Instr → List Instr → List Ty → Option Change → List Note → Type 0
Behind f d p i is operands change notes = (later : List Note) × (notes ≡ note_of f p i ∷ later) × Derives f d (moved p operands change) is later

behind_first : (f : Frame) (d : Demand) (p : Point) (i : Instr) (is : List Instr) (operands : List Ty) (change : Option Change) (notes : List Note) → Derives f d p (i ∷ is) notes → row f p i ≡ Gives operands change → Behind f d p i is operands change notes
behind_first f d p i is operands change notes (step o later r nn x) e = (later, nn, after_gives (subst (λ (z : Outcome). Follows f d p i is z later) (sym r ∙ e) x))

-- what stands behind a list is not changed by an instruction that goes on
same_end : (end : List WInstr) (labels : List Label) (i : Instr) (is : List Instr) → ends_list i ≡ false → behind end labels (i ∷ is) ≡ behind end labels is
same_end end [] i [] e = ap (λ (h : Bool). cond h [] end) e
same_end end [] i (j ∷ is) e = refl
same_end end (label ∷ labels) i is e = refl

pub lists_move_on : ListsMoveOn
lists_move_on b book labels d q i is operands change target h r =
    let f = b.frame in
    let s = b.around in
    let y = behind_first f d q i is operands change h.notes h.derived r in
    let later = y.0 in
    let none = no_lists (Gives operands change) tt f q i r tt in
    let count : 0 ≡ length (nested i) = sym (ap (λ (l : List Instr). length l) none) in
    let room = subst (λ (l : List Note). HasRoom f b.room d q (i ∷ is) l) y.1 h.fits in
    let further = goes_further (Gives operands change) tt f q i r tt in
    let left_over = parted f d q i is (note_of f q i) [] later b.room count further room in
    let end = same_end b.end labels i is further in
    let kept = ap (λ (l : List Note). code.rows s labels is l) (dropped (nested_count i) [] later (nested_counted i ∙ sym count)) in
    let own = plain_code f q i operands change s labels (note_of f q i) later r in
    let rest : List WInstr = code.rows s labels is later ++ behind b.end labels is in (
      rest,
      h.lowered
          ∙ ap (λ (l : List Note). code.rows s labels (i ∷ is) l ++ behind b.end labels (i ∷ is)) y.1
          ∙ (λ j. (own j ++ kept j) ++ end j)
          ∙ append_assoc (plain_row s labels i (note_of f q i)) (code.rows s labels is later) (behind b.end labels is),
      record {
        notes = later;
        derived = y.2;
        lists = h.lists;
        placed = record {
          formed = subst (IsFormedOutcome q) r (row_formed f q h.placed.formed i);
          locals = subst (OutcomeFits f.slots q) r (row_fits f q h.placed.formed h.placed.locals i);
          lowered = h.placed.lowered;
          results = h.placed.results;
          height = first f is b.room y.2 left_over.1;
        };
        fits = left_over.1;
        returned = h.returned;
        lowered = refl;
      },
    )
