-- Rows on variants.
use Rattle.std.proofs.Common.{◌≡◌, List, [], ◌∷◌, ◌++◌, length, reverse, Option, refl, sym, ap, ◌∙◌, subst, arith}
use Rattle.std.specs.Prelude.{slice_get}
use Rattle.std.proofs.lemmas.List.{length-reverse}
use Rattle.rw_types.specs.declared.instrs.BlockSig.{BlockSig}
use Rattle.rw_types.specs.declared.instrs.Instr.{Instr, VariantMalloc, VariantCase', items-the_row-Instr-VariantCase-1-1}
use Rattle.rw_types.specs.declared.types.Heap.TheVariants.{Variant}
use Rattle.rw_types.specs.declared.types.Pre as pre
use Rattle.rw_types.specs.declared.types.Priv.{Priv}
use Rattle.rw_types.specs.declared.types.Priv.TheVariants.{Rw}
use Rattle.rw_types.specs.declared.types.Ty.{Ty, Of}
use Rattle.machine_steps.specs.Steps.{Turn, with_found}
use Rattle.rich_rules.specs.Points.{Frame, Point, Outcome}
use Rattle.rich_rules.specs.Blocks.{each_alone, variant_case_row}
use Rattle.rich_rules.specs.Table.{row, lists_of}
use Rattle.rich_rules.specs.Derivations.{Follows}
use Rattle.rich_rules_inversions.proofs.Bodies.{rows}
use Rattle.rich_reduction.specs.Configurations.{Ref, Content, Cell, Past, Config, Event}
use Rattle.rich_reduction.specs.Cells.{opened_in, with_case, opens}
use Rattle.rich_reduction.specs.Control.{opened, enter_with}
use Rattle.rich_reduction.specs.Steps.{act}
use Rattle.rich_rights.specs.Rights.{Reading, rights_to, count_all, count_content}
use Rattle.rich_rights_laws.proofs.Sums.{values}
use Rattle.rich_soundness_values.specs.Heaps.{at, all_at}
use Rattle.rich_soundness_values.specs.Values.{HasType, HaveTypes, more_types}
use Rattle.rich_soundness_values.proofs.Framed.{framed, framed_all}
use Rattle.rich_soundness_values.proofs.Typed.{no_rights}
use Rattle.rich_soundness_points.specs.Good.{Fine}
use Rattle.rich_soundness_rows.proofs.Closed.{at_length}
use Rattle.rich_soundness_tuples.proofs.Lists.{have_length, at_append}
use Rattle.rich_soundness_lists.proofs.Bodies.{BodySafe, in_bodies}
use Rattle.rich_soundness_lists.proofs.Splits.{split, top_is, entering}
use Rattle.rich_soundness_frames.proofs.Contents.{variant_held}
use Rattle.rich_soundness_references.proofs.References.{reference_taken, writes_has}
use Rattle.rich_soundness_cells.proofs.Opened.{opening_cell}
use Rattle.rich_soundness_frames.proofs.Acts.{AreFew, safe}
use Rattle.rich_soundness_entries.proofs.Entered.{within, entered_good, Within}
use Rattle.rich_soundness_variants.specs.Laws.{VariantRowsAreSafe}
use Rattle.rich_soundness_variants.proofs.Cases.{variant_at, case_of, payload, as_many, same_lists, list_fits, arm_at}
use Rattle.rich_soundness_variants.proofs.Making.{malloc_acts}

variant_case_row_is : (sig : BlockSig) (m : _) (arms : _) (f : Frame) (q : Point) → row f q (VariantCase' sig m arms) ≡ variant_case_row f q sig (length (lists_of arms))
unfolding row
variant_case_row_is sig m arms f q = refl

enters_safe : (sig : BlockSig) (m : _) (arms : _) → BodySafe (VariantCase' sig m arms)
enters_safe sig m arms p c rest good owner results operands set b typed callers o later r go follows fit fit' =
    let x = rows.variant_case b.goes_on.frame b.goes_on.point sig (length (lists_of arms)) o (sym (variant_case_row_is sig m arms b.goes_on.frame b.goes_on.point) ∙ r) go in
    let g = b.goes_on.answers in
    let e = entering (subst (λ (y : Outcome). Follows b.goes_on.frame b.goes_on.demand b.goes_on.point (VariantCase' sig m arms) rest y later) x.given follows) in
    let form : x.first ≡ Of x.reference.qual (pre.Ref Rw x.reference.location (Variant x.cases)) = x.form.form ∙ ap (λ (k : Priv). Of x.reference.qual (pre.Ref k x.reference.location (Variant x.cases))) x.privilege in
    let few : AreFew c c.here.operands = λ r n. omega (arith, good.kept r n) in
    reference_taken c.here.operands (λ us. c.here.operands ≡ us → AreFew c us → Fine p (act p.funcs (VariantCase' sig m arms) (record c.here { rest = rest; operands = us }) c)) good.stored
    (subst (λ (ts : List Ty). HaveTypes good.heaps c.here.operands (all_at g ts)) (x.taken ∙ ap (λ (t : Ty). t ∷ (reverse sig.params ++ x.beneath)) form) typed)
    (λ j. omega (arith, few Reading j))
    (λ l us to hu same few.
    let held = variant_held (all_at g x.cases) to.holds (variant_at g x.cases) in
    let ty = case_of g x.cases held.number held.type held.found in
    let list = as_many (lists_of arms) x.cases held.number ty.0 x.count ty.1 in
    let arm = arm_at (lists_of arms) 0 held.number held.number (omega arith) e.arms list.1 in
    let t = split us (all_at g (reverse sig.params)) (all_at g x.beneath) (subst (λ (ts : List Ty). HaveTypes good.heaps us ts) (at_append g (reverse sig.params) x.beneath) hu) in
    let many : length sig.params ≡ length t.front = sym (have_length t.front_typed ∙ at_length g (reverse sig.params) ∙ length-reverse sig.params) in
    let here = record c.here { rest = rest; operands = Ref l Rw ∷ us } in
    let opening = opening_cell c good.stored l us to.cell to.at few (λ r n u. ap (count_content (rights_to r n)) held.is ∙ no_rights r n held.typed (held.unrestricted u)) in
    let a = opening.after in
    let into : List Instr → Turn Event Config = λ list. enter_with (held.value ∷ []) us sig c.here.sizes list here (λ inner. opens l inner c) in
    subst (λ (turn : Turn Event Config). Fine p turn)
    (sym (ap (λ (o : Option Cell). with_found o (λ cell. with_case cell.content (λ n v. with_found (slice_get (items-the_row-Instr-VariantCase-1-1 _ arms) n) (λ list. enter_with (v ∷ []) us sig c.here.sizes list here (λ inner. opens l inner c))))) to.at
    ∙ ap (λ (y : Content). with_case y (λ n v. with_found (slice_get (items-the_row-Instr-VariantCase-1-1 _ arms) n) (λ list. enter_with (v ∷ []) us sig c.here.sizes list here (λ inner. opens l inner c)))) held.is
    ∙ ap (λ (ls : List (List Instr)). with_found (slice_get ls held.number) into) (same_lists arms)
    ∙ ap (λ (y : Option (List Instr)). with_found y into) list.1
    ∙ top_is (length sig.params) us t.front t.back (λ taken beneath. opens l (opened Past (length sig.results) sig c.here.sizes list.0 (held.value ∷ taken) beneath here) c) many t.whole))
    (entered_good p c rest good set b callers sig list.0 x.beneath (at g ty.0 ∷ all_at g (reverse sig.params)) c.here.sizes (held.value ∷ t.front) t.back a.heaps a.number (opened_in l.mem l.number c.stores)
    (subst (λ (ts : List Ty). Within p c rest good set b callers sig list.0 x.beneath (all_at g (ts ++ reverse sig.params)) c.here.sizes) (payload x.cases held.number ty.0 ty.1)
    (within p c rest good set b callers sig list.0 x.beneath (each_alone x.cases) held.number arm.code (list_fits arms held.number list.0 fit list.1)))
    e.rest fit' a.keeps (omega (arith, a.bound, ap (count_all (rights_to Reading a.number)) same))
    (more_types (framed a.number a.keeps (subst (λ (y : Ty). HasType good.heaps held.value y) ty.2 held.typed) (omega (arith, a.bound, few Reading a.number, opening.counted Reading a.number, ap (count_content (rights_to Reading a.number)) held.is)))
    (framed_all a.number a.keeps t.front_typed (omega (arith, a.bound, few Reading a.number, (values (rights_to Reading a.number)).joined t.front t.back, ap (count_all (rights_to Reading a.number)) t.whole))))
    (framed_all a.number a.keeps t.back_typed (omega (arith, a.bound, few Reading a.number, (values (rights_to Reading a.number)).joined t.front t.back, ap (count_all (rights_to Reading a.number)) t.whole)))
    a.stored
    (λ i n. omega (arith, ap (count_all (rights_to i n)) same, (values (rights_to i n)).joined t.front t.back, ap (count_all (rights_to i n)) t.whole, opening.counted i n, opening.live n, writes_has i n l, ap (count_content (rights_to i n)) held.is))))
    refl few

pub variant_rows : VariantRowsAreSafe
variant_rows = record {
  malloc = λ m n cases. safe (VariantMalloc m n cases) refl (malloc_acts m n cases);
  enters = λ sig m arms. in_bodies (VariantCase' sig m arms) refl (enters_safe sig m arms);
}
