-- Rows on existential packages.
use Rattle.std.proofs.Common.{◌≡◌, ℕ, List, [], ◌∷◌, ◌++◌, length, reverse, map, Option, refl, sym, ap, ◌∙◌, subst, arith}
use Rattle.std.proofs.lemmas.List.{length-reverse}
use Rattle.rw_types.specs.declared.instrs.BlockSig.{BlockSig}
use Rattle.rw_types.specs.declared.instrs.Instr.{ExistPack, ExistUnpack', items-the_row-Instr}
use Rattle.rw_types.specs.declared.types.Binder.TheVariants.{Kind}
use Rattle.rw_types.specs.declared.types.Heap.TheVariants.{Exist}
use Rattle.rw_types.specs.declared.types.Pre as pre
use Rattle.rw_types.specs.declared.types.Priv.{Priv}
use Rattle.rw_types.specs.declared.types.Priv.TheVariants.{Rw}
use Rattle.rw_types.specs.declared.types.Qual.{Qual}
use Rattle.rw_types.specs.declared.types.Ty.{Ty, Of}
use Rattle.machine_steps.specs.Steps.{Turn, with_found}
use Rattle.rich_types.specs.declared.variables.VariableKind.{VariableKind}
use Rattle.rich_types.specs.Scopes.{Scope, scope_of}
use Rattle.rich_types.specs.Walks.{below_variable}
use Rattle.rich_rules.specs.Points.{Frame, Point, Outcome}
use Rattle.rich_rules.specs.Raised.{below_one}
use Rattle.rich_rules.specs.Blocks.{exist_unpack_row}
use Rattle.rich_rules.specs.Table.{row}
use Rattle.rich_rules.specs.Derivations.{Follows}
use Rattle.rich_rules_inversions.proofs.Bodies.{rows}
use Rattle.rich_reduction.specs.Configurations.{Ref, Content, Cell, Past, Config, Event}
use Rattle.rich_reduction.specs.Cells.{opened_in, with_hidden, opens}
use Rattle.rich_reduction.specs.Control.{sizes_of, opened, enter_with}
use Rattle.rich_reduction.specs.Steps.{act}
use Rattle.rich_rights.specs.Rights.{Reading, rights_to, count_all, count_content}
use Rattle.rich_rights_laws.proofs.Sums.{values}
use Rattle.rich_soundness_values.specs.Heaps.{Answer, at, all_at}
use Rattle.rich_soundness_values.specs.Values.{HasType, HaveTypes, more_types}
use Rattle.rich_soundness_values.proofs.Framed.{framed, framed_all}
use Rattle.rich_soundness_values.proofs.Typed.{no_rights}
use Rattle.rich_soundness_points.specs.Good.{Fine}
use Rattle.rich_soundness_rows.proofs.Closed.{at_length}
use Rattle.rich_soundness_tuples.proofs.Lists.{have_length, at_append}
use Rattle.rich_soundness_lists.proofs.Bodies.{BodySafe, in_bodies}
use Rattle.rich_soundness_lists.proofs.Splits.{split, top_is, row_all, entering, first_arm}
use Rattle.rich_soundness_binders.specs.Laws.{onto, depth_of}
use Rattle.rich_soundness_binders.proofs.Bodies.{typed_by, answers_variable, type_body, type_body_at, scope_more}
use Rattle.rich_soundness_frames.proofs.Contents.{package_held}
use Rattle.rich_soundness_references.proofs.References.{reference_taken, writes_has}
use Rattle.rich_soundness_cells.proofs.Opened.{opening_cell}
use Rattle.rich_soundness_frames.proofs.Acts.{AreFew, safe}
use Rattle.rich_soundness_entries.proofs.Entered.{within_below, entered_good}
use Rattle.rich_soundness_packages.specs.Laws.{PackageRowsAreSafe}
use Rattle.rich_soundness_packages.proofs.Beneath.{package_at}
use Rattle.rich_soundness_packages.proofs.Making.{pack_acts}

deep : (t : Ty) (q : Qual) (s : ℕ) → below_one (Kind q s) ≡ depth_of (typed_by t)
unfolding below_variable
deep t q s = refl

exist_unpack_row_is : (sig : BlockSig) (m : _) (body : _) (f : Frame) (q : Point) → row f q (ExistUnpack' sig m body) ≡ exist_unpack_row f q sig
unfolding row
exist_unpack_row_is sig m body f q = refl

unpack_safe : (sig : BlockSig) (m : _) (body : _) → BodySafe (ExistUnpack' sig m body)
unpack_safe sig m body p c rest good owner results operands set b typed callers o later r go follows fit fit' =
    let x = rows.exist_unpack b.goes_on.frame b.goes_on.point sig o (sym (exist_unpack_row_is sig m body b.goes_on.frame b.goes_on.point) ∙ r) go in
    let g = b.goes_on.answers in
    let e = entering (subst (λ (y : Outcome). Follows b.goes_on.frame b.goes_on.demand b.goes_on.point (ExistUnpack' sig m body) rest y later) x.given follows) in
    let arm = first_arm e.arms in
    let form : x.first ≡ Of x.reference.qual (pre.Ref Rw x.reference.location (Exist x.qual x.size x.body)) = x.form.form ∙ ap (λ (k : Priv). Of x.reference.qual (pre.Ref k x.reference.location (Exist x.qual x.size x.body))) x.privilege in
    let few : AreFew c c.here.operands = λ r n. omega (arith, good.kept r n) in
    reference_taken c.here.operands (λ us. c.here.operands ≡ us → AreFew c us → Fine p (act p.funcs (ExistUnpack' sig m body) (record c.here { rest = rest; operands = us }) c)) good.stored
    (subst (λ (ts : List Ty). HaveTypes good.heaps c.here.operands (all_at g ts)) (x.taken ∙ ap (λ (t : Ty). t ∷ (reverse sig.params ++ x.beneath)) form) typed)
    (λ j. omega (arith, few Reading j))
    (λ l us to hu same few.
    let held = package_held x.qual x.size (type_body g x.body) to.holds (package_at g x.qual x.size x.body) in
    let t = split us (all_at g (reverse sig.params)) (all_at g x.beneath) (subst (λ (ts : List Ty). HaveTypes good.heaps us ts) (at_append g (reverse sig.params) x.beneath) hu) in
    let many : length sig.params ≡ length t.front = sym (have_length t.front_typed ∙ at_length g (reverse sig.params) ∙ length-reverse sig.params) in
    let here = record c.here { rest = rest; operands = Ref l Rw ∷ us } in
    let opening = opening_cell c good.stored l us to.cell to.at few (λ r n u. ap (count_content (rights_to r n)) held.is ∙ no_rights r n held.typed (held.unrestricted u)) in
    let a = opening.after in
    let answered : Answer (onto (typed_by held.type) g) (scope_of (b.goes_on.point.binders ++ Kind x.qual x.size ∷ [])) =
    subst (λ (k : Scope). Answer (onto (typed_by held.type) g) k) (sym (scope_more b.goes_on.point.binders (Kind x.qual x.size))) (answers_variable g (scope_of b.goes_on.point.binders) held.type x.qual x.size b.goes_on.answered held.sized held.hidden) in
    let sized : x.size ∷ c.here.sizes ≡ sizes_of (b.goes_on.point.binders ++ Kind x.qual x.size ∷ []) =
    ap (λ (l : List ℕ). x.size ∷ l) b.goes_on.sized ∙ ap (λ (k : Scope). map (λ (v : VariableKind). v.size) k.variables) (sym (scope_more b.goes_on.point.binders (Kind x.qual x.size))) in
    subst (λ (turn : Turn Event Config). Fine p turn)
    (sym (ap (λ (o : Option Cell). with_found o (λ cell. with_hidden cell.content (λ size v. enter_with (v ∷ []) us sig (size ∷ c.here.sizes) (items-the_row-Instr _ body) here (λ inner. opens l inner c)))) to.at
    ∙ ap (λ (y : Content). with_hidden y (λ size v. enter_with (v ∷ []) us sig (size ∷ c.here.sizes) (items-the_row-Instr _ body) here (λ inner. opens l inner c))) held.is
    ∙ top_is (length sig.params) us t.front t.back (λ taken beneath. opens l (opened Past (length sig.results) sig (x.size ∷ c.here.sizes) (items-the_row-Instr _ body) (held.value ∷ taken) beneath here) c) many t.whole))
    (entered_good p c rest good set b callers sig (items-the_row-Instr _ body) x.beneath (at (onto (typed_by held.type) g) x.body ∷ all_at g (reverse sig.params)) (x.size ∷ c.here.sizes) (held.value ∷ t.front) t.back a.heaps a.number (opened_in l.mem l.number c.stores)
    (within_below p c rest good set b callers sig (items-the_row-Instr _ body) x.beneath (Kind x.qual x.size) (typed_by held.type) x.body (x.size ∷ c.here.sizes) (deep held.type x.qual x.size) answered sized arm.code (row_all body fit))
    e.rest fit' a.keeps (omega (arith, a.bound, ap (count_all (rights_to Reading a.number)) same))
    (more_types (framed a.number a.keeps (subst (λ (y : Ty). HasType good.heaps held.value y) (type_body_at g held.type x.body) held.typed) (omega (arith, a.bound, few Reading a.number, opening.counted Reading a.number, ap (count_content (rights_to Reading a.number)) held.is)))
    (framed_all a.number a.keeps t.front_typed (omega (arith, a.bound, few Reading a.number, (values (rights_to Reading a.number)).joined t.front t.back, ap (count_all (rights_to Reading a.number)) t.whole))))
    (framed_all a.number a.keeps t.back_typed (omega (arith, a.bound, few Reading a.number, (values (rights_to Reading a.number)).joined t.front t.back, ap (count_all (rights_to Reading a.number)) t.whole)))
    a.stored
    (λ i n. omega (arith, ap (count_all (rights_to i n)) same, (values (rights_to i n)).joined t.front t.back, ap (count_all (rights_to i n)) t.whole, opening.counted i n, opening.live n, writes_has i n l, ap (count_content (rights_to i n)) held.is))))
    refl few

pub package_rows : PackageRowsAreSafe
package_rows = record {
  pack = λ m q size t body. safe (ExistPack m q size t body) refl (pack_acts m q size t body);
  unpack = λ sig m body. in_bodies (ExistUnpack' sig m body) refl (unpack_safe sig m body);
}
