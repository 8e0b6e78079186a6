-- The row that enters a hidden location.
use Rattle.std.proofs.Common.{◌≡◌, List, [], ◌∷◌, ◌++◌, length, reverse, map, refl, sym, ap, ◌∙◌, subst, arith}
use Rattle.std.proofs.lemmas.List.{length-reverse}
use Rattle.rw_types.specs.declared.instrs.BlockSig.{BlockSig}
use Rattle.rw_types.specs.declared.instrs.Instr.{MemUnpack', items-the_row-Instr}
use Rattle.rw_types.specs.declared.types.Binder.TheVariants.{Loc}
use Rattle.rw_types.specs.declared.types.Heap.TheBlock.{hidden-the_row-Ty-2}
use Rattle.rw_types.specs.declared.types.Mem.{Mem}
use Rattle.rw_types.specs.declared.types.Mem.TheVariants.{L}
use Rattle.rw_types.specs.declared.types.Pre.{Hidden'}
use Rattle.rw_types.specs.declared.types.Pre.TheVariants.{Hidden}
use Rattle.rw_types.specs.declared.types.Qual.{Qual}
use Rattle.rw_types.specs.declared.types.Ty.{Ty, Of, end_of-Ty, more_of-Ty}
use Rattle.machine_steps.specs.Steps.{Turn}
use Rattle.rich_types.specs.declared.variables.VariableKind.{VariableKind}
use Rattle.rich_types.specs.Scopes.{Scope, scope_of}
use Rattle.rich_types.specs.Walks.{outside, below_location}
use Rattle.rich_types.specs.Instances.{Substitution, substituting}
use Rattle.rich_types.proofs.Shapes.{walk-Hidden}
use Rattle.rich_rules.specs.Points.{Frame, Point, Outcome}
use Rattle.rich_rules.specs.Raised.{below_one}
use Rattle.rich_rules.specs.Blocks.{mem_unpack_row}
use Rattle.rich_rules.specs.Table.{row}
use Rattle.rich_rules.specs.Derivations.{Follows}
use Rattle.rich_rules_inversions.proofs.Bodies.{rows}
use Rattle.rich_reduction.specs.Configurations as value
use Rattle.rich_reduction.specs.Configurations.{Val, Past, Location, Config, Event}
use Rattle.rich_reduction.specs.Turns.{goes_on}
use Rattle.rich_reduction.specs.Control.{sizes_of, opened}
use Rattle.rich_reduction.specs.Steps.{act}
use Rattle.rich_rights.specs.Rights.{rights_to, count_all}
use Rattle.rich_rights_laws.proofs.Sums.{values}
use Rattle.rich_soundness_values.specs.Heaps.{Heaps, Answer, with_place, at, all_at}
use Rattle.rich_soundness_values.specs.Values.{HasType, HaveTypes, more_types, is_pack}
use Rattle.rich_soundness_points.specs.Good.{Fine}
use Rattle.rich_soundness_rows.proofs.Closed.{at_length}
use Rattle.rich_soundness_rows.proofs.Forms.{packed_of}
use Rattle.rich_soundness_tuples.proofs.Lists.{have_length, at_append}
use Rattle.rich_soundness_lists.proofs.Bodies.{BodySafe, in_bodies}
use Rattle.rich_soundness_lists.proofs.Splits.{split, top_is, row_all, entering, first_arm}
use Rattle.rich_soundness_binders.specs.Laws.{onto, depth_of}
use Rattle.rich_soundness_binders.proofs.Bodies.{placed, answers_location, place_body, place_body_at, scope_more}
use Rattle.rich_soundness_frames.proofs.Still.{nothing_turns, not_yet}
use Rattle.rich_soundness_entries.specs.Laws.{LocationRowsAreSafe}
use Rattle.rich_soundness_entries.proofs.Entered.{within_below, entered_good}

-- the memory and the body of a hidden location
abbrev memory_in : Ty → Mem
memory_in (Of q (Hidden' m a t)) = m
memory_in t = L

abbrev body_in : Ty → Ty
body_in (Of q (Hidden' m a (more_of-Ty t end_of-Ty))) = t
body_in t = t

same_hidden : (q r : Qual) (m k : Mem) (t u : Ty) → Of q (Hidden m t) ≡ Of r (Hidden k u) → (m ≡ k) × (t ≡ u)
unfolding hidden-the_row-Ty-2 denote.Hole.Carrier.hidden
same_hidden q r m k t u e = (ap memory_in e, ap body_in e)

-- the value that hides a location, and the location
hiding : {hs : Heaps} {v : Val} {t : Ty} (q : Qual) (m : Mem) (u : Ty) → HasType hs (value.Pack v) t → t ≡ Of q (Hidden m u) → (l : Location) × (l.mem ≡ m) × HasType hs v (with_place l u)
hiding {hs = hs} {v = v} q m u (is_pack r l w e f h) i = let s = same_hidden r q l.mem m w u (sym e ∙ i) in (l, s.0, subst (λ (o : Ty). HasType hs v (with_place l o)) s.1 h)

-- a packed value on top is taken
packed_taken : {hs : Heaps} (g : Substitution) (q : Qual) (m : Mem) (u : Ty) (ts : List Ty) (vs : List Val) (P : List Val → Type 0) → HaveTypes hs vs (all_at g (Of q (Hidden m u) ∷ ts)) →
    ((v : Val) (us : List Val) (l : Location) → l.mem ≡ m → HasType hs v (with_place l (place_body g u)) → HaveTypes hs us (all_at g ts) → P (value.Pack v ∷ us)) → P vs
packed_taken g q m u ts [] P h then = elim h [ ]
packed_taken {hs = hs} g q m u ts (v ∷ vs) P (more_types h hv) then =
    let form : at g (Of q (Hidden m u)) ≡ Of q (Hidden m (place_body g u)) = ap (Of q) (walk-Hidden (substituting g) outside m u) in
    let r = packed_of (subst (λ (o : Ty). HasType hs v o) form h) refl in
    let i = hiding q m (place_body g u) (subst (λ (x : Val). HasType hs x (at g (Of q (Hidden m u)))) r.1 h) form in
    subst (λ (x : Val). P (x ∷ vs)) (sym r.1) (then r.0 vs i.0 i.1 i.2 hv)

deep : (l : Location) (m : Mem) → below_one (Loc m) ≡ depth_of (placed l)
unfolding below_location
deep l m = refl

mem_unpack_row_is : (sig : BlockSig) (m : _) (body : _) (f : Frame) (q : Point) → row f q (MemUnpack' sig m body) ≡ mem_unpack_row f q sig
unfolding row
mem_unpack_row_is sig m body f q = refl

unpack_safe : (sig : BlockSig) (m : _) (body : _) → BodySafe (MemUnpack' sig m body)
unpack_safe sig m body p c rest good owner results operands set b typed callers o later r go follows fit fit' =
    let x = rows.mem_unpack b.goes_on.frame b.goes_on.point sig o (sym (mem_unpack_row_is sig m body b.goes_on.frame b.goes_on.point) ∙ r) go in
    let g = b.goes_on.answers in
    let e = entering (subst (λ (y : Outcome). Follows b.goes_on.frame b.goes_on.demand b.goes_on.point (MemUnpack' sig m body) rest y later) x.given follows) in
    let a = first_arm e.arms in
    packed_taken g x.qual x.memory x.body (reverse sig.params ++ x.beneath) c.here.operands (λ us. c.here.operands ≡ us → Fine p (act p.funcs (MemUnpack' sig m body) (record c.here { rest = rest; operands = us }) c))
    (subst (λ (ts : List Ty). HaveTypes good.heaps c.here.operands (all_at g ts)) x.taken typed)
    (λ v us l is h hu same.
    let t = split us (all_at g (reverse sig.params)) (all_at g x.beneath) (subst (λ (ts : List Ty). HaveTypes good.heaps us ts) (at_append g (reverse sig.params) x.beneath) hu) in
    let many : length sig.params ≡ length t.front = sym (have_length t.front_typed ∙ at_length g (reverse sig.params) ∙ length-reverse sig.params) in
    let answered : Answer (onto (placed l) g) (scope_of (b.goes_on.point.binders ++ Loc x.memory ∷ [])) =
    subst (λ (k : Scope). Answer (onto (placed l) g) k) (sym (scope_more b.goes_on.point.binders (Loc x.memory))) (answers_location g (scope_of b.goes_on.point.binders) l x.memory b.goes_on.answered is) in
    let sized : c.here.sizes ≡ sizes_of (b.goes_on.point.binders ++ Loc x.memory ∷ []) = b.goes_on.sized ∙ ap (λ (k : Scope). map (λ (v : VariableKind). v.size) k.variables) (sym (scope_more b.goes_on.point.binders (Loc x.memory))) in
    subst (λ (turn : Turn Event Config). Fine p turn)
    (sym (top_is (length sig.params) us t.front t.back (λ taken beneath. goes_on (opened Past (length sig.results) sig c.here.sizes (items-the_row-Instr _ body) (v ∷ taken) beneath (record c.here { rest = rest; operands = value.Pack v ∷ us })) c) many t.whole))
    (entered_good p c rest good set b callers sig (items-the_row-Instr _ body) x.beneath (at (onto (placed l) g) x.body ∷ all_at g (reverse sig.params)) c.here.sizes (v ∷ t.front) t.back good.heaps (length c.stores.linear) c.stores
    (within_below p c rest good set b callers sig (items-the_row-Instr _ body) x.beneath (Loc x.memory) (placed l) x.body c.here.sizes (deep l x.memory) answered sized a.code (row_all body fit))
    e.rest fit' (nothing_turns (length c.stores.linear) good.heaps) (omega (arith, not_yet c.stores.linear))
    (more_types (subst (λ (y : Ty). HasType good.heaps v y) (place_body_at g l x.body) h) t.front_typed) t.back_typed good.stored
    (λ i n. omega (arith, ap (count_all (rights_to i n)) same, (values (rights_to i n)).joined t.front t.back, ap (count_all (rights_to i n)) t.whole))))
    refl

pub location_rows : LocationRowsAreSafe
location_rows sig m body = in_bodies (MemUnpack' sig m body) refl (unpack_safe sig m body)
