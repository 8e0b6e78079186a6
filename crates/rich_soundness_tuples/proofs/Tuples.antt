-- Rows that make a tuple, take one apart, and name a function.
use Rattle.std.proofs.Common.{◌≡◌, ◌≤◌, ℕ, List, [], ◌∷◌, ◌++◌, None, length, take, drop, reverse, refl, sym, ap, ◌∙◌, subst, arith}
use Rattle.std.specs.Prelude.{slice_get, IsTrue}
use Rattle.rw_types.specs.declared.instrs.Instr.{Group, Ungroup, Coderef}
use Rattle.rw_types.specs.declared.types.FunType.{FunType}
use Rattle.rw_types.specs.declared.types.Pre.{Tuple'}
use Rattle.rw_types.specs.declared.types.Pre.TheVariants.{Tuple}
use Rattle.rw_types.specs.declared.types.Qual.{Qual}
use Rattle.rw_types.specs.declared.types.Qual.TheVariants.{Unr, Lin}
use Rattle.rw_types.specs.declared.types.Ty.{Ty, Of, items-the_row-Ty, items_hidden-the_row-Ty-1}
use Rattle.rich_types.specs.Scopes.{Scope, scope_of}
use Rattle.rich_types.specs.Sizes.{qual_under}
use Rattle.rich_types.specs.WellFormed.{IsAtMost, AreParts}
use Rattle.rich_types.specs.Walks.{outside}
use Rattle.rich_types.specs.Instances.{Substitution, substituting}
use Rattle.rich_types.proofs.Shapes.{walk-Tuple, walk-Code}
use Rattle.rich_types.proofs.Sized.{form-Tuple}
use Rattle.rich_rules.specs.Forms.{is_formed, is_unr}
use Rattle.rich_rules.specs.Points.{Gives}
use Rattle.rich_rules.specs.Table.{row}
use Rattle.rich_rules.proofs.RowEquations.{row-Group, row-Ungroup, row-Coderef}
use Rattle.rich_rules_laws.proofs.Formed.{formed-true}
use Rattle.rich_rules_inversions.proofs.Bodies.{rows}
use Rattle.rich_reduction.specs.Configurations as value
use Rattle.rich_reduction.specs.Configurations.{Val, Vals, Here, Config}
use Rattle.rich_reduction.specs.Turns.{leaves}
use Rattle.rich_reduction.specs.Values.{parts_of, list_of}
use Rattle.rich_rights.specs.Rights.{rights_to}
use Rattle.rich_rights_laws.proofs.Sums.{values}
use Rattle.rich_soundness_values.specs.Heaps.{Heaps, Answer, AreUnr, all_at, at}
use Rattle.rich_soundness_values.specs.Values.{HasType, HaveTypes, more_types, HaveParts, is_tuple, is_code}
use Rattle.rich_soundness_rows.proofs.Moves.{ActsOn, moves, RowActs, safe}
use Rattle.rich_soundness_rows.proofs.Closed.{unr_at, at_length}
use Rattle.rich_soundness_rows.proofs.Forms.{tuple_of}
use Rattle.rich_soundness_tuples.specs.Laws.{TupleRowsAreSafe}
use Rattle.rich_soundness_tuples.proofs.Lists.{top, have_length, have_append, parts_typed, list_typed, have_reverse, have_take, have_drop, at_append, at_reverse, at_take, at_drop, count_split}

-- parts of what is `unr` are `unr`
least : (c : Scope) (t : Ty) → IsAtMost (qual_under c t) Unr → qual_under c t ≡ Unr
least c t a = by_qual (qual_under c t) a
  where
    by_qual : (q : Qual) → IsAtMost q Unr → q ≡ Unr
    by_qual Unr a = refl
    by_qual Lin a = absurd a

are_unr : (g : Substitution) (c : Scope) (ts : List Ty) → Answer g c → AreParts c Unr ts → AreUnr (all_at g ts)
are_unr g c [] a p = tt
are_unr g c (t ∷ ts) a p = (unr_at g c t a (ap is_unr (least c t p.1)), are_unr g c ts a p.2)

parts_unr : (g : Substitution) (c : Scope) (q : Qual) (ts : List Ty) → Answer g c → IsTrue (is_formed c (Of q (Tuple ts))) → q ≡ Unr → AreUnr (all_at g ts)
parts_unr g c q ts a formed u =
    let w = subst (λ (P : Type 0). P) (form-Tuple c q ts) (formed-true c (Of q (Tuple ts)) formed).1 in
    are_unr g c ts a (subst (λ (k : Qual). AreParts c k ts) u w)

tuple_at : (g : Substitution) (q : Qual) (ts : List Ty) → at g (Of q (Tuple ts)) ≡ Of q (Tuple (all_at g ts))
tuple_at g q ts = ap (Of q) (walk-Tuple (substituting g) outside ts)

-- the parts of a tuple type
abbrev parts_in : Ty → List Ty
parts_in (Of q (Tuple' m ts)) = items-the_row-Ty _ ts
parts_in t = []

tuple_parts : {hs : Heaps} {parts : Vals} {t : Ty} (q : Qual) (ts : List Ty) → HasType hs (value.Tuple parts) t → t ≡ Of q (Tuple ts) → HaveParts hs parts ts
tuple_parts {hs = hs} {parts = parts} q ts (is_tuple k us e u h) z = subst (λ (l : List Ty). HaveParts hs parts l) (sym (items_hidden-the_row-Ty-1 us) ∙ ap parts_in (sym e ∙ z) ∙ items_hidden-the_row-Ty-1 ts) h

group_acts : (n : ℕ) (k : Qual) → RowActs (Group n k)
group_acts n k funcs f hs q g here c vs ls s =
    let x = rows.group (scope_of q.binders) n k q.operands (row f q (Group n k)) (sym (row-Group f q n k)) s.goes in
    let few : n ≤ length vs = subst (λ (m : ℕ). n ≤ m) (sym (at_length g q.operands) ∙ sym (have_length s.operands)) x.enough in
    let front = subst (λ (ts : List Ty). HaveTypes hs (take n vs) ts) (sym (at_take g n q.operands)) (have_take n s.operands) in
    let back = subst (λ (ts : List Ty). HaveTypes hs (drop n vs) ts) (sym (at_drop g n q.operands)) (have_drop n s.operands) in
    moves _ None [] (value.Tuple (parts_of (reverse (take n vs))) ∷ drop n vs) ls x.given
    (top n vs (λ taken beneath. leaves (value.Tuple (parts_of (reverse taken)) ∷ beneath) (record here { operands = vs; locals = ls }) c) few)
    (more_types (is_tuple k (all_at g (reverse (take n q.operands))) (tuple_at g k (reverse (take n q.operands))) (parts_unr g (scope_of q.binders) k (reverse (take n q.operands)) s.answered x.formed)
    (parts_typed (subst (λ (ts : List Ty). HaveTypes hs (reverse (take n vs)) ts) (sym (at_reverse g (take n q.operands))) (have_reverse front)))) back)
    s.locals
    (λ r m. omega (arith, (values (rights_to r m)).grouped (reverse (take n vs)), (values (rights_to r m)).reversed (take n vs), count_split (rights_to r m) n vs))

ungroup_acts : RowActs Ungroup
ungroup_acts funcs f hs q g here c vs ls s =
    let x = rows.ungroup q.operands (row f q Ungroup) (sym (row-Ungroup f q)) s.goes in
    go vs x.qual x.parts x.beneath (subst (λ (ts : List Ty). HaveTypes hs vs (all_at g ts)) x.taken s.operands) x.given
  where
    go : (vs : List Val) (k : Qual) (ts beneath : List Ty) → HaveTypes hs vs (all_at g (Of k (Tuple ts) ∷ beneath)) → row f q Ungroup ≡ Gives (reverse ts ++ beneath) None → ActsOn funcs f hs q g here c Ungroup vs ls
    go [] k ts beneath h e = elim h [ ]
    go (v ∷ vs) k ts beneath (more_types h hv) e =
        let t = subst (λ (u : Ty). HasType hs v u) (tuple_at g k ts) h in
        let r = tuple_of t refl in
        let parts = tuple_parts k (all_at g ts) (subst (λ (y : Val). HasType hs y (Of k (Tuple (all_at g ts)))) r.1 t) refl in
        subst (λ (y : Val). ActsOn funcs f hs q g here c Ungroup (y ∷ vs) ls) (sym r.1)
        (moves _ None [] (reverse (list_of r.0) ++ vs) ls e refl
        (subst (λ (us : List Ty). HaveTypes hs (reverse (list_of r.0) ++ vs) us) (ap (λ (us : List Ty). us ++ all_at g beneath) (sym (at_reverse g ts)) ∙ sym (at_append g (reverse ts) beneath)) (have_append (have_reverse (list_typed parts)) hv))
        s.locals
        (λ i m. omega (arith, (values (rights_to i m)).joined (reverse (list_of r.0)) vs, (values (rights_to i m)).reversed (list_of r.0), (values (rights_to i m)).ungrouped r.0)))

coderef_acts : (n : ℕ) → RowActs (Coderef n)
coderef_acts n funcs f hs q g here c vs ls s =
    let x = rows.coderef f (scope_of q.binders) n q.operands (row f q (Coderef n)) (sym (row-Coderef f q n)) s.goes in
    moves _ None [] (value.Code n ∷ vs) ls x.given refl
    (more_types (is_code Unr x.function g (ap (λ (fs : List FunType). slice_get fs n) s.functions ∙ x.found) (ap (Of Unr) (walk-Code (substituting g) outside x.function))) s.operands)
    s.locals (λ r m. omega arith)

pub tuple_rows : TupleRowsAreSafe
tuple_rows = record { group = λ n q. safe (Group n q) refl (group_acts n q); ungroup = safe Ungroup refl ungroup_acts; coderef = λ n. safe (Coderef n) refl (coderef_acts n) }
