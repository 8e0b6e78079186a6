-- Rows that fold and unfold a value, and that hide a location.
use Rattle.std.proofs.Common.{◌≡◌, ℕ, List, [], ◌∷◌, None, refl, sym, ap, ◌∙◌, subst}
use Rattle.rw_types.specs.declared.instrs.Instr.{RecFold, RecUnfold, MemPack}
use Rattle.rw_types.specs.declared.types.Arg.TheVariants.{Loc, Given}
use Rattle.rw_types.specs.declared.types.Heap.TheBlock.{hidden-the_row-Ty-2}
use Rattle.rw_types.specs.declared.types.Mem.{Mem}
use Rattle.rw_types.specs.declared.types.Pre.TheVariants.{Hidden}
use Rattle.rw_types.specs.declared.types.Qual.{Qual}
use Rattle.rw_types.specs.declared.types.Ty.{Ty, Of, Rec', end_of-Ty, more_of-Ty}
use Rattle.rw_types.specs.declared.types.Ty.TheVariants.{Rec}
use Rattle.rich_types.specs.Scopes.{Scope, scope_of, with_location, with_variable}
use Rattle.rich_types.specs.Sizes.{qual_under}
use Rattle.rich_types.specs.WellFormed.{IsWellFormed}
use Rattle.rich_types.specs.Walks.{outside}
use Rattle.rich_types.specs.Instances.{Substitution, substituting, instance}
use Rattle.rich_types.proofs.Shapes.{walk-Rec, walk-Hidden}
use Rattle.rich_types.proofs.Sized.{form-Rec}
use Rattle.rich_rules.specs.Forms.{is_unr}
use Rattle.rich_rules.specs.Points.{Gives}
use Rattle.rich_rules.specs.Table.{row}
use Rattle.rich_rules.proofs.RowEquations.{row-RecFold, row-RecUnfold, row-MemPack}
use Rattle.rich_rules_laws.proofs.Formed.{formed-true}
use Rattle.rich_rules_inversions.proofs.Bodies.{rows}
use Rattle.rich_reduction.specs.Configurations as value
use Rattle.rich_reduction.specs.Configurations.{Val, Location, Here, Config}
use Rattle.rich_soundness_values.specs.Heaps.{Heaps, IsUnr, size_of, with_type, with_place, at, all_at}
use Rattle.rich_soundness_values.specs.Values.{HasType, HaveTypes, more_types, is_fold, is_pack}
use Rattle.rich_soundness_rows.proofs.Moves.{ActsOn, moves, RowActs, safe}
use Rattle.rich_soundness_rows.proofs.Closed.{unr_at, names_at}
use Rattle.rich_soundness_rows.proofs.Forms.{folded_of}
use Rattle.rich_soundness_binders.specs.Laws.{onto}
use Rattle.rich_soundness_binders.proofs.Sizes.{sizes_stay}
use Rattle.rich_soundness_packs.specs.Laws.{PackRowsAreSafe}
use Rattle.rich_soundness_binders.proofs.Bodies.{placed, typed_by, answers_location, answers_variable, place_body, type_body, place_body_at, type_body_at, type_instance_at, place_instance_at}

pub rec_at : (g : Substitution) (q : Qual) (s : ℕ) (t : Ty) → at g (Rec q s t) ≡ Rec q s (type_body g t)
rec_at g q s t = walk-Rec (substituting g) outside q s t

-- the body of a recursive type
abbrev body_in : Ty → Ty
body_in (Rec' q s a (more_of-Ty t end_of-Ty)) = t
body_in t = t

same_rec : (q r : Qual) (s z : ℕ) (t u : Ty) → Rec q s t ≡ Rec r z u → t ≡ u
unfolding hidden-the_row-Ty-2 denote.Hole.Carrier.hidden
same_rec q r s z t u e = ap body_in e

folded : {hs : Heaps} {v : Val} {t : Ty} (q : Qual) (s : ℕ) (u : Ty) → HasType hs (value.Fold v) t → t ≡ Rec q s u → HasType hs v (with_type t u)
folded {hs = hs} {v = v} {t = t} q s u (is_fold r z w e f size h) i = subst (λ (o : Ty). HasType hs v (with_type t o)) (same_rec r q z s w u (sym e ∙ i)) h

fold_acts : (t : Ty) → RowActs (RecFold t)
fold_acts t funcs f hs q g here c vs ls s =
    let x = rows.rec_fold (scope_of q.binders) t q.operands (row f q (RecFold t)) (sym (row-RecFold f q t)) s.goes in
    let w = subst (λ (P : Type 0). P) (form-Rec (scope_of q.binders) x.qual x.size x.body) (subst (IsWellFormed (scope_of q.binders)) x.form (formed-true (scope_of q.binders) t x.formed)) in
    let whole : at g t ≡ Rec x.qual x.size (type_body g x.body) = ap (at g) x.form ∙ rec_at g x.qual x.size x.body in
    let answered = answers_variable g (scope_of q.binders) (at g t) x.qual x.size s.answered (ap size_of whole) (λ u. ap (qual_under (record { locations = []; variables = [] })) whole ∙ u) in
    let inside : with_type (at g t) (type_body g x.body) ≡ at (onto (typed_by (at g t)) g) x.body = type_body_at g (at g t) x.body in
    let scope : Scope = with_variable x.qual x.size (scope_of q.binders) in
    go vs (instance x.body (Given t ∷ [])) x.beneath (subst (λ (ts : List Ty). HaveTypes hs vs (all_at g ts)) x.taken s.operands) x.given
    (λ v h. is_fold x.qual x.size (type_body g x.body) whole
    (λ u. subst IsUnr (sym inside) (unr_at (onto (typed_by (at g t)) g) scope x.body answered (ap is_unr (w.2.0 ∙ u))))
    (ap size_of inside ∙ sizes_stay (onto (typed_by (at g t)) g) scope x.body answered ∙ w.2.1)
    (subst (λ (o : Ty). HasType hs v o) (type_instance_at g t x.body ∙ sym inside) h))
  where
    go : (vs : List Val) (u : Ty) (beneath : List Ty) → HaveTypes hs vs (all_at g (u ∷ beneath)) → row f q (RecFold t) ≡ Gives (t ∷ beneath) None → ((v : Val) → HasType hs v (at g u) → HasType hs (value.Fold v) (at g t)) → ActsOn funcs f hs q g here c (RecFold t) vs ls
    go [] u beneath h e fold = elim h [ ]
    go (v ∷ vs) u beneath (more_types h hv) e fold = moves _ None [] (value.Fold v ∷ vs) ls e refl (more_types (fold v h) hv) s.locals (λ r n. refl)

unfold_acts : RowActs RecUnfold
unfold_acts funcs f hs q g here c vs ls s =
    let x = rows.rec_unfold q.operands (row f q RecUnfold) (sym (row-RecUnfold f q)) s.goes in
    go vs x.qual x.size x.body x.beneath (subst (λ (ts : List Ty). HaveTypes hs vs (all_at g ts)) x.taken s.operands) x.given
  where
    go : (vs : List Val) (k : Qual) (z : ℕ) (t : Ty) (beneath : List Ty) → HaveTypes hs vs (all_at g (Rec k z t ∷ beneath)) → row f q RecUnfold ≡ Gives (instance t (Given (Rec k z t) ∷ []) ∷ beneath) None → ActsOn funcs f hs q g here c RecUnfold vs ls
    go [] k z t beneath h e = elim h [ ]
    go (v ∷ vs) k z t beneath (more_types h hv) e =
        let r = folded_of (subst (λ (o : Ty). HasType hs v o) (rec_at g k z t) h) refl in
        let inside = folded k z (type_body g t) (subst (λ (y : Val). HasType hs y (at g (Rec k z t))) r.1 h) (rec_at g k z t) in
        subst (λ (y : Val). ActsOn funcs f hs q g here c RecUnfold (y ∷ vs) ls) (sym r.1)
        (moves _ None [] (r.0 ∷ vs) ls e refl
        (more_types (subst (λ (o : Ty). HasType hs r.0 o) (type_body_at g (at g (Rec k z t)) t ∙ sym (type_instance_at g (Rec k z t) t)) inside) hv)
        s.locals (λ r n. refl))

pack_acts : (l : ℕ) (t : Ty) → RowActs (MemPack l t)
pack_acts l t funcs f hs q g here c vs ls s =
    let x = rows.mem_pack (scope_of q.binders) l t q.operands (row f q (MemPack l t)) (sym (row-MemPack f q l t)) s.goes in
    let n = names_at g (scope_of q.binders) l x.memory s.answered x.found in
    let k : Qual = qual_under (with_location x.memory (scope_of q.binders)) t in
    let inside : with_place n.place (place_body g t) ≡ at (onto (placed n.place) g) t = place_body_at g n.place t in
    let form : at g (Of k (Hidden x.memory t)) ≡ Of k (Hidden n.place.mem (place_body g t)) = ap (Of k) (walk-Hidden (substituting g) outside x.memory t) ∙ ap (λ (m : Mem). Of k (Hidden m (place_body g t))) (sym n.within) in
    go vs (instance t (Loc l ∷ [])) x.beneath k x.memory (subst (λ (ts : List Ty). HaveTypes hs vs (all_at g ts)) x.taken s.operands) x.given
    (λ v h. is_pack k n.place (place_body g t) form
    (λ u. subst IsUnr (sym inside) (unr_at (onto (placed n.place) g) (with_location x.memory (scope_of q.binders)) t (answers_location g (scope_of q.binders) n.place x.memory s.answered n.within) (ap is_unr u)))
    (subst (λ (o : Ty). HasType hs v o) (place_instance_at g l n.place t n.named ∙ sym inside) h))
  where
    go : (vs : List Val) (u : Ty) (beneath : List Ty) (k : Qual) (m : Mem) → HaveTypes hs vs (all_at g (u ∷ beneath)) → row f q (MemPack l t) ≡ Gives (Of k (Hidden m t) ∷ beneath) None → ((v : Val) → HasType hs v (at g u) → HasType hs (value.Pack v) (at g (Of k (Hidden m t)))) → ActsOn funcs f hs q g here c (MemPack l t) vs ls
    go [] u beneath k m h e pack = elim h [ ]
    go (v ∷ vs) u beneath k m (more_types h hv) e pack = moves _ None [] (value.Pack v ∷ vs) ls e refl (more_types (pack v h) hv) s.locals (λ r n. refl)

pub pack_rows : PackRowsAreSafe
pack_rows = record {
  fold = λ t. safe (RecFold t) refl (fold_acts t);
  unfold_one = safe RecUnfold refl unfold_acts;
  pack = λ l t. safe (MemPack l t) refl (pack_acts l t);
}
