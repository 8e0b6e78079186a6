-- The row that makes an existential package.
use Rattle.std.proofs.Common.{◌≡◌, ℕ, List, [], ◌∷◌, None, refl, sym, ap, ◌∙◌, subst}
use Rattle.std.specs.Prelude.{IsTrue}
use Rattle.rw_types.specs.declared.instrs.Instr.{ExistPack}
use Rattle.rw_types.specs.declared.types.Arg.TheVariants.{Given}
use Rattle.rw_types.specs.declared.types.Heap.TheVariants.{Exist}
use Rattle.rw_types.specs.declared.types.Mem.{Mem}
use Rattle.rw_types.specs.declared.types.Mem.TheVariants.{U}
use Rattle.rw_types.specs.declared.types.Qual.{Qual}
use Rattle.rw_types.specs.declared.types.Qual.TheVariants.{Unr}
use Rattle.rw_types.specs.declared.types.Ty.{Ty}
use Rattle.rich_types.specs.Scopes.{Scope, scope_of, with_location, with_variable}
use Rattle.rich_types.specs.Sizes.{qual_under}
use Rattle.rich_types.specs.WellFormed.{IsAtMost, content_qual}
use Rattle.rich_types.specs.Instances.{raise, instance}
use Rattle.rich_types.proofs.Sized.{form-Exist}
use Rattle.rich_rules.specs.Forms.{is_formed, is_unr, is_unr_type}
use Rattle.rich_rules.specs.Points.{Gives}
use Rattle.rich_rules.specs.Raised.{one_location}
use Rattle.rich_rules.specs.Structs.{new_cell}
use Rattle.rich_rules.specs.Table.{row}
use Rattle.rich_rules.proofs.RowEquations.{row-ExistPack}
use Rattle.rich_rules_laws.proofs.Formed.{has_qual-true}
use Rattle.rich_rules_inversions.proofs.Cells.{rows}
use Rattle.rich_reduction.specs.Configurations.{Val, Hidden}
use Rattle.rich_reduction.specs.Values.{words}
use Rattle.rich_soundness_values.specs.Heaps.{IsUnr, size_of, with_type, at, all_at}
use Rattle.rich_soundness_values.specs.Values.{HasType, HaveTypes, more_types}
use Rattle.rich_soundness_values.specs.Cells.{is_package}
use Rattle.rich_soundness_rows.proofs.Closed.{unr_at}
use Rattle.rich_soundness_binders.specs.Laws.{onto}
use Rattle.rich_soundness_binders.proofs.Bodies.{typed_by, answers_variable, type_body, type_body_at, type_instance_at}
use Rattle.rich_soundness_binders.proofs.Sizes.{sizes_stay}
use Rattle.rich_soundness_frames.proofs.Acts.{Told, ActsOn, CellActs}
use Rattle.rich_soundness_frames.proofs.Formed.{new_heap_formed, least, raised_qual}
use Rattle.rich_soundness_cells.proofs.Made.{makes_acts}
use Rattle.rich_soundness_packages.proofs.Beneath.{package_raised}

-- the body of a package in the unrestricted memory is `unr`
body_unr : (c : Scope) (m : Mem) (q : Qual) (s : ℕ) (t : Ty) → IsTrue (is_formed c (new_cell m (Exist q s (raise one_location t)))) → m ≡ U → IsTrue (is_unr_type (with_variable q s c) t)
body_unr c m q s t formed u =
    let w = subst (λ (P : Type 0). P) (form-Exist (with_location m c) m q s (raise one_location t)) (new_heap_formed c m (Exist q s (raise one_location t)) formed) in
    ap is_unr (sym (raised_qual (with_variable q s c) m t) ∙ least _ (subst (λ (k : Qual). IsAtMost (qual_under (with_variable q s (with_location m c)) (raise one_location t)) k) (ap content_qual u) w.2))

pub pack_acts : (m : Mem) (k : Qual) (size : ℕ) (t body : Ty) → CellActs (ExistPack m k size t body)
pack_acts m k size t body funcs f hs q g here c vs s =
    let x = rows.exist_pack (scope_of q.binders) m k size t body q.operands (row f q (ExistPack m k size t body)) (sym (row-ExistPack f q m k size t body)) s.goes in
    let sized : size_of (at g t) ≡ size = sizes_stay g (scope_of q.binders) t s.answered ∙ x.size in
    let hidden : k ≡ Unr → IsUnr (at g t) = λ e. unr_at g (scope_of q.binders) t s.answered (ap is_unr (has_qual-true (scope_of q.binders) k t x.qual ∙ e)) in
    let answered = answers_variable g (scope_of q.binders) (at g t) k size s.answered sized hidden in
    let inside : with_type (at g t) (type_body g body) ≡ at (onto (typed_by (at g t)) g) body = type_body_at g (at g t) body in
    go vs x.beneath (subst (λ (ts : List Ty). HaveTypes hs vs (all_at g ts)) x.taken s.operands) s x.given sized hidden
    (λ e. subst IsUnr (sym inside) (unr_at (onto (typed_by (at g t)) g) (with_variable k size (scope_of q.binders)) body answered (body_unr (scope_of q.binders) m k size body x.formed e)))
    (λ v h. subst (λ (o : Ty). HasType hs v o) (type_instance_at g t body ∙ sym inside) h)
  where
    go : (vs : List Val) (beneath : List Ty) → HaveTypes hs vs (all_at g (instance body (Given t ∷ []) ∷ beneath)) → Told hs f q g (ExistPack m k size t body) c vs → row f q (ExistPack m k size t body) ≡ Gives (new_cell m (Exist k size (raise one_location body)) ∷ beneath) None →
        size_of (at g t) ≡ size → (k ≡ Unr → IsUnr (at g t)) → (m ≡ U → IsUnr (with_type (at g t) (type_body g body))) → ((v : Val) → HasType hs v (at g (instance body (Given t ∷ []))) → HasType hs v (with_type (at g t) (type_body g body))) →
        ActsOn funcs f hs q g here c (ExistPack m k size t body) vs
    go [] beneath h told e sized hidden unr typed = elim h [ ]
    go (v ∷ vs) beneath (more_types h hv) told e sized hidden unr typed =
        makes_acts told m (Exist k size (raise one_location body)) (Exist k size (type_body g body)) (record { words = words v; content = Hidden size v }) vs beneath e refl
        (λ l. package_raised g l k size body)
        (is_package k (type_body g body) (at g t) refl hidden sized unr (typed v h)) hv
        (λ r j. refl)
