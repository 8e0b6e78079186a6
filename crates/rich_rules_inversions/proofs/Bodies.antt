-- The rows on operands, variables, branches, lists and functions, inverted: taker by taker.
use Rattle.std.proofs.Common.{◌≡◌, ◌∙◌, ℕ, List, [], ◌∷◌, ◌++◌, Bool, true, false, not, Option, Some, None, refl, ap, sym, length, take, reverse}
use Rattle.std.specs.Prelude.{IsTrue, IsFalse, nat_lt, slice_get, ◌==◌}
use Rattle.std.proofs.lemmas.Bool.{eqb-true}
use Rattle.rw_types.specs.declared.instrs.BlockSig.{BlockSig}
use Rattle.rw_types.specs.declared.types.Arg.{Arg}
use Rattle.rw_types.specs.declared.types.Arg.TheVariants.{Given, Loc as to_location}
use Rattle.rw_types.specs.declared.types.Binder.{Binder}
use Rattle.rw_types.specs.declared.types.Binder.TheVariants.{Kind, Loc}
use Rattle.rw_types.specs.declared.types.Pre.TheVariants.{Hidden, Tuple}
use Rattle.rw_types.specs.declared.types.Qual.{Qual}
use Rattle.rw_types.specs.declared.types.Ty.{Of, Ty}
use Rattle.rich_types.specs.Scopes.{Scope, memory_of, scope_of, with_location}
use Rattle.rich_types.specs.Instances.{instance}
use Rattle.rich_types.specs.Sizes.{qual_under}
use Rattle.rich_typing.specs.declared.rules.Rule.TheVariants as rule
use Rattle.rich_rules.specs.Forms.{first_ill_formed, fits, is_formed, is_rw, is_unr_type}
use Rattle.rich_rules.specs.Points.{Ends, Enters, Frame, Label, OfFunction, OfGlobal, Outcome, Owner, Point}
use Rattle.rich_rules.specs.Raised.{instances}
use Rattle.rich_rules.specs.Takers.{first_difference, first_held, gives, gives_all_formed, gives_formed, hidden_form, need, of_type, package_form, unr_i32, variant_form, without}
use Rattle.rich_rules.specs.Plain.{drop_row, fold_row, from_to, group_row, qualify_row, unfold_row, ungroup_row}
use Rattle.rich_rules.specs.Variables.{fits_slot, global_get_row, global_set_row, local_get_row, local_set_row, local_take_row, may_get}
use Rattle.rich_rules.specs.Branches.{br_if_row, br_row, crossed, crossing, return_row}
use Rattle.rich_rules.specs.Blocks.{block_row, each_alone, end_label, entry, entry_below, exist_unpack_row, if_row, loop_row, mem_unpack_row, start_label, variant_case_row}
use Rattle.rich_rules.specs.Calls.{answer_all, are_locations, argument_types, call_indirect_row, call_row, coderef_row, has_none, inst_row, with_arguments}
use Rattle.rich_rules.specs.Rights.{mem_pack_row}
use Rattle.rich_rules_inversions.specs.Cells.{Goes}
use Rattle.rich_rules_inversions.specs.Bodies as s
use Rattle.rich_rules_inversions.specs.Bodies.{BodyRowsInverted}
use Rattle.rich_rules_inversions.proofs.Takers.{gives_formed-passed, need-passed, of_type-passed, one-passed, rw_is, taking-passed, this-passed, with_some-passed, without-passed, without_difference-passed}
use Rattle.rich_rules_inversions.proofs.MoreTakers.{code_form-passed, gives_all_formed-passed, hidden_form-passed, one_over-passed, package_form-passed, rec_form-passed, signed-passed, these-passed, tuple_form-passed, unr_form-passed, variant_form-passed}

in_place : (operands beneath : List Ty) (t u : Ty) → operands ≡ t ∷ beneath → t ≡ u → operands ≡ u ∷ beneath
in_place operands beneath t u e f = e ∙ ap (λ (x : Ty). x ∷ beneath) f

is_false : (b : Bool) → IsTrue (not b) → IsFalse b
is_false true e = cc
is_false false e = refl

no_binders : (bs : List Binder) → IsTrue (has_none bs) → bs ≡ []
no_binders [] e = refl
no_binders (b ∷ bs) e = cc

row_from_to : (demanded given operands : List Ty) (o : Outcome) → from_to demanded given operands ≡ o → Goes o → s.TakesThese demanded given operands o
row_from_to demanded given operands o r go = let a = these-passed o go demanded operands (gives given) r in record { beneath = a.0; taken = a.1; result = sym a.2 }

row_drop : (c : Scope) (operands : List Ty) (o : Outcome) → drop_row c operands ≡ o → Goes o → s.Drops c operands o
row_drop c operands o r go =
    let a = one-passed o go operands _ r in
    let b = need-passed o go (is_unr_type c a.0) _ _ _ _ a.3 in
    record { beneath = a.1; value = a.0; taken = a.2; unrestricted = b.0; given = sym b.1 }

row_qualify : (operands : List Ty) (o : Outcome) → qualify_row operands ≡ o → Goes o → s.Qualifies operands o
row_qualify operands o r go =
    let a = one-passed o go operands _ r in
    let b = unr_form-passed o go a.0 _ a.3 in
    record { beneath = a.1; qual = b.0; form = b.1; taken = in_place operands a.1 a.0 _ a.2 b.2; unrestricted = b.3; given = sym b.4 }

row_fold : (c : Scope) (t : Ty) (operands : List Ty) (o : Outcome) → fold_row c t operands ≡ o → Goes o → s.Folds c t operands o
row_fold c t operands o r go =
    let a = need-passed o go (is_formed c t) _ _ _ _ r in
    let b = rec_form-passed o go t _ a.1 in
    let d = this-passed o go (instance b.2 (Given t ∷ [])) operands (gives_formed c t) b.4 in
    let e = gives_formed-passed o go c t d.0 d.2 in
    record { beneath = d.0; qual = b.0; size = b.1; body = b.2; form = b.3; formed = a.0; taken = d.1; given = e.1 }

row_unfold : (operands : List Ty) (o : Outcome) → unfold_row operands ≡ o → Goes o → s.Unfolds operands o
row_unfold operands o r go =
    let a = one-passed o go operands _ r in
    let b = rec_form-passed o go a.0 (λ body. gives (instance body (Given a.0 ∷ []) ∷ []) a.1) a.3 in
    record { beneath = a.1; qual = b.0; size = b.1; body = b.2; taken = in_place operands a.1 a.0 _ a.2 b.3; given = sym b.4 ∙ ap (λ (t : Ty). gives (instance b.2 (Given t ∷ []) ∷ []) a.1) b.3 }

row_group : (c : Scope) (n : ℕ) (q : Qual) (operands : List Ty) (o : Outcome) → group_row c n q operands ≡ o → Goes o → s.Groups c n q operands o
row_group c n q operands o r go =
    let a = taking-passed o go n operands (λ taken beneath. gives_formed c (Of q (Tuple (reverse taken))) beneath) r in
    let b = gives_formed-passed o go c (Of q (Tuple (reverse (take n operands)))) _ a.1 in
    record { enough = a.0; formed = b.0; given = b.1 }

row_ungroup : (operands : List Ty) (o : Outcome) → ungroup_row operands ≡ o → Goes o → s.Ungroups operands o
row_ungroup operands o r go =
    let a = one-passed o go operands _ r in
    let b = tuple_form-passed o go a.0 _ a.3 in
    record { beneath = a.1; qual = b.0; parts = b.1; taken = in_place operands a.1 a.0 _ a.2 b.2; given = sym b.3 }

row_local_get : (c : Scope) (locals : List Ty) (n : ℕ) (operands : List Ty) (o : Outcome) → local_get_row c locals n operands ≡ o → Goes o → s.GetsLocal c locals n operands o
row_local_get c locals n operands o r go =
    let a = with_some-passed o go (slice_get locals n) _ _ _ r in
    let b = need-passed o go (is_unr_type c a.0) _ _ _ _ a.2 in
    record { value = a.0; found = a.1; unrestricted = b.0; given = sym b.1 }

row_local_take : (c : Scope) (locals : List Ty) (n : ℕ) (operands : List Ty) (o : Outcome) → local_take_row c locals n operands ≡ o → Goes o → s.TakesLocal c locals n operands o
row_local_take c locals n operands o r go =
    let a = with_some-passed o go (slice_get locals n) _ _ _ r in
    let b = need-passed o go (not (is_unr_type c a.0)) _ _ _ _ a.2 in
    record { value = a.0; found = a.1; held = is_false (is_unr_type c a.0) b.0; given = sym b.1 }

fits_slot-passed : (o : Outcome) → Goes o → (c : Scope) (x : Option ℕ) (t : Ty) (rest : Outcome) → fits_slot c x t rest ≡ o → s.FitsSlot c x t × (rest ≡ o)
fits_slot-passed o go c (Some n) t rest r = need-passed o go (fits c n t) _ _ _ _ r
fits_slot-passed o go c None t rest r = (tt, r)

row_local_set : (c : Scope) (slots : List ℕ) (locals : List Ty) (n : ℕ) (operands : List Ty) (o : Outcome) → local_set_row c slots locals n operands ≡ o → Goes o → s.SetsLocal c slots locals n operands o
row_local_set c slots locals n operands o r go =
    let a = with_some-passed o go (slice_get locals n) _ _ _ r in
    let b = one-passed o go operands _ a.2 in
    let d = need-passed o go (is_unr_type c a.0) _ _ _ _ b.3 in
    let e = fits_slot-passed o go c (slice_get slots n) b.0 _ d.1 in
    record { beneath = b.1; value = b.0; before = a.0; found = a.1; taken = b.2; unrestricted = d.0; fit = e.0; given = sym e.1 }

may_get-passed : (o : Outcome) → Goes o → (x : Owner) (n : ℕ) (rest : Outcome) → may_get x n rest ≡ o → s.MayGet x n × (rest ≡ o)
may_get-passed o go OfFunction n rest r = (tt, r)
may_get-passed o go (OfGlobal own) n rest r = need-passed o go (nat_lt n own) _ _ _ _ r

row_global_get : (f : Frame) (c : Scope) (n : ℕ) (operands : List Ty) (o : Outcome) → global_get_row f c n operands ≡ o → Goes o → s.GetsGlobal f c n operands o
row_global_get f c n operands o r go =
    let w = may_get-passed o go f.owner n _ r in
    let a = with_some-passed o go (slice_get f.globals n) _ _ _ w.1 in
    let b = gives_formed-passed o go c a.0.ty operands a.2 in
    record { variable = a.0; allowed = w.0; found = a.1; formed = b.0; given = b.1 }

row_global_set : (f : Frame) (n : ℕ) (operands : List Ty) (o : Outcome) → global_set_row f n operands ≡ o → Goes o → s.SetsGlobal f n operands o
row_global_set f n operands o r go =
    let a = with_some-passed o go (slice_get f.globals n) _ _ _ r in
    let b = need-passed o go a.0.mutable _ _ _ _ a.2 in
    let d = this-passed o go a.0.ty operands (gives []) b.1 in
    record { beneath = d.0; variable = a.0; found = a.1; mutable = b.0; taken = d.1; given = sym d.2 }

-- a branch leaves what is `unr`, and the locals of its label
crossing-passed : (o : Outcome) → Goes o → (p : Point) (k : ℕ) (l : Label) (beneath : List Ty) (rest : Outcome) → crossing p k l beneath rest ≡ o → (crossed p k beneath ≡ None) × (first_difference p.locals l.locals ≡ None) × (rest ≡ o)
crossing-passed o go p k l beneath rest r =
    let a = without-passed o go (crossed p k beneath) _ _ r in
    let b = without_difference-passed o go (first_difference p.locals l.locals) _ _ a.1 in
    (a.0, b.0, b.1)

row_br : (p : Point) (k : ℕ) (o : Outcome) → br_row p k ≡ o → Goes o → s.Branches p k o
row_br p k o r go =
    let a = with_some-passed o go (slice_get p.labels k) _ _ _ r in
    let b = these-passed o go a.0.types p.operands (λ beneath. crossing p k a.0 beneath Ends) a.2 in
    let d = crossing-passed o go p k a.0 b.0 Ends b.2 in
    record { beneath = b.0; label = a.0; found = a.1; taken = b.1; skipped = d.0; same = d.1; given = sym d.2 }

row_br_if : (p : Point) (k : ℕ) (o : Outcome) → br_if_row p k ≡ o → Goes o → s.MayBranch p k o
row_br_if p k o r go =
    let a = with_some-passed o go (slice_get p.labels k) _ _ _ r in
    let b = one_over-passed o go a.0.types p.operands (λ t beneath. of_type unr_i32 t (crossing p k a.0 beneath (gives a.0.types beneath))) a.2 in
    let d = of_type-passed o go unr_i32 b.0 _ b.3 in
    let e = crossing-passed o go p k a.0 b.1 (gives a.0.types b.1) d.1 in
    record { beneath = b.1; label = a.0; found = a.1; taken = in_place p.operands (a.0.types ++ b.1) b.0 _ b.2 d.0; skipped = e.0; same = e.1; given = sym e.2 }

row_return : (p : Point) (o : Outcome) → return_row p ≡ o → Goes o → s.Returns p o
row_return p o r go =
    let a = these-passed o go p.results p.operands (λ beneath. without (crossed p (length p.labels) beneath) rule.Crossed (without (first_held (scope_of p.binders) p.locals) rule.LocalsDiffer Ends)) r in
    let b = without-passed o go (crossed p (length p.labels) a.0) rule.Crossed _ a.2 in
    let d = without-passed o go (first_held (scope_of p.binders) p.locals) rule.LocalsDiffer Ends b.1 in
    record { beneath = a.0; taken = a.1; skipped = b.0; unrestricted = d.0; given = sym d.1 }

module _ (f : Frame) (p : Point) (b : BlockSig) where
  row_block : (o : Outcome) → block_row f p b ≡ o → Goes o → s.EntersBlock f p b o
  row_block o r go =
      let a = signed-passed o go f p b _ r in
      let d = these-passed o go (reverse b.params) p.operands (λ beneath. Enters (entry p b (end_label p b beneath) beneath [])) a.1 in
      record { is_signed = a.0; beneath = d.0; taken = d.1; given = sym d.2 }

  row_loop : (o : Outcome) → loop_row f p b ≡ o → Goes o → s.EntersLoop f p b o
  row_loop o r go =
      let a = signed-passed o go f p b _ r in
      let d = these-passed o go (reverse b.params) p.operands (λ beneath. Enters (entry p b (start_label p b beneath) beneath [])) a.1 in
      record { is_signed = a.0; beneath = d.0; taken = d.1; given = sym d.2 }

  row_if : (o : Outcome) → if_row f p b ≡ o → Goes o → s.EntersArms f p b o
  row_if o r go =
      let a = signed-passed o go f p b _ r in
      let d = one_over-passed o go (reverse b.params) p.operands (λ t beneath. of_type unr_i32 t (Enters (entry p b (end_label p b beneath) beneath []))) a.1 in
      let e = of_type-passed o go unr_i32 d.0 _ d.3 in
      record { is_signed = a.0; beneath = d.1; taken = in_place p.operands (reverse b.params ++ d.1) d.0 _ d.2 e.0; given = sym e.1 }

  row_mem_unpack : (o : Outcome) → mem_unpack_row f p b ≡ o → Goes o → s.EntersLocation f p b o
  row_mem_unpack o r go =
      let a = signed-passed o go f p b _ r in
      let d = one_over-passed o go (reverse b.params) p.operands (λ u beneath. hidden_form u (λ m t. Enters (entry_below p b (Loc m) (end_label p b beneath) beneath t))) a.1 in
      let e = hidden_form-passed o go d.0 (λ m t. Enters (entry_below p b (Loc m) (end_label p b d.1) d.1 t)) d.3 in
      record { is_signed = a.0; beneath = d.1; qual = e.0; memory = e.1; body = e.2; taken = in_place p.operands (reverse b.params ++ d.1) d.0 _ d.2 e.3; given = sym e.4 }

  row_variant_case : (lists : ℕ) (o : Outcome) → variant_case_row f p b lists ≡ o → Goes o → s.EntersCases f p b lists o
  row_variant_case lists o r go =
      let a = signed-passed o go f p b _ r in
      let d = one_over-passed o go (reverse b.params) p.operands (λ u beneath. variant_form (scope_of p.binders) u (λ r ts. need (is_rw r.privilege) rule.Privilege (Some u) None (need (lists == length ts) rule.Arms None None (Enters (entry p b (end_label p b beneath) beneath (each_alone ts)))))) a.1 in
      let e = variant_form-passed o go (scope_of p.binders) d.0 (λ r ts. need (is_rw r.privilege) rule.Privilege (Some d.0) None (need (lists == length ts) rule.Arms None None (Enters (entry p b (end_label p b d.1) d.1 (each_alone ts))))) d.3 in
      let g = need-passed o go (is_rw e.0.privilege) _ _ _ _ e.3 in
      let h = need-passed o go (lists == length e.1) _ _ _ _ g.1 in
      record { is_signed = a.0; beneath = d.1; first = d.0; reference = e.0; cases = e.1; taken = d.2; form = e.2; privilege = rw_is e.0.privilege g.0; count = eqb-true lists (length e.1) h.0; given = sym h.1 }

  row_exist_unpack : (o : Outcome) → exist_unpack_row f p b ≡ o → Goes o → s.EntersPackage f p b o
  row_exist_unpack o r go =
      let a = signed-passed o go f p b _ r in
      let d = one_over-passed o go (reverse b.params) p.operands (λ u beneath. package_form (scope_of p.binders) u (λ r q s t. need (is_rw r.privilege) rule.Privilege (Some u) None (Enters (entry_below p b (Kind q s) (end_label p b beneath) beneath t)))) a.1 in
      let e = package_form-passed o go (scope_of p.binders) d.0 (λ r q s t. need (is_rw r.privilege) rule.Privilege (Some d.0) None (Enters (entry_below p b (Kind q s) (end_label p b d.1) d.1 t))) d.3 in
      let g = need-passed o go (is_rw e.0.privilege) _ _ _ _ e.5 in
      record { is_signed = a.0; beneath = d.1; first = d.0; reference = e.0; qual = e.1; size = e.2; body = e.3; taken = d.2; form = e.4; privilege = rw_is e.0.privilege g.0; given = sym g.1 }

with_arguments-passed : (o : Outcome) → Goes o → (c : Scope) (args : List Arg) (rest : Outcome) → with_arguments c args rest ≡ o → IsTrue (are_locations c args) × (first_ill_formed c (argument_types args) ≡ None) × (rest ≡ o)
with_arguments-passed o go c args rest r =
    let a = need-passed o go (are_locations c args) _ _ _ _ r in
    let b = without-passed o go (first_ill_formed c (argument_types args)) _ _ a.1 in
    (a.0, b.0, b.1)

row_coderef : (f : Frame) (c : Scope) (n : ℕ) (operands : List Ty) (o : Outcome) → coderef_row f c n operands ≡ o → Goes o → s.NamesFunction f c n operands o
row_coderef f c n operands o r go =
    let a = with_some-passed o go (slice_get f.functions n) _ _ _ r in
    let b = gives_formed-passed o go c _ operands a.2 in
    record { function = a.0; found = a.1; formed = b.0; given = b.1 }

row_inst : (c : Scope) (args : List Arg) (operands : List Ty) (o : Outcome) → inst_row c args operands ≡ o → Goes o → s.Instantiates c args operands o
row_inst c args operands o r go =
    let w = with_arguments-passed o go c args _ r in
    let a = one-passed o go operands _ w.2 in
    let b = code_form-passed o go a.0 _ a.3 in
    let d = need-passed o go (answer_all c b.1.binders args) _ _ _ _ b.4 in
    let e = gives_formed-passed o go c _ a.1 d.1 in
    record { beneath = a.1; qual = b.0; function = b.1; locations = w.0; written = w.1; taken = in_place operands a.1 a.0 _ a.2 b.2; unrestricted = b.3; answered = d.0; formed = e.0; given = e.1 }

row_call : (f : Frame) (c : Scope) (n : ℕ) (args : List Arg) (operands : List Ty) (o : Outcome) → call_row f c n args operands ≡ o → Goes o → s.Calls f c n args operands o
row_call f c n args operands o r go =
    let a = with_some-passed o go (slice_get f.functions n) _ _ _ r in
    let w = with_arguments-passed o go c args _ a.2 in
    let b = need-passed o go (answer_all c a.0.binders args) _ _ _ _ w.2 in
    let d = these-passed o go (reverse (instances args a.0.params)) operands (gives_all_formed c (instances args a.0.results)) b.1 in
    let e = gives_all_formed-passed o go c (instances args a.0.results) d.0 d.2 in
    record { beneath = d.0; function = a.0; found = a.1; locations = w.0; written = w.1; answered = b.0; taken = d.1; formed = e.0; given = e.1 }

row_call_indirect : (operands : List Ty) (o : Outcome) → call_indirect_row operands ≡ o → Goes o → s.CallsTop operands o
row_call_indirect operands o r go =
    let a = one-passed o go operands _ r in
    let b = code_form-passed o go a.0 _ a.3 in
    let d = need-passed o go (has_none b.1.binders) _ _ _ _ b.4 in
    let e = one_over-passed o go (reverse b.1.params) operands (λ code beneath. gives (reverse b.1.results) beneath) d.1 in
    let top : e.0 ≡ a.0 = same_top operands e.0 a.0 (reverse b.1.params ++ e.1) a.1 e.2 a.2 in
    record { beneath = e.1; qual = b.0; function = b.1; unrestricted = b.3; unbound = no_binders b.1.binders d.0; taken = in_place operands (reverse b.1.params ++ e.1) e.0 _ e.2 (top ∙ b.2); given = sym e.3 }
  where
    same_top : (ts : List Ty) (t u : Ty) (xs ys : List Ty) → ts ≡ t ∷ xs → ts ≡ u ∷ ys → t ≡ u
    same_top ts t u xs ys e f = cc

row_mem_pack : (c : Scope) (l : ℕ) (t : Ty) (operands : List Ty) (o : Outcome) → mem_pack_row c l t operands ≡ o → Goes o → s.HidesLocation c l t operands o
row_mem_pack c l t operands o r go =
    let a = with_some-passed o go (memory_of c l) _ _ _ r in
    let b = need-passed o go (is_formed (with_location a.0 c) t) _ _ _ _ a.2 in
    let d = this-passed o go (instance t (to_location l ∷ [])) operands (gives_formed c (Of (qual_under (with_location a.0 c) t) (Hidden a.0 t))) b.1 in
    let e = gives_formed-passed o go c _ d.0 d.2 in
    record { beneath = d.0; memory = a.0; found = a.1; written = b.0; taken = d.1; given = e.1 }

pub rows : BodyRowsInverted
rows = record { from_to = row_from_to; drop = row_drop; qualify = row_qualify; rec_fold = row_fold; rec_unfold = row_unfold; group = row_group; ungroup = row_ungroup; local_get = row_local_get; local_take = row_local_take; local_set = row_local_set; global_get = row_global_get; global_set = row_global_set; br = row_br; br_if = row_br_if; returns = row_return; block = row_block; loops = row_loop; arms = row_if; mem_unpack = row_mem_unpack; variant_case = row_variant_case; exist_unpack = row_exist_unpack; coderef = row_coderef; inst = row_inst; call = row_call; call_indirect = row_call_indirect; mem_pack = row_mem_pack }
