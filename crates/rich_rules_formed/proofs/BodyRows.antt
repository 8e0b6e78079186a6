-- What rows on operands, variables, branches and functions make of a point whose types are well formed.
use Rattle.std.proofs.Common.{◌≡◌, ℕ, List, [], ◌∷◌, ◌++◌, refl, subst, take, drop, reverse}
use Rattle.std.specs.Prelude.{IsTrue}
use Rattle.std.proofs.Math.Path.{subst⁻¹}
use Rattle.rw_types.specs.declared.types.Arg.{Arg}
use Rattle.rw_types.specs.declared.types.Arg.TheVariants.{Given, Loc as to_location}
use Rattle.rw_types.specs.declared.types.Pre.TheVariants.{Code, Hidden, Tuple}
use Rattle.rw_types.specs.declared.types.Qual.{Qual}
use Rattle.rw_types.specs.declared.types.Qual.TheVariants.{Lin, Unr}
use Rattle.rw_types.specs.declared.types.Ty.{Of, Ty}
use Rattle.rw_types.specs.declared.types.Ty.TheVariants.{Rec}
use Rattle.rich_types.specs.Scopes.{scope_of, with_location}
use Rattle.rich_types.specs.Sizes.{qual_under}
use Rattle.rich_types.specs.WellFormed.{IsWellFormed}
use Rattle.rich_types.specs.Instances.{instance}
use Rattle.rich_rules.specs.Forms.{is_unr}
use Rattle.rich_rules.specs.Points.{Frame, Point}
use Rattle.rich_rules.specs.Raised.{instances}
use Rattle.rich_rules.specs.Takers.{unr_i32, unr_unit}
use Rattle.rich_rules.specs.Plain.{drop_row, fold_row, from_to, group_row, qualify_row, unfold_row, ungroup_row}
use Rattle.rich_rules.specs.Variables.{global_get_row, global_set_row, local_get_row, local_set_row, local_take_row}
use Rattle.rich_rules.specs.Branches.{br_if_row, br_row, return_row}
use Rattle.rich_rules.specs.Calls.{call_indirect_row, call_row, coderef_row, inst_row, instantiated}
use Rattle.rich_rules.specs.Rights.{mem_pack_row}
use Rattle.rich_rules_laws.proofs.Formed.{formed-true, all_formed-true}
use Rattle.rich_rules_inversions.proofs.Bodies.{rows}
use Rattle.rich_rules_formed.specs.Formed.{AreFormed, IsFormedPoint, IsFormedOutcome}
use Rattle.rich_rules_formed.proofs.Lists.{alone, back, dropped, found, label_found, more, reversed}
use Rattle.rich_rules_formed.proofs.Forms.{hidden_formed, parts_formed, qualified, results_formed, unfolded, unit_formed}
use Rattle.rich_rules_formed.proofs.Outcomes.{answered, local_changed, settled}

is_unrestricted : (q : Qual) → IsTrue (is_unr q) → q ≡ Unr
is_unrestricted Unr e = refl
is_unrestricted Lin e = cc

module _ (p : Point) (w : IsFormedPoint p) where
  -- an operand and those beneath it, where the operands are these
  pub top : (t : Ty) (beneath : List Ty) → p.operands ≡ t ∷ beneath → IsWellFormed (scope_of p.binders) t × AreFormed (scope_of p.binders) beneath
  top t beneath e = let x = subst (AreFormed (scope_of p.binders)) e w.operands in (x.0, x.2)

  pub second : (t u : Ty) (beneath : List Ty) → p.operands ≡ t ∷ u ∷ beneath → IsWellFormed (scope_of p.binders) t × IsWellFormed (scope_of p.binders) u × AreFormed (scope_of p.binders) beneath
  second t u beneath e = let x = top t (u ∷ beneath) e in (x.0, x.1.0, x.1.2)

  pub under : (ts beneath : List Ty) → p.operands ≡ ts ++ beneath → AreFormed (scope_of p.binders) beneath
  under ts beneath e = back (scope_of p.binders) ts beneath (subst (AreFormed (scope_of p.binders)) e w.operands)

  pub row_from_to : (demanded given : List Ty) → AreFormed (scope_of p.binders) given → IsFormedOutcome p (from_to demanded given p.operands)
  row_from_to demanded given v = settled p (from_to demanded given p.operands) (λ go. (
      let x = rows.from_to demanded given p.operands (from_to demanded given p.operands) refl go in
      answered p w (from_to demanded given p.operands) given x.beneath x.result v (under demanded x.beneath x.taken)))

  pub row_drop : IsFormedOutcome p (drop_row (scope_of p.binders) p.operands)
  row_drop = settled p (drop_row (scope_of p.binders) p.operands) (λ go. (
      let x = rows.drop (scope_of p.binders) p.operands (drop_row (scope_of p.binders) p.operands) refl go in
      answered p w (drop_row (scope_of p.binders) p.operands) [] x.beneath x.given tt (top x.value x.beneath x.taken).1))

  pub row_qualify : IsFormedOutcome p (qualify_row p.operands)
  row_qualify = settled p (qualify_row p.operands) (λ go. (
      let x = rows.qualify p.operands (qualify_row p.operands) refl go in
      let y = top (Of x.qual x.form) x.beneath x.taken in
      answered p w (qualify_row p.operands) (Of Lin x.form ∷ []) x.beneath x.given (alone (scope_of p.binders) (Of Lin x.form) (qualified (scope_of p.binders) x.form (subst (λ (q : Qual). IsWellFormed (scope_of p.binders) (Of q x.form)) (is_unrestricted x.qual x.unrestricted) y.0))) y.1))

  pub row_fold : (t : Ty) → IsFormedOutcome p (fold_row (scope_of p.binders) t p.operands)
  row_fold t = settled p (fold_row (scope_of p.binders) t p.operands) (λ go. (
      let x = rows.rec_fold (scope_of p.binders) t p.operands (fold_row (scope_of p.binders) t p.operands) refl go in
      answered p w (fold_row (scope_of p.binders) t p.operands) (t ∷ []) x.beneath x.given (alone (scope_of p.binders) t (formed-true (scope_of p.binders) t x.formed)) (top (instance x.body (Given t ∷ [])) x.beneath x.taken).1))

  pub row_unfold : IsFormedOutcome p (unfold_row p.operands)
  row_unfold = settled p (unfold_row p.operands) (λ go. (
      let x = rows.rec_unfold p.operands (unfold_row p.operands) refl go in
      let y = top (Rec x.qual x.size x.body) x.beneath x.taken in
      answered p w (unfold_row p.operands) (instance x.body (Given (Rec x.qual x.size x.body) ∷ []) ∷ []) x.beneath x.given (alone (scope_of p.binders) (instance x.body (Given (Rec x.qual x.size x.body) ∷ [])) (unfolded (scope_of p.binders) x.qual x.size x.body y.0)) y.1))

  pub row_group : (n : ℕ) (q : Qual) → IsFormedOutcome p (group_row (scope_of p.binders) n q p.operands)
  row_group n q = settled p (group_row (scope_of p.binders) n q p.operands) (λ go. (
      let x = rows.group (scope_of p.binders) n q p.operands (group_row (scope_of p.binders) n q p.operands) refl go in
      let t = Of q (Tuple (reverse (take n p.operands))) in
      answered p w (group_row (scope_of p.binders) n q p.operands) (t ∷ []) (drop n p.operands) x.given (alone (scope_of p.binders) t (formed-true (scope_of p.binders) t x.formed)) (dropped (scope_of p.binders) n p.operands w.operands)))

  pub row_ungroup : IsFormedOutcome p (ungroup_row p.operands)
  row_ungroup = settled p (ungroup_row p.operands) (λ go. (
      let x = rows.ungroup p.operands (ungroup_row p.operands) refl go in
      let y = top (Of x.qual (Tuple x.parts)) x.beneath x.taken in
      answered p w (ungroup_row p.operands) (reverse x.parts) x.beneath x.given (reversed (scope_of p.binders) x.parts (parts_formed (scope_of p.binders) x.qual x.parts y.0)) y.1))

  pub row_local_get : (n : ℕ) → IsFormedOutcome p (local_get_row (scope_of p.binders) p.locals n p.operands)
  row_local_get n = settled p (local_get_row (scope_of p.binders) p.locals n p.operands) (λ go. (
      let x = rows.local_get (scope_of p.binders) p.locals n p.operands (local_get_row (scope_of p.binders) p.locals n p.operands) refl go in
      answered p w (local_get_row (scope_of p.binders) p.locals n p.operands) (x.value ∷ []) p.operands x.given (alone (scope_of p.binders) x.value (found (scope_of p.binders) p.locals n x.value x.found w.locals)) w.operands))

  pub row_local_take : (n : ℕ) → IsFormedOutcome p (local_take_row (scope_of p.binders) p.locals n p.operands)
  row_local_take n = settled p (local_take_row (scope_of p.binders) p.locals n p.operands) (λ go. (
      let x = rows.local_take (scope_of p.binders) p.locals n p.operands (local_take_row (scope_of p.binders) p.locals n p.operands) refl go in
      local_changed p w (local_take_row (scope_of p.binders) p.locals n p.operands) (x.value ∷ p.operands) n unr_unit x.given (more (scope_of p.binders) x.value p.operands (found (scope_of p.binders) p.locals n x.value x.found w.locals) w.operands) (unit_formed (scope_of p.binders))))

  pub row_local_set : (slots : List ℕ) (n : ℕ) → IsFormedOutcome p (local_set_row (scope_of p.binders) slots p.locals n p.operands)
  row_local_set slots n = settled p (local_set_row (scope_of p.binders) slots p.locals n p.operands) (λ go. (
      let x = rows.local_set (scope_of p.binders) slots p.locals n p.operands (local_set_row (scope_of p.binders) slots p.locals n p.operands) refl go in
      let y = top x.value x.beneath x.taken in
      local_changed p w (local_set_row (scope_of p.binders) slots p.locals n p.operands) x.beneath n x.value x.given y.1 y.0))

  pub row_global_get : (f : Frame) (n : ℕ) → IsFormedOutcome p (global_get_row f (scope_of p.binders) n p.operands)
  row_global_get f n = settled p (global_get_row f (scope_of p.binders) n p.operands) (λ go. (
      let x = rows.global_get f (scope_of p.binders) n p.operands (global_get_row f (scope_of p.binders) n p.operands) refl go in
      answered p w (global_get_row f (scope_of p.binders) n p.operands) (x.variable.ty ∷ []) p.operands x.given (alone (scope_of p.binders) x.variable.ty (formed-true (scope_of p.binders) x.variable.ty x.formed)) w.operands))

  pub row_global_set : (f : Frame) (n : ℕ) → IsFormedOutcome p (global_set_row f n p.operands)
  row_global_set f n = settled p (global_set_row f n p.operands) (λ go. (
      let x = rows.global_set f n p.operands (global_set_row f n p.operands) refl go in
      answered p w (global_set_row f n p.operands) [] x.beneath x.given tt (top x.variable.ty x.beneath x.taken).1))

  pub row_br : (k : ℕ) → IsFormedOutcome p (br_row p k)
  row_br k = settled p (br_row p k) (λ go. subst⁻¹ (IsFormedOutcome p) (rows.br p k (br_row p k) refl go).given tt)

  pub row_br_if : (k : ℕ) → IsFormedOutcome p (br_if_row p k)
  row_br_if k = settled p (br_if_row p k) (λ go. (
      let x = rows.br_if p k (br_if_row p k) refl go in
      let y = top unr_i32 (x.label.types ++ x.beneath) x.taken in
      answered p w (br_if_row p k) x.label.types x.beneath x.given (label_found (scope_of p.binders) p.labels k x.label x.found w.labels).types (back (scope_of p.binders) x.label.types x.beneath y.1)))

  pub row_return : IsFormedOutcome p (return_row p)
  row_return = settled p (return_row p) (λ go. subst⁻¹ (IsFormedOutcome p) (rows.returns p (return_row p) refl go).given tt)

  pub row_coderef : (f : Frame) (n : ℕ) → IsFormedOutcome p (coderef_row f (scope_of p.binders) n p.operands)
  row_coderef f n = settled p (coderef_row f (scope_of p.binders) n p.operands) (λ go. (
      let x = rows.coderef f (scope_of p.binders) n p.operands (coderef_row f (scope_of p.binders) n p.operands) refl go in
      let t = Of Unr (Code x.function) in
      answered p w (coderef_row f (scope_of p.binders) n p.operands) (t ∷ []) p.operands x.given (alone (scope_of p.binders) t (formed-true (scope_of p.binders) t x.formed)) w.operands))

  pub row_inst : (args : List Arg) → IsFormedOutcome p (inst_row (scope_of p.binders) args p.operands)
  row_inst args = settled p (inst_row (scope_of p.binders) args p.operands) (λ go. (
      let x = rows.inst (scope_of p.binders) args p.operands (inst_row (scope_of p.binders) args p.operands) refl go in
      let t = Of Unr (Code (instantiated x.function args)) in
      answered p w (inst_row (scope_of p.binders) args p.operands) (t ∷ []) x.beneath x.given (alone (scope_of p.binders) t (formed-true (scope_of p.binders) t x.formed)) (top (Of x.qual (Code x.function)) x.beneath x.taken).1))

  pub row_call : (f : Frame) (n : ℕ) (args : List Arg) → IsFormedOutcome p (call_row f (scope_of p.binders) n args p.operands)
  row_call f n args = settled p (call_row f (scope_of p.binders) n args p.operands) (λ go. (
      let x = rows.call f (scope_of p.binders) n args p.operands (call_row f (scope_of p.binders) n args p.operands) refl go in
      answered p w (call_row f (scope_of p.binders) n args p.operands) (reverse (instances args x.function.results)) x.beneath x.given (reversed (scope_of p.binders) (instances args x.function.results) (all_formed-true (scope_of p.binders) (instances args x.function.results) x.formed)) (under (reverse (instances args x.function.params)) x.beneath x.taken)))

  pub row_call_indirect : IsFormedOutcome p (call_indirect_row p.operands)
  row_call_indirect = settled p (call_indirect_row p.operands) (λ go. (
      let x = rows.call_indirect p.operands (call_indirect_row p.operands) refl go in
      let y = top (Of x.qual (Code x.function)) (reverse x.function.params ++ x.beneath) x.taken in
      answered p w (call_indirect_row p.operands) (reverse x.function.results) x.beneath x.given (reversed (scope_of p.binders) x.function.results (results_formed (scope_of p.binders) x.qual x.function y.0 x.unbound)) (back (scope_of p.binders) (reverse x.function.params) x.beneath y.1)))

  pub row_mem_pack : (l : ℕ) (t : Ty) → IsFormedOutcome p (mem_pack_row (scope_of p.binders) l t p.operands)
  row_mem_pack l t = settled p (mem_pack_row (scope_of p.binders) l t p.operands) (λ go. (
      let x = rows.mem_pack (scope_of p.binders) l t p.operands (mem_pack_row (scope_of p.binders) l t p.operands) refl go in
      let u = Of (qual_under (with_location x.memory (scope_of p.binders)) t) (Hidden x.memory t) in
      answered p w (mem_pack_row (scope_of p.binders) l t p.operands) (u ∷ []) x.beneath x.given (alone (scope_of p.binders) u (hidden_formed (scope_of p.binders) x.memory t (formed-true (with_location x.memory (scope_of p.binders)) t x.written))) (top (instance t (to_location l ∷ [])) x.beneath x.taken).1))
