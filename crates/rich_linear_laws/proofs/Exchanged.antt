-- Each row of the table exchanges operands in a named way: by its inversion.
use Rattle.std.proofs.Common.{◌≡◌, ◌∙◌, ℕ, zero, suc, List, [], ◌∷◌, ◌++◌, Bool, true, false, Some, None, refl, ap, sym, subst, cond, length, take, drop, reverse}
use Rattle.std.specs.Prelude.{IsTrue, slice_get}
use Rattle.std.proofs.Math.Path.{subst⁻¹}
use Rattle.std.proofs.Math.Nat.{min-eq_left}
use Rattle.std.proofs.lemmas.List.{length-take, take-append-drop}
use Rattle.rw_types.specs.declared.instrs.BlockSig.{BlockSig}
use Rattle.rw_types.specs.declared.numbers.NumName.{NumName}
use Rattle.rw_types.specs.declared.numbers.NumName.TheVariants as num
use Rattle.rw_types.specs.declared.types.Arg.{Arg}
use Rattle.rw_types.specs.declared.types.Arg.TheVariants.{Given, Loc as to_location}
use Rattle.rw_types.specs.declared.types.Heap.TheVariants.{Array, Exist, Struct, Variant}
use Rattle.rw_types.specs.declared.types.Mem.{Mem}
use Rattle.rw_types.specs.declared.types.Pre.{Cap, Own, Ptr, Ref}
use Rattle.rw_types.specs.declared.types.Pre.TheVariants.{Code, Hidden, Tuple}
use Rattle.rw_types.specs.declared.types.Priv.TheVariants.{R, Rw}
use Rattle.rw_types.specs.declared.types.Qual.{Qual}
use Rattle.rw_types.specs.declared.types.Qual.TheVariants.{Lin, Unr}
use Rattle.rw_types.specs.declared.types.Ty.{Of, Ty, Var, Rec'}
use Rattle.rw_types.specs.declared.types.Ty.TheVariants.{Rec}
use Rattle.rich_types.specs.Scopes.{Scope, no_scope, scope_of, with_location}
use Rattle.rich_types.specs.Sizes.{qual_under}
use Rattle.rich_types.specs.WellFormed.{IsAtMost, IsWellFormedHeap}
use Rattle.rich_types.specs.Instances.{instance, raise}
use Rattle.rich_types.proofs.Sized.{form-Array}
use Rattle.rich_rules.specs.Forms.{is_unr, is_unr_type}
use Rattle.rich_rules.specs.Numbers.{num_sig}
use Rattle.rich_rules.specs.Points.{Breaks, Ends, Enters, Frame, GlobalType, Gives, OfFunction, OfGlobal, Outcome, Owner, Point}
use Rattle.rich_rules.specs.Raised.{instances, one_location, raise_all}
use Rattle.rich_rules.specs.Structs.{new_cell, ref_with, slot_types, slots_of, struct_free_row, struct_get_row, struct_malloc_row, struct_set_row, struct_swap_row}
use Rattle.rich_rules.specs.Table.{in_function}
use Rattle.rich_rules.specs.Takers.{first_held, gives, or_else, unr_i32}
use Rattle.rich_rules.specs.Plain.{drop_row, fold_row, from_to, group_row, qualify_row, unfold_row, ungroup_row}
use Rattle.rich_rules.specs.Variables.{global_get_row, global_set_row, local_get_row, local_set_row, local_take_row}
use Rattle.rich_rules.specs.Branches.{br_if_row, br_row, return_row}
use Rattle.rich_rules.specs.Blocks.{block_row, exist_unpack_row, if_row, loop_row, mem_unpack_row, variant_case_row}
use Rattle.rich_rules.specs.Calls.{call_indirect_row, call_row, coderef_row, inst_row, instantiated}
use Rattle.rich_rules.specs.Rights.{cap_join_row, cap_split_row, mem_pack_row, ref_join_row, ref_split_row}
use Rattle.rich_rules.specs.Cells.{array_free_row, array_get_row, array_len_row, array_malloc_row, array_set_row, exist_pack_row, variant_malloc_row}
use Rattle.rich_rules_inversions.specs.Cells.{Goes}
use Rattle.rich_rules_inversions.proofs.Bodies.{rows as bodies}
use Rattle.rich_rules_inversions.proofs.Cells.{rows as cells}
use Rattle.rich_rules_formed.specs.Formed.{IsFormedPoint}
use Rattle.rich_rules_formed.proofs.Forms.{reference_parts}
use Rattle.rich_rules_formed.proofs.BodyRows.{second, top}
use Rattle.rich_linear_laws.specs.Exchanges.{AreGlobalsUnrestricted, GivesByExchange, Exchange, linear, array_freed, array_made, called, capability_joined, capability_split, exchanged, folded, grouped, hidden, into_local, out_of_local, package_made, passed_on, qualified, reference_joined, reference_split, slot_set, slot_swapped, struct_freed, struct_made, unfolded, ungrouped, value_called, variant_made}

is_unrestricted : (q : Qual) → IsTrue (is_unr q) → q ≡ Unr
is_unrestricted Unr e = refl
is_unrestricted Lin e = cc

at_most_unr : (q : Qual) → IsAtMost q Unr → IsTrue (is_unr q)
at_most_unr Unr a = refl
at_most_unr Lin a = absurd a

-- what is `unr` outside all binders is so under any
unr_anywhere : (c : Scope) (t : Ty) → IsTrue (is_unr_type no_scope t) → IsTrue (is_unr_type c t)
unr_anywhere c (Of q p) e = e
unr_anywhere c (Var n) e = cc
unr_anywhere c (Rec' q s a t) e = e

global_unr : (gs : List GlobalType) (n : ℕ) (g : GlobalType) → slice_get gs n ≡ Some g → AreGlobalsUnrestricted gs → IsTrue (is_unr_type no_scope g.ty)
global_unr [] n g e w = cc
global_unr (x ∷ gs) zero g e w = let same : x ≡ g = cc in subst (λ (y : GlobalType). IsTrue (is_unr_type no_scope y.ty)) same w.0
global_unr (x ∷ gs) (suc n) g e w = global_unr gs n g e w.1

module _ (c : Scope) where
  -- what is `unr` counts for nothing
  without_unr : (t : Ty) (ts : List Ty) → IsTrue (is_unr_type c t) → linear c (t ∷ ts) ≡ linear c ts
  without_unr t ts e = ap (λ b. cond b (linear c ts) (t ∷ linear c ts)) e

  one_held : (t : Ty) (ts : List Ty) (b : Bool) → is_unr_type c t ≡ b → or_else (cond b None (Some t)) (first_held c ts) ≡ None → (first_held c ts ≡ None → linear c ts ≡ []) → linear c (t ∷ ts) ≡ []
  one_held t ts true f e rest = without_unr t ts f ∙ rest e
  one_held t ts false f e rest = cc

  none_held : (ts : List Ty) → first_held c ts ≡ None → linear c ts ≡ []
  none_held [] e = refl
  none_held (t ∷ ts) e = one_held t ts (is_unr_type c t) refl e (none_held ts)

  -- numbers are `unr`
  pub number_passed : (n : NumName) → linear c ((num_sig n).given ∷ []) ≡ linear c (num_sig n).taken
  number_passed num.I32Eqz = refl
  number_passed _ = refl

  element_unr : (m : Mem) (t : Ty) → IsWellFormedHeap c m (Array t) → IsTrue (is_unr_type c t)
  element_unr m t w = at_most_unr (qual_under c t) (subst (λ (X : Type 0). X) (form-Array c m t) w).2

module _ (f : Frame) (p : Point) where
  -- nothing is asked where no operands are given
  settled : (o : Outcome) → (Goes o → GivesByExchange f p o) → GivesByExchange f p o
  settled (Gives operands change) h = h tt
  settled Ends h = tt
  settled (Enters e) h = tt
  settled (Breaks b) h = tt

  pub in_functions : (x : Owner) (o : Outcome) → GivesByExchange f p o → GivesByExchange f p (in_function x o)
  in_functions OfFunction o h = h
  in_functions (OfGlobal own) o h = tt

  by : (o : Outcome) (taken given beneath : List Ty) → p.operands ≡ taken ++ beneath → o ≡ gives given beneath → Exchange f (scope_of p.binders) taken given → GivesByExchange f p o
  by o taken given beneath e r x = subst⁻¹ (GivesByExchange f p) r (record { taken = taken; given = given; beneath = beneath; before = e; behind = refl; moves = exchanged refl x })

  -- nothing is taken, and what is given is `unr`
  pub only_unr : (t : Ty) → IsTrue (is_unr_type (scope_of p.binders) t) → GivesByExchange f p (gives (t ∷ []) p.operands)
  only_unr t e = by (gives (t ∷ []) p.operands) [] (t ∷ []) p.operands refl refl (passed_on (without_unr (scope_of p.binders) t [] e))

  pub nothing : GivesByExchange f p (gives [] p.operands)
  nothing = by (gives [] p.operands) [] [] p.operands refl refl (passed_on refl)

  pub row_from_to : (demanded given : List Ty) → (same : linear (scope_of p.binders) given ≡ linear (scope_of p.binders) demanded) → GivesByExchange f p (from_to demanded given p.operands)
  row_from_to demanded given same = settled (from_to demanded given p.operands) (λ go. (
      let x = bodies.from_to demanded given p.operands (from_to demanded given p.operands) refl go in
      by (from_to demanded given p.operands) (demanded) (given) x.beneath x.taken x.result (passed_on same)))

  pub row_drop : GivesByExchange f p (drop_row (scope_of p.binders) p.operands)
  row_drop = settled (drop_row (scope_of p.binders) p.operands) (λ go. (
      let x = bodies.drop (scope_of p.binders) p.operands (drop_row (scope_of p.binders) p.operands) refl go in
      by (drop_row (scope_of p.binders) p.operands) (x.value ∷ []) ([]) x.beneath x.taken x.given (passed_on (sym (without_unr (scope_of p.binders) (x.value) ([]) x.unrestricted)))))

  pub row_qualify : GivesByExchange f p (qualify_row p.operands)
  row_qualify = settled (qualify_row p.operands) (λ go. (
      let x = bodies.qualify p.operands (qualify_row p.operands) refl go in
      by (qualify_row p.operands) (Of x.qual x.form ∷ []) (Of Lin x.form ∷ []) x.beneath x.taken x.given (qualified x.form (ap (λ (q : Qual). Of q x.form ∷ []) (is_unrestricted x.qual x.unrestricted)) refl)))

  pub row_fold : (t : Ty) → GivesByExchange f p (fold_row (scope_of p.binders) t p.operands)
  row_fold t = settled (fold_row (scope_of p.binders) t p.operands) (λ go. (
      let x = bodies.rec_fold (scope_of p.binders) t p.operands (fold_row (scope_of p.binders) t p.operands) refl go in
      by (fold_row (scope_of p.binders) t p.operands) (instance x.body (Given t ∷ []) ∷ []) (t ∷ []) x.beneath x.taken x.given (folded x.qual x.size x.body (ap (λ (u : Ty). instance x.body (Given u ∷ []) ∷ []) x.form) (ap (λ (u : Ty). u ∷ []) x.form))))

  pub row_unfold : GivesByExchange f p (unfold_row p.operands)
  row_unfold = settled (unfold_row p.operands) (λ go. (
      let x = bodies.rec_unfold p.operands (unfold_row p.operands) refl go in
      by (unfold_row p.operands) (Rec x.qual x.size x.body ∷ []) (instance x.body (Given (Rec x.qual x.size x.body) ∷ []) ∷ []) x.beneath x.taken x.given (unfolded x.qual x.size x.body refl refl)))

  pub row_group : (n : ℕ) → (q : Qual) → GivesByExchange f p (group_row (scope_of p.binders) n q p.operands)
  row_group n q = settled (group_row (scope_of p.binders) n q p.operands) (λ go. (
      let x = bodies.group (scope_of p.binders) n q p.operands (group_row (scope_of p.binders) n q p.operands) refl go in
      by (group_row (scope_of p.binders) n q p.operands) (take n p.operands) (Of q (Tuple (reverse (take n p.operands))) ∷ []) (drop n p.operands) (sym (take-append-drop n p.operands)) x.given (grouped q refl)))

  pub row_ungroup : GivesByExchange f p (ungroup_row p.operands)
  row_ungroup = settled (ungroup_row p.operands) (λ go. (
      let x = bodies.ungroup p.operands (ungroup_row p.operands) refl go in
      by (ungroup_row p.operands) (Of x.qual (Tuple x.parts) ∷ []) (reverse x.parts) x.beneath x.taken x.given (ungrouped x.qual x.parts refl refl)))

  pub row_local_get : (n : ℕ) → GivesByExchange f p (local_get_row (scope_of p.binders) p.locals n p.operands)
  row_local_get n = settled (local_get_row (scope_of p.binders) p.locals n p.operands) (λ go. (
      let x = bodies.local_get (scope_of p.binders) p.locals n p.operands (local_get_row (scope_of p.binders) p.locals n p.operands) refl go in
      by (local_get_row (scope_of p.binders) p.locals n p.operands) ([]) (x.value ∷ []) p.operands refl x.given (passed_on (without_unr (scope_of p.binders) (x.value) ([]) x.unrestricted))))

  pub row_local_take : (n : ℕ) → GivesByExchange f p (local_take_row (scope_of p.binders) p.locals n p.operands)
  row_local_take n = settled (local_take_row (scope_of p.binders) p.locals n p.operands) (λ go. (
      let x = bodies.local_take (scope_of p.binders) p.locals n p.operands (local_take_row (scope_of p.binders) p.locals n p.operands) refl go in
      subst⁻¹ (GivesByExchange f p) x.given (record { taken = []; given = x.value ∷ []; beneath = p.operands; before = refl; behind = refl; moves = out_of_local n x.value x.found x.held refl refl refl })))

  pub row_local_set : (slots : List ℕ) → (n : ℕ) → GivesByExchange f p (local_set_row (scope_of p.binders) slots p.locals n p.operands)
  row_local_set slots n = settled (local_set_row (scope_of p.binders) slots p.locals n p.operands) (λ go. (
      let x = bodies.local_set (scope_of p.binders) slots p.locals n p.operands (local_set_row (scope_of p.binders) slots p.locals n p.operands) refl go in
      subst⁻¹ (GivesByExchange f p) x.given (record { taken = x.value ∷ []; given = []; beneath = x.beneath; before = x.taken; behind = refl; moves = into_local n x.value x.before x.found x.unrestricted refl refl refl })))

  pub row_global_get : (globals : AreGlobalsUnrestricted f.globals) → (n : ℕ) → GivesByExchange f p (global_get_row f (scope_of p.binders) n p.operands)
  row_global_get globals n = settled (global_get_row f (scope_of p.binders) n p.operands) (λ go. (
      let x = bodies.global_get f (scope_of p.binders) n p.operands (global_get_row f (scope_of p.binders) n p.operands) refl go in
      by (global_get_row f (scope_of p.binders) n p.operands) ([]) (x.variable.ty ∷ []) p.operands refl x.given (passed_on (without_unr (scope_of p.binders) (x.variable.ty) ([]) (unr_anywhere (scope_of p.binders) x.variable.ty (global_unr f.globals n x.variable x.found globals))))))

  pub row_global_set : (globals : AreGlobalsUnrestricted f.globals) → (n : ℕ) → GivesByExchange f p (global_set_row f n p.operands)
  row_global_set globals n = settled (global_set_row f n p.operands) (λ go. (
      let x = bodies.global_set f n p.operands (global_set_row f n p.operands) refl go in
      by (global_set_row f n p.operands) (x.variable.ty ∷ []) ([]) x.beneath x.taken x.given (passed_on (sym (without_unr (scope_of p.binders) (x.variable.ty) ([]) (unr_anywhere (scope_of p.binders) x.variable.ty (global_unr f.globals n x.variable x.found globals)))))))

  pub row_br : (k : ℕ) → GivesByExchange f p (br_row p k)
  row_br k = settled (br_row p k) (λ go. (
      let x = bodies.br p k (br_row p k) refl go in
      subst⁻¹ (GivesByExchange f p) x.given tt))

  pub row_return : GivesByExchange f p (return_row p)
  row_return = settled (return_row p) (λ go. (
      let x = bodies.returns p (return_row p) refl go in
      subst⁻¹ (GivesByExchange f p) x.given tt))

  pub row_br_if : (k : ℕ) → GivesByExchange f p (br_if_row p k)
  row_br_if k = settled (br_if_row p k) (λ go. (
      let x = bodies.br_if p k (br_if_row p k) refl go in
      by (br_if_row p k) (unr_i32 ∷ x.label.types) (x.label.types) x.beneath x.taken x.given (passed_on refl)))

  pub row_block : (b : BlockSig) → GivesByExchange f p (block_row f p b)
  row_block b = settled (block_row f p b) (λ go. (
      let x = bodies.block f p b (block_row f p b) refl go in
      subst⁻¹ (GivesByExchange f p) x.given tt))

  pub row_loop : (b : BlockSig) → GivesByExchange f p (loop_row f p b)
  row_loop b = settled (loop_row f p b) (λ go. (
      let x = bodies.loops f p b (loop_row f p b) refl go in
      subst⁻¹ (GivesByExchange f p) x.given tt))

  pub row_if : (b : BlockSig) → GivesByExchange f p (if_row f p b)
  row_if b = settled (if_row f p b) (λ go. (
      let x = bodies.arms f p b (if_row f p b) refl go in
      subst⁻¹ (GivesByExchange f p) x.given tt))

  pub row_mem_unpack : (b : BlockSig) → GivesByExchange f p (mem_unpack_row f p b)
  row_mem_unpack b = settled (mem_unpack_row f p b) (λ go. (
      let x = bodies.mem_unpack f p b (mem_unpack_row f p b) refl go in
      subst⁻¹ (GivesByExchange f p) x.given tt))

  pub row_exist_unpack : (b : BlockSig) → GivesByExchange f p (exist_unpack_row f p b)
  row_exist_unpack b = settled (exist_unpack_row f p b) (λ go. (
      let x = bodies.exist_unpack f p b (exist_unpack_row f p b) refl go in
      subst⁻¹ (GivesByExchange f p) x.given tt))

  pub row_variant_case : (b : BlockSig) → (lists : ℕ) → GivesByExchange f p (variant_case_row f p b lists)
  row_variant_case b lists = settled (variant_case_row f p b lists) (λ go. (
      let x = bodies.variant_case f p b lists (variant_case_row f p b lists) refl go in
      subst⁻¹ (GivesByExchange f p) x.given tt))

  pub row_coderef : (n : ℕ) → GivesByExchange f p (coderef_row f (scope_of p.binders) n p.operands)
  row_coderef n = settled (coderef_row f (scope_of p.binders) n p.operands) (λ go. (
      let x = bodies.coderef f (scope_of p.binders) n p.operands (coderef_row f (scope_of p.binders) n p.operands) refl go in
      by (coderef_row f (scope_of p.binders) n p.operands) ([]) (Of Unr (Code x.function) ∷ []) p.operands refl x.given (passed_on refl)))

  pub row_inst : (args : List Arg) → GivesByExchange f p (inst_row (scope_of p.binders) args p.operands)
  row_inst args = settled (inst_row (scope_of p.binders) args p.operands) (λ go. (
      let x = bodies.inst (scope_of p.binders) args p.operands (inst_row (scope_of p.binders) args p.operands) refl go in
      by (inst_row (scope_of p.binders) args p.operands) (Of x.qual (Code x.function) ∷ []) (Of Unr (Code (instantiated x.function args)) ∷ []) x.beneath x.taken x.given (passed_on (sym (without_unr (scope_of p.binders) (Of x.qual (Code x.function)) ([]) x.unrestricted)))))

  pub row_call : (n : ℕ) → (args : List Arg) → GivesByExchange f p (call_row f (scope_of p.binders) n args p.operands)
  row_call n args = settled (call_row f (scope_of p.binders) n args p.operands) (λ go. (
      let x = bodies.call f (scope_of p.binders) n args p.operands (call_row f (scope_of p.binders) n args p.operands) refl go in
      by (call_row f (scope_of p.binders) n args p.operands) (reverse (instances args x.function.params)) (reverse (instances args x.function.results)) x.beneath x.taken x.given (called n x.function args x.found refl refl)))

  pub row_call_indirect : GivesByExchange f p (call_indirect_row p.operands)
  row_call_indirect = settled (call_indirect_row p.operands) (λ go. (
      let x = bodies.call_indirect p.operands (call_indirect_row p.operands) refl go in
      by (call_indirect_row p.operands) (Of x.qual (Code x.function) ∷ reverse x.function.params) (reverse x.function.results) x.beneath x.taken x.given (value_called x.function x.unbound (ap (λ (q : Qual). Of q (Code x.function) ∷ reverse x.function.params) (is_unrestricted x.qual x.unrestricted)) refl)))

  pub row_mem_pack : (l : ℕ) → (t : Ty) → GivesByExchange f p (mem_pack_row (scope_of p.binders) l t p.operands)
  row_mem_pack l t = settled (mem_pack_row (scope_of p.binders) l t p.operands) (λ go. (
      let x = bodies.mem_pack (scope_of p.binders) l t p.operands (mem_pack_row (scope_of p.binders) l t p.operands) refl go in
      by (mem_pack_row (scope_of p.binders) l t p.operands) (instance t (to_location l ∷ []) ∷ []) (Of (qual_under (with_location x.memory (scope_of p.binders)) t) (Hidden x.memory t) ∷ []) x.beneath x.taken x.given (hidden l x.memory t x.found refl refl)))

  pub row_ref_split : GivesByExchange f p (ref_split_row (scope_of p.binders) p.operands)
  row_ref_split = settled (ref_split_row (scope_of p.binders) p.operands) (λ go. (
      let x = cells.ref_split (scope_of p.binders) p.operands (ref_split_row (scope_of p.binders) p.operands) refl go in
      by (ref_split_row (scope_of p.binders) p.operands) (Of x.qual (Ref x.privilege x.location x.content) ∷ []) (Of Unr (Ptr x.location) ∷ Of Lin (Cap x.privilege x.location x.content) ∷ []) x.beneath x.taken x.given (reference_split x.qual x.privilege x.location x.content refl refl)))

  pub row_ref_join : GivesByExchange f p (ref_join_row p.operands)
  row_ref_join = settled (ref_join_row p.operands) (λ go. (
      let x = cells.ref_join p.operands (ref_join_row p.operands) refl go in
      by (ref_join_row p.operands) (Of x.qual (Ptr x.location) ∷ x.first ∷ []) (Of Lin (Ref x.privilege x.location x.content) ∷ []) x.beneath x.taken x.given (reference_joined x.qual x.capability.qual x.privilege x.location x.content (ap (λ (u : Ty). Of x.qual (Ptr x.location) ∷ u ∷ []) x.capability.form) refl)))

  pub row_cap_split : GivesByExchange f p (cap_split_row p.operands)
  row_cap_split = settled (cap_split_row p.operands) (λ go. (
      let x = cells.cap_split p.operands (cap_split_row p.operands) refl go in
      by (cap_split_row p.operands) (x.first ∷ []) (Of Lin (Own x.location) ∷ Of Lin (Cap R x.location x.content) ∷ []) x.beneath x.taken x.given (capability_split x.capability.qual x.location x.content (ap (λ (u : Ty). u ∷ []) x.capability.form) refl)))

  pub row_cap_join : GivesByExchange f p (cap_join_row p.operands)
  row_cap_join = settled (cap_join_row p.operands) (λ go. (
      let x = cells.cap_join p.operands (cap_join_row p.operands) refl go in
      by (cap_join_row p.operands) (Of x.qual (Own x.location) ∷ x.first ∷ []) (Of Lin (Cap Rw x.location x.content) ∷ []) x.beneath x.taken x.given (capability_joined x.qual x.capability.qual x.location x.content (ap (λ (u : Ty). Of x.qual (Own x.location) ∷ u ∷ []) x.capability.form) refl)))

  pub row_struct_malloc : (m : Mem) → (sizes : List ℕ) → GivesByExchange f p (struct_malloc_row (scope_of p.binders) m sizes p.operands)
  row_struct_malloc m sizes = settled (struct_malloc_row (scope_of p.binders) m sizes p.operands) (λ go. (
      let x = cells.struct_malloc (scope_of p.binders) m sizes p.operands (struct_malloc_row (scope_of p.binders) m sizes p.operands) refl go in
      by (struct_malloc_row (scope_of p.binders) m sizes p.operands) (take (length sizes) p.operands) (new_cell m (Struct (slots_of (raise_all one_location (reverse (take (length sizes) p.operands))) sizes)) ∷ []) (drop (length sizes) p.operands) (sym (take-append-drop (length sizes) p.operands)) x.given (struct_made m sizes (length-take (length sizes) p.operands ∙ min-eq_left x.enough) refl)))

  pub row_struct_free : GivesByExchange f p (struct_free_row (scope_of p.binders) p.operands)
  row_struct_free = settled (struct_free_row (scope_of p.binders) p.operands) (λ go. (
      let x = cells.struct_free (scope_of p.binders) p.operands (struct_free_row (scope_of p.binders) p.operands) refl go in
      by (struct_free_row (scope_of p.binders) p.operands) (x.first ∷ []) ([]) x.beneath x.taken x.given (struct_freed x.first x.reference x.slots x.form x.memory x.privilege (none_held (scope_of p.binders) (slot_types x.slots) x.unrestricted) refl refl)))

  pub row_struct_get : (i : ℕ) → GivesByExchange f p (struct_get_row (scope_of p.binders) i p.operands)
  row_struct_get i = settled (struct_get_row (scope_of p.binders) i p.operands) (λ go. (
      let x = cells.struct_get (scope_of p.binders) i p.operands (struct_get_row (scope_of p.binders) i p.operands) refl go in
      by (struct_get_row (scope_of p.binders) i p.operands) (x.first ∷ []) (x.slot.ty ∷ x.first ∷ []) x.beneath x.taken x.given (passed_on (without_unr (scope_of p.binders) (x.slot.ty) (x.first ∷ []) x.unrestricted))))

  pub row_struct_set : (i : ℕ) → GivesByExchange f p (struct_set_row (scope_of p.binders) i p.operands)
  row_struct_set i = settled (struct_set_row (scope_of p.binders) i p.operands) (λ go. (
      let x = cells.struct_set (scope_of p.binders) i p.operands (struct_set_row (scope_of p.binders) i p.operands) refl go in
      by (struct_set_row (scope_of p.binders) i p.operands) (x.value ∷ x.first ∷ []) (ref_with x.reference x.slots i x.slot x.value ∷ []) x.beneath x.taken x.given (slot_set x.value x.first x.reference x.slots i x.slot x.form x.found x.unrestricted refl refl)))

  pub row_struct_swap : (i : ℕ) → GivesByExchange f p (struct_swap_row (scope_of p.binders) i p.operands)
  row_struct_swap i = settled (struct_swap_row (scope_of p.binders) i p.operands) (λ go. (
      let x = cells.struct_swap (scope_of p.binders) i p.operands (struct_swap_row (scope_of p.binders) i p.operands) refl go in
      by (struct_swap_row (scope_of p.binders) i p.operands) (x.value ∷ x.first ∷ []) (x.slot.ty ∷ ref_with x.reference x.slots i x.slot x.value ∷ []) x.beneath x.taken x.given (slot_swapped x.value x.first x.reference x.slots i x.slot x.form x.found refl refl)))

  pub row_variant_malloc : (m : Mem) → (i : ℕ) → (ts : List Ty) → GivesByExchange f p (variant_malloc_row (scope_of p.binders) m i ts p.operands)
  row_variant_malloc m i ts = settled (variant_malloc_row (scope_of p.binders) m i ts p.operands) (λ go. (
      let x = cells.variant_malloc (scope_of p.binders) m i ts p.operands (variant_malloc_row (scope_of p.binders) m i ts p.operands) refl go in
      by (variant_malloc_row (scope_of p.binders) m i ts p.operands) (x.value ∷ []) (new_cell m (Variant (raise_all one_location ts)) ∷ []) x.beneath x.taken x.given (variant_made m i x.value ts x.found refl refl)))

  pub row_array_malloc : (m : Mem) → GivesByExchange f p (array_malloc_row (scope_of p.binders) m p.operands)
  row_array_malloc m = settled (array_malloc_row (scope_of p.binders) m p.operands) (λ go. (
      let x = cells.array_malloc (scope_of p.binders) m p.operands (array_malloc_row (scope_of p.binders) m p.operands) refl go in
      by (array_malloc_row (scope_of p.binders) m p.operands) (unr_i32 ∷ x.value ∷ []) (new_cell m (Array (raise one_location x.value)) ∷ []) x.beneath x.taken x.given (array_made m x.value x.unrestricted refl refl)))

  pub row_exist_pack : (m : Mem) → (q : Qual) → (s : ℕ) → (t body : Ty) → GivesByExchange f p (exist_pack_row (scope_of p.binders) m q s t body p.operands)
  row_exist_pack m q s t body = settled (exist_pack_row (scope_of p.binders) m q s t body p.operands) (λ go. (
      let x = cells.exist_pack (scope_of p.binders) m q s t body p.operands (exist_pack_row (scope_of p.binders) m q s t body p.operands) refl go in
      by (exist_pack_row (scope_of p.binders) m q s t body p.operands) (instance body (Given t ∷ []) ∷ []) (new_cell m (Exist q s (raise one_location body)) ∷ []) x.beneath x.taken x.given (package_made m q s t body x.size refl refl)))

  pub row_array_len : GivesByExchange f p (array_len_row (scope_of p.binders) p.operands)
  row_array_len = settled (array_len_row (scope_of p.binders) p.operands) (λ go. (
      let x = cells.array_len (scope_of p.binders) p.operands (array_len_row (scope_of p.binders) p.operands) refl go in
      by (array_len_row (scope_of p.binders) p.operands) (x.first ∷ []) (unr_i32 ∷ x.first ∷ []) x.beneath x.taken x.given (passed_on refl)))

  pub row_array_get : IsFormedPoint p → GivesByExchange f p (array_get_row (scope_of p.binders) p.operands)
  row_array_get w = settled (array_get_row (scope_of p.binders) p.operands) (λ go. (
      let x = cells.array_get (scope_of p.binders) p.operands (array_get_row (scope_of p.binders) p.operands) refl go in
      let y = second p w unr_i32 x.first x.beneath x.taken in
      let e = element_unr (scope_of p.binders) x.reference.memory x.element (reference_parts (scope_of p.binders) x.first x.reference (Array x.element) x.form y.1).1 in
      by (array_get_row (scope_of p.binders) p.operands) (unr_i32 ∷ x.first ∷ []) (x.element ∷ x.first ∷ []) x.beneath x.taken x.given (passed_on (without_unr (scope_of p.binders) (x.element) (x.first ∷ []) e))))

  pub row_array_set : IsFormedPoint p → GivesByExchange f p (array_set_row (scope_of p.binders) p.operands)
  row_array_set w = settled (array_set_row (scope_of p.binders) p.operands) (λ go. (
      let x = cells.array_set (scope_of p.binders) p.operands (array_set_row (scope_of p.binders) p.operands) refl go in
      let y = second p w x.element unr_i32 (x.first ∷ x.beneath) x.taken in
      let e = element_unr (scope_of p.binders) x.reference.memory x.element (reference_parts (scope_of p.binders) x.first x.reference (Array x.element) x.form y.2.0).1 in
      by (array_set_row (scope_of p.binders) p.operands) (x.element ∷ unr_i32 ∷ x.first ∷ []) (x.first ∷ []) x.beneath x.taken x.given (passed_on (sym (without_unr (scope_of p.binders) (x.element) (unr_i32 ∷ x.first ∷ []) e)))))

  pub row_array_free : IsFormedPoint p → GivesByExchange f p (array_free_row (scope_of p.binders) p.operands)
  row_array_free w = settled (array_free_row (scope_of p.binders) p.operands) (λ go. (
      let x = cells.array_free (scope_of p.binders) p.operands (array_free_row (scope_of p.binders) p.operands) refl go in
      let y = top p w x.first x.beneath x.taken in
      let e = element_unr (scope_of p.binders) x.reference.memory x.element (reference_parts (scope_of p.binders) x.first x.reference (Array x.element) x.form y.0).1 in
      by (array_free_row (scope_of p.binders) p.operands) (x.first ∷ []) ([]) x.beneath x.taken x.given (array_freed x.first x.reference x.element x.form x.memory x.privilege e refl refl)))
