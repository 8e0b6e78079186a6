-- What the table makes of an instruction, where it breaks no rule, it makes of it with new numbers in a frame that agrees.
use Rattle.std.proofs.Common.{◌≡◌, ◌∙◌, ◌<◌, ℕ, suc, List, [], ◌∷◌, ◌++◌, Bool, true, false, Option, Some, None, refl, ap, sym, subst, length}
use Rattle.std.specs.Prelude.{⊤, slice_get, nat_lt}
use Rattle.std.proofs.lemmas.Bool.{ltb-true, lt-ltb}
use Rattle.rw_types.specs.declared.instrs.BlockSig.{BlockSig}
use Rattle.rw_types.specs.declared.instrs.Instr.{Instr, Block', Loop', If', MemUnpack', VariantCase', ExistUnpack', Return, LocalGet, LocalTake, LocalSet, GlobalGet, GlobalSet, Coderef, Call, CallIndirect, Row_of-Instr, end_of-Instr, more_of-Instr, items-the_row-Instr, Row_of-Instr-VariantCase-1-1, end_of-Instr-VariantCase-1-1, more_of-Instr-VariantCase-1-1}
use Rattle.rich_typing.specs.declared.rules.Rule.TheVariants as rule
use Rattle.rich_types.specs.Scopes.{scope_of}
use Rattle.rich_rules.specs.Forms.{first_ill_formed}
use Rattle.rich_rules.specs.Points.{Breaks, Frame, OfFunction, OfGlobal, Outcome, Owner, Point}
use Rattle.rich_rules.specs.Takers.{need, with_some, without}
use Rattle.rich_rules.specs.Blocks.{are_named_once, first_too_large, local_types, signed, variant_case_row}
use Rattle.rich_rules.specs.Table.{arms_of, in_function, lists_of, note_of, note_taking, param_count, row, takes}
use Rattle.rich_rules.specs.Variables.{local_set_row, may_get}
use Rattle.rich_rules.proofs.RowEquations.{arms-Block, arms-ExistUnpack, arms-If, arms-Loop, arms-MemUnpack, arms-VariantCase, row-Block, row-ExistUnpack, row-If, row-Loop, row-MemUnpack, row-VariantCase}
use Rattle.rich_linking.specs.Numbers.{NewNumbers, new_number, renumbered, renumbered_list, renumbered_row, renumbered_rows}
use Rattle.rich_linking_laws.specs.Laws.{FramesAgree, OwnersAgree}

-- no rule is broken
abbrev pub Goes : Outcome → Type 0
Goes (Breaks b) = ⊥
Goes _ = ⊤

-- lists with new numbers
abbrev pub renumbered_lists : NewNumbers → List (List Instr) → List (List Instr)
renumbered_lists k [] = []
renumbered_lists k (is ∷ rest) = renumbered_list k is ∷ renumbered_lists k rest

module _ (k : NewNumbers) where
  list-items : {n : _} (is : Row_of-Instr n) → renumbered_row k is ≡ renumbered_list k (items-the_row-Instr _ is)
  list-items end_of-Instr = refl
  list-items (more_of-Instr i is) = ap (λ (l : List Instr). renumbered k i ∷ l) (list-items is)

  lists-items : {n : _} (rows : Row_of-Instr-VariantCase-1-1 n) → renumbered_rows k rows ≡ renumbered_lists k (lists_of rows)
  lists-items end_of-Instr-VariantCase-1-1 = refl
  lists-items (more_of-Instr-VariantCase-1-1 m is rest) = ap (λ (l : List Instr). l ∷ renumbered_rows k rest) (list-items is) ∙ ap (λ (l : List (List Instr)). renumbered_list k (items-the_row-Instr _ is) ∷ l) (lists-items rest)

  lists-length : {n : _} (rows : Row_of-Instr-VariantCase-1-1 n) → length (renumbered_rows k rows) ≡ length (lists_of rows)
  lists-length end_of-Instr-VariantCase-1-1 = refl
  lists-length (more_of-Instr-VariantCase-1-1 m is rest) = ap (λ (n : ℕ). suc n) (lists-length rest)

  one_list : {n : _} (is : Row_of-Instr n) → renumbered_row k is ∷ [] ≡ renumbered_list k (items-the_row-Instr _ is) ∷ []
  one_list is = ap (λ (l : List Instr). l ∷ []) (list-items is)

  pub arms-renumbered : (i : Instr) → arms_of (renumbered k i) ≡ renumbered_lists k (arms_of i)
  arms-renumbered (Block' b m is) = arms-Block b (renumbered_row k is) ∙ one_list is
  arms-renumbered (Loop' b m is) = arms-Loop b (renumbered_row k is) ∙ one_list is
  arms-renumbered (If' b m is n js) = arms-If b (renumbered_row k is) (renumbered_row k js) ∙ ap (λ (l : List Instr). l ∷ renumbered_row k js ∷ []) (list-items is) ∙ ap (λ (l : List Instr). renumbered_list k (items-the_row-Instr _ is) ∷ l ∷ []) (list-items js)
  arms-renumbered (MemUnpack' b m is) = arms-MemUnpack b (renumbered_row k is) ∙ one_list is
  arms-renumbered (VariantCase' b m rows) = arms-VariantCase b (renumbered_rows k rows) ∙ lists-items rows
  arms-renumbered (ExistUnpack' b m is) = arms-ExistUnpack b (renumbered_row k is) ∙ one_list is
  arms-renumbered _ = refl

-- what is found by a number is found by the new one
looked_up : {A : Type 0} (x y : Option A) (rest : A → Outcome) (o : Outcome) → ((t : A) → x ≡ Some t → y ≡ Some t) → with_some x rule.Index None rest ≡ o → Goes o → with_some y rule.Index None rest ≡ o
looked_up None y rest o h r go = absurd (subst Goes (sym r) go)
looked_up (Some t) y rest o h r go = ap (λ z. with_some z rule.Index None rest) (h t refl) ∙ r

module _ (k : NewNumbers) (f g : Frame) (same : FramesAgree k f g) (p : Point) where
  -- in a function, or in no initialiser that goes on
  owned : (x y : Owner) → OwnersAgree k x y → (a b o : Outcome) → (a ≡ o → b ≡ o) → in_function x a ≡ o → Goes o → in_function y b ≡ o
  owned OfFunction OfFunction w a b o h r go = h r
  owned (OfGlobal m) y w a b o h r go = absurd (subst Goes (sym r) go)
  owned OfFunction (OfGlobal n) w a b o h r go = absurd w

  owned_alike : (a o : Outcome) → in_function f.owner a ≡ o → Goes o → in_function g.owner a ≡ o
  owned_alike a o r go = owned f.owner g.owner same.owners a a o (λ e. e) r go

  got_before : (m l : ℕ) → ((n : ℕ) → n < m → new_number k.globals n < l) → (n : ℕ) (a b o : Outcome) → (a ≡ o → b ≡ o) → (c : Bool) → nat_lt n m ≡ c → need c rule.Initialiser None None a ≡ o → Goes o → need (nat_lt (new_number k.globals n) l) rule.Initialiser None None b ≡ o
  got_before m l w n a b o h true e r go = ap (λ (c : Bool). need c rule.Initialiser None None b) (lt-ltb (new_number k.globals n) l (w n (ltb-true n m e))) ∙ h r
  got_before m l w n a b o h false e r go = absurd (subst Goes (sym r) go)

  got : (x y : Owner) → OwnersAgree k x y → (n : ℕ) (a b o : Outcome) → (a ≡ o → b ≡ o) → may_get x n a ≡ o → Goes o → may_get y (new_number k.globals n) b ≡ o
  got OfFunction OfFunction w n a b o h r go = h r
  got (OfGlobal m) (OfGlobal l) w n a b o h r go = got_before m l w n a b o h (nat_lt n m) refl r go
  got (OfGlobal m) OfFunction w n a b o h r go = absurd w
  got OfFunction (OfGlobal l) w n a b o h r go = absurd w

  signed-alike : (b : BlockSig) (rest : Outcome) → signed g p b rest ≡ signed f p b rest
  signed-alike b rest = ap (λ (slots : List ℕ). need (are_named_once (length p.locals) b.locals) rule.Index None None (without (first_ill_formed (scope_of p.binders) (b.params ++ b.results ++ local_types b.locals)) rule.TypeForm (without (first_too_large (scope_of p.binders) slots b.locals) rule.SlotSize rest))) (sym same.slots)

  pub row-renumbered : (i : Instr) (o : Outcome) → row f p i ≡ o → Goes o → row g p (renumbered k i) ≡ o
  unfolding row
  row-renumbered (Block' b m is) o r go = row-Block g p b (renumbered_row k is) ∙ signed-alike b _ ∙ r
  row-renumbered (Loop' b m is) o r go = row-Loop g p b (renumbered_row k is) ∙ signed-alike b _ ∙ r
  row-renumbered (If' b m is n js) o r go = row-If g p b (renumbered_row k is) (renumbered_row k js) ∙ signed-alike b _ ∙ r
  row-renumbered (MemUnpack' b m is) o r go = row-MemUnpack g p b (renumbered_row k is) ∙ signed-alike b _ ∙ r
  row-renumbered (VariantCase' b m rows) o r go = row-VariantCase g p b (renumbered_rows k rows) ∙ ap (λ (n : ℕ). variant_case_row g p b n) (lists-length k rows) ∙ signed-alike b _ ∙ r
  row-renumbered (ExistUnpack' b m is) o r go = row-ExistUnpack g p b (renumbered_row k is) ∙ signed-alike b _ ∙ r
  row-renumbered Return o r go = owned_alike _ o r go
  row-renumbered (LocalGet n) o r go = owned_alike _ o r go
  row-renumbered (LocalTake n) o r go = owned_alike _ o r go
  row-renumbered (LocalSet n) o r go = owned f.owner g.owner same.owners _ _ o (λ e. ap (λ (slots : List ℕ). local_set_row (scope_of p.binders) slots p.locals n p.operands) (sym same.slots) ∙ e) r go
  row-renumbered (GlobalGet n) o r go = got f.owner g.owner same.owners n _ _ o (λ e. looked_up (slice_get f.globals n) (slice_get g.globals (new_number k.globals n)) _ o (same.globals n) e go) r go
  row-renumbered (GlobalSet n) o r go = looked_up (slice_get f.globals n) (slice_get g.globals (new_number k.globals n)) _ o (same.globals n) r go
  row-renumbered (Coderef n) o r go = looked_up (slice_get f.functions n) (slice_get g.functions (new_number k.functions n)) _ o (same.functions n) r go
  row-renumbered (Call n args) o r go = owned f.owner g.owner same.owners _ _ o (λ e. looked_up (slice_get f.functions n) (slice_get g.functions (new_number k.functions n)) _ o (same.functions n) e go) r go
  row-renumbered CallIndirect o r go = owned_alike _ o r go
  row-renumbered _ o r go = r

  -- a function that is called is found
  called : (n : ℕ) (o : Outcome) (rest : _ → Outcome) → with_some (slice_get f.functions n) rule.Index None rest ≡ o → Goes o → param_count (slice_get g.functions (new_number k.functions n)) ≡ param_count (slice_get f.functions n)
  called n o rest r go = found (slice_get f.functions n) refl r
    where
      found : (x : _) → slice_get f.functions n ≡ x → with_some x rule.Index None rest ≡ o → param_count (slice_get g.functions (new_number k.functions n)) ≡ param_count x
      found None e r = absurd (subst Goes (sym r) go)
      found (Some t) e r = ap param_count (same.functions n t e)

  called_in : (x : Owner) (n : ℕ) (o : Outcome) (rest : _ → Outcome) → in_function x (with_some (slice_get f.functions n) rule.Index None rest) ≡ o → Goes o → param_count (slice_get g.functions (new_number k.functions n)) ≡ param_count (slice_get f.functions n)
  called_in OfFunction n o rest r go = called n o rest r go
  called_in (OfGlobal m) n o rest r go = absurd (subst Goes (sym r) go)

  pub note-renumbered : (i : Instr) (o : Outcome) → row f p i ≡ o → Goes o → note_of g p (renumbered k i) ≡ note_of f p i
  unfolding row takes
  note-renumbered (Call n args) o r go = ap (note_taking p (Call n args)) (called_in f.owner n o _ r go)
  note-renumbered _ o r go = refl
