-- The top operands of a stack, which are the last ones of the slice.
use Rattle.std.proofs.Common.{◌≡◌, ◌≤◌, ◌∙◌, ◌++◌, ◌+◌, ◌-◌, ℕ, zero, suc, List, [], ◌∷◌, Bool, true, false, None, refl, ap, sym, cond, length, take, drop, reverse, arith}
use Rattle.std.proofs.Math.Path.{subst⁻¹}
use Rattle.std.proofs.Math.Seq.{take-append_seam}
use Rattle.std.proofs.lemmas.Bool.{le-ltb, lt-ltb}
use Rattle.std.proofs.lemmas.List.{reverse-append, length-reverse, take-append-drop, length-drop, drop-drop}
use Rattle.rw_types.specs.declared.types.Mem.{Mem}
use Rattle.rw_types.specs.declared.types.Ty.{Ty}
use Rattle.rich_types.specs.Scopes.{Scope}
use Rattle.rich_typing.specs.declared.rules.Rule.TheVariants as rule
use Rattle.rich_rules.specs.Forms.{is_unr_type}
use Rattle.rich_rules.specs.Points.{Gives, Breaks, Broke}
use Rattle.rich_rules.specs.Structs.{struct_malloc_row}
use Rattle.rich_rules.specs.Takers.{gives}
use Rattle.rw_row_answers.specs.declared.answers.CapError.{CapError}
use Rattle.rw_row_answers.specs.Answers.{Breaking}
use Rattle.rw_operand_stack.specs.declared.operand.Operand.{Operand}
use Rattle.rw_operand_stack.specs.Operands.{ty_of, types_of, operand_of, operand_where, AreOperands}
use Rattle.rw_struct_cells.specs.Fields.{struct_of}

types_length : (os : List Operand) → length (types_of os) ≡ length os
types_length [] = refl
types_length (o ∷ os) = ap suc (types_length os)

types_take : (n : ℕ) (os : List Operand) → take n (types_of os) ≡ types_of (take n os)
types_take zero os = refl
types_take (suc n) [] = refl
types_take (suc n) (o ∷ os) = ap (λ (ts : List Ty). ty_of o ∷ ts) (types_take n os)

types_drop : (n : ℕ) (os : List Operand) → drop n (types_of os) ≡ types_of (drop n os)
types_drop zero os = refl
types_drop (suc n) [] = refl
types_drop (suc n) (o ∷ os) = types_drop n os

types_append : (os ps : List Operand) → types_of (os ++ ps) ≡ types_of os ++ types_of ps
types_append [] ps = refl
types_append (o ∷ os) ps = ap (λ (ts : List Ty). ty_of o ∷ ts) (types_append os ps)

-- the types of operands the other way round
types_reverse : (os : List Operand) → reverse (types_of (reverse os)) ≡ types_of os
types_reverse [] = refl
types_reverse (o ∷ os) =
    ap (λ (l : List Operand). reverse (types_of l)) (reverse-append (o ∷ []) os)
    ∙ ap reverse (types_append (reverse os) (o ∷ []))
    ∙ reverse-append (types_of (reverse os)) (ty_of o ∷ [])
    ∙ ap (λ (ts : List Ty). ty_of o ∷ ts) (types_reverse os)

module _ (all : List Operand) (n : ℕ) (enough : n ≤ length all) where
  count : length (reverse (drop (length all - n) all)) ≡ n
  count = length-reverse (drop (length all - n) all) ∙ length-drop (length all - n) all ∙ back (length all) n enough
    where
      back : (k m : ℕ) → m ≤ k → k - (k - m) ≡ m
      back k m le = omega arith

  parts : reverse all ≡ reverse (drop (length all - n) all) ++ reverse (take (length all - n) all)
  parts = ap reverse (sym (take-append-drop (length all - n) all)) ∙ reverse-append (take (length all - n) all) (drop (length all - n) all)

  front : take n (reverse all) ≡ reverse (drop (length all - n) all)
  front =
      ap (take n) parts
      ∙ ap (λ (k : ℕ). take k (reverse (drop (length all - n) all) ++ reverse (take (length all - n) all))) (sym count)
      ∙ take-append_seam (reverse (drop (length all - n) all)) (reverse (take (length all - n) all))

  -- the last ones of the slice, the deepest one first
  pub last_types : types_of (drop (length all - n) all) ≡ reverse (take n (types_of (reverse all)))
  last_types = sym (ap reverse (types_take n (reverse all) ∙ ap types_of front) ∙ types_reverse (drop (length all - n) all))

-- the operand of a type has it
type_kept : (c : Scope) (t : Ty) → ty_of (operand_of c t) ≡ t
type_kept c t = by_test (is_unr_type c t)
  where
    by_test : (b : Bool) → ty_of (operand_where b t) ≡ t
    by_test true = refl
    by_test false = refl

-- these are the top ones of a stack
pub top_types : (all stack fields : List Operand) (n : ℕ) → reverse all ≡ stack → n ≤ length all → fields ≡ drop (length all - n) all → types_of fields ≡ reverse (take n (types_of stack))
top_types all stack fields n seen enough e = ap types_of e ∙ last_types all n enough ∙ ap (λ (l : List Operand). reverse (take n (types_of l))) seen

module _ (c : Scope) (m : Mem) (sizes : List ℕ) (stack : List Operand) where
  -- too few operands break `operands`
  pub struct_short : (e : CapError) → suc (length stack) ≤ length sizes → Breaking e (Breaks (Broke rule.Operands None None)) → Breaking e (struct_malloc_row c m sizes (types_of stack))
  struct_short e few told =
      let held : length (types_of stack) ≡ length stack = types_length stack in
      let small : suc (length (types_of stack)) ≤ length sizes = omega arith in
      subst⁻¹ (Breaking e)
      (ap (λ (b : Bool). cond b (Breaks (Broke rule.Operands None None)) (struct_of c m sizes (reverse (take (length sizes) (types_of stack))) (drop (length sizes) (types_of stack)))) (lt-ltb (length (types_of stack)) (length sizes) small))
      told

  module _ (ts : List Ty) (enough : length sizes ≤ length stack) (fields : ts ≡ reverse (take (length sizes) (types_of stack))) where
    -- the row looks at the fields
    struct_row : struct_malloc_row c m sizes (types_of stack) ≡ struct_of c m sizes ts (types_of (drop (length sizes) stack))
    struct_row =
        let held : length (types_of stack) ≡ length stack = types_length stack in
        let large : length sizes ≤ length (types_of stack) = omega arith in
        ap (λ (b : Bool). cond b (Breaks (Broke rule.Operands None None)) (struct_of c m sizes (reverse (take (length sizes) (types_of stack))) (drop (length sizes) (types_of stack)))) (le-ltb (length (types_of stack)) (length sizes) large)
        ∙ ap (λ (us : List Ty). struct_of c m sizes us (drop (length sizes) (types_of stack))) (sym fields)
        ∙ ap (λ (us : List Ty). struct_of c m sizes ts us) (types_drop (length sizes) stack)

    pub struct_refused : (e : CapError) → ((beneath : List Ty) → Breaking e (struct_of c m sizes ts beneath)) → Breaking e (struct_malloc_row c m sizes (types_of stack))
    struct_refused e told = subst⁻¹ (Breaking e) struct_row (told (types_of (drop (length sizes) stack)))

    pub struct_made : (t : Ty) (after : List Operand) → ((beneath : List Ty) → struct_of c m sizes ts beneath ≡ gives (t ∷ []) beneath) → after ≡ operand_of c t ∷ drop (length sizes) stack → struct_malloc_row c m sizes (types_of stack) ≡ Gives (types_of after) None
    struct_made t after told e =
        struct_row ∙ told (types_of (drop (length sizes) stack))
        ∙ ap (λ (u : Ty). Gives (u ∷ types_of (drop (length sizes) stack)) None) (sym (type_kept c t))
        ∙ ap (λ (l : List Operand). Gives (types_of l) None) (sym e)

-- one operand more is left out
pub drop_more : (n : ℕ) (os : List Operand) → drop 1 (drop n os) ≡ drop (n + 1) os
drop_more n os = drop-drop 1 n os

-- what is left of operands that are marked is marked
marked_left : (c : Scope) (n : ℕ) (os : List Operand) → AreOperands c os → AreOperands c (drop n os)
marked_left c zero os a = a
marked_left c (suc n) [] a = a
marked_left c (suc n) (o ∷ os) a = marked_left c n os a.1

-- and so it is under the operand of a type
pub marked_made : (c : Scope) (n : ℕ) (t : Ty) (os after : List Operand) → after ≡ operand_of c t ∷ drop n os → AreOperands c os → AreOperands c after
marked_made c n t os after e a = subst⁻¹ (AreOperands c) e (sym (ap (operand_of c) (type_kept c t)), marked_left c n os a)
