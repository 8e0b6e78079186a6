-- The top operands, which are the last ones of the slice.
use Rattle.std.proofs.Common.{◌≡◌, ◌≤◌, ◌∙◌, ◌++◌, ◌+◌, ◌-◌, ℕ, zero, suc, List, [], ◌∷◌, Bool, true, false, refl, ap, sym, length, get_or, take, drop, reverse, arith}
use Rattle.std.proofs.lemmas.List.{take_more}
use Rattle.std.proofs.Math.Seq.{take-append_seam}
use Rattle.std.proofs.lemmas.List.{reverse-append, length-reverse, take-append-drop, length-drop}
use Rattle.rw_types.specs.declared.types.Ty.{Ty}
use Rattle.rich_types.specs.Scopes.{Scope}
use Rattle.rich_rules.specs.Forms.{is_unr_type}
use Rattle.rw_operand_stack.specs.declared.operand.Operand.{Operand}
use Rattle.rw_operand_stack.specs.Operands.{ty_of, types_of, operand_of, operand_where, AreOperands}

pub types_length : (os : List Operand) → length (types_of os) ≡ length os
types_length [] = refl
types_length (o ∷ os) = ap suc (types_length os)

pub types_take : (n : ℕ) (os : List Operand) → take n (types_of os) ≡ types_of (take n os)
types_take zero os = refl
types_take (suc n) [] = refl
types_take (suc n) (o ∷ os) = ap (λ (ts : List Ty). ty_of o ∷ ts) (types_take n os)

pub types_drop : (n : ℕ) (os : List Operand) → drop n (types_of os) ≡ types_of (drop n os)
types_drop zero os = refl
types_drop (suc n) [] = refl
types_drop (suc n) (o ∷ os) = types_drop n os

pub types_append : (os ps : List Operand) → types_of (os ++ ps) ≡ types_of os ++ types_of ps
types_append [] ps = refl
types_append (o ∷ os) ps = ap (λ (ts : List Ty). ty_of o ∷ ts) (types_append os ps)

-- the types of operands the other way round
pub types_reverse : (os : List Operand) → types_of (reverse os) ≡ reverse (types_of os)
types_reverse [] = refl
types_reverse (o ∷ os) =
    ap types_of (reverse-append (o ∷ []) os)
    ∙ types_append (reverse os) (o ∷ [])
    ∙ ap (λ (ts : List Ty). ts ++ ty_of o ∷ []) (types_reverse os)
    ∙ sym (reverse-append (ty_of o ∷ []) (types_of os))

module _ {A : Type 0} (all : List A) (n : ℕ) (enough : n ≤ length all) where
  count : length (reverse (drop (length all - n) all)) ≡ n
  count = length-reverse (drop (length all - n) all) ∙ length-drop (length all - n) all ∙ back (length all) n enough
    where
      back : (k m : ℕ) → m ≤ k → k - (k - m) ≡ m
      back k m le = omega arith

  parts : reverse all ≡ reverse (drop (length all - n) all) ++ reverse (take (length all - n) all)
  parts = ap reverse (sym (take-append-drop (length all - n) all)) ∙ reverse-append (take (length all - n) all) (drop (length all - n) all)

  -- the first ones of the list the other way round are the last ones
  pub front : take n (reverse all) ≡ reverse (drop (length all - n) all)
  front =
      ap (take n) parts
      ∙ ap (λ (k : ℕ). take k (reverse (drop (length all - n) all) ++ reverse (take (length all - n) all))) (sym count)
      ∙ take-append_seam (reverse (drop (length all - n) all)) (reverse (take (length all - n) all))

-- the types of the top operands
pub types_front : (all : List Operand) (n : ℕ) → n ≤ length all → take n (types_of (reverse all)) ≡ reverse (types_of (drop (length all - n) all))
types_front all n enough = types_take n (reverse all) ∙ ap types_of (front all n enough) ∙ types_reverse (drop (length all - n) all)

-- what is left of operands that are marked is marked
pub marked_left : (c : Scope) (n : ℕ) (os : List Operand) → AreOperands c os → AreOperands c (drop n os)
marked_left c zero os a = a
marked_left c (suc n) [] a = a
marked_left c (suc n) (o ∷ os) a = marked_left c n os a.1

-- the operand of a type has it
pub type_kept : (c : Scope) (t : Ty) → ty_of (operand_of c t) ≡ t
type_kept c t = by_test (is_unr_type c t)
  where
    by_test : (b : Bool) → ty_of (operand_where b t) ≡ t
    by_test true = refl
    by_test false = refl

pub one_more : (n : ℕ) → n + 1 ≡ suc n
one_more n = omega arith

-- one more is left out
left_out : {A : Type 0} (k : ℕ) (xs rest : List A) (x : A) → drop k xs ≡ x ∷ rest → drop (suc k) xs ≡ rest
left_out zero [] rest x f = absurd cc
left_out zero (y ∷ ys) rest x f = cc
left_out (suc n) [] rest x f = absurd cc
left_out (suc n) (y ∷ ys) rest x f = left_out n ys rest x f

pub drop_one : {A : Type 0} (k : ℕ) (xs rest : List A) (x : A) → drop k xs ≡ x ∷ rest → drop (k + 1) xs ≡ rest
drop_one k xs rest x e = ap (λ (n : ℕ). drop n xs) (one_more k) ∙ left_out k xs rest x e

none_out : {A : Type 0} (k : ℕ) (xs : List A) → drop k xs ≡ [] → drop (suc k) xs ≡ []
none_out zero [] f = refl
none_out zero (y ∷ ys) f = absurd cc
none_out (suc n) [] f = refl
none_out (suc n) (y ∷ ys) f = none_out n ys f

pub drop_none : {A : Type 0} (k : ℕ) (xs : List A) → drop k xs ≡ [] → drop (k + 1) xs ≡ []
drop_none k xs e = ap (λ (n : ℕ). drop n xs) (one_more k) ∙ none_out k xs e

-- all of a list
take_whole : {A : Type 0} (n : ℕ) (xs : List A) → length xs ≤ n → take n xs ≡ xs
take_whole zero [] e = refl
take_whole zero (x ∷ xs) e = absurd (omega arith)
take_whole (suc n) [] e = refl
take_whole {A = A} (suc n) (x ∷ xs) e = ap (λ (ys : List A). x ∷ ys) (take_whole n xs (omega arith))

pub take_rest : {A : Type 0} (k : ℕ) (xs : List A) → take (length xs - k) (drop k xs) ≡ drop k xs
take_rest k xs =
    let long : length (drop k xs) ≡ length xs - k = length-drop k xs in
    take_whole (length xs - k) (drop k xs) (omega arith)

-- the last operand of a slice is the top one
pub top_first : (all : List Operand) (top : Operand) → 1 ≤ length all → top ≡ get_or all (length all - 1) top → types_of (reverse all) ≡ ty_of top ∷ types_of (reverse (take (length all - 1) all))
top_first all top some is =
    let under : List Operand = take (length all - 1) all in
    let split : all ≡ under ++ top ∷ [] = sym (take_whole (length all - 1 + 1) all (omega arith)) ∙ take_more all (length all - 1) top (omega arith) ∙ ap (λ (o : Operand). take (length all - 1) all ++ o ∷ []) (sym is) in
    ap (λ (os : List Operand). types_of (reverse os)) split
    ∙ ap types_of (reverse-append under (top ∷ []))
