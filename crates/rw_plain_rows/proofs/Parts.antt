-- Operands that are taken from the top of a stack, and what is given for them.
use Rattle.std.proofs.Common.{◌≡◌, ◌≤◌, ◌<◌, ◌∙◌, ◌++◌, ◌+◌, ◌-◌, ℕ, List, [], ◌∷◌, Bool, None, ap, sym, subst, cond, length, get_or, take, drop, reverse, arith}
use Rattle.std.proofs.lemmas.Bool.{le-ltb, lt-ltb}
use Rattle.std.proofs.lemmas.List.{take_more, length-reverse, reverse-reverse}
use Rattle.rw_types.specs.declared.types.Pre.TheVariants.{Tuple}
use Rattle.rw_types.specs.declared.types.Qual.{Qual}
use Rattle.rw_types.specs.declared.types.Ty.{Ty, Of}
use Rattle.rich_types.specs.Scopes.{Scope}
use Rattle.rich_typing.specs.declared.rules.Rule.TheVariants as rule
use Rattle.rich_rules.specs.Plain.{from_to, group_row}
use Rattle.rich_rules.specs.Points.{Outcome, Gives, Breaks, Broke}
use Rattle.rich_rules.specs.Takers.{these, gives, gives_formed}
use Rattle.rw_row_answers.specs.declared.answers.CapError.{CapError}
use Rattle.rw_row_answers.specs.Answers.{Breaking}
use Rattle.rw_operand_stack.specs.declared.operand.Operand.{Operand}
use Rattle.rw_operand_stack.specs.Operands.{ty_of, types_of, operand_of}
use Rattle.rw_demands.proofs.Tails.{types_append, types_length, types_drop, types_front, type_kept}

pub types_more : (os : List Operand) (k : ℕ) (o : Operand) (t : Ty) → k < length os → o ≡ get_or os k o → t ≡ ty_of o → types_of (take k os) ++ t ∷ [] ≡ types_of (take (k + 1) os)
types_more os k o t in_os is copied =
    ap (λ (x : Ty). types_of (take k os) ++ x ∷ []) copied
    ∙ sym (types_append (take k os) (o ∷ []))
    ∙ ap types_of (ap (λ (x : Operand). take k os ++ x ∷ []) is ∙ sym (take_more os k o in_os))

module _ (taken given : List Ty) (slice held : List Operand) (is : reverse slice ≡ held) where
  pub not_these : (e : CapError) → ((rest : List Ty → Outcome) → Breaking e (these (reverse taken) (types_of (reverse slice)) rest)) → Breaking e (from_to (reverse taken) (reverse given) (types_of held))
  not_these e told = subst (λ (os : List Operand). Breaking e (from_to (reverse taken) (reverse given) (types_of os))) is (told (λ beneath. gives (reverse given) beneath))

  pub given_for_these : (left : List Operand) (after : List Ty) → ((rest : List Ty → Outcome) → these (reverse taken) (types_of (reverse slice)) rest ≡ rest (drop (length taken) (types_of (reverse slice)))) → left ≡ drop (length taken) held → after ≡ reverse given ++ types_of left → from_to (reverse taken) (reverse given) (types_of held) ≡ Gives after None
  given_for_these left after told leaves gave =
      ap (λ (os : List Operand). from_to (reverse taken) (reverse given) (types_of os)) (sym is)
      ∙ told (λ beneath. gives (reverse given) beneath)
      ∙ ap (λ (os : List Operand). gives (reverse given) (drop (length taken) (types_of os))) is
      ∙ ap (gives (reverse given)) (types_drop (length taken) held ∙ ap types_of (sym leaves))
      ∙ ap (λ (ts : List Ty). Gives ts None) (sym gave)

module _ (c : Scope) (q : Qual) (slice held : List Operand) (is : reverse slice ≡ held) (n : ℕ) where
  many : length (types_of held) ≡ length slice
  many = ap (λ (os : List Operand). length (types_of os)) (sym is) ∙ types_length (reverse slice) ∙ length-reverse slice

  pub too_few_parts : length slice < n → group_row c n q (types_of held) ≡ Breaks (Broke rule.Operands None None)
  too_few_parts few =
      let held_many : length (types_of held) ≡ length slice = many in
      ap (λ (b : Bool). cond b (Breaks (Broke rule.Operands None None)) (gives_formed c (Of q (Tuple (reverse (take n (types_of held))))) (drop n (types_of held)))) (lt-ltb (length (types_of held)) n (omega arith))

  module _ (tail : List Operand) (is_tail : tail ≡ drop (length slice - n) slice) (enough : n ≤ length slice) (parts : List Ty) (copied : parts ≡ types_of tail) where
    pub grouped : group_row c n q (types_of held) ≡ gives_formed c (Of q (Tuple parts)) (drop n (types_of held))
    grouped =
        let held_many : length (types_of held) ≡ length slice = many in
        ap (λ (b : Bool). cond b (Breaks (Broke rule.Operands None None)) (gives_formed c (Of q (Tuple (reverse (take n (types_of held))))) (drop n (types_of held)))) (le-ltb (length (types_of held)) n (omega arith))
        ∙ ap (λ (ts : List Ty). gives_formed c (Of q (Tuple ts)) (drop n (types_of held))) (parts_told ∙ sym copied)
      where
        parts_told : reverse (take n (types_of held)) ≡ types_of tail
        parts_told =
            ap (λ (os : List Operand). reverse (take n (types_of os))) (sym is)
            ∙ ap reverse (types_front slice n enough)
            ∙ reverse-reverse (types_of (drop (length slice - n) slice))
            ∙ ap types_of (sym is_tail)

-- a type is given over what is left
pub stored : (c : Scope) (t : Ty) (n : ℕ) (held left after : List Operand) → left ≡ drop n held → after ≡ operand_of c t ∷ left → gives (t ∷ []) (drop n (types_of held)) ≡ Gives (types_of after) None
stored c t n held left after leaves puts =
    ap (λ (ts : List Ty). Gives (t ∷ ts) None) (types_drop n held ∙ ap types_of (sym leaves))
    ∙ ap (λ (x : Ty). Gives (x ∷ types_of left) None) (sym (type_kept c t))
    ∙ ap (λ (os : List Operand). Gives (types_of os) None) (sym puts)
