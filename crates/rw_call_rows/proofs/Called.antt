-- Operands that are taken from the top of a stack, and those that are given for them where their types are well formed.
use Rattle.std.proofs.Common.{◌≡◌, ◌∙◌, ◌++◌, List, Option, Some, None, ap, sym, subst, length, drop, reverse}
use Rattle.std.proofs.Math.Path.{subst⁻¹}
use Rattle.rw_types.specs.declared.types.Ty.{Ty}
use Rattle.rich_types.specs.Scopes.{Scope}
use Rattle.rich_typing.specs.declared.rules.Rule.TheVariants as rule
use Rattle.rich_rules.specs.Forms.{first_ill_formed}
use Rattle.rich_rules.specs.Points.{Outcome, Gives, Breaks, Broke}
use Rattle.rich_rules.specs.Takers.{without, these, gives, gives_all_formed}
use Rattle.rw_row_answers.specs.declared.answers.CapError.{CapError}
use Rattle.rw_row_answers.specs.Answers.{Breaking}
use Rattle.rw_operand_stack.specs.declared.operand.Operand.{Operand}
use Rattle.rw_operand_stack.specs.Operands.{types_of}
use Rattle.rw_demands.proofs.Tails.{types_drop}

module _ (c : Scope) (taken given : List Ty) (slice held : List Operand) (is : reverse slice ≡ held) where
  abbrev pub calling : List Operand → Outcome
  calling os = these (reverse taken) (types_of os) (λ beneath. gives_all_formed c given beneath)

  pub not_taken : (e : CapError) → ((rest : List Ty → Outcome) → Breaking e (these (reverse taken) (types_of (reverse slice)) rest)) → Breaking e (calling held)
  not_taken e told = subst (λ (os : List Operand). Breaking e (calling os)) is (told (λ beneath. gives_all_formed c given beneath))

  module _ (told : (rest : List Ty → Outcome) → these (reverse taken) (types_of (reverse slice)) rest ≡ rest (drop (length taken) (types_of (reverse slice)))) where
    taken_off : calling held ≡ gives_all_formed c given (drop (length taken) (types_of held))
    taken_off =
        ap calling (sym is)
        ∙ told (λ beneath. gives_all_formed c given beneath)
        ∙ ap (λ (os : List Operand). gives_all_formed c given (drop (length taken) (types_of os))) is

    pub not_formed : (e : CapError) (t : Ty) → Some t ≡ first_ill_formed c given → Breaking e (Breaks (Broke rule.TypeForm (Some t) None)) → Breaking e (calling held)
    not_formed e t ill broken =
        subst⁻¹ (Breaking e) (taken_off ∙ ap (λ (o : Option Ty). without o rule.TypeForm (gives (reverse given) (drop (length taken) (types_of held)))) (sym ill)) broken

    pub called : (left : List Operand) (after : List Ty) → None ≡ first_ill_formed c given → left ≡ drop (length taken) held → after ≡ reverse given ++ types_of left → calling held ≡ Gives after None
    called left after formed leaves gave =
        taken_off
        ∙ ap (λ (o : Option Ty). without o rule.TypeForm (gives (reverse given) (drop (length taken) (types_of held)))) (sym formed)
        ∙ ap (gives (reverse given)) (types_drop (length taken) held ∙ ap types_of (sym leaves))
        ∙ ap (λ (ts : List Ty). Gives ts None) (sym gave)
