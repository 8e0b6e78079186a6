-- Rows on a local that there is, where each condition holds.
use Rattle.std.proofs.Common.{◌≡◌, ◌∙◌, ℕ, List, ◌∷◌, Bool, true, false, Option, Some, None, refl, ap, sym}
use Rattle.std.specs.Prelude.{not, slice_get}
use Rattle.rw_types.specs.declared.types.Ty.{Ty}
use Rattle.rich_types.specs.Scopes.{Scope}
use Rattle.rich_typing.specs.declared.rules.Rule.TheVariants as rule
use Rattle.rich_rules.specs.Blocks.{fits_in}
use Rattle.rich_rules.specs.Forms.{is_unr_type}
use Rattle.rich_rules.specs.Points.{Outcome, Gives, Becomes}
use Rattle.rich_rules.specs.Takers.{unr_unit, need, with_some, one}
use Rattle.rich_rules.specs.Variables.{local_take_row, local_set_row, fits_slot}
use Rattle.rw_operand_stack.specs.declared.operand.Operand.{Operand}
use Rattle.rw_operand_stack.specs.Operands.{ty_of, types_of, operand_of}
use Rattle.rw_demands.proofs.Tails.{type_kept}

same_some : (x y : Ty) → Some x ≡ Some y → x ≡ y
same_some x y e = cc

pub takes_local : (c : Scope) (locals : List Ty) (n : ℕ) (t value : Ty) (held after : List Operand) → slice_get locals n ≡ Some t → is_unr_type c t ≡ false → slice_get locals n ≡ Some value → after ≡ operand_of c value ∷ held → local_take_row c locals n (types_of held) ≡ Gives (types_of after) (Some (Becomes n unr_unit))
takes_local c locals n t value held after stands is_held moves puts =
    let taking : Ty → Outcome = λ (x : Ty). need (not (is_unr_type c x)) rule.Spent (Some x) None (Gives (x ∷ types_of held) (Some (Becomes n unr_unit))) in
    ap (λ (o : Option Ty). with_some o rule.Index None taking) stands
    ∙ ap (λ (b : Bool). need (not b) rule.Spent (Some t) None (Gives (t ∷ types_of held) (Some (Becomes n unr_unit)))) is_held
    ∙ ap (λ (x : Ty). Gives (x ∷ types_of held) (Some (Becomes n unr_unit))) (same_some t value (sym stands ∙ moves) ∙ sym (type_kept c value))
    ∙ ap (λ (os : List Operand). Gives (types_of os) (Some (Becomes n unr_unit))) (sym puts)

-- a slot is asked where there is one
slot_fits : (c : Scope) (o : Option ℕ) (t : Ty) (rest : Outcome) → fits_slot c o t rest ≡ need (fits_in c o t) rule.SlotSize (Some t) None rest
slot_fits c (Some s) t rest = refl
slot_fits c None t rest = refl

pub sets_local : (c : Scope) (slots : List ℕ) (locals : List Ty) (n : ℕ) (t value : Ty) (top : Operand) (held after : List Operand) → slice_get locals n ≡ Some t → held ≡ top ∷ after → value ≡ ty_of top → is_unr_type c t ≡ true → fits_in c (slice_get slots n) value ≡ true → local_set_row c slots locals n (types_of held) ≡ Gives (types_of after) (Some (Becomes n value))
sets_local c slots locals n t value top held after stands holds is drops fitting =
    let setting : Ty → Outcome = λ (old : Ty). one (types_of held) (λ x beneath. need (is_unr_type c old) rule.LinearDrop (Some old) None (fits_slot c (slice_get slots n) x (Gives beneath (Some (Becomes n x))))) in
    let given : Outcome = Gives (types_of after) (Some (Becomes n value)) in
    ap (λ (o : Option Ty). with_some o rule.Index None setting) stands
    ∙ ap (λ (os : List Operand). one (types_of os) (λ x beneath. need (is_unr_type c t) rule.LinearDrop (Some t) None (fits_slot c (slice_get slots n) x (Gives beneath (Some (Becomes n x)))))) holds
    ∙ ap (λ (x : Ty). need (is_unr_type c t) rule.LinearDrop (Some t) None (fits_slot c (slice_get slots n) x (Gives (types_of after) (Some (Becomes n x))))) (sym is)
    ∙ ap (λ (b : Bool). need b rule.LinearDrop (Some t) None (fits_slot c (slice_get slots n) value given)) drops
    ∙ slot_fits c (slice_get slots n) value given
    ∙ ap (λ (b : Bool). need b rule.SlotSize (Some value) None given) fitting
