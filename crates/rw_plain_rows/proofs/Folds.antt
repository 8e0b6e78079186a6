-- Rows on a type that is recursive.
use Rattle.std.proofs.Common.{◌≡◌, ◌∙◌, ℕ, List, [], ◌∷◌, Bool, true, Some, None, refl, ap, sym}
use Rattle.rw_types.specs.declared.types.Arg.TheVariants.{Given}
use Rattle.rw_types.specs.declared.types.Heap.TheBlock.{hidden-the_row-Ty-2}
use Rattle.rw_types.specs.declared.types.Qual.{Qual}
use Rattle.rw_types.specs.declared.types.Ty.{Ty}
use Rattle.rw_types.specs.declared.types.Ty.TheVariants.{Rec}
use Rattle.rich_types.specs.Instances.{instance}
use Rattle.rich_types.specs.Scopes.{Scope}
use Rattle.rich_typing.specs.declared.rules.Rule.TheVariants as rule
use Rattle.rich_rules.specs.Forms.{is_formed}
use Rattle.rich_rules.specs.Plain.{from_to, fold_row, unfold_row}
use Rattle.rich_rules.specs.Points.{Outcome}
use Rattle.rich_rules.specs.Takers.{need, these, rec_form, gives, gives_formed}

rec_seen : (q : Qual) (s : ℕ) (body : Ty) (rest : Ty → Outcome) → rec_form (Rec q s body) rest ≡ rest body
unfolding hidden-the_row-Ty-2 denote.Hole.Carrier.hidden
rec_seen q s body rest = refl

pub folded : (c : Scope) (q : Qual) (s : ℕ) (t body demanded given : Ty) (operands : List Ty) → t ≡ Rec q s body → is_formed c t ≡ true → demanded ≡ instance body (Given t ∷ []) → given ≡ t → fold_row c t operands ≡ from_to (demanded ∷ []) (given ∷ []) operands
folded c q s t body demanded given operands is formed demands gave =
    let taking : Ty → Outcome = λ (b : Ty). these (instance b (Given t ∷ []) ∷ []) operands (λ beneath. gives_formed c t beneath) in
    ap (λ (b : Bool). need b rule.TypeForm (Some t) None (rec_form t taking)) formed
    ∙ ap (λ (x : Ty). rec_form x taking) is
    ∙ rec_seen q s body taking
    ∙ ap (λ (x : Ty). these (x ∷ []) operands (λ beneath. gives_formed c t beneath)) (sym demands)
    ∙ ap (λ (b : Bool). these (demanded ∷ []) operands (λ beneath. need b rule.TypeForm (Some t) None (gives (t ∷ []) beneath))) formed
    ∙ ap (λ (x : Ty). these (demanded ∷ []) operands (λ beneath. gives (x ∷ []) beneath)) (sym gave)

pub unfolds : (q : Qual) (s : ℕ) (t body given : Ty) (beneath : List Ty) → t ≡ Rec q s body → given ≡ instance body (Given t ∷ []) → unfold_row (t ∷ beneath) ≡ gives (given ∷ []) beneath
unfolds q s t body given beneath is gave =
    let giving : Ty → Outcome = λ (b : Ty). gives (instance b (Given t ∷ []) ∷ []) beneath in
    ap (λ (x : Ty). rec_form x giving) is
    ∙ rec_seen q s body giving
    ∙ ap (λ (x : Ty). gives (x ∷ []) beneath) (sym gave)
