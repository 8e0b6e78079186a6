-- The rows on branches, by what is told of the label and of the operands.
use Rattle.std.proofs.Common.{◌≡◌, ◌≤◌, ◌∙◌, ◌+◌, ◌-◌, ℕ, List, Option, Some, None, refl, ap, sym, subst, length, take, drop, reverse, arith}
use Rattle.std.specs.Prelude.{Result, slice_get}
use Rattle.std.proofs.Math.Path.{subst⁻¹}
use Rattle.std.proofs.lemmas.List.{reverse-reverse}
use Rattle.rw_types.specs.declared.types.Binder.{Binder}
use Rattle.rw_types.specs.declared.types.Ty.{Ty}
use Rattle.rich_types.specs.Scopes.{scope_of}
use Rattle.rich_typing.specs.declared.rules.Rule.TheVariants as rule
use Rattle.rich_rules.specs.Branches.{br_row, br_if_row, crossed, crossing, return_row}
use Rattle.rich_rules.specs.Points.{Label, Point, Outcome, Ends, Gives}
use Rattle.rich_rules.specs.Takers.{first_difference, first_held, gives, of_type, one_over, these, unr_i32, with_some, without, without_difference}
use Rattle.rw_operand_stack.specs.declared.operand.Operand.{Operand}
use Rattle.rw_operand_stack.specs.Operands.{types_of}
use Rattle.rw_row_answers.specs.declared.answers.CapError.{CapError}
use Rattle.rw_struct_looks.specs.Takes.{Allows}
use Rattle.rw_scopes.specs.declared.enclosing.Enclosing.{Enclosing}
use Rattle.rw_scopes.specs.declared.targets.Target.{Target}
use Rattle.rw_scopes.specs.Labels.{point_seen, target_seen}
use Rattle.rw_branch_rows.proofs.Left.{enough, enough_over, stays, types_left}

-- what a branch has to meet, to a place with these locals
abbrev pub leaving : Point → ℕ → List Ty → Outcome → List Ty → Outcome
leaving p k there rest beneath = without (crossed p k beneath) rule.Crossed (without_difference (first_difference p.locals there) rule.LocalsDiffer rest)

-- and one that may be taken
abbrev pub leaving_if : Point → ℕ → List Ty → List Ty → Ty → List Ty → Outcome
leaving_if p k there carried t beneath = of_type unr_i32 t (leaving p k there (gives (reverse carried) beneath) beneath)

-- and `return`
abbrev pub unr_locals : Point → Outcome
unr_locals p = without (first_held (scope_of p.binders) p.locals) rule.LocalsDiffer Ends

abbrev pub returning : Point → ℕ → List Ty → Outcome
returning p count beneath = without (crossed p count beneath) rule.Crossed (unr_locals p)

found : (o : Option Label) (t : Target) → Some t ≡ target_seen o → (l : Label) × (o ≡ Some l) × (l.types ≡ reverse t.types) × (l.locals ≡ t.locals)
found None t e = absurd cc
found (Some l) t e =
    let is : t ≡ record { types = reverse l.types; locals = l.locals } = cc in
    (l, refl, sym (ap (λ (x : Target). reverse x.types) is ∙ reverse-reverse l.types), sym (ap (λ (x : Target). x.locals) is))

module _ (p : Point) (k : ℕ) (t : Target) (e : Some t ≡ target_seen (slice_get p.labels k)) (carried there : List Ty) (carries : carried ≡ t.types) (stands : there ≡ t.locals) where
  pub br_told : br_row p k ≡ these (reverse carried) p.operands (leaving p k there Ends)
  br_told =
      let f = found (slice_get p.labels k) t e in
      ap (λ (o : Option Label). with_some o rule.Index None (λ l. these l.types p.operands (λ beneath. crossing p k l beneath Ends))) f.1
      ∙ ap (λ (ts : List Ty). these ts p.operands (leaving p k f.0.locals Ends)) (f.2 ∙ ap reverse (sym carries))
      ∙ ap (λ (ts : List Ty). these (reverse carried) p.operands (leaving p k ts Ends)) (f.3 ∙ sym stands)

  pub br_if_told : br_if_row p k ≡ one_over (reverse carried) p.operands (leaving_if p k there carried)
  br_if_told =
      let f = found (slice_get p.labels k) t e in
      ap (λ (o : Option Label). with_some o rule.Index None (λ l. one_over l.types p.operands (λ u beneath. of_type unr_i32 u (crossing p k l beneath (gives l.types beneath))))) f.1
      ∙ ap (λ (ts : List Ty). one_over ts p.operands (λ u beneath. of_type unr_i32 u (leaving p k f.0.locals (gives ts beneath) beneath))) (f.2 ∙ ap reverse (sym carries))
      ∙ ap (λ (ts : List Ty). one_over (reverse carried) p.operands (λ u beneath. of_type unr_i32 u (leaving p k ts (gives (reverse carried) beneath) beneath))) (f.3 ∙ sym stands)

module _ (binders : List Binder) (around : Enclosing) (locals : List Ty) (all : List Operand) where
  abbrev p : Point
  p = point_seen binders around locals (reverse all)

  module _ (k : ℕ) (t : Target) (e : Some t ≡ target_seen (slice_get p.labels k)) (carried there : List Ty) (carries : carried ≡ t.types) (stands : there ≡ t.locals) (r : Result (Unit {0}) CapError) (cut : List Operand) (crosses : (rest : Outcome) → Allows r (leaving p k there rest (types_of (reverse cut))) rest) where
    pub br_allowed : ((rest : List Ty → Outcome) → these (reverse carried) (types_of (reverse all)) rest ≡ rest (drop (length carried) (types_of (reverse all)))) → cut ≡ take (length all - length carried) all → Allows r (br_row p k) Ends
    br_allowed met is =
        subst⁻¹ (λ (out : Outcome). Allows r out Ends)
        (br_told p k t e carried there carries stands
        ∙ met (leaving p k there Ends)
        ∙ ap (leaving p k there Ends) (types_left all (length carried) (enough carried all met) ∙ ap (λ (os : List Operand). types_of (reverse os)) (sym is)))
        (crosses Ends)

    pub br_if_allowed : (top : Ty) → ((rest : Ty → List Ty → Outcome) → one_over (reverse carried) (types_of (reverse all)) rest ≡ rest top (drop (length carried + 1) (types_of (reverse all)))) → ((rest : Outcome) → of_type unr_i32 top rest ≡ rest) → cut ≡ take ((length all - 1) - length carried) all → Allows r (br_if_row p k) (Gives (types_of (drop 1 (reverse all))) None)
    br_if_allowed top met number is =
        let beneath : List Ty = drop (length carried + 1) (types_of (reverse all)) in
        let after : Outcome = gives (reverse carried) beneath in
        let some : length carried + 1 ≤ length all = enough_over carried all top met in
        let fewer : length all - (length carried + 1) ≡ (length all - 1) - length carried = omega arith in
        let cuts : beneath ≡ types_of (reverse cut) = types_left all (length carried + 1) some ∙ ap (λ (n : ℕ). types_of (reverse (take n all))) fewer ∙ ap (λ (os : List Operand). types_of (reverse os)) (sym is) in
        subst⁻¹ (λ (out : Outcome). Allows r out (Gives (types_of (drop 1 (reverse all))) None))
        (br_if_told p k t e carried there carries stands
        ∙ met (leaving_if p k there carried)
        ∙ number (leaving p k there after beneath)
        ∙ ap (leaving p k there after) cuts)
        (subst (λ (end : Outcome). Allows r (leaving p k there after (types_of (reverse cut))) end) (ap (λ (ts : List Ty). Gives ts None) (stays carried all top met)) (crosses after))

  module _ (results carried : List Ty) (told : reverse results ≡ p.results) (carries : carried ≡ results) (count : ℕ) (counts : count ≡ length p.labels) where
    pub return_told : return_row p ≡ these (reverse carried) (types_of (reverse all)) (returning p count)
    return_told =
        ap (λ (ts : List Ty). these ts (types_of (reverse all)) (returning p (length p.labels))) (sym (ap reverse carries ∙ told))
        ∙ ap (λ (n : ℕ). these (reverse carried) (types_of (reverse all)) (returning p n)) (sym counts)

    pub return_left : ((rest : List Ty → Outcome) → these (reverse carried) (types_of (reverse all)) rest ≡ rest (drop (length carried) (types_of (reverse all)))) → (cut : List Operand) → cut ≡ take (length all - length carried) all → return_row p ≡ returning p count (types_of (reverse cut))
    return_left met cut is =
        return_told
        ∙ met (returning p count)
        ∙ ap (returning p count) (types_left all (length carried) (enough carried all met) ∙ ap (λ (os : List Operand). types_of (reverse os)) (sym is))
