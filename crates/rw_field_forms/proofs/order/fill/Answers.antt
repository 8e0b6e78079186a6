use Rattle.std.proofs.Common.{◌≡◌, ◌<◌, ◌≤◌, ℕ, arith}
use Rattle.rw_parser.specs.Reads.{the_fields}
use Rattle.rw_type_forms.proofs.Heading.{handed_on}
use Rattle.rw_field_forms.specs.Fields.{module_fields}
use Rattle.rw_field_forms.proofs.Filling.{filling_fails, filling_misplaced, filling_more, filling_none, filling_stops}
use Rattle.rw_field_forms.proofs.Starting.{started_field}
use Rattle.rw_field_forms.proofs.order.fill.Goals as goal

earlier : (a b m n : ℕ) → a ≡ m → b ≡ n → a < b → m < n
earlier a b m n e h t = omega arith

not_earlier : (a b m n : ℕ) → a ≡ m → b ≡ n → b ≤ a → m < n → ⊥
not_earlier a b m n e h t l = omega arith

pub loop-kind-init : goal.loop-kind-init
loop-kind-init c = filling_none _ _ c.requires.none

pub returns-in_err-kind : goal.returns-in_err-kind
returns-in_err-kind c = handed_on _ (the_fields module_fields) _ c.from_residual.result _ c.from_residual.ensures.1 (filling_stops c.loop-kind.invariant c.in_err-kind.ensures)

pub returns-then-place : goal.returns-then-place
returns-then-place c =
    filling_misplaced c.in-Field.kind c.loop-kind.invariant (started_field _ c.in-Field.kind c.in-Field.is c.in_ok-kind.ensures) (earlier _ _ _ _ c.place.ensures c.place-in-loop-kind.ensures c.if-place.true) c.bad_form.ensures

pub returns-in_err-read_field : goal.returns-in_err-read_field
returns-in_err-read_field c =
    handed_on _ (the_fields module_fields) _ c.from_residual-in_err-read_field.result _ c.from_residual-in_err-read_field.ensures.1
    (filling_fails c.in-Field.kind c.loop-kind.invariant (started_field _ c.in-Field.kind c.in-Field.is c.in_ok-kind.ensures) (not_earlier _ _ _ _ c.place.ensures c.place-in-loop-kind.ensures c.if-place.false) c.in_err-read_field.ensures)

pub loop-kind-preserved : goal.loop-kind-preserved
loop-kind-preserved c =
    filling_more c.loop-kind.invariant (started_field _ c.in-Field.kind c.in-Field.is c.in_ok-kind.ensures) (not_earlier _ _ _ _ c.place.ensures c.place-in-loop-kind.ensures c.if-place.false) c.in_ok-read_field.ensures
