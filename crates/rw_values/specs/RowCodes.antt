-- Codes of the rows, by which a proof tells them apart. This project's own.
use Rattle.std.specs.Prelude.{refl, ℕ, List}
use Rattle.std.specs.Coded.{Coded, code_by, coded×, coded_ℕ, coded_list}
use Rattle.rich_reduction.specs.Configurations.{Val}
use Rattle.rw_values.specs.Codes.{val_code}
use Rattle.rw_values.specs.Rows.{OperandRow, LocalRow}

abbrev pub operand_row_code : Coded OperandRow
operand_row_code = code_by (List Val × (List Val × ℕ)) (coded× (coded_list val_code) (coded× (coded_list val_code) coded_ℕ))
    (λ r. (r.own, (r.beneath, r.room))) (λ p. record { own = p.0; beneath = p.1.0; room = p.1.1 }) (λ _. refl)

abbrev pub local_row_code : Coded LocalRow
local_row_code = code_by (List Val × List Val) (coded× (coded_list val_code) (coded_list val_code))
    (λ r. (r.own, r.beneath)) (λ p. record { own = p.0; beneath = p.1 }) (λ _. refl)
