use Rattle.wasm_num.proofs.Divisions.{divides_signed, divides_unsigned}
use Rattle.wasm_num.proofs.Extensions.{extension_keeps}
use Rattle.wasm_num.proofs.Places.{stands_around_ones, acts_digit_by_digit}
use Rattle.wasm_num.proofs.Ranges.{stays_within}
use Rattle.wasm_num.proofs.Turns.{turns_back}
use Rattle.wasm_num.proofs.laws.numbers_obey.Goals as goal

pub returns-clause-within : goal.returns-clause-within
returns-clause-within c = stays_within

pub returns-clause-signed : goal.returns-clause-signed
returns-clause-signed c = divides_signed

pub returns-clause-unsigned : goal.returns-clause-unsigned
returns-clause-unsigned c = divides_unsigned

pub returns-clause-turns : goal.returns-clause-turns
returns-clause-turns c = turns_back

pub returns-clause-places : goal.returns-clause-places
returns-clause-places c = stands_around_ones

pub returns-clause-digits : goal.returns-clause-digits
returns-clause-digits c = acts_digit_by_digit

pub returns-clause-extension : goal.returns-clause-extension
returns-clause-extension c = extension_keeps
