use Rattle.wasm_typing.specs.Places.{closed}
use Rattle.wasm_typing_laws.proofs.Closing.{closed-forth, closed-back}
use Rattle.wasm_typing_laws.proofs.Join.{body-forth, body-back, derivation-forth, derivation-back}
use Rattle.wasm_typing_laws.proofs.laws.byte_order_is_exact.Goals as goal

pub returns-clause-bodies : goal.returns-clause-bodies
returns-clause-bodies c C body = (body-forth C body, body-back C body)

pub returns-clause-codes : goal.returns-clause-codes
returns-clause-codes c C ts = (derivation-forth C ts, derivation-back C ts)

pub returns-clause-checker : goal.returns-clause-checker
returns-clause-checker c C front = (λ d. closed-forth C front (derivation-forth C (closed front) d), λ w. derivation-back C (closed front) (closed-back C front w.0 w.1))
