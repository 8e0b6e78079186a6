use Rattle.std.proofs.Common.{rules, ◌≡◌, ◌∙◌, ◌-◌, ◌≤◌, ◌++◌, ◌∷◌, [], List, ℕ, length, take, ap, subst, arith}
use Rattle.std.specs.Io.KnownBytes.{append_known}
use Rattle.std.specs.Fmt.{signed_decimal}
use Rattle.rw_io.specs.Whole.{left_of, OffersAll}
use Rattle.machine_runs.proofs.Newlines.{line_is}
use Rattle.machine_runs.proofs.line.put_line.Goals as goal

pub returns-clause-left : goal.returns-clause-left
returns-clause-left g c =
    let short : length c.as_bytes-digits.result.now ≤ 40 = omega (arith, c.as_bytes-digits.ensures.len, c.format.ensures.short) in
    let text : c.format.result.now ≡ signed_decimal c.args.number = search rules in
    let is = line_is c.copy_from_slice.new.self c.as_bytes-digits.result.now c.copy_from_slice.ensures.after short ∙ ap (λ (l : List ℕ). l ++ 10 ∷ []) (c.as_bytes-digits.ensures.value ∙ text) in
    subst (λ (p : List ℕ). left_of c.put_whole.result ≤ length p) is c.put_whole.ensures.left

pub returns-clause-pieces : goal.returns-clause-pieces
returns-clause-pieces g c =
    let short : length c.as_bytes-digits.result.now ≤ 40 = omega (arith, c.as_bytes-digits.ensures.len, c.format.ensures.short) in
    let text : c.format.result.now ≡ signed_decimal c.args.number = search rules in
    let is = line_is c.copy_from_slice.new.self c.as_bytes-digits.result.now c.copy_from_slice.ensures.after short ∙ ap (λ (l : List ℕ). l ++ 10 ∷ []) (c.as_bytes-digits.ensures.value ∙ text) in
    subst (λ (p : List ℕ). OffersAll g.O.Sink.puts c.args.out.now p c.put_whole.result c.put_whole.new.out) is c.put_whole.ensures.pieces

pub returns-clause-put : goal.returns-clause-put
returns-clause-put g c =
    let short : length c.as_bytes-digits.result.now ≤ 40 = omega (arith, c.as_bytes-digits.ensures.len, c.format.ensures.short) in
    let text : c.format.result.now ≡ signed_decimal c.args.number = search rules in
    let is = line_is c.copy_from_slice.new.self c.as_bytes-digits.result.now c.copy_from_slice.ensures.after short ∙ ap (λ (l : List ℕ). l ++ 10 ∷ []) (c.as_bytes-digits.ensures.value ∙ text) in
    subst (λ (p : List ℕ). (g.O.Sink.state c.put_whole.new.out).bytes ≡ append_known (g.O.Sink.state c.args.out.now).bytes (take (length p - left_of c.put_whole.result) p)) is c.put_whole.ensures.put
