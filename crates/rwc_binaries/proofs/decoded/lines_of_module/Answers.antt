use Rattle.std.proofs.Common.{◌≡◌, Bool, true, false, refl, ap, sym, ◌∙◌}
use Rattle.std.specs.Prelude.{◌↔◌, IsTrue}
use Rattle.std.specs.Str.{bytes_eq}
use Rattle.std.proofs.lemmas.Result.{IfOk-weaker}
use Rattle.std.proofs.lemmas.Slice.Eq.{bytes_eq-Decides}
use Rattle.wasm_grammar.specs.CanonicalModules.{module_bytes}
use Rattle.rwc_reports.specs.Dumps.{dump_lines}
use Rattle.rwc_binaries.proofs.decoded.lines_of_module.Goals as goal

same_answer : (a b : Bool) (P : Type 0) → IsTrue a ↔ P → (b ≡ true) ↔ P → a ≡ b
same_answer true true P x y = refl
same_answer false false P x y = refl
same_answer true false P x y = sym (y.1 (x.0 refl))
same_answer false true P x y = x.1 (y.0 refl)

pub returns : goal.returns
returns c =
    let bytes = c.args.bytes.now in
    let m = c.args.m.now in
    let same = same_answer c.in_ok-canonical.canonical (bytes_eq bytes (module_bytes m)) (bytes ≡ module_bytes m) c.in_ok-canonical.ensures.canonical (bytes_eq-Decides bytes (module_bytes m)) in
    IfOk-weaker c.dump.result _ _ (λ lines h. h ∙ ap (dump_lines m) same) c.dump.ensures
