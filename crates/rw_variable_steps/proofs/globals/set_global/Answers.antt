use Rattle.std.proofs.Common.{◌≡◌, List, [], Option, map, slice_set, sym, ap, ◌∙◌, arith}
use Rattle.std.proofs.lemmas.List.{length-map, map-set}
use Rattle.std.proofs.lemmas.Option.{slice_get-get_or}
use Rattle.machine_steps.specs.Steps.{Went, with_found}
use Rattle.rich_reduction.specs.Configurations.{Val, Empty}
use Rattle.rich_reduction.specs.Plain.{set_global}
use Rattle.rw_values.specs.declared.value.Value.{Value}
use Rattle.rw_values.specs.Values.{value_of}
use Rattle.rw_variable_steps.proofs.globals.set_global.Goals as goal

pub returns-clause-does : goal.returns-clause-does
returns-clause-does c here c' =
    let gs = c.args.globals.now in
    let n = c.args.n in
    let v = c.pop-value.result in
    let beneath = c.pop-value.new.self.own in
    let found = slice_get-get_or (map value_of gs) n Empty (omega (arith, c.requires.there, length-map gs value_of)) in
    let put : slice_set (map value_of gs) n (value_of v) ≡ map value_of (slice_set gs n c.replace-old.new.dest) =
    sym (map-set value_of gs n v) ∙ ap (λ (w : Value). map value_of (slice_set gs n w)) (sym c.replace-old.ensures.after) in
    ap (λ (l : List Val). set_global n (record here { operands = l }) (record c' { globals = map value_of gs })) c.pop-value.ensures.own
    ∙ ap (λ (o : Option Val). with_found o (λ old. Went [] (record c' { here = record here { operands = beneath }; globals = slice_set (map value_of gs) n (value_of v) }))) found
    ∙ ap (λ (l : List Val). Went [] (record c' { here = record here { operands = beneath }; globals = l })) put
