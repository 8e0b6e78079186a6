use Rattle.std.proofs.Common.{◌≡◌, ◌<◌, ◌+◌, ℕ, List, [], ◌∷◌, ◌++◌, refl, ap, sym, ◌∙◌, arith}
use Rattle.std.specs.Prelude.{codes, pos}
use Rattle.std.proofs.lemmas.Fmt.{decimal_digit}
use Rattle.machine_steps.specs.declared.End.TheVariants.{Value, Trap}
use Rattle.machine_steps.specs.declared.Trap.TheVariants.{Overflow}
use Rattle.rwc_reports.specs.Acts.{put}
use Rattle.rwc_reports.specs.Jobs.{Job}
use Rattle.rwc_reports.specs.Runs.{ended, spent, printed_line, after_line, end_text}
use Rattle.rwc_reports.specs.Steps.{Refused}
use Rattle.rwc_reports.proofs.worked_runs.Goals as goal

seven_line : printed_line 7 ≡ codes "7\n"
seven_line = ap (λ (d : List ℕ). d ++ codes "\n") (decimal_digit 7 (omega arith))

after_digit : (how : List ℕ) (n : ℕ) → n < 10 → after_line how n ≡ how ++ (codes " after " ++ (((48 + n) ∷ []) ++ codes " steps\n"))
after_digit how n small = ap (λ (d : List ℕ). how ++ (codes " after " ++ (d ++ codes " steps\n"))) (decimal_digit n small)

result_line : after_line (end_text (Value (pos 0))) 6 ≡ codes "result 0 after 6 steps\n"
result_line = ap (λ (d : List ℕ). after_line (codes "result " ++ d) 6) (decimal_digit 0 (omega arith)) ∙ after_digit (codes "result 0") 6 (omega arith)

two_lines : (a b c d : List ℕ) (status : ℕ) → a ≡ c → b ≡ d → (let j : Job = record { acts = put c ∷ put d ∷ []; line = []; status = status } in j) ≡ record { acts = put a ∷ put b ∷ []; line = []; status = status }
two_lines a b c d status x y =
    ap (λ (l : List ℕ). let j : Job = record { acts = put l ∷ put d ∷ []; line = []; status = status } in j) (sym x)
    ∙ ap (λ (l : List ℕ). let j : Job = record { acts = put a ∷ put l ∷ []; line = []; status = status } in j) (sym y)

seven_job : (let j : Job = record { acts = put (codes "7\n") ∷ put (codes "result 0 after 6 steps\n") ∷ []; line = []; status = 0 } in j) ≡ record { acts = put (printed_line 7) ∷ put (after_line (end_text (Value (pos 0))) 6) ∷ []; line = []; status = 0 }
seven_job = two_lines (printed_line 7) (after_line (end_text (Value (pos 0))) 6) (codes "7\n") (codes "result 0 after 6 steps\n") 0 seven_line result_line

pub returns-clause-seven : goal.returns-clause-seven
returns-clause-seven c run e = ended 6 (7 ∷ []) (Value (pos 0)) (omega arith) e.going e.ended seven_job

pub returns-clause-six : goal.returns-clause-six
returns-clause-six c run e = ended 6 (7 ∷ []) (Value (pos 0)) (omega arith) e.going e.ended seven_job

pub returns-clause-five : goal.returns-clause-five
returns-clause-five c run is =
    spent (7 ∷ []) is (two_lines (printed_line 7) (after_line (codes "spent") 5) (codes "7\n") (codes "spent after 5 steps\n") 7 seven_line (after_digit (codes "spent") 5 (omega arith)))

pub returns-clause-trap : goal.returns-clause-trap
returns-clause-trap c run e =
    ended 4 [] (Trap Overflow) (omega arith) e.going e.ended
    (ap (λ (l : List ℕ). let j : Job = record { acts = put l ∷ []; line = []; status = 6 } in j) (sym (after_digit (codes "trap overflow") 4 (omega arith))))

abbrev nine : List ℕ → Refused
nine line = record { status = 9; line = line }

abbrev invalid_with : List ℕ → List ℕ → List ℕ → Refused
invalid_with func at broken = nine (codes "invalid " ++ (codes "a.wasm" ++ (codes " function " ++ (func ++ (codes " at " ++ (at ++ (codes " " ++ (broken ++ codes "\n"))))))))

pub returns-clause-refusals : goal.returns-clause-refusals
returns-clause-refusals c = record {
  in_function = ap (λ (d : List ℕ). invalid_with d d (codes "TypeIndex")) (decimal_digit 1 (omega arith));
  outside = ap (λ (d : List ℕ). invalid_with (codes "-") d (codes "ManyMemories")) (decimal_digit 0 (omega arith));
  imported = ap (λ (d : List ℕ). nine (codes "start " ++ (codes "a.wasm" ++ (codes " " ++ ((codes "import " ++ d) ++ codes "\n"))))) (decimal_digit 2 (omega arith));
  segment = ap (λ (d : List ℕ). nine (codes "start " ++ (codes "x" ++ (codes " " ++ ((codes "segment " ++ d) ++ codes "\n"))))) (decimal_digit 0 (omega arith));
  no_main = refl;
}
