-- From what a machine's run answers and leaves to the job of its module's run, as far as that was carried out.
use Rattle.std.proofs.Common.{◌≡◌, ◌∙◌, ◌≤◌, inl, inr, ℕ, ◌+◌, ◌-◌, List, [], ◌∷◌, ◌++◌, length, map, take, refl, ap, sym, subst, arith, append_assoc, Ok, Err}
use Rattle.std.specs.Prelude.{codes}
use Rattle.std.specs.Io.KnownBytes.{append_known}
use Rattle.std.specs.Result.{IfOk}
use Rattle.std.specs.declared.option.Option.{Option}
use Rattle.std.specs.declared.result.Result.{Result}
use Rattle.machine_runs.specs.Lines as machine
use Rattle.machine_runs.specs.Runs.{stand_of, Comes, StopsBetween, StopsInLine, Stops}
use Rattle.machine_runs.specs.declared.answers.Outcome.{Outcome}
use Rattle.machine_runs.specs.declared.answers.Outcome.TheVariants.{Ended, Spent as SpentAll}
use Rattle.machine_runs.specs.declared.answers.RunError.{RunError}
use Rattle.machine_runs.specs.declared.answers.RunError.TheVariants as error
use Rattle.machine_steps.specs.declared.End.{End}
use Rattle.machine_steps.specs.declared.End.TheVariants.{Value, Trap}
use Rattle.machine_steps.specs.Agreement.{Seen}
use Rattle.machine_steps.specs.Steps.{Stand, Going, Over, Reached, reached}
use Rattle.machine_steps.proofs.Alike.{same_seen}
use Rattle.machine_steps.proofs.Counts.{all_made, no_more_made}
use Rattle.wasm_ast.specs.declared.modules.WModule.{WModule}
use Rattle.wasm_execution.specs.Behaviour.{wasm}
use Rattle.wasm_execution.specs.Configurations.{Config}
use Rattle.wasm_execution.specs.Starts.{Begins as BeginsAt, start_of}
use Rattle.wasm_grammar.specs.Profile.{IsInProfile}
use Rattle.wasm_soundness.proofs.Starts.{valid_never_stuck}
use Rattle.wasm_typing.specs.Modules.{IsValid}
use Rattle.wasm_run.specs.Laws.{seen_of}
use Rattle.wasm_run.specs.Progress.{Progress, begun, next_of, ended_of, steps_of}
use Rattle.wasm_run.proofs.Going.{seen_as}
use Rattle.rw_io.specs.States.{ShelfState, SinkState}
use Rattle.rwc_acts.specs.declared.ending.Done.{Done}
use Rattle.rwc_acts.specs.declared.ending.Stop.{Stop}
use Rattle.rwc_acts.specs.declared.ending.Stop.TheVariants.{Refused as IsRefused, Unread, Unwritten, Memory}
use Rattle.rwc_acts.specs.Stops.{IfStop, IfStopped, done_status, stop_status, stop_line, status_of, line_of}
use Rattle.rwc_acts.proofs.Endings.{after_acts-append, broken}
use Rattle.rwc_reports.specs.Acts.{Act, put, Outside, after_act, after_acts, outside_of}
use Rattle.rwc_reports.specs.Endings.{whole, no_memory, CarriesOut}
use Rattle.rwc_reports.specs.Jobs.{Job}
use Rattle.rwc_reports.specs.Lines.{write_fault_line}
use Rattle.rwc_reports.specs.Runs.{RunReports, ended, spent, run_job, after_line, end_text, end_status, printed_line}
use Rattle.rwc_reports.proofs.OneAnswer.{compare}
use Rattle.rwc_reports.proofs.Runs.{later, some_run, wasm_stays}
use Rattle.rwc_runs.specs.Executions.{last_text, done_as, PutsLast, LeavesOf, PutRose, RunsOut}
use Rattle.rwc_runs.proofs.Fronts.{Begins, front, halts}
use Rattle.rwc_runs.proofs.Puts.{put_number, puts, puts_append, after_puts, append_twice, outside_more, outside_puts}

-- the acts of a run's job: its numbers, and then its last line
acts_are : (printed last : List ℕ) (status : ℕ) → (run_job printed last status).acts ≡ puts printed ++ (put last ∷ [])
acts_are printed last status = of_lines printed
  where
    of_lines : (ns : List ℕ) → map put (map printed_line ns ++ (last ∷ [])) ≡ puts ns ++ (put last ∷ [])
    of_lines [] = refl
    of_lines (n ∷ ns) = ap (λ (acts : List Act). put_number n ∷ acts) (of_lines ns)

from_zero : (k made : ℕ) → made ≡ 0 + k → made ≡ k
from_zero k made e = omega (arith, e)

going_or_over : (s : Stand) (e : End) → s ≡ Going → s ≡ Over e → ⊥
going_or_over s e going over = let same : Going ≡ Over e = sym going ∙ over in cc

-- a job whose acts begin with the putting of these numbers
record IsFront (printed : List ℕ) (job : Job) : Type 0 where
  rest : List Act
  is : job.acts ≡ puts printed ++ rest

begins_front : (printed all last : List ℕ) (status : ℕ) (job : Job) → Begins printed all → job ≡ run_job all last status → IsFront printed job
begins_front printed all last status job b e = record {
  rest = puts b.0 ++ (put last ∷ []);
  is = ap (λ (j : Job). j.acts) e ∙ acts_are all last status ∙ ap (λ (ns : List ℕ). puts ns ++ (put last ∷ [])) (sym b.1)
      ∙ ap (λ (acts : List Act). acts ++ (put last ∷ [])) (puts_append printed b.0) ∙ append_assoc (puts printed) (puts b.0) (put last ∷ []);
}

module _ (m : WModule) (first : Config) (is_valid : IsValid m) (profile : IsInProfile m) (starts : start_of m ≡ BeginsAt first) where
  abbrev start : Progress
  start = begun m first

  abbrev at : ℕ → Reached ℕ Progress
  at n = reached next_of n start

  seen_at : (n : ℕ) → seen_of (at n) ≡ wasm m n
  seen_at n = seen_as m first starts n

  said_at : (n : ℕ) → (at n).said ≡ (wasm m n).printed
  said_at n = ap (λ (s : Seen). s.printed) (seen_at n)

  stand_at : (n : ℕ) → (at n).stand ≡ (wasm m n).stand
  stand_at n = ap (λ (s : Seen). s.stand) (seen_at n)

  -- the job of a run that came to an end
  ended_reports : (steps count : ℕ) (printed : List ℕ) (e : End) → (at steps).said ≡ printed → (at steps).stand ≡ Over e → count ≡ (at steps).steps → RunReports (wasm m) steps (run_job printed (after_line (end_text e) count) (end_status e))
  ended_reports steps count printed e prints stands counted =
      let h = halts next_of steps start e stands in
      let same : h.count ≡ count = sym h.counted ∙ sym counted in
      let most = no_more_made next_of steps start in
      let there : wasm m h.count ≡ record { printed = printed; stand = Over e } =
      sym (seen_at h.count) ∙ ap seen_of h.same ∙ same_seen (seen_of (at steps)) (record { printed = printed; stand = Over e }) prints stands in
      subst (λ (k : ℕ). RunReports (wasm m) steps (run_job printed (after_line (end_text e) k) (end_status e))) same
      (ended h.count printed e (omega (arith, h.counted, most)) (λ n less. sym (stand_at n) ∙ h.before n less) there refl)

  -- the job of one that goes on after all its steps
  spent_reports : (steps count : ℕ) (printed : List ℕ) → (at steps).said ≡ printed → (at steps).stand ≡ Going → count ≡ (at steps).steps → RunReports (wasm m) steps (run_job printed (after_line (codes "spent") count) 7)
  spent_reports steps count printed prints stands counted =
      let same : steps ≡ count = sym (all_made next_of steps start stands) ∙ sym counted in
      subst (λ (k : ℕ). RunReports (wasm m) steps (run_job printed (after_line (codes "spent") k) 7)) same
      (spent printed (sym (seen_at steps) ∙ same_seen (seen_of (at steps)) (record { printed = printed; stand = Going }) prints stands) refl)

  -- the job of a run by how it stands
  outcome_reports : (steps : ℕ) (printed : List ℕ) (outcome : Outcome) (after : Progress) → Comes next_of ended_of steps_of steps start printed (stand_of outcome) after →
      RunReports (wasm m) steps (run_job printed (last_text outcome after.steps) (done_status (done_as outcome)))
  outcome_reports steps printed (Ended (Value v)) after c = ended_reports steps after.steps printed (Value v) c.prints c.stands (from_zero (at steps).steps after.steps c.counted)
  outcome_reports steps printed (Ended (Trap t)) after c = ended_reports steps after.steps printed (Trap t) c.prints c.stands (from_zero (at steps).steps after.steps c.counted)
  outcome_reports steps printed SpentAll after c = spent_reports steps after.steps printed c.prints c.stands (from_zero (at steps).steps after.steps c.counted)

  some_job : (steps : ℕ) → (job : Job) × RunReports (wasm m) steps job
  some_job steps = some_run (wasm m) (valid_never_stuck m first is_valid profile starts) steps

  -- what was printed on the way stands at the front of the job
  front_of : (n steps : ℕ) (printed : List ℕ) (job : Job) → n ≤ steps → (at n).said ≡ printed → (at n).stand ≡ Going → RunReports (wasm m) steps job → IsFront printed job
  front_of n steps printed job le said going (spent all is e) = begins_front printed all _ 7 job (said_before n steps printed all le said (ap (λ (s : Seen). s.printed) is)) e
    where
      said_before : (n k : ℕ) (printed all : List ℕ) → n ≤ k → (at n).said ≡ printed → (wasm m k).printed ≡ all → Begins printed all
      said_before n k printed all le said is = let b = front next_of n k start le in (b.0, ap (λ (l : List ℕ). l ++ b.0) (sym said) ∙ b.1 ∙ said_at k ∙ is)
  front_of n steps printed job le said going (ended k all x most before is e) = elim (compare n k) [
    | inl less ↦ begins_front printed all _ (end_status x) job (said_before n k printed all (omega (arith, less)) said (ap (λ (s : Seen). s.printed) is)) e
    | inr (inl more) ↦ absurd (going_or_over (wasm m n).stand x (sym (stand_at n) ∙ going) (later (wasm m) (wasm_stays m) steps k n x (omega (arith, more)) (ap (λ (s : Seen). s.stand) is)))
    | inr (inr same) ↦ absurd (going_or_over (wasm m n).stand x (sym (stand_at n) ∙ going) (later (wasm m) (wasm_stays m) steps k n x (omega (arith, same)) (ap (λ (s : Seen). s.stand) is)))
  ]
    where
      said_before : (n k : ℕ) (printed all : List ℕ) → n ≤ k → (at n).said ≡ printed → (wasm m k).printed ≡ all → Begins printed all
      said_before n k printed all le said is = let b = front next_of n k start le in (b.0, ap (λ (l : List ℕ). l ++ b.0) (sym said) ∙ b.1 ∙ said_at k ∙ is)

  module _ (steps : ℕ) (out mid out' : SinkState) where
    abbrev Ran : Result Done Stop → Type 0
    Ran result = RunsOut (wasm m) steps out out' result

    -- a run to its last line, which was put as far as that came
    pub whole_run : (printed : List ℕ) (outcome : Outcome) (after : Progress) (result : Result Done Stop) → Comes next_of ended_of steps_of steps start printed (stand_of outcome) after →
        mid.bytes ≡ append_known out.bytes (machine.text_of printed) → ((shelf : ShelfState) → PutsLast (last_text outcome after.steps) (outside_of shelf mid) (outside_of shelf out') result) →
        IfOk result (λ done. done ≡ done_as outcome) → IfStopped result (λ _ _. ⊥) (λ _. ⊥) (λ _. PutRose out out') → Ran result
    whole_run printed outcome after result c put_all puts_last is_done cause = record {
      job = run_job printed (last_text outcome after.steps) (done_status (done_as outcome));
      reports = outcome_reports steps printed outcome after c;
      carries_out = λ shelf. last_carried shelf result (puts_last shelf) is_done;
      cause = cause;
    }
      where
        last_carried : (shelf : ShelfState) (result : Result Done Stop) → PutsLast (last_text outcome after.steps) (outside_of shelf mid) (outside_of shelf out') result → IfOk result (λ done. done ≡ done_as outcome) →
            CarriesOut (run_job printed (last_text outcome after.steps) (done_status (done_as outcome))) (outside_of shelf out) (outside_of shelf out') (status_of result) (line_of result)
        last_carried shelf (Ok done) (inl performed) same = record {
          done = puts printed ++ (put (last_text outcome after.steps) ∷ []);
          outside = performed ∙ ap (after_act (put (last_text outcome after.steps))) (outside_puts shelf out mid printed put_all)
              ∙ sym (after_acts-append (puts printed) (put (last_text outcome after.steps) ∷ []) (outside_of shelf out));
          ends = whole (sym (acts_are printed (last_text outcome after.steps) (done_status (done_as outcome)))) (ap done_status same) refl;
        }
        last_carried shelf (Err stop) (inl performed) same =
            broken (run_job printed (last_text outcome after.steps) (done_status (done_as outcome))) (puts printed) (put (last_text outcome after.steps)) [] (outside_of shelf out) (outside_of shelf mid) (outside_of shelf out') stop
            (acts_are printed (last_text outcome after.steps) (done_status (done_as outcome))) (outside_puts shelf out mid printed put_all) performed
        last_carried shelf (Ok done) (inr none) same = let clash : (let r : Result Done Stop = Ok done in r) ≡ Err Memory = none.0 in absurd cc
        last_carried shelf (Err stop) (inr none) same = record {
          done = puts printed;
          outside = none.1 ∙ outside_puts shelf out mid printed put_all;
          ends = no_memory (put (last_text outcome after.steps) ∷ []) (acts_are printed (last_text outcome after.steps) (done_status (done_as outcome))) (ap status_of none.0) (ap line_of none.0);
        }

  module _ (steps : ℕ) (out out' : SinkState) where
    -- a run that a write stopped
    abbrev InLine : ℕ → Progress → Type 0
    InLine left after = StopsInLine next_of ended_of steps_of steps left start after out out'

    line_carried : (left : ℕ) (after : Progress) (stop : Stop) (job : Job) → InLine left after → RunReports (wasm m) steps job → IfStop stop (λ _ _. ⊥) (λ _. ⊥) (λ line. line ≡ write_fault_line left) →
        (shelf : ShelfState) → CarriesOut job (outside_of shelf out) (outside_of shelf out') (stop_status stop) (stop_line stop)
    line_carried left after stop job s reports says shelf =
        let f = front_of s.count steps (s.printed ++ (s.last ∷ [])) job s.most s.comes.prints s.comes.stands reports in
        let piece = printed_line s.last in
        let said = take (length piece - left) piece in
        let mid : Outside = after_acts (puts s.printed) (outside_of shelf out) in
        broken job (puts s.printed) (put piece) f.rest (outside_of shelf out) mid (outside_of shelf out') stop
        (f.is ∙ ap (λ (acts : List Act). acts ++ f.rest) (puts_append s.printed (s.last ∷ [])) ∙ append_assoc (puts s.printed) (put piece ∷ []) f.rest)
        refl
        (record {
          part = put said ∷ [];
          left = left;
          is_part = (s.some, s.within, refl);
          outside = outside_more shelf out out' (machine.text_of s.printed ++ said) s.put ∙ sym (said_outside shelf s.printed said);
          says = says;
        })
      where
        said_outside : (shelf : ShelfState) (printed said : List ℕ) → after_acts (put said ∷ []) (after_acts (puts printed) (outside_of shelf out)) ≡ record { holding = shelf.holding; out = append_known out.bytes (machine.text_of printed ++ said) }
        said_outside shelf printed said =
            ap (after_act (put said)) (after_puts printed (outside_of shelf out))
            ∙ ap (λ (known : Option (List ℕ)). let p : Outside = record { holding = shelf.holding; out = known } in p) (append_twice out.bytes (machine.text_of printed) said)

    -- memory was wanting between two steps
    between_carried : (after : Progress) (job : Job) → StopsBetween next_of ended_of steps_of steps start after out out' → RunReports (wasm m) steps job →
        (shelf : ShelfState) → CarriesOut job (outside_of shelf out) (outside_of shelf out') 8 (stop_line Memory)
    between_carried after job s reports shelf =
        let f = front_of s.count steps s.printed job (omega (arith, s.fewer)) s.comes.prints s.comes.stands reports in
        record { done = puts s.printed; outside = outside_puts shelf out out' s.printed s.put; ends = no_memory f.rest f.is refl refl }

    stopped_by : (stop : Stop) → IfStop stop (λ _ _. ⊥) (λ _. ⊥) (λ _. PutRose out out') → ((job : Job) → RunReports (wasm m) steps job → (shelf : ShelfState) → CarriesOut job (outside_of shelf out) (outside_of shelf out') (stop_status stop) (stop_line stop)) →
        RunsOut (wasm m) steps out out' (Err stop)
    stopped_by stop cause carried = let job = some_job steps in record { job = job.0; reports = job.1; carries_out = carried job.0 job.1; cause = cause }

    -- what a stopped run says
    abbrev Says : RunError → Stop → Type 0
    Says e stop = IfStop stop (λ _ _. ⊥) (λ _. ⊥) (λ line. (left : ℕ) × LeavesOf e left × (line ≡ write_fault_line left))

    write_left : (left other : ℕ) → LeavesOf (error.Write left) other → left ≡ other
    write_left left other (inl e) = cc
    write_left left other (inr e) = absurd cc

    stall_left : (left other : ℕ) → LeavesOf (error.Stalled left) other → left ≡ other
    stall_left left other (inl e) = absurd cc
    stall_left left other (inr e) = cc

    no_left : (left : ℕ) → LeavesOf error.Memory left → ⊥
    no_left left (inl e) = cc
    no_left left (inr e) = cc

    says_write : (left : ℕ) (stop : Stop) → Says (error.Write left) stop → IfStop stop (λ _ _. ⊥) (λ _. ⊥) (λ line. line ≡ write_fault_line left)
    says_write left (IsRefused status line) says = says
    says_write left (Unread line) says = says
    says_write left (Unwritten line) says = says.2 ∙ ap write_fault_line (sym (write_left left says.0 says.1))
    says_write left Memory says = tt

    says_stall : (left : ℕ) (stop : Stop) → Says (error.Stalled left) stop → IfStop stop (λ _ _. ⊥) (λ _. ⊥) (λ line. line ≡ write_fault_line left)
    says_stall left (IsRefused status line) says = says
    says_stall left (Unread line) says = says
    says_stall left (Unwritten line) says = says.2 ∙ ap write_fault_line (sym (stall_left left says.0 says.1))
    says_stall left Memory says = tt

    rose_also : (stop : Stop) (e : RunError) → Says e stop → PutRose out out' → IfStop stop (λ _ _. ⊥) (λ _. ⊥) (λ _. PutRose out out')
    rose_also (IsRefused status line) e says rose = says
    rose_also (Unread line) e says rose = says
    rose_also (Unwritten line) e says rose = rose
    rose_also Memory e says rose = tt

    -- a run that was stopped
    pub stopped_run : (after : Progress) (e : RunError) (stop : Stop) → Stops next_of ended_of steps_of steps start e after out out' → Says e stop → RunsOut (wasm m) steps out out' (Err stop)
    stopped_run after (error.Write left) stop stops says = stopped_by stop (rose_also stop (error.Write left) says (inl stops.1)) (λ job reports. line_carried left after stop job stops.0 reports (says_write left stop says))
    stopped_run after (error.Stalled left) stop stops says = stopped_by stop (rose_also stop (error.Stalled left) says (inr stops.1)) (λ job reports. line_carried left after stop job stops.0 reports (says_stall left stop says))
    stopped_run after error.Memory (IsRefused status line) stops says = absurd says
    stopped_run after error.Memory (Unread line) stops says = absurd says
    stopped_run after error.Memory (Unwritten line) stops says = absurd (no_left says.0 says.1)
    stopped_run after error.Memory Memory (inl between) says = stopped_by Memory tt (λ job reports. between_carried after job between reports)
    stopped_run after error.Memory Memory (inr within) says = stopped_by Memory tt (λ job reports. line_carried within.0 after Memory job within.1 reports tt)
