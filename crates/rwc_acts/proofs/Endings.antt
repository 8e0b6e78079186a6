-- How each exit of a job keeps to it: what was done is a front of its acts, and the line says how it ended.
use Rattle.std.proofs.Common.{◌≡◌, ◌≢◌, ◌≤◌, arith, inl, inr, ℕ, List, [], ◌∷◌, ◌++◌, refl, ap, sym, ◌∙◌, subst, string_bytes, Ok, Err, None, Some, lit≤}
use Rattle.std.proofs.lemmas.List.{append-nil}
use Rattle.std.specs.declared.option.Option.{Option}
use Rattle.std.specs.declared.result.Result.{Result}
use Rattle.std.specs.Io.KnownBytes.{append_known}
use Rattle.rw_io.specs.Files.{NamedFile}
use Rattle.std.specs.Result.{IfOk}
use Rattle.rw_io.specs.Counts.{Rose}
use Rattle.rw_io.specs.States.{Holding, ShelfState, SinkState, NoShelfCountFell}
use Rattle.rwc_acts.specs.declared.ending.Done.{Done}
use Rattle.rwc_acts.specs.declared.ending.Done.TheVariants.{Finished}
use Rattle.rwc_acts.specs.declared.ending.Stop.{Stop}
use Rattle.rwc_acts.specs.declared.ending.Stop.TheVariants.{Refused as IsRefused, Unread, Unwritten, Memory}
use Rattle.rwc_acts.specs.Kept.{LoadsTo, EndsBy, KeepsJob}
use Rattle.rwc_acts.specs.Stops.{IfStop, IfStopped, StopsWithin, done_status, stop_status, stop_line, status_of, line_of}
use Rattle.rwc_reports.specs.Acts.{Act, Outside, outside_of, after_act, after_acts, BreaksOff}
use Rattle.rwc_reports.specs.Endings.{JobEnds, whole, unwritten, no_memory_within, CarriesOut, carries_out, unread, unbegun, Tells, WriteRose}
use Rattle.rwc_reports.specs.Jobs.{Job, refusal_job, JobOf}
use Rattle.rwc_reports.specs.Lines.{write_fault_line}
use Rattle.rwc_reports.specs.Steps.{Refused, goes_on, stops, IsOneOf}

pub after_acts-append : (xs ys : List Act) (outside : Outside) → after_acts (xs ++ ys) outside ≡ after_acts ys (after_acts xs outside)
after_acts-append [] ys outside = refl
after_acts-append (x ∷ xs) ys outside = after_acts-append xs ys (after_act x outside)

-- the line of a failed write, and what else is known of it
pub says_left : (stop : Stop) (left : ℕ) (P : Type 0) → IfStop stop (λ _ _. ⊥) (λ _. ⊥) (λ line. (line ≡ write_fault_line left) × P) → IfStop stop (λ _ _. ⊥) (λ _. ⊥) (λ line. line ≡ write_fault_line left)
says_left (IsRefused status line) left P h = h
says_left (Unread line) left P h = h
says_left (Unwritten line) left P h = h.0
says_left Memory left P h = h

ends_broken : (job : Job) (done : List Act) (left : ℕ) (stop : Stop) → BreaksOff job.acts done left → IfStop stop (λ _ _. ⊥) (λ _. ⊥) (λ line. line ≡ write_fault_line left) → JobEnds job done (stop_status stop) (stop_line stop)
ends_broken job done left (IsRefused status line) off says = absurd says
ends_broken job done left (Unread line) off says = absurd says
ends_broken job done left (Unwritten line) off says = unwritten left off refl says
ends_broken job done left Memory off says = no_memory_within left off refl refl

-- an act broke off after these acts
pub broken : (job : Job) (before : List Act) (act : Act) (after : List Act) (start mid end : Outside) (stop : Stop) →
    job.acts ≡ before ++ (act ∷ after) → mid ≡ after_acts before start → StopsWithin act mid end stop → CarriesOut job start end (stop_status stop) (stop_line stop)
broken job before act after start mid end stop split reached breaks =
    record {
      done = before ++ breaks.part;
      outside = breaks.outside ∙ ap (λ (s : Outside). after_acts breaks.part s) reached ∙ sym (after_acts-append before breaks.part start);
      ends = ends_broken job _ breaks.left stop (record { before = before; act = act; after = after; part = breaks.part; split = split; is_part = breaks.is_part; done_is = refl }) breaks.says;
    }

append_nothing : (bytes : Option (List ℕ)) → bytes ≡ append_known bytes []
append_nothing None = refl
append_nothing (Some xs) = ap (λ (b : List ℕ). Some b) (sym (append-nil xs))

-- no line is told
pub tells_nothing : (state : SinkState) (status result : ℕ) → result ≡ status → Tells [] status state state result
tells_nothing state status result same = record { count = 0; put = append_nothing state.bytes; same = inl same; changed = inl same; whole = inl (lit≤ tt) }

-- the steps to a job were stopped before anything was done
module _ {T A : Type 0} (view : T → A) (Leads : List NamedFile → Result A Refused → Type 0) (Jobs : List NamedFile → Job → Type 0) (refuses : (told : List NamedFile) (refused : Refused) → Leads told (Err refused) → Jobs told (refusal_job refused))
    (files : List (List ℕ)) (statuses file : List ℕ) (shelf mid : ShelfState) where
  kept_outside : (out : SinkState) → mid.holding ≡ shelf.holding → outside_of mid out ≡ outside_of shelf out
  kept_outside out same = ap (λ (h : Holding). let o : Outside = record { holding = h; out = out.bytes } in o) same

  pub stopped_as : (listed : List ℕ) (out : SinkState) (stop : Stop) → LoadsTo view Leads listed file shelf mid (Err stop) → IsOneOf files file → ((status : ℕ) → IsOneOf listed status → IsOneOf statuses status) →
      KeepsJob Jobs files statuses shelf mid out out (Err stop)
  stopped_as listed out (IsRefused status line) l of also = record {
    keeps = λ told e. carries_out (refusal_job (record { status = status; line = string_bytes line })) (refuses told _ (l.leads told e)) (record { done = []; outside = kept_outside out l.same; ends = whole refl refl refl });
    cause = (also status l.cause, kept_outside out l.same);
  }
  stopped_as listed out (Unread line) l of also = record {
    keeps = λ told e. unread file of (kept_outside out l.same) refl l.cause.0;
    cause = (file, of, l.cause.0, l.cause.1, kept_outside out l.same);
  }
  stopped_as listed out (Unwritten line) l of also = absurd l.cause
  stopped_as listed out Memory l of also = record { keeps = λ told e. unbegun (kept_outside out l.same) refl refl; cause = tt }

module _ {T A : Type 0} (view : T → A) (Leads : List NamedFile → Result A Refused → Type 0) (Next : A → Job → Type 0) (files : List (List ℕ)) (statuses file : List ℕ) (shelf mid : ShelfState) where
  abbrev Jobs : List NamedFile → Job → Type 0
  Jobs told job = JobOf (Leads told) Next job

  same_outside : (out : SinkState) → mid.holding ≡ shelf.holding → outside_of mid out ≡ outside_of shelf out
  same_outside out same = ap (λ (h : Holding). let o : Outside = record { holding = h; out = out.bytes } in o) same

  -- the steps to a job were stopped before anything was done
  pub stopped : (listed : List ℕ) (out : SinkState) (stop : Stop) → LoadsTo view Leads listed file shelf mid (Err stop) → IsOneOf files file → ((status : ℕ) → IsOneOf listed status → IsOneOf statuses status) →
      KeepsJob Jobs files statuses shelf mid out out (Err stop)
  stopped = stopped_as view Leads Jobs (λ told refused l. stops refused l refl) files statuses file shelf mid

  -- a job came to one of these ends
  abbrev Comes : Done → ShelfState → Type 0
  Comes how shelf' = IsOneOf statuses (done_status how) × (done_status how ≢ 0 → shelf'.holding ≡ shelf.holding)

  delivered_cause : (shelf' : ShelfState) (out out' : SinkState) (result : Result Done Stop) → ((how : Done) → result ≡ Ok how → Comes how shelf') → (WriteRose mid shelf' out out' → WriteRose shelf shelf' out out') →
      IfStopped result (λ _ _. ⊥) (λ _. ⊥) (λ _. WriteRose mid shelf' out out') → EndsBy files statuses shelf shelf' out out' result
  delivered_cause shelf' out out' (Ok how) listed earlier causes = listed how refl
  delivered_cause shelf' out out' (Err (IsRefused status line)) listed earlier causes = absurd causes
  delivered_cause shelf' out out' (Err (Unread line)) listed earlier causes = absurd causes
  delivered_cause shelf' out out' (Err (Unwritten line)) listed earlier causes = earlier causes
  delivered_cause shelf' out out' (Err Memory) listed earlier causes = tt

  -- the steps to a job came to a value, and its acts were done as far as they came
  pub delivered : (listed : List ℕ) (value : T) (job : Job) (shelf' : ShelfState) (out out' : SinkState) (result : Result Done Stop) → LoadsTo view Leads listed file shelf mid (Ok value) → Next (view value) job →
      CarriesOut job (outside_of mid out) (outside_of shelf' out') (status_of result) (line_of result) → ((how : Done) → result ≡ Ok how → Comes how shelf') →
      (WriteRose mid shelf' out out' → WriteRose shelf shelf' out out') → IfStopped result (λ _ _. ⊥) (λ _. ⊥) (λ _. WriteRose mid shelf' out out') → KeepsJob Jobs files statuses shelf shelf' out out' result
  delivered listed value job shelf' out out' result l next carried finished earlier causes = record {
    keeps = λ told e. carries_out job (goes_on (view value) (l.leads told e) next)
        (subst (λ (before : Outside). CarriesOut job before (outside_of shelf' out') (status_of result) (line_of result)) (same_outside out l.same) carried);
    cause = delivered_cause shelf' out out' result finished earlier causes;
  }

-- a job that was finished has status 0
finished_zero : (result : Result Done Stop) → IfOk result (λ how. how ≡ Finished) → (how : Done) → result ≡ Ok how → done_status how ≡ 0
finished_zero (Ok own) is how e = let same : own ≡ how = cc in ap done_status (sym same ∙ is)
finished_zero (Err stop) is how e = absurd cc

-- a job that was finished comes to its end
pub finished_comes : (statuses : List ℕ) (shelf shelf' : ShelfState) (result : Result Done Stop) → IsOneOf statuses 0 → IfOk result (λ how. how ≡ Finished) → (how : Done) → result ≡ Ok how → IsOneOf statuses (done_status how) × (done_status how ≢ 0 → shelf'.holding ≡ shelf.holding)
finished_comes statuses shelf shelf' result zero is how e =
    let same = finished_zero result is how e in
    (subst (λ (n : ℕ). IsOneOf statuses n) (sym same) zero, λ not_zero. absurd (not_zero same))

-- a failed write has another cause
pub written_also : (result : Result Done Stop) (P Q : Type 0) → (P → Q) → IfStopped result (λ _ _. ⊥) (λ _. ⊥) (λ _. P) → IfStopped result (λ _ _. ⊥) (λ _. ⊥) (λ _. Q)
written_also (Ok how) P Q also h = tt
written_also (Err (IsRefused status line)) P Q also h = h
written_also (Err (Unread line)) P Q also h = h
written_also (Err (Unwritten line)) P Q also h = also h
written_also (Err Memory) P Q also h = h

rose_from : (a b c : ℕ) → a ≤ b → Rose b c → Rose a c
rose_from a b c le rose = omega (arith, le, rose)

-- what rose since a later moment rose since an earlier one
pub write_rose_from : (shelf mid shelf' : ShelfState) (out out' : SinkState) → NoShelfCountFell shelf mid → WriteRose mid shelf' out out' → WriteRose shelf shelf' out out'
write_rose_from shelf mid shelf' out out' counts (inl rose) = inl (rose_from shelf.put_faults mid.put_faults shelf'.put_faults counts.puts rose)
write_rose_from shelf mid shelf' out out' counts (inr (inl rose)) = inr (inl (rose_from shelf.stalls mid.stalls shelf'.stalls counts.stalled rose))
write_rose_from shelf mid shelf' out out' counts (inr (inr rose)) = inr (inr rose)
