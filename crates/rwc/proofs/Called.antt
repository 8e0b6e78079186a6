-- What each clause of the top call says, from how the words' job was kept to and how its end was told.
use Rattle.std.proofs.Common.{◌≡◌, ◌≢◌, ◌⊎◌, inl, inr, ℕ, List, [], refl, ap, sym, ◌∙◌, subst, arith, string_bytes, Ok, Err, None, Some}
use Rattle.std.specs.declared.option.Option.{Option}
use Rattle.std.specs.declared.result.Result.{Result}
use Rattle.rw_io.specs.Files.{NamedFile}
use Rattle.rw_io.specs.States.{ShelfState, SinkState}
use Rattle.words.specs.Words.{Command, files_of, SpellsCommand, SpellNothing}
use Rattle.words.proofs.SomeCommand.{command_or_none}
use Rattle.rwc_acts.specs.declared.ending.Done.{Done}
use Rattle.rwc_acts.specs.declared.ending.Done.TheVariants.{Finished, Trapped, Spent}
use Rattle.rwc_acts.specs.declared.ending.Stop.{Stop}
use Rattle.rwc_acts.specs.declared.ending.Stop.TheVariants.{Refused as IsRefused, Unread, Unwritten, Memory}
use Rattle.rwc_acts.specs.Kept.{EndsBy, KeepsWords, command, no_command, no_memory}
use Rattle.rwc_acts.specs.Stops.{IfStop, stop_status, stop_line, status_of, line_of}
use Rattle.rwc_reports.specs.Acts.{Outside, outside_of}
use Rattle.rwc_reports.specs.Answers.{files_for, statuses_of, CallEnds, IsAnswer, MayAnswer, ReadFails}
use Rattle.rwc_reports.specs.Endings.{KeepsTo, carries_out, unread, unbegun, whole, Tells, WriteRose}
use Rattle.rwc_reports.specs.Jobs.{Job, refusal_job}
use Rattle.rwc_reports.specs.Lines.{words_line, read_fault_line}
use Rattle.rwc_reports.specs.Reports.{CommandReports, Reports}
use Rattle.rwc_reports.specs.Steps.{IsOneOf}
use Rattle.rwc_reports.proofs.Answering.{listed_not}

-- what is kept to a job is kept to it among others
pub keeps_also : (Jobs Others : Job → Type 0) (files others : List (List ℕ)) (before after : Outside) (status : ℕ) (line : List ℕ) → ((job : Job) → Jobs job → Others job) → KeepsTo Jobs files before after status line → KeepsTo Others files before after status line
keeps_also Jobs Others files others before after status line also (carries_out job is how) = carries_out job (also job is) how
keeps_also Jobs Others files others before after status line also (unread file of same four says) = unread file of same four says
keeps_also Jobs Others files others before after status line also (unbegun same eight says) = unbegun same eight says

-- the end of a job, and what was answered
ends_as : (files : List (List ℕ)) (statuses : List ℕ) (shelf shelf' : ShelfState) (out out' : SinkState) (result : Result Done Stop) (answered : ℕ) → EndsBy files statuses shelf shelf' out out' result → (answered ≡ status_of result) ⊎ (answered ≡ 8) →
    IsOneOf statuses answered ⊎ ((answered ≡ 4) ⊎ ((answered ≡ 5) ⊎ (answered ≡ 8)))
ends_as files statuses shelf shelf' out out' result answered ends (inr eight) = inr (inr (inr eight))
ends_as files statuses shelf shelf' out out' (Ok how) answered ends (inl e) = inl (subst (λ (s : ℕ). IsOneOf statuses s) (sym e) ends.0)
ends_as files statuses shelf shelf' out out' (Err (IsRefused status line)) answered ends (inl e) = inl (subst (λ (s : ℕ). IsOneOf statuses s) (sym e) ends.0)
ends_as files statuses shelf shelf' out out' (Err (Unread line)) answered ends (inl e) = inr (inl e)
ends_as files statuses shelf shelf' out out' (Err (Unwritten line)) answered ends (inl e) = inr (inr (inl e))
ends_as files statuses shelf shelf' out out' (Err Memory) answered ends (inl e) = inr (inr (inr e))

words_status : (stop : Stop) (answered : ℕ) → IfStop stop (λ status line. (status ≡ 2) × (line ≡ words_line)) (λ _. ⊥) (λ _. ⊥) → (answered ≡ stop_status stop) ⊎ (answered ≡ 8) → (answered ≡ 2) ⊎ (answered ≡ 8)
words_status stop answered says (inr eight) = inr eight
words_status (IsRefused status line) answered says (inl e) = inl (e ∙ says.0)
words_status (Unread line) answered says (inl e) = absurd says
words_status (Unwritten line) answered says (inl e) = absurd says
words_status Memory answered says (inl e) = inr e

module _ (words : List (List ℕ)) (shelf shelf' : ShelfState) (out out' err err' : SinkState) (result : Result Done Stop) (answered : ℕ) where
  abbrev Kept : Type 0
  Kept = KeepsWords words shelf shelf' out out' result

  abbrev Told : Type 0
  Told = Tells (line_of result) (status_of result) err err' answered

  stop_heard : (stop : Stop) → result ≡ Err stop → Told → (answered ≡ stop_status stop) ⊎ (answered ≡ 8)
  stop_heard stop is tells = subst (λ (r : Result Done Stop). (answered ≡ status_of r) ⊎ (answered ≡ 8)) is tells.same

  -- the words' job, where files are told
  words_keep : (told : List NamedFile) (stop : Stop) → IfStop stop (λ status line. (status ≡ 2) × (line ≡ words_line)) (λ _. ⊥) (λ _. ⊥) → outside_of shelf' out' ≡ outside_of shelf out →
      KeepsTo (CommandReports None told) [] (outside_of shelf out) (outside_of shelf' out') (stop_status stop) (stop_line stop)
  words_keep told (IsRefused status line) says same = carries_out _
      (ap (λ (s : ℕ). refusal_job (record { status = s; line = string_bytes line })) says.0 ∙ ap (λ (l : List ℕ). refusal_job (record { status = 2; line = l })) says.1) (record { done = []; outside = same; ends = whole refl refl refl })
  words_keep told (Unread line) says same = absurd says
  words_keep told (Unwritten line) says same = absurd says
  words_keep told Memory says same = unbegun same refl refl

  pub called : (told : List NamedFile) → shelf.holding.files ≡ Some told → Kept → Told → CallEnds words told shelf shelf' out out' err err' answered
  called told is (command spelled plain kept) tells = record { command = Some spelled; found = plain; status = status_of result; line = line_of result; keeps = kept.keeps told is; tells = tells }
  called told is (no_command stop none e says same) tells = record {
    command = None;
    found = none;
    status = status_of result;
    line = line_of result;
    keeps = subst (λ (r : Result Done Stop). KeepsTo (CommandReports None told) [] (outside_of shelf out) (outside_of shelf' out') (status_of r) (line_of r)) (sym e) (words_keep told stop says same);
    tells = tells;
  }
  called told is (no_memory e same) tells =
      let found = command_or_none words in
      record {
        command = found.0;
        found = found.1;
        status = status_of result;
        line = line_of result;
        keeps = unbegun same (ap status_of e) (ap line_of e);
        tells = tells;
      }

  -- the statuses
  pub may_answer : Kept → Told → MayAnswer words answered
  may_answer (command spelled plain kept) tells = (Some spelled, plain, ends_as (files_of spelled) (statuses_of (Some spelled)) shelf shelf' out out' result answered kept.cause tells.same)
  may_answer (no_command stop none e says same) tells = (None, none, words_status stop answered says (stop_heard stop e tells))
  may_answer (no_memory e same) tells = let found = command_or_none words in (found.0, found.1, memory_answered found.0 (elim (stop_heard Memory e tells) [ inl eight ↦ eight | inr eight ↦ eight ]))
    where
      memory_answered : (of : Option Command) → answered ≡ 8 → IsAnswer of answered
      memory_answered None eight = inr eight
      memory_answered (Some spelled) eight = inr (inr (inr eight))

  -- what is left
  unwritten_same : (files : List (List ℕ)) (statuses : List ℕ) (how : Result Done Stop) → EndsBy files statuses shelf shelf' out out' how → (answered ≡ status_of how) ⊎ (answered ≡ 8) → answered ≢ 0 → answered ≢ 5 → answered ≢ 6 → answered ≢ 7 → answered ≢ 8 → outside_of shelf' out' ≡ outside_of shelf out
  unwritten_same files statuses how ends (inr eight) zero five six seven not_eight = absurd (not_eight eight)
  unwritten_same files statuses (Ok Finished) ends (inl e) zero five six seven not_eight = absurd (zero e)
  unwritten_same files statuses (Ok Trapped) ends (inl e) zero five six seven not_eight = absurd (six e)
  unwritten_same files statuses (Ok Spent) ends (inl e) zero five six seven not_eight = absurd (seven e)
  unwritten_same files statuses (Err (IsRefused status line)) ends (inl e) zero five six seven not_eight = ends.1
  unwritten_same files statuses (Err (Unread line)) ends (inl e) zero five six seven not_eight = ends.4
  unwritten_same files statuses (Err (Unwritten line)) ends (inl e) zero five six seven not_eight = absurd (five e)
  unwritten_same files statuses (Err Memory) ends (inl e) zero five six seven not_eight = absurd (not_eight e)

  pub untouched : Kept → Told → answered ≢ 0 → answered ≢ 5 → answered ≢ 6 → answered ≢ 7 → answered ≢ 8 → outside_of shelf' out' ≡ outside_of shelf out
  untouched (command spelled plain kept) tells zero five six seven eight = unwritten_same (files_of spelled) (statuses_of (Some spelled)) result kept.cause tells.same zero five six seven eight
  untouched (no_command stop none e says same) tells zero five six seven eight = same
  untouched (no_memory e same) tells zero five six seven eight = same

  -- nothing was created
  uncreated_same : (files : List (List ℕ)) (statuses : List ℕ) (how : Result Done Stop) → EndsBy files statuses shelf shelf' out out' how → (answered ≡ status_of how) ⊎ (answered ≡ 8) → answered ≢ 0 → answered ≢ 5 → answered ≢ 8 → shelf'.holding ≡ shelf.holding
  uncreated_same files statuses how ends (inr eight) zero five not_eight = absurd (not_eight eight)
  uncreated_same files statuses (Ok how) ends (inl e) zero five not_eight = ends.1 (λ none. zero (e ∙ none))
  uncreated_same files statuses (Err (IsRefused status line)) ends (inl e) zero five not_eight = ap (λ (o : Outside). o.holding) ends.1
  uncreated_same files statuses (Err (Unread line)) ends (inl e) zero five not_eight = ap (λ (o : Outside). o.holding) ends.4
  uncreated_same files statuses (Err (Unwritten line)) ends (inl e) zero five not_eight = absurd (five e)
  uncreated_same files statuses (Err Memory) ends (inl e) zero five not_eight = absurd (not_eight e)

  pub uncreated : Kept → Told → answered ≢ 0 → answered ≢ 5 → answered ≢ 8 → shelf'.holding ≡ shelf.holding
  uncreated (command spelled plain kept) tells zero five eight = uncreated_same (files_of spelled) (statuses_of (Some spelled)) result kept.cause tells.same zero five eight
  uncreated (no_command stop none e says same) tells zero five eight = ap (λ (o : Outside). o.holding) same
  uncreated (no_memory e same) tells zero five eight = ap (λ (o : Outside). o.holding) same

  -- the words
  no_two : (of : Command) → IsOneOf (statuses_of (Some of)) answered ⊎ ((answered ≡ 4) ⊎ ((answered ≡ 5) ⊎ (answered ≡ 8))) → answered ≡ 2 → ⊥
  no_two of (inl listed) two = listed_not of answered 2 listed two refl
  no_two of (inr (inl e)) two = omega (arith, e, two)
  no_two of (inr (inr (inl e))) two = omega (arith, e, two)
  no_two of (inr (inr (inr e))) two = omega (arith, e, two)

  pub words_refused : Kept → Told → answered ≡ 2 → SpellNothing words
  words_refused (command spelled plain kept) tells two = absurd (no_two spelled (ends_as (files_of spelled) (statuses_of (Some spelled)) shelf shelf' out out' result answered kept.cause tells.same) two)
  words_refused (no_command stop none e says same) tells two = none
  words_refused (no_memory e same) tells two = absurd (elim (stop_heard Memory e tells) [ inl eight ↦ omega (arith, eight, two) | inr eight ↦ omega (arith, eight, two) ])

  pub not_plain : Kept → Told → SpellNothing words → (answered ≡ 2) ⊎ (answered ≡ 8)
  not_plain (command spelled plain kept) tells none = absurd (none spelled plain)
  not_plain (no_command stop found e says same) tells none = words_status stop answered says (stop_heard stop e tells)
  not_plain (no_memory e same) tells none = inr (elim (stop_heard Memory e tells) [ inl eight ↦ eight | inr eight ↦ eight ])

  -- the causes of 4 and 5
  tells_four : (line : List ℕ) (how : Result Done Stop) → status_of how ≡ 4 → line_of how ≡ line → answered ≡ 4 → Tells (line_of how) (status_of how) err err' answered → Tells line 4 err err' 4
  tells_four line how four says is tells =
      subst (λ (l : List ℕ). Tells l 4 err err' 4) says (subst (λ (s : ℕ). Tells (line_of how) s err err' 4) four (subst (λ (a : ℕ). Tells (line_of how) (status_of how) err err' a) is tells))

  unread_cause : (spelled : Command) → SpellsCommand words spelled → (how : Result Done Stop) → EndsBy (files_of spelled) (statuses_of (Some spelled)) shelf shelf' out out' how → answered ≡ 4 → (answered ≡ status_of how) ⊎ (answered ≡ 8) → Tells (line_of how) (status_of how) err err' answered → ReadFails words shelf shelf' err err'
  unread_cause spelled plain how ends four (inr eight) tells = absurd (omega (arith, four, eight))
  unread_cause spelled plain (Ok Finished) ends four (inl e) tells = absurd (omega (arith, four, e))
  unread_cause spelled plain (Ok Trapped) ends four (inl e) tells = absurd (omega (arith, four, e))
  unread_cause spelled plain (Ok Spent) ends four (inl e) tells = absurd (omega (arith, four, e))
  unread_cause spelled plain (Err (IsRefused status line)) ends four (inl e) tells = absurd (listed_not spelled status 4 ends.0 (sym e ∙ four) refl)
  unread_cause spelled plain (Err (Unread line)) ends four (inl e) tells =
      record { command = spelled; spelled = plain; file = ends.0; of_command = ends.1; rose = ends.3; tells = tells_four (read_fault_line ends.0) (Err (Unread line)) refl ends.2 four tells }
  unread_cause spelled plain (Err (Unwritten line)) ends four (inl e) tells = absurd (omega (arith, four, e))
  unread_cause spelled plain (Err Memory) ends four (inl e) tells = absurd (omega (arith, four, e))

  pub read_fails : Kept → Told → answered ≡ 4 → ReadFails words shelf shelf' err err'
  read_fails (command spelled plain kept) tells four = unread_cause spelled plain result kept.cause four tells.same tells
  read_fails (no_command stop none e says same) tells four = absurd (elim (words_status stop answered says (stop_heard stop e tells)) [ inl two ↦ omega (arith, two, four) | inr eight ↦ omega (arith, eight, four) ])
  read_fails (no_memory e same) tells four = absurd (elim (stop_heard Memory e tells) [ inl eight ↦ omega (arith, eight, four) | inr eight ↦ omega (arith, eight, four) ])

  unwritten_cause : (spelled : Command) (how : Result Done Stop) → EndsBy (files_of spelled) (statuses_of (Some spelled)) shelf shelf' out out' how → answered ≡ 5 → (answered ≡ status_of how) ⊎ (answered ≡ 8) → WriteRose shelf shelf' out out'
  unwritten_cause spelled how ends five (inr eight) = absurd (omega (arith, five, eight))
  unwritten_cause spelled (Ok Finished) ends five (inl e) = absurd (omega (arith, five, e))
  unwritten_cause spelled (Ok Trapped) ends five (inl e) = absurd (omega (arith, five, e))
  unwritten_cause spelled (Ok Spent) ends five (inl e) = absurd (omega (arith, five, e))
  unwritten_cause spelled (Err (IsRefused status line)) ends five (inl e) = absurd (listed_not spelled status 5 ends.0 (sym e ∙ five) refl)
  unwritten_cause spelled (Err (Unread line)) ends five (inl e) = absurd (omega (arith, five, e))
  unwritten_cause spelled (Err (Unwritten line)) ends five (inl e) = ends
  unwritten_cause spelled (Err Memory) ends five (inl e) = absurd (omega (arith, five, e))

  pub write_fails : Kept → Told → answered ≡ 5 → WriteRose shelf shelf' out out'
  write_fails (command spelled plain kept) tells five = unwritten_cause spelled result kept.cause five tells.same
  write_fails (no_command stop none e says same) tells five = absurd (elim (words_status stop answered says (stop_heard stop e tells)) [ inl two ↦ omega (arith, two, five) | inr eight ↦ omega (arith, eight, five) ])
  write_fails (no_memory e same) tells five = absurd (elim (stop_heard Memory e tells) [ inl eight ↦ omega (arith, eight, five) | inr eight ↦ omega (arith, eight, five) ])

-- a call by the report of its words
pub by_report : (words : List (List ℕ)) (told : List NamedFile) (shelf shelf' : ShelfState) (out out' err err' : SinkState) (answered : ℕ) (c : CallEnds words told shelf shelf' out out' err err' answered) →
    KeepsTo (Reports words told) (files_for c.command) (outside_of shelf out) (outside_of shelf' out') c.status c.line
by_report words told shelf shelf' out out' err err' answered c =
    keeps_also (CommandReports c.command told) (Reports words told) (files_for c.command) [] _ _ c.status c.line (λ job is. (c.command, c.found, is)) c.keeps
