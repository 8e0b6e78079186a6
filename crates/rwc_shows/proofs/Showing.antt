-- From the lines that a source leads to to the job of showing it.
use Rattle.std.proofs.Common.{◌≡◌, ℕ, List, refl, ap, sym, ◌∙◌, Ok, Err}
use Rattle.std.specs.declared.result.Result.{Result}
use Rattle.rw_io.specs.Files.{NamedFile}
use Rattle.rw_io.specs.States.{ShelfState, SinkState}
use Rattle.rw_types.specs.declared.modules.Module.{Module}
use Rattle.rich_writing.specs.Modules.{module_text}
use Rattle.rich_writing_laws.proofs.Whole.{written_is_canonical}
use Rattle.rich_text_writing_laws.proofs.Writing.{spelled_is_writable}
use Rattle.words.specs.Words.{Source}
use Rattle.rwc_acts.specs.declared.ending.Done.{Done}
use Rattle.rwc_acts.specs.declared.ending.Stop.{Stop}
use Rattle.rwc_acts.specs.declared.ending.Stop.TheVariants.{Refused as IsRefused, Unread, Unwritten, Memory}
use Rattle.rwc_acts.specs.Kept.{KeepsJob}
use Rattle.rwc_acts.specs.Stops.{IsStep}
use Rattle.rwc_reports.proofs.Causes.{text_status}
use Rattle.rwc_reports.proofs.Steps.{same_value, same_refused, not_both}
use Rattle.rwc_reports.specs.Acts.{Outside}
use Rattle.rwc_reports.specs.Endings.{KeepsTo, carries_out, unread, unbegun}
use Rattle.rwc_reports.specs.Jobs.{Job, JobOf, refusal_job, lines_job}
use Rattle.rwc_reports.specs.Shows.{lines_of, shown_lines, ShowReports}
use Rattle.rwc_reports.specs.Sources.{TextReads, spelled, faulty}
use Rattle.rwc_reports.specs.Steps.{Refused, goes_on, stops}
use Rattle.rwc_shows.specs.Shown.{lines_in, ShownLinesLead, TextShows}

-- the text that is written is the canonical one
pub text_shows : (source : Source) (bytes text : List ℕ) (m : Module) → TextReads source.kind source.file bytes (Ok m) → text ≡ module_text m → TextShows source bytes (Ok (lines_of text))
text_shows source bytes text m (spelled n kind spells e) is =
    goes_on n (spelled n kind spells refl)
    (ap (λ (t : List ℕ). let r : Result (List (List ℕ)) Refused = Ok (lines_of t) in r) (is ∙ ap module_text (same_value m n e) ∙ written_is_canonical n (spelled_is_writable bytes n spells)))
text_shows source bytes text m (faulty found kind first e) is = absurd (not_both m _ e)

-- a text that is refused shows nothing
pub stop_shows : (source : Source) (bytes : List ℕ) (stop : Stop) → IsStep (λ (m : Module). m) (TextReads source.kind source.file bytes) (Err stop) → IsStep lines_in (TextShows source bytes) (Err stop)
stop_shows source bytes (IsRefused status line) reads = stops _ reads refl
stop_shows source bytes (Unread line) reads = absurd reads
stop_shows source bytes (Unwritten line) reads = absurd reads
stop_shows source bytes Memory reads = tt

pub refused_text_status : (source : Source) (bytes : List ℕ) (refused : Refused) → TextShows source bytes (Err refused) → refused.status ≡ 1
refused_text_status source bytes refused (goes_on m reads e) = absurd (not_both (shown_lines m) refused (sym e))
refused_text_status source bytes refused (stops q reads e) = ap (λ (r : Refused). r.status) (same_refused refused q e) ∙ text_status source.kind source.file bytes q reads

-- a job of the lines is one of showing the source
pub shows : (source : Source) (told : List NamedFile) (job : Job) → JobOf (ShownLinesLead told source) (λ lines j. j ≡ lines_job lines 0) job → ShowReports source told job
shows source told job (goes_on lines (goes_on bytes load (goes_on m text e)) is) = goes_on m (goes_on bytes load text) (is ∙ ap (λ (l : List (List ℕ)). lines_job l 0) (same_value lines (shown_lines m) e))
shows source told job (goes_on lines (goes_on bytes load (stops r text e)) is) = absurd (not_both lines r e)
shows source told job (goes_on lines (stops r load e) is) = absurd (not_both lines r e)
shows source told job (stops r (goes_on bytes load (goes_on m text e)) is) = absurd (not_both (shown_lines m) r (sym e))
shows source told job (stops r (goes_on bytes load (stops q text e)) is) = stops q (goes_on bytes load text) (is ∙ ap refusal_job (same_refused r q e))
shows source told job (stops r (stops q load e) is) = stops q (stops q load refl) (is ∙ ap refusal_job (same_refused r q e))

keeps_also : (P Q : Job → Type 0) (files : List (List ℕ)) (before after : Outside) (status : ℕ) (line : List ℕ) → ((job : Job) → P job → Q job) → KeepsTo P files before after status line → KeepsTo Q files before after status line
keeps_also P Q files before after status line also (carries_out job is how) = carries_out job (also job is) how
keeps_also P Q files before after status line also (unread file of same four says) = unread file of same four says
keeps_also P Q files before after status line also (unbegun same eight says) = unbegun same eight says

-- what keeps to one of the former keeps to one of the latter
pub keeps_shown : (source : Source) (files : List (List ℕ)) (statuses : List ℕ) (shelf shelf' : ShelfState) (out out' : SinkState) (result : Result Done Stop) →
    KeepsJob (λ told job. JobOf (ShownLinesLead told source) (λ lines j. j ≡ lines_job lines 0) job) files statuses shelf shelf' out out' result → KeepsJob (ShowReports source) files statuses shelf shelf' out out' result
keeps_shown source files statuses shelf shelf' out out' result k = record { keeps = λ told e. keeps_also _ _ _ _ _ _ _ (shows source told) (k.keeps told e); cause = k.cause }
