-- Steps from a file, one after another: each exit answers as the steps allow.
use Rattle.std.proofs.Common.{◌≡◌, ℕ, List, refl, sym, subst, string_bytes, Ok, Err, Some}
use Rattle.std.specs.declared.alloc.AllocError.{AllocError}
use Rattle.std.specs.declared.alloc.Global.{Global}
use Rattle.std.specs.declared.result.Result.{Result}
use Rattle.std.specs.declared.string.String.{String}
use Rattle.std.specs.Result.{MatchResult, IfOk, IsErrAnd}
use Rattle.rw_io.specs.Counts.{Rose}
use Rattle.rw_io.specs.Files.{NamedFile}
use Rattle.rw_io.specs.States.{ShelfState, NoShelfCountFell}
use Rattle.rwc_acts.specs.declared.ending.Stop.{Stop}
use Rattle.rwc_acts.specs.declared.ending.Stop.TheVariants.{Refused as IsRefused, Unread, Unwritten, Memory}
use Rattle.rwc_acts.specs.Kept.{LoadsTo}
use Rattle.rwc_acts.specs.Stops.{IsStep}
use Rattle.rwc_reports.specs.Lines.{read_fault_line}
use Rattle.rwc_reports.specs.Steps.{Refused, IsOneOf}

-- a refusal with this line, or want of memory for it
pub refused_step : {T A : Type 0} (view : T → A) (Leads : Result A Refused → Type 0) (status : ℕ) (line : Result (String Global) AllocError) (stop : Stop) (want : List ℕ) →
    MatchResult line (λ text. stop ≡ IsRefused status text) (λ _. stop ≡ Memory) → IfOk line (λ text. string_bytes text ≡ want) →
    Leads (Err (record { status = status; line = want })) → IsStep view Leads (Err stop)
refused_step view Leads status (Ok text) stop want made line h =
    subst (λ (s : Stop). IsStep view Leads (Err s)) (sym made) (subst (λ (l : List ℕ). Leads (Err (record { status = status; line = l }))) (sym line) h)
refused_step view Leads status (Err e) stop want made line h = subst (λ (s : Stop). IsStep view Leads (Err s)) (sym made) tt

module _ {T A : Type 0} (view : T → A) (Leads : List NamedFile → Result A Refused → Type 0) (statuses file : List ℕ) (shelf shelf' : ShelfState) where
  abbrev Loads : Result T Stop → Type 0
  Loads result = LoadsTo view Leads statuses file shelf shelf' result

  module _ (same : shelf'.holding ≡ shelf.holding) (counts : NoShelfCountFell shelf shelf') where
    -- want of memory
    pub no_memory : (stop : Stop) → stop ≡ Memory → Loads (Err stop)
    no_memory stop is = subst (λ (s : Stop). Loads (Err s)) (sym is) (record { leads = λ told e. tt; cause = tt; same = same; counts = counts })

    -- a step behind the load was refused
    pub step_stopped : {S B : Type 0} (look : S → B) (Step : Result B Refused → Type 0) (stop : Stop) → IsStep look Step (Err stop) → ((told : List NamedFile) → shelf.holding.files ≡ Some told → (refused : Refused) → Step (Err refused) → Leads told (Err refused)) →
        ((refused : Refused) → Step (Err refused) → IsOneOf statuses refused.status) → Loads (Err stop)
    step_stopped look Step (IsRefused status line) step also listed = record { leads = λ told e. also told e _ step; cause = listed _ step; same = same; counts = counts }
    step_stopped look Step (Unread line) step also listed = absurd step
    step_stopped look Step (Unwritten line) step also listed = absurd step
    step_stopped look Step Memory step also listed = no_memory Memory refl

    -- the last step
    pub last_step : (Step : Result A Refused → Type 0) (result : Result T Stop) → IsStep view Step result → ((told : List NamedFile) → shelf.holding.files ≡ Some told → (r : Result A Refused) → Step r → Leads told r) →
        ((refused : Refused) → Step (Err refused) → IsOneOf statuses refused.status) → Loads result
    last_step Step (Ok value) step also listed = record { leads = λ told e. also told e _ step; cause = tt; same = same; counts = counts }
    last_step Step (Err stop) step also listed = step_stopped view Step stop step (λ told e refused s. also told e (Err refused) s) listed

    -- the load was refused
    pub load_refused : (status : ℕ) (line : Result (String Global) AllocError) (stop : Stop) (want : List ℕ) → MatchResult line (λ text. stop ≡ IsRefused status text) (λ _. stop ≡ Memory) → IfOk line (λ text. string_bytes text ≡ want) →
        IsOneOf statuses status → ((told : List NamedFile) → shelf.holding.files ≡ Some told → Leads told (Err (record { status = status; line = want }))) → Loads (Err stop)
    load_refused status (Ok text) stop want made line listed h = subst (λ (s : Stop). Loads (Err s)) (sym made) (record {
      leads = λ told e. subst (λ (l : List ℕ). Leads told (Err (record { status = status; line = l }))) (sym line) (h told e);
      cause = listed;
      same = same;
      counts = counts;
    })
    load_refused status (Err e) stop want made line listed h = no_memory stop made

    -- the load failed
    pub load_failed : (line : Result (String Global) AllocError) (stop : Stop) → MatchResult line (λ text. stop ≡ Unread text) (λ _. stop ≡ Memory) → IfOk line (λ text. string_bytes text ≡ read_fault_line file) →
        Rose shelf.load_faults shelf'.load_faults → Loads (Err stop)
    load_failed (Ok text) stop made line rose = subst (λ (s : Stop). Loads (Err s)) (sym made) (record { leads = λ told e. tt; cause = (line, rose); same = same; counts = counts })
    load_failed (Err e) stop made line rose = no_memory stop made

-- a load that was stopped stops what follows it
pub load_stopped : {T A S B : Type 0} (look : S → B) (First : List NamedFile → Result B Refused → Type 0) (first : List ℕ) (view : T → A) (Leads : List NamedFile → Result A Refused → Type 0) (statuses file : List ℕ) (shelf shelf' : ShelfState) (stop : Stop) →
    LoadsTo look First first file shelf shelf' (Err stop) → ((told : List NamedFile) (refused : Refused) → First told (Err refused) → Leads told (Err refused)) → ((status : ℕ) → IsOneOf first status → IsOneOf statuses status) →
    LoadsTo view Leads statuses file shelf shelf' (Err stop)
load_stopped look First first view Leads statuses file shelf shelf' (IsRefused status line) l also listed = record { leads = λ told e. also told _ (l.leads told e); cause = listed status l.cause; same = l.same; counts = l.counts }
load_stopped look First first view Leads statuses file shelf shelf' (Unread line) l also listed = record { leads = λ told e. tt; cause = l.cause; same = l.same; counts = l.counts }
load_stopped look First first view Leads statuses file shelf shelf' (Unwritten line) l also listed = absurd l.cause
load_stopped look First first view Leads statuses file shelf shelf' Memory l also listed = record { leads = λ told e. tt; cause = tt; same = l.same; counts = l.counts }

-- an exit by `?` hands the stop on
pub hands_on : {T A : Type 0} (view : T → A) (Leads : List NamedFile → Result A Refused → Type 0) (statuses file : List ℕ) (shelf shelf' : ShelfState) (result : Result T Stop) (stop : Stop) →
    IsErrAnd result (λ given. given ≡ stop) → LoadsTo view Leads statuses file shelf shelf' (Err stop) → LoadsTo view Leads statuses file shelf shelf' result
hands_on view Leads statuses file shelf shelf' (Ok value) stop is l = absurd is
hands_on view Leads statuses file shelf shelf' (Err given) stop is l = subst (λ (s : Stop). LoadsTo view Leads statuses file shelf shelf' (Err s)) (sym is) l
