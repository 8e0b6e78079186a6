-- Lines that are put one after another: those that were put, and those that are left.
use Rattle.std.proofs.Common.{◌≡◌, ◌==◌, ℕ, true, List, [], ◌∷◌, ◌++◌, length, map, take, drop, refl, ap, sym, ◌∙◌, append_assoc, arith}
use Rattle.std.proofs.lemmas.Bool.Decides.{nat_tests}
use Rattle.std.proofs.lemmas.List.{append-nil, map-append}
use Rattle.rw_io.specs.States.{ShelfState, SinkState}
use Rattle.rwc_acts.specs.declared.ending.Stop.{Stop}
use Rattle.rwc_acts.specs.Stops.{StopsWithin, stop_status, stop_line}
use Rattle.rwc_acts.proofs.Endings.{after_acts-append, broken}
use Rattle.rwc_reports.specs.Acts.{Act, put, outside_of, after_act, after_acts}
use Rattle.rwc_reports.specs.Endings.{CarriesOut, whole}
use Rattle.rwc_reports.specs.Jobs.{lines_job}
use Rattle.rwc_reports.specs.Shows.{lines_of}
use Rattle.rwc_shows.specs.Lines.{FirstLine}

-- the lines before what is left were put
pub record PutSoFar (text rest : List ℕ) (start now : SinkState) : Type 0 where
  pub before : List (List ℕ)
  pub split : lines_of text ≡ before ++ lines_of rest
  pub outside : (shelf : ShelfState) → outside_of shelf now ≡ after_acts (map put before) (outside_of shelf start)

pub none_put : (text : List ℕ) (start : SinkState) → PutSoFar text text start start
none_put text start = record { before = []; split = refl; outside = λ shelf. refl }

module _ (text rest : List ℕ) (start now : SinkState) (n : ℕ) where
  abbrev line : List ℕ
  line = take n rest

  abbrev after : List ℕ
  after = drop n rest

  -- one line more
  pub one_more : (next : SinkState) → FirstLine rest n → ((shelf : ShelfState) → outside_of shelf next ≡ after_act (put line) (outside_of shelf now)) → PutSoFar text rest start now → PutSoFar text after start next
  one_more next first performs p = record {
    before = p.before ++ (line ∷ []);
    split = p.split ∙ ap (λ (lines : List (List ℕ)). p.before ++ lines) first.lines ∙ sym (append_assoc p.before (line ∷ []) (lines_of after));
    outside = λ shelf.
        performs shelf
        ∙ ap (after_act (put line)) (p.outside shelf)
        ∙ sym (after_acts-append (map put p.before) (put line ∷ []) (outside_of shelf start))
        ∙ ap (λ (acts : List Act). after_acts acts (outside_of shelf start)) (sym (map-append put p.before (line ∷ [])));
  }

  -- a line that was not put whole
  pub line_broken : (end : SinkState) (stop : Stop) (shelf : ShelfState) → FirstLine rest n → StopsWithin (put line) (outside_of shelf now) (outside_of shelf end) stop → PutSoFar text rest start now →
      CarriesOut (lines_job (lines_of text) 0) (outside_of shelf start) (outside_of shelf end) (stop_status stop) (stop_line stop)
  line_broken end stop shelf first breaks p =
      broken (lines_job (lines_of text) 0) (map put p.before) (put line) (map put (lines_of after)) (outside_of shelf start) (outside_of shelf now) (outside_of shelf end) stop
      (ap (map put) (p.split ∙ ap (λ (lines : List (List ℕ)). p.before ++ lines) first.lines) ∙ map-append put p.before (line ∷ lines_of after)) (p.outside shelf) breaks

-- all lines
pub all_put : (text rest : List ℕ) (start end : SinkState) (shelf : ShelfState) → rest ≡ [] → PutSoFar text rest start end → CarriesOut (lines_job (lines_of text) 0) (outside_of shelf start) (outside_of shelf end) 0 []
all_put text rest start end shelf none p = record {
  done = map put (lines_of text);
  outside = p.outside shelf
      ∙ ap (λ (lines : List (List ℕ)). after_acts (map put lines) (outside_of shelf start)) (sym (p.split ∙ ap (λ (left : List ℕ). p.before ++ lines_of left) none ∙ append-nil p.before));
  ends = whole refl refl refl;
}

pub is_empty : (rest : List ℕ) → (length rest == 0) ≡ true → rest ≡ []
is_empty [] e = refl
is_empty (b ∷ bs) e = absurd (grind (arith, nat_tests))
