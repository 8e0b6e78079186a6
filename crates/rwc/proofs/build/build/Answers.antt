use Rattle.std.proofs.Common.{◌≡◌, ℕ, List, [], ◌∷◌, inl, inr, refl, subst}
use Rattle.rwc_acts.proofs.Endings.{stopped, delivered, finished_comes, write_rose_from}
use Rattle.rwc_acts.specs.Stops.{status_of, line_of, bytes_of}
use Rattle.words.specs.Commands.{spelled_source}
use Rattle.rwc_reports.specs.Acts.{outside_of}
use Rattle.rwc_reports.specs.Endings.{CarriesOut}
use Rattle.rwc_reports.specs.Reports.{BinaryLeads, build_job}
use Rattle.rwc_reports.specs.Steps.{IsOneOf}
use Rattle.rwc.proofs.build.build.Goals as goal

build_statuses : (status : ℕ) → IsOneOf (1 ∷ 3 ∷ 11 ∷ []) status → IsOneOf (0 ∷ 1 ∷ 3 ∷ 10 ∷ 11 ∷ []) status
build_statuses status (inl e) = inr (inl e)
build_statuses status (inr (inl e)) = inr (inr (inl e))
build_statuses status (inr (inr (inl e))) = inr (inr (inr (inr (inl e))))
build_statuses status (inr (inr (inr none))) = absurd none

pub returns-in-Err : goal.returns-in-Err
returns-in-Err g c =
    let words = c.args.words.now in
    let file = words.source.file.now in
    stopped bytes_of (λ told. BinaryLeads told (spelled_source words.source ∷ []) (record { lin = words.lin; unr = words.unr })) (λ binary j. j ≡ build_job words.name.now binary) (file ∷ []) (0 ∷ 1 ∷ 3 ∷ 10 ∷ 11 ∷ []) file _ _ (1 ∷ 3 ∷ 11 ∷ []) _ c.in-Err.stop c.in-Err.ensures.loads (inl refl) build_statuses

pub returns-in-Ok : goal.returns-in-Ok
returns-in-Ok g c =
    let words = c.args.words.now in
    let file = words.source.file.now in
    let begin = g.S.Shelf.state c.args.shelf.now in
    let mid = g.S.Shelf.state c.compile.new.shelf in
    let last = g.S.Shelf.state c.deliver.new.shelf in
    let start = g.O.Sink.state c.args.out.now in
    let end = g.O.Sink.state c.deliver.new.out in
    let result = c.deliver.result in
    delivered bytes_of (λ told. BinaryLeads told (spelled_source words.source ∷ []) (record { lin = words.lin; unr = words.unr })) (λ binary j. j ≡ build_job words.name.now binary) (file ∷ []) (0 ∷ 1 ∷ 3 ∷ 10 ∷ 11 ∷ []) file begin mid (1 ∷ 3 ∷ 11 ∷ []) c.in-Ok.binary (build_job words.name.now c.in-Ok.binary.items) last start end result c.in-Ok.ensures.loads refl
    (subst (λ (binary : List ℕ). CarriesOut (build_job words.name.now binary) (outside_of mid start) (outside_of last end) (status_of result) (line_of result)) c.deref.ensures.value c.deliver.ensures.carries_out)
    (finished_comes (0 ∷ 1 ∷ 3 ∷ 10 ∷ 11 ∷ []) begin last result (inl refl) c.deliver.ensures.finished)
    (write_rose_from begin mid last start end c.compile.ensures.loads.counts)
    c.deliver.ensures.causes
