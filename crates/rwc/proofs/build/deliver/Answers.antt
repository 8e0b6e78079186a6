use Rattle.std.proofs.Common.{◌≡◌, ℕ, List, [], ◌∷◌, refl, ap, sym, ◌∙◌, length}
use Rattle.rwc_reports.specs.Acts.{Outside, create, append, put, after_act, outside_of}
use Rattle.rwc_reports.specs.Endings.{no_memory, whole}
use Rattle.rwc_reports.specs.Lines.{wrote_line}
use Rattle.rwc_reports.specs.Reports.{build_job}
use Rattle.rwc_acts.proofs.Endings.{broken}
use Rattle.rwc.proofs.build.deliver.Goals as goal

pub returns-in_default-clause-carries_out : goal.returns-in_default-clause-carries_out
returns-in_default-clause-carries_out g c = record { done = []; outside = refl; ends = no_memory _ refl refl refl }

pub returns-in-Err-clause-carries_out : goal.returns-in-Err-clause-carries_out
returns-in-Err-clause-carries_out g c =
    broken _ [] (create c.args.name.now) _ _ _ _ c.in-Err.stop refl refl (c.in-Err.ensures.performs (g.O.Sink.state c.args.out.now))

pub append_piece-requires : goal.append_piece-requires
append_piece-requires g c = ap (λ (s : Outside). s.holding.has_created) (c.in_default-create_file.ensures.performs (g.O.Sink.state c.args.out.now))

pub returns-in-Err-append_piece-clause-carries_out : goal.returns-in-Err-append_piece-clause-carries_out
returns-in-Err-append_piece-clause-carries_out g c =
    let out = g.O.Sink.state c.args.out.now in
    broken _ (create c.args.name.now ∷ []) (append c.args.binary.now) _ _ _ _ c.in-Err-append_piece.stop refl
    (c.in_default-create_file.ensures.performs out) (c.in-Err-append_piece.ensures.performs out)

pub returns-in-Err-put_piece-clause-carries_out : goal.returns-in-Err-put_piece-clause-carries_out
returns-in-Err-put_piece-clause-carries_out g c =
    let out = g.O.Sink.state c.args.out.now in
    let binary = c.args.binary.now in
    let same : c.as_bytes.result.now ≡ wrote_line c.args.name.now (length binary) = c.as_bytes.ensures.value ∙ c.in-Ok.ensures in
    broken _ (create c.args.name.now ∷ append binary ∷ []) (put c.as_bytes.result.now) [] _ _ _ c.in-Err-put_piece.stop
    (ap (λ (p : List ℕ). create c.args.name.now ∷ append binary ∷ put p ∷ []) (sym same))
    (c.in_default-append_piece.ensures.performs out ∙ ap (after_act (append binary)) (c.in_default-create_file.ensures.performs out))
    (c.in-Err-put_piece.ensures.performs (g.S.Shelf.state c.append_piece.new.shelf))

pub returns-clause-carries_out : goal.returns-clause-carries_out
returns-clause-carries_out g c =
    let out = g.O.Sink.state c.args.out.now in
    let binary = c.args.binary.now in
    let same : c.as_bytes.result.now ≡ wrote_line c.args.name.now (length binary) = c.as_bytes.ensures.value ∙ c.in-Ok.ensures in
    record {
      done = (build_job c.args.name.now binary).acts;
      outside = c.in_default-put_piece.ensures.performs (g.S.Shelf.state c.append_piece.new.shelf)
          ∙ ap (after_act (put c.as_bytes.result.now)) (c.in_default-append_piece.ensures.performs out ∙ ap (after_act (append binary)) (c.in_default-create_file.ensures.performs out))
          ∙ ap (λ (p : List ℕ). after_act (put p) (after_act (append binary) (after_act (create c.args.name.now) (outside_of (g.S.Shelf.state c.args.shelf.now) out)))) same;
      ends = whole refl refl refl;
    }
