use Rattle.std.proofs.Common.{◌≡◌, ℕ, List, [], ◌∷◌, inl, inr, refl, ap, sym, ◌∙◌, subst, Ok, Err}
use Rattle.rwc_acts.proofs.Loading.{last_step, load_stopped}
use Rattle.rwc_reports.proofs.Causes.{decode_status}
use Rattle.rwc_reports.proofs.Steps.{not_both, same_refused}
use Rattle.rwc_reports.specs.Binaries.{BinaryDecodes}
use Rattle.rwc_reports.specs.Dumps.{module_lines}
use Rattle.rwc_reports.specs.Sources.{FileLoads}
use Rattle.rwc_reports.specs.Steps.{Refused, Onward, goes_on, stops, IsOneOf}
use Rattle.rwc_binaries.proofs.decoded.lines_of_file.Goals as goal

refused_status : (file bytes : List ℕ) (refused : Refused) → Onward (BinaryDecodes file bytes) (λ m r. r ≡ Ok (module_lines bytes m)) (Err refused) → IsOneOf (3 ∷ 9 ∷ []) refused.status
refused_status file bytes refused (goes_on m decodes e) = absurd (not_both _ refused (sym e))
refused_status file bytes refused (stops r decodes e) = inr (inl (ap (λ (q : Refused). q.status) (same_refused refused r e) ∙ decode_status file bytes r decodes))

pub returns-in-Err : goal.returns-in-Err
returns-in-Err g c = load_stopped _ _ _ _ _ _ _ _ _ c.in-Err.stop c.in-Err.ensures.loads (λ told refused f. stops refused f refl) (λ status listed. elim listed [ inl three ↦ inl three | inr none ↦ absurd none ])

pub returns-in-Ok : goal.returns-in-Ok
returns-in-Ok g c =
    let file = c.args.file.now in
    let bytes = c.deref.result.now in
    last_step _ _ _ _ _ _ c.load_file.ensures.loads.same c.load_file.ensures.loads.counts
    (Onward (BinaryDecodes file bytes) (λ m r. r ≡ Ok (module_lines bytes m))) c.lines_of.result c.lines_of.ensures
    (λ told e r step. goes_on bytes (subst (λ (b : List ℕ). FileLoads told file (Ok b)) (sym c.deref.ensures.value) (c.in-Ok.ensures.loads.leads told e)) step)
    (λ refused step. refused_status file bytes refused step)
