-- What each answer of a call says and leaves, from how it kept to its job.
use Rattle.std.specs.Prelude.{◌==◌, ◌||◌}
use Rattle.std.specs.List.{list_all}
use Rattle.std.proofs.Common.{◌≡◌, ◌≢◌, ◌⊎◌, inl, inr, ℕ, Bool, true, false, ◌-◌, List, [], ◌∷◌, ◌++◌, length, take, drop, refl, ap, sym, ◌∙◌, subst, arith, append_assoc, Ok, None, Some}
use Rattle.std.proofs.Math.Seq.{take-append_seam}
use Rattle.std.proofs.lemmas.List.{append-nil, take-append-drop}
use Rattle.std.specs.declared.option.Option.{Option}
use Rattle.std.specs.Option.{option_map}
use Rattle.std.specs.Io.KnownBytes.{append_known}
use Rattle.lowering_laws.proofs.Behaves.{lowered_behaves}
use Rattle.lowering_table.specs.declared.Pages.{Pages}
use Rattle.lowering_table.specs.Modules.{ArePages, low_module}
use Rattle.lower.proofs.Fitting.{low_is_in_profile}
use Rattle.lower.proofs.ShortContents.{low_has_short_contents}
use Rattle.wasm_ast.specs.declared.modules.WModule.{WModule}
use Rattle.wasm_grammar.specs.CanonicalModules.{module_bytes}
use Rattle.wasm_spelling.proofs.SpelledModules.{canonical_bytes_spell}
use Rattle.rw_program.specs.Programs.{Program}
use Rattle.rw_io.specs.Files.{NamedFile}
use Rattle.rw_io.specs.States.{ShelfState, SinkState}
use Rattle.words.specs.Words.{Command, build, run, exec, show, dump, Source, SpellsCommand}
use Rattle.words.specs.Found.{Finds}
use Rattle.rwc_reports.specs.Acts.{Act, create, append, put, Outside, after_act, after_acts, outside_of, IsPart, BreaksOff}
use Rattle.rwc_reports.specs.Answers.{text_of, PutsText, HasStatus, statuses_of, IsRefusal}
use Rattle.rwc_reports.specs.Binaries.{ModuleEncodes, encoded, too_long, ProgramLeads}
use Rattle.rwc_reports.specs.Causes.{IsRefusedFor}
use Rattle.rwc_reports.specs.Endings.{JobEnds, whole, unwritten, no_memory, no_memory_within, KeepsTo, carries_out, unread, unbegun, Tells}
use Rattle.rwc_reports.specs.Headlines.{Built}
use Rattle.rwc_reports.specs.Jobs.{Job}
use Rattle.rwc_reports.specs.Lines.{wrote_line}
use Rattle.rwc_reports.specs.Reports.{build_job, CommandReports, Reports}
use Rattle.rwc_reports.specs.Sources.{FilesLead}
use Rattle.rwc_reports.specs.Steps.{Refused, goes_on, stops, IsOneOf}
use Rattle.rwc_reports.proofs.Causes.{of_built_files, of_built_program, Comes, refuses, is_done, comes, job_status, apart}
use Rattle.rwc_reports.proofs.LonePrograms.{leads_to_lone}
use Rattle.rwc_reports.proofs.OneReport.{one_report, reports_found}
use Rattle.rwc_reports.proofs.SomeAnswer.{are_pages}
use Rattle.rwc_reports.proofs.Steps.{same_value, not_both, one_of_all}
use Rattle.rwc_reports.proofs.Ways.{BuildComes, refused_files, refused_program, is_built, build_comes}

text_of-append : (xs ys : List Act) → text_of (xs ++ ys) ≡ text_of xs ++ text_of ys
text_of-append [] ys = refl
text_of-append (create name ∷ xs) ys = text_of-append xs ys
text_of-append (append piece ∷ xs) ys = text_of-append xs ys
text_of-append (put piece ∷ xs) ys = ap (λ (t : List ℕ). piece ++ t) (text_of-append xs ys) ∙ sym (append_assoc piece (text_of xs) (text_of ys))

append_known_nothing : (bytes : Option (List ℕ)) → bytes ≡ append_known bytes []
append_known_nothing None = refl
append_known_nothing (Some xs) = ap (λ (b : List ℕ). Some b) (sym (append-nil xs))

append_known_twice : (known : Option (List ℕ)) (xs ys : List ℕ) → append_known (append_known known xs) ys ≡ append_known known (xs ++ ys)
append_known_twice None xs ys = refl
append_known_twice (Some bytes) xs ys = ap (λ (b : List ℕ). Some b) (append_assoc bytes xs ys)

-- what acts leave on standard output
pub out_after : (acts : List Act) (outside : Outside) → (after_acts acts outside).out ≡ append_known outside.out (text_of acts)
out_after [] outside = append_known_nothing outside.out
out_after (create name ∷ acts) outside = out_after acts (after_act (create name) outside)
out_after (append piece ∷ acts) outside = out_after acts (after_act (append piece) outside)
out_after (put piece ∷ acts) outside = out_after acts (after_act (put piece) outside) ∙ append_known_twice outside.out piece (text_of acts)

-- the text of these acts is a front of that text
record IsFront (done : List Act) (text : List ℕ) : Type 0 where
  rest : List ℕ
  is : text ≡ text_of done ++ rest

part_front : (act : Act) (part : List Act) (left : ℕ) → IsPart act part left → IsFront part (text_of (act ∷ []))
part_front (create name) part left is = record { rest = []; is = let e : text_of part ≡ [] = ap text_of is.0 in ap (λ (t : List ℕ). t ++ []) (sym e) }
part_front (append piece) part left is = record { rest = []; is = let e : text_of part ≡ [] = ap text_of is.2 in ap (λ (t : List ℕ). t ++ []) (sym e) }
part_front (put piece) part left is =
    let n = length piece - left in
    let e : text_of part ≡ take n piece ++ [] = ap text_of is.2 in
    record { rest = drop n piece; is = append-nil piece ∙ sym (take-append-drop n piece) ∙ ap (λ (t : List ℕ). t ++ drop n piece) (sym (append-nil (take n piece)) ∙ sym e) }

off_front : (acts done : List Act) (left : ℕ) → BreaksOff acts done left → IsFront done (text_of acts)
off_front acts done left off =
    let p = part_front off.act off.part left off.is_part in
    record {
      rest = p.rest ++ text_of off.after;
      is = ap text_of off.split ∙ text_of-append off.before (off.act ∷ off.after)
          ∙ ap (λ (t : List ℕ). text_of off.before ++ t) (text_of-append (off.act ∷ []) off.after ∙ ap (λ (t : List ℕ). t ++ text_of off.after) p.is ∙ append_assoc (text_of off.part) p.rest (text_of off.after))
          ∙ sym (append_assoc (text_of off.before) (text_of off.part) (p.rest ++ text_of off.after))
          ∙ ap (λ (t : List ℕ). t ++ (p.rest ++ text_of off.after)) (sym (text_of-append off.before off.part) ∙ ap text_of (sym off.done_is));
    }

front_is : (done : List Act) (text : List ℕ) → IsFront done text → text_of done ≡ take (length (text_of done)) text
front_is done text f = sym (take-append_seam (text_of done) f.rest) ∙ ap (take (length (text_of done))) (sym f.is)

not_status : (result status n : ℕ) → (result ≡ status) ⊎ (result ≡ 8) → (status ≡ n → ⊥) → n ≢ 8 → result ≡ n → ⊥
not_status result status n (inl same) f k e = f (sym same ∙ e)
not_status result status n (inr eight) f k e = k (sym e ∙ eight)

puts : (job : Job) (done : List Act) (status result : ℕ) (line : List ℕ) (out out' : Option (List ℕ)) → JobEnds job done status line → out' ≡ append_known out (text_of done) →
    (result ≡ status) ⊎ (result ≡ 8) → (job.status ≡ 4 → ⊥) → PutsText (text_of job.acts) out out' result
puts job done status result line out out' (whole all same says) told_out told not_four = record {
  count = length (text_of done);
  put = told_out ∙ ap (append_known out) (front_is done (text_of job.acts) (record { rest = []; is = sym (append-nil (text_of job.acts)) ∙ ap (λ (acts : List Act). text_of acts ++ []) (sym all) }));
  none = λ four. absurd (not_status result status 4 told (λ e. not_four (sym same ∙ e)) (λ e. omega arith) four);
  whole = λ _ _ _. omega (arith, ap (λ (acts : List Act). length (text_of acts)) all);
}
puts job done status result line out out' (unwritten left off five says) told_out told not_four = record {
  count = length (text_of done);
  put = told_out ∙ ap (append_known out) (front_is done (text_of job.acts) (off_front job.acts done left off));
  none = λ four. absurd (not_status result status 4 told (λ e. omega arith) (λ e. omega arith) four);
  whole = λ _ not_five not_eight. absurd (elim told [ inl same ↦ not_five (same ∙ five) | inr eight ↦ not_eight eight ]);
}
puts job done status result line out out' (no_memory rest split eight says) told_out told not_four = record {
  count = length (text_of done);
  put = told_out ∙ ap (append_known out) (front_is done (text_of job.acts) (record { rest = text_of rest; is = ap text_of split ∙ text_of-append done rest }));
  none = λ four. absurd (not_status result status 4 told (λ e. omega arith) (λ e. omega arith) four);
  whole = λ _ _ not_eight. absurd (elim told [ inl same ↦ not_eight (same ∙ eight) | inr e ↦ not_eight e ]);
}
puts job done status result line out out' (no_memory_within left off eight says) told_out told not_four = record {
  count = length (text_of done);
  put = told_out ∙ ap (append_known out) (front_is done (text_of job.acts) (off_front job.acts done left off));
  none = λ four. absurd (not_status result status 4 told (λ e. omega arith) (λ e. omega arith) four);
  whole = λ _ _ not_eight. absurd (elim told [ inl same ↦ not_eight (same ∙ eight) | inr e ↦ not_eight e ]);
}

nothing_put : (text : List ℕ) (out out' : Option (List ℕ)) (result : ℕ) → out' ≡ out → (result ≡ 4) ⊎ (result ≡ 8) → PutsText text out out' result
nothing_put text out out' result same which = record {
  count = 0;
  put = same ∙ append_known_nothing out;
  none = λ _. refl;
  whole = λ not_four _ not_eight. absurd (elim which [ inl four ↦ not_four four | inr eight ↦ not_eight eight ]);
}

-- the text of a job, where only one is right
keeps_text : (Jobs : Job → Type 0) (one : (a b : Job) → Jobs a → Jobs b → a ≡ b) (job : Job) → Jobs job → (job.status ≡ 4 → ⊥) → (files : List (List ℕ)) (before after : Outside) (status result : ℕ) (line : List ℕ) →
    KeepsTo Jobs files before after status line → (result ≡ status) ⊎ (result ≡ 8) → PutsText (text_of job.acts) before.out after.out result
keeps_text Jobs one job right not_four files before after status result line (carries_out other is how) told =
    subst (λ (j : Job). PutsText (text_of j.acts) before.out after.out result) (one other job is right)
    (puts other how.done status result line before.out after.out how.ends (ap (λ (s : Outside). s.out) how.outside ∙ out_after how.done before) told
    (λ four. not_four (ap (λ (j : Job). j.status) (one job other right is) ∙ four)))
keeps_text Jobs one job right not_four files before after status result line (unread file of same four says) told =
    nothing_put _ _ _ result (ap (λ (s : Outside). s.out) same) (elim told [ inl e ↦ inl (e ∙ four) | inr eight ↦ inr eight ])
keeps_text Jobs one job right not_four files before after status result line (unbegun same eight says) told =
    nothing_put _ _ _ result (ap (λ (s : Outside). s.out) same) (elim told [ inl e ↦ inr (e ∙ eight) | inr e ↦ inr e ])

-- the statuses that are some command's
abbrev is_status : ℕ → Bool
is_status n = n == 0 || n == 1 || n == 3 || n == 6 || n == 7 || n == 9 || n == 10 || n == 11

command_statuses : (command : Command) → list_all is_status (statuses_of (Some command)) ≡ true
command_statuses (build lin unr name source) = refl
command_statuses (run lin unr steps source) = refl
command_statuses (exec steps file) = refl
command_statuses (show source) = refl
command_statuses (dump file) = refl

-- the status of a command's job is no other
pub listed_not : (command : Command) (status n : ℕ) → IsOneOf (statuses_of (Some command)) status → status ≡ n → is_status n ≡ false → ⊥
listed_not command status n listed is other =
    let bad : true ≡ false = sym (one_of_all is_status (statuses_of (Some command)) status (command_statuses command) listed) ∙ ap is_status is ∙ other in cc

-- no job has status 4
status_not_four : (command : Option Command) (status : ℕ) → IsOneOf (statuses_of command) status → status ≡ 4 → ⊥
status_not_four None status (inl two) four = omega (arith, two, four)
status_not_four None status (inr none) four = none
status_not_four (Some command) status listed four = listed_not command status 4 listed four refl

module _ (words : List (List ℕ)) (told : List NamedFile) (files : List (List ℕ)) (before after : Outside) (status result : ℕ) (line : List ℕ) where
  -- the text of the job of words and files
  pub puts_text : (job : Job) → Reports words told job → KeepsTo (Reports words told) files before after status line → (result ≡ status) ⊎ (result ≡ 8) → PutsText (text_of job.acts) before.out after.out result
  puts_text job right keeps heard =
      keeps_text (Reports words told) (one_report words told) job right (status_not_four right.0 job.status (job_status right.0 told job right.2)) files before after status result line keeps heard

  ends_complete : (job : Job) (acts : List Act) → JobEnds job acts status line → (result ≡ status) ⊎ (result ≡ 8) → (result ≡ 5 → ⊥) → (result ≡ job.status) ⊎ (result ≡ 8)
  ends_complete job acts ends (inr eight) no_write = inr eight
  ends_complete job acts (whole all same says) (inl e) no_write = inl (e ∙ same)
  ends_complete job acts (unwritten left off five says) (inl e) no_write = absurd (no_write (e ∙ five))
  ends_complete job acts (no_memory rest split eight says) (inl e) no_write = inr (e ∙ eight)
  ends_complete job acts (no_memory_within left off eight says) (inl e) no_write = inr (e ∙ eight)

  -- where nothing fails the status is that of a job, or memory was wanting
  job_or_memory : KeepsTo (Reports words told) files before after status line → (result ≡ status) ⊎ (result ≡ 8) → result ≢ 4 → result ≢ 5 → HasStatus words told result ⊎ (result ≡ 8)
  job_or_memory (carries_out job is how) heard not_four not_five =
      elim (ends_complete job how.done how.ends heard not_five) [ inl e ↦ inl (record { job = job; reported = is; is = e }) | inr eight ↦ inr eight ]
  job_or_memory (unread file of same four says) (inl e) not_four not_five = absurd (not_four (e ∙ four))
  job_or_memory (unread file of same four says) (inr eight) not_four not_five = inr eight
  job_or_memory (unbegun same eight says) (inl e) not_four not_five = inr (e ∙ eight)
  job_or_memory (unbegun same eight says) (inr e) not_four not_five = inr e

  -- a status other than 4, 5 and 8 is that of a job which words and files report
  pub reported : KeepsTo (Reports words told) files before after status line → (result ≡ status) ⊎ (result ≡ 8) → result ≢ 4 → result ≢ 5 → result ≢ 8 → HasStatus words told result
  reported keeps heard not_four not_five not_eight = elim (job_or_memory keeps heard not_four not_five) [ inl h ↦ h | inr eight ↦ absurd (not_eight eight) ]

  -- and of the job
  pub complete : (job : Job) → Reports words told job → KeepsTo (Reports words told) files before after status line → (result ≡ status) ⊎ (result ≡ 8) → result ≢ 4 → result ≢ 5 → (result ≡ job.status) ⊎ (result ≡ 8)
  complete job right keeps heard not_four not_five = elim (job_or_memory keeps heard not_four not_five) [
    | inl h ↦ inl (h.is ∙ ap (λ (j : Job). j.status) (one_report words told h.job job h.reported right))
    | inr eight ↦ inr eight
  ]

  tells_other : (refused : Refused) (err err' : SinkState) → line ≡ refused.line → status ≡ result → Tells line status err err' result → Tells refused.line result err err' result
  tells_other refused err err' says same tells = subst (λ (l : List ℕ). Tells l result err err' result) says (subst (λ (s : ℕ). Tells line s err err' result) same tells)

  refused_for : (command : Option Command) (job : Job) (err err' : SinkState) → Finds (SpellsCommand words) command → CommandReports command told job → line ≡ job.line → status ≡ result → result ≡ job.status → IsRefusal result → Tells line status err err' result → IsRefusedFor words told err err' result
  refused_for None job err err' found is says same also refusal tells =
      absurd (apart result 2 refusal (also ∙ ap (λ (j : Job). j.status) is) refl)
  refused_for (Some command) job err err' found reports says same also refusal tells = of_comes (comes told command job reports)
    where
      of_comes : Comes told command job → IsRefusedFor words told err err' result
      of_comes (is_done zero) = absurd (apart result 0 refusal (also ∙ zero) refl)
      of_comes (refuses refused r same_status same_line) = record {
        command = command;
        spelled = found;
        refused = refused;
        cause = r.cause;
        is = also ∙ same_status;
        tells = tells_other refused err err' (says ∙ same_line) same tells;
      }

  ends_refused : (job : Job) (acts : List Act) (err err' : SinkState) → JobEnds job acts status line → Reports words told job → result ≡ status → IsRefusal result → Tells line status err err' result → IsRefusedFor words told err err' result
  ends_refused job acts err err' (whole all same says) reports heard refusal tells = refused_for reports.0 job err err' reports.1 reports.2 says (sym heard) (heard ∙ same) refusal tells
  ends_refused job acts err err' (unwritten left off five says) reports heard refusal tells = absurd (apart result 5 refusal (heard ∙ five) refl)
  ends_refused job acts err err' (no_memory rest split eight says) reports heard refusal tells = absurd (apart result 8 refusal (heard ∙ eight) refl)
  ends_refused job acts err err' (no_memory_within left off eight says) reports heard refusal tells = absurd (apart result 8 refusal (heard ∙ eight) refl)

  -- a refusal has its cause, which was told
  pub caused : (err err' : SinkState) → KeepsTo (Reports words told) files before after status line → IsRefusal result → Tells line status err err' result → IsRefusedFor words told err err' result
  caused err err' keeps refusal tells = by_keeping keeps tells.same
    where
      by_keeping : KeepsTo (Reports words told) files before after status line → (result ≡ status) ⊎ (result ≡ 8) → IsRefusedFor words told err err' result
      by_keeping keeps (inr eight) = absurd (apart result 8 refusal eight refl)
      by_keeping (carries_out job is how) (inl heard) = ends_refused job how.done err err' how.ends is heard refusal tells
      by_keeping (unread file of same four says) (inl heard) = absurd (apart result 4 refusal (heard ∙ four) refl)
      by_keeping (unbegun same eight says) (inl heard) = absurd (apart result 8 refusal (heard ∙ eight) refl)

-- what stands after the acts of a build
created_after : (name binary : List ℕ) (created : NamedFile) (before after : Outside) → after ≡ after_acts (build_job name binary).acts before → before.holding.created ≡ Some created → after.holding.created ≡ Some (name, binary)
created_after name binary created before after e c =
    ap (λ (s : Outside). s.holding.created) e
    ∙ ap (λ (o : Option NamedFile). option_map (λ (f : NamedFile). (f.0, f.1 ++ binary)) (option_map (λ (_ : NamedFile). (name, [])) o)) c

said_after : (name binary said : List ℕ) (before after : Outside) → after ≡ after_acts (build_job name binary).acts before → before.out ≡ Some said → after.out ≡ Some (said ++ wrote_line name (length binary))
said_after name binary said before after e c = ap (λ (s : Outside). s.out) e ∙ ap (λ (o : Option (List ℕ)). append_known o (wrote_line name (length binary))) c

module _ (told : List NamedFile) (lin unr : ℕ) (name said : List ℕ) (source : Source) (created : NamedFile) (shelf shelf' : ShelfState) (out out' : SinkState) where
  abbrev pages : Pages
  pages = record { lin = lin; unr = unr }

  abbrev Stands : Type 0
  Stands = Built told (source ∷ []) pages name said shelf' out'

  encoded_bytes : (program : Program) (m : WModule) (binary : List ℕ) → m ≡ low_module program pages → ModuleEncodes m (Ok binary) → binary ≡ module_bytes (low_module program pages)
  encoded_bytes program m binary low (encoded short e) = same_value binary (module_bytes m) e ∙ ap module_bytes low
  encoded_bytes program m binary low (too_long id first e) = absurd (not_both binary _ e)

  program_bytes : (program : Program) (binary : List ℕ) → ProgramLeads pages program (Ok binary) → binary ≡ module_bytes (low_module program pages)
  program_bytes program binary (stops r low e) = absurd (not_both _ r (sym low))
  program_bytes program binary (goes_on m low encodes) = encoded_bytes program m binary (same_value m _ low) encodes

  stands : (program : Program) (binary : List ℕ) → ArePages pages → FilesLead told (source ∷ []) (Ok program) → ProgramLeads pages program (Ok binary) → outside_of shelf' out' ≡ after_acts (build_job name binary).acts (outside_of shelf out) →
      shelf.holding.created ≡ Some created → out.bytes ≡ Some said → Stands
  stands program binary are leads program_leads e begun heard =
      let lone = leads_to_lone told source program leads in
      let m = low_module program pages in
      let is = program_bytes program binary program_leads in
      record {
        program = program;
        leads = leads;
        spelled = canonical_bytes_spell m (low_is_in_profile program pages lone are) (low_has_short_contents program pages lone are);
        behaves = lowered_behaves program pages lone are;
        created = created_after name binary created (outside_of shelf out) (outside_of shelf' out') e begun ∙ ap (λ (b : List ℕ). Some (name, b)) is;
        put = said_after name binary said (outside_of shelf out) (outside_of shelf' out') e heard ∙ ap (λ (b : List ℕ). Some (said ++ wrote_line name (length b))) is;
      }

  job_stands : (job : Job) (acts : List Act) → ArePages pages → BuildComes told lin unr name source job → job.status ≡ 0 → acts ≡ job.acts → outside_of shelf' out' ≡ after_acts acts (outside_of shelf out) →
      shelf.holding.created ≡ Some created → out.bytes ≡ Some said → Stands
  job_stands job acts are (refused_files refused files e) zero all after begun heard = absurd (apart refused.status 0 (of_built_files lin unr name source told refused files).refusal (sym (ap (λ (j : Job). j.status) e) ∙ zero) refl)
  job_stands job acts are (refused_program program refused leads program_leads e) zero all after begun heard =
      absurd (apart refused.status 0 (of_built_program lin unr name source told program refused leads program_leads).refusal (sym (ap (λ (j : Job). j.status) e) ∙ zero) refl)
  job_stands job acts are (is_built program binary leads program_leads e) zero all after begun heard =
      stands program binary are leads program_leads (after ∙ ap (λ (performed : List Act). after_acts performed (outside_of shelf out)) (all ∙ ap (λ (j : Job). j.acts) e)) begun heard

  ends_standing : (job : Job) (acts : List Act) (status : ℕ) (line : List ℕ) → ArePages pages → CommandReports (Some (build lin unr name source)) told job → JobEnds job acts status line → status ≡ 0 → outside_of shelf' out' ≡ after_acts acts (outside_of shelf out) →
      shelf.holding.created ≡ Some created → out.bytes ≡ Some said → Stands
  ends_standing job acts status line are reports (whole all same says) zero after begun heard = job_stands job acts are (build_comes told lin unr name source job reports) (sym same ∙ zero) all after begun heard
  ends_standing job acts status line are reports (unwritten left off five says) zero after begun heard = absurd (omega (arith, zero, five))
  ends_standing job acts status line are reports (no_memory rest split eight says) zero after begun heard = absurd (omega (arith, zero, eight))
  ends_standing job acts status line are reports (no_memory_within left off eight says) zero after begun heard = absurd (omega (arith, zero, eight))

  -- what stands after a build that ended with status 0
  pub built : (words : List (List ℕ)) (files : List (List ℕ)) (status result : ℕ) (line : List ℕ) → SpellsCommand words (build lin unr name source) → KeepsTo (Reports words told) files (outside_of shelf out) (outside_of shelf' out') status line →
      (result ≡ status) ⊎ (result ≡ 8) → result ≡ 0 → shelf.holding.created ≡ Some created → out.bytes ≡ Some said → Stands
  built words files status result line plain keeps (inr eight) zero begun heard = absurd (omega (arith, zero, eight))
  built words files status result line plain (carries_out job is how) (inl same) zero begun heard =
      ends_standing job how.done status line (are_pages lin unr name source words plain) (reports_found words (Some (build lin unr name source)) told job plain is) how.ends (sym same ∙ zero) how.outside begun heard
  built words files status result line plain (unread file of same four says) (inl e) zero begun heard = absurd (omega (arith, zero, e, four))
  built words files status result line plain (unbegun same eight says) (inl e) zero begun heard = absurd (omega (arith, zero, e, eight))
