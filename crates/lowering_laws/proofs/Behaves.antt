-- The lowered module of a program of one plain function follows its reduction step by step, so that both behave alike and
-- end.
use Rattle.std.proofs.Common.{◌≡◌, ℕ, suc, ◌+◌, ◌≤◌, List, [], ◌∷◌, ◌++◌, length, Some, slice_set, inl, refl, sym, subst, arith}
use Rattle.std.specs.Prelude.{slice_get, replicate}
use Rattle.std.specs.Int.{cast_signed, w64}
use Rattle.std.proofs.lemmas.List.{append-nil, length-replicate}
use Rattle.wasm_ast.specs.declared.instructions.WInstr as w
use Rattle.wasm_ast.specs.declared.instructions.WInstr.{WInstr}
use Rattle.wasm_ast.specs.declared.instructions.WInstr.TheOpen.{WInstr-F}
use Rattle.wasm_ast.specs.declared.instructions.WInstr.TheVariants.{rolls-GlobalGet, rolls-GlobalSet, rolls-Call}
use Rattle.wasm_ast.specs.declared.modules.WModule.{WModule}
use Rattle.rw_types.specs.declared.instrs.Instr.{Instr, I64Const, Num, Print, Drop}
use Rattle.rw_types.specs.declared.numbers.NumName.TheVariants.{I64Add}
use Rattle.rw_types.specs.LoneMain.{ArePlain}
use Rattle.rich_typing.specs.declared.notes.Note.{Note}
use Rattle.rich_typing.specs.Derivations.{Derives, done, next}
use Rattle.rich_typing.specs.Table.{unr_i64, i64s}
use Rattle.rw_program.specs.LonePrograms.{IsLoneProgram, lone_program}
use Rattle.rw_program.specs.Programs.{Program}
use Rattle.lowering_table.specs.declared.Pages.{Pages}
use Rattle.lowering_table.specs.Frames.{room_of}
use Rattle.lowering_table.specs.Rows.{rows}
use Rattle.lowering_table.specs.Modules.{ArePages, low_module}
use Rattle.machine_steps.specs.declared.End.TheVariants.{Value}
use Rattle.machine_steps.specs.Steps.{Turn}
use Rattle.machine_steps.specs.Agreement.{Alike, Seen}
use Rattle.machine_steps.specs.Ending.{BothEnd}
use Rattle.machine_steps.specs.Simulations.{Answered, Follows}
use Rattle.machine_steps.specs.Walks.{AtEnd, OnTheWay}
use Rattle.machine_steps.proofs.Alike.{alike}
use Rattle.machine_steps.proofs.Ending.{both_end}
use Rattle.machine_steps.proofs.Walks.{ends_by, now}
use Rattle.rich_reduction.specs.Configurations as rc
use Rattle.rich_reduction.specs.Starts.{first, rich}
use Rattle.wasm_execution.specs.Behaviour.{seen_from, wasm}
use Rattle.wasm_execution.specs.Configurations as wc
use Rattle.wasm_execution.specs.Environments.{Environment}
use Rattle.wasm_execution.specs.Starts.{Start, Begins, first_store}
use Rattle.lowering_laws.specs.Laws.{LoweredBehaves, LoweredEnds}
use Rattle.lowering_laws.proofs.Locals.{Stored}
use Rattle.lowering_laws.proofs.Values.{derives_on, in_call, gives_value}
use Rattle.lowering_laws.proofs.Walks.{acts}
use Rattle.lowering_laws.proofs.Relation as relation
use Rattle.lowering_laws.proofs.Relation.{Fits, Meets, Holds, fits_quiet, given, ending, begins, runs, over}
use Rattle.lowering_laws.proofs.Instructions as instructions
use Rattle.lowering_laws.proofs.Starting.{starts}

module _ (body : List Instr) (notes : List Note) (pages : Pages) where
  abbrev p : Program
  p = relation.p body notes pages

  abbrev m : WModule
  m = relation.m body notes pages

  abbrev e : Environment
  e = relation.e body notes pages

  abbrev f : rc.Config → Turn rc.Event rc.Config
  f = relation.f body notes pages

  abbrev g : wc.Config → Turn wc.Event wc.Config
  g = relation.g body notes pages

  abbrev in_main : List ℕ → List ℕ → List WInstr → wc.Config
  in_main = relation.in_main body notes pages

  abbrev begin : wc.Config
  begin = relation.begin body notes pages

  abbrev inside_with : List ℕ → List ℕ → List ℕ → List WInstr → wc.Config
  inside_with = relation.inside_with body notes pages

  abbrev inside : List ℕ → List ℕ → List WInstr → wc.Config
  inside = relation.inside body notes pages

  abbrev R : List rc.Event → rc.Config → List wc.Event → wc.Config → Type 0
  R = relation.R body notes pages

  abbrev size : rc.Config → ℕ
  size = relation.size body notes pages

  abbrev TheAnswers : List rc.Event → List wc.Event → rc.Config → wc.Config → Type 0
  TheAnswers = relation.TheAnswers body notes pages

  -- the end of the function, and of the program
  leave_answers : (ds : List rc.Event) (es : List wc.Event) (v : ℕ) (locals : List ℕ) → Fits ds es → slice_get locals 0 ≡ Some v → TheAnswers ds es (in_call (v ∷ []) []) (inside locals [] ending)
  leave_answers ds es v locals h stands =
      let globals = slice_set (first_store m).globals 2 v in
      let c0 = inside locals [] ending in
      let c1 = inside locals (v ∷ []) (w.GlobalSet 2 ∷ []) in
      let c2 = inside_with globals locals [] [] in
      let c3 = in_main globals [] (w.GlobalGet 2 ∷ []) in
      let c4 = in_main globals (v ∷ []) [] in
      relation.answered_by body notes pages ds [] es (in_call (v ∷ []) []) (given v) c0 3 refl
      (relation.quiet body notes pages ds [] (given v) 3 es c0 c1 h (relation.get_step body notes pages 0 v locals [] (w.GlobalSet 2 ∷ []) stands)
      (relation.quiet body notes pages ds [] (given v) 2 es c1 c2 h (acts e (WInstr-F.GlobalSet 2) (w.GlobalSet 2) (rolls-GlobalSet 2) [] c1 refl)
      (relation.quiet body notes pages ds [] (given v) 1 es c2 c3 h refl
      (relation.quiet body notes pages ds [] (given v) 0 es c3 c4 h (acts e (WInstr-F.GlobalGet 2) (w.GlobalGet 2) (rolls-GlobalGet 2) [] c3 refl)
      (over (fits_quiet ds es h) v globals refl refl)))))

  end_answers : (ds : List rc.Event) (es : List wc.Event) (v : ℕ) (globals : List ℕ) → Fits ds es → TheAnswers ds es (given v) (in_main globals (v ∷ []) [])
  end_answers ds es v globals h =
      let b = in_main globals (v ∷ []) [] in
      ends_by Fits Meets Holds f g R size
      (now g (OnTheWay Fits Holds ds []) (λ l c. (AtEnd Fits Holds g (ds ++ []) [] (Value (cast_signed w64 v)) l c × OnTheWay Fits Holds ds [] l c) × Meets (ds ++ []) (l ++ [])) {es = es} {b = b}
      ((record { ends = refl; fits = subst (Fits (ds ++ [])) (sym (append-nil es)) (fits_quiet ds es h); holds = tt }, (inl h, tt)), tt))

  begin_answers : (ds : List rc.Event) (es : List wc.Event) → Fits ds es → Derives [] body [] notes (unr_i64 ∷ []) → ArePlain body → TheAnswers ds es (first p) begin
  begin_answers ds es h d plain =
      let count : ℕ = 0 + room_of body notes 1 + 2 + 0 in
      let none : ℕ = 0 in
      let a = in_call [] body in
      relation.answered_by body notes pages ds [] es (first p) a begin 0 refl
      (relation.quiet body notes pages ds [] a 0 es begin (inside (replicate count 0) [] (rows 0 body notes ++ ending)) h (acts e (WInstr-F.Call 4) (w.Call 4) (rolls-Call 4) (w.GlobalGet 2 ∷ []) begin refl)
      (runs (fits_quiet ds es h) (record {
        rest = body;
        later = notes;
        vs = [];
        locals = replicate count 0;
        source = refl;
        target = refl;
        derived = d;
        plain = plain;
        room = omega (arith, length-replicate count none);
        stored = tt;
      })))

  -- within the function
  run_answers : (ds : List rc.Event) (es : List wc.Event) → Fits ds es → (rest : List Instr) (later : List Note) (vs locals : List ℕ) → Derives [] rest (i64s (length vs)) later (unr_i64 ∷ []) → ArePlain rest →
      room_of rest later 1 + 2 ≤ length locals → Stored vs locals → TheAnswers ds es (in_call vs rest) (inside locals [] (rows 0 rest later ++ ending))
  run_answers ds es h [] later [] locals (done tells same) plain room stored = absurd cc
  run_answers ds es h [] later (v ∷ []) locals (done tells same) plain room stored = leave_answers ds es v locals h stored.0
  run_answers ds es h [] later (v ∷ u ∷ vs) locals (done tells same) plain room stored = absurd cc
  run_answers ds es h (I64Const n ∷ is) later vs locals (next after rest goes tells d) plain room stored =
      subst (λ (l : List Note). TheAnswers ds es (in_call vs (I64Const n ∷ is)) (inside locals [] (rows 0 (I64Const n ∷ is) l ++ ending))) (sym tells)
      (instructions.const_answers body notes pages ds es n is rest vs locals h (derives_on goes d) plain.1
      (subst (λ (l : List Note). room_of (I64Const n ∷ is) l 1 + 2 ≤ length locals) tells room) stored)
  run_answers ds es h (Num I64Add ∷ is) later [] locals (next after rest goes tells d) plain room stored = absurd cc
  run_answers ds es h (Num I64Add ∷ is) later (v ∷ []) locals (next after rest goes tells d) plain room stored = absurd cc
  run_answers ds es h (Num I64Add ∷ is) later (v ∷ u ∷ vs) locals (next after rest goes tells d) plain room stored =
      subst (λ (l : List Note). TheAnswers ds es (in_call (v ∷ u ∷ vs) (Num I64Add ∷ is)) (inside locals [] (rows 0 (Num I64Add ∷ is) l ++ ending))) (sym tells)
      (instructions.add_answers body notes pages ds es is rest v u vs locals h (derives_on goes d) plain.1
      (subst (λ (l : List Note). room_of (Num I64Add ∷ is) l 1 + 2 ≤ length locals) tells room) stored)
  run_answers ds es h (Print ∷ is) later [] locals (next after rest goes tells d) plain room stored = absurd cc
  run_answers ds es h (Print ∷ is) later (v ∷ vs) locals (next after rest goes tells d) plain room stored =
      subst (λ (l : List Note). TheAnswers ds es (in_call (v ∷ vs) (Print ∷ is)) (inside locals [] (rows 0 (Print ∷ is) l ++ ending))) (sym tells)
      (instructions.print_answers body notes pages ds es is rest v vs locals h (derives_on goes d) plain.1
      (subst (λ (l : List Note). room_of (Print ∷ is) l 1 + 2 ≤ length locals) tells room) stored)
  run_answers ds es h (Drop ∷ is) later [] locals (next after rest goes tells d) plain room stored = absurd cc
  run_answers ds es h (Drop ∷ is) later (v ∷ vs) locals (next after rest goes tells d) plain room stored =
      subst (λ (l : List Note). TheAnswers ds es (in_call (v ∷ vs) (Drop ∷ is)) (inside locals [] (rows 0 (Drop ∷ is) l ++ ending))) (sym tells)
      (instructions.drop_answers body notes pages ds es is rest v vs locals h (derives_on goes d) plain.1
      (subst (λ (l : List Note). room_of (Drop ∷ is) l 1 + 2 ≤ length locals) tells room) stored)
  run_answers ds es h (_ ∷ is) later vs locals d plain room stored = absurd plain.0

  answers : Derives [] body [] notes (unr_i64 ∷ []) → ArePlain body → (ds : List rc.Event) (a : rc.Config) (es : List wc.Event) (b : wc.Config) → R ds a es b → TheAnswers ds es a b
  answers d plain ds a es b (begins h ea eb) =
      subst (λ (x : rc.Config). TheAnswers ds es x b) (sym ea) (subst (TheAnswers ds es (first p)) (sym eb) (begin_answers ds es h d plain))
  answers d plain ds a es b (runs h i) =
      subst (λ (x : rc.Config). TheAnswers ds es x b) (sym i.source)
      (subst (TheAnswers ds es (in_call i.vs i.rest)) (sym i.target) (run_answers ds es h i.rest i.later i.vs i.locals i.derived i.plain i.room i.stored))
  answers d plain ds a es b (over h v globals ea eb) =
      subst (λ (x : rc.Config). TheAnswers ds es x b) (sym ea) (subst (TheAnswers ds es (given v)) (sym eb) (end_answers ds es v globals h))

  histories : (ds : List rc.Event) (a : rc.Config) (es : List wc.Event) (b : wc.Config) → R ds a es b → Fits ds es
  histories ds a es b (begins h ea eb) = h
  histories ds a es b (runs h i) = h
  histories ds a es b (over h v globals ea eb) = h

  answered : Derives [] body [] notes (unr_i64 ∷ []) → ArePlain body → Answered Fits Meets Holds f g R size
  answered d plain = record { fits = λ ds a es b r. (histories ds a es b r, tt); answers = answers d plain }

  behaves : Derives [] body [] notes (unr_i64 ∷ []) → ArePlain body → Alike (λ n. rich p n) (λ k. seen_from m k (Begins begin))
  behaves d plain =
      let all = answered d plain in
      let sim : Follows Fits Meets Holds f g R size = record { fits = all.fits; answers = λ ds a es b r. inl (all.answers ds a es b r) } in
      alike Fits Meets Holds f g R size rc.prints wc.prints (λ ds es h. h) sim (first p) begin (begins refl refl refl)

  ends : Derives [] body [] notes (unr_i64 ∷ []) → ArePlain body → BothEnd (λ n. rich p n) (λ k. seen_from m k (Begins begin))
  ends d plain =
      let h = gives_value body notes body notes [] d plain in
      both_end Fits Meets Holds f g R size rc.prints wc.prints (λ ds es h. h) (answered d plain) (first p) begin (begins refl refl refl)
      (suc h.0) h.1 h.2

-- what holds of a lone program and of its module from the first configuration on holds of any that is such a program
lowered : (P : Program → (ℕ → Seen) → Type 0) (p : Program) (pages : Pages) (lone : IsLoneProgram p) → ArePages pages →
    P (lone_program lone.body lone.notes) (λ k. seen_from (relation.m lone.body lone.notes pages) k (Begins (relation.begin lone.body lone.notes pages))) → P p (λ k. wasm (low_module p pages) k)
lowered P p pages lone are h =
    subst (λ (q : Program). P q (λ k. wasm (low_module q pages) k)) (sym lone.is)
    (subst (λ (w : WModule). P (lone_program lone.body lone.notes) (λ k. wasm w k)) (sym (relation.low_module-m lone.body lone.notes pages lone.plain))
    (subst (λ (s : Start). P (lone_program lone.body lone.notes) (λ k. seen_from (relation.m lone.body lone.notes pages) k s)) (sym (starts lone.body lone.notes pages are)) h))

pub lowered_behaves : LoweredBehaves
lowered_behaves p pages lone are =
    lowered (λ q run. Alike (λ n. rich q n) run) p pages lone are (behaves lone.body lone.notes pages lone.derived lone.plain)

pub lowered_ends : LoweredEnds
lowered_ends p pages lone are =
    lowered (λ q run. BothEnd (λ n. rich q n) run) p pages lone are (ends lone.body lone.notes pages lone.derived lone.plain)
