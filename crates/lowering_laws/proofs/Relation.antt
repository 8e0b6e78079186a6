-- What relates a program's configurations and those of its lowered module: before the call, within the function, after it.
use Rattle.std.proofs.Common.{◌≡◌, ◌∙◌, ℕ, suc, ◌+◌, ◌≤◌, List, [], ◌∷◌, ◌++◌, length, Option, Some, slice_set, inl, refl, ap, sym, subst, arith}
use Rattle.std.specs.Prelude.{slice_get}
use Rattle.std.specs.List.{flat_map}
use Rattle.std.proofs.lemmas.List.{append-nil}
use Rattle.std.proofs.lemmas.Grind.{flat_map-append}
use Rattle.wasm_ast.specs.declared.instructions.WInstr as w
use Rattle.wasm_ast.specs.declared.instructions.WInstr.{WInstr}
use Rattle.wasm_ast.specs.declared.instructions.WInstr.TheOpen.{WInstr-F}
use Rattle.wasm_ast.specs.declared.instructions.WInstr.TheVariants.{rolls-LocalGet, rolls-LocalSet}
use Rattle.wasm_ast.specs.declared.modules.WModule.{WModule}
use Rattle.rw_types.specs.declared.instrs.Instr.{Instr}
use Rattle.rw_types.specs.LoneMain.{ArePlain}
use Rattle.rich_typing.specs.declared.notes.Note.{Note}
use Rattle.rich_typing.specs.Derivations.{Derives}
use Rattle.rich_typing.specs.Table.{unr_i64, i64s}
use Rattle.rw_program.specs.LonePrograms.{lone_program}
use Rattle.rw_program.specs.Programs.{Program}
use Rattle.lowering_table.specs.declared.Pages.{Pages}
use Rattle.lowering_table.specs.Allocators.{unreachable_code}
use Rattle.lowering_table.specs.Frames.{room_of}
use Rattle.lowering_table.specs.Codes.{main_code}
use Rattle.lowering_table.specs.Modules.{low_module}
use Rattle.lowering_table.specs.Rows.{rows}
use Rattle.lowering_table.proofs.PlainBodies.{plain_code, plain_module, low_function-plain, low_module-plain}
use Rattle.machine_steps.specs.Steps.{Turn, Went}
use Rattle.machine_steps.specs.Simulations.{Answers}
use Rattle.machine_steps.specs.Walks.{Goes, OnTheWay, on_turn}
use Rattle.machine_steps.proofs.Walks.{answers_by}
use Rattle.rich_reduction.specs.Configurations as rc
use Rattle.rich_reduction.specs.Steps as rs
use Rattle.rich_reduction.specs.Starts.{first}
use Rattle.wasm_execution.specs.Configurations as wc
use Rattle.wasm_execution.specs.Environments.{Environment, environment_of}
use Rattle.wasm_execution.specs.Starts.{first_store}
use Rattle.wasm_execution.specs.Steps as ws
use Rattle.machine_steps.specs.Steps.{with_found}
use Rattle.lowering_laws.proofs.Locals.{Stored}
use Rattle.lowering_laws.proofs.Values.{call_with, in_call}
use Rattle.lowering_laws.proofs.Walks.{acts}

-- histories that print the same
abbrev pub Fits : List rc.Event → List wc.Event → Type 0
Fits ds es = flat_map wc.prints es ≡ flat_map rc.prints ds

abbrev pub Meets : List rc.Event → List wc.Event → Type 0
Meets ds es = Unit {0}

abbrev pub Holds : List wc.Event → wc.Config → Type 0
Holds es b = Unit {0}

-- a step of the source that says nothing
pub fits_quiet : (ds : List rc.Event) (es : List wc.Event) → Fits ds es → Fits (ds ++ []) es
fits_quiet ds es h = subst (λ (l : List rc.Event). Fits l es) (sym (append-nil ds)) h

-- a number is printed by both
pub fits_print : (ds : List rc.Event) (es : List wc.Event) (v : ℕ) → Fits ds es → Fits (ds ++ rc.Print v ∷ []) (es ++ wc.Print v ∷ [])
fits_print ds es v h =
    flat_map-append wc.prints es (wc.Print v ∷ []) ∙ ap (λ (l : List ℕ). l ++ v ∷ []) h ∙ sym (flat_map-append rc.prints ds (rc.Print v ∷ []))

-- the program's own list at its end, with its result
abbrev pub given : ℕ → rc.Config
given v = record { here = call_with (v ∷ []) []; callers = []; globals = []; stores = record { linear = []; unrestricted = [] } }

abbrev pub main_at : List ℕ → List WInstr → wc.Here
main_at operands rest = record { function = 5; argument = 0; locals = 0 ∷ 0 ∷ []; operands = operands; rest = rest; levels = [] }

abbrev pub ending : List WInstr
ending = w.LocalGet 0 ∷ w.GlobalSet 2 ∷ []

module _ (body : List Instr) (notes : List Note) (pages : Pages) where
  abbrev pub p : Program
  p = lone_program body notes

  -- its lowered module, where types and codes are written out
  abbrev pub m : WModule
  m = record (plain_module body notes pages) { codes = unreachable_code ∷ unreachable_code ∷ unreachable_code ∷ plain_code body notes ∷ main_code p ∷ [] }

  pub low_module-m : ArePlain body → low_module p pages ≡ m
  low_module-m plain =
      let function = low_function-plain body notes plain in
      low_module-plain body notes pages plain
      ∙ (λ i. record (plain_module body notes pages) { codes = unreachable_code ∷ unreachable_code ∷ unreachable_code ∷ function i ∷ main_code p ∷ [] })

  abbrev pub e : Environment
  e = environment_of m

  abbrev pub f : rc.Config → Turn rc.Event rc.Config
  f = rs.step p.funcs

  abbrev pub g : wc.Config → Turn wc.Event wc.Config
  g = ws.step e

  abbrev pub in_main : List ℕ → List ℕ → List WInstr → wc.Config
  in_main globals operands rest = record {
    here = main_at operands rest;
    callers = [];
    bottom = wc.TheEnd;
    store = record { memory = (first_store m).memory; table = (first_store m).table; globals = globals };
  }

  -- the module's first configuration
  abbrev pub begin : wc.Config
  begin = in_main (first_store m).globals [] (w.Call 4 ∷ w.GlobalGet 2 ∷ [])

  abbrev pub inside_with : List ℕ → List ℕ → List ℕ → List WInstr → wc.Config
  inside_with globals locals operands rest = record {
    here = record { function = 4; argument = 0; locals = locals; operands = operands; rest = rest; levels = [] };
    callers = main_at [] (w.GlobalGet 2 ∷ []) ∷ [];
    bottom = wc.TheEnd;
    store = record { memory = (first_store m).memory; table = (first_store m).table; globals = globals };
  }

  abbrev pub inside : List ℕ → List ℕ → List WInstr → wc.Config
  inside = inside_with (first_store m).globals

  -- within the function: what is left, its notes, the operands, and the locals that hold them
  pub record Inside (a : rc.Config) (b : wc.Config) : Type 0 where
    pub rest : List Instr
    pub later : List Note
    pub vs : List ℕ
    pub locals : List ℕ
    pub source : a ≡ in_call vs rest
    pub target : b ≡ inside locals [] (rows 0 rest later ++ ending)
    pub derived : Derives [] rest (i64s (length vs)) later (unr_i64 ∷ [])
    pub plain : ArePlain rest
    pub room : room_of rest later 1 + 2 ≤ length locals
    pub stored : Stored vs locals

  pub data R (ds : List rc.Event) (a : rc.Config) (es : List wc.Event) (b : wc.Config) : Type 0 where
    begins : Fits ds es → a ≡ first p → b ≡ begin → R ds a es b
    runs : Fits ds es → Inside a b → R ds a es b
    over : Fits ds es → (v : ℕ) (globals : List ℕ) → a ≡ given v → b ≡ in_main globals (v ∷ []) [] → R ds a es b

  abbrev pub size : rc.Config → ℕ
  size a = 0

  abbrev pub TheAnswers : List rc.Event → List wc.Event → rc.Config → wc.Config → Type 0
  TheAnswers ds es a b = Answers Fits Meets Holds f g R size ds es (f a) 0 b

  -- so many steps that answer a step of the source to a', which says ds'
  abbrev pub Onward : List rc.Event → List rc.Event → rc.Config → ℕ → List wc.Event → wc.Config → Type 0
  Onward ds ds' a' n es b = Goes g (OnTheWay Fits Holds ds ds') (R (ds ++ ds') a') n es b

  -- a step of the target that says nothing, and those after it
  pub quiet : (ds ds' : List rc.Event) (a' : rc.Config) (n : ℕ) (es : List wc.Event) (b c : wc.Config) → Fits ds es → g b ≡ Went [] c → Onward ds ds' a' n es c → Onward ds ds' a' (suc n) es b
  quiet ds ds' a' n es b c h s later =
      let P = OnTheWay Fits Holds ds ds' in
      let K = R (ds ++ ds') a' in
      ((inl h, tt), subst (λ (o : Turn wc.Event wc.Config). on_turn g P K o es (Goes g P K n)) (sym s) later)

  -- a step of the target that says one thing, and those after it
  pub saying : (ds ds' : List rc.Event) (a' : rc.Config) (n : ℕ) (es : List wc.Event) (x : wc.Event) (b c : wc.Config) → Fits ds es → g b ≡ Went (x ∷ []) c → Onward ds ds' a' n (es ++ x ∷ []) c → Onward ds ds' a' (suc n) es b
  saying ds ds' a' n es x b c h s later =
      let P = OnTheWay Fits Holds ds ds' in
      let K = R (ds ++ ds') a' in
      ((inl h, tt), subst (λ (o : Turn wc.Event wc.Config). on_turn g P K o es (Goes g P K n)) (sym s) later)

  -- some steps answer
  pub answered_by : (ds ds' : List rc.Event) (es : List wc.Event) (a a' : rc.Config) (b : wc.Config) (n : ℕ) → f a ≡ Went ds' a' → Onward ds ds' a' (suc n) es b → TheAnswers ds es a b
  answered_by ds ds' es a a' b n goes walk =
      answers_by Fits Meets Holds f g R size {ds = ds} {ds' = ds'} {es = es} {a = a} {a' = a'} {b = b} goes (record { steps = suc n; goes = walk }) (λ z. absurd (omega (arith, z)))

  pub get_step : (j v : ℕ) (locals operands : List ℕ) (code : List WInstr) → slice_get locals j ≡ Some v → g (inside locals operands (w.LocalGet j ∷ code)) ≡ Went [] (inside locals (v ∷ operands) code)
  get_step j v locals operands code found =
      acts e (WInstr-F.LocalGet j) (w.LocalGet j) (rolls-LocalGet j) code (inside locals operands (w.LocalGet j ∷ code)) refl
      ∙ ap (λ (o : Option ℕ). with_found o (λ u. Went [] (inside locals (u ∷ operands) code))) found

  pub set_step : (j v old : ℕ) (locals operands : List ℕ) (code : List WInstr) → slice_get locals j ≡ Some old → g (inside locals (v ∷ operands) (w.LocalSet j ∷ code)) ≡ Went [] (inside (slice_set locals j v) operands code)
  set_step j v old locals operands code found =
      acts e (WInstr-F.LocalSet j) (w.LocalSet j) (rolls-LocalSet j) code (inside locals (v ∷ operands) (w.LocalSet j ∷ code)) refl
      ∙ ap (λ (o : Option ℕ). with_found o (λ u. Went [] (inside (slice_set locals j v) operands code))) found
