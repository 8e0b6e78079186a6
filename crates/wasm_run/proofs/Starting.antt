-- A module that begins has in its first configuration the globals that it declares.
use Rattle.std.proofs.Common.{◌≡◌, ◌∙◌, ℕ, suc, ◌+◌, ◌≤◌, arith, List, ◌∷◌, [], map, length, refl, sym, ap}
use Rattle.std.specs.Prelude.{Option, Some, None, codes}
use Rattle.std.proofs.lemmas.List.{length-map}
use Rattle.wasm_ast.specs.declared.instructions.WInstr.{out-WInstr}
use Rattle.wasm_ast.specs.declared.modules.WGlobal.{WGlobal}
use Rattle.wasm_ast.specs.declared.types.ValTy.TheVariants.{I64}
use Rattle.wasm_ast.specs.declared.modules.Code.{Code}
use Rattle.std.proofs.lemmas.Bool.{leb-true}
use Rattle.memory_words.specs.Memories.{put, zeros}
use Rattle.memory_words.proofs.Bytes.{length-put, length-zeros}
use Rattle.wasm_soundness.proofs.Faults.{failing, failing_behind}
use Rattle.wasm_ast.specs.declared.modules.DataSeg.{DataSeg}
use Rattle.wasm_ast.specs.declared.modules.WModule.{WModule}
use Rattle.wasm_typing.specs.Contexts.{context_of}
use Rattle.wasm_typing.specs.declared.context.GlobalType.{GlobalType}
use Rattle.wasm_execution.specs.Types.{takes_and_gives}
use Rattle.wasm_execution.specs.Calls.{entered}
use Rattle.wasm_execution.specs.Configurations.{Bottom, TheEnd, ThenCall, Config, Store}
use Rattle.wasm_execution.specs.Environments.{environment_of, exported, is_func}
use Rattle.wasm_execution.specs.Imports.{is_print}
use Rattle.wasm_execution.specs.Starts.{Start, UnknownImport, SegmentOut, NoMain, NoStartFunction, Begins, first_failing, first_out, first_store, code_of_type, start_main, start_exported, start_of, value_in, first_globals, first_bytes, first_entries, fits_table, fits_memory, put_segments}
use Rattle.wasm_machine_typing.specs.Configurations.{IsTypedConfig, global_types}
use Rattle.wasm_machine_typing.proofs.Values.{as_long}
use Rattle.wasm_run_state.specs.declared.state.State.{State}
use Rattle.wasm_run_state.specs.States.{bottom_of, config_of}
use Rattle.wasm_machine.specs.Running.{IsRunning}
use Rattle.wasm_starts.specs.Answers as starts
use Rattle.wasm_starts.specs.Answers.{Starts}
use Rattle.wasm_starts.specs.declared.starts.Started.{Started}

past_imports : (o : Option ℕ) (k : Start) (c : Config) → ◌≡◌ {A = Start} (elim o [ Some i ↦ UnknownImport i | None ↦ k ]) (Begins c) → k ≡ Begins c
past_imports None k c q = q
past_imports (Some i) k c q = absurd (cc)

past_segments : (o : Option ℕ) (k : Start) (c : Config) → ◌≡◌ {A = Start} (elim o [ Some i ↦ SegmentOut i | None ↦ k ]) (Begins c) → (o ≡ None) × (k ≡ Begins c)
past_segments None k c q = (refl, q)
past_segments (Some i) k c q = absurd (cc)

past_main : {A : Type 0} (o : Option A) (go : A → Start) (c : Config) → ◌≡◌ {A = Start} (elim o [ None ↦ NoMain | Some x ↦ go x ]) (Begins c) → (x : A) × (go x ≡ Begins c)
past_main None go c q = absurd (cc)
past_main (Some x) go c q = (x, q)

same_config : (a c : Config) → Begins a ≡ Begins c → a ≡ c
same_config a c q = cc

-- data segments within so many bytes leave as many
segments_long : (globals : List ℕ) (ss : List DataSeg) (n bytes : ℕ) (memory : List ℕ) → length memory ≡ bytes → first_failing n (map (fits_memory globals bytes) ss) ≡ None → length (put_segments globals ss memory) ≡ bytes
segments_long globals [] n bytes memory l e = l
segments_long globals (s ∷ ss) n bytes memory l e =
    let p = failing n (fits_memory globals bytes s) (map (fits_memory globals bytes) ss) e in
    let at = value_in globals (out-WInstr s.offset) in
    let le : at + length s.bytes ≤ bytes = leb-true (at + length s.bytes) bytes p.0 in
    segments_long globals ss (suc n) bytes (put memory at s.bytes) (length-put memory at s.bytes (omega (arith, le, l)) ∙ l) p.1

module _ (m : WModule) (c : Config) where
  from_main : (main : ℕ) (code : Code) (o : Option ℕ)
      → ◌≡◌ {A = Start} (elim o [
        | None ↦ Begins (entered main code [] [] TheEnd (first_store m))
        | Some n ↦ elim (code_of_type (environment_of m) (takes_and_gives [] None) n) [
          | None ↦ NoStartFunction
          | Some first ↦ Begins (entered n first [] [] (ThenCall main) (first_store m))
        ]
      ]) (Begins c)
      → c.store ≡ first_store m
  from_main main code None q = sym (ap (λ (x : Config). x.store) (same_config (entered main code [] [] TheEnd (first_store m)) c q))
  from_main main code (Some n) q = go (code_of_type (environment_of m) (takes_and_gives [] None) n) q
    where
      go : (o : Option Code) → ◌≡◌ {A = Start} (elim o [ None ↦ NoStartFunction | Some first ↦ Begins (entered n first [] [] (ThenCall main) (first_store m)) ]) (Begins c) → c.store ≡ first_store m
      go None r = absurd (cc)
      go (Some first) r = sym (ap (λ (x : Config). x.store) (same_config (entered n first [] [] (ThenCall main) (first_store m)) c r))

  pub first_store_is : start_of m ≡ Begins c → c.store ≡ first_store m
  first_store_is q =
      let a = past_imports (first_failing 0 (map (is_print m.types) m.imports)) _ c q in
      let b = past_segments (first_out m) (start_exported m) c a in
      let x = past_main (exported is_func (codes "main") m.exports) _ c b.1 in
      let y = past_main (code_of_type (environment_of m) (takes_and_gives [] (Some I64)) x.0) (start_main m x.0) c x.1 in
      from_main x.0 y.0 m.start y.1

  -- its segments lie within their bounds
  all_within : start_of m ≡ Begins c → first_out m ≡ None
  all_within q = (past_segments (first_out m) (start_exported m) c (past_imports (first_failing 0 (map (is_print m.types) m.imports)) _ c q)).0

  -- without a memory it has no byte of one
  pub begins_empty : start_of m ≡ Begins c → m.memories ≡ [] → length c.store.memory ≡ 0
  begins_empty q none =
      let globals = first_globals m.globals in
      let behind = failing_behind 0 (map (fits_table globals (first_entries m.tables)) m.elements) (map (fits_memory globals (first_bytes m.memories)) m.segments) (all_within q) in
      ap (λ (s : Store). length s.memory) (first_store_is q)
      ∙ segments_long globals m.segments behind.0 (first_bytes m.memories) (zeros (first_bytes m.memories)) (length-zeros (first_bytes m.memories)) behind.1
      ∙ ap first_bytes none

  -- a typed configuration has as many globals as the context
  pub as_many_globals : IsTypedConfig (context_of m) (environment_of m) c → length c.store.globals ≡ length (context_of m).globals
  as_many_globals h = as_long (global_types (context_of m)) c.store.globals h.store.globals ∙ length-map (context_of m).globals (λ (g : GlobalType). g.ty)

  pub begins_with_globals : start_of m ≡ Begins c → IsTypedConfig (context_of m) (environment_of m) c → length (context_of m).globals ≡ length m.globals
  begins_with_globals q h = sym (as_many_globals h) ∙ ap (λ (s : Store). length s.globals) (first_store_is q) ∙ length-map m.globals (λ (g : WGlobal). value_in [] (out-WInstr g.init))

bottom_is : (o : Option ℕ) → starts.bottom_of o ≡ bottom_of o
bottom_is None = refl
bottom_is (Some n) = refl

-- what a module begins with, where the module is kept as this one
pub begins_there : (m valid : WModule) (s : Started) → m ≡ valid → Starts valid s
    → (code : Code) × (start_of m ≡ Begins (entered s.first code [] [] (bottom_of s.next_call) (record { memory = s.memory; table = s.table.items; globals = s.globals.items })))
begins_there m valid s same k =
    let store : Store = record { memory = s.memory; table = s.table.items; globals = s.globals.items } in (
      k.code,
      ap start_of same ∙ k.begins ∙ ap (λ (b : Bottom). Begins (entered s.first k.code [] [] b store)) (bottom_is s.next_call),
    )

-- a first state runs, over what the environment has looked up
pub runs_first : (m : WModule) (told_by : Option ℕ) (limit : ℕ) (s : State) → told_by ≡ (environment_of m).trap_code → limit ≡ (environment_of m).most_pages
    → start_of m ≡ Begins (config_of s) → IsRunning m (environment_of m).trap_code (environment_of m).most_pages s
    → IsRunning m told_by limit s × (length (context_of m).globals ≡ length m.globals) × (m.memories ≡ [] → length s.memory ≡ 0)
runs_first m told_by limit s told most begins r = (
  record { environment = r.environment; trap_code = sym told; most = sym most; config = r.config; calls = r.calls; room = r.room },
  begins_with_globals m (config_of s) begins r.config,
  begins_empty m (config_of s) begins,
)
