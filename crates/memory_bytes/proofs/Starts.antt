-- A module starts over its first store, whose memory is zeros and the bytes of its segments.
use Rattle.std.proofs.Common.{◌≡◌, ℕ, List, [], ◌∷◌, sym, subst, refl}
use Rattle.std.specs.Prelude.{Option, Some, None, All, map, codes}
use Rattle.memory_words.specs.Memories.{zeros, put}
use Rattle.wasm_ast.specs.declared.instructions.WInstr.{out-WInstr}
use Rattle.wasm_ast.specs.declared.types.ValTy.TheVariants.{I64}
use Rattle.wasm_ast.specs.declared.modules.Code.{Code}
use Rattle.wasm_ast.specs.declared.modules.DataSeg.{DataSeg}
use Rattle.wasm_ast.specs.declared.modules.WModule.{WModule}
use Rattle.wasm_execution.specs.Types.{takes_and_gives}
use Rattle.wasm_execution.specs.Configurations.{Store, TheEnd, ThenCall}
use Rattle.wasm_execution.specs.Calls.{entered}
use Rattle.wasm_execution.specs.Environments.{environment_of, exported, is_func}
use Rattle.wasm_execution.specs.Imports.{is_print}
use Rattle.wasm_execution.specs.Starts.{Start, UnknownImport, SegmentOut, NoMain, NoStartFunction, Begins, first_failing, first_globals, first_bytes, first_out, first_store, value_in, put_segments, code_of_type, start_main, start_exported}
use Rattle.memory_bytes.specs.Bytes.{AreBytes}
use Rattle.memory_bytes.specs.Laws.{StartsOverFirst, StartHasBytes, ModulesKeepBytes}
use Rattle.memory_bytes.proofs.Bytes.{all_head, all_tail, put_keeps, zeros_are}
use Rattle.memory_bytes.proofs.Steps.{steps_keep}

-- where it begins, it is over this store
abbrev IsOver : Store → Start → Type 0
IsOver s (Begins c) = c.store ≡ s
IsOver s _ = Unit {0}

module _ (m : WModule) where
  abbrev Good : Start → Type 0
  Good x = IsOver (first_store m) x

  behind_start : (main : ℕ) (n : ℕ) (o : Option Code) → Good (elim o [ None ↦ NoStartFunction | Some first ↦ Begins (entered n first [] [] (ThenCall main) (first_store m)) ])
  behind_start main n None = tt
  behind_start main n (Some first) = refl

  called : (main : ℕ) (code : Code) (o : Option ℕ)
      → Good (elim o [
        | None ↦ Begins (entered main code [] [] TheEnd (first_store m))
        | Some n ↦ elim (code_of_type (environment_of m) (takes_and_gives [] None) n) [
          | None ↦ NoStartFunction
          | Some first ↦ Begins (entered n first [] [] (ThenCall main) (first_store m))
        ]
      ])
  called main code None = refl
  called main code (Some n) = behind_start main n (code_of_type (environment_of m) (takes_and_gives [] None) n)

  coded : (main : ℕ) (o : Option Code) → Good (elim o [ None ↦ NoMain | Some code ↦ start_main m main code ])
  coded main None = tt
  coded main (Some code) = called main code m.start

  found : (o : Option ℕ) → Good (elim o [
    | None ↦ NoMain
    | Some main ↦ elim (code_of_type (environment_of m) (takes_and_gives [] (Some I64)) main) [
      | None ↦ NoMain
      | Some code ↦ start_main m main code
    ]
  ])
  found None = tt
  found (Some main) = coded main (code_of_type (environment_of m) (takes_and_gives [] (Some I64)) main)

  within : (o : Option ℕ) → Good (elim o [ Some i ↦ SegmentOut i | None ↦ start_exported m ])
  within None = found (exported is_func (codes "main") m.exports)
  within (Some i) = tt

  linked : (o : Option ℕ) → Good (elim o [ Some i ↦ UnknownImport i | None ↦ elim (first_out m) [ Some i ↦ SegmentOut i | None ↦ start_exported m ] ])
  linked None = within (first_out m)
  linked (Some i) = tt

pub starts_over_first : StartsOverFirst
starts_over_first m c q = subst (IsOver (first_store m)) q (linked m (first_failing 0 (map (is_print m.types) m.imports)))

segments_keep : (globals : List ℕ) (ss : List DataSeg) (memory : List ℕ) → All (λ (s : DataSeg). AreBytes s.bytes) ss → AreBytes memory → AreBytes (put_segments globals ss memory)
segments_keep globals [] memory h k = k
segments_keep globals (s ∷ ss) memory h k =
    let at = value_in globals (out-WInstr s.offset) in
    segments_keep globals ss (put memory at s.bytes) (all_tail (λ (x : DataSeg). AreBytes x.bytes) s ss h) (put_keeps memory at s.bytes k (all_head (λ (x : DataSeg). AreBytes x.bytes) s ss h))

pub start_has_bytes : StartHasBytes
start_has_bytes m c h q =
    subst (λ (s : Store). AreBytes s.memory) (sym (starts_over_first m c q)) (segments_keep (first_globals m.globals) m.segments (zeros (first_bytes m.memories)) h (zeros_are (first_bytes m.memories)))

pub modules_keep_bytes : ModulesKeepBytes
modules_keep_bytes m c h q = steps_keep (environment_of m) c (start_has_bytes m c h q)
