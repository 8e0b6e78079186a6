-- A valid module starts, or has a cause that is told: its start function can be called.
use Rattle.std.proofs.Common.{◌≡◌, ◌∙◌, ℕ, zero, suc, ◌+◌, Bool, true, false, List, [], ◌∷◌, ◌++◌, length, map, slice_get, refl, ap, sym, subst, arith, append_assoc}
use Rattle.std.specs.Prelude.{Option, Some, None, codes, ◌&&◌, nat_lt}
use Rattle.std.specs.Str.{bytes_eq}
use Rattle.std.proofs.lemmas.Bool.{leb-true}
use Rattle.wasm_ast.specs.declared.types.FuncType.{FuncType}
use Rattle.wasm_ast.specs.declared.types.ValTy.{ValTy}
use Rattle.wasm_ast.specs.declared.types.ValTy.TheVariants.{I64}
use Rattle.wasm_ast.specs.declared.modules.Code.{Code}
use Rattle.wasm_ast.specs.declared.modules.Import.{Import}
use Rattle.wasm_ast.specs.declared.modules.ImportKind.{ImportKind}
use Rattle.wasm_ast.specs.declared.modules.ImportKind.TheVariants as import_kind
use Rattle.wasm_ast.specs.declared.modules.WModule.{WModule}
use Rattle.wasm_grammar.specs.Profile.{IsInProfile}
use Rattle.wasm_typing.specs.declared.rule.WRule.{WRule}
use Rattle.wasm_typing.specs.declared.rule.WRule.TheVariants.{FuncIndex, StartType}
use Rattle.wasm_typing.specs.declared.context.Context.{Context}
use Rattle.wasm_typing.specs.Contexts.{context_of, imported_globals, imported_memories, imported_tables}
use Rattle.wasm_typing.specs.Fields.{breaks_unless, element_rule, export_rule, function_rule, global_rule, import_rule, memory_rule, start_rule, starts, table_rule}
use Rattle.wasm_typing.specs.Modules.{Fault, IsValid, earliest, first_alone, first_fault, start_entries}
use Rattle.wasm_execution.specs.Types.{takes_and_gives}
use Rattle.wasm_ast.specs.SameTypes.{is_same_type}
use Rattle.wasm_execution.specs.Configurations.{TheEnd, ThenCall}
use Rattle.wasm_execution.specs.Environments.{Function, environment_of, function_at, function_in, function_with, functions_of, imported, own_functions, exported, is_func}
use Rattle.wasm_execution.specs.Environments as environments
use Rattle.wasm_execution.specs.Imports.{is_print, prints_i64}
use Rattle.wasm_execution.specs.Calls.{entered}
use Rattle.wasm_execution.specs.Starts.{Start, UnknownImport, SegmentOut, NoMain, NoStartFunction, Begins, code_of_type, first_failing, first_out, first_store, start_exported, start_main, start_of}
use Rattle.wasm_machine_typing.specs.Configurations.{of_code}
use Rattle.wasm_machine_typing.proofs.Calls.{and_split, same_type}
use Rattle.wasm_soundness.proofs.Faults.{alone_none, failing, unbroken}
use Rattle.wasm_soundness.proofs.Functions.{are_prints, environment_typed}

-- of these functions those without code, which the host gives, take something
abbrev HostTakes : List (Option Function) → Type 0
HostTakes fs = (n : ℕ) (f : Function) → function_in fs n ≡ Some f → f.code ≡ None → f.ty.params ≡ [] → ⊥

takes_one : (o : Option FuncType) (f : Function) → ◌≡◌ {A = Bool} (elim o [ None ↦ false | Some t ↦ is_same_type t (takes_and_gives (I64 ∷ []) None) ]) true → ◌≡◌ {A = Option Function} (elim o [ None ↦ None | Some t ↦ Some (of_code t None) ]) (Some f) → f.ty.params ≡ [] → ⊥
takes_one None f e is empty = absurd (cc)
takes_one (Some t) f e is empty =
    let params = (same_type t (takes_and_gives (I64 ∷ []) None) e).0 in
    let same : of_code t None ≡ f = cc in
    let none : (let l : List ValTy = I64 ∷ [] in l) ≡ [] = sym params ∙ ap (λ (g : Function). g.ty.params) same ∙ empty in
    cc

kind_takes : (types : List FuncType) (what : ImportKind) (fs : List (Option Function)) → prints_i64 types what ≡ true → HostTakes fs → HostTakes (imported types what ++ fs)
kind_takes types (import_kind.Func n) fs e rest zero f is bare empty = takes_one (slice_get types n) f e is empty
kind_takes types (import_kind.Func n) fs e rest (suc k) f is bare empty = rest k f is bare empty
kind_takes types (import_kind.Table l) fs e rest k f is bare empty = absurd (cc)
kind_takes types (import_kind.Memory l) fs e rest k f is bare empty = absurd (cc)
kind_takes types (import_kind.Global t mutable) fs e rest k f is bare empty = absurd (cc)

imports_take : (types : List FuncType) (imports : List Import) (n : ℕ) (fs : List (Option Function)) → first_failing n (map (is_print types) imports) ≡ None → HostTakes fs → HostTakes (environments.imported_functions types imports ++ fs)
imports_take types [] n fs e rest = rest
imports_take types (i ∷ is) n fs e rest =
    let p = failing n (is_print types i) (map (is_print types) is) e in
    let q = and_split (bytes_eq i.«module» (codes "rw")) (bytes_eq i.name (codes "print") && prints_i64 types i.what) p.0 in
    let r = and_split (bytes_eq i.name (codes "print")) (prints_i64 types i.what) q.1 in
    let more = kind_takes types i.what (environments.imported_functions types is ++ fs) r.1 (imports_take types is (suc n) fs p.1 rest) in
    subst HostTakes (sym (append_assoc (imported types i.what) (environments.imported_functions types is) fs)) more

own_takes : (types : List FuncType) (ns : List ℕ) (cs : List Code) → HostTakes (own_functions types ns cs)
own_takes types [] cs k f is bare empty = absurd (cc)
own_takes types (n ∷ ns) [] k f is bare empty = absurd (cc)
own_takes types (n ∷ ns) (c ∷ cs) zero f is bare empty = has_code (slice_get types n) is
  where
    has_code : (o : Option FuncType) → ◌≡◌ {A = Option Function} (elim o [ None ↦ None | Some t ↦ Some (of_code t (Some c)) ]) (Some f) → ⊥
    has_code None e = absurd (cc)
    has_code (Some t) e = let same : of_code t (Some c) ≡ f = cc in let none : (let o : Option Code = Some c in o) ≡ None = ap (λ (g : Function). g.code) same ∙ bare in absurd (cc)
own_takes types (n ∷ ns) (c ∷ cs) (suc k) f is bare empty = own_takes types ns cs k f is bare empty

host_takes : (m : WModule) → first_failing 0 (map (is_print m.types) m.imports) ≡ None → HostTakes (functions_of m)
host_takes m prints = imports_take m.types m.imports 0 (own_functions m.types m.funcs m.codes) prints (own_takes m.types m.funcs m.codes)

-- the start function of a valid module breaks no rule
seventh : (a b c d f g h i : Option Fault) → earliest (a ∷ b ∷ c ∷ d ∷ f ∷ g ∷ h ∷ i ∷ []) ≡ None → h ≡ None
seventh None None None None None None None i e = refl
seventh (Some x) b c d f g h i e = absurd (cc)
seventh None (Some x) c d f g h i e = absurd (cc)
seventh None None (Some x) d f g h i e = absurd (cc)
seventh None None None (Some x) f g h i e = absurd (cc)
seventh None None None None (Some x) g h i e = absurd (cc)
seventh None None None None None (Some x) h i e = absurd (cc)
seventh None None None None None None (Some x) i e = absurd (cc)

takes_nothing : (C : Context) (f : FuncType) → starts C f ≡ true → f ≡ takes_and_gives [] None
takes_nothing C f e = by_parts f.params f.result e
  where
    by_parts : (params : List ValTy) (result : Option ValTy) → ◌≡◌ {A = Bool} (elim result [ None ↦ nat_lt (length params) 1 | Some t ↦ false ]) true → takes_and_gives params result ≡ takes_and_gives [] None
    by_parts [] None e = refl
    by_parts (p ∷ ps) None e = absurd (omega (arith, leb-true (suc (length (p ∷ ps))) 1 e))
    by_parts params (Some t) e = absurd (cc)

start_type : (C : Context) (o : Option FuncType) → ◌≡◌ {A = Option WRule} (elim o [ None ↦ Some FuncIndex | Some f ↦ breaks_unless (starts C f) StartType ]) None → o ≡ Some (takes_and_gives [] None)
start_type C None e = absurd (cc)
start_type C (Some f) e = ap (λ (t : FuncType). Some t) (takes_nothing C f (unbroken (starts C f) StartType e))

module _ (m : WModule) (valid : IsValid m) (profile : IsInProfile m) (prints : first_failing 0 (map (is_print m.types) m.imports) ≡ None) where
  no_start_fault : first_alone (start_rule (context_of m)) (start_entries m.start) ≡ None
  no_start_fault =
      seventh (first_fault (import_rule m.types) m.imports) (first_alone (function_rule (context_of m)) m.funcs) (first_fault (λ before l. table_rule (imported_tables m.imports + length before) l) m.tables)
      (first_fault (λ before l. memory_rule (imported_memories m.imports + length before) l) m.memories) (first_alone (global_rule (imported_globals m.imports)) m.globals) (first_fault (export_rule (context_of m)) m.exports)
      (first_alone (start_rule (context_of m)) (start_entries m.start)) (first_alone (element_rule (context_of m)) m.elements) valid.before

  called : (n : ℕ) → m.start ≡ Some n → (code : Code) × (code_of_type (environment_of m) (takes_and_gives [] None) n ≡ Some code)
  called n is =
      let sound : start_rule (context_of m) n ≡ None =
      alone_none (start_rule (context_of m)) [] (n ∷ []) 0 n (ap (λ (o : Option ℕ). first_alone (start_rule (context_of m)) (start_entries o)) (sym is) ∙ no_start_fault) refl in
      let ty = start_type (context_of m) (slice_get (context_of m).functions n) sound in
      let there = (environment_typed m valid profile (are_prints m.types m.imports 0 prints)).functions n (takes_and_gives [] None) ty in
      by_code there.0 there.1
    where
      by_code : (code : Option Code) → function_at (environment_of m) n ≡ Some (of_code (takes_and_gives [] None) code) → (c : Code) × (code_of_type (environment_of m) (takes_and_gives [] None) n ≡ Some c)
      by_code None there = absurd (host_takes m prints n (of_code (takes_and_gives [] None) None) there refl refl)
      by_code (Some c) there = (c, ap (λ (o : Option Function). elim o [ None ↦ None | Some f ↦ elim (is_same_type f.ty (takes_and_gives [] None)) [ true ↦ f.code | false ↦ None ] ]) there)

  main_begins : (main : ℕ) (code : Code) (start : Option ℕ) → m.start ≡ start → ◌≡◌ {A = Start} (elim start [
    | None ↦ Begins (entered main code [] [] TheEnd (first_store m))
    | Some n ↦ elim (code_of_type (environment_of m) (takes_and_gives [] None) n) [
      | None ↦ NoStartFunction
      | Some first ↦ Begins (entered n first [] [] (ThenCall main) (first_store m))
    ]
  ]) NoStartFunction → ⊥
  main_begins main code None is e = absurd (cc)
  main_begins main code (Some n) is e =
      let c = called n is in
      let begun : Begins (entered n c.0 [] [] (ThenCall main) (first_store m)) ≡ NoStartFunction =
      ap (λ (o : Option Code). elim o [ None ↦ NoStartFunction | Some first ↦ Begins (entered n first [] [] (ThenCall main) (first_store m)) ]) (sym c.1) ∙ e in
      cc

no_main_code : (o : Option Code) (go : Code → Start) → ((c : Code) → go c ≡ NoStartFunction → ⊥) → ◌≡◌ {A = Start} (elim o [ None ↦ NoMain | Some c ↦ go c ]) NoStartFunction → ⊥
no_main_code None go never e = cc
no_main_code (Some c) go never e = never c e

no_main_index : (o : Option ℕ) (go : ℕ → Start) → ((n : ℕ) → go n ≡ NoStartFunction → ⊥) → ◌≡◌ {A = Start} (elim o [ None ↦ NoMain | Some n ↦ go n ]) NoStartFunction → ⊥
no_main_index None go never e = cc
no_main_index (Some n) go never e = never n e

no_segment : (o : Option ℕ) (k : Start) → (k ≡ NoStartFunction → ⊥) → ◌≡◌ {A = Start} (elim o [ Some i ↦ SegmentOut i | None ↦ k ]) NoStartFunction → ⊥
no_segment None k never e = never e
no_segment (Some i) k never e = cc

no_import : (o : Option ℕ) (k : Start) → (o ≡ None → k ≡ NoStartFunction → ⊥) → ◌≡◌ {A = Start} (elim o [ Some i ↦ UnknownImport i | None ↦ k ]) NoStartFunction → ⊥
no_import None k never e = never refl e
no_import (Some i) k never e = cc

-- so a start function that cannot be called never stands in the way
pub start_is_called : (m : WModule) → IsValid m → IsInProfile m → start_of m ≡ NoStartFunction → ⊥
start_is_called m valid profile e =
    no_import (first_failing 0 (map (is_print m.types) m.imports)) (elim (first_out m) [ Some i ↦ SegmentOut i | None ↦ start_exported m ])
    (λ prints f. no_segment (first_out m) (start_exported m)
    (λ g. no_main_index (exported is_func (codes "main") m.exports) _
    (λ main h. no_main_code (code_of_type (environment_of m) (takes_and_gives [] (Some I64)) main) (start_main m main) (λ code k. main_begins m valid profile prints main code m.start refl k) h) g) f) e
