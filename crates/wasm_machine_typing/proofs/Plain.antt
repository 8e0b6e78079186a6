-- Each plain instruction of a typed configuration goes on, or traps.
use Rattle.std.proofs.Common.{◌≡◌, ◌∙◌, ℕ, zero, suc, ◌+◌, ◌-◌, ◌*◌, ◌^◌, ◌<◌, ◌≤◌, Bool, true, false, List, [], ◌∷◌, ◌++◌, length, slice_get, slice_set, refl, sym, ap, subst, arith}
use Rattle.std.specs.Prelude.{Option, Some, None, Ok, Err, option_map, nat_le, nat_lt, ◌==◌, if◌then◌else◌}
use Rattle.std.proofs.lemmas.Bool.{leb-true}
use Rattle.std.proofs.lemmas.List.{length-append}
use Rattle.std.proofs.lemmas.Option.{slice_get-map}
use Rattle.memory_words.specs.Memories.{zeros, read, write}
use Rattle.memory_words.proofs.Bytes.{length-zeros}
use Rattle.memory_words.proofs.Words.{length-write}
use Rattle.wasm_operators.specs.declared.BinOp.{BinOp}
use Rattle.wasm_operators.specs.declared.CmpOp.{CmpOp}
use Rattle.wasm_operators.specs.declared.CvtOp.TheVariants as convert
use Rattle.wasm_num.specs.Widths.{IsWithin}
use Rattle.wasm_num.specs.Operators.{unary, binary, compares, truth, converted}
use Rattle.wasm_num.proofs.Ranges.{stays_within}
use Rattle.wasm_ast.specs.declared.types.ValTy.{ValTy}
use Rattle.wasm_ast.specs.declared.types.ValTy.TheVariants.{I32, I64}
use Rattle.wasm_ast.specs.declared.instructions.WInstr.{WInstr, out-WInstr}
use Rattle.wasm_ast.specs.declared.instructions.WInstr.TheOpen.{WInstr-F}
use Rattle.wasm_ast.specs.declared.operation.Access.{Access}
use Rattle.wasm_ast.specs.Operations.{Operation, operation_in, log_bytes, FitsItsType}
use Rattle.wasm_ast.specs.Operations as op
use Rattle.wasm_ast.specs.Immediates.{immediate_by}
use Rattle.wasm_ast.specs.Immediates as immediate
use Rattle.wasm_typing.specs.declared.rule.WRule.TheVariants.{MemoryIndex, GlobalIndex, LocalIndex, ConstGlobal, Alignment}
use Rattle.wasm_typing.specs.declared.context.Context.{Context}
use Rattle.wasm_typing.specs.declared.context.GlobalType.{GlobalType}
use Rattle.wasm_typing.specs.Signatures.{The, Same, Signature, ◌⇒◌, needs, signature_of}
use Rattle.machine_steps.specs.declared.End.TheVariants.{Trap}
use Rattle.machine_steps.specs.declared.Trap.TheVariants.{MemoryBounds}
use Rattle.machine_steps.specs.Steps.{Turn, Went, Ended}
use Rattle.wasm_execution.specs.Types.{width_of}
use Rattle.wasm_execution.specs.Configurations.{Config, Event}
use Rattle.wasm_execution.specs.Environments.{Environment, Function}
use Rattle.wasm_execution.specs.Turns.{goes_on, leaves, traps}
use Rattle.machine_steps.specs.Steps.{with_one}
use Rattle.wasm_execution.specs.Numbers.{trap_of, constant, apply_binary, apply_compare}
use Rattle.wasm_execution.specs.Variables.{chosen, drop_one, select_one, get_local, set_local, tee_local, get_global, set_global}
use Rattle.wasm_execution.specs.Memories.{loaded, pages_of, touches, load_number, store_number, size_of_memory, grow_memory}
use Rattle.wasm_execution.specs.Steps.{act, step_at}
use Rattle.wasm_machine_typing.specs.Values.{AreOf}
use Rattle.wasm_machine_typing.specs.Lists.{count_beneath}
use Rattle.wasm_typing.specs.Heights.{height_of}
use Rattle.wasm_typing.specs.Contexts.{body_context}
use Rattle.wasm_ast.specs.declared.types.FuncType.{FuncType}
use Rattle.wasm_ast.specs.declared.modules.Code.{Code}
use Rattle.wasm_machine_typing.specs.Configurations.{of_code, global_types, IsTypedEnvironment, IsTypedStore, IsTypedConfig, IsTypedTurn}
use Rattle.wasm_machine_typing.specs.Laws.{StaysInList, PlainGoesOn, StandsWithin}
use Rattle.wasm_machine_typing.proofs.Values.{looked_up, put, one, two, three}
use Rattle.wasm_machine_typing.proofs.Lists.{stands}
use Rattle.wasm_machine_typing.proofs.Memories.{read-within, loaded-within, bytes-write, bytes-more}
use Rattle.wasm_machine_typing.proofs.Going.{found_back, needs_back, chosen_back, plain_numbers, body, room, going, on_found, on_one, fits_here, has, use_of, next, next_on}

-- no load or store moves more bytes than a value of its type has
pub narrow : (w : WInstr-F WInstr) → FitsItsType (operation_in w)
narrow (WInstr-F.I32Load a o) = omega arith
narrow (WInstr-F.I64Load a o) = omega arith
narrow (WInstr-F.I32Load8S a o) = omega arith
narrow (WInstr-F.I32Load8U a o) = omega arith
narrow (WInstr-F.I32Load16S a o) = omega arith
narrow (WInstr-F.I32Load16U a o) = omega arith
narrow (WInstr-F.I64Load8S a o) = omega arith
narrow (WInstr-F.I64Load8U a o) = omega arith
narrow (WInstr-F.I64Load16S a o) = omega arith
narrow (WInstr-F.I64Load16U a o) = omega arith
narrow (WInstr-F.I64Load32S a o) = omega arith
narrow (WInstr-F.I64Load32U a o) = omega arith
narrow (WInstr-F.I32Store a o) = omega arith
narrow (WInstr-F.I64Store a o) = omega arith
narrow (WInstr-F.I32Store8 a o) = omega arith
narrow (WInstr-F.I32Store16 a o) = omega arith
narrow (WInstr-F.I64Store8 a o) = omega arith
narrow (WInstr-F.I64Store16 a o) = omega arith
narrow (WInstr-F.I64Store32 a o) = omega arith
narrow _ = tt

truth-within : (b : Bool) → IsWithin (width_of I32) (truth b)
truth-within true = omega arith
truth-within false = omega arith

chosen-within : (t : ValTy) (n first second : ℕ) → IsWithin (width_of t) first → IsWithin (width_of t) second → IsWithin (width_of t) (chosen n first second)
chosen-within t zero first second f s = s
chosen-within t (suc n) first second f s = f

module _ (C : Context) (e : Environment) (env : IsTypedEnvironment C e) (c : Config) (h : IsTypedConfig C e c) where
  -- an access that lies within memory goes on, and another one traps
  accessed : (b : Bool) (function address count : ℕ) (after : Config) → (b ≡ true → IsTypedConfig C e after)
      → IsTypedTurn C e (elim b [ true ↦ Went (touches e function address count) after | false ↦ Ended (touches e function address count) (Trap MemoryBounds) c ])
  accessed true function address count after k = k refl
  accessed false function address count after k = h

  few_pages : pages_of c.store.memory ≤ 65536
  few_pages = let w = h.store.whole in let m = h.store.most in omega (arith, w, m)

  -- a store with other globals, or with other bytes
  with_globals : (globals : List ℕ) → AreOf (global_types C) globals → IsTypedStore C e (record c.store { globals = globals })
  with_globals globals k = record { globals = k; table = h.store.table; bytes = h.store.bytes; pages = h.store.pages; whole = h.store.whole; most = h.store.most }

  -- memory after a growth
  grown : (n : ℕ) → pages_of c.store.memory + n ≤ e.most_pages → IsTypedStore C e (record c.store { memory = c.store.memory ++ zeros (65536 * n) })
  grown n le =
      let w = h.store.whole in
      let p = env.pages in
      let l = length-append c.store.memory (zeros (65536 * n)) in
      let z = length-zeros (65536 * n) in
      record {
        globals = h.store.globals;
        table = h.store.table;
        bytes = bytes-more c.store.memory (65536 * n) h.store.bytes;
        pages = h.store.pages + n;
        whole = omega (arith, w, l, z);
        most = omega (arith, w, p, le);
      }

  module _ (i : WInstr) (rest : List WInstr) (er : c.here.rest ≡ i ∷ rest) where
    abbrev Is : Operation WInstr → Type 0
    Is o = operation_in (out-WInstr i) ≡ o

    abbrev Good : Turn Event Config → Type 0
    Good t = IsTypedTurn C e t

    nop : Is op.Nop → Good (goes_on (record c.here { rest = rest }) c)
    nop q = next_on C e c h i rest er None (use_of C e c h i rest er op.Nop ([] ⇒ None) None q refl refl) [] tt

    dropped : Is op.Drop → Good (drop_one (record c.here { rest = rest }) c)
    dropped q =
        let u = use_of C e c h i rest er op.Drop (Same ∷ [] ⇒ None) None q refl refl in
        let p = one u.at u.taken u.below c.here.operands u.parted u.of in
        on_one C e c h c.here.operands p.0 u.below (λ v beneath. leaves beneath (record c.here { rest = rest }) c) p.1 (next C e c h i rest er (Same ∷ []) None u [] tt)

    selected : Is op.Select → Good (select_one (record c.here { rest = rest }) c)
    selected q =
        let slots = The I32 ∷ (Same ∷ (Same ∷ [])) in
        let u = use_of C e c h i rest er op.Select (slots ⇒ Some Same) (Some Same) q refl refl in
        let p = three I32 u.at u.at u.taken u.below c.here.operands u.parted u.of in
        subst (λ (os : List ℕ). Good (select_one (record c.here { operands = os; rest = rest }) c)) (sym p.3)
        (next C e c h i rest er slots (Some Same) u (chosen p.0 p.2 p.1 ∷ []) (chosen-within u.at p.0 p.2 p.1 p.5 p.4, tt))

    local_got : (n : ℕ) → Is (op.LocalGet n) → Good (get_local n (record c.here { rest = rest }) c)
    local_got n q =
        let s = has C e c h i rest er (op.LocalGet n) q tt in
        let f = found_back LocalIndex (slice_get (body C e c h).locals n) (λ t. Ok ([] ⇒ Some (The t))) s.0 s.1 in
        let t = f.0 in
        let u = use_of C e c h i rest er (op.LocalGet n) ([] ⇒ Some (The t)) (Some (The t)) q (s.1 ∙ sym f.2) refl in
        let v = looked_up (body C e c h).locals c.here.locals n t h.call.locals f.1 in
        on_found C e c h (slice_get c.here.locals n) v.0 (λ w. leaves (w ∷ c.here.operands) (record c.here { rest = rest }) c) v.1
        (next_on C e c h i rest er (Some (The t)) u (v.0 ∷ []) (v.2, tt))

    local_set : (n : ℕ) → Is (op.LocalSet n) → Good (set_local n (record c.here { rest = rest }) c)
    local_set n q =
        let s = has C e c h i rest er (op.LocalSet n) q tt in
        let f = found_back LocalIndex (slice_get (body C e c h).locals n) (λ t. Ok (The t ∷ [] ⇒ None)) s.0 s.1 in
        let t = f.0 in
        let u = use_of C e c h i rest er (op.LocalSet n) (The t ∷ [] ⇒ None) None q (s.1 ∙ sym f.2) refl in
        let p = one t u.taken u.below c.here.operands u.parted u.of in
        let v = looked_up (body C e c h).locals c.here.locals n t h.call.locals f.1 in
        subst (λ (os : List ℕ). Good (set_local n (record c.here { operands = os; rest = rest }) c)) (sym p.1)
        (on_found C e c h (slice_get c.here.locals n) v.0 (λ old. goes_on (record c.here { operands = u.below; locals = slice_set c.here.locals n p.0; rest = rest }) c) v.1
        (going C e c h u.below (slice_set c.here.locals n p.0) rest c.store (put (body C e c h).locals c.here.locals n t p.0 h.call.locals f.1 p.2) (u.on [] tt) h.store))

    local_teed : (n : ℕ) → Is (op.LocalTee n) → Good (tee_local n (record c.here { rest = rest }) c)
    local_teed n q =
        let s = has C e c h i rest er (op.LocalTee n) q tt in
        let f = found_back LocalIndex (slice_get (body C e c h).locals n) (λ t. Ok (The t ∷ [] ⇒ Some (The t))) s.0 s.1 in
        let t = f.0 in
        let u = use_of C e c h i rest er (op.LocalTee n) (The t ∷ [] ⇒ Some (The t)) (Some (The t)) q (s.1 ∙ sym f.2) refl in
        let p = one t u.taken u.below c.here.operands u.parted u.of in
        let v = looked_up (body C e c h).locals c.here.locals n t h.call.locals f.1 in
        subst (λ (os : List ℕ). Good (tee_local n (record c.here { operands = os; rest = rest }) c)) (sym p.1)
        (on_found C e c h (slice_get c.here.locals n) v.0 (λ old. goes_on (record c.here { operands = p.0 ∷ u.below; locals = slice_set c.here.locals n p.0; rest = rest }) c) v.1
        (going C e c h (p.0 ∷ u.below) (slice_set c.here.locals n p.0) rest c.store (put (body C e c h).locals c.here.locals n t p.0 h.call.locals f.1 p.2) (u.on (p.0 ∷ []) (p.2, tt)) h.store))

    -- the type of a global that is there
    global_type : (n : ℕ) (g : GlobalType) → slice_get C.globals n ≡ Some g → slice_get (global_types C) n ≡ Some g.ty
    global_type n g q = slice_get-map (λ (x : GlobalType). x.ty) C.globals n ∙ ap (option_map (λ (x : GlobalType). x.ty)) q

    global_got : (n : ℕ) → Is (op.GlobalGet n) → Good (get_global n (record c.here { rest = rest }) c)
    global_got n q =
        let s = has C e c h i rest er (op.GlobalGet n) q tt in
        let f = found_back GlobalIndex (slice_get C.globals n) (λ (g : GlobalType). Ok ([] ⇒ Some (The g.ty))) s.0 s.1 in
        let t = f.0.ty in
        let u = use_of C e c h i rest er (op.GlobalGet n) ([] ⇒ Some (The t)) (Some (The t)) q (s.1 ∙ sym f.2) refl in
        let v = looked_up (global_types C) c.store.globals n t h.store.globals (global_type n f.0 f.1) in
        on_found C e c h (slice_get c.store.globals n) v.0 (λ w. leaves (w ∷ c.here.operands) (record c.here { rest = rest }) c) v.1
        (next_on C e c h i rest er (Some (The t)) u (v.0 ∷ []) (v.2, tt))

    global_set : (n : ℕ) → Is (op.GlobalSet n) → Good (set_global n (record c.here { rest = rest }) c)
    global_set n q =
        let s = has C e c h i rest er (op.GlobalSet n) q tt in
        let f = found_back GlobalIndex (slice_get C.globals n) (λ (g : GlobalType). needs ConstGlobal g.mutable (The g.ty ∷ [] ⇒ None)) s.0 s.1 in
        let t = f.0.ty in
        let same = needs_back ConstGlobal f.0.mutable (The t ∷ [] ⇒ None) s.0 f.2 in
        let u = use_of C e c h i rest er (op.GlobalSet n) (The t ∷ [] ⇒ None) None q (s.1 ∙ ap Ok same) refl in
        let p = one t u.taken u.below c.here.operands u.parted u.of in
        let there = global_type n f.0 f.1 in
        let v = looked_up (global_types C) c.store.globals n t h.store.globals there in
        let globals = slice_set c.store.globals n p.0 in
        subst (λ (os : List ℕ). Good (set_global n (record c.here { operands = os; rest = rest }) c)) (sym p.1)
        (on_found C e c h (slice_get c.store.globals n) v.0 (λ old. Went [] (record c { here = record c.here { operands = u.below; rest = rest }; store = record c.store { globals = globals } })) v.1
        (going C e c h u.below c.here.locals rest (record c.store { globals = globals }) h.call.locals (u.on [] tt) (with_globals globals (put (global_types C) c.store.globals n t p.0 h.store.globals there p.2))))

    in_memory_back : (log_width align : ℕ) (x s : Signature) → (if nat_lt 0 C.memories then needs Alignment (nat_le align log_width) x else Err MemoryIndex) ≡ Ok s → s ≡ x
    in_memory_back log_width align x s q = needs_back Alignment (nat_le align log_width) x s (chosen_back (nat_lt 0 C.memories) (needs Alignment (nat_le align log_width) x) MemoryIndex s q)

    number_loaded : (t : ValTy) (access : Access) (align offset : ℕ) → Is (op.Load t access align offset) → Good (load_number e t access offset (record c.here { rest = rest }) c)
    number_loaded t access align offset q =
        let s = has C e c h i rest er (op.Load t access align offset) q tt in
        let same = in_memory_back access.log_width align (The I32 ∷ [] ⇒ Some (The t)) s.0 s.1 in
        let u = use_of C e c h i rest er (op.Load t access align offset) (The I32 ∷ [] ⇒ Some (The t)) (Some (The t)) q (s.1 ∙ ap Ok same) refl in
        let p = one I32 u.taken u.below c.here.operands u.parted u.of in
        let le : access.log_width ≤ log_bytes t = subst FitsItsType q (narrow (out-WInstr i)) in
        let n = read (2 ^ access.log_width) c.store.memory (p.0 + offset) in
        let w = loaded-within t access n le (read-within (2 ^ access.log_width) c.store.memory (p.0 + offset) h.store.bytes) in
        subst (λ (os : List ℕ). Good (load_number e t access offset (record c.here { operands = os; rest = rest }) c)) (sym p.1)
        (accessed (nat_le (p.0 + offset + 2 ^ access.log_width) (length c.store.memory)) c.here.function (p.0 + offset) (2 ^ access.log_width)
        (record c { here = record c.here { operands = loaded t access n ∷ u.below; rest = rest } })
        (λ _. next C e c h i rest er (The I32 ∷ []) (Some (The t)) u (loaded t access n ∷ []) (w, tt)))

    number_stored : (t : ValTy) (log_width align offset : ℕ) → Is (op.Store t log_width align offset) → Good (store_number e log_width offset (record c.here { rest = rest }) c)
    number_stored t log_width align offset q =
        let slots = The t ∷ (The I32 ∷ []) in
        let s = has C e c h i rest er (op.Store t log_width align offset) q tt in
        let same = in_memory_back log_width align (slots ⇒ None) s.0 s.1 in
        let u = use_of C e c h i rest er (op.Store t log_width align offset) (slots ⇒ None) None q (s.1 ∙ ap Ok same) refl in
        let p = two t I32 u.taken u.below c.here.operands u.parted u.of in
        let address = p.1 + offset in
        let memory = write (2 ^ log_width) c.store.memory address p.0 in
        subst (λ (os : List ℕ). Good (store_number e log_width offset (record c.here { operands = os; rest = rest }) c)) (sym p.2)
        (accessed (nat_le (address + 2 ^ log_width) (length c.store.memory)) c.here.function address (2 ^ log_width)
        (record c { here = record c.here { operands = u.below; rest = rest }; store = record c.store { memory = memory } })
        (λ within. going C e c h u.below c.here.locals rest (record c.store { memory = memory }) h.call.locals (u.on [] tt) (record {
          globals = h.store.globals;
          table = h.store.table;
          bytes = bytes-write (2 ^ log_width) c.store.memory address p.0 h.store.bytes;
          pages = h.store.pages;
          whole = length-write (2 ^ log_width) c.store.memory address p.0 (leb-true (address + 2 ^ log_width) (length c.store.memory) within) ∙ h.store.whole;
          most = h.store.most;
        })))

    size_told : Is op.MemorySize → Good (size_of_memory e (record c.here { rest = rest }) c)
    size_told q =
        let s = has C e c h i rest er op.MemorySize q tt in
        let same = needs_back MemoryIndex (nat_lt 0 C.memories) ([] ⇒ Some (The I32)) s.0 s.1 in
        let u = use_of C e c h i rest er op.MemorySize ([] ⇒ Some (The I32)) (Some (The I32)) q (s.1 ∙ ap Ok same) refl in
        let w : pages_of c.store.memory < 2 ^ 32 = omega (arith, few_pages) in
        next_on C e c h i rest er (Some (The I32)) u (pages_of c.store.memory ∷ []) (w, tt)

    memory_grown : Is op.MemoryGrow → Good (grow_memory e (record c.here { rest = rest }) c)
    memory_grown q =
        let s = has C e c h i rest er op.MemoryGrow q tt in
        let same = needs_back MemoryIndex (nat_lt 0 C.memories) (The I32 ∷ [] ⇒ Some (The I32)) s.0 s.1 in
        let u = use_of C e c h i rest er op.MemoryGrow (The I32 ∷ [] ⇒ Some (The I32)) (Some (The I32)) q (s.1 ∙ ap Ok same) refl in
        let p = one I32 u.taken u.below c.here.operands u.parted u.of in
        let pages = pages_of c.store.memory in
        let w : pages < 2 ^ 32 = omega (arith, few_pages) in
        let all : 2 ^ 32 - 1 < 2 ^ 32 = omega arith in
        let after = record c { here = record c.here { operands = pages ∷ u.below; rest = rest }; store = record c.store { memory = c.store.memory ++ zeros (65536 * p.0) } } in
        let not_grown = leaves ((2 ^ 32 - 1) ∷ u.below) (record c.here { rest = rest }) c in
        subst (λ (os : List ℕ). Good (grow_memory e (record c.here { operands = os; rest = rest }) c)) (sym p.1)
        (elim (nat_le (pages + p.0) e.most_pages) as (λ b. (nat_le (pages + p.0) e.most_pages ≡ b) → Good (elim b [ true ↦ Went [] after | false ↦ not_grown ])) [
          | true ↦ λ within. going C e c h (pages ∷ u.below) c.here.locals rest (record c.store { memory = c.store.memory ++ zeros (65536 * p.0) }) h.call.locals (u.on (pages ∷ []) (w, tt)) (grown p.0 (leb-true (pages + p.0) e.most_pages within))
          | false ↦ λ _. next C e c h i rest er (The I32 ∷ []) (Some (The I32)) u ((2 ^ 32 - 1) ∷ []) (all, tt)
        ] refl)

    narrow_constant : (bits : ℕ) → Is (op.Const32 bits) → Good (constant bits (record c.here { rest = rest }) c)
    narrow_constant bits q =
        let u = use_of C e c h i rest er (op.Const32 bits) ([] ⇒ Some (The I32)) (Some (The I32)) q refl refl in
        let w = plain_numbers i (immediate.Const32 bits) (fits_here C e c h i rest er) (ap immediate_by q) tt in
        next_on C e c h i rest er (Some (The I32)) u (bits ∷ []) (w, tt)

    wide_constant : (bits : ℕ) → Is (op.Const64 bits) → Good (constant bits (record c.here { rest = rest }) c)
    wide_constant bits q =
        let u = use_of C e c h i rest er (op.Const64 bits) ([] ⇒ Some (The I64)) (Some (The I64)) q refl refl in
        let w = plain_numbers i (immediate.Const64 bits) (fits_here C e c h i rest er) (ap immediate_by q) tt in
        next_on C e c h i rest er (Some (The I64)) u (bits ∷ []) (w, tt)

    -- an instruction that takes one number and gives one
    from_one : (o : Operation WInstr) (t u : ValTy) (f : ℕ → ℕ) → Is o → signature_of (body C e c h) h.call.labels o ≡ Ok (The t ∷ [] ⇒ Some (The u)) → ((v : ℕ) → IsWithin (width_of t) v → IsWithin (width_of u) (f v))
        → Good (with_one c.here.operands (λ v beneath. leaves (f v ∷ beneath) (record c.here { rest = rest }) c))
    from_one o t u f q es w =
        let x = use_of C e c h i rest er o (The t ∷ [] ⇒ Some (The u)) (Some (The u)) q es refl in
        let p = one t x.taken x.below c.here.operands x.parted x.of in
        on_one C e c h c.here.operands p.0 x.below (λ v beneath. leaves (f v ∷ beneath) (record c.here { rest = rest }) c) p.1
        (next C e c h i rest er (The t ∷ []) (Some (The u)) x (f p.0 ∷ []) (w p.0 p.2, tt))

    compared : (t : ValTy) (operator : CmpOp) → Is (op.Compare t operator) → Good (apply_compare t operator (record c.here { rest = rest }) c)
    compared t operator q =
        let slots = The t ∷ (The t ∷ []) in
        let x = use_of C e c h i rest er (op.Compare t operator) (slots ⇒ Some (The I32)) (Some (The I32)) q refl refl in
        let p = two t t x.taken x.below c.here.operands x.parted x.of in
        let n = truth (compares operator (width_of t) p.1 p.0) in
        subst (λ (os : List ℕ). Good (apply_compare t operator (record c.here { operands = os; rest = rest }) c)) (sym p.2)
        (next C e c h i rest er slots (Some (The I32)) x (n ∷ []) (truth-within (compares operator (width_of t) p.1 p.0), tt))

    combined : (t : ValTy) (operator : BinOp) → Is (op.Binary t operator) → Good (apply_binary t operator (record c.here { rest = rest }) c)
    combined t operator q =
        let slots = The t ∷ (The t ∷ []) in
        let x = use_of C e c h i rest er (op.Binary t operator) (slots ⇒ Some (The t)) (Some (The t)) q refl refl in
        let p = two t t x.taken x.below c.here.operands x.parted x.of in
        let w = width_of t in
        subst (λ (os : List ℕ). Good (apply_binary t operator (record c.here { operands = os; rest = rest }) c)) (sym p.2)
        (elim (binary operator w p.1 p.0) as (λ r. (binary operator w p.1 p.0 ≡ r) → Good (elim r [ Ok n ↦ leaves (n ∷ x.below) (record c.here { rest = rest }) c | Err why ↦ traps (trap_of why) c ])) [
          | Ok n ↦ λ is. next C e c h i rest er slots (Some (The t)) x (n ∷ []) (stays_within.of_two operator w p.1 p.0 n p.4 p.3 is, tt)
          | Err why ↦ λ _. h
        ] refl)

    pub plain_acts : (o : Operation WInstr) → Is o → StaysInList o → Good (act e o (record c.here { rest = rest }) c)
    plain_acts op.Unreachable q s = absurd s
    plain_acts op.Nop q s = nop q
    plain_acts (op.Block t xs) q s = absurd s
    plain_acts (op.Loop t xs) q s = absurd s
    plain_acts (op.If t xs) q s = absurd s
    plain_acts (op.IfElse t xs ys) q s = absurd s
    plain_acts (op.Br label) q s = absurd s
    plain_acts (op.BrIf label) q s = absurd s
    plain_acts (op.BrTable labels default) q s = absurd s
    plain_acts op.Return q s = absurd s
    plain_acts (op.Call n) q s = absurd s
    plain_acts (op.CallIndirect n) q s = absurd s
    plain_acts op.Drop q s = dropped q
    plain_acts op.Select q s = selected q
    plain_acts (op.LocalGet n) q s = local_got n q
    plain_acts (op.LocalSet n) q s = local_set n q
    plain_acts (op.LocalTee n) q s = local_teed n q
    plain_acts (op.GlobalGet n) q s = global_got n q
    plain_acts (op.GlobalSet n) q s = global_set n q
    plain_acts (op.Load t access align offset) q s = number_loaded t access align offset q
    plain_acts (op.Store t log_width align offset) q s = number_stored t log_width align offset q
    plain_acts op.MemorySize q s = size_told q
    plain_acts op.MemoryGrow q s = memory_grown q
    plain_acts (op.Const32 bits) q s = narrow_constant bits q
    plain_acts (op.Const64 bits) q s = wide_constant bits q
    plain_acts (op.Eqz t) q s = from_one (op.Eqz t) t I32 (λ v. truth (v == 0)) q refl (λ v _. truth-within (v == 0))
    plain_acts (op.Compare t operator) q s = compared t operator q
    plain_acts (op.Unary t operator) q s = from_one (op.Unary t operator) t t (unary operator (width_of t)) q refl (λ v _. stays_within.of_one operator (width_of t) v)
    plain_acts (op.Binary t operator) q s = combined t operator q
    plain_acts (op.Convert convert.Wrap) q s = from_one (op.Convert convert.Wrap) I64 I32 (converted convert.Wrap) q refl (stays_within.of_conversion convert.Wrap)
    plain_acts (op.Convert convert.ExtendS) q s = from_one (op.Convert convert.ExtendS) I32 I64 (converted convert.ExtendS) q refl (stays_within.of_conversion convert.ExtendS)
    plain_acts (op.Convert convert.ExtendU) q s = from_one (op.Convert convert.ExtendU) I32 I64 (converted convert.ExtendU) q refl (stays_within.of_conversion convert.ExtendU)

pub plain_goes_on : PlainGoesOn
plain_goes_on C e c i rest env h er s = subst (λ (r : List WInstr). IsTypedTurn C e (step_at e r c)) (sym er) (plain_acts C e env c h i rest er (operation_in (out-WInstr i)) refl s)

same_function : (ty u : FuncType) (code d : Code) → ◌≡◌ {A = Option Function} (Some (of_code ty (Some code))) (Some (of_code u (Some d))) → (ty ≡ u) × (code ≡ d)
same_function ty u code d q = let f : of_code ty (Some code) ≡ of_code u (Some d) = (cc) in let k : ◌≡◌ {A = Option Code} (Some code) (Some d) = ap (λ (x : Function). x.code) f in (ap (λ (x : Function). x.ty) f, (cc))

pub stands_within : StandsWithin
stands_within C e c h ty code there =
    let p = same_function h.ty ty h.code code (sym h.call.there ∙ there) in
    let stood = stands (body C e c h) (room C e c h) h.call.labels c.here.rest c.here.operands (count_beneath c.here.levels) h.call.result h.call.runs in
    let n = length c.here.operands + count_beneath c.here.levels in
    subst (λ (t : FuncType). n ≤ height_of (body_context C t code) code.body) p.0 (subst (λ (d : Code). n ≤ height_of (body_context C h.ty d) d.body) p.1 stood)
