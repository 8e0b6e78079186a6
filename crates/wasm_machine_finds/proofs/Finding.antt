-- What plain instructions find in a typed configuration.
use Rattle.std.proofs.Common.{◌≡◌, ◌∙◌, ℕ, zero, suc, ◌+◌, ◌<◌, ◌≤◌, ◌^◌, List, [], ◌∷◌, ◌++◌, length, slice_get, refl, sym, ap, subst, arith}
use Rattle.std.specs.Prelude.{Option, Some, None, Ok, Err, nat_lt, nat_le, if◌then◌else◌}
use Rattle.wasm_operators.specs.declared.CvtOp.{CvtOp}
use Rattle.wasm_operators.specs.declared.CvtOp.TheVariants as convert
use Rattle.wasm_operators.specs.declared.BinOp.{BinOp}
use Rattle.wasm_num.specs.Operators.{width_from}
use Rattle.wasm_ast.specs.declared.types.ValTy.{ValTy}
use Rattle.wasm_ast.specs.declared.types.ValTy.TheVariants.{I32, I64}
use Rattle.wasm_ast.specs.declared.instructions.WInstr.{WInstr, out-WInstr}
use Rattle.wasm_ast.specs.declared.operation.Access.{Access}
use Rattle.wasm_ast.specs.Operations.{Operation, operation_in, operation_of}
use Rattle.wasm_ast.specs.Operations as op
use Rattle.wasm_typing.specs.declared.rule.WRule.TheVariants.{MemoryIndex, Alignment}
use Rattle.wasm_typing.specs.declared.context.Context.{Context}
use Rattle.wasm_typing.specs.Signatures.{Slot, The, Gives, Signature, ◌⇒◌, needs, signature_of}
use Rattle.machine_steps.specs.Steps.{Turn}
use Rattle.wasm_execution.specs.Types.{width_of}
use Rattle.wasm_execution.specs.Configurations.{Config, Event}
use Rattle.wasm_execution.specs.Environments.{Environment}
use Rattle.wasm_execution.specs.Turns.{with_two, leaves}
use Rattle.machine_steps.specs.Steps.{with_found, with_one}
use Rattle.wasm_execution.specs.Variables.{chosen, put_local}
use Rattle.wasm_execution.specs.Memories.{pages_of}
use Rattle.wasm_execution.specs.Steps.{act}
use Rattle.wasm_plain_steps.specs.Operands.{HasOne, HasTwo}
use Rattle.wasm_machine_typing.specs.Configurations.{IsTypedEnvironment, IsTypedConfig, IsTypedTurn}
use Rattle.wasm_machine_typing.specs.Laws.{StaysInList}
use Rattle.wasm_machine_typing.proofs.Values.{one, two}
use Rattle.wasm_machine_typing.proofs.Going.{needs_back, chosen_back, body, has, use_of}
use Rattle.wasm_machine_typing.proofs.Plain.{plain_acts, stands_within}
use Rattle.wasm_machine_finds.specs.Laws.{plain_of, HasRoom, Finds, TypedFinds}

there : {A : Type 0} (xs : List A) (n : ℕ) (x : A) → slice_get xs n ≡ Some x → n < length xs
there [] n x q = absurd (cc)
there (y ∷ ys) zero x q = omega arith
there (y ∷ ys) (suc n) x q = let i = there ys n x q in omega (arith, i)

module _ (C : Context) (e : Environment) where
  found_turn : {X : Type 0} (o : Option X) (k : X → Turn Event Config) → IsTypedTurn C e (with_found o k) → (x : X) × (o ≡ Some x) × IsTypedTurn C e (k x)
  found_turn None k t = absurd t
  found_turn (Some x) k t = (x, refl, t)

  one_turn : (vs : List ℕ) (k : ℕ → List ℕ → Turn Event Config) → IsTypedTurn C e (with_one vs k) → (v : ℕ) × (below : List ℕ) × (vs ≡ v ∷ below) × IsTypedTurn C e (k v below)
  one_turn [] k t = absurd t
  one_turn (v ∷ below) k t = (v, below, refl, t)

  some : (vs : List ℕ) (v : ℕ) (below : List ℕ) → vs ≡ v ∷ below → 0 < length vs
  some vs v below q = let l = ap length q in omega (arith, l)

  module _ (env : IsTypedEnvironment C e) (c : Config) (h : IsTypedConfig C e c) (room : ℕ) (enough : HasRoom C e c room) (i : WInstr) (rest : List WInstr) (er : c.here.rest ≡ i ∷ rest) where
    abbrev Is : Operation WInstr → Type 0
    Is o = operation_in (out-WInstr i) ≡ o

    -- what one more operand needs
    roomy : (v : ℕ) → IsTypedConfig C e (record c { here = record c.here { operands = v ∷ c.here.operands; rest = rest } }) → 0 < room
    roomy v k =
        let stood = stands_within C e (record c { here = record c.here { operands = v ∷ c.here.operands; rest = rest } }) k h.ty h.code h.call.there in
        let most = enough h.ty h.code h.call.there in
        omega (arith, stood, most)

    takes_one : (o : Operation WInstr) (t : ValTy) (g : Option Slot) → Is o → signature_of (body C e c h) h.call.labels o ≡ Ok (The t ∷ [] ⇒ g) → HasOne (width_of t) c.here.operands
    takes_one o t g q es =
        let u = use_of C e c h i rest er o (The t ∷ [] ⇒ g) g q es refl in
        let p = one t u.taken u.below c.here.operands u.parted u.of in
        record { top = p.0; rest = u.below; is = p.1; within = p.2 }

    takes_two : (o : Operation WInstr) (t u : ValTy) (g : Option Slot) → Is o → signature_of (body C e c h) h.call.labels o ≡ Ok (The t ∷ (The u ∷ []) ⇒ g) → HasTwo (width_of u) (width_of t) c.here.operands
    takes_two o t u g q es =
        let x = use_of C e c h i rest er o (The t ∷ (The u ∷ []) ⇒ g) g q es refl in
        let p = two t u x.taken x.below c.here.operands x.parted x.of in
        record { lower = p.1; top = p.0; rest = x.below; is = p.2; lower_within = p.4; top_within = p.3 }

    in_memory_back : (log_width align : ℕ) (x s : Signature) → (if nat_lt 0 C.memories then needs Alignment (nat_le align log_width) x else Err MemoryIndex) ≡ Ok s → s ≡ x
    in_memory_back log_width align x s q = needs_back Alignment (nat_le align log_width) x s (chosen_back (nat_lt 0 C.memories) (needs Alignment (nat_le align log_width) x) MemoryIndex s q)

    goes : (o : Operation WInstr) → Is o → StaysInList o → IsTypedTurn C e (act e o (record c.here { rest = rest }) c)
    goes o q s = plain_acts C e env c h i rest er o q s

    local_got : (n : ℕ) → Is (op.LocalGet n) → (n < length c.here.locals) × (0 < room)
    local_got n q =
        let f = found_turn (slice_get c.here.locals n) (λ v. leaves (v ∷ c.here.operands) (record c.here { rest = rest }) c) (goes (op.LocalGet n) q tt) in
        (there c.here.locals n f.0 f.1, roomy f.0 f.2)

    global_got : (n : ℕ) → Is (op.GlobalGet n) → (n < length c.store.globals) × (0 < room)
    global_got n q =
        let f = found_turn (slice_get c.store.globals n) (λ v. leaves (v ∷ c.here.operands) (record c.here { rest = rest }) c) (goes (op.GlobalGet n) q tt) in
        (there c.store.globals n f.0 f.1, roomy f.0 f.2)

    local_set : (n : ℕ) → Is (op.LocalSet n) → (n < length c.here.locals) × (0 < length c.here.operands)
    local_set n q =
        let o = one_turn c.here.operands (λ v beneath. put_local n v beneath (record c.here { rest = rest }) c) (goes (op.LocalSet n) q tt) in
        let f = found_turn (slice_get c.here.locals n) _ o.3 in
        (there c.here.locals n f.0 f.1, some c.here.operands o.0 o.1 o.2)

    local_teed : (n : ℕ) → Is (op.LocalTee n) → (n < length c.here.locals) × (0 < length c.here.operands)
    local_teed n q =
        let o = one_turn c.here.operands (λ v beneath. put_local n v (v ∷ beneath) (record c.here { rest = rest }) c) (goes (op.LocalTee n) q tt) in
        let f = found_turn (slice_get c.here.locals n) _ o.3 in
        (there c.here.locals n f.0 f.1, some c.here.operands o.0 o.1 o.2)

    global_set : (n : ℕ) → Is (op.GlobalSet n) → (n < length c.store.globals) × (0 < length c.here.operands)
    global_set n q =
        let o = one_turn c.here.operands _ (goes (op.GlobalSet n) q tt) in
        let f = found_turn (slice_get c.store.globals n) _ o.3 in
        (there c.store.globals n f.0 f.1, some c.here.operands o.0 o.1 o.2)

    selected : Is op.Select → 3 ≤ length c.here.operands
    selected q =
        let a = one_turn c.here.operands _ (goes op.Select q tt) in
        let b = one_turn a.1 _ a.3 in
        let d = one_turn b.1 _ b.3 in
        let la = ap length a.2 in
        let lb = ap length b.2 in
        let ld = ap length d.2 in
        omega (arith, la, lb, ld)

    dropped : Is op.Drop → 0 < length c.here.operands
    dropped q = let o = one_turn c.here.operands _ (goes op.Drop q tt) in some c.here.operands o.0 o.1 o.2

    size_told : Is op.MemorySize → (length c.store.memory ≤ 2 ^ 32) × (0 < room)
    size_told q = let w = h.store.whole in let m = h.store.most in (omega (arith, w, m), roomy (pages_of c.store.memory) (goes op.MemorySize q tt))

    loaded : (t : ValTy) (access : Access) (align offset : ℕ) → Is (op.Load t access align offset) → HasOne (width_of I32) c.here.operands
    loaded t access align offset q =
        let s = has C e c h i rest er (op.Load t access align offset) q tt in
        let same = in_memory_back access.log_width align (The I32 ∷ [] ⇒ Some (The t)) s.0 s.1 in
        takes_one (op.Load t access align offset) I32 (Some (The t)) q (s.1 ∙ ap Ok same)

    stored : (t : ValTy) (log_width align offset : ℕ) → Is (op.Store t log_width align offset) → HasTwo (width_of I32) (width_of t) c.here.operands
    stored t log_width align offset q =
        let s = has C e c h i rest er (op.Store t log_width align offset) q tt in
        let same = in_memory_back log_width align (The t ∷ (The I32 ∷ []) ⇒ None) s.0 s.1 in
        takes_two (op.Store t log_width align offset) t I32 None q (s.1 ∙ ap Ok same)

    converts : (operator : CvtOp) → Is (op.Convert operator) → HasOne (width_from operator) c.here.operands
    converts convert.Wrap q = takes_one (op.Convert convert.Wrap) I64 (Some (The I32)) q refl
    converts convert.ExtendS q = takes_one (op.Convert convert.ExtendS) I32 (Some (The I64)) q refl
    converts convert.ExtendU q = takes_one (op.Convert convert.ExtendU) I32 (Some (The I64)) q refl

    grows : Is op.MemoryGrow → HasOne (width_of I32) c.here.operands
    grows q =
        let s = has C e c h i rest er op.MemoryGrow q tt in
        let same = needs_back MemoryIndex (nat_lt 0 C.memories) (The I32 ∷ [] ⇒ Some (The I32)) s.0 s.1 in
        takes_one op.MemoryGrow I32 (Some (The I32)) q (s.1 ∙ ap Ok same)

    pub finds : (o : Operation WInstr) → Is o → Finds o (plain_of c) room
    finds op.Unreachable q = tt
    finds op.Nop q = tt
    finds (op.Block t xs) q = tt
    finds (op.Loop t xs) q = tt
    finds (op.If t xs) q = tt
    finds (op.IfElse t xs ys) q = tt
    finds (op.Br label) q = tt
    finds (op.BrIf label) q = tt
    finds (op.BrTable labels default) q = tt
    finds op.Return q = tt
    finds (op.Call n) q = tt
    finds (op.CallIndirect n) q = tt
    finds op.Drop q = dropped q
    finds op.Select q = selected q
    finds (op.LocalGet n) q = local_got n q
    finds (op.LocalSet n) q = local_set n q
    finds (op.LocalTee n) q = local_teed n q
    finds (op.GlobalGet n) q = global_got n q
    finds (op.GlobalSet n) q = global_set n q
    finds (op.Load t access align offset) q = loaded t access align offset q
    finds (op.Store t log_width align offset) q = stored t log_width align offset q
    finds op.MemorySize q = size_told q
    finds op.MemoryGrow q = grows q
    finds (op.Const32 bits) q = roomy bits (goes (op.Const32 bits) q tt)
    finds (op.Const64 bits) q = roomy bits (goes (op.Const64 bits) q tt)
    finds (op.Eqz t) q = takes_one (op.Eqz t) t (Some (The I32)) q refl
    finds (op.Compare t operator) q = takes_two (op.Compare t operator) t t (Some (The I32)) q refl
    finds (op.Unary t operator) q = takes_one (op.Unary t operator) t (Some (The t)) q refl
    finds (op.Binary t operator) q = takes_two (op.Binary t operator) t t (Some (The t)) q refl
    finds (op.Convert operator) q = converts operator q

pub typed_finds : TypedFinds
typed_finds C e c i rest room env h enough er = finds C e env c h room enough i rest er (operation_of i) refl
