-- What each instruction of an allocator does, before the rest of its list: a step that says nothing, over a free list that can be
-- read.
use Rattle.std.proofs.Common.{◌≡◌, ◌∙◌, ℕ, suc, ◌+◌, ◌-◌, ◌*◌, ◌/◌, ◌%◌, ◌^◌, ◌<◌, ◌≤◌, Bool, true, List, [], ◌∷◌, length, Option, Some, None, refl, ap, sym, subst, arith}
use Rattle.std.specs.Prelude.{slice_get, slice_set, if◌then◌else◌}
use Rattle.std.proofs.lemmas.Bool.{lt-ltb, le-ltb, eq-eqb, ne_eqb}
use Rattle.memory_words.specs.Memories.{word, read, write}
use Rattle.wasm_num.specs.Operators.{truth}
use Rattle.wasm_ast.specs.declared.instructions.WInstr as w
use Rattle.wasm_ast.specs.declared.instructions.WInstr.{WInstr, out-WInstr, roll-WInstr, out-roll-WInstr}
use Rattle.wasm_ast.specs.declared.instructions.WInstr.TheOpen.{WInstr-F}
use Rattle.wasm_ast.specs.declared.instructions.WInstr.TheVariants as v
use Rattle.wasm_ast.specs.Operations.{operation_in}
use Rattle.machine_steps.specs.Steps.{Turn, Went}
use Rattle.wasm_execution.specs.Configurations.{Aim, Past, Back, Level, Here, Bottom, Config, Event, Touch}
use Rattle.wasm_execution.specs.Environments.{Environment, is_allocator}
use Rattle.machine_steps.specs.Steps.{with_found}
use Rattle.wasm_execution.specs.Memories.{access_at}
use Rattle.wasm_execution.specs.Steps.{act, step, step_at}
use Rattle.wasm_execution.proofs.Memories.{accesses}
use Rattle.heap_blocks.specs.Blocks.{IsReadable}
use Rattle.allocator_contract.specs.Walks.{CanBeRead, on_quiet, Quietly, Within}

-- a call of an allocator: what does not change while it runs
pub record Call : Type 0 where
  pub environment : Environment
  pub words : ℕ
  pub function : ℕ
  pub argument : ℕ
  pub callers : List Here
  pub bottom : Bottom
  pub table : List (Option ℕ)
  pub quiet : is_allocator environment function ≡ true

-- an open list that takes and leaves nothing
abbrev pub past : List ℕ → List WInstr → Level
past beneath rest = record { aim = Past; takes = 0; gives = 0; beneath = beneath; rest = rest }

abbrev pub back : List WInstr → List ℕ → List WInstr → Level
back body beneath rest = record { aim = Back body; takes = 0; gives = 0; beneath = beneath; rest = rest }

module _ (a : Call) where
  -- the call with this memory, globals, locals, operands, list and open lists
  abbrev pub at : List ℕ → List ℕ → List ℕ → List ℕ → List WInstr → List Level → Config
  at m gl lo st is ls = record {
    here = record { function = a.function; argument = a.argument; locals = lo; operands = st; rest = is; levels = ls };
    callers = a.callers;
    bottom = a.bottom;
    store = record { memory = m; table = a.table; globals = gl };
  }

  abbrev pub Reads : List ℕ → Type 0
  Reads m = IsReadable a.words (word m)

  abbrev pub Sure : ℕ → (Config → Type 0) → Config → Type 0
  Sure n K c = Within a.environment a.words K n c

  abbrev go : Config → Turn Event Config
  go = step a.environment

  pub acts : (x : WInstr-F WInstr) (i : WInstr) → roll-WInstr x ≡ i → (rest : List WInstr) (c : Config) → c.here.rest ≡ i ∷ rest → go c ≡ act a.environment (operation_in x) (record c.here { rest = rest }) c
  acts x i rolls rest c is =
      ap (λ (l : List WInstr). step_at a.environment l c) is
      ∙ ap (λ (y : WInstr-F WInstr). act a.environment (operation_in y) (record c.here { rest = rest }) c) (ap out-WInstr (sym rolls) ∙ out-roll-WInstr x)

  pub now : {n : ℕ} {K : Config → Type 0} {c : Config} → CanBeRead a.words c → K c → Sure (suc n) K c
  now r k = record { steps = 0; few = omega arith; quietly = (r, k) }

  pub more : {n k : ℕ} {K : Config → Type 0} {c : Config} → n ≤ k → Sure n K c → Sure k K c
  more le h = record { steps = h.steps; few = omega (arith, h.few, le); quietly = h.quietly }

  one : {n : ℕ} {K : Config → Type 0} {c c' : Config} → CanBeRead a.words c → go c ≡ Went [] c' → Sure n K c' → Sure (suc n) K c
  one {K = K} r e h = record { steps = suc h.steps; few = omega (arith, h.few); quietly = (r, subst (λ t. on_quiet t (Quietly a.environment a.words K h.steps)) (sym e) h.quietly) }

  said : (address : ℕ) (c : Config) → Went (if is_allocator a.environment a.function then [] else Touch address 8 ∷ []) c ≡ Went [] c
  said address c = ap (λ (b : Bool). Went (if b then [] else Touch address 8 ∷ []) c) a.quiet

  module _ {n : ℕ} {K : Config → Type 0} {m gl lo st : List ℕ} {is : List WInstr} {ls : List Level} (r : Reads m) where
    pub get : {k y : ℕ} → slice_get lo k ≡ Some y → Sure n K (at m gl lo (y ∷ st) is ls) → Sure (suc n) K (at m gl lo st (w.LocalGet k ∷ is) ls)
    get {k} e h =
        one r (acts (WInstr-F.LocalGet k) (w.LocalGet k) (v.rolls-LocalGet k) is (at m gl lo st (w.LocalGet k ∷ is) ls) refl
        ∙ ap (λ (o : Option ℕ). with_found o (λ y. Went [] (at m gl lo (y ∷ st) is ls))) e) h

    pub set : {k y old : ℕ} → slice_get lo k ≡ Some old → Sure n K (at m gl (slice_set lo k y) st is ls) → Sure (suc n) K (at m gl lo (y ∷ st) (w.LocalSet k ∷ is) ls)
    set {k} {y} e h =
        one r (acts (WInstr-F.LocalSet k) (w.LocalSet k) (v.rolls-LocalSet k) is (at m gl lo (y ∷ st) (w.LocalSet k ∷ is) ls) refl
        ∙ ap (λ (o : Option ℕ). with_found o (λ old. Went [] (at m gl (slice_set lo k y) st is ls))) e) h

    pub global_get : {k y : ℕ} → slice_get gl k ≡ Some y → Sure n K (at m gl lo (y ∷ st) is ls) → Sure (suc n) K (at m gl lo st (w.GlobalGet k ∷ is) ls)
    global_get {k} e h =
        one r (acts (WInstr-F.GlobalGet k) (w.GlobalGet k) (v.rolls-GlobalGet k) is (at m gl lo st (w.GlobalGet k ∷ is) ls) refl
        ∙ ap (λ (o : Option ℕ). with_found o (λ y. Went [] (at m gl lo (y ∷ st) is ls))) e) h

    pub global_set : {k y old : ℕ} → slice_get gl k ≡ Some old → Sure n K (at m (slice_set gl k y) lo st is ls) → Sure (suc n) K (at m gl lo (y ∷ st) (w.GlobalSet k ∷ is) ls)
    global_set {k} {y} e h =
        one r (acts (WInstr-F.GlobalSet k) (w.GlobalSet k) (v.rolls-GlobalSet k) is (at m gl lo (y ∷ st) (w.GlobalSet k ∷ is) ls) refl
        ∙ ap (λ (o : Option ℕ). with_found o (λ old. Went [] (at m (slice_set gl k y) lo st is ls))) e) h

    pub const64 : {y : ℕ} → Sure n K (at m gl lo (y ∷ st) is ls) → Sure (suc n) K (at m gl lo st (w.I64Const y ∷ is) ls)
    const64 {y} h = one r (acts (WInstr-F.I64Const y) (w.I64Const y) (v.rolls-I64Const y) is (at m gl lo st (w.I64Const y ∷ is) ls) refl) h

    pub const32 : {y : ℕ} → Sure n K (at m gl lo (y ∷ st) is ls) → Sure (suc n) K (at m gl lo st (w.I32Const y ∷ is) ls)
    const32 {y} h = one r (acts (WInstr-F.I32Const y) (w.I32Const y) (v.rolls-I32Const y) is (at m gl lo st (w.I32Const y ∷ is) ls) refl) h

    pub wrap : {y : ℕ} → y < 2 ^ 32 → Sure n K (at m gl lo (y ∷ st) is ls) → Sure (suc n) K (at m gl lo (y ∷ st) (w.I32WrapI64 ∷ is) ls)
    wrap {y} lt h =
        let e : y % 2 ^ 32 ≡ y = omega (arith, lt) in
        one r (acts WInstr-F.I32WrapI64 w.I32WrapI64 v.rolls-I32WrapI64 is (at m gl lo (y ∷ st) (w.I32WrapI64 ∷ is) ls) refl ∙ ap (λ (k : ℕ). Went [] (at m gl lo (k ∷ st) is ls)) e) h

    pub extend : {y : ℕ} → Sure n K (at m gl lo (y ∷ st) is ls) → Sure (suc n) K (at m gl lo (y ∷ st) (w.I64ExtendI32U ∷ is) ls)
    extend {y} h = one r (acts WInstr-F.I64ExtendI32U w.I64ExtendI32U v.rolls-I64ExtendI32U is (at m gl lo (y ∷ st) (w.I64ExtendI32U ∷ is) ls) refl) h

    pub size : (pages : ℕ) → length m / 65536 ≡ pages → Sure n K (at m gl lo (pages ∷ st) is ls) → Sure (suc n) K (at m gl lo st (w.MemorySize ∷ is) ls)
    size pages e h = one r (acts WInstr-F.MemorySize w.MemorySize v.rolls-MemorySize is (at m gl lo st (w.MemorySize ∷ is) ls) refl ∙ ap (λ (k : ℕ). Went [] (at m gl lo (k ∷ st) is ls)) e) h

    pub load : {y : ℕ} (address z : ℕ) → y + 0 ≡ address → address + 8 ≤ length m → read 8 m address ≡ z → Sure n K (at m gl lo (z ∷ st) is ls) → Sure (suc n) K (at m gl lo (y ∷ st) (w.I64Load 3 0 ∷ is) ls)
    load {y} address z e le f h =
        let c = at m gl lo (y ∷ st) (w.I64Load 3 0 ∷ is) ls in
        let here : Here = record c.here { rest = is } in
        one r (acts (WInstr-F.I64Load 3 0) (w.I64Load 3 0) (v.rolls-I64Load 3 0) is c refl
        ∙ ap (λ (b : ℕ). access_at a.environment b 8 here c (at m gl lo (read 8 m b ∷ st) is ls)) e
        ∙ accesses a.environment address 8 here c (at m gl lo (read 8 m address ∷ st) is ls) le
        ∙ said address (at m gl lo (read 8 m address ∷ st) is ls)
        ∙ ap (λ (k : ℕ). Went [] (at m gl lo (k ∷ st) is ls)) f) h

    pub store : {y z : ℕ} (address : ℕ) → y + 0 ≡ address → address + 8 ≤ length m → Sure n K (at (write 8 m address z) gl lo st is ls) → Sure (suc n) K (at m gl lo (z ∷ y ∷ st) (w.I64Store 3 0 ∷ is) ls)
    store {y} {z} address e le h =
        let c = at m gl lo (z ∷ y ∷ st) (w.I64Store 3 0 ∷ is) ls in
        let here : Here = record c.here { rest = is } in
        one r (acts (WInstr-F.I64Store 3 0) (w.I64Store 3 0) (v.rolls-I64Store 3 0) is c refl
        ∙ ap (λ (b : ℕ). access_at a.environment b 8 here c (at (write 8 m b z) gl lo st is ls)) e
        ∙ accesses a.environment address 8 here c (at (write 8 m address z) gl lo st is ls) le
        ∙ said address (at (write 8 m address z) gl lo st is ls)) h

    pub add : {y z : ℕ} (d : ℕ) → y + z ≡ d → d < 2 ^ 64 → Sure n K (at m gl lo (d ∷ st) is ls) → Sure (suc n) K (at m gl lo (z ∷ y ∷ st) (w.I64Add ∷ is) ls)
    add {y} {z} d e lt h =
        let f : (y + z) % 2 ^ 64 ≡ d = omega (arith, e, lt) in
        one r (acts WInstr-F.I64Add w.I64Add v.rolls-I64Add is (at m gl lo (z ∷ y ∷ st) (w.I64Add ∷ is) ls) refl ∙ ap (λ (k : ℕ). Went [] (at m gl lo (k ∷ st) is ls)) f) h

    pub sub : {y z : ℕ} (d : ℕ) → y ≡ z + d → y < 2 ^ 64 → Sure n K (at m gl lo (d ∷ st) is ls) → Sure (suc n) K (at m gl lo (z ∷ y ∷ st) (w.I64Sub ∷ is) ls)
    sub {y} {z} d e lt h =
        let f : (y + (2 ^ 64 - z)) % 2 ^ 64 ≡ d = omega (arith, e, lt) in
        one r (acts WInstr-F.I64Sub w.I64Sub v.rolls-I64Sub is (at m gl lo (z ∷ y ∷ st) (w.I64Sub ∷ is) ls) refl ∙ ap (λ (k : ℕ). Went [] (at m gl lo (k ∷ st) is ls)) f) h

    pub mul : {y z : ℕ} (d : ℕ) → y * z ≡ d → d < 2 ^ 64 → Sure n K (at m gl lo (d ∷ st) is ls) → Sure (suc n) K (at m gl lo (z ∷ y ∷ st) (w.I64Mul ∷ is) ls)
    mul {y} {z} d e lt h =
        let f : (y * z) % 2 ^ 64 ≡ d = ap (λ (k : ℕ). k % 2 ^ 64) e ∙ omega (arith, lt) in
        one r (acts WInstr-F.I64Mul w.I64Mul v.rolls-I64Mul is (at m gl lo (z ∷ y ∷ st) (w.I64Mul ∷ is) ls) refl ∙ ap (λ (k : ℕ). Went [] (at m gl lo (k ∷ st) is ls)) f) h

    -- an eighth
    pub shift : {y : ℕ} (d : ℕ) → y / 8 ≡ d → Sure n K (at m gl lo (d ∷ st) is ls) → Sure (suc n) K (at m gl lo (3 ∷ y ∷ st) (w.I64ShrU ∷ is) ls)
    shift {y} d e h = one r (acts WInstr-F.I64ShrU w.I64ShrU v.rolls-I64ShrU is (at m gl lo (3 ∷ y ∷ st) (w.I64ShrU ∷ is) ls) refl ∙ ap (λ (k : ℕ). Went [] (at m gl lo (k ∷ st) is ls)) e) h

    pub is_zero : {y : ℕ} → y ≡ 0 → Sure n K (at m gl lo (1 ∷ st) is ls) → Sure (suc n) K (at m gl lo (y ∷ st) (w.I64Eqz ∷ is) ls)
    is_zero {y} e h = one r (acts WInstr-F.I64Eqz w.I64Eqz v.rolls-I64Eqz is (at m gl lo (y ∷ st) (w.I64Eqz ∷ is) ls) refl ∙ ap (λ (b : Bool). Went [] (at m gl lo (truth b ∷ st) is ls)) (eq-eqb y 0 e)) h

    pub is_not_zero : {y : ℕ} → 1 ≤ y → Sure n K (at m gl lo (0 ∷ st) is ls) → Sure (suc n) K (at m gl lo (y ∷ st) (w.I64Eqz ∷ is) ls)
    is_not_zero {y} e h = one r (acts WInstr-F.I64Eqz w.I64Eqz v.rolls-I64Eqz is (at m gl lo (y ∷ st) (w.I64Eqz ∷ is) ls) refl ∙ ap (λ (b : Bool). Went [] (at m gl lo (truth b ∷ st) is ls)) (ne_eqb y 0 (λ q. omega (arith, q, e)))) h

    pub is_less : {y z : ℕ} → y < z → Sure n K (at m gl lo (1 ∷ st) is ls) → Sure (suc n) K (at m gl lo (z ∷ y ∷ st) (w.I64LtU ∷ is) ls)
    is_less {y} {z} lt h = one r (acts WInstr-F.I64LtU w.I64LtU v.rolls-I64LtU is (at m gl lo (z ∷ y ∷ st) (w.I64LtU ∷ is) ls) refl ∙ ap (λ (b : Bool). Went [] (at m gl lo (truth b ∷ st) is ls)) (lt-ltb y z lt)) h

    pub is_not_less : {y z : ℕ} → z ≤ y → Sure n K (at m gl lo (0 ∷ st) is ls) → Sure (suc n) K (at m gl lo (z ∷ y ∷ st) (w.I64LtU ∷ is) ls)
    is_not_less {y} {z} le h = one r (acts WInstr-F.I64LtU w.I64LtU v.rolls-I64LtU is (at m gl lo (z ∷ y ∷ st) (w.I64LtU ∷ is) ls) refl ∙ ap (λ (b : Bool). Went [] (at m gl lo (truth b ∷ st) is ls)) (le-ltb y z le)) h

    pub enters : {arm : List WInstr} → Sure n K (at m gl lo [] arm (past st is ∷ ls)) → Sure (suc n) K (at m gl lo (1 ∷ st) (w.If None arm ∷ is) ls)
    enters {arm} h = one r (acts (WInstr-F.If None arm) (w.If None arm) (v.rolls-If None arm) is (at m gl lo (1 ∷ st) (w.If None arm ∷ is) ls) refl) h

    pub passes : (arm : List WInstr) → Sure n K (at m gl lo st is ls) → Sure (suc n) K (at m gl lo (0 ∷ st) (w.If None arm ∷ is) ls)
    passes arm h = one r (acts (WInstr-F.If None arm) (w.If None arm) (v.rolls-If None arm) is (at m gl lo (0 ∷ st) (w.If None arm ∷ is) ls) refl) h

    pub enters_first : {first : List WInstr} (second : List WInstr) → Sure n K (at m gl lo [] first (past st is ∷ ls)) → Sure (suc n) K (at m gl lo (1 ∷ st) (w.IfElse None first second ∷ is) ls)
    enters_first {first} second h = one r (acts (WInstr-F.IfElse None first second) (w.IfElse None first second) (v.rolls-IfElse None first second) is (at m gl lo (1 ∷ st) (w.IfElse None first second ∷ is) ls) refl) h

    pub enters_second : {second : List WInstr} (first : List WInstr) → Sure n K (at m gl lo [] second (past st is ∷ ls)) → Sure (suc n) K (at m gl lo (0 ∷ st) (w.IfElse None first second ∷ is) ls)
    enters_second {second} first h = one r (acts (WInstr-F.IfElse None first second) (w.IfElse None first second) (v.rolls-IfElse None first second) is (at m gl lo (0 ∷ st) (w.IfElse None first second ∷ is) ls) refl) h

    pub loops : {body : List WInstr} → Sure n K (at m gl lo [] body (back body st is ∷ ls)) → Sure (suc n) K (at m gl lo st (w.Loop None body ∷ is) ls)
    loops {body} h = one r (acts (WInstr-F.Loop None body) (w.Loop None body) (v.rolls-Loop None body) is (at m gl lo st (w.Loop None body ∷ is) ls) refl) h

  module _ {n : ℕ} {K : Config → Type 0} {m gl lo beneath : List ℕ} {rest : List WInstr} {ls : List Level} (r : Reads m) where
    -- the end of an open list
    pub ends : {aim : Aim} → Sure n K (at m gl lo beneath rest ls) → Sure (suc n) K (at m gl lo [] [] (record { aim = aim; takes = 0; gives = 0; beneath = beneath; rest = rest } ∷ ls))
    ends h = one r refl h

    -- out of an arm, to the start of the loop around it
    pub again : {st under : List ℕ} {is behind body : List WInstr} → Sure n K (at m gl lo [] body (back body beneath rest ∷ ls)) →
        Sure (suc n) K (at m gl lo st (w.Br 1 ∷ is) (past under behind ∷ back body beneath rest ∷ ls))
    again {st} {under} {is} {behind} {body} h =
        one r (acts (WInstr-F.Br 1) (w.Br 1) (v.rolls-Br 1) is (at m gl lo st (w.Br 1 ∷ is) (past under behind ∷ back body beneath rest ∷ ls)) refl) h
