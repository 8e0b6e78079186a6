-- What the tables make of an opcode and immediates has that opcode and those immediates: by what each entry has.
use Rattle.std.proofs.Common.{◌≡◌, ℕ, Bool, true, false, List, [], ◌∷◌, refl, subst, Option, Some, None}
use Rattle.std.specs.Prelude.{◌==◌, if◌then◌else◌}
use Rattle.std.specs.Option.{option_map}
use Rattle.std.proofs.lemmas.Bool.{eqb-true}
use Rattle.wasm_ast.specs.declared.instructions.WInstr.{WInstr}
use Rattle.wasm_ast.specs.declared.instructions.WInstr.TheOpen.{WInstr-F}
use Rattle.wasm_ast.specs.Opcodes.{opcode_in}
use Rattle.wasm_ast.specs.Immediates.{Immediate, Bare, Index, Labels, IndexZero, Zero, MemArg, Const32, Const64, Body, Bodies, immediate_in}
use Rattle.wasm_ast.specs.ByOpcode.{instruction_at, look_up, bare_instructions, index_instructions, label_instructions, index_zero_instructions, zero_instructions, memory_instructions, const32_instructions, const64_instructions, body_instructions, bodies_instructions}

-- `P` of each entry of a table
abbrev EachEntry : {X : Type 0} → (ℕ → X → Type 0) → List (ℕ × X) → Type 0
EachEntry P [] = Unit {0}
EachEntry P (entry ∷ entries) = P entry.0 entry.1 × EachEntry P entries

at_entry : {X : Type 0} (P : ℕ → X → Type 0) (test : Bool) (opcode : ℕ) (entry : ℕ × X) (rest : Option X) (x : X) → (entry.0 == opcode) ≡ test → P entry.0 entry.1 → (rest ≡ Some x → P opcode x) → (if test then Some entry.1 else rest) ≡ Some x → P opcode x
at_entry P true opcode entry rest x t h k e =
    let same : entry.0 ≡ opcode = eqb-true entry.0 opcode t in
    let one : entry.1 ≡ x = cc in
    subst (λ o. P o x) same (subst (λ y. P entry.0 y) one h)
at_entry P false opcode entry rest x t h k e = k e

-- what a table has at an opcode
found : {X : Type 0} (P : ℕ → X → Type 0) (table : List (ℕ × X)) (opcode : ℕ) (x : X) → EachEntry P table → look_up opcode table ≡ Some x → P opcode x
found P [] opcode x h e = absurd (cc)
found P (entry ∷ entries) opcode x h e = at_entry P (entry.0 == opcode) opcode entry (look_up opcode entries) x refl h.0 (found P entries opcode x h.1) e

-- what is made of an entry, where there is one
made_of : {X Y : Type 0} (o : Option X) (make : X → Y) (y : Y) → option_map make o ≡ Some y → (x : X) × (o ≡ Some x) × (make x ≡ y)
made_of (Some x) make y e = (x, refl, cc)
made_of None make y e = absurd (cc)

-- an instruction has this opcode and these immediates
abbrev pub HasParts : ℕ → Immediate WInstr → WInstr-F WInstr → Type 0
HasParts opcode immediate x = (opcode_in x ≡ opcode) × (immediate_in x ≡ immediate)

-- what `make` makes of an entry, where what it makes of each entry has the entry's opcode and these immediates
by_entries : {X : Type 0} (table : List (ℕ × X)) (opcode : ℕ) (immediate : Immediate WInstr) (make : X → WInstr-F WInstr) (y : WInstr-F WInstr) → EachEntry (λ o x. HasParts o immediate (make x)) table → option_map make (look_up opcode table) ≡ Some y → HasParts opcode immediate y
by_entries table opcode immediate make y h e =
    let m = made_of (look_up opcode table) make y e in
    subst (HasParts opcode immediate) m.2 (found (λ o x. HasParts o immediate (make x)) table opcode m.0 h m.1)

-- an instruction of this opcode alone, by a test
abbrev is_bare : Immediate WInstr → Bool
is_bare Bare = true
is_bare _ = false

-- a table of such instructions, by a test
abbrev are_bare : List (ℕ × WInstr-F WInstr) → Bool
are_bare [] = true
are_bare (entry ∷ entries) = if opcode_in entry.1 == entry.0 then (if is_bare (immediate_in entry.1) then are_bare entries else false) else false

bare : (immediate : Immediate WInstr) → is_bare immediate ≡ true → immediate ≡ Bare
bare Bare e = refl
bare _ e = absurd (cc)

by_tests : (s t u : Bool) → (if s then (if t then u else false) else false) ≡ true → (s ≡ true) × (t ≡ true) × (u ≡ true)
by_tests true true u e = (refl, refl, e)
by_tests true false u e = absurd (cc)
by_tests false t u e = absurd (cc)

each_bare : (table : List (ℕ × WInstr-F WInstr)) → are_bare table ≡ true → EachEntry (λ o x. HasParts o Bare x) table
each_bare [] e = tt
each_bare (entry ∷ entries) e =
    let t = by_tests (opcode_in entry.1 == entry.0) (is_bare (immediate_in entry.1)) (are_bare entries) e in
    ((eqb-true (opcode_in entry.1) entry.0 t.0, bare (immediate_in entry.1) t.1), each_bare entries t.2)

-- the instruction that the tables have at an opcode, with these immediates
pub by_opcode : (opcode : ℕ) (immediate : Immediate WInstr) (x : WInstr-F WInstr) → instruction_at opcode immediate ≡ Some x → HasParts opcode immediate x
by_opcode opcode Bare x e = found (λ o y. HasParts o Bare y) bare_instructions opcode x (each_bare bare_instructions refl) e
by_opcode opcode (Index n) x e =
    by_entries index_instructions opcode (Index n) (λ make. make n) x
    ((refl, refl), ((refl, refl), ((refl, refl), ((refl, refl), ((refl, refl), ((refl, refl), ((refl, refl), ((refl, refl), tt)))))))) e
by_opcode opcode (Labels labels default) x e =
    by_entries label_instructions opcode (Labels labels default) (λ make. make labels default) x ((refl, refl), tt) e
by_opcode opcode (IndexZero n) x e = by_entries index_zero_instructions opcode (IndexZero n) (λ make. make n) x ((refl, refl), tt) e
by_opcode opcode Zero x e = found (λ o y. HasParts o Zero y) zero_instructions opcode x ((refl, refl), ((refl, refl), tt)) e
by_opcode opcode (MemArg align offset) x e =
    by_entries memory_instructions opcode (MemArg align offset) (λ make. make align offset) x (
      (refl, refl),
      (
        (refl, refl),
        (
          (refl, refl),
          (
            (refl, refl),
            (
              (refl, refl),
              (
                (refl, refl),
                (
                  (refl, refl),
                  (
                    (refl, refl),
                    (
                      (refl, refl),
                      (
                        (refl, refl),
                        ((refl, refl), ((refl, refl), ((refl, refl), ((refl, refl), ((refl, refl), ((refl, refl), ((refl, refl), ((refl, refl), ((refl, refl), tt))))))))),
                      ),
                    ),
                  ),
                ),
              ),
            ),
          ),
        ),
      ),
    ) e
by_opcode opcode (Const32 n) x e = by_entries const32_instructions opcode (Const32 n) (λ make. make n) x ((refl, refl), tt) e
by_opcode opcode (Const64 n) x e = by_entries const64_instructions opcode (Const64 n) (λ make. make n) x ((refl, refl), tt) e
by_opcode opcode (Body t xs) x e =
    by_entries body_instructions opcode (Body t xs) (λ make. make t xs) x ((refl, refl), ((refl, refl), ((refl, refl), tt))) e
by_opcode opcode (Bodies t xs ys) x e = by_entries bodies_instructions opcode (Bodies t xs ys) (λ make. make t xs ys) x ((refl, refl), tt) e
