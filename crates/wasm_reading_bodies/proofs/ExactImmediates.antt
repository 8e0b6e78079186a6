-- The immediates of each kind are read exactly, and their numbers fit their fields.
use Rattle.std.proofs.Common.{◌≡◌, ◌∙◌, ℕ, ◌^◌, ◌<◌, List, refl, sym, ap, subst, Option, Some, None}
use Rattle.wasm_leb.specs.Leb.{IsSignedEnd}
use Rattle.wasm_leb.proofs.Spelled.{below, signed_below}
use Rattle.wasm_ast.specs.declared.instructions.WInstr.{WInstr}
use Rattle.wasm_ast.specs.Immediates.{Immediate, Bare, Index, Labels, IndexZero, Zero, MemArg, Const32, Const64, Body, Bodies}
use Rattle.wasm_grammar.specs.GrammarValues.{IsByte, IsUnsigned, IsSigned32, IsSigned64}
use Rattle.wasm_grammar.specs.GrammarInstructions.{IsImmediate}
use Rattle.wasm_grammar.specs.ProfileInstructions.{FitsU32, ImmediateFits}
use Rattle.wasm_reading.specs.declared.kinds.ImmediateKind.{ImmediateKind}
use Rattle.wasm_reading.specs.declared.kinds.ImmediateKind.TheVariants as kinds
use Rattle.wasm_reading.specs.Readers.{◌>>=◌, give}
use Rattle.wasm_reading.specs.ReadValues.{tag_at, only, u32_at}
use Rattle.wasm_reading.specs.ReadInstructions.{immediate_at}
use Rattle.wasm_reading_values.specs.Exactness.{Exact}
use Rattle.wasm_reading_values.proofs.Compose.{alike, giving, followed, made}
use Rattle.wasm_reading_values.proofs.ExactNumbers.{u32, s32, s64, only_byte}
use Rattle.wasm_reading_values.proofs.ExactLists.{unsigned_fits, each_fits, vector}
use Rattle.wasm_reading_bodies.proofs.OpcodeKinds.{kind_in}

-- immediates of a kind are made of what stands there
abbrev MadeBy : Option ImmediateKind → Immediate WInstr → Type 0
MadeBy None i = Unit {0}
MadeBy (Some kinds.Bare) i = i ≡ Bare
MadeBy (Some kinds.Index) i = (n : ℕ) × (i ≡ Index n)
MadeBy (Some kinds.Labels) i = (labels : List ℕ) × (default : ℕ) × (i ≡ Labels labels default)
MadeBy (Some kinds.IndexZero) i = (n : ℕ) × (i ≡ IndexZero n)
MadeBy (Some kinds.Zero) i = i ≡ Zero
MadeBy (Some kinds.MemArg) i = (align : ℕ) × (offset : ℕ) × (i ≡ MemArg align offset)
MadeBy (Some kinds.Const32) i = (n : ℕ) × (i ≡ Const32 n)
MadeBy (Some kinds.Const64) i = (n : ℕ) × (i ≡ Const64 n)

made_by : (i : Immediate WInstr) → MadeBy (kind_in i) i
made_by Bare = refl
made_by (Index n) = (n, refl)
made_by (Labels labels default) = (labels, default, refl)
made_by (IndexZero n) = (n, refl)
made_by Zero = refl
made_by (MemArg align offset) = (align, offset, refl)
made_by (Const32 n) = (n, refl)
made_by (Const64 n) = (n, refl)
made_by (Body t xs) = tt
made_by (Bodies t xs ys) = tt

of_kind : (kind : ImmediateKind) (i : Immediate WInstr) → kind_in i ≡ Some kind → MadeBy (Some kind) i
of_kind kind i e = subst (λ o. MadeBy o i) e (made_by i)

-- immediates of this kind, as the grammar spells them
abbrev pub IsOfKind : ImmediateKind → Immediate WInstr → List ℕ → Type 0
IsOfKind kind i bytes = (kind_in i ≡ Some kind) × IsImmediate i bytes

spelled_as : (i j : Immediate WInstr) (bytes : List ℕ) → i ≡ j → IsImmediate i bytes → IsImmediate j bytes
spelled_as i j bytes e h = subst (λ k. IsImmediate k bytes) e h

of_made : (kind : ImmediateKind) (i j : Immediate WInstr) (bytes : List ℕ) → kind_in j ≡ Some kind → i ≡ j → IsImmediate j bytes → IsOfKind kind i bytes
of_made kind i j bytes k e h = (ap kind_in e ∙ k, spelled_as j i bytes (sym e) h)

labels_exact : Exact (immediate_at kinds.Labels) (IsOfKind kinds.Labels)
labels_exact =
    alike (followed (λ labels. u32_at >>= λ default. give (Labels labels default)) (λ labels i bytes. (default : ℕ) × (i ≡ Labels labels default) × IsUnsigned default bytes) (vector u32)
    (λ labels. made (λ default. Labels labels default) u32))
    (λ i bytes p.
    let q = p.1 in
    let both : IsImmediate (Labels p.0 q.second.0) bytes = record { front = q.front; back = q.back; first = q.first; second = q.second.2; whole = q.whole } in
    of_made kinds.Labels i (Labels p.0 q.second.0) bytes refl q.second.1 both)
    (λ i bytes p.
    let m = of_kind kinds.Labels i p.0 in
    let q : IsImmediate (Labels m.0 m.1) bytes = spelled_as i (Labels m.0 m.1) bytes m.2 p.1 in
    (m.0, record { front = q.front; back = q.back; first = q.first; second = (m.1, m.2, q.second); whole = q.whole }))

index_zero_exact : Exact (immediate_at kinds.IndexZero) (IsOfKind kinds.IndexZero)
index_zero_exact =
    alike (followed (λ n. tag_at (only 0x00) >>= λ _. give (IndexZero n)) (λ n i bytes. (u : Unit {0}) × (i ≡ IndexZero n) × IsByte 0x00 bytes) u32
    (λ n. made (λ _. IndexZero n) (only_byte 0x00)))
    (λ i bytes p.
    let q = p.1 in
    let both : IsImmediate (IndexZero p.0) bytes = record { front = q.front; back = q.back; first = q.first; second = q.second.2; whole = q.whole } in
    of_made kinds.IndexZero i (IndexZero p.0) bytes refl q.second.1 both)
    (λ i bytes p.
    let m = of_kind kinds.IndexZero i p.0 in
    let q : IsImmediate (IndexZero m.0) bytes = spelled_as i (IndexZero m.0) bytes m.1 p.1 in
    (m.0, record { front = q.front; back = q.back; first = q.first; second = (tt, m.1, q.second); whole = q.whole }))

mem_arg_exact : Exact (immediate_at kinds.MemArg) (IsOfKind kinds.MemArg)
mem_arg_exact =
    alike (followed (λ align. u32_at >>= λ offset. give (MemArg align offset)) (λ align i bytes. (offset : ℕ) × (i ≡ MemArg align offset) × IsUnsigned offset bytes) u32
    (λ align. made (λ offset. MemArg align offset) u32))
    (λ i bytes p.
    let q = p.1 in
    let both : IsImmediate (MemArg p.0 q.second.0) bytes = record { front = q.front; back = q.back; first = q.first; second = q.second.2; whole = q.whole } in
    of_made kinds.MemArg i (MemArg p.0 q.second.0) bytes refl q.second.1 both)
    (λ i bytes p.
    let m = of_kind kinds.MemArg i p.0 in
    let q : IsImmediate (MemArg m.0 m.1) bytes = spelled_as i (MemArg m.0 m.1) bytes m.2 p.1 in
    (m.0, record { front = q.front; back = q.back; first = q.first; second = (m.1, m.2, q.second); whole = q.whole }))

-- the immediates of each kind
pub immediate : (kind : ImmediateKind) → Exact (immediate_at kind) (IsOfKind kind)
immediate kinds.Bare =
    alike (giving Bare)
    (λ i bytes p. of_made kinds.Bare i Bare bytes refl p.0 p.1)
    (λ i bytes p.
    let m = of_kind kinds.Bare i p.0 in
    (m, spelled_as i Bare bytes m p.1))
immediate kinds.Index =
    alike (made Index u32)
    (λ i bytes p. of_made kinds.Index i (Index p.0) bytes refl p.1 p.2)
    (λ i bytes p.
    let m = of_kind kinds.Index i p.0 in
    (m.0, m.1, spelled_as i (Index m.0) bytes m.1 p.1))
immediate kinds.Labels = labels_exact
immediate kinds.IndexZero = index_zero_exact
immediate kinds.Zero =
    alike (made (λ _. Zero) (only_byte 0x00))
    (λ i bytes p. of_made kinds.Zero i Zero bytes refl p.1 p.2)
    (λ i bytes p.
    let m = of_kind kinds.Zero i p.0 in
    (tt, m, spelled_as i Zero bytes m p.1))
immediate kinds.MemArg = mem_arg_exact
immediate kinds.Const32 =
    alike (made Const32 s32)
    (λ i bytes p. of_made kinds.Const32 i (Const32 p.0) bytes refl p.1 p.2)
    (λ i bytes p.
    let m = of_kind kinds.Const32 i p.0 in
    (m.0, m.1, spelled_as i (Const32 m.0) bytes m.1 p.1))
immediate kinds.Const64 =
    alike (made Const64 s64)
    (λ i bytes p. of_made kinds.Const64 i (Const64 p.0) bytes refl p.1 p.2)
    (λ i bytes p.
    let m = of_kind kinds.Const64 i p.0 in
    (m.0, m.1, spelled_as i (Const64 m.0) bytes m.1 p.1))

-- numbers that are spelled fit their fields
signed32_fits : (n : ℕ) (bytes : List ℕ) → IsSigned32 n bytes → n < 2 ^ 32
signed32_fits n bytes p = below IsSignedEnd signed_below (2 ^ 32) bytes n p

signed64_fits : (n : ℕ) (bytes : List ℕ) → IsSigned64 n bytes → n < 2 ^ 64
signed64_fits n bytes p = below IsSignedEnd signed_below (2 ^ 64) bytes n p

pub immediate_fits : (i : Immediate WInstr) (bytes : List ℕ) → IsImmediate i bytes → ImmediateFits i
immediate_fits Bare bytes p = tt
immediate_fits (Index n) bytes p = unsigned_fits n bytes p
immediate_fits (Labels labels default) bytes p =
    (record { short = unsigned_fits _ p.first.front p.first.first; each = each_fits FitsU32 IsUnsigned unsigned_fits labels p.first.back p.first.second }, unsigned_fits default p.back p.second)
immediate_fits (IndexZero n) bytes p = unsigned_fits n p.front p.first
immediate_fits Zero bytes p = tt
immediate_fits (MemArg align offset) bytes p = (unsigned_fits align p.front p.first, unsigned_fits offset p.back p.second)
immediate_fits (Const32 n) bytes p = signed32_fits n bytes p
immediate_fits (Const64 n) bytes p = signed64_fits n bytes p
immediate_fits (Body t xs) bytes p = p
immediate_fits (Bodies t xs ys) bytes p = p
