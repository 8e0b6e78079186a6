-- The opcode of an instruction tells what follows it: the tables that a reader looks into agree with those of the
-- trees, entry by entry.
use Rattle.std.proofs.Common.{◌≡◌, Bool, true, false, refl, Option, Some, None}
use Rattle.std.specs.Prelude.{◌==◌, ◌&&◌}
use Rattle.wasm_ast.specs.declared.instructions.WInstr.{WInstr, out-WInstr}
use Rattle.wasm_ast.specs.declared.instructions.WInstr.TheOpen.{WInstr-F}
use Rattle.wasm_ast.specs.Opcodes.{opcode_in, opcode_of}
use Rattle.wasm_ast.specs.Immediates.{Immediate, Bare, Index, Labels, IndexZero, Zero, MemArg, Const32, Const64, Body, Bodies, immediate_in, immediate_of}
use Rattle.wasm_grammar.specs.ProfileInstructions.{IsConstantIn, IsConstant}
use Rattle.wasm_reading.specs.declared.kinds.ImmediateKind.{ImmediateKind}
use Rattle.wasm_reading.specs.declared.kinds.ImmediateKind.TheVariants as kinds
use Rattle.wasm_reading.specs.ReadInstructions.{is_from_to, kind_of, constant_kind_of}

-- the kind of immediates that nest no instruction
abbrev pub kind_in : {A : Type 0} → Immediate A → Option ImmediateKind
kind_in Bare = Some kinds.Bare
kind_in (Index n) = Some kinds.Index
kind_in (Labels labels default) = Some kinds.Labels
kind_in (IndexZero n) = Some kinds.IndexZero
kind_in Zero = Some kinds.Zero
kind_in (MemArg align offset) = Some kinds.MemArg
kind_in (Const32 n) = Some kinds.Const32
kind_in (Const64 n) = Some kinds.Const64
kind_in (Body t xs) = None
kind_in (Bodies t xs ys) = None

-- immediates nest instructions
abbrev pub nests : {A : Type 0} → Immediate A → Bool
nests (Body t xs) = true
nests (Bodies t xs ys) = true
nests _ = false

-- immediates have two lists
abbrev pub has_else : {A : Type 0} → Immediate A → Bool
has_else (Bodies t xs ys) = true
has_else _ = false

-- a kind stands there
abbrev pub IsThere : Option ImmediateKind → Type 0
IsThere None = ⊥
IsThere (Some kind) = Unit {0}

-- instruction by instruction, by computing
kind_found : (x : WInstr-F WInstr) → kind_of (opcode_in x) ≡ kind_in (immediate_in x)
kind_found WInstr-F.Unreachable = refl
kind_found _ = refl

nests_found : (x : WInstr-F WInstr) → is_from_to 0x02 0x04 (opcode_in x) ≡ nests (immediate_in x)
nests_found WInstr-F.Unreachable = refl
nests_found _ = refl

else_found : (x : WInstr-F WInstr) → (has_else (immediate_in x) && (opcode_in x == 0x04)) ≡ has_else (immediate_in x)
else_found WInstr-F.Unreachable = refl
else_found _ = refl

constant_found : (x : WInstr-F WInstr) → IsConstantIn x → constant_kind_of (opcode_in x) ≡ kind_in (immediate_in x)
constant_found (WInstr-F.I32Const n) h = refl
constant_found (WInstr-F.I64Const n) h = refl
constant_found (WInstr-F.GlobalGet n) h = refl
constant_found _ h = absurd h

constant_back : (x : WInstr-F WInstr) → IsThere (constant_kind_of (opcode_in x)) → IsConstantIn x
constant_back WInstr-F.Unreachable h = h
constant_back _ h = h

constant_plain : (x : WInstr-F WInstr) → IsConstantIn x → IsThere (kind_in (immediate_in x))
constant_plain (WInstr-F.I32Const n) h = tt
constant_plain (WInstr-F.I64Const n) h = tt
constant_plain (WInstr-F.GlobalGet n) h = tt
constant_plain _ h = absurd h

-- what an opcode tells of the immediates
pub opcode_kind : (w : WInstr) → kind_of (opcode_of w) ≡ kind_in (immediate_of w)
opcode_kind w = kind_found (out-WInstr w)

pub opcode_nests : (w : WInstr) → is_from_to 0x02 0x04 (opcode_of w) ≡ nests (immediate_of w)
opcode_nests w = nests_found (out-WInstr w)

-- two lists stand behind the opcode of an if alone
pub else_opcode : (w : WInstr) → has_else (immediate_of w) ≡ true → (opcode_of w == 0x04) ≡ true
else_opcode w e = both (has_else (immediate_of w)) (opcode_of w == 0x04) (else_found (out-WInstr w)) e
  where
    both : (a b : Bool) → (a && b) ≡ a → a ≡ true → b ≡ true
    both true b h e = h
    both false b h e = absurd (cc)

-- an instruction that may stand in a constant expression
pub constant_kind : (w : WInstr) → IsConstant w → constant_kind_of (opcode_of w) ≡ kind_in (immediate_of w)
constant_kind w h = constant_found (out-WInstr w) h

pub constant_there : (w : WInstr) → IsConstant w → IsThere (kind_in (immediate_of w))
constant_there w h = constant_plain (out-WInstr w) h

pub is_constant : (w : WInstr) → IsThere (constant_kind_of (opcode_of w)) → IsConstant w
is_constant w h = constant_back (out-WInstr w) h
