-- What each instruction takes and gives (WebAssembly Core Specification 1.0, section 3.3), in the order of the opcodes, or the first
-- of its indices and immediates that is wrong: indices come first, in byte order, and then what the other immediates owe.
-- Operands are listed with the top one first.
use Rattle.std.specs.Prelude.{ℕ, Bool, true, false, List, [], ◌∷◌, Option, Some, None, Result, Ok, Err, ◌&&◌, map, reverse, slice_get, option_map, option_to_list, nat_lt, nat_le, if◌then◌else◌}
use Rattle.wasm_ast.specs.SameTypes.{is_same_result}
use Rattle.wasm_ast.specs.declared.types.ValTy.{ValTy}
use Rattle.wasm_ast.specs.declared.types.ValTy.TheVariants.{I32, I64}
use Rattle.wasm_ast.specs.declared.instructions.WInstr.TheOpen.{WInstr-F}
use Rattle.wasm_typing.specs.declared.rule.WRule.{WRule}
use Rattle.wasm_typing.specs.declared.rule.WRule.TheVariants.{TypeIndex, FuncIndex, TableIndex, MemoryIndex, GlobalIndex, LocalIndex, LabelIndex, ConstGlobal, Alignment, LabelTypes}
use Rattle.wasm_typing.specs.declared.context.Context.{Context}
use Rattle.wasm_operators.specs.declared.CvtOp.TheVariants as convert
use Rattle.wasm_ast.specs.Operations.{Operation, operation_in}
use Rattle.wasm_ast.specs.Operations as op

-- an operand in a signature: of this type, or of the one type at which the instruction is used (`drop`, `select`)
pub data Slot : Type 0 where
  The : ValTy → Slot
  Same : Slot

-- what stands after an instruction in the place of what it took: at most one operand, or any, where it never goes on
pub data Left : Type 0 where
  Gives : Option Slot → Left
  Anything : Left

pub record Signature : Type 0 where
  pub takes : List Slot
  pub left : Left

infix 4 ◌⇒◌
abbrev pub ◌⇒◌ : List Slot → Option Slot → Signature
takes ⇒ slot = record { takes = takes; left = Gives slot }

-- an unconditional branch, or `unreachable`
abbrev pub leaves : List Slot → Signature
leaves takes = record { takes = takes; left = Anything }

abbrev pub operands_of : Option ValTy → List Slot
operands_of t = option_to_list (option_map The t)

-- what an index found, or the rule
abbrev pub found : {A : Type 0} → WRule → Option A → (A → Result Signature WRule) → Result Signature WRule
found rule None go = Err rule
found rule (Some a) go = go a

abbrev pub needs : WRule → Bool → Signature → Result Signature WRule
needs rule true s = Ok s
needs rule false s = Err rule

abbrev pub all_of : {A : Type 0} → List (Option A) → Option (List A)
all_of [] = Some []
all_of (None ∷ os) = None
all_of (Some a ∷ os) = option_map (λ as'. a ∷ as') (all_of os)

abbrev pub all_same : Option ValTy → List (Option ValTy) → Bool
all_same t [] = true
all_same t (u ∷ us) = is_same_result u t && all_same t us

-- blocks, loops and ifs are typed with the lists that they nest; this is never asked
abbrev pub no_signature : Result Signature WRule
no_signature = Err TypeIndex

module _ (C : Context) (ls : List (Option ValTy)) where
  -- a load or store: memory 0 has to be there, and the alignment exponent is at most the binary logarithm of the width (3.3.4)
  abbrev pub in_memory : ℕ → ℕ → Signature → Result Signature WRule
  in_memory log_width align s = if nat_lt 0 C.memories then needs Alignment (nat_le align log_width) s else Err MemoryIndex

  abbrev pub signature_of : {A : Type 0} → Operation A → Result Signature WRule
  signature_of op.Unreachable = Ok (leaves [])
  signature_of op.Nop = Ok ([] ⇒ None)
  signature_of (op.Block _ _) = no_signature
  signature_of (op.Loop _ _) = no_signature
  signature_of (op.If _ _) = no_signature
  signature_of (op.IfElse _ _ _) = no_signature
  signature_of (op.Br n) = found LabelIndex (slice_get ls n) (λ t. Ok (leaves (operands_of t)))
  signature_of (op.BrIf n) = found LabelIndex (slice_get ls n) (λ t. Ok (The I32 ∷ operands_of t ⇒ option_map The t))
  signature_of (op.BrTable labels default) = found LabelIndex (all_of (map (slice_get ls) labels)) (λ ts. found LabelIndex (slice_get ls default) (λ t. needs LabelTypes (all_same t ts) (leaves (The I32 ∷ operands_of t))))
  signature_of op.Return = Ok (leaves (operands_of C.result))
  signature_of (op.Call n) = found FuncIndex (slice_get C.functions n) (λ f. Ok (reverse (map The f.params) ⇒ option_map The f.result))
  signature_of (op.CallIndirect n) = found TypeIndex (slice_get C.types n) (λ f. needs TableIndex (nat_lt 0 C.tables) (The I32 ∷ reverse (map The f.params) ⇒ option_map The f.result))
  signature_of op.Drop = Ok (Same ∷ [] ⇒ None)
  signature_of op.Select = Ok (The I32 ∷ Same ∷ Same ∷ [] ⇒ Some Same)
  signature_of (op.LocalGet n) = found LocalIndex (slice_get C.locals n) (λ t. Ok ([] ⇒ Some (The t)))
  signature_of (op.LocalSet n) = found LocalIndex (slice_get C.locals n) (λ t. Ok (The t ∷ [] ⇒ None))
  signature_of (op.LocalTee n) = found LocalIndex (slice_get C.locals n) (λ t. Ok (The t ∷ [] ⇒ Some (The t)))
  signature_of (op.GlobalGet n) = found GlobalIndex (slice_get C.globals n) (λ g. Ok ([] ⇒ Some (The g.ty)))
  signature_of (op.GlobalSet n) = found GlobalIndex (slice_get C.globals n) (λ g. needs ConstGlobal g.mutable (The g.ty ∷ [] ⇒ None))
  signature_of (op.Load t access align _) = in_memory access.log_width align (The I32 ∷ [] ⇒ Some (The t))
  signature_of (op.Store t log_width align _) = in_memory log_width align (The t ∷ The I32 ∷ [] ⇒ None)
  signature_of op.MemorySize = needs MemoryIndex (nat_lt 0 C.memories) ([] ⇒ Some (The I32))
  signature_of op.MemoryGrow = needs MemoryIndex (nat_lt 0 C.memories) (The I32 ∷ [] ⇒ Some (The I32))
  signature_of (op.Const32 _) = Ok ([] ⇒ Some (The I32))
  signature_of (op.Const64 _) = Ok ([] ⇒ Some (The I64))
  signature_of (op.Eqz t) = Ok (The t ∷ [] ⇒ Some (The I32))
  signature_of (op.Compare t _) = Ok (The t ∷ The t ∷ [] ⇒ Some (The I32))
  signature_of (op.Unary t _) = Ok (The t ∷ [] ⇒ Some (The t))
  signature_of (op.Binary t _) = Ok (The t ∷ The t ∷ [] ⇒ Some (The t))
  signature_of (op.Convert convert.Wrap) = Ok (The I64 ∷ [] ⇒ Some (The I32))
  signature_of (op.Convert _) = Ok (The I32 ∷ [] ⇒ Some (The I64))

  abbrev pub signature_in : {A : Type 0} → WInstr-F A → Result Signature WRule
  signature_in w = signature_of (operation_in w)
