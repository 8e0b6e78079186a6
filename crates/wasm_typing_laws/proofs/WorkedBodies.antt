-- Rows: the checker computes where it stops.
use Rattle.std.proofs.Common.{◌≡◌, ◌∙◌, List, [], ◌∷◌, ◌++◌, refl, sym, ap}
use Rattle.std.specs.Prelude.{None, Some, Ok, flat_map}
use Rattle.wasm_ast.specs.declared.types.ValTy.TheVariants.{I64}
use Rattle.wasm_ast.specs.declared.instructions.WInstr as w
use Rattle.wasm_ast.specs.declared.instructions.WInstr.{WInstr, roll-WInstr}
use Rattle.wasm_ast.specs.declared.instructions.WInstr.TheOpen.{WInstr-F}
use Rattle.wasm_ast.specs.declared.instructions.WInstr.TheVariants as v
use Rattle.wasm_typing.specs.declared.rule.WRule.TheVariants.{EndOperands, OperandType, OperandMissing, LabelIndex}
use Rattle.wasm_typing.specs.Typing.{IsTypedBody}
use Rattle.wasm_typing.specs.Tokens.{Token, End, OpensBlock, OpensIf, code_of, Plain, tokens_of, tokens_in}
use Rattle.wasm_typing.specs.Rows.{lone_context}
use Rattle.wasm_typing_laws.specs.Checking.{walk, begin}
use Rattle.wasm_typing_laws.specs.Rows.{WorkedViolations}
use Rattle.wasm_typing_laws.proofs.Layers.{tokens-roll}
use Rattle.wasm_typing_laws.proofs.Refusals.{first_violation, goes_through}

by_layer : (x : WInstr-F WInstr) (i : WInstr) → roll-WInstr x ≡ i → tokens_of i ≡ tokens_in tokens_of x
by_layer x i rolls = ap tokens_of (sym rolls) ∙ tokens-roll x

const64 : tokens_of (w.I64Const 6) ≡ Plain (WInstr-F.I64Const 6) ∷ []
const64 = by_layer (WInstr-F.I64Const 6) _ (v.rolls-I64Const 6)

const1 : tokens_of (w.I64Const 1) ≡ Plain (WInstr-F.I64Const 1) ∷ []
const1 = by_layer (WInstr-F.I64Const 1) _ (v.rolls-I64Const 1)

const2 : tokens_of (w.I64Const 2) ≡ Plain (WInstr-F.I64Const 2) ∷ []
const2 = by_layer (WInstr-F.I64Const 2) _ (v.rolls-I64Const 2)

one32 : tokens_of (w.I32Const 1) ≡ Plain (WInstr-F.I32Const 1) ∷ []
one32 = by_layer (WInstr-F.I32Const 1) _ (v.rolls-I32Const 1)

zero32 : tokens_of (w.I32Const 0) ≡ Plain (WInstr-F.I32Const 0) ∷ []
zero32 = by_layer (WInstr-F.I32Const 0) _ (v.rolls-I32Const 0)

drops : tokens_of w.Drop ≡ Plain WInstr-F.Drop ∷ []
drops = by_layer WInstr-F.Drop _ v.rolls-Drop

selects : tokens_of w.Select ≡ Plain WInstr-F.Select ∷ []
selects = by_layer WInstr-F.Select _ v.rolls-Select

stops : tokens_of w.Unreachable ≡ Plain WInstr-F.Unreachable ∷ []
stops = by_layer WInstr-F.Unreachable _ v.rolls-Unreachable

branches : tokens_of (w.Br 0) ≡ Plain (WInstr-F.Br 0) ∷ []
branches = by_layer (WInstr-F.Br 0) _ (v.rolls-Br 0)

adds : tokens_of w.I32Add ≡ Plain WInstr-F.I32Add ∷ []
adds = by_layer WInstr-F.I32Add _ v.rolls-I32Add

adds64 : tokens_of w.I64Add ≡ Plain WInstr-F.I64Add ∷ []
adds64 = by_layer WInstr-F.I64Add _ v.rolls-I64Add

tests : tokens_of w.I32Eqz ≡ Plain WInstr-F.I32Eqz ∷ []
tests = by_layer WInstr-F.I32Eqz _ v.rolls-I32Eqz

dropped_code : code_of (w.I64Const 6 ∷ w.Drop ∷ []) ≡ Plain (WInstr-F.I64Const 6) ∷ Plain WInstr-F.Drop ∷ End ∷ []
dropped_code = ap (λ (a : List Token). (a ++ (tokens_of w.Drop ++ [])) ++ End ∷ []) const64 ∙ ap (λ (a : List Token). ((Plain (WInstr-F.I64Const 6) ∷ []) ++ (a ++ [])) ++ End ∷ []) drops

ifs : (xs : List WInstr) → tokens_of (w.If (Some I64) xs) ≡ OpensIf (Some I64) ∷ (flat_map tokens_of xs ++ End ∷ [])
ifs xs = by_layer (WInstr-F.If (Some I64) xs) _ (v.rolls-If (Some I64) xs)

blocks : (xs : List WInstr) → tokens_of (w.Block None xs) ≡ OpensBlock None ∷ (flat_map tokens_of xs ++ End ∷ [])
blocks xs = by_layer (WInstr-F.Block None xs) _ (v.rolls-Block None xs)

tables : tokens_of (w.BrTable (0 ∷ []) 1) ≡ Plain (WInstr-F.BrTable (0 ∷ []) 1) ∷ []
tables = by_layer (WInstr-F.BrTable (0 ∷ []) 1) _ (v.rolls-BrTable (0 ∷ []) 1)

typed_row : (body : List WInstr) (code : List Token) → code_of body ≡ code → walk lone_context code (begin lone_context) ≡ Ok [] → IsTypedBody lone_context body
typed_row body code e h = goes_through lone_context body (ap (λ (ts : List Token). walk lone_context ts (begin lone_context)) e ∙ h)

pub worked-violations : WorkedViolations
worked-violations = record {
  dropped = first_violation lone_context (w.I64Const 6 ∷ w.Drop ∷ []) (Plain (WInstr-F.I64Const 6) ∷ Plain WInstr-F.Drop ∷ []) End [] _ _ EndOperands dropped_code refl refl;
  no_else = first_violation lone_context (w.I32Const 1 ∷ w.If (Some I64) (w.I64Const 2 ∷ []) ∷ []) (Plain (WInstr-F.I32Const 1) ∷ OpensIf (Some I64) ∷ Plain (WInstr-F.I64Const 2) ∷ []) End (End ∷ []) _ _ EndOperands (simp (one32, ifs (w.I64Const 2 ∷ []), const2) refl) refl refl;
  dead_no_else = first_violation lone_context (w.I32Const 1 ∷ w.If (Some I64) (w.Unreachable ∷ []) ∷ []) (Plain (WInstr-F.I32Const 1) ∷ OpensIf (Some I64) ∷ Plain WInstr-F.Unreachable ∷ []) End (End ∷ []) _ _ EndOperands (simp (one32, ifs (w.Unreachable ∷ []), stops) refl) refl refl;
  dead_code = typed_row (w.Block None (w.Br 0 ∷ w.I32Add ∷ w.Drop ∷ []) ∷ w.I64Const 1 ∷ []) (OpensBlock None ∷ Plain (WInstr-F.Br 0) ∷ Plain WInstr-F.I32Add ∷ Plain WInstr-F.Drop ∷ End ∷ Plain (WInstr-F.I64Const 1) ∷ End ∷ []) (simp (blocks (w.Br 0 ∷ w.I32Add ∷ w.Drop ∷ []), branches, adds, drops, const1) refl) refl;
  dead_wrong = first_violation lone_context (w.Block None (w.Br 0 ∷ w.I64Const 1 ∷ w.I32Eqz ∷ w.Drop ∷ []) ∷ []) (OpensBlock None ∷ Plain (WInstr-F.Br 0) ∷ Plain (WInstr-F.I64Const 1) ∷ []) (Plain WInstr-F.I32Eqz) (Plain WInstr-F.Drop ∷ End ∷ End ∷ []) _ _ OperandType (simp (blocks (w.Br 0 ∷ w.I64Const 1 ∷ w.I32Eqz ∷ w.Drop ∷ []), branches, const1, tests, drops) refl) refl refl;
  select_unknown = typed_row (w.Unreachable ∷ w.Select ∷ []) (Plain WInstr-F.Unreachable ∷ Plain WInstr-F.Select ∷ End ∷ []) (simp (stops, selects) refl) refl;
  select_wrong = first_violation lone_context (w.Unreachable ∷ w.I32Const 1 ∷ w.I64Const 2 ∷ w.I32Const 0 ∷ w.Select ∷ []) (Plain WInstr-F.Unreachable ∷ Plain (WInstr-F.I32Const 1) ∷ Plain (WInstr-F.I64Const 2) ∷ Plain (WInstr-F.I32Const 0) ∷ []) (Plain WInstr-F.Select) (End ∷ []) _ _ OperandType (simp (stops, one32, const2, zero32, selects) refl) refl refl;
  table = first_violation lone_context (w.BrTable (0 ∷ []) 1 ∷ []) [] (Plain (WInstr-F.BrTable (0 ∷ []) 1)) (End ∷ []) _ _ LabelIndex (simp (tables) refl) refl refl;
  missing = first_violation lone_context (w.I64Const 1 ∷ w.I64Add ∷ []) (Plain (WInstr-F.I64Const 1) ∷ []) (Plain WInstr-F.I64Add) (End ∷ []) _ _ OperandMissing (simp (const1, adds64) refl) refl refl;
}
