-- What is answered about an instruction that nests none, by its signature (WebAssembly Core Specification 1.0, section 3.3).
use Rattle.std.specs.Prelude.{◌≡◌, ℕ, Bool, List, Option, Some, Result, Ok, Err, ⊤, map, slice_get}
use Rattle.wasm_ast.specs.declared.types.ValTy.{ValTy}
use Rattle.wasm_ast.specs.declared.instructions.WInstr.{WInstr}
use Rattle.wasm_ast.specs.Operations.{Operation}
use Rattle.wasm_typing.specs.declared.rule.WRule.{WRule}
use Rattle.wasm_typing.specs.declared.context.Context.{Context}
use Rattle.wasm_typing.specs.Signatures.{Signature, signature_of, all_of, all_same}
use Rattle.wasm_typing.specs.Typing.{Labels}
use Rattle.wasm_typing_laws.specs.Checking.{Seen, go_on}
use Rattle.wasm_operands.specs.declared.operands.Stop.{Stop}
use Rattle.wasm_operands.specs.declared.operands.Stop.TheVariants as stop
use Rattle.wasm_operands.specs.Taking.{applied}

-- the same of a signature that may be wrong itself
abbrev pub IsApplied : Result Signature WRule → Seen → Result ⊤ Stop → Seen → Type 0
IsApplied s before (Ok _) after = go_on s (λ x. applied x before) ≡ Ok after
IsApplied s before (Err (stop.Broken r)) after = go_on s (λ x. applied x before) ≡ Err r
IsApplied s before (Err stop.Memory) after = Unit {0}

-- these labels are all there, and this says whether all have this type
pub record AgreeAs (ls : Labels) (indices : List ℕ) (t : Option ValTy) (same : Bool) : Type 0 where
  pub types : List (Option ValTy)
  pub there : all_of (map (slice_get ls) indices) ≡ Some types
  pub told : same ≡ all_same t types

module _ (C : Context) where
  abbrev pub plain_checked : Labels → Operation WInstr → Seen → Result Seen WRule
  plain_checked ls o seen = go_on (signature_of C ls o) (λ s. applied s seen)

  -- an answer about a plain instruction is the checker's, or want of memory
  abbrev pub IsChecked : Labels → Operation WInstr → Seen → Result ⊤ Stop → Seen → Type 0
  IsChecked ls o before (Ok _) after = plain_checked ls o before ≡ Ok after
  IsChecked ls o before (Err (stop.Broken r)) after = plain_checked ls o before ≡ Err r
  IsChecked ls o before (Err stop.Memory) after = Unit {0}
