-- The height of a code: the greatest number of operands that stand at once, in all open lists together, at a point that no
-- unconditional branch precedes in its own list or in a list around it (this project's own).
use Rattle.std.specs.Prelude.{ℕ, ◌+◌, ◌-◌, max, List, [], ◌∷◌, Option, Some, None, Result, Ok, Err, length}
use Rattle.wasm_ast.specs.declared.types.ValTy.{ValTy}
use Rattle.wasm_ast.specs.declared.instructions.WInstr.{WInstr, fold-WInstr}
use Rattle.wasm_ast.specs.declared.instructions.WInstr.TheOpen.{WInstr-F}
use Rattle.wasm_typing.specs.declared.rule.WRule.{WRule}
use Rattle.wasm_typing.specs.declared.context.Context.{Context}
use Rattle.wasm_typing.specs.Signatures.{Left, Gives, Anything, Signature, signature_in}
use Rattle.wasm_typing.specs.Typing.{Labels}

-- from a number of operands: how many there are behind it, where it goes on, and the most that stood there
pub record Met : Type 0 where
  pub after : Option ℕ
  pub most : ℕ

abbrev pub count : {A : Type 0} → Option A → ℕ
count None = 0
count (Some a) = 1

abbrev pub met_left : Left → ℕ → ℕ → Met
met_left (Gives g) below n = record { after = Some (below + count g); most = max n (below + count g) }
met_left Anything below n = record { after = None; most = n }

abbrev pub met_plain : Result Signature WRule → ℕ → Met
met_plain (Err r) n = record { after = None; most = n }
met_plain (Ok s) n = met_left s.left (n - length s.takes) n

abbrev pub met_then : Met → (ℕ → Met) → Met
met_then m go = elim m.after [ None ↦ m | Some n ↦ record { after = (go n).after; most = max m.most (go n).most } ]

abbrev pub met_list : {A : Type 0} → (A → Labels → ℕ → Met) → List A → Labels → ℕ → Met
met_list nested [] ls n = record { after = Some n; most = n }
met_list nested (x ∷ xs) ls n = met_then (nested x ls n) (met_list nested xs ls)

-- a block over `below` operands, whose lists met so many
abbrev pub met_block : Option ValTy → ℕ → ℕ → ℕ → Met
met_block t below n most = record { after = Some (below + count t); most = max n (max most (below + count t)) }

module _ (C : Context) where
  abbrev pub met_in : {A : Type 0} → (A → Labels → ℕ → Met) → WInstr-F A → Labels → ℕ → Met
  met_in nested (WInstr-F.Block t xs) ls n = met_block t n n (met_list nested xs (t ∷ ls) n).most
  met_in nested (WInstr-F.Loop t xs) ls n = met_block t n n (met_list nested xs (None ∷ ls) n).most
  met_in nested (WInstr-F.If t xs) ls n = met_block t (n - 1) n (met_list nested xs (t ∷ ls) (n - 1)).most
  met_in nested (WInstr-F.IfElse t xs ys) ls n = met_block t (n - 1) n (max (met_list nested xs (t ∷ ls) (n - 1)).most (met_list nested ys (t ∷ ls) (n - 1)).most)
  met_in nested w ls n = met_plain (signature_in C ls w) n

  abbrev pub met_of : WInstr → Labels → ℕ → Met
  met_of = fold-WInstr (Labels → ℕ → Met) (met_in (λ met. met))

  abbrev pub height_of : List WInstr → ℕ
  height_of body = (met_list met_of body (C.result ∷ []) 0).most
