-- An instruction that is no block, loop or if nests no instruction: for a `match` whose last arm takes the rest.
use Rattle.std.proofs.Common.{◌≡◌, ◌∙◌, List, sym}
use Rattle.std.specs.Prelude.{Option}
use Rattle.wasm_ast.specs.declared.types.ValTy.{ValTy}
use Rattle.wasm_ast.specs.declared.instructions.WInstr.{WInstr, Block, Loop, If, IfElse, out-WInstr, roll-WInstr, roll-out-WInstr}
use Rattle.wasm_ast.specs.declared.instructions.WInstr.TheOpen.{WInstr-F}
use Rattle.wasm_ast.specs.declared.instructions.WInstr.TheVariants.{rolls-Block, rolls-Loop, rolls-If, rolls-IfElse}
use Rattle.wasm_ast.specs.Immediates.{IsPlain, immediate_in, immediate_of}

-- an instruction is of none of the four variants that nest others
pub record NestsNone (w : WInstr) : Type 0 where
  pub block : (t : Option ValTy) (xs : List WInstr) → w ≡ Block t xs → ⊥
  pub loop : (t : Option ValTy) (xs : List WInstr) → w ≡ Loop t xs → ⊥
  pub one_arm : (t : Option ValTy) (xs : List WInstr) → w ≡ If t xs → ⊥
  pub two_arms : (t : Option ValTy) (xs ys : List WInstr) → w ≡ IfElse t xs ys → ⊥

plain_in : (x : WInstr-F WInstr) → NestsNone (roll-WInstr x) → IsPlain (immediate_in x)
plain_in (WInstr-F.Block t xs) h = absurd (h.block t xs (rolls-Block t xs))
plain_in (WInstr-F.Loop t xs) h = absurd (h.loop t xs (rolls-Loop t xs))
plain_in (WInstr-F.If t xs) h = absurd (h.one_arm t xs (rolls-If t xs))
plain_in (WInstr-F.IfElse t xs ys) h = absurd (h.two_arms t xs ys (rolls-IfElse t xs ys))
plain_in _ h = tt

pub is_plain : (w : WInstr) → NestsNone w → IsPlain (immediate_of w)
is_plain w h =
    let e = roll-out-WInstr w in
    plain_in (out-WInstr w) (record {
      block = λ t xs f. h.block t xs (sym e ∙ f);
      loop = λ t xs f. h.loop t xs (sym e ∙ f);
      one_arm = λ t xs f. h.one_arm t xs (sym e ∙ f);
      two_arms = λ t xs ys f. h.two_arms t xs ys (sym e ∙ f);
    })
