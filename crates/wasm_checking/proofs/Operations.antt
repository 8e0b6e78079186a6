-- What an instruction does tells its layer.
use Rattle.std.proofs.Common.{◌≡◌, ◌∙◌, ◌+◌, List, [], ◌∷◌, ◌++◌, refl, ap, subst}
use Rattle.std.specs.Prelude.{Option, flat_map, sum_by}
use Rattle.wasm_ast.specs.declared.types.ValTy.{ValTy}
use Rattle.wasm_ast.specs.declared.instructions.WInstr.{WInstr, out-WInstr}
use Rattle.wasm_ast.specs.declared.instructions.WInstr.TheOpen.{WInstr-F}
use Rattle.wasm_ast.specs.Immediates.{immediate_in}
use Rattle.wasm_ast.proofs.Counts.{instruction_count, immediate_count, instruction_count-layer}
use Rattle.wasm_ast.specs.Operations as op
use Rattle.wasm_ast.specs.Operations.{Operation, operation_in}
use Rattle.wasm_typing.specs.Tokens.{Plain, OpensBlock, OpensLoop, OpensIf, Else, End, bare, tokens_in, tokens_of}
use Rattle.wasm_typing_laws.proofs.Layers.{tokens-layer}

-- an operation that nests no list
pub record NestsNone (o : Operation WInstr) : Type 0 where
  pub block : (t : Option ValTy) (xs : List WInstr) → o ≡ op.Block t xs → ⊥
  pub loop : (t : Option ValTy) (xs : List WInstr) → o ≡ op.Loop t xs → ⊥
  pub one_arm : (t : Option ValTy) (xs : List WInstr) → o ≡ op.If t xs → ⊥
  pub two_arms : (t : Option ValTy) (xs ys : List WInstr) → o ≡ op.IfElse t xs ys → ⊥

plain_in : (w : WInstr-F WInstr) → NestsNone (operation_in w) → tokens_in tokens_of w ≡ Plain (bare w) ∷ []
plain_in (WInstr-F.Block t xs) h = absurd (h.block t xs refl)
plain_in (WInstr-F.Loop t xs) h = absurd (h.loop t xs refl)
plain_in (WInstr-F.If t xs) h = absurd (h.one_arm t xs refl)
plain_in (WInstr-F.IfElse t xs ys) h = absurd (h.two_arms t xs ys refl)
plain_in _ h = refl

pub plain_tokens : (w : WInstr) (o : Operation WInstr) → o ≡ operation_in (out-WInstr w) → NestsNone o → tokens_of w ≡ Plain (bare (out-WInstr w)) ∷ []
plain_tokens w o e h = tokens-layer w ∙ plain_in (out-WInstr w) (subst (λ (x : Operation WInstr). NestsNone x) e h)

block_in : (w : WInstr-F WInstr) (t : Option ValTy) (xs : List WInstr) → op.Block t xs ≡ operation_in w → w ≡ WInstr-F.Block t xs
block_in (WInstr-F.Block u ys) t xs e = cc
block_in _ t xs e = absurd (cc)

loop_in : (w : WInstr-F WInstr) (t : Option ValTy) (xs : List WInstr) → op.Loop t xs ≡ operation_in w → w ≡ WInstr-F.Loop t xs
loop_in (WInstr-F.Loop u ys) t xs e = cc
loop_in _ t xs e = absurd (cc)

if_in : (w : WInstr-F WInstr) (t : Option ValTy) (xs : List WInstr) → op.If t xs ≡ operation_in w → w ≡ WInstr-F.If t xs
if_in (WInstr-F.If u ys) t xs e = cc
if_in _ t xs e = absurd (cc)

if_else_in : (w : WInstr-F WInstr) (t : Option ValTy) (xs ys : List WInstr) → op.IfElse t xs ys ≡ operation_in w → w ≡ WInstr-F.IfElse t xs ys
if_else_in (WInstr-F.IfElse u us vs) t xs ys e = cc
if_else_in _ t xs ys e = absurd (cc)

pub block_tokens : (w : WInstr) (t : Option ValTy) (xs : List WInstr) → op.Block t xs ≡ operation_in (out-WInstr w) → tokens_of w ≡ OpensBlock t ∷ (flat_map tokens_of xs ++ End ∷ [])
block_tokens w t xs e = tokens-layer w ∙ ap (tokens_in tokens_of) (block_in (out-WInstr w) t xs e)

pub loop_tokens : (w : WInstr) (t : Option ValTy) (xs : List WInstr) → op.Loop t xs ≡ operation_in (out-WInstr w) → tokens_of w ≡ OpensLoop t ∷ (flat_map tokens_of xs ++ End ∷ [])
loop_tokens w t xs e = tokens-layer w ∙ ap (tokens_in tokens_of) (loop_in (out-WInstr w) t xs e)

pub if_tokens : (w : WInstr) (t : Option ValTy) (xs : List WInstr) → op.If t xs ≡ operation_in (out-WInstr w) → tokens_of w ≡ OpensIf t ∷ (flat_map tokens_of xs ++ End ∷ [])
if_tokens w t xs e = tokens-layer w ∙ ap (tokens_in tokens_of) (if_in (out-WInstr w) t xs e)

pub if_else_tokens : (w : WInstr) (t : Option ValTy) (xs ys : List WInstr) → op.IfElse t xs ys ≡ operation_in (out-WInstr w) → tokens_of w ≡ OpensIf t ∷ (flat_map tokens_of xs ++ (Else ∷ (flat_map tokens_of ys ++ End ∷ [])))
if_else_tokens w t xs ys e = tokens-layer w ∙ ap (tokens_in tokens_of) (if_else_in (out-WInstr w) t xs ys e)

count_of : (w : WInstr) (x : WInstr-F WInstr) → out-WInstr w ≡ x → instruction_count w ≡ 1 + immediate_count instruction_count (immediate_in x)
count_of w x e = instruction_count-layer w ∙ ap (λ (y : WInstr-F WInstr). 1 + immediate_count instruction_count (immediate_in y)) e

pub block_count : (w : WInstr) (t : Option ValTy) (xs : List WInstr) → op.Block t xs ≡ operation_in (out-WInstr w) → instruction_count w ≡ 1 + sum_by instruction_count xs
block_count w t xs e = count_of w (WInstr-F.Block t xs) (block_in (out-WInstr w) t xs e)

pub loop_count : (w : WInstr) (t : Option ValTy) (xs : List WInstr) → op.Loop t xs ≡ operation_in (out-WInstr w) → instruction_count w ≡ 1 + sum_by instruction_count xs
loop_count w t xs e = count_of w (WInstr-F.Loop t xs) (loop_in (out-WInstr w) t xs e)

pub if_count : (w : WInstr) (t : Option ValTy) (xs : List WInstr) → op.If t xs ≡ operation_in (out-WInstr w) → instruction_count w ≡ 1 + sum_by instruction_count xs
if_count w t xs e = count_of w (WInstr-F.If t xs) (if_in (out-WInstr w) t xs e)

pub if_else_count : (w : WInstr) (t : Option ValTy) (xs ys : List WInstr) → op.IfElse t xs ys ≡ operation_in (out-WInstr w) → instruction_count w ≡ 1 + (sum_by instruction_count xs + sum_by instruction_count ys)
if_else_count w t xs ys e = count_of w (WInstr-F.IfElse t xs ys) (if_else_in (out-WInstr w) t xs ys e)
