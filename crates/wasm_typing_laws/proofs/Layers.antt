-- Tokens and signatures, one layer of a tree at a time.
use Rattle.std.proofs.Common.{◌≡◌, ◌∙◌, List, [], ◌∷◌, ◌++◌, map, refl, ap}
use Rattle.std.specs.Prelude.{Ok, flat_map}
use Rattle.wasm_ast.specs.declared.instructions.WInstr.{WInstr, out-WInstr, roll-WInstr, out-roll-WInstr, fold_out-WInstr, Nop}
use Rattle.wasm_ast.specs.declared.instructions.WInstr.TheFolds.{map-WInstr}
use Rattle.wasm_ast.specs.declared.instructions.WInstr.TheOpen.{WInstr-F}
use Rattle.wasm_typing.specs.declared.context.Context.{Context}
use Rattle.wasm_typing.specs.Signatures.{Signature, signature_in}
use Rattle.wasm_typing.specs.Typing.{Labels}
use Rattle.wasm_typing.specs.Tokens.{Token, Plain, OpensBlock, OpensLoop, OpensIf, Else, End, Bare, bare, tokens_in, tokens_of}

flat_map-map : {A B C : Type 0} (g : B → List C) (f : A → B) (xs : List A) → flat_map g (map f xs) ≡ flat_map (λ x. g (f x)) xs
flat_map-map g f [] = refl
flat_map-map g f (x ∷ xs) = ap (λ rest. g (f x) ++ rest) (flat_map-map g f xs)

tokens_in-map : {A : Type 0} (f : A → List Token) (x : WInstr-F A) → tokens_in (λ tokens. tokens) (map-WInstr A (List Token) f x) ≡ tokens_in f x
tokens_in-map f (WInstr-F.Block t xs) = ap (λ inner. OpensBlock t ∷ (inner ++ End ∷ [])) (flat_map-map (λ tokens. tokens) f xs)
tokens_in-map f (WInstr-F.Loop t xs) = ap (λ inner. OpensLoop t ∷ (inner ++ End ∷ [])) (flat_map-map (λ tokens. tokens) f xs)
tokens_in-map f (WInstr-F.If t xs) = ap (λ inner. OpensIf t ∷ (inner ++ End ∷ [])) (flat_map-map (λ tokens. tokens) f xs)
tokens_in-map f (WInstr-F.IfElse t xs ys) =
    ap (λ first. OpensIf t ∷ (first ++ (Else ∷ (flat_map (λ tokens. tokens) (map f ys) ++ End ∷ [])))) (flat_map-map (λ tokens. tokens) f xs)
    ∙ ap (λ second. OpensIf t ∷ (flat_map f xs ++ (Else ∷ (second ++ End ∷ [])))) (flat_map-map (λ tokens. tokens) f ys)
tokens_in-map f _ = refl

pub tokens-layer : (w : WInstr) → tokens_of w ≡ tokens_in tokens_of (out-WInstr w)
tokens-layer w = fold_out-WInstr (List Token) (tokens_in (λ tokens. tokens)) w ∙ tokens_in-map tokens_of (out-WInstr w)

pub tokens-roll : (x : WInstr-F WInstr) → tokens_of (roll-WInstr x) ≡ tokens_in tokens_of x
tokens-roll x = tokens-layer (roll-WInstr x) ∙ ap (tokens_in tokens_of) (out-roll-WInstr x)

module _ (C : Context) (ls : Labels) where
  pub signature-map : {A B : Type 0} (f : A → B) (x : WInstr-F A) → signature_in C ls (map-WInstr A B f x) ≡ signature_in C ls x
  signature-map f WInstr-F.Unreachable = refl
  signature-map f _ = refl

  pub signature-bare : {A : Type 0} (x : WInstr-F A) → signature_in C ls (bare x) ≡ signature_in C ls x
  signature-bare {A} x = signature-map {B = Unit {0}} (λ (_ : A). tt) x

  pub plain-tokens : (s : Signature) (x : WInstr-F WInstr) → signature_in C ls x ≡ Ok s → tokens_in tokens_of x ≡ Plain (bare x) ∷ []
  plain-tokens s (WInstr-F.Block t xs) e = absurd (cc)
  plain-tokens s (WInstr-F.Loop t xs) e = absurd (cc)
  plain-tokens s (WInstr-F.If t xs) e = absurd (cc)
  plain-tokens s (WInstr-F.IfElse t xs ys) e = absurd (cc)
  plain-tokens s _ e = refl

  -- a bare instruction that has a signature is one whole instruction
  abbrev pub full : Bare → WInstr-F WInstr
  full x = map-WInstr (Unit {0}) WInstr (λ _. Nop) x

  bare-full : (s : Signature) (x : Bare) → signature_in C ls x ≡ Ok s → bare (full x) ≡ x
  bare-full s (WInstr-F.Block t xs) e = absurd (cc)
  bare-full s (WInstr-F.Loop t xs) e = absurd (cc)
  bare-full s (WInstr-F.If t xs) e = absurd (cc)
  bare-full s (WInstr-F.IfElse t xs ys) e = absurd (cc)
  bare-full s _ e = refl

  pub full-tokens : (s : Signature) (x : Bare) → signature_in C ls x ≡ Ok s → tokens_of (roll-WInstr (full x)) ≡ Plain x ∷ []
  full-tokens s x e =
      tokens-roll (full x) ∙ plain-tokens s (full x) (signature-map (λ _. Nop) x ∙ e) ∙ ap (λ (y : Bare). Plain y ∷ []) (bare-full s x e)
