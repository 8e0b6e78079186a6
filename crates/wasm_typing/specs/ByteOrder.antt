-- The rules of typing read in byte order: what each token makes of the open lists (this project's own).
use Rattle.std.specs.Prelude.{◌≡◌, List, [], ◌∷◌, ◌++◌, Option, None, Ok, option_to_list}
use Rattle.wasm_ast.specs.declared.types.ValTy.{ValTy}
use Rattle.wasm_ast.specs.declared.types.ValTy.TheVariants.{I32}
use Rattle.wasm_typing.specs.declared.context.Context.{Context}
use Rattle.wasm_typing.specs.Signatures.{Signature, signature_in}
use Rattle.wasm_typing.specs.Typing.{Applies, Labels}
use Rattle.wasm_typing.specs.Tokens.{Token, Plain, OpensBlock, OpensLoop, OpensIf, Else, End}

-- a list by the type of its result: that of a block, a second arm or a body; that of a loop; or the first arm of an if
pub data Shape : Type 0 where
  Straight : Option ValTy → Shape
  Again : Option ValTy → Shape
  FirstArm : Option ValTy → Shape

abbrev pub result_of : Shape → Option ValTy
result_of (Straight t) = t
result_of (Again t) = t
result_of (FirstArm t) = t

abbrev pub label_of : Shape → Option ValTy
label_of (Straight t) = t
label_of (Again t) = None
label_of (FirstArm t) = t

-- a list that is open, with what is known of its operands
pub record Open (A : Type 0) : Type 0 where
  pub shape : Shape
  pub operands : A

abbrev pub labels : {A : Type 0} → List (Open A) → Labels
labels [] = []
labels (o ∷ os) = label_of o.shape ∷ labels os

abbrev pub put : {A : Type 0} → Open A → A → Open A
put o st = record { shape = o.shape; operands = st }

-- a first arm ends without `else` only where it has no result
abbrev pub MayEnd : Shape → Type 0
MayEnd (FirstArm t) = t ≡ None
MayEnd _ = Unit {0}

abbrev pub given : Option ValTy → List (Open (List ValTy)) → List (Open (List ValTy))
given t [] = []
given t (o ∷ os) = put o (option_to_list t ++ o.operands) ∷ os

module _ (C : Context) where
  abbrev pub leads : Token → List (Open (List ValTy)) → List (Open (List ValTy)) → Type 0
  leads t [] to = ⊥
  leads (Plain w) (o ∷ os) to = (s : Signature) × (after : List ValTy) × (signature_in C (labels (o ∷ os)) w ≡ Ok s) × Applies s o.operands after × (to ≡ put o after ∷ os)
  leads (OpensBlock t) (o ∷ os) to = to ≡ record { shape = Straight t; operands = [] } ∷ o ∷ os
  leads (OpensLoop t) (o ∷ os) to = to ≡ record { shape = Again t; operands = [] } ∷ o ∷ os
  leads (OpensIf t) (o ∷ os) to = (below : List ValTy) × (o.operands ≡ I32 ∷ below) × (to ≡ record { shape = FirstArm t; operands = [] } ∷ put o below ∷ os)
  leads Else (o ∷ os) to = (t : Option ValTy) × (o.shape ≡ FirstArm t) × (o.operands ≡ option_to_list t) × (to ≡ record { shape = Straight t; operands = [] } ∷ os)
  leads End (o ∷ os) to = (o.operands ≡ option_to_list (result_of o.shape)) × MayEnd o.shape × (to ≡ given (result_of o.shape) os)

  abbrev pub Leads : List Token → List (Open (List ValTy)) → List (Open (List ValTy)) → Type 0
  Leads [] os to = os ≡ to
  Leads (t ∷ ts) os to = (mid : List (Open (List ValTy))) × leads t os mid × Leads ts mid to

  abbrev pub start : List (Open (List ValTy))
  start = record { shape = Straight C.result; operands = [] } ∷ []
