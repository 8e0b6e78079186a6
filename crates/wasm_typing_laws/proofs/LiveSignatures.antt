-- What a signature says of whether its instruction goes on, and how many operands it takes and leaves.
use Rattle.std.proofs.Common.{◌≡◌, ◌∙◌, ℕ, ◌+◌, ◌-◌, ◌≤◌, Bool, true, false, List, [], ◌∷◌, map, length, slice_get, refl, ap, subst, arith, reverse}
use Rattle.std.specs.Prelude.{Option, Some, None, Result, Ok, Err, option_map, nat_lt, nat_le, if◌then◌else◌}
use Rattle.std.proofs.lemmas.List.{length-append}
use Rattle.wasm_ast.specs.declared.types.ValTy.{ValTy}
use Rattle.wasm_ast.specs.declared.types.ValTy.TheVariants.{I32, I64}
use Rattle.wasm_ast.specs.Operations.{Operation}
use Rattle.wasm_ast.specs.Operations as op
use Rattle.wasm_operators.specs.declared.CvtOp.TheVariants as convert
use Rattle.wasm_typing.specs.declared.rule.WRule.{WRule}
use Rattle.wasm_typing.specs.declared.rule.WRule.TheVariants.{TypeIndex, FuncIndex, TableIndex, MemoryIndex, GlobalIndex, LocalIndex, LabelIndex, ConstGlobal, Alignment, LabelTypes}
use Rattle.wasm_typing.specs.declared.context.Context.{Context}
use Rattle.wasm_typing.specs.Signatures.{Slot, The, Same, Left, Gives, Anything, Signature, ◌⇒◌, leaves, operands_of, found, needs, all_of, all_same, in_memory, signature_of}
use Rattle.wasm_typing.specs.Typing.{Labels, fill, IsLeft, Applies}
use Rattle.wasm_typing.specs.Heights.{count}
use Rattle.wasm_typing.specs.Points.{never_goes_on}

-- whether an instruction never goes on, and what its signature leaves
abbrev pub Sided : Bool → Left → Type 0
Sided true Anything = Unit {0}
Sided true (Gives g) = ⊥
Sided false Anything = ⊥
Sided false (Gives g) = Unit {0}

found-back : {A : Type 0} (rule : WRule) (o : Option A) (go : A → Result Signature WRule) (s : Signature) → found rule o go ≡ Ok s → (a : A) × (go a ≡ Ok s)
found-back rule None go s e = absurd (cc)
found-back rule (Some a) go s e = (a, e)

needs-back : (rule : WRule) (b : Bool) (x s : Signature) → needs rule b x ≡ Ok s → x ≡ s
needs-back rule true x s e = cc
needs-back rule false x s e = absurd (cc)

chosen-back : (b : Bool) (x : Result Signature WRule) (rule : WRule) (s : Signature) → (if b then x else Err rule) ≡ Ok s → x ≡ Ok s
chosen-back true x rule s e = e
chosen-back false x rule s e = absurd (cc)

from : (b : Bool) (x s : Signature) → Sided b x.left → x ≡ s → Sided b s.left
from b x s h e = subst (λ (y : Signature). Sided b y.left) e h

module _ (C : Context) (ls : Labels) where
  in_memory-back : (log_width align : ℕ) (x s : Signature) → in_memory C ls log_width align x ≡ Ok s → x ≡ s
  in_memory-back log_width align x s e = needs-back Alignment (nat_le align log_width) x s (chosen-back (nat_lt 0 C.memories) (needs Alignment (nat_le align log_width) x) MemoryIndex s e)

  pub sided : {A : Type 0} (o : Operation A) (s : Signature) → signature_of C ls o ≡ Ok s → Sided (never_goes_on o) s.left
  sided op.Unreachable s e = from true (leaves []) s tt (cc)
  sided op.Nop s e = from false ([] ⇒ None) s tt (cc)
  sided (op.Block t xs) s e = absurd (cc)
  sided (op.Loop t xs) s e = absurd (cc)
  sided (op.If t xs) s e = absurd (cc)
  sided (op.IfElse t xs ys) s e = absurd (cc)
  sided (op.Br n) s e = let p = found-back LabelIndex (slice_get ls n) (λ t. Ok (leaves (operands_of t))) s e in from true (leaves (operands_of p.0)) s tt (let f = p.1 in cc)
  sided (op.BrIf n) s e = let p = found-back LabelIndex (slice_get ls n) (λ t. Ok (The I32 ∷ operands_of t ⇒ option_map The t)) s e in from false (The I32 ∷ operands_of p.0 ⇒ option_map The p.0) s tt (let f = p.1 in cc)
  sided (op.BrTable labels default) s e =
      let p = found-back LabelIndex (all_of (map (slice_get ls) labels)) (λ ts. found LabelIndex (slice_get ls default) (λ t. needs LabelTypes (all_same t ts) (leaves (The I32 ∷ operands_of t)))) s e in
      let q = found-back LabelIndex (slice_get ls default) (λ t. needs LabelTypes (all_same t p.0) (leaves (The I32 ∷ operands_of t))) s p.1 in
      from true (leaves (The I32 ∷ operands_of q.0)) s tt (needs-back LabelTypes (all_same q.0 p.0) (leaves (The I32 ∷ operands_of q.0)) s q.1)
  sided op.Return s e = from true (leaves (operands_of C.result)) s tt (cc)
  sided (op.Call n) s e =
      let p = found-back FuncIndex (slice_get C.functions n) (λ f. Ok (reverse (map The f.params) ⇒ option_map The f.result)) s e in
      from false (reverse (map The p.0.params) ⇒ option_map The p.0.result) s tt (let f = p.1 in cc)
  sided (op.CallIndirect n) s e =
      let p = found-back TypeIndex (slice_get C.types n) (λ f. needs TableIndex (nat_lt 0 C.tables) (The I32 ∷ reverse (map The f.params) ⇒ option_map The f.result)) s e in
      from false (The I32 ∷ reverse (map The p.0.params) ⇒ option_map The p.0.result) s tt (needs-back TableIndex (nat_lt 0 C.tables) (The I32 ∷ reverse (map The p.0.params) ⇒ option_map The p.0.result) s p.1)
  sided op.Drop s e = from false (Same ∷ [] ⇒ None) s tt (cc)
  sided op.Select s e = from false (The I32 ∷ Same ∷ Same ∷ [] ⇒ Some Same) s tt (cc)
  sided (op.LocalGet n) s e = let p = found-back LocalIndex (slice_get C.locals n) (λ t. Ok ([] ⇒ Some (The t))) s e in from false ([] ⇒ Some (The p.0)) s tt (let f = p.1 in cc)
  sided (op.LocalSet n) s e = let p = found-back LocalIndex (slice_get C.locals n) (λ t. Ok (The t ∷ [] ⇒ None)) s e in from false (The p.0 ∷ [] ⇒ None) s tt (let f = p.1 in cc)
  sided (op.LocalTee n) s e = let p = found-back LocalIndex (slice_get C.locals n) (λ t. Ok (The t ∷ [] ⇒ Some (The t))) s e in from false (The p.0 ∷ [] ⇒ Some (The p.0)) s tt (let f = p.1 in cc)
  sided (op.GlobalGet n) s e = let p = found-back GlobalIndex (slice_get C.globals n) (λ g. Ok ([] ⇒ Some (The g.ty))) s e in from false ([] ⇒ Some (The p.0.ty)) s tt (let f = p.1 in cc)
  sided (op.GlobalSet n) s e =
      let p = found-back GlobalIndex (slice_get C.globals n) (λ g. needs ConstGlobal g.mutable (The g.ty ∷ [] ⇒ None)) s e in
      from false (The p.0.ty ∷ [] ⇒ None) s tt (needs-back ConstGlobal p.0.mutable (The p.0.ty ∷ [] ⇒ None) s p.1)
  sided (op.Load t access align offset) s e = from false (The I32 ∷ [] ⇒ Some (The t)) s tt (in_memory-back access.log_width align (The I32 ∷ [] ⇒ Some (The t)) s e)
  sided (op.Store t log_width align offset) s e = from false (The t ∷ The I32 ∷ [] ⇒ None) s tt (in_memory-back log_width align (The t ∷ The I32 ∷ [] ⇒ None) s e)
  sided op.MemorySize s e = from false ([] ⇒ Some (The I32)) s tt (needs-back MemoryIndex (nat_lt 0 C.memories) ([] ⇒ Some (The I32)) s e)
  sided op.MemoryGrow s e = from false (The I32 ∷ [] ⇒ Some (The I32)) s tt (needs-back MemoryIndex (nat_lt 0 C.memories) (The I32 ∷ [] ⇒ Some (The I32)) s e)
  sided (op.Const32 n) s e = from false ([] ⇒ Some (The I32)) s tt (cc)
  sided (op.Const64 n) s e = from false ([] ⇒ Some (The I64)) s tt (cc)
  sided (op.Eqz t) s e = from false (The t ∷ [] ⇒ Some (The I32)) s tt (cc)
  sided (op.Compare t o) s e = from false (The t ∷ The t ∷ [] ⇒ Some (The I32)) s tt (cc)
  sided (op.Unary t o) s e = from false (The t ∷ [] ⇒ Some (The t)) s tt (cc)
  sided (op.Binary t o) s e = from false (The t ∷ The t ∷ [] ⇒ Some (The t)) s tt (cc)
  sided (op.Convert convert.Wrap) s e = from false (The I64 ∷ [] ⇒ Some (The I32)) s tt (cc)
  sided (op.Convert _) s e = from false (The I32 ∷ [] ⇒ Some (The I64)) s tt (cc)

length-fill : (t : ValTy) (ss : List Slot) → length (map (fill t) ss) ≡ length ss
length-fill t [] = refl
length-fill t (s ∷ ss) = let i = length-fill t ss in omega (arith, i)

-- how many operands stand behind an instruction that goes on
pub goes-on : (s : Signature) (g : Option Slot) (before after : List ValTy) → s.left ≡ Gives g → Applies s before after → length after ≡ (length before - length s.takes) + count g
goes-on s g before after e a =
    let taken : length before ≡ length s.takes + length a.below = ap length a.taken ∙ length-append (map (fill a.at) s.takes) a.below ∙ ap (λ (n : ℕ). n + length a.below) (length-fill a.at s.takes) in
    let given = leaves_as g (subst (λ (l : Left). IsLeft a.at l a.below after) e a.left) in
    omega (arith, taken, given)
  where
    leaves_as : (g : Option Slot) → IsLeft a.at (Gives g) a.below after → length after ≡ length a.below + count g
    leaves_as None h = let l = ap length h in omega (arith, l)
    leaves_as (Some x) h = let l = ap length h in let one : length (fill a.at x ∷ a.below) ≡ length a.below + 1 = omega arith in omega (arith, l, one)

-- it takes no more than there are
pub takes-some : (s : Signature) (before after : List ValTy) → Applies s before after → length s.takes ≤ length before
takes-some s before after a =
    let taken : length before ≡ length s.takes + length a.below = ap length a.taken ∙ length-append (map (fill a.at) s.takes) a.below ∙ ap (λ (n : ℕ). n + length a.below) (length-fill a.at s.takes) in
    omega (arith, taken)
