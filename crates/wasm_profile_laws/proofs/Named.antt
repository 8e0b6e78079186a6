-- What an instruction with a signature names is there, so its number fits where the lists of the context are short.
use Rattle.std.proofs.Common.{◌≡◌, ℕ, zero, suc, ◌^◌, ◌<◌, ◌≤◌, List, [], ◌∷◌, All, Option, Some, None, length, map, refl, arith}
use Rattle.std.specs.Prelude.{Ok, Result, nat_lt, option_map, reverse, slice_get}
use Rattle.std.proofs.lemmas.List.Elements.{All-cons, All-nil}
use Rattle.wasm_ast.specs.declared.types.ValTy.{ValTy}
use Rattle.wasm_ast.specs.declared.types.ValTy.TheVariants.{I32}
use Rattle.wasm_ast.specs.declared.instructions.WInstr.{WInstr}
use Rattle.wasm_ast.specs.Immediates.{immediate_by}
use Rattle.wasm_ast.specs.Operations as op
use Rattle.wasm_ast.specs.Operations.{Operation}
use Rattle.wasm_grammar.specs.ProfileInstructions.{FitsU32, ImmediateFits}
use Rattle.wasm_typing.specs.declared.rule.WRule.{WRule}
use Rattle.wasm_typing.specs.declared.rule.WRule.TheVariants.{ConstGlobal, FuncIndex, GlobalIndex, LabelIndex, LabelTypes, LocalIndex, TableIndex, TypeIndex}
use Rattle.wasm_typing.specs.declared.context.Context.{Context}
use Rattle.wasm_typing.specs.Signatures.{Signature, The, all_of, all_same, found, leaves, needs, operands_of, signature_of, ◌⇒◌}
use Rattle.wasm_profile_laws.specs.Laws.{IsShortContext}
use Rattle.wasm_profile_laws.specs.Literals.{LiteralFits}

-- an index that finds something is less than the list is long
within : {A : Type 0} (rule : WRule) (xs : List A) (n : ℕ) (go : A → Result Signature WRule) (s : Signature) → found rule (slice_get xs n) go ≡ Ok s → n < length xs
within rule [] n go s e = cc
within rule (x ∷ xs) zero go s e = omega arith
within rule (x ∷ xs) (suc n) go s e = omega (arith, within rule xs n go s e)

-- all labels of a table
inside : {A : Type 0} (xs : List A) (n : ℕ) (x : A) → slice_get xs n ≡ Some x → n < length xs
inside [] n x e = cc
inside (y ∷ xs) zero x e = omega arith
inside (y ∷ xs) (suc n) x e = omega (arith, inside xs n x e)

found_some : {A : Type 0} (rule : WRule) (o : Option A) (go : A → Result Signature WRule) (s : Signature) → found rule o go ≡ Ok s → (a : A) × (o ≡ Some a) × (go a ≡ Ok s)
found_some rule None go s e = cc
found_some rule (Some a) go s e = (a, refl, e)

module _ (ls : List (Option ValTy)) (short : length ls ≤ 2 ^ 32) where
  parted : (o : Option (Option ValTy)) (os : List (Option (Option ValTy))) (ts : List (Option ValTy)) → all_of (o ∷ os) ≡ Some ts → ((t : Option ValTy) × (o ≡ Some t)) × ((us : List (Option ValTy)) × (all_of os ≡ Some us))
  parted None os ts e = cc
  parted (Some t) os ts e = ((t, refl), rest (all_of os) refl e)
    where
      rest : (r : Option (List (Option ValTy))) → all_of os ≡ r → option_map (λ us. t ∷ us) r ≡ Some ts → (us : List (Option ValTy)) × (all_of os ≡ Some us)
      rest None same f = cc
      rest (Some us) same f = (us, same)

  all_within : (labels : List ℕ) (ts : List (Option ValTy)) → all_of (map (slice_get ls) labels) ≡ Some ts → All FitsU32 labels
  all_within [] ts e = All-nil FitsU32
  all_within (n ∷ labels) ts e =
      let p = parted (slice_get ls n) (map (slice_get ls) labels) ts e in
      All-cons FitsU32 n labels (omega (arith, short, inside ls n p.0.0 p.0.1)) (all_within labels p.1.0 p.1.1)

  module _ (C : Context) (lists : IsShortContext C) where
    pub named : (o : Operation WInstr) (s : Signature) → signature_of C ls o ≡ Ok s → LiteralFits (immediate_by o) → ImmediateFits (immediate_by o)
    named op.Unreachable s e h = tt
    named op.Nop s e h = tt
    named (op.Block t xs) s e h = cc
    named (op.Loop t xs) s e h = cc
    named (op.If t xs) s e h = cc
    named (op.IfElse t xs ys) s e h = cc
    named (op.Br n) s e h = omega (arith, short, within LabelIndex ls n (λ t. Ok (leaves (operands_of t))) s e)
    named (op.BrIf n) s e h = omega (arith, short, within LabelIndex ls n (λ t. Ok (The I32 ∷ operands_of t ⇒ option_map The t)) s e)
    named (op.BrTable labels default) s e h =
        let last = λ (ts : List (Option ValTy)) (t : Option ValTy). needs LabelTypes (all_same t ts) (leaves (The I32 ∷ operands_of t)) in
        let all = found_some LabelIndex (all_of (map (slice_get ls) labels)) (λ ts. found LabelIndex (slice_get ls default) (last ts)) s e in
        (record { short = h; each = all_within labels all.0 all.1 }, omega (arith, short, within LabelIndex ls default (last all.0) s all.2))
    named op.Return s e h = tt
    named (op.Call n) s e h = omega (arith, lists.functions, within FuncIndex C.functions n (λ f. Ok (reverse (map The f.params) ⇒ option_map The f.result)) s e)
    named (op.CallIndirect n) s e h =
        omega (arith, lists.types, within TypeIndex C.types n (λ f. needs TableIndex (nat_lt 0 C.tables) (The I32 ∷ reverse (map The f.params) ⇒ option_map The f.result)) s e)
    named op.Drop s e h = tt
    named op.Select s e h = tt
    named (op.LocalGet n) s e h = omega (arith, lists.locals, within LocalIndex C.locals n (λ t. Ok ([] ⇒ Some (The t))) s e)
    named (op.LocalSet n) s e h = omega (arith, lists.locals, within LocalIndex C.locals n (λ t. Ok (The t ∷ [] ⇒ None)) s e)
    named (op.LocalTee n) s e h = omega (arith, lists.locals, within LocalIndex C.locals n (λ t. Ok (The t ∷ [] ⇒ Some (The t))) s e)
    named (op.GlobalGet n) s e h = omega (arith, lists.globals, within GlobalIndex C.globals n (λ g. Ok ([] ⇒ Some (The g.ty))) s e)
    named (op.GlobalSet n) s e h = omega (arith, lists.globals, within GlobalIndex C.globals n (λ g. needs ConstGlobal g.mutable (The g.ty ∷ [] ⇒ None)) s e)
    named (op.Load t access align offset) s e h = h
    named (op.Store t width align offset) s e h = h
    named op.MemorySize s e h = tt
    named op.MemoryGrow s e h = tt
    named (op.Const32 n) s e h = h
    named (op.Const64 n) s e h = h
    named (op.Eqz t) s e h = tt
    named (op.Compare t x) s e h = tt
    named (op.Unary t x) s e h = tt
    named (op.Binary t x) s e h = tt
    named (op.Convert x) s e h = tt
