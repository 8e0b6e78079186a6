-- What each instruction of the codes is typed as, before the rest of its list.
use Rattle.std.proofs.Common.{◌≡◌, ℕ, ◌<◌, Bool, true, List, [], ◌∷◌, refl, sym, ap, ◌∙◌}
use Rattle.std.specs.Prelude.{Option, Some, None, Ok, Err, slice_get, nat_le, if◌then◌else◌}
use Rattle.std.proofs.lemmas.Bool.{lt-ltb}
use Rattle.wasm_ast.specs.declared.types.ValTy.{ValTy}
use Rattle.wasm_ast.specs.declared.types.ValTy.TheVariants.{I32, I64}
use Rattle.wasm_ast.specs.declared.instructions.WInstr as w
use Rattle.wasm_ast.specs.declared.instructions.WInstr.{WInstr, out-WInstr, roll-WInstr, out-roll-WInstr}
use Rattle.wasm_ast.specs.declared.instructions.WInstr.TheOpen.{WInstr-F}
use Rattle.wasm_ast.specs.declared.instructions.WInstr.TheVariants as v
use Rattle.wasm_typing.specs.declared.rule.WRule.TheVariants.{MemoryIndex, GlobalIndex, LocalIndex, LabelIndex, ConstGlobal, Alignment}
use Rattle.wasm_typing.specs.declared.context.Context.{Context}
use Rattle.wasm_typing.specs.declared.context.GlobalType.{GlobalType}
use Rattle.wasm_typing.specs.Signatures.{The, Signature, ◌⇒◌, leaves, operands_of, found, needs, signature_in}
use Rattle.wasm_typing.specs.Typing.{Applies, Labels, AreTyped, plain, loop, one_arm, two_arms, more}

module _ (C : Context) where
  one : {ls : Labels} {x : WInstr} {xs : List WInstr} {before between after : List ValTy} (s : Signature) → signature_in C ls (out-WInstr x) ≡ Ok s → Applies s before between → AreTyped C ls xs between after → AreTyped C ls (x ∷ xs) before after
  one {x = x} {xs} {between = between} s e a rest = more x xs between refl (plain s e a) rest

  pub get : {ls : Labels} {xs : List WInstr} {below after : List ValTy} {n : ℕ} (t : ValTy) → slice_get C.locals n ≡ Some t → AreTyped C ls xs (t ∷ below) after → AreTyped C ls (w.LocalGet n ∷ xs) below after
  unfolding out-WInstr denote.Hole.Carrier.out
  get {below = below} t e rest = one ([] ⇒ Some (The t)) (ap (λ (o : Option ValTy). found LocalIndex o (λ t. Ok ([] ⇒ Some (The t)))) e) (record { at = t; below = below; taken = refl; «left» = refl }) rest

  pub set : {ls : Labels} {xs : List WInstr} {below after : List ValTy} {n : ℕ} (t : ValTy) → slice_get C.locals n ≡ Some t → AreTyped C ls xs below after → AreTyped C ls (w.LocalSet n ∷ xs) (t ∷ below) after
  unfolding out-WInstr denote.Hole.Carrier.out
  set {below = below} t e rest = one (The t ∷ [] ⇒ None) (ap (λ (o : Option ValTy). found LocalIndex o (λ t. Ok (The t ∷ [] ⇒ None))) e) (record { at = t; below = below; taken = refl; «left» = refl }) rest

  pub global_get : {ls : Labels} {xs : List WInstr} {below after : List ValTy} {n : ℕ} (g : GlobalType) → slice_get C.globals n ≡ Some g → AreTyped C ls xs (g.ty ∷ below) after → AreTyped C ls (w.GlobalGet n ∷ xs) below after
  unfolding out-WInstr denote.Hole.Carrier.out
  global_get {below = below} g e rest = one ([] ⇒ Some (The g.ty)) (ap (λ (o : Option GlobalType). found GlobalIndex o (λ g. Ok ([] ⇒ Some (The g.ty)))) e) (record { at = I64; below = below; taken = refl; «left» = refl }) rest

  pub global_set : {ls : Labels} {xs : List WInstr} {below after : List ValTy} {n : ℕ} (t : ValTy) → slice_get C.globals n ≡ Some (record { ty = t; mutable = true }) → AreTyped C ls xs below after → AreTyped C ls (w.GlobalSet n ∷ xs) (t ∷ below) after
  unfolding out-WInstr denote.Hole.Carrier.out
  global_set {below = below} t e rest = one (The t ∷ [] ⇒ None) (ap (λ (o : Option GlobalType). found GlobalIndex o (λ g. needs ConstGlobal g.mutable (The g.ty ∷ [] ⇒ None))) e) (record { at = t; below = below; taken = refl; «left» = refl }) rest

  pub const64 : {ls : Labels} {xs : List WInstr} {below after : List ValTy} {n : ℕ} → AreTyped C ls xs (I64 ∷ below) after → AreTyped C ls (w.I64Const n ∷ xs) below after
  unfolding out-WInstr denote.Hole.Carrier.out
  const64 {below = below} rest = one ([] ⇒ Some (The I64)) refl (record { at = I64; below = below; taken = refl; «left» = refl }) rest

  pub const32 : {ls : Labels} {xs : List WInstr} {below after : List ValTy} {n : ℕ} → AreTyped C ls xs (I32 ∷ below) after → AreTyped C ls (w.I32Const n ∷ xs) below after
  unfolding out-WInstr denote.Hole.Carrier.out
  const32 {below = below} rest = one ([] ⇒ Some (The I32)) refl (record { at = I32; below = below; taken = refl; «left» = refl }) rest

  pub wrap : {ls : Labels} {xs : List WInstr} {below after : List ValTy} → AreTyped C ls xs (I32 ∷ below) after → AreTyped C ls (w.I32WrapI64 ∷ xs) (I64 ∷ below) after
  unfolding out-WInstr denote.Hole.Carrier.out
  wrap {below = below} rest = one (The I64 ∷ [] ⇒ Some (The I32)) refl (record { at = I64; below = below; taken = refl; «left» = refl }) rest

  pub extend : {ls : Labels} {xs : List WInstr} {below after : List ValTy} → AreTyped C ls xs (I64 ∷ below) after → AreTyped C ls (w.I64ExtendI32U ∷ xs) (I32 ∷ below) after
  unfolding out-WInstr denote.Hole.Carrier.out
  extend {below = below} rest = one (The I32 ∷ [] ⇒ Some (The I64)) refl (record { at = I64; below = below; taken = refl; «left» = refl }) rest

  pub size : {ls : Labels} {xs : List WInstr} {below after : List ValTy} → 0 < C.memories → AreTyped C ls xs (I32 ∷ below) after → AreTyped C ls (w.MemorySize ∷ xs) below after
  unfolding out-WInstr denote.Hole.Carrier.out
  size {below = below} m rest = one ([] ⇒ Some (The I32)) (ap (λ (b : Bool). needs MemoryIndex b ([] ⇒ Some (The I32))) (lt-ltb 0 C.memories m)) (record { at = I64; below = below; taken = refl; «left» = refl }) rest

  pub load : {ls : Labels} {xs : List WInstr} {below after : List ValTy} {offset : ℕ} → 0 < C.memories → AreTyped C ls xs (I64 ∷ below) after → AreTyped C ls (w.I64Load 3 offset ∷ xs) (I32 ∷ below) after
  unfolding out-WInstr denote.Hole.Carrier.out
  load {below = below} m rest = one (The I32 ∷ [] ⇒ Some (The I64)) (ap (λ (b : Bool). if b then needs Alignment (nat_le 3 3) (The I32 ∷ [] ⇒ Some (The I64)) else Err MemoryIndex) (lt-ltb 0 C.memories m)) (record { at = I64; below = below; taken = refl; «left» = refl }) rest

  pub store : {ls : Labels} {xs : List WInstr} {below after : List ValTy} {offset : ℕ} → 0 < C.memories → AreTyped C ls xs below after → AreTyped C ls (w.I64Store 3 offset ∷ xs) (I64 ∷ I32 ∷ below) after
  unfolding out-WInstr denote.Hole.Carrier.out
  store {below = below} m rest = one (The I64 ∷ The I32 ∷ [] ⇒ None) (ap (λ (b : Bool). if b then needs Alignment (nat_le 3 3) (The I64 ∷ The I32 ∷ [] ⇒ None) else Err MemoryIndex) (lt-ltb 0 C.memories m)) (record { at = I64; below = below; taken = refl; «left» = refl }) rest

  pub add : {ls : Labels} {xs : List WInstr} {below after : List ValTy} → AreTyped C ls xs (I64 ∷ below) after → AreTyped C ls (w.I64Add ∷ xs) (I64 ∷ I64 ∷ below) after
  unfolding out-WInstr denote.Hole.Carrier.out
  add {below = below} rest = one (The I64 ∷ The I64 ∷ [] ⇒ Some (The I64)) refl (record { at = I64; below = below; taken = refl; «left» = refl }) rest

  pub sub : {ls : Labels} {xs : List WInstr} {below after : List ValTy} → AreTyped C ls xs (I64 ∷ below) after → AreTyped C ls (w.I64Sub ∷ xs) (I64 ∷ I64 ∷ below) after
  unfolding out-WInstr denote.Hole.Carrier.out
  sub {below = below} rest = one (The I64 ∷ The I64 ∷ [] ⇒ Some (The I64)) refl (record { at = I64; below = below; taken = refl; «left» = refl }) rest

  pub mul : {ls : Labels} {xs : List WInstr} {below after : List ValTy} → AreTyped C ls xs (I64 ∷ below) after → AreTyped C ls (w.I64Mul ∷ xs) (I64 ∷ I64 ∷ below) after
  unfolding out-WInstr denote.Hole.Carrier.out
  mul {below = below} rest = one (The I64 ∷ The I64 ∷ [] ⇒ Some (The I64)) refl (record { at = I64; below = below; taken = refl; «left» = refl }) rest

  pub shift : {ls : Labels} {xs : List WInstr} {below after : List ValTy} → AreTyped C ls xs (I64 ∷ below) after → AreTyped C ls (w.I64ShrU ∷ xs) (I64 ∷ I64 ∷ below) after
  unfolding out-WInstr denote.Hole.Carrier.out
  shift {below = below} rest = one (The I64 ∷ The I64 ∷ [] ⇒ Some (The I64)) refl (record { at = I64; below = below; taken = refl; «left» = refl }) rest

  pub less : {ls : Labels} {xs : List WInstr} {below after : List ValTy} → AreTyped C ls xs (I32 ∷ below) after → AreTyped C ls (w.I64LtU ∷ xs) (I64 ∷ I64 ∷ below) after
  unfolding out-WInstr denote.Hole.Carrier.out
  less {below = below} rest = one (The I64 ∷ The I64 ∷ [] ⇒ Some (The I32)) refl (record { at = I64; below = below; taken = refl; «left» = refl }) rest

  pub eqz : {ls : Labels} {xs : List WInstr} {below after : List ValTy} → AreTyped C ls xs (I32 ∷ below) after → AreTyped C ls (w.I64Eqz ∷ xs) (I64 ∷ below) after
  unfolding out-WInstr denote.Hole.Carrier.out
  eqz {below = below} rest = one (The I64 ∷ [] ⇒ Some (The I32)) refl (record { at = I64; below = below; taken = refl; «left» = refl }) rest

  pub unreachable : {ls : Labels} {xs : List WInstr} {before between after : List ValTy} → AreTyped C ls xs between after → AreTyped C ls (w.Unreachable ∷ xs) before after
  unfolding out-WInstr denote.Hole.Carrier.out
  unreachable {before = before} rest = one (leaves []) refl (record { at = I64; below = before; taken = refl; «left» = tt }) rest

  -- a branch to a list that takes nothing
  pub branch : {ls : Labels} {xs : List WInstr} {before between after : List ValTy} {n : ℕ} → slice_get ls n ≡ Some None → AreTyped C ls xs between after → AreTyped C ls (w.Br n ∷ xs) before after
  unfolding out-WInstr denote.Hole.Carrier.out
  branch {before = before} e rest = one (leaves []) (ap (λ (o : Option (Option ValTy)). found LabelIndex o (λ t. Ok (leaves (operands_of t)))) e) (record { at = I64; below = before; taken = refl; «left» = tt }) rest

  pub if_one : {ls : Labels} {arm xs : List WInstr} {below after : List ValTy} → AreTyped C (None ∷ ls) arm [] [] → AreTyped C ls xs below after → AreTyped C ls (w.If None arm ∷ xs) (I32 ∷ below) after
  if_one {arm = arm} {xs} {below = below} inside rest = more (w.If None arm) xs below refl (one_arm arm (ap out-WInstr (sym (v.rolls-If None arm)) ∙ out-roll-WInstr (WInstr-F.If None arm)) inside refl) rest

  pub if_two : {ls : Labels} {first second xs : List WInstr} {below after : List ValTy} → AreTyped C (None ∷ ls) first [] [] → AreTyped C (None ∷ ls) second [] [] → AreTyped C ls xs below after → AreTyped C ls (w.IfElse None first second ∷ xs) (I32 ∷ below) after
  if_two {first = first} {second} {xs} {below} a b rest = more (w.IfElse None first second) xs below refl (two_arms None first second below (ap out-WInstr (sym (v.rolls-IfElse None first second)) ∙ out-roll-WInstr (WInstr-F.IfElse None first second)) a b refl refl) rest

  pub loop_none : {ls : Labels} {body xs : List WInstr} {below after : List ValTy} → AreTyped C (None ∷ ls) body [] [] → AreTyped C ls xs below after → AreTyped C ls (w.Loop None body ∷ xs) below after
  loop_none {body = body} {xs} {below} inside rest = more (w.Loop None body) xs below refl (loop None body (ap out-WInstr (sym (v.rolls-Loop None body)) ∙ out-roll-WInstr (WInstr-F.Loop None body)) inside refl) rest
