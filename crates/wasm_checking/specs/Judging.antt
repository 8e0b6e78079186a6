-- How far the instructions of a list go, in byte order, and where a rule is broken (WebAssembly Core Specification 1.0,
-- appendix A.3; places are this project's own).
use Rattle.std.specs.Prelude.{◌≡◌, ℕ, ◌+◌, true, false, List, [], ◌∷◌, ◌⊎◌, Option, Result, Ok, Err, option_to_list}
use Rattle.wasm_ast.specs.declared.types.ValTy.{ValTy}
use Rattle.wasm_typing.specs.declared.rule.WRule.{WRule}
use Rattle.wasm_typing.specs.declared.rule.WRule.TheVariants.{EndOperands}
use Rattle.wasm_typing.specs.declared.context.Context.{Context}
use Rattle.wasm_typing.specs.Typing.{Labels}
use Rattle.wasm_typing.specs.Tokens.{Token}
use Rattle.wasm_typing.specs.ByteOrder.{Shape, Open, labels, label_of}
use Rattle.wasm_typing_laws.specs.Checking.{Seen, check, fits}
use Rattle.wasm_operands.specs.Taking.{nothing}

-- how far tokens go: to open lists at a place, or to a place where a rule is broken
pub data Judged : Type 0 where
  StandsAt : List (Open Seen) → ℕ → Judged
  ViolatedAt : ℕ → WRule → Judged
  NoList : Judged

abbrev pub of_shape : Shape → Seen → Open Seen
of_shape shape seen = record { shape = shape; operands = seen }

abbrev pub on_check : Result (List (Open Seen)) WRule → ℕ → (List (Open Seen) → Judged) → Judged
on_check (Err r) at go = ViolatedAt at r
on_check (Ok mid) at go = go mid

module _ (C : Context) where
  abbrev pub judge : List Token → List (Open Seen) → ℕ → Judged
  judge [] as' at = StandsAt as' at
  judge (t ∷ ts) [] at = NoList
  judge (t ∷ ts) (a ∷ as') at = on_check (check C t (a ∷ as')) at (λ mid. judge ts mid (at + 1))

  -- tokens go from these operands at one place to those at another, whatever list they stand in
  pub record TypesTo (ls : Labels) (ts : List Token) (before : Seen) (from : ℕ) (after : Seen) (to : ℕ) : Type 0 where
    pub goes : (shape : Shape) (around : List (Open Seen)) → ls ≡ label_of shape ∷ labels around → judge ts (of_shape shape before ∷ around) from ≡ StandsAt (of_shape shape after ∷ around) to

  -- a rule is broken at this place
  pub record Violates (ls : Labels) (ts : List Token) (before : Seen) (from at : ℕ) (rule : WRule) : Type 0 where
    pub breaks : (shape : Shape) (around : List (Open Seen)) → ls ≡ label_of shape ∷ labels around → judge ts (of_shape shape before ∷ around) from ≡ ViolatedAt at rule

  -- tokens go from nothing to operands that the end of a list demands
  pub record TypesList (ls : Labels) (result : Option ValTy) (ts : List Token) (from to : ℕ) : Type 0 where
    pub after : Seen
    pub goes : TypesTo ls ts nothing from after to
    pub fit : fits (option_to_list result) after.known after.any ≡ true

  -- or a rule is broken on the way, or they go to other operands
  abbrev pub ViolatesList : Labels → Option ValTy → List Token → ℕ → ℕ → WRule → Type 0
  ViolatesList ls result ts from at rule =
      Violates ls ts nothing from at rule ⊎ ((after : Seen) × TypesTo ls ts nothing from after at × (fits (option_to_list result) after.known after.any ≡ false) × (rule ≡ EndOperands))
