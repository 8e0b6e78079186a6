-- Heights by layers, since they are a fold, and the rows.
use Rattle.std.proofs.Common.{◌≡◌, ◌∙◌, ℕ, ◌-◌, max, List, [], ◌∷◌, map, refl, sym, ap}
use Rattle.std.specs.Prelude.{Some, None}
use Rattle.wasm_ast.specs.declared.types.ValTy.TheVariants.{I64}
use Rattle.wasm_ast.specs.declared.instructions.WInstr as w
use Rattle.wasm_ast.specs.declared.instructions.WInstr.{WInstr, out-WInstr, roll-WInstr, out-roll-WInstr, fold_out-WInstr}
use Rattle.wasm_ast.specs.declared.instructions.WInstr.TheFolds.{map-WInstr}
use Rattle.wasm_ast.specs.declared.instructions.WInstr.TheOpen.{WInstr-F}
use Rattle.wasm_ast.specs.declared.instructions.WInstr.TheVariants as v
use Rattle.wasm_typing.specs.declared.context.Context.{Context}
use Rattle.wasm_typing.specs.Typing.{Labels}
use Rattle.wasm_typing.specs.Rows.{lone_context, WorkedHeights}
use Rattle.wasm_typing.specs.Heights.{Met, met_then, met_list, met_block, met_in, met_of}

met_list-map : {A B : Type 0} (g : B → Labels → ℕ → Met) (f : A → B) (xs : List A) (ls : Labels) (n : ℕ) → met_list g (map f xs) ls n ≡ met_list (λ x. g (f x)) xs ls n
met_list-map g f [] ls n = refl
met_list-map g f (x ∷ xs) ls n =
    elim ((g (f x) ls n).after) as (λ a. elim a [ None ↦ g (f x) ls n | Some k ↦ record { after = (met_list g (map f xs) ls k).after; most = max (g (f x) ls n).most (met_list g (map f xs) ls k).most } ] ≡ elim a [ None ↦ g (f x) ls n | Some k ↦ record { after = (met_list (λ y. g (f y)) xs ls k).after; most = max (g (f x) ls n).most (met_list (λ y. g (f y)) xs ls k).most } ]) [
      | None ↦ refl
      | Some k ↦ ap (λ (m : Met). record { after = m.after; most = max (g (f x) ls n).most m.most }) (met_list-map g f xs ls k)
    ]

module _ (C : Context) where
  met_in-map : {A : Type 0} (f : A → Labels → ℕ → Met) (x : WInstr-F A) (ls : Labels) (n : ℕ) → met_in C (λ met. met) (map-WInstr A (Labels → ℕ → Met) f x) ls n ≡ met_in C f x ls n
  met_in-map f (WInstr-F.Block t xs) ls n = ap (λ (m : Met). met_block t n n m.most) (met_list-map (λ met. met) f xs (t ∷ ls) n)
  met_in-map f (WInstr-F.Loop t xs) ls n = ap (λ (m : Met). met_block t n n m.most) (met_list-map (λ met. met) f xs (None ∷ ls) n)
  met_in-map f (WInstr-F.If t xs) ls n = ap (λ (m : Met). met_block t (n - 1) n m.most) (met_list-map (λ met. met) f xs (t ∷ ls) (n - 1))
  met_in-map f (WInstr-F.IfElse t xs ys) ls n =
      ap (λ (m : Met). met_block t (n - 1) n (max m.most (met_list (λ met. met) (map f ys) (t ∷ ls) (n - 1)).most)) (met_list-map (λ met. met) f xs (t ∷ ls) (n - 1))
      ∙ ap (λ (m : Met). met_block t (n - 1) n (max (met_list f xs (t ∷ ls) (n - 1)).most m.most)) (met_list-map (λ met. met) f ys (t ∷ ls) (n - 1))
  met_in-map f _ ls n = refl

  pub met-layer : (i : WInstr) (ls : Labels) (n : ℕ) → met_of C i ls n ≡ met_in C (met_of C) (out-WInstr i) ls n
  met-layer i ls n = ap (λ (g : Labels → ℕ → Met). g ls n) (fold_out-WInstr (Labels → ℕ → Met) (met_in C (λ met. met)) i) ∙ met_in-map (met_of C) (out-WInstr i) ls n

  pub met-roll : (x : WInstr-F WInstr) (i : WInstr) (ls : Labels) (n : ℕ) → roll-WInstr x ≡ i → met_of C i ls n ≡ met_in C (met_of C) x ls n
  met-roll x i ls n rolls = met-layer i ls n ∙ ap (λ (y : WInstr-F WInstr). met_in C (met_of C) y ls n) (ap out-WInstr (sym rolls) ∙ out-roll-WInstr x)

six : (n : ℕ) → met_of lone_context (w.I64Const 6) (Some I64 ∷ []) n ≡ met_in lone_context (met_of lone_context) (WInstr-F.I64Const 6) (Some I64 ∷ []) n
six n = met-roll lone_context (WInstr-F.I64Const 6) _ (Some I64 ∷ []) n (v.rolls-I64Const 6)

two : (n : ℕ) → met_of lone_context (w.I64Const 2) (Some I64 ∷ []) n ≡ met_in lone_context (met_of lone_context) (WInstr-F.I64Const 2) (Some I64 ∷ []) n
two n = met-roll lone_context (WInstr-F.I64Const 2) _ (Some I64 ∷ []) n (v.rolls-I64Const 2)

add : (n : ℕ) → met_of lone_context w.I64Add (Some I64 ∷ []) n ≡ met_in lone_context (met_of lone_context) WInstr-F.I64Add (Some I64 ∷ []) n
add n = met-roll lone_context WInstr-F.I64Add _ (Some I64 ∷ []) n v.rolls-I64Add

stop : (n : ℕ) → met_of lone_context w.Unreachable (Some I64 ∷ []) n ≡ met_in lone_context (met_of lone_context) WInstr-F.Unreachable (Some I64 ∷ []) n
stop n = met-roll lone_context WInstr-F.Unreachable _ (Some I64 ∷ []) n v.rolls-Unreachable

branch : (n : ℕ) → met_of lone_context (w.Br 0) (None ∷ Some I64 ∷ []) n ≡ met_in lone_context (met_of lone_context) (WInstr-F.Br 0) (None ∷ Some I64 ∷ []) n
branch n = met-roll lone_context (WInstr-F.Br 0) _ (None ∷ Some I64 ∷ []) n (v.rolls-Br 0)

block : (xs : List WInstr) (n : ℕ) → met_of lone_context (w.Block None xs) (Some I64 ∷ []) n ≡ met_in lone_context (met_of lone_context) (WInstr-F.Block None xs) (Some I64 ∷ []) n
block xs n = met-roll lone_context (WInstr-F.Block None xs) _ (Some I64 ∷ []) n (v.rolls-Block None xs)

on : (ls : Labels) (i : WInstr) (rest : List WInstr) (n : ℕ) (m : Met) → met_of lone_context i ls n ≡ m → met_list (met_of lone_context) (i ∷ rest) ls n ≡ met_then m (met_list (met_of lone_context) rest ls)
on ls i rest n m e = ap (λ (x : Met). met_then x (met_list (met_of lone_context) rest ls)) e

inner : (met_list (met_of lone_context) (w.Br 0 ∷ w.I64Const 2 ∷ w.I64Const 6 ∷ []) (None ∷ Some I64 ∷ []) 1).most ≡ 1
inner = ap (λ (m : Met). m.most) (on (None ∷ Some I64 ∷ []) (w.Br 0) (w.I64Const 2 ∷ w.I64Const 6 ∷ []) 1 _ (branch 1))

pub worked-heights : WorkedHeights
worked-heights = record {
  two =
      ap (λ (m : Met). m.most) (on (Some I64 ∷ []) (w.I64Const 6) (w.I64Const 2 ∷ w.I64Add ∷ []) 0 _ (six 0))
      ∙ ap (λ (m : Met). max 1 m.most) (on (Some I64 ∷ []) (w.I64Const 2) (w.I64Add ∷ []) 1 _ (two 1))
      ∙ ap (λ (m : Met). max 1 (max 2 m.most)) (on (Some I64 ∷ []) w.I64Add [] 2 _ (add 2));
  dead = ap (λ (m : Met). m.most) (on (Some I64 ∷ []) w.Unreachable (w.I64Const 6 ∷ w.I64Const 2 ∷ []) 0 _ (stop 0));
  behind =
      ap (λ (m : Met). m.most) (on (Some I64 ∷ []) (w.I64Const 6) (w.Block None (w.Br 0 ∷ w.I64Const 2 ∷ w.I64Const 6 ∷ []) ∷ w.I64Const 2 ∷ []) 0 _ (six 0))
      ∙ ap (λ (m : Met). max 1 m.most) (on (Some I64 ∷ []) (w.Block None (w.Br 0 ∷ w.I64Const 2 ∷ w.I64Const 6 ∷ [])) (w.I64Const 2 ∷ []) 1 _ (block (w.Br 0 ∷ w.I64Const 2 ∷ w.I64Const 6 ∷ []) 1))
      ∙ ap (λ (k : ℕ). max 1 (max (max 1 (max k 1)) (met_list (met_of lone_context) (w.I64Const 2 ∷ []) (Some I64 ∷ []) 1).most)) inner
      ∙ ap (λ (m : Met). max 1 (max 1 m.most)) (on (Some I64 ∷ []) (w.I64Const 2) [] 1 _ (two 1));
}
