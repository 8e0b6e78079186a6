-- The first of some rules, as code joins them.
use Rattle.std.proofs.Common.{◌≡◌, ◌∙◌, ℕ, ◌+◌, ◌<◌, ◌≤◌, Bool, true, false, List, [], ◌∷◌, Option, Some, None, length, drop, get_or, refl, ap, suc, zero, arith, nat_lt, if◌then◌else◌, drop-cons, add-one}
use Rattle.std.specs.Option.{option_or}
use Rattle.std.proofs.lemmas.Bool.{lt-ltb, le-ltb}
use Rattle.wasm_typing.specs.declared.rule.WRule.{WRule}
use Rattle.wasm_typing.specs.declared.rule.WRule.TheVariants.{FuncIndex}
use Rattle.wasm_typing.specs.declared.context.Context.{Context}
use Rattle.wasm_typing.specs.Fields.{breaks_unless, first_of, functions_rule, is_index}

pub three_rules : (a b c : Option WRule) → option_or (option_or a b) c ≡ first_of (a ∷ b ∷ c ∷ [])
three_rules (Some a) b c = refl
three_rules None (Some b) c = refl
three_rules None None (Some c) = refl
three_rules None None None = refl

pub four_rules : (a b c d : Option WRule) → option_or (option_or (option_or a b) c) d ≡ first_of (a ∷ b ∷ c ∷ d ∷ [])
four_rules (Some a) b c d = refl
four_rules None (Some b) c d = refl
four_rules None None (Some c) d = refl
four_rules None None None (Some d) = refl
four_rules None None None None = refl

pub keeps_below : (a b : ℕ) (rule : WRule) → a < b → breaks_unless (nat_lt a b) rule ≡ None
keeps_below a b rule h = ap (λ (t : Bool). breaks_unless t rule) (lt-ltb a b h)

pub breaks_from : (a b : ℕ) (rule : WRule) → b ≤ a → breaks_unless (nat_lt a b) rule ≡ Some rule
breaks_from a b rule h = ap (λ (t : Bool). breaks_unless t rule) (le-ltb a b h)

-- a first index that is there, and one that is not
pub first_kept : (a b : ℕ) (rule : WRule) (rules : List (Option WRule)) → a < b → first_of (breaks_unless (nat_lt a b) rule ∷ rules) ≡ first_of rules
first_kept a b rule rules h = ap (λ (o : Option WRule). first_of (o ∷ rules)) (keeps_below a b rule h)

-- the same, as the results of calls
pub three_joined : {a b c x y a' b' c' : Option WRule} → y ≡ option_or x c → x ≡ option_or a b → a ≡ a' → b ≡ b' → c ≡ c' → y ≡ first_of (a' ∷ b' ∷ c' ∷ [])
three_joined {a} {b} {c} {x} {y} {a'} {b'} {c'} ey ex ea eb ec =
    ey ∙ ap (λ (o : Option WRule). option_or o c) ex ∙ ap (λ (o : Option WRule). option_or (option_or o b) c) ea
    ∙ ap (λ (o : Option WRule). option_or (option_or a' o) c) eb ∙ ap (λ (o : Option WRule). option_or (option_or a' b') o) ec ∙ three_rules a' b' c'

pub four_joined : {a b c d x y z a' b' c' d' : Option WRule} → z ≡ option_or y d → y ≡ option_or x c → x ≡ option_or a b → a ≡ a' → b ≡ b' → c ≡ c' → d ≡ d' → z ≡ first_of (a' ∷ b' ∷ c' ∷ d' ∷ [])
four_joined {a} {b} {c} {d} {x} {y} {z} {a'} {b'} {c'} {d'} ez ey ex ea eb ec ed =
    ez ∙ ap (λ (o : Option WRule). option_or o d) (ey ∙ ap (λ (o : Option WRule). option_or o c) ex)
    ∙ ap (λ (o : Option WRule). option_or (option_or (option_or o b) c) d) ea ∙ ap (λ (o : Option WRule). option_or (option_or (option_or a' o) c) d) eb
    ∙ ap (λ (o : Option WRule). option_or (option_or (option_or a' b') o) d) ec ∙ ap (λ (o : Option WRule). option_or (option_or (option_or a' b') c') o) ed ∙ four_rules a' b' c' d'

module _ (C : Context) where
  if_there : List ℕ → Bool → Option WRule
  if_there ns true = functions_rule C ns
  if_there ns false = Some FuncIndex

  on_first : (n : ℕ) (ns : List ℕ) → functions_rule C (n ∷ ns) ≡ if_there ns (is_index n C.functions)
  unfolding if_there
  on_first n ns = go (is_index n C.functions)
    where
      go : (t : Bool) → (if t then functions_rule C ns else Some FuncIndex) ≡ if_there ns t
      go true = refl
      go false = refl

  at_index : (ns : List ℕ) (i d : ℕ) → i < length ns → functions_rule C (drop i ns) ≡ if_there (drop (suc i) ns) (is_index (get_or ns i d) C.functions)
  at_index ns i d lt = ap (functions_rule C) (drop-cons ns i d lt) ∙ on_first (get_or ns i d) (drop (suc i) ns)

  pub function_there : (ns : List ℕ) (i d : ℕ) → i < length ns → get_or ns i d < length C.functions → functions_rule C (drop i ns) ≡ functions_rule C (drop (i + 1) ns)
  unfolding if_there
  function_there ns i d lt h = rw add-one (at_index ns i d lt ∙ ap (if_there (drop (suc i) ns)) (lt-ltb (get_or ns i d) (length C.functions) h))

  pub function_lacks : (ns : List ℕ) (i d : ℕ) → i < length ns → length C.functions ≤ get_or ns i d → functions_rule C (drop i ns) ≡ Some FuncIndex
  unfolding if_there
  function_lacks ns i d lt h = at_index ns i d lt ∙ ap (if_there (drop (suc i) ns)) (le-ltb (get_or ns i d) (length C.functions) h)

  pub functions_end : (ns : List ℕ) (i : ℕ) → length ns ≤ i → functions_rule C (drop i ns) ≡ None
  functions_end ns i past = ap (functions_rule C) (all_dropped ns i past)
    where
      all_dropped : (ys : List ℕ) (n : ℕ) → length ys ≤ n → drop n ys ≡ []
      all_dropped [] zero h = refl
      all_dropped [] (suc n) h = refl
      all_dropped (y ∷ ys) zero h = absurd (omega arith)
      all_dropped (y ∷ ys) (suc n) h = let g : length ys ≤ n = omega arith in all_dropped ys n g
