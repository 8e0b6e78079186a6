-- What is reached by steps that say nothing.
use Rattle.std.proofs.Common.{◌≡◌, ◌∙◌, ℕ, zero, suc, ◌≤◌, [], ◌∷◌, refl, ap, sym, subst, arith}
use Rattle.machine_steps.specs.Steps.{Turn, Went, Ended, NoStep, onward, going, reached_by, reached}
use Rattle.wasm_execution.specs.Configurations.{Config, Event}
use Rattle.wasm_execution.specs.Environments.{Environment}
use Rattle.wasm_execution.specs.Steps.{step}
use Rattle.allocator_contract.specs.Walks.{CanBeRead, on_quiet, Quietly, Within, Reaches}

module _ (e : Environment) (words : ℕ) (K : Config → Type 0) where
  record Comes (n : ℕ) (c : Config) : Type 0 where
    to : Config
    by : reached (step e) n c ≡ going n [] to
    there : K to
    way : (m : ℕ) → m ≤ n → CanBeRead words (reached (step e) m c).at

  comes : (n : ℕ) (c : Config) → Quietly e words K n c → Comes n c
  comes zero c q = record {
    to = c;
    by = refl;
    there = q.1;
    way = λ m le. let z : 0 ≡ m = omega (arith, le) in subst (λ (i : ℕ). CanBeRead words (reached (step e) i c).at) z q.0;
  }
  comes (suc n) c q = turn (step e c) refl q.1 (λ c' h. comes n c' h)
    where
      turn : (o : Turn Event Config) → step e c ≡ o → on_quiet o (Quietly e words K n) → ((c' : Config) → Quietly e words K n c' → Comes n c') → Comes (suc n) c
      turn (Went [] c') s k again =
          let r = again c' k in
          record {
            to = r.to;
            by = ap (λ (o : Turn Event Config). reached_by o c (reached (step e) n)) s ∙ ap (onward []) r.by;
            there = r.there;
            way = way c' s r;
          }
        where
          way : (c' : Config) → step e c ≡ Went [] c' → Comes n c' → (m : ℕ) → m ≤ suc n → CanBeRead words (reached (step e) m c).at
          way c' s r zero le = q.0
          way c' s r (suc m) le = subst (λ (o : Turn Event Config). CanBeRead words (reached_by o c (reached (step e) m)).at) (sym s) (r.way m (omega (arith, le)))
      turn (Went (x ∷ xs) c') s k again = absurd k
      turn (Ended xs x c') s k again = absurd k
      turn NoStep s k again = absurd k

pub reaches : (e : Environment) (words : ℕ) (K : Config → Type 0) (n : ℕ) (c : Config) → Within e words K n c → Reaches e words K n c
reaches e words K n c h =
    let r = comes e words K h.steps c h.quietly in
    record { steps = h.steps; few = h.few; to = r.to; by = r.by; there = r.there; way = r.way }
