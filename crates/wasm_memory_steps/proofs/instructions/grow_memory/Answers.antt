use Rattle.std.proofs.Common.{ℕ, List, ◌∷◌, drop, sym, ap, ◌∙◌, lit<}
use Rattle.wasm_memory_steps.proofs.instructions.grow_memory.Goals as goal

pub returns-in-Ok-None-clause-top : goal.returns-in-Ok-None-clause-top
returns-in-Ok-None-clause-top c = record {
  top = 4294967295;
  is = c.push-in-Ok-None.ensures.own ∙ ap (λ (l : List ℕ). 4294967295 ∷ l) (sym (ap (drop 1) c.pop-pages.ensures.own));
  within = lit< tt;
}
