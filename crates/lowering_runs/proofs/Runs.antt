-- Runs of moves, by induction on how many words there are.
use Rattle.std.proofs.Common.{◌≡◌, ◌∙◌, ◌≤◌, ◌<◌, ◌⊎◌, inl, inr, ℕ, zero, suc, ◌+◌, List, [], ◌∷◌, ◌++◌, Option, Some, length, refl, ap, subst, arith}
use Rattle.std.specs.Prelude.{slice_get, slice_set}
use Rattle.machine_steps.specs.Simulations.{Comes}
use Rattle.machine_steps.specs.Steps.{Turn, Went, going, onward, reached, reached_by, with_found, with_one}
use Rattle.wasm_ast.specs.declared.instructions.WInstr as w
use Rattle.wasm_ast.specs.declared.instructions.WInstr.{WInstr}
use Rattle.wasm_ast.specs.declared.instructions.WInstr.TheOpen.{WInstr-F}
use Rattle.wasm_ast.specs.declared.instructions.WInstr.TheVariants.{rolls-GlobalGet, rolls-GlobalSet, rolls-LocalGet, rolls-LocalSet}
use Rattle.wasm_execution.specs.Configurations.{Config}
use Rattle.wasm_execution.specs.Environments.{Environment}
use Rattle.wasm_execution.specs.Steps.{step}
use Rattle.lowering_laws.proofs.Walks.{acts}
use Rattle.lowering_rows.specs.Moves.{fetches, gets, gives, moves}
use Rattle.simulation_relation.specs.Words.{Holds}
use Rattle.lowering_runs.specs.Laws.{FetchesRun, GetsRun, GivesRun, MovesRun, pushed, written}

-- a step, and then others
one_more : {E B : Type 0} (g : B → Turn E B) (n : ℕ) (b c d : B) → g b ≡ Went [] c → Comes g n c [] d → Comes g (suc n) b [] d
one_more g n b c d s x = record { by = ap (λ o. reached_by o b (reached g n)) s ∙ ap (λ r. onward [] r) x.by }

-- two steps more
two_more : {E B : Type 0} (g : B → Turn E B) (n : ℕ) (b c d k : B) → g b ≡ Went [] c → g c ≡ Went [] d → Comes g (n + n) d [] k → Comes g (suc n + suc n) b [] k
two_more g n b c d k s t x =
    let count : suc (suc (n + n)) ≡ suc n + suc n = omega arith in
    subst (λ (m : ℕ). Comes g m b [] k) count (one_more g (suc (n + n)) b c k s (one_more g (n + n) c d k t x))

-- a place that is there
found : (locals : List ℕ) (n : ℕ) → n < length locals → (v : ℕ) × (slice_get locals n ≡ Some v)
found [] n h = absurd (omega (arith, h))
found (v ∷ locals) zero h = (v, refl)
found (v ∷ locals) (suc n) h = found locals n (omega (arith, h))

set_length : (locals : List ℕ) (n v : ℕ) → length (slice_set locals n v) ≡ length locals
set_length [] n v = refl
set_length (x ∷ locals) zero v = refl
set_length (x ∷ locals) (suc n) v = ap suc (set_length locals n v)

-- another place keeps its word
other_kept : (locals : List ℕ) (m n v : ℕ) → (m < n) ⊎ (n < m) → slice_get (slice_set locals n v) m ≡ slice_get locals m
other_kept [] m n v h = refl
other_kept (x ∷ locals) zero zero v (inl h) = absurd (omega (arith, h))
other_kept (x ∷ locals) zero zero v (inr h) = absurd (omega (arith, h))
other_kept (x ∷ locals) zero (suc n) v h = refl
other_kept (x ∷ locals) (suc m) zero v h = refl
other_kept (x ∷ locals) (suc m) (suc n) v (inl h) = other_kept locals m n v (inl (omega (arith, h)))
other_kept (x ∷ locals) (suc m) (suc n) v (inr h) = other_kept locals m n v (inr (omega (arith, h)))

-- words that are not at the place are kept
pub held_kept : (locals : List ℕ) (at : ℕ) (ws : List ℕ) (n v : ℕ) → (n < at) ⊎ (at + length ws ≤ n) → Holds locals at ws → Holds (slice_set locals n v) at ws
held_kept locals at [] n v h x = tt
held_kept locals at (y ∷ ws) n v (inl h) x = (other_kept locals at n v (inr h) ∙ x.0, held_kept locals (suc at) ws n v (inl (omega (arith, h))) x.1)
held_kept locals at (y ∷ ws) n v (inr h) x = (other_kept locals at n v (inl (omega (arith, h))) ∙ x.0, held_kept locals (suc at) ws n v (inr (omega (arith, h))) x.1)

module _ (e : Environment) where
  -- a local goes to the operands
  get : (c : Config) (n v : ℕ) (rest : List WInstr) → c.here.rest ≡ w.LocalGet n ∷ rest → slice_get c.here.locals n ≡ Some v → step e c ≡ Went [] (record c { here = record c.here { rest = rest; operands = v ∷ c.here.operands } })
  get c n v rest is there =
      acts e (WInstr-F.LocalGet n) (w.LocalGet n) (rolls-LocalGet n) rest c is
      ∙ ap (λ (o : Option ℕ). with_found o (λ u. Went [] (record c { here = record c.here { rest = rest; operands = u ∷ c.here.operands } }))) there

  -- an operand goes to a local
  set : (c : Config) (n v : ℕ) (operands : List ℕ) (rest : List WInstr) → c.here.rest ≡ w.LocalSet n ∷ rest → c.here.operands ≡ v ∷ operands → n < length c.here.locals →
      step e c ≡ Went [] (record c { here = record c.here { rest = rest; operands = operands; locals = slice_set c.here.locals n v } })
  set c n v operands rest is top h =
      acts e (WInstr-F.LocalSet n) (w.LocalSet n) (rolls-LocalSet n) rest c is
      ∙ ap (λ (vs : List ℕ). with_one vs (λ x xs. with_found (slice_get c.here.locals n) (λ old. Went [] (record c { here = record c.here { rest = rest; operands = xs; locals = slice_set c.here.locals n x } })))) top
      ∙ ap (λ (o : Option ℕ). with_found o (λ old. Went [] (record c { here = record c.here { rest = rest; operands = operands; locals = slice_set c.here.locals n v } }))) (found c.here.locals n h).1

  moved : (n : ℕ) (c : Config) (from to : ℕ) (rest : List WInstr) (ws : List ℕ) → c.here.rest ≡ moves n from to ++ rest → length ws ≡ n → Holds c.here.locals from ws → to + n ≤ length c.here.locals →
      (to ≤ from) ⊎ (from + n ≤ to) → Comes (step e) (n + n) c [] (record c { here = record c.here { rest = rest; locals = written to ws c.here.locals } })
  moved zero c from to rest [] is l h room apart = record { by = ap (λ (x : List WInstr). going 0 [] (record c { here = record c.here { rest = x } })) is }
  moved zero c from to rest (v ∷ ws) is l h room apart = absurd (omega (arith, l))
  moved (suc n) c from to rest [] is l h room apart = absurd (omega (arith, l))
  moved (suc n) c from to rest (v ∷ ws) is l h room apart =
      let after_get : Config = record c { here = record c.here { rest = w.LocalSet to ∷ (moves n (suc from) (suc to) ++ rest); operands = v ∷ c.here.operands } } in
      let after_set : Config = record c { here = record c.here { rest = moves n (suc from) (suc to) ++ rest; locals = slice_set c.here.locals to v } } in
      let next : (suc to ≤ suc from) ⊎ (suc from + n ≤ suc to) = elim apart [ inl x ↦ inl (omega (arith, x)) | inr x ↦ inr (omega (arith, x)) ] in
      let free : (to < suc from) ⊎ (suc from + length ws ≤ to) = elim apart [ inl x ↦ inl (omega (arith, x)) | inr x ↦ inr (omega (arith, x, l)) ] in
      two_more (step e) n c after_get after_set _
      (get c from v (w.LocalSet to ∷ (moves n (suc from) (suc to) ++ rest)) is h.0)
      (set after_get to v c.here.operands (moves n (suc from) (suc to) ++ rest) refl refl (omega (arith, room)))
      (moved n after_set (suc from) (suc to) rest ws refl (omega (arith, l)) (held_kept c.here.locals (suc from) ws to v free h.1) (omega (arith, room, set_length c.here.locals to v)) next)

  got : (n : ℕ) (c : Config) (from : ℕ) (rest : List WInstr) (ws : List ℕ) → c.here.rest ≡ gets n from ++ rest → length ws ≡ n → Holds c.here.locals from ws →
      Comes (step e) n c [] (record c { here = record c.here { rest = rest; operands = pushed ws c.here.operands } })
  got zero c from rest [] is l h = record { by = ap (λ (x : List WInstr). going 0 [] (record c { here = record c.here { rest = x } })) is }
  got zero c from rest (v ∷ ws) is l h = absurd (omega (arith, l))
  got (suc n) c from rest [] is l h = absurd (omega (arith, l))
  got (suc n) c from rest (v ∷ ws) is l h =
      let after_get : Config = record c { here = record c.here { rest = gets n (suc from) ++ rest; operands = v ∷ c.here.operands } } in
      one_more (step e) n c after_get _ (get c from v (gets n (suc from) ++ rest) is h.0) (got n after_get (suc from) rest ws refl (omega (arith, l)) h.1)

  -- a global goes to the operands, and an operand to a global
  fetch : (c : Config) (n v : ℕ) (rest : List WInstr) → c.here.rest ≡ w.GlobalGet n ∷ rest → slice_get c.store.globals n ≡ Some v → step e c ≡ Went [] (record c { here = record c.here { rest = rest; operands = v ∷ c.here.operands } })
  fetch c n v rest is there =
      acts e (WInstr-F.GlobalGet n) (w.GlobalGet n) (rolls-GlobalGet n) rest c is
      ∙ ap (λ (o : Option ℕ). with_found o (λ u. Went [] (record c { here = record c.here { rest = rest; operands = u ∷ c.here.operands } }))) there

  give : (c : Config) (n v : ℕ) (operands : List ℕ) (rest : List WInstr) → c.here.rest ≡ w.GlobalSet n ∷ rest → c.here.operands ≡ v ∷ operands → n < length c.store.globals →
      step e c ≡ Went [] (record c { here = record c.here { rest = rest; operands = operands }; store = record c.store { globals = slice_set c.store.globals n v } })
  give c n v operands rest is top h =
      acts e (WInstr-F.GlobalSet n) (w.GlobalSet n) (rolls-GlobalSet n) rest c is
      ∙ ap (λ (vs : List ℕ). with_one vs (λ x xs. with_found (slice_get c.store.globals n) (λ old. Went [] (record c { here = record c.here { rest = rest; operands = xs }; store = record c.store { globals = slice_set c.store.globals n x } })))) top
      ∙ ap (λ (o : Option ℕ). with_found o (λ old. Went [] (record c { here = record c.here { rest = rest; operands = operands }; store = record c.store { globals = slice_set c.store.globals n v } }))) (found c.store.globals n h).1

  given : (n : ℕ) (c : Config) (from to : ℕ) (rest : List WInstr) (ws : List ℕ) → c.here.rest ≡ gives n from to ++ rest → length ws ≡ n → Holds c.here.locals from ws → to + n ≤ length c.store.globals →
      Comes (step e) (n + n) c [] (record c { here = record c.here { rest = rest }; store = record c.store { globals = written to ws c.store.globals } })
  given zero c from to rest [] is l h room = record { by = ap (λ (x : List WInstr). going 0 [] (record c { here = record c.here { rest = x } })) is }
  given zero c from to rest (v ∷ ws) is l h room = absurd (omega (arith, l))
  given (suc n) c from to rest [] is l h room = absurd (omega (arith, l))
  given (suc n) c from to rest (v ∷ ws) is l h room =
      let after_get : Config = record c { here = record c.here { rest = w.GlobalSet to ∷ (gives n (suc from) (suc to) ++ rest); operands = v ∷ c.here.operands } } in
      let after_give : Config = record c { here = record c.here { rest = gives n (suc from) (suc to) ++ rest }; store = record c.store { globals = slice_set c.store.globals to v } } in
      two_more (step e) n c after_get after_give _
      (get c from v (w.GlobalSet to ∷ (gives n (suc from) (suc to) ++ rest)) is h.0)
      (give after_get to v c.here.operands (gives n (suc from) (suc to) ++ rest) refl refl (omega (arith, room)))
      (given n after_give (suc from) (suc to) rest ws refl (omega (arith, l)) h.1 (omega (arith, room, set_length c.store.globals to v)))

  fetched : (n : ℕ) (c : Config) (from to : ℕ) (rest : List WInstr) (ws : List ℕ) → c.here.rest ≡ fetches n from to ++ rest → length ws ≡ n → Holds c.store.globals from ws → to + n ≤ length c.here.locals →
      Comes (step e) (n + n) c [] (record c { here = record c.here { rest = rest; locals = written to ws c.here.locals } })
  fetched zero c from to rest [] is l h room = record { by = ap (λ (x : List WInstr). going 0 [] (record c { here = record c.here { rest = x } })) is }
  fetched zero c from to rest (v ∷ ws) is l h room = absurd (omega (arith, l))
  fetched (suc n) c from to rest [] is l h room = absurd (omega (arith, l))
  fetched (suc n) c from to rest (v ∷ ws) is l h room =
      let after_fetch : Config = record c { here = record c.here { rest = w.LocalSet to ∷ (fetches n (suc from) (suc to) ++ rest); operands = v ∷ c.here.operands } } in
      let after_set : Config = record c { here = record c.here { rest = fetches n (suc from) (suc to) ++ rest; locals = slice_set c.here.locals to v } } in
      two_more (step e) n c after_fetch after_set _
      (fetch c from v (w.LocalSet to ∷ (fetches n (suc from) (suc to) ++ rest)) is h.0)
      (set after_fetch to v c.here.operands (fetches n (suc from) (suc to) ++ rest) refl refl (omega (arith, room)))
      (fetched n after_set (suc from) (suc to) rest ws refl (omega (arith, l)) h.1 (omega (arith, room, set_length c.here.locals to v)))

pub moves_run : MovesRun
moves_run e c n from to rest ws is l h room apart = moved e n c from to rest ws is l h room apart

pub gets_run : GetsRun
gets_run e c n from rest ws is l h = got e n c from rest ws is l h

pub gives_run : GivesRun
gives_run e c n from to rest ws is l h room = given e n c from to rest ws is l h room

pub fetches_run : FetchesRun
fetches_run e c n from to rest ws is l h room = fetched e n c from to rest ws is l h room
