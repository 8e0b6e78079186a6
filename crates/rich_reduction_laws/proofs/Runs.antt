-- What holds after any number of steps, since it holds of each.
use Rattle.std.proofs.Common.{◌≡◌, ℕ, zero, suc, ◌+◌, List, [], ◌++◌, refl, sym, ap, subst, ◌∙◌, arith}
use Rattle.std.specs.List.{flat_map}
use Rattle.std.proofs.lemmas.Grind.{flat_map-append}
use Rattle.rw_types.specs.declared.types.Mem.{Mem}
use Rattle.rw_program.specs.declared.linked.LinkedFunc.{LinkedFunc}
use Rattle.machine_steps.specs.declared.End.{End}
use Rattle.machine_steps.specs.declared.End.TheVariants.{Trap}
use Rattle.machine_steps.specs.declared.Trap.TheVariants as trap
use Rattle.machine_steps.specs.Steps.{Turn, Went, Ended, NoStep, Stand, Going, Over, Stuck, reached, reached_by}
use Rattle.machine_steps.specs.Agreement.{IsExhausted, seen}
use Rattle.machine_steps.proofs.Alike.{stays}
use Rattle.rich_reduction.specs.Configurations.{Stores, Config, Event, prints}
use Rattle.rich_reduction.specs.Starts.{first, rich}
use Rattle.rich_reduction.specs.Steps.{step}
use Rattle.rich_reduction_laws.specs.Effects.{Effect, next_effect, at_end, MayEnd, HasEffect}
use Rattle.rich_reduction_laws.specs.Stores.{AreLater, places, made_in, counting}
use Rattle.rich_reduction_laws.specs.Laws.{StoresOnlyGrow, MadeInOrder, EndsInFourTraps, RoomIsNeverWanting, OverStays}
use Rattle.rich_reduction_laws.proofs.Effects.{effects}
use Rattle.rich_reduction_laws.proofs.Growing.{later_same, later_on, does_later}
use Rattle.rich_reduction_laws.proofs.Counting.{Counts, counting_on, does_count}

module _ (funcs : List LinkedFunc) where
  grows_by : (n : ℕ) (e : Effect) (c : Config) (t : Turn Event Config) → HasEffect e c t → ((b : Config) → AreLater b.stores (reached (step funcs) n b).at.stores) →
      AreLater c.stores (reached_by t c (reached (step funcs) n)).at.stores
  grows_by n e c (Went es b) h on = later_on c.stores b.stores (reached (step funcs) n b).at.stores (does_later e c.here.operands c.stores b.stores es h) (on b)
  grows_by n e c (Ended es end b) h on = subst (λ (x : Config). AreLater c.stores x.stores) (sym h.same) (later_same c.stores)
  grows_by n e c NoStep h on = later_same c.stores

  pub grows : (c : Config) (n : ℕ) → AreLater c.stores (reached (step funcs) n c).at.stores
  grows c zero = later_same c.stores
  grows c (suc n) = grows_by n (next_effect c.here.rest) c (step funcs c) (effects funcs c) (λ b. grows b n)

  none_yet : (m : Mem) (c : Config) → Counts m c.stores c.stores []
  none_yet m c = record { count = 0; made = refl; grown = omega arith }

  joined : (m : Mem) (s s' s'' : Stores) (es fs : List Event) → Counts m s s' es → Counts m s' s'' fs → Counts m s s'' (es ++ fs)
  joined m s s' s'' es fs h k = record {
    count = h.count + k.count;
    made =
        flat_map-append (made_in m) es fs
        ∙ ap (λ (l : List ℕ). l ++ flat_map (made_in m) fs) h.made
        ∙ ap (λ (l : List ℕ). counting (places m s) h.count ++ l) (k.made ∙ ap (λ (a : ℕ). counting a k.count) h.grown)
        ∙ counting_on (places m s) h.count k.count;
    grown = omega (arith, h.grown, k.grown);
  }

  counts_by : (m : Mem) (n : ℕ) (e : Effect) (c : Config) (t : Turn Event Config) → HasEffect e c t → ((b : Config) → Counts m b.stores (reached (step funcs) n b).at.stores (reached (step funcs) n b).said) →
      Counts m c.stores (reached_by t c (reached (step funcs) n)).at.stores (reached_by t c (reached (step funcs) n)).said
  counts_by m n e c (Went es b) h on =
      joined m c.stores b.stores (reached (step funcs) n b).at.stores es (reached (step funcs) n b).said (does_count m e c.here.operands c.stores b.stores es h) (on b)
  counts_by m n e c (Ended es end b) h on =
      subst (λ (x : Config). Counts m c.stores x.stores es) (sym h.same) (does_count m (at_end e) c.here.operands c.stores c.stores es h.does)
  counts_by m n e c NoStep h on = none_yet m c

  pub counts : (m : Mem) (c : Config) (n : ℕ) → Counts m c.stores (reached (step funcs) n c).at.stores (reached (step funcs) n c).said
  counts m c zero = none_yet m c
  counts m c (suc n) = counts_by m n (next_effect c.here.rest) c (step funcs c) (effects funcs c) (λ b. counts m b n)

  ends_by : (n : ℕ) (e : Effect) (c : Config) (t : Turn Event Config) (end : End) → HasEffect e c t → ((b : Config) → (reached (step funcs) n b).stand ≡ Over end → MayEnd end) →
      (reached_by t c (reached (step funcs) n)).stand ≡ Over end → MayEnd end
  ends_by n e c (Went es b) end h on is = on b is
  ends_by n e c (Ended es end' b) end h on is = let same : end' ≡ end = cc in subst MayEnd same h.may
  ends_by n e c NoStep end h on is = let other : Stuck ≡ Over end = is in absurd cc

  pub ends : (c : Config) (n : ℕ) (end : End) → (reached (step funcs) n c).stand ≡ Over end → MayEnd end
  ends c zero end is = let other : Going ≡ Over end = is in absurd cc
  ends c (suc n) end is = ends_by n (next_effect c.here.rest) c (step funcs c) end (effects funcs c) (λ b. ends b n end) is

pub stores_grow : StoresOnlyGrow
stores_grow funcs c n = grows funcs c n

pub made_in_order : MadeInOrder
made_in_order funcs c n m = let h = counts funcs m c n in (h.count, h.made, h.grown)

pub four_traps : EndsInFourTraps
four_traps p n end is = ends p.funcs (first p) n end is

-- none of the four is the want of room
not_exhausted : (s : Stand) → ((end : End) → s ≡ Over end → MayEnd end) → IsExhausted s → ⊥
not_exhausted (Over (Trap trap.Exhausted)) may exhausted = may (Trap trap.Exhausted) refl
not_exhausted _ may exhausted = exhausted

pub room_enough : RoomIsNeverWanting
room_enough p n exhausted = not_exhausted (rich p n).stand (four_traps p n) exhausted

pub over_stays : OverStays
over_stays p n end is = ap (seen prints) (stays (step p.funcs) n (first p) end is)
