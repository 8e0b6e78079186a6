-- A call that is over gives its results to the call that waits for it.
use Rattle.std.proofs.Common.{◌≡◌, ℕ, ◌+◌, List, [], ◌∷◌, ◌++◌, length, refl, ap, subst, arith}
use Rattle.std.specs.Prelude.{slice_get}
use Rattle.wasm_operators.specs.declared.Width.TheVariants.{W64}
use Rattle.rw_types.specs.declared.types.Ty.{Ty}
use Rattle.rw_program.specs.Programs.{Program}
use Rattle.rich_rules.specs.Points.{Owner, OfFunction, Label, Demand}
use Rattle.rich_reduction.specs.Configurations.{Val, Number, Level, Here, Config}
use Rattle.rich_reduction.specs.Control.{give}
use Rattle.rich_rights.specs.Rights.{Right, rights_to, count_all, count_levels, count_calls, count_stores, is_live}
use Rattle.rich_rights_laws.proofs.Sums.{values}
use Rattle.rich_soundness_values.specs.Heaps.{Heaps}
use Rattle.rich_soundness_values.specs.Values.{HaveTypes}
use Rattle.rich_soundness_points.specs.Points.{Levels, of_function, of_initialiser, past, back, Callers, of_main, waits}
use Rattle.rich_soundness_points.specs.Good.{AreSet, in_body, at_end, Good, Fine}
use Rattle.rich_soundness_rows.proofs.Widths.{number_taken}
use Rattle.rich_soundness_tuples.proofs.Lists.{have_append}
use Rattle.rich_soundness_branches.proofs.Unr.{RestsUnr, no_rights_in_all}

-- nothing of no types
none_typed : (hs : Heaps) (vs : List Val) (P : List Val → Type 0) → HaveTypes hs vs [] → P [] → P vs
none_typed hs [] P h x = x
none_typed hs (v ∷ vs) P h x = elim h [ ]

module _ (p : Program) (c : Config) (good : Good p c) (set : AreSet p good.set OfFunction) where
  -- the rights that stand elsewhere than in the call that is over
  abbrev Remain : List Val → List Here → Type 0
  Remain vs ks = (r : Right) (n : ℕ) → count_all (rights_to r n) vs + (count_calls (rights_to r n) ks + (count_all (rights_to r n) c.globals + count_stores (rights_to r n) c.stores)) ≡ is_live (slice_get c.stores.linear n)

  pub gives : {results : List Ty} (ks : List Here) (vs : List Val) → Callers p good.heaps OfFunction results ks → HaveTypes good.heaps vs results → Remain vs ks → Fine p (give vs ks c)
  gives ks vs (of_main {here = here} e own) typed rights =
      number_taken good.heaps W64 vs [] (λ us. Remain us (here ∷ []) → Fine p (give us (here ∷ []) c)) (subst (λ (ts : List Ty). HaveTypes good.heaps vs ts) e typed)
      (λ n us w none. none_typed good.heaps us (λ ws. Remain (Number n ∷ ws) (here ∷ []) → Fine p (give (Number n ∷ ws) (here ∷ []) c)) none
      (λ rights. record {
        heaps = good.heaps;
        functions = good.functions;
        set = good.set;
        runs = at_end n w (ap (λ (h : Here). record h { operands = Number n ∷ h.operands }) own) refl;
        globals_typed = good.globals_typed;
        stored = good.stored;
        kept = λ r m. omega (arith, rights r m);
      }))
      rights
  gives {results = results} ks vs (waits {here = here} outer beneath b held waiting) typed rights = record {
    heaps = good.heaps;
    functions = good.functions;
    set = good.set;
    runs = in_body OfFunction outer (results ++ beneath) set (record { labels = b.labels; demand = b.demand; locals = b.locals; goes_on = b.goes_on; levels = b.levels; locals_typed = b.locals_typed; gives = b.gives }) (have_append typed held) waiting;
    globals_typed = good.globals_typed;
    stored = good.stored;
    kept = λ r m. omega (arith, rights r m, (values (rights_to r m)).joined vs here.operands);
  }

-- the operands beneath open lists whose rests are `unr` have no rights
pub levels_free : {p : Program} {hs : Heaps} {owner : Owner} {results : List Ty} {count : ℕ} {labels : List Label} {d : Demand} {levels : List Level} (r : Right) (n : ℕ) → Levels p hs owner results count labels d levels →
    RestsUnr (length labels) labels → count_levels (rights_to r n) levels ≡ 0
levels_free r n (of_function w d) unr = refl
levels_free r n (of_initialiser k g w is d l) unr = ap (λ (y : Level). count_levels (rights_to r n) (y ∷ [])) l
levels_free r n (past types locals rest outer many aim takes leaves beneath goes outward) unr = omega (arith, no_rights_in_all r n beneath unr.0, levels_free r n outward unr.1)
levels_free r n (back types locals carried starting rest outer body many started aim takes leaves beneath inner goes outward) unr = omega (arith, no_rights_in_all r n beneath unr.0, levels_free r n outward unr.1)
