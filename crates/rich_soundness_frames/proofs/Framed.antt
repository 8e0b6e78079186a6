-- Calls, and globals, that have no right to read at a linear location.
use Rattle.std.proofs.Common.{◌≡◌, ◌≤◌, ℕ, zero, suc, ◌+◌, ◌⊎◌, inl, inr, List, [], ◌∷◌, Some, ap, arith}
use Rattle.std.specs.Prelude.{slice_get}
use Rattle.rw_types.specs.declared.types.Ty.{Ty}
use Rattle.rw_program.specs.declared.linked.LinkedGlobal.{LinkedGlobal}
use Rattle.rw_program.specs.Programs.{Program}
use Rattle.rich_rules.specs.Points.{Owner, Label, Demand}
use Rattle.rich_reduction.specs.Configurations.{Val, Empty, Level, Here}
use Rattle.rich_rights.specs.Rights.{Counter, Reading, rights_to, count, count_all, count_levels, count_calls}
use Rattle.rich_soundness_values.specs.Heaps.{Heaps}
use Rattle.rich_soundness_values.specs.Values.{HasType}
use Rattle.rich_soundness_values.specs.Laws.{Keeps}
use Rattle.rich_soundness_values.proofs.Framed.{framed, framed_all}
use Rattle.rich_soundness_points.specs.Points.{Levels, of_function, of_initialiser, past, back, InBody, Callers, of_own_list, of_main, waits}
use Rattle.rich_soundness_points.specs.Good.{AreGlobals}
use Rattle.rich_soundness_frames.specs.Laws.{CallsAreFramed}

value_part : (c : Counter) (vs : List Val) (n : ℕ) (v : Val) → slice_get vs n ≡ Some v → count c v ≤ count_all c vs
value_part c [] n v e = cc
value_part c (w ∷ vs) zero v e = let s : w ≡ v = cc in omega (arith, ap (count c) s)
value_part c (w ∷ vs) (suc n) v e = omega (arith, value_part c vs n v e)

module _ {p : Program} {hs hs' : Heaps} (n : ℕ) (keeps : Keeps n hs hs') where
  pub framed_levels : {owner : Owner} {results : List Ty} {k : ℕ} {labels : List Label} {d : Demand} {levels : List Level} → Levels p hs owner results k labels d levels → count_levels (rights_to Reading n) levels ≡ 0 → Levels p hs' owner results k labels d levels
  framed_levels (of_function o e) z = of_function o e
  framed_levels (of_initialiser i g o is e l) z = of_initialiser i g o is e l
  framed_levels (past types locals rest outer many aim takes gives beneath goes_on levels) z =
      past types locals rest outer many aim takes gives (framed_all n keeps beneath (omega arith)) goes_on (framed_levels levels (omega arith))
  framed_levels (back types locals carried starting rest outer body many so aim takes gives beneath again goes_on levels) z =
      back types locals carried starting rest outer body many so aim takes gives (framed_all n keeps beneath (omega arith)) again goes_on (framed_levels levels (omega arith))

  framed_body : {owner : Owner} {results operands : List Ty} {here : Here} → InBody p hs owner results operands here → count_all (rights_to Reading n) here.locals + count_levels (rights_to Reading n) here.levels ≡ 0 → InBody p hs' owner results operands here
  framed_body b z = record {
    labels = b.labels;
    demand = b.demand;
    locals = b.locals;
    goes_on = b.goes_on;
    levels = framed_levels b.levels (omega arith);
    locals_typed = framed_all n keeps b.locals_typed (omega arith);
    gives = b.gives;
  }

  pub framed_callers : {owner : Owner} {results : List Ty} {callers : List Here} → Callers p hs owner results callers → count_calls (rights_to Reading n) callers ≡ 0 → Callers p hs' owner results callers
  framed_callers (of_own_list i e) z = of_own_list i e
  framed_callers (of_main e is) z = of_main e is
  framed_callers (waits outer beneath body typed callers) z =
      waits outer beneath (framed_body body (omega arith)) (framed_all n keeps typed (omega arith)) (framed_callers callers (omega arith))

  pub framed_globals : {set : ℕ} {vs : List Val} → AreGlobals p hs set vs → count_all (rights_to Reading n) vs ≡ 0 → AreGlobals p hs' set vs
  framed_globals {set = set} {vs = vs} a z = record { same_length = a.same_length; each = λ i v g is is'. either i v g is (a.each i v g is is') }
    where
      either : (i : ℕ) (v : Val) (g : LinkedGlobal) → slice_get vs i ≡ Some v → HasType hs v g.ty ⊎ ((v ≡ Empty) × (set ≤ i)) → HasType hs' v g.ty ⊎ ((v ≡ Empty) × (set ≤ i))
      either i v g is (inl h) = inl (framed n keeps h (omega (arith, value_part (rights_to Reading n) vs i v is)))
      either i v g is (inr e) = inr e

pub calls_framed : CallsAreFramed
calls_framed p n hs hs' keeps owner results callers h z = framed_callers n keeps h z
