-- The end of a list within a body.
use Rattle.std.proofs.Common.{◌≡◌, ◌∙◌, ℕ, ◌+◌, List, [], ◌∷◌, ◌++◌, Bool, true, false, Option, None, Some, cond, length, refl, ap, sym, subst, arith}
use Rattle.machine_steps.specs.Steps.{Turn, Went, with_all, with_none, with_top}
use Rattle.wasm_ast.specs.declared.instructions.WInstr.{WInstr}
use Rattle.wasm_execution.specs.Configurations as w
use Rattle.wasm_execution.specs.Control as wasm_control
use Rattle.wasm_execution.specs.Environments.{Environment}
use Rattle.wasm_execution.specs.Steps as wasm_steps
use Rattle.rw_types.specs.declared.instrs.Instr.{Instr}
use Rattle.rw_types.specs.declared.types.Ty.{Ty}
use Rattle.rich_types.specs.Scopes.{Scope, scope_of}
use Rattle.rich_typing.specs.declared.rules.Rule.TheVariants as rule
use Rattle.rich_rules.specs.Equality.{same}
use Rattle.rich_rules.specs.Derivations.{Derives, at_end, broken_by, end_broken, locals_broken, operands_broken}
use Rattle.rich_rules.specs.Points.{AllUnr, Demand, Exactly, Frame, LocalsDemand, Point}
use Rattle.rich_rules.specs.Takers.{Differ, Difference, difference, first_difference, or_else}
use Rattle.rich_rules_laws.proofs.Compared.{sound}
use Rattle.rich_reduction.specs.Configurations as r
use Rattle.rich_reduction.specs.Control as control
use Rattle.rich_reduction.specs.Steps as rich_steps
use Rattle.rw_program.specs.Programs.{Program}
use Rattle.lowering_rows.specs.Labels.{Label}
use Rattle.lowering_rows.specs.Surroundings.{operand_place}
use Rattle.lowering_rows.specs.Taken.{each_size}
use Rattle.lowering_heights.proofs.Ends.{end_operands}
use Rattle.simulation_relation.specs.Bodies.{AreHeld, Body, Carried, IsLeft, IsRunning, base_at, behind, carried_at, demanded_at, locals_demanded, sizes_at}
use Rattle.simulation_relation.specs.Words.{AreSpelled, Book, Holds}
use Rattle.simulation_frames.specs.Steps.{StepsAlike}
use Rattle.simulation_frames.proofs.Onward.{one_step}
use Rattle.simulation_frames.proofs.Words.{held_joined, spelled_size}
use Rattle.simulation_ends.specs.Laws.{EndsStepAlike}
use Rattle.simulation_ends.proofs.Sizes.{each_length, locals_there, spelled_joined, spelled_length, spelled_there}
use Rattle.simulation_ends.proofs.Around.{HasAround, around, base_is}

-- exactly so many operands
all_top : {V E A : Type 0} (vs : List V) (then : List V → List V → Turn E A) → with_top (length vs) vs then ≡ then vs []
all_top [] next = refl
all_top (v ∷ vs) next = all_top vs (λ taken beneath. next (v ∷ taken) beneath)

all_there : {V E A : Type 0} (n : ℕ) (vs : List V) (next : List V → Turn E A) → n ≡ length vs → with_all n vs next ≡ next vs
all_there n vs next e = ap (λ (m : ℕ). with_all m vs next) e ∙ all_top vs (λ taken beneath. with_none beneath (next taken))

first_none : {A : Type 0} (x y : Option A) → or_else x y ≡ None → x ≡ None
first_none None y e = refl
first_none (Some a) y e = cc

second_none : {A : Type 0} (x y : Option A) → or_else x y ≡ None → y ≡ None
second_none None y e = e
second_none (Some a) y e = cc

same_type : (t u : Ty) → difference t u ≡ None → t ≡ u
same_type t u e = by_test (same t u) refl e
  where
    by_test : (b : Bool) → same t u ≡ b → cond b None (Some (Differ t u)) ≡ None → t ≡ u
    by_test true f e = sound t u f
    by_test false f e = cc

first_same : (ts us : List Ty) → length ts ≡ length us → first_difference ts us ≡ None → ts ≡ us
first_same [] [] l e = refl
first_same [] (u ∷ us) l e = absurd (omega (arith, l))
first_same (t ∷ ts) [] l e = absurd (omega (arith, l))
first_same (t ∷ ts) (u ∷ us) l e =
    let x = first_none (difference t u) (first_difference ts us) e in
    let y = second_none (difference t u) (first_difference ts us) e in
    ap (λ (v : Ty). v ∷ ts) (same_type t u x) ∙ ap (λ (vs : List Ty). u ∷ vs) (first_same ts us (omega (arith, l)) y)

no_difference : (o : Option Difference) → broken_by rule.LocalsEnd o ≡ None → o ≡ None
no_difference None e = refl
no_difference (Some (Differ t u)) e = cc

end_of : {f : Frame} {d : Demand} {p : Point} {notes : _} → Derives f d p [] notes → end_broken d p ≡ None
end_of (at_end e nn) = e

same_some : (xs ys : List ℕ) → Some xs ≡ Some ys → xs ≡ ys
same_some xs ys e = cc

-- the locals at an end have as many words as those behind it
locals_alike : (c : Scope) (q behind : Point) (l : LocalsDemand) → locals_demanded q l ≡ Some (sizes_at behind behind.locals) → locals_broken c l q.locals ≡ None → length q.locals ≡ length behind.locals → sizes_at q q.locals ≡ sizes_at behind behind.locals
locals_alike c q behind AllUnr e n h = absurd (cc)
locals_alike c q behind (Exactly ts) e n h =
    let sized = same_some (sizes_at q ts) (sizes_at behind behind.locals) e in
    let many = ap (λ (l : List ℕ). length l) sized in
    let demanded = first_same q.locals ts (omega (arith, h, many, each_length (scope_of q.binders) ts, each_length (scope_of behind.binders) behind.locals)) (no_difference (first_difference q.locals ts) n) in
    ap (λ (l : List Ty). sizes_at q l) demanded ∙ sized

module _ (p : Program) (e : Environment) (b : Body) (book : Book) (a : r.Config) (c : w.Config) (label : Label) (labels : List Label) (run : IsRunning b book a.here c.here) (labelled : run.stands.labels ≡ label ∷ labels) (next : a.here.rest ≡ []) where
  there : IsLeft b book run.stands.labels run.stands.demand run.point [] c.here.rest
  there = subst (λ (l : List Instr). IsLeft b book run.stands.labels run.stands.demand run.point l c.here.rest) next run.stands.rest_left

  ended : end_broken run.stands.demand run.point ≡ None
  ended = end_of there.derived

  x : HasAround b book c.here.locals run.stands.labels (carried_at run.point) (demanded_at run.point run.stands.demand) a.here.levels c.here.levels
  x = around label labels labelled run.stands.lists

  abbrev At : Scope
  At = scope_of run.point.binders

  abbrev Behind : Scope
  Behind = scope_of x.point.binders

  -- no code is left
  no_code : c.here.rest ≡ []
  no_code = there.lowered ∙ ap (λ (l : List Label). behind b.end l []) labelled

  operands_alike : each_size At run.point.operands ≡ each_size Behind x.given
  operands_alike = ap (λ (l : List Ty). each_size At l) (end_operands run.stands.demand run.point ended) ∙ ap (λ (y : Carried). y.operands) x.gives

  same_locals : each_size At run.point.locals ≡ each_size Behind x.point.locals
  same_locals =
      locals_alike At run.point x.point run.stands.demand.locals (ap (λ (y : Carried). y.locals) x.gives)
      (second_none (operands_broken run.stands.demand.types run.point.operands) (locals_broken At run.stands.demand.locals run.point.locals) ended)
      (run.stands.rest_left.placed.locals.same_length ∙ sym x.left.placed.locals.same_length)

  -- what the list leaves lies on what lay beneath it
  on_top : AreHeld b book c.here.locals x.point x.point.operands (a.here.operands ++ x.level.beneath)
  on_top =
      let ws = run.stands.operands.words in
      let under = x.held.words in
      let own = spelled_there book At Behind run.point.operands x.given a.here.operands ws operands_alike run.stands.operands.spelled in
      let place : operand_place b.around (base_at run.point) ≡ operand_place b.around (base_at x.point) + length under =
      omega (arith, base_is run.point there.lists there.placed.lowered x, spelled_size book Behind x.beneath x.level.beneath under x.held.spelled) in
      record {
        words = under ++ ws;
        spelled = subst (λ (l : List Ty). AreSpelled book Behind l (a.here.operands ++ x.level.beneath) (under ++ ws)) (sym x.operands) (spelled_joined book Behind x.given x.beneath a.here.operands x.level.beneath ws under own x.held.spelled);
        held = held_joined c.here.locals (operand_place b.around (base_at x.point)) under ws x.held.held (subst (λ (m : ℕ). Holds c.here.locals m ws) place run.stands.operands.held);
      }

  count : x.level.gives ≡ length a.here.operands
  count =
      let many = ap (λ (l : List ℕ). length l) operands_alike in
      omega (arith, x.count, many, each_length At run.point.operands, each_length Behind x.given, spelled_length book At run.point.operands a.here.operands run.stands.operands.words run.stands.operands.spelled)

  abbrev Here : r.Here
  Here = record a.here { sizes = x.level.sizes; operands = a.here.operands ++ x.level.beneath; rest = x.level.rest; levels = x.others }

  abbrev Target : w.Here
  Target = record c.here { operands = []; rest = x.code; levels = x.other_lists }

  source : rich_steps.step p.funcs a ≡ Went [] (record a { here = Here })
  source =
      ap (λ (l : List Instr). rich_steps.step_at p.funcs l a) next
      ∙ ap (λ (l : List r.Level). control.leave l a.here a) x.in_levels
      ∙ all_there x.level.gives a.here.operands (λ (vs : List r.Val). Went [] (record a { here = record a.here { sizes = x.level.sizes; operands = vs ++ x.level.beneath; rest = x.level.rest; levels = x.others } })) count

  target : wasm_steps.step e c ≡ Went [] (record c { here = Target })
  target =
      ap (λ (l : List WInstr). wasm_steps.step_at e l c) no_code
      ∙ ap (λ (l : List w.Level). wasm_control.leave e l c.here c) x.in_lists
      ∙ all_there 0 c.here.operands (λ (vs : List ℕ). Went [] (record c { here = record c.here { operands = vs ++ []; rest = x.code; levels = x.other_lists } })) (sym (ap (λ (l : List ℕ). length l) run.stands.no_operands))
      ∙ ap (λ (vs : List ℕ). Went [] (record c { here = record c.here { operands = vs ++ []; rest = x.code; levels = x.other_lists } })) run.stands.no_operands

  alike : StepsAlike p e b book a c x.level.rest 1
  alike = record {
    here = Here;
    target = Target;
    source_step = source;
    target_steps = one_step (wasm_steps.step e) c (record c { here = Target }) target;
    left = refl;
    results = refl;
    function = refl;
    argument = refl;
    running = record {
      point = x.point;
      stands = record {
        labels = x.outer;
        demand = x.demand;
        rest_left = x.left;
        operands = on_top;
        locals = locals_there book At Behind c.here.locals b.around.places.locals run.point.locals x.point.locals a.here.locals same_locals run.stands.locals;
        lists = x.open_lists;
        sizes = x.sizes;
        frame = run.stands.frame;
        no_operands = refl;
      };
    };
  }

pub ends_step_alike : EndsStepAlike
ends_step_alike p e b book a c label labels run labelled next =
    let y = x p e b book a c label labels run labelled next in (y.level, y.others, y.in_levels, alike p e b book a c label labels run labelled next)
