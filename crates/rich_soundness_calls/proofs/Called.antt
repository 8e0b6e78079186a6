-- A good configuration after a call: the body that is called, and the one that waits for it.
use Rattle.std.proofs.Common.{◌≡◌, ◌∙◌, ℕ, zero, suc, ◌+◌, List, [], ◌∷◌, ◌++◌, length, reverse, replicate, refl, sym, ap, subst, arith}
use Rattle.std.specs.Prelude.{slice_get, Some}
use Rattle.std.proofs.lemmas.List.{length-reverse, reverse-reverse}
use Rattle.rw_types.specs.declared.types.Qual.TheVariants.{Unr}
use Rattle.rw_types.specs.declared.types.Ty.{Ty}
use Rattle.rw_program.specs.declared.linked.LinkedFunc.{LinkedFunc}
use Rattle.rw_program.specs.Linking.{func_of}
use Rattle.rw_program.specs.Programs.{Program}
use Rattle.rich_types.specs.Scopes.{scope_of}
use Rattle.rich_types.specs.Instances.{Substitution}
use Rattle.rich_rules.specs.Points.{OfFunction, AllUnr}
use Rattle.rich_rules.specs.Takers.{unr_unit}
use Rattle.rich_rules.specs.Modules.{function_demand, function_start, slots_of_locals}
use Rattle.rich_linking.specs.TypedPrograms.{linked_frame, types_of_functions, types_of_globals}
use Rattle.rich_reduction.specs.Configurations.{Val, Empty, Here, Config}
use Rattle.rich_reduction.specs.Control.{sizes_of}
use Rattle.rich_rights.specs.Rights.{Counter, Right, rights_to, count_all}
use Rattle.rich_rights_laws.proofs.Sums.{values}
use Rattle.rich_soundness_values.specs.Heaps.{Heaps, Answer, all_at}
use Rattle.rich_soundness_values.specs.Values.{HaveTypes, no_types, more_types, is_unit}
use Rattle.rich_soundness_points.specs.Programs.{IsSound}
use Rattle.rich_soundness_points.specs.Points.{closed, GoesOn, of_function, InBody, Callers, waits}
use Rattle.rich_soundness_points.specs.Good.{AreSet, in_body, Good}
use Rattle.rich_soundness_rows.proofs.Closed.{at_length}
use Rattle.rich_soundness_tuples.proofs.Lists.{at_append, at_reverse, have_append, have_reverse}
use Rattle.rich_soundness_calls.proofs.Sound.{body_of}

-- a call of a function with these arguments, the last on top
abbrev pub called : LinkedFunc → List Val → Here
called f arguments = record {
  results = length f.ty.results;
  sizes = sizes_of f.ty.binders;
  locals = reverse arguments ++ replicate (length f.locals) Empty;
  operands = [];
  rest = f.body;
  levels = [];
}

-- the other locals are units, and have no rights
units : {hs : Heaps} (g : Substitution) (n : ℕ) → HaveTypes hs (replicate n Empty) (all_at g (replicate n unr_unit))
units g zero = no_types
units g (suc n) = more_types (is_unit Unr refl) (units g n)

no_units : (c : Counter) (n : ℕ) → count_all c (replicate n Empty) ≡ 0
no_units c zero = refl
no_units c (suc n) = omega (arith, no_units c n)

pub called_count : (c : Counter) (f : LinkedFunc) (arguments : List Val) → count_all c (called f arguments).locals ≡ count_all c arguments
called_count c f arguments = omega (arith, (values c).joined (reverse arguments) (replicate (length f.locals) Empty), (values c).reversed arguments, no_units c (length f.locals))

module _ (p : Program) (sound : IsSound p) (n : ℕ) (f : LinkedFunc) (found : slice_get p.funcs n ≡ Some f) (g : Substitution) (answered : Answer g (scope_of f.ty.binders)) where
  -- the body that is called
  pub callee : (hs : Heaps) (arguments : List Val) → HaveTypes hs arguments (all_at g (reverse f.ty.params)) → InBody p hs OfFunction (all_at g (reverse f.ty.results)) [] (called f arguments)
  callee hs arguments typed = record {
    labels = [];
    demand = record { types = all_at g (reverse f.ty.results); locals = AllUnr };
    locals = all_at g (f.ty.params ++ replicate (length f.locals) unr_unit);
    goes_on = record {
      frame = linked_frame (types_of_functions p.funcs) (types_of_globals p.globals) (slots_of_locals (func_of f)) OfFunction;
      demand = function_demand (func_of f);
      point = function_start (func_of f);
      notes = f.notes;
      code = body_of p sound n f found;
      fit = sound.functions_fit n f found;
      owned = refl;
      functions = refl;
      globals = refl;
      answers = g;
      answered = answered;
      demanded = refl;
      seen = refl;
      sized = refl;
    };
    levels = of_function refl refl;
    locals_typed = subst (λ (ts : List Ty). HaveTypes hs (reverse arguments ++ replicate (length f.locals) Empty) ts) (sym (at_append g f.ty.params (replicate (length f.locals) unr_unit)))
        (have_append (subst (λ (ts : List Ty). HaveTypes hs (reverse arguments) ts) (sym (at_reverse g (reverse f.ty.params)) ∙ ap (all_at g) (reverse-reverse f.ty.params)) (have_reverse typed)) (units g (length f.locals)));
    gives = λ o. sym (at_length g (reverse f.ty.results) ∙ length-reverse f.ty.results);
  }

  -- a call from a body
  module _ (c : Config) (rest : List _) (good : Good p c) {results operands : List Ty} (set : AreSet p good.set OfFunction) (b : InBody p good.heaps OfFunction results operands c.here) (callers : Callers p good.heaps OfFunction results c.callers) where
    pub call_good : (beneath : List Ty) (front back : List Val) → HaveTypes good.heaps front (all_at g (reverse f.ty.params)) → HaveTypes good.heaps back beneath →
        ((r : Right) (i : ℕ) → count_all (rights_to r i) front + count_all (rights_to r i) back ≡ count_all (rights_to r i) c.here.operands) →
        GoesOn p OfFunction b.demand (closed b.locals b.labels results (all_at g (reverse f.ty.results) ++ beneath)) c.here.sizes rest →
        Good p (record c { here = called f front; callers = record c.here { rest = rest; operands = back } ∷ c.callers })
    call_good beneath front back front_typed back_typed rights after = record {
      heaps = good.heaps;
      functions = good.functions;
      set = good.set;
      runs = in_body OfFunction (all_at g (reverse f.ty.results)) [] set (callee good.heaps front front_typed) no_types
          (waits results beneath (record {
            labels = b.labels;
            demand = b.demand;
            locals = b.locals;
            goes_on = after;
            levels = b.levels;
            locals_typed = b.locals_typed;
            gives = b.gives;
          }) back_typed callers);
      globals_typed = good.globals_typed;
      stored = good.stored;
      kept = λ r i. omega (arith, rights r i, called_count (rights_to r i) f front, good.kept r i);
    }
