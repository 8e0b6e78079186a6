-- What a step says, by its effect: it touches a cell once or none, and only a print prints.
use Rattle.std.proofs.Common.{◌≡◌, List, [], ◌∷◌, length, refl, ap, subst, ◌∙◌}
use Rattle.std.specs.List.{flat_map}
use Rattle.rw_types.specs.declared.instrs.Instr as i
use Rattle.rw_types.specs.declared.types.Mem.{Mem}
use Rattle.rw_types.specs.declared.types.Mem.TheVariants.{L, U}
use Rattle.rw_program.specs.declared.linked.LinkedFunc.{LinkedFunc}
use Rattle.machine_steps.specs.Steps.{Turn, Went, Ended, NoStep}
use Rattle.rich_reduction.specs.Configurations.{Val, Number, Location, Stores, Here, Config, Event, prints}
use Rattle.rich_reduction.specs.Plain.{print_number}
use Rattle.rich_reduction.specs.Cells.{opening}
use Rattle.rich_reduction.specs.Steps.{step_at}
use Rattle.rich_reduction_laws.specs.Effects.{Effect, Quiet, Prints, Makes, Reads, Writes, Opens, Frees, effect_of, next_effect, at_end, Does, HasEffect}
use Rattle.rich_reduction_laws.specs.Laws.{said_in, touched, touches, TouchedOnce, number_on_top, next_printed, PrintedByPrint}
use Rattle.rich_reduction_laws.proofs.Effects.{effects, steps}

opening_touches : (m : Mem) (l : Location) → length (flat_map touched (opening m l)) ≡ 1
opening_touches L l = refl
opening_touches U l = refl

does_touch : (e : Effect) (vs : List Val) (s s' : Stores) (es : List Event) → Does e vs s s' es → length (flat_map touched es) ≡ touches e
does_touch Quiet vs s s' es h = ap (λ (l : List Event). length (flat_map touched l)) h.said
does_touch Prints vs s s' es h = ap (λ (l : List Event). length (flat_map touched l)) h.said
does_touch (Makes m) vs s s' es h = ap (λ (l : List Event). length (flat_map touched l)) h.said
does_touch Reads vs s s' es h = ap (λ (l : List Event). length (flat_map touched l)) h.said
does_touch Writes vs s s' es h = ap (λ (l : List Event). length (flat_map touched l)) h.said
does_touch Opens vs s s' es h = ap (λ (l : List Event). length (flat_map touched l)) h.said ∙ opening_touches h.location.mem h.location
does_touch Frees vs s s' es h = ap (λ (l : List Event). length (flat_map touched l)) h.opens.said ∙ opening_touches h.opens.location.mem h.opens.location

touches_at_end : (e : Effect) → touches (at_end e) ≡ touches e
touches_at_end Writes = refl
touches_at_end Quiet = refl
touches_at_end Prints = refl
touches_at_end (Makes m) = refl
touches_at_end Reads = refl
touches_at_end Opens = refl
touches_at_end Frees = refl

pub touched_once : TouchedOnce
touched_once funcs c =
    let e = next_effect c.here.rest in (
      (λ es c' is. does_touch e c.here.operands c.stores c'.stores es (subst (HasEffect e c) is (effects funcs c))),
      (λ es end c' is.
          let h : HasEffect e c (Ended es end c') = subst (HasEffect e c) is (effects funcs c) in
          does_touch (at_end e) c.here.operands c.stores c.stores es h.does ∙ touches_at_end e),
    )

-- an effect that prints nothing
abbrev IsSilent : Effect → Type 0
IsSilent Prints = ⊥
IsSilent _ = Unit {0}

opening_prints : (m : Mem) (l : Location) → flat_map prints (opening m l) ≡ []
opening_prints L l = refl
opening_prints U l = refl

does_print : (e : Effect) → IsSilent e → (vs : List Val) (s s' : Stores) (es : List Event) → Does e vs s s' es → flat_map prints es ≡ []
does_print Quiet silent vs s s' es h = ap (λ (l : List Event). flat_map prints l) h.said
does_print Prints silent vs s s' es h = absurd silent
does_print (Makes m) silent vs s s' es h = ap (λ (l : List Event). flat_map prints l) h.said
does_print Reads silent vs s s' es h = ap (λ (l : List Event). flat_map prints l) h.said
does_print Writes silent vs s s' es h = ap (λ (l : List Event). flat_map prints l) h.said
does_print Opens silent vs s s' es h = ap (λ (l : List Event). flat_map prints l) h.said ∙ opening_prints h.location.mem h.location
does_print Frees silent vs s s' es h = ap (λ (l : List Event). flat_map prints l) h.opens.said ∙ opening_prints h.opens.location.mem h.opens.location

silent_at_end : (e : Effect) → IsSilent e → IsSilent (at_end e)
silent_at_end Writes s = tt
silent_at_end Quiet s = tt
silent_at_end Prints s = s
silent_at_end (Makes m) s = tt
silent_at_end Reads s = tt
silent_at_end Opens s = tt
silent_at_end Frees s = tt

silent : (e : Effect) → IsSilent e → (c : Config) (t : Turn Event Config) → HasEffect e c t → flat_map prints (said_in t) ≡ []
silent e s c (Went es c') h = does_print e s c.here.operands c.stores c'.stores es h
silent e s c (Ended es end c') h = does_print (at_end e) (silent_at_end e s) c.here.operands c.stores c.stores es h.does
silent e s c NoStep h = refl

print_prints : (vs : List Val) (here : Here) (c : Config) → flat_map prints (said_in (print_number (record here { operands = vs }) c)) ≡ number_on_top vs
print_prints (Number n ∷ vs) here c = refl
print_prints _ here c = refl

module _ (funcs : List LinkedFunc) (c : Config) where
  prints_next : (is : List i.Instr) → flat_map prints (said_in (step_at funcs is c)) ≡ next_printed is c.here.operands
  prints_next [] = silent Quiet tt c (step_at funcs [] c) (steps funcs c [])
  prints_next (i.Print ∷ rest) = print_prints c.here.operands (record c.here { rest = rest }) c
  prints_next (x ∷ rest) = silent (effect_of x) tt c (step_at funcs (x ∷ rest) c) (steps funcs c (x ∷ rest))

pub printed : PrintedByPrint
printed funcs c = prints_next funcs c c.here.rest
