-- Elements of arrays, by their type.
use Rattle.std.proofs.Common.{◌≡◌, ℕ, zero, suc, List, [], ◌∷◌, Option, Some, None, refl, ap, ◌∙◌, subst, arith}
use Rattle.std.specs.Prelude.{slice_get, slice_set, replicate}
use Rattle.rw_types.specs.declared.instrs.Instr.{Instr}
use Rattle.rw_types.specs.declared.types.Heap.TheVariants.{Array}
use Rattle.rw_types.specs.declared.types.Ty.{Ty}
use Rattle.machine_steps.specs.declared.End.TheVariants.{Trap}
use Rattle.machine_steps.specs.declared.Trap.TheVariants.{Index}
use Rattle.machine_steps.specs.Steps.{Turn, Ended, with_found}
use Rattle.rich_types.specs.Walks.{outside, walk_heap}
use Rattle.rich_types.specs.Instances.{Substitution, substituting, raise}
use Rattle.rich_types.proofs.Shapes.{walk-Array}
use Rattle.rich_rules.specs.Points.{Frame, Point}
use Rattle.rich_rules.specs.Raised.{one_location}
use Rattle.rich_reduction.specs.Configurations.{Val, Location, Elements, Cell, Stores, Here, Config, Event, Touched}
use Rattle.rich_reduction.specs.Cells.{cell_at, with_elements}
use Rattle.rich_reduction.specs.Arrays.{with_element}
use Rattle.rich_rights.specs.Rights.{Right, rights_to, count_all}
use Rattle.rich_soundness_values.specs.Heaps.{Heaps, IsUnr, at}
use Rattle.rich_soundness_values.specs.Values.{HasType, HaveTypes, no_types, more_types}
use Rattle.rich_soundness_values.specs.Cells.{each}
use Rattle.rich_soundness_values.proofs.Typed.{no_rights}
use Rattle.rich_soundness_binders.specs.Laws.{onto}
use Rattle.rich_soundness_binders.proofs.Onto.{raised_stays}
use Rattle.rich_soundness_binders.proofs.Bodies.{placed}
use Rattle.rich_soundness_frames.proofs.Acts.{Acts, traps}

pub array_at : (g : Substitution) (t : Ty) → walk_heap (substituting g) outside (Array t) ≡ Array (at g t)
array_at g t = walk-Array (substituting g) outside t

pub array_raised : (g : Substitution) (l : Location) (t : Ty) → walk_heap (substituting (onto (placed l) g)) outside (Array (raise one_location t)) ≡ Array (at g t)
array_raised g l t = array_at (onto (placed l) g) (raise one_location t) ∙ ap Array (raised_stays (placed l) g outside t)

-- what follows from the cell of an array
pub in_array : (l : Location) (cell : Cell) (vs : List Val) (s : Stores) (k : Cell → List Val → Turn Event Config) → cell_at l s ≡ Some cell → cell.content ≡ Elements vs →
    with_found (cell_at l s) (λ x. with_elements x.content (λ us. k x us)) ≡ k cell vs
in_array l cell vs s k at is = ap (λ (o : Option Cell). with_found o (λ x. with_elements x.content (λ us. k x us))) at ∙ ap (λ x. with_elements x (λ us. k cell us)) is

module _ {hs : Heaps} (t : Ty) where
  pub each_at : (vs : List Val) (n : ℕ) (v : Val) → HaveTypes hs vs (each t vs) → slice_get vs n ≡ Some v → HasType hs v t
  each_at [] n v h e = cc
  each_at (w ∷ vs) zero v (more_types h hv) e = let i : w ≡ v = cc in subst (λ (o : Val). HasType hs o t) i h
  each_at (w ∷ vs) (suc n) v (more_types h hv) e = each_at vs n v hv e

  pub each_set : (vs : List Val) (n : ℕ) (v : Val) → HaveTypes hs vs (each t vs) → HasType hs v t → HaveTypes hs (slice_set vs n v) (each t (slice_set vs n v))
  each_set [] n v h k = h
  each_set (w ∷ vs) zero v (more_types h hv) k = more_types k hv
  each_set (w ∷ vs) (suc n) v (more_types h hv) k = more_types h (each_set vs n v hv k)

  pub each_copy : (n : ℕ) (v : Val) → HasType hs v t → HaveTypes hs (replicate n v) (each t (replicate n v))
  each_copy zero v h = no_types
  each_copy (suc n) v h = more_types h (each_copy n v h)

  pub each_free : (r : Right) (n : ℕ) (vs : List Val) → HaveTypes hs vs (each t vs) → IsUnr t → count_all (rights_to r n) vs ≡ 0
  each_free r n [] h u = refl
  each_free r n (v ∷ vs) (more_types h hv) u = omega (arith, no_rights r n h u, each_free r n vs hv u)

-- an element, or a trap
abbrev element_or : Option Val → Location → Config → (Val → Turn Event Config) → Turn Event Config
element_or o l c then = elim o [
  | Some v ↦ then v
  | None ↦ Ended (Touched l ∷ []) (Trap Index) c
]

pub element_acts : {f : Frame} {hs : Heaps} {q : Point} {g : Substitution} {i : Instr} {vs : List Val} {here : Here} {c : Config} (l : Location) (us : List Val) (n : ℕ) (then : Val → Turn Event Config) →
    ((v : Val) → slice_get us n ≡ Some v → Acts f hs q g i vs here c (then v)) → Acts f hs q g i vs here c (with_element l us n c then)
element_acts {f = f} {hs = hs} {q = q} {g = g} {i = i} {vs = vs} {here = here} {c = c} l us n then acts = go (slice_get us n) refl
  where
    go : (o : Option Val) → slice_get us n ≡ o → Acts f hs q g i vs here c (element_or o l c then)
    go (Some v) e = acts v e
    go None e = traps (Touched l ∷ []) (Trap Index) refl
