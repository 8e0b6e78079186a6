-- Operands on top and those beneath, by their types; and the lists that a derivation enters.
use Rattle.std.proofs.Common.{◌≡◌, ℕ, suc, List, [], ◌∷◌, ◌++◌, length, refl, ap, ◌∙◌}
use Rattle.rw_types.specs.declared.instrs.Instr.{Instr, Row_of-Instr, end_of-Instr, more_of-Instr, items-the_row-Instr}
use Rattle.rw_types.specs.declared.types.Ty.{Ty}
use Rattle.machine_steps.specs.Steps.{Turn, with_top}
use Rattle.rich_typing.specs.declared.notes.Note.{Note}
use Rattle.rich_rules.specs.Points.{Frame, Point, Demand, Entry, Enters, start, after}
use Rattle.rich_rules.specs.Table.{arms_of}
use Rattle.rich_rules.specs.Derivations as derive
use Rattle.rich_rules.specs.Derivations.{Derives, Follows, DerivesArms}
use Rattle.rich_reduction.specs.Configurations.{Val}
use Rattle.rich_soundness_values.specs.Heaps.{Heaps}
use Rattle.rich_soundness_values.specs.Values.{HaveTypes, no_types, more_types}
use Rattle.rich_soundness_points.specs.Programs.{RowFits, AllFit}

-- operands of these types on top, and of those beneath
pub record Split (hs : Heaps) (vs : List Val) (ts us : List Ty) : Type 0 where
  pub front : List Val
  pub back : List Val
  pub whole : vs ≡ front ++ back
  pub front_typed : HaveTypes hs front ts
  pub back_typed : HaveTypes hs back us

pub split : {hs : Heaps} (vs : List Val) (ts us : List Ty) → HaveTypes hs vs (ts ++ us) → Split hs vs ts us
split vs [] us h = record { front = []; back = vs; whole = refl; front_typed = no_types; back_typed = h }
split [] (t ∷ ts) us h = elim h [ ]
split (v ∷ vs) (t ∷ ts) us (more_types h hv) = let r = split vs ts us hv in
    record { front = v ∷ r.front; back = r.back; whole = ap (λ (l : List Val). v ∷ l) r.whole; front_typed = more_types h r.front_typed; back_typed = r.back_typed }

on_top : {V E A : Type 0} (front back : List V) (k : List V → List V → Turn E A) → with_top (length front) (front ++ back) k ≡ k front back
on_top [] back k = refl
on_top (v ∷ vs) back k = on_top vs back (λ taken beneath. k (v ∷ taken) beneath)

pub top_is : {V E A : Type 0} (n : ℕ) (vs front back : List V) (k : List V → List V → Turn E A) → n ≡ length front → vs ≡ front ++ back → with_top n vs k ≡ k front back
top_is n vs front back k e w = ap (λ (m : ℕ). with_top m vs k) e ∙ ap (λ (l : List _). with_top (length front) l k) w ∙ on_top front back k

-- the constants of a row are those of its list
pub row_all : {n : _} (row : Row_of-Instr n) → RowFits row → AllFit (items-the_row-Instr _ row)
row_all end_of-Instr h = tt
row_all (more_of-Instr i is) h = (h.0, row_all is h.1)

-- what follows where lists are entered
pub record Entering (f : Frame) (d : Demand) (q : Point) (i : Instr) (is : List Instr) (e : Entry) : Type 0 where
  pub inner : List Note
  pub later : List Note
  pub arms : DerivesArms f e 0 (arms_of i) inner
  pub rest : Derives f d (after e q) is later

pub entering : {f : Frame} {d : Demand} {q : Point} {i : Instr} {is : List Instr} {e : Entry} {notes : List Note} → Follows f d q i is (Enters e) notes → Entering f d q i is e
entering (derive.enters inner later e arms d) = record { inner = inner; later = later; arms = arms; rest = d }

pub record Arm (f : Frame) (e : Entry) (j : ℕ) (is : List Instr) : Type 0 where
  pub notes : List Note
  pub code : Derives f e.demand (start e j) is notes

pub first_arm : {f : Frame} {e : Entry} {j : ℕ} {is : List Instr} {arms : List (List Instr)} {notes : List Note} → DerivesArms f e j (is ∷ arms) notes → Arm f e j is
first_arm (derive.arm inner later e d arms) = record { notes = inner; code = d }

pub second_arm : {f : Frame} {e : Entry} {j : ℕ} {is js : List Instr} {arms : List (List Instr)} {notes : List Note} → DerivesArms f e j (is ∷ js ∷ arms) notes → Arm f e (suc j) js
second_arm (derive.arm inner later e d arms) = first_arm arms
