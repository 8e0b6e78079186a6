-- Cells that are made have the next numbers of their store.
use Rattle.std.proofs.Common.{◌≡◌, ℕ, zero, suc, ◌+◌, List, [], ◌∷◌, ◌++◌, length, refl, sym, ap, subst, ◌∙◌, arith}
use Rattle.std.specs.Prelude.{slice_set, Some, None}
use Rattle.std.specs.List.{flat_map}
use Rattle.std.proofs.lemmas.List.{length-append}
use Rattle.rw_types.specs.declared.types.Mem.{Mem}
use Rattle.rw_types.specs.declared.types.Mem.TheVariants.{L, U}
use Rattle.rich_reduction.specs.Configurations.{Val, Location, Cell, Stores, Event, Made, Touched}
use Rattle.rich_reduction.specs.Cells.{put_in, new_location, with_new, opening, opened_in}
use Rattle.rich_reduction_laws.specs.Effects.{Effect, Quiet, Prints, Makes, Reads, Writes, Opens, Frees, OpensCell, Does}
use Rattle.rich_reduction_laws.specs.Stores.{places, made_in, counting}

-- numbers that go on
pub counting_on : (from k n : ℕ) → counting from k ++ counting (from + k) n ≡ counting from (k + n)
counting_on from zero n = ap (λ (a : ℕ). counting a n) (let e : from + zero ≡ from = omega arith in e) ∙ ap (counting from) (let e : n ≡ zero + n = omega arith in e)
counting_on from (suc k) n =
    ap (λ (a : ℕ). from ∷ (counting (suc from) k ++ counting a n)) (let e : from + suc k ≡ suc from + k = omega arith in e)
    ∙ ap (λ (l : List ℕ). from ∷ l) (counting_on (suc from) k n)
    ∙ ap (counting from) (let e : suc (k + n) ≡ suc k + n = omega arith in e)

length_set : {X : Type 0} (xs : List X) (n : ℕ) (x : X) → length (slice_set xs n x) ≡ length xs
length_set [] n x = refl
length_set (y ∷ xs) zero x = refl
length_set (y ∷ xs) (suc n) x = ap suc (length_set xs n x)

-- the cells of a memory that events make, from these stores to those
pub record Counts (m : Mem) (s s' : Stores) (es : List Event) : Type 0 where
  pub count : ℕ
  pub made : flat_map (made_in m) es ≡ counting (places m s) count
  pub grown : places m s' ≡ places m s + count

-- none, where the places stay
none : (m : Mem) (s s' : Stores) (es : List Event) → flat_map (made_in m) es ≡ [] → places m s' ≡ places m s → Counts m s s' es
none m s s' es e stay = record { count = 0; made = e; grown = omega (arith, stay) }

places_put : (m k : Mem) (n : ℕ) (cell : Cell) (s : Stores) → places m (put_in k n cell s) ≡ places m s
places_put L L n cell s = length_set s.linear n (Some cell)
places_put L U n cell s = refl
places_put U L n cell s = refl
places_put U U n cell s = length_set s.unrestricted n cell

places_opened : (m k : Mem) (n : ℕ) (s : Stores) → places m (opened_in k n s) ≡ places m s
places_opened L L n s = length_set s.linear n None
places_opened L U n s = refl
places_opened U L n s = refl
places_opened U U n s = refl

opening_makes : (m k : Mem) (l : Location) → flat_map (made_in m) (opening k l) ≡ []
opening_makes m L l = refl
opening_makes m U l = refl

makes : (m k : Mem) (cell : Cell) (s : Stores) → Counts m s (with_new k cell s) (Made (new_location k s) cell.words ∷ Touched (new_location k s) ∷ [])
makes L L cell s = record { count = 1; made = refl; grown = length-append s.linear (Some cell ∷ []) }
makes L U cell s = none L s (with_new U cell s) (Made (new_location U s) cell.words ∷ Touched (new_location U s) ∷ []) refl refl
makes U L cell s = none U s (with_new L cell s) (Made (new_location L s) cell.words ∷ Touched (new_location L s) ∷ []) refl refl
makes U U cell s = record { count = 1; made = refl; grown = length-append s.unrestricted (cell ∷ []) }

opens : (m : Mem) (s s' : Stores) (es : List Event) → OpensCell s s' es → Counts m s s' es
opens m s s' es h =
    none m s s' es (ap (λ (l : List Event). flat_map (made_in m) l) h.said ∙ opening_makes m h.location.mem h.location)
    (ap (places m) h.opened ∙ places_opened m h.location.mem h.location.number s)

pub does_count : (m : Mem) (e : Effect) (vs : List Val) (s s' : Stores) (es : List Event) → Does e vs s s' es → Counts m s s' es
does_count m Quiet vs s s' es h = none m s s' es (ap (λ (l : List Event). flat_map (made_in m) l) h.said) (ap (places m) h.stays)
does_count m Prints vs s s' es h = none m s s' es (ap (λ (l : List Event). flat_map (made_in m) l) h.said) (ap (places m) h.stays)
does_count m (Makes k) vs s s' es h = subst (Counts m s s') (sym h.said) (subst (λ (t : Stores). Counts m s t (Made (new_location k s) h.cell.words ∷ Touched (new_location k s) ∷ [])) (sym h.made) (makes m k h.cell s))
does_count m Reads vs s s' es h = none m s s' es (ap (λ (l : List Event). flat_map (made_in m) l) h.said) (ap (places m) h.stays)
does_count m Writes vs s s' es h =
    none m s s' es (ap (λ (l : List Event). flat_map (made_in m) l) h.said) (ap (places m) h.written ∙ places_put m h.location.mem h.location.number (record h.cell { content = h.content }) s)
does_count m Opens vs s s' es h = opens m s s' es h
does_count m Frees vs s s' es h = opens m s s' es h.opens
