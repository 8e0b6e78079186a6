-- Counts add up, by recursion on the lists.
use Rattle.std.proofs.Common.{◌≡◌, ℕ, zero, suc, ◌+◌, List, [], ◌∷◌, ◌++◌, Option, Some, None, reverse, refl, ap, arith}
use Rattle.std.specs.Prelude.{slice_get, slice_set}
use Rattle.std.proofs.lemmas.List.{reverse-append}
use Rattle.rw_types.specs.declared.types.Mem.{Mem}
use Rattle.rw_types.specs.declared.types.Mem.TheVariants.{L, U}
use Rattle.rich_reduction.specs.Configurations.{Val, Vals, none, more, Slot, Content, Cell, Stores}
use Rattle.rich_reduction.specs.Values.{parts_of, list_of}
use Rattle.rich_reduction.specs.Cells.{still_there, cell_in, put_in, with_new, opened_in}
use Rattle.rich_rights.specs.Rights.{Counter, count, count_parts, count_all, count_slots, count_content, count_place, count_places, count_cells, count_stores}
use Rattle.rich_rights_laws.specs.Sums.{CountsOfValues, CountsOfStores}

module _ (c : Counter) where
  joined : (vs ws : List Val) → count_all c (vs ++ ws) ≡ count_all c vs + count_all c ws
  joined [] ws = omega arith
  joined (v ∷ vs) ws = omega (arith, joined vs ws)

  reversed : (vs : List Val) → count_all c (reverse vs) ≡ count_all c vs
  reversed [] = refl
  reversed (v ∷ vs) =
      let e : count_all c (reverse (v ∷ vs)) ≡ count_all c (reverse vs ++ v ∷ []) = ap (count_all c) (reverse-append (v ∷ []) vs) in
      omega (arith, e, joined (reverse vs) (v ∷ []), reversed vs)

  set : (vs : List Val) (k : ℕ) (old v : Val) → slice_get vs k ≡ Some old → count_all c (slice_set vs k v) + count c old ≡ count_all c vs + count c v
  set [] k old v e = cc
  set (w ∷ vs) zero old v e = let s : w ≡ old = cc in omega (arith, ap (count c) s)
  set (w ∷ vs) (suc k) old v e = omega (arith, set vs k old v e)

  grouped : (vs : List Val) → count_parts c (parts_of vs) ≡ count_all c vs
  grouped [] = refl
  grouped (v ∷ vs) = omega (arith, grouped vs)

  ungrouped : (parts : Vals) → count_all c (list_of parts) ≡ count_parts c parts
  ungrouped none = refl
  ungrouped (more v vs) = omega (arith, ungrouped vs)

  slot_set : (slots : List Slot) (k : ℕ) (slot : Slot) (v : Val) → slice_get slots k ≡ Some slot → count_slots c (slice_set slots k (record slot { value = v })) + count c slot.value ≡ count_slots c slots + count c v
  slot_set [] k slot v e = cc
  slot_set (w ∷ slots) zero slot v e = let s : w ≡ slot = cc in omega (arith, ap (λ (x : Slot). count c x.value) s)
  slot_set (w ∷ slots) (suc k) slot v e = omega (arith, slot_set slots k slot v e)

  place_set : (os : List (Option Cell)) (k : ℕ) (old o : Option Cell) → slice_get os k ≡ Some old → count_places c (slice_set os k o) + count_place c old ≡ count_places c os + count_place c o
  place_set [] k old o e = cc
  place_set (w ∷ os) zero old o e = let s : w ≡ old = cc in omega (arith, ap (count_place c) s)
  place_set (w ∷ os) (suc k) old o e = omega (arith, place_set os k old o e)

  cell_set : (cells : List Cell) (k : ℕ) (old cell : Cell) → slice_get cells k ≡ Some old → count_cells c (slice_set cells k cell) + count_content c old.content ≡ count_cells c cells + count_content c cell.content
  cell_set [] k old cell e = cc
  cell_set (w ∷ cells) zero old cell e = let s : w ≡ old = cc in omega (arith, ap (λ (x : Cell). count_content c x.content) s)
  cell_set (w ∷ cells) (suc k) old cell e = omega (arith, cell_set cells k old cell e)

  places_more : (os : List (Option Cell)) (o : Option Cell) → count_places c (os ++ o ∷ []) ≡ count_places c os + count_place c o
  places_more [] o = omega arith
  places_more (w ∷ os) o = omega (arith, places_more os o)

  cells_more : (cells : List Cell) (cell : Cell) → count_cells c (cells ++ cell ∷ []) ≡ count_cells c cells + count_content c cell.content
  cells_more [] cell = omega arith
  cells_more (w ∷ cells) cell = omega (arith, cells_more cells cell)

  place_of : (o : Option (Option Cell)) (cell : Cell) → still_there o ≡ Some cell → o ≡ Some (Some cell)
  place_of None cell e = cc
  place_of (Some o) cell e = ap (λ (p : Option Cell). Some p) e

  put : (m : Mem) (n : ℕ) (cell : Cell) (x : Content) (s : Stores) → cell_in m n s ≡ Some cell → count_stores c (put_in m n (record cell { content = x }) s) + count_content c cell.content ≡ count_stores c s + count_content c x
  put L n cell x s e = omega (arith, place_set s.linear n (Some cell) (Some (record cell { content = x })) (place_of (slice_get s.linear n) cell e))
  put U n cell x s e = omega (arith, cell_set s.unrestricted n cell (record cell { content = x }) e)

  new : (m : Mem) (cell : Cell) (s : Stores) → count_stores c (with_new m cell s) ≡ count_stores c s + count_content c cell.content
  new L cell s = omega (arith, places_more s.linear (Some cell))
  new U cell s = omega (arith, cells_more s.unrestricted cell)

  taken : (n : ℕ) (cell : Cell) (s : Stores) → cell_in L n s ≡ Some cell → count_stores c (opened_in L n s) + count_content c cell.content ≡ count_stores c s
  taken n cell s e = omega (arith, place_set s.linear n (Some cell) None (place_of (slice_get s.linear n) cell e))

pub values : CountsOfValues
values c = record { joined = joined c; reversed = reversed c; set = set c; grouped = grouped c; ungrouped = ungrouped c; slot_set = slot_set c }

pub stores : CountsOfStores
stores c = record { put = put c; new = new c; taken = taken c }
