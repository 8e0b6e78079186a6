-- How counts over values, slots and stores add up. This project's own.
use Rattle.std.specs.Prelude.{◌≡◌, ℕ, ◌+◌, List, ◌++◌, Some, reverse, slice_get, slice_set}
use Rattle.rw_types.specs.declared.types.Mem.{Mem}
use Rattle.rich_reduction.specs.Configurations.{Val, Vals, Slot, Content, Cell, Stores}
use Rattle.rich_reduction.specs.Values.{parts_of, list_of}
use Rattle.rich_reduction.specs.Cells.{cell_in, put_in, with_new, opened_in}
use Rattle.rw_types.specs.declared.types.Mem.TheVariants.{L}
use Rattle.rich_rights.specs.Rights.{Counter, count, count_parts, count_all, count_slots, count_content, count_stores}

-- counts over lists of values: joined, turned round, with another value in a place, and as the parts of a tuple
pub record ValuesAddUp (c : Counter) : Type 0 where
  pub joined : (vs ws : List Val) → count_all c (vs ++ ws) ≡ count_all c vs + count_all c ws
  pub reversed : (vs : List Val) → count_all c (reverse vs) ≡ count_all c vs
  pub set : (vs : List Val) (k : ℕ) (old v : Val) → slice_get vs k ≡ Some old → count_all c (slice_set vs k v) + count c old ≡ count_all c vs + count c v
  pub grouped : (vs : List Val) → count_parts c (parts_of vs) ≡ count_all c vs
  pub ungrouped : (parts : Vals) → count_all c (list_of parts) ≡ count_parts c parts
  pub slot_set : (slots : List Slot) (k : ℕ) (slot : Slot) (v : Val) → slice_get slots k ≡ Some slot → count_slots c (slice_set slots k (record slot { value = v })) + count c slot.value ≡ count_slots c slots + count c v

-- counts over both stores: with another content in a cell, with a new cell, and with a linear cell taken out
pub record StoresAddUp (c : Counter) : Type 0 where
  pub put : (m : Mem) (n : ℕ) (cell : Cell) (x : Content) (s : Stores) → cell_in m n s ≡ Some cell → count_stores c (put_in m n (record cell { content = x }) s) + count_content c cell.content ≡ count_stores c s + count_content c x
  pub new : (m : Mem) (cell : Cell) (s : Stores) → count_stores c (with_new m cell s) ≡ count_stores c s + count_content c cell.content
  pub taken : (n : ℕ) (cell : Cell) (s : Stores) → cell_in L n s ≡ Some cell → count_stores c (opened_in L n s) + count_content c cell.content ≡ count_stores c s

abbrev pub CountsOfValues : Type 0
CountsOfValues = (c : Counter) → ValuesAddUp c

abbrev pub CountsOfStores : Type 0
CountsOfStores = (c : Counter) → StoresAddUp c
