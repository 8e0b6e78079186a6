-- Programs with cells of both memories, and what they say (this project's own rows; the expected numbers come from an independent
-- model).
use Rattle.std.specs.Prelude.{◌≡◌, [], ◌∷◌, None}
use Rattle.rw_types.specs.declared.instrs.Instr as i
use Rattle.rw_types.specs.declared.types.Mem.{Mem}
use Rattle.rw_types.specs.declared.types.Mem.TheVariants.{L, U}
use Rattle.rw_types.specs.declared.types.Priv.TheVariants.{Rw}
use Rattle.rw_program.specs.Programs.{Program}
use Rattle.machine_steps.specs.declared.Trap.TheVariants.{Index}
use Rattle.rich_types.specs.Rows.{long, unit_type}
use Rattle.rich_reduction.specs.Configurations.{Number, Ref, Made, Touched, Freed}
use Rattle.rich_reduction.specs.Rows.{Takes, StopsShort}
use Rattle.rich_reduction_rows.specs.Programs.{main_with, links, quiet, linear, unrestricted, config_after, said_by, TrapsAfter}

-- a linear cell that holds a number and then a hidden cell of the other memory
abbrev pub setting : Program
setting = main_with []
    (i.I64Const 5
    ∷ i.StructMalloc L (1 ∷ [])
    ∷ i.MemUnpack quiet (i.I64Const 9 ∷ i.StructMalloc U (1 ∷ []) ∷ i.StructSet 0 ∷ i.StructGet 0 ∷ i.Drop ∷ i.StructFree ∷ [])
    ∷ i.I64Const 0
    ∷ [])

abbrev pub SettingTakes : Type 0
SettingTakes = Takes setting 14 [] 0

-- each step on a cell touches it once
abbrev pub SettingSays : Type 0
SettingSays = said_by setting 14 ≡
    Made (linear 0) 1 ∷ Touched (linear 0) ∷ Made (unrestricted 0) 1 ∷ Touched (unrestricted 0) ∷ Touched (linear 0) ∷ Touched (linear 0) ∷ Touched (linear 0) ∷ Freed (linear 0) ∷ []

-- two linear cells, one after the other; the address of the first is kept meanwhile
abbrev pub splitting : Program
splitting = main_with (1 ∷ [])
    (i.I64Const 1
    ∷ i.StructMalloc L (1 ∷ [])
    ∷ i.MemUnpack quiet
    (i.RefSplit
    ∷ i.LocalSet 0
    ∷ i.LocalGet 0
    ∷ i.RefJoin
    ∷ i.StructFree
    ∷ i.I64Const 2
    ∷ i.StructMalloc L (1 ∷ [])
    ∷ i.MemUnpack quiet (i.StructFree ∷ [])
    ∷ i.Unit
    ∷ i.LocalSet 0
    ∷ [])
    ∷ i.I64Const 0
    ∷ [])

abbrev pub SplittingTakes : Type 0
SplittingTakes = Takes splitting 20 [] 0

-- the second cell has a number of its own
abbrev pub SplittingSays : Type 0
SplittingSays = said_by splitting 20 ≡
    Made (linear 0) 1 ∷ Touched (linear 0) ∷ Touched (linear 0) ∷ Freed (linear 0) ∷ Made (linear 1) 1 ∷ Touched (linear 1) ∷ Touched (linear 1) ∷ Freed (linear 1) ∷ []

-- an address and a capability of different locations are not joined
abbrev pub MixedStopsShort : Type 0
MixedStopsShort = StopsShort
    (main_with (1 ∷ [])
    (i.I64Const 1
    ∷ i.StructMalloc L (1 ∷ [])
    ∷ i.MemUnpack quiet
    (i.RefSplit
    ∷ i.LocalSet 0
    ∷ i.I64Const 2
    ∷ i.StructMalloc L (1 ∷ [])
    ∷ i.MemUnpack quiet (i.RefSplit ∷ i.Drop ∷ i.LocalGet 0 ∷ i.RefJoin ∷ [])
    ∷ [])
    ∷ []))
    12

-- rights to write, given away and taken back
abbrev pub SharingTakes : Type 0
SharingTakes = Takes
    (main_with (1 ∷ [])
    (i.I64Const 1
    ∷ i.StructMalloc L (1 ∷ [])
    ∷ i.MemUnpack quiet
    (i.RefSplit ∷ i.LocalSet 0 ∷ i.CapSplit ∷ i.CapJoin ∷ i.LocalGet 0 ∷ i.RefJoin ∷ i.StructFree ∷ i.Unit ∷ i.LocalSet 0 ∷ [])
    ∷ i.I64Const 0
    ∷ []))
    17 [] 0

-- an index at the length itself; the step touches the cell
abbrev pub indexing : Program
indexing = main_with []
    (i.I64Const 7
    ∷ i.I32Const 3
    ∷ i.ArrayMalloc U
    ∷ i.MemUnpack quiet (i.I32Const 3 ∷ i.ArrayGet ∷ i.Drop ∷ i.Drop ∷ [])
    ∷ i.I64Const 0
    ∷ [])

abbrev pub IndexTraps : Type 0
IndexTraps = TrapsAfter indexing 7 [] Index

abbrev pub IndexSays : Type 0
IndexSays = said_by indexing 7 ≡ Made (unrestricted 0) 4 ∷ Touched (unrestricted 0) ∷ Touched (unrestricted 0) ∷ []

abbrev pub IndexLeavesOperands : Type 0
IndexLeavesOperands = (config_after indexing 7).here.operands ≡ Number 3 ∷ Ref (unrestricted 0) Rw ∷ []

-- a linear cell within a linear cell is swapped for another, and that for a number
abbrev pub swapping : Program
swapping = main_with []
    (i.I64Const 1
    ∷ i.StructMalloc L (1 ∷ [])
    ∷ i.StructMalloc L (1 ∷ [])
    ∷ i.MemUnpack quiet
    (i.I64Const 2
    ∷ i.StructMalloc L (1 ∷ [])
    ∷ i.StructSwap 0
    ∷ i.MemUnpack quiet (i.StructFree ∷ [])
    ∷ i.I64Const 0
    ∷ i.StructSwap 0
    ∷ i.MemUnpack quiet (i.StructFree ∷ [])
    ∷ i.StructFree
    ∷ [])
    ∷ i.I64Const 0
    ∷ [])

abbrev pub SwappingTakes : Type 0
SwappingTakes = Takes swapping 21 [] 0

-- each of the three cells is freed once, the innermost first
abbrev pub SwappingSays : Type 0
SwappingSays = said_by swapping 21 ≡
    Made (linear 0) 1 ∷ Touched (linear 0) ∷ Made (linear 1) 1 ∷ Touched (linear 1) ∷ Made (linear 2) 1 ∷ Touched (linear 2) ∷ Touched (linear 1) ∷ Touched (linear 0) ∷ Freed (linear 0) ∷ Touched (linear 1) ∷ Touched (linear 2) ∷ Freed (linear 2) ∷ Touched (linear 1) ∷ Freed (linear 1) ∷ []

abbrev pub SwappingLeavesNone : Type 0
SwappingLeavesNone = (config_after swapping 21).stores.linear ≡ None ∷ None ∷ None ∷ []

-- a variant of this memory is taken apart
abbrev pub taking_apart : Mem → Program
taking_apart m = main_with []
    (i.I64Const 7
    ∷ i.VariantMalloc m 1 (unit_type ∷ long ∷ [])
    ∷ i.MemUnpack (links [] (long ∷ [])) (i.VariantCase (links [] (long ∷ [])) ((i.Drop ∷ i.I64Const 0 ∷ []) ∷ [] ∷ []) ∷ [])
    ∷ [])

abbrev pub ApartTakes : Mem → Type 0
ApartTakes m = Takes (taking_apart m) 9 [] 7

-- a linear one is taken out
abbrev pub LinearApartSays : Type 0
LinearApartSays = said_by (taking_apart L) 9 ≡ Made (linear 0) 2 ∷ Touched (linear 0) ∷ Touched (linear 0) ∷ Freed (linear 0) ∷ []

-- one of the other memory is copied, and stays
abbrev pub UnrestrictedApartSays : Type 0
UnrestrictedApartSays = said_by (taking_apart U) 9 ≡ Made (unrestricted 0) 2 ∷ Touched (unrestricted 0) ∷ Touched (unrestricted 0) ∷ []
