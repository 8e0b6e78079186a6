-- The written rows, computed.
use Rattle.std.proofs.Common.{refl}
use Rattle.rw_types.specs.declared.instrs.Instr.TheBlock as instrs
use Rattle.rw_types.specs.declared.types.Heap.TheBlock as types
use Rattle.lowering_table.specs.Worked.{EndedFunction, EndedInitialiser, IndirectTypes, NestedOrder, SwapHeight, TwoInitialisers}

pub ended_function : EndedFunction
ended_function = refl

pub two_initialisers : TwoInitialisers
two_initialisers = refl

pub ended_initialiser : EndedInitialiser
unfolding types.shape-the_row-Ty-1 types.hidden-the_row-Ty-1 denote.Hole.Carrier.hidden denote.Hole.Carrier.shown
ended_initialiser = refl

pub swap-height : SwapHeight
unfolding types.shape-the_row-Slot-0 types.hidden-the_row-Slot-0 denote.Hole.Carrier.hidden denote.Hole.Carrier.shown
swap-height = refl

pub nested_order : NestedOrder
unfolding instrs.shape-the_row-Instr-0 instrs.hidden-the_row-Instr-0 denote.Hole.Carrier.hidden denote.Hole.Carrier.shown
nested_order = refl

pub indirect_types : IndirectTypes
unfolding instrs.shape-the_row-Instr-0 instrs.hidden-the_row-Instr-0 types.shape-the_row-FunType-3 types.hidden-the_row-FunType-3 denote.Hole.Carrier.hidden denote.Hole.Carrier.shown
indirect_types = refl
