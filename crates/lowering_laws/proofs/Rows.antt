-- The rows, computed.
use Rattle.std.proofs.Common.{refl}
use Rattle.wasm_ast.specs.declared.instructions.WInstr.{out-WInstr}
use Rattle.wasm_ast.specs.declared.instructions.WInstr.TheBlock as target
use Rattle.rw_types.specs.declared.instrs.Instr.TheBlock as source
use Rattle.lowering_laws.specs.Rows.{EndedFunctionTraps, GlobalsTake, LoweredGlobalsTake}

pub globals-take : GlobalsTake
unfolding source.shape-the_row-Instr-0 source.hidden-the_row-Instr-0 denote.Hole.Carrier.hidden denote.Hole.Carrier.shown
globals-take = record { before = refl; after = refl }

pub lowered_globals-take : LoweredGlobalsTake
unfolding out-WInstr denote.Hole.Carrier.out target.shape-the_row-WInstr-0 target.shown-the_row-WInstr-0 target.hidden-the_row-WInstr-0 denote.Hole.Carrier.hidden denote.Hole.Carrier.shown
lowered_globals-take = record { before = refl; after = refl }

pub ended_function-traps : EndedFunctionTraps
unfolding out-WInstr denote.Hole.Carrier.out
ended_function-traps = record { before = refl; after = refl }
