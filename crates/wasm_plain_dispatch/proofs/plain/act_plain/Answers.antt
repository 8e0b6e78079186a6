use Rattle.wasm_ast.specs.declared.operation.OperationRef.TheVariants as ref
use Rattle.wasm_plain_dispatch.specs.Plain.{plain}
use Rattle.wasm_plain_dispatch.proofs.Doing.{seen_as, found_as, select_does, zero_does, compare_does, unary_does, convert_does, binary_does, global_does, set_does, size_does, load_does, store_does, put_room, select_room}
use Rattle.wasm_plain_dispatch.proofs.plain.act_plain.Goals as goal

pub returns-in-Load-clause-does : goal.returns-in-Load-clause-does
returns-in-Load-clause-does c = seen_as _ _ _ _ _ c.in-Load.is (load_does _ _ _ _ _ _ _ _ _ _ c.load_number.ensures.does)

pub returns-in-Store-clause-does : goal.returns-in-Store-clause-does
returns-in-Store-clause-does c = seen_as _ _ _ _ _ c.in-Store.is (store_does _ _ _ _ _ _ _ _ _ _ _ c.store_number.ensures.does)

pub returns-in-Binary-clause-does : goal.returns-in-Binary-clause-does
returns-in-Binary-clause-does c = seen_as _ _ _ _ _ c.in-Binary.is (binary_does _ _ _ _ _ _ _ _ c.apply_binary.ensures.does)

pub returns-in-Select-clause-does : goal.returns-in-Select-clause-does
returns-in-Select-clause-does c = seen_as _ _ _ _ _ c.in-Select.is (select_does _ _ _ _ _ c.select_one.ensures.does)

pub returns-in-Select-clause-capacity : goal.returns-in-Select-clause-capacity
returns-in-Select-clause-capacity c = select_room _ _ _ _ (found_as _ ref.Select _ _ c.in-Select.is c.requires.finds) c.select_one.ensures.top c.select_one.ensures.room

pub returns-in-LocalGet-clause-capacity : goal.returns-in-LocalGet-clause-capacity
returns-in-LocalGet-clause-capacity c = put_room _ _ _ c.in-LocalGet.n _ _ (found_as _ (ref.LocalGet c.in-LocalGet.n) _ _ c.in-LocalGet.is c.requires.finds).0 c.get_local.ensures.top c.get_local.ensures.room

pub returns-in-GlobalGet-clause-does : goal.returns-in-GlobalGet-clause-does
returns-in-GlobalGet-clause-does c = seen_as _ _ _ _ _ c.in-GlobalGet.is (global_does _ _ _ _ _ _ c.get_global.ensures.does)

pub returns-in-GlobalGet-clause-capacity : goal.returns-in-GlobalGet-clause-capacity
returns-in-GlobalGet-clause-capacity c = put_room _ _ _ c.in-GlobalGet.n _ _ (found_as _ (ref.GlobalGet c.in-GlobalGet.n) _ _ c.in-GlobalGet.is c.requires.finds).0 c.get_global.ensures.top c.get_global.ensures.room

pub returns-in-GlobalSet-clause-does : goal.returns-in-GlobalSet-clause-does
returns-in-GlobalSet-clause-does c = seen_as _ _ _ _ _ c.in-GlobalSet.is (set_does _ _ _ _ _ _ _ c.set_global.ensures.does)

pub returns-in-MemorySize-clause-does : goal.returns-in-MemorySize-clause-does
returns-in-MemorySize-clause-does c = seen_as _ _ _ _ _ c.in-MemorySize.is (size_does _ _ _ _ _ c.size_of_memory.ensures.does)

pub returns-in-Eqz-clause-does : goal.returns-in-Eqz-clause-does
returns-in-Eqz-clause-does c = seen_as _ _ _ _ _ c.in-Eqz.is (zero_does _ _ _ _ _ _ c.test_zero.ensures.does)

pub returns-in-Compare-clause-does : goal.returns-in-Compare-clause-does
returns-in-Compare-clause-does c = seen_as _ _ _ _ _ c.in-Compare.is (compare_does _ _ _ _ _ _ _ c.apply_compare.ensures.does)

pub returns-in-Unary-clause-does : goal.returns-in-Unary-clause-does
returns-in-Unary-clause-does c = seen_as _ _ _ _ _ c.in-Unary.is (unary_does _ _ _ _ _ _ _ c.apply_unary.ensures.does)

pub returns-in-Convert-clause-does : goal.returns-in-Convert-clause-does
returns-in-Convert-clause-does c = seen_as _ _ _ _ _ c.in-Convert.is (convert_does _ _ _ _ _ _ c.apply_convert.ensures.does)
