-- The operands under the top one are looked at.
use Rattle.rw_demands.proofs.Compared.{top_allows, top_breaks}
use Rattle.rw_demands.proofs.demanded.look_one_over.Goals as goal

pub returns-in-Ok : goal.returns-in-Ok
returns-in-Ok c = λ rest. top_allows c.args.demanded.now c.args.operands.now c.top-item.result c.in-len1-up.len_at_least c.top-item.is rest c.ty.result.now c.ty.ensures c.in-Ok.ensures

pub returns-in-Err : goal.returns-in-Err
returns-in-Err c = λ rest. top_breaks c.args.demanded.now c.args.operands.now c.top-item.result c.in-len1-up.len_at_least c.top-item.is rest c.in-Err.error c.in-Err.ensures
