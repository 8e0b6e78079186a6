-- The last ones are compared.
use Rattle.std.proofs.Common.{◌-◌, length, arith}
use Rattle.rw_demands.proofs.Compared.{these_allow}
use Rattle.rw_demands.proofs.Tails.{take_rest}
use Rattle.rw_demands.proofs.demanded.look_these.Goals as goal

pub returns : goal.returns
returns c = these_allow c.args.demanded.now c.args.operands.now c.look_operands.result _ (take_rest (length c.args.operands.now - length c.args.demanded.now) c.args.operands.now) (omega (arith, c.if-operands-demanded.false)) c.look_operands.ensures
