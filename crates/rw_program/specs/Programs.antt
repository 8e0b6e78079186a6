-- Linked programs. This project's own.
use Rattle.std.specs.Prelude.{ℕ, List}
use Rattle.rw_program.specs.declared.linked.LinkedFunc.{LinkedFunc}
use Rattle.rw_program.specs.declared.linked.LinkedGlobal.{LinkedGlobal}

-- what a linked program is seen as: functions, globals, and the number of the main function
pub record Program : Type 0 where
  pub funcs : List LinkedFunc
  pub globals : List LinkedGlobal
  pub main : ℕ
