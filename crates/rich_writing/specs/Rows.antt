-- Canonical texts that are written out (this project's own rows).
use Rattle.std.specs.Prelude.{◌≡◌, [], ◌∷◌, codes}
use Rattle.rw_types.specs.declared.instrs.Instr.{I64Const, Print}
use Rattle.rw_types.specs.LoneMain.{lone_main, main_type}
use Rattle.rich_writing.specs.Types.{function_type_text}
use Rattle.rich_writing.specs.Modules.{module_text}

pub record WrittenRows : Type 0 where
  pub main_type : function_type_text main_type ≡ codes "(fun () () ((unr i64)))"
  pub main : module_text (lone_main (I64Const 7 ∷ Print ∷ I64Const 0 ∷ [])) ≡ codes "(module 1\n(func (fun () () ((unr i64))) (locals) (i64.const 7) print (i64.const 0))\n(export \"main\" 0)\n)\n"
