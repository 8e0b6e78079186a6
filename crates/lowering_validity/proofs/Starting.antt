-- The lowered module of a program of one plain function starts.
use Rattle.std.proofs.Common.{◌∙◌, ap}
use Rattle.rw_program.specs.Programs.{Program}
use Rattle.lowering_table.specs.Modules.{low_module}
use Rattle.wasm_execution.specs.Starts.{start_of}
use Rattle.lowering_laws.proofs.Relation.{begin, low_module-m}
use Rattle.lowering_laws.proofs.Starting.{starts}
use Rattle.lowering_validity.specs.Laws.{LowStarts}

pub low_starts : LowStarts
low_starts p pages lone are = (
  begin lone.body lone.notes pages,
  ap (λ (q : Program). start_of (low_module q pages)) lone.is
      ∙ ap start_of (low_module-m lone.body lone.notes pages lone.plain)
      ∙ starts lone.body lone.notes pages are,
)
