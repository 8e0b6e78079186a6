use Rattle.rich_soundness_structs.proofs.Structs.{struct_rows}
use Rattle.rich_soundness_structs.proofs.struct_rows_are_safe.Goals as goal

pub returns : goal.returns
returns c = struct_rows
