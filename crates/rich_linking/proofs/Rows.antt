-- The rows, computed.
use Rattle.std.proofs.Common.{refl}
use Rattle.rw_types.specs.declared.instrs.Instr.TheBlock.{hidden-the_row-Instr-0, hidden-the_row-Instr-VariantCase-1-1-1}
use Rattle.rich_linking.specs.Rows.{WorkedLinks}

pub rows : WorkedLinks
unfolding hidden-the_row-Instr-0 hidden-the_row-Instr-VariantCase-1-1-1 denote.Hole.Carrier.hidden
rows = record { other_type = refl; no_file = refl; nothing = refl; no_main = refl; one_name = refl; no_export = refl; first_import = refl; main_type = refl; one_file = refl; two_files = refl }
