-- The lowered module starts: its import is the print, its segments lie within table and memory, and `main` is there.
use Rattle.std.proofs.Common.{◌≡◌, ◌+◌, ◌*◌, Bool, true, List, [], ◌∷◌, ap, arith}
use Rattle.std.specs.Prelude.{nat_le, Some, None}
use Rattle.std.proofs.lemmas.Bool.{le-leb}
use Rattle.wasm_ast.specs.declared.instructions.WInstr.{out-WInstr}
use Rattle.rw_types.specs.declared.instrs.Instr.{Instr}
use Rattle.rich_typing.specs.declared.notes.Note.{Note}
use Rattle.lowering_table.specs.declared.Pages.{Pages}
use Rattle.lowering_table.specs.Modules.{ArePages, first_pages}
use Rattle.wasm_execution.specs.Starts.{SegmentOut, Begins, first_failing, start_exported, start_of}
use Rattle.lowering_laws.proofs.Relation.{begin, m}

-- the data segment ends at byte 24
fits : (pages : Pages) → ArePages pages → nat_le (8 + 16) (65536 * first_pages pages) ≡ true
fits pages are = le-leb (8 + 16) (65536 * first_pages pages) (omega (arith, are.some))

pub starts : (body : List Instr) (notes : List Note) (pages : Pages) → ArePages pages → start_of (m body notes pages) ≡ Begins (begin body notes pages)
unfolding out-WInstr denote.Hole.Carrier.out
starts body notes pages are =
    ap
    (λ (b : Bool). elim (first_failing 0 (true ∷ b ∷ [])) [
      | Some i ↦ SegmentOut i
      | None ↦ start_exported (m body notes pages)
    ])
    (fits pages are)
