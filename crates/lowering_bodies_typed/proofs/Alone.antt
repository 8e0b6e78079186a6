-- A list within an instruction is lowered as it is alone, by its own notes.
use Rattle.std.proofs.Common.{◌≡◌, ◌∙◌, ℕ, zero, suc, ◌+◌, List, [], ◌∷◌, ◌++◌, length, refl, ap, arith}
use Rattle.std.specs.Prelude.{drop}
use Rattle.wasm_ast.specs.declared.instructions.WInstr as w
use Rattle.rw_types.specs.declared.instrs.Instr.{Instr, Block', Loop', If', MemUnpack', VariantCase', ExistUnpack', Row_of-Instr, end_of-Instr, more_of-Instr, items-the_row-Instr, Row_of-Instr-VariantCase-1-1, end_of-Instr-VariantCase-1-1, more_of-Instr-VariantCase-1-1}
use Rattle.rich_typing.specs.declared.notes.Note.{Note}
use Rattle.layout.specs.Bodies.{nested, nested_count, nested_row, nested_rows, row_count, rows_count, text_order}
use Rattle.lowering_rows.specs.Surroundings.{Surroundings}
use Rattle.lowering_rows.specs.Labels.{Label}
use Rattle.lowering_rows.specs.Rows.{row, row_code, rows}
use Rattle.lowering_rows_laws.proofs.Lists.{own_notes_are_read}

pub behind : (k : ℕ) (inner outer : List Note) → k ≡ length inner → drop k (inner ++ outer) ≡ outer
behind zero [] outer e = refl
behind zero (note ∷ inner) outer e = absurd (omega (arith, e))
behind (suc k) [] outer e = absurd (omega (arith, e))
behind (suc k) (note ∷ inner) outer e = behind k inner outer (omega (arith, e))

append_length : (is js : List Instr) → length (is ++ js) ≡ length is + length js
append_length [] js = omega arith
append_length (i ∷ is) js = omega (arith, append_length is js)

mutual
  pub nested_counted : (i : Instr) → nested_count i ≡ length (nested i)
  nested_counted (Block' sig n body) = counted_row body
  nested_counted (Loop' sig n body) = counted_row body
  nested_counted (If' sig n one m other) = omega (arith, counted_row one, counted_row other, append_length (nested_row one) (nested_row other))
  nested_counted (MemUnpack' sig n body) = counted_row body
  nested_counted (VariantCase' sig n arms) = counted_rows arms
  nested_counted (ExistUnpack' sig n body) = counted_row body
  nested_counted _ = refl

  counted_row : {n : _} (is : Row_of-Instr n) → row_count is ≡ length (nested_row is)
  counted_row end_of-Instr = refl
  counted_row (more_of-Instr i is) = omega (arith, nested_counted i, counted_row is, append_length (nested i) (nested_row is))

  counted_rows : {n : _} (arms : Row_of-Instr-VariantCase-1-1 n) → rows_count arms ≡ length (nested_rows arms)
  counted_rows end_of-Instr-VariantCase-1-1 = refl
  counted_rows (more_of-Instr-VariantCase-1-1 n list arms) = omega (arith, counted_row list, counted_rows arms, append_length (nested_row list) (nested_rows arms))

module _ (s : Surroundings) (labels : List Label) where
  alone : {n : _} (is : Row_of-Instr n) (notes : List Note) → row_code s labels is notes ≡ rows s labels (items-the_row-Instr _ is) notes
  alone end_of-Instr notes = refl
  alone (more_of-Instr i is) [] = refl
  alone (more_of-Instr i is) (note ∷ later) = ap (λ (l : List w.WInstr). row s labels i note later ++ l) (alone is (drop (nested_count i) later))

  pub own_code : {n : _} (is : Row_of-Instr n) (inner outer : List Note) → length inner ≡ length (text_order (items-the_row-Instr _ is)) → row_code s labels is (inner ++ outer) ≡ rows s labels (items-the_row-Instr _ is) inner
  own_code is inner outer e = alone is (inner ++ outer) ∙ own_notes_are_read s labels (items-the_row-Instr _ is) inner outer e
