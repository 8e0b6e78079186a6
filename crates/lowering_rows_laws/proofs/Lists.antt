-- Lists within instructions have the code that they have alone, and read their own notes.
use Rattle.std.proofs.Common.{◌≡◌, ◌∙◌, ℕ, zero, suc, ◌+◌, ◌≤◌, List, [], ◌∷◌, ◌++◌, length, None, refl, sym, ap, arith, append_assoc}
use Rattle.std.specs.Prelude.{drop}
use Rattle.wasm_ast.specs.declared.instructions.WInstr as w
use Rattle.rw_types.specs.declared.instrs.Instr.{Instr, Block', Loop', If', MemUnpack', VariantCase', ExistUnpack', Row_of-Instr, end_of-Instr, more_of-Instr, items-the_row-Instr, items_hidden-the_row-Instr-0, Row_of-Instr-VariantCase-1-1, end_of-Instr-VariantCase-1-1, more_of-Instr-VariantCase-1-1}
use Rattle.rw_types.specs.declared.instrs.Instr.TheBlock.{hidden-the_row-Instr-0, hidden-the_row-Instr-VariantCase-1-1-1}
use Rattle.rich_typing.specs.declared.notes.Note.{Note}
use Rattle.layout.specs.Bodies.{nested, nested_count, nested_row, nested_rows, row_count, rows_count, text_order}
use Rattle.layout.specs.Calls.{top_of}
use Rattle.lowering_rows.specs.Surroundings.{Surroundings, operand_place}
use Rattle.lowering_rows.specs.Labels.{Label, case_label, plain_label}
use Rattle.lowering_rows.specs.Taken.{body_words, scope_at, top_height}
use Rattle.lowering_rows.specs.Rows.{arms_code, case_arm, keeps_reference, row, row_code, rows, takes_content}
use Rattle.lowering_rows_laws.specs.Laws.{BlocksHold, IfsHold, ListsFollow, LocationsOpen, LoopsHold, OwnNotesAreRead, PackagesOpen, VariantsOpen, arms, count}

drop_front : (k : ℕ) (own later : List Note) → k ≤ length own → drop k (own ++ later) ≡ drop k own ++ later
drop_front zero own later le = refl
drop_front (suc k) [] later le = absurd (omega (arith, le))
drop_front (suc k) (note ∷ own) later le = drop_front k own later (omega (arith, le))

drop_length : (k : ℕ) (own : List Note) → k ≤ length own → k + length (drop k own) ≡ length own
drop_length zero own le = omega arith
drop_length (suc k) [] le = absurd (omega (arith, le))
drop_length (suc k) (note ∷ own) le = omega (arith, drop_length k own (omega (arith, le)))

append_length : (is js : List Instr) → length (is ++ js) ≡ length is + length js
append_length [] js = omega arith
append_length (i ∷ is) js = omega (arith, append_length is js)

mutual
  counted : (i : Instr) → nested_count i ≡ length (nested i)
  counted (Block' sig n body) = counted_row body
  counted (Loop' sig n body) = counted_row body
  counted (If' sig n one m other) = omega (arith, counted_row one, counted_row other, append_length (nested_row one) (nested_row other))
  counted (MemUnpack' sig n body) = counted_row body
  counted (VariantCase' sig n arms) = counted_rows arms
  counted (ExistUnpack' sig n body) = counted_row body
  counted _ = refl

  counted_row : {n : _} (is : Row_of-Instr n) → row_count is ≡ length (nested_row is)
  counted_row end_of-Instr = refl
  counted_row (more_of-Instr i is) = omega (arith, counted i, counted_row is, append_length (nested i) (nested_row is))

  counted_rows : {n : _} (arms : Row_of-Instr-VariantCase-1-1 n) → rows_count arms ≡ length (nested_rows arms)
  counted_rows end_of-Instr-VariantCase-1-1 = refl
  counted_rows (more_of-Instr-VariantCase-1-1 n arm arms) = omega (arith, counted_row arm, counted_rows arms, append_length (nested_row arm) (nested_rows arms))

pub nested_items : {n : _} (is : Row_of-Instr n) → nested_row is ≡ text_order (items-the_row-Instr _ is)
nested_items end_of-Instr = refl
nested_items (more_of-Instr i is) = ap (λ (l : List Instr). i ∷ (nested i ++ l)) (nested_items is)

-- how many instructions stand in a list
pub row_counted : {n : _} (is : Row_of-Instr n) → row_count is ≡ count (items-the_row-Instr _ is)
row_counted is = counted_row is ∙ ap (λ (l : List Instr). length l) (nested_items is)

count_next : (i : Instr) (is : List Instr) → count (i ∷ is) ≡ suc (nested_count i + count is)
count_next i is = omega (arith, counted i, append_length (nested i) (text_order is))

module _ (s : Surroundings) where
  mutual
    row_front : (labels : List Label) (i : Instr) (note : Note) (own later : List Note) → nested_count i ≤ length own →
        row s labels i note (own ++ later) ≡ row s labels i note own
    row_front labels (Block' sig n body) note own later le =
        ap (λ (l : List w.WInstr). w.Block None l ∷ []) (row_code_front (plain_label note.beneath ∷ labels) body own later le)
    row_front labels (Loop' sig n body) note own later le =
        ap (λ (l : List w.WInstr). w.Loop None l ∷ []) (row_code_front (plain_label note.beneath ∷ labels) body own later le)
    row_front labels (If' sig n one m other) note own later le =
        let inner = plain_label note.beneath ∷ labels in
        let first = row_code_front inner one own later (omega (arith, le)) in
        let second = ap (λ (l : List Note). row_code s (inner) other l) (drop_front (row_count one) own later (omega (arith, le)))
        ∙ row_code_front (inner) other (drop (row_count one) own) later (omega (arith, le, drop_length (row_count one) own (omega (arith, le)))) in
        λ j. w.LocalGet (operand_place s (top_height note)) ∷ w.I32WrapI64 ∷ w.IfElse None (first j) (second j) ∷ []
    row_front labels (MemUnpack' sig n body) note own later le =
        ap (λ (l : List w.WInstr). w.Block None l ∷ []) (row_code_front (plain_label note.beneath ∷ labels) body own later le)
    row_front labels (VariantCase' sig n arms) note own later le =
        ap (λ (l : List w.WInstr). keeps_reference s note ++ w.Block None l ∷ []) (arms_code_front (case_label note.beneath ∷ labels) 0 arms note own later le)
    row_front labels (ExistUnpack' sig n body) note own later le =
        ap (λ (l : List w.WInstr). keeps_reference s note ++ (takes_content s (body_words (scope_at note) (top_of note.taken)) 0 note ++ w.Block None l ∷ []))
        (row_code_front (plain_label note.beneath ∷ labels) body own later le)
    row_front labels _ note own later le = refl

    row_code_front : {n : _} (labels : List Label) (is : Row_of-Instr n) (own later : List Note) → row_count is ≤ length own →
        row_code s labels is (own ++ later) ≡ row_code s labels is own
    row_code_front labels end_of-Instr own later le = refl
    row_code_front labels (more_of-Instr i is) [] later le = absurd (omega (arith, le))
    row_code_front labels (more_of-Instr i is) (note ∷ own) later le =
        let first = row_front labels i note own later (omega (arith, le)) in
        let rest = ap (λ (l : List Note). row_code s (labels) is l) (drop_front (nested_count i) own later (omega (arith, le)))
        ∙ row_code_front (labels) is (drop (nested_count i) own) later (omega (arith, le, drop_length (nested_count i) own (omega (arith, le)))) in
        λ j. first j ++ rest j

    arms_code_front : {n : _} (labels : List Label) (k : ℕ) (arms : Row_of-Instr-VariantCase-1-1 n) (note : Note) (own later : List Note) → rows_count arms ≤ length own →
        arms_code s labels k arms note (own ++ later) ≡ arms_code s labels k arms note own
    arms_code_front labels k end_of-Instr-VariantCase-1-1 note own later le = refl
    arms_code_front labels k (more_of-Instr-VariantCase-1-1 n arm arms) note own later le =
        let first = row_code_front labels arm own later (omega (arith, le)) in
        let split : drop (row_count arm) (own ++ later) ≡ drop (row_count arm) own ++ later = drop_front (row_count arm) own later (omega (arith, le)) in
        let rest = ap (λ (l : List Note). arms_code s labels (suc k) arms note l) split
        ∙ arms_code_front labels (suc k) arms note (drop (row_count arm) own) later (omega (arith, le, drop_length (row_count arm) own (omega (arith, le)))) in
        λ j. case_arm s k note (first j) ++ rest j

  follow : (labels : List Label) (is js : List Instr) (own later : List Note) → length own ≡ count is →
      rows s labels (is ++ js) (own ++ later) ≡ rows s labels is own ++ rows s labels js later
  follow labels [] js [] later h = refl
  follow labels [] js (note ∷ own) later h = absurd (omega (arith, h))
  follow labels (i ∷ is) js [] later h = absurd (omega (arith, h))
  follow labels (i ∷ is) js (note ∷ own) later h =
      let size : length own ≡ nested_count i + count is = omega (arith, h, count_next i is) in
      let first = row_front labels i note own later (omega (arith, size)) in
      let split : drop (nested_count i) (own ++ later) ≡ drop (nested_count i) own ++ later = drop_front (nested_count i) own later (omega (arith, size)) in
      let rest = ap (λ (l : List Note). rows s labels (is ++ js) l) split
      ∙ follow labels is js (drop (nested_count i) own) later (omega (arith, size, drop_length (nested_count i) own (omega (arith, size)))) in
      (λ j. first j ++ rest j)
      ∙ sym (append_assoc (row s labels i note own) (rows s labels is (drop (nested_count i) own)) (rows s labels js later))

  alone : {n : _} (labels : List Label) (is : Row_of-Instr n) (notes : List Note) → row_code s labels is notes ≡ rows s labels (items-the_row-Instr _ is) notes
  alone labels end_of-Instr notes = refl
  alone labels (more_of-Instr i is) [] = refl
  alone labels (more_of-Instr i is) (note ∷ later) = ap (λ (l : List w.WInstr). row s labels i note later ++ l) (alone labels is (drop (nested_count i) later))

append_none : {A : Type 0} (xs : List A) → xs ++ [] ≡ xs
append_none [] = refl
append_none (x ∷ xs) = ap (λ l. x ∷ l) (append_none xs)

rows_of_none : (s : Surroundings) (labels : List Label) (is : List Instr) (own later : List Note) → length own ≡ count is →
    rows s labels (is ++ []) (own ++ later) ≡ rows s labels is own ++ []
rows_of_none s labels is own later h = follow s labels is [] own later h

pub lists_follow : ListsFollow
lists_follow s labels is js own later h = follow s labels is js own later h

pub own_notes_are_read : OwnNotesAreRead
own_notes_are_read s labels is own later h =
    ap (λ (l : List Instr). rows s labels l (own ++ later)) (sym (append_none is))
    ∙ rows_of_none s labels is own later h
    ∙ append_none (rows s labels is own)

-- the lists of an instruction that is made of lists are read back
lists_alone : (s : Surroundings) (labels : List Label) (k : ℕ) (lists : List (List Instr)) (note : Note) (notes : List Note) →
    arms_code s labels k (hidden-the_row-Instr-VariantCase-1-1-1 lists) note notes ≡ arms s labels k lists note notes
unfolding hidden-the_row-Instr-VariantCase-1-1-1 hidden-the_row-Instr-0 denote.Hole.Carrier.hidden
lists_alone s labels k [] note notes = refl
lists_alone s labels k (is ∷ lists) note notes =
    let arm = alone s labels (hidden-the_row-Instr-0 is) notes ∙ ap (λ (l : List Instr). rows s labels l notes) (items_hidden-the_row-Instr-0 is) in
    let size : row_count (hidden-the_row-Instr-0 is) ≡ count is = row_counted (hidden-the_row-Instr-0 is) ∙ ap (λ (l : List Instr). count l) (items_hidden-the_row-Instr-0 is) in
    let rest = lists_alone s labels (suc k) lists note (drop (row_count (hidden-the_row-Instr-0 is)) notes) ∙ ap (λ (n : ℕ). arms s labels (suc k) lists note (drop n notes)) size in
    λ j. case_arm s k note (arm j) ++ rest j

list_alone : (s : Surroundings) (labels : List Label) (is : List Instr) (notes : List Note) → row_code s labels (hidden-the_row-Instr-0 is) notes ≡ rows s labels is notes
list_alone s labels is notes = alone s labels (hidden-the_row-Instr-0 is) notes ∙ ap (λ (l : List Instr). rows s labels l notes) (items_hidden-the_row-Instr-0 is)

list_count : (is : List Instr) → row_count (hidden-the_row-Instr-0 is) ≡ count is
list_count is = row_counted (hidden-the_row-Instr-0 is) ∙ ap (λ (l : List Instr). count l) (items_hidden-the_row-Instr-0 is)

pub blocks_hold : BlocksHold
blocks_hold s labels sig is note later = ap (λ (l : List w.WInstr). w.Block None l ∷ []) (list_alone s (plain_label note.beneath ∷ labels) is later)

pub loops_hold : LoopsHold
loops_hold s labels sig is note later = ap (λ (l : List w.WInstr). w.Loop None l ∷ []) (list_alone s (plain_label note.beneath ∷ labels) is later)

pub locations_open : LocationsOpen
locations_open s labels sig is note later = ap (λ (l : List w.WInstr). w.Block None l ∷ []) (list_alone s (plain_label note.beneath ∷ labels) is later)

pub packages_open : PackagesOpen
packages_open s labels sig is note later =
    ap (λ (l : List w.WInstr). keeps_reference s note ++ (takes_content s (body_words (scope_at note) (top_of note.taken)) 0 note ++ w.Block None l ∷ []))
    (list_alone s (plain_label note.beneath ∷ labels) is later)

pub variants_open : VariantsOpen
variants_open s labels sig lists note later =
    ap (λ (l : List w.WInstr). keeps_reference s note ++ w.Block None l ∷ []) (lists_alone s (case_label note.beneath ∷ labels) 0 lists note later)

pub ifs_hold : IfsHold
ifs_hold s labels sig is js note later =
    let inner = plain_label note.beneath ∷ labels in
    let first = list_alone s inner is later in
    let second = list_alone s inner js (drop (row_count (hidden-the_row-Instr-0 is)) later) ∙ ap (λ (k : ℕ). rows s inner js (drop k later)) (list_count is) in
    λ j. w.LocalGet (operand_place s (top_height note)) ∷ w.I32WrapI64 ∷ w.IfElse None (first j) (second j) ∷ []
