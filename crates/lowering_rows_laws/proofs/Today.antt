-- On the programs of today the code is that of the lowering table.
use Rattle.std.proofs.Common.{◌≡◌, ◌∙◌, ℕ, zero, suc, ◌+◌, max, Bool, false, List, [], ◌∷◌, ◌++◌, refl, sym, ap, arith}
use Rattle.std.specs.Prelude.{if◌then◌else◌, drop}
use Rattle.wasm_ast.specs.declared.instructions.WInstr as w
use Rattle.wasm_ast.specs.declared.modules.Code.{Code}
use Rattle.rw_types.specs.declared.instrs.Instr.{Instr, I64Const, Num, Print, Drop}
use Rattle.rw_types.specs.declared.numbers.NumName.TheVariants.{I64Add}
use Rattle.rw_types.specs.declared.types.Binder.{Binder}
use Rattle.rw_types.specs.declared.types.Ty.{Ty}
use Rattle.rw_types.specs.LoneMain.{IsPlain, ArePlain}
use Rattle.rich_types.specs.Scopes.{scope_of}
use Rattle.rich_types.specs.Sizes.{list_size}
use Rattle.rich_types_laws.proofs.Agreeing.{sizes_agree}
use Rattle.rich_typing.specs.Kinds.{words_of}
use Rattle.rich_typing.specs.declared.notes.Note.{Note}
use Rattle.rw_program.specs.LonePrograms.{lone_func, lone_program}
use Rattle.lowering_table.specs.Frames as table
use Rattle.lowering_table.specs.Rows as table_rows
use Rattle.lowering_table.proofs.PlainBodies.{low_function-plain}
use Rattle.layout.specs.Bodies.{ends_list, is_ended, nested, nested_count, text_order}
use Rattle.layout.specs.Frames.{greatest_height, height_of, words_before}
use Rattle.lowering_rows.specs.Surroundings.{Surroundings, in_function}
use Rattle.lowering_rows.specs.Labels.{Label}
use Rattle.lowering_rows.specs.Moves.{gives}
use Rattle.lowering_rows.specs.Rows.{row, rows}
use Rattle.lowering_rows.specs.Functions.{code_of}
use Rattle.lowering_rows_laws.specs.Laws.{FunctionsAlike, StartsAlike}

next : (n : ℕ) → suc n ≡ n + 1
next n = omega arith

words_agree : (binders : List Binder) (ts : List Ty) → list_size (scope_of binders) ts ≡ words_of binders ts
words_agree binders [] = refl
words_agree binders (t ∷ ts) =
    let first = sym (sizes_agree binders t) in
    let rest = words_agree binders ts in
    λ j. first j + rest j

plain-nested : (i : Instr) → IsPlain i → nested i ≡ []
plain-nested (I64Const n) plain = refl
plain-nested (Num I64Add) plain = refl
plain-nested Print plain = refl
plain-nested Drop plain = refl
plain-nested _ plain = absurd plain

plain-text_order : (is : List Instr) → ArePlain is → text_order is ≡ is
plain-text_order [] plain = refl
plain-text_order (i ∷ is) plain =
    let inner = plain-nested i plain.0 in
    let rest = plain-text_order is plain.1 in
    λ j. i ∷ (inner j ++ rest j)

plain-ends_list : (i : Instr) → IsPlain i → ends_list i ≡ false
plain-ends_list (I64Const n) plain = refl
plain-ends_list (Num I64Add) plain = refl
plain-ends_list Print plain = refl
plain-ends_list Drop plain = refl
plain-ends_list _ plain = absurd plain

plain-is_ended : (is : List Instr) → ArePlain is → is_ended is ≡ false
plain-is_ended [] plain = refl
plain-is_ended (i ∷ []) plain = plain-ends_list i plain.0
plain-is_ended (i ∷ j ∷ is) plain = plain-is_ended (j ∷ is) plain.1

before_agrees : (note : Note) → words_before note ≡ table.words_before note
before_agrees note = ap (λ (n : ℕ). note.beneath + n) (words_agree note.binders note.taken)

height_agrees : (i : Instr) (note : Note) → IsPlain i → height_of i note ≡ table.height_of i note
height_agrees (I64Const n) note plain = before_agrees note
height_agrees (Num I64Add) note plain = before_agrees note
height_agrees Print note plain = before_agrees note
height_agrees Drop note plain = before_agrees note
height_agrees _ note plain = absurd plain

rooms_agree : (is : List Instr) (notes : List Note) (end : ℕ) → ArePlain is → greatest_height is notes end ≡ table.room_of is notes end
rooms_agree [] notes end plain = refl
rooms_agree (i ∷ is) [] end plain = refl
rooms_agree (i ∷ is) (note ∷ notes) end plain =
    let first = height_agrees i note plain.0 in
    let rest = rooms_agree is notes end plain.1 in
    λ j. max (first j) (rest j)

row_agrees : (s : Surroundings) (labels : List Label) (i : Instr) (note : Note) (later : List Note) → IsPlain i →
    row s labels i note later ≡ table_rows.row s.places.operands i note
row_agrees s labels (I64Const n) note later plain = refl
row_agrees s labels (Num I64Add) note later plain =
    ap (λ (k : ℕ). w.LocalGet (s.places.operands + note.beneath) ∷ w.LocalGet k ∷ w.I64Add ∷ w.LocalSet (s.places.operands + note.beneath) ∷ [])
    (next (s.places.operands + note.beneath))
row_agrees s labels Print note later plain = refl
row_agrees s labels Drop note later plain = refl
row_agrees s labels _ note later plain = absurd plain

none_nested : (i : Instr) → IsPlain i → nested_count i ≡ 0
none_nested (I64Const n) plain = refl
none_nested (Num I64Add) plain = refl
none_nested Print plain = refl
none_nested Drop plain = refl
none_nested _ plain = absurd plain

rows_agree : (s : Surroundings) (labels : List Label) (is : List Instr) (notes : List Note) → ArePlain is →
    rows s labels is notes ≡ table_rows.rows s.places.operands is notes
rows_agree s labels [] notes plain = refl
rows_agree s labels (i ∷ is) [] plain = refl
rows_agree s labels (i ∷ is) (note ∷ later) plain =
    ap (λ (n : ℕ). row s labels i note later ++ rows s labels is (drop n later)) (none_nested i plain.0)
    ∙ (let first = row_agrees s labels i note later plain.0 in
    let rest = rows_agree s labels is later plain.1 in
    λ j. first j ++ rest j)

gives_agree : (n local global : ℕ) → gives n local global ≡ table_rows.gives n local global
gives_agree zero local global = refl
gives_agree (suc n) local global = ap (λ (l : List w.WInstr). w.LocalGet local ∷ w.GlobalSet global ∷ l) (gives_agree n (suc local) (suc global))

pub functions_alike : FunctionsAlike
functions_alike body notes type_of plain =
    let s : Surroundings = in_function (lone_program body notes) type_of (lone_func body notes) in
    let code : List Instr → Bool → List w.WInstr → Code =
    λ is ended l. code_of (0 + greatest_height is notes (if ended then 0 else 1) + 2) (l ++ gives (if ended then 0 else 1) 0 2) in
    let text = plain-text_order body plain in
    let ended = plain-is_ended body plain in
    let list = rows_agree s [] body notes plain in
    (λ j. code (text j) (ended j) (list j))
    ∙ ap (λ (room : ℕ). code_of (0 + room + 2) (table_rows.rows 0 body notes ++ gives 1 0 2)) (rooms_agree body notes 1 plain)
    ∙ sym (low_function-plain body notes plain)

pub starts_alike : StartsAlike
starts_alike body notes type_of = refl
