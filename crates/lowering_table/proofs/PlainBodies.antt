-- A program of one function with a body of plain instructions: there is no list in it, none is ended, and no call is indirect.
use Rattle.std.proofs.Common.{◌≡◌, ◌∙◌, ◌+◌, Bool, false, List, [], ◌∷◌, ◌++◌, None, refl, ap}
use Rattle.std.specs.Prelude.{if◌then◌else◌}
use Rattle.wasm_ast.specs.declared.types.FuncType.{FuncType}
use Rattle.wasm_ast.specs.declared.modules.Code.{Code}
use Rattle.wasm_ast.specs.declared.modules.WModule.{WModule}
use Rattle.rw_types.specs.declared.instrs.Instr.{Instr, I64Const, Num, Print, Drop}
use Rattle.rw_types.specs.declared.numbers.NumName.TheVariants.{I64Add}
use Rattle.rw_types.specs.LoneMain.{IsPlain, ArePlain}
use Rattle.rich_typing.specs.declared.notes.Note.{Note}
use Rattle.rw_program.specs.LonePrograms.{lone_func, lone_program}
use Rattle.lowering_table.specs.Bodies.{ends_list, is_ended, nested, text_order}
use Rattle.lowering_table.specs.Frames.{height_of, room_of, words_before}
use Rattle.lowering_table.specs.Rows.{rows, gives}
use Rattle.lowering_table.specs.declared.Pages.{Pages}
use Rattle.lowering_table.specs.TypeUses.{first_uses, type_index}
use Rattle.lowering_table.specs.Codes.{code_of, low_function}
use Rattle.lowering_table.specs.Types.{alloc_type, called_type, called_types, low_type, low_types, print_type, start_type}
use Rattle.lowering_table.specs.Modules.{low_module}

plain-nested : (i : Instr) → IsPlain i → nested i ≡ []
plain-nested (I64Const n) plain = refl
plain-nested (Num I64Add) plain = refl
plain-nested Print plain = refl
plain-nested Drop plain = refl
plain-nested _ plain = absurd plain

pub plain-text_order : (is : List Instr) → ArePlain is → text_order is ≡ is
plain-text_order [] plain = refl
plain-text_order (i ∷ is) plain =
    let inner = plain-nested i plain.0 in
    let rest = plain-text_order is plain.1 in
    λ j. i ∷ (inner j ++ rest j)

plain-ends_list : (i : Instr) → IsPlain i → ends_list i ≡ false
plain-ends_list (I64Const n) plain = refl
plain-ends_list (Num I64Add) plain = refl
plain-ends_list Print plain = refl
plain-ends_list Drop plain = refl
plain-ends_list _ plain = absurd plain

plain-is_ended : (is : List Instr) → ArePlain is → is_ended is ≡ false
plain-is_ended [] plain = refl
plain-is_ended (i ∷ []) plain = plain-ends_list i plain.0
plain-is_ended (i ∷ j ∷ is) plain = plain-is_ended (j ∷ is) plain.1

plain-called_type : (i : Instr) (note : Note) → IsPlain i → called_type i note ≡ []
plain-called_type (I64Const n) note plain = refl
plain-called_type (Num I64Add) note plain = refl
plain-called_type Print note plain = refl
plain-called_type Drop note plain = refl
plain-called_type _ note plain = absurd plain

plain-called_types : (is : List Instr) (notes : List Note) → ArePlain is → called_types is notes ≡ []
plain-called_types [] notes plain = refl
plain-called_types (i ∷ is) [] plain = refl
plain-called_types (i ∷ is) (note ∷ notes) plain =
    let first = plain-called_type i note plain.0 in
    let rest = plain-called_types is notes plain.1 in
    λ j. first j ++ rest j

pub plain-height : (i : Instr) (note : Note) → IsPlain i → height_of i note ≡ words_before note
plain-height (I64Const n) note plain = refl
plain-height (Num I64Add) note plain = refl
plain-height Print note plain = refl
plain-height Drop note plain = refl
plain-height _ note plain = absurd plain

-- the types of such a program, and the code of its function
abbrev pub plain_types : List FuncType
plain_types = print_type ∷ alloc_type ∷ record { params = []; result = None } ∷ start_type ∷ []

abbrev pub plain_code : List Instr → List Note → Code
plain_code body notes = code_of (0 + room_of body notes 1 + 2) (rows 0 body notes ++ gives 1 0 2)

pub low_types-plain : (body : List Instr) (notes : List Note) → ArePlain body → low_types (lone_program body notes) ≡ plain_types
low_types-plain body notes plain =
    ap (λ (ts : List FuncType). first_uses [] (print_type ∷ alloc_type ∷ record { params = []; result = None } ∷ start_type ∷ (ts ++ [])))
    (ap (λ (is : List Instr). called_types is notes) (plain-text_order body plain) ∙ plain-called_types body notes plain)

pub low_function-plain : (body : List Instr) (notes : List Note) → ArePlain body → low_function (lone_func body notes) ≡ plain_code body notes
low_function-plain body notes plain =
    let code : List Instr → Bool → Code =
    λ is ended. code_of (0 + room_of is notes (if ended then 0 else 1) + 2) (rows 0 body notes ++ gives (if ended then 0 else 1) 0 2) in
    let text = plain-text_order body plain in
    let ended = plain-is_ended body plain in
    λ j. code (text j) (ended j)

-- the module with its types and their indices written out
abbrev pub plain_module : List Instr → List Note → Pages → WModule
plain_module body notes pages = record (low_module (lone_program body notes) pages) { types = plain_types; funcs = 1 ∷ 0 ∷ 1 ∷ 2 ∷ 3 ∷ [] }

pub low_module-plain : (body : List Instr) (notes : List Note) (pages : Pages) → ArePlain body → low_module (lone_program body notes) pages ≡ plain_module body notes pages
low_module-plain body notes pages plain =
    let types = low_types-plain body notes plain in
    λ j. record (low_module (lone_program body notes) pages) {
      types = types j;
      funcs = type_index alloc_type (types j) ∷ type_index print_type (types j) ∷ type_index alloc_type (types j)
          ∷ type_index (low_type (lone_func body notes)) (types j) ∷ type_index start_type (types j) ∷ [];
    }
