-- Of today's programs the lowered module is that of the lowering table.
use Rattle.std.proofs.Common.{◌≡◌, ◌∙◌, ◌+◌, max, true, List, [], ◌∷◌, ◌++◌, replicate, refl, ap, sym, arith}
use Rattle.wasm_ast.specs.declared.types.FuncType.{FuncType}
use Rattle.wasm_ast.specs.declared.types.ValTy.TheVariants.{I32}
use Rattle.wasm_ast.specs.declared.instructions.WInstr as w
use Rattle.rw_types.specs.declared.instrs.Instr.{Drop, I64Const, Instr, Num, Print}
use Rattle.rw_types.specs.declared.numbers.NumName.TheVariants.{I64Add}
use Rattle.rw_types.specs.LoneMain.{ArePlain}
use Rattle.rich_typing.specs.declared.notes.Note.{Note}
use Rattle.rw_program.specs.LonePrograms.{lone_func, lone_program}
use Rattle.rw_program.specs.Programs.{Program}
use Rattle.lowering_table.specs.Bodies as table
use Rattle.lowering_table.specs.TypeUses.{first_uses, type_index}
use Rattle.lowering_table.specs.Modules.{region_start, word_global}
use Rattle.lowering_table.specs.Types as table_types
use Rattle.lowering_table.specs.Types.{alloc_type, low_types, print_type, start_type}
use Rattle.layout.specs.Bodies.{text_order}
use Rattle.layout.specs.Calls.{greatest_indirect}
use Rattle.lowering_rows_laws.proofs.Today.{functions_alike, starts_alike}
use Rattle.lowering_modules.specs.Types.{called_types, index_of_words, module_types}
use Rattle.lowering_modules_laws.specs.Laws.{ModulesAlike}

-- plain instructions call through no type
none_called : (is : List Instr) (notes : List Note) → ArePlain is → called_types (text_order is) notes ≡ []
none_called [] notes plain = refl
none_called (I64Const n ∷ is) [] plain = refl
none_called (I64Const n ∷ is) (note ∷ notes) plain = none_called is notes plain.1
none_called (Num I64Add ∷ is) [] plain = refl
none_called (Num I64Add ∷ is) (note ∷ notes) plain = none_called is notes plain.1
none_called (Print ∷ is) [] plain = refl
none_called (Print ∷ is) (note ∷ notes) plain = none_called is notes plain.1
none_called (Drop ∷ is) [] plain = refl
none_called (Drop ∷ is) (note ∷ notes) plain = none_called is notes plain.1
none_called (_ ∷ is) notes plain = absurd plain.0

-- and so give no words that way
none_given : (is : List Instr) (notes : List Note) → ArePlain is → greatest_indirect (text_order is) notes ≡ 0
none_given [] notes plain = refl
none_given (I64Const n ∷ is) [] plain = refl
none_given (I64Const n ∷ is) (note ∷ notes) plain = omega (arith, none_given is notes plain.1)
none_given (Num I64Add ∷ is) [] plain = refl
none_given (Num I64Add ∷ is) (note ∷ notes) plain = omega (arith, none_given is notes plain.1)
none_given (Print ∷ is) [] plain = refl
none_given (Print ∷ is) (note ∷ notes) plain = omega (arith, none_given is notes plain.1)
none_given (Drop ∷ is) [] plain = refl
none_given (Drop ∷ is) (note ∷ notes) plain = omega (arith, none_given is notes plain.1)
none_given (_ ∷ is) notes plain = absurd plain.0

none_called_there : (is : List Instr) (notes : List Note) → ArePlain is → table_types.called_types (table.text_order is) notes ≡ []
none_called_there [] notes plain = refl
none_called_there (I64Const n ∷ is) [] plain = refl
none_called_there (I64Const n ∷ is) (note ∷ notes) plain = none_called_there is notes plain.1
none_called_there (Num I64Add ∷ is) [] plain = refl
none_called_there (Num I64Add ∷ is) (note ∷ notes) plain = none_called_there is notes plain.1
none_called_there (Print ∷ is) [] plain = refl
none_called_there (Print ∷ is) (note ∷ notes) plain = none_called_there is notes plain.1
none_called_there (Drop ∷ is) [] plain = refl
none_called_there (Drop ∷ is) (note ∷ notes) plain = none_called_there is notes plain.1
none_called_there (_ ∷ is) notes plain = absurd plain.0

module _ (body : List Instr) (notes : List Note) (plain : ArePlain body) where
  abbrev p : Program
  p = lone_program body notes

  types_alike : module_types p ≡ low_types p
  types_alike =
      ap (λ (l : List FuncType). first_uses [] (print_type ∷ alloc_type ∷ table_types.low_type (lone_func body notes) ∷ start_type ∷ (l ++ []))) (none_called body notes plain ∙ sym (none_called_there body notes plain))

pub modules_alike : ModulesAlike
modules_alike codes_of body notes pages plain =
    let p = lone_program body notes in
    let types = types_alike body notes plain in
    let function = functions_alike body notes (index_of_words p) plain in
    let start = starts_alike body notes (index_of_words p) in
    let given = none_given body notes plain in
    λ i. record (Rattle.lowering_table.specs.Modules.low_module_with codes_of p pages) {
      types = types i;
      funcs = type_index alloc_type (types i) ∷ type_index print_type (types i) ∷ type_index alloc_type (types i) ∷ type_index (table_types.low_type (lone_func body notes)) (types i) ∷ type_index start_type (types i) ∷ [];
      globals = record { ty = I32; mutable = true; init = w.I32Const 0 } ∷ word_global (region_start pages) ∷ replicate (max (max 1 (given i)) 0 + 0) (word_global 0);
      codes = codes_of.alloc_lin ∷ codes_of.free_lin ∷ codes_of.alloc_unr ∷ function i ∷ start i ∷ [];
    }
