-- That no reader of types, instructions, entries and sections has more bytes behind it than before.
use Rattle.std.proofs.Common.{ℕ, zero, suc, ◌+◌, List, [], ◌∷◌, length}
use Rattle.std.specs.Prelude.{Option, None, Some, Bool, true, false, ◌==◌}
use Rattle.wasm_ast.specs.declared.types.ValTy.{ValTy}
use Rattle.wasm_ast.specs.declared.instructions.WInstr.{WInstr}
use Rattle.wasm_ast.specs.declared.instructions.WInstr.TheOpen.{WInstr-F}
use Rattle.wasm_ast.specs.declared.modules.ExportKind.TheVariants as externals
use Rattle.wasm_ast.specs.declared.modules.ExportKind.{ExportKind}
use Rattle.wasm_ast.specs.declared.modules.WModule.{WModule}
use Rattle.wasm_ast.specs.Immediates.{Body, Bodies}
use Rattle.wasm_ast.specs.ByOpcode.{instruction_at}
use Rattle.wasm_reading.specs.declared.kinds.ImmediateKind.{ImmediateKind}
use Rattle.wasm_reading.specs.declared.kinds.ImmediateKind.TheVariants as kinds
use Rattle.wasm_reading.specs.declared.fault.DecodeFault.TheVariants.{BadTag}
use Rattle.wasm_reading.specs.Readers.{Reader, ◌>>=◌, give}
use Rattle.wasm_reading.specs.ReadTypes.{at_most, results_at, func_type_at, maximum_at, limits_at, memory_at, table_at}
use Rattle.wasm_reading.specs.ReadInstructions.{immediate_at, made, plain_at, nested_at, other_arm_at, if_at, instruction_from, listed_from, instructions_at, expression_at, constant_at, constant_kind_of, kind_of, Listed}
use Rattle.wasm_reading.specs.ReadValues.{vector_at}
use Rattle.wasm_reading.specs.ReadModules.{import_kind_at, import_at, global_at, export_at, element_at, segment_at, local_runs_at, code_at, codes_at, content_at, custom_at}
use Rattle.wasm_reading.proofs.Shrinking.{Shrinks, shrinks_give, shrinks_fail, shrinks_here, shrinks_then, shrinks_byte, shrinks_if, shrinks_each, shrinks_u32, shrinks_s32, shrinks_s64, shrinks_tag, shrinks_vector, shrinks_name, shrinks_sized}

pub shrinks_at_most : (most : ℕ) → Shrinks (at_most most)
shrinks_at_most most = shrinks_then shrinks_here (λ place. shrinks_then shrinks_u32 (λ n. shrinks_if _ (shrinks_fail _ _) (shrinks_give n)))

pub shrinks_results : (count : ℕ) → Shrinks (results_at count)
shrinks_results count = shrinks_if _ (shrinks_give None) (shrinks_then (shrinks_tag _) (λ t. shrinks_give _))

pub shrinks_func_type : Shrinks func_type_at
shrinks_func_type =
    shrinks_then (shrinks_tag _) (λ _. shrinks_then (shrinks_vector (shrinks_tag _)) (λ params. shrinks_then (shrinks_at_most 1) (λ count.
    shrinks_then (shrinks_results count) (λ result. shrinks_give _))))

pub shrinks_maximum : (has : Bool) → Shrinks (maximum_at has)
shrinks_maximum false = shrinks_give None
shrinks_maximum true = shrinks_then shrinks_u32 (λ n. shrinks_give _)

pub shrinks_limits : (most : ℕ) → Shrinks (limits_at most)
shrinks_limits most =
    shrinks_then (shrinks_tag _) (λ has. shrinks_then (shrinks_at_most most) (λ minimum. shrinks_then (shrinks_maximum has) (λ maximum. shrinks_give _)))

pub shrinks_memory : Shrinks memory_at
shrinks_memory = shrinks_limits _

pub shrinks_table : Shrinks table_at
shrinks_table = shrinks_then (shrinks_tag _) (λ _. shrinks_limits _)

pub shrinks_immediate : (kind : ImmediateKind) → Shrinks (immediate_at kind)
shrinks_immediate kinds.Bare = shrinks_give _
shrinks_immediate kinds.Index = shrinks_then shrinks_u32 (λ n. shrinks_give _)
shrinks_immediate kinds.Labels = shrinks_then (shrinks_vector shrinks_u32) (λ labels. shrinks_then shrinks_u32 (λ default. shrinks_give _))
shrinks_immediate kinds.IndexZero = shrinks_then shrinks_u32 (λ n. shrinks_then (shrinks_tag _) (λ _. shrinks_give _))
shrinks_immediate kinds.Zero = shrinks_then (shrinks_tag _) (λ _. shrinks_give _)
shrinks_immediate kinds.MemArg = shrinks_then shrinks_u32 (λ align. shrinks_then shrinks_u32 (λ offset. shrinks_give _))
shrinks_immediate kinds.Const32 = shrinks_then shrinks_s32 (λ n. shrinks_give _)
shrinks_immediate kinds.Const64 = shrinks_then shrinks_s64 (λ n. shrinks_give _)

pub shrinks_made : (place : ℕ) (w : Option (WInstr-F WInstr)) → Shrinks (made place w)
shrinks_made place (Some w) = shrinks_give _
shrinks_made place None = shrinks_fail _ _

pub shrinks_plain : (place opcode : ℕ) (kind : Option ImmediateKind) → Shrinks (plain_at place opcode kind)
shrinks_plain place opcode (Some kind) = shrinks_then (shrinks_immediate kind) (λ immediate. shrinks_made place _)
shrinks_plain place opcode None = shrinks_fail _ _

pub shrinks_constant : Shrinks constant_at
shrinks_constant =
    shrinks_then shrinks_here (λ place. shrinks_then shrinks_byte (λ opcode. shrinks_then (shrinks_plain place opcode (constant_kind_of opcode)) (λ w.
    shrinks_then (shrinks_tag _) (λ _. shrinks_give w))))

pub shrinks_nested : (place opcode : ℕ) {list : Reader Listed} → Shrinks list → Shrinks (nested_at place opcode list)
shrinks_nested place opcode h = shrinks_then (shrinks_tag _) (λ t. shrinks_then h (λ xs. shrinks_made place _))

pub shrinks_other_arm : (place : ℕ) (t : Option ValTy) (xs : Listed) {list : Reader Listed} → Shrinks list → Shrinks (other_arm_at place t xs list)
shrinks_other_arm place t (xs, false) h = shrinks_made place (instruction_at 0x04 (Body t xs))
shrinks_other_arm place t (xs, true) h = shrinks_then h (λ ys. shrinks_made place (instruction_at 0x04 (Bodies t xs ys.0)))

pub shrinks_if_instruction : (place : ℕ) {first second : Reader Listed} → Shrinks first → Shrinks second → Shrinks (if_at place first second)
shrinks_if_instruction place h k = shrinks_then (shrinks_tag _) (λ t. shrinks_then h (λ xs. shrinks_other_arm place t xs k))

pub shrinks_instruction : {list : Bool → ℕ → Reader Listed} → ((with_else : Bool) (depth : ℕ) → Shrinks (list with_else depth)) → (depth place opcode : ℕ) →
    Shrinks (instruction_from list depth place opcode)
shrinks_instruction h depth place opcode =
    shrinks_if _ (shrinks_if _ (shrinks_fail _ _) (shrinks_if _ (shrinks_if_instruction place (h true (depth + 1)) (h false (depth + 1))) (shrinks_nested place opcode (h false (depth + 1)))))
    (shrinks_plain place opcode (kind_of opcode))

pub shrinks_listed : {list : Bool → ℕ → Reader Listed} → ((with_else : Bool) (depth : ℕ) → Shrinks (list with_else depth)) → (with_else : Bool) (depth place opcode : ℕ) →
    Shrinks (listed_from list with_else depth place opcode)
shrinks_listed {list} h with_else depth place opcode =
    shrinks_if (opcode == 0x0B) (shrinks_give ([], false)) (shrinks_if (opcode == 0x05) (shrinks_if with_else (shrinks_give ([], true)) (shrinks_fail BadTag place))
    (shrinks_then (shrinks_instruction h depth place opcode) (λ x. shrinks_then (h with_else depth) (λ xs. shrinks_give (x ∷ xs.0, xs.1)))))

pub shrinks_instructions : (fuel : ℕ) (with_else : Bool) (depth : ℕ) → Shrinks (instructions_at fuel with_else depth)
shrinks_instructions zero with_else depth = shrinks_then shrinks_here (λ place. shrinks_then shrinks_byte (λ _. shrinks_fail BadTag place))
shrinks_instructions (suc fuel) with_else depth =
    shrinks_then shrinks_here (λ place. shrinks_then shrinks_byte (λ opcode. shrinks_listed (shrinks_instructions fuel) with_else depth place opcode))

pub shrinks_expression : Shrinks expression_at
shrinks_expression = record { less = λ input behind xs e. (shrinks_then (shrinks_instructions (length input.rest) false 0) (λ xs. shrinks_give xs.0)).less input behind xs e }

pub shrinks_import_kind : (kind : ExportKind) → Shrinks (import_kind_at kind)
shrinks_import_kind externals.Func = shrinks_then shrinks_u32 (λ n. shrinks_give _)
shrinks_import_kind externals.Table = shrinks_then shrinks_table (λ l. shrinks_give _)
shrinks_import_kind externals.Memory = shrinks_then shrinks_memory (λ l. shrinks_give _)
shrinks_import_kind externals.Global = shrinks_then (shrinks_tag _) (λ t. shrinks_then (shrinks_tag _) (λ mutable. shrinks_give _))

pub shrinks_import : Shrinks import_at
shrinks_import = shrinks_then shrinks_name (λ from. shrinks_then shrinks_name (λ name. shrinks_then (shrinks_tag _) (λ kind. shrinks_then (shrinks_import_kind kind) (λ what. shrinks_give _))))

pub shrinks_global : Shrinks global_at
shrinks_global = shrinks_then (shrinks_tag _) (λ t. shrinks_then (shrinks_tag _) (λ mutable. shrinks_then shrinks_constant (λ init. shrinks_give _)))

pub shrinks_export : Shrinks export_at
shrinks_export = shrinks_then shrinks_name (λ name. shrinks_then (shrinks_tag _) (λ kind. shrinks_then shrinks_u32 (λ index. shrinks_give _)))

pub shrinks_element : Shrinks element_at
shrinks_element = shrinks_then shrinks_u32 (λ table. shrinks_then shrinks_constant (λ offset. shrinks_then (shrinks_vector shrinks_u32) (λ funcs. shrinks_give _)))

pub shrinks_segment : Shrinks segment_at
shrinks_segment = shrinks_then shrinks_u32 (λ memory. shrinks_then shrinks_constant (λ offset. shrinks_then (shrinks_vector shrinks_byte) (λ bytes. shrinks_give _)))

pub shrinks_local_runs : (before n : ℕ) → Shrinks (local_runs_at before n)
shrinks_local_runs before zero = shrinks_give []
shrinks_local_runs before (suc n) =
    shrinks_then shrinks_here (λ place. shrinks_then shrinks_u32 (λ count. shrinks_then (shrinks_if _ (shrinks_fail _ _) (shrinks_tag _)) (λ t.
    shrinks_then (shrinks_local_runs (before + count) n) (λ runs. shrinks_give _))))

pub shrinks_code : Shrinks code_at
shrinks_code = shrinks_sized (shrinks_then shrinks_u32 (λ n. shrinks_then (shrinks_local_runs 0 n) (λ locals. shrinks_then shrinks_expression (λ body. shrinks_give _))))

pub shrinks_codes : (functions : ℕ) → Shrinks (codes_at functions)
shrinks_codes functions = shrinks_then shrinks_here (λ place. shrinks_then shrinks_u32 (λ n. shrinks_if _ (shrinks_each shrinks_code n) (shrinks_fail _ _)))

entries : {A : Type 0} {item : Reader A} (put : List A → WModule) → Shrinks item → Shrinks (do xs ← vector_at item; give (put xs))
entries put h = shrinks_then (shrinks_vector h) (λ xs. shrinks_give _)

pub shrinks_content : (id : ℕ) (m : WModule) → Shrinks (content_at id m)
shrinks_content id m =
    shrinks_if _ (entries _ shrinks_func_type) (shrinks_if _ (entries _ shrinks_import) (shrinks_if _ (entries _ shrinks_u32) (shrinks_if _ (entries _ shrinks_table)
    (shrinks_if _ (entries _ shrinks_memory) (shrinks_if _ (entries _ shrinks_global) (shrinks_if _ (entries _ shrinks_export) (shrinks_if _ (shrinks_then shrinks_u32 (λ n. shrinks_give _))
    (shrinks_if _ (entries _ shrinks_element) (shrinks_if _ (shrinks_then (shrinks_codes _) (λ xs. shrinks_give _)) (entries _ shrinks_segment))))))))))

pub shrinks_custom : Shrinks custom_at
shrinks_custom = shrinks_then shrinks_u32 (λ size. shrinks_each shrinks_byte size)
