-- No reader of types, instructions, entries and contents faults for want of memory, or past the end of its input, or for
-- want of a byte before that end; and what it reads it reads where more bytes follow.
use Rattle.std.proofs.Common.{◌≡◌, ℕ, zero, suc, ◌+◌, ◌<◌, ◌≤◌, Bool, true, false, List, [], ◌∷◌, ◌++◌, length, length-append, refl, subst, arith, inl, inr, Option, None, Some, Err}
use Rattle.std.specs.Prelude.{◌==◌, ◌||◌, nat_lt, nat_le, if◌then◌else◌}
use Rattle.wasm_ast.specs.declared.types.ValTy.{ValTy}
use Rattle.wasm_ast.specs.declared.types.ValTy.TheVariants.{I32, I64}
use Rattle.wasm_ast.specs.declared.instructions.WInstr.{WInstr}
use Rattle.wasm_ast.specs.declared.instructions.WInstr.TheOpen.{WInstr-F}
use Rattle.wasm_ast.specs.declared.modules.ExportKind.TheVariants as externals
use Rattle.wasm_ast.specs.declared.modules.ExportKind.{ExportKind}
use Rattle.wasm_ast.specs.declared.modules.LocalRun.{LocalRun}
use Rattle.wasm_ast.specs.declared.modules.WModule.{WModule}
use Rattle.wasm_ast.specs.Immediates.{Body, Bodies}
use Rattle.wasm_ast.specs.ByOpcode.{instruction_at}
use Rattle.wasm_grammar.specs.Nesting.{nesting_limit}
use Rattle.wasm_grammar.specs.Profile.{local_limit}
use Rattle.wasm_reading.specs.declared.kinds.ImmediateKind.{ImmediateKind}
use Rattle.wasm_reading.specs.declared.kinds.ImmediateKind.TheVariants as kinds
use Rattle.wasm_reading.specs.declared.fault.DecodeFault.TheVariants.{Truncated, BadTag, BadLength, FloatOutside, LimitOutside, CountMismatch, BadMagic, BadVersion}
use Rattle.wasm_reading.specs.Readers.{Reader, and_then, ◌>>=◌, give, fail, is_at_end, first_byte, each_at}
use Rattle.wasm_reading.specs.ReadTypes.{value_type_of, block_type_of, flag_of, at_most, results_at, func_type_at, maximum_at, limits_at, memory_at, table_at}
use Rattle.wasm_reading.specs.ReadInstructions.{is_from_to, is_float_opcode, opcode_fault, immediate_at, made, plain_at, nested_at, other_arm_at, if_at, instruction_from, listed_from, instructions_at, expression_at, constant_at, constant_kind_of, kind_of, Listed}
use Rattle.wasm_reading.specs.ReadValues.{tag_at, u32_at, vector_at}
use Rattle.wasm_reading.specs.ReadModules.{import_kind_at, external_kind_of, import_at, global_at, export_at, element_at, segment_at, local_runs_at, code_at, codes_at, content_at, custom_at, preamble_at}
use Rattle.wasm_reading.proofs.Fuel.{instructions_need_no_more}
use Rattle.wasm_reading_laws.proofs.FaultBounds.{IsOfBytes, placed, IsInBounds, longer, IsKept, InBounds, fault_settled, IsKnown, known_value, known_fault, known_if, bounds_give, bounds_fail, bounds_then, bounds_here, bounds_if, bounds_byte, bounds_each, bounds_u32, bounds_s32, bounds_s64, bounds_tag, bounds_only, bounds_vector, bounds_name, bounds_sized}

value_type_known : (b : ℕ) → IsKnown (value_type_of b)
value_type_known b =
    known_if (b == 0x7F) (known_value I32) (known_if (b == 0x7E) (known_value I64)
    (known_if ((b == 0x7D) || (b == 0x7C)) (known_fault FloatOutside refl) (known_fault BadTag refl)))

block_type_known : (b : ℕ) → IsKnown (block_type_of b)
block_type_known b =
    known_if (b == 0x40) (known_value None) (known_if (b == 0x7F) (known_value (Some I32)) (known_if (b == 0x7E) (known_value (Some I64))
    (known_if ((b == 0x7D) || (b == 0x7C)) (known_fault FloatOutside refl) (known_fault BadTag refl))))

flag_known : (b : ℕ) → IsKnown (flag_of b)
flag_known b = known_if (b == 0x00) (known_value false) (known_if (b == 0x01) (known_value true) (known_fault BadTag refl))

external_kind_known : (b : ℕ) → IsKnown (external_kind_of b)
external_kind_known b =
    known_if (b == 0x00) (known_value externals.Func) (known_if (b == 0x01) (known_value externals.Table)
    (known_if (b == 0x02) (known_value externals.Memory) (known_if (b == 0x03) (known_value externals.Global) (known_fault BadTag refl))))

opcode_fault_of_bytes : (t : Bool) → IsOfBytes (if t then FloatOutside else BadTag)
opcode_fault_of_bytes true = refl
opcode_fault_of_bytes false = refl

-- what reads a byte first, where none follows, and where more bytes do
none_kept : {A B : Type 0} (total : ℕ) (t : Bool) (at : ℕ) (end : Option ℕ) (more : List ℕ) (f : ℕ → Reader A) (g : A → Reader B) →
    IsKept total more (and_then (and_then (if t then Err (record { at = at; fault = BadLength }) else Err (record { at = at; fault = Truncated })) f) g)
    (and_then (and_then (if t then Err (record { at = at; fault = BadLength }) else first_byte at end more) f) g)
none_kept total true at end more f g = fault_settled total BadLength at _ refl refl
none_kept total false at end more f g = inl refl

module _ {total : ℕ} where
  bounds_value_type : InBounds total (tag_at value_type_of)
  bounds_value_type = bounds_tag value_type_of value_type_known

  bounds_at_most : (most : ℕ) → InBounds total (at_most most)
  bounds_at_most most = bounds_here (λ place h. bounds_then bounds_u32 (λ n. bounds_if (nat_lt most n) (bounds_fail LimitOutside place refl h) (bounds_give n)))

  bounds_results : (count : ℕ) → InBounds total (results_at count)
  bounds_results count = bounds_if (count == 0) (bounds_give None) (bounds_then bounds_value_type (λ t. bounds_give _))

  bounds_func_type : InBounds total func_type_at
  bounds_func_type =
      bounds_then (bounds_only 0x60) (λ _. bounds_then (bounds_vector bounds_value_type) (λ params. bounds_then (bounds_at_most 1) (λ count.
      bounds_then (bounds_results count) (λ result. bounds_give _))))

  bounds_maximum : (has : Bool) → InBounds total (maximum_at has)
  bounds_maximum false = bounds_give None
  bounds_maximum true = bounds_then bounds_u32 (λ n. bounds_give _)

  bounds_limits : (most : ℕ) → InBounds total (limits_at most)
  bounds_limits most =
      bounds_then (bounds_tag flag_of flag_known) (λ has. bounds_then (bounds_at_most most) (λ minimum. bounds_then (bounds_maximum has) (λ maximum. bounds_give _)))

  bounds_memory : InBounds total memory_at
  bounds_memory = bounds_limits _

  bounds_table : InBounds total table_at
  bounds_table = bounds_then (bounds_only 0x70) (λ _. bounds_limits _)

  bounds_immediate : (kind : ImmediateKind) → InBounds total (immediate_at kind)
  bounds_immediate kinds.Bare = bounds_give _
  bounds_immediate kinds.Index = bounds_then bounds_u32 (λ n. bounds_give _)
  bounds_immediate kinds.Labels = bounds_then (bounds_vector bounds_u32) (λ labels. bounds_then bounds_u32 (λ default. bounds_give _))
  bounds_immediate kinds.IndexZero = bounds_then bounds_u32 (λ n. bounds_then (bounds_only 0x00) (λ _. bounds_give _))
  bounds_immediate kinds.Zero = bounds_then (bounds_only 0x00) (λ _. bounds_give _)
  bounds_immediate kinds.MemArg = bounds_then bounds_u32 (λ align. bounds_then bounds_u32 (λ offset. bounds_give _))
  bounds_immediate kinds.Const32 = bounds_then bounds_s32 (λ n. bounds_give _)
  bounds_immediate kinds.Const64 = bounds_then bounds_s64 (λ n. bounds_give _)

  bounds_made : (place : ℕ) (w : Option (WInstr-F WInstr)) → place ≤ total → InBounds total (made place w)
  bounds_made place (Some w) h = bounds_give _
  bounds_made place None h = bounds_fail BadTag place refl h

  bounds_plain : (place opcode : ℕ) (kind : Option ImmediateKind) → place ≤ total → InBounds total (plain_at place opcode kind)
  bounds_plain place opcode (Some kind) h = bounds_then (bounds_immediate kind) (λ immediate. bounds_made place (instruction_at opcode immediate) h)
  bounds_plain place opcode None h = bounds_fail (opcode_fault opcode) place (opcode_fault_of_bytes (is_float_opcode opcode)) h

  bounds_constant : InBounds total constant_at
  bounds_constant =
      bounds_here (λ place h. bounds_then bounds_byte (λ opcode. bounds_then (bounds_plain place opcode (constant_kind_of opcode) h) (λ w.
      bounds_then (bounds_only 0x0B) (λ _. bounds_give w))))

  bounds_nested : (place opcode : ℕ) {list : Reader Listed} → place ≤ total → InBounds total list → InBounds total (nested_at place opcode list)
  bounds_nested place opcode h k = bounds_then (bounds_tag block_type_of block_type_known) (λ t. bounds_then k (λ xs. bounds_made place (instruction_at opcode (Body t xs.0)) h))

  bounds_other_arm : (place : ℕ) (t : Option ValTy) (xs : Listed) {list : Reader Listed} → place ≤ total → InBounds total list → InBounds total (other_arm_at place t xs list)
  bounds_other_arm place t (xs, false) h k = bounds_made place (instruction_at 0x04 (Body t xs)) h
  bounds_other_arm place t (xs, true) h k = bounds_then k (λ ys. bounds_made place (instruction_at 0x04 (Bodies t xs ys.0)) h)

  bounds_if_instruction : (place : ℕ) {first second : Reader Listed} → place ≤ total → InBounds total first → InBounds total second → InBounds total (if_at place first second)
  bounds_if_instruction place h k l = bounds_then (bounds_tag block_type_of block_type_known) (λ t. bounds_then k (λ xs. bounds_other_arm place t xs h l))

  module _ {list : Bool → ℕ → Reader Listed} (k : (with_else : Bool) (depth : ℕ) → InBounds total (list with_else depth)) where
    bounds_instruction : (depth place opcode : ℕ) → place ≤ total → InBounds total (instruction_from list depth place opcode)
    bounds_instruction depth place opcode h =
        bounds_if (is_from_to 0x02 0x04 opcode) (bounds_if (nat_le nesting_limit depth) (bounds_fail LimitOutside place refl h)
        (bounds_if (opcode == 0x04) (bounds_if_instruction place h (k true (depth + 1)) (k false (depth + 1))) (bounds_nested place opcode h (k false (depth + 1)))))
        (bounds_plain place opcode (kind_of opcode) h)

    bounds_listed : (with_else : Bool) (depth place opcode : ℕ) → place ≤ total → InBounds total (listed_from list with_else depth place opcode)
    bounds_listed with_else depth place opcode h =
        bounds_if (opcode == 0x0B) (bounds_give ([], false)) (bounds_if (opcode == 0x05) (bounds_if with_else (bounds_give ([], true)) (bounds_fail BadTag place refl h))
        (bounds_then (bounds_instruction depth place opcode h) (λ x. bounds_then (k with_else depth) (λ xs. bounds_give (x ∷ xs.0, xs.1)))))

  bounds_instructions : (fuel : ℕ) (with_else : Bool) (depth : ℕ) → InBounds total (instructions_at fuel with_else depth)
  bounds_instructions zero with_else depth = bounds_here (λ place h. bounds_then bounds_byte (λ _. bounds_fail BadTag place refl h))
  bounds_instructions (suc fuel) with_else depth =
      bounds_here (λ place h. bounds_then bounds_byte (λ opcode. bounds_listed (bounds_instructions fuel) with_else depth place opcode h))

  bounds_expression : InBounds total expression_at
  bounds_expression = record {
    holds = λ input s. (bounds_then (bounds_instructions (length input.rest) false 0) (λ xs. bounds_give xs.0)).holds input s;
    kept = λ input more s.
        let fuel = length (input.rest ++ more) in
        let enough : length input.rest ≤ fuel = omega (arith, length-append input.rest more) in
        subst (λ r. IsKept total more (and_then r (λ xs. give xs.0)) (and_then (instructions_at fuel false 0 (longer input more)) (λ xs. give xs.0)))
        (instructions_need_no_more fuel false 0 input enough)
        ((bounds_then (bounds_instructions fuel false 0) (λ xs. bounds_give xs.0)).kept input more s);
  }

  bounds_import_kind : (kind : ExportKind) → InBounds total (import_kind_at kind)
  bounds_import_kind externals.Func = bounds_then bounds_u32 (λ n. bounds_give _)
  bounds_import_kind externals.Table = bounds_then bounds_table (λ l. bounds_give _)
  bounds_import_kind externals.Memory = bounds_then bounds_memory (λ l. bounds_give _)
  bounds_import_kind externals.Global = bounds_then bounds_value_type (λ t. bounds_then (bounds_tag flag_of flag_known) (λ mutable. bounds_give _))

  bounds_import : InBounds total import_at
  bounds_import =
      bounds_then bounds_name (λ from. bounds_then bounds_name (λ name. bounds_then (bounds_tag external_kind_of external_kind_known) (λ kind.
      bounds_then (bounds_import_kind kind) (λ what. bounds_give _))))

  bounds_global : InBounds total global_at
  bounds_global = bounds_then bounds_value_type (λ t. bounds_then (bounds_tag flag_of flag_known) (λ mutable. bounds_then bounds_constant (λ init. bounds_give _)))

  bounds_export : InBounds total export_at
  bounds_export = bounds_then bounds_name (λ name. bounds_then (bounds_tag external_kind_of external_kind_known) (λ kind. bounds_then bounds_u32 (λ index. bounds_give _)))

  bounds_element : InBounds total element_at
  bounds_element = bounds_then bounds_u32 (λ table. bounds_then bounds_constant (λ offset. bounds_then (bounds_vector bounds_u32) (λ funcs. bounds_give _)))

  bounds_segment : InBounds total segment_at
  bounds_segment = bounds_then bounds_u32 (λ memory. bounds_then bounds_constant (λ offset. bounds_then (bounds_vector bounds_byte) (λ bytes. bounds_give _)))

  bounds_local_runs : (before n : ℕ) → InBounds total (local_runs_at before n)
  bounds_local_runs before zero = bounds_give []
  bounds_local_runs before (suc n) =
      bounds_here (λ place h. bounds_then bounds_u32 (λ count. bounds_then (bounds_if (nat_lt local_limit (before + count)) (bounds_fail LimitOutside place refl h) bounds_value_type) (λ t.
      bounds_then (bounds_local_runs (before + count) n) (λ runs. bounds_give {A = List LocalRun} (record { count = count; ty = t } ∷ runs)))))

  bounds_code : InBounds total code_at
  bounds_code = bounds_sized (bounds_then bounds_u32 (λ n. bounds_then (bounds_local_runs 0 n) (λ locals. bounds_then bounds_expression (λ body. bounds_give _))))

  -- another count than that of the functions stands before the end of the bytes
  bounds_mismatch : {A : Type 0} (place : ℕ) → place < total → InBounds total (fail {A = A} CountMismatch place)
  bounds_mismatch place h = record { holds = λ input s. ((λ e. cc), omega arith, λ e. absurd (cc)); kept = λ input more s. inr (refl, λ e. h) }

  bounds_counted : (functions place : ℕ) → place < total → InBounds total (do n ← u32_at; if n == functions then each_at code_at n else fail CountMismatch place)
  bounds_counted functions place h = bounds_then bounds_u32 (λ n. bounds_if (n == functions) (bounds_each bounds_code n) (bounds_mismatch place h))

  -- what reads a byte first, where none follows
  none_holds : {A B : Type 0} (t : Bool) (at : ℕ) (f : ℕ → Reader A) (g : A → Reader B) → at ≡ total →
      IsInBounds total (and_then (and_then (if t then Err (record { at = at; fault = BadLength }) else Err (record { at = at; fault = Truncated })) f) g)
  none_holds true at f g h = placed total BadLength at refl (omega arith)
  none_holds false at f g h = ((λ e. cc), omega arith, λ e. h)

  codes_hold : (functions at : ℕ) (end : Option ℕ) (rest : List ℕ) → at + length rest ≡ total → IsInBounds total (codes_at functions (record { at = at; end = end; rest = rest }))
  codes_hold functions at end [] s = none_holds (is_at_end (record { at = at; end = end; rest = [] })) at _ _ (omega arith)
  codes_hold functions at end (b ∷ rest) s = (bounds_counted functions at (omega arith)).holds (record { at = at; end = end; rest = b ∷ rest }) s

  codes_kept : (functions at : ℕ) (end : Option ℕ) (rest more : List ℕ) → at + length rest ≡ total →
      IsKept total more (codes_at functions (record { at = at; end = end; rest = rest })) (codes_at functions (record { at = at; end = end; rest = rest ++ more }))
  codes_kept functions at end [] more s = none_kept total (is_at_end (record { at = at; end = end; rest = [] })) at end more _ _
  codes_kept functions at end (b ∷ rest) more s = (bounds_counted functions at (omega arith)).kept (record { at = at; end = end; rest = b ∷ rest }) more s

  bounds_codes : (functions : ℕ) → InBounds total (codes_at functions)
  bounds_codes functions = record {
    holds = λ input s. codes_hold functions input.at input.end input.rest s;
    kept = λ input more s. codes_kept functions input.at input.end input.rest more s;
  }

  entries : {A : Type 0} {item : Reader A} (put : List A → WModule) → InBounds total item → InBounds total (do xs ← vector_at item; give (put xs))
  entries put h = bounds_then (bounds_vector h) (λ xs. bounds_give _)

  pub bounds_content : (id : ℕ) (m : WModule) → InBounds total (content_at id m)
  bounds_content id m =
      bounds_if _ (entries _ bounds_func_type) (bounds_if _ (entries _ bounds_import) (bounds_if _ (entries _ bounds_u32) (bounds_if _ (entries _ bounds_table)
      (bounds_if _ (entries _ bounds_memory) (bounds_if _ (entries _ bounds_global) (bounds_if _ (entries _ bounds_export) (bounds_if _ (bounds_then bounds_u32 (λ n. bounds_give _))
      (bounds_if _ (entries _ bounds_element) (bounds_if _ (bounds_then (bounds_codes _) (λ xs. bounds_give _)) (entries _ bounds_segment))))))))))

  pub bounds_custom : InBounds total custom_at
  bounds_custom = bounds_then bounds_u32 (λ size. bounds_each bounds_byte size)

  pub bounds_preamble : (k : ℕ) (wanted : List ℕ) → InBounds total (preamble_at k wanted)
  bounds_preamble k [] = bounds_give tt
  bounds_preamble k (w ∷ wanted) =
      bounds_here (λ place h. bounds_then bounds_byte (λ b.
      bounds_if (b == w) (bounds_preamble (k + 1) wanted) (bounds_if (nat_lt k 4) (bounds_fail BadMagic place refl h) (bounds_fail BadVersion place refl h))))
