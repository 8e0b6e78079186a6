-- The sections of the lowered module of a program of one plain function are short.
use Rattle.std.proofs.Common.{◌≡◌, ◌∙◌, ℕ, zero, suc, ◌+◌, ◌*◌, ◌-◌, ◌/◌, ◌%◌, ◌^◌, ◌<◌, ◌≤◌, min, Bool, true, false, List, [], ◌∷◌, ◌++◌, length, ap, sym, subst, arith, lit<, lit≤, length-append}
use Rattle.std.specs.Prelude.{if◌then◌else◌, nat_lt, nat_le, ◌==◌}
use Rattle.std.specs.Int.{to_le_bytes, w64}
use Rattle.std.specs.List.{flat_map}
use Rattle.std.proofs.lemmas.Grind.{flat_map-append}
use Rattle.wasm_leb.specs.Leb.{unsigned_least, signed_least}
use Rattle.wasm_ast.specs.declared.instructions.WInstr as w
use Rattle.wasm_ast.specs.declared.instructions.WInstr.{roll-WInstr}
use Rattle.wasm_ast.specs.declared.instructions.WInstr.TheOpen.{WInstr-F}
use Rattle.wasm_ast.specs.declared.instructions.WInstr.TheVariants.{rolls-LocalGet, rolls-LocalSet, rolls-GlobalGet, rolls-GlobalSet, rolls-Call, rolls-I64Const, rolls-I32Const, rolls-I64Add, rolls-Nop, rolls-Unreachable}
use Rattle.wasm_ast.specs.Immediates.{immediate_in}
use Rattle.wasm_ast.specs.declared.types.ValTy.TheVariants.{I32}
use Rattle.wasm_ast.specs.declared.modules.Code.{Code}
use Rattle.wasm_ast.specs.declared.modules.DataSeg.{DataSeg}
use Rattle.wasm_ast.specs.declared.modules.ElemSeg.{ElemSeg}
use Rattle.wasm_ast.specs.declared.modules.WGlobal.{WGlobal}
use Rattle.wasm_grammar.specs.CanonicalTypes.{vector_bytes}
use Rattle.wasm_grammar.specs.CanonicalInstructions.{immediate_bytes, instruction_bytes}
use Rattle.wasm_grammar.specs.CanonicalModules.{HasShortContents, global_bytes, element_bytes, function_bytes, code_bytes, segment_bytes, memory_content, global_content, element_content, code_content, data_content}
use Rattle.wasm_spelling.proofs.KnownInstructions.{known_bytes, chosen}
use Rattle.rw_types.specs.declared.instrs.Instr.{Instr, I64Const, Num, Print, Drop, Unreachable}
use Rattle.rw_types.specs.declared.numbers.NumName.TheVariants.{I64Add}
use Rattle.rw_types.specs.LoneMain.{ArePlain}
use Rattle.rich_typing.specs.declared.notes.Note.{Note}
use Rattle.rw_program.specs.LonePrograms.{lone_func, lone_program}
use Rattle.rw_program.specs.Programs.{Program}
use Rattle.lowering_table.specs.declared.Pages.{Pages}
use Rattle.lowering_table.specs.Allocators.{unreachable_code}
use Rattle.lowering_table.specs.Frames.{room_of}
use Rattle.lowering_table.specs.Rows.{row, rows}
use Rattle.lowering_table.specs.Codes.{code_of, low_function, main_code}
use Rattle.lowering_table.specs.Modules.{first_pages, most_pages, free_list_bytes, low_module, region_start, word_global}
use Rattle.lowering_table.proofs.PlainBodies.{low_function-plain, low_module-plain}
use Rattle.lower.specs.Laws.{LowHasShortContents}
use Rattle.lower.specs.Lone.{lone_module}
use Rattle.lower.proofs.Fitting.{low_first-length}

-- the lengths of numbers
either : (c : Bool) (a b : List ℕ) (most : ℕ) → length a ≤ most → length b ≤ most → length (if c then a else b) ≤ most
either true a b most h k = h
either false a b most h k = k

unsigned-length : (k n : ℕ) → length (unsigned_least k n) ≤ k
unsigned-length zero n = lit≤ tt
unsigned-length (suc k) n =
    either (nat_lt n 128) (n ∷ []) ((n % 128 + 128) ∷ unsigned_least k (n / 128)) (suc k) (omega arith) (omega (arith, unsigned-length k (n / 128)))

signed-length : (k limit n : ℕ) → length (signed_least k limit n) ≤ k
signed-length zero limit n = lit≤ tt
signed-length (suc k) limit n =
    let last = (n + 128 - limit) ∷ [] in
    let longer = (n % 128 + 128) ∷ signed_least k (limit / 128) (n / 128) in
    either (nat_lt (2 * n) (min 128 limit)) (n ∷ []) (if nat_le limit (n + 64) then last else longer) (suc k) (omega arith)
    (either (nat_le limit (n + 64)) last longer (suc k) (omega arith) (omega (arith, signed-length k (limit / 128) (n / 128))))

-- the length of an instruction by its layer
known-length : (x : WInstr-F w.WInstr) (i : w.WInstr) → roll-WInstr x ≡ i → length (immediate_bytes instruction_bytes (immediate_in x)) ≤ 10 → length (instruction_bytes i) ≤ 11
known-length x i e h = omega (arith, ap length (known_bytes x i e))

of_LocalGet : (n : ℕ) → length (instruction_bytes (w.LocalGet n)) ≤ 11
of_LocalGet n = known-length (WInstr-F.LocalGet n) (w.LocalGet n) (rolls-LocalGet n) (omega (arith, unsigned-length 5 n))

of_LocalSet : (n : ℕ) → length (instruction_bytes (w.LocalSet n)) ≤ 11
of_LocalSet n = known-length (WInstr-F.LocalSet n) (w.LocalSet n) (rolls-LocalSet n) (omega (arith, unsigned-length 5 n))

of_GlobalGet : (n : ℕ) → length (instruction_bytes (w.GlobalGet n)) ≤ 11
of_GlobalGet n = known-length (WInstr-F.GlobalGet n) (w.GlobalGet n) (rolls-GlobalGet n) (omega (arith, unsigned-length 5 n))

of_GlobalSet : (n : ℕ) → length (instruction_bytes (w.GlobalSet n)) ≤ 11
of_GlobalSet n = known-length (WInstr-F.GlobalSet n) (w.GlobalSet n) (rolls-GlobalSet n) (omega (arith, unsigned-length 5 n))

of_Call : (n : ℕ) → length (instruction_bytes (w.Call n)) ≤ 11
of_Call n = known-length (WInstr-F.Call n) (w.Call n) (rolls-Call n) (omega (arith, unsigned-length 5 n))

of_I64Const : (n : ℕ) → length (instruction_bytes (w.I64Const n)) ≤ 11
of_I64Const n = known-length (WInstr-F.I64Const n) (w.I64Const n) (rolls-I64Const n) (signed-length 10 (2 ^ 64) n)

of_I32Const : (n : ℕ) → length (instruction_bytes (w.I32Const n)) ≤ 11
of_I32Const n = known-length (WInstr-F.I32Const n) (w.I32Const n) (rolls-I32Const n) (omega (arith, signed-length 5 (2 ^ 32) n))

of_I64Add : length (instruction_bytes w.I64Add) ≤ 11
of_I64Add = known-length WInstr-F.I64Add w.I64Add rolls-I64Add (lit≤ tt)

of_Nop : length (instruction_bytes w.Nop) ≤ 11
of_Nop = known-length WInstr-F.Nop w.Nop rolls-Nop (lit≤ tt)

of_Unreachable : length (instruction_bytes w.Unreachable) ≤ 11
of_Unreachable = known-length WInstr-F.Unreachable w.Unreachable rolls-Unreachable (lit≤ tt)

-- the bytes of each entry are no more than so many
abbrev AreAtMost : {X : Type 0} → (X → List ℕ) → ℕ → List X → Type 0
AreAtMost bytes most [] = Unit {0}
AreAtMost bytes most (x ∷ xs) = (length (bytes x) ≤ most) × AreAtMost bytes most xs

entries-length : {X : Type 0} (bytes : X → List ℕ) (most : ℕ) (xs : List X) → AreAtMost bytes most xs → length (flat_map bytes xs) ≤ most * length xs
entries-length bytes most [] h = omega arith
entries-length bytes most (x ∷ xs) h =
    let e : most * suc (length xs) ≡ most + most * length xs = grind arith in
    omega (arith, length-append (bytes x) (flat_map bytes xs), h.0, entries-length bytes most xs h.1, e)

vector-length : {X : Type 0} (bytes : X → List ℕ) (most : ℕ) (xs : List X) → AreAtMost bytes most xs → length (vector_bytes bytes xs) ≤ 5 + most * length xs
vector-length bytes most xs h =
    omega (arith, length-append (unsigned_least 5 (length xs)) (flat_map bytes xs), unsigned-length 5 (length xs), entries-length bytes most xs h)

instructions-length : (xs : List w.WInstr) → AreAtMost instruction_bytes 11 xs → length (flat_map instruction_bytes xs) ≤ 11 * length xs
instructions-length xs h = entries-length instruction_bytes 11 xs h

row-length : (x : ℕ) (i : Instr) (note : Note) → length (flat_map instruction_bytes (row x i note)) ≤ 44
row-length x (I64Const n) note = omega (arith, instructions-length (row x (I64Const n) note) (of_I64Const n, (of_LocalSet (x + note.beneath), tt)))
row-length x (Num I64Add) note =
    omega
    (arith, instructions-length (row x (Num I64Add) note) (of_LocalGet (x + note.beneath), (of_LocalGet (x + note.beneath + 1), (of_I64Add, (of_LocalSet (x + note.beneath), tt)))))
row-length x Print note = omega (arith, instructions-length (row x Print note) (of_LocalGet (x + note.beneath), (of_Call 0, tt)))
row-length x Drop note = omega (arith, instructions-length (row x Drop note) (of_Nop, tt))
row-length x Unreachable note = omega (arith, instructions-length (row x Unreachable note) (of_I32Const 3, (of_GlobalSet 0, (of_Unreachable, tt))))
row-length x _ note = lit≤ tt

rows-length : (x : ℕ) (body : List Instr) (notes : List Note) → length (flat_map instruction_bytes (rows x body notes)) ≤ 44 * length body
rows-length x [] notes = omega arith
rows-length x (i ∷ is) [] = omega arith
rows-length x (i ∷ is) (note ∷ notes) =
    let first = row x i note in
    let rest = rows x is notes in
    omega
    (arith, ap length (flat_map-append instruction_bytes first rest), length-append (flat_map instruction_bytes first) (flat_map instruction_bytes rest), row-length x i note, rows-length x is notes)

-- a function after its length
code-length : (c : Code) (n : ℕ) → length (function_bytes c) ≤ n → length (code_bytes c) ≤ 5 + n
code-length c n h =
    omega (arith, length-append (unsigned_least 5 (length (function_bytes c))) (function_bytes c), unsigned-length 5 (length (function_bytes c)))

-- a function with a run of locals
run-length : (locals : ℕ) (body : List w.WInstr) (n : ℕ) → length (flat_map instruction_bytes body) ≤ n → length (code_bytes (code_of locals body)) ≤ 18 + n
run-length locals body n h =
    let run = unsigned_least 5 locals in
    let instructions = flat_map instruction_bytes body in
    let whole : length (function_bytes (code_of locals body)) ≤ 13 + n =
    omega
    (arith, length-append (1 ∷ ((run ++ 0x7E ∷ []) ++ [])) (instructions ++ 0x0B ∷ []), length-append (run ++ 0x7E ∷ []) [], length-append run (0x7E ∷ []), length-append instructions (0x0B ∷ []), unsigned-length 5 locals) in
    omega (arith, code-length (code_of locals body) (13 + n) whole)

unreachable-length : length (code_bytes unreachable_code) ≤ 50000
unreachable-length =
    let body = w.Unreachable ∷ [] in
    let instructions = flat_map instruction_bytes body in
    let whole : length (function_bytes unreachable_code) ≤ 13 =
    omega (arith, length-append (0 ∷ []) (instructions ++ 0x0B ∷ []), length-append instructions (0x0B ∷ []), instructions-length body (of_Unreachable, tt)) in
    omega (arith, code-length unreachable_code 13 whole)

function-length : (body : List Instr) (notes : List Note) → ArePlain body → length body ≤ 1000 → length (code_bytes (low_function (lone_func body notes))) ≤ 50000
function-length body notes plain short =
    let end = w.LocalGet 0 ∷ w.GlobalSet 2 ∷ [] in
    let low = rows 0 body notes in
    let whole : length (flat_map instruction_bytes (low ++ end)) ≤ 44022 =
    omega
    (arith, ap length (flat_map-append instruction_bytes low end), length-append (flat_map instruction_bytes low) (flat_map instruction_bytes end), rows-length 0 body notes, instructions-length end (of_LocalGet 0, (of_GlobalSet 2, tt))) in
    subst (λ (c : Code). length (code_bytes c) ≤ 50000) (sym (low_function-plain body notes plain)) (omega (arith, run-length (0 + room_of body notes 1 + 2) (low ++ end) 44022 whole))

main-length : length (code_bytes (main_code (lone_program [] []))) ≤ 50000
main-length =
    let body = w.Call 4 ∷ w.GlobalGet 2 ∷ [] in
    omega (arith, run-length 2 body 22 (instructions-length body (of_Call 4, (of_GlobalGet 2, tt))))

global-length : (g : WGlobal) → length (instruction_bytes g.init) ≤ 11 → length (global_bytes g) ≤ 14
global-length g h = omega (arith, length-append (instruction_bytes g.init) (0x0B ∷ []))

memories-short : (body : List Instr) (notes : List Note) (pages : Pages) → length (memory_content (lone_module (lone_func body notes) pages)) < 2 ^ 32
memories-short body notes pages =
    let first = unsigned_least 5 (first_pages pages) in
    let most = unsigned_least 5 (most_pages pages) in
    omega (arith, length-append (0x01 ∷ (first ++ most)) [], length-append first most, unsigned-length 5 (first_pages pages), unsigned-length 5 (most_pages pages))

globals-short : (body : List Instr) (notes : List Note) (pages : Pages) → length (global_content (lone_module (lone_func body notes) pages)) < 2 ^ 32
globals-short body notes pages =
    let globals = (lone_module (lone_func body notes) pages).globals in
    let code : WGlobal = record { ty = I32; mutable = true; init = w.I32Const 0 } in
    omega
    (arith, vector-length global_bytes 14 globals (global-length code (of_I32Const 0), (global-length (word_global (region_start pages)) (of_I64Const (region_start pages)), (global-length (word_global 0) (of_I64Const 0), tt))))

elements-short : (body : List Instr) (notes : List Note) (pages : Pages) → length (element_content (lone_module (lone_func body notes) pages)) < 2 ^ 32
elements-short body notes pages =
    let m = lone_module (lone_func body notes) pages in
    let offset = instruction_bytes (w.I32Const 0) in
    let element : ElemSeg = record { table = 0; offset = w.I32Const 0; funcs = 4 ∷ [] } in
    let one : length (element_bytes element) ≤ 20 =
    omega (arith, length-append (offset ++ 0x0B ∷ []) (0x01 ∷ 0x04 ∷ []), length-append offset (0x0B ∷ []), of_I32Const 0) in
    omega (arith, vector-length element_bytes 20 m.elements (one, tt))

codes-short : (body : List Instr) (notes : List Note) (pages : Pages) → ArePlain body → length body ≤ 1000 → length (code_content (lone_module (lone_func body notes) pages)) < 2 ^ 32
codes-short body notes pages plain short =
    let m = lone_module (lone_func body notes) pages in
    omega
    (arith, vector-length code_bytes 50000 m.codes (unreachable-length, (unreachable-length, (unreachable-length, (function-length body notes plain short, (main-length, tt))))))

segments-short : (body : List Instr) (notes : List Note) (pages : Pages) → length (data_content (lone_module (lone_func body notes) pages)) < 2 ^ 32
segments-short body notes pages =
    let m = lone_module (lone_func body notes) pages in
    let offset = instruction_bytes (w.I32Const 8) in
    let bytes = free_list_bytes pages in
    let head = to_le_bytes w64 24 in
    let block = to_le_bytes w64 (8192 * pages.lin - 3) in
    let segment : DataSeg = record { memory = 0; offset = w.I32Const 8; bytes = bytes } in
    let size : length bytes ≡ 16 = omega (arith, length-append head block, low_first-length 0 8 24, low_first-length 0 8 (8192 * pages.lin - 3)) in
    let one : length (segment_bytes segment) ≤ 40 =
    omega
    (arith, length-append (offset ++ 0x0B ∷ []) (unsigned_least 5 (length bytes) ++ bytes), length-append offset (0x0B ∷ []), length-append (unsigned_least 5 (length bytes)) bytes, unsigned-length 5 (length bytes), of_I32Const 8, size) in
    omega (arith, vector-length segment_bytes 40 m.segments (one, tt))

lone_short : (body : List Instr) (notes : List Note) (pages : Pages) → ArePlain body → length body ≤ 1000 → HasShortContents (lone_module (lone_func body notes) pages)
lone_short body notes pages plain short id =
    chosen (id == 1) _ _ (lit< tt) (chosen (id == 2) _ _ (lit< tt) (chosen (id == 3) _ _ (lit< tt) (chosen (id == 4) _ _ (lit< tt)
    (chosen (id == 5) _ _ (memories-short body notes pages) (chosen (id == 6) _ _ (globals-short body notes pages) (chosen (id == 7) _ _ (lit< tt) (chosen (id == 8) _ _ (lit< tt)
    (chosen (id == 9) _ _ (elements-short body notes pages) (chosen (id == 10) _ _ (codes-short body notes pages plain short) (chosen (id == 11) _ _ (segments-short body notes pages) (lit< tt)))))))))))

pub low_has_short_contents : LowHasShortContents
low_has_short_contents p pages h are =
    subst HasShortContents (sym (ap (λ (q : Program). low_module q pages) h.is ∙ low_module-plain h.body h.notes pages h.plain)) (lone_short h.body h.notes pages h.plain h.short)
