-- The lowered module of a program of one plain function is in the profile.
use Rattle.std.proofs.Common.{◌≡◌, ◌∙◌, ℕ, zero, suc, ◌+◌, ◌*◌, ◌-◌, ◌^◌, ◌<◌, ◌≤◌, List, [], ◌∷◌, ◌++◌, length, All, refl, ap, sym, subst, arith, lit<, lit≤, append_assoc, length-append}
use Rattle.std.specs.Prelude.{codes}
use Rattle.std.specs.Int.{byte_at, bytes_low_first, to_le_bytes, w64}
use Rattle.std.proofs.lemmas.List.Elements.{All-from_recursion, All-cons, All-nil, All-append}
use Rattle.wasm_ast.specs.declared.instructions.WInstr as w
use Rattle.wasm_ast.specs.declared.instructions.WInstr.TheOpen.{WInstr-F}
use Rattle.wasm_ast.specs.declared.instructions.WInstr.TheVariants.{rolls-LocalGet, rolls-LocalSet, rolls-GlobalGet, rolls-GlobalSet, rolls-Call, rolls-I64Const, rolls-I32Const, rolls-I64Add, rolls-Nop, rolls-Unreachable}
use Rattle.wasm_ast.specs.declared.types.ValTy.TheVariants.{I64}
use Rattle.wasm_ast.specs.declared.modules.LocalRun.{LocalRun}
use Rattle.wasm_grammar.specs.ProfileInstructions.{FitsU32, IsShortListOf, InstructionFits, InstructionsFit, ConstantFits, none_fit, more_fit}
use Rattle.wasm_grammar.specs.Profile.{page_limit, entry_limit, FuncTypeFits, LimitsFit, ImportFits, GlobalFits, ExportFits, ElementFits, SegmentFits, NameFits, CodeFits, IsInProfile}
use Rattle.wasm_spelling.proofs.KnownInstructions.{known_fits, known_constant, one, empty}
use Rattle.rw_types.specs.declared.instrs.Instr.{Instr, I64Const, Num, Print, Drop, Unreachable}
use Rattle.rw_types.specs.declared.numbers.NumName.TheVariants.{I64Add}
use Rattle.rw_types.specs.LoneMain.{IsPlain, ArePlain}
use Rattle.rich_typing.specs.declared.notes.Note.{Note}
use Rattle.rw_program.specs.LonePrograms.{lone_func, lone_program}
use Rattle.rw_program.specs.Programs.{Program}
use Rattle.lowering_table.specs.declared.Pages.{Pages}
use Rattle.lowering_table.specs.Allocators.{unreachable_code}
use Rattle.lowering_table.specs.Frames.{room_of}
use Rattle.lowering_table.specs.Rows.{row, rows}
use Rattle.lowering_table.specs.Codes.{code_of, low_function, main_code}
use Rattle.lowering_table.specs.Modules.{ArePages, free_list_bytes, low_module, region_start}
use Rattle.lowering_table.proofs.PlainBodies.{low_function-plain, low_module-plain, plain-height}
use Rattle.lower.specs.Heights.{IsWithin, AreWithin}
use Rattle.lower.specs.Laws.{LowIsInProfile}
use Rattle.lower.specs.Lone.{IsLoneFunc, lone_module}
use Rattle.lower.proofs.Derived.{derived_within}
use Rattle.lower.proofs.Nested.{nests}

-- the instructions of the table
fits-LocalGet : (n : ℕ) → n < 2 ^ 32 → InstructionFits (w.LocalGet n)
fits-LocalGet n h = known_fits (WInstr-F.LocalGet n) (w.LocalGet n) (rolls-LocalGet n) h

fits-LocalSet : (n : ℕ) → n < 2 ^ 32 → InstructionFits (w.LocalSet n)
fits-LocalSet n h = known_fits (WInstr-F.LocalSet n) (w.LocalSet n) (rolls-LocalSet n) h

fits-GlobalGet : (n : ℕ) → n < 2 ^ 32 → InstructionFits (w.GlobalGet n)
fits-GlobalGet n h = known_fits (WInstr-F.GlobalGet n) (w.GlobalGet n) (rolls-GlobalGet n) h

fits-GlobalSet : (n : ℕ) → n < 2 ^ 32 → InstructionFits (w.GlobalSet n)
fits-GlobalSet n h = known_fits (WInstr-F.GlobalSet n) (w.GlobalSet n) (rolls-GlobalSet n) h

fits-Call : (n : ℕ) → n < 2 ^ 32 → InstructionFits (w.Call n)
fits-Call n h = known_fits (WInstr-F.Call n) (w.Call n) (rolls-Call n) h

fits-I64Const : (n : ℕ) → n < 2 ^ 64 → InstructionFits (w.I64Const n)
fits-I64Const n h = known_fits (WInstr-F.I64Const n) (w.I64Const n) (rolls-I64Const n) h

fits-I64Add : InstructionFits w.I64Add
fits-I64Add = known_fits WInstr-F.I64Add w.I64Add rolls-I64Add tt

fits-Nop : InstructionFits w.Nop
fits-Nop = known_fits WInstr-F.Nop w.Nop rolls-Nop tt

fits-Unreachable : InstructionFits w.Unreachable
fits-Unreachable = known_fits WInstr-F.Unreachable w.Unreachable rolls-Unreachable tt

-- the constants of the globals and of the offsets
constant-I32Const : (n : ℕ) → n < 2 ^ 32 → ConstantFits (w.I32Const n)
constant-I32Const n h =
    let x : WInstr-F w.WInstr = WInstr-F.I32Const n in
    (known_constant x (w.I32Const n) (rolls-I32Const n) tt, known_fits x (w.I32Const n) (rolls-I32Const n) h)

constant-I64Const : (n : ℕ) → n < 2 ^ 64 → ConstantFits (w.I64Const n)
constant-I64Const n h = (known_constant (WInstr-F.I64Const n) (w.I64Const n) (rolls-I64Const n) tt, fits-I64Const n h)

-- one more instruction
also : (x : w.WInstr) (xs : List w.WInstr) → InstructionFits x → InstructionsFit xs → InstructionsFit (x ∷ xs)
also x xs h k = more_fit x xs refl h k

-- the code of one instruction, before instructions that fit
row_fits : (i : Instr) (note : Note) (rest : List w.WInstr) → IsPlain i → IsWithin 1000 note → InstructionsFit rest → InstructionsFit (row 0 i note ++ rest)
row_fits (I64Const n) note rest plain within h =
    let place : 0 + note.beneath < 2 ^ 32 = omega (arith, within.height) in
    also _ _ (fits-I64Const n plain) (also _ _ (fits-LocalSet _ place) h)
row_fits (Num I64Add) note rest plain within h =
    let place : 0 + note.beneath < 2 ^ 32 = omega (arith, within.height) in
    let above : 0 + note.beneath + 1 < 2 ^ 32 = omega (arith, within.height) in
    also _ _ (fits-LocalGet _ place) (also _ _ (fits-LocalGet _ above) (also _ _ fits-I64Add (also _ _ (fits-LocalSet _ place) h)))
row_fits Print note rest plain within h =
    let place : 0 + note.beneath < 2 ^ 32 = omega (arith, within.height) in
    also _ _ (fits-LocalGet _ place) (also _ _ (fits-Call 0 (lit< tt)) h)
row_fits Drop note rest plain within h = also _ _ fits-Nop h
row_fits _ note rest plain within h = absurd plain

rows_fit : (body : List Instr) (notes : List Note) (rest : List w.WInstr) → ArePlain body → AreWithin 1000 notes → InstructionsFit rest → InstructionsFit (rows 0 body notes ++ rest)
rows_fit [] notes rest plain within h = h
rows_fit (i ∷ is) [] rest plain within h = h
rows_fit (i ∷ is) (note ∷ notes) rest plain within h =
    subst InstructionsFit (sym (append_assoc (row 0 i note) (rows 0 is notes) rest))
    (row_fits i note (rows 0 is notes ++ rest) plain.0 within.0 (rows_fit is notes rest plain.1 within.1 h))

-- each instruction is lowered to four at most
row-short : (x : ℕ) (i : Instr) (note : Note) → length (row x i note) ≤ 4
row-short x (I64Const n) note = lit≤ tt
row-short x (Num I64Add) note = lit≤ tt
row-short x Print note = lit≤ tt
row-short x Drop note = lit≤ tt
row-short x Unreachable note = lit≤ tt
row-short x _ note = lit≤ tt

rows-short : (x : ℕ) (body : List Instr) (notes : List Note) → length (rows x body notes) ≤ 4 * length body
rows-short x [] notes = omega arith
rows-short x (i ∷ is) [] = omega arith
rows-short x (i ∷ is) (note ∷ notes) =
    omega (arith, length-append (row x i note) (rows x is notes), row-short x i note, rows-short x is notes)

room-within : (body : List Instr) (notes : List Note) (end : ℕ) → ArePlain body → AreWithin 1000 notes → end ≤ 1000 → room_of body notes end ≤ 1000
room-within [] notes end plain within h = h
room-within (i ∷ is) [] end plain within h = h
room-within (i ∷ is) (note ∷ notes) end plain within h =
    omega (arith, plain-height i note plain.0, within.0.words, within.0.height, room-within is notes end plain.1 within.1 h)

-- a code with a run of locals
code_fits : (locals : ℕ) (body : List w.WInstr) → locals ≤ 50000 → length body < 2 ^ 32 → InstructionsFit body → CodeFits (code_of locals body)
code_fits locals body few short fits = record {
  locals = one (λ (r : LocalRun). FitsU32 r.count) (record { count = locals; ty = I64 }) (omega arith);
  local_count = omega arith;
  body_length = short;
  body = fits;
}

unreachable-fits : CodeFits unreachable_code
unreachable-fits = record {
  locals = empty (λ (r : LocalRun). FitsU32 r.count);
  local_count = lit≤ tt;
  body_length = lit< tt;
  body = also _ _ fits-Unreachable (none_fit refl);
}

function-fits : (body : List Instr) (notes : List Note) → ArePlain body → AreWithin 1000 notes → length body ≤ 1000 → CodeFits (low_function (lone_func body notes))
function-fits body notes plain within short =
    let end = w.LocalGet 0 ∷ w.GlobalSet 2 ∷ [] in
    let low = rows 0 body notes in
    subst CodeFits (sym (low_function-plain body notes plain))
    (code_fits (0 + room_of body notes 1 + 2) (low ++ end) (omega (arith, room-within body notes 1 plain within (lit≤ tt))) (omega (arith, length-append low end, rows-short 0 body notes))
    (rows_fit body notes end plain within (also _ _ (fits-LocalGet 0 (lit< tt)) (also _ _ (fits-GlobalSet 2 (lit< tt)) (none_fit refl)))))

main-fits : CodeFits (main_code (lone_program [] []))
main-fits =
    code_fits 2 (w.Call 4 ∷ w.GlobalGet 2 ∷ []) (lit≤ tt) (lit< tt) (also _ _ (fits-Call 4 (lit< tt)) (also _ _ (fits-GlobalGet 2 (lit< tt)) (none_fit refl)))

-- the bytes of a number
byte_at-below : (i n : ℕ) → byte_at i n < 256
byte_at-below zero n = omega arith
byte_at-below (suc i) n = omega arith

low_first-bytes : (i k n : ℕ) → All (λ b. b < 256) (bytes_low_first i k n)
low_first-bytes i zero n = All-nil _
low_first-bytes i (suc k) n = All-cons (λ b. b < 256) (byte_at i n) (bytes_low_first (suc i) k n) (byte_at-below i n) (low_first-bytes (suc i) k n)

pub low_first-length : (i k n : ℕ) → length (bytes_low_first i k n) ≡ k
low_first-length i zero n = refl
low_first-length i (suc k) n = omega (arith, low_first-length (suc i) k n)

-- the segment's bytes
list-fits : (pages : Pages) → IsShortListOf (λ b. b < 256) (free_list_bytes pages)
list-fits pages =
    let words = 8192 * pages.lin - 3 in
    record {
      short = omega (arith, length-append (to_le_bytes w64 24) (to_le_bytes w64 words), low_first-length 0 8 24, low_first-length 0 8 words);
      each = All-append (λ b. b < 256) (to_le_bytes w64 24) (to_le_bytes w64 words) (low_first-bytes 0 8 24) (low_first-bytes 0 8 words);
    }

-- the names
rw-fits : NameFits (codes "rw")
unfolding lib.Utf8.encode
rw-fits = ((codes "rw", (refl, refl)), lit< tt)

print-fits : NameFits (codes "print")
unfolding lib.Utf8.encode
print-fits = ((codes "print", (refl, refl)), lit< tt)

main_name-fits : NameFits (codes "main")
unfolding lib.Utf8.encode
main_name-fits = ((codes "main", (refl, refl)), lit< tt)

memory-fits : NameFits (codes "memory")
unfolding lib.Utf8.encode
memory-fits = ((codes "memory", (refl, refl)), lit< tt)

trap_code-fits : NameFits (codes "trap_code")
unfolding lib.Utf8.encode
trap_code-fits = ((codes "trap_code", (refl, refl)), lit< tt)

lone_fits : (body : List Instr) (notes : List Note) (pages : Pages) → ArePlain body → AreWithin 1000 notes → length body ≤ 1000 → ArePages pages → IsInProfile (lone_module (lone_func body notes) pages)
lone_fits body notes pages plain within short are =
    let f = lone_func body notes in
    let m = lone_module f pages in
    let lone : IsLoneFunc f = record { body = body; notes = notes; is = refl; plain = plain; within = within } in
    let code = constant-I32Const 0 (lit< tt) in
    let start = constant-I64Const (region_start pages) (omega (arith, are.linear)) in
    let word = constant-I64Const 0 (lit< tt) in
    record {
      types = record { short = lit< tt; each = All-from_recursion FuncTypeFits m.types (lit< tt, (lit< tt, (lit< tt, (lit< tt, tt)))) };
      imports = one ImportFits _ (rw-fits, print-fits, lit< tt);
      funcs = record { short = lit< tt; each = All-from_recursion FitsU32 m.funcs (lit< tt, (lit< tt, (lit< tt, (lit< tt, (lit< tt, tt))))) };
      tables = one (LimitsFit entry_limit) _ (lit≤ tt, lit< tt);
      memories = one (LimitsFit page_limit) _ (omega (arith, are.linear, are.unrestricted), omega (arith, are.linear, are.unrestricted));
      globals = record { short = lit< tt; each = All-from_recursion GlobalFits m.globals (code, (start, (word, tt))) };
      exports = record { short = lit< tt; each = All-from_recursion ExportFits m.exports ((main_name-fits, lit< tt), ((memory-fits, lit< tt), ((trap_code-fits, lit< tt), tt))) };
      start = tt;
      elements = one ElementFits _ (lit< tt, code, one FitsU32 4 (lit< tt));
      codes = record { short = lit< tt; each = All-from_recursion CodeFits m.codes (unreachable-fits, (unreachable-fits, (unreachable-fits, (function-fits body notes plain within short, (main-fits, tt))))) };
      segments = one SegmentFits _ (lit< tt, constant-I32Const 8 (lit< tt), list-fits pages);
      counts = refl;
      nesting = nests f pages lone;
    }

pub low_is_in_profile : LowIsInProfile
low_is_in_profile p pages h are =
    let within = derived_within 1000 h.body [] h.notes _ h.derived tt h.plain (omega (arith, h.short)) in
    subst IsInProfile (sym (ap (λ (q : Program). low_module q pages) h.is ∙ low_module-plain h.body h.notes pages h.plain)) (lone_fits h.body h.notes pages h.plain within h.short are)
