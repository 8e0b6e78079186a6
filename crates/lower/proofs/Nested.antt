-- No block, loop or if is open in the lowered module of a program of one plain function.
use Rattle.std.proofs.Common.{◌≡◌, ℕ, ◌+◌, ◌≤◌, max, List, [], ◌∷◌, ◌++◌, refl, ap, sym, ◌∙◌, subst, arith}
use Rattle.std.proofs.lemmas.List.Elements.{All-from_recursion}
use Rattle.wasm_ast.specs.declared.instructions.WInstr as w
use Rattle.wasm_ast.specs.declared.instructions.WInstr.{roll-WInstr, out-roll-WInstr}
use Rattle.wasm_ast.specs.declared.instructions.WInstr.TheOpen.{WInstr-F}
use Rattle.wasm_ast.specs.declared.instructions.WInstr.TheVariants.{rolls-LocalGet, rolls-LocalSet, rolls-GlobalGet, rolls-GlobalSet, rolls-Call, rolls-I64Const, rolls-I32Const, rolls-I64Add, rolls-Nop, rolls-Unreachable}
use Rattle.wasm_ast.specs.declared.modules.Code.{Code}
use Rattle.wasm_ast.specs.Immediates.{immediate_in}
use Rattle.wasm_grammar.specs.Nesting.{greatest, immediate_nesting, nesting, nesting_limit, NestsAtMost, ModuleNestsAtMost}
use Rattle.wasm_grammar.proofs.InstructionLayers.{nesting-layer}
use Rattle.rw_types.specs.declared.instrs.Instr.{Instr, I64Const, Num, Print, Drop, Unreachable}
use Rattle.rw_types.specs.declared.numbers.NumName.TheVariants.{I64Add}
use Rattle.rich_typing.specs.declared.notes.Note.{Note}
use Rattle.rw_program.specs.declared.linked.LinkedFunc.{LinkedFunc}
use Rattle.lowering_table.specs.declared.Pages.{Pages}
use Rattle.lowering_table.specs.Rows.{row, rows}
use Rattle.lowering_table.specs.Codes.{low_function}
use Rattle.lowering_table.specs.Modules.{region_start}
use Rattle.lowering_table.proofs.PlainBodies.{low_function-plain}
use Rattle.lower.specs.Lone.{IsLoneFunc, lone_module}

nesting-roll : (x : WInstr-F w.WInstr) → nesting (roll-WInstr x) ≡ immediate_nesting nesting (immediate_in x)
nesting-roll x = nesting-layer (roll-WInstr x) ∙ ap (λ (l : WInstr-F w.WInstr). immediate_nesting nesting (immediate_in l)) (out-roll-WInstr x)

nesting-LocalGet : (n : ℕ) → nesting (w.LocalGet n) ≡ 0
nesting-LocalGet n = ap nesting (sym (rolls-LocalGet n)) ∙ nesting-roll (WInstr-F.LocalGet n)

nesting-LocalSet : (n : ℕ) → nesting (w.LocalSet n) ≡ 0
nesting-LocalSet n = ap nesting (sym (rolls-LocalSet n)) ∙ nesting-roll (WInstr-F.LocalSet n)

nesting-GlobalGet : (n : ℕ) → nesting (w.GlobalGet n) ≡ 0
nesting-GlobalGet n = ap nesting (sym (rolls-GlobalGet n)) ∙ nesting-roll (WInstr-F.GlobalGet n)

nesting-GlobalSet : (n : ℕ) → nesting (w.GlobalSet n) ≡ 0
nesting-GlobalSet n = ap nesting (sym (rolls-GlobalSet n)) ∙ nesting-roll (WInstr-F.GlobalSet n)

nesting-Call : (n : ℕ) → nesting (w.Call n) ≡ 0
nesting-Call n = ap nesting (sym (rolls-Call n)) ∙ nesting-roll (WInstr-F.Call n)

nesting-I64Const : (n : ℕ) → nesting (w.I64Const n) ≡ 0
nesting-I64Const n = ap nesting (sym (rolls-I64Const n)) ∙ nesting-roll (WInstr-F.I64Const n)

nesting-I32Const : (n : ℕ) → nesting (w.I32Const n) ≡ 0
nesting-I32Const n = ap nesting (sym (rolls-I32Const n)) ∙ nesting-roll (WInstr-F.I32Const n)

nesting-I64Add : nesting w.I64Add ≡ 0
nesting-I64Add = ap nesting (sym rolls-I64Add) ∙ nesting-roll WInstr-F.I64Add

nesting-Nop : nesting w.Nop ≡ 0
nesting-Nop = ap nesting (sym rolls-Nop) ∙ nesting-roll WInstr-F.Nop

nesting-Unreachable : nesting w.Unreachable ≡ 0
nesting-Unreachable = ap nesting (sym rolls-Unreachable) ∙ nesting-roll WInstr-F.Unreachable

greatest-append : (xs ys : List w.WInstr) → greatest nesting (xs ++ ys) ≡ max (greatest nesting xs) (greatest nesting ys)
greatest-append [] ys = omega arith
greatest-append (x ∷ xs) ys = omega (arith, greatest-append xs ys)

nesting-row : (x : ℕ) (i : Instr) (note : Note) → greatest nesting (row x i note) ≡ 0
nesting-row x (I64Const n) note = omega (arith, nesting-I64Const n, nesting-LocalSet (x + note.beneath))
nesting-row x (Num I64Add) note =
    omega (arith, nesting-LocalGet (x + note.beneath), nesting-LocalGet (x + note.beneath + 1), nesting-I64Add, nesting-LocalSet (x + note.beneath))
nesting-row x Print note = omega (arith, nesting-LocalGet (x + note.beneath), nesting-Call 0)
nesting-row x Drop note = omega (arith, nesting-Nop)
nesting-row x Unreachable note = omega (arith, nesting-I32Const 3, nesting-GlobalSet 0, nesting-Unreachable)
nesting-row x _ note = refl

nesting-rows : (x : ℕ) (body : List Instr) (notes : List Note) → greatest nesting (rows x body notes) ≡ 0
nesting-rows x [] notes = refl
nesting-rows x (i ∷ is) [] = refl
nesting-rows x (i ∷ is) (note ∷ notes) =
    omega (arith, greatest-append (row x i note) (rows x is notes), nesting-row x i note, nesting-rows x is notes)

-- the code of the linked function
nesting-function : (f : LinkedFunc) (h : IsLoneFunc f) → NestsAtMost nesting_limit (low_function f).body
nesting-function f h =
    let P : LinkedFunc → Type 0 = λ g. NestsAtMost nesting_limit (low_function g).body in
    let body = rows 0 h.body h.notes in
    let end = w.LocalGet 0 ∷ w.GlobalSet 2 ∷ [] in
    let flat : greatest nesting (body ++ end) ≤ 1000 =
    omega (arith, greatest-append body end, nesting-rows 0 h.body h.notes, nesting-LocalGet 0, nesting-GlobalSet 2) in
    subst P (sym h.is) (subst (λ (c : Code). NestsAtMost nesting_limit c.body) (sym (low_function-plain h.body h.notes h.plain)) flat)

pub nests : (f : LinkedFunc) (pages : Pages) → IsLoneFunc f → ModuleNestsAtMost nesting_limit (lone_module f pages)
nests f pages h =
    let none : NestsAtMost nesting_limit (w.Unreachable ∷ []) = omega (arith, nesting-Unreachable) in
    let main : NestsAtMost nesting_limit (w.Call 4 ∷ w.GlobalGet 2 ∷ []) = omega (arith, nesting-Call 4, nesting-GlobalGet 2) in
    let code : nesting (w.I32Const 0) ≤ nesting_limit = omega (arith, nesting-I32Const 0) in
    let address : nesting (w.I32Const 8) ≤ nesting_limit = omega (arith, nesting-I32Const 8) in
    let start : nesting (w.I64Const (region_start pages)) ≤ nesting_limit = omega (arith, nesting-I64Const (region_start pages)) in
    let word : nesting (w.I64Const 0) ≤ nesting_limit = omega (arith, nesting-I64Const 0) in
    let m = lone_module f pages in
    record {
      codes = All-from_recursion (λ c. NestsAtMost nesting_limit c.body) m.codes (none, (none, (none, (nesting-function f h, (main, tt)))));
      globals = All-from_recursion (λ g. nesting g.init ≤ nesting_limit) m.globals (code, (start, (word, tt)));
      elements = All-from_recursion (λ s. nesting s.offset ≤ nesting_limit) m.elements (code, tt);
      segments = All-from_recursion (λ s. nesting s.offset ≤ nesting_limit) m.segments (address, tt);
    }
