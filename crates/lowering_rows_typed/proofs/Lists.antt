-- The code of each instruction with lists is typed, where these are.
use Rattle.std.proofs.Common.{◌≡◌, ℕ, suc, ◌+◌, ◌*◌, Bool, true, false, List, [], ◌∷◌, ◌++◌, None, refl, arith, drop}
use Rattle.std.proofs.Math.Path.{subst⁻¹}
use Rattle.wasm_ast.specs.declared.types.ValTy.{ValTy}
use Rattle.wasm_ast.specs.declared.types.ValTy.TheVariants.{I32, I64}
use Rattle.wasm_ast.specs.declared.instructions.WInstr as w
use Rattle.wasm_typing.specs.declared.context.Context.{Context}
use Rattle.wasm_typing.specs.Typing.{AreTyped, Labels}
use Rattle.rw_types.specs.declared.instrs.Instr.{Block', Loop', If', MemUnpack', VariantCase', ExistUnpack', Row_of-Instr-VariantCase-1-1, end_of-Instr-VariantCase-1-1, more_of-Instr-VariantCase-1-1}
use Rattle.rich_typing.specs.declared.notes.Note.{Note}
use Rattle.layout.specs.Bodies.{row_count}
use Rattle.layout.specs.Calls.{top_of}
use Rattle.lowering_rows.specs.Moves.{load_word}
use Rattle.lowering_rows.specs.Surroundings.{Surroundings, first_scratch, operand_place}
use Rattle.lowering_rows.specs.Labels.{Label, case_label, plain_label}
use Rattle.lowering_rows.specs.Taken.{body_words, case_words, is_linear_reference, scope_at, top_height}
use Rattle.lowering_rows.specs.Rows.{arms_code, freed, is_case, keeps_reference, row_code, takes_content}
use Rattle.lowering_rows_typed.specs.Contexts.{HasWhatIsNamed}
use Rattle.lowering_rows_typed.specs.Names.{HasRoom}
use Rattle.lowering_rows_typed.specs.Lists.{AreCasesTyped}
use Rattle.lowering_rows_typed.specs.Laws.{RowsTyped}
use Rattle.lowering_rows_typed.proofs.Steps.{go, joined, stop, t-block, t-br, t-const, t-eq, t-get, t-if, t-if_else, t-load, t-loop, t-set, t-unreachable, t-wrap}
use Rattle.lowering_rows_typed.proofs.Moves.{local, t-loads}
use Rattle.lowering_rows_typed.proofs.Cells.{t-free}
use Rattle.lowering_rows_typed.proofs.Plain.{plain_rows}

module _ (s : Surroundings) (C : Context) (has : HasWhatIsNamed s C) where
  module _ (ls : Labels) (note : Note) where
    keeps : HasRoom s (suc (top_height note)) → AreTyped C ls (keeps_reference s note) [] []
    keeps h =
        let top = operand_place s (top_height note) in
        go C ls (w.LocalGet top) (t-get C ls [] top (local s C has top (omega (arith, h)))) (go C ls (w.LocalSet (first_scratch s)) (t-set C ls [] (first_scratch s) (local s C has (first_scratch s) (omega arith))) (stop C ls []))

    frees : (linear : Bool) → AreTyped C ls (freed s linear) [] []
    frees true = t-free s C has ls (first_scratch s) (omega arith)
    frees false = stop C ls []

    takes : (words word : ℕ) → HasRoom s (top_height note + words) → AreTyped C ls (takes_content s words word note) [] []
    takes words word h =
        joined C ls (t-loads s C has ls words (first_scratch s) word (operand_place s (top_height note)) (omega arith) (omega (arith, h))) (frees (is_linear_reference (scope_at note) (top_of note.taken)))

    tests : (k : ℕ) (rest : List w.WInstr) → AreTyped C ls rest (I32 ∷ []) [] → AreTyped C ls (is_case s k ++ rest) [] []
    tests k rest d =
        go C ls (w.LocalGet (first_scratch s)) (t-get C ls [] (first_scratch s) (local s C has (first_scratch s) (omega arith)))
        (go C ls w.I32WrapI64 (t-wrap C ls [])
        (go C ls (load_word 0) (t-load C ls [] (8 * 0) has.memory)
        (go C ls (w.I64Const k) (t-const C ls (I64 ∷ []) k)
        (go C ls w.I64Eq (t-eq C ls []) d))))

  -- the cases, within the block of their label
  cases : (ls : Labels) (labels : List Label) (note : Note) {n : _} (k : ℕ) (arms : Row_of-Instr-VariantCase-1-1 n) (notes : List Note) → AreCasesTyped s C ls labels k arms note notes →
      AreTyped C (None ∷ ls) (arms_code s (case_label note.beneath ∷ labels) k arms note notes) [] []
  cases ls labels note k end_of-Instr-VariantCase-1-1 notes t = go C (None ∷ ls) w.Unreachable (t-unreachable C (None ∷ ls) [] []) (stop C (None ∷ ls) [])
  cases ls labels note k (more_of-Instr-VariantCase-1-1 n arm arms) notes t =
      let words = case_words (scope_at note) (top_of note.taken) k in
      let inner : Labels = None ∷ None ∷ ls in
      let list : List w.WInstr = takes_content s words 1 note ++ (row_code s (case_label note.beneath ∷ labels) arm notes ++ w.Br 1 ∷ []) in
      let t-list : AreTyped C inner list [] [] = joined C inner (takes inner note words 1 t.0) (joined C inner t.1 (go C inner (w.Br 1) (t-br C inner [] 1 [] refl) (stop C inner []))) in
      joined C (None ∷ ls) (tests (None ∷ ls) note k (w.If None list ∷ []) (go C (None ∷ ls) (w.If None list) (t-if C (None ∷ ls) [] list t-list) (stop C (None ∷ ls) [])))
      (cases ls labels note (suc k) arms (drop (row_count arm) notes) t.2)

  blocks : (ls : Labels) (code : List w.WInstr) → AreTyped C (None ∷ ls) code [] [] → AreTyped C ls (w.Block None code ∷ []) [] []
  blocks ls code t = go C ls (w.Block None code) (t-block C ls [] code t) (stop C ls [])

  ifs : (ls : Labels) (note : Note) (one other : List w.WInstr) → HasRoom s (suc (top_height note)) → AreTyped C (None ∷ ls) one [] [] → AreTyped C (None ∷ ls) other [] [] →
      AreTyped C ls (w.LocalGet (operand_place s (top_height note)) ∷ w.I32WrapI64 ∷ w.IfElse None one other ∷ []) [] []
  ifs ls note one other h t u =
      let top = operand_place s (top_height note) in
      go C ls (w.LocalGet top) (t-get C ls [] top (local s C has top (omega (arith, h)))) (go C ls w.I32WrapI64 (t-wrap C ls []) (go C ls (w.IfElse None one other) (t-if_else C ls [] one other t u) (stop C ls [])))

at_none : (C : Context) (ls : Labels) (code : List w.WInstr) (after : List ValTy) → after ≡ [] → AreTyped C ls code [] [] → AreTyped C ls code [] after
at_none C ls code after e t = subst⁻¹ (λ (st : List ValTy). AreTyped C ls code [] st) e t

pub all_rows : RowsTyped
all_rows s C ls labels (Block' sig n body) note later after has names t e = at_none C ls _ after (e refl) (blocks s C has ls _ t)
all_rows s C ls labels (Loop' sig n body) note later after has names t e =
    let code = row_code s (plain_label note.beneath ∷ labels) body later in
    at_none C ls _ after (e refl) (go C ls (w.Loop None code) (t-loop C ls [] code t) (stop C ls []))
all_rows s C ls labels (If' sig n one m other) note later after has names t e = at_none C ls _ after (e refl) (ifs s C has ls note _ _ t.0 t.1 t.2)
all_rows s C ls labels (MemUnpack' sig n body) note later after has names t e = at_none C ls _ after (e refl) (blocks s C has ls _ t)
all_rows s C ls labels (VariantCase' sig n arms) note later after has names t e =
    at_none C ls _ after (e refl) (joined C ls (keeps s C has ls note t.0) (blocks s C has ls (arms_code s (case_label note.beneath ∷ labels) 0 arms note later) (cases s C has ls labels note 0 arms later t.1)))
all_rows s C ls labels (ExistUnpack' sig n body) note later after has names t e =
    at_none C ls _ after (e refl) (joined C ls (keeps s C has ls note t.0) (joined C ls (takes s C has ls note (body_words (scope_at note) (top_of note.taken)) 0 t.1) (blocks s C has ls (row_code s (plain_label note.beneath ∷ labels) body later) t.2)))
all_rows s C ls labels x note later after has names t e = plain_rows s C ls labels x note after has names e
