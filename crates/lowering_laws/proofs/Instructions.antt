-- Each instruction's step is answered by its row of the lowering table.
use Rattle.std.proofs.Common.{◌≡◌, ℕ, zero, suc, ◌+◌, ◌^◌, ◌%◌, ◌<◌, ◌≤◌, List, [], ◌∷◌, ◌++◌, length, Some, slice_set, refl, sym, subst, arith}
use Rattle.std.specs.Prelude.{slice_get}
use Rattle.wasm_ast.specs.declared.instructions.WInstr as w
use Rattle.wasm_ast.specs.declared.instructions.WInstr.{WInstr}
use Rattle.wasm_ast.specs.declared.instructions.WInstr.TheOpen.{WInstr-F}
use Rattle.wasm_ast.specs.declared.instructions.WInstr.TheVariants.{rolls-Call, rolls-I64Const, rolls-I64Add, rolls-Nop}
use Rattle.rw_types.specs.declared.instrs.Instr.{Instr, I64Const, Num, Print, Drop}
use Rattle.rw_types.specs.declared.numbers.NumName.TheVariants.{I64Add}
use Rattle.rw_types.specs.LoneMain.{ArePlain}
use Rattle.rich_typing.specs.declared.notes.Note.{Note}
use Rattle.rich_typing.specs.Derivations.{Derives}
use Rattle.rich_typing.specs.Kinds.{words_of}
use Rattle.rich_typing.specs.Table.{unr_i64, i64s, note_of}
use Rattle.lowering_table.specs.declared.Pages.{Pages}
use Rattle.lowering_table.specs.Frames.{room_of}
use Rattle.lowering_table.specs.Rows.{rows}
use Rattle.rich_reduction.specs.Configurations as rc
use Rattle.wasm_execution.specs.Configurations as wc
use Rattle.wasm_execution.specs.Environments.{Environment}
use Rattle.lowering_laws.proofs.Locals.{Stored, found, length_set, stored_on}
use Rattle.lowering_laws.proofs.Values.{in_call}
use Rattle.lowering_laws.proofs.Walks.{acts}
use Rattle.lowering_laws.proofs.Relation as relation
use Rattle.lowering_laws.proofs.Relation.{Fits, fits_print, fits_quiet, ending, runs}

words_of-i64s : (k : ℕ) → words_of [] (i64s k) ≡ k
words_of-i64s zero = refl
words_of-i64s (suc k) = omega (arith, words_of-i64s k)

module _ (body : List Instr) (notes : List Note) (pages : Pages) where
  abbrev e : Environment
  e = relation.e body notes pages

  abbrev inside : List ℕ → List ℕ → List WInstr → wc.Config
  inside = relation.inside body notes pages

  abbrev TheAnswers : List rc.Event → List wc.Event → rc.Config → wc.Config → Type 0
  TheAnswers = relation.TheAnswers body notes pages

  -- the instructions, one by one
  pub const_answers : (ds : List rc.Event) (es : List wc.Event) (n : ℕ) (is : List Instr) (later : List Note) (vs locals : List ℕ) → Fits ds es → Derives [] is (i64s (suc (length vs))) later (unr_i64 ∷ []) → ArePlain is →
      room_of (I64Const n ∷ is) (note_of [] (I64Const n) (i64s (length vs)) ∷ later) 1 + 2 ≤ length locals → Stored vs locals →
      TheAnswers ds es (in_call vs (I64Const n ∷ is)) (inside locals [] (rows 0 (I64Const n ∷ is) (note_of [] (I64Const n) (i64s (length vs)) ∷ later) ++ ending))
  const_answers ds es n is later vs locals h d plain room stored =
      let at : ℕ = words_of [] (i64s (length vs)) in
      let code = rows 0 is later ++ ending in
      let locals' = slice_set locals (0 + at) n in
      let same : 0 + at ≡ length vs = omega (arith, words_of-i64s (length vs)) in
      let within : 0 + at < length locals = omega (arith, room, same) in
      let old = found locals (0 + at) within in
      let c0 = inside locals [] (w.I64Const n ∷ w.LocalSet (0 + at) ∷ code) in
      let c1 = inside locals (n ∷ []) (w.LocalSet (0 + at) ∷ code) in
      let a = in_call (n ∷ vs) is in
      relation.answered_by body notes pages ds [] es (in_call vs (I64Const n ∷ is)) a c0 1 refl
      (relation.quiet body notes pages ds [] a 1 es c0 c1 h (acts e (WInstr-F.I64Const n) (w.I64Const n) (rolls-I64Const n) (w.LocalSet (0 + at) ∷ code) c0 refl)
      (relation.quiet body notes pages ds [] a 0 es c1 (inside locals' [] code) h (relation.set_step body notes pages (0 + at) n old.0 locals [] code old.1)
      (runs (fits_quiet ds es h) (record {
        rest = is;
        later = later;
        vs = n ∷ vs;
        locals = locals';
        source = refl;
        target = refl;
        derived = d;
        plain = plain;
        room = omega (arith, room, length_set locals (0 + at) n);
        stored = stored_on vs locals (0 + at) n same within stored;
      }))))

  pub drop_answers : (ds : List rc.Event) (es : List wc.Event) (is : List Instr) (later : List Note) (v : ℕ) (vs locals : List ℕ) → Fits ds es → Derives [] is (i64s (length vs)) later (unr_i64 ∷ []) → ArePlain is →
      room_of (Drop ∷ is) (note_of [] Drop (i64s (suc (length vs))) ∷ later) 1 + 2 ≤ length locals → Stored (v ∷ vs) locals →
      TheAnswers ds es (in_call (v ∷ vs) (Drop ∷ is)) (inside locals [] (rows 0 (Drop ∷ is) (note_of [] Drop (i64s (suc (length vs))) ∷ later) ++ ending))
  drop_answers ds es is later v vs locals h d plain room stored =
      let code = rows 0 is later ++ ending in
      let c0 = inside locals [] (w.Nop ∷ code) in
      relation.answered_by body notes pages ds [] es (in_call (v ∷ vs) (Drop ∷ is)) (in_call vs is) c0 0 refl
      (relation.quiet body notes pages ds [] (in_call vs is) 0 es c0 (inside locals [] code) h (acts e WInstr-F.Nop w.Nop rolls-Nop code c0 refl)
      (runs (fits_quiet ds es h) (record {
        rest = is;
        later = later;
        vs = vs;
        locals = locals;
        source = refl;
        target = refl;
        derived = d;
        plain = plain;
        room = omega (arith, room);
        stored = stored.1;
      })))

  pub print_answers : (ds : List rc.Event) (es : List wc.Event) (is : List Instr) (later : List Note) (v : ℕ) (vs locals : List ℕ) → Fits ds es → Derives [] is (i64s (length vs)) later (unr_i64 ∷ []) → ArePlain is →
      room_of (Print ∷ is) (note_of [] Print (i64s (suc (length vs))) ∷ later) 1 + 2 ≤ length locals → Stored (v ∷ vs) locals →
      TheAnswers ds es (in_call (v ∷ vs) (Print ∷ is)) (inside locals [] (rows 0 (Print ∷ is) (note_of [] Print (i64s (suc (length vs))) ∷ later) ++ ending))
  print_answers ds es is later v vs locals h d plain room stored =
      let at : ℕ = words_of [] (i64s (length vs)) in
      let code = rows 0 is later ++ ending in
      let same : length vs ≡ 0 + at = omega (arith, words_of-i64s (length vs)) in
      let stands = subst (λ (k : ℕ). slice_get locals k ≡ Some v) same stored.0 in
      let ds' : List rc.Event = rc.Print v ∷ [] in
      let a = in_call vs is in
      let c0 = inside locals [] (w.LocalGet (0 + at) ∷ w.Call 0 ∷ code) in
      let c1 = inside locals (v ∷ []) (w.Call 0 ∷ code) in
      let c2 = inside locals [] code in
      relation.answered_by body notes pages ds ds' es (in_call (v ∷ vs) (Print ∷ is)) a c0 1 refl
      (relation.quiet body notes pages ds ds' a 1 es c0 c1 h (relation.get_step body notes pages (0 + at) v locals [] (w.Call 0 ∷ code) stands)
      (relation.saying body notes pages ds ds' a 0 es (wc.Print v) c1 c2 h (acts e (WInstr-F.Call 0) (w.Call 0) (rolls-Call 0) code c1 refl)
      (runs (fits_print ds es v h) (record {
        rest = is;
        later = later;
        vs = vs;
        locals = locals;
        source = refl;
        target = refl;
        derived = d;
        plain = plain;
        room = omega (arith, room);
        stored = stored.1;
      }))))

  pub add_answers : (ds : List rc.Event) (es : List wc.Event) (is : List Instr) (later : List Note) (right left : ℕ) (vs locals : List ℕ) → Fits ds es → Derives [] is (i64s (suc (length vs))) later (unr_i64 ∷ []) → ArePlain is →
      room_of (Num I64Add ∷ is) (note_of [] (Num I64Add) (i64s (suc (suc (length vs)))) ∷ later) 1 + 2 ≤ length locals → Stored (right ∷ left ∷ vs) locals →
      TheAnswers ds es (in_call (right ∷ left ∷ vs) (Num I64Add ∷ is)) (inside locals [] (rows 0 (Num I64Add ∷ is) (note_of [] (Num I64Add) (i64s (suc (suc (length vs)))) ∷ later) ++ ending))
  add_answers ds es is later right left vs locals h d plain room stored =
      let at : ℕ = words_of [] (i64s (length vs)) in
      let code = rows 0 is later ++ ending in
      let sum : ℕ = (left + right) % 2 ^ 64 in
      let same : 0 + at ≡ length vs = omega (arith, words_of-i64s (length vs)) in
      let beneath : length vs ≡ 0 + at = sym same in
      let above : suc (length vs) ≡ 0 + at + 1 = omega (arith, same) in
      let within : 0 + at < length locals = omega (arith, room, same) in
      let old = found locals (0 + at) within in
      let stands_left = subst (λ (k : ℕ). slice_get locals k ≡ Some left) beneath stored.1.0 in
      let stands_right = subst (λ (k : ℕ). slice_get locals k ≡ Some right) above stored.0 in
      let c3 = inside locals (sum ∷ []) (w.LocalSet (0 + at) ∷ code) in
      let c2 = inside locals (right ∷ left ∷ []) (w.I64Add ∷ w.LocalSet (0 + at) ∷ code) in
      let c1 = inside locals (left ∷ []) (w.LocalGet (0 + at + 1) ∷ w.I64Add ∷ w.LocalSet (0 + at) ∷ code) in
      let c0 = inside locals [] (w.LocalGet (0 + at) ∷ w.LocalGet (0 + at + 1) ∷ w.I64Add ∷ w.LocalSet (0 + at) ∷ code) in
      let locals' = slice_set locals (0 + at) sum in
      let a = in_call (sum ∷ vs) is in
      relation.answered_by body notes pages ds [] es (in_call (right ∷ left ∷ vs) (Num I64Add ∷ is)) a c0 3 refl
      (relation.quiet body notes pages ds [] a 3 es c0 c1 h (relation.get_step body notes pages (0 + at) left locals [] (w.LocalGet (0 + at + 1) ∷ w.I64Add ∷ w.LocalSet (0 + at) ∷ code) stands_left)
      (relation.quiet body notes pages ds [] a 2 es c1 c2 h (relation.get_step body notes pages (0 + at + 1) right locals (left ∷ []) (w.I64Add ∷ w.LocalSet (0 + at) ∷ code) stands_right)
      (relation.quiet body notes pages ds [] a 1 es c2 c3 h (acts e WInstr-F.I64Add w.I64Add rolls-I64Add (w.LocalSet (0 + at) ∷ code) c2 refl)
      (relation.quiet body notes pages ds [] a 0 es c3 (inside locals' [] code) h (relation.set_step body notes pages (0 + at) sum old.0 locals [] code old.1)
      (runs (fits_quiet ds es h) (record {
        rest = is;
        later = later;
        vs = sum ∷ vs;
        locals = locals';
        source = refl;
        target = refl;
        derived = d;
        plain = plain;
        room = omega (arith, room, length_set locals (0 + at) sum);
        stored = stored_on vs locals (0 + at) sum same within stored.1.1;
      }))))))
