-- A module is read exactly where it is spelled: the preamble, the sections by the row of the grammar, and the profile by
-- what each section says of its field.
use Rattle.std.proofs.Common.{◌≡◌, ◌∙◌, ℕ, ◌+◌, ◌≤◌, List, [], ◌∷◌, ◌++◌, length, refl, sym, ap, subst, arith, append-nil, length-append, None, Result, Ok, Err}
use Rattle.std.specs.Prelude.{◌==◌, nat_lt, All}
use Rattle.std.proofs.lemmas.Bool.{eqb-true, eqb-false}
use Rattle.std.proofs.lemmas.List.Elements.{All-nil, All-cons, All-head, All-tail, All-weaker}
use Rattle.wasm_ast.specs.declared.instructions.WInstr.{WInstr}
use Rattle.wasm_ast.specs.declared.modules.WGlobal.{WGlobal}
use Rattle.wasm_ast.specs.declared.modules.ElemSeg.{ElemSeg}
use Rattle.wasm_ast.specs.declared.modules.DataSeg.{DataSeg}
use Rattle.wasm_ast.specs.declared.modules.Code.{Code}
use Rattle.wasm_ast.specs.declared.modules.WModule.{WModule}
use Rattle.wasm_grammar.specs.CanonicalModules.{preamble}
use Rattle.wasm_grammar.specs.Nesting.{nesting, nesting_limit, NestsAtMost}
use Rattle.wasm_grammar.specs.ProfileInstructions.{IsShortListOf, ConstantFits}
use Rattle.wasm_grammar.specs.Profile.{IsInProfile, GlobalFits, ElementFits, CodeFits, SegmentFits}
use Rattle.wasm_grammar.specs.GrammarValues.{Joined, IsExactly}
use Rattle.wasm_grammar.specs.GrammarModules.{AreCustomSections, AreSections}
use Rattle.wasm_reading.specs.declared.fault.DecodeError.{DecodeError}
use Rattle.wasm_reading.specs.declared.fault.DecodeFault.TheVariants.{BadMagic, BadVersion}
use Rattle.wasm_reading.specs.Readers.{Input}
use Rattle.wasm_grammar.specs.WorkedModules.{empty_module}
use Rattle.wasm_reading.specs.ReadModules.{preamble_at, sections_at, module_at, without_rest}
use Rattle.wasm_reading_values.specs.Exactness.{Exact}
use Rattle.wasm_reading_values.proofs.Compose.{alike, giving, failing, branch, placed, followed}
use Rattle.wasm_reading_values.proofs.ExactNumbers.{one_byte}
use Rattle.wasm_reading_bodies.proofs.Spelled.{constants_nest_none}
use Rattle.wasm_reading_laws.specs.ModulesRead.{ReadIsSpelled, SpelledIsRead}
use Rattle.wasm_reading_laws.proofs.ToEnd.{ToEnd, alike_to_end, followed_to_end}
use Rattle.wasm_reading_laws.proofs.Contents.{types_field, imports_field, funcs_field, tables_field, memories_field, globals_field, exports_field, start_field, elements_field, codes_field, segments_field}
use Rattle.wasm_reading_laws.proofs.Loops.{InOrder, at_end, custom, section, sections}
use Rattle.wasm_reading_laws.proofs.Rows.{HasCounts, Row, row_before, customs_first}
use Rattle.wasm_reading_laws.proofs.Slots.{types_slot, imports_slot, funcs_slot, tables_slot, memories_slot, globals_slot, exports_slot, start_slot, elements_slot, codes_slot, segments_slot}

-- behind the last section
customs_last : {last : ℕ} {so_far m : WModule} {bytes : List ℕ} → InOrder last so_far m bytes → 11 ≤ last → (m ≡ so_far) × AreCustomSections bytes
customs_last (at_end e c n) h = (e, ([], n))
customs_last (custom inner front back p l e) h =
    let q = customs_last l h in
    (q.0, (inner ∷ q.1.0, record { front = front; back = back; first = p; second = q.1.1; whole = e }))
customs_last (section id with_it front back lt le p l e) h = absurd (omega arith)

last_row : Row 11 (λ m. Unit {0}) (λ m. AreCustomSections)
last_row = record {
  sound = λ so_far m bytes h l.
      let q = customs_last l (omega arith) in
      (q.0, tt, q.1);
  complete = λ m bytes counts fits p. customs_first p.0 bytes [] p.1 (at_end refl counts refl) (sym (append-nil bytes));
}

-- each field fits
abbrev FieldsFit : WModule → Type 0
FieldsFit m =
    types_field.Fits m.types × (imports_field.Fits m.imports × (funcs_field.Fits m.funcs × (tables_field.Fits m.tables × (memories_field.Fits m.memories × (globals_field.Fits m.globals
    × (exports_field.Fits m.exports × (start_field.Fits m.start × (elements_field.Fits m.elements × (codes_field.Fits m.codes × (segments_field.Fits m.segments × Unit {0}))))))))))

-- the sections in order are those of the grammar
row : Row 0 FieldsFit AreSections
row =
    row_before 0 types_field types_slot _ _
    (row_before 1 imports_field imports_slot _ _
    (row_before 2 funcs_field funcs_slot _ _
    (row_before 3 tables_field tables_slot _ _
    (row_before 4 memories_field memories_slot _ _
    (row_before 5 globals_field globals_slot _ _
    (row_before 6 exports_field exports_slot _ _
    (row_before 7 start_field start_slot _ _
    (row_before 8 elements_field elements_slot _ _
    (row_before 9 codes_field codes_slot _ _
    (row_before 10 segments_field segments_slot _ _ last_row))))))))))

has_counts : {last : ℕ} {so_far m : WModule} {bytes : List ℕ} → InOrder last so_far m bytes → HasCounts m
has_counts (at_end e c n) = subst (λ n. HasCounts n) (sym e) c
has_counts (custom inner front back p l e) = has_counts l
has_counts (section id with_it front back lt le p l e) = has_counts l

both : {X : Type 0} (P Q : X → Type 0) (xs : List X) → All P xs → All Q xs → All (λ x. P x × Q x) xs
both P Q [] h k = All-nil (λ x. P x × Q x)
both P Q (x ∷ xs) h k = All-cons (λ x. P x × Q x) x xs (All-head P x xs h, All-head Q x xs k) (both P Q xs (All-tail P x xs h) (All-tail Q x xs k))

flat : (w : WInstr) → ConstantFits w → nesting w ≤ nesting_limit
flat w h = let none = constants_nest_none w h.0 in omega arith

-- a module whose fields fit is in the profile
in_profile : (m : WModule) → HasCounts m → FieldsFit m → IsInProfile m
in_profile m counts fits =
    let globals = fits.1.1.1.1.1.0 in
    let elements = fits.1.1.1.1.1.1.1.1.0 in
    let codes = fits.1.1.1.1.1.1.1.1.1.0 in
    let segments = fits.1.1.1.1.1.1.1.1.1.1.0 in
    record {
      types = fits.0;
      imports = fits.1.0;
      funcs = fits.1.1.0;
      tables = fits.1.1.1.0;
      memories = fits.1.1.1.1.0;
      globals = globals;
      exports = fits.1.1.1.1.1.1.0;
      start = fits.1.1.1.1.1.1.1.0;
      elements = elements;
      codes = record { short = codes.short; each = All-weaker (λ (c : Code). CodeFits c × NestsAtMost nesting_limit c.body) CodeFits (λ c h. h.0) m.codes codes.each };
      segments = segments;
      counts = sym counts;
      nesting = record {
        codes = All-weaker (λ (c : Code). CodeFits c × NestsAtMost nesting_limit c.body) (λ c. NestsAtMost nesting_limit c.body) (λ c h. h.1) m.codes codes.each;
        globals = All-weaker GlobalFits (λ (g : WGlobal). nesting g.init ≤ nesting_limit) (λ g h. flat g.init h) m.globals globals.each;
        elements = All-weaker ElementFits (λ (s : ElemSeg). nesting s.offset ≤ nesting_limit) (λ s h. flat s.offset h.1) m.elements elements.each;
        segments = All-weaker SegmentFits (λ (s : DataSeg). nesting s.offset ≤ nesting_limit) (λ s h. flat s.offset h.1) m.segments segments.each;
      };
    }

-- and the other way
fields_fit : (m : WModule) → IsInProfile m → FieldsFit m
fields_fit m p =
    let codes : IsShortListOf (λ (c : Code). CodeFits c × NestsAtMost nesting_limit c.body) m.codes = record { short = p.codes.short; each = both CodeFits (λ (c : Code). NestsAtMost nesting_limit c.body) m.codes p.codes.each p.nesting.codes } in
    (p.types, (p.imports, (p.funcs, (p.tables, (p.memories, (p.globals, (p.exports, (p.start, (p.elements, (codes, (p.segments, tt)))))))))))

-- the magic number and the version
preamble_read : (k : ℕ) (wanted : List ℕ) → Exact (preamble_at k wanted) (λ _ bytes. bytes ≡ wanted)
preamble_read k [] = alike (giving tt) (λ a bytes p. p.1) (λ a bytes p. (refl, p))
preamble_read k (w ∷ wanted) =
    placed _ _ (λ place.
    alike (followed _ (λ b a bytes. (b ≡ w) × (bytes ≡ wanted)) one_byte (λ b.
    branch (b == w) _ _ _
    (λ e. alike (preamble_read (k + 1) wanted) (λ a bytes p. (eqb-true b w e, p)) (λ a bytes p. p.1))
    (λ e. branch (nat_lt k 4) _ _ _ (λ f. failing BadMagic place _ (λ a bytes p. eqb-false b w e p.0)) (λ f. failing BadVersion place _ (λ a bytes p. eqb-false b w e p.0)))))
    (λ a bytes p.
    let q = p.1 in
    q.whole ∙ (λ i. q.first i ++ q.second.1 i) ∙ ap (λ (b : ℕ). b ∷ wanted) q.second.0)
    (λ a bytes p. (w, record { front = w ∷ []; back = wanted; first = refl; second = (refl, refl); whole = p })))

-- the preamble and sections in order
module_read : (most : ℕ) → ToEnd most module_at (λ m bytes. Joined (IsExactly preamble) (InOrder 0 empty_module m) bytes)
module_read most =
    alike_to_end (followed_to_end most (λ _ input. sections_at (length input.rest) 0 empty_module input) (λ _. InOrder 0 empty_module) (λ a front back p h. fewer front back h) (preamble_read 0 preamble) (λ _. by_length))
    (λ m bytes p. p.1)
    (λ m bytes p. (tt, p))
  where
    fewer : (front back : List ℕ) → length (front ++ back) ≤ most → length back ≤ most
    fewer front back h = omega (arith, length-append front back)

    by_length : ToEnd most (λ input. sections_at (length input.rest) 0 empty_module input) (InOrder 0 empty_module)
    by_length = record {
      sound = λ input behind m h small e. (sections (length input.rest) 0 empty_module).sound input behind m h (omega arith) e;
      complete = λ input m unbounded small p. (sections (length input.rest) 0 empty_module).complete input m unbounded (omega arith) p;
    }

-- the input of a reading
abbrev whole_input : List ℕ → Input
whole_input bytes = record { at = 0; end = None; rest = bytes }

with_rest : (r : Result (WModule × Input) DecodeError) (m : WModule) → without_rest r ≡ Ok m → (behind : Input) × (r ≡ Ok (m, behind))
with_rest (Ok done) m e =
    let same : done.0 ≡ m = cc in
    (done.1, ap (λ n. Ok (n, done.1)) same)
with_rest (Err fault) m e = absurd (cc)

pub read_is_spelled : ReadIsSpelled
read_is_spelled bytes m h e =
    let r = with_rest (module_at (whole_input bytes)) m e in
    let p = (module_read (length bytes)).sound (whole_input bytes) r.0 m h (omega arith) r.1 in
    let q = row.sound empty_module m p.back refl p.second in
    let counts = has_counts p.second in
    record {
      profile = in_profile m counts q.1;
      productions = record { front = p.front; back = p.back; first = p.first; second = q.2; whole = p.whole };
      counts = sym counts;
    }

pub spelled_is_read : SpelledIsRead
spelled_is_read bytes m s =
    let p = s.productions in
    let l = row.complete m p.back (sym s.counts) (fields_fit m s.profile) p.second in
    let done = (module_read (length bytes)).complete (whole_input bytes) m refl (omega arith) (record { front = p.front; back = p.back; first = p.first; second = l; whole = p.whole }) in
    ap (λ r. without_rest r) done.1
