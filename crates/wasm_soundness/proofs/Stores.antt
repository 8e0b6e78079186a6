-- The store that a valid module starts with is typed.
use Rattle.std.proofs.Common.{◌≡◌, ◌∙◌, ℕ, zero, suc, ◌+◌, ◌*◌, ◌<◌, ◌≤◌, Bool, true, false, List, [], ◌∷◌, ◌++◌, length, map, take, drop, slice_get, refl, sym, subst, arith}
use Rattle.std.specs.Prelude.{Option, Some, None, All, replicate, slice_index_or, if◌then◌else◌, nat_lt}
use Rattle.std.proofs.lemmas.Bool.{leb-true}
use Rattle.std.proofs.lemmas.List.Elements.{All-append, All-take, All-drop, All-replicate, All-nil}
use Rattle.memory_words.specs.Memories.{zeros, put}
use Rattle.memory_words.proofs.Bytes.{length-zeros, length-put}
use Rattle.wasm_num.specs.Widths.{IsWithin}
use Rattle.wasm_ast.specs.declared.types.Limits.{Limits}
use Rattle.wasm_ast.specs.declared.types.ValTy.{ValTy}
use Rattle.wasm_ast.specs.declared.types.ValTy.TheVariants.{I32, I64}
use Rattle.wasm_ast.specs.declared.instructions.WInstr.{WInstr, out-WInstr}
use Rattle.wasm_ast.specs.declared.instructions.WInstr.TheOpen.{WInstr-F}
use Rattle.wasm_ast.specs.declared.modules.DataSeg.{DataSeg}
use Rattle.wasm_ast.specs.declared.modules.ElemSeg.{ElemSeg}
use Rattle.wasm_ast.specs.declared.modules.WGlobal.{WGlobal}
use Rattle.wasm_ast.specs.declared.modules.WModule.{WModule}
use Rattle.wasm_ast.specs.Immediates.{Immediate, IsPlain, immediate_in}
use Rattle.wasm_ast.specs.Immediates as immediate
use Rattle.wasm_grammar.specs.ProfileInstructions.{ImmediateFits, InstructionFits}
use Rattle.wasm_grammar.specs.Profile.{page_limit, LimitsFit, GlobalFits, SegmentFits, IsInProfile}
use Rattle.wasm_typing.specs.declared.rule.WRule.{WRule}
use Rattle.wasm_typing.specs.declared.rule.WRule.TheVariants.{FuncIndex, TableIndex}
use Rattle.wasm_typing.specs.declared.context.Context.{Context}
use Rattle.wasm_typing.specs.declared.context.GlobalType.{GlobalType}
use Rattle.wasm_typing.specs.Contexts.{context_of, imported_globals, type_of_global}
use Rattle.wasm_typing.specs.Fields.{breaks_unless, constant_form, constant_index, constant_type, element_rule, functions_rule, global_rule, is_index}
use Rattle.wasm_typing.specs.Modules.{IsValid}
use Rattle.wasm_execution.specs.Types.{width_of}
use Rattle.wasm_execution.specs.Environments.{Environment, Function, environment_of, function_at, functions_of}
use Rattle.wasm_execution.specs.Starts.{first_failing, first_globals, first_entries, first_bytes, fits_table, fits_memory, first_out, first_store, put_functions, put_elements, put_segments, value_in}
use Rattle.wasm_machine_typing.specs.Values.{AreOf}
use Rattle.wasm_machine_typing.specs.Configurations.{IsTypedStore}
use Rattle.wasm_machine_typing.proofs.Memories.{AreBytes}
use Rattle.wasm_machine_typing.proofs.Going.{plain_numbers}
use Rattle.wasm_soundness.proofs.Faults.{all_at, all_head, all_tail, alone_none, sound_fields, third, failing, failing_behind, is_found}
use Rattle.wasm_soundness.proofs.Functions.{ArePrints, no_imported_globals, agree_found, functions_agree}

zero_within : (t : ValTy) → IsWithin (width_of t) 0
zero_within I32 = omega arith
zero_within I64 = omega arith

value_within : (t : ValTy) (x : WInstr-F WInstr) → constant_type [] t x ≡ None → ((m : Immediate WInstr) → immediate_in x ≡ m → IsPlain m → ImmediateFits m) → IsWithin (width_of t) (value_in [] x)
value_within I32 (WInstr-F.I32Const n) e fits = fits (immediate.Const32 n) refl tt
value_within I64 (WInstr-F.I32Const n) e fits = absurd (cc)
value_within I32 (WInstr-F.I64Const n) e fits = absurd (cc)
value_within I64 (WInstr-F.I64Const n) e fits = fits (immediate.Const64 n) refl tt
value_within t (WInstr-F.GlobalGet n) e fits = zero_within t
value_within t _ e fits = zero_within t

globals_typed : (gs : List WGlobal) → ((k : ℕ) (g : WGlobal) → slice_get gs k ≡ Some g → (constant_type [] g.ty (out-WInstr g.init) ≡ None) × InstructionFits g.init)
    → AreOf (map (λ (g : GlobalType). g.ty) (map type_of_global gs)) (first_globals gs)
globals_typed [] each = tt
globals_typed (g ∷ gs) each =
    let p = each 0 g refl in
    (value_within g.ty (out-WInstr g.init) p.0 (λ m e plain. plain_numbers g.init m p.1 e plain), globals_typed gs (λ k x q. each (suc k) x q))

all_cons : {X : Type 0} (P : X → Type 0) (x : X) (xs : List X) → P x → All P xs → (j : ℕ) (d : X) → j < length (x ∷ xs) → P (slice_index_or (x ∷ xs) j d)
all_cons P x xs h k zero d lt = h
all_cons P x xs h k (suc j) d lt = k j d (omega (arith, lt))

if_none : (b : Bool) (x : Option WRule) (rule : WRule) → (if b then x else Some rule) ≡ None → (b ≡ true) × (x ≡ None)
if_none true x rule e = (refl, e)
if_none false x rule e = absurd (cc)

abbrev IsEntry : Environment → Option ℕ → Type 0
IsEntry e None = Unit {0}
IsEntry e (Some n) = (f : Function) × (function_at e n ≡ Some f)

bytes-put : (m : List ℕ) (a : ℕ) (bs : List ℕ) → AreBytes m → AreBytes bs → AreBytes (put m a bs)
unfolding put
bytes-put m a bs h k =
    All-append (λ (b : ℕ). b < 256) (take a m) (bs ++ drop (a + length bs) m) (All-take (λ (b : ℕ). b < 256) a m h)
    (All-append (λ (b : ℕ). b < 256) bs (drop (a + length bs) m) k (All-drop (λ (b : ℕ). b < 256) (a + length bs) m h))

bytes-zeros : (n : ℕ) → AreBytes (zeros n)
unfolding zeros
bytes-zeros n = All-replicate (λ (b : ℕ). b < 256) n 0 (omega arith)

segments_bytes : (globals : List ℕ) (ss : List DataSeg) (memory : List ℕ) → All SegmentFits ss → AreBytes memory → AreBytes (put_segments globals ss memory)
segments_bytes globals [] memory h k = k
segments_bytes globals (s ∷ ss) memory h k =
    segments_bytes globals ss (put memory (value_in globals (out-WInstr s.offset)) s.bytes) (all_tail SegmentFits s ss h)
    (bytes-put memory (value_in globals (out-WInstr s.offset)) s.bytes k (all_head SegmentFits s ss h).2.each)

segments_long : (globals : List ℕ) (ss : List DataSeg) (n bytes : ℕ) (memory : List ℕ) → length memory ≡ bytes → first_failing n (map (fits_memory globals bytes) ss) ≡ None → length (put_segments globals ss memory) ≡ bytes
segments_long globals [] n bytes memory l e = l
segments_long globals (s ∷ ss) n bytes memory l e =
    let p = failing n (fits_memory globals bytes s) (map (fits_memory globals bytes) ss) e in
    let at = value_in globals (out-WInstr s.offset) in
    let le : at + length s.bytes ≤ bytes = leb-true (at + length s.bytes) bytes p.0 in
    segments_long globals ss (suc n) bytes (put memory at s.bytes) (length-put memory at s.bytes (omega (arith, le, l)) ∙ l) p.1

abbrev pages : List Limits → ℕ
pages [] = 0
pages (l ∷ ls) = l.min

bytes_pages : (ls : List Limits) → first_bytes ls ≡ 65536 * pages ls
bytes_pages [] = refl
bytes_pages (l ∷ ls) = refl

few_pages : (ls : List Limits) → All (LimitsFit page_limit) ls → pages ls ≤ 65536
few_pages [] h = omega arith
few_pages (l ∷ ls) h = let le = (all_head (LimitsFit page_limit) l ls h).0 in omega (arith, le)

module _ (m : WModule) (valid : IsValid m) (profile : IsInProfile m) (prints : ArePrints m.types m.imports) where
  abbrev C : Context
  C = context_of m

  abbrev e : Environment
  e = environment_of m

  each_global : (k : ℕ) (g : WGlobal) → slice_get m.globals k ≡ Some g → (constant_type [] g.ty (out-WInstr g.init) ≡ None) × InstructionFits g.init
  each_global k g q =
      let globals = imported_globals m.imports in
      let w = out-WInstr g.init in
      let r = alone_none (global_rule globals) [] m.globals k g (sound_fields m valid.before).1 q in
      let t = third (constant_index globals w) (constant_form globals w) (constant_type globals g.ty w) [] r in
      (subst (λ (l : List GlobalType). constant_type l g.ty (out-WInstr g.init) ≡ None) (no_imported_globals m.types m.imports prints) t, (all_at GlobalFits m.globals k g profile.globals.each q).1)

  functions_entries : (ns : List ℕ) → functions_rule C ns ≡ None → All (IsEntry e) (map (λ (n : ℕ). Some n) ns)
  functions_entries [] r = All-nil (IsEntry e)
  functions_entries (n ∷ ns) r =
      let p = if_none (is_index n C.functions) (functions_rule C ns) FuncIndex r in
      let t = is_found n C.functions p.0 in
      let f = agree_found C C.functions (functions_of m) n t.0 (functions_agree m valid profile prints) t.1 in
      all_cons (IsEntry e) (Some n) (map (λ (k : ℕ). Some k) ns) (_, f.1) (functions_entries ns p.1)

  elements_entries : (globals : List ℕ) (ss : List ElemSeg) (table : List (Option ℕ)) → ((k : ℕ) (s : ElemSeg) → slice_get ss k ≡ Some s → functions_rule C s.funcs ≡ None) → All (IsEntry e) table
      → All (IsEntry e) (put_elements globals ss table)
  elements_entries globals [] table each h = h
  elements_entries globals (s ∷ ss) table each h =
      let at = value_in globals (out-WInstr s.offset) in
      let functions = map (λ (n : ℕ). Some n) s.funcs in
      elements_entries globals ss (put_functions at s.funcs table) (λ k x q. each (suc k) x q)
      (All-append (IsEntry e) (take at table) (functions ++ drop (at + length s.funcs) table) (All-take (IsEntry e) at table h)
      (All-append (IsEntry e) functions (drop (at + length s.funcs) table) (functions_entries s.funcs (each 0 s refl)) (All-drop (IsEntry e) (at + length s.funcs) table h)))

  each_element : (k : ℕ) (s : ElemSeg) → slice_get m.elements k ≡ Some s → functions_rule C s.funcs ≡ None
  each_element k s q =
      let w = out-WInstr s.offset in
      let r = alone_none (element_rule C) [] m.elements k s (sound_fields m valid.before).2 q in
      third (breaks_unless (nat_lt s.table C.tables) TableIndex) (constant_index C.globals w) (functions_rule C s.funcs) (constant_form C.globals w ∷ constant_type C.globals I32 w ∷ []) r

  pub store_typed : first_out m ≡ None → IsTypedStore C e (first_store m)
  store_typed out =
      let globals = first_globals m.globals in
      let behind = failing_behind 0 (map (fits_table globals (first_entries m.tables)) m.elements) (map (fits_memory globals (first_bytes m.memories)) m.segments) out in
      record {
        globals = subst (λ (l : List GlobalType). AreOf (map (λ (g : GlobalType). g.ty) (l ++ map type_of_global m.globals)) globals) (sym (no_imported_globals m.types m.imports prints)) (globals_typed m.globals each_global);
        table = λ i n q.
            all_at (IsEntry e) (put_elements globals m.elements (replicate (first_entries m.tables) None)) i (Some n)
            (elements_entries globals m.elements (replicate (first_entries m.tables) None) each_element (All-replicate (IsEntry e) (first_entries m.tables) None tt)) q;
        bytes = segments_bytes globals m.segments (zeros (first_bytes m.memories)) profile.segments.each (bytes-zeros (first_bytes m.memories));
        pages = pages m.memories;
        whole = segments_long globals m.segments behind.0 (first_bytes m.memories) (zeros (first_bytes m.memories)) (length-zeros (first_bytes m.memories)) behind.1 ∙ bytes_pages m.memories;
        most = few_pages m.memories profile.memories.each;
      }
