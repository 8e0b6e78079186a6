-- What the code of each instruction names is there: by what holds where its row breaks no rule.
use Rattle.std.proofs.Common.{◌≡◌, ◌∙◌, ◌≤◌, ℕ, suc, ◌+◌, Bool, true, false, List, [], ◌∷◌, ◌++◌, Option, Some, None, length, reverse, refl, ap, sym, subst, arith}
use Rattle.std.specs.Prelude.{slice_get}
use Rattle.std.proofs.lemmas.List.{length-reverse}
use Rattle.wasm_typing.specs.declared.context.Context.{Context}
use Rattle.wasm_typing.specs.Typing as w
use Rattle.rich_operators.specs.Operators.{operator_of}
use Rattle.rich_operators.specs.Operators as op
use Rattle.rw_types.specs.declared.instrs.Instr as i
use Rattle.rw_types.specs.declared.numbers.NumName.{NumName}
use Rattle.rw_types.specs.declared.numbers.NumName.TheVariants as num
use Rattle.rw_types.specs.declared.types.Arg.{Arg}
use Rattle.rw_types.specs.declared.types.Binder.{Binder}
use Rattle.rw_types.specs.declared.types.FunType.{FunType}
use Rattle.rw_types.specs.declared.types.Pre.TheVariants.{Code}
use Rattle.rw_types.specs.declared.types.Qual.TheVariants.{Unr}
use Rattle.rw_types.specs.declared.types.Ty.{Of, Ty}
use Rattle.rich_types.specs.Scopes.{no_scope, scope_of, within}
use Rattle.rich_types.specs.Sizes.{list_size, size_under}
use Rattle.rich_typing.specs.declared.rules.Rule.{Rule}
use Rattle.rich_typing.specs.declared.rules.Rule.TheVariants as rule
use Rattle.rich_rules.specs.Branches.{return_row}
use Rattle.rich_rules.specs.Calls.{call_indirect_row, call_row}
use Rattle.rich_rules.specs.Forms.{first_ill_formed, is_formed}
use Rattle.rich_rules.specs.Modules.{broken_by_type, function_type_broken, global_broken, type_broken_unless}
use Rattle.rich_rules.specs.Numbers.{num_sig}
use Rattle.rich_rules.specs.Points.{Frame, GlobalType, Gives, OfFunction, OfGlobal, Outcome, Owner, Point}
use Rattle.rich_rules.specs.Raised.{instances}
use Rattle.rich_rules.specs.Table.{carried, in_function, indirect_count, note_of, param_count, rest_size, row, takes}
use Rattle.rich_rules.specs.Takers.{or_else, unr_i32, unr_i64}
use Rattle.rich_rules.specs.Variables.{local_get_row, local_set_row, local_take_row}
use Rattle.rich_rules_laws.proofs.Formed.{all_formed-true, formed-true}
use Rattle.rich_rules_inversions.specs.Cells.{Goes}
use Rattle.rich_rules_inversions.proofs.Bodies.{rows}
use Rattle.rich_rules_inversions.proofs.Takers.{stops}
use Rattle.rich_binder_laws.proofs.Told.{arguments_told}
use Rattle.rich_rules_formed.proofs.Lists.{back, front}
use Rattle.rw_program.specs.declared.linked.LinkedFunc.{LinkedFunc}
use Rattle.rw_program.specs.declared.linked.LinkedGlobal.{LinkedGlobal}
use Rattle.rw_program.specs.Linking.{global_of}
use Rattle.layout.specs.Calls.{code_results}
use Rattle.layout.specs.Frames.{taken_words}
use Rattle.lowering_rows.specs.Labels.{Label, label_height, label_index}
use Rattle.lowering_rows.specs.Surroundings.{Surroundings, first_global, global_place, global_size}
use Rattle.lowering_rows.specs.Taken.{local_size, words_under_top}
use Rattle.lowering_heights.proofs.Counted.{note_tells}
use Rattle.lowering_heights.proofs.Sizes.{size-append, size-reverse}
use Rattle.lowering_locals.specs.Fitting.{OutcomeFits}
use Rattle.lowering_locals.proofs.Rows.{row_fits}
use Rattle.lowering_rows_typed.specs.Names.{AreGlobals, HasRoom, Names}
use Rattle.lowering_names.specs.Placed.{HasFormedTypes, HasRoomAfter, IsListed, IsPlaced, IsWithoutCells, StandsIn}
use Rattle.lowering_names.specs.Laws.{NamesFollow}
use Rattle.lowering_names.proofs.Sizes.{closed_size, instances_length, instances_size, results_of_code, taken_by_code}
use Rattle.lowering_names.proofs.Notes.{beneath_is, top_is, under_are, words_are}
use Rattle.lowering_names.proofs.Places.{global_known, label_known, local_known, mapped, result_known, set_same}

first_none : {A : Type 0} (x y : Option A) → or_else x y ≡ None → x ≡ None
first_none None y e = refl
first_none (Some a) y e = cc

no_broken : (r : Rule) (o : Option Ty) → broken_by_type r o ≡ None → o ≡ None
no_broken r None e = refl
no_broken r (Some t) e = cc

-- a number instruction takes a word for each width
number_words : (n : NumName) (p : Point) → list_size (scope_of p.binders) (num_sig n).taken ≡ length (op.takes (operator_of n))
number_words num.I32Eqz p = refl
number_words _ p = refl

unless_broken : (b : Bool) (r : Rule) (t : Ty) → type_broken_unless b r t ≡ None → b ≡ true
unless_broken true r t e = refl
unless_broken false r t e = cc

formed_global : (g : LinkedGlobal) → global_broken (global_of g) ≡ None → is_formed no_scope g.ty ≡ true
formed_global g e = unless_broken (is_formed no_scope g.ty) rule.TypeForm g.ty (first_none (type_broken_unless (is_formed no_scope g.ty) rule.TypeForm g.ty) _ e)

module _ (s : Surroundings) (f : Frame) (room : ℕ) (types : HasFormedTypes s.program) (stands : StandsIn s f room) where
  module _ (C : Context) (ls : w.Labels) (labels : List Label) (p : Point) (placed : IsPlaced s f room ls labels p) (o : Outcome) (go : Goes o) (after : HasRoomAfter room p o) where
    owned : (x : Owner) (rest : Outcome) → in_function x rest ≡ o → (rest ≡ o) × (x ≡ OfFunction)
    owned OfFunction rest r = (r, refl)
    owned (OfGlobal n) rest r = stops r go

    -- what is given has room
    given_room : (given beneath : List Ty) → o ≡ Gives (given ++ beneath) None → list_size (scope_of p.binders) given + (list_size (scope_of p.binders) beneath + rest_size (scope_of p.binders) p.labels) ≤ room
    given_room given beneath e =
        let a : list_size (scope_of p.binders) (given ++ beneath) + rest_size (scope_of p.binders) p.labels ≤ room = subst (HasRoomAfter room p) e after in
        omega (arith, a, size-append (scope_of p.binders) given beneath)

    -- an operand of one word is given over all operands
    one_given : (x : i.Instr) (t : Ty) → takes f p x ≡ 0 → size_under (scope_of p.binders) t ≡ 1 → o ≡ Gives (t ∷ p.operands) None → HasRoom s (suc (note_of f p x).beneath)
    one_given x t count size e = omega (arith, given_room (t ∷ []) p.operands e, beneath_is f p x [] p.operands count refl, size, stands.scratch)

    -- what is taken has room
    taken_room : (x : i.Instr) → HasRoom s ((note_of f p x).beneath + taken_words (note_of f p x))
    taken_room x = omega (arith, note_tells f p x, placed.height, stands.scratch)

    of_print : row f p i.Print ≡ o → HasRoom s (suc (note_of f p i.Print).beneath)
    unfolding row takes
    of_print r =
        let x = rows.from_to (unr_i64 ∷ []) [] p.operands o r go in
        omega (arith, taken_room i.Print, words_are f p i.Print (unr_i64 ∷ []) x.beneath refl x.taken)

    of_number : (n : NumName) → row f p (i.Num n) ≡ o → HasRoom s ((note_of f p (i.Num n)).beneath + length (op.takes (operator_of n)))
    unfolding row takes
    of_number n r =
        let x = rows.from_to (num_sig n).taken ((num_sig n).given ∷ []) p.operands o r go in
        omega (arith, taken_room (i.Num n), words_are f p (i.Num n) (num_sig n).taken x.beneath refl x.taken, number_words n p)

    of_coderef : (n : ℕ) → row f p (i.Coderef n) ≡ o → HasRoom s (suc (note_of f p (i.Coderef n)).beneath)
    unfolding row takes
    of_coderef n r =
        let x = rows.coderef f (scope_of p.binders) n p.operands o r go in
        one_given (i.Coderef n) (Of Unr (Code x.function)) refl refl x.given

    -- the words of a branch
    branch_room : (k words : ℕ) (l : _) → slice_get p.labels k ≡ Some l → words + rest_size (scope_of p.binders) p.labels ≤ room → HasRoom s (label_height labels k + words) × (slice_get ls (label_index labels k) ≡ Some None)
    branch_room k words l e h =
        let x = label_known (scope_of p.binders) p.labels labels ls k l placed.lowered e in
        (omega (arith, x.0, h, stands.scratch), x.1)

    of_br : (k : ℕ) → row f p (i.Br k) ≡ o → Names s C ls labels (i.Br k) (note_of f p (i.Br k))
    unfolding row takes
    of_br k r =
        let x = rows.br p k o r go in
        let c = scope_of p.binders in
        let count = ap carried x.found in
        let words = words_are f p (i.Br k) x.label.types x.beneath count x.taken in
        let all = ap (λ (ts : List Ty). list_size c ts) x.taken in
        (taken_room (i.Br k), branch_room k (taken_words (note_of f p (i.Br k))) x.label x.found (omega (arith, words, all, size-append c x.label.types x.beneath, placed.height)))

    of_br_if : (k : ℕ) → row f p (i.BrIf k) ≡ o → Names s C ls labels (i.BrIf k) (note_of f p (i.BrIf k))
    unfolding row takes
    of_br_if k r =
        let x = rows.br_if p k o r go in
        let c = scope_of p.binders in
        let carries = ap carried x.found in
        let count : takes f p (i.BrIf k) ≡ suc (length x.label.types) = omega (arith, carries) in
        let under = under_are f p (i.BrIf k) unr_i32 x.label.types x.beneath count x.taken in
        let words = words_are f p (i.BrIf k) (unr_i32 ∷ x.label.types) x.beneath count x.taken in
        let all = ap (λ (ts : List Ty). list_size c ts) x.taken in (
          omega (arith, taken_room (i.BrIf k), under, words),
          branch_room k (words_under_top (note_of f p (i.BrIf k))) x.label x.found (omega (arith, under, all, size-append c x.label.types x.beneath, placed.height)),
        )

    of_return : (f.owner ≡ OfFunction → C.result ≡ None) → row f p i.Return ≡ o → Names s C ls labels i.Return (note_of f p i.Return)
    unfolding row takes
    of_return result r =
        let y = owned f.owner (return_row p) r in
        let x = rows.returns p o y.0 go in
        let words = words_are f p i.Return p.results x.beneath refl x.taken in
        (taken_room i.Return, omega (arith, words, placed.results), result y.1)

    of_local_get : (n : ℕ) → row f p (i.LocalGet n) ≡ o → Names s C ls labels (i.LocalGet n) (note_of f p (i.LocalGet n))
    unfolding row takes
    of_local_get n r =
        let c = scope_of p.binders in
        let x = rows.local_get c p.locals n p.operands o (owned f.owner (local_get_row c p.locals n p.operands) r).0 go in
        let size : local_size c (note_of f p (i.LocalGet n)).local ≡ size_under c x.value = ap (λ (t : Option Ty). local_size c t) x.found in (
          omega (arith, size, given_room (x.value ∷ []) p.operands x.given, beneath_is f p (i.LocalGet n) [] p.operands refl refl, stands.scratch),
          omega (arith, size, local_known s f room c p.locals n x.value stands placed.locals x.found),
        )

    of_local_take : (n : ℕ) → row f p (i.LocalTake n) ≡ o → Names s C ls labels (i.LocalTake n) (note_of f p (i.LocalTake n))
    unfolding row takes
    of_local_take n r =
        let c = scope_of p.binders in
        let x = rows.local_take c p.locals n p.operands o (owned f.owner (local_take_row c p.locals n p.operands) r).0 go in
        let size : local_size c (note_of f p (i.LocalTake n)).local ≡ size_under c x.value = ap (λ (t : Option Ty). local_size c t) x.found in
        let a : size_under c x.value + list_size c p.operands + rest_size c p.labels ≤ room = subst (HasRoomAfter room p) x.given after in (
          omega (arith, size, a, beneath_is f p (i.LocalTake n) [] p.operands refl refl, stands.scratch),
          omega (arith, size, local_known s f room c p.locals n x.value stands placed.locals x.found),
        )

    of_local_set : (n : ℕ) → row f p (i.LocalSet n) ≡ o → Names s C ls labels (i.LocalSet n) (note_of f p (i.LocalSet n))
    unfolding row takes
    of_local_set n r =
        let c = scope_of p.binders in
        let x = rows.local_set c f.slots p.locals n p.operands o (owned f.owner (local_set_row c f.slots p.locals n p.operands) r).0 go in
        let words = words_are f p (i.LocalSet n) (x.value ∷ []) x.beneath refl x.taken in
        let fits = subst (OutcomeFits f.slots p) (r ∙ x.given) (row_fits f p placed.formed placed.locals (i.LocalSet n)) in
        (taken_room (i.LocalSet n), omega (arith, words, local_known s f room c _ n x.value stands fits (set_same p.locals n x.value x.before x.found)))

    -- a global of the frame is one of the program, with its words in every scope
    global_found : (n : ℕ) (v : GlobalType) → slice_get f.globals n ≡ Some v → (global_size s n ≡ size_under (scope_of p.binders) v.ty) × AreGlobals s (global_place s n) (global_size s n)
    global_found n v e =
        let c = scope_of p.binders in
        let g = mapped (λ (g : LinkedGlobal). record { mutable = g.mutable; ty = g.ty }) s.program.globals n v (ap (λ (l : List GlobalType). slice_get l n) (sym stands.globals) ∙ e) in
        let known = global_known (first_global s.program) s.program.globals n g.0 g.1 in
        let formed = formed-true no_scope g.0.ty (formed_global g.0 (types.globals n g.0 g.1)) in
        let same = ap (λ (t : GlobalType). size_under c t.ty) g.2 in
        (omega (arith, known.0, closed_size c g.0.ty formed, same), omega (arith, known.1))

    of_global_get : (n : ℕ) → row f p (i.GlobalGet n) ≡ o → Names s C ls labels (i.GlobalGet n) (note_of f p (i.GlobalGet n))
    unfolding row takes
    of_global_get n r =
        let x = rows.global_get f (scope_of p.binders) n p.operands o r go in
        let g = global_found n x.variable x.found in
        (omega (arith, g.0, given_room (x.variable.ty ∷ []) p.operands x.given, beneath_is f p (i.GlobalGet n) [] p.operands refl refl, stands.scratch), g.1)

    of_global_set : (n : ℕ) → row f p (i.GlobalSet n) ≡ o → Names s C ls labels (i.GlobalSet n) (note_of f p (i.GlobalSet n))
    unfolding row takes
    of_global_set n r =
        let x = rows.global_set f n p.operands o r go in
        let g = global_found n x.variable x.found in
        let words = words_are f p (i.GlobalSet n) (x.variable.ty ∷ []) x.beneath refl x.taken in
        (taken_room (i.GlobalSet n), omega (arith, g.0, g.1, words))

    of_call : (n : ℕ) (args : List Arg) → row f p (i.Call n args) ≡ o → Names s C ls labels (i.Call n args) (note_of f p (i.Call n args))
    unfolding row takes
    of_call n args r =
        let c = scope_of p.binders in
        let x = rows.call f c n args p.operands o (owned f.owner (call_row f c n args p.operands) r).0 go in
        let g = mapped (λ (g : LinkedFunc). g.ty) s.program.funcs n x.function (ap (λ (l : List FunType). slice_get l n) (sym stands.functions) ∙ x.found) in
        let bs = x.function.binders in
        let broken = subst (λ (t : FunType). function_type_broken t ≡ None) g.2 (types.functions n g.0 g.1) in
        let formed = all_formed-true (scope_of bs) (x.function.params ++ x.function.results) (no_broken _ (first_ill_formed (scope_of bs) (x.function.params ++ x.function.results)) broken) in
        let answered = (arguments_told c bs args).0 (x.answered, x.written) in
        let params = instances_size c bs args x.function.params answered (front (scope_of bs) x.function.params x.function.results formed) in
        let results = instances_size c bs args x.function.results answered (back (scope_of bs) x.function.params x.function.results formed) in
        let taken = reverse (instances args x.function.params) in
        let given = reverse (instances args x.function.results) in
        let carries = ap param_count x.found in
        let count : takes f p (i.Call n args) ≡ length taken = omega (arith, carries, length-reverse (instances args x.function.params), instances_length args x.function.params) in
        let words = words_are f p (i.Call n args) taken x.beneath count x.taken in
        let beneath = beneath_is f p (i.Call n args) taken x.beneath count x.taken in
        let own_params = ap (λ (t : FunType). list_size (scope_of t.binders) t.params) g.2 in
        let own_results = ap (λ (t : FunType). list_size (scope_of t.binders) t.results) g.2 in
        record {
          function = g.0;
          found = g.1;
          taken = omega (arith, words, size-reverse c (instances args x.function.params), params, own_params);
          room = taken_room (i.Call n args);
          given = omega (arith, given_room given x.beneath x.given, size-reverse c (instances args x.function.results), results, own_results, beneath, stands.scratch);
          results = omega (arith, result_known s.program.funcs n g.0 g.1);
        }

    of_call_indirect : IsListed s C i.CallIndirect (note_of f p i.CallIndirect) → row f p i.CallIndirect ≡ o → Names s C ls labels i.CallIndirect (note_of f p i.CallIndirect)
    unfolding row takes
    of_call_indirect listed r =
        let c = scope_of p.binders in
        let x = rows.call_indirect p.operands o (owned f.owner (call_indirect_row p.operands) r).0 go in
        let top = Of x.qual (Code x.function) in
        let params = reverse x.function.params in
        let counted = ap indirect_count x.taken in
        let count : takes f p i.CallIndirect ≡ suc (length params) = omega (arith, counted, taken_by_code x.qual x.function (params ++ x.beneath), length-reverse x.function.params) in
        let under = under_are f p i.CallIndirect top params x.beneath count x.taken in
        let words : taken_words (note_of f p i.CallIndirect) ≡ list_size c (top ∷ params) = words_are f p i.CallIndirect (top ∷ params) x.beneath count x.taken in
        let one : list_size c (top ∷ params) ≡ 1 + list_size c params = refl in
        let beneath = beneath_is f p i.CallIndirect (top ∷ params) x.beneath count x.taken in
        let result = ap (λ (t : Ty). code_results c t) (top_is f p i.CallIndirect top params x.beneath count x.taken)
        ∙ results_of_code c x.qual x.function
        ∙ ap (λ (bs : List Binder). list_size (within bs c) x.function.results) x.unbound in (
          omega (arith, taken_room i.CallIndirect, under, words, one),
          omega (arith, given_room (reverse x.function.results) x.beneath x.given, size-reverse c x.function.results, result, beneath, stands.scratch),
          listed.0,
          listed.1,
        )

    follow : (x : i.Instr) → (f.owner ≡ OfFunction → C.result ≡ None) → row f p x ≡ o → IsListed s C x (note_of f p x) → IsWithoutCells x → Names s C ls labels x (note_of f p x)
    unfolding row takes
    follow i.Print result r listed h = of_print r
    follow (i.I32Const n) result r listed h = one_given (i.I32Const n) unr_i32 refl refl (sym r)
    follow (i.I64Const n) result r listed h = one_given (i.I64Const n) unr_i64 refl refl (sym r)
    follow (i.Num n) result r listed h = of_number n r
    follow (i.Br k) result r listed h = of_br k r
    follow (i.BrIf k) result r listed h = of_br_if k r
    follow i.Return result r listed h = of_return result r
    follow (i.LocalGet n) result r listed h = of_local_get n r
    follow (i.LocalTake n) result r listed h = of_local_take n r
    follow (i.LocalSet n) result r listed h = of_local_set n r
    follow (i.GlobalGet n) result r listed h = of_global_get n r
    follow (i.GlobalSet n) result r listed h = of_global_set n r
    follow (i.Coderef n) result r listed h = of_coderef n r
    follow (i.Call n args) result r listed h = of_call n args r
    follow i.CallIndirect result r listed h = of_call_indirect listed r
    follow (i.StructMalloc m sizes) result r listed h = absurd h
    follow i.StructFree result r listed h = absurd h
    follow (i.StructGet k) result r listed h = absurd h
    follow (i.StructSet k) result r listed h = absurd h
    follow (i.StructSwap k) result r listed h = absurd h
    follow (i.VariantMalloc m k cases) result r listed h = absurd h
    follow (i.ArrayMalloc m) result r listed h = absurd h
    follow i.ArrayGet result r listed h = absurd h
    follow i.ArraySet result r listed h = absurd h
    follow i.ArrayLen result r listed h = absurd h
    follow i.ArrayFree result r listed h = absurd h
    follow (i.ExistPack m q size t body) result r listed h = absurd h
    follow _ result r listed h = tt

pub names_follow : NamesFollow
names_follow s f room C ls labels p x o types stands result placed r go after listed h = follow s f room types stands C ls labels p placed o go after x result r listed h
