-- The codes of a lowered module are typed.
use Rattle.std.proofs.Common.{◌≡◌, ◌≤◌, ◌∙◌, ℕ, zero, suc, ◌+◌, List, [], ◌∷◌, ◌++◌, Some, length, map, ◌⊎◌, inl, inr, refl, ap, sym, subst, arith}
use Rattle.std.specs.Prelude.{slice_get}
use Rattle.wasm_ast.specs.declared.types.FuncType.{FuncType}
use Rattle.wasm_ast.specs.declared.modules.Code.{Code}
use Rattle.wasm_typing.specs.declared.context.Context.{Context}
use Rattle.wasm_typing.specs.Contexts.{body_context, context_of}
use Rattle.wasm_typing.specs.Modules.{BodiesAreTypedBefore, HasBody}
use Rattle.wasm_typing.specs.Typing.{IsTypedBody}
use Rattle.rw_types.specs.declared.instrs.Instr.{CallIndirect, Instr}
use Rattle.rich_typing.specs.declared.notes.Note.{Note}
use Rattle.rich_rules.specs.Calls.{call_indirect_row}
use Rattle.rich_rules.specs.Derivations.{Derives, DerivesArms, Follows, arm, at_end, ends, enters, goes_on, no_arm, step}
use Rattle.rich_rules.specs.Points.{Demand, Ends, Enters, Entry, Frame, Gives, OfFunction, OfGlobal, Outcome, Owner, Point}
use Rattle.rich_rules.specs.Table.{arms_of, in_function, note_of, row}
use Rattle.rich_rules_inversions.specs.Cells.{Goes}
use Rattle.rich_rules_inversions.proofs.Takers.{stops}
use Rattle.rw_program.specs.declared.linked.LinkedFunc.{LinkedFunc}
use Rattle.rw_program.specs.declared.linked.LinkedGlobal.{LinkedGlobal}
use Rattle.rw_program.specs.Programs.{Program}
use Rattle.rich_linking.specs.TypedPrograms.{AreTypedGlobals, IsTypedProgram, linked_frame, types_of_functions, types_of_globals}
use Rattle.layout.specs.Bodies.{nested, text_order}
use Rattle.layout.specs.Calls.{greatest_indirect, indirect_results}
use Rattle.layout.specs.Limits.{greatest_result}
use Rattle.lowering_table.specs.declared.Pages.{Pages}
use Rattle.lowering_table.specs.Allocators.{Allocators}
use Rattle.lowering_table.specs.TypeUses.{type_index}
use Rattle.lowering_table.specs.Types.{alloc_type, start_type}
use Rattle.lowering_rows.specs.Surroundings.{Places, Surroundings, in_function as of_function, in_initialiser}
use Rattle.lowering_rows.specs.Functions.{function_code, start_code}
use Rattle.lowering_heights.proofs.Counted.{counted, counted_arms, nested_texts, texts}
use Rattle.lowering_heights.proofs.Ends.{no_lists}
use Rattle.lowering_rows_typed.specs.Contexts.{taking_words}
use Rattle.lowering_names.specs.Placed.{HasFormedTypes, IsListed}
use Rattle.lowering_bodies_typed.specs.Allowed.{AreAllowed, AreInitialisersAllowed}
use Rattle.lowering_bodies_typed.proofs.Bodies.{functions_typed, starts_typed}
use Rattle.lowering_modules.specs.Types.{called_type, called_types, function_type, index_of_words, module_types}
use Rattle.lowering_modules.specs.Laws.{AreListed, AreTypedAllocators, AreWithoutCells, HasBodiesWithoutCells}
use Rattle.lowering_modules.proofs.Contexts.{M, function_context, start_context}
use Rattle.lowering_modules.proofs.Types.{Stands, alloc_stands, call_stands, early, function_stands, later, map_found, print_stands, start_stands}

pub same_some : {A : Type 0} (x y : A) → Some x ≡ Some y → x ≡ y
same_some x y e = cc

-- calls of instructions that follow each other
called_parted : (xs ys : List Instr) (ns ms : List Note) → length ns ≡ length xs → called_types (xs ++ ys) (ns ++ ms) ≡ called_types xs ns ++ called_types ys ms
called_parted [] ys [] ms e = refl
called_parted [] ys (n ∷ ns) ms e = absurd (omega (arith, e))
called_parted (x ∷ xs) ys [] ms e = absurd (omega (arith, e))
called_parted (x ∷ xs) ys (n ∷ ns) ms e =
    ap (λ (l : List FuncType). called_type x n ++ l) (called_parted xs ys ns ms (omega (arith, e))) ∙ again (called_type x n) (called_types xs ns) (called_types ys ms)
  where
    again : (a b c : List FuncType) → a ++ (b ++ c) ≡ (a ++ b) ++ c
    again [] b c = refl
    again (z ∷ a) b c = ap (λ (l : List FuncType). z ∷ l) (again a b c)

-- an initialiser calls through no type
module _ (f : Frame) (n : ℕ) (owner : f.owner ≡ OfGlobal n) where
  owned : {A : Type 0} (x : Owner) (rest o : Outcome) → x ≡ OfGlobal n → Goes o → in_function x rest ≡ o → A
  owned OfFunction rest o e go r = cc
  owned (OfGlobal m) rest o e go r = stops r go

  not_called : (p : Point) (i : Instr) (o : Outcome) (note : Note) → Goes o → row f p i ≡ o → called_type i note ≡ []
  unfolding row
  not_called p CallIndirect o note go r = owned f.owner (call_indirect_row p.operands) o owner go r
  not_called p _ o note go r = refl

  mutual
    none_called : {d : Demand} {p : Point} (is : List Instr) {notes : List Note} → Derives f d p is notes → called_types (text_order is) notes ≡ []
    none_called [] (at_end e nn) = refl
    none_called {p = p} (i ∷ is) (step o later r nn x) = ap (λ (l : List Note). called_types (text_order (i ∷ is)) l) nn ∙ after_step i is r x

    after_step : {d : Demand} {p : Point} (i : Instr) (is : List Instr) {o : Outcome} {later : List Note} → row f p i ≡ o → Follows f d p i is o later → called_types (text_order (i ∷ is)) (note_of f p i ∷ later) ≡ []
    after_step {p = p} i is r (ends e nn) =
        ap (λ (l : List Note). called_type i (note_of f p i) ++ called_types (nested i ++ text_order is) l) nn
        ∙ ap (λ (l : List FuncType). l ++ called_types (nested i ++ text_order is) []) (not_called p i Ends (note_of f p i) tt r)
        ∙ no_notes (nested i ++ text_order is)
      where
        no_notes : (xs : List Instr) → called_types xs [] ≡ []
        no_notes [] = refl
        no_notes (x ∷ xs) = refl
    after_step {p = p} i is {later = later} r (goes_on {operands = operands} {change = change} x) =
        ap (λ (l : List Instr). called_type i (note_of f p i) ++ called_types (l ++ text_order is) later) (no_lists (Gives operands change) tt f p i r tt)
        ∙ ap (λ (l : List FuncType). l ++ called_types (text_order is) later) (not_called p i (Gives operands change) (note_of f p i) tt r)
        ∙ none_called is x
    after_step {p = p} i is r (enters {e = e} inner outer nn arms x) =
        let lists = ap (λ (l : List Instr). length l) (nested_texts i) in
        let count : length inner ≡ length (nested i) = omega (arith, counted_arms f (arms_of i) arms, lists) in
        ap (λ (l : List Note). called_type i (note_of f p i) ++ called_types (nested i ++ text_order is) l) nn
        ∙ ap (λ (l : List FuncType). l ++ called_types (nested i ++ text_order is) (inner ++ outer)) (not_called p i (Enters e) (note_of f p i) tt r)
        ∙ called_parted (nested i) (text_order is) inner outer count
        ∙ ap (λ (l : List Instr). called_types l inner ++ called_types (text_order is) outer) (nested_texts i)
        ∙ ap (λ (l : List FuncType). l ++ called_types (text_order is) outer) (in_arms (arms_of i) arms)
        ∙ none_called is x

    in_arms : {e : Entry} {j : ℕ} (arms : List (List Instr)) {notes : List Note} → DerivesArms f e j arms notes → called_types (texts arms) notes ≡ []
    in_arms [] (no_arm nn) = refl
    in_arms (is ∷ arms) (arm inner outer nn x xs) =
        ap (λ (l : List Note). called_types (texts (is ∷ arms)) l) nn
        ∙ called_parted (text_order is) (texts arms) inner outer (counted f is x)
        ∙ ap (λ (l : List FuncType). l ++ called_types (texts arms) outer) (none_called is x)
        ∙ in_arms arms xs

both_none : (xs ys : List FuncType) → xs ++ ys ≡ [] → (xs ≡ []) × (ys ≡ [])
both_none [] ys e = (refl, e)
both_none (x ∷ xs) ys e = cc

-- what calls through types give in a function's body is no more than the greatest
call_known : (fs : List LinkedFunc) (n : ℕ) (f : LinkedFunc) → slice_get fs n ≡ Some f → greatest_indirect (text_order f.body) f.notes ≤ greatest_result fs
call_known [] n f e = cc
call_known (g ∷ fs) zero f e = let same : g ≡ f = cc in omega (arith, ap (λ (h : LinkedFunc). greatest_indirect (text_order h.body) h.notes) same)
call_known (g ∷ fs) (suc n) f e = omega (arith, call_known fs n f e)

module _ (codes_of : Allocators) (p : Program) (pages : Pages) where
  -- in surroundings of the program
  abbrev around : Places → Surroundings
  around places = record { program = p; type_of = index_of_words p; places = places }

  module _ (ty : FuncType) (code : Code) (places : Places) where
    abbrev C : Context
    C = body_context (context_of (M codes_of p pages)) ty code

    -- of each call through a type, where it stands among those that are listed and gives no more than the greatest
    listed : (i : Instr) (note : Note) → ((k : ℕ) (t : FuncType) → slice_get (called_type i note) k ≡ Some t → Stands p t) → indirect_results i note ≤ greatest_result p.funcs → IsListed (around places) C i note
    listed CallIndirect note all h = (omega (arith, h), all 0 _ refl)
    listed _ note all h = tt

    all_listed : (is : List Instr) (notes : List Note) → ((k : ℕ) (t : FuncType) → slice_get (called_types is notes) k ≡ Some t → Stands p t) → greatest_indirect is notes ≤ greatest_result p.funcs → AreListed (around places) C is notes
    all_listed [] notes all h = tt
    all_listed (i ∷ is) [] all h = tt
    all_listed (i ∷ is) (note ∷ notes) all h = (
      listed i note (λ k t e. all k t (early (called_type i note) (called_types is notes) k t e)) (omega (arith, h)),
      all_listed is notes (λ k t e. all (length (called_type i note) + k) t (later (called_type i note) (called_types is notes) k ∙ e)) (omega (arith, h)),
    )

    -- where nothing is called through a type
    not_listed : (i : Instr) (note : Note) → called_type i note ≡ [] → IsListed (around places) C i note
    not_listed CallIndirect note e = cc
    not_listed _ note e = tt

    none_listed : (is : List Instr) (notes : List Note) → called_types is notes ≡ [] → AreListed (around places) C is notes
    none_listed [] notes e = tt
    none_listed (i ∷ is) [] e = tt
    none_listed (i ∷ is) (note ∷ notes) e =
        let parts = both_none (called_type i note) (called_types is notes) e in
        (not_listed i note parts.0, none_listed is notes parts.1)

    allowed : (is : List Instr) (notes : List Note) → AreListed (around places) C is notes → AreWithoutCells is → AreAllowed (around places) C is notes
    allowed [] notes all h = tt
    allowed (i ∷ is) [] all h = tt
    allowed (i ∷ is) (note ∷ notes) all h = ((all.0, h.0), allowed is notes all.1 h.1)

  -- the body of a function, from that of its number
  by_number : (k n : ℕ) (ty : FuncType) (code : Code) → slice_get (M codes_of p pages).funcs k ≡ Some n → slice_get (M codes_of p pages).types n ≡ Some ty → slice_get (M codes_of p pages).codes k ≡ Some code →
      IsTypedBody (body_context (context_of (M codes_of p pages)) ty code) code.body → (D : Context) (code' : Code) → HasBody (M codes_of p pages) k D code' → IsTypedBody D code'.body
  by_number k n ty code listed typed there h D code' has =
      let index = same_some has.type_index n (sym has.listed ∙ listed) in
      let same_type = same_some has.ty ty (sym has.typed ∙ ap (λ (j : ℕ). slice_get (M codes_of p pages).types j) index ∙ typed) in
      let same_code = same_some code' code (sym has.there ∙ there) in
      let under : body_context (context_of (M codes_of p pages)) ty code ≡ D = sym (has.context ∙ (λ i. body_context (context_of (M codes_of p pages)) (same_type i) (same_code i))) in
      subst (λ (E : Context). IsTypedBody E code'.body) under (subst (λ (c : Code). IsTypedBody (body_context (context_of (M codes_of p pages)) ty code) c.body) (sym same_code) h)

  -- calls through types in the body of a function are listed
  pub function_listed : (n : ℕ) (g : LinkedFunc) → slice_get p.funcs n ≡ Some g →
      AreListed (of_function p (index_of_words p) g) (body_context (context_of (M codes_of p pages)) (function_type g) (function_code p (index_of_words p) g)) (text_order g.body) g.notes
  function_listed n g e =
      let s = of_function p (index_of_words p) g in
      all_listed (function_type g) (function_code p (index_of_words p) g) s.places (text_order g.body) g.notes (λ k t there. call_stands p n k g t e there) (call_known p.funcs n g e)

  -- what stands behind the linked functions is the exported main alone
  pub tail_cases : {A : Type 0} (h : LinkedFunc → A) (fs : List LinkedFunc) (z y : A) (n : ℕ) → slice_get (map h fs ++ z ∷ []) n ≡ Some y → ((g : LinkedFunc) × (slice_get fs n ≡ Some g)) ⊎ (n ≡ length fs)
  tail_cases h [] z y zero e = inr refl
  tail_cases h [] z y (suc n) e = cc
  tail_cases h (f ∷ fs) z y zero e = inl (f, refl)
  tail_cases h (f ∷ fs) z y (suc n) e = elim (tail_cases h fs z y n e) [ inl g ↦ inl g | inr m ↦ inr (ap suc m) ]

  pub in_front : {A : Type 0} (h : LinkedFunc → A) (fs : List LinkedFunc) (z : A) (n : ℕ) (g : LinkedFunc) → slice_get fs n ≡ Some g → slice_get (map h fs ++ z ∷ []) n ≡ Some (h g)
  in_front h fs z n g e = early (map h fs) (z ∷ []) n (h g) (map_found h fs n g e)

  pub at_last : {A : Type 0} (h : LinkedFunc → A) (fs : List LinkedFunc) (z : A) → slice_get (map h fs ++ z ∷ []) (length fs) ≡ Some z
  at_last h [] z = refl
  at_last h (f ∷ fs) z = at_last h fs z

  module _ (typed : IsTypedProgram p) (types : HasFormedTypes p) (bodies : HasBodiesWithoutCells p) (allocators : AreTypedAllocators (context_of (M codes_of p pages)) codes_of) where
    function_body_typed : (n : ℕ) (g : LinkedFunc) → slice_get p.funcs n ≡ Some g →
        IsTypedBody (body_context (context_of (M codes_of p pages)) (function_type g) (function_code p (index_of_words p) g)) (function_code p (index_of_words p) g).body
    function_body_typed n g e =
        let code = function_code p (index_of_words p) g in
        let s = of_function p (index_of_words p) g in
        functions_typed p (index_of_words p) n g (body_context (context_of (M codes_of p pages)) (function_type g) code) typed types e (function_context codes_of p pages g) refl
        (allowed (function_type g) code s.places (text_order g.body) g.notes (function_listed n g e) (bodies.functions n g e))

    initialisers_allowed : (gs : List LinkedGlobal) (n : ℕ) → AreTypedGlobals (types_of_functions p.funcs) (types_of_globals p.globals) n gs → ((m : ℕ) (g : LinkedGlobal) → slice_get gs m ≡ Some g → AreWithoutCells (text_order g.body)) →
        AreInitialisersAllowed (in_initialiser p (index_of_words p)) (body_context (context_of (M codes_of p pages)) start_type (start_code p (index_of_words p))) gs
    initialisers_allowed [] n x h = tt
    initialisers_allowed (g ∷ gs) n x h =
        let s = in_initialiser p (index_of_words p) in
        let code = start_code p (index_of_words p) in
        let frame = linked_frame (types_of_functions p.funcs) (types_of_globals p.globals) [] (OfGlobal n) in
        let none = none_called frame n refl g.body x.0 in (
          allowed start_type code s.places (text_order g.body) g.notes (none_listed start_type code s.places (text_order g.body) g.notes none) (h 0 g refl),
          initialisers_allowed gs (suc n) x.1 (λ m k e. h (suc m) k e),
        )

    start_body_typed : IsTypedBody (body_context (context_of (M codes_of p pages)) start_type (start_code p (index_of_words p))) (start_code p (index_of_words p)).body
    start_body_typed =
        starts_typed p (index_of_words p) (body_context (context_of (M codes_of p pages)) start_type (start_code p (index_of_words p))) typed types (start_context codes_of p pages) refl
        (initialisers_allowed p.globals 0 typed.globals (λ m g e. bodies.globals m g e))

    pub codes_typed : BodiesAreTypedBefore (M codes_of p pages) (length (M codes_of p pages).codes)
    codes_typed zero D code within has = by_number 0 (type_index alloc_type (module_types p)) alloc_type codes_of.alloc_lin refl (alloc_stands p) refl allocators.alloc_lin D code has
    codes_typed (suc zero) D code within has = by_number 1 (type_index (taking_words 1) (module_types p)) (taking_words 1) codes_of.free_lin refl (print_stands p) refl allocators.free_lin D code has
    codes_typed (suc (suc zero)) D code within has = by_number 2 (type_index alloc_type (module_types p)) alloc_type codes_of.alloc_unr refl (alloc_stands p) refl allocators.alloc_unr D code has
    codes_typed (suc (suc (suc n))) D code within has =
        elim (tail_cases (function_code p (index_of_words p)) p.funcs (start_code p (index_of_words p)) code n has.there) [
          | inl g ↦ by_number (suc (suc (suc n))) (type_index (function_type g.0) (module_types p)) (function_type g.0) (function_code p (index_of_words p) g.0)
              (in_front (λ (f : LinkedFunc). type_index (function_type f) (module_types p)) p.funcs (type_index start_type (module_types p)) n g.0 g.1)
              (function_stands p n g.0 g.1)
              (in_front (function_code p (index_of_words p)) p.funcs (start_code p (index_of_words p)) n g.0 g.1)
              (function_body_typed n g.0 g.1) D code has
          | inr last ↦ by_number (suc (suc (suc n))) (type_index start_type (module_types p)) start_type (start_code p (index_of_words p))
              (ap (λ (k : ℕ). slice_get (map (λ (f : LinkedFunc). type_index (function_type f) (module_types p)) p.funcs ++ type_index start_type (module_types p) ∷ []) k) last ∙ at_last (λ (f : LinkedFunc). type_index (function_type f) (module_types p)) p.funcs (type_index start_type (module_types p)))
              (start_stands p)
              (ap (λ (k : ℕ). slice_get (map (function_code p (index_of_words p)) p.funcs ++ start_code p (index_of_words p) ∷ []) k) last ∙ at_last (function_code p (index_of_words p)) p.funcs (start_code p (index_of_words p)))
              start_body_typed D code has
        ]
