-- The bodies of a module: a function has one body, under one context, and each has a type where the fields break no rule.
use Rattle.std.proofs.Common.{◌≡◌, ◌∙◌, ℕ, ◌+◌, ◌<◌, Bool, true, false, List, [], ◌∷◌, ◌++◌, Option, Some, None, length, get_or, refl, sym, ap, subst, suc, zero, arith, slice_get, below_more}
use Rattle.std.proofs.Math.ListN.{get_or-append}
use Rattle.std.proofs.Math.Seq.{get_or-append_seam}
use Rattle.std.proofs.lemmas.Bool.{ltb-true}
use Rattle.std.specs.Prelude.{Err}
use Rattle.wasm_ast.specs.declared.types.FuncType.{FuncType}
use Rattle.wasm_ast.specs.declared.types.ValTy.{ValTy}
use Rattle.wasm_ast.specs.declared.modules.Code.{Code}
use Rattle.wasm_ast.specs.declared.modules.WModule.{WModule}
use Rattle.wasm_typing.specs.declared.rule.WRule.{WRule}
use Rattle.wasm_typing.specs.declared.rule.WRule.TheVariants.{TypeIndex}
use Rattle.wasm_typing.specs.declared.context.Context.{Context}
use Rattle.wasm_typing.specs.Contexts.{body_context, context_of, declared_locals, imported_globals, imported_memories, imported_tables}
use Rattle.wasm_typing.specs.Fields.{breaks_unless, element_rule, export_rule, function_rule, global_rule, import_rule, is_index, memory_rule, segment_rule, start_rule, table_rule}
use Rattle.wasm_typing.specs.Heights.{height_of}
use Rattle.wasm_typing.specs.Modules.{BodiesAreTypedBefore, Fault, HasBody, earliest, fault_before_codes, fault_behind_codes, first_alone, first_fault, first_fault_behind, start_entries, function_imports, before_codes, behind_codes, in_code}
use Rattle.wasm_typing.specs.Points.{IsHeight}
use Rattle.wasm_typing.specs.Typing.{IsTypedBody}
use Rattle.wasm_typing.specs.Violations.{IsFirstViolation}
use Rattle.wasm_typing_laws.specs.Laws.{HeightIsTheGreatest}
use Rattle.wasm_module_checking.specs.Answers.{IsChecked, IsContextOf, TellsBody, TellsFirst, TellsOutside}
use Rattle.wasm_module_checking.specs.declared.error.ValidateError.{ValidateError}
use Rattle.wasm_module_checking.specs.declared.error.ValidateError.TheVariants.{Invalid, Memory}
use Rattle.wasm_module_checking.specs.Heights.{HasHeight}
use Rattle.wasm_module_checking.specs.Places.{HasType, IsInvalidAt}

some_is : {A : Type 0} {a b : A} → Some a ≡ Some b → a ≡ b
some_is e = cc

abbrev pub of_rule : Option WRule → ℕ → Option Fault → Option Fault
of_rule (Some rule) at rest = Some (record { at = at; rule = rule })
of_rule None at rest = rest

rule_none : (o : Option WRule) (at : ℕ) (rest : Option Fault) → of_rule o at rest ≡ None → (o ≡ None) × (rest ≡ None)
rule_none (Some rule) at rest e = absurd (cc)
rule_none None at rest e = (refl, e)

on_rule : {A : Type 0} (rule_of : A → Option WRule) (before : List A) (x : A) (xs : List A) → first_fault_behind (λ b y. rule_of y) before (x ∷ xs) ≡ of_rule (rule_of x) (length before) (first_fault_behind (λ b y. rule_of y) (before ++ x ∷ []) xs)
on_rule rule_of before x xs = go (rule_of x) (length before) (first_fault_behind (λ b y. rule_of y) (before ++ x ∷ []) xs)
  where
    go : (o : Option WRule) (at : ℕ) (rest : Option Fault) → elim o as (λ p. Option Fault) [ Some rule ↦ Some (record { at = at; rule = rule }) | None ↦ rest ] ≡ of_rule o at rest
    go (Some rule) at rest = refl
    go None at rest = refl

keeps_each : (rule_of : ℕ → Option WRule) (before xs : List ℕ) (i n : ℕ) → first_fault_behind (λ b y. rule_of y) before xs ≡ None → slice_get xs i ≡ Some n → rule_of n ≡ None
keeps_each rule_of before [] i n e h = absurd (cc)
keeps_each rule_of before (x ∷ xs) zero n e h = ap rule_of (sym (some_is h)) ∙ (rule_none (rule_of x) (length before) _ (sym (on_rule rule_of before x xs) ∙ e)).0
keeps_each rule_of before (x ∷ xs) (suc i) n e h = keeps_each rule_of (before ++ x ∷ []) xs i n (rule_none (rule_of x) (length before) _ (sym (on_rule rule_of before x xs) ∙ e)).1 h

first_none : (o : Option Fault) (os : List (Option Fault)) → earliest (o ∷ os) ≡ None → (o ≡ None) × (earliest os ≡ None)
first_none (Some f) os e = absurd (cc)
first_none None os e = (refl, e)

second : (o p : Option Fault) (os : List (Option Fault)) → earliest (o ∷ p ∷ os) ≡ None → p ≡ None
second o p os e = (first_none p os (first_none o (p ∷ os) e).1).0

functions_kept : (m : WModule) → fault_before_codes m ≡ None → first_alone (function_rule (context_of m)) m.funcs ≡ None
functions_kept m e = second (first_fault (import_rule m.types) m.imports) (first_alone (function_rule (context_of m)) m.funcs) (
    first_fault (λ before l. table_rule (imported_tables m.imports + length before) l) m.tables
    ∷ first_fault (λ before l. memory_rule (imported_memories m.imports + length before) l) m.memories
    ∷ first_alone (global_rule (imported_globals m.imports)) m.globals
    ∷ first_fault (export_rule (context_of m)) m.exports
    ∷ first_alone (start_rule (context_of m)) (start_entries m.start)
    ∷ first_alone (element_rule (context_of m)) m.elements
    ∷ []) e

kept_below : (b : Bool) → breaks_unless b TypeIndex ≡ None → b ≡ true
kept_below true e = refl
kept_below false e = absurd (cc)

pub index_below : (m : WModule) (k n : ℕ) → fault_before_codes m ≡ None → slice_get m.funcs k ≡ Some n → n < length m.types
index_below m k n e h = ltb-true n (length m.types) (kept_below (is_index n m.types) (keeps_each (function_rule (context_of m)) [] m.funcs k n (functions_kept m e) h))

pub found : {A : Type 0} (xs : List A) (i : ℕ) (d x : A) → i < length xs → x ≡ get_or xs i d → slice_get xs i ≡ Some x
found [] i d x lt e = absurd (omega arith)
found (y ∷ xs) zero d x lt e = ap (λ (z : _). Some z) (sym e)
found (y ∷ xs) (suc i) d x lt e = let le : i < length xs = omega arith in found xs i d x le e

module _ (m : WModule) (k : ℕ) where
  one_context : {C C' : Context} {code code' : Code} → HasBody m k C code → HasBody m k C' code' → C ≡ C'
  one_context {C} {C'} {code} {code'} a b =
      let index : a.type_index ≡ b.type_index = some_is (sym a.listed ∙ b.listed) in
      let ty : a.ty ≡ b.ty = some_is (sym a.typed ∙ ap (slice_get m.types) index ∙ b.typed) in
      let same : code ≡ code' = some_is (sym a.there ∙ b.there) in
      a.context ∙ ap (λ (f : FuncType). body_context (context_of m) f code) ty ∙ ap (body_context (context_of m) b.ty) same ∙ sym b.context

  one_code : {C C' : Context} {code code' : Code} → HasBody m k C code → HasBody m k C' code' → code ≡ code'
  one_code a b = some_is (sym a.there ∙ b.there)

  pub checked : (C : Context) (code : Code) (h : ℕ) → HeightIsTheGreatest → HasBody m k C code → IsTypedBody C code.body → h ≡ height_of C code.body → IsChecked m k h
  checked C code h law body typed is = record {
    typed = λ C' code' other. subst (λ (x : Context). IsTypedBody x code'.body) (one_context body other) (subst (λ (y : Code). IsTypedBody C y.body) (one_code body other) typed);
    height = record { C = C; code = code; body = body; is = is; greatest = subst (λ (n : ℕ). IsHeight C code.body n) (sym is) (law C code.body typed) };
  }

  pub body_there : (c : Context) (f : FuncType) (code : Code) (locals : List ValTy) → IsContextOf c (context_of m) → HasType m k f → slice_get m.codes k ≡ Some code → locals ≡ f.params ++ declared_locals code.locals → HasBody m k (record c { locals = locals; result = f.result }) code
  body_there c f code locals e t there el = record {
    type_index = t.index;
    ty = f;
    listed = t.listed;
    typed = t.typed;
    there = there;
    context = ap (λ (x : Context). record x { locals = locals; result = f.result }) e ∙ ap (λ (ls : List ValTy). record (context_of m) { locals = ls; result = f.result }) el;
  }

  pub refused_code : (C : Context) (code : Code) (func at : ℕ) (rule : WRule) (e : ValidateError) {at' : ℕ} {rule' : WRule} → HasBody m k C code → IsFirstViolation C code.body at rule → func ≡ function_imports m + k → at' ≡ at → rule' ≡ rule → IsInvalidAt func at' rule' e → TellsBody m k e
  refused_code C code func at rule (Invalid f a r) body v number ea er t = record {
    C = C;
    code = code;
    body = body;
    violation = subst (λ (x : WRule). IsFirstViolation C code.body a x) (sym (t.2 ∙ er)) (subst (λ (n : ℕ). IsFirstViolation C code.body n rule) (sym (t.1 ∙ ea)) v);
    number = t.0 ∙ ap (λ (n : ℕ). Some n) number;
  }
  refused_code C code func at rule Memory body v number ea er t = tt

pub context_kept : (c C : Context) (locals : List ValTy) (result : Option ValTy) → IsContextOf c C → IsContextOf (record c { locals = locals; result = result }) C
context_kept c C locals result e = ap (λ (x : Context). record x { locals = locals; result = result }) e

module _ (m : WModule) where
  pub bodies_none : BodiesAreTypedBefore m 0
  bodies_none k C code lt = absurd (omega arith)

  pub bodies_more : (i : ℕ) {h : ℕ} → BodiesAreTypedBefore m i → IsChecked m i h → BodiesAreTypedBefore m (i + 1)
  bodies_more i before now k C code lt body = below_more (λ j. (D : Context) (d : Code) → HasBody m j D d → IsTypedBody D d.body) i (λ j l D d b. before j D d l b) now.typed k lt C code body

  pub heights_more : (i : ℕ) (hs : List ℕ) (h : ℕ) → length hs ≡ i → ((k : ℕ) → k < i → HasHeight m k (get_or hs k 0)) → HasHeight m i h → (k : ℕ) → k < i + 1 → HasHeight m k (get_or (hs ++ h ∷ []) k 0)
  heights_more i hs h len each now =
      below_more (λ k. HasHeight m k (get_or (hs ++ h ∷ []) k 0)) i
      (λ k lt. let low : k < length hs = omega arith in subst (λ (n : ℕ). HasHeight m k n) (sym (get_or-append hs (h ∷ []) 0 k low)) (each k lt))
      (subst (λ (n : ℕ). HasHeight m i n) (sym (ap (λ (j : ℕ). get_or (hs ++ h ∷ []) j 0) (sym len) ∙ get_or-append_seam hs h [] 0)) now)

  pub refused_there : (i : ℕ) (e : ValidateError) → fault_before_codes m ≡ None → BodiesAreTypedBefore m i → TellsBody m i e → TellsFirst m e
  refused_there i (Invalid func at rule) fields before b = in_code i b.C b.code fields before b.body b.violation b.number
  refused_there i Memory fields before b = tt

  pub fields_told : (e : ValidateError) → TellsOutside (fault_before_codes m) (Err e) → TellsFirst m e
  fields_told (Invalid None at rule) t = before_codes (record { at = at; rule = rule }) t refl
  fields_told (Invalid (Some f) at rule) t = absurd t
  fields_told Memory t = tt

  pub same_segments : (c : Context) → IsContextOf c (context_of m) → first_alone (segment_rule c) m.segments ≡ fault_behind_codes m
  same_segments c e = ap (λ (x : Context). first_alone (segment_rule x) m.segments) e

  pub segments_told : (c : Context) (e : ValidateError) → IsContextOf c (context_of m) → fault_before_codes m ≡ None → BodiesAreTypedBefore m (length m.codes) → TellsOutside (first_alone (segment_rule c) m.segments) (Err e) → TellsFirst m e
  segments_told c (Invalid None at rule) same fields bodies t = behind_codes (record { at = at; rule = rule }) fields bodies (sym (same_segments c same) ∙ t) refl
  segments_told c (Invalid (Some f) at rule) same fields bodies t = absurd t
  segments_told c Memory same fields bodies t = tt
