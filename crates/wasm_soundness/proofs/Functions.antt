-- The functions that steps look up are those of the module's context.
use Rattle.std.proofs.Common.{◌≡◌, ◌∙◌, ℕ, zero, suc, ◌≤◌, min, true, false, List, [], ◌∷◌, ◌++◌, length, map, slice_get, refl, sym, ap, subst, arith}
use Rattle.std.specs.Prelude.{Option, Some, None, flat_map, option_to_list, codes, ◌&&◌}
use Rattle.std.specs.Str.{bytes_eq}
use Rattle.std.proofs.lemmas.Option.{slice_get_within}
use Rattle.wasm_ast.specs.declared.types.FuncType.{FuncType}
use Rattle.wasm_ast.specs.declared.types.Limits.{Limits}
use Rattle.wasm_ast.specs.declared.types.ValTy.TheVariants.{I64}
use Rattle.wasm_ast.specs.declared.modules.Code.{Code}
use Rattle.wasm_ast.specs.declared.modules.Import.{Import}
use Rattle.wasm_ast.specs.declared.modules.ImportKind.{ImportKind}
use Rattle.wasm_ast.specs.declared.modules.ImportKind.TheVariants as import_kind
use Rattle.wasm_ast.specs.declared.modules.WModule.{WModule}
use Rattle.wasm_grammar.specs.Profile.{CodeFits, IsInProfile}
use Rattle.wasm_typing.specs.declared.context.Context.{Context}
use Rattle.wasm_typing.specs.Contexts.{context_of, body_context, function_type, imported_globals}
use Rattle.wasm_typing.specs.Contexts as contexts
use Rattle.wasm_typing.specs.Fields.{function_rule, is_index}
use Rattle.wasm_typing.specs.Modules.{IsValid}
use Rattle.wasm_typing.specs.declared.rule.WRule.TheVariants.{TypeIndex}
use Rattle.wasm_execution.specs.Types.{takes_and_gives}
use Rattle.wasm_ast.specs.SameTypes.{is_same_type}
use Rattle.wasm_execution.specs.Environments.{Environment, Function, environment_of, function_at, function_in, function_with, functions_of, imported, own_functions, most_pages_of}
use Rattle.wasm_execution.specs.Environments as environments
use Rattle.wasm_execution.specs.Imports.{is_print, prints_i64}
use Rattle.wasm_execution.specs.Starts.{first_failing}
use Rattle.wasm_machine_typing.specs.Configurations.{of_code, IsTypedCode, IsTypedEnvironment}
use Rattle.wasm_machine_typing.proofs.Calls.{and_split, same_type}
use Rattle.wasm_soundness.proofs.Faults.{all_at, alone_none, sound_fields, failing, unbroken, is_found}

-- each import is the host's print
abbrev pub ArePrints : List FuncType → List Import → Type 0
ArePrints types [] = Unit {0}
ArePrints types (i ∷ is) = ((n : ℕ) × (t : FuncType) × (i.what ≡ import_kind.Func n) × (slice_get types n ≡ Some t) × (t.result ≡ None)) × ArePrints types is

type_back : (o : Option FuncType) → elim o [ None ↦ false | Some t ↦ is_same_type t (takes_and_gives (I64 ∷ []) None) ] ≡ true → (t : FuncType) × (o ≡ Some t) × (t.result ≡ None)
type_back None e = absurd (cc)
type_back (Some t) e = (t, refl, (same_type t (takes_and_gives (I64 ∷ []) None) e).1)

kind_back : (types : List FuncType) (w : ImportKind) → prints_i64 types w ≡ true → (n : ℕ) × (t : FuncType) × (w ≡ import_kind.Func n) × (slice_get types n ≡ Some t) × (t.result ≡ None)
kind_back types (import_kind.Func n) e = let p = type_back (slice_get types n) e in (n, p.0, refl, p.1, p.2)
kind_back types (import_kind.Table l) e = absurd (cc)
kind_back types (import_kind.Memory l) e = absurd (cc)
kind_back types (import_kind.Global t mutable) e = absurd (cc)

pub are_prints : (types : List FuncType) (imports : List Import) (n : ℕ) → first_failing n (map (is_print types) imports) ≡ None → ArePrints types imports
are_prints types [] n e = tt
are_prints types (i ∷ is) n e =
    let p = failing n (is_print types i) (map (is_print types) is) e in
    let q = and_split (bytes_eq i.«module» (codes "rw")) (bytes_eq i.name (codes "print") && prints_i64 types i.what) p.0 in
    let r = and_split (bytes_eq i.name (codes "print")) (prints_i64 types i.what) q.1 in
    (kind_back types i.what r.1, are_prints types is (suc n) p.1)

pub no_imported_globals : (types : List FuncType) (imports : List Import) → ArePrints types imports → imported_globals imports ≡ []
no_imported_globals types [] h = refl
no_imported_globals types (i ∷ is) h =
    ap (λ (w : ImportKind). contexts.global_type w ++ imported_globals is) h.0.2 ∙ no_imported_globals types is h.1

module _ (C : Context) where
  -- each function has its type, and a typed code
  abbrev pub Agree : List FuncType → List (Option Function) → Type 0
  Agree [] [] = Unit {0}
  Agree [] (o ∷ os) = ⊥
  Agree (t ∷ ts) [] = ⊥
  Agree (t ∷ ts) (o ∷ os) = ((code : Option Code) × (o ≡ Some (of_code t code)) × IsTypedCode C t code) × Agree ts os

  agree_join : (ts us : List FuncType) (os ps : List (Option Function)) → Agree ts os → Agree us ps → Agree (ts ++ us) (os ++ ps)
  agree_join [] us [] ps h k = k
  agree_join [] us (o ∷ os) ps h k = absurd h
  agree_join (t ∷ ts) us [] ps h k = absurd h
  agree_join (t ∷ ts) us (o ∷ os) ps h k = (h.0, agree_join ts us os ps h.1 k)

  pub agree_found : (ts : List FuncType) (os : List (Option Function)) (n : ℕ) (ty : FuncType) → Agree ts os → slice_get ts n ≡ Some ty → (code : Option Code) × (function_in os n ≡ Some (of_code ty code))
  agree_found [] os n ty h e = absurd (cc)
  agree_found (t ∷ ts) [] n ty h e = absurd h
  agree_found (t ∷ ts) (o ∷ os) zero ty h e = let f : t ≡ ty = (cc) in (h.0.0, h.0.1 ∙ ap (λ (x : FuncType). Some (of_code x h.0.0)) f)
  agree_found (t ∷ ts) (o ∷ os) (suc n) ty h e = agree_found ts os n ty h.1 e

  agree_typed : (ts : List FuncType) (os : List (Option Function)) (n : ℕ) (f : Function) → Agree ts os → function_in os n ≡ Some f → IsTypedCode C f.ty f.code
  agree_typed [] [] n f h e = absurd (cc)
  agree_typed [] (o ∷ os) n f h e = absurd h
  agree_typed (t ∷ ts) [] n f h e = absurd h
  agree_typed (t ∷ ts) (o ∷ os) zero f h e =
      let q : ◌≡◌ {A = Option Function} (Some (of_code t h.0.0)) (Some f) = sym h.0.1 ∙ e in
      let g : of_code t h.0.0 ≡ f = (cc) in
      subst (λ (x : Function). IsTypedCode C x.ty x.code) g h.0.2
  agree_typed (t ∷ ts) (o ∷ os) (suc n) f h e = agree_typed ts os n f h.1 e

  imports_agree : (types : List FuncType) (imports : List Import) → ArePrints types imports → Agree (contexts.imported_functions types imports) (environments.imported_functions types imports)
  imports_agree types [] h = tt
  imports_agree types (i ∷ is) h =
      let rest = imports_agree types is h.1 in
      let t = h.0.1 in
      subst (λ (w : ImportKind). Agree (function_type types w ++ contexts.imported_functions types is) (imported types w ++ environments.imported_functions types is)) (sym h.0.2)
      (subst (λ (o : Option FuncType). Agree (option_to_list o ++ contexts.imported_functions types is) ((elim o [ None ↦ None | Some x ↦ Some (of_code x None) ]) ∷ environments.imported_functions types is)) (sym h.0.3)
      ((None, refl, h.0.4), rest))

  own_agree : (types : List FuncType) (ns : List ℕ) (cs : List Code) → length ns ≡ length cs → ((j n : ℕ) → slice_get ns j ≡ Some n → (t : FuncType) × (slice_get types n ≡ Some t))
      → ((j n : ℕ) (t : FuncType) (code : Code) → slice_get ns j ≡ Some n → slice_get types n ≡ Some t → slice_get cs j ≡ Some code → IsTypedCode C t (Some code))
      → Agree (flat_map (λ n. option_to_list (slice_get types n)) ns) (own_functions types ns cs)
  own_agree types [] [] l there typed = tt
  own_agree types [] (c ∷ cs) l there typed = absurd (omega (arith, l))
  own_agree types (n ∷ ns) [] l there typed = absurd (omega (arith, l))
  own_agree types (n ∷ ns) (c ∷ cs) l there typed =
      let t = there 0 n refl in
      let rest = own_agree types ns cs (omega (arith, l)) (λ j k q. there (suc j) k q) (λ j k u code q r s. typed (suc j) k u code q r s) in
      subst (λ (o : Option FuncType). Agree (option_to_list o ++ flat_map (λ k. option_to_list (slice_get types k)) ns) ((elim o [ None ↦ None | Some x ↦ Some (of_code x (Some c)) ]) ∷ own_functions types ns cs)) (sym t.1)
      ((Some c, refl, typed 0 n t.0 c refl t.1 refl), rest)

few : (ls : List Limits) → most_pages_of ls ≤ 65536
few [] = omega arith
few (l ∷ ls) = elim l.max as (λ (o : Option ℕ). (elim o [ None ↦ 1024 | Some n ↦ min n 1024 ]) ≤ 65536) [ None ↦ omega arith | Some n ↦ omega arith ]

module _ (m : WModule) (valid : IsValid m) (profile : IsInProfile m) (prints : ArePrints m.types m.imports) where
  -- the functions of the function section have types
  listed : (j n : ℕ) → slice_get m.funcs j ≡ Some n → (t : FuncType) × (slice_get m.types n ≡ Some t)
  listed j n q =
      is_found n m.types (unbroken (is_index n m.types) TypeIndex (alone_none (function_rule (context_of m)) [] m.funcs j n (sound_fields m valid.before).0 q))

  typed : (j n : ℕ) (t : FuncType) (code : Code) → slice_get m.funcs j ≡ Some n → slice_get m.types n ≡ Some t → slice_get m.codes j ≡ Some code → IsTypedCode (context_of m) t (Some code)
  typed j n t code q r s = (
    valid.codes j (body_context (context_of m) t code) code (slice_get_within m.codes j code s) (record { type_index = n; ty = t; listed = q; typed = r; there = s; context = refl }),
    (all_at CodeFits m.codes j code profile.codes.each s).body,
  )

  pub functions_agree : Agree (context_of m) (context_of m).functions (functions_of m)
  functions_agree =
      agree_join (context_of m) (contexts.imported_functions m.types m.imports) (flat_map (λ n. option_to_list (slice_get m.types n)) m.funcs) (environments.imported_functions m.types m.imports) (own_functions m.types m.funcs m.codes)
      (imports_agree (context_of m) m.types m.imports prints) (own_agree (context_of m) m.types m.funcs m.codes profile.counts listed typed)

  pub environment_typed : IsTypedEnvironment (context_of m) (environment_of m)
  environment_typed = record {
    types = refl;
    functions = λ n ty q. agree_found (context_of m) (context_of m).functions (functions_of m) n ty functions_agree q;
    codes = λ n f q. agree_typed (context_of m) (context_of m).functions (functions_of m) n f functions_agree q;
    pages = few m.memories;
  }
