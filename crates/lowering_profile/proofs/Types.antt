-- The types of a lowered module, and their indices.
use Rattle.std.proofs.Common.{◌≡◌, ◌<◌, ◌≤◌, ◌^◌, ℕ, zero, suc, ◌+◌, Bool, true, false, List, [], ◌∷◌, ◌++◌, All, length, map, replicate, refl, ap, arith, length-append}
use Rattle.std.specs.Prelude.{flat_map, if◌then◌else◌}
use Rattle.std.proofs.lemmas.List.Elements.{All-append, All-cons, All-head, All-map, All-nil, All-tail, All-weaker}
use Rattle.wasm_ast.specs.SameTypes.{is_same_type}
use Rattle.wasm_ast.specs.declared.types.FuncType.{FuncType}
use Rattle.wasm_ast.specs.declared.types.ValTy.TheVariants.{I64}
use Rattle.wasm_grammar.specs.Profile.{FuncTypeFits}
use Rattle.wasm_grammar.specs.ProfileInstructions.{IsShortListOf}
use Rattle.rw_types.specs.declared.instrs.Instr.{CallIndirect, Instr}
use Rattle.rw_types.specs.declared.types.Ty.{Ty}
use Rattle.rich_types.specs.Scopes.{Scope}
use Rattle.rich_types.specs.Sizes.{list_size}
use Rattle.rich_typing.specs.declared.notes.Note.{Note}
use Rattle.rw_program.specs.declared.linked.LinkedFunc.{LinkedFunc}
use Rattle.rw_program.specs.Programs.{Program}
use Rattle.layout.specs.Bodies.{text_order}
use Rattle.layout.specs.Frames.{end_words, greatest_height, height_of, parameter_words}
use Rattle.layout.specs.Limits.{most_words}
use Rattle.lowering_table.specs.TypeUses.{first_uses, is_among, type_index}
use Rattle.lowering_table.specs.Types.{alloc_type, start_type}
use Rattle.lowering_rows.specs.Taken.{scope_at, under_top, words_under_top}
use Rattle.lowering_rows_typed.specs.Contexts.{taking_words}
use Rattle.lowering_modules.specs.Types.{called_type, called_types, calls_of, function_type, module_types, used_types}
use Rattle.lowering_profile.specs.Laws.{instruction_count}
use Rattle.lowering_profile.proofs.Limits.{IsNarrow, KeepsLimits}

pub repeated_length : {A : Type 0} (n : ℕ) (x : A) → length (replicate n x) ≡ n
repeated_length zero x = refl
repeated_length (suc n) x = ap suc (repeated_length n x)

words_fit : (n : ℕ) → n ≤ most_words → FuncTypeFits (taking_words n)
words_fit n h = omega (arith, h, repeated_length n I64)

-- what is taken beneath the top operand is no more than all that is taken
under : (c : Scope) (ts : List Ty) → list_size c (under_top ts) ≤ list_size c ts
under c [] = omega arith
under c (t ∷ []) = omega arith
under c (t ∷ u ∷ ts) = omega (arith, under c (u ∷ ts))

call_fits : (i : Instr) (note : Note) → height_of i note ≤ most_words → All FuncTypeFits (called_type i note)
call_fits CallIndirect note h = All-cons FuncTypeFits (taking_words (words_under_top note)) [] (words_fit (words_under_top note) (omega (arith, h, under (scope_at note) note.taken))) (All-nil FuncTypeFits)
call_fits _ note h = All-nil FuncTypeFits

calls_fit : (is : List Instr) (notes : List Note) (end : ℕ) → greatest_height is notes end ≤ most_words → All FuncTypeFits (called_types is notes)
calls_fit [] notes end h = All-nil FuncTypeFits
calls_fit (i ∷ is) [] end h = All-nil FuncTypeFits
calls_fit (i ∷ is) (note ∷ notes) end h =
    All-append FuncTypeFits (called_type i note) (called_types is notes) (call_fits i note (omega (arith, h))) (calls_fit is notes end (omega (arith, h)))

few_at_one : (i : Instr) (note : Note) → length (called_type i note) ≤ 1
few_at_one CallIndirect note = omega arith
few_at_one _ note = omega arith

few_calls : (is : List Instr) (notes : List Note) → length (called_types is notes) ≤ length is
few_calls [] notes = omega arith
few_calls (i ∷ is) [] = omega arith
few_calls (i ∷ is) (note ∷ notes) = omega (arith, length-append (called_type i note) (called_types is notes), few_at_one i note, few_calls is notes)

-- of all functions
all_calls_fit : (fs : List LinkedFunc) → All IsNarrow fs → All FuncTypeFits (flat_map calls_of fs)
all_calls_fit [] h = All-nil FuncTypeFits
all_calls_fit (f ∷ fs) h =
    All-append FuncTypeFits (calls_of f) (flat_map calls_of fs) (calls_fit (text_order f.body) f.notes (end_words f) (omega (arith, All-head IsNarrow f fs h))) (all_calls_fit fs (All-tail IsNarrow f fs h))

all_calls_few : (fs : List LinkedFunc) → length (flat_map calls_of fs) ≤ instruction_count fs
all_calls_few [] = omega arith
all_calls_few (f ∷ fs) = omega (arith, length-append (calls_of f) (flat_map calls_of fs), few_calls (text_order f.body) f.notes, all_calls_few fs)

-- by first use
uses_fit : (listed ts : List FuncType) → All FuncTypeFits listed → All FuncTypeFits ts → All FuncTypeFits (first_uses listed ts)
uses_fit listed [] h k = h
uses_fit listed (t ∷ ts) h k =
    by_test (is_among t listed) (uses_fit listed ts h (All-tail FuncTypeFits t ts k))
    (uses_fit (listed ++ t ∷ []) ts (All-append FuncTypeFits listed (t ∷ []) h (All-cons FuncTypeFits t [] (All-head FuncTypeFits t ts k) (All-nil FuncTypeFits))) (All-tail FuncTypeFits t ts k))
  where
    by_test : (b : Bool) → All FuncTypeFits (first_uses listed ts) → All FuncTypeFits (first_uses (listed ++ t ∷ []) ts) → All FuncTypeFits (if b then first_uses listed ts else first_uses (listed ++ t ∷ []) ts)
    by_test true x y = x
    by_test false x y = y

uses_few : (listed ts : List FuncType) → length (first_uses listed ts) ≤ length listed + length ts
uses_few listed [] = omega arith
uses_few listed (t ∷ ts) = by_test (is_among t listed) (uses_few listed ts) (uses_few (listed ++ t ∷ []) ts)
  where
    by_test : (b : Bool) → length (first_uses listed ts) ≤ length listed + length ts → length (first_uses (listed ++ t ∷ []) ts) ≤ length (listed ++ t ∷ []) + length ts →
        length (if b then first_uses listed ts else first_uses (listed ++ t ∷ []) ts) ≤ length listed + suc (length ts)
    by_test true x y = omega (arith, x)
    by_test false x y = omega (arith, y, length-append listed (t ∷ []))

pub mapped_length : {A B : Type 0} (h : A → B) (xs : List A) → length (map h xs) ≡ length xs
mapped_length h [] = refl
mapped_length h (x ∷ xs) = ap suc (mapped_length h xs)

module _ (p : Program) (limits : KeepsLimits p) (few : instruction_count p.funcs < 2 ^ 31) where
  pub few_types : length (module_types p) < 2 ^ 32
  few_types =
      omega (arith, few, limits.table, uses_few [] (used_types p), mapped_length function_type p.funcs, all_calls_few p.funcs, length-append (map function_type p.funcs) (start_type ∷ flat_map calls_of p.funcs))

  functions_fit : All FuncTypeFits (map function_type p.funcs)
  functions_fit = All-map FuncTypeFits function_type p.funcs (All-weaker IsNarrow (λ (f : LinkedFunc). FuncTypeFits (function_type f)) (λ f h. words_fit (parameter_words f) (omega (arith, h))) p.funcs limits.frames)

  pub types_fit : IsShortListOf FuncTypeFits (module_types p)
  types_fit =
      let rest : List FuncType = map function_type p.funcs ++ start_type ∷ flat_map calls_of p.funcs in
      let rest_fits = All-append FuncTypeFits (map function_type p.funcs) (start_type ∷ flat_map calls_of p.funcs) functions_fit (All-cons FuncTypeFits start_type (flat_map calls_of p.funcs) (omega arith) (all_calls_fit p.funcs limits.frames)) in
      record {
        short = few_types;
        each = uses_fit [] (used_types p) (All-nil FuncTypeFits) (All-cons FuncTypeFits (taking_words 1) (alloc_type ∷ rest) (words_fit 1 (omega arith)) (All-cons FuncTypeFits alloc_type rest (omega arith) rest_fits));
      }

  -- each index is one of the types, or one past them
  index_within : (t : FuncType) (ts : List FuncType) → type_index t ts ≤ length ts
  index_within t [] = omega arith
  index_within t (u ∷ us) = by_test (is_same_type t u) (index_within t us)
    where
      by_test : (b : Bool) → type_index t us ≤ length us → (if b then 0 else suc (type_index t us)) ≤ suc (length us)
      by_test true h = omega arith
      by_test false h = omega (arith, h)

  pub index_fits : (t : FuncType) → type_index t (module_types p) < 2 ^ 32
  index_fits t = omega (arith, index_within t (module_types p), few_types)
