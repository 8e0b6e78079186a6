-- Function types, limits, memory types and table types are read exactly, field by field.
use Rattle.std.proofs.Common.{◌≡◌, ◌∙◌, ℕ, zero, suc, ◌≤◌, Bool, true, false, List, [], ◌++◌, length, refl, sym, ap, subst, arith, Option, Some, None, append-nil}
use Rattle.std.specs.Prelude.{is_some, option_to_list, nat_lt}
use Rattle.std.proofs.lemmas.Bool.{ltb-true, ltb-false}
use Rattle.wasm_ast.specs.declared.types.ValTy.{ValTy}
use Rattle.wasm_ast.specs.declared.types.FuncType.{FuncType}
use Rattle.wasm_ast.specs.declared.types.Limits.{Limits}
use Rattle.wasm_grammar.specs.Tags.{mutability}
use Rattle.wasm_grammar.specs.Profile.{page_limit, entry_limit, OptionFits, FuncTypeFits, LimitsFit}
use Rattle.wasm_grammar.specs.GrammarValues.{Joined, ◌followed_by◌, IsByte, IsExactly, IsUnsigned, IsEach, IsVector}
use Rattle.wasm_grammar.specs.GrammarTypes.{IsValueType, IsFuncType, IsBounds, IsLimits, IsTableType}
use Rattle.wasm_reading.specs.declared.fault.DecodeFault.TheVariants.{LimitOutside}
use Rattle.wasm_reading.specs.Readers.{◌>>=◌, give}
use Rattle.wasm_reading.specs.ReadTypes.{at_most, results_at, func_type_at, maximum_at, limits_at, memory_at, table_at}
use Rattle.wasm_reading_values.specs.Exactness.{Exact}
use Rattle.wasm_reading_values.proofs.Compose.{alike, giving, placed, made, field, field_where, last_field, fields, checked, fail_if}
use Rattle.wasm_reading_values.proofs.ExactNumbers.{u32, after_byte}
use Rattle.wasm_reading_values.proofs.ExactLists.{unsigned_fits, vector}
use Rattle.wasm_reading_values.proofs.ExactTables.{value_type_byte, flag_byte}

-- a number that is at most so much
pub number_at_most : (most : ℕ) → Exact (at_most most) (λ n bytes. (n ≤ most) × IsUnsigned n bytes)
number_at_most most =
    placed _ _ (λ place.
    checked _ (λ n. n ≤ most) u32 (λ n.
    fail_if (nat_lt most n) n LimitOutside place (n ≤ most) (ltb-false most n) (λ e h. omega (arith, ltb-true most n e))))

-- the maximum of limits, behind the minimum
abbrev IsMaximum : Option ℕ → List ℕ → Type 0
IsMaximum None = IsExactly []
IsMaximum (Some n) = IsUnsigned n

maximum : (has : Bool) → Exact (maximum_at has) (λ m bytes. (is_some m ≡ has) × IsMaximum m bytes)
maximum false = alike (giving None) absent (λ m bytes p. by_absence m bytes p)
  where
    absent : (m : Option ℕ) (bytes : List ℕ) → (m ≡ None) × (bytes ≡ []) → (is_some m ≡ false) × IsMaximum m bytes
    absent None bytes p = (refl, p.1)
    absent (Some n) bytes p = absurd (cc)

    by_absence : (m : Option ℕ) (bytes : List ℕ) → (is_some m ≡ false) × IsMaximum m bytes → (m ≡ None) × (bytes ≡ [])
    by_absence None bytes p = (refl, p.1)
    by_absence (Some n) bytes p = absurd (cc)
maximum true = alike (made (λ n. Some n) u32) present (λ m bytes p. by_presence m bytes p)
  where
    present : (m : Option ℕ) (bytes : List ℕ) → (n : ℕ) × (m ≡ Some n) × IsUnsigned n bytes → (is_some m ≡ true) × IsMaximum m bytes
    present None bytes p = absurd (cc)
    present (Some n) bytes p =
        let same : p.0 ≡ n = cc in
        (refl, subst (λ (k : ℕ). IsUnsigned k bytes) same p.2)

    by_presence : (m : Option ℕ) (bytes : List ℕ) → (is_some m ≡ true) × IsMaximum m bytes → (n : ℕ) × (m ≡ Some n) × IsUnsigned n bytes
    by_presence None bytes p = absurd (cc)
    by_presence (Some n) bytes p = (n, refl, p.1)

-- limits by the parts that are read
abbrev IsLimitsByParts : ℕ → Limits → List ℕ → Type 0
IsLimitsByParts most l = IsByte (mutability (is_some l.max)) followed_by (λ bytes. (l.min ≤ most) × IsUnsigned l.min bytes) followed_by IsMaximum l.max

limits_by_parts : (most : ℕ) → Exact (limits_at most) (IsLimitsByParts most)
limits_by_parts most =
    fields (field (λ (l : Limits). is_some l.max) _ (λ l. Unit {0}) _ flag_byte (λ has.
    field (λ (l : Limits). l.min) _ (λ l. Unit {0} × (is_some l.max ≡ has)) _ (number_at_most most) (λ minimum.
    alike (last_field (λ (l : Limits). l.max) (λ m. record { min = minimum; max = m }) (λ l. l.min ≡ minimum) (maximum has) (λ m. (refl, refl)) (λ l h. λ i. record { min = h i; max = l.max }))
    (λ l bytes p. (((tt, p.1.0), p.0), p.1.1))
    (λ l bytes p. (p.0.1, (p.0.0.1, p.1))))))

-- the bytes of a first production, where the second has none
pub with_nothing : {P : List ℕ → Type 0} (bytes : List ℕ) → Joined P (IsExactly []) bytes → P bytes
with_nothing {P} bytes p =
    let all : bytes ≡ p.front = p.whole ∙ ap (λ (back : List ℕ). p.front ++ back) p.second ∙ append-nil p.front in
    subst P (sym all) p.first

pub and_nothing : {P : List ℕ → Type 0} (bytes : List ℕ) → P bytes → Joined P (IsExactly []) bytes
and_nothing bytes p = record { front = bytes; back = []; first = p; second = refl; whole = sym (append-nil bytes) }

from_parts : (most min : ℕ) (max : Option ℕ) (bytes : List ℕ) → IsLimitsByParts most (record { min = min; max = max }) bytes → ((min ≤ most) × OptionFits max) × IsBounds min max bytes
from_parts most min None bytes p =
    let q = with_nothing p.back p.second in
    ((q.0, tt), record { front = p.front; back = p.back; first = p.first; second = q.1; whole = p.whole })
from_parts most min (Some n) bytes p =
    let q = p.second in (
      (q.first.0, unsigned_fits n q.back q.second),
      record { front = p.front; back = p.back; first = p.first; second = record { front = q.front; back = q.back; first = q.first.1; second = q.second; whole = q.whole }; whole = p.whole },
    )

to_parts : (most min : ℕ) (max : Option ℕ) (bytes : List ℕ) → min ≤ most → IsBounds min max bytes → IsLimitsByParts most (record { min = min; max = max }) bytes
to_parts most min None bytes h p = record { front = p.front; back = p.back; first = p.first; second = and_nothing p.back (h, p.second); whole = p.whole }
to_parts most min (Some n) bytes h p =
    let q = p.second in
    record { front = p.front; back = p.back; first = p.first; second = record { front = q.front; back = q.back; first = (h, q.first); second = q.second; whole = q.whole }; whole = p.whole }

-- limits whose minimum is at most so much
pub limits : (most : ℕ) → Exact (limits_at most) (λ l bytes. LimitsFit most l × IsLimits l bytes)
limits most =
    alike (limits_by_parts most)
    (λ l bytes p. from_parts most l.min l.max bytes p)
    (λ l bytes p. to_parts most l.min l.max bytes p.0.0 p.1)

-- a memory type
pub memory_type : Exact memory_at (λ l bytes. LimitsFit page_limit l × IsLimits l bytes)
memory_type = limits page_limit

-- a table type
pub table_type : Exact table_at (λ l bytes. LimitsFit entry_limit l × IsTableType l bytes)
table_type =
    alike (after_byte 0x70 (limits entry_limit))
    (λ l bytes p. (p.second.0, record { front = p.front; back = p.back; first = p.first; second = p.second.1; whole = p.whole }))
    (λ l bytes p. record { front = p.1.front; back = p.1.back; first = p.1.first; second = (p.0, p.1.second); whole = p.1.whole })

-- the results of a function, of which there are `count`
abbrev AreResults : ℕ → Option ValTy → List ℕ → Type 0
AreResults count t bytes = (length (option_to_list t) ≡ count) × IsEach IsValueType (option_to_list t) bytes

no_result : (t : Option ValTy) (bytes : List ℕ) → AreResults 0 t bytes → (t ≡ None) × (bytes ≡ [])
no_result None bytes p = (refl, p.1)
no_result (Some t) bytes p = absurd (omega (arith, p.0))

one_result : (t : Option ValTy) (bytes : List ℕ) → AreResults 1 t bytes → (s : ValTy) × (t ≡ Some s) × IsValueType s bytes
one_result None bytes p = absurd (omega (arith, p.0))
one_result (Some t) bytes p = (t, refl, with_nothing bytes p.1)

results : (count : ℕ) → count ≤ 1 → Exact (results_at count) (AreResults count)
results zero h =
    alike (giving None)
    (λ t bytes p. subst (λ s. AreResults 0 s bytes) (sym p.0) (refl, p.1))
    no_result
results (suc zero) h =
    alike (made (λ t. Some t) value_type_byte)
    (λ t bytes p. subst (λ s. AreResults 1 s bytes) (sym p.1) (refl, and_nothing bytes p.2))
    one_result
results (suc (suc n)) h = absurd (omega arith)

few_results : (t : Option ValTy) → length (option_to_list t) ≤ 1
few_results None = omega arith
few_results (Some t) = omega arith

-- the results and what is made of them, behind the parameters
results_behind : (params : List ValTy) → Exact (at_most 1 >>= λ count. results_at count >>= λ result. give (record { params = params; result = result })) (λ (f : FuncType) bytes. (f.params ≡ params) × IsVector IsValueType (option_to_list f.result) bytes)
results_behind params =
    alike (field_where (λ (f : FuncType). length (option_to_list f.result)) _ (λ f. f.params ≡ params) (λ f. IsEach IsValueType (option_to_list f.result)) (number_at_most 1) (λ count front few.
    alike (last_field (λ (f : FuncType). f.result) (λ result. record { params = params; result = result }) (λ f. f.params ≡ params) (results count few.0) (λ result. (refl, refl)) (λ f e. λ i. record { params = e i; result = f.result }))
    (λ f bytes p. ((p.0, p.1.0), p.1.1))
    (λ f bytes p. (p.0.0, (p.0.1, p.1)))))
    (λ f bytes p.
    let q = p.1 in
    (p.0, record { front = q.front; back = q.back; first = q.first.1; second = q.second; whole = q.whole }))
    (λ f bytes p.
    let q = p.1 in
    (p.0, record { front = q.front; back = q.back; first = (few_results f.result, q.first); second = q.second; whole = q.whole }))

-- a function type
pub func_type : Exact func_type_at (λ f bytes. FuncTypeFits f × IsFuncType f bytes)
func_type =
    alike (after_byte 0x60 (fields (field (λ (f : FuncType). f.params) _ (λ f. Unit {0}) (λ f. IsVector IsValueType (option_to_list f.result)) (vector value_type_byte) (λ params.
    alike (results_behind params) (λ f bytes p. ((tt, p.0), p.1)) (λ f bytes p. (p.0.1, p.1))))))
    (λ f bytes p. (unsigned_fits (length f.params) p.second.first.front p.second.first.first, p))
    (λ f bytes p. p.1)
