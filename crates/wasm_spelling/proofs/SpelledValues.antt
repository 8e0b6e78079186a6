-- Canonical bytes follow the productions of values and types.
use Rattle.std.proofs.Common.{ℕ, zero, suc, ◌^◌, ◌<◌, List, [], ◌∷◌, ◌++◌, length, refl, arith}
use Rattle.std.specs.Prelude.{All, Option, Some, None, option_to_list}
use Rattle.std.specs.List.{flat_map}
use Rattle.wasm_leb.specs.Leb.{unsigned_least}
use Rattle.wasm_leb.proofs.Spelled.{u32}
use Rattle.wasm_ast.specs.declared.types.ValTy.{ValTy}
use Rattle.wasm_ast.specs.declared.types.FuncType.{FuncType}
use Rattle.wasm_ast.specs.declared.types.Limits.{Limits}
use Rattle.wasm_grammar.specs.CanonicalTypes.{vector_bytes, byte_vector_bytes, value_type_bytes, result_bytes, func_type_bytes, bounds_bytes, limits_bytes, table_type_bytes}
use Rattle.wasm_grammar.specs.ProfileInstructions.{FitsU32, IsShortListOf}
use Rattle.wasm_grammar.specs.Profile.{NameFits, OptionFits, FuncTypeFits, LimitsFit}
use Rattle.wasm_grammar.specs.GrammarValues.{Joined, IsUnsigned, IsEach, IsVector, IsByteVector, IsName, IsSized}
use Rattle.wasm_grammar.specs.GrammarTypes.{IsValueType, IsFuncType, IsBounds, IsLimits, IsTableType}

pub joined : {First Second : List ℕ → Type 0} (front back : List ℕ) → First front → Second back → Joined First Second (front ++ back)
joined front back p q = record { front = front; back = back; first = p; second = q; whole = refl }

pub each : {X : Type 0} (Entry : X → List ℕ → Type 0) (entry : X → List ℕ) (P : X → Type 0) → ((x : X) → P x → Entry x (entry x)) → (xs : List X) → All P xs → IsEach Entry xs (flat_map entry xs)
each Entry entry P spells [] h = refl
each Entry entry P spells (x ∷ xs) h =
    joined (entry x) (flat_map entry xs) (spells x (h zero x (omega arith)))
    (each Entry entry P spells xs (λ k d l. h (suc k) d (omega arith)))

pub vector : {X : Type 0} (Entry : X → List ℕ → Type 0) (entry : X → List ℕ) (P : X → Type 0) → ((x : X) → P x → Entry x (entry x)) → (xs : List X) → IsShortListOf P xs → IsVector Entry xs (vector_bytes entry xs)
vector Entry entry P spells xs h =
    joined (unsigned_least 5 (length xs)) (flat_map entry xs) (u32 (length xs) h.short) (each Entry entry P spells xs h.each)

pub unsigneds : (ns : List ℕ) → IsShortListOf FitsU32 ns → IsVector IsUnsigned ns (vector_bytes (unsigned_least 5) ns)
unsigneds ns h = vector IsUnsigned (unsigned_least 5) FitsU32 u32 ns h

pub byte_vector : (values : List ℕ) → IsShortListOf (λ b. b < 256) values → IsByteVector values (byte_vector_bytes values)
byte_vector values h = joined (unsigned_least 5 (length values)) values (u32 (length values) h.short) (h.each, refl)

pub name : (values : List ℕ) → NameFits values → IsName values (byte_vector_bytes values)
name values h = (h.0, joined (unsigned_least 5 (length values)) values (u32 (length values) h.1) refl)

pub sized : (Content : List ℕ → Type 0) (content : List ℕ) → length content < 2 ^ 32 → Content content → IsSized Content (unsigned_least 5 (length content) ++ content)
sized Content content h p =
    record { size = unsigned_least 5 (length content); content = content; measured = u32 (length content) h; spelled = p; whole = refl }

-- a list of value types fits wherever it is short
value_types : (ts : List ValTy) → length ts < 2 ^ 32 → IsVector IsValueType ts (vector_bytes value_type_bytes ts)
value_types ts h =
    vector IsValueType value_type_bytes (λ _. Unit {0}) (λ t _. refl) ts (record { short = h; each = λ k d l. tt })

result : (t : Option ValTy) → IsVector IsValueType (option_to_list t) (result_bytes t)
result None = value_types [] (omega arith)
result (Some t) = value_types (t ∷ []) (omega arith)

pub func_type : (f : FuncType) → FuncTypeFits f → IsFuncType f (func_type_bytes f)
func_type f h =
    joined (0x60 ∷ []) (vector_bytes value_type_bytes f.params ++ result_bytes f.result) refl
    (joined (vector_bytes value_type_bytes f.params) (result_bytes f.result) (value_types f.params h) (result f.result))

bounds : (least : ℕ) (most : Option ℕ) → FitsU32 least → OptionFits most → IsBounds least most (bounds_bytes least most)
bounds least None h k = joined (0x00 ∷ []) (unsigned_least 5 least) refl (u32 least h)
bounds least (Some most) h k =
    joined (0x01 ∷ []) (unsigned_least 5 least ++ unsigned_least 5 most) refl
    (joined (unsigned_least 5 least) (unsigned_least 5 most) (u32 least h) (u32 most k))

pub limits : (most : ℕ) → FitsU32 most → (l : Limits) → LimitsFit most l → IsLimits l (limits_bytes l)
limits most f l h = bounds l.min l.max (omega (arith, h.0)) h.1

pub table_type : (most : ℕ) → FitsU32 most → (l : Limits) → LimitsFit most l → IsTableType l (table_type_bytes l)
table_type most f l h = joined (0x70 ∷ []) (limits_bytes l) refl (limits most f l h)
