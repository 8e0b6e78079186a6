-- Productions whose shortest bytes are known: those bytes, or more, are what follows the production. That composes
-- along productions, and is shown here of values and types.
use Rattle.std.proofs.Common.{◌≡◌, ℕ, ◌^◌, List, [], ◌∷◌, ◌++◌, length, inl, inr, refl, ap, arith, subst, length-append}
use Rattle.std.specs.Prelude.{Bool, Option, Some, None, option_to_list}
use Rattle.std.specs.List.{flat_map}
use Rattle.wasm_leb.specs.Leb.{unsigned_least, signed_least}
use Rattle.wasm_ast.specs.declared.types.ValTy.{ValTy}
use Rattle.wasm_ast.specs.declared.types.FuncType.{FuncType}
use Rattle.wasm_ast.specs.declared.types.Limits.{Limits}
use Rattle.wasm_grammar.specs.Tags.{value_type, mutability}
use Rattle.wasm_grammar.specs.CanonicalTypes.{vector_bytes, byte_vector_bytes, value_type_bytes, result_bytes, func_type_bytes, bounds_bytes, limits_bytes, table_type_bytes}
use Rattle.wasm_grammar.specs.GrammarValues.{Joined, IsExactly, IsByte, IsRaw, IsUnsigned, IsSigned32, IsSigned64, IsEach, IsVector, IsByteVector, IsName, IsSized}
use Rattle.wasm_grammar.specs.GrammarTypes.{IsValueType, IsFuncType, IsBounds, IsLimits, IsTableType, IsGlobalType}
use Rattle.wasm_spelling.proofs.LeastOrLonger.{IsLeastOrLonger, not_shorter, alike, both, none_or_some, unsigned_least_or_longer, signed_least_or_longer, unsigned_rises}

pub record IsShortest (Production : List ℕ → Type 0) (least : List ℕ) : Type 0 where
  pub at : (bytes : List ℕ) → Production bytes → IsLeastOrLonger least bytes

pub joined : {First Second : List ℕ → Type 0} (a b : List ℕ) → IsShortest First a → IsShortest Second b → IsShortest (Joined First Second) (a ++ b)
joined a b k l = record {
  at = λ bytes p. alike (a ++ b) bytes (a ++ b) (p.front ++ p.back) refl p.whole (both a b p.front p.back (k.at p.front p.first) (l.at p.back p.second));
}

pub exactly : (written : List ℕ) → IsShortest (IsExactly written) written
exactly written = record { at = λ bytes p. inl p }

pub byte : (b : ℕ) → IsShortest (IsByte b) (b ∷ [])
byte b = exactly (b ∷ [])

-- whatever the production is, no bytes are the shortest
pub nothing : (Production : List ℕ → Type 0) → IsShortest Production []
nothing Production = record { at = λ bytes p. none_or_some bytes }

raw : (values : List ℕ) → IsShortest (IsRaw values) values
raw values = record { at = λ bytes p. inl p.1 }

pub unsigned : (n : ℕ) → IsShortest (IsUnsigned n) (unsigned_least 5 n)
unsigned n = record { at = λ bytes p. unsigned_least_or_longer 5 (2 ^ 32) bytes n p }

pub signed32 : (n : ℕ) → IsShortest (IsSigned32 n) (signed_least 5 (2 ^ 32) n)
signed32 n = record { at = λ bytes p. signed_least_or_longer 5 (2 ^ 32) bytes n p }

pub signed64 : (n : ℕ) → IsShortest (IsSigned64 n) (signed_least 10 (2 ^ 64) n)
signed64 n = record { at = λ bytes p. signed_least_or_longer 10 (2 ^ 64) bytes n p }

each : {X : Type 0} (Entry : X → List ℕ → Type 0) (entry : X → List ℕ) → ((x : X) → IsShortest (Entry x) (entry x)) → (xs : List X) → IsShortest (IsEach Entry xs) (flat_map entry xs)
each Entry entry k [] = exactly []
each Entry entry k (x ∷ xs) = joined (entry x) (flat_map entry xs) (k x) (each Entry entry k xs)

pub vector : {X : Type 0} (Entry : X → List ℕ → Type 0) (entry : X → List ℕ) → ((x : X) → IsShortest (Entry x) (entry x)) → (xs : List X) → IsShortest (IsVector Entry xs) (vector_bytes entry xs)
vector Entry entry k xs =
    joined (unsigned_least 5 (length xs)) (flat_map entry xs) (unsigned (length xs)) (each Entry entry k xs)

pub unsigneds : (ns : List ℕ) → IsShortest (IsVector IsUnsigned ns) (vector_bytes (unsigned_least 5) ns)
unsigneds = vector IsUnsigned (unsigned_least 5) unsigned

pub byte_vector : (values : List ℕ) → IsShortest (IsByteVector values) (byte_vector_bytes values)
byte_vector values = joined (unsigned_least 5 (length values)) values (unsigned (length values)) (raw values)

pub name : (values : List ℕ) → IsShortest (IsName values) (byte_vector_bytes values)
name values =
    let k = joined (unsigned_least 5 (length values)) values (unsigned (length values)) (exactly values) in
    record { at = λ bytes p. k.at bytes p.1 }

-- the size of a content that is the shortest is its least spelling, or longer; that of a longer content is no shorter
with_size : (least size content : List ℕ) → IsUnsigned (length content) size → IsLeastOrLonger least content → IsLeastOrLonger (unsigned_least 5 (length least) ++ least) (size ++ content)
with_size least size content p (inl e) =
    let same : length content ≡ length least = ap length e in
    let measured = subst (λ (n : ℕ). IsUnsigned n size) same p in
    both (unsigned_least 5 (length least)) least size content ((unsigned (length least)).at size measured) (inl e)
with_size least size content p (inr h) =
    let rises = unsigned_rises 5 (length least) (length content) (omega arith) in
    let measured = not_shorter (unsigned_least 5 (length content)) size ((unsigned (length content)).at size p) in
    let all = length-append (unsigned_least 5 (length least)) least in
    inr (omega (arith, rises, measured, all, length-append size content))

pub sized : {Content : List ℕ → Type 0} (least : List ℕ) → IsShortest Content least → IsShortest (IsSized Content) (unsigned_least 5 (length least) ++ least)
sized least k = record {
  at = λ bytes p.
      let all = unsigned_least 5 (length least) ++ least in
      alike all bytes all (p.size ++ p.content) refl p.whole (with_size least p.size p.content p.measured (k.at p.content p.spelled));
}

pub value_type-shortest : (t : ValTy) → IsShortest (IsValueType t) (value_type_bytes t)
value_type-shortest t = byte (value_type t)

value_types : (ts : List ValTy) → IsShortest (IsVector IsValueType ts) (vector_bytes value_type_bytes ts)
value_types = vector IsValueType value_type_bytes value_type-shortest

result-shortest : (t : Option ValTy) → IsShortest (IsVector IsValueType (option_to_list t)) (result_bytes t)
result-shortest None = value_types []
result-shortest (Some t) = value_types (t ∷ [])

pub func_type-shortest : (f : FuncType) → IsShortest (IsFuncType f) (func_type_bytes f)
func_type-shortest f =
    joined (0x60 ∷ []) (vector_bytes value_type_bytes f.params ++ result_bytes f.result) (byte 0x60)
    (joined (vector_bytes value_type_bytes f.params) (result_bytes f.result) (value_types f.params) (result-shortest f.result))

bounds-shortest : (least : ℕ) (most : Option ℕ) → IsShortest (IsBounds least most) (bounds_bytes least most)
bounds-shortest least None = joined (0x00 ∷ []) (unsigned_least 5 least) (byte 0x00) (unsigned least)
bounds-shortest least (Some most) =
    joined (0x01 ∷ []) (unsigned_least 5 least ++ unsigned_least 5 most) (byte 0x01)
    (joined (unsigned_least 5 least) (unsigned_least 5 most) (unsigned least) (unsigned most))

pub limits-shortest : (l : Limits) → IsShortest (IsLimits l) (limits_bytes l)
limits-shortest l = bounds-shortest l.min l.max

pub table_type-shortest : (l : Limits) → IsShortest (IsTableType l) (table_type_bytes l)
table_type-shortest l = joined (0x70 ∷ []) (limits_bytes l) (byte 0x70) (limits-shortest l)

pub global_type-shortest : (t : ValTy) (mutable : Bool) → IsShortest (IsGlobalType t mutable) (value_type t ∷ mutability mutable ∷ [])
global_type-shortest t mutable =
    joined (value_type t ∷ []) (mutability mutable ∷ []) (byte (value_type t)) (byte (mutability mutable))
