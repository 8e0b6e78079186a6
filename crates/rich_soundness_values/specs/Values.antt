-- Values of closed types. This project's own.
use Rattle.std.specs.Prelude.{◌≡◌, ℕ, List, [], ◌∷◌, Some, slice_get}
use Rattle.wasm_operators.specs.declared.Width.TheVariants.{W32, W64}
use Rattle.wasm_num.specs.Widths.{IsWithin}
use Rattle.rw_types.specs.declared.types.FunType.{FunType}
use Rattle.rw_types.specs.declared.types.Heap.{Heap}
use Rattle.rw_types.specs.declared.types.Mem.TheVariants.{L}
use Rattle.rw_types.specs.declared.types.Pre.{Unit, I32, I64, Ref, Ptr, Cap, Own}
use Rattle.rw_types.specs.declared.types.Pre.TheVariants.{Tuple, Hidden, Code}
use Rattle.rw_types.specs.declared.types.Priv.{Priv}
use Rattle.rw_types.specs.declared.types.Qual.{Qual}
use Rattle.rw_types.specs.declared.types.Qual.TheVariants.{Unr, Lin}
use Rattle.rw_types.specs.declared.types.Ty.{Ty, Of}
use Rattle.rw_types.specs.declared.types.Ty.TheVariants.{Rec}
use Rattle.rich_types.specs.Scopes.{scope_of}
use Rattle.rich_types.specs.Instances.{Substitution}
use Rattle.rich_reduction.specs.Configurations as value
use Rattle.rich_reduction.specs.Configurations.{Val, Vals, Location}
use Rattle.rich_soundness_values.specs.Heaps.{Heaps, name_of, Stands, IsUnr, AreUnr, size_of, with_type, with_place, all_at, function_at, Answer}

mutual
  -- a value of a closed type. A number is within its width. A reference and a capability are to what stands at their location; of
  -- a linear one they are `lin`. What is `unr` has `unr` parts. A folded value has the size that its type says. A function has its
  -- own type, or the instance of it by what answers its binders
  pub data HasType (hs : Heaps) : Val → Ty → Type 0 where
    is_i32 : {n : ℕ} {t : Ty} (q : Qual) → t ≡ Of q I32 → IsWithin W32 n → HasType hs (value.Number n) t
    is_i64 : {n : ℕ} {t : Ty} (q : Qual) → t ≡ Of q I64 → IsWithin W64 n → HasType hs (value.Number n) t
    is_unit : {t : Ty} (q : Qual) → t ≡ Of q Unit → HasType hs value.Empty t
    is_tuple : {vs : Vals} {t : Ty} (q : Qual) (ts : List Ty) → t ≡ Of q (Tuple ts) → (q ≡ Unr → AreUnr ts) → HaveParts hs vs ts → HasType hs (value.Tuple vs) t
    is_ref : {l : Location} {p : Priv} {t : Ty} (q : Qual) (h : Heap) → t ≡ Of q (Ref p (name_of l) h) → (l.mem ≡ L → q ≡ Lin) → Stands hs l h → HasType hs (value.Ref l p) t
    is_ptr : {l : Location} {t : Ty} (q : Qual) → t ≡ Of q (Ptr (name_of l)) → HasType hs (value.Ptr l) t
    is_cap : {l : Location} {p : Priv} {t : Ty} (h : Heap) → t ≡ Of Lin (Cap p (name_of l) h) → l.mem ≡ L → Stands hs l h → HasType hs (value.Cap l p) t
    is_own : {l : Location} {t : Ty} → t ≡ Of Lin (Own (name_of l)) → l.mem ≡ L → HasType hs (value.Own l) t
    is_fold : {v : Val} {t : Ty} (q : Qual) (s : ℕ) (u : Ty) → t ≡ Rec q s u → (q ≡ Unr → IsUnr (with_type t u)) → size_of (with_type t u) ≡ s → HasType hs v (with_type t u) → HasType hs (value.Fold v) t
    is_pack : {v : Val} {t : Ty} (q : Qual) (l : Location) (u : Ty) → t ≡ Of q (Hidden l.mem u) → (q ≡ Unr → IsUnr (with_place l u)) → HasType hs v (with_place l u) → HasType hs (value.Pack v) t
    is_code : {k : ℕ} {t : Ty} (q : Qual) (f : FunType) (g : Substitution) → slice_get hs.functions k ≡ Some f → t ≡ Of q (Code (function_at g f)) → HasType hs (value.Code k) t
    is_instance : {k : ℕ} {t : Ty} (q : Qual) (f : FunType) (g : Substitution) → slice_get hs.functions k ≡ Some f → Answer g (scope_of f.binders) → t ≡ Of q (Code (record { binders = []; params = all_at g f.params; results = all_at g f.results })) → HasType hs (value.Code k) t

  -- the parts of a tuple
  pub data HaveParts (hs : Heaps) : Vals → List Ty → Type 0 where
    no_parts : HaveParts hs value.none []
    more_parts : {v : Val} {vs : Vals} {t : Ty} {ts : List Ty} → HasType hs v t → HaveParts hs vs ts → HaveParts hs (value.more v vs) (t ∷ ts)

-- operands, locals and elements, one for one
pub data HaveTypes (hs : Heaps) : List Val → List Ty → Type 0 where
  no_types : HaveTypes hs [] []
  more_types : {v : Val} {vs : List Val} {t : Ty} {ts : List Ty} → HasType hs v t → HaveTypes hs vs ts → HaveTypes hs (v ∷ vs) (t ∷ ts)
