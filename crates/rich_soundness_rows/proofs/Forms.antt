-- What a value of a type of some form is.
use Rattle.std.proofs.Common.{◌≡◌, ℕ, refl, sym, ap, ◌∙◌, subst, arith}
use Rattle.wasm_operators.specs.declared.Width.TheVariants.{W32, W64}
use Rattle.wasm_num.specs.Widths.{IsWithin}
use Rattle.rw_types.specs.declared.types.Heap.{Heap}
use Rattle.rw_types.specs.declared.types.Mem.{Mem}
use Rattle.rw_types.specs.declared.types.Mem.TheVariants.{L, U}
use Rattle.rw_types.specs.declared.types.Pre.{I32, I64, Ref, Ptr, Cap, Own}
use Rattle.rw_types.specs.declared.types.Priv.{Priv}
use Rattle.rw_types.specs.declared.types.Qual.{Qual}
use Rattle.rw_types.specs.declared.types.Qual.TheVariants.{Lin}
use Rattle.rw_types.specs.declared.types.Ty.{Ty, Of}
use Rattle.rich_reduction.specs.Configurations as value
use Rattle.rich_reduction.specs.Configurations.{Val, Vals, Location}
use Rattle.rich_soundness_values.specs.Heaps.{Heaps, name_in, name_of, Names, Stands}
use Rattle.rich_soundness_values.specs.Values.{HasType, is_i32, is_i64, is_ref, is_ptr, is_cap, is_own}
use Rattle.rich_soundness_values.specs.Laws.{ANumber, ATuple, AReference, AnAddress, ACapability, ARightToWrite, AFolded, APacked, AFunction, form_of, form_for}
use Rattle.rich_soundness_values.proofs.Typed.{formed}

number_form : (v : Val) → form_of v ≡ ANumber → (n : ℕ) × (v ≡ value.Number n)
number_form (value.Number n) e = (n, refl)
number_form value.Empty e = cc
number_form (value.Tuple vs) e = cc
number_form (value.Ref l p) e = cc
number_form (value.Ptr l) e = cc
number_form (value.Cap l p) e = cc
number_form (value.Own l) e = cc
number_form (value.Fold v) e = cc
number_form (value.Pack v) e = cc
number_form (value.Code k) e = cc

pub number_of : {hs : Heaps} {v : Val} {t : Ty} → HasType hs v t → form_for t ≡ ANumber → (n : ℕ) × (v ≡ value.Number n)
number_of {v = v} h e = number_form v (formed h ∙ e)

tuple_form : (v : Val) → form_of v ≡ ATuple → (parts : Vals) × (v ≡ value.Tuple parts)
tuple_form (value.Number n) e = cc
tuple_form value.Empty e = cc
tuple_form (value.Tuple vs) e = (vs, refl)
tuple_form (value.Ref l p) e = cc
tuple_form (value.Ptr l) e = cc
tuple_form (value.Cap l p) e = cc
tuple_form (value.Own l) e = cc
tuple_form (value.Fold v) e = cc
tuple_form (value.Pack v) e = cc
tuple_form (value.Code k) e = cc

pub tuple_of : {hs : Heaps} {v : Val} {t : Ty} → HasType hs v t → form_for t ≡ ATuple → (parts : Vals) × (v ≡ value.Tuple parts)
tuple_of {v = v} h e = tuple_form v (formed h ∙ e)

reference_form : (v : Val) → form_of v ≡ AReference → (l : Location) × (p : Priv) × (v ≡ value.Ref l p)
reference_form (value.Number n) e = cc
reference_form value.Empty e = cc
reference_form (value.Tuple vs) e = cc
reference_form (value.Ref l p) e = (l, p, refl)
reference_form (value.Ptr l) e = cc
reference_form (value.Cap l p) e = cc
reference_form (value.Own l) e = cc
reference_form (value.Fold v) e = cc
reference_form (value.Pack v) e = cc
reference_form (value.Code k) e = cc

pub reference_of : {hs : Heaps} {v : Val} {t : Ty} → HasType hs v t → form_for t ≡ AReference → (l : Location) × (p : Priv) × (v ≡ value.Ref l p)
reference_of {v = v} h e = reference_form v (formed h ∙ e)

address_form : (v : Val) → form_of v ≡ AnAddress → (l : Location) × (v ≡ value.Ptr l)
address_form (value.Number n) e = cc
address_form value.Empty e = cc
address_form (value.Tuple vs) e = cc
address_form (value.Ref l p) e = cc
address_form (value.Ptr l) e = (l, refl)
address_form (value.Cap l p) e = cc
address_form (value.Own l) e = cc
address_form (value.Fold v) e = cc
address_form (value.Pack v) e = cc
address_form (value.Code k) e = cc

pub address_of : {hs : Heaps} {v : Val} {t : Ty} → HasType hs v t → form_for t ≡ AnAddress → (l : Location) × (v ≡ value.Ptr l)
address_of {v = v} h e = address_form v (formed h ∙ e)

capability_form : (v : Val) → form_of v ≡ ACapability → (l : Location) × (p : Priv) × (v ≡ value.Cap l p)
capability_form (value.Number n) e = cc
capability_form value.Empty e = cc
capability_form (value.Tuple vs) e = cc
capability_form (value.Ref l p) e = cc
capability_form (value.Ptr l) e = cc
capability_form (value.Cap l p) e = (l, p, refl)
capability_form (value.Own l) e = cc
capability_form (value.Fold v) e = cc
capability_form (value.Pack v) e = cc
capability_form (value.Code k) e = cc

pub capability_of : {hs : Heaps} {v : Val} {t : Ty} → HasType hs v t → form_for t ≡ ACapability → (l : Location) × (p : Priv) × (v ≡ value.Cap l p)
capability_of {v = v} h e = capability_form v (formed h ∙ e)

own_form : (v : Val) → form_of v ≡ ARightToWrite → (l : Location) × (v ≡ value.Own l)
own_form (value.Number n) e = cc
own_form value.Empty e = cc
own_form (value.Tuple vs) e = cc
own_form (value.Ref l p) e = cc
own_form (value.Ptr l) e = cc
own_form (value.Cap l p) e = cc
own_form (value.Own l) e = (l, refl)
own_form (value.Fold v) e = cc
own_form (value.Pack v) e = cc
own_form (value.Code k) e = cc

pub own_of : {hs : Heaps} {v : Val} {t : Ty} → HasType hs v t → form_for t ≡ ARightToWrite → (l : Location) × (v ≡ value.Own l)
own_of {v = v} h e = own_form v (formed h ∙ e)

folded_form : (v : Val) → form_of v ≡ AFolded → (x : Val) × (v ≡ value.Fold x)
folded_form (value.Number n) e = cc
folded_form value.Empty e = cc
folded_form (value.Tuple vs) e = cc
folded_form (value.Ref l p) e = cc
folded_form (value.Ptr l) e = cc
folded_form (value.Cap l p) e = cc
folded_form (value.Own l) e = cc
folded_form (value.Fold v) e = (v, refl)
folded_form (value.Pack v) e = cc
folded_form (value.Code k) e = cc

pub folded_of : {hs : Heaps} {v : Val} {t : Ty} → HasType hs v t → form_for t ≡ AFolded → (x : Val) × (v ≡ value.Fold x)
folded_of {v = v} h e = folded_form v (formed h ∙ e)

packed_form : (v : Val) → form_of v ≡ APacked → (x : Val) × (v ≡ value.Pack x)
packed_form (value.Number n) e = cc
packed_form value.Empty e = cc
packed_form (value.Tuple vs) e = cc
packed_form (value.Ref l p) e = cc
packed_form (value.Ptr l) e = cc
packed_form (value.Cap l p) e = cc
packed_form (value.Own l) e = cc
packed_form (value.Fold v) e = cc
packed_form (value.Pack v) e = (v, refl)
packed_form (value.Code k) e = cc

pub packed_of : {hs : Heaps} {v : Val} {t : Ty} → HasType hs v t → form_for t ≡ APacked → (x : Val) × (v ≡ value.Pack x)
packed_of {v = v} h e = packed_form v (formed h ∙ e)

function_form : (v : Val) → form_of v ≡ AFunction → (k : ℕ) × (v ≡ value.Code k)
function_form (value.Number n) e = cc
function_form value.Empty e = cc
function_form (value.Tuple vs) e = cc
function_form (value.Ref l p) e = cc
function_form (value.Ptr l) e = cc
function_form (value.Cap l p) e = cc
function_form (value.Own l) e = cc
function_form (value.Fold v) e = cc
function_form (value.Pack v) e = cc
function_form (value.Code k) e = (k, refl)

pub function_of : {hs : Heaps} {v : Val} {t : Ty} → HasType hs v t → form_for t ≡ AFunction → (k : ℕ) × (v ≡ value.Code k)
function_of {v = v} h e = function_form v (formed h ∙ e)

-- the widths of numbers
pub within_i32 : {hs : Heaps} {n : ℕ} {t : Ty} {q : Qual} → HasType hs (value.Number n) t → t ≡ Of q I32 → IsWithin W32 n
within_i32 (is_i32 k e w) z = w
within_i32 (is_i64 k e w) z = absurd (cc)

pub within_i64 : {hs : Heaps} {n : ℕ} {t : Ty} {q : Qual} → HasType hs (value.Number n) t → t ≡ Of q I64 → IsWithin W64 n
within_i64 (is_i32 k e w) z = absurd (cc)
within_i64 (is_i64 k e w) z = w

-- what is told by a reference, a capability, an address, and the right to write again
pub record IsReferenceTo (hs : Heaps) (l : Location) (p : Priv) (q : Qual) (r : Priv) (n : ℕ) (h : Heap) : Type 0 where
  pub privilege : p ≡ r
  pub named : n ≡ name_of l
  pub linear : l.mem ≡ L → q ≡ Lin
  pub stands : Stands hs l h

pub reference_to : {hs : Heaps} {l : Location} {p r : Priv} {t : Ty} {q : Qual} {n : ℕ} {h : Heap} → HasType hs (value.Ref l p) t → t ≡ Of q (Ref r n h) → IsReferenceTo hs l p q r n h
reference_to {hs = hs} {l = l} (is_ref k h' e lin stands) z = record { privilege = cc; named = cc; linear = λ is. (let a : k ≡ Lin = lin is in cc); stands = subst (λ x. Stands hs l x) (cc) stands }

pub record IsCapabilityTo (hs : Heaps) (l : Location) (p : Priv) (r : Priv) (n : ℕ) (h : Heap) : Type 0 where
  pub privilege : p ≡ r
  pub named : n ≡ name_of l
  pub linear : l.mem ≡ L
  pub stands : Stands hs l h

pub capability_to : {hs : Heaps} {l : Location} {p r : Priv} {t : Ty} {q : Qual} {n : ℕ} {h : Heap} → HasType hs (value.Cap l p) t → t ≡ Of q (Cap r n h) → IsCapabilityTo hs l p r n h
capability_to {hs = hs} {l = l} (is_cap h' e lin stands) z = record { privilege = cc; named = cc; linear = lin; stands = subst (λ x. Stands hs l x) (cc) stands }

pub address_named : {hs : Heaps} {l : Location} {t : Ty} {q : Qual} {n : ℕ} → HasType hs (value.Ptr l) t → t ≡ Of q (Ptr n) → n ≡ name_of l
address_named (is_ptr k e) z = cc

pub own_named : {hs : Heaps} {l : Location} {t : Ty} {q : Qual} {n : ℕ} → HasType hs (value.Own l) t → t ≡ Of q (Own n) → n ≡ name_of l
own_named (is_own e lin) z = cc

-- one name, one location
name_apart : (m k : Mem) (a b : ℕ) → name_in m a ≡ name_in k b → (m ≡ k) × (a ≡ b)
name_apart L L a b e = (refl, omega arith)
name_apart U U a b e = (refl, omega arith)
name_apart L U a b e = absurd (omega arith)
name_apart U L a b e = absurd (omega arith)

pub same_place : (l k : Location) → name_of l ≡ name_of k → l ≡ k
same_place l k e = let r = name_apart l.mem k.mem l.number k.number e in
    ap (λ (m : Mem). record { mem = m; number = l.number }) r.0 ∙ ap (λ (n : ℕ). record { mem = k.mem; number = n }) r.1

-- the memory of a location that is named
pub memory_named : (m : Mem) (n : ℕ) (l : Location) → Names m n → n ≡ name_of l → l.mem ≡ m
memory_named m n l x e = ap (λ (k : Location). k.mem) (same_place l x.place (sym e ∙ x.named)) ∙ x.within
