-- Whether a module is one that is built so far is decided, for every module: its fields are compared
-- with those of such a module, and its body is read for plain instructions.
use Rattle.std.proofs.Common.{◌≡◌, ◌⊎◌, inl, inr, ◌≤◌, ◌<◌, ◌^◌, ℕ, List, [], ◌∷◌, codes, length, refl, arith, sym, ap, ◌∙◌, subst}
use Rattle.std.proofs.lemmas.Bool.{cases_eq, cases_lt}
use Rattle.rw_types.specs.declared.instrs.Instr.{Instr, I64Const, Num, Print, Drop}
use Rattle.rw_types.specs.declared.modules.ExportDef.{ExportDef}
use Rattle.rw_types.specs.declared.modules.FuncDef.{FuncDef}
use Rattle.rw_types.specs.declared.modules.GlobalDef.{GlobalDef}
use Rattle.rw_types.specs.declared.modules.ImportDef.{ImportDef}
use Rattle.rw_types.specs.declared.modules.Module.{Module}
use Rattle.rw_types.specs.declared.numbers.NumName.TheVariants.{I64Add}
use Rattle.rw_types.specs.declared.types.Binder.{Binder}
use Rattle.rw_types.specs.declared.types.Pre.{I64}
use Rattle.rw_types.specs.declared.types.Qual.TheVariants.{Unr}
use Rattle.rw_types.specs.declared.types.Ty.{Ty, Of}
use Rattle.rw_types.specs.LoneMain.{IsPlain, ArePlain, IsLoneMain}

-- both of two decided facts
both : {A B : Type 0} → A ⊎ (A → ⊥) → B ⊎ (B → ⊥) → (A × B) ⊎ ((A × B) → ⊥)
both (inl a) (inl b) = inl (a, b)
both (inl a) (inr b) = inr (λ p. b p.1)
both (inr a) _ = inr (λ p. a p.0)

-- whether a list is empty
is_empty : {A : Type 0} (xs : List A) → (xs ≡ []) ⊎ (xs ≡ [] → ⊥)
is_empty [] = inl refl
is_empty (x ∷ xs) = inr (λ e. cc)

-- whether two lists of numbers are equal
are_same : (xs ys : List ℕ) → (xs ≡ ys) ⊎ (xs ≡ ys → ⊥)
are_same [] [] = inl refl
are_same [] (y ∷ ys) = inr (λ e. cc)
are_same (x ∷ xs) [] = inr (λ e. cc)
are_same (x ∷ xs) (y ∷ ys) = elim (both (cases_eq x y) (are_same xs ys)) [
  | inl p ↦ inl (let head = p.0 in let tail = p.1 in cc)
  | inr n ↦ inr (λ e. n (cc, cc))
]

-- whether a number is less than another, and whether it is no more
is_below : (a b : ℕ) → (a < b) ⊎ (a < b → ⊥)
is_below a b = elim (cases_lt a b) [ inl l ↦ inl l | inr g ↦ inr (λ l. omega arith) ]

is_at_most : (a b : ℕ) → (a ≤ b) ⊎ (a ≤ b → ⊥)
is_at_most a b = elim (cases_lt b a) [ inl l ↦ inr (λ g. omega arith) | inr g ↦ inl g ]

-- whether an instruction is plain, and whether each is
is_plain : (i : Instr) → IsPlain i ⊎ (IsPlain i → ⊥)
is_plain (I64Const n) = is_below n (2 ^ 64)
is_plain (Num I64Add) = inl tt
is_plain Print = inl tt
is_plain Drop = inl tt
is_plain _ = inr (λ p. p)

are_plain : (is : List Instr) → ArePlain is ⊎ (ArePlain is → ⊥)
are_plain [] = inl tt
are_plain (i ∷ is) = both (is_plain i) (are_plain is)

-- whether a type is that of a number of 64 bits
is_number : (t : Ty) → (t ≡ Of Unr I64) ⊎ (t ≡ Of Unr I64 → ⊥)
is_number (Of Unr I64) = inl refl
is_number _ = inr (λ e. cc)

-- whether the results of a function are one number
are_one_number : (ts : List Ty) → (ts ≡ Of Unr I64 ∷ []) ⊎ (ts ≡ Of Unr I64 ∷ [] → ⊥)
are_one_number (t ∷ []) = elim (is_number t) [ inl e ↦ inl cc | inr n ↦ inr (λ e. n cc) ]
are_one_number _ = inr (λ e. cc)

-- the records of the trees by their parts
abbrev export : List ℕ → ℕ → ExportDef
export name func = record { name = name; func = func }

abbrev function : List Binder → List Ty → List Ty → List ℕ → List Instr → FuncDef
function binders params results locals body = record { ty = record { binders = binders; params = params; results = results }; locals = locals; body = body }

abbrev module_of : List ImportDef → List FuncDef → List GlobalDef → List ExportDef → Module
module_of imports funcs globals exports = record { imports = imports; funcs = funcs; globals = globals; exports = exports }

-- whether the exports are that of the first function as `main`
are_main : (xs : List ExportDef) → (xs ≡ export (codes "main") 0 ∷ []) ⊎ (xs ≡ export (codes "main") 0 ∷ [] → ⊥)
are_main (x ∷ []) = elim (both (are_same x.name (codes "main")) (cases_eq x.func 0)) [
  | inl p ↦ inl (one p.0 p.1)
  | inr n ↦ inr (λ e. n (ap (λ (u : ExportDef). u.name) (first e), ap (λ (u : ExportDef). u.func) (first e)))
]
  where
    one : {name name' : List ℕ} {func func' : ℕ} → name ≡ name' → func ≡ func' → export name func ∷ [] ≡ export name' func' ∷ []
    one e f = cc

    first : {x x' : ExportDef} → x ∷ [] ≡ x' ∷ [] → x ≡ x'
    first e = cc
are_main _ = inr (λ e. cc)

-- a module but for its functions
abbrev StandsAlone : Module → Type 0
StandsAlone m = (m.imports ≡ []) × ((m.globals ≡ []) × (m.exports ≡ export (codes "main") 0 ∷ []))

-- a function but for its body
abbrev IsMain : FuncDef → Type 0
IsMain f = (f.ty.binders ≡ []) × ((f.ty.params ≡ []) × ((f.ty.results ≡ Of Unr I64 ∷ []) × (f.locals ≡ [])))

abbrev AreLone : List FuncDef → Type 0
AreLone (f ∷ []) = IsMain f × (ArePlain f.body × (length f.body ≤ 1000))
AreLone _ = ⊥

are_lone : (fs : List FuncDef) → AreLone fs ⊎ (AreLone fs → ⊥)
are_lone (f ∷ []) = both (both (is_empty f.ty.binders) (both (is_empty f.ty.params) (both (are_one_number f.ty.results) (is_empty f.locals)))) (both (are_plain f.body) (is_at_most (length f.body) 1000))
are_lone _ = inr (λ p. p)

-- a lone module has these parts, and what has these parts is a lone module
parts_of : (m : Module) → IsLoneMain m → StandsAlone m × AreLone m.funcs
parts_of m lone = (
  (ap (λ (k : Module). k.imports) lone.is, (ap (λ (k : Module). k.globals) lone.is, ap (λ (k : Module). k.exports) lone.is)),
  subst (λ (k : Module). AreLone k.funcs) (sym lone.is) ((refl, (refl, (refl, refl))), (lone.plain, lone.short)),
)

lone_of : (m : Module) (fs : List FuncDef) → m.funcs ≡ fs → StandsAlone m → AreLone fs → IsLoneMain m
lone_of m (f ∷ []) funcs alone main = record {
  body = f.body;
  is = whole alone.0 funcs alone.1.0 alone.1.1 ∙ ap (λ (g : FuncDef). module_of [] (g ∷ []) [] (export (codes "main") 0 ∷ [])) (lone main.0);
  plain = main.1.0;
  short = main.1.1;
}
  where
    whole : {imports imports' : List ImportDef} {funcs funcs' : List FuncDef} {globals globals' : List GlobalDef} {exports exports' : List ExportDef} → imports ≡ imports' → funcs ≡ funcs' → globals ≡ globals' → exports ≡ exports' → module_of imports funcs globals exports ≡ module_of imports' funcs' globals' exports'
    whole i f g x = cc

    same : {binders binders' : List Binder} {params params' results results' : List Ty} {locals locals' : List ℕ} {body : List Instr} → binders ≡ binders' → params ≡ params' → results ≡ results' → locals ≡ locals' → function binders params results locals body ≡ function binders' params' results' locals' body
    same b p r l = cc

    lone : IsMain f → f ≡ function [] [] (Of Unr I64 ∷ []) [] f.body
    lone main = same main.0 main.1.0 main.1.1.0 main.1.1.1
lone_of m _ funcs alone main = absurd main

-- whether a module is built so far
pub is_built : (m : Module) → IsLoneMain m ⊎ (IsLoneMain m → ⊥)
is_built m = elim (both (both (is_empty m.imports) (both (is_empty m.globals) (are_main m.exports))) (are_lone m.funcs)) [
  | inl p ↦ inl (lone_of m m.funcs refl p.0 p.1)
  | inr n ↦ inr (λ lone. n (parts_of m lone))
]
