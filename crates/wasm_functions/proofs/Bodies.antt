-- The body of a function: the room that it needs is the height of its code.
use Rattle.std.proofs.Common.{◌≡◌, ◌∙◌, ℕ, ◌+◌, List, [], ◌∷◌, slice_get, refl, sym, ap}
use Rattle.std.specs.Prelude.{Some}
use Rattle.std.proofs.lemmas.List.Sums.{sum_by-cons}
use Rattle.wasm_ast.specs.declared.types.FuncType.{FuncType}
use Rattle.wasm_ast.specs.declared.modules.Code.{Code}
use Rattle.wasm_ast.specs.declared.modules.LocalRun.{LocalRun}
use Rattle.wasm_ast.specs.declared.modules.WModule.{WModule}
use Rattle.wasm_grammar.specs.Profile.{local_total}
use Rattle.wasm_typing.specs.declared.context.Context.{Context}
use Rattle.wasm_typing.specs.Contexts.{body_context, context_of}
use Rattle.wasm_typing.specs.Heights.{height_of}
use Rattle.wasm_execution.specs.Calls.{declared}
use Rattle.wasm_module_checking.specs.Heights.{HasHeight}

some_is : {A : Type 0} {a b : A} → Some a ≡ Some b → a ≡ b
some_is e = cc

pub room_is : (m : WModule) (k n h : ℕ) (ty : FuncType) (code : Code) → HasHeight m k h → slice_get m.funcs k ≡ Some n → slice_get m.types n ≡ Some ty → slice_get m.codes k ≡ Some code
    → h ≡ height_of (body_context (context_of m) ty code) code.body
room_is m k n h ty code has listed typed there =
    let index : has.body.type_index ≡ n = some_is (sym has.body.listed ∙ listed) in
    let same : has.body.ty ≡ ty = some_is (sym has.body.typed ∙ ap (slice_get m.types) index ∙ typed) in
    let one : has.code ≡ code = some_is (sym has.body.there ∙ there) in
    has.is
    ∙ ap (λ (C : Context). height_of C has.code.body) has.body.context
    ∙ ap (λ (t : FuncType). height_of (body_context (context_of m) t has.code) has.code.body) same
    ∙ ap (λ (d : Code). height_of (body_context (context_of m) ty d) d.body) one

pub declared_is : (rs : List LocalRun) → local_total rs ≡ declared rs
declared_is [] = refl
declared_is (r ∷ rs) = sum_by-cons (λ (x : LocalRun). x.count) r rs ∙ ap (λ (n : ℕ). r.count + n) (declared_is rs)
