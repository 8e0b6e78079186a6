-- The lowered module of a program of one plain function is valid.
use Rattle.std.proofs.Common.{◌≡◌, ◌∙◌, ℕ, zero, suc, ◌+◌, ◌<◌, List, [], ◌∷◌, ◌++◌, Option, Some, None, length, refl, ap, sym, subst, arith}
use Rattle.std.specs.Prelude.{slice_get, replicate, ◌&&◌}
use Rattle.std.proofs.lemmas.Bool.{le-leb}
use Rattle.wasm_ast.specs.declared.types.FuncType.{FuncType}
use Rattle.wasm_ast.specs.declared.types.ValTy.TheVariants.{I64}
use Rattle.wasm_ast.specs.declared.instructions.WInstr.{out-WInstr}
use Rattle.wasm_ast.specs.declared.modules.Code.{Code}
use Rattle.wasm_ast.specs.declared.modules.WModule.{WModule}
use Rattle.wasm_typing.specs.declared.rule.WRule.{WRule}
use Rattle.wasm_typing.specs.declared.rule.WRule.TheVariants.{LimitsOrder}
use Rattle.wasm_typing.specs.declared.context.Context.{Context}
use Rattle.wasm_typing.specs.Contexts.{body_context, context_of}
use Rattle.wasm_typing.specs.Fields.{breaks_unless, first_of, memory_rule}
use Rattle.wasm_typing.specs.Modules.{BodiesAreTypedBefore, HasBody, IsValid, earliest, fault_before_codes}
use Rattle.wasm_typing.specs.Typing.{IsTypedBody}
use Rattle.rw_types.specs.declared.instrs.Instr.{Instr}
use Rattle.rw_types.specs.LoneMain.{ArePlain}
use Rattle.rich_typing.specs.declared.notes.Note.{Note}
use Rattle.rich_typing.specs.Derivations.{Derives}
use Rattle.rich_typing.specs.Table.{unr_i64}
use Rattle.rw_program.specs.Programs.{Program}
use Rattle.lowering_table.specs.declared.Pages.{Pages}
use Rattle.lowering_table.specs.Allocators.{unreachable_code}
use Rattle.lowering_table.specs.Codes.{main_code}
use Rattle.lowering_table.specs.Frames.{room_of}
use Rattle.lowering_table.specs.Modules.{ArePages, first_pages, low_module}
use Rattle.lowering_table.specs.Types.{alloc_type, print_type, start_type}
use Rattle.lowering_table.proofs.PlainBodies.{plain_code}
use Rattle.lowering_laws.proofs.Relation as relation
use Rattle.lowering_laws.proofs.Relation.{low_module-m, m}
use Rattle.lowering_validity.specs.Laws.{LowIsValid}
use Rattle.lowering_validity.proofs.Bodies.{calls, rows_typed, stops}

-- the memory's pages are in order, and few
pages_in_order : (pages : Pages) → ArePages pages → memory_rule 0 (record { min = first_pages pages; max = Some (first_pages pages) }) ≡ None
pages_in_order pages are =
    let n : ℕ = first_pages pages in
    let ordered = le-leb n n (omega (arith)) in
    let few = le-leb n 65536 (omega (arith, are.linear, are.unrestricted)) in
    λ i. first_of (None ∷ breaks_unless (ordered i && (few i && few i)) LimitsOrder ∷ [])

local_there : (count j : ℕ) → j < count → slice_get (replicate count I64 ++ []) j ≡ Some I64
local_there zero j within = absurd (omega (arith, within))
local_there (suc count) zero within = refl
local_there (suc count) (suc j) within = local_there count j (omega (arith, within))

same_some : {A : Type 0} (x y : A) → Some x ≡ Some y → x ≡ y
same_some x y e = cc

module _ (body : List Instr) (notes : List Note) (pages : Pages) where
  abbrev M : WModule
  M = m body notes pages

  -- no field breaks a rule
  no_fault : ArePages pages → fault_before_codes M ≡ None
  unfolding out-WInstr denote.Hole.Carrier.out
  no_fault are =
      ap
      (λ (o : Option WRule). earliest (None ∷ None ∷ None ∷ (elim o [ Some rule ↦ Some (record { at = 0; rule = rule }) | None ↦ None ]) ∷ None ∷ None ∷ None ∷ None ∷ []))
      (pages_in_order pages are)

  -- the body of a function, from that of its number
  by_number : (k n : ℕ) (ty : FuncType) (code : Code) → slice_get M.funcs k ≡ Some n → slice_get M.types n ≡ Some ty → slice_get M.codes k ≡ Some code →
      IsTypedBody (body_context (context_of M) ty code) code.body → (C : Context) (code' : Code) → HasBody M k C code' → IsTypedBody C code'.body
  by_number k n ty code listed typed there h C code' has =
      let index = same_some has.type_index n (sym has.listed ∙ listed) in
      let same_type = same_some has.ty ty (sym has.typed ∙ ap (λ (j : ℕ). slice_get M.types j) index ∙ typed) in
      let same_code = same_some code' code (sym has.there ∙ there) in
      let under : body_context (context_of M) ty code ≡ C =
      sym (has.context ∙ (λ i. body_context (context_of M) (same_type i) (same_code i))) in
      subst (λ (D : Context). IsTypedBody D code'.body) under
      (subst (λ (c : Code). IsTypedBody (body_context (context_of M) ty code) c.body) (sym same_code) h)

  bodies_typed : Derives [] body [] notes (unr_i64 ∷ []) → ArePlain body → BodiesAreTypedBefore M (length M.codes)
  bodies_typed d are zero C code within has =
      by_number 0 1 alloc_type unreachable_code refl refl refl (stops (body_context (context_of M) alloc_type unreachable_code) (Some I64 ∷ []) (I64 ∷ [])) C code has
  bodies_typed d are (suc zero) C code within has =
      by_number 1 0 print_type unreachable_code refl refl refl (stops (body_context (context_of M) print_type unreachable_code) (None ∷ []) []) C code has
  bodies_typed d are (suc (suc zero)) C code within has =
      by_number 2 1 alloc_type unreachable_code refl refl refl (stops (body_context (context_of M) alloc_type unreachable_code) (Some I64 ∷ []) (I64 ∷ [])) C code has
  bodies_typed d are (suc (suc (suc zero))) C code within has =
      let ty : FuncType = record { params = []; result = None } in
      let count : ℕ = 0 + room_of body notes 1 + 2 in
      by_number 3 2 ty (plain_code body notes) refl refl refl
      (rows_typed (body_context (context_of M) ty (plain_code body notes)) (None ∷ []) count (local_there count) refl refl body notes 0 d are (omega (arith))) C code has
  bodies_typed d are (suc (suc (suc (suc zero)))) C code within has =
      let p : Program = relation.p body notes pages in
      by_number 4 3 start_type (main_code p) refl refl refl (calls (body_context (context_of M) start_type (main_code p)) (Some I64 ∷ []) refl refl) C code has
  bodies_typed d are (suc (suc (suc (suc (suc k))))) C code within has = absurd (omega (arith, within))

  valid : Derives [] body [] notes (unr_i64 ∷ []) → ArePlain body → ArePages pages → IsValid M
  unfolding out-WInstr denote.Hole.Carrier.out
  valid d plain are = record { before = no_fault are; codes = bodies_typed d plain; behind = refl }

pub low_is_valid : LowIsValid
low_is_valid p pages lone are =
    subst (λ (q : Program). IsValid (low_module q pages)) (sym lone.is)
    (subst IsValid (sym (low_module-m lone.body lone.notes pages lone.plain)) (valid lone.body lone.notes pages lone.derived lone.plain are))
