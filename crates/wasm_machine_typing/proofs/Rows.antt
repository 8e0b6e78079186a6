-- The row: one function, no globals, no table and no memory.
use Rattle.std.proofs.Common.{◌≡◌, ◌∙◌, ℕ, zero, suc, ◌^◌, ◌<◌, [], ◌∷◌, refl, sym, ap, subst, slice_get, arith}
use Rattle.std.specs.Prelude.{Option, Some}
use Rattle.wasm_ast.specs.declared.types.FuncType.{FuncType}
use Rattle.wasm_ast.specs.declared.types.ValTy.TheVariants.{I64}
use Rattle.wasm_ast.specs.declared.instructions.WInstr as w
use Rattle.wasm_ast.specs.declared.instructions.WInstr.{WInstr, out-WInstr, roll-WInstr, out-roll-WInstr}
use Rattle.wasm_ast.specs.declared.instructions.WInstr.TheOpen.{WInstr-F}
use Rattle.wasm_ast.specs.declared.instructions.WInstr.TheVariants as v
use Rattle.wasm_ast.specs.declared.modules.Code.{Code}
use Rattle.wasm_ast.specs.Immediates.{immediate_in}
use Rattle.wasm_grammar.specs.ProfileInstructions.{ImmediateFits, InstructionsFit, plain_fits, none_fit, more_fit}
use Rattle.wasm_typing.specs.Contexts.{body_context, context_of}
use Rattle.wasm_typing.specs.Signatures.{The, ◌⇒◌, signature_in}
use Rattle.wasm_typing.specs.Typing.{IsTypedBody, plain, none, more}
use Rattle.wasm_execution.specs.Types.{takes_and_gives}
use Rattle.wasm_execution.specs.Configurations.{TheEnd}
use Rattle.wasm_execution.specs.Environments.{Function, environment_of, function_at}
use Rattle.wasm_execution.specs.Starts.{first_store}
use Rattle.wasm_execution.specs.ControlRows.{alone}
use Rattle.wasm_machine_typing.specs.Configurations.{of_code, IsTypedCode, IsTypedEnvironment, IsTypedStore}
use Rattle.wasm_machine_typing.specs.Rows.{main_code, FirstIsTyped}
use Rattle.wasm_machine_typing.proofs.Calls.{entered_typed}

six_opens : out-WInstr (w.I64Const 6) ≡ WInstr-F.I64Const 6
six_opens = ap out-WInstr (sym (v.rolls-I64Const 6)) ∙ out-roll-WInstr (WInstr-F.I64Const 6)

abbrev main_type : FuncType
main_type = takes_and_gives [] (Some I64)

six_typed : IsTypedBody (body_context (context_of alone) main_type main_code) (w.I64Const 6 ∷ [])
six_typed =
    more (w.I64Const 6) [] (I64 ∷ []) refl
    (plain ([] ⇒ Some (The I64)) (ap (signature_in (body_context (context_of alone) main_type main_code) (Some I64 ∷ [])) six_opens) (record { at = I64; below = []; taken = refl; «left» = refl }))
    (none refl refl)

six_fits : InstructionsFit (w.I64Const 6 ∷ [])
six_fits =
    let small : 6 < 2 ^ 64 = omega arith in
    more_fit (w.I64Const 6) [] refl (plain_fits (subst (λ (x : WInstr-F WInstr). ImmediateFits (immediate_in x)) (sym six_opens) small)) (none_fit refl)

environment_typed : IsTypedEnvironment (context_of alone) (environment_of alone)
environment_typed = record { types = refl; functions = listed; codes = typed; pages = omega arith }
  where
    listed : (n : ℕ) (ty : FuncType) → slice_get (context_of alone).functions n ≡ Some ty → (code : Option Code) × (function_at (environment_of alone) n ≡ Some (of_code ty code))
    listed zero ty q = let same : main_type ≡ ty = (cc) in (Some main_code, ap (λ (t : FuncType). Some (of_code t (Some main_code))) same)
    listed (suc n) ty q = absurd (cc)

    typed : (n : ℕ) (f : Function) → function_at (environment_of alone) n ≡ Some f → IsTypedCode (context_of alone) f.ty f.code
    typed zero f q = let same : of_code main_type (Some main_code) ≡ f = (cc) in subst (λ (g : Function). IsTypedCode (context_of alone) g.ty g.code) same (six_typed, six_fits)
    typed (suc n) f q = absurd (cc)

store_typed : IsTypedStore (context_of alone) (environment_of alone) (first_store alone)
unfolding Rattle.memory_words.specs.Memories.zeros
store_typed = record { globals = tt; table = λ i n q. absurd (cc); bytes = λ k d lt. absurd (omega (arith, lt)); pages = 0; whole = refl; most = omega arith }

pub first_is_typed : FirstIsTyped
first_is_typed = record {
  environment = environment_typed;
  config = entered_typed (context_of alone) (environment_of alone) environment_typed 0 main_type main_code [] [] TheEnd (first_store alone) refl tt refl store_typed;
}
