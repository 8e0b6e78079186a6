-- A valid module has no first violation, and a height for each code.
use Rattle.std.proofs.Common.{◌≡◌, ℕ, ◌<◌, List, length, get_or, refl, sym, subst}
use Rattle.wasm_ast.specs.declared.modules.WModule.{WModule}
use Rattle.wasm_typing.specs.Modules.{IsValid}
use Rattle.wasm_typing_laws.proofs.Modules.{never_both}
use Rattle.wasm_module_checking.specs.Heights.{AreHeights, HasHeight}
use Rattle.wasm_module_checking.specs.Answers.{TellsFirst}
use Rattle.wasm_module_checking.specs.declared.error.ValidateError.{ValidateError}
use Rattle.wasm_module_checking.specs.declared.error.ValidateError.TheVariants.{Invalid, Memory}

pub wanting : (m : WModule) (e : ValidateError) → IsValid m → TellsFirst m e → e ≡ Memory
wanting m (Invalid func at rule) v t = absurd (never_both m (record { func = func; at = at; rule = rule }) v t)
wanting m Memory v t = refl

pub height_told : (d m : WModule) (hs xs : List ℕ) (k : ℕ) → d ≡ m → xs ≡ hs → AreHeights d hs → k < length m.codes → HasHeight m k (get_or xs k 0)
height_told d m hs xs k e ex told lt =
    let heights = subst (λ (x : WModule). AreHeights x hs) e told in
    subst (λ (ys : List ℕ). HasHeight m k (get_or ys k 0)) (sym ex) (heights.each k lt)
