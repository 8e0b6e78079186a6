-- Codes in the middle: so many of them are the next one and the others; none are what was read. By the laws of readers.
use Rattle.std.proofs.Common.{◌≡◌, ◌≢◌, ◌∙◌, ℕ, ◌+◌, ◌-◌, Bool, true, false, List, [], ◌∷◌, ◌++◌, refl, ap, sym}
use Rattle.std.proofs.lemmas.Bool.{eq-eqb}
use Rattle.std.specs.Prelude.{Option, None, Some, Ok, ◌==◌, if◌then◌else◌}
use Rattle.wasm_ast.specs.declared.modules.WModule.{WModule}
use Rattle.wasm_ast.specs.declared.modules.Code.{Code}
use Rattle.wasm_reading.specs.declared.fault.DecodeFault.TheVariants.{CountMismatch}
use Rattle.wasm_reading.specs.Readers.{Reader, and_then, ◌>>=◌, give, fail, each_at}
use Rattle.wasm_reading.specs.ReadModules.{code_at}
use Rattle.wasm_items.specs.LebStates.{LebState, rest_of_leb}
use Rattle.wasm_items.specs.Residuals.{Takes}
use Rattle.wasm_items.specs.Vectors.{more_at}
use Rattle.wasm_items.proofs.ReaderLaws.{then_then, then_give}
use Rattle.wasm_items.proofs.Taking.{takes_then, takes_as}
use Rattle.wasm_items.proofs.VectorSteps.{next_entry}
use Rattle.wasm_codes.specs.declared.code.CodeState.{CodeState}
use Rattle.wasm_codes.specs.CodeStates.{rest_of_code}
use Rattle.wasm_codes.specs.Places.{TakesBefore}
use Rattle.wasm_contents.specs.declared.content.Content.{Content}
use Rattle.wasm_contents.specs.Contents.{more_codes, counted_codes, rest_of_content, rest_of_codes, rest_of_count, rest_behind_codes, PushesInto, PushesBefore}

abbrev put : WModule → List Code → Reader WModule
put m xs = give (record m { codes = xs })

pub next_code : (m : WModule) (before : List Code) (state : CodeState) (n : ℕ) → rest_of_code state ≡ code_at → n ≢ 0 → rest_of_codes m before state (n - 1) ≡ more_codes m before n
next_code m before state n e some =
    sym (then_then (rest_of_code state) (λ x. more_at code_at (before ++ x ∷ []) (n - 1)) (put m))
    ∙ ap (λ (r : Reader (List Code)). r >>= put m) (next_entry code_at (rest_of_code state) before n e some)

choose : {A : Type 0} (t : Bool) (x y : A) → t ≡ true → (if t then x else y) ≡ x
choose true x y e = refl
choose false x y e = absurd (cc)

counted : (m : WModule) (functions place n : ℕ) → n ≡ functions → counted_codes m functions place n ≡ more_codes m [] n
counted m functions place n e =
    ap (λ (r : Reader (List Code)). r >>= put m) (choose (n == functions) (each_at code_at n) (fail CountMismatch place) (eq-eqb _ _ e) ∙ sym (then_give (each_at code_at n)))

pub into : (old : Reader WModule) (b at : ℕ) (m : WModule) (r : Option Content) → Takes old b at (rest_behind_codes m r) → PushesInto rest_of_content old b at m (Ok r)
into old b at m (Some state) t = t
into old b at m None t = t

pub into_before : (old : Reader WModule) (b at : ℕ) (m : WModule) (r : Option Content) → TakesBefore old b at (rest_behind_codes m r) → PushesBefore old b at m (Ok r)
into_before old b at m (Some state) t = t
into_before old b at m None t = t

pub count_done : (m m' : WModule) (functions place n b at : ℕ) (number : LebState) (r : Option Content) → Takes (rest_of_leb number) b at (give n) → n ≡ functions →
    rest_behind_codes m' r ≡ more_codes m [] n → PushesInto rest_of_content (rest_of_count m functions place number) b at m' (Ok r)
count_done m m' functions place n b at number r t e is =
    into (rest_of_count m functions place number) b at m' r (takes_as (counted m functions place n e ∙ sym is) (takes_then (counted_codes m functions place) t))

pub code_done : (m m' : WModule) (before before' : List Code) (code : Code) (state : CodeState) (n b at : ℕ) (r : Option Content) → TakesBefore (rest_of_code state) b at (give code) →
    before' ≡ before ++ code ∷ [] → rest_behind_codes m' r ≡ more_codes m before' n → PushesBefore (rest_of_codes m before state n) b at m' (Ok r)
code_done m m' before before' code state n b at r t e is =
    into_before (rest_of_codes m before state n) b at m' r (record {
      same = λ end bs h.
          ap (λ done. and_then done (λ x. more_codes m (before ++ x ∷ []) n)) (t.same end bs h)
          ∙ ap (λ (xs : List Code). more_codes m xs n (record { at = at + 1; end = end; rest = bs })) (sym e)
          ∙ ap (λ (reader : Reader WModule). reader (record { at = at + 1; end = end; rest = bs })) (sym is);
    })
