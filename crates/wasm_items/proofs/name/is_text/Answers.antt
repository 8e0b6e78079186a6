use Rattle.std.proofs.Common.{◌≡◌, ◌∙◌, ℕ, List, Result, Ok, Err, MatchResult, sym}
use Rattle.std.specs.Result.{is_ok}
use Rattle.std.specs.Str.{IsUtf8, is_utf8}
use Rattle.std.proofs.lemmas.Bool.{false_from_ne_true}
use Rattle.std.proofs.lemmas.Str.{IsUtf8-from_is_utf8, is_utf8-from_IsUtf8}
use Rattle.wasm_items.proofs.name.is_text.Goals as goal

-- What the answer says is what the test says.
told : {X Y : Type 0} (answer : Result X Y) (bytes : List ℕ) (P : X → Type 0) (Q : Y → Type 0) → MatchResult answer (λ s. P s × IsUtf8 bytes) (λ e. ¬ (IsUtf8 bytes) × Q e) → is_ok answer ≡ is_utf8 bytes
told (Ok s) bytes P Q h = sym (is_utf8-from_IsUtf8 bytes h.1)
told (Err e) bytes P Q h = sym (false_from_ne_true (is_utf8 bytes) (λ is. h.0 (IsUtf8-from_is_utf8 bytes is)))

pub returns : goal.returns
returns c = c.is_ok.ensures.value ∙ told _ _ _ _ c.from_utf8.ensures.cases
