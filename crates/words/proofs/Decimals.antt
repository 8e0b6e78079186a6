-- A number's text is read as that number.
use Rattle.std.proofs.Common.{◌≡◌, ℕ, ◌<◌, ◌^◌, List, arith, Ok}
use Rattle.std.specs.declared.result.Result.{Result}
use Rattle.std.specs.Str.Parse.{ParsesUnsigned}
use Rattle.std.proofs.lemmas.Fmt.{parse-decimal}
use Rattle.words.specs.Words.{IsNumber}

pub parsed : {E : Type 0} (least greatest : ℕ) (text : List ℕ) (r : Result ℕ E) → greatest < 2 ^ 64 → ParsesUnsigned 64 10 text r → (n : ℕ) → IsNumber least greatest text n → r ≡ Ok n
parsed least greatest text r small parses n is = let less : n < 2 ^ 64 = omega (arith, is.high, small) in parse-decimal 64 n text r less less is.text_is parses
