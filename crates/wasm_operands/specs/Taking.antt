-- What taking and putting operands makes of what is known of them (WebAssembly Core Specification 1.0, appendix A.3).
use Rattle.std.specs.Prelude.{◌≡◌, true, false, List, [], ◌∷◌, ◌++◌, ◌⊎◌, Option, Some, None, Result, Ok, option_to_list, map}
use Rattle.wasm_ast.specs.declared.types.ValTy.{ValTy}
use Rattle.wasm_typing.specs.declared.rule.WRule.{WRule}
use Rattle.wasm_typing.specs.declared.rule.WRule.TheVariants.{OperandMissing}
use Rattle.wasm_typing.specs.Signatures.{Slot, Signature}
use Rattle.wasm_typing_laws.specs.Checking.{Seen, take_slots, left_of, go_on}
use Rattle.wasm_operands.specs.declared.operands.Operands.{Operands}

abbrev pub seen_of : Operands → Seen
seen_of o = record { known = o.items; any = o.«any» }

abbrev pub nothing : Seen
nothing = record { known = []; any = false }

-- the result of a list goes on top
abbrev pub handed : Option ValTy → Seen → Seen
handed t s = record { known = map (λ u. Some u) (option_to_list t) ++ s.known; any = s.any }

-- these slots are taken
abbrev pub needed : List Slot → Seen → Result Seen WRule
needed ss seen = go_on (take_slots ss None seen.known seen.any) (λ r. Ok (record { known = r.known; any = seen.any }))

-- an instruction of this signature
abbrev pub applied : Signature → Seen → Result Seen WRule
applied s seen = go_on (take_slots s.takes None seen.known seen.any) (λ r. Ok (left_of s.left r seen.any))

-- an operand is taken, of which this is known
abbrev pub TakesAny : Seen → Option ValTy → Seen → Type 0
TakesAny before k after = ((before.known ≡ k ∷ after.known) × (before.any ≡ after.any)) ⊎ ((before.known ≡ []) × (before.any ≡ true) × (k ≡ None) × (after ≡ before))

abbrev pub LacksAny : Seen → WRule → Type 0
LacksAny before r = (before.known ≡ []) × (before.any ≡ false) × (r ≡ OperandMissing)
