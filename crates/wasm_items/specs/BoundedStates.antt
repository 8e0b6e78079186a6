-- Numbers that are at most so much, in the middle; this project's own.
use Rattle.std.specs.Prelude.{ℕ, nat_lt, if◌then◌else◌}
use Rattle.wasm_reading.specs.declared.fault.DecodeFault.TheVariants.{LimitOutside}
use Rattle.wasm_reading.specs.Readers.{Reader, ◌>>=◌, give, fail}
use Rattle.wasm_reading.specs.ReadValues.{u32_at}
use Rattle.wasm_items.specs.declared.bounded.BoundedState.{BoundedState}
use Rattle.wasm_items.specs.Residuals.{WantsAByte}
use Rattle.wasm_items.specs.WantsBytes.{wants_then, wants_leb}
use Rattle.wasm_items.specs.LebStates.{rest_of_leb}

-- a number that is at most so much, or one that is not, whose first byte stands at `place`
abbrev pub bounded : ℕ → ℕ → ℕ → Reader ℕ
bounded most place n = if nat_lt most n then fail LimitOutside place else give n

-- a number that is at most so much, whose first byte stands at `place`
abbrev pub bounded_at : ℕ → ℕ → Reader ℕ
bounded_at most place = u32_at >>= bounded most place

-- the same in the middle
abbrev pub rest_of_bounded : BoundedState → Reader ℕ
rest_of_bounded state = rest_of_leb state.number >>= bounded state.most state.place

-- it wants a byte
pub wants_bounded : (state : BoundedState) → WantsAByte (rest_of_bounded state)
wants_bounded state = wants_then (bounded state.most state.place) (wants_leb state.number)
