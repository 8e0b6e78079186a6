-- Words that are moved between Wasm locals, globals and cells, upwards. This project's own, in the terms of the WebAssembly
-- Core Specification 1.0, section 2.4.
use Rattle.std.specs.Prelude.{ℕ, zero, suc, ◌*◌, List, [], ◌∷◌, ◌++◌}
use Rattle.wasm_ast.specs.declared.instructions.WInstr as w

-- what stands for an instruction that does nothing to words
abbrev pub erased : List w.WInstr
erased = w.Nop ∷ []

-- so many words from a local on go to the Wasm operands
abbrev pub gets : ℕ → ℕ → List w.WInstr
gets zero from = []
gets (suc n) from = w.LocalGet from ∷ gets n (suc from)

-- so many words from a local on go to the locals from one on
abbrev pub moves : ℕ → ℕ → ℕ → List w.WInstr
moves zero from to = []
moves (suc n) from to = w.LocalGet from ∷ w.LocalSet to ∷ moves n (suc from) (suc to)

-- so many words from a local on go to the globals from one on
abbrev pub gives : ℕ → ℕ → ℕ → List w.WInstr
gives zero local global = []
gives (suc n) local global = w.LocalGet local ∷ w.GlobalSet global ∷ gives n (suc local) (suc global)

-- so many words from a global on go to the locals from one on
abbrev pub fetches : ℕ → ℕ → ℕ → List w.WInstr
fetches zero global local = []
fetches (suc n) global local = w.GlobalGet global ∷ w.LocalSet local ∷ fetches n (suc global) (suc local)

-- the address in a local, as a number of 32 bits, goes to the Wasm operands
abbrev pub address : ℕ → List w.WInstr
address local = w.LocalGet local ∷ w.I32WrapI64 ∷ []

-- an access of a word of a cell is aligned, and has its offset in bytes
abbrev pub load_word : ℕ → w.WInstr
load_word word = w.I64Load 3 (8 * word)

abbrev pub store_word : ℕ → w.WInstr
store_word word = w.I64Store 3 (8 * word)

-- so many words of the cell whose address is in a local, from this word on, go to the locals from one on
abbrev pub loads : ℕ → ℕ → ℕ → ℕ → List w.WInstr
loads zero base word to = []
loads (suc n) base word to = address base ++ load_word word ∷ w.LocalSet to ∷ loads n base (suc word) (suc to)

-- so many words from a local on go to the cell whose address is in a local, from this word on
abbrev pub stores : ℕ → ℕ → ℕ → ℕ → List w.WInstr
stores zero base word from = []
stores (suc n) base word from = address base ++ w.LocalGet from ∷ store_word word ∷ stores n base (suc word) (suc from)
