-- Vectors in the middle (WebAssembly Core Specification 1.0, section 5.1.3); the states are this project's own.
use Rattle.std.specs.Prelude.{ℕ, ◌++◌, [], ◌∷◌, List}
use Rattle.wasm_reading.specs.Readers.{Reader, ◌>>=◌, give, each_at}
use Rattle.wasm_items.specs.declared.vector.VectorState.{VectorState}
use Rattle.wasm_items.specs.declared.vector.Next.{Next}
use Rattle.wasm_items.specs.declared.vector.Next.TheVariants.{Count, Entry}
use Rattle.wasm_items.specs.LebStates.{rest_of_leb}
use Rattle.wasm_items.specs.Residuals.{WantsAByte}
use Rattle.wasm_items.specs.WantsBytes.{wants_then, wants_leb}

-- entries so far, and so many more
abbrev pub more_at : {A : Type 0} → Reader A → List A → ℕ → Reader (List A)
more_at item before n = do
  entries ← each_at item n
  give (before ++ entries)

-- the rest of a vector, by how an entry is read and how the rest of one
abbrev pub rest_of_next : {S A : Type 0} → Reader A → (S → Reader A) → List A → Next S → Reader (List A)
rest_of_next item rest_of before (Count number) = do
  n ← rest_of_leb number
  more_at item before n
rest_of_next item rest_of before (Entry entry behind) = do
  x ← rest_of entry
  more_at item (before ++ x ∷ []) behind

-- a vector in the middle
abbrev pub rest_of_vector : {S A : Type 0} → Reader A → (S → Reader A) → VectorState S A → Reader (List A)
rest_of_vector item rest_of vector = rest_of_next item rest_of vector.before vector.next

-- it wants a byte, where an entry does
pub wants_next : {S A : Type 0} (item : Reader A) (rest_of : S → Reader A) → ((entry : S) → WantsAByte (rest_of entry)) → (before : List A) (next : Next S) → WantsAByte (rest_of_next item rest_of before next)
wants_next item rest_of wants before (Count number) = wants_then (more_at item before) (wants_leb number)
wants_next item rest_of wants before (Entry entry behind) = wants_then (λ x. more_at item (before ++ x ∷ []) behind) (wants entry)

pub wants_vector : {S A : Type 0} (item : Reader A) (rest_of : S → Reader A) → ((entry : S) → WantsAByte (rest_of entry)) → (vector : VectorState S A) → WantsAByte (rest_of_vector item rest_of vector)
wants_vector item rest_of wants vector = wants_next item rest_of wants vector.before vector.next
