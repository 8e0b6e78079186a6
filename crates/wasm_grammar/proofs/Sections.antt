-- Joining and measuring sections, over plain lists.
use Rattle.std.proofs.Common.{◌≡◌, ◌++◌, ◌≤◌, ◌<◌, List, [], ◌∷◌, ℕ, zero, suc, length, get_or, refl, append_assoc, arith, length-append}
use Rattle.std.specs.List.{flat_map}
use Rattle.wasm_leb.specs.Leb.{unsigned_least}
use Rattle.wasm_grammar.specs.CanonicalTypes.{vector_bytes}

-- what was appended piece by piece: the preamble and eleven sections
pub joined_sections : (preamble s1 s2 s3 s4 s5 s6 s7 s8 s9 s10 s11 start o0 o1 o2 o3 o4 o5 o6 o7 o8 o9 o10 o11 : List ℕ)
    → o11 ≡ o10 ++ s11 → o10 ≡ o9 ++ s10 → o9 ≡ o8 ++ s9 → o8 ≡ o7 ++ s8 → o7 ≡ o6 ++ s7 → o6 ≡ o5 ++ s6
    → o5 ≡ o4 ++ s5 → o4 ≡ o3 ++ s4 → o3 ≡ o2 ++ s3 → o2 ≡ o1 ++ s2 → o1 ≡ o0 ++ s1 → o0 ≡ start ++ preamble → start ≡ []
    → o11 ≡ preamble ++ (s1 ++ (s2 ++ (s3 ++ (s4 ++ (s5 ++ (s6 ++ (s7 ++ (s8 ++ (s9 ++ (s10 ++ s11))))))))))
joined_sections preamble s1 s2 s3 s4 s5 s6 s7 s8 s9 s10 s11 start o0 o1 o2 o3 o4 o5 o6 o7 o8 o9 o10 o11 e11 e10 e9 e8 e7 e6 e5 e4 e3 e2 e1 e0 e =
    simp (append_assoc, e11, e10, e9, e8, e7, e6, e5, e4, e3, e2, e1, e0, e) refl

length-flat_map-entry : {X : Type 0} (entry : X → List ℕ) (xs : List X) (k : ℕ) (d : X) → k < length xs → length (entry (get_or xs k d)) ≤ length (flat_map entry xs)
length-flat_map-entry entry [] k d h = absurd (omega arith)
length-flat_map-entry entry (x ∷ xs) zero d h = omega (arith, length-append (entry x) (flat_map entry xs))
length-flat_map-entry entry (x ∷ xs) (suc k) d h =
    let within : k < length xs = omega arith in
    let rest = length-flat_map-entry entry xs k d within in
    omega (arith, length-append (entry x) (flat_map entry xs), rest)

-- an entry of a vector is no longer than the vector
pub length-vector-entry : {X : Type 0} (entry : X → List ℕ) (xs : List X) (k : ℕ) (d : X) → k < length xs → length (entry (get_or xs k d)) ≤ length (vector_bytes entry xs)
length-vector-entry entry xs k d h =
    let within = length-flat_map-entry entry xs k d h in
    let count = unsigned_least 5 (length xs) in
    omega (arith, within, length-append count (flat_map entry xs))
