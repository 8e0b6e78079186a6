-- A byte that lies in a custom section is taken: it is its id, a byte of its size, or a byte of its content.
use Rattle.std.proofs.Common.{◌≡◌, ◌∙◌, ℕ, ◌+◌, ◌<◌, List, [], ◌∷◌, ◌++◌, length, take, drop, get_or, append-nil, append_assoc, length-append, take-append-drop, refl, ap, sym, subst, arith, ◌⊎◌, inl, inr}
use Rattle.std.proofs.lemmas.List.{drop_more}
use Rattle.std.specs.Prelude.{Err}
use Rattle.wasm_grammar.specs.GrammarValues.{IsUnsigned}
use Rattle.wasm_grammar.specs.GrammarModules.{IsCustomSection}
use Rattle.wasm_reading.specs.declared.fault.DecodeError.{DecodeError}
use Rattle.wasm_decode.specs.declared.state.DecoderState.{DecoderState}
use Rattle.wasm_decode.specs.Steps.{custom_bytes}
use Rattle.wasm_decode.specs.CustomSections.{EndsBetweenSections, EndsInCustomContent, LiesInCustomSection}
use Rattle.wasm_decode.specs.CustomSteps.{IsInSize}
use Rattle.wasm_decode.specs.Decoding.{StandsBehind}
use Rattle.wasm_decode.proofs.Decoding.{custom_no_error}
use Rattle.wasm_decode.proofs.CustomSections.{StepsOn, is_between}

-- an element stands in the first or the second of two lists
abbrev StandsIn : (xs us ys vs : List ℕ) (b : ℕ) → Type 0
StandsIn xs us ys vs b = ((left : List ℕ) × (us ≡ xs ++ b ∷ left)) ⊎ ((begun : List ℕ) × (xs ≡ us ++ begun) × (vs ≡ begun ++ b ∷ ys))

behind_first : (x u : ℕ) (xs us ys vs : List ℕ) (b : ℕ) → u ≡ x → StandsIn xs us ys vs b → StandsIn (x ∷ xs) (u ∷ us) ys vs b
behind_first x u xs us ys vs b same (inl found) = inl (found.0, ap (λ (y : ℕ). y ∷ us) same ∙ ap (λ (zs : List ℕ). x ∷ zs) found.1)
behind_first x u xs us ys vs b same (inr found) = inr (found.0, ap (λ (y : ℕ). y ∷ xs) (sym same) ∙ ap (λ (zs : List ℕ). u ∷ zs) found.1, found.2)

stands_in : (xs us ys vs : List ℕ) (b : ℕ) → xs ++ b ∷ ys ≡ us ++ vs → StandsIn xs us ys vs b
stands_in xs [] ys vs b e = inr (xs, refl, sym e)
stands_in [] (u ∷ us) ys vs b e =
    let both : b ∷ ys ≡ u ∷ (us ++ vs) = e in
    let same : u ≡ b = cc in
    inl (us, ap (λ (y : ℕ). y ∷ us) same)
stands_in (x ∷ xs) (u ∷ us) ys vs b e =
    let both : x ∷ (xs ++ b ∷ ys) ≡ u ∷ (us ++ vs) = e in
    let same : u ≡ x = cc in
    let rest : xs ++ b ∷ ys ≡ us ++ vs = cc in
    behind_first x u xs us ys vs b same (stands_in xs us ys vs b rest)

module _ (d : DecoderState) (b : ℕ) (e : DecodeError) (fed front : List ℕ) (on : StepsOn d.step b d.at (Err e)) (s : StandsBehind d fed) (between : EndsBetweenSections front) where
  in_id : fed ≡ front → b ≡ 0x00 → ⊥
  in_id same zero = on.begins zero (is_between d fed s.whole s.resumes (subst EndsBetweenSections (sym same) between))

  in_size : (left : List ℕ) (n : ℕ) → IsInSize d.step d.at (b ∷ left) n → ⊥
  in_size left n (inl found) = on.sized found.0 found.1 left n found.2
  in_size left n (inr over) = let none : b ∷ left ≡ [] = over.0 in absurd (cc)

  in_content : (n : ℕ) → EndsInCustomContent fed n → 0 < n → ⊥
  in_content n ends some =
      let left : custom_bytes d.step ≡ n = s.in_content n ends in
      custom_no_error d.step e on.custom (omega (arith, left, some))

  -- behind the id
  in_section : (begun left size content : List ℕ) → fed ≡ front ++ 0x00 ∷ begun → IsUnsigned (length content) size → StandsIn begun size left content b → ⊥
  in_section begun left size content is measured (inl found) =
      in_size found.0 (length content) (s.in_size front begun (b ∷ found.0) (length content) between is (subst (IsUnsigned (length content)) found.1 measured))
  in_section begun left size content is measured (inr found) =
      let long : length content ≡ length found.0 + length (b ∷ left) = ap length found.2 ∙ length-append found.0 (b ∷ left) in
      in_content (length (b ∷ left))
      (record {
        front = front;
        size = size;
        content = found.0;
        between = between;
        measured = subst (λ (n : ℕ). IsUnsigned n size) long measured;
        whole = is ∙ ap (λ (xs : List ℕ). front ++ 0x00 ∷ xs) found.1;
      })
      (omega arith)

  in_custom : (begun left size content : List ℕ) → fed ≡ front ++ begun → begun ++ b ∷ left ≡ 0x00 ∷ (size ++ content) → IsUnsigned (length content) size → ⊥
  in_custom [] left size content is section measured =
      let both : b ∷ left ≡ 0x00 ∷ (size ++ content) = section in
      in_id (is ∙ append-nil front) cc
  in_custom (x ∷ begun) left size content is section measured =
      let both : x ∷ (begun ++ b ∷ left) ≡ 0x00 ∷ (size ++ content) = section in
      let zero : x ≡ 0x00 = cc in
      let rest : begun ++ b ∷ left ≡ size ++ content = cc in
      in_section begun left size content (is ∙ ap (λ (y : ℕ). front ++ y ∷ begun) zero) measured (stands_in begun size left content b rest)

-- a byte that lies in a custom section has no fault
pub no_error_in_custom : (d : DecoderState) (b : ℕ) (e : DecodeError) (fed : List ℕ) → StepsOn d.step b d.at (Err e) → StandsBehind d fed → LiesInCustomSection fed (b ∷ []) → ⊥
no_error_in_custom d b e fed on s lies =
    let sized = lies.spelled.second in
    let section : lies.begun ++ b ∷ lies.left ≡ 0x00 ∷ (sized.size ++ sized.content) =
    lies.spelled.whole ∙ ap (λ (xs : List ℕ). xs ++ lies.spelled.back) lies.spelled.first ∙ ap (λ (xs : List ℕ). 0x00 ∷ xs) sized.whole in
    in_custom d b e fed lies.front on s lies.between lies.begun lies.left sized.size sized.content lies.whole section sized.measured

-- each byte of a piece that lies in a custom section lies in it
pub lies_at : (fed piece : List ℕ) (i x : ℕ) → i < length piece → LiesInCustomSection fed piece → LiesInCustomSection (fed ++ take i piece) (get_or piece i x ∷ [])
lies_at fed piece i x less lies =
    let split : piece ≡ take i piece ++ get_or piece i x ∷ drop (i + 1) piece = sym (take-append-drop i piece) ∙ ap (λ (xs : List ℕ). take i piece ++ xs) (drop_more piece i x less) in
    let joined : lies.begun ++ (piece ++ lies.left) ≡ (lies.begun ++ take i piece) ++ get_or piece i x ∷ (drop (i + 1) piece ++ lies.left) =
    ap (λ (xs : List ℕ). lies.begun ++ (xs ++ lies.left)) split
    ∙ ap (λ (xs : List ℕ). lies.begun ++ xs) (append_assoc (take i piece) (get_or piece i x ∷ drop (i + 1) piece) lies.left)
    ∙ sym (append_assoc lies.begun (take i piece) (get_or piece i x ∷ (drop (i + 1) piece ++ lies.left))) in
    record {
      front = lies.front;
      begun = lies.begun ++ take i piece;
      left = drop (i + 1) piece ++ lies.left;
      content = lies.content;
      between = lies.between;
      spelled = subst (IsCustomSection lies.content) joined lies.spelled;
      whole = ap (λ (xs : List ℕ). xs ++ take i piece) lies.whole ∙ append_assoc lies.front lies.begun (take i piece);
    }
