-- A row, read from its last item on, in two parts.
use Rattle.std.proofs.Common.{◌≡◌, ℕ, ◌+◌, ◌≤◌, List, ◌++◌, length, take, drop, reverse, sym, ap, ◌∙◌, arith, append_assoc, length-append, length-drop}
use Rattle.std.proofs.lemmas.List.{take-append-drop, reverse-append, reverse-reverse, length-reverse, length-take-le}
use Rattle.std.proofs.Math.Seq.{drop-append_seam, take-append_seam}

module _ {A : Type 0} where
  -- the two parts at a place are the whole
  pub parts : (b : ℕ) (xs : List A) → reverse (drop b xs) ++ reverse (take b xs) ≡ reverse xs
  parts b xs = sym (reverse-append (take b xs) (drop b xs)) ∙ ap reverse (take-append-drop b xs)

  turned : (xs own beneath : List A) → reverse xs ≡ own ++ beneath → xs ≡ reverse beneath ++ reverse own
  turned xs own beneath e = sym (reverse-reverse xs) ∙ ap reverse e ∙ reverse-append own beneath

  -- the lower part has as many as lie beneath
  pub lower : (xs own beneath : List A) (b : ℕ) → reverse xs ≡ own ++ beneath → length beneath ≡ b → reverse (take b xs) ≡ beneath
  lower xs own beneath b e long =
      let n : b ≡ length (reverse beneath) = sym long ∙ sym (length-reverse beneath) in
      ap (λ (k : ℕ). reverse (take k xs)) n ∙ ap (λ (l : List A). reverse (take (length (reverse beneath)) l)) (turned xs own beneath e)
      ∙ ap reverse (take-append_seam (reverse beneath) (reverse own)) ∙ reverse-reverse beneath

  -- the upper part is what is left
  pub upper : (xs own beneath : List A) (b : ℕ) → reverse xs ≡ own ++ beneath → length beneath ≡ b → reverse (drop b xs) ≡ own
  upper xs own beneath b e long =
      let n : b ≡ length (reverse beneath) = sym long ∙ sym (length-reverse beneath) in
      ap (λ (k : ℕ). reverse (drop k xs)) n ∙ ap (λ (l : List A). reverse (drop (length (reverse beneath)) l)) (turned xs own beneath e)
      ∙ ap reverse (drop-append_seam (reverse beneath) (reverse own)) ∙ reverse-reverse own

  -- the whole, cut where so many lie on top
  cut : (xs : List A) (b count : ℕ) → reverse xs ≡ take count (reverse (drop b xs)) ++ (drop count (reverse (drop b xs)) ++ reverse (take b xs))
  cut xs b count =
      let own = reverse (drop b xs) in
      sym (parts b xs) ∙ ap (λ (l : List A). l ++ reverse (take b xs)) (sym (take-append-drop count own)) ∙ append_assoc (take count own) (drop count own) (reverse (take b xs))

  below : (xs : List A) (b : ℕ) → b ≤ length xs → length (reverse (take b xs)) ≡ b
  below xs b le = length-reverse (take b xs) ∙ length-take-le b xs le

  rest : (xs : List A) (b count n : ℕ) → count + b ≤ length xs → n + count ≡ length xs → length (drop count (reverse (drop b xs)) ++ reverse (take b xs)) ≡ n
  rest xs b count n le e =
      let own = reverse (drop b xs) in
      let high = length-reverse (drop b xs) ∙ length-drop b xs in
      length-append (drop count own) (reverse (take b xs)) ∙ omega (arith, below xs b (omega (arith, le)), high, length-drop count own, e, le)

  -- what lies beneath stays where the last items are taken away
  pub stays : (xs : List A) (b count n : ℕ) → count + b ≤ length xs → n + count ≡ length xs → reverse (take b (take n xs)) ≡ reverse (take b xs)
  stays xs b count n le e =
      let own = reverse (drop b xs) in
      let left = lower xs (take count own) (drop count own ++ reverse (take b xs)) n (cut xs b count) (rest xs b count n le e) in
      lower (take n xs) (drop count own) (reverse (take b xs)) b left (below xs b (omega (arith, le)))

  -- the upper part is then what is left of it
  pub fewer : (xs : List A) (b count n : ℕ) → count + b ≤ length xs → n + count ≡ length xs → reverse (drop b (take n xs)) ≡ drop count (reverse (drop b xs))
  fewer xs b count n le e =
      let own = reverse (drop b xs) in
      let left = lower xs (take count own) (drop count own ++ reverse (take b xs)) n (cut xs b count) (rest xs b count n le e) in
      upper (take n xs) (drop count own) (reverse (take b xs)) b left (below xs b (omega (arith, le)))

  -- the last items
  pub gone : (xs : List A) (b count n : ℕ) → count + b ≤ length xs → n + count ≡ length xs → drop n xs ≡ reverse (take count (reverse (drop b xs)))
  gone xs b count n le e =
      let own = reverse (drop b xs) in
      let above = upper xs (take count own) (drop count own ++ reverse (take b xs)) n (cut xs b count) (rest xs b count n le e) in
      sym (reverse-reverse (drop n xs)) ∙ ap reverse above
