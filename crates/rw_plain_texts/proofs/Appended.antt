-- Bytes that are appended one behind the other.
use Rattle.std.proofs.Common.{◌≡◌, ◌∙◌, ℕ, List, [], ◌∷◌, ◌++◌, sym, ap, subst, append_assoc, append-nil, Result}
use Rattle.std.specs.Prelude.{OnOk, codes}
use Rattle.rich_writing.specs.Pieces.{spaced, in_parentheses}

pub both : (o n m a b : List ℕ) → n ≡ o ++ a → m ≡ n ++ b → m ≡ o ++ (a ++ b)
both o n m a b e f = f ∙ ap (λ (z : List ℕ). z ++ b) e ∙ append_assoc o a b

-- a form of a word and one more
pub form_of_one : (o n m r a b c : List ℕ) → n ≡ o ++ a → m ≡ n ++ b → r ≡ m ++ c → r ≡ o ++ (a ++ ((b ++ []) ++ c))
form_of_one o n m r a b c e f g = both o n r a (b ++ c) e (both n m r b c f g) ∙ ap (λ (z : List ℕ). o ++ (a ++ (z ++ c))) (sym (append-nil b))

-- a form of a word, another, and a list
pub form_of_many : (o n m r s a b c d : List ℕ) → n ≡ o ++ a → m ≡ n ++ b → r ≡ m ++ c → s ≡ r ++ d → s ≡ o ++ (a ++ ((b ++ c) ++ d))
form_of_many o n m r s a b c d e f g h =
    both o n s a (b ++ (c ++ d)) e (both n m s b (c ++ d) f (both m r s c d g h)) ∙ ap (λ (z : List ℕ). o ++ (a ++ z)) (sym (append_assoc b c d))

moved : (x y z w : List ℕ) → y ++ z ≡ w → (x ++ y) ++ z ≡ x ++ w
moved x y z w e = append_assoc x y z ∙ ap (λ (v : List ℕ). x ++ v) e

-- a block, from its signature and what stands in it
pub block_closed : (word a b c : List ℕ) (forms : List (List ℕ))
    → (codes "(" ++ (word ++ (codes " " ++ (a ++ (codes " " ++ (b ++ (codes " " ++ c))))))) ++ (spaced forms ++ codes ")") ≡ in_parentheses (word ∷ a ∷ b ∷ c ∷ forms)
block_closed word a b c forms =
    let r = spaced forms in
    let e = codes ")" in
    let more = 32 ∷ (c ++ (r ++ e)) in
    ap (λ (z : List ℕ). 40 ∷ z) (
    moved word (32 ∷ (a ++ (32 ∷ (b ++ (32 ∷ c))))) (r ++ e) (32 ∷ (a ++ (32 ∷ (b ++ more))))
    (ap (λ (z : List ℕ). 32 ∷ z) (moved a (32 ∷ (b ++ (32 ∷ c))) (r ++ e) (32 ∷ (b ++ more)) (ap (λ (z : List ℕ). 32 ∷ z) (append_assoc b (32 ∷ c) (r ++ e)))))
    ∙ ap (λ (z : List ℕ). word ++ z) (
    sym (ap (λ (z : List ℕ). 32 ∷ z) (moved a (32 ∷ (b ++ (32 ∷ (c ++ r)))) e (32 ∷ (b ++ more))
    (ap (λ (z : List ℕ). 32 ∷ z) (moved b (32 ∷ (c ++ r)) e more (ap (λ (z : List ℕ). 32 ∷ z) (append_assoc c r e))))))
    )
    )

-- a package, from its front and its types
pub package_closed : (head m q s t u : List ℕ)
    → (head ++ (m ++ (codes " " ++ (q ++ (codes " " ++ (s ++ codes " ")))))) ++ (t ++ (codes " " ++ (u ++ codes ")"))) ≡ head ++ ((m ++ spaced (q ∷ s ∷ t ∷ u ∷ [])) ++ codes ")")
package_closed head m q s t u =
    let e = codes ")" in
    let back = t ++ (32 ∷ (u ++ e)) in
    let sizes = 32 ∷ (s ++ (32 ∷ back)) in
    moved head (m ++ (32 ∷ (q ++ (32 ∷ (s ++ 32 ∷ []))))) back (m ++ (32 ∷ (q ++ sizes))) (
    moved m (32 ∷ (q ++ (32 ∷ (s ++ 32 ∷ [])))) back (32 ∷ (q ++ sizes))
    (ap (λ (z : List ℕ). 32 ∷ z) (moved q (32 ∷ (s ++ 32 ∷ [])) back sizes (ap (λ (z : List ℕ). 32 ∷ z) (append_assoc s (32 ∷ []) back))))
    )
    ∙ ap (λ (z : List ℕ). head ++ z) (
    sym (moved m (spaced (q ∷ s ∷ t ∷ u ∷ [])) e (32 ∷ (q ++ sizes)) (
    ap (λ (z : List ℕ). 32 ∷ z) (moved q (spaced (s ∷ t ∷ u ∷ [])) e sizes (
    ap (λ (z : List ℕ). 32 ∷ z) (moved s (spaced (t ∷ u ∷ [])) e (32 ∷ back) (
    ap (λ (z : List ℕ). 32 ∷ z) (moved t (spaced (u ∷ [])) e (32 ∷ (u ++ e)) (
    ap (λ (z : List ℕ). 32 ∷ z) (ap (λ (z : List ℕ). z ++ e) (append-nil u))
    ))
    ))
    ))
    ))
    )

pub package_written : {A E : Type 0} (r : Result A E) (x o n head m q s t u : List ℕ)
    → n ≡ o ++ (head ++ (m ++ (codes " " ++ (q ++ (codes " " ++ (s ++ codes " ")))))) → OnOk r (x ≡ n ++ (t ++ (codes " " ++ (u ++ codes ")"))))
    → OnOk r (x ≡ o ++ (head ++ ((m ++ spaced (q ∷ s ∷ t ∷ u ∷ [])) ++ codes ")")))
package_written r x o n head m q s t u e h =
    let front = head ++ (m ++ (codes " " ++ (q ++ (codes " " ++ (s ++ codes " "))))) in
    let back = t ++ (codes " " ++ (u ++ codes ")")) in
    subst (λ (z : List ℕ). OnOk r (x ≡ z)) (ap (λ (z : List ℕ). z ++ back) e ∙ append_assoc o front back ∙ ap (λ (z : List ℕ). o ++ z) (package_closed head m q s t u)) h
