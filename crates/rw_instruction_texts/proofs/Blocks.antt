-- What was appended of a block, as its text.
use Rattle.std.proofs.Common.{◌≡◌, ◌∙◌, ℕ, List, [], ◌∷◌, ◌++◌, sym, ap, subst, append_assoc, append-nil, refl, Result}
use Rattle.std.specs.Prelude.{OnOk, codes, map}
use Rattle.rw_types.specs.declared.instrs.BlockSig.{BlockSig}
use Rattle.rw_types.specs.declared.instrs.Instr.{Instr}
use Rattle.rw_types.specs.declared.instrs.Instr.TheVariants.{If}
use Rattle.rich_writing.specs.Pieces.{spaced, in_parentheses}
use Rattle.rich_writing.specs.Types.{local_text, type_text}
use Rattle.rich_writing.specs.Instructions.{instruction_text}
use Rattle.rich_writing.proofs.Instructions.{text-If}
use Rattle.rw_plain_texts.proofs.Appended.{both, block_closed}

pub block_written : (o n m r word a b c : List ℕ) (forms : List (List ℕ))
    → n ≡ o ++ (codes "(" ++ (word ++ (codes " " ++ (a ++ (codes " " ++ (b ++ (codes " " ++ c))))))) → m ≡ n ++ spaced forms → r ≡ m ++ codes ")"
    → r ≡ o ++ in_parentheses (word ∷ a ∷ b ∷ c ∷ forms)
block_written o n m r word a b c forms e f g =
    let front = codes "(" ++ (word ++ (codes " " ++ (a ++ (codes " " ++ (b ++ (codes " " ++ c)))))) in
    both o n r front (spaced forms ++ codes ")") e (both n m r (spaced forms) (codes ")") f g)
    ∙ ap (λ (z : List ℕ). o ++ z) (block_closed word a b c forms)

-- the two lists of an `if`
pub if_closed : (o n x word a b c first second : List ℕ)
    → n ≡ o ++ ((codes "(" ++ (word ++ (codes " " ++ (a ++ (codes " " ++ (b ++ (codes " " ++ c))))))) ++ (codes " " ++ first)) → x ≡ n ++ ((codes " " ++ second) ++ codes ")")
    → x ≡ o ++ in_parentheses (word ∷ a ∷ b ∷ c ∷ first ∷ second ∷ [])
if_closed o n x word a b c first second e f =
    let front = codes "(" ++ (word ++ (codes " " ++ (a ++ (codes " " ++ (b ++ (codes " " ++ c)))))) in
    let third = codes " " ++ first in
    let fourth = (codes " " ++ second) ++ codes ")" in
    both o n x (front ++ third) fourth e f
    ∙ ap (λ (z : List ℕ). o ++ z) (append_assoc front third fourth)
    ∙ ap (λ (z : List ℕ). o ++ (front ++ z)) (
    ap (λ (z : List ℕ). third ++ ((32 ∷ z) ++ codes ")")) (sym (append-nil second))
    ∙ sym (append_assoc third (spaced (second ∷ [])) (codes ")"))
    )
    ∙ ap (λ (z : List ℕ). o ++ z) (block_closed word a b c (first ∷ second ∷ []))

-- what was appended, as the text of an instruction
pub written : {A E : Type 0} (r : Result A E) (x y b : List ℕ) (i j : Instr) → i ≡ j → instruction_text j ≡ b → OnOk r (x ≡ y ++ b) → OnOk r (x ≡ y ++ instruction_text i)
written r x y b i j e f h = subst (λ (z : List ℕ). OnOk r (x ≡ y ++ z)) (sym f ∙ ap instruction_text (sym e)) h

-- an `if` with its two lists
pub if_written : {A E : Type 0} (r : Result A E) (o n x : List ℕ) (i : Instr) (sig : BlockSig) (f s : List Instr)
    → i ≡ If sig f s
    → n ≡ o ++ ((codes "(" ++ (codes "if" ++ (codes " " ++ (in_parentheses (map type_text sig.params) ++ (codes " " ++ (in_parentheses (map type_text sig.results) ++ (codes " " ++ in_parentheses (map local_text sig.locals)))))))) ++ (codes " " ++ in_parentheses (codes "then" ∷ map instruction_text f)))
    → OnOk r (x ≡ n ++ ((codes " " ++ in_parentheses (codes "else" ∷ map instruction_text s)) ++ codes ")"))
    → OnOk r (x ≡ o ++ instruction_text i)
if_written r o n x i sig f s is e h =
    let first = in_parentheses (codes "then" ∷ map instruction_text f) in
    let second = in_parentheses (codes "else" ∷ map instruction_text s) in
    let a = in_parentheses (map type_text sig.params) in
    let b = in_parentheses (map type_text sig.results) in
    let c = in_parentheses (map local_text sig.locals) in
    subst (λ (z : List ℕ). OnOk r (x ≡ z)) (
    if_closed o n (n ++ ((codes " " ++ second) ++ codes ")")) (codes "if") a b c first second e refl
    ∙ ap (λ (z : List ℕ). o ++ z) (sym (text-If sig f s) ∙ ap instruction_text (sym is))
    ) h
