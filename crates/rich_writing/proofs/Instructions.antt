-- Canonical texts of the instructions that code makes: one equation for each constructor with instructions in it.
use Rattle.std.proofs.Common.{◌≡◌, ◌∙◌, ℕ, List, [], ◌∷◌, refl, ap}
use Rattle.std.specs.Prelude.{map, codes}
use Rattle.rw_types.specs.declared.instrs.BlockSig.{BlockSig}
use Rattle.rw_types.specs.declared.instrs.Instr.{Instr, Row_of-Instr, end_of-Instr, more_of-Instr, items-the_row-Instr, items_hidden-the_row-Instr-0}
use Rattle.rw_types.specs.declared.instrs.Instr.TheVariants.{Block, Loop, If, MemUnpack, VariantCase, ExistUnpack}
use Rattle.rw_types.specs.declared.instrs.Instr.TheBlock.{hidden-the_row-Instr-0, hidden-the_row-Instr-VariantCase-1-1-1}
use Rattle.rich_writing.specs.Pieces.{in_parentheses}
use Rattle.rich_writing.specs.Instructions.{block_text, instruction_text, instruction_row_texts, arm_row_texts, arm_text}

row-items : {n : _} (row : Row_of-Instr n) → instruction_row_texts row ≡ map instruction_text (items-the_row-Instr _ row)
row-items end_of-Instr = refl
row-items (more_of-Instr i is) = ap (λ (l : List (List ℕ)). instruction_text i ∷ l) (row-items is)

row-hidden : (is : List Instr) → instruction_row_texts (hidden-the_row-Instr-0 is) ≡ map instruction_text is
row-hidden is = row-items (hidden-the_row-Instr-0 is) ∙ ap (map instruction_text) (items_hidden-the_row-Instr-0 is)

arms-hidden : (arms : List (List Instr)) → arm_row_texts (hidden-the_row-Instr-VariantCase-1-1-1 arms) ≡ map arm_text arms
unfolding hidden-the_row-Instr-VariantCase-1-1-1 hidden-the_row-Instr-0 denote.Hole.Carrier.hidden
arms-hidden [] = refl
arms-hidden (arm ∷ arms) =
    ap (λ (l : List (List ℕ)). in_parentheses l ∷ arm_row_texts (hidden-the_row-Instr-VariantCase-1-1-1 arms)) (row-hidden arm)
    ∙ ap (λ (l : List (List ℕ)). in_parentheses (map instruction_text arm) ∷ l) (arms-hidden arms)

pub text-Block : (sig : BlockSig) (is : List Instr) → instruction_text (Block sig is) ≡ block_text (codes "block") sig (map instruction_text is)
text-Block sig is = ap (block_text (codes "block") sig) (row-hidden is)

pub text-Loop : (sig : BlockSig) (is : List Instr) → instruction_text (Loop sig is) ≡ block_text (codes "loop") sig (map instruction_text is)
text-Loop sig is = ap (block_text (codes "loop") sig) (row-hidden is)

pub text-If : (sig : BlockSig) (first second : List Instr) → instruction_text (If sig first second) ≡ block_text (codes "if") sig (in_parentheses (codes "then" ∷ map instruction_text first) ∷ in_parentheses (codes "else" ∷ map instruction_text second) ∷ [])
text-If sig first second =
    ap (λ (l : List (List ℕ)). block_text (codes "if") sig (in_parentheses (codes "then" ∷ l) ∷ in_parentheses (codes "else" ∷ instruction_row_texts (hidden-the_row-Instr-0 second)) ∷ [])) (row-hidden first)
    ∙ ap (λ (l : List (List ℕ)). block_text (codes "if") sig (in_parentheses (codes "then" ∷ map instruction_text first) ∷ in_parentheses (codes "else" ∷ l) ∷ [])) (row-hidden second)

pub text-MemUnpack : (sig : BlockSig) (is : List Instr) → instruction_text (MemUnpack sig is) ≡ block_text (codes "mem.unpack") sig (map instruction_text is)
text-MemUnpack sig is = ap (block_text (codes "mem.unpack") sig) (row-hidden is)

pub text-ExistUnpack : (sig : BlockSig) (is : List Instr) → instruction_text (ExistUnpack sig is) ≡ block_text (codes "exist.unpack") sig (map instruction_text is)
text-ExistUnpack sig is = ap (block_text (codes "exist.unpack") sig) (row-hidden is)

pub text-VariantCase : (sig : BlockSig) (arms : List (List Instr)) → instruction_text (VariantCase sig arms) ≡ block_text (codes "variant.case") sig (map arm_text arms)
text-VariantCase sig arms = ap (block_text (codes "variant.case") sig) (arms-hidden arms)

pub ruleset instruction_forms = (text-Block, text-Loop, text-If, text-MemUnpack, text-VariantCase, text-ExistUnpack)
