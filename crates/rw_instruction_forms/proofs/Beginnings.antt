-- An instruction by how it began.
use Rattle.std.proofs.Common.{◌≡◌, ℕ, List, sym, subst, Result, Ok, Err}
use Rattle.std.specs.Prelude.{true}
use Rattle.rich_text.specs.Forms.{Form, Meaning, instruction_form}
use Rattle.rich_text.specs.Grammars.{a_form}
use Rattle.rich_text.specs.Reading.{has_lists}
use Rattle.rich_text.specs.FirstVersion.{first_version}
use Rattle.rw_types.specs.declared.instrs.Instr.{Instr}
use Rattle.rw_parser.specs.declared.errors.ReadError.{ReadError}
use Rattle.rw_parser.specs.Reads.{Gave, Parse, Reads, a_part, behind_head}
use Rattle.rw_parser.proofs.Starts.{head_fails, head_gave}
use Rattle.rw_type_forms.specs.Heads.{Began}
use Rattle.rw_instruction_words.specs.declared.start.InstructionStart.{InstructionStart}
use Rattle.rw_instruction_words.specs.declared.start.InstructionStart.TheVariants.{Head, Whole}
use Rattle.rw_instruction_words.specs.declared.tables.BlockHead.{BlockHead}
use Rattle.rw_instruction_words.specs.declared.tables.InstructionHead.{InstructionHead}
use Rattle.rw_instruction_words.specs.declared.tables.WordInstruction.{WordInstruction}
use Rattle.rw_instruction_words.specs.Starts.{StartsInstruction}
use Rattle.rw_instruction_words.specs.Words.{block_word, head_word, instruction_of_word}

-- an instruction of one word
pub whole_instruction : {old new : Parse} (x : InstructionStart) {w : WordInstruction} {i : Instr} → x ≡ Whole w → i ≡ instruction_of_word w → StartsInstruction old new x → Gave (a_part (a_form instruction_form)) 0 old new i
whole_instruction {old} {new} x {w} {i} e q s =
    let P : InstructionStart → Type 0 = λ y. StartsInstruction old new y in
    let Q : Instr → Type 0 = λ y. Gave (a_part (a_form instruction_form)) 0 old new y in
    subst Q (sym q) (subst P e s)

-- one that begins with the word of a head
pub headed_instruction : {old new : Parse} (x : InstructionStart) {h k : InstructionHead} → x ≡ Head h → h ≡ k → StartsInstruction old new x → Began old new (head_word k)
headed_instruction {old} {new} x {h} {k} e q s =
    let P : InstructionStart → Type 0 = λ y. StartsInstruction old new y in
    let Q : InstructionHead → Type 0 = λ y. Began old new (head_word y) in
    subst Q q (subst P e s)

-- what was read behind a `(` and a word, as the whole of a form
pub began_reads : (s : Form) (w : List ℕ) (old mid new : Parse) (r : Result (Meaning s) ReadError) → has_lists (first_version s).heads (first_version s).plain ≡ true → Began old mid w → Reads (behind_head s w) 1 mid new r
    → Reads (a_part (a_form s)) 0 old new r
began_reads s w old mid new (Ok x) l b g = head_gave l b.head g
began_reads s w old mid new (Err e) l b g = head_fails l b.head g

-- what was read behind the word of a head
pub behind_block_word : (old new : Parse) (r : Result Instr ReadError) (h k : BlockHead) → h ≡ k → Reads (behind_head instruction_form (block_word k)) 1 old new r → Reads (behind_head instruction_form (block_word h)) 1 old new r
behind_block_word old new r h k e g = let P : BlockHead → Type 0 = λ y. Reads (behind_head instruction_form (block_word y)) 1 old new r in subst P (sym e) g

pub gave_block : {old new : Parse} {i : Instr} (h k : BlockHead) → h ≡ k → Gave (behind_head instruction_form (block_word k)) 1 old new i → Gave (behind_head instruction_form (block_word h)) 1 old new i
gave_block {old} {new} {i} h k e g = let P : BlockHead → Type 0 = λ y. Gave (behind_head instruction_form (block_word y)) 1 old new i in subst P (sym e) g
