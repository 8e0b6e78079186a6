-- How an instruction begins (this project's own).
use Rattle.rich_text.specs.Forms.{instruction_form}
use Rattle.rich_text.specs.Grammars.{a_form}
use Rattle.rw_parser.specs.Reads.{Gave, Parse, a_part}
use Rattle.rw_type_forms.specs.Heads.{Began}
use Rattle.rw_instruction_words.specs.Words.{head_word, instruction_of_word}
use Rattle.rw_instruction_words.specs.declared.start.InstructionStart.{InstructionStart}
use Rattle.rw_instruction_words.specs.declared.start.InstructionStart.TheVariants.{Head, Whole}

-- an instruction of one word was read, or a `(` and its word were taken off
abbrev pub StartsInstruction : Parse → Parse → InstructionStart → Type 0
StartsInstruction old new (Whole w) = Gave (a_part (a_form instruction_form)) 0 old new (instruction_of_word w)
StartsInstruction old new (Head h) = Began old new (head_word h)
