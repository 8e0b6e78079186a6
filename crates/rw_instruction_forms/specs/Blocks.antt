-- The fields of instructions that hold instructions (this project's own).
use Rattle.rich_text.specs.Forms.{else_form, instruction_form, then_form}
use Rattle.rich_text.specs.Grammars.{Fields, a_form, done, many, one}
use Rattle.rw_plain_forms.specs.Signatures.{signature_before}

-- those of blocks: a signature, and instructions
abbrev pub block_fields : Fields
block_fields = signature_before (many (a_form instruction_form))

-- the branches of an `if`
abbrev pub branch_fields : Fields
branch_fields = one (a_form then_form) (one (a_form else_form) done)
