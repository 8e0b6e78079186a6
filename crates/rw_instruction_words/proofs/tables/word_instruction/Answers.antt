use Rattle.std.proofs.Common.{◌≡◌, ◌∙◌, List, ℕ, ap, map, refl, option_map}
use Rattle.rich_text.specs.Instructions.{instruction_words}
use Rattle.rich_text.specs.Reading.{look_up}
use Rattle.rw_instruction_words.specs.Words.{instruction_of_word}
use Rattle.rw_instruction_words.specs.declared.tables.TheConstants.{WORDS}
use Rattle.rw_instruction_words.specs.declared.tables.WordInstruction.{WordInstruction}
use Rattle.rw_instruction_words.proofs.LookUps.{mapped}
use Rattle.rw_instruction_words.proofs.tables.word_instruction.Goals as goal

abbrev entries : List (List ℕ × WordInstruction)
entries = map (λ e. (e.0.now, e.1)) WORDS

same_words : map {A = List ℕ × WordInstruction} (λ e. (e.0, instruction_of_word e.1)) entries ≡ instruction_words
same_words = refl

pub returns : goal.returns
returns c =
    let e : c.look_up.result ≡ look_up c.args.word.now entries = c.look_up.ensures in
    ap (option_map instruction_of_word) e ∙ mapped instruction_of_word c.args.word.now entries ∙ ap (look_up c.args.word.now) same_words
