use Rattle.std.proofs.Common.{◌≡◌, List, ℕ, Option, None, map, refl, sym, subst}
use Rattle.std.specs.Prelude.{MatchOption}
use Rattle.rich_text.specs.Instructions.{instruction_heads}
use Rattle.rich_text.specs.Reading.{look_up}
use Rattle.rw_instruction_words.specs.Words.{head_word}
use Rattle.rw_instruction_words.specs.declared.tables.TheConstants.{HEADS}
use Rattle.rw_instruction_words.specs.declared.tables.InstructionHead.{InstructionHead}
use Rattle.rw_instruction_words.proofs.LookUps.{named}
use Rattle.rw_instruction_words.proofs.tables.instruction_head.Goals as goal

abbrev entries : List (List ℕ × InstructionHead)
entries = map (λ e. (e.0.now, e.1)) HEADS

pub returns : goal.returns
returns c =
    let e : c.look_up.result ≡ look_up c.args.word.now entries = c.look_up.ensures in
    let P : Option InstructionHead → Type 0 = λ o. MatchOption o (look_up c.args.word.now instruction_heads ≡ None) (λ h. c.args.word.now ≡ head_word h) in
    subst P (sym e) (named head_word c.args.word.now entries instruction_heads refl refl)
