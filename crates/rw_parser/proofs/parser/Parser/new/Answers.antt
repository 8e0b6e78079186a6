use Rattle.std.proofs.Common.{sym, subst}
use Rattle.rich_text.specs.Lexing.{lexed}
use Rattle.rw_tokens.specs.Streams.{Left, ahead}
use Rattle.rw_parser.specs.Reads.{IsEnd}
use Rattle.rw_parser.proofs.Ends.{end_self}
use Rattle.rw_parser.proofs.parser.Parser.new.Goals as goal

pub invariant_of-result : goal.invariant_of-result
invariant_of-result c =
    let P : Left → Type 0 = λ l. IsEnd (lexed c.args.text.now) (ahead l) in subst P (sym c.new.ensures) (end_self (lexed c.args.text.now))
