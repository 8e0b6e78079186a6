use Rattle.rich_text_token_laws.proofs.Whole.{lexed_are_tokens, no_other_tokens}
use Rattle.rich_text_token_laws.proofs.lexed_are_the_tokens.Goals as goal

pub returns-clause-are : goal.returns-clause-are
returns-clause-are c = lexed_are_tokens

pub returns-clause-only : goal.returns-clause-only
returns-clause-only c = no_other_tokens
