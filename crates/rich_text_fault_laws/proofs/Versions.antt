-- The grammar of every text is that of version 1, the only one today.
use Rattle.std.proofs.Common.{◌≡◌, ℕ, List, refl, sym, inl, inr, Option, Some, None}
use Rattle.rich_text.specs.Tokens.{Token, Opening, Closing, Word, Quoted}
use Rattle.rich_text.specs.Grammars.{Grammar, Has}
use Rattle.rich_text.specs.Reading.{look_up}
use Rattle.rich_text.specs.FirstVersion.{first_version}
use Rattle.rich_text.specs.Texts.{versions, or_first, grammar_by}
use Rattle.rich_text_laws.proofs.Looking.{from_look}

known : (G : Grammar) (w : List ℕ) → Has versions w G → G ≡ first_version
known G w (inl h) = sym h.1
known G w (inr h) = absurd h

chosen : (w : List ℕ) (o : Option Grammar) → look_up w versions ≡ o → or_first o ≡ first_version
chosen w None e = refl
chosen w (Some G) e = known G w (from_look versions w G e)

pub by_token : (t : Option Token) → grammar_by t ≡ first_version
by_token None = refl
by_token (Some Opening) = refl
by_token (Some Closing) = refl
by_token (Some (Word w)) = chosen w (look_up w versions) refl
by_token (Some (Quoted n)) = refl
