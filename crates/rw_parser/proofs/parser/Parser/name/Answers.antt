use Rattle.std.proofs.Common.{◌∙◌, sym, subst}
use Rattle.rich_text.specs.Grammars.{a_name}
use Rattle.rw_types.specs.Names.{IsName}
use Rattle.rw_parser.specs.Reads.{a_part}
use Rattle.rw_parser.proofs.Firsts.{handed}
use Rattle.rw_parser.proofs.NameTokens.{ended_at_name, other_at_name, took_name}
use Rattle.rw_parser.proofs.parser.Parser.name.Goals as goal

pub returns-in_err-symbol : goal.returns-in_err-symbol
returns-in_err-symbol c = handed (a_part a_name) 0 _ _ c.from_residual.result _ c.from_residual.ensures.1 (ended_at_name _ _ c.in_err-symbol.ensures.took)

pub returns-in_default : goal.returns-in_default
returns-in_default c = other_at_name _ _ _ _ c.in_ok-symbol.ensures.took c.in_default.not-Quoted c.bad_form.ensures

pub unreachable-requires : goal.unreachable-requires
unreachable-requires c =
    c.in_default-new.ensures (subst IsName (sym (c.in_ok-bytes.ensures.ok ∙ c.as_slice.ensures)) (took_name _ _ _ c.in-Quoted.quoted c.in_ok-symbol.ensures.took c.in-Quoted.is))
