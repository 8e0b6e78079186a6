use Rattle.std.proofs.Common.{◌++◌}
use Rattle.std.specs.Prelude.{codes, map}
use Rattle.rich_writing.specs.Pieces.{in_parentheses}
use Rattle.rich_writing.specs.Types.{local_text, type_text}
use Rattle.rw_plain_texts.proofs.Appended.{both}
use Rattle.rw_plain_texts.proofs.signature.push_signature.Goals as goal

pub returns : goal.returns
returns c =
    let word = c.args.word.now in
    let params = codes " " ++ in_parentheses (map type_text c.args.sig.now.params) in
    let results = codes " " ++ in_parentheses (map type_text c.args.sig.now.results) in
    let locals = codes " " ++ in_parentheses (map local_text c.args.sig.now.locals) in
    both _ _ _ (codes "(") (word ++ (params ++ (results ++ locals))) c.in_ok-push.ensures.items
    (both _ _ _ word (params ++ (results ++ locals)) c.in_ok-extend_from_slice.ensures.items
    (both _ _ _ params (results ++ locals) c.in_ok-push_behind_space.ensures
    (both _ _ _ results locals c.in_ok-push_behind_space-2.ensures c.in_ok-push_behind_space-3.ensures)))
