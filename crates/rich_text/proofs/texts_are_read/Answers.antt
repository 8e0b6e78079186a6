use Rattle.rich_text.proofs.Rows.{module_read, module_shown, shown_again, empty, comments, comment_at_end, touching, constants, forms, full_forms, operators, types, names}
use Rattle.rich_text.proofs.texts_are_read.Goals as goal

pub returns : goal.returns
returns c = record { module_read = module_read; module_shown = module_shown; shown_again = shown_again; empty = empty; comments = comments; comment_at_end = comment_at_end; touching = touching; constants = constants; forms = forms; full_forms = full_forms; operators = operators; types = types; names = names }
