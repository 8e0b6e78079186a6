use Rattle.rich_soundness_values.proofs.Typed.{forms, words_are, unr_has_none}
use Rattle.rich_soundness_values.proofs.typed_values.Goals as goal

pub returns-clause-forms : goal.returns-clause-forms
returns-clause-forms c = forms

pub returns-clause-words : goal.returns-clause-words
returns-clause-words c = words_are

pub returns-clause-rights : goal.returns-clause-rights
returns-clause-rights c = unr_has_none
