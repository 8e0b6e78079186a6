-- Each lone module has a derivation or a violation of this form, and only one of them.
use Rattle.rich_typing.proofs.LoneModules.{lone_refused}
use Rattle.rich_typing.proofs.laws.lone_violations.Goals as goal

pub returns : goal.returns
returns c = lone_refused
