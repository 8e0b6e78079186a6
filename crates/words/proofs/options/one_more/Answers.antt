use Rattle.std.proofs.Common.{subst}
use Rattle.words.specs.declared.options.Given.{Given}
use Rattle.words.specs.Reading.{AreGiven}
use Rattle.words.proofs.Values.{second, further}
use Rattle.words.proofs.options.one_more.Goals as goal

pub returns-in-Once : goal.returns-in-Once
returns-in-Once c values are = second c.in-Once.field-0.now c.args.value.now values (subst (λ (met : Given). AreGiven met values) c.in-Once.is are)

pub returns-in-Often : goal.returns-in-Often
returns-in-Often c values are = further c.args.value.now values (subst (λ (met : Given). AreGiven met values) c.in-Often.is are)
