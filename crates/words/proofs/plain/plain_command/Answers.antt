use Rattle.std.proofs.Common.{List, ℕ, string_bytes, ap, sym, ◌∙◌, subst}
use Rattle.std.specs.Prelude.{codes}
use Rattle.std.specs.Option.{option_map}
use Rattle.words.specs.Commands.{spelled_command}
use Rattle.words.specs.Found.{Finds}
use Rattle.words.specs.Words.{SpellsCommand}
use Rattle.words.proofs.Spelling.{front_is}
use Rattle.words.proofs.plain.plain_command.Goals as goal

pub returns-in-build-clause-command : goal.returns-in-build-clause-command
returns-in-build-clause-command c =
    let are = front_is string_bytes c.command-item.result c.args.words.now (codes "build") c.in-len1-up.len_at_least (ap string_bytes (sym c.command-item.is) ∙ sym c.as_str.ensures.value ∙ c.in-build.is) in
    subst (λ (w : List (List ℕ)). Finds (SpellsCommand w) (option_map spelled_command c.plain_build.result)) (sym are) c.plain_build.ensures.command

pub returns-in-run-clause-command : goal.returns-in-run-clause-command
returns-in-run-clause-command c =
    let are = front_is string_bytes c.command-item.result c.args.words.now (codes "run") c.in-len1-up.len_at_least (ap string_bytes (sym c.command-item.is) ∙ sym c.as_str.ensures.value ∙ c.in-run.is) in
    subst (λ (w : List (List ℕ)). Finds (SpellsCommand w) (option_map spelled_command c.plain_run.result)) (sym are) c.plain_run.ensures.command

pub returns-in-exec-clause-command : goal.returns-in-exec-clause-command
returns-in-exec-clause-command c =
    let are = front_is string_bytes c.command-item.result c.args.words.now (codes "exec") c.in-len1-up.len_at_least (ap string_bytes (sym c.command-item.is) ∙ sym c.as_str.ensures.value ∙ c.in-exec.is) in
    subst (λ (w : List (List ℕ)). Finds (SpellsCommand w) (option_map spelled_command c.plain_exec.result)) (sym are) c.plain_exec.ensures.command

pub returns-in-show-clause-command : goal.returns-in-show-clause-command
returns-in-show-clause-command c =
    let are = front_is string_bytes c.command-item.result c.args.words.now (codes "show") c.in-len1-up.len_at_least (ap string_bytes (sym c.command-item.is) ∙ sym c.as_str.ensures.value ∙ c.in-show.is) in
    subst (λ (w : List (List ℕ)). Finds (SpellsCommand w) (option_map spelled_command c.plain_show.result)) (sym are) c.plain_show.ensures.command

pub returns-in-dump-clause-command : goal.returns-in-dump-clause-command
returns-in-dump-clause-command c =
    let are = front_is string_bytes c.command-item.result c.args.words.now (codes "dump") c.in-len1-up.len_at_least (ap string_bytes (sym c.command-item.is) ∙ sym c.as_str.ensures.value ∙ c.in-dump.is) in
    subst (λ (w : List (List ℕ)). Finds (SpellsCommand w) (option_map spelled_command c.plain_dump.result)) (sym are) c.plain_dump.ensures.command
