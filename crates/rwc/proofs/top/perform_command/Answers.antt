use Rattle.std.proofs.Common.{sym, subst}
use Rattle.words.specs.declared.Command.{Command}
use Rattle.words.specs.Commands.{spelled_command}
use Rattle.rwc_acts.specs.Kept.{KeepsCommand}
use Rattle.rwc.proofs.top.perform_command.Goals as goal

pub returns-in-Build : goal.returns-in-Build
returns-in-Build g c =
    subst (λ (command : Command). KeepsCommand (spelled_command command) (g.S.Shelf.state c.args.shelf.now) (g.S.Shelf.state c.build.new.shelf) (g.O.Sink.state c.args.out.now) (g.O.Sink.state c.build.new.out) c.build.result)
    (sym c.in-Build.is) c.build.ensures

pub returns-in-Dump : goal.returns-in-Dump
returns-in-Dump g c =
    subst (λ (command : Command). KeepsCommand (spelled_command command) (g.S.Shelf.state c.args.shelf.now) (g.S.Shelf.state c.dump.new.shelf) (g.O.Sink.state c.args.out.now) (g.O.Sink.state c.dump.new.out) c.dump.result)
    (sym c.in-Dump.is) c.dump.ensures

pub returns-in-Run : goal.returns-in-Run
returns-in-Run g c =
    subst (λ (command : Command). KeepsCommand (spelled_command command) (g.S.Shelf.state c.args.shelf.now) (g.S.Shelf.state c.run.new.shelf) (g.O.Sink.state c.args.out.now) (g.O.Sink.state c.run.new.out) c.run.result)
    (sym c.in-Run.is) c.run.ensures

pub returns-in-Exec : goal.returns-in-Exec
returns-in-Exec g c =
    subst (λ (command : Command). KeepsCommand (spelled_command command) (g.S.Shelf.state c.args.shelf.now) (g.S.Shelf.state c.exec.new.shelf) (g.O.Sink.state c.args.out.now) (g.O.Sink.state c.exec.new.out) c.exec.result)
    (sym c.in-Exec.is) c.exec.ensures

pub returns-in-Show : goal.returns-in-Show
returns-in-Show g c =
    subst (λ (command : Command). KeepsCommand (spelled_command command) (g.S.Shelf.state c.args.shelf.now) (g.S.Shelf.state c.show.new.shelf) (g.O.Sink.state c.args.out.now) (g.O.Sink.state c.show.new.out) c.show.result)
    (sym c.in-Show.is) c.show.ensures
