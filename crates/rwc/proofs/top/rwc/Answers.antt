use Rattle.rwc.proofs.Called.{called, may_answer, untouched, uncreated, words_refused, not_plain, read_fails, write_fails, by_report}
use Rattle.rwc_reports.proofs.Answering.{puts_text, reported, complete, caused, built}
use Rattle.rwc.proofs.top.rwc.Goals as goal

pub returns-clause-outcome : goal.returns-clause-outcome
returns-clause-outcome g c told is = called _ _ _ _ _ _ _ _ _ told is c.perform-ended.ensures c.answer.ensures

pub returns-clause-text : goal.returns-clause-text
returns-clause-text g c told job is right =
    let ends = called _ _ _ _ _ _ _ _ _ told is c.perform-ended.ensures c.answer.ensures in
    puts_text _ told _ _ _ _ _ _ job right (by_report _ told _ _ _ _ _ _ _ ends) ends.tells.same

pub returns-clause-reported : goal.returns-clause-reported
returns-clause-reported g c told is four five eight =
    let ends = called _ _ _ _ _ _ _ _ _ told is c.perform-ended.ensures c.answer.ensures in
    reported _ told _ _ _ _ _ _ (by_report _ told _ _ _ _ _ _ _ ends) ends.tells.same four five eight

pub returns-clause-complete : goal.returns-clause-complete
returns-clause-complete g c told job is right four five =
    let ends = called _ _ _ _ _ _ _ _ _ told is c.perform-ended.ensures c.answer.ensures in
    complete _ told _ _ _ _ _ _ job right (by_report _ told _ _ _ _ _ _ _ ends) ends.tells.same four five

pub returns-clause-cause : goal.returns-clause-cause
returns-clause-cause g c told is refusal =
    let ends = called _ _ _ _ _ _ _ _ _ told is c.perform-ended.ensures c.answer.ensures in
    caused _ told _ _ _ _ _ _ _ _ (by_report _ told _ _ _ _ _ _ _ ends) refusal ends.tells

pub returns-clause-headline : goal.returns-clause-headline
returns-clause-headline g c lin unr name said source told created plain is begun heard zero =
    let ends = called _ _ _ _ _ _ _ _ _ told is c.perform-ended.ensures c.answer.ensures in
    built told lin unr name said source created (g.S.Shelf.state c.args.shelf.now) (g.S.Shelf.state c.perform-ended.new.shelf) (g.O.Sink.state c.args.out.now) (g.O.Sink.state c.perform-ended.new.out) _ _ _ _ _ plain (by_report _ told _ _ _ _ _ _ _ ends) ends.tells.same zero begun heard

pub returns-clause-answered : goal.returns-clause-answered
returns-clause-answered g c = may_answer _ _ _ _ _ _ _ _ _ c.perform-ended.ensures c.answer.ensures

pub returns-clause-untouched : goal.returns-clause-untouched
returns-clause-untouched g c zero five six seven eight = untouched _ _ _ _ _ _ _ _ _ c.perform-ended.ensures c.answer.ensures zero five six seven eight

pub returns-clause-created : goal.returns-clause-created
returns-clause-created g c zero five eight = uncreated _ _ _ _ _ _ _ _ _ c.perform-ended.ensures c.answer.ensures zero five eight

pub returns-clause-words_refused : goal.returns-clause-words_refused
returns-clause-words_refused g c two = words_refused _ _ _ _ _ _ _ _ _ c.perform-ended.ensures c.answer.ensures two

pub returns-clause-not_plain : goal.returns-clause-not_plain
returns-clause-not_plain g c none = not_plain _ _ _ _ _ _ _ _ _ c.perform-ended.ensures c.answer.ensures none

pub returns-clause-read_fault : goal.returns-clause-read_fault
returns-clause-read_fault g c four = read_fails _ _ _ _ _ _ _ _ _ c.perform-ended.ensures c.answer.ensures four

pub returns-clause-write_fault : goal.returns-clause-write_fault
returns-clause-write_fault g c five = write_fails _ _ _ _ _ _ _ _ _ c.perform-ended.ensures c.answer.ensures five
