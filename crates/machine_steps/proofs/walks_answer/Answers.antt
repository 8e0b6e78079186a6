use Rattle.machine_steps.proofs.Walks.{answers_by, stops_by, ends_by}
use Rattle.machine_steps.proofs.walks_answer.Goals as goal

pub returns-clause-goes : goal.returns-clause-goes
returns-clause-goes g c ds ds' es a a' b goes w falls =
    let s = g.S.Simulation in
    answers_by s.fits s.meets s.holds s.source s.target s.related s.size {ds = ds} {ds' = ds'} {es = es} {a = a} {a' = a'} {b = b} goes w falls

pub returns-clause-stops : goal.returns-clause-stops
returns-clause-stops g c ds ds' after last es e b w =
    let s = g.S.Simulation in
    stops_by s.fits s.meets s.holds s.source s.target s.related s.size {ds = ds} {ds' = ds'} {after = after} {last = last} {e = e} {es = es} {b = b} w

pub returns-clause-ends : goal.returns-clause-ends
returns-clause-ends g c ds ds' last es e b w =
    let s = g.S.Simulation in
    ends_by s.fits s.meets s.holds s.source s.target s.related s.size {ds = ds} {ds' = ds'} {last = last} {e = e} {es = es} {b = b} w
