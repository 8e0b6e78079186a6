use Rattle.std.proofs.Common.{◌≤◌, length, take, subst, arith}
use Rattle.wasm_levels.specs.declared.row.Aim.{Aim}
use Rattle.wasm_levels.specs.Lists.{takes_of}
use Rattle.wasm_list_steps.proofs.Landing.{carried, cut_back, kept, kept-past, laid-here, shorter, past-lands, back-lands}
use Rattle.wasm_list_steps.proofs.lists.branch.Goals as goal

pub carry-requires-clause-given : goal.carry-requires-clause-given
carry-requires-clause-given c =
    let l = c.get-list.result in
    let P : Aim → Type 0 = λ a. takes_of a l.gives ≤ length c.args.values.now.own in
    subst P c.in-Past.is (c.requires.enough l c.get-list.ensures)

pub carry-requires-clause-beneath : goal.carry-requires-clause-beneath
carry-requires-clause-beneath c =
    omega (arith, laid-here c.args.n c.args.levels.now.own c.args.values.now.beneath c.get-list.result c.get-list.ensures c.requires.laid, c.height-height.ensures)

pub carry-requires-clause-there : goal.carry-requires-clause-there
carry-requires-clause-there c = omega (arith, shorter (take c.args.n c.args.levels.now.own) c.args.values.now.beneath, c.height-height.ensures)

pub cut-requires-clause-there : goal.cut-requires-clause-there
cut-requires-clause-there c = omega (arith, shorter (take c.args.n c.args.levels.now.own) c.args.values.now.beneath, c.height-height.ensures)

pub returns-in-Past-clause-does : goal.returns-in-Past-clause-does
returns-in-Past-clause-does c =
    let l = c.get-list.result in
    let before = c.args.values.now in
    let P : Aim → Type 0 = λ a. takes_of a l.gives ≤ length before.own in
    let enough = subst P c.in-Past.is (c.requires.enough l c.get-list.ensures) in
    let done = carried c.args.n l before c.carry.new.values c.args.levels.now.own c.height-height.result c.get-list.ensures c.requires.laid enough c.height-height.ensures c.carry.ensures in
    past-lands c.args.n before c.carry.new.values c.args.levels.now c.close.new.self l c.get-list.ensures done.taken done.rest c.in-Past.is c.close.ensures.own done.split done.long done.own done.beneath

pub returns-in-Past-clause-stays : goal.returns-in-Past-clause-stays
returns-in-Past-clause-stays c =
    let l = c.get-list.result in
    let before = c.args.values.now in
    let P : Aim → Type 0 = λ a. takes_of a l.gives ≤ length before.own in
    let enough = subst P c.in-Past.is (c.requires.enough l c.get-list.ensures) in
    let done = carried c.args.n l before c.carry.new.values c.args.levels.now.own c.height-height.result c.get-list.ensures c.requires.laid enough c.height-height.ensures c.carry.ensures in
    kept-past c.args.n l before c.carry.new.values c.args.levels.now c.close.new.self c.get-list.ensures c.close.ensures.own c.close.ensures.beneath done.beneath

pub returns-in-Past-clause-capacity : goal.returns-in-Past-clause-capacity
returns-in-Past-clause-capacity c =
    let l = c.get-list.result in
    let before = c.args.values.now in
    let P : Aim → Type 0 = λ a. takes_of a l.gives ≤ length before.own in
    let enough = subst P c.in-Past.is (c.requires.enough l c.get-list.ensures) in
    (carried c.args.n l before c.carry.new.values c.args.levels.now.own c.height-height.result c.get-list.ensures c.requires.laid enough c.height-height.ensures c.carry.ensures).capacity

pub returns-in-Back-clause-does : goal.returns-in-Back-clause-does
returns-in-Back-clause-does c =
    let done = cut_back c.args.n c.args.values.now c.cut.new.self c.args.levels.now.own c.height-height.result c.height-height.ensures c.cut.ensures.cut in
    back-lands c.args.n c.args.values.now c.cut.new.self c.args.levels.now c.close-in-Back.new.self c.get-list.result c.get-list.ensures c.in-Back.body c.in-Back.is c.close-in-Back.ensures.own done.0 done.1

pub returns-in-Back-clause-stays : goal.returns-in-Back-clause-stays
returns-in-Back-clause-stays c =
    let done = cut_back c.args.n c.args.values.now c.cut.new.self c.args.levels.now.own c.height-height.result c.height-height.ensures c.cut.ensures.cut in
    kept c.args.n c.args.values.now c.cut.new.self c.args.levels.now c.close-in-Back.new.self c.close-in-Back.ensures.own c.close-in-Back.ensures.beneath done.1

pub returns-in-Back-clause-capacity : goal.returns-in-Back-clause-capacity
returns-in-Back-clause-capacity c = (cut_back c.args.n c.args.values.now c.cut.new.self c.args.levels.now.own c.height-height.result c.height-height.ensures c.cut.ensures.cut).2
