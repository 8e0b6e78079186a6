use Rattle.std.proofs.Common.{append_assoc, arith, ◌<◌, ◌≤◌}
use Rattle.wasm_leb.proofs.Least.{unsigned_more}
use Rattle.wasm_leb.proofs.+put_unsigned.Goals as goal

pub returns : goal.returns
returns t c =
    let h : 0 < c.args.most = omega arith in
    let l : 128 ≤ c.args.n = omega arith in
    rw (c.put_unsigned.ensures, c.push_reserved-2.ensures.items, unsigned_more c.args.most c.args.n h l) (simp append_assoc)
