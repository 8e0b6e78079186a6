use Rattle.std.proofs.Common.{append_assoc, arith, ◌<◌, ◌≤◌, ◌+◌, ◌*◌, min}
use Rattle.wasm_leb.proofs.Least.{signed_more, wide_limit, rest_limit, narrower_limit}
use Rattle.wasm_leb.proofs.+put_signed.Goals as goal

pub put_signed-requires : goal.put_signed-requires
put_signed-requires t c =
    let l : c.args.n + 64 < c.args.limit = omega arith in
    let h = wide_limit c.args.bits c.args.limit c.args.n c.requires.limit l in
    (omega arith, (omega arith, (rest_limit _ _ _ c.requires.limit h c.requires.fits, (narrower_limit _ _ c.requires.limit h, omega arith))))

pub returns : goal.returns
returns t c =
    let k : 0 < c.args.most = omega arith in
    let m : min 128 c.args.limit ≤ 2 * c.args.n = omega arith in
    let l : c.args.n + 64 < c.args.limit = omega arith in
    rw (c.put_signed.ensures, c.push_reserved-2.ensures.items, signed_more c.args.most c.args.limit c.args.n k m l) (simp append_assoc)
