-- Lists of plain instructions, one instruction at a time.
use Rattle.std.proofs.Common.{◌≡◌, ℕ, zero, suc, ◌+◌, ◌<◌, List, [], ◌∷◌, ◌++◌, length, get_or, take, arith, sym, ap, ◌∙◌, subst}
use Rattle.std.proofs.lemmas.List.{take_more}
use Rattle.rw_types.specs.declared.instrs.Instr.{Instr}
use Rattle.rw_types.specs.LoneMain.{IsPlain, ArePlain}

pub plain_at : (body : List Instr) (k : ℕ) (d : Instr) → ArePlain body → k < length body → IsPlain (get_or body k d)
plain_at [] k d plain below = absurd (omega arith)
plain_at (i ∷ is) zero d plain below = plain.0
plain_at (i ∷ is) (suc k) d plain below = plain_at is k d plain.1 (omega arith)

plain_end : (is : List Instr) (i : Instr) → ArePlain is → IsPlain i → ArePlain (is ++ i ∷ [])
plain_end [] i plain p = (p, tt)
plain_end (j ∷ is) i plain p = (plain.0, plain_end is i plain.1 p)

pub plain_more : (body : List Instr) (k : ℕ) (i : Instr) → k < length body → i ≡ get_or body k i → ArePlain (take k body) → IsPlain i → ArePlain (take (k + 1) body)
plain_more body k i below is plain p =
    let e : take (k + 1) body ≡ take k body ++ i ∷ [] = take_more body k i below ∙ ap (λ (j : Instr). take k body ++ j ∷ []) (sym is) in
    subst ArePlain (sym e) (plain_end (take k body) i plain p)
