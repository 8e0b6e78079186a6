-- Instructions and notes at a place of their lists.
use Rattle.std.proofs.Common.{ℕ, zero, suc, ◌<◌, ◌≤◌, List, [], ◌∷◌, length, get_or, arith}
use Rattle.rw_types.specs.declared.instrs.Instr.{Instr}
use Rattle.rw_types.specs.LoneMain.{IsPlain, ArePlain}
use Rattle.rich_typing.specs.declared.notes.Note.{Note}
use Rattle.lowering_table.specs.Frames.{room_of}
use Rattle.lower.specs.Heights.{IsWithin, AreWithin}

pub plain_at : (body : List Instr) (k : ℕ) (d : Instr) → k < length body → ArePlain body → IsPlain (get_or body k d)
plain_at [] k d lt all = absurd (omega arith)
plain_at (i ∷ is) zero d lt all = all.0
plain_at (i ∷ is) (suc k) d lt all = plain_at is k d (omega arith) all.1

pub within_at : (notes : List Note) (k : ℕ) (d : Note) (limit : ℕ) → k < length notes → AreWithin limit notes → IsWithin limit (get_or notes k d)
within_at [] k d limit lt all = absurd (omega arith)
within_at (n ∷ ns) zero d limit lt all = all.0
within_at (n ∷ ns) (suc k) d limit lt all = within_at ns k d limit (omega arith) all.1

-- the height at the end is among those of which the greatest is taken
pub room_of-end : (body : List Instr) (notes : List Note) (end : ℕ) → end ≤ room_of body notes end
room_of-end [] notes end = omega arith
room_of-end (i ∷ is) [] end = omega arith
room_of-end (i ∷ is) (n ∷ ns) end = omega (arith, room_of-end is ns end)
