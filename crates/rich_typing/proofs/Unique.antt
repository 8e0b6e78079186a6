-- A list of instructions has one derivation from given operands, one first violation, and not both: by
-- induction on the list.
use Rattle.std.proofs.Common.{◌≡◌, ◌++◌, ℕ, List, [], ◌∷◌, Option, length, refl, sym, ap, ◌∙◌, subst}
use Rattle.rw_types.specs.declared.instrs.Instr.{Instr}
use Rattle.rw_types.specs.declared.types.Binder.{Binder}
use Rattle.rw_types.specs.declared.types.Ty.{Ty}
use Rattle.rich_typing.specs.declared.notes.Note.{Note}
use Rattle.rich_typing.specs.declared.rules.Rule.{Rule}
use Rattle.rich_typing.specs.Table.{Outcome, Gives, Breaks, row}
use Rattle.rich_typing.specs.Derivations.{Derives, done, next}
use Rattle.rich_typing.specs.Violations.{DiffersIn, here, deeper, Differs, in_count, in_type, BreaksHere, at_instr, at_end}

-- an instruction that gives operands breaks no rule
gives_no_break : {o : Outcome} {after : List Ty} {broken : Rule} {found expected : Option Ty} → o ≡ Gives after → o ≡ Breaks broken found expected → ⊥
gives_no_break g b = cc

-- equal outcomes give equal operands
gives_one : {o : Outcome} {after after' : List Ty} → o ≡ Gives after → o ≡ Gives after' → after ≡ after'
gives_one g g' = cc

-- a derivation from equal operands
pub derives_from : {binders : List Binder} {is : List Instr} {operands operands' end : List Ty} {notes : List Note} → operands ≡ operands' → Derives binders is operands notes end → Derives binders is operands' notes end
derives_from {binders = binders} {is = is} {end = end} {notes = notes} e d = subst (λ (ops : List Ty). Derives binders is ops notes end) e d

pub derives_one : (binders : List Binder) (is : List Instr) {operands end end' : List Ty} {notes notes' : List Note} → Derives binders is operands notes end → Derives binders is operands notes' end' → (notes ≡ notes') × (end ≡ end')
derives_one binders [] (done n e) (done n' e') = (cc, cc)
derives_one binders (i ∷ is) (next after later g n d) (next after' later' g' n' d') =
    let same = derives_one binders is d (derives_from (gives_one g' g) d') in
    (cc (same.0), same.1)

-- rows that differ in a type are not equal, and are as long
unequal : (ts us : List Ty) {found expected : Option Ty} → DiffersIn ts us found expected → ts ≡ us → ⊥
unequal [] us d same = elim d [ ]
unequal (t ∷ ts) [] d same = elim d [ ]
unequal (t ∷ ts) (u ∷ us) (here e ne f x) same = ne cc
unequal (t ∷ ts) (u ∷ us) (deeper d) same = unequal ts us d cc

as_long : (ts us : List Ty) {found expected : Option Ty} → DiffersIn ts us found expected → length ts ≡ length us
as_long [] us d = elim d [ ]
as_long (t ∷ ts) [] d = elim d [ ]
as_long (t ∷ ts) (u ∷ us) (here e ne f x) = cc
as_long (t ∷ ts) (u ∷ us) (deeper d) = cc (as_long ts us d)

differs_in_one : (ts us : List Ty) {found found' expected expected' : Option Ty} → DiffersIn ts us found expected → DiffersIn ts us found' expected' → (found ≡ found') × (expected ≡ expected')
differs_in_one [] us d d' = elim d [ ]
differs_in_one (t ∷ ts) [] d d' = elim d [ ]
differs_in_one (t ∷ ts) (u ∷ us) (here e ne f x) (here e' ne' f' x') = (cc, cc)
differs_in_one (t ∷ ts) (u ∷ us) (here e ne f x) (deeper d') = absurd (unequal ts us d' e)
differs_in_one (t ∷ ts) (u ∷ us) (deeper d) (here e' ne' f' x') = absurd (unequal ts us d e')
differs_in_one (t ∷ ts) (u ∷ us) (deeper d) (deeper d') = differs_in_one ts us d d'

differs_unequal : {operands demands : List Ty} {found expected : Option Ty} → Differs operands demands found expected → demands ≡ operands → ⊥
differs_unequal (in_count ne f x) e = ne (ap length (sym e))
differs_unequal (in_type d) e = unequal _ _ d (sym e)

differs_one : {operands demands : List Ty} {found found' expected expected' : Option Ty} → Differs operands demands found expected → Differs operands demands found' expected' → (found ≡ found') × (expected ≡ expected')
differs_one (in_count ne f x) (in_count ne' f' x') = (cc, cc)
differs_one (in_count ne f x) (in_type d') = absurd (ne (as_long _ _ d'))
differs_one (in_type d) (in_count ne' f' x') = absurd (ne' (as_long _ _ d))
differs_one (in_type d) (in_type d') = differs_in_one _ _ d d'

-- what is broken at a list's start
breaks_one : (binders : List Binder) (demands : List Ty) (rest : List Instr) {operands : List Ty} {broken broken' : Rule} {found found' expected expected' : Option Ty} → BreaksHere binders demands rest operands broken found expected → BreaksHere binders demands rest operands broken' found' expected' → (broken ≡ broken') × (found ≡ found') × (expected ≡ expected')
breaks_one binders demands [] (at_end b d) (at_end b' d') = let same = differs_one d d' in (cc, same.0, same.1)
breaks_one binders demands (i ∷ is) (at_instr b) (at_instr b') = (cc, cc, cc)

breaks_from : {binders : List Binder} {demands : List Ty} {rest rest' : List Instr} {operands operands' : List Ty} {broken : Rule} {found expected : Option Ty} → rest ≡ rest' → operands ≡ operands' → BreaksHere binders demands rest operands broken found expected → BreaksHere binders demands rest' operands' broken found expected
breaks_from {binders = binders} {demands = demands} {rest = rest} {operands' = operands'} {broken = broken} {found = found} {expected = expected} e o b = subst (λ (is : List Instr). BreaksHere binders demands is operands' broken found expected) e (subst (λ (ops : List Ty). BreaksHere binders demands rest ops broken found expected) o b)

stuck : (binders : List Binder) (demands : List Ty) (rest : List Instr) {operands : List Ty} {notes : List Note} {broken : Rule} {found expected : Option Ty} → BreaksHere binders demands rest operands broken found expected → Derives binders rest operands notes demands → ⊥
stuck binders demands [] (at_end b d) (done n e) = differs_unequal d e
stuck binders demands (i ∷ is) (at_instr b) (next after later g n d) = gives_no_break g b

-- an instruction that has a derivation breaks no rule
goes_on : (binders : List Binder) (demands : List Ty) (i : Instr) (is is' : List Instr) {operands end : List Ty} {notes : List Note} {broken : Rule} {found expected : Option Ty} → Derives binders (i ∷ is) operands notes end → BreaksHere binders demands (i ∷ is') operands broken found expected → ⊥
goes_on binders demands i is is' (next after later g n d) (at_instr b) = gives_no_break g b

pub never_both : (binders : List Binder) (demands : List Ty) (before rest : List Instr) {operands reached : List Ty} {notes notes' : List Note} {broken : Rule} {found expected : Option Ty} → Derives binders before operands notes reached → BreaksHere binders demands rest reached broken found expected → Derives binders (before ++ rest) operands notes' demands → ⊥
never_both binders demands [] rest (done n e) b d = stuck binders demands rest (breaks_from refl e b) d
never_both binders demands (i ∷ before) rest (next after later g n d) b (next after' later' g' n' d') = never_both binders demands before rest d b (derives_from (gives_one g' g) d')

first : {i i' : Instr} {is is' : List Instr} → i ∷ is ≡ i' ∷ is' → i ≡ i'
first e = cc

others : {i i' : Instr} {is is' : List Instr} → i ∷ is ≡ i' ∷ is' → is ≡ is'
others e = cc

-- the same place and the same violation
pub record Same (at at' : ℕ) (broken broken' : Rule) (found found' expected expected' : Option Ty) : Type 0 where
  pub place : at ≡ at'
  pub rule : broken ≡ broken'
  pub type : found ≡ found'
  pub demand : expected ≡ expected'

pub violation_one : (binders : List Binder) (demands : List Ty) (before before' rest rest' : List Instr) {operands reached reached' : List Ty} {notes notes' : List Note} {broken broken' : Rule} {found found' expected expected' : Option Ty} → before ++ rest ≡ before' ++ rest' → Derives binders before operands notes reached → BreaksHere binders demands rest reached broken found expected → Derives binders before' operands notes' reached' → BreaksHere binders demands rest' reached' broken' found' expected' → Same (length before) (length before') broken broken' found found' expected expected'
violation_one binders demands [] [] rest rest' same (done n e) b (done n' e') b' =
    let one = breaks_one binders demands rest (breaks_from refl e b) (breaks_from (sym same) e' b') in
    record { place = refl; rule = one.0; type = one.1; demand = one.2 }
violation_one binders demands [] (i' ∷ before') rest rest' same (done n e) b d' b' = absurd (goes_on binders demands i' before' (before' ++ rest') d' (breaks_from same e b))
violation_one binders demands (i ∷ before) [] rest rest' same d b (done n' e') b' = absurd (goes_on binders demands i before (before ++ rest) d (breaks_from (sym same) e' b'))
violation_one binders demands (i ∷ before) (i' ∷ before') rest rest' {operands = operands} {broken = broken} {broken' = broken'} {found = found} {found' = found'} {expected = expected} {expected' = expected'} same (next after later g n d) b (next after' later' g' n' d') b' =
    let reaches : row binders i operands ≡ Gives after' = ap (λ (j : Instr). row binders j operands) (first same) ∙ g' in
    let one : Same (length before) (length before') broken broken' found found' expected expected' = violation_one binders demands before before' rest rest' (others same) d b (derives_from (gives_one reaches g) d') b' in
    record { place = cc (one.place); rule = one.rule; type = one.type; demand = one.demand }
