-- The memory of a location, told by the form of two types.
use Rattle.std.proofs.Common.{◌≡◌, ℕ, true, false, Option, Some, None, refl, sym}
use Rattle.std.specs.Prelude.{is_some}
use Rattle.std.proofs.lemmas.Bool.{false≢true}
use Rattle.rw_types.specs.declared.types.Mem.{Mem}
use Rattle.rw_types.specs.declared.types.Mem.TheVariants.{L, U}
use Rattle.rw_types.specs.declared.types.Pre.{Own, Ptr}
use Rattle.rw_types.specs.declared.types.Qual.TheVariants.{Unr, Lin}
use Rattle.rw_types.specs.declared.types.Ty.{Of}
use Rattle.rich_types.specs.Scopes.{Scope, memory_of}
use Rattle.rich_rules.specs.Forms.{is_formed, is_linear_location}

linear : (m : Option Mem) → is_linear_location m ≡ true → Some L ≡ m
linear (Some L) e = refl
linear (Some U) e = absurd (false≢true e)
linear None e = absurd (false≢true e)

other : (m : Option Mem) → is_linear_location m ≡ false → is_some m ≡ true → Some U ≡ m
other (Some L) e f = absurd (false≢true (sym e))
other (Some U) e f = refl
other None e f = absurd (false≢true f)

nowhere : (m : Option Mem) → is_some m ≡ false → None ≡ m
nowhere (Some m) e = absurd (false≢true (sym e))
nowhere None e = refl

pub told_linear : (c : Scope) (l : ℕ) → is_formed c (Of Lin (Own l)) ≡ true → Some L ≡ memory_of c l
told_linear c l e = linear (memory_of c l) e

pub told_other : (c : Scope) (l : ℕ) → is_formed c (Of Lin (Own l)) ≡ false → is_formed c (Of Unr (Ptr l)) ≡ true → Some U ≡ memory_of c l
told_other c l e f = other (memory_of c l) e f

pub told_nowhere : (c : Scope) (l : ℕ) → is_formed c (Of Unr (Ptr l)) ≡ false → None ≡ memory_of c l
told_nowhere c l f = nowhere (memory_of c l) f
