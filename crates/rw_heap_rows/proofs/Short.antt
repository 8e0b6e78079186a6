-- Too few operands break `operands`, whatever the instruction.
use Rattle.std.proofs.Common.{◌≡◌, [], ◌∷◌, None, refl}
use Rattle.rw_types.specs.declared.types.Ty.{Ty}
use Rattle.rich_types.specs.Scopes.{Scope}
use Rattle.rich_typing.specs.declared.rules.Rule.TheVariants as rule
use Rattle.rich_rules.specs.Points.{Breaks, Broke}
use Rattle.rw_heap_rows.specs.declared.looks.OfOne.{OfOne}
use Rattle.rw_heap_rows.specs.declared.looks.OfOne.TheVariants.{RefSplit, CapSplit, StructFree, StructGet, ArrayLen, ArrayFree}
use Rattle.rw_heap_rows.specs.declared.looks.OfTwo.{OfTwo}
use Rattle.rw_heap_rows.specs.declared.looks.OfTwo.TheVariants.{RefJoin, CapJoin, StructSet, StructSwap, ArrayMalloc, ArrayGet}
use Rattle.rw_heap_rows.specs.Rows.{one_row, two_row}

pub none_for_one : (c : Scope) (i : OfOne) → one_row c i [] ≡ Breaks (Broke rule.Operands None None)
none_for_one c RefSplit = refl
none_for_one c CapSplit = refl
none_for_one c StructFree = refl
none_for_one c (StructGet i) = refl
none_for_one c ArrayLen = refl
none_for_one c ArrayFree = refl

pub none_for_two : (c : Scope) (i : OfTwo) → two_row c i [] ≡ Breaks (Broke rule.Operands None None)
none_for_two c RefJoin = refl
none_for_two c CapJoin = refl
none_for_two c (StructSet i) = refl
none_for_two c (StructSwap i) = refl
none_for_two c (ArrayMalloc m) = refl
none_for_two c ArrayGet = refl

pub one_for_two : (c : Scope) (i : OfTwo) (t : Ty) → two_row c i (t ∷ []) ≡ Breaks (Broke rule.Operands None None)
one_for_two c RefJoin t = refl
one_for_two c CapJoin t = refl
one_for_two c (StructSet i) t = refl
one_for_two c (StructSwap i) t = refl
one_for_two c (ArrayMalloc m) t = refl
one_for_two c ArrayGet t = refl
