-- Types with their qualifiers and sizes, rows of the table of rules, and modules with their derivation or their first
-- violation, written out; this project's own.
use Rattle.std.specs.Prelude.{◌≡◌, ℕ, List, [], ◌∷◌, Some, None}
use Rattle.rw_types.specs.declared.instrs.Instr.{Instr, I64Const, Num, Print, Drop, Nop}
use Rattle.rw_types.specs.declared.numbers.NumName.TheVariants.{I64Add}
use Rattle.rw_types.specs.declared.types.Binder.TheVariants.{Loc, Kind}
use Rattle.rw_types.specs.declared.types.Mem.TheVariants.{L}
use Rattle.rw_types.specs.declared.types.Pre.{Unit, I32, I64, Tuple', Ptr, Own}
use Rattle.rw_types.specs.declared.types.Qual.TheVariants.{Unr, Lin}
use Rattle.rw_types.specs.declared.types.Ty.{Ty, Of, Var, Rec', end_of-Ty, more_of-Ty}
use Rattle.rw_types.specs.LoneMain.{lone_main}
use Rattle.rich_typing.specs.declared.notes.Note.{Note}
use Rattle.rich_typing.specs.declared.notes.Place.TheVariants.{FuncType, FuncAt}
use Rattle.rich_typing.specs.declared.rules.Rule.{Rule}
use Rattle.rich_typing.specs.declared.rules.Rule.TheVariants.{Operands, OperandType, BlockEnd, LinearDrop, NotYetBuilt}
use Rattle.rich_typing.specs.Kinds.{qual_of, size}
use Rattle.rich_typing.specs.Table.{Gives, Breaks, row}
use Rattle.rich_typing.specs.Derivations.{IsTyped}
use Rattle.rich_typing.specs.Violations.{FirstViolation}

-- an unrestricted number of 64 bits, a linear one, and an unrestricted number of 32 bits
abbrev long : Ty
long = Of Unr I64

abbrev linear : Ty
linear = Of Lin I64

abbrev short : Ty
short = Of Unr I32

-- sizes in words: a number has one whatever its bits, a right to a location none, a tuple those of its parts, and a
-- variable or a recursive type what its binder says; variables are counted outwards, apart from locations
pub record WorkedTypes : Type 0 where
  pub unit : size [] (Of Unr Unit) ≡ 0
  pub narrow : size [] short ≡ 1
  pub wide : size [] long ≡ 1
  pub address : size [] (Of Unr (Ptr 0)) ≡ 1
  pub right : size [] (Of Lin (Own 0)) ≡ 0
  pub parts : size [] (Of Lin (Tuple' (tt ∷ tt ∷ tt ∷ tt ∷ []) (more_of-Ty long (more_of-Ty (Of Unr Unit) (more_of-Ty (Of Lin (Own 0)) (more_of-Ty short end_of-Ty)))))) ≡ 2
  pub inner : size (Kind Unr 3 ∷ Loc L ∷ Kind Lin 5 ∷ []) (Var 0) ≡ 5
  pub outer : size (Kind Unr 3 ∷ Loc L ∷ Kind Lin 5 ∷ []) (Var 1) ≡ 3
  pub recursive : size [] (Rec' Lin 7 tt (more_of-Ty long end_of-Ty)) ≡ 7
  pub linear_variable : qual_of (Kind Unr 3 ∷ Kind Lin 5 ∷ []) (Var 0) ≡ Lin
  pub variable : qual_of (Kind Unr 3 ∷ Kind Lin 5 ∷ []) (Var 1) ≡ Unr
  pub linear_type : qual_of [] linear ≡ Lin

-- what an instruction makes of operands, the top one first: a print takes a number of 64 bits, a drop takes any value
-- that is not linear, an addition takes two numbers and gives one, and the operand that is told is the deeper one
pub record WorkedRules : Type 0 where
  pub constant : row [] (I64Const 9) (short ∷ []) ≡ Gives (long ∷ short ∷ [])
  pub print : row [] Print (long ∷ short ∷ []) ≡ Gives (short ∷ [])
  pub print_nothing : row [] Print [] ≡ Breaks Operands None None
  pub print_short : row [] Print (short ∷ []) ≡ Breaks OperandType (Some short) (Some long)
  pub print_linear : row [] Print (linear ∷ []) ≡ Breaks OperandType (Some linear) (Some long)
  pub drop : row [] Drop (short ∷ long ∷ []) ≡ Gives (long ∷ [])
  pub drop_nothing : row [] Drop [] ≡ Breaks Operands None None
  pub drop_linear : row [] Drop (linear ∷ []) ≡ Breaks LinearDrop (Some linear) None
  pub drop_variable : row (Kind Lin 1 ∷ []) Drop (Var 0 ∷ []) ≡ Breaks LinearDrop (Some (Var 0)) None
  pub add : row [] (Num I64Add) (long ∷ long ∷ short ∷ []) ≡ Gives (long ∷ short ∷ [])
  pub add_one : row [] (Num I64Add) (short ∷ []) ≡ Breaks Operands None None
  pub add_to_short : row [] (Num I64Add) (linear ∷ short ∷ []) ≡ Breaks OperandType (Some short) (Some long)
  pub add_linear : row [] (Num I64Add) (linear ∷ long ∷ []) ≡ Breaks OperandType (Some linear) (Some long)

-- the note of a point: so many words beneath what is taken, which is these types
abbrev point : ℕ → List Ty → Note
point beneath taken = record { binders = []; beneath = beneath; taken = taken; local = None }

-- the module of one function with this body breaks this rule first at this place of it, and no type is told
abbrev pub BreaksFirst : List Instr → ℕ → Rule → Type 0
BreaksFirst body at broken = FirstViolation (lone_main body) (record { place = FuncAt 0 (at ∷ []); broken = broken; found = None; expected = None })

-- modules of one function with the notes of its body, or with their first violation
pub record WorkedBodies : Type 0 where
  pub seven : IsTyped (lone_main (I64Const 7 ∷ [])) ((point 0 [] ∷ []) ∷ [])
  pub printing : IsTyped (lone_main (I64Const 7 ∷ I64Const 8 ∷ Print ∷ [])) ((point 0 [] ∷ point 1 [] ∷ point 1 (long ∷ []) ∷ []) ∷ [])
  pub adding : IsTyped (lone_main (I64Const 7 ∷ I64Const 8 ∷ Num I64Add ∷ [])) ((point 0 [] ∷ point 1 [] ∷ point 0 (long ∷ long ∷ []) ∷ []) ∷ [])
  pub nothing : BreaksFirst [] 0 BlockEnd
  pub two_left : BreaksFirst (I64Const 7 ∷ I64Const 8 ∷ []) 2 BlockEnd
  pub printed_twice : BreaksFirst (I64Const 7 ∷ Print ∷ Print ∷ I64Const 8 ∷ []) 2 Operands
  pub dropped : BreaksFirst (Drop ∷ I64Const 8 ∷ []) 0 Operands
  pub added_to_nothing : BreaksFirst (I64Const 7 ∷ Num I64Add ∷ []) 1 Operands
  pub not_built : FirstViolation (lone_main (Nop ∷ [])) (record { place = FuncType 0; broken = NotYetBuilt; found = None; expected = None })
