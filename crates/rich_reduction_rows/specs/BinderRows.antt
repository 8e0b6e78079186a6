-- Programs with a function that is called with a location and a type, and a branch out of both binders of a package (this
-- project's own rows).
use Rattle.std.specs.Prelude.{◌≡◌, [], ◌∷◌}
use Rattle.rw_types.specs.declared.instrs.Instr as i
use Rattle.rw_types.specs.declared.types.Arg.TheVariants as argument
use Rattle.rw_types.specs.declared.types.Binder.TheVariants as binder
use Rattle.rw_types.specs.declared.types.Mem.TheVariants.{L, U}
use Rattle.rw_types.specs.declared.types.Qual.TheVariants.{Unr}
use Rattle.rw_types.specs.declared.types.Ty.{Var}
use Rattle.rw_program.specs.declared.linked.LinkedFunc.{LinkedFunc}
use Rattle.rw_program.specs.Programs.{Program}
use Rattle.rich_types.specs.Rows.{long, unit_type, address, tuple}
use Rattle.rich_reduction.specs.Configurations.{Made, Touched, Freed}
use Rattle.rich_reduction.specs.Rows.{Takes}
use Rattle.rich_reduction_rows.specs.Programs.{calling, quiet, linear, unrestricted, said_by}

-- a function of the address of a location and a value of a type without words: within a package that hides two words beside
-- one, it makes a variant of the hidden type and its own; and after a branch out of the package one of its own type
abbrev pub out_of_binders : LinkedFunc
out_of_binders = record {
  file = 0;
  ty = record { binders = binder.Loc L ∷ binder.Kind Unr 0 ∷ []; params = address 0 ∷ Var 0 ∷ []; results = [] };
  locals = [];
  body =
      i.Block quiet
      (i.I64Const 4
      ∷ i.I64Const 5
      ∷ i.Group 2 Unr
      ∷ i.I64Const 6
      ∷ i.Group 2 Unr
      ∷ i.ExistPack U Unr 2 (tuple (long ∷ long ∷ [])) (tuple (Var 0 ∷ long ∷ []))
      ∷ i.MemUnpack quiet (i.ExistUnpack quiet (i.Ungroup ∷ i.Drop ∷ i.VariantMalloc U 0 (Var 0 ∷ Var 1 ∷ []) ∷ i.Drop ∷ i.Br 2 ∷ []) ∷ [])
      ∷ [])
      ∷ i.LocalGet 1
      ∷ i.VariantMalloc U 0 (Var 0 ∷ [])
      ∷ i.Drop
      ∷ [];
  notes = [];
}

abbrev pub binding : Program
binding = calling out_of_binders (1 ∷ [])
    (i.I64Const 8
    ∷ i.StructMalloc L (1 ∷ [])
    ∷ i.MemUnpack quiet
    (i.RefSplit
    ∷ i.LocalSet 0
    ∷ i.LocalGet 0
    ∷ i.Unit
    ∷ i.Call 0 (argument.Loc 0 ∷ argument.Given unit_type ∷ [])
    ∷ i.LocalGet 0
    ∷ i.RefJoin
    ∷ i.StructFree
    ∷ i.Unit
    ∷ i.LocalSet 0
    ∷ [])
    ∷ i.I64Const 0
    ∷ [])

abbrev pub BindingTakes : Type 0
BindingTakes = Takes binding 36 [] 0

-- the package has three words; the variant within has one for its case and two for the hidden type; the one behind it has no
-- word beside its case
abbrev pub BindingSays : Type 0
BindingSays = said_by binding 36 ≡
    Made (linear 0) 1 ∷ Touched (linear 0) ∷ Made (unrestricted 0) 3 ∷ Touched (unrestricted 0) ∷ Touched (unrestricted 0) ∷ Made (unrestricted 1) 3 ∷ Touched (unrestricted 1) ∷ Made (unrestricted 2) 1 ∷ Touched (unrestricted 2) ∷ Touched (linear 0) ∷ Freed (linear 0) ∷ []
