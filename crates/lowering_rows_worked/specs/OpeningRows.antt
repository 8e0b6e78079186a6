-- Programs that take variants and packages apart with their codes; the wanted codes are those of an independent
-- model (this project's own rows).
use Rattle.std.specs.Prelude.{◌≡◌, [], ◌∷◌, None}
use Rattle.wasm_ast.specs.declared.instructions.WInstr as w
use Rattle.rw_types.specs.declared.instrs.Instr as i
use Rattle.rw_types.specs.declared.types.Binder.TheVariants as binder
use Rattle.rw_types.specs.declared.numbers.NumName.TheVariants as number
use Rattle.lowering_rows_worked.specs.Programs.{point, point_under, codes_of}
use Rattle.rich_types.specs.Rows.{long, unit_type}
use Rattle.rw_types.specs.declared.types.Heap.TheVariants.{Exist, Struct, Variant}
use Rattle.rw_types.specs.declared.types.Mem.TheVariants.{L, U}
use Rattle.rw_types.specs.declared.types.Pre.{Ref}
use Rattle.rw_types.specs.declared.types.Pre.TheVariants.{Hidden, Tuple}
use Rattle.rw_types.specs.declared.types.Priv.TheVariants.{Rw}
use Rattle.rw_types.specs.declared.types.Qual.TheVariants.{Lin, Unr}
use Rattle.rw_types.specs.declared.types.Ty.{Of, Var}
use Rattle.rw_program.specs.Programs.{Program}
use Rattle.lowering_rows.specs.Functions.{code_of}

-- a branch out of a case
abbrev pub leaving_a_case : Program
leaving_a_case = record {
  funcs = record {
    file = 0;
    ty = record { binders = []; params = []; results = long ∷ [] };
    locals = [];
    body =
        i.I64Const 7
        ∷ i.VariantMalloc U 1 (unit_type ∷ long ∷ [])
        ∷ i.MemUnpack (record { params = []; results = long ∷ []; locals = [] }) (i.VariantCase (record { params = []; results = long ∷ []; locals = [] }) ((i.Drop ∷ i.I64Const 1 ∷ []) ∷ (i.Br 0 ∷ []) ∷ []) ∷ [])
        ∷ i.Print
        ∷ i.I64Const 0
        ∷ [];
    notes =
        point 0 []
        ∷ point 0 (long ∷ [])
        ∷ point 0 (Of Unr (Hidden U (Of Unr (Ref Rw 0 (Variant (unit_type ∷ long ∷ []))))) ∷ [])
        ∷ point_under (binder.Loc U ∷ []) 0 (Of Unr (Ref Rw 0 (Variant (unit_type ∷ long ∷ []))) ∷ [])
        ∷ point_under (binder.Loc U ∷ []) 0 (unit_type ∷ [])
        ∷ point_under (binder.Loc U ∷ []) 0 []
        ∷ point_under (binder.Loc U ∷ []) 0 (long ∷ [])
        ∷ point 0 (long ∷ [])
        ∷ point 0 []
        ∷ [];
  } ∷ [];
  globals = [];
  main = 0;
}

abbrev pub LeavingACaseLowered : Type 0
LeavingACaseLowered =
    codes_of leaving_a_case
    ≡ code_of 3 (w.I64Const 7 ∷ w.LocalSet 0 ∷ w.I64Const 2 ∷ w.Call 3 ∷ w.LocalSet 1 ∷ w.LocalGet 1 ∷ w.I32WrapI64 ∷ w.I64Const 1 ∷ w.I64Store 3 0 ∷ w.LocalGet 1 ∷ w.I32WrapI64 ∷ w.LocalGet 0 ∷ w.I64Store 3 8 ∷ w.LocalGet 1 ∷ w.LocalSet 0 ∷ w.Block None (w.LocalGet 0 ∷ w.LocalSet 1 ∷ w.Block None (w.LocalGet 1 ∷ w.I32WrapI64 ∷ w.I64Load 3 0 ∷ w.I64Const 0 ∷ w.I64Eq ∷ w.If None (w.Nop ∷ w.I64Const 1 ∷ w.LocalSet 0 ∷ w.Br 1 ∷ []) ∷ w.LocalGet 1 ∷ w.I32WrapI64 ∷ w.I64Load 3 0 ∷ w.I64Const 1 ∷ w.I64Eq ∷ w.If None (w.LocalGet 1 ∷ w.I32WrapI64 ∷ w.I64Load 3 8 ∷ w.LocalSet 0 ∷ w.LocalGet 0 ∷ w.LocalSet 0 ∷ w.Br 1 ∷ w.Br 1 ∷ []) ∷ w.Unreachable ∷ []) ∷ []) ∷ w.LocalGet 0 ∷ w.Call 0 ∷ w.I64Const 0 ∷ w.LocalSet 0 ∷ w.LocalGet 0 ∷ w.GlobalSet 2 ∷ [])
    ∷ code_of 2 (w.Call 4 ∷ w.GlobalGet 2 ∷ [])
    ∷ []

-- a branch out of a case, an unpacked location and a block
abbrev pub leaving_a_block : Program
leaving_a_block = record {
  funcs = record {
    file = 0;
    ty = record { binders = []; params = []; results = long ∷ [] };
    locals = [];
    body =
        i.I64Const 40
        ∷ i.Block (record { params = []; results = long ∷ []; locals = [] }) (i.I64Const 5 ∷ i.I64Const 7 ∷ i.VariantMalloc L 0 (long ∷ unit_type ∷ []) ∷ i.MemUnpack (record { params = []; results = []; locals = [] }) (i.VariantCase (record { params = []; results = []; locals = [] }) ((i.I64Const 1 ∷ i.Num number.I64Add ∷ i.Br 2 ∷ []) ∷ (i.Drop ∷ []) ∷ []) ∷ []) ∷ [])
        ∷ i.Num number.I64Add
        ∷ i.Print
        ∷ i.I64Const 0
        ∷ [];
    notes =
        point 0 []
        ∷ point 1 []
        ∷ point 1 []
        ∷ point 2 []
        ∷ point 2 (long ∷ [])
        ∷ point 2 (Of Lin (Hidden L (Of Lin (Ref Rw 0 (Variant (long ∷ unit_type ∷ []))))) ∷ [])
        ∷ point_under (binder.Loc L ∷ []) 2 (Of Lin (Ref Rw 0 (Variant (long ∷ unit_type ∷ []))) ∷ [])
        ∷ point_under (binder.Loc L ∷ []) 3 []
        ∷ point_under (binder.Loc L ∷ []) 2 (long ∷ long ∷ [])
        ∷ point_under (binder.Loc L ∷ []) 2 (long ∷ [])
        ∷ point_under (binder.Loc L ∷ []) 2 (unit_type ∷ [])
        ∷ point 0 (long ∷ long ∷ [])
        ∷ point 0 (long ∷ [])
        ∷ point 0 []
        ∷ [];
  } ∷ [];
  globals = [];
  main = 0;
}

abbrev pub LeavingABlockLowered : Type 0
LeavingABlockLowered =
    codes_of leaving_a_block
    ≡ code_of 6 (w.I64Const 40 ∷ w.LocalSet 0 ∷ w.Block None (w.I64Const 5 ∷ w.LocalSet 1 ∷ w.I64Const 7 ∷ w.LocalSet 2 ∷ w.I64Const 2 ∷ w.Call 1 ∷ w.LocalSet 4 ∷ w.LocalGet 4 ∷ w.I32WrapI64 ∷ w.I64Const 0 ∷ w.I64Store 3 0 ∷ w.LocalGet 4 ∷ w.I32WrapI64 ∷ w.LocalGet 2 ∷ w.I64Store 3 8 ∷ w.LocalGet 4 ∷ w.LocalSet 2 ∷ w.Block None (w.LocalGet 2 ∷ w.LocalSet 4 ∷ w.Block None (w.LocalGet 4 ∷ w.I32WrapI64 ∷ w.I64Load 3 0 ∷ w.I64Const 0 ∷ w.I64Eq ∷ w.If None (w.LocalGet 4 ∷ w.I32WrapI64 ∷ w.I64Load 3 8 ∷ w.LocalSet 2 ∷ w.LocalGet 4 ∷ w.Call 2 ∷ w.I64Const 1 ∷ w.LocalSet 3 ∷ w.LocalGet 2 ∷ w.LocalGet 3 ∷ w.I64Add ∷ w.LocalSet 2 ∷ w.LocalGet 2 ∷ w.LocalSet 1 ∷ w.Br 3 ∷ w.Br 1 ∷ []) ∷ w.LocalGet 4 ∷ w.I32WrapI64 ∷ w.I64Load 3 0 ∷ w.I64Const 1 ∷ w.I64Eq ∷ w.If None (w.LocalGet 4 ∷ w.Call 2 ∷ w.Nop ∷ w.Br 1 ∷ []) ∷ w.Unreachable ∷ []) ∷ []) ∷ []) ∷ w.LocalGet 0 ∷ w.LocalGet 1 ∷ w.I64Add ∷ w.LocalSet 0 ∷ w.LocalGet 0 ∷ w.Call 0 ∷ w.I64Const 0 ∷ w.LocalSet 0 ∷ w.LocalGet 0 ∷ w.GlobalSet 2 ∷ [])
    ∷ code_of 2 (w.Call 4 ∷ w.GlobalGet 2 ∷ [])
    ∷ []

-- parameters stay where they are beneath a case
abbrev pub parameters_beneath : Program
parameters_beneath = record {
  funcs = record {
    file = 0;
    ty = record { binders = []; params = []; results = long ∷ [] };
    locals = [];
    body =
        i.I64Const 10
        ∷ i.I64Const 20
        ∷ i.I64Const 3
        ∷ i.I64Const 4
        ∷ i.Group 2 Unr
        ∷ i.VariantMalloc L 1 (long ∷ Of Unr (Tuple (long ∷ long ∷ [])) ∷ [])
        ∷ i.MemUnpack (record { params = long ∷ []; results = long ∷ []; locals = [] }) (i.VariantCase (record { params = long ∷ []; results = long ∷ []; locals = [] }) ((i.Drop ∷ []) ∷ (i.Ungroup ∷ i.Num number.I64Mul ∷ i.I64Const 7 ∷ i.Br 0 ∷ []) ∷ []) ∷ [])
        ∷ i.Num number.I64Sub
        ∷ i.Print
        ∷ i.I64Const 0
        ∷ [];
    notes =
        point 0 []
        ∷ point 1 []
        ∷ point 2 []
        ∷ point 3 []
        ∷ point 2 (long ∷ long ∷ [])
        ∷ point 2 (Of Unr (Tuple (long ∷ long ∷ [])) ∷ [])
        ∷ point 1 (long ∷ Of Lin (Hidden L (Of Lin (Ref Rw 0 (Variant (long ∷ Of Unr (Tuple (long ∷ long ∷ [])) ∷ []))))) ∷ [])
        ∷ point_under (binder.Loc L ∷ []) 1 (long ∷ Of Lin (Ref Rw 0 (Variant (long ∷ Of Unr (Tuple (long ∷ long ∷ [])) ∷ []))) ∷ [])
        ∷ point_under (binder.Loc L ∷ []) 2 (long ∷ [])
        ∷ point_under (binder.Loc L ∷ []) 2 (Of Unr (Tuple (long ∷ long ∷ [])) ∷ [])
        ∷ point_under (binder.Loc L ∷ []) 2 (long ∷ long ∷ [])
        ∷ point_under (binder.Loc L ∷ []) 3 []
        ∷ point_under (binder.Loc L ∷ []) 3 (long ∷ [])
        ∷ point 0 (long ∷ long ∷ [])
        ∷ point 0 (long ∷ [])
        ∷ point 0 []
        ∷ [];
  } ∷ [];
  globals = [];
  main = 0;
}

abbrev pub ParametersBeneathLowered : Type 0
ParametersBeneathLowered =
    codes_of parameters_beneath
    ≡ code_of 6 (w.I64Const 10 ∷ w.LocalSet 0 ∷ w.I64Const 20 ∷ w.LocalSet 1 ∷ w.I64Const 3 ∷ w.LocalSet 2 ∷ w.I64Const 4 ∷ w.LocalSet 3 ∷ w.Nop ∷ w.I64Const 3 ∷ w.Call 1 ∷ w.LocalSet 4 ∷ w.LocalGet 4 ∷ w.I32WrapI64 ∷ w.I64Const 1 ∷ w.I64Store 3 0 ∷ w.LocalGet 4 ∷ w.I32WrapI64 ∷ w.LocalGet 2 ∷ w.I64Store 3 8 ∷ w.LocalGet 4 ∷ w.I32WrapI64 ∷ w.LocalGet 3 ∷ w.I64Store 3 16 ∷ w.LocalGet 4 ∷ w.LocalSet 2 ∷ w.Block None (w.LocalGet 2 ∷ w.LocalSet 4 ∷ w.Block None (w.LocalGet 4 ∷ w.I32WrapI64 ∷ w.I64Load 3 0 ∷ w.I64Const 0 ∷ w.I64Eq ∷ w.If None (w.LocalGet 4 ∷ w.I32WrapI64 ∷ w.I64Load 3 8 ∷ w.LocalSet 2 ∷ w.LocalGet 4 ∷ w.Call 2 ∷ w.Nop ∷ w.Br 1 ∷ []) ∷ w.LocalGet 4 ∷ w.I32WrapI64 ∷ w.I64Load 3 0 ∷ w.I64Const 1 ∷ w.I64Eq ∷ w.If None (w.LocalGet 4 ∷ w.I32WrapI64 ∷ w.I64Load 3 8 ∷ w.LocalSet 2 ∷ w.LocalGet 4 ∷ w.I32WrapI64 ∷ w.I64Load 3 16 ∷ w.LocalSet 3 ∷ w.LocalGet 4 ∷ w.Call 2 ∷ w.Nop ∷ w.LocalGet 2 ∷ w.LocalGet 3 ∷ w.I64Mul ∷ w.LocalSet 2 ∷ w.I64Const 7 ∷ w.LocalSet 3 ∷ w.LocalGet 3 ∷ w.LocalSet 1 ∷ w.Br 1 ∷ w.Br 1 ∷ []) ∷ w.Unreachable ∷ []) ∷ []) ∷ w.LocalGet 0 ∷ w.LocalGet 1 ∷ w.I64Sub ∷ w.LocalSet 0 ∷ w.LocalGet 0 ∷ w.Call 0 ∷ w.I64Const 0 ∷ w.LocalSet 0 ∷ w.LocalGet 0 ∷ w.GlobalSet 2 ∷ [])
    ∷ code_of 2 (w.Call 4 ∷ w.GlobalGet 2 ∷ [])
    ∷ []

-- the label of a package that is taken apart is at the height of its parameters
abbrev pub parameters_of_a_package : Program
parameters_of_a_package = record {
  funcs = record {
    file = 0;
    ty = record { binders = []; params = []; results = long ∷ [] };
    locals = [];
    body =
        i.I64Const 10
        ∷ i.I64Const 5
        ∷ i.I64Const 8
        ∷ i.Group 1 Unr
        ∷ i.ExistPack L Unr 1 long (Of Unr (Tuple (Var 0 ∷ [])))
        ∷ i.MemUnpack (record { params = long ∷ []; results = long ∷ []; locals = [] }) (i.ExistUnpack (record { params = long ∷ []; results = long ∷ []; locals = [] }) (i.Drop ∷ i.I64Const 1 ∷ i.Br 0 ∷ []) ∷ [])
        ∷ i.Num number.I64Sub
        ∷ i.Print
        ∷ i.I64Const 0
        ∷ [];
    notes =
        point 0 []
        ∷ point 1 []
        ∷ point 2 []
        ∷ point 2 (long ∷ [])
        ∷ point 2 (Of Unr (Tuple (long ∷ [])) ∷ [])
        ∷ point 1 (long ∷ Of Lin (Hidden L (Of Lin (Ref Rw 0 (Exist Unr 1 (Of Unr (Tuple (Var 0 ∷ []))))))) ∷ [])
        ∷ point_under (binder.Loc L ∷ []) 1 (long ∷ Of Lin (Ref Rw 0 (Exist Unr 1 (Of Unr (Tuple (Var 0 ∷ []))))) ∷ [])
        ∷ point_under (binder.Loc L ∷ binder.Kind Unr 1 ∷ []) 2 (Of Unr (Tuple (Var 0 ∷ [])) ∷ [])
        ∷ point_under (binder.Loc L ∷ binder.Kind Unr 1 ∷ []) 2 []
        ∷ point_under (binder.Loc L ∷ binder.Kind Unr 1 ∷ []) 2 (long ∷ [])
        ∷ point 0 (long ∷ long ∷ [])
        ∷ point 0 (long ∷ [])
        ∷ point 0 []
        ∷ [];
  } ∷ [];
  globals = [];
  main = 0;
}

abbrev pub ParametersOfAPackageLowered : Type 0
ParametersOfAPackageLowered =
    codes_of parameters_of_a_package
    ≡ code_of 5 (w.I64Const 10 ∷ w.LocalSet 0 ∷ w.I64Const 5 ∷ w.LocalSet 1 ∷ w.I64Const 8 ∷ w.LocalSet 2 ∷ w.Nop ∷ w.I64Const 1 ∷ w.Call 1 ∷ w.LocalSet 3 ∷ w.LocalGet 3 ∷ w.I32WrapI64 ∷ w.LocalGet 2 ∷ w.I64Store 3 0 ∷ w.LocalGet 3 ∷ w.LocalSet 2 ∷ w.Block None (w.LocalGet 2 ∷ w.LocalSet 3 ∷ w.LocalGet 3 ∷ w.I32WrapI64 ∷ w.I64Load 3 0 ∷ w.LocalSet 2 ∷ w.LocalGet 3 ∷ w.Call 2 ∷ w.Block None (w.Nop ∷ w.I64Const 1 ∷ w.LocalSet 2 ∷ w.LocalGet 2 ∷ w.LocalSet 1 ∷ w.Br 0 ∷ []) ∷ []) ∷ w.LocalGet 0 ∷ w.LocalGet 1 ∷ w.I64Sub ∷ w.LocalSet 0 ∷ w.LocalGet 0 ∷ w.Call 0 ∷ w.I64Const 0 ∷ w.LocalSet 0 ∷ w.LocalGet 0 ∷ w.GlobalSet 2 ∷ [])
    ∷ code_of 2 (w.Call 4 ∷ w.GlobalGet 2 ∷ [])
    ∷ []

-- a package of the unrestricted memory, with two words
abbrev pub unrestricted_package : Program
unrestricted_package = record {
  funcs = record {
    file = 0;
    ty = record { binders = []; params = []; results = long ∷ [] };
    locals = [];
    body =
        i.I64Const 1
        ∷ i.I64Const 2
        ∷ i.Group 2 Unr
        ∷ i.ExistPack U Unr 1 long (Of Unr (Tuple (Var 0 ∷ long ∷ [])))
        ∷ i.MemUnpack (record { params = []; results = []; locals = [] }) (i.ExistUnpack (record { params = []; results = []; locals = [] }) (i.Ungroup ∷ i.Print ∷ i.Drop ∷ []) ∷ [])
        ∷ i.I64Const 0
        ∷ [];
    notes =
        point 0 []
        ∷ point 1 []
        ∷ point 0 (long ∷ long ∷ [])
        ∷ point 0 (Of Unr (Tuple (long ∷ long ∷ [])) ∷ [])
        ∷ point 0 (Of Unr (Hidden U (Of Unr (Ref Rw 0 (Exist Unr 1 (Of Unr (Tuple (Var 0 ∷ long ∷ []))))))) ∷ [])
        ∷ point_under (binder.Loc U ∷ []) 0 (Of Unr (Ref Rw 0 (Exist Unr 1 (Of Unr (Tuple (Var 0 ∷ long ∷ []))))) ∷ [])
        ∷ point_under (binder.Loc U ∷ binder.Kind Unr 1 ∷ []) 0 (Of Unr (Tuple (Var 0 ∷ long ∷ [])) ∷ [])
        ∷ point_under (binder.Loc U ∷ binder.Kind Unr 1 ∷ []) 1 (long ∷ [])
        ∷ point_under (binder.Loc U ∷ binder.Kind Unr 1 ∷ []) 0 (Var 0 ∷ [])
        ∷ point 0 []
        ∷ [];
  } ∷ [];
  globals = [];
  main = 0;
}

abbrev pub UnrestrictedPackageLowered : Type 0
UnrestrictedPackageLowered =
    codes_of unrestricted_package
    ≡ code_of 4 (w.I64Const 1 ∷ w.LocalSet 0 ∷ w.I64Const 2 ∷ w.LocalSet 1 ∷ w.Nop ∷ w.I64Const 2 ∷ w.Call 3 ∷ w.LocalSet 2 ∷ w.LocalGet 2 ∷ w.I32WrapI64 ∷ w.LocalGet 0 ∷ w.I64Store 3 0 ∷ w.LocalGet 2 ∷ w.I32WrapI64 ∷ w.LocalGet 1 ∷ w.I64Store 3 8 ∷ w.LocalGet 2 ∷ w.LocalSet 0 ∷ w.Block None (w.LocalGet 0 ∷ w.LocalSet 2 ∷ w.LocalGet 2 ∷ w.I32WrapI64 ∷ w.I64Load 3 0 ∷ w.LocalSet 0 ∷ w.LocalGet 2 ∷ w.I32WrapI64 ∷ w.I64Load 3 8 ∷ w.LocalSet 1 ∷ w.Block None (w.Nop ∷ w.LocalGet 1 ∷ w.Call 0 ∷ w.Nop ∷ []) ∷ []) ∷ w.I64Const 0 ∷ w.LocalSet 0 ∷ w.LocalGet 0 ∷ w.GlobalSet 2 ∷ [])
    ∷ code_of 2 (w.Call 4 ∷ w.GlobalGet 2 ∷ [])
    ∷ []

-- a linear cell is taken out of a variant
abbrev pub cell_in_a_variant : Program
cell_in_a_variant = record {
  funcs = record {
    file = 0;
    ty = record { binders = []; params = []; results = long ∷ [] };
    locals = [];
    body =
        i.I64Const 1
        ∷ i.StructMalloc L (1 ∷ [])
        ∷ i.VariantMalloc L 1 (unit_type ∷ Of Lin (Hidden L (Of Lin (Ref Rw 0 (Struct (record { ty = long; size = 1 } ∷ []))))) ∷ [])
        ∷ i.MemUnpack (record { params = []; results = []; locals = [] }) (i.VariantCase (record { params = []; results = []; locals = [] }) ((i.Drop ∷ []) ∷ (i.MemUnpack (record { params = []; results = []; locals = [] }) (i.StructFree ∷ []) ∷ []) ∷ []) ∷ [])
        ∷ i.I64Const 0
        ∷ [];
    notes =
        point 0 []
        ∷ point 0 (long ∷ [])
        ∷ point 0 (Of Lin (Hidden L (Of Lin (Ref Rw 0 (Struct (record { ty = long; size = 1 } ∷ []))))) ∷ [])
        ∷ point 0 (Of Lin (Hidden L (Of Lin (Ref Rw 0 (Variant (unit_type ∷ Of Lin (Hidden L (Of Lin (Ref Rw 0 (Struct (record { ty = long; size = 1 } ∷ []))))) ∷ []))))) ∷ [])
        ∷ point_under (binder.Loc L ∷ []) 0 (Of Lin (Ref Rw 0 (Variant (unit_type ∷ Of Lin (Hidden L (Of Lin (Ref Rw 0 (Struct (record { ty = long; size = 1 } ∷ []))))) ∷ []))) ∷ [])
        ∷ point_under (binder.Loc L ∷ []) 0 (unit_type ∷ [])
        ∷ point_under (binder.Loc L ∷ []) 0 (Of Lin (Hidden L (Of Lin (Ref Rw 0 (Struct (record { ty = long; size = 1 } ∷ []))))) ∷ [])
        ∷ point_under (binder.Loc L ∷ binder.Loc L ∷ []) 0 (Of Lin (Ref Rw 0 (Struct (record { ty = long; size = 1 } ∷ []))) ∷ [])
        ∷ point 0 []
        ∷ [];
  } ∷ [];
  globals = [];
  main = 0;
}

abbrev pub CellInAVariantLowered : Type 0
CellInAVariantLowered =
    codes_of cell_in_a_variant
    ≡ code_of 3 (w.I64Const 1 ∷ w.LocalSet 0 ∷ w.I64Const 1 ∷ w.Call 1 ∷ w.LocalSet 1 ∷ w.LocalGet 1 ∷ w.I32WrapI64 ∷ w.LocalGet 0 ∷ w.I64Store 3 0 ∷ w.LocalGet 1 ∷ w.LocalSet 0 ∷ w.I64Const 2 ∷ w.Call 1 ∷ w.LocalSet 1 ∷ w.LocalGet 1 ∷ w.I32WrapI64 ∷ w.I64Const 1 ∷ w.I64Store 3 0 ∷ w.LocalGet 1 ∷ w.I32WrapI64 ∷ w.LocalGet 0 ∷ w.I64Store 3 8 ∷ w.LocalGet 1 ∷ w.LocalSet 0 ∷ w.Block None (w.LocalGet 0 ∷ w.LocalSet 1 ∷ w.Block None (w.LocalGet 1 ∷ w.I32WrapI64 ∷ w.I64Load 3 0 ∷ w.I64Const 0 ∷ w.I64Eq ∷ w.If None (w.LocalGet 1 ∷ w.Call 2 ∷ w.Nop ∷ w.Br 1 ∷ []) ∷ w.LocalGet 1 ∷ w.I32WrapI64 ∷ w.I64Load 3 0 ∷ w.I64Const 1 ∷ w.I64Eq ∷ w.If None (w.LocalGet 1 ∷ w.I32WrapI64 ∷ w.I64Load 3 8 ∷ w.LocalSet 0 ∷ w.LocalGet 1 ∷ w.Call 2 ∷ w.Block None (w.LocalGet 0 ∷ w.Call 2 ∷ []) ∷ w.Br 1 ∷ []) ∷ w.Unreachable ∷ []) ∷ []) ∷ w.I64Const 0 ∷ w.LocalSet 0 ∷ w.LocalGet 0 ∷ w.GlobalSet 2 ∷ [])
    ∷ code_of 2 (w.Call 4 ∷ w.GlobalGet 2 ∷ [])
    ∷ []

-- a variant has room for its greatest case
abbrev pub greatest_case : Program
greatest_case = record {
  funcs = record {
    file = 0;
    ty = record { binders = []; params = []; results = long ∷ [] };
    locals = [];
    body =
        i.I64Const 1
        ∷ i.VariantMalloc L 0 (long ∷ Of Unr (Tuple (long ∷ long ∷ long ∷ [])) ∷ [])
        ∷ i.MemUnpack (record { params = []; results = []; locals = [] }) (i.VariantCase (record { params = []; results = []; locals = [] }) ((i.Print ∷ []) ∷ (i.Drop ∷ []) ∷ []) ∷ [])
        ∷ i.I64Const 0
        ∷ [];
    notes =
        point 0 []
        ∷ point 0 (long ∷ [])
        ∷ point 0 (Of Lin (Hidden L (Of Lin (Ref Rw 0 (Variant (long ∷ Of Unr (Tuple (long ∷ long ∷ long ∷ [])) ∷ []))))) ∷ [])
        ∷ point_under (binder.Loc L ∷ []) 0 (Of Lin (Ref Rw 0 (Variant (long ∷ Of Unr (Tuple (long ∷ long ∷ long ∷ [])) ∷ []))) ∷ [])
        ∷ point_under (binder.Loc L ∷ []) 0 (long ∷ [])
        ∷ point_under (binder.Loc L ∷ []) 0 (Of Unr (Tuple (long ∷ long ∷ long ∷ [])) ∷ [])
        ∷ point 0 []
        ∷ [];
  } ∷ [];
  globals = [];
  main = 0;
}

abbrev pub GreatestCaseLowered : Type 0
GreatestCaseLowered =
    codes_of greatest_case
    ≡ code_of 5 (w.I64Const 1 ∷ w.LocalSet 0 ∷ w.I64Const 4 ∷ w.Call 1 ∷ w.LocalSet 3 ∷ w.LocalGet 3 ∷ w.I32WrapI64 ∷ w.I64Const 0 ∷ w.I64Store 3 0 ∷ w.LocalGet 3 ∷ w.I32WrapI64 ∷ w.LocalGet 0 ∷ w.I64Store 3 8 ∷ w.LocalGet 3 ∷ w.LocalSet 0 ∷ w.Block None (w.LocalGet 0 ∷ w.LocalSet 3 ∷ w.Block None (w.LocalGet 3 ∷ w.I32WrapI64 ∷ w.I64Load 3 0 ∷ w.I64Const 0 ∷ w.I64Eq ∷ w.If None (w.LocalGet 3 ∷ w.I32WrapI64 ∷ w.I64Load 3 8 ∷ w.LocalSet 0 ∷ w.LocalGet 3 ∷ w.Call 2 ∷ w.LocalGet 0 ∷ w.Call 0 ∷ w.Br 1 ∷ []) ∷ w.LocalGet 3 ∷ w.I32WrapI64 ∷ w.I64Load 3 0 ∷ w.I64Const 1 ∷ w.I64Eq ∷ w.If None (w.LocalGet 3 ∷ w.I32WrapI64 ∷ w.I64Load 3 8 ∷ w.LocalSet 0 ∷ w.LocalGet 3 ∷ w.I32WrapI64 ∷ w.I64Load 3 16 ∷ w.LocalSet 1 ∷ w.LocalGet 3 ∷ w.I32WrapI64 ∷ w.I64Load 3 24 ∷ w.LocalSet 2 ∷ w.LocalGet 3 ∷ w.Call 2 ∷ w.Nop ∷ w.Br 1 ∷ []) ∷ w.Unreachable ∷ []) ∷ []) ∷ w.I64Const 0 ∷ w.LocalSet 0 ∷ w.LocalGet 0 ∷ w.GlobalSet 2 ∷ [])
    ∷ code_of 2 (w.Call 4 ∷ w.GlobalGet 2 ∷ [])
    ∷ []
