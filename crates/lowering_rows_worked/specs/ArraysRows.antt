-- Programs with arrays with their codes; the wanted codes are those of an independent
-- model (this project's own rows).
use Rattle.std.specs.Prelude.{◌≡◌, [], ◌∷◌, None}
use Rattle.wasm_ast.specs.declared.instructions.WInstr as w
use Rattle.rw_types.specs.declared.instrs.Instr as i
use Rattle.rw_types.specs.declared.types.Binder.TheVariants as binder
use Rattle.rw_types.specs.declared.numbers.NumName.TheVariants as number
use Rattle.lowering_rows_worked.specs.Programs.{naming, point, point_under, codes_of}
use Rattle.rich_types.specs.Rows.{long, short, unit_type}
use Rattle.rw_types.specs.declared.types.Heap.TheVariants.{Array}
use Rattle.rw_types.specs.declared.types.Mem.TheVariants.{L, U}
use Rattle.rw_types.specs.declared.types.Pre.{Ref}
use Rattle.rw_types.specs.declared.types.Pre.TheVariants.{Hidden, Tuple}
use Rattle.rw_types.specs.declared.types.Priv.TheVariants.{Rw}
use Rattle.rw_types.specs.declared.types.Qual.TheVariants.{Lin, Unr}
use Rattle.rw_types.specs.declared.types.Ty.{Of}
use Rattle.rw_program.specs.Programs.{Program}
use Rattle.lowering_rows.specs.Functions.{code_of}

-- an array whose elements have no words
abbrev pub wordless_array : Program
wordless_array = record {
  funcs = record {
    file = 0;
    ty = record { binders = []; params = []; results = long ∷ [] };
    locals = [];
    body =
        i.Unit
        ∷ i.I32Const 5
        ∷ i.ArrayMalloc U
        ∷ i.MemUnpack (record { params = []; results = []; locals = [] }) (i.I32Const 4 ∷ i.Unit ∷ i.ArraySet ∷ i.I32Const 4 ∷ i.ArrayGet ∷ i.Drop ∷ i.ArrayLen ∷ i.Num number.I64ExtendI32U ∷ i.Print ∷ i.Drop ∷ [])
        ∷ i.I64Const 0
        ∷ [];
    notes =
        point 0 []
        ∷ point 0 []
        ∷ point 0 (unit_type ∷ short ∷ [])
        ∷ point 0 (Of Unr (Hidden U (Of Unr (Ref Rw 0 (Array unit_type)))) ∷ [])
        ∷ point_under (binder.Loc U ∷ []) 1 []
        ∷ point_under (binder.Loc U ∷ []) 2 []
        ∷ point_under (binder.Loc U ∷ []) 0 (Of Unr (Ref Rw 0 (Array unit_type)) ∷ short ∷ unit_type ∷ [])
        ∷ point_under (binder.Loc U ∷ []) 1 []
        ∷ point_under (binder.Loc U ∷ []) 0 (Of Unr (Ref Rw 0 (Array unit_type)) ∷ short ∷ [])
        ∷ point_under (binder.Loc U ∷ []) 1 (unit_type ∷ [])
        ∷ point_under (binder.Loc U ∷ []) 0 (Of Unr (Ref Rw 0 (Array unit_type)) ∷ [])
        ∷ point_under (binder.Loc U ∷ []) 1 (short ∷ [])
        ∷ point_under (binder.Loc U ∷ []) 1 (long ∷ [])
        ∷ point_under (binder.Loc U ∷ []) 0 (Of Unr (Ref Rw 0 (Array unit_type)) ∷ [])
        ∷ point 0 []
        ∷ [];
  } ∷ [];
  globals = [];
  main = 0;
}

abbrev pub WordlessArrayLowered : Type 0
WordlessArrayLowered =
    codes_of wordless_array
    ≡ code_of 4 (w.Nop ∷ w.I64Const 5 ∷ w.LocalSet 0 ∷ w.LocalGet 0 ∷ w.I64Const 0 ∷ w.I64Mul ∷ w.I64Const 1 ∷ w.I64Add ∷ w.Call 3 ∷ w.LocalSet 2 ∷ w.LocalGet 2 ∷ w.I32WrapI64 ∷ w.LocalGet 0 ∷ w.I64Store 3 0 ∷ w.I64Const 0 ∷ w.LocalSet 3 ∷ w.Block None (w.Loop None (w.LocalGet 3 ∷ w.LocalGet 0 ∷ w.I64GeU ∷ w.BrIf 1 ∷ w.LocalGet 3 ∷ w.I64Const 1 ∷ w.I64Add ∷ w.LocalSet 3 ∷ w.Br 0 ∷ []) ∷ []) ∷ w.LocalGet 2 ∷ w.LocalSet 0 ∷ w.Block None (w.I64Const 4 ∷ w.LocalSet 1 ∷ w.Nop ∷ w.LocalGet 1 ∷ w.LocalGet 0 ∷ w.I32WrapI64 ∷ w.I64Load 3 0 ∷ w.I64GeU ∷ w.If None (w.I32Const 2 ∷ w.GlobalSet 0 ∷ w.Unreachable ∷ []) ∷ w.LocalGet 0 ∷ w.LocalGet 1 ∷ w.I64Const 0 ∷ w.I64Mul ∷ w.I64Add ∷ w.LocalSet 2 ∷ w.I64Const 4 ∷ w.LocalSet 1 ∷ w.LocalGet 1 ∷ w.LocalGet 0 ∷ w.I32WrapI64 ∷ w.I64Load 3 0 ∷ w.I64GeU ∷ w.If None (w.I32Const 2 ∷ w.GlobalSet 0 ∷ w.Unreachable ∷ []) ∷ w.LocalGet 0 ∷ w.LocalGet 1 ∷ w.I64Const 0 ∷ w.I64Mul ∷ w.I64Add ∷ w.LocalSet 2 ∷ w.Nop ∷ w.LocalGet 0 ∷ w.I32WrapI64 ∷ w.I64Load 3 0 ∷ w.LocalSet 1 ∷ w.LocalGet 1 ∷ w.I32WrapI64 ∷ w.I64ExtendI32U ∷ w.LocalSet 1 ∷ w.LocalGet 1 ∷ w.Call 0 ∷ w.Nop ∷ []) ∷ w.I64Const 0 ∷ w.LocalSet 0 ∷ w.LocalGet 0 ∷ w.GlobalSet 2 ∷ [])
    ∷ code_of 2 (w.Call 4 ∷ w.GlobalGet 2 ∷ [])
    ∷ []

-- an array of pairs
abbrev pub array_of_pairs : Program
array_of_pairs = record {
  funcs = record {
    file = 0;
    ty = record { binders = []; params = []; results = long ∷ [] };
    locals = 1 ∷ [];
    body =
        i.I64Const 1
        ∷ i.I64Const 2
        ∷ i.Group 2 Unr
        ∷ i.I32Const 3
        ∷ i.ArrayMalloc L
        ∷ i.MemUnpack (record { params = []; results = []; locals = record { index = 0; ty = long } ∷ [] }) (i.I32Const 1 ∷ i.I64Const 5 ∷ i.I64Const 6 ∷ i.Group 2 Unr ∷ i.ArraySet ∷ i.I32Const 1 ∷ i.ArrayGet ∷ i.Ungroup ∷ i.Print ∷ i.Print ∷ i.I32Const 0 ∷ i.ArrayGet ∷ i.Ungroup ∷ i.Print ∷ i.Print ∷ i.I32Const 2 ∷ i.ArrayGet ∷ i.Ungroup ∷ i.Num number.I64Add ∷ i.LocalSet 0 ∷ i.ArrayLen ∷ i.Num number.I64ExtendI32U ∷ i.Print ∷ i.ArrayFree ∷ [])
        ∷ i.LocalGet 0
        ∷ [];
    notes =
        point 0 []
        ∷ point 1 []
        ∷ point 0 (long ∷ long ∷ [])
        ∷ point 2 []
        ∷ point 0 (Of Unr (Tuple (long ∷ long ∷ [])) ∷ short ∷ [])
        ∷ point 0 (Of Lin (Hidden L (Of Lin (Ref Rw 0 (Array (Of Unr (Tuple (long ∷ long ∷ []))))))) ∷ [])
        ∷ point_under (binder.Loc L ∷ []) 1 []
        ∷ point_under (binder.Loc L ∷ []) 2 []
        ∷ point_under (binder.Loc L ∷ []) 3 []
        ∷ point_under (binder.Loc L ∷ []) 2 (long ∷ long ∷ [])
        ∷ point_under (binder.Loc L ∷ []) 0 (Of Lin (Ref Rw 0 (Array (Of Unr (Tuple (long ∷ long ∷ []))))) ∷ short ∷ Of Unr (Tuple (long ∷ long ∷ [])) ∷ [])
        ∷ point_under (binder.Loc L ∷ []) 1 []
        ∷ point_under (binder.Loc L ∷ []) 0 (Of Lin (Ref Rw 0 (Array (Of Unr (Tuple (long ∷ long ∷ []))))) ∷ short ∷ [])
        ∷ point_under (binder.Loc L ∷ []) 1 (Of Unr (Tuple (long ∷ long ∷ [])) ∷ [])
        ∷ point_under (binder.Loc L ∷ []) 2 (long ∷ [])
        ∷ point_under (binder.Loc L ∷ []) 1 (long ∷ [])
        ∷ point_under (binder.Loc L ∷ []) 1 []
        ∷ point_under (binder.Loc L ∷ []) 0 (Of Lin (Ref Rw 0 (Array (Of Unr (Tuple (long ∷ long ∷ []))))) ∷ short ∷ [])
        ∷ point_under (binder.Loc L ∷ []) 1 (Of Unr (Tuple (long ∷ long ∷ [])) ∷ [])
        ∷ point_under (binder.Loc L ∷ []) 2 (long ∷ [])
        ∷ point_under (binder.Loc L ∷ []) 1 (long ∷ [])
        ∷ point_under (binder.Loc L ∷ []) 1 []
        ∷ point_under (binder.Loc L ∷ []) 0 (Of Lin (Ref Rw 0 (Array (Of Unr (Tuple (long ∷ long ∷ []))))) ∷ short ∷ [])
        ∷ point_under (binder.Loc L ∷ []) 1 (Of Unr (Tuple (long ∷ long ∷ [])) ∷ [])
        ∷ point_under (binder.Loc L ∷ []) 1 (long ∷ long ∷ [])
        ∷ naming unit_type (binder.Loc L ∷ []) 1 (long ∷ [])
        ∷ point_under (binder.Loc L ∷ []) 0 (Of Lin (Ref Rw 0 (Array (Of Unr (Tuple (long ∷ long ∷ []))))) ∷ [])
        ∷ point_under (binder.Loc L ∷ []) 1 (short ∷ [])
        ∷ point_under (binder.Loc L ∷ []) 1 (long ∷ [])
        ∷ point_under (binder.Loc L ∷ []) 0 (Of Lin (Ref Rw 0 (Array (Of Unr (Tuple (long ∷ long ∷ []))))) ∷ [])
        ∷ naming long [] 0 []
        ∷ [];
  } ∷ [];
  globals = [];
  main = 0;
}

abbrev pub ArrayOfPairsLowered : Type 0
ArrayOfPairsLowered =
    codes_of array_of_pairs
    ≡ code_of 7 (w.I64Const 1 ∷ w.LocalSet 1 ∷ w.I64Const 2 ∷ w.LocalSet 2 ∷ w.Nop ∷ w.I64Const 3 ∷ w.LocalSet 3 ∷ w.LocalGet 3 ∷ w.I64Const 2 ∷ w.I64Mul ∷ w.I64Const 1 ∷ w.I64Add ∷ w.Call 1 ∷ w.LocalSet 5 ∷ w.LocalGet 5 ∷ w.I32WrapI64 ∷ w.LocalGet 3 ∷ w.I64Store 3 0 ∷ w.I64Const 0 ∷ w.LocalSet 6 ∷ w.Block None (w.Loop None (w.LocalGet 6 ∷ w.LocalGet 3 ∷ w.I64GeU ∷ w.BrIf 1 ∷ w.LocalGet 5 ∷ w.LocalGet 6 ∷ w.I64Const 16 ∷ w.I64Mul ∷ w.I64Add ∷ w.I32WrapI64 ∷ w.LocalGet 1 ∷ w.I64Store 3 8 ∷ w.LocalGet 5 ∷ w.LocalGet 6 ∷ w.I64Const 16 ∷ w.I64Mul ∷ w.I64Add ∷ w.I32WrapI64 ∷ w.LocalGet 2 ∷ w.I64Store 3 16 ∷ w.LocalGet 6 ∷ w.I64Const 1 ∷ w.I64Add ∷ w.LocalSet 6 ∷ w.Br 0 ∷ []) ∷ []) ∷ w.LocalGet 5 ∷ w.LocalSet 1 ∷ w.Block None (w.I64Const 1 ∷ w.LocalSet 2 ∷ w.I64Const 5 ∷ w.LocalSet 3 ∷ w.I64Const 6 ∷ w.LocalSet 4 ∷ w.Nop ∷ w.LocalGet 2 ∷ w.LocalGet 1 ∷ w.I32WrapI64 ∷ w.I64Load 3 0 ∷ w.I64GeU ∷ w.If None (w.I32Const 2 ∷ w.GlobalSet 0 ∷ w.Unreachable ∷ []) ∷ w.LocalGet 1 ∷ w.LocalGet 2 ∷ w.I64Const 16 ∷ w.I64Mul ∷ w.I64Add ∷ w.LocalSet 5 ∷ w.LocalGet 5 ∷ w.I32WrapI64 ∷ w.LocalGet 3 ∷ w.I64Store 3 8 ∷ w.LocalGet 5 ∷ w.I32WrapI64 ∷ w.LocalGet 4 ∷ w.I64Store 3 16 ∷ w.I64Const 1 ∷ w.LocalSet 2 ∷ w.LocalGet 2 ∷ w.LocalGet 1 ∷ w.I32WrapI64 ∷ w.I64Load 3 0 ∷ w.I64GeU ∷ w.If None (w.I32Const 2 ∷ w.GlobalSet 0 ∷ w.Unreachable ∷ []) ∷ w.LocalGet 1 ∷ w.LocalGet 2 ∷ w.I64Const 16 ∷ w.I64Mul ∷ w.I64Add ∷ w.LocalSet 5 ∷ w.LocalGet 5 ∷ w.I32WrapI64 ∷ w.I64Load 3 8 ∷ w.LocalSet 2 ∷ w.LocalGet 5 ∷ w.I32WrapI64 ∷ w.I64Load 3 16 ∷ w.LocalSet 3 ∷ w.Nop ∷ w.LocalGet 3 ∷ w.Call 0 ∷ w.LocalGet 2 ∷ w.Call 0 ∷ w.I64Const 0 ∷ w.LocalSet 2 ∷ w.LocalGet 2 ∷ w.LocalGet 1 ∷ w.I32WrapI64 ∷ w.I64Load 3 0 ∷ w.I64GeU ∷ w.If None (w.I32Const 2 ∷ w.GlobalSet 0 ∷ w.Unreachable ∷ []) ∷ w.LocalGet 1 ∷ w.LocalGet 2 ∷ w.I64Const 16 ∷ w.I64Mul ∷ w.I64Add ∷ w.LocalSet 5 ∷ w.LocalGet 5 ∷ w.I32WrapI64 ∷ w.I64Load 3 8 ∷ w.LocalSet 2 ∷ w.LocalGet 5 ∷ w.I32WrapI64 ∷ w.I64Load 3 16 ∷ w.LocalSet 3 ∷ w.Nop ∷ w.LocalGet 3 ∷ w.Call 0 ∷ w.LocalGet 2 ∷ w.Call 0 ∷ w.I64Const 2 ∷ w.LocalSet 2 ∷ w.LocalGet 2 ∷ w.LocalGet 1 ∷ w.I32WrapI64 ∷ w.I64Load 3 0 ∷ w.I64GeU ∷ w.If None (w.I32Const 2 ∷ w.GlobalSet 0 ∷ w.Unreachable ∷ []) ∷ w.LocalGet 1 ∷ w.LocalGet 2 ∷ w.I64Const 16 ∷ w.I64Mul ∷ w.I64Add ∷ w.LocalSet 5 ∷ w.LocalGet 5 ∷ w.I32WrapI64 ∷ w.I64Load 3 8 ∷ w.LocalSet 2 ∷ w.LocalGet 5 ∷ w.I32WrapI64 ∷ w.I64Load 3 16 ∷ w.LocalSet 3 ∷ w.Nop ∷ w.LocalGet 2 ∷ w.LocalGet 3 ∷ w.I64Add ∷ w.LocalSet 2 ∷ w.LocalGet 2 ∷ w.LocalSet 0 ∷ w.LocalGet 1 ∷ w.I32WrapI64 ∷ w.I64Load 3 0 ∷ w.LocalSet 2 ∷ w.LocalGet 2 ∷ w.I32WrapI64 ∷ w.I64ExtendI32U ∷ w.LocalSet 2 ∷ w.LocalGet 2 ∷ w.Call 0 ∷ w.LocalGet 1 ∷ w.Call 2 ∷ []) ∷ w.LocalGet 0 ∷ w.LocalSet 1 ∷ w.LocalGet 1 ∷ w.GlobalSet 2 ∷ [])
    ∷ code_of 2 (w.Call 4 ∷ w.GlobalGet 2 ∷ [])
    ∷ []

-- an array that is set past its end
abbrev pub array_past_its_end : Program
array_past_its_end = record {
  funcs = record {
    file = 0;
    ty = record { binders = []; params = []; results = long ∷ [] };
    locals = [];
    body =
        i.I64Const 1
        ∷ i.I32Const 2
        ∷ i.ArrayMalloc L
        ∷ i.MemUnpack (record { params = []; results = []; locals = [] }) (i.I32Const 4294967295 ∷ i.I64Const 3 ∷ i.ArraySet ∷ i.ArrayFree ∷ [])
        ∷ i.I64Const 0
        ∷ [];
    notes =
        point 0 []
        ∷ point 1 []
        ∷ point 0 (long ∷ short ∷ [])
        ∷ point 0 (Of Lin (Hidden L (Of Lin (Ref Rw 0 (Array long)))) ∷ [])
        ∷ point_under (binder.Loc L ∷ []) 1 []
        ∷ point_under (binder.Loc L ∷ []) 2 []
        ∷ point_under (binder.Loc L ∷ []) 0 (Of Lin (Ref Rw 0 (Array long)) ∷ short ∷ long ∷ [])
        ∷ point_under (binder.Loc L ∷ []) 0 (Of Lin (Ref Rw 0 (Array long)) ∷ [])
        ∷ point 0 []
        ∷ [];
  } ∷ [];
  globals = [];
  main = 0;
}

abbrev pub ArrayPastItsEndLowered : Type 0
ArrayPastItsEndLowered =
    codes_of array_past_its_end
    ≡ code_of 5 (w.I64Const 1 ∷ w.LocalSet 0 ∷ w.I64Const 2 ∷ w.LocalSet 1 ∷ w.LocalGet 1 ∷ w.I64Const 1 ∷ w.I64Mul ∷ w.I64Const 1 ∷ w.I64Add ∷ w.Call 1 ∷ w.LocalSet 3 ∷ w.LocalGet 3 ∷ w.I32WrapI64 ∷ w.LocalGet 1 ∷ w.I64Store 3 0 ∷ w.I64Const 0 ∷ w.LocalSet 4 ∷ w.Block None (w.Loop None (w.LocalGet 4 ∷ w.LocalGet 1 ∷ w.I64GeU ∷ w.BrIf 1 ∷ w.LocalGet 3 ∷ w.LocalGet 4 ∷ w.I64Const 8 ∷ w.I64Mul ∷ w.I64Add ∷ w.I32WrapI64 ∷ w.LocalGet 0 ∷ w.I64Store 3 8 ∷ w.LocalGet 4 ∷ w.I64Const 1 ∷ w.I64Add ∷ w.LocalSet 4 ∷ w.Br 0 ∷ []) ∷ []) ∷ w.LocalGet 3 ∷ w.LocalSet 0 ∷ w.Block None (w.I64Const 4294967295 ∷ w.LocalSet 1 ∷ w.I64Const 3 ∷ w.LocalSet 2 ∷ w.LocalGet 1 ∷ w.LocalGet 0 ∷ w.I32WrapI64 ∷ w.I64Load 3 0 ∷ w.I64GeU ∷ w.If None (w.I32Const 2 ∷ w.GlobalSet 0 ∷ w.Unreachable ∷ []) ∷ w.LocalGet 0 ∷ w.LocalGet 1 ∷ w.I64Const 8 ∷ w.I64Mul ∷ w.I64Add ∷ w.LocalSet 3 ∷ w.LocalGet 3 ∷ w.I32WrapI64 ∷ w.LocalGet 2 ∷ w.I64Store 3 8 ∷ w.LocalGet 0 ∷ w.Call 2 ∷ []) ∷ w.I64Const 0 ∷ w.LocalSet 0 ∷ w.LocalGet 0 ∷ w.GlobalSet 2 ∷ [])
    ∷ code_of 2 (w.Call 4 ∷ w.GlobalGet 2 ∷ [])
    ∷ []
