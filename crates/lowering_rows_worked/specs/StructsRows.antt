-- Programs with structs, capabilities and hidden locations with their codes; the wanted codes are those of an independent
-- model (this project's own rows).
use Rattle.std.specs.Prelude.{◌≡◌, [], ◌∷◌, None}
use Rattle.wasm_ast.specs.declared.instructions.WInstr as w
use Rattle.rw_types.specs.declared.instrs.Instr as i
use Rattle.rw_types.specs.declared.types.Binder.TheVariants as binder
use Rattle.lowering_rows_worked.specs.Programs.{naming, point, point_under, codes_of}
use Rattle.rich_types.specs.Rows.{long, short, unit_type}
use Rattle.rw_types.specs.declared.types.Heap.TheVariants.{Struct}
use Rattle.rw_types.specs.declared.types.Mem.TheVariants.{L, U}
use Rattle.rw_types.specs.declared.types.Pre.{Cap, I64, Own, Ptr, Ref}
use Rattle.rw_types.specs.declared.types.Pre.TheVariants.{Hidden, Tuple}
use Rattle.rw_types.specs.declared.types.Priv.TheVariants.{R, Rw}
use Rattle.rw_types.specs.declared.types.Qual.TheVariants.{Lin, Unr}
use Rattle.rw_types.specs.declared.types.Ty.{Of}
use Rattle.rw_program.specs.Programs.{Program}
use Rattle.lowering_rows.specs.Functions.{code_of}

-- slots that are wider than their types
abbrev pub wide_slots : Program
wide_slots = record {
  funcs = record {
    file = 0;
    ty = record { binders = []; params = []; results = long ∷ [] };
    locals = [];
    body =
        i.I64Const 1
        ∷ i.I64Const 2
        ∷ i.I64Const 3
        ∷ i.StructMalloc U (2 ∷ 3 ∷ 1 ∷ [])
        ∷ i.MemUnpack (record { params = []; results = []; locals = [] }) (i.StructGet 0 ∷ i.Print ∷ i.StructGet 1 ∷ i.Print ∷ i.StructGet 2 ∷ i.Print ∷ i.I64Const 9 ∷ i.StructSet 1 ∷ i.StructGet 2 ∷ i.Print ∷ i.StructGet 1 ∷ i.Print ∷ i.StructGet 0 ∷ i.Print ∷ i.Drop ∷ [])
        ∷ i.I64Const 0
        ∷ [];
    notes =
        point 0 []
        ∷ point 1 []
        ∷ point 2 []
        ∷ point 0 (long ∷ long ∷ long ∷ [])
        ∷ point 0 (Of Unr (Hidden U (Of Unr (Ref Rw 0 (Struct (record { ty = long; size = 2 } ∷ record { ty = long; size = 3 } ∷ record { ty = long; size = 1 } ∷ []))))) ∷ [])
        ∷ point_under (binder.Loc U ∷ []) 0 (Of Unr (Ref Rw 0 (Struct (record { ty = long; size = 2 } ∷ record { ty = long; size = 3 } ∷ record { ty = long; size = 1 } ∷ []))) ∷ [])
        ∷ point_under (binder.Loc U ∷ []) 1 (long ∷ [])
        ∷ point_under (binder.Loc U ∷ []) 0 (Of Unr (Ref Rw 0 (Struct (record { ty = long; size = 2 } ∷ record { ty = long; size = 3 } ∷ record { ty = long; size = 1 } ∷ []))) ∷ [])
        ∷ point_under (binder.Loc U ∷ []) 1 (long ∷ [])
        ∷ point_under (binder.Loc U ∷ []) 0 (Of Unr (Ref Rw 0 (Struct (record { ty = long; size = 2 } ∷ record { ty = long; size = 3 } ∷ record { ty = long; size = 1 } ∷ []))) ∷ [])
        ∷ point_under (binder.Loc U ∷ []) 1 (long ∷ [])
        ∷ point_under (binder.Loc U ∷ []) 1 []
        ∷ point_under (binder.Loc U ∷ []) 0 (Of Unr (Ref Rw 0 (Struct (record { ty = long; size = 2 } ∷ record { ty = long; size = 3 } ∷ record { ty = long; size = 1 } ∷ []))) ∷ long ∷ [])
        ∷ point_under (binder.Loc U ∷ []) 0 (Of Unr (Ref Rw 0 (Struct (record { ty = long; size = 2 } ∷ record { ty = long; size = 3 } ∷ record { ty = long; size = 1 } ∷ []))) ∷ [])
        ∷ point_under (binder.Loc U ∷ []) 1 (long ∷ [])
        ∷ point_under (binder.Loc U ∷ []) 0 (Of Unr (Ref Rw 0 (Struct (record { ty = long; size = 2 } ∷ record { ty = long; size = 3 } ∷ record { ty = long; size = 1 } ∷ []))) ∷ [])
        ∷ point_under (binder.Loc U ∷ []) 1 (long ∷ [])
        ∷ point_under (binder.Loc U ∷ []) 0 (Of Unr (Ref Rw 0 (Struct (record { ty = long; size = 2 } ∷ record { ty = long; size = 3 } ∷ record { ty = long; size = 1 } ∷ []))) ∷ [])
        ∷ point_under (binder.Loc U ∷ []) 1 (long ∷ [])
        ∷ point_under (binder.Loc U ∷ []) 0 (Of Unr (Ref Rw 0 (Struct (record { ty = long; size = 2 } ∷ record { ty = long; size = 3 } ∷ record { ty = long; size = 1 } ∷ []))) ∷ [])
        ∷ point 0 []
        ∷ [];
  } ∷ [];
  globals = [];
  main = 0;
}

abbrev pub WideSlotsLowered : Type 0
WideSlotsLowered =
    codes_of wide_slots
    ≡ code_of 5 (w.I64Const 1 ∷ w.LocalSet 0 ∷ w.I64Const 2 ∷ w.LocalSet 1 ∷ w.I64Const 3 ∷ w.LocalSet 2 ∷ w.I64Const 6 ∷ w.Call 3 ∷ w.LocalSet 3 ∷ w.LocalGet 3 ∷ w.I32WrapI64 ∷ w.LocalGet 0 ∷ w.I64Store 3 0 ∷ w.LocalGet 3 ∷ w.I32WrapI64 ∷ w.LocalGet 1 ∷ w.I64Store 3 16 ∷ w.LocalGet 3 ∷ w.I32WrapI64 ∷ w.LocalGet 2 ∷ w.I64Store 3 40 ∷ w.LocalGet 3 ∷ w.LocalSet 0 ∷ w.Block None (w.LocalGet 0 ∷ w.I32WrapI64 ∷ w.I64Load 3 0 ∷ w.LocalSet 1 ∷ w.LocalGet 1 ∷ w.Call 0 ∷ w.LocalGet 0 ∷ w.I32WrapI64 ∷ w.I64Load 3 16 ∷ w.LocalSet 1 ∷ w.LocalGet 1 ∷ w.Call 0 ∷ w.LocalGet 0 ∷ w.I32WrapI64 ∷ w.I64Load 3 40 ∷ w.LocalSet 1 ∷ w.LocalGet 1 ∷ w.Call 0 ∷ w.I64Const 9 ∷ w.LocalSet 1 ∷ w.LocalGet 0 ∷ w.I32WrapI64 ∷ w.LocalGet 1 ∷ w.I64Store 3 16 ∷ w.LocalGet 0 ∷ w.I32WrapI64 ∷ w.I64Load 3 40 ∷ w.LocalSet 1 ∷ w.LocalGet 1 ∷ w.Call 0 ∷ w.LocalGet 0 ∷ w.I32WrapI64 ∷ w.I64Load 3 16 ∷ w.LocalSet 1 ∷ w.LocalGet 1 ∷ w.Call 0 ∷ w.LocalGet 0 ∷ w.I32WrapI64 ∷ w.I64Load 3 0 ∷ w.LocalSet 1 ∷ w.LocalGet 1 ∷ w.Call 0 ∷ w.Nop ∷ []) ∷ w.I64Const 0 ∷ w.LocalSet 0 ∷ w.LocalGet 0 ∷ w.GlobalSet 2 ∷ [])
    ∷ code_of 2 (w.Call 4 ∷ w.GlobalGet 2 ∷ [])
    ∷ []

-- a slot gets a wider value and a narrower one
abbrev pub other_types : Program
other_types = record {
  funcs = record {
    file = 0;
    ty = record { binders = []; params = []; results = long ∷ [] };
    locals = [];
    body =
        i.I64Const 1
        ∷ i.I64Const 7
        ∷ i.StructMalloc L (2 ∷ 1 ∷ [])
        ∷ i.MemUnpack (record { params = []; results = []; locals = [] }) (i.I64Const 4 ∷ i.I64Const 5 ∷ i.Group 2 Unr ∷ i.StructSet 0 ∷ i.StructGet 1 ∷ i.Print ∷ i.StructGet 0 ∷ i.Ungroup ∷ i.Print ∷ i.Print ∷ i.I64Const 6 ∷ i.StructSet 0 ∷ i.StructGet 0 ∷ i.Print ∷ i.Unit ∷ i.StructSet 0 ∷ i.StructGet 1 ∷ i.Print ∷ i.StructFree ∷ [])
        ∷ i.I64Const 0
        ∷ [];
    notes =
        point 0 []
        ∷ point 1 []
        ∷ point 0 (long ∷ long ∷ [])
        ∷ point 0 (Of Lin (Hidden L (Of Lin (Ref Rw 0 (Struct (record { ty = long; size = 2 } ∷ record { ty = long; size = 1 } ∷ []))))) ∷ [])
        ∷ point_under (binder.Loc L ∷ []) 1 []
        ∷ point_under (binder.Loc L ∷ []) 2 []
        ∷ point_under (binder.Loc L ∷ []) 1 (long ∷ long ∷ [])
        ∷ point_under (binder.Loc L ∷ []) 0 (Of Lin (Ref Rw 0 (Struct (record { ty = long; size = 2 } ∷ record { ty = long; size = 1 } ∷ []))) ∷ Of Unr (Tuple (long ∷ long ∷ [])) ∷ [])
        ∷ point_under (binder.Loc L ∷ []) 0 (Of Lin (Ref Rw 0 (Struct (record { ty = Of Unr (Tuple (long ∷ long ∷ [])); size = 2 } ∷ record { ty = long; size = 1 } ∷ []))) ∷ [])
        ∷ point_under (binder.Loc L ∷ []) 1 (long ∷ [])
        ∷ point_under (binder.Loc L ∷ []) 0 (Of Lin (Ref Rw 0 (Struct (record { ty = Of Unr (Tuple (long ∷ long ∷ [])); size = 2 } ∷ record { ty = long; size = 1 } ∷ []))) ∷ [])
        ∷ point_under (binder.Loc L ∷ []) 1 (Of Unr (Tuple (long ∷ long ∷ [])) ∷ [])
        ∷ point_under (binder.Loc L ∷ []) 2 (long ∷ [])
        ∷ point_under (binder.Loc L ∷ []) 1 (long ∷ [])
        ∷ point_under (binder.Loc L ∷ []) 1 []
        ∷ point_under (binder.Loc L ∷ []) 0 (Of Lin (Ref Rw 0 (Struct (record { ty = Of Unr (Tuple (long ∷ long ∷ [])); size = 2 } ∷ record { ty = long; size = 1 } ∷ []))) ∷ long ∷ [])
        ∷ point_under (binder.Loc L ∷ []) 0 (Of Lin (Ref Rw 0 (Struct (record { ty = long; size = 2 } ∷ record { ty = long; size = 1 } ∷ []))) ∷ [])
        ∷ point_under (binder.Loc L ∷ []) 1 (long ∷ [])
        ∷ point_under (binder.Loc L ∷ []) 1 []
        ∷ point_under (binder.Loc L ∷ []) 0 (Of Lin (Ref Rw 0 (Struct (record { ty = long; size = 2 } ∷ record { ty = long; size = 1 } ∷ []))) ∷ unit_type ∷ [])
        ∷ point_under (binder.Loc L ∷ []) 0 (Of Lin (Ref Rw 0 (Struct (record { ty = unit_type; size = 2 } ∷ record { ty = long; size = 1 } ∷ []))) ∷ [])
        ∷ point_under (binder.Loc L ∷ []) 1 (long ∷ [])
        ∷ point_under (binder.Loc L ∷ []) 0 (Of Lin (Ref Rw 0 (Struct (record { ty = unit_type; size = 2 } ∷ record { ty = long; size = 1 } ∷ []))) ∷ [])
        ∷ point 0 []
        ∷ [];
  } ∷ [];
  globals = [];
  main = 0;
}

abbrev pub OtherTypesLowered : Type 0
OtherTypesLowered =
    codes_of other_types
    ≡ code_of 5 (w.I64Const 1 ∷ w.LocalSet 0 ∷ w.I64Const 7 ∷ w.LocalSet 1 ∷ w.I64Const 3 ∷ w.Call 1 ∷ w.LocalSet 3 ∷ w.LocalGet 3 ∷ w.I32WrapI64 ∷ w.LocalGet 0 ∷ w.I64Store 3 0 ∷ w.LocalGet 3 ∷ w.I32WrapI64 ∷ w.LocalGet 1 ∷ w.I64Store 3 16 ∷ w.LocalGet 3 ∷ w.LocalSet 0 ∷ w.Block None (w.I64Const 4 ∷ w.LocalSet 1 ∷ w.I64Const 5 ∷ w.LocalSet 2 ∷ w.Nop ∷ w.LocalGet 0 ∷ w.I32WrapI64 ∷ w.LocalGet 1 ∷ w.I64Store 3 0 ∷ w.LocalGet 0 ∷ w.I32WrapI64 ∷ w.LocalGet 2 ∷ w.I64Store 3 8 ∷ w.LocalGet 0 ∷ w.I32WrapI64 ∷ w.I64Load 3 16 ∷ w.LocalSet 1 ∷ w.LocalGet 1 ∷ w.Call 0 ∷ w.LocalGet 0 ∷ w.I32WrapI64 ∷ w.I64Load 3 0 ∷ w.LocalSet 1 ∷ w.LocalGet 0 ∷ w.I32WrapI64 ∷ w.I64Load 3 8 ∷ w.LocalSet 2 ∷ w.Nop ∷ w.LocalGet 2 ∷ w.Call 0 ∷ w.LocalGet 1 ∷ w.Call 0 ∷ w.I64Const 6 ∷ w.LocalSet 1 ∷ w.LocalGet 0 ∷ w.I32WrapI64 ∷ w.LocalGet 1 ∷ w.I64Store 3 0 ∷ w.LocalGet 0 ∷ w.I32WrapI64 ∷ w.I64Load 3 0 ∷ w.LocalSet 1 ∷ w.LocalGet 1 ∷ w.Call 0 ∷ w.Nop ∷ w.LocalGet 0 ∷ w.I32WrapI64 ∷ w.I64Load 3 16 ∷ w.LocalSet 1 ∷ w.LocalGet 1 ∷ w.Call 0 ∷ w.LocalGet 0 ∷ w.Call 2 ∷ []) ∷ w.I64Const 0 ∷ w.LocalSet 0 ∷ w.LocalGet 0 ∷ w.GlobalSet 2 ∷ [])
    ∷ code_of 2 (w.Call 4 ∷ w.GlobalGet 2 ∷ [])
    ∷ []

-- three words are swapped for one, and one for three
abbrev pub swapping : Program
swapping = record {
  funcs = record {
    file = 0;
    ty = record { binders = []; params = []; results = long ∷ [] };
    locals = [];
    body =
        i.I64Const 1
        ∷ i.I64Const 2
        ∷ i.I64Const 3
        ∷ i.Group 3 Unr
        ∷ i.I64Const 8
        ∷ i.StructMalloc L (3 ∷ 1 ∷ [])
        ∷ i.MemUnpack (record { params = []; results = []; locals = [] }) (i.I64Const 4 ∷ i.StructSwap 0 ∷ i.Ungroup ∷ i.Print ∷ i.Print ∷ i.Print ∷ i.I64Const 5 ∷ i.I64Const 6 ∷ i.I64Const 7 ∷ i.Group 3 Unr ∷ i.StructSwap 0 ∷ i.Print ∷ i.StructGet 0 ∷ i.Ungroup ∷ i.Print ∷ i.Print ∷ i.Print ∷ i.StructGet 1 ∷ i.Print ∷ i.StructFree ∷ [])
        ∷ i.I64Const 0
        ∷ [];
    notes =
        point 0 []
        ∷ point 1 []
        ∷ point 2 []
        ∷ point 0 (long ∷ long ∷ long ∷ [])
        ∷ point 3 []
        ∷ point 0 (Of Unr (Tuple (long ∷ long ∷ long ∷ [])) ∷ long ∷ [])
        ∷ point 0 (Of Lin (Hidden L (Of Lin (Ref Rw 0 (Struct (record { ty = Of Unr (Tuple (long ∷ long ∷ long ∷ [])); size = 3 } ∷ record { ty = long; size = 1 } ∷ []))))) ∷ [])
        ∷ point_under (binder.Loc L ∷ []) 1 []
        ∷ point_under (binder.Loc L ∷ []) 0 (Of Lin (Ref Rw 0 (Struct (record { ty = Of Unr (Tuple (long ∷ long ∷ long ∷ [])); size = 3 } ∷ record { ty = long; size = 1 } ∷ []))) ∷ long ∷ [])
        ∷ point_under (binder.Loc L ∷ []) 1 (Of Unr (Tuple (long ∷ long ∷ long ∷ [])) ∷ [])
        ∷ point_under (binder.Loc L ∷ []) 3 (long ∷ [])
        ∷ point_under (binder.Loc L ∷ []) 2 (long ∷ [])
        ∷ point_under (binder.Loc L ∷ []) 1 (long ∷ [])
        ∷ point_under (binder.Loc L ∷ []) 1 []
        ∷ point_under (binder.Loc L ∷ []) 2 []
        ∷ point_under (binder.Loc L ∷ []) 3 []
        ∷ point_under (binder.Loc L ∷ []) 1 (long ∷ long ∷ long ∷ [])
        ∷ point_under (binder.Loc L ∷ []) 0 (Of Lin (Ref Rw 0 (Struct (record { ty = long; size = 3 } ∷ record { ty = long; size = 1 } ∷ []))) ∷ Of Unr (Tuple (long ∷ long ∷ long ∷ [])) ∷ [])
        ∷ point_under (binder.Loc L ∷ []) 1 (long ∷ [])
        ∷ point_under (binder.Loc L ∷ []) 0 (Of Lin (Ref Rw 0 (Struct (record { ty = Of Unr (Tuple (long ∷ long ∷ long ∷ [])); size = 3 } ∷ record { ty = long; size = 1 } ∷ []))) ∷ [])
        ∷ point_under (binder.Loc L ∷ []) 1 (Of Unr (Tuple (long ∷ long ∷ long ∷ [])) ∷ [])
        ∷ point_under (binder.Loc L ∷ []) 3 (long ∷ [])
        ∷ point_under (binder.Loc L ∷ []) 2 (long ∷ [])
        ∷ point_under (binder.Loc L ∷ []) 1 (long ∷ [])
        ∷ point_under (binder.Loc L ∷ []) 0 (Of Lin (Ref Rw 0 (Struct (record { ty = Of Unr (Tuple (long ∷ long ∷ long ∷ [])); size = 3 } ∷ record { ty = long; size = 1 } ∷ []))) ∷ [])
        ∷ point_under (binder.Loc L ∷ []) 1 (long ∷ [])
        ∷ point_under (binder.Loc L ∷ []) 0 (Of Lin (Ref Rw 0 (Struct (record { ty = Of Unr (Tuple (long ∷ long ∷ long ∷ [])); size = 3 } ∷ record { ty = long; size = 1 } ∷ []))) ∷ [])
        ∷ point 0 []
        ∷ [];
  } ∷ [];
  globals = [];
  main = 0;
}

abbrev pub SwappingLowered : Type 0
SwappingLowered =
    codes_of swapping
    ≡ code_of 7 (w.I64Const 1 ∷ w.LocalSet 0 ∷ w.I64Const 2 ∷ w.LocalSet 1 ∷ w.I64Const 3 ∷ w.LocalSet 2 ∷ w.Nop ∷ w.I64Const 8 ∷ w.LocalSet 3 ∷ w.I64Const 4 ∷ w.Call 1 ∷ w.LocalSet 5 ∷ w.LocalGet 5 ∷ w.I32WrapI64 ∷ w.LocalGet 0 ∷ w.I64Store 3 0 ∷ w.LocalGet 5 ∷ w.I32WrapI64 ∷ w.LocalGet 1 ∷ w.I64Store 3 8 ∷ w.LocalGet 5 ∷ w.I32WrapI64 ∷ w.LocalGet 2 ∷ w.I64Store 3 16 ∷ w.LocalGet 5 ∷ w.I32WrapI64 ∷ w.LocalGet 3 ∷ w.I64Store 3 24 ∷ w.LocalGet 5 ∷ w.LocalSet 0 ∷ w.Block None (w.I64Const 4 ∷ w.LocalSet 1 ∷ w.LocalGet 0 ∷ w.I32WrapI64 ∷ w.I64Load 3 0 ∷ w.LocalSet 2 ∷ w.LocalGet 0 ∷ w.I32WrapI64 ∷ w.I64Load 3 8 ∷ w.LocalSet 3 ∷ w.LocalGet 0 ∷ w.I32WrapI64 ∷ w.I64Load 3 16 ∷ w.LocalSet 4 ∷ w.LocalGet 0 ∷ w.I32WrapI64 ∷ w.LocalGet 1 ∷ w.I64Store 3 0 ∷ w.LocalGet 2 ∷ w.LocalSet 1 ∷ w.LocalGet 3 ∷ w.LocalSet 2 ∷ w.LocalGet 4 ∷ w.LocalSet 3 ∷ w.Nop ∷ w.LocalGet 3 ∷ w.Call 0 ∷ w.LocalGet 2 ∷ w.Call 0 ∷ w.LocalGet 1 ∷ w.Call 0 ∷ w.I64Const 5 ∷ w.LocalSet 1 ∷ w.I64Const 6 ∷ w.LocalSet 2 ∷ w.I64Const 7 ∷ w.LocalSet 3 ∷ w.Nop ∷ w.LocalGet 0 ∷ w.I32WrapI64 ∷ w.I64Load 3 0 ∷ w.LocalSet 4 ∷ w.LocalGet 0 ∷ w.I32WrapI64 ∷ w.LocalGet 1 ∷ w.I64Store 3 0 ∷ w.LocalGet 0 ∷ w.I32WrapI64 ∷ w.LocalGet 2 ∷ w.I64Store 3 8 ∷ w.LocalGet 0 ∷ w.I32WrapI64 ∷ w.LocalGet 3 ∷ w.I64Store 3 16 ∷ w.LocalGet 4 ∷ w.LocalSet 1 ∷ w.LocalGet 1 ∷ w.Call 0 ∷ w.LocalGet 0 ∷ w.I32WrapI64 ∷ w.I64Load 3 0 ∷ w.LocalSet 1 ∷ w.LocalGet 0 ∷ w.I32WrapI64 ∷ w.I64Load 3 8 ∷ w.LocalSet 2 ∷ w.LocalGet 0 ∷ w.I32WrapI64 ∷ w.I64Load 3 16 ∷ w.LocalSet 3 ∷ w.Nop ∷ w.LocalGet 3 ∷ w.Call 0 ∷ w.LocalGet 2 ∷ w.Call 0 ∷ w.LocalGet 1 ∷ w.Call 0 ∷ w.LocalGet 0 ∷ w.I32WrapI64 ∷ w.I64Load 3 24 ∷ w.LocalSet 1 ∷ w.LocalGet 1 ∷ w.Call 0 ∷ w.LocalGet 0 ∷ w.Call 2 ∷ []) ∷ w.I64Const 0 ∷ w.LocalSet 0 ∷ w.LocalGet 0 ∷ w.GlobalSet 2 ∷ [])
    ∷ code_of 2 (w.Call 4 ∷ w.GlobalGet 2 ∷ [])
    ∷ []

-- a reference is taken apart and put together
abbrev pub splitting : Program
splitting = record {
  funcs = record {
    file = 0;
    ty = record { binders = []; params = []; results = long ∷ [] };
    locals = [];
    body =
        i.I64Const 5
        ∷ i.StructMalloc L (1 ∷ [])
        ∷ i.MemUnpack (record { params = []; results = []; locals = [] }) (i.RefSplit ∷ i.RefJoin ∷ i.StructFree ∷ [])
        ∷ i.I64Const 0
        ∷ [];
    notes =
        point 0 []
        ∷ point 0 (long ∷ [])
        ∷ point 0 (Of Lin (Hidden L (Of Lin (Ref Rw 0 (Struct (record { ty = long; size = 1 } ∷ []))))) ∷ [])
        ∷ point_under (binder.Loc L ∷ []) 0 (Of Lin (Ref Rw 0 (Struct (record { ty = long; size = 1 } ∷ []))) ∷ [])
        ∷ point_under (binder.Loc L ∷ []) 0 (Of Lin (Cap Rw 0 (Struct (record { ty = long; size = 1 } ∷ []))) ∷ Of Unr (Ptr 0) ∷ [])
        ∷ point_under (binder.Loc L ∷ []) 0 (Of Lin (Ref Rw 0 (Struct (record { ty = long; size = 1 } ∷ []))) ∷ [])
        ∷ point 0 []
        ∷ [];
  } ∷ [];
  globals = [];
  main = 0;
}

abbrev pub SplittingLowered : Type 0
SplittingLowered =
    codes_of splitting
    ≡ code_of 3 (w.I64Const 5 ∷ w.LocalSet 0 ∷ w.I64Const 1 ∷ w.Call 1 ∷ w.LocalSet 1 ∷ w.LocalGet 1 ∷ w.I32WrapI64 ∷ w.LocalGet 0 ∷ w.I64Store 3 0 ∷ w.LocalGet 1 ∷ w.LocalSet 0 ∷ w.Block None (w.Nop ∷ w.Nop ∷ w.LocalGet 0 ∷ w.Call 2 ∷ []) ∷ w.I64Const 0 ∷ w.LocalSet 0 ∷ w.LocalGet 0 ∷ w.GlobalSet 2 ∷ [])
    ∷ code_of 2 (w.Call 4 ∷ w.GlobalGet 2 ∷ [])
    ∷ []

-- a function that puts capability, right and address together
abbrev pub joining : Program
joining = record {
  funcs = record {
    file = 0;
    ty = record { binders = binder.Loc L ∷ []; params = Of Lin (Cap R 0 (Struct (record { ty = long; size = 1 } ∷ []))) ∷ Of Lin (Own 0) ∷ Of Unr (Ptr 0) ∷ []; results = Of Lin (Ref Rw 0 (Struct (record { ty = long; size = 1 } ∷ []))) ∷ [] };
    locals = [];
    body =
        i.LocalTake 0
        ∷ i.LocalTake 1
        ∷ i.CapJoin
        ∷ i.LocalGet 2
        ∷ i.RefJoin
        ∷ [];
    notes =
        naming (Of Lin (Cap R 0 (Struct (record { ty = long; size = 1 } ∷ [])))) (binder.Loc L ∷ []) 0 []
        ∷ naming (Of Lin (Own 0)) (binder.Loc L ∷ []) 0 []
        ∷ point_under (binder.Loc L ∷ []) 0 (Of Lin (Cap R 0 (Struct (record { ty = long; size = 1 } ∷ []))) ∷ Of Lin (Own 0) ∷ [])
        ∷ naming (Of Unr (Ptr 0)) (binder.Loc L ∷ []) 0 []
        ∷ point_under (binder.Loc L ∷ []) 0 (Of Lin (Cap Rw 0 (Struct (record { ty = long; size = 1 } ∷ []))) ∷ Of Unr (Ptr 0) ∷ [])
        ∷ [];
  } ∷ record {
    file = 0;
    ty = record { binders = []; params = []; results = long ∷ [] };
    locals = [];
    body =
        i.I64Const 0
        ∷ [];
    notes =
        point 0 []
        ∷ [];
  } ∷ [];
  globals = [];
  main = 1;
}

abbrev pub JoiningLowered : Type 0
JoiningLowered =
    codes_of joining
    ≡ code_of 3 (w.Nop ∷ w.LocalGet 0 ∷ w.LocalSet 1 ∷ w.Nop ∷ w.LocalGet 1 ∷ w.GlobalSet 2 ∷ [])
    ∷ code_of 3 (w.I64Const 0 ∷ w.LocalSet 0 ∷ w.LocalGet 0 ∷ w.GlobalSet 2 ∷ [])
    ∷ code_of 2 (w.Call 5 ∷ w.GlobalGet 2 ∷ [])
    ∷ []

-- a location is hidden again
abbrev pub packing : Program
packing = record {
  funcs = record {
    file = 0;
    ty = record { binders = []; params = []; results = long ∷ [] };
    locals = [];
    body =
        i.I64Const 5
        ∷ i.StructMalloc U (1 ∷ [])
        ∷ i.MemUnpack (record { params = []; results = []; locals = [] }) (i.MemPack 0 (Of Unr (Ref Rw 0 (Struct (record { ty = long; size = 1 } ∷ [])))) ∷ i.MemUnpack (record { params = []; results = []; locals = [] }) (i.StructGet 0 ∷ i.Print ∷ i.Drop ∷ []) ∷ [])
        ∷ i.I64Const 0
        ∷ [];
    notes =
        point 0 []
        ∷ point 0 (long ∷ [])
        ∷ point 0 (Of Unr (Hidden U (Of Unr (Ref Rw 0 (Struct (record { ty = long; size = 1 } ∷ []))))) ∷ [])
        ∷ point_under (binder.Loc U ∷ []) 0 (Of Unr (Ref Rw 0 (Struct (record { ty = long; size = 1 } ∷ []))) ∷ [])
        ∷ point_under (binder.Loc U ∷ []) 0 (Of Unr (Hidden U (Of Unr (Ref Rw 0 (Struct (record { ty = long; size = 1 } ∷ []))))) ∷ [])
        ∷ point_under (binder.Loc U ∷ binder.Loc U ∷ []) 0 (Of Unr (Ref Rw 0 (Struct (record { ty = long; size = 1 } ∷ []))) ∷ [])
        ∷ point_under (binder.Loc U ∷ binder.Loc U ∷ []) 1 (long ∷ [])
        ∷ point_under (binder.Loc U ∷ binder.Loc U ∷ []) 0 (Of Unr (Ref Rw 0 (Struct (record { ty = long; size = 1 } ∷ []))) ∷ [])
        ∷ point 0 []
        ∷ [];
  } ∷ [];
  globals = [];
  main = 0;
}

abbrev pub PackingLowered : Type 0
PackingLowered =
    codes_of packing
    ≡ code_of 4 (w.I64Const 5 ∷ w.LocalSet 0 ∷ w.I64Const 1 ∷ w.Call 3 ∷ w.LocalSet 2 ∷ w.LocalGet 2 ∷ w.I32WrapI64 ∷ w.LocalGet 0 ∷ w.I64Store 3 0 ∷ w.LocalGet 2 ∷ w.LocalSet 0 ∷ w.Block None (w.Nop ∷ w.Block None (w.LocalGet 0 ∷ w.I32WrapI64 ∷ w.I64Load 3 0 ∷ w.LocalSet 1 ∷ w.LocalGet 1 ∷ w.Call 0 ∷ w.Nop ∷ []) ∷ []) ∷ w.I64Const 0 ∷ w.LocalSet 0 ∷ w.LocalGet 0 ∷ w.GlobalSet 2 ∷ [])
    ∷ code_of 2 (w.Call 4 ∷ w.GlobalGet 2 ∷ [])
    ∷ []

-- a capability is divided
abbrev pub dividing : Program
dividing = record {
  funcs = record {
    file = 0;
    ty = record { binders = []; params = []; results = long ∷ [] };
    locals = 8 ∷ 1 ∷ 2 ∷ [];
    body =
        i.I64Const 2066494942292610160
        ∷ i.StructMalloc L (1 ∷ [])
        ∷ i.MemUnpack (record { params = []; results = Of Lin (Hidden L (Of Lin (Tuple (Of Lin (Cap R 0 (Struct (record { ty = long; size = 1 } ∷ []))) ∷ Of Lin (Own 0) ∷ Of Unr (Ptr 0) ∷ [])))) ∷ []; locals = [] }) (i.RefSplit ∷ i.LocalSet 0 ∷ i.CapSplit ∷ i.LocalGet 0 ∷ i.Group 3 Lin ∷ i.Unit ∷ i.LocalSet 0 ∷ i.MemPack 0 (Of Lin (Tuple (Of Lin (Cap R 0 (Struct (record { ty = long; size = 1 } ∷ []))) ∷ Of Lin (Own 0) ∷ Of Unr (Ptr 0) ∷ []))) ∷ [])
        ∷ i.I32Const 1
        ∷ i.LocalGet 2
        ∷ i.StructMalloc U (1 ∷ [])
        ∷ i.StructMalloc U (3 ∷ 2 ∷ 2 ∷ [])
        ∷ i.Drop
        ∷ i.I64Const 2
        ∷ [];
    notes =
        point 0 []
        ∷ point 0 (long ∷ [])
        ∷ point 0 (Of Lin (Hidden L (Of Lin (Ref Rw 0 (Struct (record { ty = long; size = 1 } ∷ []))))) ∷ [])
        ∷ point_under (binder.Loc L ∷ []) 0 (Of Lin (Ref Rw 0 (Struct (record { ty = long; size = 1 } ∷ []))) ∷ [])
        ∷ naming unit_type (binder.Loc L ∷ []) 0 (Of Unr (Ptr 0) ∷ [])
        ∷ point_under (binder.Loc L ∷ []) 0 (Of Lin (Cap Rw 0 (Struct (record { ty = long; size = 1 } ∷ []))) ∷ [])
        ∷ naming (Of Unr (Ptr 0)) (binder.Loc L ∷ []) 0 []
        ∷ point_under (binder.Loc L ∷ []) 0 (Of Lin (Cap R 0 (Struct (record { ty = long; size = 1 } ∷ []))) ∷ Of Lin (Own 0) ∷ Of Unr (Ptr 0) ∷ [])
        ∷ point_under (binder.Loc L ∷ []) 1 []
        ∷ naming (Of Unr (Ptr 0)) (binder.Loc L ∷ []) 1 (unit_type ∷ [])
        ∷ point_under (binder.Loc L ∷ []) 0 (Of Lin (Tuple (Of Lin (Cap R 0 (Struct (record { ty = long; size = 1 } ∷ []))) ∷ Of Lin (Own 0) ∷ Of Unr (Ptr 0) ∷ [])) ∷ [])
        ∷ point 1 []
        ∷ naming unit_type [] 2 []
        ∷ point 2 (unit_type ∷ [])
        ∷ point 0 (Of Lin (Hidden L (Of Lin (Tuple (Of Lin (Cap R 0 (Struct (record { ty = long; size = 1 } ∷ []))) ∷ Of Lin (Own 0) ∷ Of Unr (Ptr 0) ∷ [])))) ∷ short ∷ Of Unr (Hidden U (Of Unr (Ref Rw 0 (Struct (record { ty = unit_type; size = 1 } ∷ []))))) ∷ [])
        ∷ point 0 (Of Unr (Hidden U (Of Unr (Ref Rw 0 (Struct (record { ty = Of Lin (Hidden L (Of Lin (Tuple (Of Lin (Cap R 0 (Struct (record { ty = long; size = 1 } ∷ []))) ∷ Of Lin (Own 0) ∷ Of Unr (Ptr 0) ∷ [])))); size = 3 } ∷ record { ty = short; size = 2 } ∷ record { ty = Of Unr (Hidden U (Of Unr (Ref Rw 0 (Struct (record { ty = unit_type; size = 1 } ∷ []))))); size = 2 } ∷ []))))) ∷ [])
        ∷ point 0 []
        ∷ [];
  } ∷ [];
  globals = [];
  main = 0;
}

abbrev pub DividingLowered : Type 0
DividingLowered =
    codes_of dividing
    ≡ code_of 16 (w.I64Const 2066494942292610160 ∷ w.LocalSet 11 ∷ w.I64Const 1 ∷ w.Call 1 ∷ w.LocalSet 14 ∷ w.LocalGet 14 ∷ w.I32WrapI64 ∷ w.LocalGet 11 ∷ w.I64Store 3 0 ∷ w.LocalGet 14 ∷ w.LocalSet 11 ∷ w.Block None (w.Nop ∷ w.LocalGet 11 ∷ w.LocalSet 0 ∷ w.Nop ∷ w.LocalGet 0 ∷ w.LocalSet 11 ∷ w.Nop ∷ w.Nop ∷ w.Nop ∷ []) ∷ w.I64Const 1 ∷ w.LocalSet 12 ∷ w.I64Const 1 ∷ w.Call 3 ∷ w.LocalSet 14 ∷ w.LocalGet 14 ∷ w.LocalSet 13 ∷ w.I64Const 7 ∷ w.Call 3 ∷ w.LocalSet 14 ∷ w.LocalGet 14 ∷ w.I32WrapI64 ∷ w.LocalGet 11 ∷ w.I64Store 3 0 ∷ w.LocalGet 14 ∷ w.I32WrapI64 ∷ w.LocalGet 12 ∷ w.I64Store 3 24 ∷ w.LocalGet 14 ∷ w.I32WrapI64 ∷ w.LocalGet 13 ∷ w.I64Store 3 40 ∷ w.LocalGet 14 ∷ w.LocalSet 11 ∷ w.Nop ∷ w.I64Const 2 ∷ w.LocalSet 11 ∷ w.LocalGet 11 ∷ w.GlobalSet 2 ∷ [])
    ∷ code_of 2 (w.Call 4 ∷ w.GlobalGet 2 ∷ [])
    ∷ []

-- a linear number in a cell of the unrestricted memory
abbrev pub qualifying : Program
qualifying = record {
  funcs = record {
    file = 0;
    ty = record { binders = []; params = []; results = long ∷ [] };
    locals = [];
    body =
        i.I64Const 1
        ∷ i.Qualify
        ∷ i.StructMalloc U (1 ∷ [])
        ∷ i.Drop
        ∷ i.I64Const 0
        ∷ [];
    notes =
        point 0 []
        ∷ point 0 (long ∷ [])
        ∷ point 0 (Of Lin I64 ∷ [])
        ∷ point 0 (Of Unr (Hidden U (Of Unr (Ref Rw 0 (Struct (record { ty = Of Lin I64; size = 1 } ∷ []))))) ∷ [])
        ∷ point 0 []
        ∷ [];
  } ∷ [];
  globals = [];
  main = 0;
}

abbrev pub QualifyingLowered : Type 0
QualifyingLowered =
    codes_of qualifying
    ≡ code_of 3 (w.I64Const 1 ∷ w.LocalSet 0 ∷ w.Nop ∷ w.I64Const 1 ∷ w.Call 3 ∷ w.LocalSet 1 ∷ w.LocalGet 1 ∷ w.I32WrapI64 ∷ w.LocalGet 0 ∷ w.I64Store 3 0 ∷ w.LocalGet 1 ∷ w.LocalSet 0 ∷ w.Nop ∷ w.I64Const 0 ∷ w.LocalSet 0 ∷ w.LocalGet 0 ∷ w.GlobalSet 2 ∷ [])
    ∷ code_of 2 (w.Call 4 ∷ w.GlobalGet 2 ∷ [])
    ∷ []
