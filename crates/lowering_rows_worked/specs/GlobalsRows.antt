-- Programs with globals, initialisers and code values with their codes; the wanted codes are those of an independent
-- model (this project's own rows).
use Rattle.std.specs.Prelude.{◌≡◌, [], ◌∷◌, true, false, None}
use Rattle.wasm_ast.specs.declared.instructions.WInstr as w
use Rattle.rw_types.specs.declared.instrs.Instr as i
use Rattle.rw_types.specs.declared.types.Binder.TheVariants as binder
use Rattle.rw_types.specs.declared.types.Arg.TheVariants as argument
use Rattle.rw_types.specs.declared.numbers.NumName.TheVariants as number
use Rattle.lowering_rows_worked.specs.Programs.{naming, point, point_under, codes_of}
use Rattle.rich_types.specs.Rows.{long}
use Rattle.rw_types.specs.declared.types.Heap.TheVariants.{Struct}
use Rattle.rw_types.specs.declared.types.Mem.TheVariants.{L, U}
use Rattle.rw_types.specs.declared.types.Pre.{Ref}
use Rattle.rw_types.specs.declared.types.Pre.TheVariants.{Code, Hidden, Tuple}
use Rattle.rw_types.specs.declared.types.Priv.TheVariants.{Rw}
use Rattle.rw_types.specs.declared.types.Qual.TheVariants.{Lin, Unr}
use Rattle.rw_types.specs.declared.types.Ty.{Of, Var}
use Rattle.rw_program.specs.Programs.{Program}
use Rattle.lowering_rows.specs.Functions.{code_of}

-- a call by a code value, of a type that no other call has
abbrev pub calling_by_code : Program
calling_by_code = record {
  funcs = record {
    file = 0;
    ty = record { binders = []; params = []; results = [] };
    locals = [];
    body =
        [];
    notes =
        [];
  } ∷ record {
    file = 0;
    ty = record { binders = []; params = long ∷ []; results = long ∷ long ∷ [] };
    locals = [];
    body =
        i.LocalGet 0
        ∷ i.LocalGet 0
        ∷ i.I64Const 1
        ∷ i.Num number.I64Add
        ∷ [];
    notes =
        naming long [] 0 []
        ∷ naming long [] 1 []
        ∷ point 2 []
        ∷ point 1 (long ∷ long ∷ [])
        ∷ [];
  } ∷ record {
    file = 0;
    ty = record { binders = []; params = []; results = long ∷ [] };
    locals = [];
    body =
        i.I64Const 50
        ∷ i.I64Const 6
        ∷ i.Coderef 1
        ∷ i.CallIndirect
        ∷ i.Print
        ∷ i.Print
        ∷ i.Print
        ∷ i.I64Const 0
        ∷ [];
    notes =
        point 0 []
        ∷ point 1 []
        ∷ point 2 []
        ∷ point 1 (long ∷ Of Unr (Code (record { binders = []; params = long ∷ []; results = long ∷ long ∷ [] })) ∷ [])
        ∷ point 2 (long ∷ [])
        ∷ point 1 (long ∷ [])
        ∷ point 0 (long ∷ [])
        ∷ point 0 []
        ∷ [];
  } ∷ [];
  globals = [];
  main = 2;
}

abbrev pub CallingByCodeLowered : Type 0
CallingByCodeLowered =
    codes_of calling_by_code
    ≡ code_of 2 []
    ∷ code_of 5 (w.LocalGet 0 ∷ w.LocalSet 1 ∷ w.LocalGet 0 ∷ w.LocalSet 2 ∷ w.I64Const 1 ∷ w.LocalSet 3 ∷ w.LocalGet 2 ∷ w.LocalGet 3 ∷ w.I64Add ∷ w.LocalSet 2 ∷ w.LocalGet 1 ∷ w.GlobalSet 2 ∷ w.LocalGet 2 ∷ w.GlobalSet 3 ∷ [])
    ∷ code_of 5 (w.I64Const 50 ∷ w.LocalSet 0 ∷ w.I64Const 6 ∷ w.LocalSet 1 ∷ w.I64Const 1 ∷ w.LocalSet 2 ∷ w.LocalGet 1 ∷ w.LocalGet 2 ∷ w.I32WrapI64 ∷ w.CallIndirect 0 ∷ w.GlobalGet 2 ∷ w.LocalSet 1 ∷ w.GlobalGet 3 ∷ w.LocalSet 2 ∷ w.LocalGet 2 ∷ w.Call 0 ∷ w.LocalGet 1 ∷ w.Call 0 ∷ w.LocalGet 0 ∷ w.Call 0 ∷ w.I64Const 0 ∷ w.LocalSet 0 ∷ w.LocalGet 0 ∷ w.GlobalSet 2 ∷ [])
    ∷ code_of 2 (w.Call 6 ∷ w.GlobalGet 2 ∷ [])
    ∷ []

-- an initialiser of three words that is ended
abbrev pub ended_initialiser : Program
ended_initialiser = record {
  funcs = record {
    file = 0;
    ty = record { binders = []; params = []; results = long ∷ [] };
    locals = [];
    body =
        i.I64Const 0
        ∷ [];
    notes =
        point 0 []
        ∷ [];
  } ∷ [];
  globals = record {
    file = 0;
    mutable = false;
    ty = Of Unr (Tuple (long ∷ long ∷ long ∷ []));
    body = i.Unreachable ∷ [];
    notes = point 0 [] ∷ [];
  } ∷ [];
  main = 0;
}

abbrev pub EndedInitialiserLowered : Type 0
EndedInitialiserLowered =
    codes_of ended_initialiser
    ≡ code_of 3 (w.I64Const 0 ∷ w.LocalSet 0 ∷ w.LocalGet 0 ∷ w.GlobalSet 2 ∷ [])
    ∷ code_of 5 (w.Block None (w.I32Const 3 ∷ w.GlobalSet 0 ∷ w.Unreachable ∷ []) ∷ w.LocalGet 0 ∷ w.GlobalSet 3 ∷ w.LocalGet 1 ∷ w.GlobalSet 4 ∷ w.LocalGet 2 ∷ w.GlobalSet 5 ∷ w.Call 4 ∷ w.GlobalGet 2 ∷ [])
    ∷ []

-- a global of two words is read and set
abbrev pub global_of_two_words : Program
global_of_two_words = record {
  funcs = record {
    file = 0;
    ty = record { binders = []; params = []; results = long ∷ [] };
    locals = [];
    body =
        i.GlobalGet 0
        ∷ i.Ungroup
        ∷ i.Print
        ∷ i.Print
        ∷ i.I64Const 5
        ∷ i.I64Const 6
        ∷ i.Group 2 Unr
        ∷ i.GlobalSet 0
        ∷ i.GlobalGet 0
        ∷ i.Ungroup
        ∷ i.Num number.I64Sub
        ∷ [];
    notes =
        point 0 []
        ∷ point 0 (Of Unr (Tuple (long ∷ long ∷ [])) ∷ [])
        ∷ point 1 (long ∷ [])
        ∷ point 0 (long ∷ [])
        ∷ point 0 []
        ∷ point 1 []
        ∷ point 0 (long ∷ long ∷ [])
        ∷ point 0 (Of Unr (Tuple (long ∷ long ∷ [])) ∷ [])
        ∷ point 0 []
        ∷ point 0 (Of Unr (Tuple (long ∷ long ∷ [])) ∷ [])
        ∷ point 0 (long ∷ long ∷ [])
        ∷ [];
  } ∷ [];
  globals = record {
    file = 0;
    mutable = true;
    ty = Of Unr (Tuple (long ∷ long ∷ []));
    body = i.I64Const 1 ∷ i.I64Const 2 ∷ i.Group 2 Unr ∷ [];
    notes = point 0 [] ∷ point 1 [] ∷ point 0 (long ∷ long ∷ []) ∷ [];
  } ∷ [];
  main = 0;
}

abbrev pub GlobalOfTwoWordsLowered : Type 0
GlobalOfTwoWordsLowered =
    codes_of global_of_two_words
    ≡ code_of 4 (w.GlobalGet 3 ∷ w.LocalSet 0 ∷ w.GlobalGet 4 ∷ w.LocalSet 1 ∷ w.Nop ∷ w.LocalGet 1 ∷ w.Call 0 ∷ w.LocalGet 0 ∷ w.Call 0 ∷ w.I64Const 5 ∷ w.LocalSet 0 ∷ w.I64Const 6 ∷ w.LocalSet 1 ∷ w.Nop ∷ w.LocalGet 0 ∷ w.GlobalSet 3 ∷ w.LocalGet 1 ∷ w.GlobalSet 4 ∷ w.GlobalGet 3 ∷ w.LocalSet 0 ∷ w.GlobalGet 4 ∷ w.LocalSet 1 ∷ w.Nop ∷ w.LocalGet 0 ∷ w.LocalGet 1 ∷ w.I64Sub ∷ w.LocalSet 0 ∷ w.LocalGet 0 ∷ w.GlobalSet 2 ∷ [])
    ∷ code_of 4 (w.Block None (w.I64Const 1 ∷ w.LocalSet 0 ∷ w.I64Const 2 ∷ w.LocalSet 1 ∷ w.Nop ∷ []) ∷ w.LocalGet 0 ∷ w.GlobalSet 3 ∷ w.LocalGet 1 ∷ w.GlobalSet 4 ∷ w.Call 4 ∷ w.GlobalGet 2 ∷ [])
    ∷ []

-- an initialiser with cells of both memories
abbrev pub initialiser_with_cells : Program
initialiser_with_cells = record {
  funcs = record {
    file = 0;
    ty = record { binders = []; params = []; results = long ∷ [] };
    locals = [];
    body =
        i.GlobalGet 0
        ∷ i.MemUnpack (record { params = []; results = []; locals = [] }) (i.StructGet 0 ∷ i.Print ∷ i.Drop ∷ [])
        ∷ i.I64Const 0
        ∷ [];
    notes =
        point 0 []
        ∷ point 0 (Of Unr (Hidden U (Of Unr (Ref Rw 0 (Struct (record { ty = long; size = 1 } ∷ []))))) ∷ [])
        ∷ point_under (binder.Loc U ∷ []) 0 (Of Unr (Ref Rw 0 (Struct (record { ty = long; size = 1 } ∷ []))) ∷ [])
        ∷ point_under (binder.Loc U ∷ []) 1 (long ∷ [])
        ∷ point_under (binder.Loc U ∷ []) 0 (Of Unr (Ref Rw 0 (Struct (record { ty = long; size = 1 } ∷ []))) ∷ [])
        ∷ point 0 []
        ∷ [];
  } ∷ [];
  globals = record {
    file = 0;
    mutable = false;
    ty = Of Unr (Hidden U (Of Unr (Ref Rw 0 (Struct (record { ty = long; size = 1 } ∷ [])))));
    body = i.I64Const 1 ∷ i.StructMalloc L (1 ∷ []) ∷ i.MemUnpack (record { params = []; results = []; locals = [] }) (i.StructFree ∷ []) ∷ i.I64Const 6 ∷ i.StructMalloc U (1 ∷ []) ∷ [];
    notes = point 0 [] ∷ point 0 (long ∷ []) ∷ point 0 (Of Lin (Hidden L (Of Lin (Ref Rw 0 (Struct (record { ty = long; size = 1 } ∷ []))))) ∷ []) ∷ point_under (binder.Loc L ∷ []) 0 (Of Lin (Ref Rw 0 (Struct (record { ty = long; size = 1 } ∷ []))) ∷ []) ∷ point 0 [] ∷ point 0 (long ∷ []) ∷ [];
  } ∷ [];
  main = 0;
}

abbrev pub InitialiserWithCellsLowered : Type 0
InitialiserWithCellsLowered =
    codes_of initialiser_with_cells
    ≡ code_of 4 (w.GlobalGet 3 ∷ w.LocalSet 0 ∷ w.Block None (w.LocalGet 0 ∷ w.I32WrapI64 ∷ w.I64Load 3 0 ∷ w.LocalSet 1 ∷ w.LocalGet 1 ∷ w.Call 0 ∷ w.Nop ∷ []) ∷ w.I64Const 0 ∷ w.LocalSet 0 ∷ w.LocalGet 0 ∷ w.GlobalSet 2 ∷ [])
    ∷ code_of 3 (w.Block None (w.I64Const 1 ∷ w.LocalSet 0 ∷ w.I64Const 1 ∷ w.Call 1 ∷ w.LocalSet 1 ∷ w.LocalGet 1 ∷ w.I32WrapI64 ∷ w.LocalGet 0 ∷ w.I64Store 3 0 ∷ w.LocalGet 1 ∷ w.LocalSet 0 ∷ w.Block None (w.LocalGet 0 ∷ w.Call 2 ∷ []) ∷ w.I64Const 6 ∷ w.LocalSet 0 ∷ w.I64Const 1 ∷ w.Call 3 ∷ w.LocalSet 1 ∷ w.LocalGet 1 ∷ w.I32WrapI64 ∷ w.LocalGet 0 ∷ w.I64Store 3 0 ∷ w.LocalGet 1 ∷ w.LocalSet 0 ∷ []) ∷ w.LocalGet 0 ∷ w.GlobalSet 3 ∷ w.Call 4 ∷ w.GlobalGet 2 ∷ [])
    ∷ []

-- a code value is instantiated with a type variable and called
abbrev pub code_of_itself : Program
code_of_itself = record {
  funcs = record {
    file = 0;
    ty = record { binders = binder.Kind Unr 1 ∷ []; params = Var 0 ∷ []; results = Var 0 ∷ [] };
    locals = [];
    body =
        i.LocalGet 0
        ∷ i.Coderef 0
        ∷ i.Inst (argument.Given (Var 0) ∷ [])
        ∷ i.CallIndirect
        ∷ [];
    notes =
        naming (Var 0) (binder.Kind Unr 1 ∷ []) 0 []
        ∷ point_under (binder.Kind Unr 1 ∷ []) 1 []
        ∷ point_under (binder.Kind Unr 1 ∷ []) 1 (Of Unr (Code (record { binders = binder.Kind Unr 1 ∷ []; params = Var 0 ∷ []; results = Var 0 ∷ [] })) ∷ [])
        ∷ point_under (binder.Kind Unr 1 ∷ []) 0 (Var 0 ∷ Of Unr (Code (record { binders = []; params = Var 0 ∷ []; results = Var 0 ∷ [] })) ∷ [])
        ∷ [];
  } ∷ record {
    file = 0;
    ty = record { binders = []; params = []; results = long ∷ [] };
    locals = [];
    body =
        i.I64Const 0
        ∷ [];
    notes =
        point 0 []
        ∷ [];
  } ∷ [];
  globals = [];
  main = 1;
}

abbrev pub CodeOfItselfLowered : Type 0
CodeOfItselfLowered =
    codes_of code_of_itself
    ≡ code_of 4 (w.LocalGet 0 ∷ w.LocalSet 1 ∷ w.I64Const 0 ∷ w.LocalSet 2 ∷ w.Nop ∷ w.LocalGet 1 ∷ w.LocalGet 2 ∷ w.I32WrapI64 ∷ w.CallIndirect 0 ∷ w.GlobalGet 2 ∷ w.LocalSet 1 ∷ w.LocalGet 1 ∷ w.GlobalSet 2 ∷ [])
    ∷ code_of 3 (w.I64Const 0 ∷ w.LocalSet 0 ∷ w.LocalGet 0 ∷ w.GlobalSet 2 ∷ [])
    ∷ code_of 2 (w.Call 5 ∷ w.GlobalGet 2 ∷ [])
    ∷ []
