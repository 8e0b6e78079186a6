-- Programs of numbers, lists, branches and locals with their codes; the wanted codes are those of an independent
-- model (this project's own rows).
use Rattle.std.specs.Prelude.{◌≡◌, [], ◌∷◌, None}
use Rattle.wasm_ast.specs.declared.instructions.WInstr as w
use Rattle.rw_types.specs.declared.instrs.Instr as i
use Rattle.rw_types.specs.declared.numbers.NumName.TheVariants as number
use Rattle.lowering_rows_worked.specs.Programs.{naming, point, codes_of}
use Rattle.rich_types.specs.Rows.{long, short, unit_type}
use Rattle.rw_types.specs.declared.types.Heap.TheVariants.{Variant}
use Rattle.rw_types.specs.declared.types.Mem.TheVariants.{U}
use Rattle.rw_types.specs.declared.types.Pre.{Ref}
use Rattle.rw_types.specs.declared.types.Pre.TheVariants.{Hidden, Tuple}
use Rattle.rw_types.specs.declared.types.Priv.TheVariants.{Rw}
use Rattle.rw_types.specs.declared.types.Qual.TheVariants.{Lin, Unr}
use Rattle.rw_types.specs.declared.types.Ty.{Of}
use Rattle.rw_types.specs.declared.types.Ty.TheVariants.{Rec}
use Rattle.rw_program.specs.Programs.{Program}
use Rattle.lowering_rows.specs.Functions.{code_of}

-- a function that adds its two parameters
abbrev pub adding : Program
adding = record {
  funcs = record {
    file = 0;
    ty = record { binders = []; params = long ∷ long ∷ []; results = long ∷ [] };
    locals = [];
    body =
        i.LocalGet 0
        ∷ i.LocalGet 1
        ∷ i.Num number.I64Add
        ∷ [];
    notes =
        naming long [] 0 []
        ∷ naming long [] 1 []
        ∷ point 0 (long ∷ long ∷ [])
        ∷ [];
  } ∷ record {
    file = 0;
    ty = record { binders = []; params = []; results = long ∷ [] };
    locals = [];
    body =
        i.I64Const 0
        ∷ [];
    notes =
        point 0 []
        ∷ [];
  } ∷ [];
  globals = [];
  main = 1;
}

abbrev pub AddingLowered : Type 0
AddingLowered =
    codes_of adding
    ≡ code_of 4 (w.LocalGet 0 ∷ w.LocalSet 2 ∷ w.LocalGet 1 ∷ w.LocalSet 3 ∷ w.LocalGet 2 ∷ w.LocalGet 3 ∷ w.I64Add ∷ w.LocalSet 2 ∷ w.LocalGet 2 ∷ w.GlobalSet 2 ∷ [])
    ∷ code_of 3 (w.I64Const 0 ∷ w.LocalSet 0 ∷ w.LocalGet 0 ∷ w.GlobalSet 2 ∷ [])
    ∷ code_of 2 (w.Call 5 ∷ w.GlobalGet 2 ∷ [])
    ∷ []

-- a branch moves two words down by one
abbrev pub moving_down : Program
moving_down = record {
  funcs = record {
    file = 0;
    ty = record { binders = []; params = []; results = long ∷ [] };
    locals = [];
    body =
        i.Block (record { params = []; results = long ∷ long ∷ []; locals = [] }) (i.I64Const 9 ∷ i.I64Const 1 ∷ i.I64Const 2 ∷ i.Br 0 ∷ [])
        ∷ i.Num number.I64Sub
        ∷ i.Print
        ∷ i.I64Const 0
        ∷ [];
    notes =
        point 0 []
        ∷ point 0 []
        ∷ point 1 []
        ∷ point 2 []
        ∷ point 1 (long ∷ long ∷ [])
        ∷ point 0 (long ∷ long ∷ [])
        ∷ point 0 (long ∷ [])
        ∷ point 0 []
        ∷ [];
  } ∷ [];
  globals = [];
  main = 0;
}

abbrev pub MovingDownLowered : Type 0
MovingDownLowered =
    codes_of moving_down
    ≡ code_of 5 (w.Block None (w.I64Const 9 ∷ w.LocalSet 0 ∷ w.I64Const 1 ∷ w.LocalSet 1 ∷ w.I64Const 2 ∷ w.LocalSet 2 ∷ w.LocalGet 1 ∷ w.LocalSet 0 ∷ w.LocalGet 2 ∷ w.LocalSet 1 ∷ w.Br 0 ∷ []) ∷ w.LocalGet 0 ∷ w.LocalGet 1 ∷ w.I64Sub ∷ w.LocalSet 0 ∷ w.LocalGet 0 ∷ w.Call 0 ∷ w.I64Const 0 ∷ w.LocalSet 0 ∷ w.LocalGet 0 ∷ w.GlobalSet 2 ∷ [])
    ∷ code_of 2 (w.Call 4 ∷ w.GlobalGet 2 ∷ [])
    ∷ []

-- a branch on a condition leaves two blocks, and stands in an `if` of its own
abbrev pub branching_if : Program
branching_if = record {
  funcs = record {
    file = 0;
    ty = record { binders = []; params = []; results = long ∷ [] };
    locals = [];
    body =
        i.Block (record { params = []; results = long ∷ []; locals = [] }) (i.Block (record { params = []; results = long ∷ []; locals = [] }) (i.I64Const 8 ∷ i.I64Const 4 ∷ i.I32Const 1 ∷ i.BrIf 1 ∷ i.Drop ∷ i.Drop ∷ i.I64Const 5 ∷ []) ∷ [])
        ∷ i.Print
        ∷ i.I64Const 0
        ∷ [];
    notes =
        point 0 []
        ∷ point 0 []
        ∷ point 0 []
        ∷ point 1 []
        ∷ point 2 []
        ∷ point 1 (long ∷ short ∷ [])
        ∷ point 1 (long ∷ [])
        ∷ point 0 (long ∷ [])
        ∷ point 0 []
        ∷ point 0 (long ∷ [])
        ∷ point 0 []
        ∷ [];
  } ∷ [];
  globals = [];
  main = 0;
}

abbrev pub BranchingIfLowered : Type 0
BranchingIfLowered =
    codes_of branching_if
    ≡ code_of 5 (w.Block None (w.Block None (w.I64Const 8 ∷ w.LocalSet 0 ∷ w.I64Const 4 ∷ w.LocalSet 1 ∷ w.I64Const 1 ∷ w.LocalSet 2 ∷ w.LocalGet 2 ∷ w.I32WrapI64 ∷ w.If None (w.LocalGet 1 ∷ w.LocalSet 0 ∷ w.Br 2 ∷ []) ∷ w.Nop ∷ w.Nop ∷ w.I64Const 5 ∷ w.LocalSet 0 ∷ []) ∷ []) ∷ w.LocalGet 0 ∷ w.Call 0 ∷ w.I64Const 0 ∷ w.LocalSet 0 ∷ w.LocalGet 0 ∷ w.GlobalSet 2 ∷ [])
    ∷ code_of 2 (w.Call 4 ∷ w.GlobalGet 2 ∷ [])
    ∷ []

-- a branch to the start of a loop carries its parameter
abbrev pub looping : Program
looping = record {
  funcs = record {
    file = 0;
    ty = record { binders = []; params = []; results = long ∷ [] };
    locals = 1 ∷ [];
    body =
        i.I64Const 1
        ∷ i.LocalSet 0
        ∷ i.I64Const 9
        ∷ i.I64Const 3
        ∷ i.Loop (record { params = long ∷ []; results = long ∷ long ∷ []; locals = record { index = 0; ty = long } ∷ [] }) (i.I64Const 1 ∷ i.Num number.I64Sub ∷ i.LocalGet 0 ∷ i.Print ∷ i.LocalGet 0 ∷ i.I64Const 2 ∷ i.Num number.I64Mul ∷ i.LocalSet 0 ∷ i.LocalGet 0 ∷ i.I64Const 8 ∷ i.Num number.I64LtS ∷ i.If (record { params = long ∷ []; results = long ∷ []; locals = [] }) (i.I64Const 5 ∷ i.I64Const 6 ∷ i.LocalGet 0 ∷ i.Br 1 ∷ []) [] ∷ i.I64Const 8 ∷ [])
        ∷ i.Print
        ∷ i.Print
        ∷ i.Print
        ∷ i.I64Const 0
        ∷ [];
    notes =
        point 0 []
        ∷ naming unit_type [] 0 (long ∷ [])
        ∷ point 0 []
        ∷ point 1 []
        ∷ point 1 (long ∷ [])
        ∷ point 2 []
        ∷ point 1 (long ∷ long ∷ [])
        ∷ naming long [] 2 []
        ∷ point 2 (long ∷ [])
        ∷ naming long [] 2 []
        ∷ point 3 []
        ∷ point 2 (long ∷ long ∷ [])
        ∷ naming long [] 2 (long ∷ [])
        ∷ naming long [] 2 []
        ∷ point 3 []
        ∷ point 2 (long ∷ long ∷ [])
        ∷ point 1 (long ∷ short ∷ [])
        ∷ point 2 []
        ∷ point 3 []
        ∷ naming long [] 4 []
        ∷ point 4 (long ∷ [])
        ∷ point 2 []
        ∷ point 2 (long ∷ [])
        ∷ point 1 (long ∷ [])
        ∷ point 0 (long ∷ [])
        ∷ point 0 []
        ∷ [];
  } ∷ [];
  globals = [];
  main = 0;
}

abbrev pub LoopingLowered : Type 0
LoopingLowered =
    codes_of looping
    ≡ code_of 8 (w.I64Const 1 ∷ w.LocalSet 1 ∷ w.LocalGet 1 ∷ w.LocalSet 0 ∷ w.I64Const 9 ∷ w.LocalSet 1 ∷ w.I64Const 3 ∷ w.LocalSet 2 ∷ w.Loop None (w.I64Const 1 ∷ w.LocalSet 3 ∷ w.LocalGet 2 ∷ w.LocalGet 3 ∷ w.I64Sub ∷ w.LocalSet 2 ∷ w.LocalGet 0 ∷ w.LocalSet 3 ∷ w.LocalGet 3 ∷ w.Call 0 ∷ w.LocalGet 0 ∷ w.LocalSet 3 ∷ w.I64Const 2 ∷ w.LocalSet 4 ∷ w.LocalGet 3 ∷ w.LocalGet 4 ∷ w.I64Mul ∷ w.LocalSet 3 ∷ w.LocalGet 3 ∷ w.LocalSet 0 ∷ w.LocalGet 0 ∷ w.LocalSet 3 ∷ w.I64Const 8 ∷ w.LocalSet 4 ∷ w.LocalGet 3 ∷ w.LocalGet 4 ∷ w.I64LtS ∷ w.I64ExtendI32U ∷ w.LocalSet 3 ∷ w.LocalGet 3 ∷ w.I32WrapI64 ∷ w.IfElse None (w.I64Const 5 ∷ w.LocalSet 3 ∷ w.I64Const 6 ∷ w.LocalSet 4 ∷ w.LocalGet 0 ∷ w.LocalSet 5 ∷ w.LocalGet 5 ∷ w.LocalSet 2 ∷ w.Br 1 ∷ []) [] ∷ w.I64Const 8 ∷ w.LocalSet 3 ∷ []) ∷ w.LocalGet 3 ∷ w.Call 0 ∷ w.LocalGet 2 ∷ w.Call 0 ∷ w.LocalGet 1 ∷ w.Call 0 ∷ w.I64Const 0 ∷ w.LocalSet 1 ∷ w.LocalGet 1 ∷ w.GlobalSet 2 ∷ [])
    ∷ code_of 2 (w.Call 4 ∷ w.GlobalGet 2 ∷ [])
    ∷ []

-- a return out of two lists
abbrev pub returning : Program
returning = record {
  funcs = record {
    file = 0;
    ty = record { binders = []; params = long ∷ []; results = long ∷ [] };
    locals = [];
    body =
        i.I64Const 1
        ∷ i.Block (record { params = []; results = []; locals = [] }) (i.I64Const 2 ∷ i.Loop (record { params = []; results = long ∷ []; locals = [] }) (i.I64Const 3 ∷ i.LocalGet 0 ∷ i.Return ∷ []) ∷ i.Drop ∷ i.Drop ∷ [])
        ∷ i.Drop
        ∷ i.I64Const 0
        ∷ [];
    notes =
        point 0 []
        ∷ point 1 []
        ∷ point 1 []
        ∷ point 2 []
        ∷ point 2 []
        ∷ naming long [] 3 []
        ∷ point 3 (long ∷ [])
        ∷ point 2 (long ∷ [])
        ∷ point 1 (long ∷ [])
        ∷ point 0 (long ∷ [])
        ∷ point 0 []
        ∷ [];
  } ∷ record {
    file = 0;
    ty = record { binders = []; params = []; results = long ∷ [] };
    locals = [];
    body =
        i.I64Const 77
        ∷ i.Call 0 []
        ∷ [];
    notes =
        point 0 []
        ∷ point 0 (long ∷ [])
        ∷ [];
  } ∷ [];
  globals = [];
  main = 1;
}

abbrev pub ReturningLowered : Type 0
ReturningLowered =
    codes_of returning
    ≡ code_of 6 (w.I64Const 1 ∷ w.LocalSet 1 ∷ w.Block None (w.I64Const 2 ∷ w.LocalSet 2 ∷ w.Loop None (w.I64Const 3 ∷ w.LocalSet 3 ∷ w.LocalGet 0 ∷ w.LocalSet 4 ∷ w.LocalGet 4 ∷ w.GlobalSet 2 ∷ w.Return ∷ []) ∷ w.Nop ∷ w.Nop ∷ []) ∷ w.Nop ∷ w.I64Const 0 ∷ w.LocalSet 1 ∷ w.LocalGet 1 ∷ w.GlobalSet 2 ∷ [])
    ∷ code_of 3 (w.I64Const 77 ∷ w.LocalSet 0 ∷ w.LocalGet 0 ∷ w.Call 4 ∷ w.GlobalGet 2 ∷ w.LocalSet 0 ∷ w.LocalGet 0 ∷ w.GlobalSet 2 ∷ [])
    ∷ code_of 2 (w.Call 5 ∷ w.GlobalGet 2 ∷ [])
    ∷ []

-- an `if` with a parameter, whose first list is empty
abbrev pub choosing : Program
choosing = record {
  funcs = record {
    file = 0;
    ty = record { binders = []; params = []; results = long ∷ [] };
    locals = [];
    body =
        i.I64Const 5
        ∷ i.I64Const 6
        ∷ i.I32Const 0
        ∷ i.If (record { params = long ∷ []; results = long ∷ []; locals = [] }) [] (i.I64Const 1 ∷ i.Num number.I64Add ∷ [])
        ∷ i.Num number.I64Mul
        ∷ [];
    notes =
        point 0 []
        ∷ point 1 []
        ∷ point 2 []
        ∷ point 1 (long ∷ short ∷ [])
        ∷ point 2 []
        ∷ point 1 (long ∷ long ∷ [])
        ∷ point 0 (long ∷ long ∷ [])
        ∷ [];
  } ∷ [];
  globals = [];
  main = 0;
}

abbrev pub ChoosingLowered : Type 0
ChoosingLowered =
    codes_of choosing
    ≡ code_of 5 (w.I64Const 5 ∷ w.LocalSet 0 ∷ w.I64Const 6 ∷ w.LocalSet 1 ∷ w.I64Const 0 ∷ w.LocalSet 2 ∷ w.LocalGet 2 ∷ w.I32WrapI64 ∷ w.IfElse None [] (w.I64Const 1 ∷ w.LocalSet 2 ∷ w.LocalGet 1 ∷ w.LocalGet 2 ∷ w.I64Add ∷ w.LocalSet 1 ∷ []) ∷ w.LocalGet 0 ∷ w.LocalGet 1 ∷ w.I64Mul ∷ w.LocalSet 0 ∷ w.LocalGet 0 ∷ w.GlobalSet 2 ∷ [])
    ∷ code_of 2 (w.Call 4 ∷ w.GlobalGet 2 ∷ [])
    ∷ []

-- a function that gives five words
abbrev pub giving_five_words : Program
giving_five_words = record {
  funcs = record {
    file = 0;
    ty = record { binders = []; params = long ∷ long ∷ []; results = long ∷ Of Unr (Tuple (long ∷ long ∷ long ∷ [])) ∷ long ∷ [] };
    locals = [];
    body =
        i.LocalGet 0
        ∷ i.LocalGet 1
        ∷ i.LocalGet 0
        ∷ i.LocalGet 1
        ∷ i.Group 3 Unr
        ∷ i.LocalGet 1
        ∷ [];
    notes =
        naming long [] 0 []
        ∷ naming long [] 1 []
        ∷ naming long [] 2 []
        ∷ naming long [] 3 []
        ∷ point 1 (long ∷ long ∷ long ∷ [])
        ∷ naming long [] 4 []
        ∷ [];
  } ∷ record {
    file = 0;
    ty = record { binders = []; params = []; results = long ∷ [] };
    locals = [];
    body =
        i.I64Const 100
        ∷ i.I64Const 3
        ∷ i.I64Const 4
        ∷ i.Call 0 []
        ∷ i.Print
        ∷ i.Ungroup
        ∷ i.Print
        ∷ i.Print
        ∷ i.Print
        ∷ i.Print
        ∷ i.Print
        ∷ i.I64Const 0
        ∷ [];
    notes =
        point 0 []
        ∷ point 1 []
        ∷ point 2 []
        ∷ point 1 (long ∷ long ∷ [])
        ∷ point 5 (long ∷ [])
        ∷ point 2 (Of Unr (Tuple (long ∷ long ∷ long ∷ [])) ∷ [])
        ∷ point 4 (long ∷ [])
        ∷ point 3 (long ∷ [])
        ∷ point 2 (long ∷ [])
        ∷ point 1 (long ∷ [])
        ∷ point 0 (long ∷ [])
        ∷ point 0 []
        ∷ [];
  } ∷ [];
  globals = [];
  main = 1;
}

abbrev pub GivingFiveWordsLowered : Type 0
GivingFiveWordsLowered =
    codes_of giving_five_words
    ≡ code_of 7 (w.LocalGet 0 ∷ w.LocalSet 2 ∷ w.LocalGet 1 ∷ w.LocalSet 3 ∷ w.LocalGet 0 ∷ w.LocalSet 4 ∷ w.LocalGet 1 ∷ w.LocalSet 5 ∷ w.Nop ∷ w.LocalGet 1 ∷ w.LocalSet 6 ∷ w.LocalGet 2 ∷ w.GlobalSet 2 ∷ w.LocalGet 3 ∷ w.GlobalSet 3 ∷ w.LocalGet 4 ∷ w.GlobalSet 4 ∷ w.LocalGet 5 ∷ w.GlobalSet 5 ∷ w.LocalGet 6 ∷ w.GlobalSet 6 ∷ [])
    ∷ code_of 8 (w.I64Const 100 ∷ w.LocalSet 0 ∷ w.I64Const 3 ∷ w.LocalSet 1 ∷ w.I64Const 4 ∷ w.LocalSet 2 ∷ w.LocalGet 1 ∷ w.LocalGet 2 ∷ w.Call 4 ∷ w.GlobalGet 2 ∷ w.LocalSet 1 ∷ w.GlobalGet 3 ∷ w.LocalSet 2 ∷ w.GlobalGet 4 ∷ w.LocalSet 3 ∷ w.GlobalGet 5 ∷ w.LocalSet 4 ∷ w.GlobalGet 6 ∷ w.LocalSet 5 ∷ w.LocalGet 5 ∷ w.Call 0 ∷ w.Nop ∷ w.LocalGet 4 ∷ w.Call 0 ∷ w.LocalGet 3 ∷ w.Call 0 ∷ w.LocalGet 2 ∷ w.Call 0 ∷ w.LocalGet 1 ∷ w.Call 0 ∷ w.LocalGet 0 ∷ w.Call 0 ∷ w.I64Const 0 ∷ w.LocalSet 0 ∷ w.LocalGet 0 ∷ w.GlobalSet 2 ∷ [])
    ∷ code_of 2 (w.Call 5 ∷ w.GlobalGet 2 ∷ [])
    ∷ []

-- numbers of 32 bits, and conversions
abbrev pub narrow_numbers : Program
narrow_numbers = record {
  funcs = record {
    file = 0;
    ty = record { binders = []; params = []; results = long ∷ [] };
    locals = [];
    body =
        i.I32Const 4294967295
        ∷ i.Num number.I64ExtendI32U
        ∷ i.Print
        ∷ i.I32Const 4294967295
        ∷ i.Num number.I64ExtendI32S
        ∷ i.Print
        ∷ i.I32Const 4294967291
        ∷ i.I32Const 3
        ∷ i.Num number.I32RemS
        ∷ i.Num number.I64ExtendI32S
        ∷ i.Print
        ∷ i.I32Const 2147483647
        ∷ i.I32Const 1
        ∷ i.Num number.I32Add
        ∷ i.Num number.I64ExtendI32U
        ∷ i.Print
        ∷ i.I64Const 18446744073709551615
        ∷ i.Num number.I32WrapI64
        ∷ i.I32Const 33
        ∷ i.Num number.I32ShrU
        ∷ i.Num number.I64ExtendI32U
        ∷ i.Print
        ∷ i.I64Const 18446744073709551615
        ∷ i.I64Const 1
        ∷ i.Num number.I64LtS
        ∷ i.Num number.I64ExtendI32U
        ∷ [];
    notes =
        point 0 []
        ∷ point 0 (short ∷ [])
        ∷ point 0 (long ∷ [])
        ∷ point 0 []
        ∷ point 0 (short ∷ [])
        ∷ point 0 (long ∷ [])
        ∷ point 0 []
        ∷ point 1 []
        ∷ point 0 (short ∷ short ∷ [])
        ∷ point 0 (short ∷ [])
        ∷ point 0 (long ∷ [])
        ∷ point 0 []
        ∷ point 1 []
        ∷ point 0 (short ∷ short ∷ [])
        ∷ point 0 (short ∷ [])
        ∷ point 0 (long ∷ [])
        ∷ point 0 []
        ∷ point 0 (long ∷ [])
        ∷ point 1 []
        ∷ point 0 (short ∷ short ∷ [])
        ∷ point 0 (short ∷ [])
        ∷ point 0 (long ∷ [])
        ∷ point 0 []
        ∷ point 1 []
        ∷ point 0 (long ∷ long ∷ [])
        ∷ point 0 (short ∷ [])
        ∷ [];
  } ∷ [];
  globals = [];
  main = 0;
}

abbrev pub NarrowNumbersLowered : Type 0
NarrowNumbersLowered =
    codes_of narrow_numbers
    ≡ code_of 4 (w.I64Const 4294967295 ∷ w.LocalSet 0 ∷ w.LocalGet 0 ∷ w.I32WrapI64 ∷ w.I64ExtendI32U ∷ w.LocalSet 0 ∷ w.LocalGet 0 ∷ w.Call 0 ∷ w.I64Const 4294967295 ∷ w.LocalSet 0 ∷ w.LocalGet 0 ∷ w.I32WrapI64 ∷ w.I64ExtendI32S ∷ w.LocalSet 0 ∷ w.LocalGet 0 ∷ w.Call 0 ∷ w.I64Const 4294967291 ∷ w.LocalSet 0 ∷ w.I64Const 3 ∷ w.LocalSet 1 ∷ w.LocalGet 0 ∷ w.I32WrapI64 ∷ w.LocalGet 1 ∷ w.I32WrapI64 ∷ w.I32RemS ∷ w.I64ExtendI32U ∷ w.LocalSet 0 ∷ w.LocalGet 0 ∷ w.I32WrapI64 ∷ w.I64ExtendI32S ∷ w.LocalSet 0 ∷ w.LocalGet 0 ∷ w.Call 0 ∷ w.I64Const 2147483647 ∷ w.LocalSet 0 ∷ w.I64Const 1 ∷ w.LocalSet 1 ∷ w.LocalGet 0 ∷ w.I32WrapI64 ∷ w.LocalGet 1 ∷ w.I32WrapI64 ∷ w.I32Add ∷ w.I64ExtendI32U ∷ w.LocalSet 0 ∷ w.LocalGet 0 ∷ w.I32WrapI64 ∷ w.I64ExtendI32U ∷ w.LocalSet 0 ∷ w.LocalGet 0 ∷ w.Call 0 ∷ w.I64Const 18446744073709551615 ∷ w.LocalSet 0 ∷ w.LocalGet 0 ∷ w.I32WrapI64 ∷ w.I64ExtendI32U ∷ w.LocalSet 0 ∷ w.I64Const 33 ∷ w.LocalSet 1 ∷ w.LocalGet 0 ∷ w.I32WrapI64 ∷ w.LocalGet 1 ∷ w.I32WrapI64 ∷ w.I32ShrU ∷ w.I64ExtendI32U ∷ w.LocalSet 0 ∷ w.LocalGet 0 ∷ w.I32WrapI64 ∷ w.I64ExtendI32U ∷ w.LocalSet 0 ∷ w.LocalGet 0 ∷ w.Call 0 ∷ w.I64Const 18446744073709551615 ∷ w.LocalSet 0 ∷ w.I64Const 1 ∷ w.LocalSet 1 ∷ w.LocalGet 0 ∷ w.LocalGet 1 ∷ w.I64LtS ∷ w.I64ExtendI32U ∷ w.LocalSet 0 ∷ w.LocalGet 0 ∷ w.I32WrapI64 ∷ w.I64ExtendI32U ∷ w.LocalSet 0 ∷ w.LocalGet 0 ∷ w.GlobalSet 2 ∷ [])
    ∷ code_of 2 (w.Call 4 ∷ w.GlobalGet 2 ∷ [])
    ∷ []

-- both lists of an `if` are ended
abbrev pub ended_lists : Program
ended_lists = record {
  funcs = record {
    file = 0;
    ty = record { binders = []; params = []; results = long ∷ [] };
    locals = [];
    body =
        i.I32Const 1
        ∷ i.If (record { params = []; results = long ∷ []; locals = [] }) (i.Unreachable ∷ []) (i.I64Const 4 ∷ i.Return ∷ [])
        ∷ [];
    notes =
        point 0 []
        ∷ point 0 (short ∷ [])
        ∷ point 0 []
        ∷ point 0 []
        ∷ point 0 (long ∷ [])
        ∷ [];
  } ∷ [];
  globals = [];
  main = 0;
}

abbrev pub EndedListsLowered : Type 0
EndedListsLowered =
    codes_of ended_lists
    ≡ code_of 3 (w.I64Const 1 ∷ w.LocalSet 0 ∷ w.LocalGet 0 ∷ w.I32WrapI64 ∷ w.IfElse None (w.I32Const 3 ∷ w.GlobalSet 0 ∷ w.Unreachable ∷ []) (w.I64Const 4 ∷ w.LocalSet 0 ∷ w.LocalGet 0 ∷ w.GlobalSet 2 ∷ w.Return ∷ []) ∷ w.LocalGet 0 ∷ w.GlobalSet 2 ∷ [])
    ∷ code_of 2 (w.Call 4 ∷ w.GlobalGet 2 ∷ [])
    ∷ []

-- a value that is folded twice and unfolded
abbrev pub folding : Program
folding = record {
  funcs = record {
    file = 0;
    ty = record { binders = []; params = []; results = long ∷ [] };
    locals = [];
    body =
        i.I64Const 4
        ∷ i.RecFold (Rec Unr 1 long)
        ∷ i.RecFold (Rec Unr 1 (Rec Unr 1 long))
        ∷ i.RecUnfold
        ∷ i.RecUnfold
        ∷ [];
    notes =
        point 0 []
        ∷ point 0 (long ∷ [])
        ∷ point 0 (Rec Unr 1 long ∷ [])
        ∷ point 0 (Rec Unr 1 (Rec Unr 1 long) ∷ [])
        ∷ point 0 (Rec Unr 1 long ∷ [])
        ∷ [];
  } ∷ [];
  globals = [];
  main = 0;
}

abbrev pub FoldingLowered : Type 0
FoldingLowered =
    codes_of folding
    ≡ code_of 3 (w.I64Const 4 ∷ w.LocalSet 0 ∷ w.Nop ∷ w.Nop ∷ w.Nop ∷ w.Nop ∷ w.LocalGet 0 ∷ w.GlobalSet 2 ∷ [])
    ∷ code_of 2 (w.Call 4 ∷ w.GlobalGet 2 ∷ [])
    ∷ []

-- a tuple that is made and taken apart
abbrev pub grouping : Program
grouping = record {
  funcs = record {
    file = 0;
    ty = record { binders = []; params = []; results = long ∷ [] };
    locals = [];
    body =
        i.I64Const 3
        ∷ i.I64Const 4
        ∷ i.Group 2 Lin
        ∷ i.Ungroup
        ∷ i.Num number.I64Mul
        ∷ [];
    notes =
        point 0 []
        ∷ point 1 []
        ∷ point 0 (long ∷ long ∷ [])
        ∷ point 0 (Of Lin (Tuple (long ∷ long ∷ [])) ∷ [])
        ∷ point 0 (long ∷ long ∷ [])
        ∷ [];
  } ∷ [];
  globals = [];
  main = 0;
}

abbrev pub GroupingLowered : Type 0
GroupingLowered =
    codes_of grouping
    ≡ code_of 4 (w.I64Const 3 ∷ w.LocalSet 0 ∷ w.I64Const 4 ∷ w.LocalSet 1 ∷ w.Nop ∷ w.Nop ∷ w.LocalGet 0 ∷ w.LocalGet 1 ∷ w.I64Mul ∷ w.LocalSet 0 ∷ w.LocalGet 0 ∷ w.GlobalSet 2 ∷ [])
    ∷ code_of 2 (w.Call 4 ∷ w.GlobalGet 2 ∷ [])
    ∷ []

-- an instruction that does nothing
abbrev pub nothing : Program
nothing = record {
  funcs = record {
    file = 0;
    ty = record { binders = []; params = []; results = long ∷ [] };
    locals = 8 ∷ 4 ∷ 1 ∷ [];
    body =
        i.Nop
        ∷ i.I64Const 95
        ∷ [];
    notes =
        point 0 []
        ∷ point 0 []
        ∷ [];
  } ∷ [];
  globals = [];
  main = 0;
}

abbrev pub NothingLowered : Type 0
NothingLowered =
    codes_of nothing
    ≡ code_of 16 (w.Nop ∷ w.I64Const 95 ∷ w.LocalSet 13 ∷ w.LocalGet 13 ∷ w.GlobalSet 2 ∷ [])
    ∷ code_of 2 (w.Call 4 ∷ w.GlobalGet 2 ∷ [])
    ∷ []

-- a count of digits of 32 bits, in a variant
abbrev pub narrow_count : Program
narrow_count = record {
  funcs = record {
    file = 0;
    ty = record { binders = []; params = []; results = long ∷ [] };
    locals = 8 ∷ 1 ∷ 1 ∷ 2 ∷ [];
    body =
        i.I32Const 4
        ∷ i.Num number.I32Ctz
        ∷ i.VariantMalloc U 1 (short ∷ short ∷ [])
        ∷ i.Drop
        ∷ i.I64Const 25
        ∷ [];
    notes =
        point 0 []
        ∷ point 0 (short ∷ [])
        ∷ point 0 (short ∷ [])
        ∷ point 0 (Of Unr (Hidden U (Of Unr (Ref Rw 0 (Variant (short ∷ short ∷ []))))) ∷ [])
        ∷ point 0 []
        ∷ [];
  } ∷ [];
  globals = [];
  main = 0;
}

abbrev pub NarrowCountLowered : Type 0
NarrowCountLowered =
    codes_of narrow_count
    ≡ code_of 15 (w.I64Const 4 ∷ w.LocalSet 12 ∷ w.LocalGet 12 ∷ w.I32WrapI64 ∷ w.I32Ctz ∷ w.I64ExtendI32U ∷ w.LocalSet 12 ∷ w.I64Const 2 ∷ w.Call 3 ∷ w.LocalSet 13 ∷ w.LocalGet 13 ∷ w.I32WrapI64 ∷ w.I64Const 1 ∷ w.I64Store 3 0 ∷ w.LocalGet 13 ∷ w.I32WrapI64 ∷ w.LocalGet 12 ∷ w.I64Store 3 8 ∷ w.LocalGet 13 ∷ w.LocalSet 12 ∷ w.Nop ∷ w.I64Const 25 ∷ w.LocalSet 12 ∷ w.LocalGet 12 ∷ w.GlobalSet 2 ∷ [])
    ∷ code_of 2 (w.Call 4 ∷ w.GlobalGet 2 ∷ [])
    ∷ []

-- a count of digits of 64 bits, and locals of no words
abbrev pub wide_count : Program
wide_count = record {
  funcs = record {
    file = 0;
    ty = record { binders = []; params = []; results = long ∷ [] };
    locals = 8 ∷ 0 ∷ 4 ∷ 1 ∷ 2 ∷ [];
    body =
        i.I64Const 9223372036854775808
        ∷ i.Num number.I64Popcnt
        ∷ i.Print
        ∷ i.I64Const 7
        ∷ [];
    notes =
        point 0 []
        ∷ point 0 (long ∷ [])
        ∷ point 0 (long ∷ [])
        ∷ point 0 []
        ∷ [];
  } ∷ [];
  globals = [];
  main = 0;
}

abbrev pub WideCountLowered : Type 0
WideCountLowered =
    codes_of wide_count
    ≡ code_of 18 (w.I64Const 9223372036854775808 ∷ w.LocalSet 15 ∷ w.LocalGet 15 ∷ w.I64Popcnt ∷ w.LocalSet 15 ∷ w.LocalGet 15 ∷ w.Call 0 ∷ w.I64Const 7 ∷ w.LocalSet 15 ∷ w.LocalGet 15 ∷ w.GlobalSet 2 ∷ [])
    ∷ code_of 2 (w.Call 4 ∷ w.GlobalGet 2 ∷ [])
    ∷ []
