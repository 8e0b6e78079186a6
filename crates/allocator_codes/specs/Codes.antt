-- The codes of the three allocators of a lowered module, as functions of the WebAssembly Core Specification 1.0, section 2.5.3.
-- Words have 8 bytes. The head word of the free list lies at byte 8; a block's address is that of its payload, its header lies
-- 8 bytes before, and its first word of payload is the next word. Global 0 tells why `unreachable` was reached, 1 for a spent
-- memory; global 1 has the next address of the unrestricted region. This project's own.
use Rattle.std.specs.Prelude.{List, [], ◌∷◌, None}
use Rattle.wasm_ast.specs.declared.types.ValTy.TheVariants.{I64}
use Rattle.wasm_ast.specs.declared.instructions.WInstr as w
use Rattle.wasm_ast.specs.declared.instructions.WInstr.{WInstr}
use Rattle.wasm_ast.specs.declared.modules.Code.{Code}

-- a block is put first in the free list: its next word is the head of the list, and then it is the head
abbrev pub free_lin_code : Code
free_lin_code = record {
  locals = [];
  body =
      w.LocalGet 0 ∷ w.I32WrapI64 ∷ w.I32Const 8 ∷ w.I64Load 3 0 ∷ w.I64Store 3 0
      ∷ w.I32Const 8 ∷ w.LocalGet 0 ∷ w.I64Store 3 0
      ∷ [];
}

-- a request asks for one word at least
abbrev pub one_at_least : List WInstr
one_at_least = w.I64Const 1 ∷ w.LocalSet 0 ∷ []

-- memory is spent
abbrev pub spent : List WInstr
spent = w.I32Const 1 ∷ w.GlobalSet 0 ∷ w.Unreachable ∷ []

-- to the next block: this one's next word is the link then
abbrev pub to_next : List WInstr
to_next = w.LocalGet 2 ∷ w.LocalSet 1 ∷ w.Br 1 ∷ []

-- the whole block is taken: the link leads past it
abbrev pub take_whole : List WInstr
take_whole = w.LocalGet 1 ∷ w.I32WrapI64 ∷ w.LocalGet 2 ∷ w.I32WrapI64 ∷ w.I64Load 3 0 ∷ w.I64Store 3 0 ∷ []

-- the front of the block is taken: the rest gets a header and the block's next word, the block the asked words as its header, and
-- then the link leads to the rest
abbrev pub take_front : List WInstr
take_front =
    w.LocalGet 2 ∷ w.LocalGet 0 ∷ w.I64Const 8 ∷ w.I64Mul ∷ w.I64Add ∷ w.I64Const 8 ∷ w.I64Add ∷ w.LocalSet 4
    ∷ w.LocalGet 4 ∷ w.I64Const 8 ∷ w.I64Sub ∷ w.I32WrapI64 ∷ w.LocalGet 3 ∷ w.LocalGet 0 ∷ w.I64Sub ∷ w.I64Const 1 ∷ w.I64Sub ∷ w.I64Store 3 0
    ∷ w.LocalGet 4 ∷ w.I32WrapI64 ∷ w.LocalGet 2 ∷ w.I32WrapI64 ∷ w.I64Load 3 0 ∷ w.I64Store 3 0
    ∷ w.LocalGet 2 ∷ w.I64Const 8 ∷ w.I64Sub ∷ w.I32WrapI64 ∷ w.LocalGet 0 ∷ w.I64Store 3 0
    ∷ w.LocalGet 1 ∷ w.I32WrapI64 ∷ w.LocalGet 4 ∷ w.I64Store 3 0
    ∷ []

-- the block that the link leads to: past the end memory is spent; it is passed where it is too small, taken whole where fewer than
-- two words would be left, and else split
abbrev pub search : List WInstr
search =
    w.LocalGet 1 ∷ w.I32WrapI64 ∷ w.I64Load 3 0 ∷ w.LocalSet 2
    ∷ w.LocalGet 2 ∷ w.I64Eqz ∷ w.If None spent
    ∷ w.LocalGet 2 ∷ w.I64Const 8 ∷ w.I64Sub ∷ w.I32WrapI64 ∷ w.I64Load 3 0 ∷ w.LocalSet 3
    ∷ w.LocalGet 3 ∷ w.LocalGet 0 ∷ w.I64LtU ∷ w.If None to_next
    ∷ w.LocalGet 3 ∷ w.LocalGet 0 ∷ w.I64Sub ∷ w.I64Const 2 ∷ w.I64LtU ∷ w.IfElse None take_whole take_front
    ∷ []

-- the first block in the order of the free list that holds the asked words. Local 0 has these, 1 the address of the link, 2 that
-- of the block, 3 its words and 4 the address of the rest
abbrev pub alloc_lin_code : Code
alloc_lin_code = record {
  locals = record { count = 4; ty = I64 } ∷ [];
  body = w.LocalGet 0 ∷ w.I64Eqz ∷ w.If None one_at_least ∷ w.I64Const 8 ∷ w.LocalSet 1 ∷ w.Loop None search ∷ w.LocalGet 2 ∷ [];
}

-- the front of what is left of the region, whose end is that of the memory; the words that are left are computed in 64 bits and
-- compared with the asked ones, so that no product can wrap
abbrev pub alloc_unr_code : Code
alloc_unr_code = record {
  locals = [];
  body =
      w.LocalGet 0 ∷ w.I64Eqz ∷ w.If None one_at_least
      ∷ w.MemorySize ∷ w.I64ExtendI32U ∷ w.I64Const 65536 ∷ w.I64Mul ∷ w.GlobalGet 1 ∷ w.I64Sub ∷ w.I64Const 3 ∷ w.I64ShrU ∷ w.LocalGet 0 ∷ w.I64LtU ∷ w.If None spent
      ∷ w.GlobalGet 1
      ∷ w.GlobalGet 1 ∷ w.LocalGet 0 ∷ w.I64Const 8 ∷ w.I64Mul ∷ w.I64Add ∷ w.GlobalSet 1
      ∷ [];
}
