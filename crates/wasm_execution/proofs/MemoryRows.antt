-- Rows over a memory, computed but for its length and its bytes, which are known by their laws.
use Rattle.std.proofs.Common.{◌≡◌, ◌∙◌, ℕ, ◌+◌, ◌-◌, ◌/◌, ◌^◌, ◌<◌, ◌≤◌, List, [], ◌∷◌, ◌++◌, length, refl, ap, arith, length-append}
use Rattle.memory_words.specs.Memories.{zeros, read, write}
use Rattle.memory_words.proofs.Bytes.{length-zeros}
use Rattle.memory_words.proofs.Words.{length-write, read-write}
use Rattle.wasm_ast.specs.declared.types.Limits.{Limits}
use Rattle.wasm_ast.specs.declared.types.ValTy.TheVariants.{I64}
use Rattle.wasm_ast.specs.declared.instructions.WInstr as w
use Rattle.wasm_ast.specs.declared.instructions.WInstr.{WInstr, out-WInstr}
use Rattle.wasm_ast.specs.Operations.{with_sign, without_sign}
use Rattle.machine_steps.specs.declared.End.TheVariants.{Trap}
use Rattle.machine_steps.specs.declared.Trap.TheVariants.{MemoryBounds}
use Rattle.machine_steps.specs.Steps.{Over, Reached, onward, reached}
use Rattle.machine_steps.specs.Agreement.{Seen, seen}
use Rattle.wasm_execution.specs.Configurations.{Here, Config, Event, TheEnd, prints, Called}
use Rattle.wasm_execution.specs.Environments.{Environment, environment_of}
use Rattle.wasm_execution.specs.Memories.{loaded, touches, pages_of}
use Rattle.wasm_execution.specs.Calls.{entered}
use Rattle.wasm_execution.specs.Steps.{step}
use Rattle.wasm_execution.specs.Starts.{first_store}
use Rattle.wasm_execution.specs.Rows.{Takes, number}
use Rattle.wasm_execution.specs.MemoryRows.{over_memory, pages, past_end, over_end, storing, growing, grown_size, LoadTraps, StoreTraps, StoreTakes, GrowTakes, GrowFails, SizeTakes}
use Rattle.wasm_execution.specs.EventRows.{loading, TouchTold, InsideNotTold}
use Rattle.wasm_execution.proofs.Memories.{accesses, access_traps, grown, grows, grows_not, went, ended}

abbrev around : Limits → List WInstr → Environment
around limits body = environment_of (over_memory limits body)

-- what stands after so many steps
abbrev after : ℕ → Limits → List WInstr → Config
after n limits body = (reached (step (around limits body)) n (entered 1 (record { locals = []; body = body }) [] [] TheEnd (first_store (over_memory limits body)))).at

page : length (zeros 65536) ≡ 65536
page = length-zeros 65536

one_page : pages_of (zeros 65536) ≡ 1
one_page = ap (λ (n : ℕ). n / 65536) page

pub load-traps : LoadTraps
unfolding out-WInstr denote.Hole.Carrier.out
load-traps =
    let e = around (pages 1 2) past_end in
    let c = after 1 (pages 1 2) past_end in
    let here : Here = record c.here { rest = [] } in
    let next : Config = record c { here = record here { operands = loaded I64 (without_sign 3) (read 8 (zeros 65536) 65536) ∷ [] } } in
    let out : length (zeros 65536) < 65536 + 8 = omega (arith, page) in
    record {
      before = refl;
      after = ap (λ (r : Reached Event Config). seen prints (onward [] r)) (ended e 0 c c (touches e 1 65536 8) (Trap MemoryBounds) (access_traps e 65536 8 here c next out));
    }

pub store-traps : StoreTraps
unfolding out-WInstr denote.Hole.Carrier.out
store-traps =
    let e = around (pages 1 1) over_end in
    let c = after 2 (pages 1 1) over_end in
    let here : Here = record c.here { rest = w.I64Const 1 ∷ [] } in
    let next : Config = record c { here = record here { operands = [] }; store = record c.store { memory = write 4 (zeros 65536) 65533 5 } } in
    let out : length (zeros 65536) < 65533 + 4 = omega (arith, page) in
    record {
      before = refl;
      after = ap (λ (r : Reached Event Config). seen prints (onward [] (onward [] r))) (ended e 0 c c (touches e 1 65533 4) (Trap MemoryBounds) (access_traps e 65533 4 here c next out));
    }

-- the memory of a page after -7 was stored
abbrev stored : List ℕ
stored = write 4 (zeros 65536) 12 (2 ^ 64 - 7)

pub store-takes : StoreTakes
unfolding out-WInstr denote.Hole.Carrier.out
store-takes =
    let e = around (pages 1 1) storing in
    let c = after 2 (pages 1 1) storing in
    let here : Here = record c.here { rest = w.I32Const 12 ∷ w.I64Load32S 2 0 ∷ [] } in
    let next : Config = record c { here = record here { operands = [] }; store = record c.store { memory = stored } } in
    let at : Config = record next { here = record next.here { operands = 12 ∷ []; rest = w.I64Load32S 2 0 ∷ [] } } in
    let there : Here = record at.here { rest = [] } in
    let last : Config = record at { here = record there { operands = loaded I64 (with_sign 2) (read 4 stored 12) ∷ [] } } in
    let inside : 12 + 4 ≤ length (zeros 65536) = omega (arith, page) in
    let same : length stored ≡ length (zeros 65536) = length-write 4 (zeros 65536) 12 (2 ^ 64 - 7) inside in
    let still : 12 + 4 ≤ length stored = omega (arith, page, same) in
    let es = touches e 1 12 4 in
    let put = accesses e 12 4 here c next inside in
    let got = accesses e 12 4 there at last still in
    record {
      before =
          ap (λ (r : Reached Event Config). seen prints (onward [] (onward [] r))) (went e 2 c next es put)
          ∙ ap (λ (r : Reached Event Config). seen prints (onward [] (onward [] (onward es (onward [] r))))) (went e 0 at last es got);
      after =
          ap (λ (r : Reached Event Config). seen prints (onward [] (onward [] r))) (went e 3 c next es put)
          ∙ ap (λ (r : Reached Event Config). seen prints (onward [] (onward [] (onward es (onward [] r))))) (went e 1 at last es got)
          ∙ ap (λ (k : ℕ). let s : Seen = record { printed = []; stand = Over (number (loaded I64 (with_sign 2) k)) } in s) (read-write 4 (zeros 65536) 12 (2 ^ 64 - 7) inside);
    }

abbrev ends_with : ℕ → Seen
ends_with n = record { printed = []; stand = Over (number n) }

pub grow-takes : GrowTakes
unfolding out-WInstr denote.Hole.Carrier.out
grow-takes =
    let e = around (pages 1 2) (growing 1) in
    let c = after 1 (pages 1 2) (growing 1) in
    let here : Here = record c.here { rest = w.I64ExtendI32U ∷ [] } in
    let within : pages_of (zeros 65536) + 1 ≤ 2 = omega (arith, one_page) in
    let more = grows e 1 [] here c within in
    record {
      before = ap (λ (r : Reached Event Config). seen prints (onward [] r)) (went e 1 c (grown e 1 [] here c) [] more);
      after = ap (λ (r : Reached Event Config). seen prints (onward [] r)) (went e 2 c (grown e 1 [] here c) [] more) ∙ ap ends_with one_page;
    }

past-declared : Takes (over_memory (pages 1 2) (growing 2)) 4 [] (number (2 ^ 32 - 1))
unfolding out-WInstr denote.Hole.Carrier.out
past-declared =
    let e = around (pages 1 2) (growing 2) in
    let c = after 1 (pages 1 2) (growing 2) in
    let here : Here = record c.here { rest = w.I64ExtendI32U ∷ [] } in
    let next : Config = record c { here = record here { operands = (2 ^ 32 - 1) ∷ [] } } in
    let past : 2 < pages_of (zeros 65536) + 2 = omega (arith, one_page) in
    let none = grows_not e 2 [] here c past in
    record {
      before = ap (λ (r : Reached Event Config). seen prints (onward [] r)) (went e 1 c next [] none);
      after = ap (λ (r : Reached Event Config). seen prints (onward [] r)) (went e 2 c next [] none);
    }

past-limit : Takes (over_memory (pages 1 60000) (growing 1024)) 4 [] (number (2 ^ 32 - 1))
unfolding out-WInstr denote.Hole.Carrier.out
past-limit =
    let e = around (pages 1 60000) (growing 1024) in
    let c = after 1 (pages 1 60000) (growing 1024) in
    let here : Here = record c.here { rest = w.I64ExtendI32U ∷ [] } in
    let next : Config = record c { here = record here { operands = (2 ^ 32 - 1) ∷ [] } } in
    let past : 1024 < pages_of (zeros 65536) + 1024 = omega (arith, one_page) in
    let none = grows_not e 1024 [] here c past in
    record {
      before = ap (λ (r : Reached Event Config). seen prints (onward [] r)) (went e 1 c next [] none);
      after = ap (λ (r : Reached Event Config). seen prints (onward [] r)) (went e 2 c next [] none);
    }

pub grow-fails : GrowFails
grow-fails = (past-declared, past-limit)

two_pages : pages_of (zeros 65536 ++ zeros 65536) ≡ 2
two_pages =
    let joined = length-append (zeros 65536) (zeros 65536) in
    let long : length (zeros 65536 ++ zeros 65536) ≡ 131072 = omega (arith, joined, page) in
    ap (λ (n : ℕ). n / 65536) long

pub size-takes : SizeTakes
unfolding out-WInstr denote.Hole.Carrier.out
size-takes =
    let e = around (pages 1 2) grown_size in
    let c = after 1 (pages 1 2) grown_size in
    let here : Here = record c.here { rest = w.Drop ∷ w.MemorySize ∷ w.I64ExtendI32U ∷ [] } in
    let within : pages_of (zeros 65536) + 1 ≤ 2 = omega (arith, one_page) in
    let more = grows e 1 [] here c within in
    record {
      before = ap (λ (r : Reached Event Config). seen prints (onward [] r)) (went e 3 c (grown e 1 [] here c) [] more);
      after = ap (λ (r : Reached Event Config). seen prints (onward [] r)) (went e 4 c (grown e 1 [] here c) [] more) ∙ ap ends_with two_pages;
    }

pub touch-told : TouchTold
unfolding out-WInstr denote.Hole.Carrier.out
touch-told =
    let e = around (pages 1 2) past_end in
    let c = after 1 (pages 1 2) past_end in
    let here : Here = record c.here { rest = [] } in
    let next : Config = record c { here = record here { operands = loaded I64 (without_sign 3) (read 8 (zeros 65536) 65536) ∷ [] } } in
    let out : length (zeros 65536) < 65536 + 8 = omega (arith, page) in
    (_, refl, ap (λ (r : Reached Event Config). (onward [] r).said) (ended e 0 c c (touches e 1 65536 8) (Trap MemoryBounds) (access_traps e 65536 8 here c next out)))

pub inside-not-told : InsideNotTold
unfolding out-WInstr denote.Hole.Carrier.out
inside-not-told =
    let e = environment_of loading in
    let first : Config = entered 4 (record { locals = []; body = w.I64Const 65536 ∷ w.Call 1 ∷ [] }) [] [] TheEnd (first_store loading) in
    let c = (reached (step e) 4 first).at in
    let here : Here = record c.here { rest = [] } in
    let next : Config = record c { here = record here { operands = loaded I64 (without_sign 3) (read 8 (zeros 65536) 65536) ∷ [] } } in
    let out : length (zeros 65536) < 65536 + 8 = omega (arith, page) in
    let said = Called 1 65536 (first_store loading) ∷ [] in (
      first,
      refl,
      ap (λ (r : Reached Event Config). (onward [] (onward said (onward [] (onward [] r)))).said)
          (ended e 0 c c (touches e 1 65536 8) (Trap MemoryBounds) (access_traps e 65536 8 here c next out)),
    )
