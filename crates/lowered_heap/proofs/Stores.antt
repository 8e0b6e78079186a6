-- The first store of a lowered module.
use Rattle.std.proofs.Common.{ℕ, zero, suc, ◌-◌, ◌*◌, [], refl, sym, subst, arith}
use Rattle.std.specs.Int.{byte_at, bytes_low_first, to_le_bytes, w64}
use Rattle.std.proofs.lemmas.List.Elements.{All-append, All-nil}
use Rattle.wasm_ast.specs.declared.instructions.WInstr.{out-WInstr}
use Rattle.wasm_ast.specs.declared.modules.DataSeg.{DataSeg}
use Rattle.wasm_execution.specs.Configurations.{Store}
use Rattle.wasm_execution.specs.Starts.{first_store}
use Rattle.memory_bytes.specs.Bytes.{AreBytes, HasSegmentsOfBytes}
use Rattle.memory_bytes.proofs.Bytes.{IsByte, all_cons}
use Rattle.memory_bytes.proofs.Starts.{starts_over_first, modules_keep_bytes}
use Rattle.heap_blocks.specs.Blocks.{first_blocks}
use Rattle.allocator_contract.specs.Heaps.{linear_words, IsHeap}
use Rattle.allocator_contract.proofs.Starting.{start_is_heap}
use Rattle.rw_program.specs.Programs.{Program}
use Rattle.lowering_table.specs.declared.Pages.{Pages}
use Rattle.lowering_table.specs.Allocators.{Allocators}
use Rattle.lowering_table.specs.Modules.{first_pages, free_list_bytes}
use Rattle.lowering_modules.specs.Modules.{lowered_module}
use Rattle.lowered_heap.specs.Laws.{FirstStoreIsAtStart, ModulesStartWithHeaps, ModulesHaveBytes}
use Rattle.lowered_heap.proofs.Fresh.{fresh_length, is_fresh}

pub first_is_at_start : FirstStoreIsAtStart
unfolding out-WInstr denote.Hole.Carrier.out
first_is_at_start codes_of p pages are =
    let size = 65536 * first_pages pages in
    let words = linear_words pages.lin in
    record {
      some = are.some;
      most = omega (arith, are.linear, are.unrestricted);
      long = fresh_length size 24 (words - 3) (omega (arith, are.some));
      fresh = is_fresh size words (omega (arith, are.some)) (omega (arith, are.linear));
      trap_code = refl;
      next = refl;
    }

pub modules_start_with_heaps : ModulesStartWithHeaps
modules_start_with_heaps codes_of p pages c are q =
    subst (λ (s : Store). IsHeap pages.lin pages.unr (65536 * pages.lin) s [] (first_blocks (linear_words pages.lin))) (sym (starts_over_first (lowered_module codes_of p pages) c q))
    (start_is_heap pages.lin pages.unr (first_store (lowered_module codes_of p pages)) (first_is_at_start codes_of p pages are))

byte_below : (i n : ℕ) → IsByte (byte_at i n)
byte_below zero n = omega arith
byte_below (suc i) n = omega arith

low_bytes : (i k n : ℕ) → AreBytes (bytes_low_first i k n)
low_bytes i zero n = All-nil IsByte
low_bytes i (suc k) n = all_cons IsByte (byte_at i n) (bytes_low_first (suc i) k n) (byte_below i n) (low_bytes (suc i) k n)

list_bytes : (pages : Pages) → AreBytes (free_list_bytes pages)
list_bytes pages =
    let words = 8192 * pages.lin - 3 in
    All-append IsByte (to_le_bytes w64 24) (to_le_bytes w64 words) (low_bytes 0 8 24) (low_bytes 0 8 words)

segments_bytes : (codes_of : Allocators) (p : Program) (pages : Pages) → HasSegmentsOfBytes (lowered_module codes_of p pages)
segments_bytes codes_of p pages = all_cons (λ (s : DataSeg). AreBytes s.bytes) _ [] (list_bytes pages) (All-nil (λ (s : DataSeg). AreBytes s.bytes))

pub modules_have_bytes : ModulesHaveBytes
modules_have_bytes codes_of p pages c q = modules_keep_bytes (lowered_module codes_of p pages) c (segments_bytes codes_of p pages) q
