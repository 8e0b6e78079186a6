-- The loop has copied the list as far as it has come.
use Rattle.std.proofs.Common.{◌≡◌, ◌++◌, take}
use Rattle.wasm_copy.proofs.trees.push_copies.Given as goal

abbrev pub invariant-loop-entry : goal.invariant-loop-entry
invariant-loop-entry g l = l.copied ≡ l.initial.copied ++ take l.entry-index l.entries
