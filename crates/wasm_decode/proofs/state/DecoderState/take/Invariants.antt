use Rattle.std.proofs.Common.{◌≡◌, ◌++◌, ◌+◌, ◌-◌, ◌≤◌, List, ℕ, None, drop, take, length}
use Rattle.wasm_decode.specs.Decoding.{answer_of, at_of, custom_left_of, error_of, StandsBehind}
use Rattle.wasm_decode.proofs.state.DecoderState.take.Given as goal

-- no error was answered, the answer to what follows is that of the start, a custom section has the bytes left that were
-- not taken, and the decoder stands behind the bytes that were taken
abbrev pub invariant-loop-byte : goal.invariant-loop-byte
invariant-loop-byte l = record {
  whole : error_of l.self ≡ None;
  resumes : (rest : List ℕ) → answer_of l.self (drop l.byte-index l.piece ++ rest) ≡ answer_of l.initial.self (l.piece ++ rest);
  place : at_of l.self ≡ at_of l.initial.self + l.byte-index;
  custom : length l.piece ≤ custom_left_of l.initial.self → custom_left_of l.self ≡ custom_left_of l.initial.self - l.byte-index;
  stands : (fed : List ℕ) → StandsBehind l.initial.self fed → StandsBehind l.self (fed ++ take l.byte-index l.piece);
}
