-- Parts that lie side by side do not overlap, and so do not those of a frame.
use Rattle.std.proofs.Common.{◌≡◌, ℕ, zero, suc, ◌+◌, ◌<◌, ◌≤◌, List, [], ◌∷◌, ◌++◌, map, Some, refl, arith}
use Rattle.std.specs.Prelude.{slice_get, sum}
use Rattle.std.proofs.lemmas.List.Sums.{sum_by-append, sum_by-cons}
use Rattle.rw_types.specs.declared.types.Ty.{Ty}
use Rattle.rich_types.specs.Scopes.{Scope, scope_of}
use Rattle.rich_types.specs.Sizes.{list_size, size_under}
use Rattle.layout.specs.Cells.{offsets_from}
use Rattle.rich_rules.specs.Modules.{slots_of_locals}
use Rattle.rw_program.specs.Linking.{func_of}
use Rattle.lowering_heights.specs.Laws.{FramesHoldTheirParts, PartsLieApart}

same_number : (m n : ℕ) → Some m ≡ Some n → m ≡ n
same_number m n e = cc

sum-cons : (s : ℕ) (ss : List ℕ) → sum (s ∷ ss) ≡ s + sum ss
sum-cons s ss = sum_by-cons (λ x. x) s ss

-- no part begins before the first
not_before : (at : ℕ) (sizes : List ℕ) (j n : ℕ) → slice_get (offsets_from at sizes) j ≡ Some n → at ≤ n
not_before at [] j n e = cc
not_before at (s ∷ ss) zero n e = omega (arith, same_number at n e)
not_before at (s ∷ ss) (suc j) n e = omega (arith, not_before (at + s) ss j n e)

pub lie_apart : PartsLieApart
lie_apart at [] i m k e g = cc
lie_apart at (s ∷ ss) zero m k e g = (omega (arith, same_number at m e, same_number s k g, sum-cons s ss), λ j n l h. behind j n l h)
  where
    behind : (j n : ℕ) → 0 < j → slice_get (at ∷ offsets_from (at + s) ss) j ≡ Some n → m + k ≤ n
    behind zero n l h = absurd (omega (arith, l))
    behind (suc j) n l h = omega (arith, same_number at m e, same_number s k g, not_before (at + s) ss j n h)
lie_apart at (s ∷ ss) (suc i) m k e g =
    let x = lie_apart (at + s) ss i m k e g in
    (omega (arith, x.0, sum-cons s ss), λ j n l h. behind x.1 j n l h)
  where
    behind : ((j n : ℕ) → i < j → slice_get (offsets_from (at + s) ss) j ≡ Some n → m + k ≤ n) → (j n : ℕ) → suc i < j → slice_get (at ∷ offsets_from (at + s) ss) j ≡ Some n → m + k ≤ n
    behind x zero n l h = absurd (omega (arith, l))
    behind x (suc j) n l h = x j n (omega (arith, l)) h

summed : (c : Scope) (ts : List Ty) → sum (map (size_under c) ts) ≡ list_size c ts
summed c [] = refl
summed c (t ∷ ts) = omega (arith, sum-cons (size_under c t) (map (size_under c) ts), summed c ts)

pub frames_hold : FramesHoldTheirParts
frames_hold g = record {
  locals = λ n m k e h. (
      let c = scope_of g.ty.binders in
      let x = lie_apart 0 (slots_of_locals (func_of g)) n m k e h in
      let joined : sum (map (size_under c) g.ty.params ++ g.locals) ≡ sum (map (size_under c) g.ty.params) + sum g.locals = sum_by-append (λ x. x) (map (size_under c) g.ty.params) g.locals in
      omega (arith, x.0, joined, summed c g.ty.params));
  operands = refl;
  scratch = refl;
}
