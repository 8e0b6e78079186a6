-- Values of rows of types: parted, joined, looked up, set and turned round.
use Rattle.std.proofs.Common.{◌≡◌, ◌∙◌, ℕ, zero, suc, List, [], ◌∷◌, ◌++◌, map, length, slice_get, slice_set, refl, sym, ap, subst, reverse, arith}
use Rattle.std.specs.Prelude.{Option, Some, None, replicate, option_to_list, option_map}
use Rattle.std.proofs.lemmas.List.{reverse-append, replicate-append-replicate, map-append}
use Rattle.wasm_num.specs.Widths.{IsWithin}
use Rattle.wasm_ast.specs.declared.types.ValTy.{ValTy}
use Rattle.wasm_ast.specs.declared.types.ValTy.TheVariants.{I32, I64}
use Rattle.wasm_ast.specs.declared.modules.LocalRun.{LocalRun}
use Rattle.wasm_typing.specs.Contexts.{declared_locals}
use Rattle.wasm_typing.specs.Signatures.{Slot, The}
use Rattle.wasm_typing.specs.Typing.{fill}
use Rattle.wasm_execution.specs.Types.{width_of, results_of}
use Rattle.wasm_execution.specs.Calls.{declared}
use Rattle.wasm_machine_typing.specs.Values.{AreOf}

-- values of two rows of types
pub part : (ts us : List ValTy) (vs : List ℕ) → AreOf (ts ++ us) vs → (as' : List ℕ) × (bs : List ℕ) × (vs ≡ as' ++ bs) × AreOf ts as' × AreOf us bs
part [] us vs h = ([], vs, refl, tt, h)
part (t ∷ ts) us [] h = absurd h
part (t ∷ ts) us (v ∷ vs) h = let i = part ts us vs h.1 in (v ∷ i.0, i.1, ap (λ (l : List ℕ). v ∷ l) i.2, (h.0, i.3), i.4)

pub join : (ts us : List ValTy) (as' bs : List ℕ) → AreOf ts as' → AreOf us bs → AreOf (ts ++ us) (as' ++ bs)
join [] us [] bs h k = k
join [] us (a ∷ as') bs h k = absurd h
join (t ∷ ts) us [] bs h k = absurd h
join (t ∷ ts) us (a ∷ as') bs h k = (h.0, join ts us as' bs h.1 k)

pub as_long : (ts : List ValTy) (vs : List ℕ) → AreOf ts vs → length vs ≡ length ts
as_long [] [] h = refl
as_long [] (v ∷ vs) h = absurd h
as_long (t ∷ ts) [] h = absurd h
as_long (t ∷ ts) (v ∷ vs) h = let i = as_long ts vs h.1 in omega (arith, i)

pub looked_up : (ts : List ValTy) (vs : List ℕ) (n : ℕ) (t : ValTy) → AreOf ts vs → slice_get ts n ≡ Some t → (v : ℕ) × (slice_get vs n ≡ Some v) × IsWithin (width_of t) v
looked_up [] vs n t h e = absurd (cc)
looked_up (u ∷ us) [] n t h e = absurd h
looked_up (u ∷ us) (v ∷ vs) zero t h e = let f : u ≡ t = (cc) in (v, refl, subst (λ (x : ValTy). IsWithin (width_of x) v) f h.0)
looked_up (u ∷ us) (v ∷ vs) (suc n) t h e = looked_up us vs n t h.1 e

pub put : (ts : List ValTy) (vs : List ℕ) (n : ℕ) (t : ValTy) (v : ℕ) → AreOf ts vs → slice_get ts n ≡ Some t → IsWithin (width_of t) v → AreOf ts (slice_set vs n v)
put [] vs n t v h e w = absurd (cc)
put (u ∷ us) [] n t v h e w = absurd h
put (u ∷ us) (x ∷ vs) zero t v h e w = let f : t ≡ u = (cc) in (subst (λ (y : ValTy). IsWithin (width_of y) v) f w, h.1)
put (u ∷ us) (x ∷ vs) (suc n) t v h e w = (h.0, put us vs n t v h.1 e w)

pub turned : (ts : List ValTy) (vs : List ℕ) → AreOf ts vs → AreOf (reverse ts) (reverse vs)
turned [] [] h = tt
turned [] (v ∷ vs) h = absurd h
turned (t ∷ ts) [] h = absurd h
turned (t ∷ ts) (v ∷ vs) h =
    subst (λ (us : List ValTy). AreOf us (reverse (v ∷ vs))) (sym (reverse-append (t ∷ []) ts))
    (subst (λ (us : List ℕ). AreOf (reverse ts ++ t ∷ []) us) (sym (reverse-append (v ∷ []) vs)) (join (reverse ts) (t ∷ []) (reverse vs) (v ∷ []) (turned ts vs h.1) (h.0, tt)))

zero_within : (t : ValTy) → IsWithin (width_of t) 0
zero_within I32 = omega arith
zero_within I64 = omega arith

zeros : (n : ℕ) (t : ValTy) → AreOf (replicate n t) (replicate n 0)
zeros zero t = tt
zeros (suc n) t = (zero_within t, zeros n t)

-- the locals that a function declares are zeros at first
pub declared_zeros : (rs : List LocalRun) → AreOf (declared_locals rs) (replicate (declared rs) 0)
declared_zeros [] = tt
declared_zeros (r ∷ rs) =
    subst (λ (vs : List ℕ). AreOf (declared_locals (r ∷ rs)) vs) (replicate-append-replicate r.count (declared rs) 0)
    (join (replicate r.count r.ty) (declared_locals rs) (replicate r.count 0) (replicate (declared rs) 0) (zeros r.count r.ty) (declared_zeros rs))

pub results_long : (t : Option ValTy) → length (option_to_list t) ≡ results_of t
results_long None = refl
results_long (Some t) = refl

filled : (at : ValTy) (ts : List ValTy) → map (fill at) (map The ts) ≡ ts
filled at [] = refl
filled at (t ∷ ts) = ap (λ (l : List ValTy). t ∷ l) (filled at ts)

map_reverse : (at : ValTy) (ss : List Slot) → map (fill at) (reverse ss) ≡ reverse (map (fill at) ss)
map_reverse at [] = refl
map_reverse at (s ∷ ss) =
    ap (map (fill at)) (reverse-append (s ∷ []) ss) ∙ map-append (fill at) (reverse ss) (s ∷ []) ∙ ap (λ (l : List ValTy). l ++ fill at s ∷ []) (map_reverse at ss)
    ∙ sym (reverse-append (fill at s ∷ []) (map (fill at) ss))

-- the slots of a function's parameters, the last one first
pub params_filled : (at : ValTy) (ts : List ValTy) → map (fill at) (reverse (map The ts)) ≡ reverse ts
params_filled at ts = map_reverse at (map The ts) ∙ ap reverse (filled at ts)

pub result_filled : (at : ValTy) (t : Option ValTy) → map (fill at) (option_to_list (option_map The t)) ≡ option_to_list t
result_filled at None = refl
result_filled at (Some t) = refl

-- one, two or three values on top
pub one : (t : ValTy) (taken below operands : List ℕ) → operands ≡ taken ++ below → AreOf (t ∷ []) taken → (v : ℕ) × (operands ≡ v ∷ below) × IsWithin (width_of t) v
one t [] below operands e h = absurd h
one t (v ∷ []) below operands e h = (v, e, h.0)
one t (v ∷ (w ∷ vs)) below operands e h = absurd h.1

pub two : (t u : ValTy) (taken below operands : List ℕ) → operands ≡ taken ++ below → AreOf (t ∷ (u ∷ [])) taken →
    (v : ℕ) × (w : ℕ) × (operands ≡ v ∷ (w ∷ below)) × IsWithin (width_of t) v × IsWithin (width_of u) w
two t u [] below operands e h = absurd h
two t u (v ∷ []) below operands e h = absurd h.1
two t u (v ∷ (w ∷ [])) below operands e h = (v, w, e, h.0, h.1.0)
two t u (v ∷ (w ∷ (x ∷ vs))) below operands e h = absurd h.1.1

pub three : (t u s : ValTy) (taken below operands : List ℕ) → operands ≡ taken ++ below → AreOf (t ∷ (u ∷ (s ∷ []))) taken →
    (v : ℕ) × (w : ℕ) × (x : ℕ) × (operands ≡ v ∷ (w ∷ (x ∷ below))) × IsWithin (width_of u) w × IsWithin (width_of s) x
three t u s [] below operands e h = absurd h
three t u s (v ∷ []) below operands e h = absurd h.1
three t u s (v ∷ (w ∷ [])) below operands e h = absurd h.1.1
three t u s (v ∷ (w ∷ (x ∷ []))) below operands e h = (v, w, x, e, h.1.0, h.1.1.0)
three t u s (v ∷ (w ∷ (x ∷ (y ∷ vs)))) below operands e h = absurd h.1.1.1
