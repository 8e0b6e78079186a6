-- Stores grow: each step leaves places and words as they were, but for a cell that is freed or made.
use Rattle.std.proofs.Common.{◌≡◌, ℕ, zero, suc, List, [], ◌∷◌, ◌++◌, Option, Some, None, refl, sym, ap, subst, ◌∙◌}
use Rattle.std.specs.Prelude.{slice_get, slice_set}
use Rattle.rw_types.specs.declared.types.Mem.{Mem}
use Rattle.rw_types.specs.declared.types.Mem.TheVariants.{L, U}
use Rattle.rich_reduction.specs.Configurations.{Val, Content, Cell, Stores, Event}
use Rattle.rich_reduction.specs.Cells.{still_there, cell_in, put_in, with_new, opened_in}
use Rattle.rich_reduction_laws.specs.Effects.{Effect, Quiet, Prints, Makes, Reads, Writes, Opens, Frees, OpensCell, Does}
use Rattle.rich_reduction_laws.specs.Stores.{IsLaterPlace, IsLaterCell, AreLater}

-- a relation between what stands in a place before and after, which holds where nothing stood and where nothing changed
module _ {X : Type 0} (R : Option X → Option X → Type 0) (none : (o : Option X) → R None o) (same : (o : Option X) → R o o) where
  in_set : (xs : List X) (n k : ℕ) (old new : X) → slice_get xs n ≡ Some old → R (Some old) (Some new) → R (slice_get xs k) (slice_get (slice_set xs n new) k)
  in_set [] n k old new e r = none (slice_get (slice_set [] n new) k)
  in_set (x ∷ xs) zero zero old new e r = subst (λ (o : Option X). R o (Some new)) (sym e) r
  in_set (x ∷ xs) zero (suc k) old new e r = same (slice_get xs k)
  in_set (x ∷ xs) (suc n) zero old new e r = same (Some x)
  in_set (x ∷ xs) (suc n) (suc k) old new e r = in_set xs n k old new e r

  in_more : (xs : List X) (x : X) (k : ℕ) → R (slice_get xs k) (slice_get (xs ++ x ∷ []) k)
  in_more [] x k = none (slice_get (x ∷ []) k)
  in_more (y ∷ xs) x zero = same (Some y)
  in_more (y ∷ xs) x (suc k) = in_more xs x k

no_place : (o : Option (Option Cell)) → IsLaterPlace None o
no_place o = tt

same_place : (o : Option (Option Cell)) → IsLaterPlace o o
same_place None = tt
same_place (Some None) = refl
same_place (Some (Some cell)) = refl

no_cell : (o : Option Cell) → IsLaterCell None o
no_cell o = tt

same_cell : (o : Option Cell) → IsLaterCell o o
same_cell None = tt
same_cell (Some cell) = refl

pub later_same : (s : Stores) → AreLater s s
later_same s = record { linear = λ n. same_place (slice_get s.linear n); unrestricted = λ n. same_cell (slice_get s.unrestricted n) }

later_place : (a b c : Option (Option Cell)) → IsLaterPlace a b → IsLaterPlace b c → IsLaterPlace a c
later_place None b c h k = tt
later_place (Some None) b c h k = subst (λ (o : Option (Option Cell)). IsLaterPlace o c) h k
later_place (Some (Some cell)) None c h k = absurd h
later_place (Some (Some cell)) (Some None) c h k = subst (λ (o : Option (Option Cell)). IsLaterPlace (Some (Some cell)) o) (sym k) tt
later_place (Some (Some cell)) (Some (Some cell')) None h k = absurd k
later_place (Some (Some cell)) (Some (Some cell')) (Some None) h k = tt
later_place (Some (Some cell)) (Some (Some cell')) (Some (Some cell'')) h k = k ∙ h

later_cell : (a b c : Option Cell) → IsLaterCell a b → IsLaterCell b c → IsLaterCell a c
later_cell None b c h k = tt
later_cell (Some cell) None c h k = absurd h
later_cell (Some cell) (Some cell') None h k = absurd k
later_cell (Some cell) (Some cell') (Some cell'') h k = k ∙ h

pub later_on : (s s' s'' : Stores) → AreLater s s' → AreLater s' s'' → AreLater s s''
later_on s s' s'' h k = record {
  linear = λ n. later_place (slice_get s.linear n) (slice_get s'.linear n) (slice_get s''.linear n) (h.linear n) (k.linear n);
  unrestricted = λ n. later_cell (slice_get s.unrestricted n) (slice_get s'.unrestricted n) (slice_get s''.unrestricted n) (h.unrestricted n) (k.unrestricted n);
}

later_of : (s s' : Stores) → s' ≡ s → AreLater s s'
later_of s s' e = subst (AreLater s) (sym e) (later_same s)

pub place_of : (o : Option (Option Cell)) (cell : Cell) → still_there o ≡ Some cell → o ≡ Some (Some cell)
place_of None cell e = cc
place_of (Some o) cell e = ap (λ (p : Option Cell). Some p) e

later_made : (m : Mem) (cell : Cell) (s : Stores) → AreLater s (with_new m cell s)
later_made L cell s = record { linear = in_more IsLaterPlace no_place same_place s.linear (Some cell); unrestricted = λ n. same_cell (slice_get s.unrestricted n) }
later_made U cell s = record { linear = λ n. same_place (slice_get s.linear n); unrestricted = in_more IsLaterCell no_cell same_cell s.unrestricted cell }

later_put : (m : Mem) (n : ℕ) (cell : Cell) (x : Content) (s : Stores) → cell_in m n s ≡ Some cell → AreLater s (put_in m n (record cell { content = x }) s)
later_put L n cell x s e = record {
  linear = λ k. in_set IsLaterPlace no_place same_place s.linear n k (Some cell) (Some (record cell { content = x })) (place_of (slice_get s.linear n) cell e) refl;
  unrestricted = λ k. same_cell (slice_get s.unrestricted k);
}
later_put U n cell x s e = record {
  linear = λ k. same_place (slice_get s.linear k);
  unrestricted = λ k. in_set IsLaterCell no_cell same_cell s.unrestricted n k cell (record cell { content = x }) e refl;
}

later_opened : (m : Mem) (n : ℕ) (cell : Cell) (s : Stores) → cell_in m n s ≡ Some cell → AreLater s (opened_in m n s)
later_opened L n cell s e = record {
  linear = λ k. in_set IsLaterPlace no_place same_place s.linear n k (Some cell) None (place_of (slice_get s.linear n) cell e) tt;
  unrestricted = λ k. same_cell (slice_get s.unrestricted k);
}
later_opened U n cell s e = later_same s

opens_later : (s s' : Stores) (es : List Event) → OpensCell s s' es → AreLater s s'
opens_later s s' es h = subst (AreLater s) (sym h.opened) (later_opened h.location.mem h.location.number h.cell s h.there)

pub does_later : (e : Effect) (vs : List Val) (s s' : Stores) (es : List Event) → Does e vs s s' es → AreLater s s'
does_later Quiet vs s s' es h = later_of s s' h.stays
does_later Prints vs s s' es h = later_of s s' h.stays
does_later (Makes m) vs s s' es h = subst (AreLater s) (sym h.made) (later_made m h.cell s)
does_later Reads vs s s' es h = later_of s s' h.stays
does_later Writes vs s s' es h = subst (AreLater s) (sym h.written) (later_put h.location.mem h.location.number h.cell h.content s h.there)
does_later Opens vs s s' es h = opens_later s s' es h
does_later Frees vs s s' es h = opens_later s s' es h.opens
