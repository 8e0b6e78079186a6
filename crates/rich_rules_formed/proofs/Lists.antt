-- Lists of well-formed types: joined, taken apart, turned round, changed at a place, and raised past a binder.
use Rattle.std.proofs.Common.{◌≡◌, ℕ, zero, suc, List, [], ◌∷◌, ◌++◌, Some, refl, subst, reverse, take, drop, replicate}
use Rattle.std.specs.Prelude.{slice_get, slice_set}
use Rattle.std.proofs.Math.Path.{subst⁻¹}
use Rattle.std.proofs.lemmas.List.{reverse-append}
use Rattle.rw_types.specs.declared.instrs.LocalTy.{LocalTy}
use Rattle.rw_types.specs.declared.types.Binder.{Binder}
use Rattle.rw_types.specs.declared.types.Binder.TheVariants.{Loc, Kind}
use Rattle.rw_types.specs.declared.types.Qual.{Qual}
use Rattle.rw_types.specs.declared.types.Qual.TheVariants.{Unr, Lin}
use Rattle.rw_types.specs.declared.types.Ty.{Ty}
use Rattle.rich_types.specs.Scopes.{Scope, within, with_location, with_variable}
use Rattle.rich_types.specs.Sizes.{qual_under}
use Rattle.rich_types.specs.WellFormed.{IsAtMost, IsWellFormed, AreParts}
use Rattle.rich_types.specs.Instances.{raise}
use Rattle.rich_binder_laws.proofs.Raised.{raised_kept}
use Rattle.rich_rules.specs.Blocks.{changed_by, each_alone, local_types}
use Rattle.rich_rules.specs.Points.{Label, types_at}
use Rattle.rich_rules.specs.Raised.{below_one, raise_all, raise_labels}
use Rattle.rich_rules_formed.specs.Formed.{AreFormed, IsFormedLabel, AreFormedLabels}

pub below_lin : (q : Qual) → IsAtMost q Lin
below_lin Unr = tt
below_lin Lin = tt

module _ (c : Scope) where
  pub more : (t : Ty) (ts : List Ty) → IsWellFormed c t → AreFormed c ts → AreFormed c (t ∷ ts)
  more t ts w ws = (w, below_lin (qual_under c t), ws)

  pub alone : (t : Ty) → IsWellFormed c t → AreFormed c (t ∷ [])
  alone t w = more t [] w tt

  pub any_qual : (q : Qual) (ts : List Ty) → AreParts c q ts → AreFormed c ts
  any_qual q [] w = tt
  any_qual q (t ∷ ts) w = more t ts w.0 (any_qual q ts w.2)

  pub joined : (xs ys : List Ty) → AreFormed c xs → AreFormed c ys → AreFormed c (xs ++ ys)
  joined [] ys v w = w
  joined (x ∷ xs) ys v w = (v.0, v.1, joined xs ys v.2 w)

  pub front : (xs ys : List Ty) → AreFormed c (xs ++ ys) → AreFormed c xs
  front [] ys w = tt
  front (x ∷ xs) ys w = (w.0, w.1, front xs ys w.2)

  pub back : (xs ys : List Ty) → AreFormed c (xs ++ ys) → AreFormed c ys
  back [] ys w = w
  back (x ∷ xs) ys w = back xs ys w.2

  pub reversed : (xs : List Ty) → AreFormed c xs → AreFormed c (reverse xs)
  reversed [] w = tt
  reversed (x ∷ xs) w = subst⁻¹ (AreFormed c) (reverse-append (x ∷ []) xs) (joined (reverse xs) (x ∷ []) (reversed xs w.2) (alone x w.0))

  pub taken : (n : ℕ) (xs : List Ty) → AreFormed c xs → AreFormed c (take n xs)
  taken zero xs w = tt
  taken (suc n) [] w = tt
  taken (suc n) (x ∷ xs) w = (w.0, w.1, taken n xs w.2)

  pub dropped : (n : ℕ) (xs : List Ty) → AreFormed c xs → AreFormed c (drop n xs)
  dropped zero xs w = w
  dropped (suc n) [] w = tt
  dropped (suc n) (x ∷ xs) w = dropped n xs w.2

  pub found : (xs : List Ty) (n : ℕ) (t : Ty) → slice_get xs n ≡ Some t → AreFormed c xs → IsWellFormed c t
  found [] n t e w = cc
  found (x ∷ xs) zero t e w = let same : x ≡ t = cc in subst (IsWellFormed c) same w.0
  found (x ∷ xs) (suc n) t e w = found xs n t e w.2

  pub replaced : (xs : List Ty) (n : ℕ) (t : Ty) → AreFormed c xs → IsWellFormed c t → AreFormed c (slice_set xs n t)
  replaced [] n t w v = tt
  replaced (x ∷ xs) zero t w v = more t xs v w.2
  replaced (x ∷ xs) (suc n) t w v = (w.0, w.1, replaced xs n t w.2 v)

  pub repeated : (n : ℕ) (t : Ty) → IsWellFormed c t → AreFormed c (replicate n t)
  repeated zero t w = tt
  repeated (suc n) t w = more t (replicate n t) w (repeated n t w)

  -- the locals that a signature changes
  pub changed : (ls : List LocalTy) (locals : List Ty) → AreFormed c (local_types ls) → AreFormed c locals → AreFormed c (changed_by ls locals)
  changed [] locals v w = w
  changed (l ∷ ls) locals v w = changed ls (slice_set locals l.index l.ty) v.2 (replaced locals l.index l.ty w v.0)

  -- the payloads of cases
  pub no_payload : (j : ℕ) → AreFormed c (types_at [] j)
  no_payload j = tt

  pub payloads : (ts : List Ty) (j : ℕ) → AreFormed c ts → AreFormed c (types_at (each_alone ts) j)
  payloads [] j w = tt
  payloads (t ∷ ts) zero w = alone t w.0
  payloads (t ∷ ts) (suc j) w = payloads ts j w.2

  pub label_found : (ls : List Label) (k : ℕ) (l : Label) → slice_get ls k ≡ Some l → AreFormedLabels c ls → IsFormedLabel c l
  label_found [] k l e w = cc
  label_found (x ∷ ls) zero l e w = let same : x ≡ l = cc in subst (IsFormedLabel c) same w.0
  label_found (x ∷ ls) (suc k) l e w = label_found ls k l e w.1

module _ (c : Scope) (b : Binder) where
  pub raised : (ts : List Ty) → AreFormed c ts → AreFormed (within (b ∷ []) c) (raise_all (below_one b) ts)
  raised [] w = tt
  raised (t ∷ ts) w = more (within (b ∷ []) c) (raise (below_one b) t) (raise_all (below_one b) ts) (raised_kept c b t w.0).0 (raised ts w.2)

  pub labels_raised : (ls : List Label) → AreFormedLabels c ls → AreFormedLabels (within (b ∷ []) c) (raise_labels (below_one b) ls)
  labels_raised [] w = tt
  labels_raised (l ∷ ls) w = (record { types = raised l.types w.0.types; locals = raised l.locals w.0.locals; rest = raised l.rest w.0.rest }, labels_raised ls w.1)

-- the last of these binders is the innermost
pub within_last : (bs : List Binder) (b : Binder) (c : Scope) → within (bs ++ b ∷ []) c ≡ within (b ∷ []) (within bs c)
within_last [] b c = refl
within_last (Loc m ∷ bs) b c = within_last bs b (with_location m c)
within_last (Kind q s ∷ bs) b c = within_last bs b (with_variable q s c)
