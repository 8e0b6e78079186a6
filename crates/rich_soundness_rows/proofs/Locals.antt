-- Rows on locals.
use Rattle.std.proofs.Common.{◌≡◌, ℕ, zero, suc, List, [], ◌∷◌, Option, Some, None, refl, ap, ◌∙◌, subst, arith}
use Rattle.std.specs.Prelude.{slice_get, slice_set}
use Rattle.rw_types.specs.declared.instrs.Instr.{LocalGet, LocalTake, LocalSet}
use Rattle.rw_types.specs.declared.types.Qual.TheVariants.{Unr}
use Rattle.rw_types.specs.declared.types.Ty.{Ty}
use Rattle.rich_types.specs.Scopes.{scope_of}
use Rattle.rich_types.specs.Instances.{Substitution}
use Rattle.rich_rules.specs.Points.{Owner, OfFunction, OfGlobal, Outcome, Gives, Becomes}
use Rattle.rich_rules.specs.Takers.{unr_unit}
use Rattle.rich_rules.specs.Table.{row, in_function}
use Rattle.rich_rules.specs.Variables.{local_get_row, local_take_row, local_set_row}
use Rattle.rich_rules.proofs.RowEquations.{row-LocalGet, row-LocalTake, row-LocalSet}
use Rattle.rich_rules_inversions.specs.Cells.{Goes}
use Rattle.rich_rules_inversions.proofs.Bodies.{rows}
use Rattle.rich_reduction.specs.Configurations.{Val, Empty}
use Rattle.rich_reduction.specs.Turns.{goes_on}
use Rattle.machine_steps.specs.Steps.{with_found}
use Rattle.rich_reduction.specs.Plain.{put, put_local}
use Rattle.rich_rights.specs.Rights.{Right, rights_to, count}
use Rattle.rich_rights_laws.proofs.Sums.{values}
use Rattle.rich_soundness_values.specs.Heaps.{Heaps, all_at, at}
use Rattle.rich_soundness_values.specs.Values.{HasType, HaveTypes, more_types, is_unit}
use Rattle.rich_soundness_values.proofs.Typed.{no_rights}
use Rattle.rich_soundness_rows.specs.Laws.{LocalRowsAreSafe}
use Rattle.rich_soundness_rows.proofs.Moves.{ActsOn, moves, RowActs, safe}
use Rattle.rich_soundness_rows.proofs.Closed.{unr_at}

-- a row of functions' bodies goes on in a function alone
pub in_function-passed : (w : Owner) (o : Outcome) → Goes (in_function w o) → (in_function w o ≡ o) × Goes o
in_function-passed OfFunction o go = (refl, go)
in_function-passed (OfGlobal n) o go = absurd go

-- the value with this number
pub value_at : {hs : Heaps} (g : Substitution) (vs : List Val) (ts : List Ty) (n : ℕ) (t : Ty) → HaveTypes hs vs (all_at g ts) → slice_get ts n ≡ Some t → (v : Val) × (slice_get vs n ≡ Some v) × HasType hs v (at g t)
value_at g vs [] n t h e = cc
value_at g [] (u ∷ ts) n t h e = elim h [ ]
value_at {hs = hs} g (v ∷ vs) (u ∷ ts) zero t (more_types h hv) e = let s : u ≡ t = cc in (v, refl, subst (λ (x : Ty). HasType hs v (at g x)) s h)
value_at g (v ∷ vs) (u ∷ ts) (suc n) t (more_types h hv) e = value_at g vs ts n t hv e

-- another value in its place
pub set_typed : {hs : Heaps} (g : Substitution) (vs : List Val) (ts : List Ty) (n : ℕ) (v : Val) (t : Ty) → HaveTypes hs vs (all_at g ts) → HasType hs v (at g t) → HaveTypes hs (slice_set vs n v) (all_at g (slice_set ts n t))
set_typed g [] [] n v t h k = h
set_typed g [] (u ∷ ts) n v t h k = elim h [ ]
set_typed g (x ∷ vs) [] n v t h k = elim h [ ]
set_typed g (x ∷ vs) (u ∷ ts) zero v t (more_types h hv) k = more_types k hv
set_typed g (x ∷ vs) (u ∷ ts) (suc n) v t (more_types h hv) k = more_types h (set_typed g vs ts n v t hv k)

get_acts : (n : ℕ) → RowActs (LocalGet n)
get_acts n funcs f hs q g here c vs ls s =
    let p = in_function-passed f.owner (local_get_row (scope_of q.binders) q.locals n q.operands) (subst Goes (row-LocalGet f q n) s.goes) in
    let e = row-LocalGet f q n ∙ p.0 in
    let x = rows.local_get (scope_of q.binders) q.locals n q.operands (local_get_row (scope_of q.binders) q.locals n q.operands) refl p.1 in
    let v = value_at g ls q.locals n x.value s.locals x.found in
    moves _ None [] (v.0 ∷ vs) ls (e ∙ x.given) (ap (λ (k : Option Val). with_found k (λ v. put v (record here { operands = vs; locals = ls }) c)) v.1) (more_types v.2 s.operands) s.locals
    (λ r m. omega (arith, no_rights r m v.2 (unr_at g (scope_of q.binders) x.value s.answered x.unrestricted)))

take_acts : (n : ℕ) → RowActs (LocalTake n)
take_acts n funcs f hs q g here c vs ls s =
    let p = in_function-passed f.owner (local_take_row (scope_of q.binders) q.locals n q.operands) (subst Goes (row-LocalTake f q n) s.goes) in
    let e = row-LocalTake f q n ∙ p.0 in
    let x = rows.local_take (scope_of q.binders) q.locals n q.operands (local_take_row (scope_of q.binders) q.locals n q.operands) refl p.1 in
    let v = value_at g ls q.locals n x.value s.locals x.found in
    let h = record here { operands = vs; locals = ls } in
    moves _ (Some (Becomes n unr_unit)) [] (v.0 ∷ vs) (slice_set ls n Empty) (e ∙ x.given)
    (ap (λ (k : Option Val). with_found k (λ v. put_local n Empty (v ∷ vs) h c)) v.1 ∙ ap (λ (k : Option Val). with_found k (λ old. goes_on (record h { operands = v.0 ∷ vs; locals = slice_set ls n Empty }) c)) v.1)
    (more_types v.2 s.operands) (set_typed g ls q.locals n Empty unr_unit s.locals (is_unit Unr refl))
    (λ r m. omega (arith, (values (rights_to r m)).set ls n v.0 Empty v.1))

set_acts : (n : ℕ) → RowActs (LocalSet n)
set_acts n funcs f hs q g here c vs ls s =
    let p = in_function-passed f.owner (local_set_row (scope_of q.binders) f.slots q.locals n q.operands) (subst Goes (row-LocalSet f q n) s.goes) in
    let e = row-LocalSet f q n ∙ p.0 in
    let x = rows.local_set (scope_of q.binders) f.slots q.locals n q.operands (local_set_row (scope_of q.binders) f.slots q.locals n q.operands) refl p.1 in
    let old = value_at g ls q.locals n x.before s.locals x.found in
    go vs x.value x.beneath old.0 old.1 (subst (λ (ts : List Ty). HaveTypes hs vs (all_at g ts)) x.taken s.operands) (λ r m. no_rights r m old.2 (unr_at g (scope_of q.binders) x.before s.answered x.unrestricted)) (e ∙ x.given)
  where
    go : (vs : List Val) (t : Ty) (beneath : List Ty) (old : Val) → slice_get ls n ≡ Some old → HaveTypes hs vs (all_at g (t ∷ beneath)) → ((r : Right) (m : ℕ) → count (rights_to r m) old ≡ 0) → row f q (LocalSet n) ≡ Gives beneath (Some (Becomes n t)) → ActsOn funcs f hs q g here c (LocalSet n) vs ls
    go [] t beneath old is h free e = elim h [ ]
    go (v ∷ vs) t beneath old is (more_types h hv) free e =
        moves _ (Some (Becomes n t)) [] vs (slice_set ls n v) e (ap (λ (k : Option Val). with_found k (λ old. goes_on (record here { operands = vs; locals = slice_set ls n v }) c)) is)
        hv (set_typed g ls q.locals n v t s.locals h)
        (λ r m. omega (arith, (values (rights_to r m)).set ls n old v is, free r m))

pub local_rows : LocalRowsAreSafe
local_rows = record {
  get = λ n. safe (LocalGet n) refl (get_acts n);
  take = λ n. safe (LocalTake n) refl (take_acts n);
  set = λ n. safe (LocalSet n) refl (set_acts n);
}
