-- Types raised twice, by nothing, and in another order.
use Rattle.std.proofs.Common.{◌≡◌, ◌∙◌, ◌+◌, ◌≤◌, ◌++◌, ℕ, suc, List, [], ◌∷◌, length, reverse, refl, ap, sym, arith, inl, inr}
use Rattle.std.proofs.lemmas.List.{reverse-append}
use Rattle.rw_types.specs.declared.types.Binder.{Binder}
use Rattle.rw_types.specs.declared.types.Binder.TheVariants.{Loc, Kind}
use Rattle.rw_types.specs.declared.types.Ty.{Ty, Var}
use Rattle.rich_types.specs.declared.depth.Depth.{Depth}
use Rattle.rich_types.specs.Walks.{below, below_location, below_variable, outside}
use Rattle.rich_types.specs.Instances.{raise_number, raising, raise}
use Rattle.rich_types_laws.proofs.Composed.{place, raise_in, raise_out, plus}
use Rattle.rich_types_laws.proofs.Unchanged.{raised_by_nothing}
use Rattle.rich_types_laws.proofs.Walked.{after, walk_walk, Alike, walk_alike}
use Rattle.rich_rules.specs.Points.{Label}
use Rattle.rich_rules.specs.Raised.{below_one, raise_all, raise_label, raise_labels}

raise_raise : (e c k n : ℕ) → raise_number e k (raise_number e c n) ≡ raise_number e (c + k) n
raise_raise e c k n = elim (place e n) [
  | inl lt ↦ ap (raise_number e k) (raise_in e c n lt) ∙ raise_in e k n lt ∙ sym (raise_in e (c + k) n lt)
  | inr o ↦ (let far : e ≤ n = omega (arith, o.is) in let further : e ≤ n + c = omega (arith, o.is) in let sum : (n + c) + k ≡ n + (c + k) = omega arith in
      ap (raise_number e k) (raise_out e c n far) ∙ raise_out e k (n + c) further ∙ sum ∙ sym (raise_out e (c + k) n far))
]

twice_alike : (c k : Depth) → Alike (after (raising k) (raising c)) (raising (plus c k)) (λ d e. d ≡ e)
twice_alike c k = record {
  location = λ d e m n. raise_raise d.locations c.locations k.locations n ∙ ap (λ (x : Depth). raise_number x.locations (c.locations + k.locations) n) m;
  variable = λ d e m n. ap Var (raise_raise d.variables c.variables k.variables n ∙ ap (λ (x : Depth). raise_number x.variables (c.variables + k.variables) n) m);
  deeper_location = λ d e m. ap below_location m;
  deeper_variable = λ d e m. ap below_variable m;
}

raised_twice : (c k : Depth) (t : Ty) → raise k (raise c t) ≡ raise (plus c k) t
raised_twice c k t = walk_walk (raising k) (raising c) outside t ∙ walk_alike (twice_alike c k) outside outside refl t

-- below one binder more
one_more : (b : Binder) (by : Depth) → plus (below_one b) by ≡ below (b ∷ []) by
unfolding below_location below_variable
one_more (Loc m) by = let e : 1 + by.locations ≡ by.locations + 1 = omega arith in let f : 0 + by.variables ≡ by.variables = omega arith in
    ap (λ (x : ℕ). record { locations = x; variables = 0 + by.variables }) e ∙ ap (λ (x : ℕ). record { locations = by.locations + 1; variables = x }) f
one_more (Kind q s) by = let e : 0 + by.locations ≡ by.locations = omega arith in let f : 1 + by.variables ≡ by.variables + 1 = omega arith in
    ap (λ (x : ℕ). record { locations = x; variables = 1 + by.variables }) e ∙ ap (λ (x : ℕ). record { locations = by.locations; variables = x }) f

raised_below : (b : Binder) (by : Depth) (t : Ty) → raise by (raise (below_one b) t) ≡ raise (below (b ∷ []) by) t
raised_below b by t = raised_twice (below_one b) by t ∙ ap (λ (d : Depth). raise d t) (one_more b by)

pub all_below : (b : Binder) (by : Depth) (ts : List Ty) → raise_all by (raise_all (below_one b) ts) ≡ raise_all (below (b ∷ []) by) ts
all_below b by [] = refl
all_below b by (t ∷ ts) = ap (λ (u : Ty). u ∷ raise_all by (raise_all (below_one b) ts)) (raised_below b by t) ∙ ap (λ (us : List Ty). raise (below (b ∷ []) by) t ∷ us) (all_below b by ts)

label_below : (b : Binder) (by : Depth) (l : Label) → raise_label by (raise_label (below_one b) l) ≡ raise_label (below (b ∷ []) by) l
label_below b by l =
    ap (λ (ts : List Ty). record { types = ts; locals = raise_all by (raise_all (below_one b) l.locals); rest = raise_all by (raise_all (below_one b) l.rest) }) (all_below b by l.types)
    ∙ ap (λ (ts : List Ty). record { types = raise_all (below (b ∷ []) by) l.types; locals = ts; rest = raise_all by (raise_all (below_one b) l.rest) }) (all_below b by l.locals)
    ∙ ap (λ (ts : List Ty). record { types = raise_all (below (b ∷ []) by) l.types; locals = raise_all (below (b ∷ []) by) l.locals; rest = ts }) (all_below b by l.rest)

pub labels_below : (b : Binder) (by : Depth) (ls : List Label) → raise_labels by (raise_labels (below_one b) ls) ≡ raise_labels (below (b ∷ []) by) ls
labels_below b by [] = refl
labels_below b by (l ∷ ls) = ap (λ (m : Label). m ∷ raise_labels by (raise_labels (below_one b) ls)) (label_below b by l) ∙ ap (λ (ms : List Label). raise_label (below (b ∷ []) by) l ∷ ms) (labels_below b by ls)

-- raised by nothing
pub all_unraised : (ts : List Ty) → raise_all outside ts ≡ ts
all_unraised [] = refl
all_unraised (t ∷ ts) = ap (λ (u : Ty). u ∷ raise_all outside ts) (raised_by_nothing t) ∙ ap (λ (us : List Ty). t ∷ us) (all_unraised ts)

label_unraised : (l : Label) → raise_label outside l ≡ l
label_unraised l =
    ap (λ (ts : List Ty). record { types = ts; locals = raise_all outside l.locals; rest = raise_all outside l.rest }) (all_unraised l.types)
    ∙ ap (λ (ts : List Ty). record { types = l.types; locals = ts; rest = raise_all outside l.rest }) (all_unraised l.locals)
    ∙ ap (λ (ts : List Ty). record { types = l.types; locals = l.locals; rest = ts }) (all_unraised l.rest)

pub labels_unraised : (ls : List Label) → raise_labels outside ls ≡ ls
labels_unraised [] = refl
labels_unraised (l ∷ ls) = ap (λ (m : Label). m ∷ raise_labels outside ls) (label_unraised l) ∙ ap (λ (ms : List Label). l ∷ ms) (labels_unraised ls)

-- the other way round
pub raise_append : (by : Depth) (ts us : List Ty) → raise_all by (ts ++ us) ≡ raise_all by ts ++ raise_all by us
raise_append by [] us = refl
raise_append by (t ∷ ts) us = ap (λ (vs : List Ty). raise by t ∷ vs) (raise_append by ts us)

pub raise_reversed : (by : Depth) (ts : List Ty) → raise_all by (reverse ts) ≡ reverse (raise_all by ts)
raise_reversed by [] = refl
raise_reversed by (t ∷ ts) =
    ap (raise_all by) (reverse-append (t ∷ []) ts)
    ∙ raise_append by (reverse ts) (t ∷ [])
    ∙ ap (λ (us : List Ty). us ++ raise by t ∷ []) (raise_reversed by ts)
    ∙ sym (reverse-append (raise by t ∷ []) (raise_all by ts))

-- as many
pub count_kept : (by : Depth) (ls : List Label) → length (raise_labels by ls) ≡ length ls
count_kept by [] = refl
count_kept by (l ∷ ls) = ap suc (count_kept by ls)
