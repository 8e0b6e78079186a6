-- Raising keeps what numbers stand for, and so do arguments that answer their binders.
use Rattle.std.proofs.Common.{◌≡◌, ◌≤◌, ◌<◌, ◌∙◌, ℕ, zero, suc, ◌+◌, ◌-◌, List, [], ◌∷◌, ◌++◌, length, Some, refl, ap, sym, subst, arith, inl, inr}
use Rattle.std.specs.Prelude.{slice_get}
use Rattle.std.specs.Option.{IsSomeAnd}
use Rattle.std.proofs.Math.Path.{subst⁻¹}
use Rattle.rw_types.specs.declared.types.Arg.{Arg}
use Rattle.rw_types.specs.declared.types.Arg.TheVariants as arg
use Rattle.rw_types.specs.declared.types.Binder.{Binder}
use Rattle.rw_types.specs.declared.types.Binder.TheVariants.{Loc, Kind}
use Rattle.rw_types.specs.declared.types.Mem.{Mem}
use Rattle.rw_types.specs.declared.types.Qual.{Qual}
use Rattle.rw_types.specs.declared.types.Ty.{Ty, Var}
use Rattle.rich_types.specs.declared.depth.Depth.{Depth}
use Rattle.rich_types.specs.declared.variables.VariableKind.{VariableKind}
use Rattle.rich_types.specs.Scopes.{Scope, no_scope, within, with_location, with_variable, scope_of, memory_of, variable_of}
use Rattle.rich_types.specs.Sizes.{qual_under, size_under, variable_qual, variable_size}
use Rattle.rich_types.specs.WellFormed.{most_words, IsWellFormed}
use Rattle.rich_types.specs.Walks.{below_location, below_variable, outside, walk}
use Rattle.rich_types.specs.Instances.{raise_number, raising, raise, look, found_or, substituting, Substitution, substitution_of, substitution_within, no_substitution}
use Rattle.rich_types_laws.specs.Laws.{AnswerAll, WellFormedInstance}
use Rattle.rich_types_laws.proofs.Composed.{place, raise_in, raise_out, append_past, found, past, seek, look_in, look_out}
use Rattle.rich_types_laws.proofs.Carried.{Keeps, Carries, carried}

-- a scope within another
abbrev pub onto : Scope → Scope → Scope
onto x base = record { locations = x.locations ++ base.locations; variables = x.variables ++ base.variables }

-- as deep as it
abbrev pub depth_of : Scope → Depth
depth_of x = record { locations = length x.locations; variables = length x.variables }

-- a variable stands for what it is bound to
bound_variable : (e : Scope) (n : ℕ) (k : VariableKind) → variable_of e n ≡ Some k → k.size ≤ most_words → Keeps e (Var n) k.qual k.size
bound_variable e n k is few = record {
  form = subst⁻¹ (λ o. IsSomeAnd o (λ (v : VariableKind). v.size ≤ most_words)) is few;
  qual = ap variable_qual is;
  size = ap variable_size is;
}

module _ {A : Type 0} where
  append_front : (xs ys : List A) (n : ℕ) → n < length xs → slice_get (xs ++ ys) n ≡ slice_get xs n
  append_front [] ys n lt = absurd (omega arith)
  append_front (x ∷ xs) ys zero lt = refl
  append_front (x ∷ xs) ys (suc n) lt = append_front xs ys n (omega arith)

  -- past the first list
  append_out : (xs ys : List A) (n far : ℕ) → n ≡ length xs + far → slice_get (xs ++ ys) n ≡ slice_get ys far
  append_out xs ys n far e = ap (λ (k : ℕ). slice_get (xs ++ ys) k) e ∙ append_past xs ys far

  raised_found : (xs more base : List A) (d k n : ℕ) (x : A) → d ≡ length xs → k ≡ length more → slice_get (xs ++ base) n ≡ Some x → slice_get (xs ++ (more ++ base)) (raise_number d k n) ≡ Some x
  raised_found xs more base d k n x ed ek is = elim (place d n) [
    | inl lt ↦ (let l : n < length xs = omega arith in
        ap (λ (i : ℕ). slice_get (xs ++ (more ++ base)) i) (raise_in d k n lt) ∙ append_front xs (more ++ base) n l ∙ sym (append_front xs base n l) ∙ is)
    | inr o ↦ (let le : d ≤ n = omega (arith, o.is) in
        let e : n + k ≡ length xs + (length more + o.far) = omega (arith, o.is) in
        let e0 : n ≡ length xs + o.far = omega (arith, o.is) in
        ap (λ (i : ℕ). slice_get (xs ++ (more ++ base)) i) (raise_out d k n le) ∙ append_out xs (more ++ base) (n + k) (length more + o.far) e ∙ append_past more base o.far
        ∙ sym (append_out xs base n o.far e0) ∙ is)
  ]

-- within the same binders, a scope and that scope below more
record RaisedAt (base more : Scope) (d : Depth) (c e : Scope) : Type 0 where
  pub inner : Scope
  pub locations : d.locations ≡ length inner.locations
  pub variables : d.variables ≡ length inner.variables
  pub from : c ≡ onto inner base
  pub to : e ≡ onto inner (onto more base)

raising_carries : (base more : Scope) → Carries (raising (depth_of more)) (RaisedAt base more)
unfolding below_location below_variable
raising_carries base more = record {
  location = λ d c e at n m is.
      ap (λ (s : Scope). slice_get s.locations (raise_number d.locations (length more.locations) n)) at.to
      ∙ raised_found at.inner.locations more.locations base.locations d.locations (length more.locations) n m at.locations refl (sym (ap (λ (s : Scope). slice_get s.locations n) at.from) ∙ is);
  variable = λ d c e at n k is few.
      bound_variable e (raise_number d.variables (length more.variables) n) k
      (ap (λ (s : Scope). slice_get s.variables (raise_number d.variables (length more.variables) n)) at.to
      ∙ raised_found at.inner.variables more.variables base.variables d.variables (length more.variables) n k at.variables refl (sym (ap (λ (s : Scope). slice_get s.variables n) at.from) ∙ is)) few;
  deeper_location = λ d c e at m. record {
    inner = with_location m at.inner;
    locations = omega (arith, at.locations);
    variables = at.variables;
    from = ap (with_location m) at.from;
    to = ap (with_location m) at.to;
  };
  deeper_variable = λ d c e at q s. record {
    inner = with_variable q s at.inner;
    locations = at.locations;
    variables = omega (arith, at.variables);
    from = ap (with_variable q s) at.from;
    to = ap (with_variable q s) at.to;
  };
}

raised_keeps : (base more : Scope) (t : Ty) → IsWellFormed base t → Keeps (onto more base) (raise (depth_of more) t) (qual_under base t) (size_under base t)
raised_keeps base more t h = carried (raising_carries base more) outside base (onto more base) (record { inner = no_scope; locations = refl; variables = refl; from = refl; to = refl }) t h

-- a substitution answers the innermost binders of a scope
record AnsweredBy (base x : Scope) (g : Substitution) : Type 0 where
  pub locations : length g.locations ≡ length x.locations
  pub variables : length g.variables ≡ length x.variables
  pub location : (n l : ℕ) (m : Mem) → slice_get g.locations n ≡ Some l → slice_get x.locations n ≡ Some m → memory_of base l ≡ Some m
  pub variable : (n : ℕ) (t : Ty) (k : VariableKind) → slice_get g.variables n ≡ Some t → slice_get x.variables n ≡ Some k → IsWellFormed base t × (qual_under base t ≡ k.qual) × (size_under base t ≡ k.size)

found_within : {A : Type 0} (xs : List A) (n : ℕ) (x : A) → slice_get xs n ≡ Some x → n < length xs
found_within [] n x e = cc
found_within (y ∷ xs) zero x e = omega arith
found_within (y ∷ xs) (suc n) x e = let lt = found_within xs n x e in omega arith

-- within the same binders, the scope with these binders and the scope without
record PutAt (base x : Scope) (d : Depth) (c e : Scope) : Type 0 where
  pub inner : Scope
  pub depth : d ≡ depth_of inner
  pub from : c ≡ onto inner (onto x base)
  pub to : e ≡ onto inner base

module _ (base x : Scope) (g : Substitution) (answered : AnsweredBy base x g) where
  put_location : (inner : List Mem) (d n : ℕ) (m : Mem) → d ≡ length inner → slice_get (inner ++ (x.locations ++ base.locations)) n ≡ Some m → slice_get (inner ++ base.locations) (look g.locations (λ l. l + d) (λ i. i) d n) ≡ Some m
  put_location inner d n m ed is = elim (place d n) [
    | inl lt ↦ (let l : n < length inner = omega arith in
        ap (λ (i : ℕ). slice_get (inner ++ base.locations) i) (look_in g.locations (λ l. l + d) (λ i. i) d n lt)
        ∙ append_front inner base.locations n l ∙ sym (append_front inner (x.locations ++ base.locations) n l) ∙ is)
    | inr o ↦ (let e0 : n ≡ length inner + o.far = omega (arith, o.is) in
        let rest : slice_get (x.locations ++ base.locations) o.far ≡ Some m = sym (append_out inner (x.locations ++ base.locations) n o.far e0) ∙ is in
        ap (λ (i : ℕ). slice_get (inner ++ base.locations) i) (look_out g.locations (λ l. l + d) (λ i. i) d n o.far o.is)
        ∙ elim (seek g.locations o.far) [
          | found l at ↦ (let lt : o.far < length x.locations = omega (arith, found_within g.locations o.far l at, answered.locations) in
              let el : l + d ≡ length inner + l = omega arith in
              ap (λ s. slice_get (inner ++ base.locations) (found_or s (λ l'. l' + d) (n - length g.locations))) at
              ∙ append_out inner base.locations (l + d) l el
              ∙ answered.location o.far l m at (sym (append_front x.locations base.locations o.far lt) ∙ rest))
          | past le at ↦ (let e1 : n - length g.locations ≡ length inner + (o.far - length x.locations) = omega (arith, o.is, answered.locations) in
              let e2 : o.far ≡ length x.locations + (o.far - length x.locations) = omega (arith, answered.locations) in
              ap (λ s. slice_get (inner ++ base.locations) (found_or s (λ l'. l' + d) (n - length g.locations))) at
              ∙ append_out inner base.locations (n - length g.locations) (o.far - length x.locations) e1
              ∙ sym (append_out x.locations base.locations o.far (o.far - length x.locations) e2) ∙ rest)
        ])
  ]

  put_variable : (inner : Scope) (n : ℕ) (k : VariableKind) → slice_get (inner.variables ++ (x.variables ++ base.variables)) n ≡ Some k → k.size ≤ most_words → Keeps (onto inner base) ((substituting g).variable (depth_of inner) n) k.qual k.size
  put_variable inner n k is few =
      let d : ℕ = length inner.variables in
      elim (place (length inner.variables) n) [
        | inl lt ↦ subst⁻¹ (λ t. Keeps (onto inner base) t k.qual k.size) (look_in g.variables (λ t. raise (depth_of inner) t) (λ i. Var i) (length inner.variables) n lt)
            (bound_variable (onto inner base) n k (append_front inner.variables base.variables n lt ∙ sym (append_front inner.variables (x.variables ++ base.variables) n lt) ∙ is) few)
        | inr o ↦ (let rest : slice_get (x.variables ++ base.variables) o.far ≡ Some k = sym (append_out inner.variables (x.variables ++ base.variables) n o.far o.is) ∙ is in
            subst⁻¹ (λ t. Keeps (onto inner base) t k.qual k.size) (look_out g.variables (λ t. raise (depth_of inner) t) (λ i. Var i) (length inner.variables) n o.far o.is)
            (elim (seek g.variables o.far) [
              | found t at ↦ (let lt : o.far < length x.variables = omega (arith, found_within g.variables o.far t at, answered.variables) in
                  let a = answered.variable o.far t k at (sym (append_front x.variables base.variables o.far lt) ∙ rest) in
                  let r = raised_keeps base inner t a.0 in
                  subst⁻¹ (λ o'. Keeps (onto inner base) (found_or o' (λ t'. raise (depth_of inner) t') (Var (n - length g.variables))) k.qual k.size) at
                  (record { form = r.form; qual = r.qual ∙ a.1; size = r.size ∙ a.2 }))
              | past le at ↦ (let e1 : n - length g.variables ≡ length inner.variables + (o.far - length x.variables) = omega (arith, o.is, answered.variables) in
                  let e2 : o.far ≡ length x.variables + (o.far - length x.variables) = omega (arith, answered.variables) in
                  subst⁻¹ (λ o'. Keeps (onto inner base) (found_or o' (λ t'. raise (depth_of inner) t') (Var (n - length g.variables))) k.qual k.size) at
                  (bound_variable (onto inner base) (n - length g.variables) k
                  (append_out inner.variables base.variables (n - length g.variables) (o.far - length x.variables) e1 ∙ sym (append_out x.variables base.variables o.far (o.far - length x.variables) e2) ∙ rest) few))
            ]))
      ]

  substituting_carries : Carries (substituting g) (PutAt base x)
  unfolding below_location below_variable
  substituting_carries = record {
    location = λ d c e at n m is.
        ap (λ (s : Scope). slice_get s.locations ((substituting g).location d n)) at.to
        ∙ put_location at.inner.locations d.locations n m (ap (λ (y : Depth). y.locations) at.depth) (sym (ap (λ (s : Scope). slice_get s.locations n) at.from) ∙ is);
    variable = λ d c e at n k is few.
        subst⁻¹ (λ (s : Scope). Keeps s ((substituting g).variable d n) k.qual k.size) at.to
        (subst⁻¹ (λ (y : Depth). Keeps (onto at.inner base) ((substituting g).variable y n) k.qual k.size) at.depth
        (put_variable at.inner n k (sym (ap (λ (s : Scope). slice_get s.variables n) at.from) ∙ is) few));
    deeper_location = λ d c e at m. record {
      inner = with_location m at.inner;
      depth = ap below_location at.depth ∙ (let s : length at.inner.locations + 1 ≡ suc (length at.inner.locations) = omega arith in ap (λ (i : ℕ). record { locations = i; variables = length at.inner.variables }) s);
      from = ap (with_location m) at.from;
      to = ap (with_location m) at.to;
    };
    deeper_variable = λ d c e at q s. record {
      inner = with_variable q s at.inner;
      depth = ap below_variable at.depth ∙ (let h : length at.inner.variables + 1 ≡ suc (length at.inner.variables) = omega arith in ap (λ (i : ℕ). record { locations = length at.inner.locations; variables = i }) h);
      from = ap (with_variable q s) at.from;
      to = ap (with_variable q s) at.to;
    };
  }

  put_keeps : (t : Ty) → IsWellFormed (onto x base) t → Keeps base (walk (substituting g) outside t) (qual_under (onto x base) t) (size_under (onto x base) t)
  put_keeps t h = carried substituting_carries outside (onto x base) base (record { inner = no_scope; depth = refl; from = refl; to = refl }) t h

-- what binders bring in stands within what is around them
within-onto : (bs : List Binder) (x base : Scope) → within bs (onto x base) ≡ onto (within bs x) base
within-onto [] x base = refl
within-onto (Loc m ∷ bs) x base = within-onto bs (with_location m x) base
within-onto (Kind q s ∷ bs) x base = within-onto bs (with_variable q s x) base

-- arguments that answer binders, as a substitution
with_answered_location : (base x : Scope) (g : Substitution) (l : ℕ) (m : Mem) → memory_of base l ≡ Some m → AnsweredBy base x g → AnsweredBy base (with_location m x) (record { locations = l ∷ g.locations; variables = g.variables })
with_answered_location base x g l m is a = record {
  locations = omega (arith, a.locations);
  variables = a.variables;
  location = λ n l' m' at there. first_location n l' m' at there;
  variable = a.variable;
} where
  first_location : (n l' : ℕ) (m' : Mem) → slice_get (l ∷ g.locations) n ≡ Some l' → slice_get (m ∷ x.locations) n ≡ Some m' → memory_of base l' ≡ Some m'
  first_location zero l' m' at there = (let el : l ≡ l' = cc in let em : m ≡ m' = cc in ap (memory_of base) (sym el) ∙ is ∙ ap (λ y. Some y) em)
  first_location (suc n) l' m' at there = a.location n l' m' at there

with_answered_variable : (base x : Scope) (g : Substitution) (t : Ty) (q : Qual) (s : ℕ) → IsWellFormed base t → qual_under base t ≡ q → size_under base t ≡ s → AnsweredBy base x g → AnsweredBy base (with_variable q s x) (record { locations = g.locations; variables = t ∷ g.variables })
with_answered_variable base x g t q s form eq es a = record {
  locations = a.locations;
  variables = omega (arith, a.variables);
  location = a.location;
  variable = λ n t' k at there. first_variable n t' k at there;
} where
  first_variable : (n : ℕ) (t' : Ty) (k : VariableKind) → slice_get (t ∷ g.variables) n ≡ Some t' → slice_get (record { qual = q; size = s } ∷ x.variables) n ≡ Some k → IsWellFormed base t' × (qual_under base t' ≡ k.qual) × (size_under base t' ≡ k.size)
  first_variable zero t' k at there =
      (let et : t ≡ t' = cc in let ek : record { qual = q; size = s } ≡ k = cc in
      (subst (IsWellFormed base) et form, ap (qual_under base) (sym et) ∙ eq ∙ ap (λ (v : VariableKind). v.qual) ek, ap (size_under base) (sym et) ∙ es ∙ ap (λ (v : VariableKind). v.size) ek))
  first_variable (suc n) t' k at there = a.variable n t' k at there

answered_by : (base : Scope) (args : List Arg) (bs : List Binder) (x : Scope) (g : Substitution) → AnswerAll base args bs → AnsweredBy base x g → AnsweredBy base (within bs x) (substitution_within args g)
answered_by base [] [] x g all a = a
answered_by base (arg.Loc l ∷ args) (Loc m ∷ bs) x g all a =
    answered_by base args bs (with_location m x) (record { locations = l ∷ g.locations; variables = g.variables }) all.1 (with_answered_location base x g l m all.0 a)
answered_by base (arg.Given t ∷ args) (Kind q s ∷ bs) x g all a =
    answered_by base args bs (with_variable q s x) (record { locations = g.locations; variables = t ∷ g.variables }) all.1 (with_answered_variable base x g t q s all.0.0 all.0.1.0 all.0.1.1 a)
answered_by base [] (b ∷ bs) x g all a = absurd all
answered_by base (b ∷ args) [] x g all a = absurd all
answered_by base (arg.Loc l ∷ args) (Kind q s ∷ bs) x g all a = absurd all.0
answered_by base (arg.Given t ∷ args) (Loc m ∷ bs) x g all a = absurd all.0

nothing_answered : (base : Scope) → AnsweredBy base no_scope no_substitution
nothing_answered base = record {
  locations = refl;
  variables = refl;
  location = λ n l m at there. cc;
  variable = λ n t k at there. absurd cc;
}

pub well_formed_instance : WellFormedInstance
well_formed_instance c args bs t all h =
    let e : within bs c ≡ onto (scope_of bs) c = within-onto bs no_scope c in
    let r = put_keeps c (scope_of bs) (substitution_of args) (answered_by c args bs no_scope no_substitution all (nothing_answered c)) t (subst (λ s. IsWellFormed s t) e h) in
    (r.form, r.qual ∙ ap (λ s. qual_under s t) (sym e), r.size ∙ ap (λ s. size_under s t) (sym e))
