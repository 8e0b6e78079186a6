-- What stands for binders within others, number by number.
use Rattle.std.proofs.Common.{◌≡◌, ◌≤◌, ◌<◌, ◌∙◌, ℕ, zero, suc, ◌+◌, ◌-◌, List, [], ◌∷◌, ◌++◌, length, Option, None, refl, sym, ap, arith, length-append, inl, inr}
use Rattle.std.specs.Prelude.{slice_get}
use Rattle.rw_types.specs.declared.types.Ty.{Ty, Var}
use Rattle.rich_types.specs.declared.depth.Depth.{Depth}
use Rattle.rich_types.specs.Walks.{Leaves, walk, below_location, below_variable, outside}
use Rattle.rich_types.specs.Instances.{raise_number, raising, raise, Substitution, found_or, look, substituting}
use Rattle.rich_types_laws.proofs.Walked.{after, walk_walk, Alike, walk_alike}
use Rattle.rich_types_laws.proofs.Composed.{place, raise_in, raise_out, plus, shifted, shifted_alike, raised_raised, found, past, seek, look_in, look_out, append_past, append_found, put_put}
use Rattle.rich_types_laws.proofs.Unchanged.{unchanged}
use Rattle.rich_soundness_values.specs.Heaps.{at}
use Rattle.rich_soundness_binders.specs.Laws.{onto, depth_of, RaisedStays, BodiesStand, InstancesStand}

-- leaves that answer alike everywhere
same_alike : (f g : Leaves) → ((d : Depth) (n : ℕ) → f.location d n ≡ g.location d n) → ((d : Depth) (n : ℕ) → f.variable d n ≡ g.variable d n) → Alike f g (λ d e. d ≡ e)
same_alike f g hl hk = record {
  location = λ d e m n. hl d n ∙ ap (λ x. g.location x n) m;
  variable = λ d e m n. hk d n ∙ ap (λ x. g.variable x n) m;
  deeper_location = λ d e m. ap below_location m;
  deeper_variable = λ d e m. ap below_variable m;
}

past_none : {A : Type 0} (xs : List A) (n : ℕ) → length xs ≤ n → slice_get xs n ≡ None
past_none [] n le = refl
past_none (x ∷ xs) zero le = absurd (omega arith)
past_none (x ∷ xs) (suc n) le = past_none xs n (omega arith)

module _ {A B : Type 0} where
  -- a number past what stands for binders
  look_past : (xs : List A) (hit : A → B) (free : ℕ → B) (d n : ℕ) → d + length xs ≤ n → look xs hit free d n ≡ free (n - length xs)
  look_past xs hit free d n le =
      let e : n ≡ d + (n - d) = omega arith in
      let l : length xs ≤ n - d = omega arith in
      look_out xs hit free d n (n - d) e ∙ ap (λ (o : Option A). found_or o hit (free (n - length xs))) (past_none xs (n - d) l)

  -- a number that was raised past them
  look_gone : (xs : List A) (hit : A → B) (free : ℕ → B) (d n : ℕ) → look xs hit free d (raise_number d (length xs) n) ≡ free n
  look_gone xs hit free d n = elim (place d n) [
    | inl lt ↦ ap (look xs hit free d) (raise_in d (length xs) n lt) ∙ look_in xs hit free d n lt
    | inr o ↦ (let le : d ≤ n = omega (arith, o.is) in
        let l : d + length xs ≤ n + length xs = omega arith in
        let e : (n + length xs) - length xs ≡ n = omega arith in
        ap (look xs hit free d) (raise_out d (length xs) n le) ∙ look_past xs hit free d (n + length xs) l ∙ ap free e)
  ]

  -- and is looked up in what stands around
  look_skip : (xs ys : List A) (hit : A → B) (free : ℕ → B) (d n : ℕ) → look (xs ++ ys) hit free d (raise_number d (length xs) n) ≡ look ys hit free d n
  look_skip xs ys hit free d n = elim (place d n) [
    | inl lt ↦ ap (look (xs ++ ys) hit free d) (raise_in d (length xs) n lt) ∙ look_in (xs ++ ys) hit free d n lt ∙ sym (look_in ys hit free d n lt)
    | inr o ↦ (let le : d ≤ n = omega (arith, o.is) in
        let e : n + length xs ≡ d + (length xs + o.far) = omega (arith, o.is) in
        let f : (n + length xs) - length (xs ++ ys) ≡ n - length ys = omega (arith, length-append xs ys) in
        ap (look (xs ++ ys) hit free d) (raise_out d (length xs) n le)
        ∙ look_out (xs ++ ys) hit free d (n + length xs) (length xs + o.far) e
        ∙ ap (λ (s : Option A). found_or s hit (free ((n + length xs) - length (xs ++ ys)))) (append_past xs ys o.far)
        ∙ ap (λ (m : ℕ). found_or (slice_get ys o.far) hit (free m)) f
        ∙ sym (look_out ys hit free d n o.far o.is))
  ]

  -- a number within both
  look_front : (xs ys : List A) (hit : A → B) (free : ℕ → B) (d n : ℕ) → n < d + length xs → look xs hit free d n ≡ look (xs ++ ys) hit free d n
  look_front xs ys hit free d n lt = elim (place d n) [
    | inl l ↦ look_in xs hit free d n l ∙ sym (look_in (xs ++ ys) hit free d n l)
    | inr o ↦ look_out xs hit free d n o.far o.is
        ∙ elim (seek xs o.far) [
          | found x is ↦ ap (λ (s : Option A). found_or s hit (free (n - length xs))) is ∙ sym (ap (λ (s : Option A). found_or s hit (free (n - length (xs ++ ys)))) (append_found xs ys o.far x is))
          | past le is ↦ absurd (omega (arith, o.is))
        ]
        ∙ sym (look_out (xs ++ ys) hit free d n o.far o.is)
  ]

-- what is looked up around, and then within
look_within : {A B C : Type 0} (h : C → B) (xs ys : List A) (near : A → C) (inner : ℕ → C) (hit : A → B) (free : ℕ → B) (d n : ℕ) → ((x : A) → h (near x) ≡ hit x) → ((m : ℕ) → h (inner m) ≡ look xs hit free d m) → h (look ys near inner (d + length xs) n) ≡ look (xs ++ ys) hit free d n
look_within {A} {B} {C} h xs ys near inner hit free d n hn hi = elim (place (d + length xs) n) [
  | inl lt ↦ ap h (look_in ys near inner (d + length xs) n lt) ∙ hi n ∙ look_front xs ys hit free d n lt
  | inr o ↦ (let e : n ≡ d + (length xs + o.far) = omega (arith, o.is) in
      ap h (look_out ys near inner (d + length xs) n o.far o.is)
      ∙ elim (seek ys o.far) [
        | found x is ↦ ap (λ (s : Option A). h (found_or s near (inner (n - length ys)))) is ∙ hn x ∙ sym (ap (λ (s : Option A). found_or s hit (free (n - length (xs ++ ys)))) is)
        | past le is ↦ (let l : d + length xs ≤ n - length ys = omega (arith, o.is) in
            let f : (n - length ys) - length xs ≡ n - length (xs ++ ys) = omega (arith, length-append xs ys) in
            ap (λ (s : Option A). h (found_or s near (inner (n - length ys)))) is ∙ hi (n - length ys) ∙ look_past xs hit free d (n - length ys) l ∙ ap free f
            ∙ sym (ap (λ (s : Option A). found_or s hit (free (n - length (xs ++ ys)))) is))
      ]
      ∙ sym (ap (λ (s : Option A). found_or s hit (free (n - length (xs ++ ys)))) (append_past xs ys o.far))
      ∙ sym (look_out (xs ++ ys) hit free d n (length xs + o.far) e))
]

pub raised_stays : RaisedStays
raised_stays s g d t =
    walk_walk (substituting (onto s g)) (raising (depth_of s)) d t
    ∙ walk_alike (same_alike (after (substituting (onto s g)) (raising (depth_of s))) (substituting g)
    (λ e n. look_skip s.locations g.locations (λ l. l + e.locations) (λ m. m) e.locations n)
    (λ e n. look_skip s.variables g.variables (λ u. raise e u) (λ m. Var m) e.variables n)) d d refl t

-- what was raised past binders, and further out
gone : (s : Substitution) (d : Depth) (t : Ty) → walk (substituting s) d (raise (plus d (depth_of s)) t) ≡ raise d t
gone s d t =
    ap (walk (substituting s) d) (sym (raised_raised d (depth_of s) t))
    ∙ walk_walk (substituting s) (raising (depth_of s)) d (raise d t)
    ∙ unchanged (after (substituting s) (raising (depth_of s))) (record {
      location = λ e n. look_gone s.locations (λ l. l + e.locations) (λ m. m) e.locations n;
      variable = λ e n. look_gone s.variables (λ u. raise e u) (λ m. Var m) e.variables n;
    }) d (raise d t)

meets : (k : Depth) → k ≡ plus outside k
meets k = let a : k.locations ≡ 0 + k.locations = omega arith in let b : k.variables ≡ 0 + k.variables = omega arith in
    ap (λ (x : ℕ). record { locations = x; variables = k.variables }) a ∙ ap (λ (x : ℕ). record { locations = 0 + k.locations; variables = x }) b

pub bodies_stand : BodiesStand
bodies_stand s g t =
    ap (at s) (sym (walk_alike (shifted_alike (depth_of s) (substituting g)) outside (depth_of s) (meets (depth_of s)) t))
    ∙ walk_walk (substituting s) (shifted (depth_of s) (substituting g)) outside t
    ∙ walk_alike (same_alike (after (substituting s) (shifted (depth_of s) (substituting g))) (substituting (onto s g))
    (λ d n. look_within (λ m. (substituting s).location d m) s.locations g.locations (λ l. l + (d.locations + length s.locations)) (λ m. m) (λ l. l + d.locations) (λ m. m) d.locations n
    (λ l. let le : d.locations + length s.locations ≤ l + (d.locations + length s.locations) = omega arith in let e : (l + (d.locations + length s.locations)) - length s.locations ≡ l + d.locations = omega arith in
    look_past s.locations (λ k. k + d.locations) (λ m. m) d.locations (l + (d.locations + length s.locations)) le ∙ e)
    (λ m. refl))
    (λ d n. look_within (λ u. walk (substituting s) d u) s.variables g.variables (λ u. raise (plus d (depth_of s)) u) (λ m. Var m) (λ u. raise d u) (λ m. Var m) d.variables n (λ u. gone s d u) (λ m. refl))) outside outside refl t

pub instances_stand : InstancesStand
instances_stand s g t = put_put g s t
