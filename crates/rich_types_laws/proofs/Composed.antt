-- An instance of an instance is one instance.
use Rattle.std.proofs.Common.{◌≡◌, ℕ, zero, suc, ◌+◌, ◌-◌, ◌<◌, ◌≤◌, List, [], ◌∷◌, ◌++◌, length, map, cond, true, false, Some, None, refl, sym, ap, ◌∙◌, arith, length-append, ◌⊎◌, inl, inr}
use Rattle.std.specs.Prelude.{slice_get}
use Rattle.std.proofs.Math.Dec.{ltb}
use Rattle.std.proofs.lemmas.List.{length-map}
use Rattle.std.proofs.lemmas.Bool.{lt-ltb, le-ltb, ltb-true, ltb-false}
use Rattle.rich_types.specs.declared.depth.Depth.{Depth}
use Rattle.rw_types.specs.declared.types.Ty.{Ty, Var}
use Rattle.rich_types.specs.Walks.{Leaves, walk, below_location, below_variable, outside}
use Rattle.rich_types.specs.Instances.{raise_number, raising, raise, Substitution, found_or, look, substituting}
use Rattle.rich_types_laws.proofs.Walked.{after, walk_walk, Alike, walk_alike}

-- a number is bound within, or stands so far out
pub record Out' (d n : ℕ) : Type 0 where
  pub far : ℕ
  pub is : n ≡ d + far

pub place : (d n : ℕ) → (n < d) ⊎ Out' d n
place d n = elim (ltb n d) as (λ b. ltb n d ≡ b → (n < d) ⊎ Out' d n) [ true ↦ λ e. inl (ltb-true n d e) | false ↦ λ e. (let le : d ≤ n = ltb-false n d e in inr (record { far = n - d; is = omega arith })) ] refl

pub raise_in : (d k n : ℕ) → n < d → raise_number d k n ≡ n
raise_in d k n lt = ap (λ b. cond b n (n + k)) (lt-ltb n d lt)

pub raise_out : (d k n : ℕ) → d ≤ n → raise_number d k n ≡ n + k
raise_out d k n le = ap (λ b. cond b n (n + k)) (le-ltb n d le)

raise_raise : (e c k n : ℕ) → raise_number (e + c) k (raise_number e c n) ≡ raise_number e (c + k) n
raise_raise e c k n = elim (place e n) [
  | inl lt ↦ (let l2 : n < e + c = omega arith in ap (raise_number (e + c) k) (raise_in e c n lt) ∙ raise_in (e + c) k n l2 ∙ sym (raise_in e (c + k) n lt))
  | inr o ↦ (let le : e ≤ n = omega (arith, o.is) in let l2 : e + c ≤ n + c = omega arith in let s : (n + c) + k ≡ n + (c + k) = omega arith in
      ap (raise_number (e + c) k) (raise_out e c n le) ∙ raise_out (e + c) k (n + c) l2 ∙ s ∙ sym (raise_out e (c + k) n le))
]

-- deeper by so many binders
pub record Deeper (k d e : Depth) : Type 0 where
  pub locations : e.locations ≡ d.locations + k.locations
  pub variables : e.variables ≡ d.variables + k.variables

abbrev pub plus : Depth → Depth → Depth
plus d k = record { locations = d.locations + k.locations; variables = d.variables + k.variables }

-- leaves, as they stand below k more binders
abbrev pub shifted : Depth → Leaves → Leaves
shifted k f = record { location = λ d n. f.location (plus d k) n; variable = λ d n. f.variable (plus d k) n }

pub shifted_alike : (k : Depth) (f : Leaves) → Alike (shifted k f) f (λ d e. e ≡ plus d k)
unfolding below_location below_variable
shifted_alike k f = record {
  location = λ d e m n. ap (λ x. f.location x n) (sym m);
  variable = λ d e m n. ap (λ x. f.variable x n) (sym m);
  deeper_location = λ d e m. ap below_location m ∙ (let s : (d.locations + k.locations) + 1 ≡ (d.locations + 1) + k.locations = omega arith in ap (λ (x : ℕ). record { locations = x; variables = d.variables + k.variables }) s);
  deeper_variable = λ d e m. ap below_variable m ∙ (let s : (d.variables + k.variables) + 1 ≡ (d.variables + 1) + k.variables = omega arith in ap (λ (x : ℕ). record { locations = d.locations + k.locations; variables = x }) s);
}

-- leaves that answer alike everywhere
same_alike : (f g : Leaves) → ((d : Depth) (n : ℕ) → f.location d n ≡ g.location d n) → ((d : Depth) (n : ℕ) → f.variable d n ≡ g.variable d n) → Alike f g (λ d e. d ≡ e)
same_alike f g hl hk = record {
  location = λ d e m n. hl d n ∙ ap (λ x. g.location x n) m;
  variable = λ d e m n. hk d n ∙ ap (λ x. g.variable x n) m;
  deeper_location = λ d e m. ap below_location m;
  deeper_variable = λ d e m. ap below_variable m;
}

-- a change below c binders, of what was raised by them
pub walk_raised : (f g : Leaves) (c : Depth) (t : Ty) → ((d : Depth) (n : ℕ) → f.location (plus d c) (raise_number d.locations c.locations n) ≡ g.location d n) → ((d : Depth) (n : ℕ) → f.variable (plus d c) (raise_number d.variables c.variables n) ≡ g.variable d n) → walk f c (raise c t) ≡ walk g outside t
walk_raised f g c t hl hk =
    sym (walk_alike (shifted_alike c f) outside c (let a : c.locations ≡ 0 + c.locations = omega arith in let b : c.variables ≡ 0 + c.variables = omega arith in ap (λ (x : ℕ). record { locations = x; variables = c.variables }) a ∙ ap (λ (x : ℕ). record { locations = 0 + c.locations; variables = x }) b) (raise c t))
    ∙ walk_walk (shifted c f) (raising c) outside t
    ∙ walk_alike (same_alike (after (shifted c f) (raising c)) g hl hk) outside outside refl t

-- raised twice
pub raised_raised : (c k : Depth) (t : Ty) → walk (raising k) c (raise c t) ≡ raise (plus c k) t
raised_raised c k t = walk_raised (raising k) (raising (plus c k)) c t (λ d n. raise_raise d.locations c.locations k.locations n) (λ d n. ap Var (raise_raise d.variables c.variables k.variables n))

-- either found among xs, or past them
pub data Seek {A : Type 0} (xs : List A) (k : ℕ) : Type 0 where
  found : (x : A) → slice_get xs k ≡ Some x → Seek xs k
  past : length xs ≤ k → slice_get xs k ≡ None → Seek xs k

pub seek : {A : Type 0} (xs : List A) (k : ℕ) → Seek xs k
seek [] k = past (omega arith) refl
seek (x ∷ xs) zero = found x refl
seek (x ∷ xs) (suc k) = elim (seek xs k) as (λ s. Seek (x ∷ xs) (suc k)) [ found y e ↦ found y e | past le e ↦ past (omega arith) e ]

module _ {A B : Type 0} where
  pub look_in : (xs : List A) (hit : A → B) (free : ℕ → B) (d n : ℕ) → n < d → look xs hit free d n ≡ free n
  look_in xs hit free d n lt = ap (λ b. cond b (free n) (found_or (slice_get xs (n - d)) hit (free (n - length xs)))) (lt-ltb n d lt)

  pub look_out : (xs : List A) (hit : A → B) (free : ℕ → B) (d n k : ℕ) → n ≡ d + k → look xs hit free d n ≡ found_or (slice_get xs k) hit (free (n - length xs))
  look_out xs hit free d n k e = let le : d ≤ n = omega arith in let s : n - d ≡ k = omega arith in
      ap (λ b. cond b (free n) (found_or (slice_get xs (n - d)) hit (free (n - length xs)))) (le-ltb n d le) ∙ ap (λ (i : ℕ). found_or (slice_get xs i) hit (free (n - length xs))) s

  look_ext : (xs : List A) (hit hit' : A → B) (free : ℕ → B) (d n : ℕ) → ((x : A) → hit x ≡ hit' x) → look xs hit free d n ≡ look xs hit' free d n
  look_ext xs hit hit' free d n h = ap (λ (b : B). cond (ltb n d) (free n) b) (elim (slice_get xs (n - d)) as (λ o. found_or o hit (free (n - length xs)) ≡ found_or o hit' (free (n - length xs))) [ Some x ↦ h x | None ↦ refl ])

  look_raised : (xs : List A) (hit : A → B) (free : ℕ → B) (e c n : ℕ) → look xs hit free (e + c) (raise_number e c n) ≡ look xs hit (λ m. free (raise_number e c m)) e n
  look_raised xs hit free e c n = elim (place e n) [
    | inl lt ↦ (let l2 : n < e + c = omega arith in ap (look xs hit free (e + c)) (raise_in e c n lt) ∙ look_in xs hit free (e + c) n l2 ∙ sym (ap free (raise_in e c n lt)) ∙ sym (look_in xs hit (λ m. free (raise_number e c m)) e n lt))
    | inr o ↦ (let le : e ≤ n = omega (arith, o.is) in let e2 : n + c ≡ (e + c) + o.far = omega (arith, o.is) in
        ap (look xs hit free (e + c)) (raise_out e c n le) ∙ look_out xs hit free (e + c) (n + c) o.far e2
        ∙ elim (seek xs o.far) [
          | found x is ↦ ap (λ s. found_or s hit (free ((n + c) - length xs))) is ∙ sym (ap (λ s. found_or s hit (free (raise_number e c (n - length xs)))) is)
          | past lx is ↦ (let l3 : e ≤ n - length xs = omega (arith, o.is) in let e3 : (n + c) - length xs ≡ (n - length xs) + c = omega (arith, o.is) in
              ap (λ s. found_or s hit (free ((n + c) - length xs))) is ∙ ap free (e3 ∙ sym (raise_out e c (n - length xs) l3)) ∙ sym (ap (λ s. found_or s hit (free (raise_number e c (n - length xs)))) is))
        ]
        ∙ sym (look_out xs hit (λ m. free (raise_number e c m)) e n o.far o.is))
  ]

look_map : {A B C : Type 0} (h : B → C) (xs : List A) (hit : A → B) (free : ℕ → B) (d n : ℕ) → h (look xs hit free d n) ≡ look xs (λ x. h (hit x)) (λ m. h (free m)) d n
look_map h xs hit free d n = elim (ltb n d) as (λ b. h (cond b (free n) (found_or (slice_get xs (n - d)) hit (free (n - length xs)))) ≡ cond b (h (free n)) (found_or (slice_get xs (n - d)) (λ x. h (hit x)) (h (free (n - length xs)))))
    [ true ↦ refl | false ↦ elim (slice_get xs (n - d)) as (λ o. h (found_or o hit (free (n - length xs))) ≡ found_or o (λ x. h (hit x)) (h (free (n - length xs)))) [ Some x ↦ refl | None ↦ refl ] ]

-- what was raised below c binders, and what stands for the binders around them
pub put_raised : (g : Substitution) (c : Depth) (t : Ty) → walk (substituting g) c (raise c t) ≡ raise c (walk (substituting g) outside t)
put_raised g c t =
    walk_raised (substituting g) (after (raising c) (substituting g)) c t
    (λ d n. look_raised g.locations (λ l. l + (d.locations + c.locations)) (λ m. m) d.locations c.locations n
    ∙ look_ext g.locations (λ l. l + (d.locations + c.locations)) (λ l. raise_number d.locations c.locations (l + d.locations)) (λ m. raise_number d.locations c.locations m) d.locations n
    (λ l. let le : d.locations ≤ l + d.locations = omega arith in let s : l + (d.locations + c.locations) ≡ (l + d.locations) + c.locations = omega arith in s ∙ sym (raise_out d.locations c.locations (l + d.locations) le))
    ∙ sym (look_map (raise_number d.locations c.locations) g.locations (λ l. l + d.locations) (λ m. m) d.locations n))
    (λ d n. look_raised g.variables (λ u. raise (plus d c) u) (λ m. Var m) d.variables c.variables n
    ∙ look_ext g.variables (λ u. raise (plus d c) u) (λ u. walk (raising c) d (raise d u)) (λ m. Var (raise_number d.variables c.variables m)) d.variables n (λ u. sym (raised_raised d c u))
    ∙ sym (look_map (λ u. walk (raising c) d u) g.variables (λ u. raise d u) (λ m. Var m) d.variables n))
    ∙ sym (walk_walk (raising c) (substituting g) outside t)

-- the arguments of an instance, below what stands for the binders around it
abbrev pub substitution_under : Substitution → Substitution → Substitution
substitution_under h g = record { locations = map (λ l. (substituting g).location outside l) h.locations ++ g.locations; variables = map (λ t. walk (substituting g) outside t) h.variables ++ g.variables }

pub append_past : {A : Type 0} (xs ys : List A) (k : ℕ) → slice_get (xs ++ ys) (length xs + k) ≡ slice_get ys k
append_past [] ys k = ap (slice_get ys) (omega arith)
append_past (x ∷ xs) ys k = (let s : suc (length xs) + k ≡ suc (length xs + k) = omega arith in ap (slice_get (x ∷ (xs ++ ys))) s) ∙ append_past xs ys k

pub append_found : {A : Type 0} (xs ys : List A) (k : ℕ) (x : A) → slice_get xs k ≡ Some x → slice_get (xs ++ ys) k ≡ Some x
append_found [] ys k x e = cc
append_found (y ∷ xs) ys zero x e = e
append_found (y ∷ xs) ys (suc k) x e = append_found xs ys k x e

map_found : {A B : Type 0} (f : A → B) (xs : List A) (k : ℕ) (x : A) → slice_get xs k ≡ Some x → slice_get (map f xs) k ≡ Some (f x)
map_found f [] k x e = cc
map_found f (y ∷ xs) zero x e = let s : y ≡ x = cc in ap (λ z. Some (f z)) s
map_found f (y ∷ xs) (suc k) x e = map_found f xs k x e

module _ {A B : Type 0} where
  look_append : (f : A → A) (xs ys : List A) (hit : A → B) (free : ℕ → B) (d n : ℕ) → look xs (λ x. hit (f x)) (λ m. look ys hit free d m) d n ≡ look (map f xs ++ ys) hit free d n
  look_append f xs ys hit free d n = elim (place d n) [
    | inl lt ↦ look_in xs (λ x. hit (f x)) (λ m. look ys hit free d m) d n lt ∙ look_in ys hit free d n lt ∙ sym (look_in (map f xs ++ ys) hit free d n lt)
    | inr o ↦ look_out xs (λ x. hit (f x)) (λ m. look ys hit free d m) d n o.far o.is
        ∙ elim (seek xs o.far) [
          | found x is ↦ ap (λ s. found_or s (λ x. hit (f x)) (look ys hit free d (n - length xs))) is ∙ sym (ap (λ s. found_or s hit (free (n - length (map f xs ++ ys)))) (append_found (map f xs) ys o.far (f x) (map_found f xs o.far x is)))
          | past lx is ↦ (let k : ℕ = o.far - length xs in let e1 : n - length xs ≡ d + (o.far - length xs) = omega (arith, o.is) in let e2 : o.far ≡ length (map f xs) + (o.far - length xs) = omega (arith, length-map xs f) in let e3 : (n - length xs) - length ys ≡ n - length (map f xs ++ ys) = omega (arith, length-map xs f, length-append (map f xs) ys) in
              ap (λ s. found_or s (λ x. hit (f x)) (look ys hit free d (n - length xs))) is
              ∙ look_out ys hit free d (n - length xs) (o.far - length xs) e1
              ∙ ap (λ (m : ℕ). found_or (slice_get ys (o.far - length xs)) hit (free m)) e3
              ∙ ap (λ s. found_or s hit (free (n - length (map f xs ++ ys)))) (sym (append_past (map f xs) ys (o.far - length xs)) ∙ ap (slice_get (map f xs ++ ys)) (sym e2)))
        ]
        ∙ sym (look_out (map f xs ++ ys) hit free d n o.far o.is)
  ]

loc_under : (g : Substitution) (e l : ℕ) → look g.locations (λ x. x + e) (λ m. m) e (l + e) ≡ look g.locations (λ x. x + 0) (λ m. m) 0 l + e
loc_under g e l =
    let s0 : l + e ≡ raise_number 0 e l = let z : 0 ≤ l = omega arith in sym (raise_out 0 e l z) in
    let s1 : look g.locations (λ x. x + e) (λ m. m) e (l + e) ≡ look g.locations (λ x. x + e) (λ m. m) (0 + e) (raise_number 0 e l) = ap (look g.locations (λ x. x + e) (λ m. m) e) s0 ∙ (let z : e ≡ 0 + e = omega arith in ap (λ (i : ℕ). look g.locations (λ x. x + e) (λ m. m) i (raise_number 0 e l)) z) in
    s1 ∙ look_raised g.locations (λ x. x + e) (λ m. m) 0 e l
    ∙ look_ext g.locations (λ x. x + e) (λ x. (x + 0) + e) (λ m. raise_number 0 e m) 0 l (λ x. omega arith)
    ∙ sym (look_map (λ y. raise_number 0 e y) g.locations (λ x. x + 0) (λ m. m) 0 l ∙ look_ext g.locations (λ x. raise_number 0 e (x + 0)) (λ x. (x + 0) + e) (λ m. raise_number 0 e m) 0 l (λ x. let z : 0 ≤ x + 0 = omega arith in raise_out 0 e (x + 0) z))
    ∙ (let z : 0 ≤ look g.locations (λ x. x + 0) (λ m. m) 0 l = omega arith in raise_out 0 e _ z)

-- an instance of an instance is one instance
pub put_put : (g h : Substitution) (t : Ty) → walk (substituting g) outside (walk (substituting h) outside t) ≡ walk (substituting (substitution_under h g)) outside t
put_put g h t =
    walk_walk (substituting g) (substituting h) outside t
    ∙ walk_alike (same_alike (after (substituting g) (substituting h)) (substituting (substitution_under h g))
    (λ d n. look_map (λ m. (substituting g).location d m) h.locations (λ l. l + d.locations) (λ m. m) d.locations n
    ∙ look_ext h.locations (λ l. (substituting g).location d (l + d.locations)) (λ l. (substituting g).location outside l + d.locations) (λ m. (substituting g).location d m) d.locations n (λ l. loc_under g d.locations l)
    ∙ look_append (λ l. (substituting g).location outside l) h.locations g.locations (λ l. l + d.locations) (λ m. m) d.locations n)
    (λ d n. look_map (λ u. walk (substituting g) d u) h.variables (λ u. raise d u) (λ m. Var m) d.variables n
    ∙ look_ext h.variables (λ u. walk (substituting g) d (raise d u)) (λ u. raise d (walk (substituting g) outside u)) (λ m. (substituting g).variable d m) d.variables n (λ u. put_raised g d u)
    ∙ look_append (λ u. walk (substituting g) outside u) h.variables g.variables (λ u. raise d u) (λ m. Var m) d.variables n)) outside outside refl t
