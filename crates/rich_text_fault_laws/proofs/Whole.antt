-- Texts whose tokens are alike up to a place have the same first fault, where it stands at that place.
use Rattle.std.proofs.Common.{◌≡◌, ◌∙◌, ℕ, zero, suc, ◌+◌, ◌-◌, ◌<◌, ◌≤◌, true, List, [], ◌∷◌, ◌++◌, length, refl, sym, ap, subst, inl, inr, arith, length-append, Result, Ok, Err}
use Rattle.std.specs.Prelude.{◌==◌, ◌⊎◌}
use Rattle.std.proofs.lemmas.Bool.{cond-true, cond-false, eq-eqb, ne_eqb}
use Rattle.rw_types.specs.declared.modules.Module.{Module}
use Rattle.rich_text.specs.Forms.{Form, qualifier_form, memory_form, privilege_form, type_form, types_form, pretype_form, heap_form, slot_form, function_type_form, binder_form, binders_form, local_form, local_types_form, locals_form, instruction_form, argument_form, arm_form, then_form, else_form, function_form, export_form, import_form, global_form, mutability_form, version_form, module_form}
use Rattle.rich_text.specs.Tokens.{Token, Fault, BadUtf8, BadToken, TooDeep, NumberOut, BadForm, Unended, nesting_limit}
use Rattle.rich_text.specs.Places.{Place, the_start}
use Rattle.rich_text.specs.Lexing.{Lexed, InBlank, lexed}
use Rattle.rich_text.specs.Grammars.{a_form}
use Rattle.rich_text.specs.Reading.{Stop, Reader, read_part}
use Rattle.rich_text.specs.FirstVersion.{first_version}
use Rattle.rich_text.specs.Texts.{Found, third, place_of, found, nothing_behind, whole, reading_tokens, if_encoded}
use Rattle.rich_text_fault_laws.specs.Laws.{NothingBehindTokenCounts}
use Rattle.rich_text_fault_laws.proofs.Order.{Apart}
use Rattle.rich_text_fault_laws.proofs.Lexers.{behind, NoneAt, Clear, Alike, alike}
use Rattle.rich_text_fault_laws.proofs.Versions.{by_token}
use Rattle.rich_text_fault_laws.proofs.Readers.{Read, Leaves, Shared, value, fault, beyond, Steady, IsListed, rows_listed, plain_listed, steady}

abbrev read_module : Reader Module
read_module = read_part first_version nesting_limit (a_form module_form)

of_version : (l : Lexed) → reading_tokens l ≡ whole l (read_module l.tokens)
of_version l = ap (λ G. whole l (read_part G nesting_limit (a_form module_form) l.tokens)) (by_token (third l.tokens))

listed : IsListed first_version
listed = record { rows = rows; plain = plain }
  where
    rows : (s : Form) → rows_listed first_version (first_version s).heads ≡ true
    rows qualifier_form = refl
    rows memory_form = refl
    rows privilege_form = refl
    rows type_form = refl
    rows types_form = refl
    rows pretype_form = refl
    rows heap_form = refl
    rows slot_form = refl
    rows function_type_form = refl
    rows binder_form = refl
    rows binders_form = refl
    rows local_form = refl
    rows local_types_form = refl
    rows locals_form = refl
    rows instruction_form = refl
    rows argument_form = refl
    rows arm_form = refl
    rows then_form = refl
    rows else_form = refl
    rows function_form = refl
    rows export_form = refl
    rows import_form = refl
    rows global_form = refl
    rows mutability_form = refl
    rows version_form = refl
    rows module_form = refl

    plain : (s : Form) → plain_listed first_version (first_version s).plain ≡ true
    plain qualifier_form = refl
    plain memory_form = refl
    plain privilege_form = refl
    plain type_form = refl
    plain types_form = refl
    plain pretype_form = refl
    plain heap_form = refl
    plain slot_form = refl
    plain function_type_form = refl
    plain binder_form = refl
    plain binders_form = refl
    plain local_form = refl
    plain local_types_form = refl
    plain locals_form = refl
    plain instruction_form = refl
    plain argument_form = refl
    plain arm_form = refl
    plain then_form = refl
    plain else_form = refl
    plain function_form = refl
    plain export_form = refl
    plain import_form = refl
    plain global_form = refl
    plain mutability_form = refl
    plain version_form = refl
    plain module_form = refl

module_steady : Steady read_module
module_steady = (steady first_version listed nesting_limit).part (a_form module_form)

-- ---- places of tokens

abbrev tokens_in : List (Token × Place) → List Token
tokens_in [] = []
tokens_in (t ∷ ts) = t.0 ∷ tokens_in ts

tokens_behind : (ts : List (Token × Place)) (l : Lexed) → (behind ts l).tokens ≡ tokens_in ts ++ l.tokens
tokens_behind [] l = refl
tokens_behind (t ∷ ts) l = ap (λ us. t.0 ∷ us) (tokens_behind ts l)

end_behind : (ts : List (Token × Place)) (l : Lexed) → (behind ts l).at ≡ l.at
end_behind [] l = refl
end_behind (t ∷ ts) l = end_behind ts l

ending_behind : (ts : List (Token × Place)) (l : Lexed) → (behind ts l).ending ≡ l.ending
ending_behind [] l = refl
ending_behind (t ∷ ts) l = ending_behind ts l

-- a token of the front has its place whatever stands behind
place_in_front : (ts : List (Token × Place)) (l m : Lexed) (n : ℕ) → n < length (tokens_in ts) → place_of (behind ts l).places n (behind ts l).at ≡ place_of (behind ts m).places n (behind ts m).at
place_in_front [] l m n h = absurd (omega (arith, h))
place_in_front (t ∷ ts) l m zero h = refl
place_in_front (t ∷ ts) l m (suc n) h = place_in_front ts l m n (omega (arith, h))

module _ (p : Place) where
  clear_place : (ps : List Place) (at : Place) (n : ℕ) → NoneAt p ps → Apart p at → Apart p (place_of ps n at)
  clear_place [] at n h g = g
  clear_place (q ∷ ps) at zero h g = h.0
  clear_place (q ∷ ps) at (suc n) h g = clear_place ps at n h.1 g

  clear_behind : (ts : List (Token × Place)) (l : Lexed) (n : ℕ) → length (tokens_in ts) ≤ n → Clear p l → Apart p (place_of (behind ts l).places n (behind ts l).at)
  clear_behind [] l n h c = clear_place l.places l.at n c.places c.at
  clear_behind (t ∷ ts) l zero h c = absurd (omega (arith, h))
  clear_behind (t ∷ ts) l (suc n) h c = clear_behind ts l n (omega (arith, h)) c

  clear_end : (ts : List (Token × Place)) (l : Lexed) → Clear p l → Apart p (behind ts l).at
  clear_end ts l c = subst (λ q. Apart p q) (sym (end_behind ts l)) c.at

-- ---- faults of tokens that are alike

err_same : (e f : Found) → ◌≡◌ {A = Result Module Found} (Err e) (Err f) → e ≡ f
err_same e f h = cc

-- found at the token of this number, or at the tokens' end
at_token : (l : Lexed) (why : Fault) (n k : ℕ) → 0 < n → length l.tokens ≡ k + n → found l (record { fault = why; left = n }) ≡ record { fault = why; at = place_of l.places k l.at }
at_token l why n k p h =
    cond-false (n == 0) _ _ (ne_eqb n 0 (λ e. absurd (omega (arith, e, p))))
    ∙ ap (λ i. let f : Found = record { fault = why; at = place_of l.places i l.at } in f) (let e : length l.tokens - n ≡ k = omega (arith, h) in e)

at_end : (l : Lexed) (e : Stop) → e.left ≡ 0 → found l e ≡ record { fault = l.ending; at = l.at }
at_end l e h = cond-true (e.left == 0) _ _ (eq-eqb e.left 0 h)

-- a token behind the module
some_behind : (l : Lexed) (v : Module) (t : Token) (ts : List Token) (why : Fault) → nothing_behind l v (t ∷ ts) why ≡ Err (found l (record { fault = BadForm; left = length (t ∷ ts) }))
some_behind l v t ts BadUtf8 = refl
some_behind l v t ts BadToken = refl
some_behind l v t ts TooDeep = refl
some_behind l v t ts NumberOut = refl
some_behind l v t ts BadForm = refl
some_behind l v t ts Unended = refl

module _ (p : Place) (ts : List (Token × Place)) (l m : Lexed) where
  abbrev front : List Token
  front = tokens_in ts

  -- a fault in the front has its place in both
  front_found : (why : Fault) (n : ℕ) → 0 < n → n ≤ length front →
      found (behind ts l) (record { fault = why; left = n + length l.tokens }) ≡ found (behind ts m) (record { fault = why; left = n + length m.tokens })
  front_found why n h g =
      let k : ℕ = length front - n in
      let counted : (o : Lexed) → length (behind ts o).tokens ≡ k + (n + length o.tokens) = λ o. ap length (tokens_behind ts o) ∙ length-append front o.tokens ∙ (let e : length front + length o.tokens ≡ length front - n + (n + length o.tokens) = omega (arith, g) in e) in
      at_token (behind ts l) why (n + length l.tokens) k (omega (arith, h)) (counted l)
      ∙ ap (λ q. let f : Found = record { fault = why; at = q } in f) (place_in_front ts l m k (let e : length front - n < length front = omega (arith, g, h) in e))
      ∙ sym (at_token (behind ts m) why (n + length m.tokens) k (omega (arith, h)) (counted m))

  -- and one behind it is not found at the place
  clear_found : Clear p l → (e : Stop) → e.left ≤ length l.tokens → Apart p (found (behind ts l) e).at
  clear_found c e h = by_left e.left refl
    where
      by_left : (n : ℕ) → e.left ≡ n → Apart p (found (behind ts l) e).at
      by_left zero i = subst (λ f. Apart p f.at) (sym (at_end (behind ts l) e i)) (clear_end p ts l c)
      by_left (suc n) i =
          let all : length (behind ts l).tokens ≡ length front + length l.tokens = ap length (tokens_behind ts l) ∙ length-append front l.tokens in
          let k : ℕ = length (behind ts l).tokens - e.left in
          let far : length front ≤ length (behind ts l).tokens - e.left = omega (arith, h, all) in
          let counted : length (behind ts l).tokens ≡ length (behind ts l).tokens - e.left + e.left = omega (arith, h, all) in
          subst (λ f. Apart p f.at) (sym (at_token (behind ts l) e.fault e.left k (omega (arith, i)) counted)) (clear_behind p ts l k far c)

  -- nothing stands behind a module, or what does is found
  behind_clear : Clear p l → (v : Module) (us : List Token) (why : Fault) (e : Found) → length us ≤ length l.tokens → nothing_behind (behind ts l) v us why ≡ Err e → Apart p e.at
  behind_clear c v (u ∷ us) why e h g = subst (λ f. Apart p f.at) (err_same _ e (sym (some_behind (behind ts l) v u us why) ∙ g)) (clear_found c (record { fault = BadForm; left = length (u ∷ us) }) h)
  behind_clear c v [] BadUtf8 e h g = subst (λ f. Apart p f.at) (err_same _ e g) (clear_end p ts l c)
  behind_clear c v [] BadToken e h g = subst (λ f. Apart p f.at) (err_same _ e g) (clear_end p ts l c)
  behind_clear c v [] TooDeep e h g = subst (λ f. Apart p f.at) (err_same _ e g) (clear_end p ts l c)
  behind_clear c v [] NumberOut e h g = subst (λ f. Apart p f.at) (err_same _ e g) (clear_end p ts l c)
  behind_clear c v [] BadForm e h g = subst (λ f. Apart p f.at) (err_same _ e g) (clear_end p ts l c)
  behind_clear c v [] Unended e h g = absurd (cc g)

  -- what is read of both
  read_alike : Clear p l → (x y : Read Module) → Shared front l.tokens m.tokens x y → (e : Found) → whole (behind ts l) x ≡ Err e → e.at ≡ p → whole (behind ts m) y ≡ Err e
  read_alike c x y (value v [] n f g) e h q =
      absurd (behind_clear c v l.tokens (behind ts l).ending e (omega arith) (sym (ap (whole (behind ts l)) f) ∙ h) (sym q))
  read_alike c x y (value v (t ∷ rest) n f g) e h q =
      let left : (o : Lexed) → whole (behind ts o) (Ok (v, t ∷ (rest ++ o.tokens))) ≡ Err (found (behind ts o) (record { fault = BadForm; left = suc (length rest) + length o.tokens })) = λ o.
      some_behind (behind ts o) v t (rest ++ o.tokens) (behind ts o).ending
      ∙ ap (λ i. let r : Result Module Found = Err (found (behind ts o) (record { fault = BadForm; left = i })) in r) (let e : suc (length (rest ++ o.tokens)) ≡ suc (length rest) + length o.tokens = omega (arith, length-append rest o.tokens) in e) in
      ap (whole (behind ts m)) g ∙ left m
      ∙ ap (λ i. let r : Result Module Found = Err i in r) (sym (front_found BadForm (suc (length rest)) (omega arith) n))
      ∙ sym (left l) ∙ sym (ap (whole (behind ts l)) f) ∙ h
  read_alike c x y (fault why n i j f g) e h q =
      ap (whole (behind ts m)) g
      ∙ ap (λ i. let r : Result Module Found = Err i in r) (sym (front_found why n i j))
      ∙ sym (ap (whole (behind ts l)) f) ∙ h
  read_alike c x y (beyond k) e h q = absurd (not_beyond x k h)
    where
      not_beyond : (x : Read Module) → Leaves (length l.tokens) x → whole (behind ts l) x ≡ Err e → ⊥
      not_beyond (Ok r) k h = behind_clear c r.0 r.1 (behind ts l).ending e k h (sym q)
      not_beyond (Err s) k h = subst (λ f. Apart p f.at) (err_same (found (behind ts l) s) e h) (clear_found c s k) (sym q)

  module_alike : Clear p l → (e : Found) → whole (behind ts l) (read_module (behind ts l).tokens) ≡ Err e → e.at ≡ p → whole (behind ts m) (read_module (behind ts m).tokens) ≡ Err e
  module_alike c e h q =
      ap (λ us. whole (behind ts m) (read_module us)) (tokens_behind ts m)
      ∙ read_alike c (read_module (front ++ l.tokens)) (read_module (front ++ m.tokens)) (module_steady.shares front l.tokens m.tokens) e
      (sym (ap (λ us. whole (behind ts l) (read_module us)) (tokens_behind ts l)) ∙ h) q

-- lexed texts that are alike up to a place
lexed_alike : (p : Place) (l m : Lexed) → Alike p l m → (e : Found) → whole l (read_module l.tokens) ≡ Err e → e.at ≡ p → whole m (read_module m.tokens) ≡ Err e
lexed_alike p l m k e h q = by_rest k.rest
  where
    by_rest : ((k.left ≡ k.right) ⊎ Clear p k.left) → whole m (read_module m.tokens) ≡ Err e
    by_rest (inl same) = ap (λ o. whole o (read_module o.tokens)) (k.second ∙ ap (behind k.shared) (sym same) ∙ sym k.first) ∙ h
    by_rest (inr clear) =
        ap (λ o. whole o (read_module o.tokens)) k.second
        ∙ module_alike p k.shared k.left k.right clear e (sym (ap (λ o. whole o (read_module o.tokens)) k.first) ∙ h) q

pub nothing_behind_token_counts : NothingBehindTokenCounts
nothing_behind_token_counts front shown back other e h q s t a b =
    let text = front ++ (shown ++ back) in
    let instead = front ++ (shown ++ other) in
    let tokens : whole (lexed text) (read_module (lexed text).tokens) ≡ Err e = sym (of_version (lexed text)) ∙ sym (ap (λ o. if_encoded o (reading_tokens (lexed text))) a) ∙ h in
    ap (λ o. if_encoded o (reading_tokens (lexed instead))) b
    ∙ of_version (lexed instead)
    ∙ lexed_alike e.at (lexed text) (lexed instead) (alike e.at back other shown front InBlank the_start 0 q tt s t) e tokens refl
