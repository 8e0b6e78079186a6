-- Steps one after another: where each comes to one answer at most, they do together; where each comes to some, they do.
use Rattle.std.specs.Prelude.{◌&&◌}
use Rattle.std.specs.List.{list_all}
use Rattle.std.proofs.Common.{◌≡◌, inl, inr, Bool, true, false, List, [], ◌∷◌, refl, ap, sym, ◌∙◌, subst, Ok, Err}
use Rattle.std.specs.declared.result.Result.{Result}
use Rattle.rwc_reports.specs.Steps.{Refused, Then, goes_on, stops, Onward, EachLeads, FirstRefused, IsOneOf}

pub same_value : {A : Type 0} (a b : A) → (let r : Result A Refused = Ok a in r) ≡ Ok b → a ≡ b
same_value a b e = cc

pub same_refused : {A : Type 0} (a b : Refused) → (let r : Result A Refused = Err a in r) ≡ Err b → a ≡ b
same_refused a b e = cc

pub not_both : {A : Type 0} (a : A) (b : Refused) → (let r : Result A Refused = Ok a in r) ≡ Err b → ⊥
not_both a b e = cc

pub one_then : {A T : Type 0} (comes : Refused → T) (First : Result A Refused → Type 0) (Next : A → T → Type 0) →
    ((r s : Result A Refused) → First r → First s → r ≡ s) → ((value : A) → First (Ok value) → (a b : T) → Next value a → Next value b → a ≡ b) →
    (a b : T) → Then comes First Next a → Then comes First Next b → a ≡ b
one_then comes First Next one more a b (goes_on x f n) (goes_on y g k) = more x f a b n (subst (λ v. Next v b) (sym (same_value x y (one (Ok x) (Ok y) f g))) k)
one_then comes First Next one more a b (goes_on x f n) (stops q g e) = absurd (not_both x q (one (Ok x) (Err q) f g))
one_then comes First Next one more a b (stops p f e) (goes_on y g k) = absurd (not_both y p (one (Ok y) (Err p) g f))
one_then comes First Next one more a b (stops p f e) (stops q g d) = e ∙ ap comes (same_refused p q (one (Err p) (Err q) f g)) ∙ sym d

pub some_then : {A T : Type 0} (comes : Refused → T) (First : Result A Refused → Type 0) (Next : A → T → Type 0) →
    ((r : Result A Refused) × First r) → ((value : A) → First (Ok value) → (t : T) × Next value t) → (t : T) × Then comes First Next t
some_then comes First Next (Ok value, f) more = let n = more value f in (n.0, goes_on value f n.1)
some_then comes First Next (Err refused, f) more = (comes refused, stops refused f refl)

pub one_each : {A B : Type 0} (Step : A → Result B Refused → Type 0) → ((x : A) (r s : Result B Refused) → Step x r → Step x s → r ≡ s) →
    (xs : List A) (r s : Result (List (A × B)) Refused) → EachLeads Step xs r → EachLeads Step xs s → r ≡ s
one_each Step one [] r s a b = a ∙ sym b
one_each {A} {B} Step one (x ∷ xs) r s a b =
    one_then (λ refused. Err refused) (Step x) (λ value. Onward (EachLeads Step xs) (λ values t. t ≡ Ok ((x, value) ∷ values))) (one x)
    (λ value f. one_then (λ refused. Err refused) (EachLeads Step xs) (λ values t. t ≡ Ok ((x, value) ∷ values)) (one_each Step one xs) (λ values g p q m n. m ∙ sym n)) r s a b

pub some_each : {A B : Type 0} (Step : A → Result B Refused → Type 0) → ((x : A) → (r : Result B Refused) × Step x r) → (xs : List A) → (r : Result (List (A × B)) Refused) × EachLeads Step xs r
some_each Step some [] = (Ok [], refl)
some_each Step some (x ∷ xs) =
    some_then (λ refused. Err refused) (Step x) (λ value. Onward (EachLeads Step xs) (λ values t. t ≡ Ok ((x, value) ∷ values))) (some x)
    (λ value f. some_then (λ refused. Err refused) (EachLeads Step xs) (λ values t. t ≡ Ok ((x, value) ∷ values)) (some_each Step some xs) (λ values g. (Ok ((x, value) ∷ values), refl)))

-- one item alone
pub record OneValue {A B : Type 0} (Step : A → Result B Refused → Type 0) (x : A) (values : List (A × B)) : Type 0 where
  pub value : B
  pub is : Step x (Ok value)
  pub are : values ≡ (x, value) ∷ []

pub value_of_one : {A B : Type 0} (Step : A → Result B Refused → Type 0) (x : A) (values : List (A × B)) → EachLeads Step (x ∷ []) (Ok values) → OneValue Step x values
value_of_one Step x values (goes_on value f (goes_on none g e)) =
    record { value = value; is = f; are = same_value values ((x, value) ∷ none) e ∙ ap (λ more. (x, value) ∷ more) (same_value none [] g) }
value_of_one Step x values (goes_on value f (stops p g e)) = absurd (not_both values p e)
value_of_one Step x values (stops p f e) = absurd (not_both values p e)

pub one_value : {A B : Type 0} (Step : A → Result B Refused → Type 0) (x : A) (value : B) → Step x (Ok value) → EachLeads Step (x ∷ []) (Ok ((x, value) ∷ []))
one_value Step x value f = goes_on value f (goes_on [] refl refl)

pub one_refused : {A B : Type 0} (Step : A → Result B Refused → Type 0) (x : A) (refused : Refused) → Step x (Err refused) → EachLeads Step (x ∷ []) (Err refused)
one_refused Step x refused f = stops refused f refl

-- a list that is refused has a first item that is
pub first_refused : {A B : Type 0} (Step : A → Result B Refused → Type 0) (xs : List A) (refused : Refused) → EachLeads Step xs (Err refused) → FirstRefused Step xs refused
first_refused Step [] refused e = absurd (not_both [] refused (sym e))
first_refused Step (x ∷ xs) refused (stops p f e) =
    record { before = []; at = x; after = xs; split = refl; values = []; passed = refl; is = subst (λ q. Step x (Err q)) (sym (same_refused refused p e)) f }
first_refused Step (x ∷ xs) refused (goes_on value f (goes_on values g e)) = absurd (not_both ((x, value) ∷ values) refused (sym e))
first_refused Step (x ∷ xs) refused (goes_on value f (stops p g e)) =
    let first = first_refused Step xs refused (subst (λ q. EachLeads Step xs (Err q)) (sym (same_refused refused p e)) g) in
    record {
      before = x ∷ first.before;
      at = first.at;
      after = first.after;
      split = ap (λ more. x ∷ more) first.split;
      values = (x, value) ∷ first.values;
      passed = goes_on value f (goes_on first.values first.passed refl);
      is = first.is;
    }

-- what holds of each of a list holds of one of it
pub one_of_all : {A : Type 0} (test : A → Bool) (xs : List A) (x : A) → list_all test xs ≡ true → IsOneOf xs x → test x ≡ true
one_of_all test [] x all none = absurd none
one_of_all test (y ∷ ys) x all one = by_first test y ys x (test y) refl all one (one_of_all test ys x)
  where
    by_first : {A : Type 0} (test : A → Bool) (y : A) (ys : List A) (x : A) (b : Bool) → test y ≡ b → (b && list_all test ys) ≡ true → IsOneOf (y ∷ ys) x → (list_all test ys ≡ true → IsOneOf ys x → test x ≡ true) → test x ≡ true
    by_first test y ys x true is more (inl e) later = ap test e ∙ is
    by_first test y ys x true is more (inr one) later = later more one
    by_first test y ys x false is more one later = absurd (cc)
