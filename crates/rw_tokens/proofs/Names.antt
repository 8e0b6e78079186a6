-- Names: their bytes are those up to the first that is none of a name; what ends them then decides.
use Rattle.std.proofs.Common.{◌≡◌, ◌∙◌, ℕ, Bool, true, false, List, [], ◌∷◌, ◌++◌, take, drop, length, refl, sym, ap, subst, append-nil, arith, inl, inr}
use Rattle.std.specs.Prelude.{⊤, ◌==◌, ◌&&◌, nat_lt, nat_le, reverse}
use Rattle.std.specs.List.{list_all, prefix_len}
use Rattle.std.proofs.lemmas.Bool.{cond-true, cond-false, cases_Bool}
use Rattle.rich_text.specs.Tokens.{Quoted, BadToken, is_name_byte, is_name}
use Rattle.rich_text.specs.Places.{Place, place_behind}
use Rattle.rich_text.specs.Lexing.{Lexed, InBlank, InName, stop, before, lexed_from}
use Rattle.rw_tokens.proofs.Words.{other, turned, right, right_none, right_one, run_more, run_over}

-- bytes turned onto others
abbrev pub turn : List ℕ → List ℕ → List ℕ
turn [] passed = passed
turn (b ∷ bs) passed = turn bs (b ∷ passed)

pub turn_back : (bs passed : List ℕ) → reverse (turn bs passed) ≡ reverse passed ++ bs
turn_back [] passed = sym (append-nil (reverse passed))
turn_back (b ∷ bs) passed = turn_back bs (b ∷ passed) ∙ turned b passed bs

-- a name that was begun, with so many bytes more
abbrev named : Place → Place → List ℕ → List ℕ → ℕ → ℕ → Lexed
named from at passed bs d k = lexed_from (drop k bs) (InName from (turn (take k bs) passed)) (right k at) d

name_over : (from at : Place) (passed bs : List ℕ) (d : ℕ) → lexed_from bs (InName from passed) at d ≡ named from at passed bs d 0
name_over from at passed bs d = ap (λ p. lexed_from bs (InName from passed) p d) (sym (right_none at))

pub name_goes : (from at : Place) (passed bs : List ℕ) (d : ℕ) → lexed_from bs (InName from passed) at d ≡ named from at passed bs d (prefix_len is_name_byte bs)
name_goes from at passed [] d = name_over from at passed [] d
name_goes from at passed (b ∷ bs) d =
    elim (cases_Bool (is_name_byte b)) [
      | inl e ↦
          cond-false (b == 34) _ (lexed_from bs (InName from (b ∷ passed)) (place_behind b at) d) (other is_name_byte b 34 e refl)
          ∙ name_goes from (place_behind b at) (b ∷ passed) bs d
          ∙ ap (λ p. lexed_from (drop (prefix_len is_name_byte bs) bs) (InName from (turn (take (prefix_len is_name_byte bs) bs) (b ∷ passed))) p d) (right_one b (prefix_len is_name_byte bs) at (other is_name_byte b 10 e refl))
          ∙ ap (named from at passed (b ∷ bs) d) (sym (run_more is_name_byte b bs e))
      | inr e ↦ name_over from at passed (b ∷ bs) d ∙ ap (named from at passed (b ∷ bs) d) (sym (run_over is_name_byte b bs e))
    ]

-- ---- what is no name

-- bytes that no further byte makes a name
abbrev Spoilt : List ℕ → Type 0
Spoilt passed = (bs : List ℕ) → is_name (reverse passed ++ bs) ≡ false

spoilt_more : (b : ℕ) (passed : List ℕ) → Spoilt passed → Spoilt (b ∷ passed)
spoilt_more b passed h = λ bs. ap is_name (turned b passed bs) ∙ h (b ∷ bs)

never_named : (from at : Place) (passed bs : List ℕ) (d : ℕ) → Spoilt passed → lexed_from bs (InName from passed) at d ≡ stop BadToken from
never_named from at passed [] d h = refl
never_named from at passed (b ∷ bs) d h =
    elim (cases_Bool (b == 34)) [
      | inl e ↦
          cond-true (b == 34) _ _ e
          ∙ cond-false (is_name (reverse passed)) (before (Quoted (reverse passed)) from (lexed_from bs InBlank (place_behind b at) d)) (stop BadToken from) (ap is_name (sym (append-nil (reverse passed))) ∙ h [])
      | inr e ↦ cond-false (b == 34) _ (lexed_from bs (InName from (b ∷ passed)) (place_behind b at) d) e ∙ never_named from (place_behind b at) (b ∷ passed) bs d (spoilt_more b passed h)
    ]

no_and : (a : Bool) → (a && false) ≡ false
no_and true = refl
no_and false = refl

none_all : (p : ℕ → Bool) (xs : List ℕ) (b : ℕ) (bs : List ℕ) → p b ≡ false → list_all p (xs ++ b ∷ bs) ≡ false
none_all p [] b bs h = ap (λ x. x && list_all p bs) h
none_all p (x ∷ xs) b bs h = ap (λ y. p x && y) (none_all p xs b bs h) ∙ no_and (p x)

spoils : (b : ℕ) (passed : List ℕ) → is_name_byte b ≡ false → Spoilt (b ∷ passed)
spoils b passed h = λ bs.
    ap is_name (turned b passed bs)
    ∙ ap (λ x. nat_lt 0 (length (reverse passed ++ b ∷ bs)) && nat_le (length (reverse passed ++ b ∷ bs)) 64 && x) (none_all is_name_byte (reverse passed) b bs h)
    ∙ no_and (nat_lt 0 (length (reverse passed ++ b ∷ bs)) && nat_le (length (reverse passed ++ b ∷ bs)) 64)

-- a byte that is none of a name, or the end
abbrev pub EndsName : List ℕ → Type 0
EndsName [] = ⊤
EndsName (b ∷ bs) = is_name_byte b ≡ false

pub run_ends : (xs : List ℕ) → EndsName (drop (prefix_len is_name_byte xs) xs)
run_ends [] = tt
run_ends (x ∷ xs) =
    elim (cases_Bool (is_name_byte x)) [
      | inl e ↦ let P : ℕ → Type 0 = λ k. EndsName (drop k (x ∷ xs)) in subst P (sym (run_more is_name_byte x xs e)) (run_ends xs)
      | inr e ↦ let P : ℕ → Type 0 = λ k. EndsName (drop k (x ∷ xs)) in subst P (sym (run_over is_name_byte x xs e)) e
    ]

-- where no quote comes, or what it ends is no name
pub ends_badly : (from at : Place) (passed bs : List ℕ) (d : ℕ) → EndsName bs → ((r : List ℕ) → bs ≡ 34 ∷ r → is_name (reverse passed) ≡ false) → lexed_from bs (InName from passed) at d ≡ stop BadToken from
ends_badly from at passed [] d h g = refl
ends_badly from at passed (b ∷ bs) d h g =
    elim (cases_Bool (b == 34)) [
      | inl e ↦
          cond-true (b == 34) _ _ e
          ∙ cond-false (is_name (reverse passed)) (before (Quoted (reverse passed)) from (lexed_from bs InBlank (place_behind b at) d)) (stop BadToken from) (g bs (ap (λ x. x ∷ bs) (quote_byte b e)))
      | inr e ↦ cond-false (b == 34) _ (lexed_from bs (InName from (b ∷ passed)) (place_behind b at) d) e ∙ never_named from (place_behind b at) (b ∷ passed) bs d (spoils b passed h)
    ]
  where
    quote_byte : (b : ℕ) → (b == 34) ≡ true → b ≡ 34
    quote_byte b e = grind arith
