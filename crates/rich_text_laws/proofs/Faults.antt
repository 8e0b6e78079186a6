-- A fault stands in the text or at its end: every place that is told is that behind some bytes at the text's front.
use Rattle.std.proofs.Common.{◌≡◌, ◌∙◌, ℕ, zero, suc, ◌-◌, Bool, true, false, List, [], ◌∷◌, ◌++◌, length, refl, sym, ap, subst, append_assoc, Option, Some, None, Result, Ok, Err}
use Rattle.std.specs.Prelude.{⊤, if◌then◌else◌, ◌==◌, nat_lt, reverse}
use Rattle.rich_text.specs.Tokens.{Token, Opening, Closing, Word, Quoted, Fault, BadUtf8, BadForm, BadToken, TooDeep, Unended, NumberOut, is_word_byte, is_blank, is_name, nesting_limit}
use Rattle.rich_text.specs.Places.{Place, the_start, place_behind, place_after}
use Rattle.rich_text.specs.Utf8.{more_of, at_sequence, ill_formed_from, ill_formed}
use Rattle.rich_text.specs.Lexing.{Lexed, Inside, InBlank, InComment, AfterSemicolon, InWord, InName, stop, before, begun, lexed_from, lexed}
use Rattle.rich_text.specs.Forms.{module_form}
use Rattle.rich_text.specs.Grammars.{a_form}
use Rattle.rich_text.specs.Reading.{Stop, read_part}
use Rattle.rich_text.specs.Texts.{Found, grammar_of, place_of, found, nothing_behind, whole, reading_tokens, if_encoded}
use Rattle.rich_text_laws.specs.Laws.{IsIn, FaultIsInText}

-- ---- places of one text

module _ (text : List ℕ) where
  -- where reading stands: behind some bytes, before the others
  record Between (at : Place) (bs : List ℕ) : Type 0 where
    passed : List ℕ
    is : text ≡ passed ++ bs
    place : at ≡ place_after passed the_start

  between_in : (at : Place) (bs : List ℕ) → Between at bs → IsIn text at
  between_in at bs b = (b.passed, bs, b.is, b.place)

  after_one : (b : ℕ) (passed : List ℕ) (at : Place) → place_after (passed ++ b ∷ []) at ≡ place_behind b (place_after passed at)
  after_one b [] at = refl
  after_one b (c ∷ passed) at = after_one b passed (place_behind c at)

  onward : (at : Place) (b : ℕ) (bs : List ℕ) → Between at (b ∷ bs) → Between (place_behind b at) bs
  onward at b bs h = record {
    passed = h.passed ++ b ∷ [];
    is = h.is ∙ sym (append_assoc h.passed (b ∷ []) bs);
    place = ap (place_behind b) h.place ∙ sym (after_one b h.passed the_start);
  }

  -- all places of tokens
  abbrev AllIn : List Place → Type 0
  AllIn [] = ⊤
  AllIn (p ∷ ps) = IsIn text p × AllIn ps

  record Told (l : Lexed) : Type 0 where
    places : AllIn l.places
    at : IsIn text l.at

  told_stop : (fault : Fault) (at : Place) → IsIn text at → Told (stop fault at)
  told_stop fault at h = record { places = tt; at = h }

  told_before : (t : Token) (from : Place) (l : Lexed) → IsIn text from → Told l → Told (before t from l)
  told_before t from l h s = record { places = (h, s.places); at = s.at }

  told_if : (b : Bool) (x y : Lexed) → Told x → Told y → Told (if b then x else y)
  told_if true x y h g = h
  told_if false x y h g = g

  -- the place that a state holds
  abbrev Holds : Inside → Type 0
  Holds InBlank = ⊤
  Holds InComment = ⊤
  Holds (AfterSemicolon from) = IsIn text from
  Holds (InWord from w) = IsIn text from
  Holds (InName from n) = IsIn text from

  told_begun : (go : Inside → ℕ → Lexed) (at : Place) (depth b : ℕ) → IsIn text at → ((i : Inside) (d : ℕ) → Holds i → Told (go i d)) → Told (begun go at depth b)
  told_begun go at depth b h more =
      told_if (is_blank b) _ _ (more InBlank depth tt)
      (told_if (b == 40) _ _ (told_if (nat_lt depth nesting_limit) _ _ (told_before Opening at (go InBlank (suc depth)) h (more InBlank (suc depth) tt)) (told_stop TooDeep at h))
      (told_if (b == 41) _ _ (told_before Closing at (go InBlank (depth - 1)) h (more InBlank (depth - 1) tt))
      (told_if (is_word_byte b) _ _ (more (InWord at (b ∷ [])) depth h)
      (told_if (b == 34) _ _ (more (InName at []) depth h)
      (told_if (b == 59) _ _ (more (AfterSemicolon at) depth h) (told_stop BadToken at h))))))

  told : (bs : List ℕ) (i : Inside) (at : Place) (depth : ℕ) → Between at bs → Holds i → Told (lexed_from bs i at depth)
  told [] InBlank at depth b h = told_stop Unended at (between_in at [] b)
  told [] InComment at depth b h = told_stop Unended at (between_in at [] b)
  told [] (AfterSemicolon from) at depth b h = told_stop BadToken from h
  told [] (InWord from w) at depth b h = told_before (Word (reverse w)) from (stop Unended at) h (told_stop Unended at (between_in at [] b))
  told [] (InName from n) at depth b h = told_stop BadToken from h
  told (c ∷ bs) InBlank at depth b h = told_begun (λ i. lexed_from bs i (place_behind c at)) at depth c (between_in at (c ∷ bs) b) (λ i d g. told bs i (place_behind c at) d (onward at c bs b) g)
  told (c ∷ bs) InComment at depth b h = told_if (c == 10) _ _ (told bs InBlank (place_behind c at) depth (onward at c bs b) tt) (told bs InComment (place_behind c at) depth (onward at c bs b) tt)
  told (c ∷ bs) (AfterSemicolon from) at depth b h = told_if (c == 59) _ _ (told bs InComment (place_behind c at) depth (onward at c bs b) tt) (told_stop BadToken from h)
  told (c ∷ bs) (InWord from w) at depth b h =
      told_if (is_word_byte c) _ _ (told bs (InWord from (c ∷ w)) (place_behind c at) depth (onward at c bs b) h)
      (told_before (Word (reverse w)) from (begun (λ i. lexed_from bs i (place_behind c at)) at depth c) h
      (told_begun (λ i. lexed_from bs i (place_behind c at)) at depth c (between_in at (c ∷ bs) b) (λ i d g. told bs i (place_behind c at) d (onward at c bs b) g)))
  told (c ∷ bs) (InName from n) at depth b h =
      told_if (c == 34) _ _
      (told_if (is_name (reverse n)) _ _ (told_before (Quoted (reverse n)) from (lexed_from bs InBlank (place_behind c at) depth) h (told bs InBlank (place_behind c at) depth (onward at c bs b) tt)) (told_stop BadToken from h))
      (told bs (InName from (c ∷ n)) (place_behind c at) depth (onward at c bs b) h)

  place_in : (ps : List Place) (n : ℕ) (at : Place) → AllIn ps → IsIn text at → IsIn text (place_of ps n at)
  place_in [] n at h g = g
  place_in (p ∷ ps) zero at h g = h.0
  place_in (p ∷ ps) (suc n) at h g = place_in ps n at h.1 g

  found_if : (b : Bool) (x y : Found) → IsIn text x.at → IsIn text y.at → IsIn text (if b then x else y).at
  found_if true x y h g = h
  found_if false x y h g = g

  found_in : (l : Lexed) (e : Stop) → Told l → IsIn text (found l e).at
  found_in l e s = found_if (e.left == 0) (record { fault = l.ending; at = l.at }) (record { fault = e.fault; at = place_of l.places (length l.tokens - e.left) l.at }) s.at (place_in l.places (length l.tokens - e.left) l.at s.places s.at)

  start : Between the_start text
  start = record { passed = []; is = refl; place = refl }

  err_in : {A : Type 0} (x y : Found) → IsIn text x.at → ◌≡◌ {A = Result A Found} (Err x) (Err y) → IsIn text y.at
  err_in {A} x y h e = subst (λ z. IsIn text z.at) (same x y e) h
    where
      same : (x y : Found) → ◌≡◌ {A = Result A Found} (Err x) (Err y) → x ≡ y
      same x y e = cc

  behind_in : {A : Type 0} (l : Lexed) → Told l → (a : A) (ts : List Token) (fault : Fault) (e : Found) → nothing_behind l a ts fault ≡ Err e → IsIn text e.at
  behind_in l s a (t ∷ ts) BadUtf8 e h = err_in (found l (record { fault = BadForm; left = length (t ∷ ts) })) e (found_in l (record { fault = BadForm; left = length (t ∷ ts) }) s) h
  behind_in l s a (t ∷ ts) BadToken e h = err_in (found l (record { fault = BadForm; left = length (t ∷ ts) })) e (found_in l (record { fault = BadForm; left = length (t ∷ ts) }) s) h
  behind_in l s a (t ∷ ts) TooDeep e h = err_in (found l (record { fault = BadForm; left = length (t ∷ ts) })) e (found_in l (record { fault = BadForm; left = length (t ∷ ts) }) s) h
  behind_in l s a (t ∷ ts) NumberOut e h = err_in (found l (record { fault = BadForm; left = length (t ∷ ts) })) e (found_in l (record { fault = BadForm; left = length (t ∷ ts) }) s) h
  behind_in l s a (t ∷ ts) BadForm e h = err_in (found l (record { fault = BadForm; left = length (t ∷ ts) })) e (found_in l (record { fault = BadForm; left = length (t ∷ ts) }) s) h
  behind_in l s a (t ∷ ts) Unended e h = err_in (found l (record { fault = BadForm; left = length (t ∷ ts) })) e (found_in l (record { fault = BadForm; left = length (t ∷ ts) }) s) h
  behind_in l s a [] BadUtf8 e h = err_in (record { fault = BadUtf8; at = l.at }) e s.at h
  behind_in l s a [] BadToken e h = err_in (record { fault = BadToken; at = l.at }) e s.at h
  behind_in l s a [] TooDeep e h = err_in (record { fault = TooDeep; at = l.at }) e s.at h
  behind_in l s a [] NumberOut e h = err_in (record { fault = NumberOut; at = l.at }) e s.at h
  behind_in l s a [] BadForm e h = err_in (record { fault = BadForm; at = l.at }) e s.at h
  behind_in l s a [] Unended e h = absurd (cc h)

  whole_in : {A : Type 0} (l : Lexed) → Told l → (r : Result (A × List Token) Stop) (e : Found) → whole l r ≡ Err e → IsIn text e.at
  whole_in l s (Ok r) e h = behind_in l s r.0 r.1 l.ending e h
  whole_in l s (Err x) e h = err_in (found l x) e (found_in l x s) h

  some_in : (x y : Place) → IsIn text x → ◌≡◌ {A = Option Place} (Some x) (Some y) → IsIn text y
  some_in x y h e = subst (λ z. IsIn text z) (same x y e) h
    where
      same : (x y : Place) → ◌≡◌ {A = Option Place} (Some x) (Some y) → x ≡ y
      same x y e = cc

  sequence_in : (at : Place) (o : Option ℕ) (go : ℕ → Option Place) (p : Place) → IsIn text at → ((m : ℕ) → go m ≡ Some p → IsIn text p) → at_sequence at o go ≡ Some p → IsIn text p
  sequence_in at None go p h more e = some_in at p h e
  sequence_in at (Some m) go p h more e = more m e

  ill_in : (bs : List ℕ) (more : ℕ) (at : Place) → Between at bs → (p : Place) → ill_formed_from more at bs ≡ Some p → IsIn text p
  ill_in [] zero at b p e = absurd (cc e)
  ill_in [] (suc more) at b p e = absurd (cc e)
  ill_in (c ∷ bs) (suc more) at b p e = ill_in bs more (place_behind c at) (onward at c bs b) p e
  ill_in (c ∷ bs) zero at b p e =
      sequence_in at (more_of c bs) (λ more. ill_formed_from more (place_behind c at) bs) p (between_in at (c ∷ bs) b)
      (λ m g. ill_in bs m (place_behind c at) (onward at c bs b) p g) e

  encoded_in : {A : Type 0} (o : Option Place) → ((p : Place) → o ≡ Some p → IsIn text p) → (r : Result A Found) (e : Found) → ((g : r ≡ Err e) → IsIn text e.at) → if_encoded o r ≡ Err e → IsIn text e.at
  encoded_in (Some at) h r e more g = err_in (record { fault = BadUtf8; at = at }) e (h at refl) g
  encoded_in None h r e more g = more g

pub fault_is_in_text : FaultIsInText
fault_is_in_text bytes e h =
    encoded_in bytes (ill_formed bytes) (λ p g. ill_in bytes bytes 0 the_start (start bytes) p g) (reading_tokens (lexed bytes)) e
    (whole_in bytes (lexed bytes) (told bytes bytes InBlank the_start 0 (start bytes) tt) (read_part (grammar_of (lexed bytes).tokens) nesting_limit (a_form module_form) (lexed bytes).tokens) e) h
