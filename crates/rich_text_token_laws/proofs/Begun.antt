-- What a piece begins with, and bytes up to the first of one kind.
use Rattle.std.proofs.Common.{◌≡◌, ◌∙◌, ℕ, Bool, true, false, List, [], ◌∷◌, ◌++◌, refl, sym, ap, subst, inl, inr}
use Rattle.std.specs.Prelude.{⊤, ◌==◌, ◌||◌, ◌⊎◌, not}
use Rattle.std.specs.List.{list_all}
use Rattle.std.proofs.lemmas.Bool.{false≢true, eqb-true, eq-eqb, ne_eqb, and_parts, and_from}
use Rattle.rich_text.specs.Tokens.{Opening, Closing, Word, Quoted, is_word_byte, is_blank, is_name_byte}
use Rattle.rich_text_token_laws.specs.Pieces.{Piece, Blank, Comment, Lone, free_of, Writes}

pub by_test : {X : Type 0} (b : Bool) → (b ≡ true → X) → (b ≡ false → X) → X
by_test true h g = h refl
by_test false h g = g refl

pub never : {X : Type 0} {b : Bool} → b ≡ true → b ≡ false → X
never h g = absurd (false≢true (sym g ∙ h))

pub head_one : (x y : ℕ) (xs ys : List ℕ) → x ∷ xs ≡ y ∷ ys → x ≡ y
head_one x y xs ys e = cc

pub tail_one : (x y : ℕ) (xs ys : List ℕ) → x ∷ xs ≡ y ∷ ys → xs ≡ ys
tail_one x y xs ys e = cc

pub other : (test : ℕ → Bool) (b k : ℕ) → test b ≡ true → test k ≡ false → (b == k) ≡ false
other test b k h g = ne_eqb b k (λ e. false≢true (sym g ∙ ap test (sym e) ∙ h))

no_or : (a b : Bool) → a ≡ false → b ≡ false → (a || b) ≡ false
no_or a b e f = ap (λ x. x || b) e ∙ f

pub no_blank : (b : ℕ) → is_word_byte b ≡ true → is_blank b ≡ false
no_blank b h =
    no_or (b == 32 || b == 9 || b == 10) (b == 13)
    (no_or (b == 32 || b == 9) (b == 10) (no_or (b == 32) (b == 9) (other is_word_byte b 32 h refl) (other is_word_byte b 9 h refl)) (other is_word_byte b 10 h refl))
    (other is_word_byte b 13 h refl)

-- what the first byte of a piece is
abbrev pub Begins : ℕ → Piece → Type 0
Begins b Blank = is_blank b ≡ true
Begins b Comment = b ≡ 59
Begins b (Lone Opening) = b ≡ 40
Begins b (Lone Closing) = b ≡ 41
Begins b (Lone (Word w)) = is_word_byte b ≡ true
Begins b (Lone (Quoted n)) = b ≡ 34

pub begins : (p : Piece) (b : ℕ) (bs : List ℕ) → Writes p (b ∷ bs) → Begins b p
begins Blank b bs h = ap is_blank (head_one b h.0 bs [] h.2) ∙ h.1
begins Comment b bs (c, h, inl e) = head_one b 59 bs (59 ∷ c) e
begins Comment b bs (c, h, inr e) = head_one b 59 bs (59 ∷ (c ++ 10 ∷ [])) e
begins (Lone Opening) b bs h = head_one b 40 bs [] h
begins (Lone Closing) b bs h = head_one b 41 bs [] h
begins (Lone (Word [])) b bs h = absurd h
begins (Lone (Word (c ∷ w))) b bs h = ap is_word_byte (head_one b c bs w h.1) ∙ (and_parts (is_word_byte c) (list_all is_word_byte w) h.0).0
begins (Lone (Quoted n)) b bs h = head_one b 34 bs (n ++ 34 ∷ []) h.1

pub never_empty : (p : Piece) → Writes p [] → ⊥
never_empty Blank h = absurd (cc h.2)
never_empty Comment (c, h, inl e) = absurd (cc e)
never_empty Comment (c, h, inr e) = absurd (cc e)
never_empty (Lone Opening) h = absurd (cc h)
never_empty (Lone Closing) h = absurd (cc h)
never_empty (Lone (Word [])) h = absurd h
never_empty (Lone (Word (c ∷ w))) h = absurd (cc h.1)
never_empty (Lone (Quoted n)) h = absurd (cc h.1)

-- a piece at the front of a text
pub at_front : (p : Piece) (b : ℕ) (bs front back : List ℕ) → b ∷ bs ≡ front ++ back → Writes p front → (fs : List ℕ) × (front ≡ b ∷ fs) × (bs ≡ fs ++ back) × Writes p (b ∷ fs)
at_front p b bs [] back e w = absurd (never_empty p w)
at_front p b bs (f ∷ fs) back e w =
    let same = head_one b f bs (fs ++ back) e in
    (fs, ap (λ x. x ∷ fs) (sym same), tail_one b f bs (fs ++ back) e, subst (λ x. Writes p (x ∷ fs)) (sym same) w)

-- ---- bytes up to the first that is k

pub free_one : (k b : ℕ) (bs : List ℕ) → free_of k (b ∷ bs) ≡ true → ((b == k) ≡ false) × (free_of k bs ≡ true)
free_one k b bs h = let p = and_parts (not (b == k)) (free_of k bs) h in (not_true (b == k) p.0, p.1)
  where
    not_true : (b : Bool) → not b ≡ true → b ≡ false
    not_true true e = absurd (false≢true e)
    not_true false e = refl

pub free_more : (k b : ℕ) (bs : List ℕ) → (b == k) ≡ false → free_of k bs ≡ true → free_of k (b ∷ bs) ≡ true
free_more k b bs h g = and_from (not (b == k)) (free_of k bs) (ap not h) g

pub never_free : (k : ℕ) (bs more : List ℕ) → free_of k (bs ++ k ∷ more) ≡ true → ⊥
never_free k [] more h = false≢true (sym (free_one k k more h).0 ∙ eq-eqb k k refl)
never_free k (b ∷ bs) more h = never_free k bs more (free_one k b (bs ++ k ∷ more) h).1

-- up to there all is the same
pub same_parts : (k : ℕ) (n m x y : List ℕ) → free_of k n ≡ true → free_of k m ≡ true → n ++ k ∷ x ≡ m ++ k ∷ y → (n ≡ m) × (x ≡ y)
same_parts k [] [] x y f g e = (refl, tail_one k k x y e)
same_parts k [] (b ∷ m) x y f g e = never (eq-eqb b k (sym (head_one k b x (m ++ k ∷ y) e))) (free_one k b m g).0
same_parts k (a ∷ n) [] x y f g e = never (eq-eqb a k (head_one a k (n ++ k ∷ x) y e)) (free_one k a n f).0
same_parts k (a ∷ n) (b ∷ m) x y f g e =
    let more = same_parts k n m x y (free_one k a n f).1 (free_one k b m g).1 (tail_one a b (n ++ k ∷ x) (m ++ k ∷ y) e) in
    (λ i. head_one a b (n ++ k ∷ x) (m ++ k ∷ y) e i ∷ more.0 i, more.1)

pub record Parted (k : ℕ) (bs : List ℕ) : Type 0 where
  pub front : List ℕ
  pub back : List ℕ
  pub is : bs ≡ front ++ k ∷ back
  pub free : free_of k front ≡ true

pub parted : (k : ℕ) (bs : List ℕ) → Parted k bs ⊎ (free_of k bs ≡ true)
parted k [] = inr refl
parted k (b ∷ bs) = by_test (b == k) (λ e. inl (record { front = []; back = bs; is = ap (λ x. x ∷ bs) (eqb-true b k e); free = refl })) (λ e. further e (parted k bs))
  where
    further : (b == k) ≡ false → Parted k bs ⊎ (free_of k bs ≡ true) → Parted k (b ∷ bs) ⊎ (free_of k (b ∷ bs) ≡ true)
    further e (inl h) = inl (record { front = b ∷ h.front; back = h.back; is = ap (λ xs. b ∷ xs) h.is; free = free_more k b h.front e h.free })
    further e (inr h) = inr (free_more k b bs e h)

pub name_free : (n : List ℕ) → list_all is_name_byte n ≡ true → free_of 34 n ≡ true
name_free [] h = refl
name_free (b ∷ n) h =
    let p = and_parts (is_name_byte b) (list_all is_name_byte n) h in
    free_more 34 b n (other is_name_byte b 34 p.0 refl) (name_free n p.1)

-- ---- word bytes

-- bytes that continue no word
abbrev pub StartApart : List ℕ → Type 0
StartApart [] = ⊤
StartApart (b ∷ bs) = is_word_byte b ≡ false

pub record Spanned (bs : List ℕ) : Type 0 where
  pub word : List ℕ
  pub back : List ℕ
  pub is : bs ≡ word ++ back
  pub all : list_all is_word_byte word ≡ true
  pub apart : StartApart back

pub spanned : (bs : List ℕ) → Spanned bs
spanned [] = record { word = []; back = []; is = refl; all = refl; apart = tt }
spanned (b ∷ bs) = by_test (is_word_byte b) (λ e. longer e (spanned bs)) (λ e. record { word = []; back = b ∷ bs; is = refl; all = refl; apart = e })
  where
    longer : is_word_byte b ≡ true → Spanned bs → Spanned (b ∷ bs)
    longer e s = record { word = b ∷ s.word; back = s.back; is = ap (λ xs. b ∷ xs) s.is; all = and_from (is_word_byte b) (list_all is_word_byte s.word) e s.all; apart = s.apart }

pub all_behind : (w more : List ℕ) → list_all is_word_byte (w ++ more) ≡ true → list_all is_word_byte more ≡ true
all_behind [] more h = h
all_behind (b ∷ w) more h = all_behind w more (and_parts (is_word_byte b) (list_all is_word_byte (w ++ more)) h).1

pub apart_none : (more rest : List ℕ) → StartApart (more ++ rest) → list_all is_word_byte more ≡ true → more ≡ []
apart_none [] rest a h = refl
apart_none (b ∷ more) rest a h = never (and_parts (is_word_byte b) (list_all is_word_byte more) h).0 a
