-- Two texts that agree up to the end of a token have the same tokens up to it, or no token at its place.
use Rattle.std.proofs.Common.{◌≡◌, ◌∙◌, ℕ, suc, ◌-◌, Bool, true, false, List, [], ◌∷◌, ◌++◌, refl, sym, ap, subst, inl, inr}
use Rattle.std.specs.Prelude.{⊤, if◌then◌else◌, ◌==◌, ◌⊎◌, nat_lt, not, reverse}
use Rattle.std.proofs.lemmas.Bool.{false≢true, cond-true, cond-false}
use Rattle.rich_text.specs.Tokens.{Token, Opening, Closing, Word, Quoted, Fault, BadToken, TooDeep, Unended, is_word_byte, is_blank, is_name, nesting_limit}
use Rattle.rich_text.specs.Places.{Place, place_behind, place_after}
use Rattle.rich_text.specs.Lexing.{Lexed, Inside, InBlank, InComment, AfterSemicolon, InWord, InName, stop, before, begun, lexed_from}
use Rattle.rich_text_fault_laws.specs.Laws.{end_word, begin_no_comment, word_ends, name_ends, show_whole}
use Rattle.rich_text_fault_laws.proofs.Order.{Earlier, Apart, one_behind, earlier_trans, earlier_apart, later_apart, all_behind}

-- tokens with their places, before others
abbrev pub behind : List (Token × Place) → Lexed → Lexed
behind [] l = l
behind (t ∷ ts) l = before t.0 t.1 (behind ts l)

module _ (p : Place) where
  abbrev pub NoneAt : List Place → Type 0
  NoneAt [] = ⊤
  NoneAt (q ∷ qs) = Apart p q × NoneAt qs

  -- nothing stands at that place
  pub record Clear (l : Lexed) : Type 0 where
    pub places : NoneAt l.places
    pub at : Apart p l.at

  -- the same tokens at the same places, and then all the same or nothing at that place
  pub record Alike (l m : Lexed) : Type 0 where
    pub shared : List (Token × Place)
    pub left : Lexed
    pub right : Lexed
    pub first : l ≡ behind shared left
    pub second : m ≡ behind shared right
    pub rest : (left ≡ right) ⊎ Clear left

  clear_stop : (fault : Fault) (at : Place) → Apart p at → Clear (stop fault at)
  clear_stop fault at h = record { places = tt; at = h }

  clear_before : (t : Token) (from : Place) (l : Lexed) → Apart p from → Clear l → Clear (before t from l)
  clear_before t from l h s = record { places = (h, s.places); at = s.at }

  clear_if : (b : Bool) (x y : Lexed) → Clear x → Clear y → Clear (if b then x else y)
  clear_if true x y h g = h
  clear_if false x y h g = g

  -- what a state holds began elsewhere
  abbrev Off : Inside → Type 0
  Off InBlank = ⊤
  Off InComment = ⊤
  Off (AfterSemicolon from) = Apart p from
  Off (InWord from w) = Apart p from
  Off (InName from n) = Apart p from

  clear_begun : (go : Inside → ℕ → Lexed) (at : Place) (depth b : ℕ) → Apart p at → ((i : Inside) (d : ℕ) → Off i → Clear (go i d)) → Clear (begun go at depth b)
  clear_begun go at depth b h more =
      clear_if (is_blank b) _ _ (more InBlank depth tt)
      (clear_if (b == 40) _ _ (clear_if (nat_lt depth nesting_limit) _ _ (clear_before Opening at (go InBlank (suc depth)) h (more InBlank (suc depth) tt)) (clear_stop TooDeep at h))
      (clear_if (b == 41) _ _ (clear_before Closing at (go InBlank (depth - 1)) h (more InBlank (depth - 1) tt))
      (clear_if (is_word_byte b) _ _ (more (InWord at (b ∷ [])) depth h)
      (clear_if (b == 34) _ _ (more (InName at []) depth h)
      (clear_if (b == 59) _ _ (more (AfterSemicolon at) depth h) (clear_stop BadToken at h))))))

  next : (b : ℕ) (at : Place) → Earlier p at → Earlier p (place_behind b at)
  next b at h = earlier_trans p at (place_behind b at) h (one_behind b at)

  -- past the place nothing stands at it
  past : (bs : List ℕ) (i : Inside) (at : Place) (depth : ℕ) → Earlier p at → Off i → Clear (lexed_from bs i at depth)
  past [] InBlank at depth b h = clear_stop Unended at (earlier_apart p at b)
  past [] InComment at depth b h = clear_stop Unended at (earlier_apart p at b)
  past [] (AfterSemicolon from) at depth b h = clear_stop BadToken from h
  past [] (InWord from w) at depth b h = clear_before (Word (reverse w)) from (stop Unended at) h (clear_stop Unended at (earlier_apart p at b))
  past [] (InName from n) at depth b h = clear_stop BadToken from h
  past (c ∷ bs) InBlank at depth b h = clear_begun (λ i. lexed_from bs i (place_behind c at)) at depth c (earlier_apart p at b) (λ i d g. past bs i (place_behind c at) d (next c at b) g)
  past (c ∷ bs) InComment at depth b h = clear_if (c == 10) _ _ (past bs InBlank (place_behind c at) depth (next c at b) tt) (past bs InComment (place_behind c at) depth (next c at b) tt)
  past (c ∷ bs) (AfterSemicolon from) at depth b h = clear_if (c == 59) _ _ (past bs InComment (place_behind c at) depth (next c at b) tt) (clear_stop BadToken from h)
  past (c ∷ bs) (InWord from w) at depth b h =
      clear_if (is_word_byte c) _ _ (past bs (InWord from (c ∷ w)) (place_behind c at) depth (next c at b) h)
      (clear_before (Word (reverse w)) from (begun (λ i. lexed_from bs i (place_behind c at)) at depth c) h
      (clear_begun (λ i. lexed_from bs i (place_behind c at)) at depth c (earlier_apart p at b) (λ i d g. past bs i (place_behind c at) d (next c at b) g)))
  past (c ∷ bs) (InName from n) at depth b h =
      clear_if (c == 34) _ _
      (clear_if (is_name (reverse n)) _ _ (clear_before (Quoted (reverse n)) from (lexed_from bs InBlank (place_behind c at) depth) h (past bs InBlank (place_behind c at) depth (next c at b) tt)) (clear_stop BadToken from h))
      (past bs (InName from (c ∷ n)) (place_behind c at) depth (next c at b) h)

  -- ---- two lexed texts

  alike_same : (l : Lexed) → Alike l l
  alike_same l = record { shared = []; left = l; right = l; first = refl; second = refl; rest = inl refl }

  alike_clear : (l m : Lexed) → Clear l → Alike l m
  alike_clear l m h = record { shared = []; left = l; right = m; first = refl; second = refl; rest = inr h }

  alike_before : (t : Token) (from : Place) (l m : Lexed) → Alike l m → Alike (before t from l) (before t from m)
  alike_before t from l m h = record {
    shared = (t, from) ∷ h.shared;
    left = h.left;
    right = h.right;
    first = ap (before t from) h.first;
    second = ap (before t from) h.second;
    rest = h.rest;
  }

  alike_if : (b : Bool) (x y z w : Lexed) → (b ≡ true → Alike x z) → (b ≡ false → Alike y w) → Alike (if b then x else y) (if b then z else w)
  alike_if true x y z w h g = h refl
  alike_if false x y z w h g = g refl

  alike_begun : (go to : Inside → ℕ → Lexed) (at : Place) (depth b : ℕ) → Apart p at → ((i : Inside) (d : ℕ) → Off i → Alike (go i d) (to i d)) → Alike (begun go at depth b) (begun to at depth b)
  alike_begun go to at depth b h more =
      alike_if (is_blank b) _ _ _ _ (λ e. more InBlank depth tt)
      (λ e. alike_if (b == 40) _ _ _ _ (λ e. alike_if (nat_lt depth nesting_limit) _ _ _ _ (λ e. alike_before Opening at (go InBlank (suc depth)) (to InBlank (suc depth)) (more InBlank (suc depth) tt)) (λ e. alike_same (stop TooDeep at)))
      (λ e. alike_if (b == 41) _ _ _ _ (λ e. alike_before Closing at (go InBlank (depth - 1)) (to InBlank (depth - 1)) (more InBlank (depth - 1) tt))
      (λ e. alike_if (is_word_byte b) _ _ _ _ (λ e. more (InWord at (b ∷ [])) depth h)
      (λ e. alike_if (b == 34) _ _ _ _ (λ e. more (InName at []) depth h)
      (λ e. alike_if (b == 59) _ _ _ _ (λ e. more (AfterSemicolon at) depth h) (λ e. alike_same (stop BadToken at)))))))

  not_true : (b : Bool) → not b ≡ true → b ≡ false
  not_true true e = absurd (false≢true e)
  not_true false e = refl

  alike_by : (l m l' m' : Lexed) → l ≡ l' → m ≡ m' → Alike l' m' → Alike l m
  alike_by l m l' m' e f h = subst (λ x. Alike x m) (sym e) (subst (λ x. Alike l' x) (sym f) h)

  -- a word before bytes that continue none, and a `;` that begins no comment
  word_over : (bs w : List ℕ) (at : Place) (depth : ℕ) → end_word bs ≡ true → lexed_from bs (InWord p w) at depth ≡ before (Word (reverse w)) p (lexed_from bs InBlank at depth)
  word_over [] w at depth h = refl
  word_over (c ∷ bs) w at depth h =
      cond-false (is_word_byte c) (lexed_from bs (InWord p (c ∷ w)) (place_behind c at) depth) (before (Word (reverse w)) p (begun (λ i. lexed_from bs i (place_behind c at)) at depth c)) (not_true (is_word_byte c) h)

  no_comment : (bs : List ℕ) (at : Place) (depth : ℕ) → begin_no_comment bs ≡ true → lexed_from bs (AfterSemicolon p) at depth ≡ stop BadToken p
  no_comment [] at depth h = refl
  no_comment (c ∷ bs) at depth h = cond-false (c == 59) (lexed_from bs InComment (place_behind c at) depth) (stop BadToken p) (not_true (c == 59) h)

  -- a token at the place, which both texts show whole
  module _ (back other : List ℕ) where
    word_alike : (bs w : List ℕ) (at : Place) (depth : ℕ) → Earlier p at → word_ends bs back ≡ true → word_ends bs other ≡ true
        → Alike (lexed_from (bs ++ back) (InWord p w) at depth) (lexed_from (bs ++ other) (InWord p w) at depth)
    word_alike [] w at depth h s t =
        alike_by _ _ _ _ (word_over back w at depth s) (word_over other w at depth t) (alike_before (Word (reverse w)) p _ _ (alike_clear _ _ (past back InBlank at depth h tt)))
    word_alike (c ∷ bs) w at depth h s t =
        alike_if (is_word_byte c) _ _ _ _
        (λ e. word_alike bs (c ∷ w) (place_behind c at) depth (next c at h) (sym (cond-true (is_word_byte c) (word_ends bs back) true e) ∙ s) (sym (cond-true (is_word_byte c) (word_ends bs other) true e) ∙ t))
        (λ e. alike_before (Word (reverse w)) p _ _
        (alike_clear _ _ (clear_begun (λ i. lexed_from (bs ++ back) i (place_behind c at)) at depth c (earlier_apart p at h) (λ i d g. past (bs ++ back) i (place_behind c at) d (next c at h) g))))

    name_alike : (bs n : List ℕ) (at : Place) (depth : ℕ) → Earlier p at → name_ends bs ≡ true → Alike (lexed_from (bs ++ back) (InName p n) at depth) (lexed_from (bs ++ other) (InName p n) at depth)
    name_alike [] n at depth h s = absurd (false≢true s)
    name_alike (c ∷ bs) n at depth h s =
        alike_if (c == 34) _ _ _ _
        (λ e. alike_if (is_name (reverse n)) _ _ _ _
        (λ e. alike_before (Quoted (reverse n)) p _ _ (alike_clear _ _ (past (bs ++ back) InBlank (place_behind c at) depth (next c at h) tt)))
        (λ e. alike_same (stop BadToken p)))
        (λ e. name_alike bs (c ∷ n) (place_behind c at) depth (next c at h) (sym (cond-false (c == 34) true (name_ends bs) e) ∙ s))

    comment_alike : (bs : List ℕ) (at : Place) (depth : ℕ) → begin_no_comment (bs ++ back) ≡ true → begin_no_comment (bs ++ other) ≡ true
        → Alike (lexed_from (bs ++ back) (AfterSemicolon p) at depth) (lexed_from (bs ++ other) (AfterSemicolon p) at depth)
    comment_alike bs at depth s t = alike_by _ _ _ _ (no_comment (bs ++ back) at depth s) (no_comment (bs ++ other) at depth t) (alike_same (stop BadToken p))

    token_alike : (b : ℕ) (bs : List ℕ) (depth : ℕ) → show_whole (b ∷ bs) back ≡ true → show_whole (b ∷ bs) other ≡ true
        → Alike (begun (λ i. lexed_from (bs ++ back) i (place_behind b p)) p depth b) (begun (λ i. lexed_from (bs ++ other) i (place_behind b p)) p depth b)
    token_alike b bs depth s t =
        let behind_it : (i : Inside) (d : ℕ) → Off i → Alike (lexed_from (bs ++ back) i (place_behind b p) d) (lexed_from (bs ++ other) i (place_behind b p) d) = λ i d g. alike_clear _ _ (past (bs ++ back) i (place_behind b p) d (one_behind b p) g) in
        alike_if (is_blank b) _ _ _ _ (λ e. behind_it InBlank depth tt)
        (λ e. alike_if (b == 40) _ _ _ _ (λ e. alike_if (nat_lt depth nesting_limit) _ _ _ _ (λ e. alike_before Opening p _ _ (behind_it InBlank (suc depth) tt)) (λ e. alike_same (stop TooDeep p)))
        (λ e. alike_if (b == 41) _ _ _ _ (λ e. alike_before Closing p _ _ (behind_it InBlank (depth - 1) tt))
        (λ e. alike_if (is_word_byte b) _ _ _ _ (λ w. word_alike bs (b ∷ []) (place_behind b p) depth (one_behind b p) (sym (cond-true (is_word_byte b) _ _ w) ∙ s) (sym (cond-true (is_word_byte b) _ _ w) ∙ t))
        (λ w. let u = sym (cond-false (is_word_byte b) _ _ w) ∙ s in let v = sym (cond-false (is_word_byte b) _ _ w) ∙ t in
        alike_if (b == 34) _ _ _ _ (λ q. name_alike bs [] (place_behind b p) depth (one_behind b p) (sym (cond-true (b == 34) _ _ q) ∙ u))
        (λ q. let x = sym (cond-false (b == 34) _ _ q) ∙ u in let y = sym (cond-false (b == 34) _ _ q) ∙ v in
        alike_if (b == 59) _ _ _ _ (λ c. comment_alike bs (place_behind b p) depth (sym (cond-true (b == 59) _ _ c) ∙ x) (sym (cond-true (b == 59) _ _ c) ∙ y)) (λ c. alike_same (stop BadToken p)))))))

    -- the place is reached in some state
    reached : (b : ℕ) (bs : List ℕ) (i : Inside) (depth : ℕ) → Off i → show_whole (b ∷ bs) back ≡ true → show_whole (b ∷ bs) other ≡ true
        → Alike (lexed_from (b ∷ (bs ++ back)) i p depth) (lexed_from (b ∷ (bs ++ other)) i p depth)
    reached b bs InBlank depth o s t = token_alike b bs depth s t
    reached b bs InComment depth o s t =
        alike_clear _ _ (clear_if (b == 10) _ _ (past (bs ++ back) InBlank (place_behind b p) depth (one_behind b p) tt) (past (bs ++ back) InComment (place_behind b p) depth (one_behind b p) tt))
    reached b bs (AfterSemicolon from) depth o s t =
        alike_clear _ _ (clear_if (b == 59) _ _ (past (bs ++ back) InComment (place_behind b p) depth (one_behind b p) tt) (clear_stop BadToken from o))
    reached b bs (InWord from w) depth o s t =
        alike_if (is_word_byte b) _ _ _ _
        (λ e. alike_clear _ _ (past (bs ++ back) (InWord from (b ∷ w)) (place_behind b p) depth (one_behind b p) o))
        (λ e. alike_before (Word (reverse w)) from _ _ (token_alike b bs depth s t))
    reached b bs (InName from n) depth o s t =
        alike_clear _ _
        (clear_if (b == 34) _ _
        (clear_if (is_name (reverse n)) _ _ (clear_before (Quoted (reverse n)) from _ o (past (bs ++ back) InBlank (place_behind b p) depth (one_behind b p) tt)) (clear_stop BadToken from o))
        (past (bs ++ back) (InName from (b ∷ n)) (place_behind b p) depth (one_behind b p) o))

    whole_reached : (shown : List ℕ) (i : Inside) (depth : ℕ) → Off i → show_whole shown back ≡ true → show_whole shown other ≡ true → Alike (lexed_from (shown ++ back) i p depth) (lexed_from (shown ++ other) i p depth)
    whole_reached [] i depth o s t = absurd (false≢true s)
    whole_reached (b ∷ bs) i depth o s t = reached b bs i depth o s t

    -- another byte before the place
    step : (c : ℕ) (text instead : List ℕ) (at : Place) (depth : ℕ) → Apart p at → ((i : Inside) (d : ℕ) → Off i → Alike (lexed_from text i (place_behind c at) d) (lexed_from instead i (place_behind c at) d))
        → (i : Inside) → Off i → Alike (lexed_from (c ∷ text) i at depth) (lexed_from (c ∷ instead) i at depth)
    step c text instead at depth off again InBlank o = alike_begun _ _ at depth c off again
    step c text instead at depth off again InComment o = alike_if (c == 10) _ _ _ _ (λ e. again InBlank depth tt) (λ e. again InComment depth tt)
    step c text instead at depth off again (AfterSemicolon from) o = alike_if (c == 59) _ _ _ _ (λ e. again InComment depth tt) (λ e. alike_same (stop BadToken from))
    step c text instead at depth off again (InWord from w) o =
        alike_if (is_word_byte c) _ _ _ _ (λ e. again (InWord from (c ∷ w)) depth o)
        (λ e. alike_before (Word (reverse w)) from _ _ (alike_begun _ _ at depth c off again))
    step c text instead at depth off again (InName from n) o =
        alike_if (c == 34) _ _ _ _
        (λ e. alike_if (is_name (reverse n)) _ _ _ _ (λ e. alike_before (Quoted (reverse n)) from _ _ (again InBlank depth tt)) (λ e. alike_same (stop BadToken from)))
        (λ e. again (InName from (c ∷ n)) depth o)

    pub alike : (shown front : List ℕ) (i : Inside) (at : Place) (depth : ℕ) → p ≡ place_after front at → Off i → show_whole shown back ≡ true → show_whole shown other ≡ true
        → Alike (lexed_from (front ++ (shown ++ back)) i at depth) (lexed_from (front ++ (shown ++ other)) i at depth)
    alike shown [] i at depth e o s t = subst (λ q. Alike (lexed_from (shown ++ back) i q depth) (lexed_from (shown ++ other) i q depth)) e (whole_reached shown i depth o s t)
    alike shown (c ∷ front) i at depth e o s t =
        step c (front ++ (shown ++ back)) (front ++ (shown ++ other)) at depth
        (subst (λ q. Apart q at) (sym e) (later_apart at (place_after (c ∷ front) at) (all_behind c front at)))
        (λ i d g. alike shown front i (place_behind c at) d e g s t) i o
