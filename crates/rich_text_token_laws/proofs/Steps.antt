-- Reading byte by byte past one piece, and up to what ends the tokens.
use Rattle.std.proofs.Common.{◌≡◌, ◌∙◌, ℕ, suc, Bool, true, false, List, [], ◌∷◌, ◌++◌, refl, sym, ap, subst, inl, inr, append_assoc, append-nil}
use Rattle.std.specs.Prelude.{if◌then◌else◌, ◌==◌, ◌&&◌, nat_lt, nat_le, length, reverse}
use Rattle.std.specs.List.{list_all}
use Rattle.std.proofs.lemmas.List.{reverse-append}
use Rattle.std.proofs.lemmas.Bool.{cond-true, cond-false, lt-ltb, eqb-true, and_parts, and_from}
use Rattle.rich_text.specs.Tokens.{Opening, Closing, Word, Quoted, TooDeep, BadToken, Unended, is_word_byte, is_blank, is_name_byte, is_name, nesting_limit}
use Rattle.rich_text.specs.Places.{Place, place_behind, place_after}
use Rattle.rich_text.specs.Lexing.{Lexed, Inside, InBlank, InComment, InWord, InName, stop, before, begun, lexed_from}
use Rattle.rich_text_token_laws.specs.Pieces.{Piece, Blank, Comment, Lone, free_of, Writes, IsLongest, MayStand, open_past, with_piece}
use Rattle.rich_text_token_laws.proofs.Begun.{other, no_blank, free_one, free_more, name_free, StartApart}

pub turned : (b : ℕ) (passed bs : List ℕ) → reverse (b ∷ passed) ++ bs ≡ reverse passed ++ b ∷ bs
turned b passed bs = ap (λ xs. xs ++ bs) (reverse-append (b ∷ []) passed) ∙ append_assoc (reverse passed) (b ∷ []) bs

-- ---- words

word_end : (from at : Place) (passed r : List ℕ) (depth : ℕ) → StartApart r → lexed_from r (InWord from passed) at depth ≡ before (Word (reverse passed)) from (lexed_from r InBlank at depth)
word_end from at passed [] depth h = refl
word_end from at passed (c ∷ r) depth h =
    cond-false (is_word_byte c) (lexed_from r (InWord from (c ∷ passed)) (place_behind c at) depth) (before (Word (reverse passed)) from (begun (λ i. lexed_from r i (place_behind c at)) at depth c)) h

word_rest : (from at : Place) (passed bs r : List ℕ) (depth : ℕ) → list_all is_word_byte bs ≡ true → StartApart r
    → lexed_from (bs ++ r) (InWord from passed) at depth ≡ before (Word (reverse passed ++ bs)) from (lexed_from r InBlank (place_after bs at) depth)
word_rest from at passed [] r depth h g = word_end from at passed r depth g ∙ ap (λ w. before (Word w) from (lexed_from r InBlank at depth)) (sym (append-nil (reverse passed)))
word_rest from at passed (b ∷ bs) r depth h g =
    let p = and_parts (is_word_byte b) (list_all is_word_byte bs) h in
    cond-true (is_word_byte b) (lexed_from (bs ++ r) (InWord from (b ∷ passed)) (place_behind b at) depth) (before (Word (reverse passed)) from (begun (λ i. lexed_from (bs ++ r) i (place_behind b at)) at depth b)) p.0
    ∙ word_rest from (place_behind b at) (b ∷ passed) bs r depth p.1 g
    ∙ ap (λ w. before (Word w) from (lexed_from r InBlank (place_after bs (place_behind b at)) depth)) (turned b passed bs)

word_begun : (go : Inside → ℕ → Lexed) (at : Place) (depth b : ℕ) → is_word_byte b ≡ true → begun go at depth b ≡ go (InWord at (b ∷ [])) depth
word_begun go at depth b h =
    cond-false (is_blank b) _ _ (no_blank b h)
    ∙ cond-false (b == 40) _ _ (other is_word_byte b 40 h refl)
    ∙ cond-false (b == 41) _ _ (other is_word_byte b 41 h refl)
    ∙ cond-true (is_word_byte b) _ _ h

-- ---- names

pub name_run : (from at : Place) (passed n r : List ℕ) (depth : ℕ) → free_of 34 n ≡ true → lexed_from (n ++ 34 ∷ r) (InName from passed) at depth
    ≡ (if is_name (reverse passed ++ n) then before (Quoted (reverse passed ++ n)) from (lexed_from r InBlank (place_after (n ++ 34 ∷ []) at) depth) else stop BadToken from)
name_run from at passed [] r depth h =
    ap (λ n. if is_name n then before (Quoted n) from (lexed_from r InBlank (place_behind 34 at) depth) else stop BadToken from) (sym (append-nil (reverse passed)))
name_run from at passed (b ∷ n) r depth h =
    let p = free_one 34 b n h in
    cond-false (b == 34) _ (lexed_from (n ++ 34 ∷ r) (InName from (b ∷ passed)) (place_behind b at) depth) p.0
    ∙ name_run from (place_behind b at) (b ∷ passed) n r depth p.1
    ∙ ap (λ w. if is_name w then before (Quoted w) from (lexed_from r InBlank (place_after (n ++ 34 ∷ []) (place_behind b at)) depth) else stop BadToken from) (turned b passed n)

pub name_open : (from at : Place) (passed n : List ℕ) (depth : ℕ) → free_of 34 n ≡ true → lexed_from n (InName from passed) at depth ≡ stop BadToken from
name_open from at passed [] depth h = refl
name_open from at passed (b ∷ n) depth h =
    let p = free_one 34 b n h in
    cond-false (b == 34) _ (lexed_from n (InName from (b ∷ passed)) (place_behind b at) depth) p.0 ∙ name_open from (place_behind b at) (b ∷ passed) n depth p.1

-- ---- comments

line_run : (c r : List ℕ) (at : Place) (depth : ℕ) → free_of 10 c ≡ true → lexed_from (c ++ 10 ∷ r) InComment at depth ≡ lexed_from r InBlank (place_after (c ++ 10 ∷ []) at) depth
line_run [] r at depth h = refl
line_run (b ∷ c) r at depth h =
    let p = free_one 10 b c h in
    cond-false (b == 10) (lexed_from (c ++ 10 ∷ r) InBlank (place_behind b at) depth) (lexed_from (c ++ 10 ∷ r) InComment (place_behind b at) depth) p.0
    ∙ line_run c r (place_behind b at) depth p.1

line_open : (c : List ℕ) (at : Place) (depth : ℕ) → free_of 10 c ≡ true → lexed_from c InComment at depth ≡ stop Unended (place_after c at)
line_open [] at depth h = refl
line_open (b ∷ c) at depth h =
    let p = free_one 10 b c h in
    cond-false (b == 10) (lexed_from c InBlank (place_behind b at) depth) (lexed_from c InComment (place_behind b at) depth) p.0 ∙ line_open c (place_behind b at) depth p.1

-- ---- a piece that is as long as it can be

-- no word byte stands behind a word
word_apart : (b : ℕ) (w back : List ℕ) → list_all is_word_byte (b ∷ w) ≡ true → IsLongest (b ∷ w) back → StartApart back
word_apart b w [] h l = tt
word_apart b w (c ∷ back) h l = by_byte (is_word_byte c) refl
  where
    all_on : (w : List ℕ) → list_all is_word_byte w ≡ true → is_word_byte c ≡ true → list_all is_word_byte (w ++ c ∷ []) ≡ true
    all_on [] h e = and_from (is_word_byte c) true e refl
    all_on (b ∷ w) h e = let p = and_parts (is_word_byte b) (list_all is_word_byte w) h in and_from (is_word_byte b) (list_all is_word_byte (w ++ c ∷ [])) p.0 (all_on w p.1 e)

    none : c ∷ [] ≡ [] → ⊥
    none e = absurd (cc e)

    by_byte : (t : Bool) → is_word_byte c ≡ t → is_word_byte c ≡ false
    by_byte false e = e
    by_byte true e = absurd (none (l (Lone (Word (b ∷ (w ++ c ∷ [])))) (c ∷ []) back refl (all_on (b ∷ w) h e, refl)))

-- only a text's end stands behind a comment without its line's end
line_ends : (c back : List ℕ) → free_of 10 c ≡ true → IsLongest (59 ∷ 59 ∷ c) back → back ≡ []
line_ends c [] h l = refl
line_ends c (b ∷ back) h l = absurd (none (l Comment (b ∷ []) back refl (by_byte (b == 10) refl)))
  where
    none : b ∷ [] ≡ [] → ⊥
    none e = absurd (cc e)

    free_on : (c : List ℕ) → free_of 10 c ≡ true → (b == 10) ≡ false → free_of 10 (c ++ b ∷ []) ≡ true
    free_on [] h e = free_more 10 b [] e refl
    free_on (a ∷ c) h e = let p = free_one 10 a c h in free_more 10 a (c ++ b ∷ []) p.0 (free_on c p.1 e)

    by_byte : (t : Bool) → (b == 10) ≡ t → Writes Comment (59 ∷ 59 ∷ (c ++ b ∷ []))
    by_byte true e = (c, h, inr (ap (λ x. 59 ∷ 59 ∷ (c ++ x ∷ [])) (eqb-true b 10 e)))
    by_byte false e = (c ++ b ∷ [], free_on c h e, inl refl)

abbrev Steps : Piece → List ℕ → List ℕ → Place → ℕ → Type 0
Steps p front back at depth = lexed_from (front ++ back) InBlank at depth ≡ with_piece p at (lexed_from back InBlank (place_after front at) (open_past p depth))

quoted_step : (n back : List ℕ) (at : Place) (depth : ℕ) → is_name n ≡ true → Steps (Lone (Quoted n)) (34 ∷ (n ++ 34 ∷ [])) back at depth
quoted_step n back at depth h =
    ap (λ bs. lexed_from bs (InName at []) (place_behind 34 at) depth) (append_assoc n (34 ∷ []) back)
    ∙ name_run at (place_behind 34 at) [] n back depth (name_free n (and_parts (nat_lt 0 (length n) && nat_le (length n) 64) (list_all is_name_byte n) h).1)
    ∙ cond-true (is_name n) (before (Quoted n) at (lexed_from back InBlank (place_after (n ++ 34 ∷ []) (place_behind 34 at)) depth)) (stop BadToken at) h

comment_step : (c back : List ℕ) (at : Place) (depth : ℕ) → free_of 10 c ≡ true → Steps Comment (59 ∷ 59 ∷ (c ++ 10 ∷ [])) back at depth
comment_step c back at depth h =
    let behind = place_behind 59 (place_behind 59 at) in
    ap (λ bs. lexed_from bs InComment behind depth) (append_assoc c (10 ∷ []) back) ∙ line_run c back behind depth h

last_step : (c back : List ℕ) (at : Place) (depth : ℕ) → free_of 10 c ≡ true → back ≡ [] → Steps Comment (59 ∷ 59 ∷ c) back at depth
last_step c back at depth h e =
    subst (λ bs. Steps Comment (59 ∷ 59 ∷ c) bs at depth) (sym e)
    (ap (λ bs. lexed_from bs InComment (place_behind 59 (place_behind 59 at)) depth) (append-nil c) ∙ line_open c (place_behind 59 (place_behind 59 at)) depth h)

pub step : (p : Piece) (front back : List ℕ) (at : Place) (depth : ℕ) → Writes p front → IsLongest front back → MayStand depth p → Steps p front back at depth
step Blank front back at depth w l m = subst (λ bs. Steps Blank bs back at depth) (sym w.2) (cond-true (is_blank w.0) _ _ w.1)
step Comment front back at depth (c, h, inl e) l m = subst (λ bs. Steps Comment bs back at depth) (sym e) (last_step c back at depth h (line_ends c back h (subst (λ bs. IsLongest bs back) e l)))
step Comment front back at depth (c, h, inr e) l m = subst (λ bs. Steps Comment bs back at depth) (sym e) (comment_step c back at depth h)
step (Lone Opening) front back at depth w l m =
    subst (λ bs. Steps (Lone Opening) bs back at depth) (sym w)
    (cond-true (nat_lt depth nesting_limit) (before Opening at (lexed_from back InBlank (place_behind 40 at) (suc depth))) (stop TooDeep at) (lt-ltb depth nesting_limit m))
step (Lone Closing) front back at depth w l m = subst (λ bs. Steps (Lone Closing) bs back at depth) (sym w) refl
step (Lone (Word [])) front back at depth w l m = absurd w
step (Lone (Word (b ∷ bs))) front back at depth w l m =
    let q = and_parts (is_word_byte b) (list_all is_word_byte bs) w.0 in
    subst (λ us. Steps (Lone (Word (b ∷ bs))) us back at depth) (sym w.1)
    (word_begun (λ i. lexed_from (bs ++ back) i (place_behind b at)) at depth b q.0
    ∙ word_rest at (place_behind b at) (b ∷ []) bs back depth q.1 (word_apart b bs back w.0 (subst (λ us. IsLongest us back) w.1 l)))
step (Lone (Quoted n)) front back at depth w l m = subst (λ bs. Steps (Lone (Quoted n)) bs back at depth) (sym w.1) (quoted_step n back at depth w.0)
