-- Every text is divided into its longest pieces, in one way, and lexed so.
use Rattle.std.proofs.Common.{◌≡◌, ◌∙◌, ℕ, zero, suc, ◌<◌, true, false, List, [], ◌∷◌, ◌++◌, length, refl, sym, ap, subst, inl, inr, arith, append_assoc, append-nil, length-append}
use Rattle.std.specs.Prelude.{◌⊎◌, ◌==◌, nat_lt}
use Rattle.std.specs.List.{list_all}
use Rattle.std.proofs.lemmas.Bool.{false≢true, cond-false, eqb-true, eq-eqb, ltb-true, ltb-false, le-ltb, and_from}
use Rattle.rich_text.specs.Tokens.{Opening, Closing, Word, Quoted, Fault, BadUtf8, BadToken, TooDeep, NumberOut, BadForm, Unended, is_word_byte, is_blank, is_name, nesting_limit}
use Rattle.rich_text.specs.Places.{Place, the_start, place_behind, place_after}
use Rattle.rich_text.specs.Lexing.{Lexed, InBlank, InComment, stop, before, lexed_from}
use Rattle.rich_text_token_laws.specs.Pieces.{Piece, Blank, Comment, Lone, free_of, Writes, IsLongest, MayStand, EndsTokens, open_past, with_piece, IsDivided}
use Rattle.rich_text_token_laws.specs.Laws.{LexedAreTokens, NoOtherTokens}
use Rattle.rich_text_token_laws.proofs.Begun.{by_test, never, head_one, tail_one, other, no_blank, begins, at_front, same_parts, never_free, Parted, parted, spanned}
use Rattle.rich_text_token_laws.proofs.Longest.{name_parts, single, word_longest, quoted_longest, line_longest, last_longest}
use Rattle.rich_text_token_laws.proofs.Steps.{step, name_run, name_open}

-- what a text begins with: a piece, or what ends the tokens
data First (depth : ℕ) (text : List ℕ) : Type 0 where
  ends : (fault : Fault) → EndsTokens depth text fault → ((at : Place) → lexed_from text InBlank at depth ≡ stop fault at) → First depth text
  piece : (p : Piece) (b : ℕ) (fs back : List ℕ) → text ≡ b ∷ (fs ++ back) → Writes p (b ∷ fs) → IsLongest (b ∷ fs) back → MayStand depth p → First depth text

-- bytes that begin nothing
nothing : (b : ℕ) (bs : List ℕ) → ((p : Piece) (fs back : List ℕ) → bs ≡ fs ++ back → Writes p (b ∷ fs) → ⊥) → EndsTokens 0 (b ∷ bs) BadToken
nothing b bs h = (λ e. not_empty e, λ p front back e w. let f = at_front p b bs front back e w in h p f.0 back f.2 f.3)
  where
    not_empty : b ∷ bs ≡ [] → ⊥
    not_empty e = absurd (cc e)

-- ---- by the first byte

blank_first : (depth b : ℕ) (bs : List ℕ) → is_blank b ≡ true → First depth (b ∷ bs)
blank_first depth b bs h =
    let apart : is_word_byte b ≡ false = by_test (is_word_byte b) (λ e. never h (no_blank b e)) (λ e. e) in
    piece Blank b [] bs refl (b, h, refl) (λ p more rest e g. single b apart (other is_blank b 34 h refl) (other is_blank b 59 h refl) p more g) tt

opening_first : (depth : ℕ) (bs : List ℕ) → First depth (40 ∷ bs)
opening_first depth bs =
    by_test (nat_lt depth nesting_limit)
    (λ e. piece (Lone Opening) 40 [] bs refl refl (λ p more rest q g. single 40 refl refl refl p more g) (ltb-true depth nesting_limit e))
    (λ e. ends TooDeep (bs, refl, ltb-false depth nesting_limit e) (λ at. cond-false (nat_lt depth nesting_limit) (before Opening at (lexed_from bs InBlank (place_behind 40 at) (suc depth))) (stop TooDeep at) e))

closing_first : (depth : ℕ) (bs : List ℕ) → First depth (41 ∷ bs)
closing_first depth bs = piece (Lone Closing) 41 [] bs refl refl (λ p more rest q g. single 41 refl refl refl p more g) tt

word_first : (depth b : ℕ) (bs : List ℕ) → is_word_byte b ≡ true → First depth (b ∷ bs)
word_first depth b bs h =
    let s = spanned bs in
    piece (Lone (Word (b ∷ s.word))) b s.word s.back (ap (λ xs. b ∷ xs) s.is) (and_from (is_word_byte b) (list_all is_word_byte s.word) h s.all, refl) (word_longest b s.word s.back h s.apart) tt

-- a name that is not closed, or that is none
unclosed : (p : Piece) (bs fs back : List ℕ) → free_of 34 bs ≡ true → bs ≡ fs ++ back → Writes p (34 ∷ fs) → ⊥
unclosed Blank bs fs back f e g = false≢true (begins Blank 34 fs g)
unclosed Comment bs fs back f e g = false≢true (eq-eqb 34 59 (begins Comment 34 fs g))
unclosed (Lone Opening) bs fs back f e g = false≢true (eq-eqb 34 40 (begins (Lone Opening) 34 fs g))
unclosed (Lone Closing) bs fs back f e g = false≢true (eq-eqb 34 41 (begins (Lone Closing) 34 fs g))
unclosed (Lone (Word v)) bs fs back f e g = false≢true (begins (Lone (Word v)) 34 fs g)
unclosed (Lone (Quoted m)) bs fs back f e g = never_free 34 m back (sym (ap (free_of 34) (e ∙ shown)) ∙ f)
  where
    shown : fs ++ back ≡ m ++ 34 ∷ back
    shown = ap (λ xs. xs ++ back) (tail_one 34 34 fs (m ++ 34 ∷ []) g.1) ∙ append_assoc m (34 ∷ []) back

no_name : (p : Piece) (n rest fs back : List ℕ) → free_of 34 n ≡ true → is_name n ≡ false → n ++ 34 ∷ rest ≡ fs ++ back → Writes p (34 ∷ fs) → ⊥
no_name Blank n rest fs back f h e g = false≢true (begins Blank 34 fs g)
no_name Comment n rest fs back f h e g = false≢true (eq-eqb 34 59 (begins Comment 34 fs g))
no_name (Lone Opening) n rest fs back f h e g = false≢true (eq-eqb 34 40 (begins (Lone Opening) 34 fs g))
no_name (Lone Closing) n rest fs back f h e g = false≢true (eq-eqb 34 41 (begins (Lone Closing) 34 fs g))
no_name (Lone (Word v)) n rest fs back f h e g = false≢true (begins (Lone (Word v)) 34 fs g)
no_name (Lone (Quoted m)) n rest fs back f h e g =
    let same = same_parts 34 n m rest back f (name_parts m g.0) (e ∙ ap (λ xs. xs ++ back) (tail_one 34 34 fs (m ++ 34 ∷ []) g.1) ∙ append_assoc m (34 ∷ []) back) in
    false≢true (sym h ∙ ap is_name same.0 ∙ g.0)

name_first : (depth : ℕ) (bs : List ℕ) → First depth (34 ∷ bs)
name_first depth bs = by_parts (parted 34 bs)
  where
    closed : (n back : List ℕ) → free_of 34 n ≡ true → First depth (34 ∷ (n ++ 34 ∷ back))
    closed n back f =
        by_test (is_name n)
        (λ e. piece (Lone (Quoted n)) 34 (n ++ 34 ∷ []) back (ap (λ xs. 34 ∷ xs) (sym (append_assoc n (34 ∷ []) back))) (e, refl) (quoted_longest n back f) tt)
        (λ e. ends BadToken (nothing 34 (n ++ 34 ∷ back) (λ p fs rest q g. no_name p n back fs rest f e q g))
        (λ at. name_run at (place_behind 34 at) [] n back depth f ∙ cond-false (is_name n) (before (Quoted n) at (lexed_from back InBlank (place_after (n ++ 34 ∷ []) (place_behind 34 at)) depth)) (stop BadToken at) e))

    by_parts : Parted 34 bs ⊎ (free_of 34 bs ≡ true) → First depth (34 ∷ bs)
    by_parts (inl h) = subst (λ xs. First depth (34 ∷ xs)) (sym h.is) (closed h.front h.back h.free)
    by_parts (inr h) = ends BadToken (nothing 34 bs (λ p fs back e g. unclosed p bs fs back h e g)) (λ at. name_open at (place_behind 34 at) [] bs depth h)

-- a `;` alone
alone : (p : Piece) (bs fs back : List ℕ) → ((c : ℕ) (cs : List ℕ) → bs ≡ c ∷ cs → (c == 59) ≡ false) → bs ≡ fs ++ back → Writes p (59 ∷ fs) → ⊥
alone Blank bs fs back f e g = false≢true (begins Blank 59 fs g)
alone Comment bs fs back f e (c, h, inl g) = never refl (f 59 (c ++ back) (e ∙ ap (λ xs. xs ++ back) (tail_one 59 59 fs (59 ∷ c) g)))
alone Comment bs fs back f e (c, h, inr g) = never refl (f 59 ((c ++ 10 ∷ []) ++ back) (e ∙ ap (λ xs. xs ++ back) (tail_one 59 59 fs (59 ∷ (c ++ 10 ∷ [])) g)))
alone (Lone Opening) bs fs back f e g = false≢true (eq-eqb 59 40 (begins (Lone Opening) 59 fs g))
alone (Lone Closing) bs fs back f e g = false≢true (eq-eqb 59 41 (begins (Lone Closing) 59 fs g))
alone (Lone (Word v)) bs fs back f e g = false≢true (begins (Lone (Word v)) 59 fs g)
alone (Lone (Quoted m)) bs fs back f e g = false≢true (eq-eqb 59 34 (begins (Lone (Quoted m)) 59 fs g))

comment_first : (depth : ℕ) (bs : List ℕ) → First depth (59 ∷ 59 ∷ bs)
comment_first depth bs = by_parts (parted 10 bs)
  where
    whole : (c back : List ℕ) → free_of 10 c ≡ true → First depth (59 ∷ 59 ∷ (c ++ 10 ∷ back))
    whole c back f = piece Comment 59 (59 ∷ (c ++ 10 ∷ [])) back (ap (λ xs. 59 ∷ 59 ∷ xs) (sym (append_assoc c (10 ∷ []) back))) (c, f, inr refl) (line_longest c back f) tt

    by_parts : Parted 10 bs ⊎ (free_of 10 bs ≡ true) → First depth (59 ∷ 59 ∷ bs)
    by_parts (inl h) = subst (λ xs. First depth (59 ∷ 59 ∷ xs)) (sym h.is) (whole h.front h.back h.free)
    by_parts (inr h) = piece Comment 59 (59 ∷ bs) [] (ap (λ xs. 59 ∷ 59 ∷ xs) (sym (append-nil bs))) (bs, h, inl refl) (last_longest (59 ∷ 59 ∷ bs)) tt

semicolon_first : (depth : ℕ) (bs : List ℕ) → First depth (59 ∷ bs)
semicolon_first depth [] = ends BadToken (nothing 59 [] (λ p fs back e g. alone p [] fs back (λ c cs q. absurd (cc q)) e g)) (λ at. refl)
semicolon_first depth (c ∷ bs) =
    by_test (c == 59) (λ e. subst (λ x. First depth (59 ∷ x ∷ bs)) (sym (eqb-true c 59 e)) (comment_first depth bs))
    (λ e. ends BadToken (nothing 59 (c ∷ bs) (λ p fs back q g. alone p (c ∷ bs) fs back (λ d ds r. sym (ap (λ x. x == 59) (head_one c d bs ds r)) ∙ e) q g))
    (λ at. cond-false (c == 59) (lexed_from bs InComment (place_behind c (place_behind 59 at)) depth) (stop BadToken at) e))

-- any other byte
stray : (p : Piece) (b : ℕ) (fs : List ℕ) → is_blank b ≡ false → (b == 40) ≡ false → (b == 41) ≡ false → is_word_byte b ≡ false → (b == 34) ≡ false → (b == 59) ≡ false → Writes p (b ∷ fs) → ⊥
stray Blank b fs l o c w q s g = never (begins Blank b fs g) l
stray Comment b fs l o c w q s g = never (eq-eqb b 59 (begins Comment b fs g)) s
stray (Lone Opening) b fs l o c w q s g = never (eq-eqb b 40 (begins (Lone Opening) b fs g)) o
stray (Lone Closing) b fs l o c w q s g = never (eq-eqb b 41 (begins (Lone Closing) b fs g)) c
stray (Lone (Word v)) b fs l o c w q s g = never (begins (Lone (Word v)) b fs g) w
stray (Lone (Quoted m)) b fs l o c w q s g = never (eq-eqb b 34 (begins (Lone (Quoted m)) b fs g)) q

first : (depth : ℕ) (text : List ℕ) → First depth text
first depth [] = ends Unended refl (λ at. refl)
first depth (b ∷ bs) =
    by_test (is_blank b) (λ e. blank_first depth b bs e)
    (λ l. by_test (b == 40) (λ e. subst (λ x. First depth (x ∷ bs)) (sym (eqb-true b 40 e)) (opening_first depth bs))
    (λ o. by_test (b == 41) (λ e. subst (λ x. First depth (x ∷ bs)) (sym (eqb-true b 41 e)) (closing_first depth bs))
    (λ c. by_test (is_word_byte b) (λ e. word_first depth b bs e)
    (λ w. by_test (b == 34) (λ e. subst (λ x. First depth (x ∷ bs)) (sym (eqb-true b 34 e)) (name_first depth bs))
    (λ q. by_test (b == 59) (λ e. subst (λ x. First depth (x ∷ bs)) (sym (eqb-true b 59 e)) (semicolon_first depth bs))
    (λ s. ends BadToken (nothing b bs (λ p fs back e g. stray p b fs l o c w q s g))
    (λ at. cond-false (is_blank b) _ _ l ∙ cond-false (b == 40) _ _ o ∙ cond-false (b == 41) _ _ c ∙ cond-false (is_word_byte b) _ _ w ∙ cond-false (b == 34) _ _ q ∙ cond-false (b == 59) _ _ s)))))))

-- ---- what ends the tokens

in_text : (text back : List ℕ) (b : ℕ) (fs : List ℕ) → text ≡ b ∷ (fs ++ back) → text ≡ [] → ⊥
in_text text back b fs e h = absurd (cc (sym e ∙ h))

-- a piece that begins with `(` is one, where it may stand
not_deep : (p : Piece) (depth b : ℕ) (fs : List ℕ) → b ≡ 40 → Writes p (b ∷ fs) → MayStand depth p → depth < nesting_limit
not_deep Blank depth b fs e g m = absurd (false≢true (sym (ap is_blank e) ∙ begins Blank b fs g))
not_deep Comment depth b fs e g m = absurd (false≢true (eq-eqb 40 59 (sym e ∙ begins Comment b fs g)))
not_deep (Lone Opening) depth b fs e g m = m
not_deep (Lone Closing) depth b fs e g m = absurd (false≢true (eq-eqb 40 41 (sym e ∙ begins (Lone Closing) b fs g)))
not_deep (Lone (Word v)) depth b fs e g m = absurd (false≢true (sym (ap is_word_byte e) ∙ begins (Lone (Word v)) b fs g))
not_deep (Lone (Quoted n)) depth b fs e g m = absurd (false≢true (eq-eqb 40 34 (sym e ∙ begins (Lone (Quoted n)) b fs g)))

abbrev Stops : ℕ → List ℕ → Fault → Type 0
Stops depth text fault = (at : Place) → lexed_from text InBlank at depth ≡ stop fault at

stops_bad : (depth : ℕ) (text : List ℕ) → EndsTokens depth text BadToken → First depth text → Stops depth text BadToken
stops_bad depth text e (piece p b fs back is w l m) = absurd (e.1 p (b ∷ fs) back is w)
stops_bad depth text e (ends BadToken g s) = s
stops_bad depth text e (ends Unended g s) = absurd (e.0 g)
stops_bad depth text e (ends TooDeep g s) = absurd (e.1 (Lone Opening) (40 ∷ []) g.0 g.1 refl)
stops_bad depth text e (ends BadUtf8 g s) = absurd g
stops_bad depth text e (ends NumberOut g s) = absurd g
stops_bad depth text e (ends BadForm g s) = absurd g

stops : (depth : ℕ) (text : List ℕ) (fault : Fault) → EndsTokens depth text fault → Stops depth text fault
stops depth text Unended e at = ap (λ bs. lexed_from bs InBlank at depth) e
stops depth text BadToken e at = stops_bad depth text e (first depth text) at
stops depth text TooDeep e at =
    ap (λ bs. lexed_from bs InBlank at depth) e.1
    ∙ cond-false (nat_lt depth nesting_limit) (before Opening at (lexed_from e.0 InBlank (place_behind 40 at) (suc depth))) (stop TooDeep at) (le-ltb depth nesting_limit e.2)
stops depth text BadUtf8 e at = absurd e
stops depth text NumberOut e at = absurd e
stops depth text BadForm e at = absurd e

-- ---- the whole

only : (ps : List (Piece × List ℕ)) (text : List ℕ) (at : Place) (depth : ℕ) (l : Lexed) → IsDivided ps text at depth l → l ≡ lexed_from text InBlank at depth
only [] text at depth l d = d.2 ∙ sym (stops depth text d.0 d.1 at)
only (p ∷ ps) text at depth l (back, rest, is, w, long, may, same, more) =
    same ∙ ap (with_piece p.0 at) (only ps back (place_after p.1 at) (open_past p.0 depth) rest more)
    ∙ sym (ap (λ bs. lexed_from bs InBlank at depth) is ∙ step p.0 p.1 back at depth w long may)

pub no_other_tokens : NoOtherTokens
no_other_tokens bytes l d = only d.0 bytes the_start 0 l d.1

abbrev Division : List ℕ → Place → ℕ → Type 0
Division text at depth = (ps : List (Piece × List ℕ)) × IsDivided ps text at depth (lexed_from text InBlank at depth)

divided : (fuel : ℕ) (text : List ℕ) (at : Place) (depth : ℕ) → length text < fuel → Division text at depth
divided zero text at depth h = absurd (omega (arith, h))
divided (suc fuel) text at depth h = by_first (first depth text)
    (λ b fs back is p. divided fuel back (place_after (b ∷ fs) at) (open_past p depth) (let e : length back < fuel = omega (arith, h, ap length is, length-append fs back) in e))
  where
    by_first : First depth text → ((b : ℕ) (fs back : List ℕ) → text ≡ b ∷ (fs ++ back) → (p : Piece) → Division back (place_after (b ∷ fs) at) (open_past p depth)) → Division text at depth
    by_first (ends fault e s) again = ([], (fault, e, s at))
    by_first (piece p b fs back is w long may) again =
        let more = again b fs back is p in (
          (p, b ∷ fs) ∷ more.0,
          (
            back,
            lexed_from back InBlank (place_after (b ∷ fs) at) (open_past p depth),
            is,
            w,
            long,
            may,
            ap (λ bs. lexed_from bs InBlank at depth) is ∙ step p (b ∷ fs) back at depth w long may,
            more.1,
          ),
        )

pub lexed_are_tokens : LexedAreTokens
lexed_are_tokens bytes = divided (suc (length bytes)) bytes the_start 0 (omega arith)
