-- How a field begins, and what stands where none does.
use Rattle.std.proofs.Common.{◌≡◌, ◌∙◌, ℕ, suc, Bool, false, List, [], ◌∷◌, length, refl, sym, ap, subst, Result, Err, inl, inr}
use Rattle.std.specs.Prelude.{MatchResult}
use Rattle.std.specs.Result.{IsErrAnd}
use Rattle.std.proofs.lemmas.Bool.{cases_Bool}
use Rattle.std.proofs.lemmas.Result.{err_from_is_err_and}
use Rattle.rich_text.specs.Tokens.{Token, Opening, Closing, Word, Quoted, BadForm, same_word}
use Rattle.rich_text.specs.Lexing.{lexed}
use Rattle.rich_text.specs.Reading.{Stop, read_last}
use Rattle.rich_text.specs.Texts.{found}
use Rattle.rw_tokens.specs.declared.symbols.FirstFault.{FirstFault}
use Rattle.rw_tokens.specs.declared.symbols.Position.{Position}
use Rattle.rw_tokens.specs.declared.symbols.TextFault.TheVariants as fault
use Rattle.rw_tokens.specs.Streams.{BeginNotClosing, found_of}
use Rattle.rw_parser.specs.declared.errors.ReadError.{ReadError}
use Rattle.rw_parser.specs.declared.errors.ReadError.TheVariants.{Fault as a_fault}
use Rattle.rw_parser.specs.Reads.{ClosesParse, FailsAtStart, Parse, StopsAtStart, TookHead, TookWord, tokens_left}
use Rattle.rw_parser.proofs.Composing.{same_sound}
use Rattle.rw_field_forms.specs.declared.heads.FieldKind.{FieldKind}
use Rattle.rw_field_forms.specs.declared.heads.FieldStart.{FieldStart}
use Rattle.rw_field_forms.specs.declared.heads.FieldStart.TheVariants.{Field}
use Rattle.rw_field_forms.specs.Fields.{BeginNoField, FailsAtField, IsNoField, StartsField, field_word}

same_fault : (a b : FirstFault) → a_fault a ≡ a_fault b → a ≡ b
same_fault a b e = cc

pub handed_field : (old new : Parse) (r : Result FieldStart ReadError) (e : ReadError) → IsErrAnd r (λ y. y ≡ e) → FailsAtField old e → MatchResult r (StartsField old new) (FailsAtField old)
handed_field old new r e h g =
    let p = err_from_is_err_and r h in
    let P : Result FieldStart ReadError → Type 0 = λ s. MatchResult s (StartsField old new) (FailsAtField old) in
    let Q : ReadError → Type 0 = λ y. FailsAtField old y in
    subst P (sym p.1) (subst Q (sym p.2) g)

-- ---- tokens with which no field begins

no_begin : (ts : List Token) (e : Stop) → StopsAtStart ts e → BeginNoField ts
no_begin [] e h k = refl
no_begin (Word w ∷ ts) e h k = refl
no_begin (Closing ∷ ts) e h k = refl
no_begin (Quoted n ∷ ts) e h k = refl
no_begin (Opening ∷ []) e h k = refl
no_begin (Opening ∷ Opening ∷ ts) e h k = refl
no_begin (Opening ∷ Closing ∷ ts) e h k = refl
no_begin (Opening ∷ Quoted n ∷ ts) e h k = refl
no_begin (Opening ∷ Word w ∷ ts) e h k = absurd h

no_last : (ts : List Token) (e : Stop) → BeginNotClosing ts → StopsAtStart ts e → read_last ts ≡ Err e
no_last [] e c h = ap Err (sym h)
no_last (Word w ∷ ts) e c h = absurd h
no_last (Closing ∷ ts) e c h = absurd c
no_last (Quoted n ∷ ts) e c h = ap Err (sym h)
no_last (Opening ∷ []) e c h = ap Err (sym h)
no_last (Opening ∷ Opening ∷ ts) e c h = ap Err (sym h)
no_last (Opening ∷ Closing ∷ ts) e c h = ap Err (sym h)
no_last (Opening ∷ Quoted n ∷ ts) e c h = ap Err (sym h)
no_last (Opening ∷ Word w ∷ ts) e c h = absurd h

other_word : (w : List ℕ) (us : List Token) → IsNoField w → BeginNoField (Opening ∷ Word w ∷ us)
other_word w us h k =
    elim (cases_Bool (same_word w (field_word k))) [
      | inl e ↦ absurd (h k (same_sound w (field_word k) e))
      | inr e ↦ e
    ]

-- ---- where none begins

pub none_at_start : {old mid : Parse} {e : ReadError} → ClosesParse old mid false → FailsAtStart mid e → FailsAtField old e
none_at_start {old} {mid} {e} c h = record {
  failed = λ f q. let y = h.failed f q in record {
    stop = y.stop;
    none = let P : List Token → Type 0 = λ ts. BeginNoField ts in subst P (sym c.0) (no_begin (tokens_left mid) y.stop y.stops);
    reads = ap read_last c.0 ∙ no_last (tokens_left mid) y.stop (let P : List Token → Type 0 = λ ts. BeginNotClosing ts in subst P c.0 c.3) y.stops;
    place = ap (λ x. found (lexed x) y.stop) (sym c.1) ∙ y.place;
  };
}

pub word_at_start : {old mid new : Parse} {w : List ℕ} {at : Position} {e : ReadError} → ClosesParse old mid false → TookWord mid new w at → e ≡ a_fault (record { fault = fault.BadForm; at = at }) → FailsAtField old e
word_at_start {old} {mid} {new} {w} {at} {e} c t r = record {
  failed = λ f q. record {
    stop = record { fault = BadForm; left = suc (length (tokens_left new)) };
    none = let P : List Token → Type 0 = λ ts. BeginNoField ts in subst P (sym (c.0 ∙ t.tokens)) (λ k. refl);
    reads = ap read_last (c.0 ∙ t.tokens);
    place =
        ap (λ x. found (lexed x) (record { fault = BadForm; left = suc (length (tokens_left new)) })) (sym c.1)
        ∙ t.place BadForm
        ∙ ap found_of (same_fault (record { fault = fault.BadForm; at = at }) f (sym r ∙ q));
  };
}

pub unknown_at_start : {old mid new : Parse} {w : List ℕ} {at : Position} {e : ReadError} → ClosesParse old mid false → TookHead mid new w at → IsNoField w → e ≡ a_fault (record { fault = fault.BadForm; at = at })
    → FailsAtField old e
unknown_at_start {old} {mid} {new} {w} {at} {e} c t n r = record {
  failed = λ f q. record {
    stop = record { fault = BadForm; left = suc (length (tokens_left new)) };
    none = let P : List Token → Type 0 = λ ts. BeginNoField ts in subst P (sym (c.0 ∙ t.tokens)) (other_word w (tokens_left new) n);
    reads = ap read_last (c.0 ∙ t.tokens);
    place =
        ap (λ x. found (lexed x) (record { fault = BadForm; left = suc (length (tokens_left new)) })) (sym c.1)
        ∙ t.place BadForm
        ∙ ap found_of (same_fault (record { fault = fault.BadForm; at = at }) f (sym r ∙ q));
  };
}

-- ---- where one begins

pub field_at_start : {old mid new : Parse} {w : List ℕ} {at : Position} (k : FieldKind) → ClosesParse old mid false → TookHead mid new w at → w ≡ field_word k → StartsField old new (Field k at)
field_at_start {old} {mid} {new} {w} {at} k c t e =
    let P : List ℕ → Type 0 = λ v. TookHead mid new v at in
    let u = subst P e t in
    record {
      tokens = c.0 ∙ u.tokens;
      text = u.text ∙ c.1;
      depth = u.depth ∙ ap suc c.2;
      within = u.within;
      place = λ f. ap (λ x. found (lexed x) (record { fault = f; left = suc (length (tokens_left new)) })) (sym c.1) ∙ u.place f;
    }

-- ---- what a test told

pub closes_not : (old new : Parse) (b : Bool) → b ≡ false → ClosesParse old new b → ClosesParse old new false
closes_not old new b e c = let P : Bool → Type 0 = λ x. ClosesParse old new x in subst P e c

pub started_field : {old new : Parse} (x : FieldStart) (k : FieldKind) {at : Position} → x ≡ Field k at → StartsField old new x → TookHead old new (field_word k) at
started_field {old} {new} x k {at} e h = let P : FieldStart → Type 0 = λ y. StartsField old new y in subst P e h
