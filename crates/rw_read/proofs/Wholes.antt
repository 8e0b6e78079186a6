-- A whole text: its module, what stands behind it, and where its faults stand.
use Rattle.std.proofs.Common.{◌≡◌, ◌∙◌, ℕ, suc, ◌-◌, true, false, List, [], ◌∷◌, length, refl, sym, ap, subst, arith, Option, None, Some, Result, Ok, Err, inl, inr}
use Rattle.std.specs.Prelude.{MatchOption, MatchResult, ◌==◌, codes}
use Rattle.std.specs.Option.{option_map}
use Rattle.std.specs.Result.{IsErrAnd}
use Rattle.std.proofs.lemmas.Bool.{cases_Bool, cond-true, cond-false, false≢true, ne_eqb}
use Rattle.std.proofs.lemmas.Result.{err_from_is_err_and}
use Rattle.rw_types.specs.declared.modules.Module.{Module}
use Rattle.rich_text.specs.Forms.{module_form}
use Rattle.rich_text.specs.Tokens.{Token, Opening, Closing, Word, Quoted, Fault, BadUtf8, BadToken, TooDeep, NumberOut, BadForm, Unended, nesting_limit, same_word}
use Rattle.rich_text.specs.Places.{the_start}
use Rattle.rich_text.specs.Utf8.{ill_formed}
use Rattle.rich_text.specs.Lexing.{Lexed, lexed}
use Rattle.rich_text.specs.Grammars.{a_form}
use Rattle.rich_text.specs.Reading.{Stop, read_part}
use Rattle.rich_text.specs.Texts.{Found, found, grammar_by, grammar_of, if_encoded, nothing_behind, or_first, reading, reading_tokens, third, whole}
use Rattle.rich_text.specs.FirstVersion.{first_version}
use Rattle.rich_text_laws.proofs.Whole.{never_both, one_module, read_is_spelled}
use Rattle.rw_tokens.specs.declared.symbols.FirstFault.{FirstFault}
use Rattle.rw_tokens.specs.declared.symbols.Position.{Position}
use Rattle.rw_tokens.specs.declared.symbols.TextFault.{TextFault as TokenFault}
use Rattle.rw_tokens.specs.declared.symbols.TextFault.TheVariants as token
use Rattle.rw_tokens.specs.Streams.{fault_of, found_of, place_of}
use Rattle.rw_parser.specs.declared.errors.ReadError.{ReadError}
use Rattle.rw_parser.specs.declared.errors.ReadError.TheVariants as read
use Rattle.rw_parser.specs.Reads.{Fails, FailsAtWord, Gave, Parse, StopsAtWord, TookWord, a_part, tokens_left}
use Rattle.rw_read.specs.declared.errors.TextError.{TextError}
use Rattle.rw_read.specs.declared.errors.TextFault.{TextFault}
use Rattle.rw_read.specs.declared.errors.TextFault.TheVariants as fault
use Rattle.rw_read.specs.Reading.{EndsHere, FailsBehind, FailsWhole, IsTheOnly, ReadsWhole, SpellsNone, Tells, TellsFound, TellsOf, ends, fault_in, is_end}

same_fault : (a b : FirstFault) → read.Fault a ≡ read.Fault b → a ≡ b
same_fault a b e = cc

-- ---- the grammar of a text

grammar_is_by : (t : Option Token) → grammar_by t ≡ first_version
grammar_is_by None = refl
grammar_is_by (Some Opening) = refl
grammar_is_by (Some Closing) = refl
grammar_is_by (Some (Quoted n)) = refl
grammar_is_by (Some (Word w)) =
    elim (cases_Bool (same_word (codes "1") w)) [
      | inl e ↦ ap or_first (cond-true (same_word (codes "1") w) (Some first_version) None e)
      | inr e ↦ ap or_first (cond-false (same_word (codes "1") w) (Some first_version) None e)
    ]

grammar_is : (ts : List Token) → grammar_of ts ≡ first_version
grammar_is ts = grammar_is_by (third ts)

-- ---- what stands behind the module

not_end : (s : Lexed) (m : Module) (x : Fault) → (x ≡ Unended → ⊥) → nothing_behind s m [] x ≡ Err (record { fault = x; at = s.at })
not_end s m BadUtf8 h = refl
not_end s m BadToken h = refl
not_end s m TooDeep h = refl
not_end s m NumberOut h = refl
not_end s m BadForm h = refl
not_end s m Unended h = absurd (h refl)

-- a text that ended is told so
end_told : (f : TokenFault) → ends f ≡ true → fault_of f ≡ Unended
end_told token.Unended e = refl
end_told token.BadUtf8 e = absurd (false≢true e)
end_told token.BadToken e = absurd (false≢true e)
end_told token.BadForm e = absurd (false≢true e)
end_told token.NumberOut e = absurd (false≢true e)
end_told token.TooDeep e = absurd (false≢true e)

other_told : (f : TokenFault) → ends f ≡ false → fault_of f ≡ Unended → ⊥
other_told token.Unended e h = false≢true (sym e)
other_told token.BadUtf8 e h = cc
other_told token.BadToken e h = cc
other_told token.BadForm e h = cc
other_told token.NumberOut e h = cc
other_told token.TooDeep e h = cc

some_left : (n : ℕ) → (suc n == 0) ≡ false
some_left n = ne_eqb (suc n) 0 (λ e. absurd (omega arith))

-- the fault at a token is its own
fault_there : (s : Lexed) (fault : Fault) (n : ℕ) → (found s (record { fault = fault; left = suc n })).fault ≡ fault
fault_there s fault n = ap (λ (f : Found). f.fault) (cond-false (suc n == 0) _ _ (some_left n))

-- the end of a text is no token
no_form : (s : Lexed) (f : FirstFault) (n : ℕ) → found s (record { fault = BadForm; left = suc n }) ≡ found_of f → fault_of f.fault ≡ Unended → ⊥
no_form s f n p e = differ (sym (fault_there s BadForm n) ∙ ap (λ (x : Found). x.fault) p ∙ e)
  where
    differ : BadForm ≡ Unended → ⊥
    differ e = cc

ended_so : (s : Lexed) (ts : List Token) (e : Stop) (f : FirstFault) → StopsAtWord ts e → found s e ≡ found_of f → fault_of f.fault ≡ Unended → (ts ≡ []) × (s.ending ≡ Unended)
ended_so s [] e f h p u = (refl, ap (λ (x : Found). x.fault) (ap (found s) (sym h) ∙ p) ∙ u)
ended_so s (Word w ∷ ts) e f h p u = absurd h
ended_so s (Opening ∷ ts) e f h p u = absurd (no_form s f (length ts) (ap (found s) (sym h) ∙ p) u)
ended_so s (Closing ∷ ts) e f h p u = absurd (no_form s f (length ts) (ap (found s) (sym h) ∙ p) u)
ended_so s (Quoted n ∷ ts) e f h p u = absurd (no_form s f (length ts) (ap (found s) (sym h) ∙ p) u)

behind_so : (s : Lexed) (m : Module) (ts : List Token) (e : Stop) (f : FirstFault) → StopsAtWord ts e → found s e ≡ found_of f → (fault_of f.fault ≡ Unended → ⊥) → nothing_behind s m ts s.ending ≡ Err (found_of f)
behind_so s m [] e f h p u =
    let q : record { fault = s.ending; at = s.at } ≡ found_of f = ap (found s) (sym h) ∙ p in
    not_end s m s.ending (λ x. u (sym (ap (λ (y : Found). y.fault) q) ∙ x)) ∙ ap Err q
behind_so s m (Word w ∷ ts) e f h p u = absurd h
behind_so s m (Opening ∷ ts) e f h p u = ap Err (ap (found s) (sym h) ∙ p)
behind_so s m (Closing ∷ ts) e f h p u = ap Err (ap (found s) (sym h) ∙ p)
behind_so s m (Quoted n ∷ ts) e f h p u = ap Err (ap (found s) (sym h) ∙ p)

pub word_behind : {p new : Parse} {w : List ℕ} {at : Position} {e : ReadError} → TookWord p new w at → e ≡ read.Fault (record { fault = token.BadForm; at = at }) → FailsBehind p e
word_behind {p} {new} {w} {at} {e} t r = record {
  failed = λ f q m.
      ap (λ ts. nothing_behind (lexed p.text) m ts (lexed p.text).ending) t.tokens
      ∙ ap Err (t.place BadForm ∙ ap found_of (same_fault (record { fault = token.BadForm; at = at }) f (sym r ∙ q)));
}

pub ends_here : {p : Parse} (e : ReadError) → FailsAtWord p e → is_end e ≡ true → EndsHere p
ends_here {p} read.Memory h b = absurd (false≢true b)
ends_here {p} (read.Fault f) h b = let y = h.failed f refl in ended_so (lexed p.text) (tokens_left p) y.stop f y.stops y.place (end_told f.fault b)

pub ends_not : {p : Parse} (e : ReadError) → FailsAtWord p e → is_end e ≡ false → FailsBehind p e
ends_not {p} e h b = record {
  failed = λ f q m.
      let y = h.failed f q in
      behind_so (lexed p.text) m (tokens_left p) y.stop f y.stops y.place (other_told f.fault (ap is_end (sym q) ∙ b));
}

-- ---- the whole

-- a text of which nothing was read
abbrev pub AtStart : Parse → Type 0
AtStart p = p ≡ record { text = p.text; left = record { bytes = p.text; at = the_start; depth = 0 } }

reads_whole : (p : Parse) (r : Result (Module × List Token) Stop) → AtStart p → read_part first_version (nesting_limit - p.left.depth) (a_form module_form) (tokens_left p) ≡ r → reading_tokens (lexed p.text) ≡ whole (lexed p.text) r
reads_whole p r a h =
    ap (λ G. whole (lexed p.text) (read_part G nesting_limit (a_form module_form) (lexed p.text).tokens)) (grammar_is (lexed p.text).tokens)
    ∙ ap (λ (x : Parse). whole (lexed p.text) (read_part first_version (nesting_limit - x.left.depth) (a_form module_form) (tokens_left x))) (sym a)
    ∙ ap (whole (lexed p.text)) h

pub whole_read : {p mid : Parse} {m : Module} → AtStart p → Gave (a_part (a_form module_form)) 0 p mid m → EndsHere mid → ReadsWhole p.text m
whole_read {p} {mid} {m} a g h =
    reads_whole p (Ok (m, tokens_left mid)) a g.reads
    ∙ ap (λ ts. nothing_behind (lexed p.text) m ts (lexed p.text).ending) h.0
    ∙ ap (λ x. nothing_behind (lexed p.text) m [] x) (ap (λ t. (lexed t).ending) (sym g.text) ∙ h.1)

pub module_fails : {p : Parse} {e : ReadError} → AtStart p → Fails (a_part (a_form module_form)) p e → FailsWhole p.text e
module_fails {p} {e} a h = record { failed = λ f q. let y = h.failed f q in reads_whole p (Err y.stop) a y.reads ∙ ap Err y.place }

pub behind_fails : {p mid : Parse} {m : Module} {e : ReadError} → AtStart p → Gave (a_part (a_form module_form)) 0 p mid m → FailsBehind mid e → FailsWhole p.text e
behind_fails {p} {mid} {m} {e} a g h = record {
  failed = λ f q.
      reads_whole p (Ok (m, tokens_left mid)) a g.reads
      ∙ ap (λ t. nothing_behind (lexed t) m (tokens_left mid) (lexed t).ending) (sym g.text)
      ∙ h.failed f q m;
}

pub handed_whole : (text : List ℕ) (r : Result Module ReadError) (e : ReadError) → IsErrAnd r (λ y. y ≡ e) → FailsWhole text e → MatchResult r (ReadsWhole text) (FailsWhole text)
handed_whole text r e h g =
    let p = err_from_is_err_and r h in
    let P : Result Module ReadError → Type 0 = λ s. MatchResult s (ReadsWhole text) (FailsWhole text) in
    let Q : ReadError → Type 0 = λ y. FailsWhole text y in
    subst P (sym p.1) (subst Q (sym p.2) g)

-- ---- what is told of it

pub well_formed : (bytes : List ℕ) (o : Option Position) → ((at : Position) → o ≡ Some at → ⊥) → option_map place_of o ≡ ill_formed bytes → ill_formed bytes ≡ None
well_formed bytes None h e = sym e
well_formed bytes (Some at) h e = absurd (h at refl)

pub encoded_read : (bytes : List ℕ) {text : List ℕ} {m : Module} → text ≡ bytes → ill_formed bytes ≡ None → ReadsWhole text m → reading bytes ≡ Ok m
encoded_read bytes {text} {m} e n h = ap (λ o. if_encoded o (reading_tokens (lexed bytes))) n ∙ ap (λ t. reading_tokens (lexed t)) (sym e) ∙ h

pub told_so : (bytes : List ℕ) {found : Found} (e : TextError) → TellsFound e found → reading bytes ≡ Err found → Tells bytes e
told_so bytes {found} e t r = told (fault_in e.fault) t
  where
    told : (o : Option Fault) → MatchOption o ((e.line ≡ 0) × (e.column ≡ 0)) (λ f. found ≡ record { fault = f; at = record { line = e.line; column = e.column } })
        → MatchOption o ((e.line ≡ 0) × (e.column ≡ 0)) (λ f. reading bytes ≡ Err (record { fault = f; at = record { line = e.line; column = e.column } }))
    told None t = t
    told (Some f) t = r ∙ ap Err t

-- the first ill-formed bytes are told
pub ill_told : (bytes : List ℕ) (o : Option Position) {at : Position} (e : TextError) → o ≡ Some at → option_map place_of o ≡ ill_formed bytes → TellsFound e (found_of (record { fault = token.BadUtf8; at = at })) → Tells bytes e
ill_told bytes o {at} e q h t = told_so bytes e t (ap (λ x. if_encoded x (reading_tokens (lexed bytes))) (sym h ∙ ap (option_map place_of) q))

pub fails_told : (bytes : List ℕ) {text : List ℕ} (e : ReadError) (t : TextError) → text ≡ bytes → ill_formed bytes ≡ None → FailsWhole text e → TellsOf e t → Tells bytes t
fails_told bytes {text} (read.Fault f) t q n h s = told_so bytes t s (ap (λ o. if_encoded o (reading_tokens (lexed bytes))) n ∙ ap (λ x. reading_tokens (lexed x)) (sym q) ∙ h.failed f refl)
fails_told bytes {text} read.Memory t q n h s =
    let P : TextFault → Type 0 = λ x. MatchOption (fault_in x) ((t.line ≡ 0) × (t.column ≡ 0)) (λ f. reading bytes ≡ Err (record { fault = f; at = record { line = t.line; column = t.column } })) in
    subst P (sym s.0) (s.1, s.2)

-- only want of memory tells no fault
none_told : (x : TextFault) → fault_in x ≡ None → x ≡ fault.Memory
none_told fault.Memory h = refl
none_told fault.BadUtf8 h = cc
none_told fault.BadToken h = cc
none_told fault.BadForm h = cc
none_told fault.NumberOut h = cc
none_told fault.TooDeep h = cc
none_told fault.Unended h = cc

-- no other module is spelled
pub only_one : (bytes : List ℕ) (m : Module) → reading bytes ≡ Ok m → IsTheOnly bytes m
only_one bytes m h n s = one_module bytes n m s (read_is_spelled bytes m h)

-- where a fault is told no module is spelled
pub told_none : (bytes : List ℕ) (e : TextError) → Tells bytes e → (e.fault ≡ fault.Memory → ⊥) → SpellsNone bytes
told_none bytes e t n m s = none (fault_in e.fault) (λ q. n (none_told e.fault q)) t
  where
    none : (o : Option Fault) → (o ≡ None → ⊥) → MatchOption o ((e.line ≡ 0) × (e.column ≡ 0)) (λ f. reading bytes ≡ Err (record { fault = f; at = record { line = e.line; column = e.column } })) → ⊥
    none None h u = h refl
    none (Some f) h u = never_both bytes m (record { fault = f; at = record { line = e.line; column = e.column } }) s u
