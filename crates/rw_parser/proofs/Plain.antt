-- Lists that begin with no word.
use Rattle.std.proofs.Common.{◌≡◌, ◌∙◌, ℕ, zero, suc, ◌≤◌, List, [], ◌∷◌, length, refl, sym, ap, subst, arith, Result, Err, None, Some}
use Rattle.std.specs.Prelude.{MatchResult}
use Rattle.std.specs.Result.{IsErrAnd}
use Rattle.std.proofs.lemmas.Result.{err_from_is_err_and}
use Rattle.rich_text.specs.Forms.{Form, Meaning}
use Rattle.rich_text.specs.Tokens.{Token, Opening, Closing, Word, Quoted, BadForm, Unended, nesting_limit}
use Rattle.rich_text.specs.Lexing.{lexed}
use Rattle.rich_text.specs.Layout.{open_behind}
use Rattle.rich_text.specs.Grammars.{a_form, FieldsValue, Row}
use Rattle.rich_text.specs.Reading.{Stop, and_then, give, has_lists, headed, look_up, opens, read_inside, read_part, read_row, row_or, word_or}
use Rattle.rich_text.specs.Texts.{found}
use Rattle.rich_text.specs.FirstVersion.{first_version}
use Rattle.rw_tokens.specs.declared.symbols.FirstFault.{FirstFault}
use Rattle.rw_tokens.specs.declared.symbols.Symbol.{Symbol}
use Rattle.rw_tokens.specs.declared.symbols.Symbol.TheVariants as symbol
use Rattle.rw_tokens.specs.declared.symbols.TextFault.TheVariants as fault
use Rattle.rw_tokens.specs.declared.symbols.TextToken.{TextToken}
use Rattle.rw_tokens.specs.Streams.{found_of, token_of}
use Rattle.rw_parser.specs.declared.errors.ReadError.{ReadError}
use Rattle.rw_parser.specs.declared.errors.ReadError.TheVariants.{Fault as a_fault}
use Rattle.rw_parser.specs.Reads.{Ended, Fails, FailsAtOpening, Gave, Opened, Parse, StopsAtOpening, Took, a_part, room, the_fields, tokens_left}

same_fault : (a b : FirstFault) → a_fault a ≡ a_fault b → a ≡ b
same_fault a b e = cc

-- ---- the `(`

pub handed_opening : (old new : Parse) (r : Result (Unit {0}) ReadError) (e : ReadError) → IsErrAnd r (λ y. y ≡ e) → FailsAtOpening old e → MatchResult r (λ _. Opened old new) (FailsAtOpening old)
handed_opening old new r e h g =
    let p = err_from_is_err_and r h in
    let P : Result (Unit {0}) ReadError → Type 0 = λ s. MatchResult s (λ _. Opened old new) (FailsAtOpening old) in
    let Q : ReadError → Type 0 = λ y. FailsAtOpening old y in
    subst P (sym p.1) (subst Q (sym p.2) g)

pub ended_at_opening : (old : Parse) (f : FirstFault) → Ended old f → FailsAtOpening old (a_fault f)
ended_at_opening old f h = record {
  failed = λ g q. record {
    stop = record { fault = Unended; left = 0 };
    stops = let P : List Token → Type 0 = λ ts. StopsAtOpening ts (record { fault = Unended; left = 0 }) in subst P (sym h.none) refl;
    place = h.place ∙ ap found_of (same_fault f g q);
  };
}

other_opening : (s : Symbol) (ts : List Token) → (s ≡ symbol.Opening → ⊥) → StopsAtOpening (token_of s ∷ ts) (record { fault = BadForm; left = suc (length ts) })
other_opening symbol.Opening ts h = absurd (h refl)
other_opening symbol.Closing ts h = refl
other_opening (symbol.Word w) ts h = refl
other_opening (symbol.Quoted n) ts h = refl

pub other_at_opening : (old new : Parse) (k : TextToken) (e : ReadError) → Took old new k → (k.symbol ≡ symbol.Opening → ⊥) → e ≡ a_fault (record { fault = fault.BadForm; at = k.at }) → FailsAtOpening old e
other_at_opening old new k e t h r = record {
  failed = λ f q. record {
    stop = record { fault = BadForm; left = suc (length (tokens_left new)) };
    stops = let P : List Token → Type 0 = λ ts. StopsAtOpening ts (record { fault = BadForm; left = suc (length (tokens_left new)) }) in subst P (sym t.tokens) (other_opening k.symbol (tokens_left new) h);
    place = t.place BadForm ∙ ap found_of (same_fault (record { fault = fault.BadForm; at = k.at }) f (sym r ∙ q));
  };
}

pub opened_by : (old new : Parse) (k : TextToken) → Took old new k → k.symbol ≡ symbol.Opening → new.left.depth ≡ open_behind (token_of k.symbol) old.left.depth → new.left.depth ≤ 200 → Opened old new
opened_by old new k t s d n = record {
  tokens = t.tokens ∙ ap (λ x. token_of x ∷ tokens_left new) s;
  text = t.text;
  depth = d ∙ ap (λ x. open_behind (token_of x) old.left.depth) s;
  within = n;
}

-- ---- the list

plain_inside : (s : Form) (n : ℕ) (row : Row (Meaning s)) (ts : List Token) → (first_version s).heads ≡ [] → (first_version s).plain ≡ Some row → read_inside (read_part first_version n) (first_version s) ts ≡ read_row (read_part first_version n) row ts
plain_inside s n row [] h p = ap (λ o. row_or (read_part first_version n) o []) p
plain_inside s n row (Opening ∷ ts) h p = ap (λ o. row_or (read_part first_version n) o (Opening ∷ ts)) p
plain_inside s n row (Closing ∷ ts) h p = ap (λ o. row_or (read_part first_version n) o (Closing ∷ ts)) p
plain_inside s n row (Quoted x ∷ ts) h p = ap (λ o. row_or (read_part first_version n) o (Quoted x ∷ ts)) p
plain_inside s n row (Word w ∷ ts) h p =
    ap (λ es. headed (read_part first_version n) (look_up w es) (first_version s).plain (Word w) ts) h
    ∙ ap (λ o. row_or (read_part first_version n) o (Word w ∷ ts)) p

room_behind : (old mid : Parse) → mid.left.depth ≡ suc old.left.depth → mid.left.depth ≤ nesting_limit → room old ≡ suc (room mid)
room_behind old mid d n = omega arith

reads_inside : (s : Form) (row : Row (Meaning s)) (old mid : Parse) → (first_version s).heads ≡ [] → (first_version s).plain ≡ Some row → Opened old mid
    → read_part first_version (room old) (a_form s) (tokens_left old) ≡ read_row (read_part first_version (room mid)) row (tokens_left mid)
reads_inside s row old mid h p t =
    ap (λ ts. read_part first_version (room old) (a_form s) ts) t.tokens
    ∙ ap (λ n. read_part first_version n (a_form s) (Opening ∷ tokens_left mid)) (room_behind old mid t.depth t.within)
    ∙ ap (λ b. opens b (read_inside (read_part first_version (room mid)) (first_version s)) (tokens_left mid)) (ap (λ es. has_lists es (first_version s).plain) h ∙ ap (has_lists []) p)
    ∙ plain_inside s (room mid) row (tokens_left mid) h p

pub plain_gave : {s : Form} {row : Row (Meaning s)} {old mid new : Parse} {v : FieldsValue row.fields} → (first_version s).heads ≡ [] → (first_version s).plain ≡ Some row → Opened old mid → Gave (the_fields row.fields) 1 mid new v
    → Gave (a_part (a_form s)) 0 old new (row.make v)
plain_gave {s} {row} {old} {mid} {new} {v} h p t g = record {
  reads = reads_inside s row old mid h p t ∙ ap (λ r. and_then r (λ x. give (row.make x))) g.reads;
  text = g.text ∙ t.text;
  depth = let a = g.depth in let b = t.depth in omega arith;
  shorter = let a = g.shorter in let b = ap length t.tokens in omega arith;
}

pub plain_fails : {s : Form} {row : Row (Meaning s)} {old mid : Parse} {e : ReadError} → (first_version s).heads ≡ [] → (first_version s).plain ≡ Some row → Opened old mid → Fails (the_fields row.fields) mid e → Fails (a_part (a_form s)) old e
plain_fails {s} {row} {old} {mid} {e} h p t g = record {
  failed = λ f q. let y = g.failed f q in record {
    stop = y.stop;
    reads = reads_inside s row old mid h p t ∙ ap (λ r. and_then r (λ x. give (row.make x))) y.reads;
    place = ap (λ x. found (lexed x) y.stop) (sym t.text) ∙ y.place;
  };
}

no_opening : (s : Form) (n : ℕ) (ts : List Token) (e : Stop) → ((w : List ℕ) → look_up w (first_version s).words ≡ None) → StopsAtOpening ts e → read_part first_version n (a_form s) ts ≡ Err e
no_opening s zero [] e w h = ap Err (sym h)
no_opening s (suc n) [] e w h = ap Err (sym h)
no_opening s n (Opening ∷ ts) e w h = absurd h
no_opening s zero (Closing ∷ ts) e w h = ap Err (sym h)
no_opening s (suc n) (Closing ∷ ts) e w h = ap Err (sym h)
no_opening s zero (Quoted x ∷ ts) e w h = ap Err (sym h)
no_opening s (suc n) (Quoted x ∷ ts) e w h = ap Err (sym h)
no_opening s zero (Word x ∷ ts) e w h = ap (λ o. word_or o (Word x) ts) (w x) ∙ ap Err (sym h)
no_opening s (suc n) (Word x ∷ ts) e w h = ap (λ o. word_or o (Word x) ts) (w x) ∙ ap Err (sym h)

pub opening_fails : {s : Form} {old : Parse} {e : ReadError} → ((w : List ℕ) → look_up w (first_version s).words ≡ None) → FailsAtOpening old e → Fails (a_part (a_form s)) old e
opening_fails {s} {old} {e} w h = record { failed = λ f q. let y = h.failed f q in record { stop = y.stop; reads = no_opening s (room old) (tokens_left old) y.stop w y.stops; place = y.place } }
