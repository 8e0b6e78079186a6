-- How forms and numbers begin: where the first tokens are none that can begin one, and what stands behind a head.
use Rattle.std.proofs.Common.{◌≡◌, ◌∙◌, ℕ, zero, suc, ◌-◌, ◌<◌, ◌≤◌, true, List, [], ◌∷◌, length, refl, sym, ap, subst, arith, Result, Ok, Err, None}
use Rattle.std.specs.Prelude.{MatchResult}
use Rattle.std.specs.Result.{IsErrAnd}
use Rattle.std.proofs.lemmas.Result.{err_from_is_err_and}
use Rattle.rich_text.specs.Forms.{Form, Meaning}
use Rattle.rich_text.specs.Tokens.{Token, Opening, Closing, Word, Quoted, BadForm, NumberOut, Unended, nesting_limit}
use Rattle.rich_text.specs.Lexing.{lexed}
use Rattle.rich_text.specs.Layout.{open_behind}
use Rattle.rich_text.specs.Numbers.{NumberRange, number_of, OutOfRange, NoNumber}
use Rattle.rich_text.specs.Grammars.{a_form, a_number}
use Rattle.rich_text.specs.Reading.{Stop, has_lists, headed, look_up, number_or, opens, read_inside, read_number, read_part, row_or}
use Rattle.rich_text.specs.Texts.{found}
use Rattle.rich_text.specs.FirstVersion.{first_version}
use Rattle.rw_tokens.specs.declared.symbols.FirstFault.{FirstFault}
use Rattle.rw_tokens.specs.declared.symbols.Position.{Position}
use Rattle.rw_tokens.specs.declared.symbols.Symbol.{Symbol}
use Rattle.rw_tokens.specs.declared.symbols.Symbol.TheVariants as symbol
use Rattle.rw_tokens.specs.declared.symbols.TextFault.TheVariants as fault
use Rattle.rw_tokens.specs.declared.symbols.TextToken.{TextToken}
use Rattle.rw_tokens.specs.Streams.{found_of, token_of}
use Rattle.rw_parser.specs.declared.parser.FormStart.{FormStart}
use Rattle.rw_parser.specs.declared.parser.FormStart.TheVariants as start
use Rattle.rw_parser.specs.declared.errors.ReadError.{ReadError}
use Rattle.rw_parser.specs.declared.errors.ReadError.TheVariants.{Fault as a_fault}
use Rattle.rw_parser.specs.Reads.{Ended, Fails, FailsAtStart, FailsAtWord, Gave, IsHead, Parse, Reads, Starts, OpensWithin, StopsAtStart, StopsAtWord, Took, TookHead, TookWord, a_part, behind_head, reader_of, room, tokens_left}

same_fault : (a b : FirstFault) → a_fault a ≡ a_fault b → a ≡ b
same_fault a b e = cc

-- ---- numbers

no_number : (k : NumberRange) (ts : List Token) (e : Stop) → StopsAtWord ts e → read_number k ts ≡ Err e
no_number k [] e h = ap Err (sym h)
no_number k (Word w ∷ ts) e h = absurd h
no_number k (Opening ∷ ts) e h = ap Err (sym h)
no_number k (Closing ∷ ts) e h = ap Err (sym h)
no_number k (Quoted n ∷ ts) e h = ap Err (sym h)

pub number_wants_word : {k : NumberRange} {old : Parse} {e : ReadError} → FailsAtWord old e → Fails (a_part (a_number k)) old e
number_wants_word {k} {old} {e} h = record { failed = λ f q. let y = h.failed f q in record { stop = y.stop; reads = no_number k (tokens_left old) y.stop y.stops; place = y.place } }

pub number_out : {k : NumberRange} {old new : Parse} {v w : List ℕ} {at : Position} → TookWord old new w at → v ≡ w → OutOfRange ≡ number_of k v
    → Fails (a_part (a_number k)) old (a_fault (record { fault = fault.NumberOut; at = at }))
number_out {k} {old} {new} {v} {w} {at} t s h = record {
  failed = λ f q. record {
    stop = record { fault = NumberOut; left = suc (length (tokens_left new)) };
    reads = ap (read_number k) t.tokens ∙ ap (λ x. number_or (number_of k x) w (tokens_left new)) (sym s) ∙ ap (λ x. number_or x w (tokens_left new)) (sym h);
    place = t.place NumberOut ∙ ap found_of (same_fault (record { fault = fault.NumberOut; at = at }) f q);
  };
}

pub number_none : {k : NumberRange} {old new : Parse} {v w : List ℕ} {at : Position} {e : ReadError} → TookWord old new w at → v ≡ w → NoNumber ≡ number_of k v → e ≡ a_fault (record { fault = fault.BadForm; at = at })
    → Fails (a_part (a_number k)) old e
number_none {k} {old} {new} {v} {w} {at} {e} t s h r = record {
  failed = λ f q. record {
    stop = record { fault = BadForm; left = suc (length (tokens_left new)) };
    reads = ap (read_number k) t.tokens ∙ ap (λ x. number_or (number_of k x) w (tokens_left new)) (sym s) ∙ ap (λ x. number_or x w (tokens_left new)) (sym h);
    place = t.place BadForm ∙ ap found_of (same_fault (record { fault = fault.BadForm; at = at }) f (sym r ∙ q));
  };
}

-- ---- the first tokens of a form

pub ended_at_start : (old : Parse) (f : FirstFault) → Ended old f → FailsAtStart old (a_fault f)
ended_at_start old f h = record {
  failed = λ g q. record {
    stop = record { fault = Unended; left = 0 };
    stops = let P : List Token → Type 0 = λ ts. StopsAtStart ts (record { fault = Unended; left = 0 }) in subst P (sym h.none) refl;
    opens = let P : List Token → Type 0 = λ ts. OpensWithin (room old) ts in subst P (sym h.none) tt;
    place = h.place ∙ ap found_of (same_fault f g q);
  };
}

pub handed_start : (old new : Parse) (r : Result FormStart ReadError) (e : ReadError) → IsErrAnd r (λ y. y ≡ e) → FailsAtStart old e → MatchResult r (Starts old new) (FailsAtStart old)
handed_start old new r e h g =
    let p = err_from_is_err_and r h in
    let P : Result FormStart ReadError → Type 0 = λ s. MatchResult s (Starts old new) (FailsAtStart old) in
    let Q : ReadError → Type 0 = λ y. FailsAtStart old y in
    subst P (sym p.1) (subst Q (sym p.2) g)

other_start : (s : Symbol) (ts : List Token) → (s ≡ symbol.Opening → ⊥) → ((w : List ℕ) → s ≡ symbol.Word w → ⊥) → StopsAtStart (token_of s ∷ ts) (record { fault = BadForm; left = suc (length ts) })
other_start symbol.Opening ts h g = absurd (h refl)
other_start symbol.Closing ts h g = refl
other_start (symbol.Word w) ts h g = absurd (g w refl)
other_start (symbol.Quoted n) ts h g = refl

other_opens : (s : Symbol) (ts : List Token) (n : ℕ) → (s ≡ symbol.Opening → ⊥) → OpensWithin n (token_of s ∷ ts)
other_opens symbol.Opening ts n h = absurd (h refl)
other_opens symbol.Closing ts n h = tt
other_opens (symbol.Word w) ts n h = tt
other_opens (symbol.Quoted x) ts n h = tt

pub other_at_start : (old new : Parse) (k : TextToken) (e : ReadError) → Took old new k → (k.symbol ≡ symbol.Opening → ⊥) → ((w : List ℕ) → k.symbol ≡ symbol.Word w → ⊥)
    → e ≡ a_fault (record { fault = fault.BadForm; at = k.at }) → FailsAtStart old e
other_at_start old new k e t h g r = record {
  failed = λ f q. record {
    stop = record { fault = BadForm; left = suc (length (tokens_left new)) };
    stops = let P : List Token → Type 0 = λ ts. StopsAtStart ts (record { fault = BadForm; left = suc (length (tokens_left new)) }) in subst P (sym t.tokens) (other_start k.symbol (tokens_left new) h g);
    opens = let P : List Token → Type 0 = λ ts. OpensWithin (room old) ts in subst P (sym t.tokens) (other_opens k.symbol (tokens_left new) (room old) h);
    place = t.place BadForm ∙ ap found_of (same_fault (record { fault = fault.BadForm; at = k.at }) f (sym r ∙ q));
  };
}

pub head_started : (old mid new : Parse) (k : TextToken) (r : Result FormStart ReadError) → Took old mid k → k.symbol ≡ symbol.Opening → mid.left.depth ≡ open_behind (token_of k.symbol) old.left.depth → mid.left.depth ≤ 200
    → MatchResult r (IsHead mid new) (FailsAtWord mid) → MatchResult r (Starts old new) (FailsAtStart old)
head_started old mid new k (Ok (start.Word w at)) t s d n h = absurd h
head_started old mid new k (Ok (start.Head w at)) t s d n h = record {
  tokens = t.tokens ∙ ap (λ x. token_of x ∷ tokens_left mid) s ∙ ap (λ ts. Opening ∷ ts) h.tokens;
  text = h.text ∙ t.text;
  depth = h.depth ∙ d ∙ ap (λ x. open_behind (token_of x) old.left.depth) s;
  within = let P : ℕ → Type 0 = λ x. x ≤ 200 in subst P (sym h.depth) n;
  place = λ f. ap (λ x. found (lexed x) (record { fault = f; left = suc (length (tokens_left new)) })) (sym t.text) ∙ h.place f;
}
head_started old mid new k (Err e) t s d n h = record {
  failed = λ f q. let y = h.failed f q in record {
    stop = y.stop;
    stops = let P : List Token → Type 0 = λ ts. StopsAtStart ts y.stop in subst P (sym (t.tokens ∙ ap (λ x. token_of x ∷ tokens_left mid) s)) y.stops;
    opens =
        let P : List Token → Type 0 = λ ts. OpensWithin (room old) ts in
        let depth : mid.left.depth ≡ suc old.left.depth = d ∙ ap (λ x. open_behind (token_of x) old.left.depth) s in
        subst P (sym (t.tokens ∙ ap (λ x. token_of x ∷ tokens_left mid) s)) (let g : 0 < nesting_limit - old.left.depth = omega arith in g);
    place = ap (λ x. found (lexed x) y.stop) (sym t.text) ∙ y.place;
  };
}

-- ---- forms behind their heads

room_behind : (old mid : Parse) → mid.left.depth ≡ suc old.left.depth → mid.left.depth ≤ nesting_limit → room old ≡ suc (room mid)
room_behind old mid d n = omega arith

behind : (s : Form) (n : ℕ) (w : List ℕ) (ts : List Token) → has_lists (first_version s).heads (first_version s).plain ≡ true → read_part first_version (suc n) (a_form s) (Opening ∷ Word w ∷ ts) ≡ reader_of (behind_head s w) n ts
behind s n w ts h = ap (λ b. opens b (read_inside (read_part first_version n) (first_version s)) (Word w ∷ ts)) h

reads_behind : (s : Form) {old mid : Parse} {w : List ℕ} {at : Position} → has_lists (first_version s).heads (first_version s).plain ≡ true → TookHead old mid w at
    → reader_of (a_part (a_form s)) (room old) (tokens_left old) ≡ reader_of (behind_head s w) (room mid) (tokens_left mid)
reads_behind s {old} {mid} {w} {at} h t =
    ap (λ ts. read_part first_version (room old) (a_form s) ts) t.tokens
    ∙ ap (λ n. read_part first_version n (a_form s) (Opening ∷ Word w ∷ tokens_left mid)) (room_behind old mid t.depth t.within)
    ∙ behind s (room mid) w (tokens_left mid) h

pub head_gave : {s : Form} {old mid new : Parse} {w : List ℕ} {at : Position} {x : Meaning s} → has_lists (first_version s).heads (first_version s).plain ≡ true → TookHead old mid w at → Gave (behind_head s w) 1 mid new x
    → Gave (a_part (a_form s)) 0 old new x
head_gave {s} {old} {mid} {new} {w} {at} {x} h t g = record {
  reads = reads_behind s h t ∙ g.reads;
  text = g.text ∙ t.text;
  depth = let a = g.depth in let b = t.depth in omega arith;
  shorter = let a = g.shorter in let b = ap length t.tokens in omega arith;
}

pub head_fails : {s : Form} {old mid : Parse} {w : List ℕ} {at : Position} {e : ReadError} → has_lists (first_version s).heads (first_version s).plain ≡ true → TookHead old mid w at → Fails (behind_head s w) mid e
    → Fails (a_part (a_form s)) old e
head_fails {s} {old} {mid} {w} {at} {e} h t g = record {
  failed = λ f q. let y = g.failed f q in record {
    stop = y.stop;
    reads = reads_behind s h t ∙ y.reads;
    place = ap (λ x. found (lexed x) y.stop) (sym t.text) ∙ y.place;
  };
}

-- a head that no form has
pub unknown_head : {s : Form} {old mid : Parse} {w : List ℕ} {at : Position} {e : ReadError} → has_lists (first_version s).heads (first_version s).plain ≡ true → TookHead old mid w at
    → look_up w (first_version s).heads ≡ None → (first_version s).plain ≡ None → e ≡ a_fault (record { fault = fault.BadForm; at = at }) → Fails (a_part (a_form s)) old e
unknown_head {s} {old} {mid} {w} {at} {e} h t l p r = record {
  failed = λ f q. record {
    stop = record { fault = BadForm; left = suc (length (tokens_left mid)) };
    reads =
        reads_behind s h t
        ∙ ap (λ o. headed (read_part first_version (room mid)) o (first_version s).plain (Word w) (tokens_left mid)) l
        ∙ ap (λ o. row_or (read_part first_version (room mid)) o (Word w ∷ tokens_left mid)) p;
    place = t.place BadForm ∙ ap found_of (same_fault (record { fault = fault.BadForm; at = at }) f (sym r ∙ q));
  };
}

-- where no form with a head begins
no_inside : (s : Form) (n : ℕ) (ts : List Token) (e : Stop) → (first_version s).plain ≡ None → StopsAtWord ts e → read_inside (read_part first_version n) (first_version s) ts ≡ Err e
no_inside s n [] e p h = ap (λ o. row_or (read_part first_version n) o []) p ∙ ap Err (sym h)
no_inside s n (Word w ∷ ts) e p h = absurd h
no_inside s n (Opening ∷ ts) e p h = ap (λ o. row_or (read_part first_version n) o (Opening ∷ ts)) p ∙ ap Err (sym h)
no_inside s n (Closing ∷ ts) e p h = ap (λ o. row_or (read_part first_version n) o (Closing ∷ ts)) p ∙ ap Err (sym h)
no_inside s n (Quoted x ∷ ts) e p h = ap (λ o. row_or (read_part first_version n) o (Quoted x ∷ ts)) p ∙ ap Err (sym h)

no_start : (s : Form) (n : ℕ) (ts : List Token) (e : Stop) → has_lists (first_version s).heads (first_version s).plain ≡ true → (first_version s).plain ≡ None → StopsAtStart ts e → read_part first_version (suc n) (a_form s) ts ≡ Err e
no_start s n [] e l p h = ap Err (sym h)
no_start s n (Word w ∷ ts) e l p h = absurd h
no_start s n (Opening ∷ ts) e l p h = ap (λ b. opens b (read_inside (read_part first_version n) (first_version s)) ts) l ∙ no_inside s n ts e p h
no_start s n (Closing ∷ ts) e l p h = ap Err (sym h)
no_start s n (Quoted x ∷ ts) e l p h = ap Err (sym h)

pub start_fails : {s : Form} {old : Parse} {e : ReadError} → has_lists (first_version s).heads (first_version s).plain ≡ true → (first_version s).plain ≡ None → FailsAtStart old e → Fails (a_part (a_form s)) old e
start_fails {s} {old} {e} l p h = record {
  failed = λ f q. let y = h.failed f q in record {
    stop = y.stop;
    reads = at_room (room old) (tokens_left old) y.stop y.stops y.opens;
    place = y.place;
  };
}
  where
    at_room : (n : ℕ) (ts : List Token) (x : Stop) → StopsAtStart ts x → OpensWithin n ts → read_part first_version n (a_form s) ts ≡ Err x
    at_room zero [] x g k = ap Err (sym g)
    at_room zero (Word w ∷ ts) x g k = absurd g
    at_room zero (Opening ∷ ts) x g k = absurd (omega arith)
    at_room zero (Closing ∷ ts) x g k = ap Err (sym g)
    at_room zero (Quoted w ∷ ts) x g k = ap Err (sym g)
    at_room (suc n) ts x g k = no_start s n ts x l p g

-- what a form's start was, and what was read behind its head
pub started_word : {old new : Parse} {w : List ℕ} {at : Position} (x : FormStart) → x ≡ start.Word w at → Starts old new x → TookWord old new w at
started_word {old} {new} {w} {at} x e h = let P : FormStart → Type 0 = λ y. Starts old new y in subst P e h

pub started_head : {old new : Parse} {w : List ℕ} {at : Position} (x : FormStart) → x ≡ start.Head w at → Starts old new x → TookHead old new w at
started_head {old} {new} {w} {at} x e h = let P : FormStart → Type 0 = λ y. Starts old new y in subst P e h

pub headed_reads : (s : Form) (old mid new : Parse) (w v : List ℕ) (at : Position) (r : Result (Meaning s) ReadError) → has_lists (first_version s).heads (first_version s).plain ≡ true → TookHead old mid w at → w ≡ v
    → Reads (behind_head s v) 1 mid new r → Reads (a_part (a_form s)) 0 old new r
headed_reads s old mid new w v at (Ok x) l t e g = let P : List ℕ → Type 0 = λ y. Gave (behind_head s y) 1 mid new x in head_gave l t (subst P (sym e) g)
headed_reads s old mid new w v at (Err f) l t e g = let P : List ℕ → Type 0 = λ y. Fails (behind_head s y) mid f in head_fails l t (subst P (sym e) g)
