-- How what readers gave is put together, and where a fault stays the first: a lemma for each way in which fields follow each other.
use Rattle.std.proofs.Common.{◌≡◌, ◌∙◌, ℕ, zero, suc, ◌+◌, ◌-◌, List, [], ◌∷◌, length, refl, sym, ap, add-zero, arith, inl, inr, Result, Ok, Err, None, Some}
use Rattle.std.specs.Prelude.{⊤, ◌==◌, true, false}
use Rattle.std.proofs.lemmas.Bool.{cases_Bool, cond-true, cond-false, false≢true}
use Rattle.rich_text.specs.Forms.{Form, Meaning}
use Rattle.rich_text.specs.Tokens.{Token, Opening, Closing, Word, Quoted, BadForm, Unended, same_word, nesting_limit}
use Rattle.rich_text.specs.Lexing.{lexed}
use Rattle.rich_text.specs.Grammars.{Part, PartValue, a_form, Fields, FieldsValue, one, Row}
use Rattle.rich_text.specs.Reading.{Reader, Stop, and_then, ◌>>=◌, give, look_up, headed, has_lists, read_fields, read_inside, read_part, word_or, opens, fail_at}
use Rattle.rich_text.specs.Texts.{found}
use Rattle.rich_text.specs.FirstVersion.{first_version}
use Rattle.rw_tokens.specs.declared.symbols.FirstFault.{FirstFault}
use Rattle.rw_tokens.specs.declared.symbols.Position.{Position}
use Rattle.rw_tokens.specs.declared.symbols.TextFault.TheVariants as fault
use Rattle.rw_tokens.specs.Streams.{found_of}
use Rattle.rw_parser.specs.declared.errors.ReadError.{ReadError}
use Rattle.rw_parser.specs.declared.errors.ReadError.TheVariants.{Fault as a_fault}
use Rattle.rw_parser.specs.Reads.{Fails, FailsAtWord, Gave, Parse, StopsAtWord, TookWord, a_part, the_fields, behind_head, room, tokens_left}

bind_ok : {A B : Type 0} (r : Reader A) (next : A → Reader B) (ts behind : List Token) (a : A) (all : Result (B × List Token) Stop) → r ts ≡ Ok (a, behind) → next a behind ≡ all → (r >>= next) ts ≡ all
bind_ok r next ts behind a all e h = ap (λ x. and_then x next) e ∙ h

bind_err : {A B : Type 0} (r : Reader A) (next : A → Reader B) (ts : List Token) (e : Stop) → r ts ≡ Err e → (r >>= next) ts ≡ Err e
bind_err r next ts e h = ap (λ x. and_then x next) h

room_same : (old mid : Parse) → mid.left.depth + 0 ≡ old.left.depth → room mid ≡ room old
room_same old mid e = ap (λ d. nesting_limit - d) (sym (add-zero mid.left.depth) ∙ e)

-- ---- fields

at_room : (f : Fields) (old mid : Parse) (all : Result (FieldsValue f × List Token) Stop) → mid.left.depth + 0 ≡ old.left.depth
    → read_fields (read_part first_version (room mid)) f (tokens_left mid) ≡ all → read_fields (read_part first_version (room old)) f (tokens_left mid) ≡ all
at_room f old mid all e h = ap (λ n. read_fields (read_part first_version n) f (tokens_left mid)) (sym (room_same old mid e)) ∙ h

pub one_gave : {k : Part} {f : Fields} {old mid new : Parse} {v : PartValue k} {w : FieldsValue f} → Gave (a_part k) 0 old mid v → Gave (the_fields f) 1 mid new w → Gave (the_fields (one k f)) 1 old new (v, w)
one_gave {k} {f} {old} {mid} {new} {v} {w} g h = record {
  reads =
      bind_ok (read_part first_version (room old) k) (λ x. read_fields (read_part first_version (room old)) f >>= λ y. give (x, y)) (tokens_left old) (tokens_left mid) v (Ok ((v, w), tokens_left new)) g.reads
      (bind_ok (read_fields (read_part first_version (room old)) f) (λ y. give (v, y)) (tokens_left mid) (tokens_left new) w (Ok ((v, w), tokens_left new)) (at_room f old mid (Ok (w, tokens_left new)) g.depth h.reads) refl);
  text = h.text ∙ g.text;
  depth = let a = g.depth in let b = h.depth in omega arith;
  shorter = let a = g.shorter in let b = h.shorter in omega arith;
}

pub first_fails : {k : Part} {f : Fields} {old : Parse} {e : ReadError} → Fails (a_part k) old e → Fails (the_fields (one k f)) old e
first_fails {k} {f} {old} {e} h = record {
  failed = λ x q. let y = h.failed x q in record {
    stop = y.stop;
    reads = bind_err (read_part first_version (room old) k) (λ a. read_fields (read_part first_version (room old)) f >>= λ b. give (a, b)) (tokens_left old) y.stop y.reads;
    place = y.place;
  };
}

pub later_fails : {k : Part} {f : Fields} {old mid : Parse} {v : PartValue k} {e : ReadError} → Gave (a_part k) 0 old mid v → Fails (the_fields f) mid e → Fails (the_fields (one k f)) old e
later_fails {k} {f} {old} {mid} {v} {e} g h = record {
  failed = λ x q. let y = h.failed x q in record {
    stop = y.stop;
    reads =
        bind_ok (read_part first_version (room old) k) (λ a. read_fields (read_part first_version (room old)) f >>= λ b. give (a, b)) (tokens_left old) (tokens_left mid) v (Err y.stop) g.reads
        (bind_err (read_fields (read_part first_version (room old)) f) (λ b. give (v, b)) (tokens_left mid) y.stop (at_room f old mid (Err y.stop) g.depth y.reads));
    place = ap (λ t. found (lexed t) y.stop) (sym g.text) ∙ y.place;
  };
}

-- ---- rows

pub row_gave : {s : Form} {w : List ℕ} {row : Row (Meaning s)} {old new : Parse} {v : FieldsValue row.fields} → look_up w (first_version s).heads ≡ Some row → Gave (the_fields row.fields) 1 old new v
    → Gave (behind_head s w) 1 old new (row.make v)
row_gave {s} {w} {row} {old} {new} {v} e g = record {
  reads =
      ap (λ o. headed (read_part first_version (room old)) o (first_version s).plain (Word w) (tokens_left old)) e
      ∙ bind_ok (read_fields (read_part first_version (room old)) row.fields) (λ x. give (row.make x)) (tokens_left old) (tokens_left new) v (Ok (row.make v, tokens_left new)) g.reads refl;
  text = g.text;
  depth = g.depth;
  shorter = g.shorter;
}

pub row_fails : {s : Form} {w : List ℕ} {row : Row (Meaning s)} {old : Parse} {e : ReadError} → look_up w (first_version s).heads ≡ Some row → Fails (the_fields row.fields) old e → Fails (behind_head s w) old e
row_fails {s} {w} {row} {old} {e} q h = record {
  failed = λ x r. let y = h.failed x r in record {
    stop = y.stop;
    reads =
        ap (λ o. headed (read_part first_version (room old)) o (first_version s).plain (Word w) (tokens_left old)) q
        ∙ bind_err (read_fields (read_part first_version (room old)) row.fields) (λ a. give (row.make a)) (tokens_left old) y.stop y.reads;
    place = y.place;
  };
}

-- ---- words

pub same_sound : (xs ys : List ℕ) → same_word xs ys ≡ true → xs ≡ ys
same_sound [] [] e = refl
same_sound [] (y ∷ ys) e = absurd (false≢true e)
same_sound (x ∷ xs) [] e = absurd (false≢true e)
same_sound (x ∷ xs) (y ∷ ys) e =
    elim (cases_Bool (x == y)) [
      | inl q ↦ ap (λ z. z ∷ xs) (one_byte x y q) ∙ ap (λ zs. y ∷ zs) (same_sound xs ys (sym (cond-true (x == y) (same_word xs ys) false q) ∙ e))
      | inr q ↦ absurd (false≢true (sym (cond-false (x == y) (same_word xs ys) false q) ∙ e))
    ]
  where
    one_byte : (x y : ℕ) → (x == y) ≡ true → x ≡ y
    one_byte x y q = grind arith

-- a word that an entry has not
pub not_this : {X : Type 0} (w : List ℕ) (e : List ℕ × X) (es : List (List ℕ × X)) → (w ≡ e.0 → ⊥) → look_up w (e ∷ es) ≡ look_up w es
not_this w e es h =
    elim (cases_Bool (same_word e.0 w)) [
      | inl q ↦ absurd (h (sym (same_sound e.0 w q)))
      | inr q ↦ cond-false (same_word e.0 w) (Some e.1) (look_up w es) q
    ]

-- a word that no entry has
abbrev pub IsNone : {X : Type 0} → List ℕ → List (List ℕ × X) → Type 0
IsNone w [] = ⊤
IsNone w (e ∷ es) = (w ≡ e.0 → ⊥) × IsNone w es

pub none_of : {X : Type 0} (w : List ℕ) (es : List (List ℕ × X)) → IsNone w es → look_up w es ≡ None
none_of w [] h = refl
none_of w (e ∷ es) h = not_this w e es h.0 ∙ none_of w es h.1

form_word : (s : Form) (n : ℕ) (w : List ℕ) (ts : List Token) → read_part first_version n (a_form s) (Word w ∷ ts) ≡ word_or (look_up w (first_version s).words) (Word w) ts
form_word s zero w ts = refl
form_word s (suc n) w ts = refl

pub word_gave : {s : Form} {old new : Parse} {w : List ℕ} {at : Position} {x : Meaning s} → look_up w (first_version s).words ≡ Some x → TookWord old new w at → Gave (a_part (a_form s)) 0 old new x
word_gave {s} {old} {new} {w} {at} {x} e t = record {
  reads =
      ap (λ ts. read_part first_version (room old) (a_form s) ts) t.tokens
      ∙ form_word s (room old) w (tokens_left new)
      ∙ ap (λ o. word_or o (Word w) (tokens_left new)) e;
  text = t.text;
  depth = add-zero new.left.depth ∙ t.depth;
  shorter = let a = ap length t.tokens in omega arith;
}

pub word_fails : {s : Form} {old new : Parse} {w : List ℕ} {at : Position} {e : ReadError} → look_up w (first_version s).words ≡ None → TookWord old new w at → e ≡ a_fault (record { fault = fault.BadForm; at = at })
    → Fails (a_part (a_form s)) old e
word_fails {s} {old} {new} {w} {at} {e} h t r = record {
  failed = λ f q. record {
    stop = record { fault = BadForm; left = suc (length (tokens_left new)) };
    reads =
        ap (λ ts. read_part first_version (room old) (a_form s) ts) t.tokens
        ∙ form_word s (room old) w (tokens_left new)
        ∙ ap (λ o. word_or o (Word w) (tokens_left new)) h;
    place = t.place BadForm ∙ ap found_of (same_fault (record { fault = fault.BadForm; at = at }) f (sym r ∙ q));
  };
}
  where
    same_fault : (a b : FirstFault) → a_fault a ≡ a_fault b → a ≡ b
    same_fault a b e = cc

-- a form of words alone, where no word comes
no_word : (s : Form) (n : ℕ) (ts : List Token) (e : Stop) → has_lists (first_version s).heads (first_version s).plain ≡ false → StopsAtWord ts e → read_part first_version n (a_form s) ts ≡ Err e
no_word s zero [] e h g = ap Err (sym g)
no_word s (suc n) [] e h g = ap Err (sym g)
no_word s n (Word w ∷ ts) e h g = absurd g
no_word s zero (Closing ∷ ts) e h g = ap Err (sym g)
no_word s (suc n) (Closing ∷ ts) e h g = ap Err (sym g)
no_word s zero (Quoted w ∷ ts) e h g = ap Err (sym g)
no_word s (suc n) (Quoted w ∷ ts) e h g = ap Err (sym g)
no_word s zero (Opening ∷ ts) e h g = ap (λ b. opens b (λ us. fail_at Unended us) ts) h ∙ ap Err (sym g)
no_word s (suc n) (Opening ∷ ts) e h g = ap (λ b. opens b (read_inside (read_part first_version n) (first_version s)) ts) h ∙ ap Err (sym g)

pub no_word_fails : {s : Form} {old : Parse} {e : ReadError} → has_lists (first_version s).heads (first_version s).plain ≡ false → FailsAtWord old e → Fails (a_part (a_form s)) old e
no_word_fails {s} {old} {e} h g = record { failed = λ f q. let y = g.failed f q in record { stop = y.stop; reads = no_word s (room old) (tokens_left old) y.stop h y.stops; place = y.place } }
