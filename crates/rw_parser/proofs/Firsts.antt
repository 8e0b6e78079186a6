-- What the first token tells of a reader: a word, a `)`, or another.
use Rattle.std.proofs.Common.{◌≡◌, ◌∙◌, ℕ, suc, ◌-◌, ◌<◌, Bool, false, List, ◌∷◌, length, refl, sym, ap, subst, arith, Result, Err}
use Rattle.std.specs.Prelude.{MatchResult, IsTrue, ◌↔◌}
use Rattle.std.specs.Result.{IsErrAnd}
use Rattle.std.proofs.lemmas.Result.{err_from_is_err_and}
use Rattle.std.proofs.lemmas.Bool.{false≢true}
use Rattle.rich_text.specs.Tokens.{Token, Closing, BadForm, Unended}
use Rattle.rich_text.specs.Grammars.{done}
use Rattle.rich_text.specs.Reading.{read_close}
use Rattle.rw_tokens.specs.declared.symbols.FirstFault.{FirstFault}
use Rattle.rw_tokens.specs.declared.symbols.Position.{Position}
use Rattle.rw_tokens.specs.declared.symbols.Symbol.{Symbol}
use Rattle.rw_tokens.specs.declared.symbols.Symbol.TheVariants as symbol
use Rattle.rw_tokens.specs.declared.symbols.TextFault.TheVariants as fault
use Rattle.rw_tokens.specs.declared.symbols.TextToken.{TextToken}
use Rattle.rw_tokens.specs.declared.symbols.Spelling.{Spelling as Spelled}
use Rattle.rich_text.specs.Layout.{open_behind}
use Rattle.rw_tokens.specs.Streams.{found_of, token_of}
use Rattle.rw_parser.specs.declared.errors.ReadError.{ReadError}
use Rattle.rw_parser.specs.declared.errors.ReadError.TheVariants.{Fault as a_fault}
use Rattle.rw_parser.specs.Reads.{Ended, Fails, FailsAtWord, Gave, Parse, Reads, StopsAtWord, Took, TookWord, Wanted, WantedValue, the_fields, tokens_left}

same_fault : (a b : FirstFault) → a_fault a ≡ a_fault b → a ≡ b
same_fault a b e = cc

-- an error that is handed on
pub handed : (x : Wanted) (closed : ℕ) (old new : Parse) (r : Result (WantedValue x) ReadError) (e : ReadError) → IsErrAnd r (λ y. y ≡ e) → Fails x old e → Reads x closed old new r
handed x closed old new r e h g =
    let p = err_from_is_err_and r h in
    let P : Result (WantedValue x) ReadError → Type 0 = λ s. Reads x closed old new s in
    let Q : ReadError → Type 0 = λ y. Fails x old y in
    subst P (sym p.1) (subst Q (sym p.2) g)

pub not_word : (b : Bool) (v w : List ℕ) → b ≡ false → IsTrue b ↔ (v ≡ w) → v ≡ w → ⊥
not_word b v w e h q = false≢true (sym e ∙ h.1 q)

pub handed_word : (old new : Parse) (r : Result (Spelled × Position) ReadError) (e : ReadError) → IsErrAnd r (λ y. y ≡ e) → FailsAtWord old e → MatchResult r (λ p. TookWord old new p.0 p.1) (FailsAtWord old)
handed_word old new r e h g =
    let p = err_from_is_err_and r h in
    let P : Result (Spelled × Position) ReadError → Type 0 = λ s. MatchResult s (λ p. TookWord old new p.0 p.1) (FailsAtWord old) in
    let Q : ReadError → Type 0 = λ y. FailsAtWord old y in
    subst P (sym p.1) (subst Q (sym p.2) g)

-- where no token is left
pub ended_at_word : (old : Parse) (f : FirstFault) → Ended old f → FailsAtWord old (a_fault f)
ended_at_word old f h = record {
  failed = λ g q. record {
    stop = record { fault = Unended; left = 0 };
    stops = let P : List Token → Type 0 = λ ts. StopsAtWord ts (record { fault = Unended; left = 0 }) in subst P (sym h.none) refl;
    place = h.place ∙ ap found_of (same_fault f g q);
  };
}

pub ended_at_close : (old : Parse) (f : FirstFault) → Ended old f → Fails (the_fields done) old (a_fault f)
ended_at_close old f h = record {
  failed = λ g q. record {
    stop = record { fault = Unended; left = 0 };
    reads = ap read_close h.none;
    place = h.place ∙ ap found_of (same_fault f g q);
  };
}

-- where another token comes
other_word : (s : Symbol) (ts : List Token) → ((w : List ℕ) → s ≡ symbol.Word w → ⊥) → StopsAtWord (token_of s ∷ ts) (record { fault = BadForm; left = suc (length ts) })
other_word symbol.Opening ts h = refl
other_word symbol.Closing ts h = refl
other_word (symbol.Word w) ts h = absurd (h w refl)
other_word (symbol.Quoted n) ts h = refl

pub other_at_word : (old new : Parse) (k : TextToken) (e : ReadError) → Took old new k → ((w : List ℕ) → k.symbol ≡ symbol.Word w → ⊥) → e ≡ a_fault (record { fault = fault.BadForm; at = k.at }) → FailsAtWord old e
other_at_word old new k e t h r = record {
  failed = λ g q. record {
    stop = record { fault = BadForm; left = suc (length (tokens_left new)) };
    stops = let P : List Token → Type 0 = λ ts. StopsAtWord ts (record { fault = BadForm; left = suc (length (tokens_left new)) }) in subst P (sym t.tokens) (other_word k.symbol (tokens_left new) h);
    place = t.place BadForm ∙ ap found_of (same_fault (record { fault = fault.BadForm; at = k.at }) g (sym r ∙ q));
  };
}

other_close : (s : Symbol) (ts : List Token) → (s ≡ symbol.Closing → ⊥) → read_close (token_of s ∷ ts) ≡ Err (record { fault = BadForm; left = suc (length ts) })
other_close symbol.Opening ts h = refl
other_close symbol.Closing ts h = absurd (h refl)
other_close (symbol.Word w) ts h = refl
other_close (symbol.Quoted n) ts h = refl

pub other_at_close : (old new : Parse) (k : TextToken) (e : ReadError) → Took old new k → (k.symbol ≡ symbol.Closing → ⊥) → e ≡ a_fault (record { fault = fault.BadForm; at = k.at }) → Fails (the_fields done) old e
other_at_close old new k e t h r = record {
  failed = λ g q. record {
    stop = record { fault = BadForm; left = suc (length (tokens_left new)) };
    reads = ap read_close t.tokens ∙ other_close k.symbol (tokens_left new) h;
    place = t.place BadForm ∙ ap found_of (same_fault (record { fault = fault.BadForm; at = k.at }) g (sym r ∙ q));
  };
}

pub close_gave : (old new : Parse) (t : TextToken) → Took old new t → t.symbol ≡ symbol.Closing → new.left.depth ≡ open_behind (token_of t.symbol) old.left.depth → 0 < old.left.depth → Gave (the_fields done) 1 old new tt
close_gave old new t h s d g =
    let tokens : tokens_left old ≡ Closing ∷ tokens_left new = h.tokens ∙ ap (λ x. token_of x ∷ tokens_left new) s in
    let depth : new.left.depth ≡ old.left.depth - 1 = d ∙ ap (λ x. open_behind (token_of x) old.left.depth) s in
    record {
      reads = ap read_close tokens;
      text = h.text;
      depth = omega arith;
      shorter = let a = ap length tokens in omega arith;
    }
