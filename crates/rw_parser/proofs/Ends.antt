-- Tokens that are the last of others: where the first of them stands.
use Rattle.std.proofs.Common.{◌≡◌, ◌∙◌, ℕ, suc, ◌+◌, ◌-◌, Bool, true, false, List, [], ◌∷◌, ◌++◌, length, refl, sym, ap, subst, append_assoc, length-append, arith, Result, Ok, Err}
use Rattle.std.specs.Prelude.{MatchResult, ◌==◌}
use Rattle.std.proofs.lemmas.Bool.{cond-false, ne_eqb}
use Rattle.rich_text.specs.Tokens.{Closing, Token, Fault}
use Rattle.rich_text.specs.Places.{Place}
use Rattle.rich_text.specs.Lexing.{Lexed, before, lexed}
use Rattle.rich_text.specs.Texts.{Found, found, place_of}
use Rattle.rw_tokens.specs.declared.symbols.FirstFault.{FirstFault}
use Rattle.rw_tokens.specs.declared.symbols.TextToken.{TextToken}
use Rattle.rw_tokens.specs.Streams.{Closes, Left, Gives, ahead, fault_of, token_of}
use Rattle.rw_tokens.specs.Streams.{place_of as position}
use Rattle.rw_parser.specs.Reads.{Ended, IsEnd, Parse, Took}

pub end_self : (l : Lexed) → IsEnd l l
end_self l = record { front = []; fronts = []; tokens = refl; places = refl; same = refl; ending = refl; at = refl }

-- behind one token more
pub end_after : (whole part rest : Lexed) (t : Token) (at : Place) → IsEnd whole part → part ≡ before t at rest → IsEnd whole rest
end_after whole part rest t at h e = record {
  front = h.front ++ t ∷ [];
  fronts = h.fronts ++ at ∷ [];
  tokens = h.tokens ∙ ap (λ (l : Lexed). h.front ++ l.tokens) e ∙ sym (append_assoc h.front (t ∷ []) rest.tokens);
  places = h.places ∙ ap (λ (l : Lexed). h.fronts ++ l.places) e ∙ sym (append_assoc h.fronts (at ∷ []) rest.places);
  same = length-append h.front (t ∷ []) ∙ ap (λ n. n + 1) h.same ∙ sym (length-append h.fronts (at ∷ []));
  ending = h.ending ∙ ap (λ (l : Lexed). l.ending) e;
  at = h.at ∙ ap (λ (l : Lexed). l.at) e;
}

place_there : (fronts backs : List Place) (at end : Place) → place_of (fronts ++ at ∷ backs) (length fronts) end ≡ at
place_there [] backs at end = refl
place_there (p ∷ fronts) backs at end = place_there fronts backs at end

some_left : (n : ℕ) → (suc n == 0) ≡ false
some_left n = ne_eqb (suc n) 0 (λ e. absurd (omega arith))

-- the place of the first of these tokens
pub first_place : (whole part rest : Lexed) (t : Token) (at : Place) (fault : Fault) → IsEnd whole part → part ≡ before t at rest
    → found whole (record { fault = fault; left = suc (length rest.tokens) }) ≡ record { fault = fault; at = at }
first_place whole part rest t at fault h e =
    cond-false (suc (length rest.tokens) == 0) (record { fault = whole.ending; at = whole.at }) (record { fault = fault; at = place_of whole.places (length whole.tokens - suc (length rest.tokens)) whole.at }) (some_left (length rest.tokens))
    ∙ ap (λ p. let f : Found = record { fault = fault; at = p } in f) there
  where
    counted : length whole.tokens ≡ length h.front + suc (length rest.tokens)
    counted = ap length (h.tokens ∙ ap (λ (l : Lexed). h.front ++ l.tokens) e) ∙ length-append h.front (t ∷ rest.tokens)

    behind : length whole.tokens - suc (length rest.tokens) ≡ length h.fronts
    behind = let s = h.same in let k = counted in omega arith

    there : place_of whole.places (length whole.tokens - suc (length rest.tokens)) whole.at ≡ at
    there =
        ap (λ n. place_of whole.places n whole.at) behind
        ∙ ap (λ ps. place_of ps (length h.fronts) whole.at) (h.places ∙ ap (λ (l : Lexed). h.fronts ++ l.places) e)
        ∙ place_there h.fronts rest.places at whole.at

-- ---- what taking a token off tells

pub took_by : (old new : Parse) (t : TextToken) → IsEnd (lexed old.text) (ahead old.left) → new.text ≡ old.text → Gives old.left new.left (Ok t) → Took old new t
took_by old new t h text g = record {
  tokens = ap (λ (l : Lexed). l.tokens) g.0;
  text = text;
  place = λ fault. first_place (lexed old.text) (ahead old.left) (ahead new.left) (token_of t.symbol) (position t.at) fault h g.0;
}

pub end_next : (whole : Lexed) (old new : Left) (r : Result TextToken FirstFault) → IsEnd whole (ahead old) → Gives old new r → IsEnd whole (ahead new)
end_next whole old new (Ok t) h g = end_after whole (ahead old) (ahead new) (token_of t.symbol) (position t.at) h g.0
end_next whole old new (Err f) h g = let P : Lexed → Type 0 = λ l. IsEnd whole l in subst P (sym g.1) h

pub ended_by : (old : Parse) (new : Left) (f : FirstFault) → IsEnd (lexed old.text) (ahead old.left) → Gives old.left new (Err f) → Ended old f
ended_by old new f h g = record {
  none = ap (λ (l : Lexed). l.tokens) g.0;
  place =
      ap (λ x. let y : Found = record { fault = x; at = (lexed old.text).at } in y) (h.ending ∙ ap (λ (l : Lexed). l.ending) g.0)
      ∙ ap (λ x. let y : Found = record { fault = fault_of f.fault; at = x } in y) (h.at ∙ ap (λ (l : Lexed). l.at) g.0);
}

pub took_or_ended : (whole : Parse) (old : Parse) (new : Parse) (r : Result TextToken FirstFault) → whole ≡ old → IsEnd (lexed whole.text) (ahead whole.left) → new.text ≡ whole.text → Gives whole.left new.left r
    → MatchResult r (Took old new) (Ended old)
took_or_ended whole old new (Ok t) e h text g = let P : Parse → Type 0 = λ p. Took p new t in subst P e (took_by whole new t h text g)
took_or_ended whole old new (Err f) e h text g = let P : Parse → Type 0 = λ p. Ended p f in subst P e (ended_by whole new.left f h g)

pub end_closes : (whole : Lexed) (old new : Left) (came : Bool) → IsEnd whole (ahead old) → Closes old new came → IsEnd whole (ahead new)
end_closes whole old new true h g = end_after whole (ahead old) (ahead new) Closing g.0.0 h g.0.1
end_closes whole old new false h g = let P : Lexed → Type 0 = λ l. IsEnd whole l in subst P g.0 h
