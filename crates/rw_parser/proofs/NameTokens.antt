-- Names: each quoted token of a text is a name.
use Rattle.std.proofs.Common.{◌≡◌, ◌∙◌, ℕ, suc, ◌-◌, Bool, true, false, List, [], ◌∷◌, length, refl, sym, ap, subst, arith, Err}
use Rattle.std.specs.Prelude.{⊤, if◌then◌else◌, ◌==◌, ◌&&◌, nat_lt, nat_le, reverse}
use Rattle.std.specs.List.{list_all}
use Rattle.std.proofs.lemmas.Bool.{and_parts, leb-true, ltb-true}
use Rattle.rich_text.specs.Tokens.{Token, Opening, Closing, Word, Quoted, BadForm, Unended, is_word_byte, is_blank, is_name, is_name_byte, nesting_limit}
use Rattle.rich_text.specs.Places.{Place, place_behind}
use Rattle.rich_text.specs.Lexing.{Lexed, Inside, InBlank, InComment, AfterSemicolon, InWord, InName, begun, lexed_from}
use Rattle.rich_text.specs.Grammars.{a_name}
use Rattle.rich_text.specs.Reading.{read_name}
use Rattle.rw_types.specs.Names.{IsName}
use Rattle.rw_tokens.specs.declared.symbols.FirstFault.{FirstFault}
use Rattle.rw_tokens.specs.declared.symbols.Symbol.{Symbol}
use Rattle.rw_tokens.specs.declared.symbols.Symbol.TheVariants as symbol
use Rattle.rw_tokens.specs.declared.symbols.TextFault.TheVariants as fault
use Rattle.rw_tokens.specs.declared.symbols.TextToken.{TextToken}
use Rattle.rw_tokens.specs.Streams.{found_of, token_of}
use Rattle.rw_parser.specs.declared.errors.ReadError.{ReadError}
use Rattle.rw_parser.specs.declared.errors.ReadError.TheVariants.{Fault as a_fault}
use Rattle.rw_parser.specs.Reads.{Ended, Fails, Parse, Took, a_part, tokens_left}

same_fault : (a b : FirstFault) → a_fault a ≡ a_fault b → a ≡ b
same_fault a b e = cc

abbrev AllNamed : List Token → Type 0
AllNamed [] = ⊤
AllNamed (Quoted n ∷ ts) = (is_name n ≡ true) × AllNamed ts
AllNamed (Opening ∷ ts) = AllNamed ts
AllNamed (Closing ∷ ts) = AllNamed ts
AllNamed (Word w ∷ ts) = AllNamed ts

named_if : (b : Bool) (x y : Lexed) → (b ≡ true → AllNamed x.tokens) → AllNamed y.tokens → AllNamed (if b then x else y).tokens
named_if true x y h g = h refl
named_if false x y h g = g

named_begun : (go : Inside → ℕ → Lexed) → ((i : Inside) (d : ℕ) → AllNamed (go i d).tokens) → (at : Place) (d b : ℕ) → AllNamed (begun go at d b).tokens
named_begun go h at d b =
    named_if (is_blank b) _ _ (λ e. h InBlank d)
    (named_if (b == 40) _ _ (λ e. named_if (nat_lt d nesting_limit) _ _ (λ f. h InBlank (suc d)) tt)
    (named_if (b == 41) _ _ (λ e. h InBlank (d - 1))
    (named_if (is_word_byte b) _ _ (λ e. h (InWord at (b ∷ [])) d)
    (named_if (b == 34) _ _ (λ e. h (InName at []) d)
    (named_if (b == 59) _ _ (λ e. h (AfterSemicolon at) d) tt)))))

named : (bs : List ℕ) (i : Inside) (at : Place) (d : ℕ) → AllNamed (lexed_from bs i at d).tokens
named [] InBlank at d = tt
named [] InComment at d = tt
named [] (AfterSemicolon from) at d = tt
named [] (InWord from w) at d = tt
named [] (InName from n) at d = tt
named (b ∷ bs) InBlank at d = named_begun (λ i. lexed_from bs i (place_behind b at)) (λ i k. named bs i (place_behind b at) k) at d b
named (b ∷ bs) InComment at d = named_if (b == 10) _ _ (λ e. named bs InBlank (place_behind b at) d) (named bs InComment (place_behind b at) d)
named (b ∷ bs) (AfterSemicolon from) at d = named_if (b == 59) _ _ (λ e. named bs InComment (place_behind b at) d) tt
named (b ∷ bs) (InWord from w) at d =
    named_if (is_word_byte b) _ _ (λ e. named bs (InWord from (b ∷ w)) (place_behind b at) d) (named_begun (λ i. lexed_from bs i (place_behind b at)) (λ i k. named bs i (place_behind b at) k) at d b)
named (b ∷ bs) (InName from n) at d =
    named_if (b == 34) _ _ (λ e. named_if (is_name (reverse n)) _ _ (λ f. (f, named bs InBlank (place_behind b at) d)) tt) (named bs (InName from (b ∷ n)) (place_behind b at) d)

first_named : (ts us : List Token) (n : List ℕ) → ts ≡ Quoted n ∷ us → AllNamed ts → is_name n ≡ true
first_named ts us n e h = let P : List Token → Type 0 = λ x. AllNamed x in (subst P e h).0

is_name_so : (n : List ℕ) → is_name n ≡ true → IsName n
is_name_so n h =
    let p = and_parts (nat_lt 0 (length n) && nat_le (length n) 64) (list_all is_name_byte n) h in
    let q = and_parts (nat_lt 0 (length n)) (nat_le (length n) 64) p.0 in
    record { nonempty = omega (arith, ltb-true 0 (length n) q.0); short = leb-true (length n) 64 q.1; each = p.1 }

-- the name of a quoted token that was taken off
pub took_name : (old new : Parse) (k : TextToken) (n : List ℕ) → Took old new k → k.symbol ≡ symbol.Quoted n → IsName n
took_name old new k n t s = is_name_so n (first_named (tokens_left old) (tokens_left new) n (t.tokens ∙ ap (λ x. token_of x ∷ tokens_left new) s) (named old.left.bytes InBlank old.left.at old.left.depth))

pub ended_at_name : (old : Parse) (f : FirstFault) → Ended old f → Fails (a_part a_name) old (a_fault f)
ended_at_name old f h = record {
  failed = λ g q. record {
    stop = record { fault = Unended; left = 0 };
    reads = ap read_name h.none;
    place = h.place ∙ ap found_of (same_fault f g q);
  };
}

other_name : (s : Symbol) (ts : List Token) → ((n : List ℕ) → s ≡ symbol.Quoted n → ⊥) → read_name (token_of s ∷ ts) ≡ Err (record { fault = BadForm; left = suc (length ts) })
other_name symbol.Opening ts h = refl
other_name symbol.Closing ts h = refl
other_name (symbol.Word w) ts h = refl
other_name (symbol.Quoted n) ts h = absurd (h n refl)

pub other_at_name : (old new : Parse) (k : TextToken) (e : ReadError) → Took old new k → ((n : List ℕ) → k.symbol ≡ symbol.Quoted n → ⊥) → e ≡ a_fault (record { fault = fault.BadForm; at = k.at }) → Fails (a_part a_name) old e
other_at_name old new k e t h r = record {
  failed = λ f q. record {
    stop = record { fault = BadForm; left = suc (length (tokens_left new)) };
    reads = ap read_name t.tokens ∙ other_name k.symbol (tokens_left new) h;
    place = t.place BadForm ∙ ap found_of (same_fault (record { fault = fault.BadForm; at = k.at }) f (sym r ∙ q));
  };
}
