-- Parts that are read one behind the other up to a `)`: what was read so far, and what is still to come, make the whole.
use Rattle.std.proofs.Common.{◌≡◌, ◌∙◌, ℕ, zero, suc, ◌-◌, ◌<◌, ◌≤◌, true, false, List, [], ◌∷◌, ◌++◌, length, refl, sym, ap, append_assoc, append-nil, arith, Result, Ok, Err}
use Rattle.rich_text.specs.Tokens.{Token, Opening, Closing, Word, Quoted, Unended, nesting_limit}
use Rattle.rich_text.specs.Lexing.{lexed}
use Rattle.rich_text.specs.Grammars.{Part, PartValue, a_form, a_number, a_name, many}
use Rattle.rich_text.specs.Reading.{Reader, Stop, and_then, ◌>>=◌, give, read_many, read_part}
use Rattle.rich_text.specs.Texts.{found}
use Rattle.rich_text.specs.FirstVersion.{first_version}
use Rattle.rw_tokens.specs.Streams.{BeginNotClosing}
use Rattle.rw_parser.specs.declared.errors.ReadError.{ReadError}
use Rattle.rw_parser.specs.declared.errors.ReadError.TheVariants.{Fault as a_fault, Memory}
use Rattle.rw_tokens.specs.declared.symbols.FirstFault.{FirstFault}
use Rattle.rw_parser.specs.Reads.{ClosesParse, Fails, Gave, Parse, Wanted, a_part, room, the_fields, tokens_left}

-- values before others
abbrev pub onto : {A : Type 0} → List A → Result (List A × List Token) Stop → Result (List A × List Token) Stop
onto items (Ok r) = Ok (items ++ r.0, r.1)
onto items (Err e) = Err e

onto_none : {A : Type 0} (r : Result (List A × List Token) Stop) → r ≡ onto [] r
onto_none (Ok r) = refl
onto_none (Err e) = refl

onto_more : {A : Type 0} (items : List A) (v : A) (r : Result (List A × List Token) Stop) → onto items (and_then r (λ xs. give (v ∷ xs))) ≡ onto (items ++ v ∷ []) r
onto_more {A} items v (Ok r) = ap (λ xs. let y : Result (List A × List Token) Stop = Ok (xs, r.1) in y) (sym (append_assoc items (v ∷ []) r.0))
onto_more items v (Err e) = refl

-- so many are read, and with what is left they make the whole
pub record Going (k : Part) (initial now : Parse) (items : List (PartValue k)) : Type 0 where
  pub fuel : ℕ
  pub enough : length (tokens_left now) ≤ fuel
  pub whole : read_many (read_part first_version (room initial) k) (length (tokens_left initial)) (tokens_left initial) ≡ onto items (read_many (read_part first_version (room initial) k) fuel (tokens_left now))
  pub text : now.text ≡ initial.text
  pub depth : now.left.depth ≡ initial.left.depth
  pub less : length (tokens_left now) ≤ length (tokens_left initial)

pub going_none : {k : Part} (initial : Parse) → Going k initial initial []
going_none {k} initial = record {
  fuel = length (tokens_left initial);
  enough = omega arith;
  whole = onto_none (read_many (read_part first_version (room initial) k) (length (tokens_left initial)) (tokens_left initial));
  text = refl;
  depth = refl;
  less = omega arith;
}

many_more : {A : Type 0} (item : Reader A) (fuel : ℕ) (ts : List Token) → BeginNotClosing ts → 0 < length ts → read_many item (suc fuel) ts ≡ (item >>= λ x. read_many item fuel >>= λ xs. give (x ∷ xs)) ts
many_more item fuel [] h g = absurd (omega arith)
many_more item fuel (Opening ∷ ts) h g = refl
many_more item fuel (Closing ∷ ts) h g = absurd h
many_more item fuel (Word w ∷ ts) h g = refl
many_more item fuel (Quoted n ∷ ts) h g = refl

part_none : (k : Part) (n : ℕ) → read_part first_version n k [] ≡ Err (record { fault = Unended; left = 0 })
part_none (a_number k) n = refl
part_none a_name n = refl
part_none (a_form s) zero = refl
part_none (a_form s) (suc n) = refl

same_stop : {A : Type 0} (a b : Stop) → ◌≡◌ {A = Result (A × List Token) Stop} (Err a) (Err b) → a ≡ b
same_stop a b e = cc

many_fails : {A : Type 0} (item : Reader A) (fuel : ℕ) (ts : List Token) (e : Stop) → item [] ≡ Err (record { fault = Unended; left = 0 }) → BeginNotClosing ts → length ts ≤ fuel → item ts ≡ Err e → read_many item fuel ts ≡ Err e
many_fails item zero [] e n h l g = ap Err (same_stop _ _ (sym n ∙ g))
many_fails item (suc fuel) [] e n h l g = ap Err (same_stop _ _ (sym n ∙ g))
many_fails item zero (t ∷ ts) e n h l g = absurd (omega arith)
many_fails item (suc fuel) (t ∷ ts) e n h l g =
    many_more item fuel (t ∷ ts) h (omega arith) ∙ ap (λ r. and_then r (λ x. read_many item fuel >>= λ xs. give (x ∷ xs))) g

many_closes : {A : Type 0} (item : Reader A) (fuel : ℕ) (ts : List Token) → length (Closing ∷ ts) ≤ fuel → read_many item fuel (Closing ∷ ts) ≡ Ok ([], ts)
many_closes item zero ts h = absurd (omega arith)
many_closes item (suc fuel) ts h = refl

-- an item's reader, where as many lists may open as at first
item_at : (k : Part) (initial now mid : Parse) (r : Result (PartValue k × List Token) Stop) → now.left.depth ≡ initial.left.depth → mid.left.depth ≡ now.left.depth → tokens_left now ≡ tokens_left mid
    → read_part first_version (room mid) k (tokens_left mid) ≡ r → read_part first_version (room initial) k (tokens_left now) ≡ r
item_at k initial now mid r d e t h =
    ap (λ n. read_part first_version n k (tokens_left now)) (ap (λ x. nesting_limit - x) (sym d ∙ sym e))
    ∙ ap (λ ts. read_part first_version (room mid) k ts) t
    ∙ h

going_on : {k : Part} {initial now mid next : Parse} {items : List (PartValue k)} {v : PartValue k} (fuel : ℕ) → length (tokens_left now) ≤ fuel
    → read_many (read_part first_version (room initial) k) (length (tokens_left initial)) (tokens_left initial) ≡ onto items (read_many (read_part first_version (room initial) k) fuel (tokens_left now))
    → Going k initial now items → ClosesParse now mid false → Gave (a_part k) 0 mid next v → Going k initial next (items ++ v ∷ [])
going_on {k} {initial} {now} {mid} {next} {items} {v} zero enough whole g c h = absurd (let a = ap length c.0 in let b = h.shorter in omega arith)
going_on {k} {initial} {now} {mid} {next} {items} {v} (suc fuel) enough whole g c h = record {
  fuel = fuel;
  enough = let a = ap length c.0 in let b = h.shorter in omega arith;
  whole =
      whole
      ∙ ap (onto items) (
      many_more (read_part first_version (room initial) k) fuel (tokens_left now) c.3 (let a = ap length c.0 in let b = h.shorter in omega arith)
      ∙ ap (λ r. and_then r (λ x. read_many (read_part first_version (room initial) k) fuel >>= λ xs. give (x ∷ xs))) (item_at k initial now mid (Ok (v, tokens_left next)) g.depth c.2 c.0 h.reads))
      ∙ onto_more items v (read_many (read_part first_version (room initial) k) fuel (tokens_left next));
  text = h.text ∙ c.1 ∙ g.text;
  depth = let a = h.depth in let b = c.2 in let d = g.depth in omega arith;
  less = let a = ap length c.0 in let b = h.shorter in let d = g.less in omega arith;
}

pub going_more : {k : Part} {initial now mid next : Parse} {items : List (PartValue k)} {v : PartValue k} → Going k initial now items → ClosesParse now mid false → Gave (a_part k) 0 mid next v → Going k initial next (items ++ v ∷ [])
going_more g c h = going_on g.fuel g.enough g.whole g c h

pub going_done : {k : Part} {initial now new : Parse} {items : List (PartValue k)} → Going k initial now items → ClosesParse now new true → 0 < initial.left.depth → Gave (the_fields (many k)) 1 initial new items
going_done {k} {initial} {now} {new} {items} g c d = record {
  reads =
      g.whole
      ∙ ap (λ ts. onto items (read_many (read_part first_version (room initial) k) g.fuel ts)) c.0
      ∙ ap (onto items) (many_closes (read_part first_version (room initial) k) g.fuel (tokens_left new) (let e = ap length c.0 in let f = g.enough in omega arith))
      ∙ ap (λ xs. let y : Result (List (PartValue k) × List Token) Stop = Ok (xs, tokens_left new) in y) (append-nil items);
  text = c.1 ∙ g.text;
  depth = let a = c.2 in let b = g.depth in omega arith;
  shorter = let a = ap length c.0 in let b = g.less in omega arith;
}

pub going_fails : {k : Part} {initial now mid : Parse} {items : List (PartValue k)} {e : ReadError} → Going k initial now items → ClosesParse now mid false → Fails (a_part k) mid e → Fails (the_fields (many k)) initial e
going_fails {k} {initial} {now} {mid} {items} {e} g c h = record {
  failed = λ f q. let y = h.failed f q in record {
    stop = y.stop;
    reads =
        g.whole
        ∙ ap (onto items) (many_fails (read_part first_version (room initial) k) g.fuel (tokens_left now) y.stop (part_none k (room initial)) c.3 g.enough (item_at k initial now mid (Err y.stop) g.depth c.2 c.0 y.reads));
    place = ap (λ x. found (lexed x) y.stop) (sym g.text ∙ sym c.1) ∙ y.place;
  };
}

pub no_memory : {x : Wanted} {old : Parse} {e : ReadError} → e ≡ Memory → Fails x old e
no_memory {x} {old} {e} h = record { failed = λ f q. absurd (none f (sym h ∙ q)) }
  where
    none : (f : FirstFault) → Memory ≡ a_fault f → ⊥
    none f e = cc
