-- Fields that are read one behind the other: those that were put in, and what is still to come, make the whole.
use Rattle.std.proofs.Common.{◌≡◌, ◌∙◌, ℕ, zero, suc, ◌-◌, ◌<◌, ◌≤◌, true, false, List, [], ◌∷◌, length, refl, sym, ap, subst, arith, Result, Ok, Err}
use Rattle.rw_types.specs.declared.modules.Module.{Module}
use Rattle.rich_text.specs.Forms.{Meaning}
use Rattle.rich_text.specs.Tokens.{Token, Closing, BadForm, nesting_limit}
use Rattle.rich_text.specs.Lexing.{lexed}
use Rattle.rich_text.specs.Grammars.{a_form, begins}
use Rattle.rich_text.specs.Reading.{Reader, Stop, and_then, give, has_lists, read_fields, read_part}
use Rattle.rich_text.specs.Texts.{found}
use Rattle.rich_text.specs.FirstVersion.{first_version}
use Rattle.rw_tokens.specs.declared.symbols.FirstFault.{FirstFault}
use Rattle.rw_tokens.specs.declared.symbols.Position.{Position}
use Rattle.rw_tokens.specs.declared.symbols.TextFault.TheVariants as fault
use Rattle.rw_tokens.specs.Streams.{found_of}
use Rattle.rw_parser.specs.declared.errors.ReadError.{ReadError}
use Rattle.rw_parser.specs.declared.errors.ReadError.TheVariants.{Fault as a_fault}
use Rattle.rw_parser.specs.Reads.{ClosesParse, Fails, Gave, Parse, TookHead, behind_head, room, the_fields, tokens_left}
use Rattle.rw_parser.proofs.Starts.{head_fails, head_gave}
use Rattle.rw_field_forms.specs.declared.heads.FieldKind.{FieldKind}
use Rattle.rw_field_forms.specs.declared.heads.FieldKind.TheVariants.{Import, Function, Global, Export}
use Rattle.rw_field_forms.specs.Fields.{AddedField, FailsAtField, field_form, field_word, fields_of, module_fields, no_fields, place_in_order, with_field}
use Rattle.rw_field_forms.proofs.Placing.{Answer, Item, Onward, Values, behind, behind_none, field_begun, misplaced, no_field, none_more, one_more, onto_nothing, onward, reading_from}

same_fault : (a b : FirstFault) → a_fault a ≡ a_fault b → a ≡ b
same_fault a b e = cc

-- how parts are read, where as many lists may open as here
abbrev pub at_room : Parse → Item
at_room p = read_part first_version (room p)

-- so many fields stand in the module, and with what is left they make the whole
pub record Filling (initial now : Parse) (last : FieldKind) (m : Module) : Type 0 where
  pub fuel : ℕ
  pub enough : length (tokens_left now) ≤ fuel
  pub whole : read_fields (at_room initial) module_fields (tokens_left initial) ≡ behind m (reading_from last (at_room initial) (suc fuel) (tokens_left now))
  pub text : now.text ≡ initial.text
  pub depth : now.left.depth ≡ initial.left.depth
  pub less : length (tokens_left now) ≤ length (tokens_left initial)

pub filling_none : (initial : Parse) (m : Module) → m ≡ no_fields → Filling initial initial Import m
filling_none initial m e = record {
  fuel = length (tokens_left initial);
  enough = omega arith;
  whole = behind_none (reading_from Import (at_room initial) (suc (length (tokens_left initial))) (tokens_left initial)) ∙ ap (λ x. behind x (reading_from Import (at_room initial) (suc (length (tokens_left initial))) (tokens_left initial))) (sym e);
  text = refl;
  depth = refl;
  less = omega arith;
}

lists : (k : FieldKind) → has_lists (first_version (field_form k)).heads (first_version (field_form k)).plain ≡ true
lists Import = refl
lists Function = refl
lists Global = refl
lists Export = refl

-- a field, where as many lists may open as at first
there : (k : FieldKind) (initial now : Parse) (us : List Token) (r : Result (Meaning (field_form k) × List Token) Stop) → now.left.depth ≡ initial.left.depth → tokens_left now ≡ field_begun k us
    → at_room now (a_form (field_form k)) (tokens_left now) ≡ r → at_room initial (a_form (field_form k)) (field_begun k us) ≡ r
there k initial now us r d t h =
    ap (λ n. read_part first_version n (a_form (field_form k)) (field_begun k us)) (ap (λ x. nesting_limit - x) (sym d))
    ∙ ap (λ ts. at_room now (a_form (field_form k)) ts) (sym t)
    ∙ h

-- reading goes on with the kind of the field that comes
onward_from : {initial now mid : Parse} {last k : FieldKind} {m : Module} {at : Position} (f : Filling initial now last m) → TookHead now mid (field_word k) at → (place_in_order k < place_in_order last → ⊥)
    → Onward (at_room initial) last k f.fuel (field_begun k (tokens_left mid))
onward_from {initial} {now} {mid} {last} {k} f t o = onward (at_room initial) last k f.fuel (tokens_left mid) o (let a = ap length t.tokens in let b = f.enough in omega arith)

whole_from : {initial now mid : Parse} {last k : FieldKind} {m : Module} {at : Position} (f : Filling initial now last m) → TookHead now mid (field_word k) at → (w : Onward (at_room initial) last k f.fuel (field_begun k (tokens_left mid)))
    → read_fields (at_room initial) module_fields (tokens_left initial) ≡ behind m (reading_from k (at_room initial) (suc w.more) (field_begun k (tokens_left mid)))
whole_from {initial} {now} {mid} {last} {k} {m} f t w = f.whole ∙ ap (λ ts. behind m (reading_from last (at_room initial) (suc f.fuel) ts)) t.tokens ∙ ap (behind m) w.same

filled : {initial now mid next : Parse} {last k : FieldKind} {m n : Module} {at : Position} (fuel : ℕ) → length (field_begun k (tokens_left mid)) ≤ fuel
    → read_fields (at_room initial) module_fields (tokens_left initial) ≡ behind m (reading_from k (at_room initial) (suc fuel) (field_begun k (tokens_left mid)))
    → Filling initial now last m → TookHead now mid (field_word k) at → AddedField k mid next m n → Filling initial next k n
filled {initial} {now} {mid} {next} {last} {k} {m} {n} zero enough whole f t a = absurd (omega arith)
filled {initial} {now} {mid} {next} {last} {k} {m} {n} (suc fuel) enough whole f t a =
    let g = head_gave {s = field_form k} (lists k) t a.gave in
    record {
      fuel = fuel;
      enough = let b = a.gave.shorter in omega arith;
      whole =
          whole
          ∙ one_more (at_room initial) k m (suc fuel) (tokens_left mid) (tokens_left next) a.field (there k initial now (tokens_left mid) (Ok (a.field, tokens_left next)) f.depth t.tokens g.reads)
          ∙ ap (λ x. behind x (reading_from k (at_room initial) (suc fuel) (tokens_left next))) (sym a.added);
      text = g.text ∙ f.text;
      depth = let b = g.depth in let c = f.depth in omega arith;
      less = let b = g.shorter in let c = f.less in omega arith;
    }

pub filling_more : {initial now mid next : Parse} {last k : FieldKind} {m n : Module} {at : Position} → Filling initial now last m → TookHead now mid (field_word k) at → (place_in_order k < place_in_order last → ⊥) → AddedField k mid next m n
    → Filling initial next k n
filling_more f t o a = let w = onward_from f t o in filled w.more w.enough (whole_from f t w) f t a

pub filling_done : {initial now new : Parse} {last : FieldKind} {m : Module} → Filling initial now last m → ClosesParse now new true → 0 < initial.left.depth → Gave (the_fields module_fields) 1 initial new (fields_of m)
filling_done {initial} {now} {new} {last} {m} f c d = record {
  reads =
      f.whole
      ∙ ap (λ ts. behind m (reading_from last (at_room initial) (suc f.fuel) ts)) c.0
      ∙ ap (behind m) (no_field last (at_room initial) f.fuel (Closing ∷ tokens_left new) (none (tokens_left new)))
      ∙ ap (λ v. let y : Answer = Ok (v, tokens_left new) in y) (onto_nothing m);
  text = c.1 ∙ f.text;
  depth = let a = c.2 in let b = f.depth in omega arith;
  shorter = let a = ap length c.0 in let b = f.less in omega arith;
}
  where
    none : (us : List Token) (k : FieldKind) → begins (field_word k) (Closing ∷ us) ≡ false
    none us k = refl

pub filling_fails : {initial now mid : Parse} {last : FieldKind} {m : Module} {at : Position} {e : ReadError} (k : FieldKind) → Filling initial now last m → TookHead now mid (field_word k) at → (place_in_order k < place_in_order last → ⊥)
    → Fails (behind_head (field_form k) (field_word k)) mid e → Fails (the_fields module_fields) initial e
filling_fails {initial} {now} {mid} {last} {m} {at} {e} k f t o h =
    let w = onward_from f t o in
    let g = head_fails {s = field_form k} (lists k) t h in
    record {
      failed = λ x q. let y = g.failed x q in record {
        stop = y.stop;
        reads = whole_from f t w ∙ ap (behind m) (none_more (at_room initial) k w.more (tokens_left mid) y.stop (there k initial now (tokens_left mid) (Err y.stop) f.depth t.tokens y.reads));
        place = ap (λ p. found (lexed p) y.stop) (sym f.text) ∙ y.place;
      };
    }

pub filling_stops : {initial now : Parse} {last : FieldKind} {m : Module} {e : ReadError} → Filling initial now last m → FailsAtField now e → Fails (the_fields module_fields) initial e
filling_stops {initial} {now} {last} {m} {e} f h = record {
  failed = λ x q. let y = h.failed x q in record {
    stop = y.stop;
    reads = f.whole ∙ ap (behind m) (no_field last (at_room initial) f.fuel (tokens_left now) y.none ∙ ap (λ r. and_then r (λ v. let g : Reader Values = give ([], ([], ([], ([], v)))) in g)) y.reads);
    place = ap (λ p. found (lexed p) y.stop) (sym f.text) ∙ y.place;
  };
}

pub filling_misplaced : {initial now mid : Parse} {last : FieldKind} {m : Module} {at : Position} {e : ReadError} (k : FieldKind) → Filling initial now last m → TookHead now mid (field_word k) at → place_in_order k < place_in_order last
    → e ≡ a_fault (record { fault = fault.BadForm; at = at }) → Fails (the_fields module_fields) initial e
filling_misplaced {initial} {now} {mid} {last} {m} {at} {e} k f t o r = record {
  failed = λ x q. record {
    stop = record { fault = BadForm; left = suc (length (tokens_left mid)) };
    reads =
        f.whole
        ∙ ap (λ ts. behind m (reading_from last (at_room initial) (suc f.fuel) ts)) t.tokens
        ∙ ap (behind m) (misplaced (at_room initial) last k f.fuel (tokens_left mid) o);
    place =
        ap (λ p. found (lexed p) (record { fault = BadForm; left = suc (length (tokens_left mid)) })) (sym f.text)
        ∙ t.place BadForm
        ∙ ap found_of (same_fault (record { fault = fault.BadForm; at = at }) x (sym r ∙ q));
  };
}

-- a field that was put in is of the kind at hand
pub added : {k : FieldKind} (j : FieldKind) {old new : Parse} {m n : Module} {x : Meaning (field_form j)} → k ≡ j → Gave (behind_head (field_form j) (field_word j)) 1 old new x → n ≡ with_field j x m → AddedField k old new m n
added {k} j {old} {new} {m} {n} {x} e g h = let P : FieldKind → Type 0 = λ y. AddedField y old new m n in subst P (sym e) (record { field = x; gave = g; added = h })
