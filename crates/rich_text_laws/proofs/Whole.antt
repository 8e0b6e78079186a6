-- A text as a whole: the encoding, the tokens and the grammar of the version are settled before its forms are read.
use Rattle.std.proofs.Common.{◌≡◌, ◌∙◌, ℕ, Bool, true, false, List, [], ◌∷◌, ◌++◌, refl, sym, ap, subst, inl, inr, append-nil, Option, Some, None, Result, Ok, Err}
use Rattle.std.specs.Prelude.{if◌then◌else◌, ◌⊎◌}
use Rattle.std.proofs.lemmas.Bool.{false≢true}
use Rattle.rw_types.specs.declared.modules.Module.{Module}
use Rattle.rich_text.specs.Forms.{Form, qualifier_form, memory_form, privilege_form, type_form, types_form, pretype_form, heap_form, slot_form, function_type_form, binder_form, binders_form, local_form, local_types_form, locals_form, instruction_form, argument_form, arm_form, then_form, else_form, function_form, export_form, import_form, global_form, mutability_form, version_form, module_form}
use Rattle.rich_text.specs.Tokens.{Token, Opening, Closing, Word, Quoted, Fault, BadUtf8, BadToken, TooDeep, NumberOut, BadForm, Unended, nesting_limit}
use Rattle.rich_text.specs.Places.{Place}
use Rattle.rich_text.specs.Utf8.{ill_formed}
use Rattle.rich_text.specs.Lexing.{Lexed, lexed}
use Rattle.rich_text.specs.Grammars.{a_form, Row, Shape, Grammar, Has, SpellsPart}
use Rattle.rich_text.specs.Reading.{Stop, Reader, look_up, read_part}
use Rattle.rich_text.specs.FirstVersion.{first_version}
use Rattle.rich_text.specs.Texts.{Spells, Found, versions, or_first, grammar_by, third, grammar_of, nothing_behind, whole, reading_tokens, if_encoded, reading}
use Rattle.rich_text_laws.specs.Laws.{OneModule, ReadIsSpelled, SpelledIsRead, HasFirstFault, ModuleOrFault, NeverBoth, OneFirstFault}
use Rattle.rich_text_laws.proofs.Looking.{is_distinct, from_look}
use Rattle.rich_text_laws.proofs.Exact.{Exact, IsSorted, exact, read_one}

abbrev is_apart : {X : Type 0} → Option (Row X) → List (List ℕ × Row X) → Bool
is_apart None heads = true
is_apart (Some r) [] = true
is_apart (Some r) (h ∷ hs) = false

abbrev is_sorted : {X : Type 0} → Shape X → Bool
is_sorted shape = if is_distinct shape.words then (if is_distinct shape.heads then is_apart shape.plain shape.heads else false) else false

both : (a b : Bool) → (if a then b else false) ≡ true → (a ≡ true) × (b ≡ true)
both true b e = (refl, e)
both false b e = absurd (false≢true e)

apart_by : {X : Type 0} (plain : Option (Row X)) (heads : List (List ℕ × Row X)) → is_apart plain heads ≡ true → (r : Row X) → plain ≡ Some r → heads ≡ []
apart_by None heads e r is = absurd (cc is)
apart_by (Some q) [] e r is = refl
apart_by (Some q) (h ∷ hs) e r is = absurd (false≢true e)

by_test : {X : Type 0} (shape : Shape X) → is_sorted shape ≡ true → IsSorted shape
by_test shape e =
    let p = both (is_distinct shape.words) _ e in
    let q = both (is_distinct shape.heads) _ p.1 in
    record { words = p.0; heads = q.0; apart = apart_by shape.plain shape.heads q.1 }

sorted : (s : Form) → is_sorted (first_version s) ≡ true
sorted qualifier_form = refl
sorted memory_form = refl
sorted privilege_form = refl
sorted type_form = refl
sorted types_form = refl
sorted pretype_form = refl
sorted heap_form = refl
sorted slot_form = refl
sorted function_type_form = refl
sorted binder_form = refl
sorted binders_form = refl
sorted local_form = refl
sorted local_types_form = refl
sorted locals_form = refl
sorted instruction_form = refl
sorted argument_form = refl
sorted arm_form = refl
sorted then_form = refl
sorted else_form = refl
sorted function_form = refl
sorted export_form = refl
sorted import_form = refl
sorted global_form = refl
sorted mutability_form = refl
sorted version_form = refl
sorted module_form = refl

-- every version has a grammar whose tables are sorted
abbrev AreSorted : Grammar → Type 0
AreSorted G = (s : Form) → IsSorted (G s)

first_sorted : AreSorted first_version
first_sorted s = by_test (first_version s) (sorted s)

known_sorted : (w : List ℕ) (G : Grammar) → Has versions w G → AreSorted G
known_sorted w G (inl h) = subst AreSorted h.1 first_sorted
known_sorted w G (inr h) = absurd h

version_sorted : (w : List ℕ) (found : Option Grammar) → look_up w versions ≡ found → AreSorted (or_first found)
version_sorted w None e = first_sorted
version_sorted w (Some G) e = known_sorted w G (from_look versions w G e)

grammar_sorted : (t : Option Token) → AreSorted (grammar_by t)
grammar_sorted None = first_sorted
grammar_sorted (Some Opening) = first_sorted
grammar_sorted (Some Closing) = first_sorted
grammar_sorted (Some (Word w)) = version_sorted w (look_up w versions) refl
grammar_sorted (Some (Quoted n)) = first_sorted

-- reading a module, by the grammar of any tokens
module_exact : (ts : List Token) → Exact (read_part (grammar_of ts) nesting_limit (a_form module_form)) (SpellsPart (grammar_of ts) nesting_limit (a_form module_form))
module_exact ts = exact (grammar_of ts) (grammar_sorted (third ts)) nesting_limit (a_form module_form)

tokens_read : {A : Type 0} {read : Reader A} {P : A → List Token → Type 0} → Exact read P → (ts : List Token) (a : A) → P a ts → read ts ≡ Ok (a, [])
tokens_read {A} {read} k ts a p = subst (λ (us : List Token). read us ≡ Ok (a, [])) (append-nil ts) (k.complete ts [] a p)

one_of : {A : Type 0} {read : Reader A} {P : A → List Token → Type 0} → Exact read P → (ts : List Token) (a b : A) → P a ts → P b ts → a ≡ b
one_of k ts a b p q = (read_one a b [] [] (sym (tokens_read k ts a p) ∙ tokens_read k ts b q)).0

pub one_module : OneModule
one_module bytes m n a b = one_of (module_exact (lexed bytes).tokens) (lexed bytes).tokens m n a.spelled b.spelled

ok_found : {A : Type 0} (x y : A) → ◌≡◌ {A = Result A Found} (Ok x) (Ok y) → x ≡ y
ok_found x y e = cc

from_nothing_behind : {A : Type 0} (s : Lexed) (a b : A) (ts : List Token) (fault : Fault) → nothing_behind s a ts fault ≡ Ok b → (a ≡ b) × (ts ≡ []) × (fault ≡ Unended)
from_nothing_behind s a b (t ∷ ts) BadUtf8 e = absurd (cc e)
from_nothing_behind s a b (t ∷ ts) BadToken e = absurd (cc e)
from_nothing_behind s a b (t ∷ ts) TooDeep e = absurd (cc e)
from_nothing_behind s a b (t ∷ ts) NumberOut e = absurd (cc e)
from_nothing_behind s a b (t ∷ ts) BadForm e = absurd (cc e)
from_nothing_behind s a b (t ∷ ts) Unended e = absurd (cc e)
from_nothing_behind s a b [] BadUtf8 e = absurd (cc e)
from_nothing_behind s a b [] BadToken e = absurd (cc e)
from_nothing_behind s a b [] TooDeep e = absurd (cc e)
from_nothing_behind s a b [] NumberOut e = absurd (cc e)
from_nothing_behind s a b [] BadForm e = absurd (cc e)
from_nothing_behind s a b [] Unended e = (ok_found a b e, refl, refl)

whole_sound : {A : Type 0} {read : Reader A} {P : A → List Token → Type 0} → Exact read P → (s : Lexed) (r : Result (A × List Token) Stop) (a : A) → read s.tokens ≡ r → whole s r ≡ Ok a → (s.ending ≡ Unended) × P a s.tokens
whole_sound k s (Err e) a is h = absurd (cc h)
whole_sound {P = P} k s (Ok r) a is h =
    let p = from_nothing_behind s r.0 a r.1 s.ending h in
    let t = k.sound s.tokens r.1 r.0 is in
    let all : s.tokens ≡ t.front = t.is ∙ ap (λ (ts : List Token). t.front ++ ts) p.1 ∙ append-nil t.front in
    (p.2, subst (λ (ts : List Token). P a ts) (sym all) (subst (λ b. P b t.front) p.0 t.holds))

whole_complete : {A : Type 0} {read : Reader A} {P : A → List Token → Type 0} → Exact read P → (s : Lexed) (a : A) → s.ending ≡ Unended → P a s.tokens → whole s (read s.tokens) ≡ Ok a
whole_complete k s a b p = ap (whole s) (tokens_read k s.tokens a p) ∙ ap (nothing_behind s a []) b

-- nothing is wrong with the encoding of what is read
from_encoded : {A : Type 0} (o : Option Place) (r : Result A Found) (a : A) → if_encoded o r ≡ Ok a → (o ≡ None) × (r ≡ Ok a)
from_encoded (Some at) r a e = absurd (cc e)
from_encoded None r a e = (refl, e)

pub read_is_spelled : ReadIsSpelled
read_is_spelled bytes m e =
    let p = from_encoded (ill_formed bytes) (reading_tokens (lexed bytes)) m e in
    let q = whole_sound (module_exact (lexed bytes).tokens) (lexed bytes) (read_part (grammar_of (lexed bytes).tokens) nesting_limit (a_form module_form) (lexed bytes).tokens) m refl p.1 in
    record { encoded = p.0; ended = q.0; spelled = q.1 }

pub spelled_is_read : SpelledIsRead
spelled_is_read bytes m p =
    ap (λ o. if_encoded o (reading_tokens (lexed bytes))) p.encoded
    ∙ whole_complete (module_exact (lexed bytes).tokens) (lexed bytes) m p.ended p.spelled

either : (bytes : List ℕ) (r : Result Module Found) → reading bytes ≡ r → ((m : Module) × Spells bytes m) ⊎ ((e : Found) × HasFirstFault bytes e)
either bytes (Ok m) e = inl (m, read_is_spelled bytes m e)
either bytes (Err f) e = inr (f, e)

pub module_or_fault : ModuleOrFault
module_or_fault bytes = either bytes (reading bytes) refl

no_both : {A E : Type 0} (r : Result A E) (a : A) (e : E) → r ≡ Ok a → r ≡ Err e → ⊥
no_both r a e p q = absurd (cc (sym p ∙ q))

pub never_both : NeverBoth
never_both bytes m e p q = no_both (reading bytes) m e (spelled_is_read bytes m p) q

err_one : {A E : Type 0} (r : Result A E) (e f : E) → r ≡ Err e → r ≡ Err f → e ≡ f
err_one r e f p q = cc

pub one_first_fault : OneFirstFault
one_first_fault bytes e f p q = err_one (reading bytes) e f p q
