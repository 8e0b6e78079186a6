-- What is read behind a `(` and a word, as the whole of a form.
use Rattle.std.proofs.Common.{◌≡◌, ℕ, List, length, refl, sym, ap, subst, arith, Result, Some}
use Rattle.std.specs.Prelude.{MatchResult, true}
use Rattle.std.specs.Result.{IsErrAnd}
use Rattle.std.proofs.lemmas.Result.{err_from_is_err_and}
use Rattle.rich_text.specs.Forms.{Form, Meaning, pretype_form, type_form}
use Rattle.rich_text.specs.Grammars.{FieldsValue, Row, a_form, done, one, row}
use Rattle.rich_text.specs.Reading.{has_lists, look_up}
use Rattle.rich_text.specs.FirstVersion.{first_version}
use Rattle.rw_tokens.specs.declared.symbols.Position.{Position}
use Rattle.rw_parser.specs.declared.errors.ReadError.{ReadError}
use Rattle.rw_parser.specs.declared.parser.FormStart.{FormStart}
use Rattle.rw_parser.specs.declared.parser.FormStart.TheVariants as start
use Rattle.rw_parser.specs.Reads.{Fails, Gave, Parse, Starts, TookHead, Wanted, a_part, the_fields}
use Rattle.rw_parser.proofs.Composing.{row_fails, row_gave}
use Rattle.rw_parser.proofs.Starts.{head_fails, head_gave, started_head}
use Rattle.rw_types.specs.declared.types.Qual.{Qual}
use Rattle.rw_types.specs.declared.types.Qual.TheVariants.{Unr, Lin}
use Rattle.rw_types.specs.declared.types.Ty
use Rattle.rw_type_forms.specs.declared.heads.TypeHead.TheVariants.{Of}
use Rattle.rw_type_forms.specs.declared.heads.PretypeHead.{PretypeHead}
use Rattle.rw_type_forms.specs.declared.heads.PretypeStart.{PretypeStart}
use Rattle.rw_type_forms.specs.declared.heads.PretypeStart.TheVariants.{Head}
use Rattle.rw_type_forms.specs.Heads.{Began, StartsPretype, pretype_word, type_word}

-- an error that is handed on
pub handed_on : {A : Type 0} (P : A → Type 0) (x : Wanted) (old : Parse) (r : Result A ReadError) (e : ReadError) → IsErrAnd r (λ y. y ≡ e) → Fails x old e → MatchResult r P (Fails x old)
handed_on {A} P x old r e h g =
    let p = err_from_is_err_and r h in
    let S : Result A ReadError → Type 0 = λ s. MatchResult s P (Fails x old) in
    let Q : ReadError → Type 0 = λ y. Fails x old y in
    subst S (sym p.1) (subst Q (sym p.2) g)

-- a head that is this word
pub began : {old mid : Parse} {w v : List ℕ} {at : Position} (x : FormStart) → x ≡ start.Head w at → Starts old mid x → w ≡ v → Began old mid v
began {old} {mid} {w} {v} {at} x e h q =
    let P : List ℕ → Type 0 = λ y. TookHead old mid y at in
    let t : TookHead old mid v at = subst P q (started_head x e h) in
    record {
      at = at;
      head = t;
      shorter = let a = ap length t.tokens in omega arith;
      inside = let a = t.depth in omega arith;
    }

-- a form that begins with the word of a head
pub began_as : {H : Type 0} (word : H → List ℕ) {old new : Parse} {x h : H} → x ≡ h → Began old new (word x) → Began old new (word h)
began_as {H} word {old} {new} e b = let P : H → Type 0 = λ y. Began old new (word y) in subst P e b

pub form_gave : (s : Form) {w : List ℕ} {r : Row (Meaning s)} {old mid new : Parse} {v : FieldsValue r.fields} → Began old mid w → has_lists (first_version s).heads (first_version s).plain ≡ true
    → look_up w (first_version s).heads ≡ Some r → Gave (the_fields r.fields) 1 mid new v → Gave (a_part (a_form s)) 0 old new (r.make v)
form_gave s b l e g = head_gave l b.head (row_gave e g)

pub form_fails : (s : Form) {w : List ℕ} {r : Row (Meaning s)} {old mid : Parse} {e : ReadError} → Began old mid w → has_lists (first_version s).heads (first_version s).plain ≡ true → look_up w (first_version s).heads ≡ Some r
    → Fails (the_fields r.fields) mid e → Fails (a_part (a_form s)) old e
form_fails s b l e g = head_fails l b.head (row_fails e g)

-- the row of a type with its qualifier
pub qualified : (q : Qual) → look_up (type_word (Of q)) (first_version type_form).heads ≡ Some (row (one (a_form pretype_form) done) (λ v. Ty.Of q v.0))
qualified Unr = refl
qualified Lin = refl

-- a pretype that begins with the word of a head
pub started_pretype : {old new : Parse} (x : PretypeStart) {h k : PretypeHead} → x ≡ Head h → h ≡ k → StartsPretype old new x → Began old new (pretype_word k)
started_pretype {old} {new} x e q s =
    let P : PretypeStart → Type 0 = λ y. StartsPretype old new y in began_as pretype_word q (subst P e s)

pub form_same : (s : Form) {old new : Parse} {v w : Meaning s} → w ≡ v → Gave (a_part (a_form s)) 0 old new v → Gave (a_part (a_form s)) 0 old new w
form_same s {old} {new} e g = let P : Meaning s → Type 0 = λ x. Gave (a_part (a_form s)) 0 old new x in subst P (sym e) g
