-- Rows of the table at a count of numbers of 64 bits, and derivations and violations that are found
-- one instruction at a time.
use Rattle.std.proofs.Common.{◌≡◌, ◌≢◌, ◌≤◌, ◌<◌, ℕ, zero, suc, ◌+◌, ◌-◌, List, [], ◌∷◌, ◌++◌, None, length, get_or, take, drop, arith, refl, sym, ap, ◌∙◌, subst, drop-cons, append-nil}
use Rattle.std.proofs.lemmas.List.{take_more, take-append-drop, length-take-le, length-replicate, take_all}
use Rattle.rw_types.specs.declared.instrs.Instr.{Instr, I64Const, Num, Print, Drop}
use Rattle.rw_types.specs.declared.numbers.NumName.TheVariants.{I64Add}
use Rattle.rw_types.specs.declared.types.Binder.{Binder}
use Rattle.rw_types.specs.declared.types.Ty.{Ty}
use Rattle.rw_types.specs.LoneMain.{IsPlain}
use Rattle.rich_typing.specs.declared.notes.Note.{Note}
use Rattle.rich_typing.specs.declared.rules.Rule.{Rule}
use Rattle.rich_typing.specs.declared.rules.Rule.TheVariants.{Operands, BlockEnd}
use Rattle.rich_typing.specs.Kinds.{words_of}
use Rattle.rich_typing.specs.Table.{Gives, Breaks, row, note_of, takes, unr_i64, i64s}
use Rattle.rich_typing.specs.Derivations.{Derives, done, next}
use Rattle.rich_typing.specs.Violations.{in_count, BreaksHere, at_instr, at_end, BreaksAt}
use Rattle.rw_program.specs.declared.checked.CheckError.{CheckError}
use Rattle.rw_program.specs.declared.checked.CheckError.TheVariants.{Refused, Memory}
use Rattle.rw_check.specs.Counts.{gives}
use Rattle.rw_check.specs.Answers.{TellsPlace, TellsBody}

gives_count : (j k : ℕ) → j ≡ k → Gives (i64s j) ≡ Gives (i64s k)
gives_count j k e = ap (λ (n : ℕ). Gives (i64s n)) e

row_gives : (i : Instr) → IsPlain i → (k : ℕ) → takes i ≤ k → row [] i (i64s k) ≡ Gives (i64s (k - takes i + gives i))
row_gives (I64Const n) p k le = gives_count (suc k) (k - 0 + 1) (omega arith)
row_gives (Num I64Add) p zero le = absurd (omega arith)
row_gives (Num I64Add) p (suc zero) le = absurd (omega arith)
row_gives (Num I64Add) p (suc (suc k)) le = gives_count (suc k) (suc (suc k) - 2 + 1) (omega arith)
row_gives Print p zero le = absurd (omega arith)
row_gives Print p (suc k) le = gives_count k (suc k - 1 + 0) (omega arith)
row_gives Drop p zero le = absurd (omega arith)
row_gives Drop p (suc k) le = gives_count k (suc k - 1 + 0) (omega arith)
row_gives _ p k le = absurd p

row_breaks : (i : Instr) → IsPlain i → (k : ℕ) → k < takes i → row [] i (i64s k) ≡ Breaks Operands None None
row_breaks (I64Const n) p k lt = absurd (omega arith)
row_breaks (Num I64Add) p zero lt = refl
row_breaks (Num I64Add) p (suc zero) lt = refl
row_breaks (Num I64Add) p (suc (suc k)) lt = absurd (omega arith)
row_breaks Print p zero lt = refl
row_breaks Print p (suc k) lt = absurd (omega arith)
row_breaks Drop p zero lt = refl
row_breaks Drop p (suc k) lt = absurd (omega arith)
row_breaks _ p k lt = absurd p

words_of-i64s : (k : ℕ) → words_of [] (i64s k) ≡ k
words_of-i64s zero = refl
words_of-i64s (suc k) = omega (arith, words_of-i64s k)

length-i64s : (k : ℕ) → length (i64s k) ≡ k
length-i64s k = length-replicate k unr_i64

-- a note of so many numbers that are taken, and so many beneath
abbrev pub counted_note : ℕ → ℕ → Note
counted_note beneath taken = record { binders = []; beneath = beneath; taken = i64s taken; local = None }

noted : (taken j k : ℕ) → j ≡ k → counted_note j taken ≡ counted_note k taken
noted taken j k e = ap (λ (n : ℕ). counted_note n taken) e

note_of-i64s : (i : Instr) → IsPlain i → (k : ℕ) → takes i ≤ k → note_of [] i (i64s k) ≡ counted_note (k - takes i) (takes i)
note_of-i64s (I64Const n) p k le = noted 0 (words_of [] (i64s k)) (k - 0) (omega (arith, words_of-i64s k))
note_of-i64s (Num I64Add) p zero le = absurd (omega arith)
note_of-i64s (Num I64Add) p (suc zero) le = absurd (omega arith)
note_of-i64s (Num I64Add) p (suc (suc k)) le = noted 2 (words_of [] (i64s k)) (suc (suc k) - 2) (omega (arith, words_of-i64s k))
note_of-i64s Print p zero le = absurd (omega arith)
note_of-i64s Print p (suc k) le = noted 1 (words_of [] (i64s k)) (suc k - 1) (omega (arith, words_of-i64s k))
note_of-i64s Drop p zero le = absurd (omega arith)
note_of-i64s Drop p (suc k) le = noted 1 (words_of [] (i64s k)) (suc k - 1) (omega (arith, words_of-i64s k))
note_of-i64s _ p k le = absurd p

-- one instruction more at the end
derives_end : (binders : List Binder) (is : List Instr) (i : Instr) {operands mid end : List Ty} {notes : List Note} → Derives binders is operands notes mid → row binders i mid ≡ Gives end → Derives binders (is ++ i ∷ []) operands (notes ++ note_of binders i mid ∷ []) end
derives_end binders [] i {mid = mid} {end = end} (done n e) g =
    next end [] (ap (row binders i) (sym e) ∙ g) (ap (λ (l : List Note). l ++ note_of binders i mid ∷ []) n ∙ ap (λ (ops : List Ty). note_of binders i ops ∷ []) e) (done refl refl)
derives_end binders (j ∷ is) i {mid = mid} (next after later g n d) h =
    next after (later ++ note_of binders i mid ∷ []) g (ap (λ (l : List Note). l ++ note_of binders i mid ∷ []) n) (derives_end binders is i d h)

derives_next : (body : List Instr) (k : ℕ) (i : Instr) {count : ℕ} {notes : List Note} → k < length body → i ≡ get_or body k i → Derives [] (take k body) [] notes (i64s count) → IsPlain i → takes i ≤ count → Derives [] (take (k + 1) body) [] (notes ++ counted_note (count - takes i) (takes i) ∷ []) (i64s (count - takes i + gives i))
derives_next body k i {count = count} {notes = notes} below is d p le =
    let after : List Ty = i64s (count - takes i + gives i) in
    let whole : take k body ++ i ∷ [] ≡ take (k + 1) body = ap (λ (j : Instr). take k body ++ j ∷ []) is ∙ sym (take_more body k i below) in
    subst (λ (l : List Instr). Derives [] l [] (notes ++ counted_note (count - takes i) (takes i) ∷ []) after) whole
    (subst (λ (n : Note). Derives [] (take k body ++ i ∷ []) [] (notes ++ n ∷ []) after) (note_of-i64s i p count le) (derives_end [] (take k body) i d (row_gives i p count le)))

pub derives_more : (body : List Instr) (k : ℕ) (i : Instr) {count taken given : ℕ} {notes notes' : List Note} {note : Note} → k < length body → i ≡ get_or body k i → Derives [] (take k body) [] notes (i64s count) → IsPlain i → taken ≡ takes i → given ≡ gives i → taken ≤ count → note ≡ counted_note (count - taken) taken → notes' ≡ notes ++ note ∷ [] → Derives [] (take (k + 1) body) [] notes' (i64s (count - taken + given))
derives_more body k i {count = count} {taken = taken} {given = given} {notes = notes} {notes' = notes'} {note = note} below is d p et eg le en e =
    let all : notes' ≡ notes ++ counted_note (count - takes i) (takes i) ∷ [] = e ∙ ap (λ (n : Note). notes ++ n ∷ []) (en ∙ ap (λ (t : ℕ). counted_note (count - t) t) et) in
    let left : count - taken + given ≡ count - takes i + gives i = omega arith in
    subst (λ (l : List Note). Derives [] (take (k + 1) body) [] l (i64s (count - taken + given))) (sym all)
    (subst (λ (n : ℕ). Derives [] (take (k + 1) body) [] (notes ++ counted_note (count - takes i) (takes i) ∷ []) (i64s n)) (sym left) (derives_next body k i below is d p (omega arith)))

-- a derivation of all instructions
pub derives_whole : (body : List Instr) (k : ℕ) {notes : List Note} {end : List Ty} → length body ≤ k → Derives [] (take k body) [] notes end → Derives [] body [] notes end
derives_whole body k {notes = notes} {end = end} le d = subst (λ (l : List Instr). Derives [] l [] notes end) (take_all k body le) d

pub breaks_at : (body : List Instr) (k : ℕ) (i : Instr) {count : ℕ} {taken : ℕ} {notes : List Note} → k < length body → i ≡ get_or body k i → Derives [] (take k body) [] notes (i64s count) → IsPlain i → taken ≡ takes i → count < taken → BreaksAt [] (unr_i64 ∷ []) body [] k Operands None None
breaks_at body k i {count = count} {notes = notes} below is d p et lt =
    let rest : drop k body ≡ i ∷ drop (suc k) body = drop-cons body k i below ∙ ap (λ (j : Instr). j ∷ drop (suc k) body) (sym is) in
    record {
      before = take k body;
      rest = drop k body;
      whole = sym (take-append-drop k body);
      place = sym (length-take-le k body (omega arith));
      notes = notes;
      reached = i64s count;
      derived = d;
      breaks = subst (λ (l : List Instr). BreaksHere [] (unr_i64 ∷ []) l (i64s count) Operands None None) (sym rest) (at_instr (row_breaks i p count (omega arith)));
    }

pub breaks_at_end : (body : List Instr) {count : ℕ} {notes : List Note} → Derives [] body [] notes (i64s count) → count ≢ 1 → BreaksAt [] (unr_i64 ∷ []) body [] (length body) BlockEnd None None
breaks_at_end body {count = count} {notes = notes} d ne = record {
  before = body;
  rest = [];
  whole = sym (append-nil body);
  place = refl;
  notes = notes;
  reached = i64s count;
  derived = d;
  breaks = at_end refl (in_count (λ e. ne (sym (length-i64s count) ∙ e)) refl refl);
}

-- what an error tells of a body by its place
pub tells_body : (e : CheckError) {body : List Instr} {at : ℕ} {rule : Rule} → TellsPlace e at rule → BreaksAt [] (unr_i64 ∷ []) body [] at rule None None → TellsBody e body
tells_body (Refused place broken found expected) {body = body} {at = at} {rule = rule} h b = (at, h.0, h.2, h.3, subst (λ (r : Rule). BreaksAt [] (unr_i64 ∷ []) body [] at r None None) (sym h.1) b)
tells_body Memory h b = tt
