-- The rows, computed; of a module, the derivation up to its end or to the instruction that breaks a rule.
use Rattle.std.proofs.Common.{◌≡◌, ◌≤◌, ◌<◌, lit<, lit≤, ℕ, List, [], ◌∷◌, ◌++◌, None, length, refl, ap, sym, subst}
use Rattle.rw_types.specs.declared.instrs.Instr.{Instr, I64Const, Num, Print, Drop, Nop}
use Rattle.rw_types.specs.declared.modules.FuncDef.{FuncDef}
use Rattle.rw_types.specs.declared.modules.Module.{Module}
use Rattle.rw_types.specs.declared.numbers.NumName.TheVariants.{I64Add}
use Rattle.rw_types.specs.declared.types.Ty.{Ty}
use Rattle.rw_types.specs.LoneMain.{ArePlain, IsLoneMain, lone_main, main_type}
use Rattle.rich_typing.specs.declared.notes.Note.{Note}
use Rattle.rich_typing.specs.declared.rules.Rule.{Rule}
use Rattle.rich_typing.specs.declared.rules.Rule.TheVariants.{Operands, BlockEnd}
use Rattle.rich_typing.specs.Table.{row, Breaks, unr_i64}
use Rattle.rich_typing.specs.Derivations.{Derives, IsTyped, done, next}
use Rattle.rich_typing.specs.Violations.{in_body, not_built, BreaksHere, at_instr, at_end, in_count}
use Rattle.rich_typing.specs.Rows.{WorkedTypes, WorkedRules, WorkedBodies, BreaksFirst}

pub types : WorkedTypes
types = record { unit = refl; narrow = refl; wide = refl; address = refl; right = refl; parts = refl; inner = refl; outer = refl; recursive = refl; linear_variable = refl; variable = refl; linear_type = refl }

pub rules : WorkedRules
rules = record {
  constant = refl;
  print = refl;
  print_nothing = refl;
  print_short = refl;
  print_linear = refl;
  drop = refl;
  drop_nothing = refl;
  drop_linear = refl;
  drop_variable = refl;
  add = refl;
  add_one = refl;
  add_to_short = refl;
  add_linear = refl;
}

lone : (body : List Instr) → ArePlain body → length body ≤ 1000 → IsLoneMain (lone_main body)
lone body plain short = record { body = body; is = refl; plain = plain; short = short }

typed : (body : List Instr) {notes : List Note} → ArePlain body → length body ≤ 1000 → Derives [] body [] notes (unr_i64 ∷ []) → IsTyped (lone_main body) (notes ∷ [])
typed body plain short d = record { lone = lone body plain short; bodies = (d, tt) }

-- the body is derived so far, and then breaks a rule
breaks : (before rest : List Instr) {notes : List Note} {reached : List Ty} {broken : Rule} → ArePlain (before ++ rest) → length (before ++ rest) ≤ 1000 →
    Derives [] before [] notes reached → BreaksHere [] (unr_i64 ∷ []) rest reached broken None None → BreaksFirst (before ++ rest) (length before) broken
breaks before rest {notes} {reached} plain short d b =
    in_body (record { ty = main_type; locals = []; body = before ++ rest }) (length before) (lone (before ++ rest) plain short) refl refl
    (record { before = before; rest = rest; whole = refl; place = refl; notes = notes; reached = reached; derived = d; breaks = b })

-- the body of a module's first function
abbrev body_of : List FuncDef → List Instr
body_of [] = []
body_of (f ∷ fs) = f.body

no_nop : IsLoneMain (lone_main (Nop ∷ [])) → ⊥
no_nop h = (subst ArePlain (ap (λ (m : Module). body_of m.funcs) (sym h.is)) h.plain).0

pub bodies : WorkedBodies
bodies = record {
  seven = typed (I64Const 7 ∷ []) (lit< tt, tt) (lit≤ tt) (next _ _ refl refl (done refl refl));
  printing = typed (I64Const 7 ∷ I64Const 8 ∷ Print ∷ []) (lit< tt, (lit< tt, (tt, tt))) (lit≤ tt) (next _ _ refl refl (next _ _ refl refl (next _ _ refl refl (done refl refl))));
  adding = typed (I64Const 7 ∷ I64Const 8 ∷ Num I64Add ∷ []) (lit< tt, (lit< tt, (tt, tt))) (lit≤ tt) (next _ _ refl refl (next _ _ refl refl (next _ _ refl refl (done refl refl))));
  nothing = breaks [] [] tt (lit≤ tt) (done refl refl) (at_end refl (in_count (λ e. cc) refl refl));
  two_left = breaks (I64Const 7 ∷ I64Const 8 ∷ []) [] (lit< tt, (lit< tt, tt)) (lit≤ tt) (next _ _ refl refl (next _ _ refl refl (done refl refl))) (at_end refl (in_count (λ e. cc) refl refl));
  printed_twice = breaks (I64Const 7 ∷ Print ∷ []) (Print ∷ I64Const 8 ∷ []) (lit< tt, (tt, (tt, (lit< tt, tt)))) (lit≤ tt) (next _ _ refl refl (next _ _ refl refl (done refl refl))) (at_instr refl);
  dropped = breaks [] (Drop ∷ I64Const 8 ∷ []) (tt, (lit< tt, tt)) (lit≤ tt) (done refl refl) (at_instr refl);
  added_to_nothing = breaks (I64Const 7 ∷ []) (Num I64Add ∷ []) (lit< tt, (tt, tt)) (lit≤ tt) (next _ _ refl refl (done refl refl)) (at_instr refl);
  not_built = not_built no_nop refl refl refl refl;
}
