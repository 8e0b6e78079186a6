-- Rows that look at operands alone.
use Rattle.std.proofs.Common.{◌≡◌, ℕ, List, [], ◌∷◌, None, refl, sym, ap, ◌∙◌, subst, arith}
use Rattle.rw_types.specs.declared.instrs.Instr.{Nop, Unreachable, Drop, Unit, Print, I32Const, I64Const, Qualify}
use Rattle.rw_types.specs.declared.types.Pre.{Pre}
use Rattle.rw_types.specs.declared.types.Qual.{Qual}
use Rattle.rw_types.specs.declared.types.Qual.TheVariants.{Unr, Lin}
use Rattle.rw_types.specs.declared.types.Ty.{Ty, Of}
use Rattle.wasm_operators.specs.declared.Width.TheVariants.{W64}
use Rattle.machine_steps.specs.declared.End.TheVariants.{Trap}
use Rattle.machine_steps.specs.declared.Trap as machine
use Rattle.rich_types.specs.Scopes.{scope_of}
use Rattle.rich_rules.specs.Points.{Gives}
use Rattle.rich_rules.specs.Table.{row}
use Rattle.rich_rules.specs.Takers.{unr_i64}
use Rattle.rich_rules.proofs.RowEquations.{row-Nop, row-Drop, row-Unit, row-Print, row-I32Const, row-I64Const, row-Qualify}
use Rattle.rich_rules_inversions.proofs.Bodies.{rows}
use Rattle.rich_reduction.specs.Configurations.{Val, Number, Empty, Print as said}
use Rattle.rich_soundness_values.specs.Heaps.{Heaps, all_at, at, IsUnr}
use Rattle.rich_soundness_values.specs.Values.{HasType, HaveTypes, more_types, is_i32, is_i64, is_unit, is_tuple, is_ref, is_ptr, is_cap, is_own, is_fold, is_pack, is_code, is_instance}
use Rattle.rich_soundness_values.proofs.Typed.{no_rights}
use Rattle.rich_soundness_rows.specs.Laws.{OperandRowsAreSafe}
use Rattle.rich_soundness_rows.proofs.Moves.{ActsOn, moves, traps, RowActs, safe}
use Rattle.rich_soundness_rows.proofs.Widths.{number_taken}
use Rattle.rich_soundness_rows.proofs.Closed.{unr_is, unr_at}

nop_acts : RowActs Nop
nop_acts funcs f hs q g here c vs ls s = moves q.operands None [] vs ls (row-Nop f q) refl s.operands s.locals (λ r n. refl)

unreachable_acts : RowActs Unreachable
unreachable_acts funcs f hs q g here c vs ls s = traps [] (Trap machine.TheVariants.Unreachable) refl

unit_acts : RowActs Unit
unit_acts funcs f hs q g here c vs ls s = moves _ None [] (Empty ∷ vs) ls (row-Unit f q) refl (more_types (is_unit Unr refl) s.operands) s.locals (λ r n. omega arith)

i32_const_acts : (n : ℕ) → RowActs (I32Const n)
i32_const_acts n funcs f hs q g here c vs ls s = moves _ None [] (Number n ∷ vs) ls (row-I32Const f q n) refl (more_types (is_i32 Unr refl s.fits) s.operands) s.locals (λ r m. omega arith)

i64_const_acts : (n : ℕ) → RowActs (I64Const n)
i64_const_acts n funcs f hs q g here c vs ls s = moves _ None [] (Number n ∷ vs) ls (row-I64Const f q n) refl (more_types (is_i64 Unr refl s.fits) s.operands) s.locals (λ r m. omega arith)

drop_acts : RowActs Drop
drop_acts funcs f hs q g here c vs ls s =
    let x = rows.drop (scope_of q.binders) q.operands (row f q Drop) (sym (row-Drop f q)) s.goes in
    go vs x.value (subst (λ (ts : List Ty). HaveTypes hs vs (all_at g ts)) x.taken s.operands) (unr_at g (scope_of q.binders) x.value s.answered x.unrestricted) x.given
  where
    go : (vs : List Val) (t : Ty) {beneath : List Ty} → HaveTypes hs vs (all_at g (t ∷ beneath)) → IsUnr (at g t) → row f q Drop ≡ Gives beneath None → ActsOn funcs f hs q g here c Drop vs ls
    go [] t h u e = elim h [ ]
    go (v ∷ vs) t (more_types h hv) u e = moves _ None [] vs ls e refl hv s.locals (λ r n. omega (arith, no_rights r n h u))

print_acts : RowActs Print
print_acts funcs f hs q g here c vs ls s =
    let x = rows.from_to (unr_i64 ∷ []) [] q.operands (row f q Print) (sym (row-Print f q)) s.goes in
    number_taken hs W64 vs (all_at g x.beneath) (λ us. ActsOn funcs f hs q g here c Print us ls) (subst (λ (ts : List Ty). HaveTypes hs vs (all_at g ts)) x.taken s.operands)
    (λ n us w hv. moves _ None (said n ∷ []) us ls x.result refl hv s.locals (λ r m. omega arith))

-- what is `unr` is `lin` as well
qualified : {hs : Heaps} {v : Val} {t : Ty} {p : Pre} → HasType hs v t → t ≡ Of Unr p → HasType hs v (Of Lin p)
qualified (is_i32 q e w) z = is_i32 Lin (cc) w
qualified (is_i64 q e w) z = is_i64 Lin (cc) w
qualified (is_unit q e) z = is_unit Lin cc
qualified (is_tuple q ts e u h) z = is_tuple Lin ts (cc) (λ y. absurd (cc)) h
qualified (is_ref q h e l s) z = is_ref Lin h (cc) (λ m. refl) s
qualified (is_ptr q e) z = is_ptr Lin cc
qualified (is_cap h e l s) z = absurd (let a : Lin ≡ Unr = cc in cc)
qualified (is_own e l) z = absurd (let a : Lin ≡ Unr = cc in cc)
qualified (is_fold q s u e f size h) z = cc
qualified (is_pack q l u e f h) z = is_pack Lin l u (cc) (λ y. absurd (cc)) h
qualified (is_code q f g is e) z = is_code Lin f g is (cc)
qualified (is_instance q f g is a e) z = is_instance Lin f g is a (cc)

qualify_acts : RowActs Qualify
qualify_acts funcs f hs q g here c vs ls s =
    let x = rows.qualify q.operands (row f q Qualify) (sym (row-Qualify f q)) s.goes in
    go vs x.form (subst (λ (ts : List Ty). HaveTypes hs vs (all_at g ts)) (x.taken ∙ ap (λ (k : Qual). Of k x.form ∷ x.beneath) (unr_is x.qual x.unrestricted)) s.operands) x.given
  where
    go : (vs : List Val) (p : Pre) {beneath : List Ty} → HaveTypes hs vs (all_at g (Of Unr p ∷ beneath)) → row f q Qualify ≡ Gives (Of Lin p ∷ beneath) None → ActsOn funcs f hs q g here c Qualify vs ls
    go [] p h e = elim h [ ]
    go (v ∷ vs) p (more_types h hv) e = moves _ None [] (v ∷ vs) ls e refl (more_types (qualified h refl) hv) s.locals (λ r n. refl)

pub operand_rows : OperandRowsAreSafe
operand_rows = record {
  nop = safe Nop refl nop_acts;
  unreachable = safe Unreachable refl unreachable_acts;
  drop = safe Drop refl drop_acts;
  unit = safe Unit refl unit_acts;
  print = safe Print refl print_acts;
  i32_const = λ n. safe (I32Const n) refl (i32_const_acts n);
  i64_const = λ n. safe (I64Const n) refl (i64_const_acts n);
  qualify = safe Qualify refl qualify_acts;
}
