-- Rows of numbers.
use Rattle.std.proofs.Common.{◌≡◌, ℕ, List, [], ◌∷◌, ◌++◌, None, refl, sym, ap, ◌∙◌, subst, arith}
use Rattle.std.specs.Prelude.{Result, Ok, Err, ◌==◌}
use Rattle.wasm_operators.specs.declared.Width.{Width}
use Rattle.wasm_operators.specs.declared.Width.TheVariants.{W32}
use Rattle.wasm_num.specs.declared.NumTrap.{NumTrap}
use Rattle.wasm_num.specs.Widths.{IsWithin}
use Rattle.wasm_num.specs.Operators.{unary, binary, compares, truth, converted, width_from, width_to}
use Rattle.wasm_num.proofs.Ranges.{stays_within}
use Rattle.rw_types.specs.declared.instrs.Instr.{Num}
use Rattle.rw_types.specs.declared.numbers.NumName.{NumName}
use Rattle.rw_types.specs.declared.numbers.NumName.TheVariants as name
use Rattle.rw_types.specs.declared.types.Ty.{Ty}
use Rattle.machine_steps.specs.declared.End.TheVariants.{Trap}
use Rattle.rich_operators.specs.Operators as operator
use Rattle.rich_operators.specs.Operators.{Operator, operator_of}
use Rattle.rich_types.specs.Instances.{Substitution}
use Rattle.rich_rules.specs.Points.{Frame, Point, Gives}
use Rattle.rich_rules.specs.Numbers as sig
use Rattle.rich_rules.specs.Numbers.{NumSig, num_sig}
use Rattle.rich_rules.specs.Table.{row}
use Rattle.rich_rules.proofs.RowEquations.{row-Num}
use Rattle.rich_rules_inversions.proofs.Bodies.{rows}
use Rattle.rich_reduction.specs.Configurations.{Val, Number, Here, Config}
use Rattle.rich_reduction.specs.Turns.{leaves, traps}
use Rattle.rich_reduction.specs.Numbers.{trap_of, apply}
use Rattle.rich_soundness_values.specs.Heaps.{Heaps, all_at}
use Rattle.rich_soundness_values.specs.Values.{HasType, HaveTypes, more_types}
use Rattle.rich_soundness_points.specs.Good.{IsSafeAt}
use Rattle.rich_soundness_rows.proofs.Moves as move
use Rattle.rich_soundness_rows.proofs.Moves.{Acts, moves, RowActs, safe}
use Rattle.rich_soundness_rows.proofs.Widths.{of_width, width_at, number_typed, number_taken, truth_within}

-- what an operator takes and gives, by its widths
abbrev sig_of : Operator → NumSig
sig_of (operator.Eqz w) = sig.test (of_width w)
sig_of (operator.Compare op w) = sig.compare (of_width w)
sig_of (operator.Unary op w) = sig.unary (of_width w)
sig_of (operator.Binary op w) = sig.binary (of_width w)
sig_of (operator.Convert op) = sig.convert (of_width (width_from op)) (of_width (width_to op))

sig_is : (n : NumName) → num_sig n ≡ sig_of (operator_of n)
sig_is name.I32Eqz = refl
sig_is name.I32Eq = refl
sig_is name.I32Ne = refl
sig_is name.I32LtS = refl
sig_is name.I32LtU = refl
sig_is name.I32GtS = refl
sig_is name.I32GtU = refl
sig_is name.I32LeS = refl
sig_is name.I32LeU = refl
sig_is name.I32GeS = refl
sig_is name.I32GeU = refl
sig_is name.I64Eqz = refl
sig_is name.I64Eq = refl
sig_is name.I64Ne = refl
sig_is name.I64LtS = refl
sig_is name.I64LtU = refl
sig_is name.I64GtS = refl
sig_is name.I64GtU = refl
sig_is name.I64LeS = refl
sig_is name.I64LeU = refl
sig_is name.I64GeS = refl
sig_is name.I64GeU = refl
sig_is name.I32Clz = refl
sig_is name.I32Ctz = refl
sig_is name.I32Popcnt = refl
sig_is name.I32Add = refl
sig_is name.I32Sub = refl
sig_is name.I32Mul = refl
sig_is name.I32DivS = refl
sig_is name.I32DivU = refl
sig_is name.I32RemS = refl
sig_is name.I32RemU = refl
sig_is name.I32And = refl
sig_is name.I32Or = refl
sig_is name.I32Xor = refl
sig_is name.I32Shl = refl
sig_is name.I32ShrS = refl
sig_is name.I32ShrU = refl
sig_is name.I32Rotl = refl
sig_is name.I32Rotr = refl
sig_is name.I64Clz = refl
sig_is name.I64Ctz = refl
sig_is name.I64Popcnt = refl
sig_is name.I64Add = refl
sig_is name.I64Sub = refl
sig_is name.I64Mul = refl
sig_is name.I64DivS = refl
sig_is name.I64DivU = refl
sig_is name.I64RemS = refl
sig_is name.I64RemU = refl
sig_is name.I64And = refl
sig_is name.I64Or = refl
sig_is name.I64Xor = refl
sig_is name.I64Shl = refl
sig_is name.I64ShrS = refl
sig_is name.I64ShrU = refl
sig_is name.I64Rotl = refl
sig_is name.I64Rotr = refl
sig_is name.I32WrapI64 = refl
sig_is name.I64ExtendI32S = refl
sig_is name.I64ExtendI32U = refl

module _ (n : NumName) (f : Frame) (hs : Heaps) (q : Point) (g : Substitution) (here : Here) (c : Config) (ls : List Val) (locals : HaveTypes hs ls (all_at g q.locals)) where
  -- it acts so on these operands
  abbrev ResultOf : Operator → List Val → Type 0
  ResultOf o us = Acts f hs q g (Num n) us ls here c (apply o (record here { operands = us; locals = ls }) c)

  given : (w : Width) {m : ℕ} {us : List Val} (beneath : List Ty) → IsWithin w m → HaveTypes hs us (all_at g beneath) → HaveTypes hs (Number m ∷ us) (all_at g (of_width w ∷ beneath))
  given w {m = m} beneath b h = more_types (subst (λ (t : Ty). HasType hs (Number m) t) (sym (width_at g w)) (number_typed w m b)) h

  taken : (w : Width) (us : List Val) (beneath : List Ty) (P : List Val → Type 0) → HaveTypes hs us (all_at g (of_width w ∷ beneath)) → ((m : ℕ) (rest : List Val) → IsWithin w m → HaveTypes hs rest (all_at g beneath) → P (Number m ∷ rest)) → P us
  taken w us beneath P h k = number_taken hs w us (all_at g beneath) P (subst (λ (t : Ty). HaveTypes hs us (t ∷ all_at g beneath)) (width_at g w) h) k

  answered : (w : Width) (a b : ℕ) (us : List Val) (beneath : List Ty) (r : Result ℕ NumTrap) → HaveTypes hs us (all_at g beneath) → ((m : ℕ) → r ≡ Ok m → IsWithin w m) → row f q (Num n) ≡ Gives (of_width w ∷ beneath) None →
      Acts f hs q g (Num n) (Number b ∷ Number a ∷ us) ls here c (elim r [
        | Ok m ↦ leaves (Number m ∷ us) (record here { operands = Number b ∷ Number a ∷ us; locals = ls }) c
        | Err why ↦ traps (trap_of why) c
      ])
  answered w a b us beneath (Ok m) h k e = moves _ None [] (Number m ∷ us) ls e refl (given w beneath (k m refl) h) locals (λ r i. omega arith)
  answered w a b us beneath (Err why) h k e = move.traps [] (Trap (trap_of why)) refl

  by_operator : (vs : List Val) (o : Operator) (beneath : List Ty) → HaveTypes hs vs (all_at g ((sig_of o).taken ++ beneath)) → row f q (Num n) ≡ Gives ((sig_of o).given ∷ beneath) None → ResultOf o vs
  by_operator vs (operator.Eqz w) beneath h e = taken w vs beneath (ResultOf (operator.Eqz w)) h
      (λ a us b hv. moves _ None [] (Number (truth (a == 0)) ∷ us) ls e refl (given W32 beneath (truth_within (a == 0)) hv) locals (λ r i. omega arith))
  by_operator vs (operator.Compare op w) beneath h e = taken w vs (of_width w ∷ beneath) (ResultOf (operator.Compare op w)) h
      (λ b us y hu. taken w us beneath (λ ks. ResultOf (operator.Compare op w) (Number b ∷ ks)) hu
      (λ a ks z hv. moves _ None [] (Number (truth (compares op w a b)) ∷ ks) ls e refl (given W32 beneath (truth_within (compares op w a b)) hv) locals (λ r i. omega arith)))
  by_operator vs (operator.Unary op w) beneath h e = taken w vs beneath (ResultOf (operator.Unary op w)) h
      (λ a us b hv. moves _ None [] (Number (unary op w a) ∷ us) ls e refl (given w beneath (stays_within.of_one op w a) hv) locals (λ r i. omega arith))
  by_operator vs (operator.Binary op w) beneath h e = taken w vs (of_width w ∷ beneath) (ResultOf (operator.Binary op w)) h
      (λ b us y hu. taken w us beneath (λ ks. ResultOf (operator.Binary op w) (Number b ∷ ks)) hu
      (λ a ks z hv. answered w a b ks beneath (binary op w a b) hv (λ m is. stays_within.of_two op w a b m z y is) e))
  by_operator vs (operator.Convert op) beneath h e = taken (width_from op) vs beneath (ResultOf (operator.Convert op)) h
      (λ a us b hv. moves _ None [] (Number (converted op a) ∷ us) ls e refl (given (width_to op) beneath (stays_within.of_conversion op a b) hv) locals (λ r i. omega arith))

num_acts : (n : NumName) → RowActs (Num n)
num_acts n funcs f hs q g here c vs ls s =
    let x = rows.from_to (num_sig n).taken ((num_sig n).given ∷ []) q.operands (row f q (Num n)) (sym (row-Num f q n)) s.goes in
    by_operator n f hs q g here c ls s.locals vs (operator_of n) x.beneath (subst (λ (ts : List Ty). HaveTypes hs vs (all_at g ts)) (x.taken ∙ ap (λ (k : NumSig). k.taken ++ x.beneath) (sig_is n)) s.operands)
    (x.result ∙ ap (λ (k : NumSig). Gives (k.given ∷ x.beneath) None) (sig_is n))

pub number_rows : (n : NumName) → IsSafeAt (Num n)
number_rows n = safe (Num n) refl (num_acts n)
