-- At its end a list has met what is demanded there.
use Rattle.std.proofs.Common.{◌≡◌, ℕ, List, [], Bool, true, false, Option, Some, None, length, cond, refl, sym, ap, ◌∙◌, subst}
use Rattle.std.specs.Prelude.{◌==◌}
use Rattle.std.proofs.lemmas.Bool.{eqb-true}
use Rattle.rw_types.specs.declared.types.Ty.{Ty}
use Rattle.rich_types.specs.Scopes.{Scope}
use Rattle.rich_types.specs.Instances.{Substitution}
use Rattle.rich_typing.specs.declared.notes.Note.{Note}
use Rattle.rich_typing.specs.declared.rules.Rule.{Rule}
use Rattle.rich_typing.specs.declared.rules.Rule.TheVariants as rule
use Rattle.rich_rules.specs.Points.{Frame, Label, Point, Broke, LocalsDemand, Exactly, AllUnr, Demand, Owner}
use Rattle.rich_rules.specs.Takers.{Difference, Differ, first_difference, last_difference, first_held}
use Rattle.rich_rules.specs.Derivations as derive
use Rattle.rich_rules.specs.Derivations.{Derives, broken_by, operands_broken, held_broken, locals_broken, end_broken}
use Rattle.rich_reduction.specs.Configurations.{Val, Level}
use Rattle.rich_rights.specs.Rights.{Right, rights_to, count_all}
use Rattle.rich_soundness_values.specs.Heaps.{Heaps, Answer, all_at}
use Rattle.rich_soundness_values.specs.Values.{HaveTypes}
use Rattle.rich_soundness_points.specs.Points.{locals_demand_at, Levels, of_function, of_initialiser, past, back}
use Rattle.rich_soundness_rows.proofs.Closed.{at_length}
use Rattle.rich_soundness_branches.proofs.Unr.{first_same, last_same, first_unr, no_rights_in_all}

pub ended : {f : Frame} {d : Demand} {q : Point} {notes : List Note} → Derives f d q [] notes → end_broken d q ≡ None
ended (derive.at_end e n) = e

no_difference : (broken : Rule) (x : Option Difference) → broken_by broken x ≡ None → x ≡ None
no_difference broken None e = refl
no_difference broken (Some (Differ t u)) e = cc

none_held : (x : Option Ty) → held_broken x ≡ None → x ≡ None
none_held None e = refl
none_held (Some t) e = cc

-- the operands are those that are demanded
pub operands_met : (demanded operands : List Ty) → operands_broken demanded operands ≡ None → operands ≡ demanded
operands_met demanded operands e = by_test (length operands == length demanded) refl e
  where
    by_test : (b : Bool) → (length operands == length demanded) ≡ b → cond b (broken_by rule.BlockEnd (last_difference operands demanded)) (Some (Broke rule.BlockEnd None None)) ≡ None → operands ≡ demanded
    by_test true f e = last_same operands demanded (eqb-true (length operands) (length demanded) f) (no_difference rule.BlockEnd (last_difference operands demanded) e)
    by_test false f e = cc

-- what is demanded of locals, in closed types: that they have these, or no rights
abbrev pub LocalsMeet : Heaps → List Val → LocalsDemand → Type 0
LocalsMeet hs ls (Exactly ts) = HaveTypes hs ls ts
LocalsMeet hs ls AllUnr = (r : Right) (n : ℕ) → count_all (rights_to r n) ls ≡ 0

pub locals_met : {hs : Heaps} (g : Substitution) (c : Scope) → Answer g c → (ls : List Val) (locals : List Ty) (l : LocalsDemand) → HaveTypes hs ls (all_at g locals) → locals_broken c l locals ≡ None →
    ((ts : List Ty) → locals_demand_at g l ≡ Exactly ts → length ts ≡ length (all_at g locals)) → LocalsMeet hs ls (locals_demand_at g l)
locals_met {hs = hs} g c answer ls locals (Exactly ts) h e many =
    subst (λ (us : List Ty). HaveTypes hs ls (all_at g us)) (first_same locals ts (sym (at_length g locals) ∙ sym (many (all_at g ts) refl) ∙ at_length g ts) (no_difference rule.LocalsEnd (first_difference locals ts) e)) h
locals_met g c answer ls locals AllUnr h e many = λ r n. no_rights_in_all r n h (first_unr g c answer locals (none_held (first_held c locals) e))

exactly_same : (ts us : List Ty) → Exactly ts ≡ Exactly us → ts ≡ us
exactly_same ts us e = cc

-- as many locals are demanded as there are
pub demand_count : {p : _} {hs : Heaps} {owner : Owner} {results : List Ty} {count : ℕ} {labels : List Label} {d : Demand} {levels : List Level} → Levels p hs owner results count labels d levels →
    (ts : List Ty) → d.locals ≡ Exactly ts → length ts ≡ count
demand_count (of_function w s) ts e = (let a : AllUnr ≡ Exactly ts = sym (ap (λ (y : Demand). y.locals) s) ∙ e in cc)
demand_count (of_initialiser n g w is s l) ts e = (let a : AllUnr ≡ Exactly ts = sym (ap (λ (y : Demand). y.locals) s) ∙ e in cc)
demand_count (past types locals rest outer many aim takes leaves beneath goes outward) ts e = ap (λ (us : List Ty). length us) (sym (exactly_same locals ts e)) ∙ many
demand_count (back types locals carried starting rest outer body many started aim takes leaves beneath inner goes outward) ts e = ap (λ (us : List Ty). length us) (sym (exactly_same locals ts e)) ∙ many
