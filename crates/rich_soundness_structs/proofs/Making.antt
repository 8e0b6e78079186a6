-- The row that makes a struct.
use Rattle.std.proofs.Common.{◌≡◌, ◌≤◌, ℕ, List, take, drop, length, reverse, refl, sym, ap, ◌∙◌, subst, arith}
use Rattle.std.specs.Prelude.{sum}
use Rattle.std.proofs.lemmas.List.{length-reverse, length-take-le}
use Rattle.rw_types.specs.declared.instrs.Instr.{StructMalloc}
use Rattle.rw_types.specs.declared.types.Heap.TheVariants.{Struct}
use Rattle.rw_types.specs.declared.types.Mem.{Mem}
use Rattle.rw_types.specs.declared.types.Ty.{Ty}
use Rattle.rich_types.specs.Scopes.{scope_of}
use Rattle.rich_rules.specs.Raised.{one_location, raise_all}
use Rattle.rich_rules.specs.Structs as rules
use Rattle.rich_rules.specs.Table.{row}
use Rattle.rich_rules.proofs.RowEquations.{row-StructMalloc}
use Rattle.rich_rules_inversions.proofs.Cells.{rows}
use Rattle.rich_reduction.specs.Configurations.{Slots}
use Rattle.rich_reduction.specs.Cells.{makes}
use Rattle.rich_reduction.specs.Structs.{slots_of}
use Rattle.rich_rights.specs.Rights.{rights_to}
use Rattle.rich_rights_laws.proofs.Sums.{values}
use Rattle.rich_soundness_values.specs.Heaps.{all_at}
use Rattle.rich_soundness_values.specs.Values.{HaveTypes}
use Rattle.rich_soundness_values.specs.Cells.{is_struct}
use Rattle.rich_soundness_rows.proofs.Closed.{at_length}
use Rattle.rich_soundness_tuples.proofs.Lists.{top, have_length, have_reverse, have_take, have_drop, at_reverse, at_take, at_drop, count_split}
use Rattle.rich_soundness_frames.proofs.Acts.{CellActs}
use Rattle.rich_soundness_cells.proofs.Made.{makes_acts}
use Rattle.rich_soundness_structs.proofs.Slots.{slots_typed, slots_counted, struct_raised}

pub malloc_acts : (m : Mem) (sizes : List ℕ) → CellActs (StructMalloc m sizes)
malloc_acts m sizes funcs f hs q g here c vs s =
    let x = rows.struct_malloc (scope_of q.binders) m sizes q.operands (row f q (StructMalloc m sizes)) (sym (row-StructMalloc f q m sizes)) s.goes in
    let n : ℕ = length sizes in
    let ts : List Ty = reverse (take (length sizes) q.operands) in
    let few : length sizes ≤ length vs = subst (λ (k : ℕ). length sizes ≤ k) (sym (at_length g q.operands) ∙ sym (have_length s.operands)) x.enough in
    let front : HaveTypes hs (reverse (take (length sizes) vs)) (all_at g (reverse (take (length sizes) q.operands))) =
    subst (λ (us : List Ty). HaveTypes hs (reverse (take (length sizes) vs)) us) (ap reverse (sym (at_take g (length sizes) q.operands)) ∙ sym (at_reverse g (take (length sizes) q.operands))) (have_reverse (have_take (length sizes) s.operands)) in
    let back = subst (λ (us : List Ty). HaveTypes hs (drop (length sizes) vs) us) (sym (at_drop g (length sizes) q.operands)) (have_drop (length sizes) s.operands) in
    let many : length (reverse (take (length sizes) vs)) ≡ length sizes = length-reverse (take (length sizes) vs) ∙ length-take-le (length sizes) vs few in
    makes_acts s m (Struct (rules.slots_of (raise_all one_location ts) sizes)) (Struct (rules.slots_of (all_at g ts) sizes)) (record { words = sum sizes; content = Slots (slots_of sizes (reverse (take n vs))) }) (drop n vs) (drop n q.operands) x.given
    (top n vs (λ taken beneath. makes m (record { words = sum sizes; content = Slots (slots_of sizes (reverse taken)) }) beneath (record here { operands = vs }) c) few)
    (λ l. struct_raised g l ts sizes)
    (is_struct (rules.slots_of (all_at g ts) sizes) refl (slots_typed sizes front))
    back
    (λ r j. omega (arith, slots_counted (rights_to r j) sizes (reverse (take (length sizes) vs)) many, (values (rights_to r j)).reversed (take (length sizes) vs), count_split (rights_to r j) (length sizes) vs))
