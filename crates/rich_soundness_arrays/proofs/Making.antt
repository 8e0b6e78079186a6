-- The row that makes an array.
use Rattle.std.proofs.Common.{◌≡◌, ℕ, ◌+◌, List, [], ◌∷◌, None, refl, sym, subst, arith}
use Rattle.std.specs.Prelude.{IsTrue, replicate, ◌*◌}
use Rattle.std.proofs.lemmas.List.{length-replicate}
use Rattle.wasm_operators.specs.declared.Width.TheVariants.{W32}
use Rattle.wasm_num.specs.Widths.{IsWithin}
use Rattle.rw_types.specs.declared.instrs.Instr.{ArrayMalloc}
use Rattle.rw_types.specs.declared.types.Heap.TheVariants.{Array}
use Rattle.rw_types.specs.declared.types.Mem.{Mem}
use Rattle.rw_types.specs.declared.types.Ty.{Ty}
use Rattle.rich_types.specs.Scopes.{scope_of}
use Rattle.rich_types.specs.Instances.{raise}
use Rattle.rich_rules.specs.Forms.{is_unr_type}
use Rattle.rich_rules.specs.Points.{Gives}
use Rattle.rich_rules.specs.Raised.{one_location}
use Rattle.rich_rules.specs.Structs.{new_cell}
use Rattle.rich_rules.specs.Table.{row}
use Rattle.rich_rules.proofs.RowEquations.{row-ArrayMalloc}
use Rattle.rich_rules_inversions.proofs.Cells.{rows}
use Rattle.rich_reduction.specs.Configurations.{Val, Number, Elements}
use Rattle.rich_reduction.specs.Values.{words}
use Rattle.rich_soundness_values.specs.Heaps.{at, all_at}
use Rattle.rich_soundness_values.specs.Values.{HaveTypes, more_types}
use Rattle.rich_soundness_values.specs.Cells.{is_array}
use Rattle.rich_soundness_values.proofs.Typed.{no_rights}
use Rattle.rich_soundness_rows.proofs.Closed.{unr_at}
use Rattle.rich_soundness_rows.proofs.Widths.{number_taken}
use Rattle.rich_soundness_frames.proofs.Acts.{Told, ActsOn, CellActs}
use Rattle.rich_soundness_cells.proofs.Made.{makes_acts}
use Rattle.rich_soundness_arrays.proofs.Elements.{array_raised, each_copy, each_free}

pub malloc_acts : (m : Mem) → CellActs (ArrayMalloc m)
malloc_acts m funcs f hs q g here c vs s =
    let x = rows.array_malloc (scope_of q.binders) m q.operands (row f q (ArrayMalloc m)) (sym (row-ArrayMalloc f q m)) s.goes in
    number_taken hs W32 vs (all_at g (x.value ∷ x.beneath)) (λ us. Told hs f q g (ArrayMalloc m) c us → ActsOn funcs f hs q g here c (ArrayMalloc m) us) (subst (λ (ts : List Ty). HaveTypes hs vs (all_at g ts)) x.taken s.operands)
    (λ n us w hu told. go n us w x.value x.beneath hu told x.unrestricted x.given) s
  where
    go : (n : ℕ) (us : List Val) → IsWithin W32 n → (t : Ty) (beneath : List Ty) → HaveTypes hs us (all_at g (t ∷ beneath)) → Told hs f q g (ArrayMalloc m) c (Number n ∷ us) → IsTrue (is_unr_type (scope_of q.binders) t) →
        row f q (ArrayMalloc m) ≡ Gives (new_cell m (Array (raise one_location t)) ∷ beneath) None → ActsOn funcs f hs q g here c (ArrayMalloc m) (Number n ∷ us)
    go n [] w t beneath h told u e = elim h [ ]
    go n (v ∷ us) w t beneath (more_types h hu) told u e =
        let unr = unr_at g (scope_of q.binders) t told.answered u in
        makes_acts told m (Array (raise one_location t)) (Array (at g t)) (record { words = 1 + n * words v; content = Elements (replicate n v) }) us beneath e refl
        (λ l. array_raised g l t)
        (is_array (at g t) refl unr (subst (λ (k : ℕ). IsWithin W32 k) (sym (length-replicate n v)) w) (each_copy (at g t) n v h)) hu
        (λ r j. omega (arith, no_rights r j h unr, each_free (at g t) r j (replicate n v) (each_copy (at g t) n v h) unr))
