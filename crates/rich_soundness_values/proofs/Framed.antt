-- What has no right to read at a location keeps its type, whatever comes to stand there.
use Rattle.std.proofs.Common.{◌≡◌, ℕ, List, ap, ◌∙◌, arith}
use Rattle.std.specs.Prelude.{slice_get}
use Rattle.rw_types.specs.declared.types.FunType.{FunType}
use Rattle.rw_types.specs.declared.types.Heap.{Heap}
use Rattle.rw_types.specs.declared.types.Mem.{Mem}
use Rattle.rw_types.specs.declared.types.Slot as type
use Rattle.rw_types.specs.declared.types.Ty.{Ty}
use Rattle.rich_reduction.specs.Configurations.{Val, Vals, Slot, Content}
use Rattle.rich_rights.specs.Rights.{Reading, rights_to, count, count_parts, count_all, count_slots, count_content}
use Rattle.rich_soundness_values.specs.Heaps.{Heaps}
use Rattle.rich_soundness_values.specs.Values.{HasType, is_i32, is_i64, is_unit, is_tuple, is_ref, is_ptr, is_cap, is_own, is_fold, is_pack, is_code, is_instance, HaveParts, no_parts, more_parts, HaveTypes, no_types, more_types}
use Rattle.rich_soundness_values.specs.Cells.{HaveSlots, no_slots, more_slots, Holds, is_struct, is_variant, is_array, is_package}
use Rattle.rich_soundness_values.specs.Laws.{Keeps, TypesAreFramed}

module _ {hs hs' : Heaps} (n : ℕ) (keeps : Keeps n hs hs') where
  mutual
    pub framed : {v : Val} {t : Ty} → HasType hs v t → count (rights_to Reading n) v ≡ 0 → HasType hs' v t
    framed (is_i32 q e w) z = is_i32 q e w
    framed (is_i64 q e w) z = is_i64 q e w
    framed (is_unit q e) z = is_unit q e
    framed (is_tuple q ts e u parts) z = is_tuple q ts e u (framed_parts parts z)
    framed (is_ref {l = l} q h e lin stands) z = is_ref q h e lin (keeps.stands l h z stands)
    framed (is_ptr q e) z = is_ptr q e
    framed (is_cap {l = l} h e lin stands) z = is_cap h e lin (keeps.stands l h z stands)
    framed (is_own e lin) z = is_own e lin
    framed (is_fold q s u e f size h) z = is_fold q s u e f size (framed h z)
    framed (is_pack q l u e f h) z = is_pack q l u e f (framed h z)
    framed (is_code {k = k} q f g is e) z = is_code q f g (ap (λ (fs : List FunType). slice_get fs k) keeps.functions ∙ is) e
    framed (is_instance {k = k} q f g is answers e) z = is_instance q f g (ap (λ (fs : List FunType). slice_get fs k) keeps.functions ∙ is) answers e

    framed_parts : {vs : Vals} {ts : List Ty} → HaveParts hs vs ts → count_parts (rights_to Reading n) vs ≡ 0 → HaveParts hs' vs ts
    framed_parts no_parts z = no_parts
    framed_parts (more_parts h parts) z = more_parts (framed h (omega arith)) (framed_parts parts (omega arith))

  pub framed_all : {vs : List Val} {ts : List Ty} → HaveTypes hs vs ts → count_all (rights_to Reading n) vs ≡ 0 → HaveTypes hs' vs ts
  framed_all no_types z = no_types
  framed_all (more_types h types) z = more_types (framed h (omega arith)) (framed_all types (omega arith))

  framed_slots : {slots : List Slot} {ss : List type.Slot} → HaveSlots hs slots ss → count_slots (rights_to Reading n) slots ≡ 0 → HaveSlots hs' slots ss
  framed_slots no_slots z = no_slots
  framed_slots (more_slots e h slots) z = more_slots e (framed h (omega arith)) (framed_slots slots (omega arith))

  pub framed_content : {m : Mem} {h : Heap} {x : Content} → Holds hs m h x → count_content (rights_to Reading n) x ≡ 0 → Holds hs' m h x
  framed_content (is_struct ss e slots) z = is_struct ss e (framed_slots slots z)
  framed_content (is_variant ts t e at u h) z = is_variant ts t e at u (framed h z)
  framed_content (is_array t e u w types) z = is_array t e u w (framed_all types z)
  framed_content (is_package q u t e f size g h) z = is_package q u t e f size g (framed h z)

pub types_framed : TypesAreFramed
types_framed n hs hs' keeps = record {
  value = λ v t h z. framed n keeps h z;
  values = λ vs ts h z. framed_all n keeps h z;
  content = λ m h x holds z. framed_content n keeps holds z;
}
