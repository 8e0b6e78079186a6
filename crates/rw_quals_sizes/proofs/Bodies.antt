-- What is said of the body of a form with a binder, as the size or the words of the form.
use Rattle.std.proofs.Common.{◌≡◌, ◌∙◌, ℕ, List, ap, sym}
use Rattle.rw_types.specs.declared.types.Mem.{Mem}
use Rattle.rw_types.specs.declared.types.Qual.{Qual}
use Rattle.rw_types.specs.declared.types.Slot.{Slot}
use Rattle.rw_types.specs.declared.types.Ty.{Ty}
use Rattle.rw_types.specs.declared.types.Pre.{Pre}
use Rattle.rw_types.specs.declared.types.Pre.TheVariants.{Hidden}
use Rattle.rw_types.specs.declared.types.Heap.{Heap}
use Rattle.rw_types.specs.declared.types.Heap.TheVariants.{Struct, Exist}
use Rattle.rich_types.specs.Scopes.{Scope, with_location, with_variable}
use Rattle.rich_types.specs.Sizes.{size_under, pre_size, heap_words, slot_words}
use Rattle.rich_types.proofs.Sized.{size-Hidden, words-Exist, words-Struct}
use Rattle.rw_quals_sizes.specs.Capped.{capped}

module _ (c e : Scope) (t u : Ty) (n : ℕ) (same : u ≡ t) (is : n ≡ capped (size_under e u)) where
  pub hidden_size : (m : Mem) (p : Pre) → p ≡ Hidden m t → e ≡ with_location m c → n ≡ capped (pre_size c p)
  hidden_size m p form inner =
      is ∙ ap (λ x. capped (size_under x u)) inner ∙ ap (λ x. capped (size_under (with_location m c) x)) same
      ∙ ap capped (sym (size-Hidden c m t)) ∙ ap (λ x. capped (pre_size c x)) (sym form)

  pub exist_words : (q : Qual) (s : ℕ) (h : Heap) → h ≡ Exist q s t → e ≡ with_variable q s c → n ≡ capped (heap_words c h)
  exist_words q s h form inner =
      is ∙ ap (λ x. capped (size_under x u)) inner ∙ ap (λ x. capped (size_under (with_variable q s c) x)) same
      ∙ ap capped (sym (words-Exist c q s t)) ∙ ap (λ x. capped (heap_words c x)) (sym form)

pub struct_words : (c : Scope) (ss rs : List Slot) (n : ℕ) (h : Heap) → rs ≡ ss → n ≡ capped (slot_words rs) → h ≡ Struct ss → n ≡ capped (heap_words c h)
struct_words c ss rs n h same is form =
    is ∙ ap (λ x. capped (slot_words x)) same ∙ ap capped (sym (words-Struct c ss)) ∙ ap (λ x. capped (heap_words c x)) (sym form)
