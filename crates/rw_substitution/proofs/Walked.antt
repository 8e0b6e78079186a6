-- What the code makes of a body under one binder more is the walk of the form around it.
use Rattle.std.proofs.Common.{◌≡◌, ◌∙◌, ℕ, ap, sym}
use Rattle.rw_types.specs.declared.types.Mem.{Mem}
use Rattle.rw_types.specs.declared.types.Qual.{Qual}
use Rattle.rw_types.specs.declared.types.Ty.{Ty}
use Rattle.rw_types.specs.declared.types.Ty.TheVariants.{Rec}
use Rattle.rw_types.specs.declared.types.Pre.{Pre}
use Rattle.rw_types.specs.declared.types.Pre.TheVariants.{Hidden}
use Rattle.rw_types.specs.declared.types.Heap.{Heap}
use Rattle.rw_types.specs.declared.types.Heap.TheVariants.{Exist}
use Rattle.rich_types.specs.declared.depth.Depth.{Depth}
use Rattle.rich_types.specs.Walks.{Leaves, below_location, below_variable, walk, walk_pre, walk_heap}
use Rattle.rich_types.proofs.Shapes.{walk-Rec, walk-Hidden, walk-Exist}

module _ (f : Leaves) (d e : Depth) (body read made boxed : Ty) (reads : read ≡ body) (makes : made ≡ walk f e read) (boxes : boxed ≡ made) where
  whole : (inner : Depth) → e ≡ inner → boxed ≡ walk f inner body
  whole inner deeper = boxes ∙ makes ∙ ap (λ (x : Depth). walk f x read) deeper ∙ ap (walk f inner) reads

  pub rec_walked : (q : Qual) (s : ℕ) (t : Ty) → t ≡ Rec q s body → e ≡ below_variable d → Rec q s boxed ≡ walk f d t
  rec_walked q s t form deeper = ap (Rec q s) (whole (below_variable d) deeper) ∙ sym (walk-Rec f d q s body) ∙ ap (walk f d) (sym form)

  pub exist_walked : (q : Qual) (s : ℕ) (h : Heap) → h ≡ Exist q s body → e ≡ below_variable d → Exist q s boxed ≡ walk_heap f d h
  exist_walked q s h form deeper = ap (Exist q s) (whole (below_variable d) deeper) ∙ sym (walk-Exist f d q s body) ∙ ap (walk_heap f d) (sym form)

  pub hidden_walked : (m : Mem) (p : Pre) → p ≡ Hidden m body → e ≡ below_location d → Hidden m boxed ≡ walk_pre f d p
  hidden_walked m p form deeper = ap (Hidden m) (whole (below_location d) deeper) ∙ sym (walk-Hidden f d m body) ∙ ap (walk_pre f d) (sym form)
