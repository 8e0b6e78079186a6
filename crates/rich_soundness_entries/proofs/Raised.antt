-- Points beneath one binder more, in closed types.
use Rattle.std.proofs.Common.{◌≡◌, List, [], ◌∷◌, refl, ap, ◌∙◌}
use Rattle.rw_types.specs.declared.types.Ty.{Ty}
use Rattle.rich_types.specs.Walks.{outside}
use Rattle.rich_types.specs.Instances.{Substitution}
use Rattle.rich_rules.specs.Points.{Label}
use Rattle.rich_rules.specs.Raised.{raise_all, raise_label, raise_labels}
use Rattle.rich_soundness_values.specs.Heaps.{at, all_at}
use Rattle.rich_soundness_points.specs.Points.{label_at, labels_at}
use Rattle.rich_soundness_binders.specs.Laws.{onto, depth_of}
use Rattle.rich_soundness_binders.proofs.Onto.{raised_stays}

module _ (s g : Substitution) where
  pub raised_all : (ts : List Ty) → all_at (onto s g) (raise_all (depth_of s) ts) ≡ all_at g ts
  raised_all [] = refl
  raised_all (t ∷ ts) = ap (λ (u : Ty). u ∷ all_at (onto s g) (raise_all (depth_of s) ts)) (raised_stays s g outside t) ∙ ap (λ (us : List Ty). at g t ∷ us) (raised_all ts)

  pub raised_label : (l : Label) → label_at (onto s g) (raise_label (depth_of s) l) ≡ label_at g l
  raised_label l =
      ap (λ (ts : List Ty). record { types = ts; locals = all_at (onto s g) (raise_all (depth_of s) l.locals); rest = all_at (onto s g) (raise_all (depth_of s) l.rest) }) (raised_all l.types)
      ∙ ap (λ (ts : List Ty). record { types = all_at g l.types; locals = ts; rest = all_at (onto s g) (raise_all (depth_of s) l.rest) }) (raised_all l.locals)
      ∙ ap (λ (ts : List Ty). record { types = all_at g l.types; locals = all_at g l.locals; rest = ts }) (raised_all l.rest)

  pub raised_labels : (ls : List Label) → labels_at (onto s g) (raise_labels (depth_of s) ls) ≡ labels_at g ls
  raised_labels [] = refl
  raised_labels (l ∷ ls) = ap (λ (k : Label). k ∷ labels_at (onto s g) (raise_labels (depth_of s) ls)) (raised_label l) ∙ ap (λ (ks : List Label). label_at g l ∷ ks) (raised_labels ls)
