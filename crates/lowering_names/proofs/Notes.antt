-- What the note of a point tells, where the operands that are taken are known.
use Rattle.std.proofs.Common.{◌≡◌, ◌∙◌, ℕ, suc, ◌+◌, List, [], ◌∷◌, ◌++◌, length, take, drop, reverse, refl, ap}
use Rattle.std.proofs.lemmas.List.{reverse-append}
use Rattle.rw_types.specs.declared.instrs.Instr.{Instr}
use Rattle.rw_types.specs.declared.types.Ty.{Ty}
use Rattle.rich_types.specs.Scopes.{scope_of}
use Rattle.rich_types.specs.Sizes.{list_size}
use Rattle.rich_rules.specs.Points.{Frame, Point}
use Rattle.rich_rules.specs.Table.{note_of, rest_size, takes}
use Rattle.layout.specs.Calls.{top_of}
use Rattle.layout.specs.Frames.{taken_words}
use Rattle.lowering_rows.specs.Taken.{under_top, words_under_top}
use Rattle.lowering_heights.proofs.Sizes.{size-reverse}

drop_front : (xs ys : List Ty) → drop (length xs) (xs ++ ys) ≡ ys
drop_front [] ys = refl
drop_front (x ∷ xs) ys = drop_front xs ys

take_front : (xs ys : List Ty) → take (length xs) (xs ++ ys) ≡ xs
take_front [] ys = refl
take_front (x ∷ xs) ys = ap (λ (l : List Ty). x ∷ l) (take_front xs ys)

-- the last of types, and those before it
last_top : (xs : List Ty) (t : Ty) → top_of (xs ++ t ∷ []) ≡ t
last_top [] t = refl
last_top (x ∷ []) t = refl
last_top (x ∷ y ∷ xs) t = last_top (y ∷ xs) t

before_last : (xs : List Ty) (t : Ty) → under_top (xs ++ t ∷ []) ≡ xs
before_last [] t = refl
before_last (x ∷ []) t = refl
before_last (x ∷ y ∷ xs) t = ap (λ (l : List Ty). x ∷ l) (before_last (y ∷ xs) t)

module _ (f : Frame) (p : Point) (i : Instr) (front beneath : List Ty) (count : takes f p i ≡ length front) (operands : p.operands ≡ front ++ beneath) where
  pub beneath_is : (note_of f p i).beneath ≡ list_size (scope_of p.binders) beneath + rest_size (scope_of p.binders) p.labels
  beneath_is =
      let c = scope_of p.binders in
      ap (λ (n : ℕ). list_size c (drop n p.operands) + rest_size c p.labels) count
      ∙ ap (λ (l : List Ty). list_size c (drop (length front) l) + rest_size c p.labels) operands
      ∙ ap (λ (l : List Ty). list_size c l + rest_size c p.labels) (drop_front front beneath)

  pub taken_is : (note_of f p i).taken ≡ reverse front
  taken_is =
      ap (λ (n : ℕ). reverse (take n p.operands)) count
      ∙ ap (λ (l : List Ty). reverse (take (length front) l)) operands
      ∙ ap (λ (l : List Ty). reverse l) (take_front front beneath)

  pub words_are : taken_words (note_of f p i) ≡ list_size (scope_of p.binders) front
  words_are = ap (λ (l : List Ty). list_size (scope_of p.binders) l) taken_is ∙ size-reverse (scope_of p.binders) front

module _ (f : Frame) (p : Point) (i : Instr) (t : Ty) (front beneath : List Ty) (count : takes f p i ≡ suc (length front)) (operands : p.operands ≡ t ∷ (front ++ beneath)) where
  all_taken : (note_of f p i).taken ≡ reverse front ++ t ∷ []
  all_taken = taken_is f p i (t ∷ front) beneath count operands ∙ reverse-append (t ∷ []) front

  pub top_is : top_of (note_of f p i).taken ≡ t
  top_is = ap top_of all_taken ∙ last_top (reverse front) t

  pub under_are : words_under_top (note_of f p i) ≡ list_size (scope_of p.binders) front
  under_are =
      let c = scope_of p.binders in
      ap (λ (l : List Ty). list_size c (under_top l)) all_taken ∙ ap (λ (l : List Ty). list_size c l) (before_last (reverse front) t) ∙ size-reverse c front
