-- What was written of the body of a form with a binder, as the text of the form.
use Rattle.std.proofs.Common.{◌≡◌, ◌∙◌, ℕ, List, [], ◌∷◌, ◌++◌, sym, ap, subst, Result}
use Rattle.std.specs.Prelude.{OnOk, codes, decimal}
use Rattle.rw_types.specs.declared.types.Mem.{Mem}
use Rattle.rw_types.specs.declared.types.Qual.{Qual}
use Rattle.rw_types.specs.declared.types.Ty.{Ty}
use Rattle.rw_types.specs.declared.types.Ty.TheVariants.{Rec}
use Rattle.rw_types.specs.declared.types.Pre.{Pre}
use Rattle.rw_types.specs.declared.types.Pre.TheVariants.{Hidden}
use Rattle.rw_types.specs.declared.types.Heap.{Heap}
use Rattle.rw_types.specs.declared.types.Heap.TheVariants.{Exist}
use Rattle.rich_writing.specs.Pieces.{in_parentheses, mem_text, qual_text}
use Rattle.rich_writing.specs.Types.{heap_text, pretype_text, type_text}
use Rattle.rich_writing.proofs.Types.{text-Exist, text-Hidden, text-Rec}

-- bytes that were appended are those that they are equal to
appended : {A E : Type 0} (r : Result A E) (x y b c : List ℕ) → b ≡ c → OnOk r (x ≡ y ++ b) → OnOk r (x ≡ y ++ c)
appended r x y b c e h = subst (λ (z : List ℕ). OnOk r (x ≡ y ++ z)) e h

module _ {A E : Type 0} (r : Result A E) (x y : List ℕ) (t u : Ty) (same : u ≡ t) where
  module _ (q : Qual) (s : ℕ) where
    pub rec_written : (v : Ty) → v ≡ Rec q s t → OnOk r (x ≡ y ++ in_parentheses (codes "rec" ∷ qual_text q ∷ decimal s ∷ type_text u ∷ [])) → OnOk r (x ≡ y ++ type_text v)
    rec_written v form h =
        appended r x y (in_parentheses (codes "rec" ∷ qual_text q ∷ decimal s ∷ type_text u ∷ [])) (type_text v)
        (ap (λ (z : Ty). in_parentheses (codes "rec" ∷ qual_text q ∷ decimal s ∷ type_text z ∷ [])) same ∙ sym (text-Rec q s t) ∙ ap type_text (sym form)) h

    pub exist_written : (v : Heap) → v ≡ Exist q s t → OnOk r (x ≡ y ++ in_parentheses (codes "exist" ∷ qual_text q ∷ decimal s ∷ type_text u ∷ [])) → OnOk r (x ≡ y ++ heap_text v)
    exist_written v form h =
        appended r x y (in_parentheses (codes "exist" ∷ qual_text q ∷ decimal s ∷ type_text u ∷ [])) (heap_text v)
        (ap (λ (z : Ty). in_parentheses (codes "exist" ∷ qual_text q ∷ decimal s ∷ type_text z ∷ [])) same ∙ sym (text-Exist q s t) ∙ ap heap_text (sym form)) h

  pub hidden_written : (m : Mem) (v : Pre) → v ≡ Hidden m t → OnOk r (x ≡ y ++ in_parentheses (codes "some" ∷ mem_text m ∷ type_text u ∷ [])) → OnOk r (x ≡ y ++ pretype_text v)
  hidden_written m v form h =
      appended r x y (in_parentheses (codes "some" ∷ mem_text m ∷ type_text u ∷ [])) (pretype_text v)
      (ap (λ (z : Ty). in_parentheses (codes "some" ∷ mem_text m ∷ type_text z ∷ [])) same ∙ sym (text-Hidden m t) ∙ ap pretype_text (sym form)) h
