-- A value has the form and the words of its type, and no rights where it may be dropped and copied.
use Rattle.std.proofs.Common.{◌≡◌, ℕ, List, [], ◌∷◌, refl, sym, ap, ◌∙◌, arith}
use Rattle.rw_types.specs.declared.types.Mem.{Mem}
use Rattle.rw_types.specs.declared.types.Mem.TheVariants.{L, U}
use Rattle.rw_types.specs.declared.types.Priv.{Priv}
use Rattle.rw_types.specs.declared.types.Priv.TheVariants.{Rw, R}
use Rattle.rw_types.specs.declared.types.Qual.{Qual}
use Rattle.rw_types.specs.declared.types.Qual.TheVariants.{Unr, Lin}
use Rattle.rw_types.specs.declared.types.Ty.{Ty}
use Rattle.rich_types.specs.Scopes.{no_scope, with_location}
use Rattle.rich_types.specs.Sizes.{qual_under, list_size}
use Rattle.rich_types.proofs.Sized.{size-Tuple, size-Hidden, size-Code, size-Rec, qual-Rec}
use Rattle.rich_reduction.specs.Configurations.{Val, Vals, Location}
use Rattle.rich_reduction.specs.Values.{words, words_of_all}
use Rattle.rich_rights.specs.Rights.{Right, Reading, Writing, rights_to, is_linear, is_at, count, count_parts}
use Rattle.rich_soundness_values.specs.Heaps.{Heaps, name_of, IsUnr, AreUnr, size_of, function_at, all_at}
use Rattle.rich_soundness_values.specs.Values.{HasType, is_i32, is_i64, is_unit, is_tuple, is_ref, is_ptr, is_cap, is_own, is_fold, is_pack, is_code, is_instance, HaveParts, no_parts, more_parts}
use Rattle.rich_soundness_values.specs.Laws.{form_of, form_for, ValuesHaveForms, ValuesHaveWords, UnrHasNoRights}
use Rattle.rich_soundness_values.proofs.Sized.{size_with_location}

pub formed : {hs : Heaps} {v : Val} {t : Ty} → HasType hs v t → form_of v ≡ form_for t
formed (is_i32 q e w) = sym (ap form_for e)
formed (is_i64 q e w) = sym (ap form_for e)
formed (is_unit q e) = sym (ap form_for e)
formed (is_tuple q ts e u parts) = sym (ap form_for e)
formed (is_ref q h e lin stands) = sym (ap form_for e)
formed (is_ptr q e) = sym (ap form_for e)
formed (is_cap h e lin stands) = sym (ap form_for e)
formed (is_own e lin) = sym (ap form_for e)
formed (is_fold q s u e f size h) = sym (ap form_for e)
formed (is_pack q l u e f h) = sym (ap form_for e)
formed (is_code q f g is e) = sym (ap form_for e)
formed (is_instance q f g is answers e) = sym (ap form_for e)

mutual
  pub sized : {hs : Heaps} {v : Val} {t : Ty} → HasType hs v t → words v ≡ size_of t
  sized (is_i32 q e w) = sym (ap size_of e)
  sized (is_i64 q e w) = sym (ap size_of e)
  sized (is_unit q e) = sym (ap size_of e)
  sized (is_tuple q ts e u parts) = sized_parts parts ∙ sym (size-Tuple no_scope ts) ∙ sym (ap size_of e)
  sized (is_ref q h e lin stands) = sym (ap size_of e)
  sized (is_ptr q e) = sym (ap size_of e)
  sized (is_cap h e lin stands) = sym (ap size_of e)
  sized (is_own e lin) = sym (ap size_of e)
  sized (is_fold q s u e f size h) = sized h ∙ size ∙ sym (size-Rec no_scope q s u) ∙ sym (ap size_of e)
  sized (is_pack q l u e f h) =
      sized h ∙ size_with_location (with_location l.mem no_scope) (name_of l ∷ []) u no_scope refl ∙ sym (size-Hidden no_scope l.mem u) ∙ sym (ap size_of e)
  sized (is_code q f g is e) = sym (size-Code no_scope (function_at g f)) ∙ sym (ap size_of e)
  sized (is_instance q f g is answers e) = sym (size-Code no_scope (record { binders = []; params = all_at g f.params; results = all_at g f.results })) ∙ sym (ap size_of e)

  sized_parts : {hs : Heaps} {vs : Vals} {ts : List Ty} → HaveParts hs vs ts → words_of_all vs ≡ list_size no_scope ts
  sized_parts no_parts = refl
  sized_parts (more_parts h parts) = omega (arith, sized h, sized_parts parts)

-- a location of the other memory
elsewhere : (n : ℕ) (m : Mem) (k : ℕ) → (m ≡ L → ⊥) → is_linear n m k ≡ 0
elsewhere n L k h = absurd (h refl)
elsewhere n U k h = refl

holds_none : (r : Right) (n : ℕ) (l : Location) (p : Priv) → is_at n l ≡ 0 → (rights_to r n).holds l p ≡ 0
holds_none Reading n l p z = z
holds_none Writing n l Rw z = z
holds_none Writing n l R z = refl

apart : (q : Qual) → q ≡ Lin → q ≡ Unr → ⊥
apart q lin unr = cc

mutual
  pub no_rights : {hs : Heaps} (r : Right) (n : ℕ) {v : Val} {t : Ty} → HasType hs v t → IsUnr t → count (rights_to r n) v ≡ 0
  no_rights r n (is_i32 q e w) z = refl
  no_rights r n (is_i64 q e w) z = refl
  no_rights r n (is_unit q e) z = refl
  no_rights r n (is_tuple q ts e u parts) z = no_rights_in r n parts (u (sym (ap (qual_under no_scope) e) ∙ z))
  no_rights r n (is_ref {l = l} {p = p} q h e lin stands) z =
      holds_none r n l p (elsewhere n l.mem l.number (λ is. apart q (lin is) (sym (ap (qual_under no_scope) e) ∙ z)))
  no_rights r n (is_ptr q e) z = refl
  no_rights r n (is_cap h e lin stands) z = absurd (apart Lin refl (sym (ap (qual_under no_scope) e) ∙ z))
  no_rights r n (is_own e lin) z = absurd (apart Lin refl (sym (ap (qual_under no_scope) e) ∙ z))
  no_rights r n (is_fold q s u e f size h) z = no_rights r n h (f (sym (qual-Rec no_scope q s u) ∙ sym (ap (qual_under no_scope) e) ∙ z))
  no_rights r n (is_pack q l u e f h) z = no_rights r n h (f (sym (ap (qual_under no_scope) e) ∙ z))
  no_rights r n (is_code q f g is e) z = refl
  no_rights r n (is_instance q f g is answers e) z = refl

  no_rights_in : {hs : Heaps} (r : Right) (n : ℕ) {vs : Vals} {ts : List Ty} → HaveParts hs vs ts → AreUnr ts → count_parts (rights_to r n) vs ≡ 0
  no_rights_in r n no_parts z = refl
  no_rights_in r n (more_parts h parts) z = omega (arith, no_rights r n h z.0, no_rights_in r n parts z.1)

pub forms : ValuesHaveForms
forms hs v t h = formed h

pub words_are : ValuesHaveWords
words_are hs v t h = sized h

pub unr_has_none : UnrHasNoRights
unr_has_none hs v t r n h z = no_rights r n h z
