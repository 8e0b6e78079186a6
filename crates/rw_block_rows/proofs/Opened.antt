-- Rows of blocks whose signature stands.
use Rattle.std.proofs.Common.{◌≡◌, ◌∙◌, List, [], refl, ap, sym, subst, reverse}
use Rattle.std.specs.Prelude.{Result}
use Rattle.std.proofs.Math.Path.{subst⁻¹}
use Rattle.rw_types.specs.declared.instrs.BlockSig.{BlockSig}
use Rattle.rw_types.specs.declared.types.Ty.{Ty}
use Rattle.rich_rules.specs.Blocks.{signed, entry, end_label, each_alone, if_row}
use Rattle.rich_rules.specs.Points.{Frame, Point, Outcome, Enters}
use Rattle.rich_rules.specs.Takers.{unr_i32, these, one_over, of_type}
use Rattle.rw_row_answers.specs.declared.answers.CapError.{CapError}
use Rattle.rw_row_answers.specs.Answers.{Breaking}
use Rattle.rw_block_rows.specs.declared.entries.Aim.{Aim}
use Rattle.rw_block_rows.specs.declared.entries.Aim.TheVariants.{Start, Behind}
use Rattle.rw_block_rows.specs.declared.entries.Entry.{Entry}
use Rattle.rw_block_rows.specs.Entries.{Takes, entry_seen, label_at, entry_over}

-- the lists of a block without a binder are those of the table
pub over_seen : (aim : Aim) (p : Point) (b : BlockSig) (payloads beneath : List Ty) → entry p b (label_at aim p b beneath) beneath (each_alone payloads) ≡ entry_seen (entry_over aim p.locals b payloads) p beneath
over_seen Start p b payloads beneath = refl
over_seen Behind p b payloads beneath = refl

module _ (f : Frame) (p : Point) (b : BlockSig) where
  module _ (signs : (rest : Outcome) → signed f p b rest ≡ rest) (params : List Ty) (is : params ≡ b.params) where
    pub these_broken : (rest : List Ty → Outcome) (e : CapError) → ((rest : List Ty → Outcome) → Breaking e (these (reverse params) p.operands rest)) → Breaking e (signed f p b (these (reverse b.params) p.operands rest))
    these_broken rest e told = subst⁻¹ (Breaking e) (signs (these (reverse b.params) p.operands rest)) (subst (λ (ts : List Ty). Breaking e (these (reverse ts) p.operands rest)) is (told rest))

    pub over_opened : (aim : Aim) (e : Entry) (left : List Ty) → ((rest : List Ty → Outcome) → these (reverse params) p.operands rest ≡ rest left) → e ≡ entry_over aim p.locals b [] → signed f p b (these (reverse b.params) p.operands (λ beneath. Enters (entry p b (label_at aim p b beneath) beneath []))) ≡ Enters (entry_seen e p left)
    over_opened aim e left told made =
        let entering : List Ty → Outcome = λ beneath. Enters (entry p b (label_at aim p b beneath) beneath []) in
        signs (these (reverse b.params) p.operands entering)
        ∙ ap (λ (ts : List Ty). these (reverse ts) p.operands entering) (sym is)
        ∙ told entering
        ∙ ap Enters (over_seen aim p b [] left ∙ ap (λ (x : Entry). entry_seen x p left) (sym made))

    pub top_told : (r : Result Ty CapError) (left : List Ty) → ((rest : Ty → List Ty → Outcome) → Takes r (one_over (reverse params) p.operands rest) (λ t. rest t left)) → (rest : Ty → List Ty → Outcome) → Takes r (signed f p b (one_over (reverse b.params) p.operands rest)) (λ t. rest t left)
    top_told r left told rest = subst⁻¹ (λ (out : Outcome). Takes r out (λ t. rest t left)) (signs (one_over (reverse b.params) p.operands rest) ∙ ap (λ (ts : List Ty). one_over (reverse ts) p.operands rest) (sym is)) (told rest)

  module _ (t : Ty) (left : List Ty) (taken : (rest : Ty → List Ty → Outcome) → signed f p b (one_over (reverse b.params) p.operands rest) ≡ rest t left) where
    if_taken : if_row f p b ≡ of_type unr_i32 t (Enters (entry p b (end_label p b left) left []))
    if_taken = taken (λ u beneath. of_type unr_i32 u (Enters (entry p b (end_label p b beneath) beneath [])))

    pub if_broken : (e : CapError) → ((rest : Outcome) → Breaking e (of_type unr_i32 t rest)) → Breaking e (if_row f p b)
    if_broken e told = subst⁻¹ (Breaking e) if_taken (told (Enters (entry p b (end_label p b left) left [])))

    pub if_opened : (e : Entry) → ((rest : Outcome) → of_type unr_i32 t rest ≡ rest) → e ≡ entry_over Behind p.locals b [] → if_row f p b ≡ Enters (entry_seen e p left)
    if_opened e number made = if_taken ∙ number (Enters (entry p b (end_label p b left) left [])) ∙ ap (λ (x : Entry). Enters (entry_seen x p left)) (sym made)
