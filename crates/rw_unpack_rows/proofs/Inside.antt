-- Rows that open what an operand hides, where that operand was taken.
use Rattle.std.proofs.Common.{◌≡◌, ◌∙◌, ◌++◌, ℕ, List, [], ◌∷◌, None, Some, refl, ap, sym, length, reverse}
use Rattle.std.specs.Prelude.{◌==◌}
use Rattle.std.proofs.Math.Path.{subst⁻¹}
use Rattle.std.proofs.lemmas.List.{reverse-append}
use Rattle.rw_types.specs.declared.instrs.BlockSig.{BlockSig}
use Rattle.rw_types.specs.declared.types.Binder.{Binder}
use Rattle.rw_types.specs.declared.types.Binder.TheVariants.{Loc, Kind}
use Rattle.rw_types.specs.declared.types.Ty.{Ty}
use Rattle.rich_types.specs.declared.depth.Depth.{Depth}
use Rattle.rich_types.specs.Instances.{raise}
use Rattle.rich_types.specs.Scopes.{scope_of}
use Rattle.rich_typing.specs.declared.rules.Rule.TheVariants as rule
use Rattle.rich_rules.specs.Blocks.{signed, changed_by, entry, entry_below, end_label, each_alone, mem_unpack_row, exist_unpack_row, variant_case_row}
use Rattle.rich_rules.specs.Forms.{is_rw}
use Rattle.rich_rules.specs.Points as points
use Rattle.rich_rules.specs.Points.{Frame, Point, Exactly, Outcome, Enters}
use Rattle.rich_rules.specs.Raised.{below_one, raise_all, entered}
use Rattle.rich_rules.specs.Takers.{need, one_over, hidden_form, package_form, variant_form}
use Rattle.rw_row_answers.specs.declared.answers.CapError.{CapError}
use Rattle.rw_row_answers.specs.Answers.{Breaking}
use Rattle.rw_block_rows.specs.declared.entries.Aim.TheVariants.{Behind}
use Rattle.rw_block_rows.specs.declared.entries.Entry.{Entry}
use Rattle.rw_block_rows.specs.Entries.{entry_seen, entry_over}
use Rattle.rw_block_rows.proofs.Opened.{over_seen}
use Rattle.rw_unpack_rows.specs.Bound.{entry_inside}

raised_more : (by : Depth) (ts us : List Ty) → raise_all by (ts ++ us) ≡ raise_all by ts ++ raise_all by us
raised_more by [] us = refl
raised_more by (t ∷ ts) us = ap (λ (l : List Ty). raise by t ∷ l) (raised_more by ts us)

raised_reverse : (by : Depth) (ts : List Ty) → raise_all by (reverse ts) ≡ reverse (raise_all by ts)
raised_reverse by [] = refl
raised_reverse by (t ∷ ts) =
    ap (raise_all by) (reverse-append (t ∷ []) ts)
    ∙ raised_more by (reverse ts) (t ∷ [])
    ∙ ap (λ (l : List Ty). l ++ raise by t ∷ []) (raised_reverse by ts)
    ∙ sym (reverse-append (raise by t ∷ []) (raise_all by ts))

module _ (p : Point) (b : BlockSig) where
  -- the list below a binder is that of the table
  pub inside_seen : (binder : Binder) (t : Ty) (beneath : List Ty) → entry_below p b binder (end_label p b beneath) beneath t ≡ entry_seen (entry_inside binder p.locals b t) p beneath
  inside_seen binder t beneath =
      let by : Depth = below_one binder in
      let base : Point = entered binder (record p { labels = end_label p b beneath ∷ p.labels }) in
      let made : List Ty → List Ty → points.Entry = λ begins ends. record {
        operands = reverse b.results ++ beneath;
        locals = changed_by b.locals p.locals;
        inner = record base { operands = begins };
        payloads = [];
        demand = record { types = ends; locals = Exactly (raise_all by (changed_by b.locals p.locals)) };
      } in
      ap (λ (l : List Ty). made (t ∷ l) (raise_all by (reverse b.results))) (raised_reverse by b.params)
      ∙ ap (λ (l : List Ty). made l (raise_all by (reverse b.results))) (sym (reverse-append (raise_all by b.params) (t ∷ [])))
      ∙ ap (made (reverse (raise_all by b.params ++ t ∷ []))) (raised_reverse by b.results)

  module _ (f : Frame) (e : CapError) (told : (rest : Ty → List Ty → Outcome) → Breaking e (signed f p b (one_over (reverse b.params) p.operands rest))) where
    pub mem_untaken : Breaking e (mem_unpack_row f p b)
    mem_untaken = told (λ u beneath. hidden_form u (λ m v. Enters (entry_below p b (Loc m) (end_label p b beneath) beneath v)))

    pub exist_untaken : Breaking e (exist_unpack_row f p b)
    exist_untaken = told (λ u beneath. package_form (scope_of p.binders) u (λ r q s v. need (is_rw r.privilege) rule.Privilege (Some u) None (Enters (entry_below p b (Kind q s) (end_label p b beneath) beneath v))))

    pub case_untaken : (lists : ℕ) → Breaking e (variant_case_row f p b lists)
    case_untaken lists = told (λ u beneath. variant_form (scope_of p.binders) u (λ r ts. need (is_rw r.privilege) rule.Privilege (Some u) None (need (lists == length ts) rule.Arms None None (Enters (entry p b (end_label p b beneath) beneath (each_alone ts))))))

  module _ (f : Frame) (t : Ty) (left : List Ty) (taken : (rest : Ty → List Ty → Outcome) → signed f p b (one_over (reverse b.params) p.operands rest) ≡ rest t left) where
    -- what is entered below a binder
    abbrev entering : Binder → Ty → Outcome
    entering binder u = Enters (entry_below p b binder (end_label p b left) left u)

    mem_taken : mem_unpack_row f p b ≡ hidden_form t (λ m u. entering (Loc m) u)
    mem_taken = taken (λ u beneath. hidden_form u (λ m v. Enters (entry_below p b (Loc m) (end_label p b beneath) beneath v)))

    pub mem_broken : (e : CapError) → ((rest : Binder → Ty → Outcome) → Breaking e (hidden_form t (λ m u. rest (Loc m) u))) → Breaking e (mem_unpack_row f p b)
    mem_broken e told = subst⁻¹ (Breaking e) mem_taken (told entering)

    pub mem_opened : (binder : Binder) (body : Ty) (e : Entry) → ((rest : Binder → Ty → Outcome) → hidden_form t (λ m u. rest (Loc m) u) ≡ rest binder body) → e ≡ entry_inside binder p.locals b body → mem_unpack_row f p b ≡ Enters (entry_seen e p left)
    mem_opened binder body e told made = mem_taken ∙ told entering ∙ ap Enters (inside_seen binder body left ∙ ap (λ (x : Entry). entry_seen x p left) (sym made))

    exist_taken : exist_unpack_row f p b ≡ package_form (scope_of p.binders) t (λ r q s u. need (is_rw r.privilege) rule.Privilege (Some t) None (entering (Kind q s) u))
    exist_taken = taken (λ u beneath. package_form (scope_of p.binders) u (λ r q s v. need (is_rw r.privilege) rule.Privilege (Some u) None (Enters (entry_below p b (Kind q s) (end_label p b beneath) beneath v))))

    pub exist_broken : (e : CapError) → ((rest : Binder → Ty → Outcome) → Breaking e (package_form (scope_of p.binders) t (λ r q s u. need (is_rw r.privilege) rule.Privilege (Some t) None (rest (Kind q s) u)))) → Breaking e (exist_unpack_row f p b)
    exist_broken e told = subst⁻¹ (Breaking e) exist_taken (told entering)

    pub exist_opened : (binder : Binder) (body : Ty) (e : Entry) → ((rest : Binder → Ty → Outcome) → package_form (scope_of p.binders) t (λ r q s u. need (is_rw r.privilege) rule.Privilege (Some t) None (rest (Kind q s) u)) ≡ rest binder body) → e ≡ entry_inside binder p.locals b body → exist_unpack_row f p b ≡ Enters (entry_seen e p left)
    exist_opened binder body e told made = exist_taken ∙ told entering ∙ ap Enters (inside_seen binder body left ∙ ap (λ (x : Entry). entry_seen x p left) (sym made))

    module _ (lists : ℕ) where
      -- what is entered in each case
      abbrev choosing : List Ty → Outcome
      choosing ts = Enters (entry p b (end_label p b left) left (each_alone ts))

      case_taken : variant_case_row f p b lists ≡ variant_form (scope_of p.binders) t (λ r ts. need (is_rw r.privilege) rule.Privilege (Some t) None (need (lists == length ts) rule.Arms None None (choosing ts)))
      case_taken = taken (λ u beneath. variant_form (scope_of p.binders) u (λ r ts. need (is_rw r.privilege) rule.Privilege (Some u) None (need (lists == length ts) rule.Arms None None (Enters (entry p b (end_label p b beneath) beneath (each_alone ts))))))

      pub case_broken : (e : CapError) → ((rest : List Ty → Outcome) → Breaking e (variant_form (scope_of p.binders) t (λ r ts. need (is_rw r.privilege) rule.Privilege (Some t) None (need (lists == length ts) rule.Arms None None (rest ts))))) → Breaking e (variant_case_row f p b lists)
      case_broken e told = subst⁻¹ (Breaking e) case_taken (told choosing)

      pub case_opened : (cases : List Ty) (e : Entry) → ((rest : List Ty → Outcome) → variant_form (scope_of p.binders) t (λ r ts. need (is_rw r.privilege) rule.Privilege (Some t) None (need (lists == length ts) rule.Arms None None (rest ts))) ≡ rest cases) → e ≡ entry_over Behind p.locals b cases → variant_case_row f p b lists ≡ Enters (entry_seen e p left)
      case_opened cases e told made = case_taken ∙ told choosing ∙ ap Enters (over_seen Behind p b cases left ∙ ap (λ (x : Entry). entry_seen x p left) (sym made))
