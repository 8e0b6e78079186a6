-- A list that is entered begins at a point that is placed in the frame, within one label more.
use Rattle.std.proofs.Common.{◌≡◌, ◌∙◌, ◌≤◌, ℕ, ◌+◌, List, [], ◌∷◌, ◌++◌, None, length, reverse, refl, ap, sym, subst, arith}
use Rattle.std.specs.Prelude.{⊤}
use Rattle.std.proofs.Math.Path.{subst⁻¹}
use Rattle.std.proofs.lemmas.List.{length-reverse}
use Rattle.wasm_typing.specs.Typing as w
use Rattle.rw_types.specs.declared.instrs.BlockSig.{BlockSig}
use Rattle.rw_types.specs.declared.instrs.Instr.{Instr, Block', Loop', If', MemUnpack', VariantCase', ExistUnpack'}
use Rattle.rw_types.specs.declared.types.Binder.{Binder}
use Rattle.rw_types.specs.declared.types.Binder.TheVariants.{Loc}
use Rattle.rw_types.specs.declared.types.Pre.TheVariants.{Hidden}
use Rattle.rw_types.specs.declared.types.Ty.{Of, Ty}
use Rattle.rich_types.specs.Scopes.{Scope, no_scope, scope_of, within}
use Rattle.rich_types.specs.Sizes.{list_size}
use Rattle.rich_rules.specs.Blocks.{end_label, entry, entry_below, start_label}
use Rattle.rich_rules.specs.Points as rules
use Rattle.rich_rules.specs.Points.{Enters, Entry, Frame, Point, start}
use Rattle.rich_rules.specs.Raised.{below_one, raise_all, raise_labels}
use Rattle.rich_rules.specs.Table.{note_of, rest_size, row, takes}
use Rattle.rich_rules.specs.Takers.{unr_i32}
use Rattle.rich_rules_inversions.proofs.Bodies.{rows}
use Rattle.rich_rules_formed.specs.Formed.{AreFormed, AreFormedLabels, IsFormedPoint}
use Rattle.rich_rules_formed.proofs.Lists.{back, within_last}
use Rattle.layout.specs.Limits.{greatest_result}
use Rattle.lowering_rows.specs.Labels.{Label, plain_label}
use Rattle.lowering_rows.specs.Surroundings.{Surroundings}
use Rattle.lowering_heights.proofs.Sizes.{rest-raised, size-raised}
use Rattle.lowering_names.specs.Placed.{AreLowered, IsPlaced, IsWithoutCells}
use Rattle.lowering_names.proofs.Notes.{beneath_is}

-- labels that are raised past a binder stand at the same heights
lowered_raised : (c : Scope) (b : Binder) (outer : List rules.Label) (labels : List Label) (ls : w.Labels) → AreFormedLabels c outer → AreLowered c outer labels ls → AreLowered (within (b ∷ []) c) (raise_labels (below_one b) outer) labels ls
lowered_raised c b [] labels ls v h = tt
lowered_raised c b (l ∷ outer) [] ls v h = absurd h
lowered_raised c b (l ∷ outer) (label ∷ labels) ls v h = (h.0 ∙ sym (rest-raised c b (l ∷ outer) v), h.1, h.2, lowered_raised c b outer labels h.1 v.1 h.3)

-- an instruction with lists
abbrev pub HasLists : Instr → Type 0
HasLists (Block' b m is) = ⊤
HasLists (Loop' b m is) = ⊤
HasLists (If' b m is n js) = ⊤
HasLists (MemUnpack' b m is) = ⊤
HasLists (VariantCase' b m arms) = ⊤
HasLists (ExistUnpack' b m is) = ⊤
HasLists _ = ⊥

same_entry : (e g : Entry) → Enters e ≡ Enters g → e ≡ g
same_entry e g x = cc

module _ (s : Surroundings) (f : Frame) (room : ℕ) (ls : w.Labels) (labels : List Label) (p : Point) (placed : IsPlaced s f room ls labels p) where
  -- the label within which the lists of an instruction stand
  abbrev pub inner_labels : Instr → List Label
  inner_labels i = plain_label (note_of f p i).beneath ∷ labels

  -- what is known of the start of a list
  pub record Begins (i : Instr) (e : Entry) : Type 0 where
    pub lowered : AreLowered (scope_of e.inner.binders) e.inner.labels (inner_labels i) (None ∷ ls)
    pub results : list_size (scope_of e.inner.binders) e.inner.results ≤ greatest_result s.program.funcs

  of_plain : (i : Instr) (b : BlockSig) (l : rules.Label) (beneath : List Ty) (payloads : List (List Ty)) → l.rest ≡ beneath → (note_of f p i).beneath ≡ list_size (scope_of p.binders) beneath + rest_size (scope_of p.binders) p.labels → Begins i (entry p b l beneath payloads)
  of_plain i b l beneath payloads same height = record {
    lowered = (omega (arith, height, ap (λ (ts : List Ty). list_size (scope_of p.binders) ts) same), ls, refl, placed.lowered);
    results = placed.results;
  }

  of_binder : (i : Instr) (b : BlockSig) (binder : Binder) (beneath : List Ty) (t : Ty) → AreFormed (scope_of p.binders) beneath →
      (note_of f p i).beneath ≡ list_size (scope_of p.binders) beneath + rest_size (scope_of p.binders) p.labels → Begins i (entry_below p b binder (end_label p b beneath) beneath t)
  of_binder i b binder beneath t formed height =
      let c = scope_of p.binders in
      let same : (note_of f p i).beneath ≡ list_size (within (binder ∷ []) c) (raise_all (below_one binder) beneath) + rest_size (within (binder ∷ []) c) (raise_labels (below_one binder) p.labels) =
      omega (arith, height, size-raised c binder beneath formed, rest-raised c binder p.labels placed.formed.labels) in
      let all : AreLowered (within (binder ∷ []) c) (raise_labels (below_one binder) (end_label p b beneath ∷ p.labels)) (inner_labels i) (None ∷ ls) =
      (same, ls, refl, lowered_raised c binder p.labels labels ls placed.formed.labels placed.lowered) in
      let few : list_size (within (binder ∷ []) c) (raise_all (below_one binder) p.results) ≤ greatest_result s.program.funcs = omega (arith, placed.results, size-raised c binder p.results placed.formed.results) in
      let scope = within_last p.binders binder no_scope in
      record {
        lowered = subst⁻¹ (λ (d : Scope). AreLowered d (raise_labels (below_one binder) (end_label p b beneath ∷ p.labels)) (inner_labels i) (None ∷ ls)) scope all;
        results = subst⁻¹ (λ (d : Scope). list_size d (raise_all (below_one binder) p.results) ≤ greatest_result s.program.funcs) scope few;
      }

  -- the height beneath a block
  block_beneath : (i : Instr) (b : BlockSig) (beneath : List Ty) → takes f p i ≡ length b.params → p.operands ≡ reverse b.params ++ beneath → (note_of f p i).beneath ≡ list_size (scope_of p.binders) beneath + rest_size (scope_of p.binders) p.labels
  block_beneath i b beneath count taken = beneath_is f p i (reverse b.params) beneath (count ∙ sym (length-reverse b.params)) taken

  over_beneath : (i : Instr) (b : BlockSig) (t : Ty) (beneath : List Ty) → takes f p i ≡ length b.params + 1 → p.operands ≡ t ∷ (reverse b.params ++ beneath) → (note_of f p i).beneath ≡ list_size (scope_of p.binders) beneath + rest_size (scope_of p.binders) p.labels
  over_beneath i b t beneath count taken =
      let counted : takes f p i ≡ length (t ∷ reverse b.params) = omega (arith, count, length-reverse b.params) in
      beneath_is f p i (t ∷ reverse b.params) beneath counted taken

  of_entry : (i : Instr) (e g : Entry) → Enters e ≡ Enters g → Begins i g → Begins i e
  of_entry i e g x h = subst⁻¹ (Begins i) (same_entry e g x) h

  pub begins : (i : Instr) (e : Entry) → row f p i ≡ Enters e → ((j : ℕ) → IsFormedPoint (start e j)) → IsWithoutCells i → HasLists i → Begins i e
  unfolding row takes
  begins (Block' b m is) e r v h l = let x = rows.block f p b (Enters e) r tt in of_entry (Block' b m is) e _ x.given (of_plain (Block' b m is) b (end_label p b x.beneath) x.beneath [] refl (block_beneath (Block' b m is) b x.beneath refl x.taken))
  begins (Loop' b m is) e r v h l = let x = rows.loops f p b (Enters e) r tt in of_entry (Loop' b m is) e _ x.given (of_plain (Loop' b m is) b (start_label p b x.beneath) x.beneath [] refl (block_beneath (Loop' b m is) b x.beneath refl x.taken))
  begins (If' b m is n js) e r v h l = let x = rows.arms f p b (Enters e) r tt in of_entry (If' b m is n js) e _ x.given (of_plain (If' b m is n js) b (end_label p b x.beneath) x.beneath [] refl (over_beneath (If' b m is n js) b unr_i32 x.beneath refl x.taken))
  begins (MemUnpack' b m is) e r v h l =
      let x = rows.mem_unpack f p b (Enters e) r tt in
      let formed = subst (AreFormed (scope_of p.binders)) x.taken placed.formed.operands in
      of_entry (MemUnpack' b m is) e _ x.given
      (of_binder (MemUnpack' b m is) b (Loc x.memory) x.beneath x.body (back (scope_of p.binders) (reverse b.params) x.beneath formed.2) (over_beneath (MemUnpack' b m is) b (Of x.qual (Hidden x.memory x.body)) x.beneath refl x.taken))
  begins (VariantCase' b m arms) e r v h l = absurd h
  begins (ExistUnpack' b m is) e r v h l = absurd h
  begins _ e r v h l = absurd l
