-- A good configuration within a list that was entered with other operands and stores, and maybe beneath a binder.
use Rattle.std.proofs.Common.{◌≡◌, ◌≤◌, ℕ, ◌+◌, List, [], ◌∷◌, ◌++◌, length, reverse, refl, sym, ap, ◌∙◌, subst, arith}
use Rattle.std.specs.Prelude.{slice_get, slice_set}
use Rattle.std.proofs.lemmas.List.{length-reverse}
use Rattle.rw_types.specs.declared.instrs.BlockSig.{BlockSig}
use Rattle.rw_types.specs.declared.instrs.LocalTy.{LocalTy}
use Rattle.rw_types.specs.declared.instrs.Instr.{Instr}
use Rattle.rw_types.specs.declared.types.Binder.{Binder}
use Rattle.rw_types.specs.declared.types.Ty.{Ty}
use Rattle.rw_program.specs.Programs.{Program}
use Rattle.rich_types.specs.Scopes.{scope_of}
use Rattle.rich_types.specs.Instances.{Substitution}
use Rattle.rich_types.specs.declared.depth.Depth.{Depth}
use Rattle.rich_typing.specs.declared.notes.Note.{Note}
use Rattle.rich_rules.specs.Points.{Owner, Label, Point, Exactly, Demand, start, after}
use Rattle.rich_rules.specs.Raised.{below_one, raise_all, raise_labels}
use Rattle.rich_rules.specs.Blocks.{changed_by, end_label, entry, entry_below}
use Rattle.rich_rules.specs.Derivations.{Derives}
use Rattle.rich_reduction.specs.Configurations.{Val, Past, Stores, Config}
use Rattle.rich_reduction.specs.Control.{sizes_of, opened}
use Rattle.rich_rights.specs.Rights.{Right, Reading, rights_to, count_all, count_stores, is_live}
use Rattle.rich_soundness_values.specs.Heaps.{Heaps, Answer, at, all_at}
use Rattle.rich_soundness_values.specs.Values.{HaveTypes}
use Rattle.rich_soundness_values.specs.Cells.{Stored}
use Rattle.rich_soundness_values.specs.Laws.{Keeps}
use Rattle.rich_soundness_values.proofs.Framed.{framed_all}
use Rattle.rich_soundness_points.specs.Programs.{AllFit}
use Rattle.rich_soundness_points.specs.Points as points
use Rattle.rich_soundness_points.specs.Points.{label_at, labels_at, demand_at, closed, GoesOn, InBody, Callers}
use Rattle.rich_soundness_points.specs.Good.{AreSet, in_body, Good}
use Rattle.rich_soundness_rows.proofs.Closed.{at_length, set_length}
use Rattle.rich_soundness_tuples.proofs.Lists.{at_append}
use Rattle.rich_soundness_binders.specs.Laws.{onto, depth_of}
use Rattle.rich_soundness_frames.proofs.Framed.{framed_levels, framed_callers, framed_globals}
use Rattle.rich_soundness_entries.proofs.Raised.{raised_all, raised_labels}

-- as many locals after a block
changed_length : (ls : List LocalTy) (ts : List Ty) → length (changed_by ls ts) ≡ length ts
changed_length [] ts = refl
changed_length (l ∷ ls) ts = changed_length ls (slice_set ts l.index l.ty) ∙ set_length ts l.index l.ty

module _ (p : Program) (c : Config) (rest : List Instr) (good : Good p c) {owner : Owner} {results operands : List Ty} (set : AreSet p good.set owner) (b : InBody p good.heaps owner results operands c.here) (callers : Callers p good.heaps owner results c.callers)
    (sig : BlockSig) (body : List Instr) (beneath : List Ty) where
  abbrev g : Substitution
  g = b.goes_on.answers

  abbrev label : Label
  label = end_label b.goes_on.point sig beneath

  -- what the end of the list demands, in closed types
  abbrev pub wanted : Demand
  wanted = record { types = all_at g (reverse sig.results); locals = Exactly (all_at g (changed_by sig.locals b.goes_on.point.locals)) }

  -- the list within goes on from these types, with type variables of these sizes in force
  abbrev pub Within : List Ty → List ℕ → Type 0
  Within types sizes = GoesOn p owner wanted (closed (all_at g b.goes_on.point.locals) (label_at g label ∷ b.labels) results types) sizes body

  -- without a binder
  pub within : (payloads : List (List Ty)) (j : ℕ) {notes : List Note} → Derives b.goes_on.frame (entry b.goes_on.point sig label beneath payloads).demand (start (entry b.goes_on.point sig label beneath payloads) j) body notes → AllFit body →
      Within (all_at g (start (entry b.goes_on.point sig label beneath payloads) j).operands) c.here.sizes
  within payloads j {notes = notes} d fit = record {
    frame = b.goes_on.frame;
    demand = (entry b.goes_on.point sig label beneath payloads).demand;
    point = start (entry b.goes_on.point sig label beneath payloads) j;
    notes = notes;
    code = d;
    fit = fit;
    owned = b.goes_on.owned;
    functions = b.goes_on.functions;
    globals = b.goes_on.globals;
    answers = g;
    answered = b.goes_on.answered;
    demanded = refl;
    seen = ap (λ (y : Point). closed (all_at g b.goes_on.point.locals) (label_at g label ∷ y.labels) y.results (all_at g (start (entry b.goes_on.point sig label beneath payloads) j).operands)) b.goes_on.seen;
    sized = b.goes_on.sized;
  }

  -- beneath a binder, for which this stands
  pub within_below : (binder : Binder) (s : Substitution) (t : Ty) (sizes : List ℕ) {notes : List Note} → below_one binder ≡ depth_of s → Answer (onto s g) (scope_of (b.goes_on.point.binders ++ binder ∷ [])) → sizes ≡ sizes_of (b.goes_on.point.binders ++ binder ∷ []) →
      Derives b.goes_on.frame (entry_below b.goes_on.point sig binder label beneath t).demand (start (entry_below b.goes_on.point sig binder label beneath t) 0) body notes → AllFit body →
      Within (at (onto s g) t ∷ all_at g (reverse sig.params)) sizes
  within_below binder s t sizes {notes = notes} deep answered sized d fit =
      let as_before : (ts : List Ty) → all_at g ts ≡ all_at (onto s g) (raise_all (below_one binder) ts) = λ ts. sym (ap (λ (k : Depth). all_at (onto s g) (raise_all k ts)) deep ∙ raised_all s g ts) in
      let labels_before : (ls : List Label) → labels_at g ls ≡ labels_at (onto s g) (raise_labels (below_one binder) ls) = λ ls. sym (ap (λ (k : Depth). labels_at (onto s g) (raise_labels k ls)) deep ∙ raised_labels s g ls) in
      record {
        frame = b.goes_on.frame;
        demand = (entry_below b.goes_on.point sig binder label beneath t).demand;
        point = start (entry_below b.goes_on.point sig binder label beneath t) 0;
        notes = notes;
        code = d;
        fit = fit;
        owned = b.goes_on.owned;
        functions = b.goes_on.functions;
        globals = b.goes_on.globals;
        answers = onto s g;
        answered = answered;
        demanded = ap (λ (ts : List Ty). record { types = ts; locals = Exactly (all_at g (changed_by sig.locals b.goes_on.point.locals)) }) (as_before (reverse sig.results))
            ∙ ap (λ (ts : List Ty). record { types = all_at (onto s g) (raise_all (below_one binder) (reverse sig.results)); locals = Exactly ts }) (as_before (changed_by sig.locals b.goes_on.point.locals));
        seen = ap (λ (y : Point). closed (all_at g b.goes_on.point.locals) (label_at g label ∷ y.labels) y.results (at (onto s g) t ∷ all_at g (reverse sig.params))) b.goes_on.seen
            ∙ ap (λ (ls : List Label). closed (all_at g b.goes_on.point.locals) ls (all_at g b.goes_on.point.results) (at (onto s g) t ∷ all_at g (reverse sig.params))) (labels_before (label ∷ b.goes_on.point.labels))
            ∙ ap (λ (ts : List Ty). closed ts (labels_at (onto s g) (raise_labels (below_one binder) (label ∷ b.goes_on.point.labels))) (all_at g b.goes_on.point.results) (at (onto s g) t ∷ all_at g (reverse sig.params))) (as_before b.goes_on.point.locals)
            ∙ ap (λ (ts : List Ty). closed (all_at (onto s g) (raise_all (below_one binder) b.goes_on.point.locals)) (labels_at (onto s g) (raise_labels (below_one binder) (label ∷ b.goes_on.point.labels))) ts (at (onto s g) t ∷ all_at g (reverse sig.params))) (as_before b.goes_on.point.results)
            ∙ ap (λ (ts : List Ty). closed (all_at (onto s g) (raise_all (below_one binder) b.goes_on.point.locals)) (labels_at (onto s g) (raise_labels (below_one binder) (label ∷ b.goes_on.point.labels))) (all_at (onto s g) (raise_all (below_one binder) b.goes_on.point.results)) (at (onto s g) t ∷ ts)) (as_before (reverse sig.params));
        sized = sized;
      }

  -- and the list around it from its results
  around : {notes : List Note} → Derives b.goes_on.frame b.goes_on.demand (after (entry b.goes_on.point sig label beneath []) b.goes_on.point) rest notes → AllFit rest →
      GoesOn p owner b.demand (closed (all_at g (changed_by sig.locals b.goes_on.point.locals)) b.labels results (all_at g (reverse sig.results) ++ all_at g beneath)) c.here.sizes rest
  around {notes = notes} d fit = record {
    frame = b.goes_on.frame;
    demand = b.goes_on.demand;
    point = after (entry b.goes_on.point sig label beneath []) b.goes_on.point;
    notes = notes;
    code = d;
    fit = fit;
    owned = b.goes_on.owned;
    functions = b.goes_on.functions;
    globals = b.goes_on.globals;
    answers = g;
    answered = b.goes_on.answered;
    demanded = b.goes_on.demanded;
    seen = ap (λ (y : Point). closed (all_at g (changed_by sig.locals b.goes_on.point.locals)) y.labels y.results (all_at g (reverse sig.results) ++ all_at g beneath)) b.goes_on.seen
        ∙ ap (λ (l : List Ty). closed (all_at g (changed_by sig.locals b.goes_on.point.locals)) (labels_at g b.goes_on.point.labels) (all_at g b.goes_on.point.results) l) (sym (at_append g (reverse sig.results) beneath));
    sized = b.goes_on.sized;
  }

  many : (ts : List Ty) → length ts ≡ length (all_at g (reverse ts))
  many ts = sym (at_length g (reverse ts) ∙ length-reverse ts)

  so_many : length (all_at g (changed_by sig.locals b.goes_on.point.locals)) ≡ length (all_at g b.goes_on.point.locals)
  so_many = at_length g (changed_by sig.locals b.goes_on.point.locals) ∙ changed_length sig.locals b.goes_on.point.locals ∙ sym (at_length g b.goes_on.point.locals)

  -- with these operands within and beneath, and these stores, where elsewhere than at one linear location all stays
  pub entered_good : (types : List Ty) (sizes : List ℕ) (front back : List Val) (hs : Heaps) (n : ℕ) (s : Stores) → Within types sizes →
      {later : List Note} → Derives b.goes_on.frame b.goes_on.demand (after (entry b.goes_on.point sig label beneath []) b.goes_on.point) rest later → AllFit rest →
      Keeps n good.heaps hs → is_live (slice_get c.stores.linear n) ≤ count_all (rights_to Reading n) c.here.operands + count_stores (rights_to Reading n) c.stores →
      HaveTypes hs front types → HaveTypes hs back (all_at g beneath) → Stored hs s →
      ((r : Right) (m : ℕ) → ((count_all (rights_to r m) front + count_all (rights_to r m) back) + count_stores (rights_to r m) s) + is_live (slice_get c.stores.linear m) ≡ (count_all (rights_to r m) c.here.operands + count_stores (rights_to r m) c.stores) + is_live (slice_get s.linear m)) →
      Good p (record c { here = opened Past (length sig.results) sig sizes body front back (record c.here { rest = rest }); stores = s })
  entered_good types sizes front back hs n s inside d fit keeps live front_typed back_typed st rights = record {
    heaps = hs;
    functions = keeps.functions ∙ good.functions;
    set = good.set;
    runs = in_body owner results types set (record {
      labels = label_at g label ∷ b.labels;
      demand = wanted;
      locals = all_at g b.goes_on.point.locals;
      goes_on = inside;
      levels = points.past (all_at g (reverse sig.results)) (all_at g (changed_by sig.locals b.goes_on.point.locals)) (all_at g beneath) b.demand so_many refl (many sig.results) (many sig.results) back_typed (around d fit)
          (subst (λ (k : ℕ). points.Levels p hs owner results k b.labels b.demand c.here.levels) (ap (λ (y : Point). length y.locals) b.goes_on.seen) (framed_levels n keeps b.levels (omega (arith, live, good.kept Reading n))));
      locals_typed = subst (λ (ts : List Ty). HaveTypes hs c.here.locals ts) (ap (λ (y : Point). y.locals) b.goes_on.seen) (framed_all n keeps b.locals_typed (omega (arith, live, good.kept Reading n)));
      gives = b.gives;
    }) front_typed (framed_callers n keeps callers (omega (arith, live, good.kept Reading n)));
    globals_typed = framed_globals n keeps good.globals_typed (omega (arith, live, good.kept Reading n));
    stored = st;
    kept = λ r m. omega (arith, rights r m, good.kept r m);
  }
