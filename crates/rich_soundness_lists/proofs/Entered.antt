-- A good configuration within a list that was entered without a binder.
use Rattle.std.proofs.Common.{◌≡◌, ℕ, ◌+◌, List, [], ◌∷◌, ◌++◌, length, reverse, refl, sym, ap, ◌∙◌, subst, arith}
use Rattle.std.proofs.lemmas.List.{length-reverse}
use Rattle.rw_types.specs.declared.instrs.BlockSig.{BlockSig}
use Rattle.std.specs.Prelude.{slice_set}
use Rattle.rw_types.specs.declared.instrs.LocalTy.{LocalTy}
use Rattle.rw_types.specs.declared.instrs.Instr.{Instr}
use Rattle.rw_types.specs.declared.types.Ty.{Ty}
use Rattle.rw_program.specs.Programs.{Program}
use Rattle.rich_typing.specs.declared.notes.Note.{Note}
use Rattle.rich_rules.specs.Points.{Owner, Label, Point, Entry, start, after}
use Rattle.rich_rules.specs.Blocks.{changed_by, end_label, start_label, entry}
use Rattle.rich_rules.specs.Derivations.{Derives}
use Rattle.rich_reduction.specs.Configurations.{Val, Past, Back, Config}
use Rattle.rich_reduction.specs.Control.{opened}
use Rattle.rich_rights.specs.Rights.{Right, rights_to, count_all}
use Rattle.rich_soundness_values.specs.Heaps.{all_at}
use Rattle.rich_soundness_values.specs.Values.{HaveTypes}
use Rattle.rich_soundness_points.specs.Programs.{AllFit}
use Rattle.rich_soundness_points.specs.Points as points
use Rattle.rich_soundness_points.specs.Points.{label_at, labels_at, demand_at, point_at, closed, GoesOn, InBody, Callers}
use Rattle.rich_soundness_points.specs.Good.{AreSet, in_body, Good}
use Rattle.rich_soundness_tuples.proofs.Lists.{at_append}
use Rattle.rich_soundness_rows.proofs.Closed.{at_length, set_length}

-- as many locals after a block
changed_length : (ls : List LocalTy) (ts : List Ty) → length (changed_by ls ts) ≡ length ts
changed_length [] ts = refl
changed_length (l ∷ ls) ts = changed_length ls (slice_set ts l.index l.ty) ∙ set_length ts l.index l.ty

module _ (p : Program) (c : Config) (rest : List Instr) (good : Good p c) {owner : Owner} {results operands : List Ty} (set : AreSet p good.set owner) (b : InBody p good.heaps owner results operands c.here) (callers : Callers p good.heaps owner results c.callers)
    (sig : BlockSig) (body : List Instr) (beneath : List Ty) (front back : List Val) where
  -- the entry to lists under a label
  abbrev entered : Label → Entry
  entered label = entry b.goes_on.point sig label beneath []

  -- the list within goes on from its parameters
  within : (label : Label) {notes : List Note} → Derives b.goes_on.frame (entered label).demand (start (entered label) 0) body notes → AllFit body →
      GoesOn p owner (demand_at b.goes_on.answers (entered label).demand) (closed (all_at b.goes_on.answers b.goes_on.point.locals) (label_at b.goes_on.answers label ∷ b.labels) results (all_at b.goes_on.answers (reverse sig.params))) c.here.sizes body
  within label {notes = notes} d fit = record {
    frame = b.goes_on.frame;
    demand = (entered label).demand;
    point = start (entered label) 0;
    notes = notes;
    code = d;
    fit = fit;
    owned = b.goes_on.owned;
    functions = b.goes_on.functions;
    globals = b.goes_on.globals;
    answers = b.goes_on.answers;
    answered = b.goes_on.answered;
    demanded = refl;
    seen = ap (λ (y : Point). closed (all_at b.goes_on.answers b.goes_on.point.locals) (label_at b.goes_on.answers label ∷ y.labels) y.results (all_at b.goes_on.answers (reverse sig.params))) b.goes_on.seen;
    sized = b.goes_on.sized;
  }

  -- and the list around it from its results
  around : (label : Label) {notes : List Note} → Derives b.goes_on.frame b.goes_on.demand (after (entered label) b.goes_on.point) rest notes → AllFit rest →
      GoesOn p owner b.demand (closed (all_at b.goes_on.answers (changed_by sig.locals b.goes_on.point.locals)) b.labels results (all_at b.goes_on.answers (reverse sig.results) ++ all_at b.goes_on.answers beneath)) c.here.sizes rest
  around label {notes = notes} d fit = record {
    frame = b.goes_on.frame;
    demand = b.goes_on.demand;
    point = after (entered label) b.goes_on.point;
    notes = notes;
    code = d;
    fit = fit;
    owned = b.goes_on.owned;
    functions = b.goes_on.functions;
    globals = b.goes_on.globals;
    answers = b.goes_on.answers;
    answered = b.goes_on.answered;
    demanded = b.goes_on.demanded;
    seen = ap (λ (y : Point). closed (all_at b.goes_on.answers (changed_by sig.locals b.goes_on.point.locals)) y.labels y.results (all_at b.goes_on.answers (reverse sig.results) ++ all_at b.goes_on.answers beneath)) b.goes_on.seen
        ∙ ap (λ (l : List Ty). closed (all_at b.goes_on.answers (changed_by sig.locals b.goes_on.point.locals)) (labels_at b.goes_on.answers b.goes_on.point.labels) (all_at b.goes_on.answers b.goes_on.point.results) l) (sym (at_append b.goes_on.answers (reverse sig.results) beneath));
    sized = b.goes_on.sized;
  }

  many : (ts : List Ty) → length ts ≡ length (all_at b.goes_on.answers (reverse ts))
  many ts = sym (at_length b.goes_on.answers (reverse ts) ∙ length-reverse ts)

  locals_stay : HaveTypes good.heaps c.here.locals (all_at b.goes_on.answers b.goes_on.point.locals)
  locals_stay = subst (λ (ts : List Ty). HaveTypes good.heaps c.here.locals ts) (ap (λ (y : Point). y.locals) b.goes_on.seen) b.locals_typed

  so_many : length (all_at b.goes_on.answers (changed_by sig.locals b.goes_on.point.locals)) ≡ length (all_at b.goes_on.answers b.goes_on.point.locals)
  so_many = at_length b.goes_on.answers (changed_by sig.locals b.goes_on.point.locals) ∙ changed_length sig.locals b.goes_on.point.locals ∙ sym (at_length b.goes_on.answers b.goes_on.point.locals)

  outside : points.Levels p good.heaps owner results (length (all_at b.goes_on.answers b.goes_on.point.locals)) b.labels b.demand c.here.levels
  outside = subst (λ (n : ℕ). points.Levels p good.heaps owner results n b.labels b.demand c.here.levels) (ap (λ (y : Point). length y.locals) b.goes_on.seen) b.levels

  module _ (front_typed : HaveTypes good.heaps front (all_at b.goes_on.answers (reverse sig.params))) (back_typed : HaveTypes good.heaps back (all_at b.goes_on.answers beneath))
      (rights : (r : Right) (n : ℕ) → count_all (rights_to r n) front + count_all (rights_to r n) back ≡ count_all (rights_to r n) c.here.operands) where
    pub past_good : {inner later : List Note} → Derives b.goes_on.frame (entered (end_label b.goes_on.point sig beneath)).demand (start (entered (end_label b.goes_on.point sig beneath)) 0) body inner → AllFit body →
        Derives b.goes_on.frame b.goes_on.demand (after (entered (end_label b.goes_on.point sig beneath)) b.goes_on.point) rest later → AllFit rest →
        Good p (record c { here = opened Past (length sig.results) sig c.here.sizes body front back (record c.here { rest = rest }) })
    past_good d fit d' fit' = record {
      heaps = good.heaps;
      functions = good.functions;
      set = good.set;
      runs = in_body owner results (all_at b.goes_on.answers (reverse sig.params)) set (record {
        labels = label_at b.goes_on.answers (end_label b.goes_on.point sig beneath) ∷ b.labels;
        demand = demand_at b.goes_on.answers (entered (end_label b.goes_on.point sig beneath)).demand;
        locals = all_at b.goes_on.answers b.goes_on.point.locals;
        goes_on = within (end_label b.goes_on.point sig beneath) d fit;
        levels = points.past (all_at b.goes_on.answers (reverse sig.results)) (all_at b.goes_on.answers (changed_by sig.locals b.goes_on.point.locals)) (all_at b.goes_on.answers beneath) b.demand so_many refl (many sig.results) (many sig.results) back_typed
            (around (end_label b.goes_on.point sig beneath) d' fit') outside;
        locals_typed = locals_stay;
        gives = b.gives;
      }) front_typed callers;
      globals_typed = good.globals_typed;
      stored = good.stored;
      kept = λ r n. omega (arith, rights r n, good.kept r n);
    }

    pub back_good : {inner later : List Note} → Derives b.goes_on.frame (entered (start_label b.goes_on.point sig beneath)).demand (start (entered (start_label b.goes_on.point sig beneath)) 0) body inner → AllFit body →
        Derives b.goes_on.frame b.goes_on.demand (after (entered (start_label b.goes_on.point sig beneath)) b.goes_on.point) rest later → AllFit rest →
        Good p (record c { here = opened (Back body) (length sig.params) sig c.here.sizes body front back (record c.here { rest = rest }) })
    back_good d fit d' fit' = record {
      heaps = good.heaps;
      functions = good.functions;
      set = good.set;
      runs = in_body owner results (all_at b.goes_on.answers (reverse sig.params)) set (record {
        labels = label_at b.goes_on.answers (start_label b.goes_on.point sig beneath) ∷ b.labels;
        demand = demand_at b.goes_on.answers (entered (start_label b.goes_on.point sig beneath)).demand;
        locals = all_at b.goes_on.answers b.goes_on.point.locals;
        goes_on = within (start_label b.goes_on.point sig beneath) d fit;
        levels = points.back (all_at b.goes_on.answers (reverse sig.results)) (all_at b.goes_on.answers (changed_by sig.locals b.goes_on.point.locals)) (all_at b.goes_on.answers (reverse sig.params)) (all_at b.goes_on.answers b.goes_on.point.locals)
            (all_at b.goes_on.answers beneath) b.demand body so_many refl refl (many sig.params) (many sig.results) back_typed (within (start_label b.goes_on.point sig beneath) d fit) (around (start_label b.goes_on.point sig beneath) d' fit') outside;
        locals_typed = locals_stay;
        gives = b.gives;
      }) front_typed callers;
      globals_typed = good.globals_typed;
      stored = good.stored;
      kept = λ r n. omega (arith, rights r n, good.kept r n);
    }
