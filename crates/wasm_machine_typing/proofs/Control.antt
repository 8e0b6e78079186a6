-- Entering and leaving lists, and branches, of a typed configuration.
use Rattle.std.proofs.Common.{◌≡◌, ◌∙◌, ℕ, zero, suc, ◌+◌, Bool, true, false, List, [], ◌∷◌, ◌++◌, map, length, slice_get, refl, sym, ap, subst}
use Rattle.std.specs.Prelude.{Option, Some, None, Ok, option_map, option_to_list}
use Rattle.wasm_ast.specs.declared.types.ValTy.{ValTy}
use Rattle.wasm_ast.specs.declared.types.ValTy.TheVariants.{I32, I64}
use Rattle.wasm_ast.specs.declared.instructions.WInstr.{WInstr, out-WInstr}
use Rattle.wasm_ast.specs.Operations.{Operation, operation_in}
use Rattle.wasm_ast.specs.Operations as op
use Rattle.wasm_typing.specs.declared.rule.WRule.TheVariants.{LabelIndex, LabelTypes}
use Rattle.wasm_typing.specs.declared.context.Context.{Context}
use Rattle.wasm_typing.specs.Signatures.{The, Signature, ◌⇒◌, leaves, operands_of, found, needs, all_of, all_same}
use Rattle.wasm_ast.specs.SameTypes.{is_same_value_type, is_same_result}
use Rattle.wasm_typing.specs.Typing.{Labels, fill, AreTyped, none, more}
use Rattle.machine_steps.specs.Steps.{Turn, with_top}
use Rattle.wasm_execution.specs.Types.{results_of}
use Rattle.wasm_execution.specs.Configurations.{Aim, Past, Back, Level, Config, Event}
use Rattle.wasm_execution.specs.Environments.{Environment}
use Rattle.wasm_execution.specs.Turns as turns
use Rattle.wasm_execution.specs.Turns.{goes_on}
use Rattle.machine_steps.specs.Steps.{with_all}
use Rattle.wasm_execution.specs.Calls.{return_now}
use Rattle.wasm_execution.specs.Control.{enter, enter_block, enter_loop, enter_if, enter_either, arrive, branch, branch_to, branch_if, branch_table, leave}
use Rattle.wasm_machine_typing.specs.Values.{AreOf}
use Rattle.wasm_machine_typing.specs.Lists.{count_beneath, Runs, IsTypedAim, AreOpen}
use Rattle.wasm_machine_typing.specs.Configurations.{IsTypedEnvironment, IsTypedConfig, IsTypedTurn}
use Rattle.wasm_machine_typing.proofs.Values.{result_filled}
use Rattle.wasm_machine_typing.proofs.Going.{found_back, needs_back, body, room, runs, has, use_of, take_of}
use Rattle.wasm_machine_typing.proofs.Calls.{and_split, first_of, top, all, results_taken, returned, returned_at_end}
use Rattle.wasm_machine_typing.proofs.Entering.{Enters, block_enters, loop_enters, arm_enters, arms_enter}

same_value : (t u : ValTy) → is_same_value_type t u ≡ true → t ≡ u
same_value I32 I32 q = refl
same_value I64 I64 q = refl
same_value I32 I64 q = absurd (cc)
same_value I64 I32 q = absurd (cc)

same_label : (t u : Option ValTy) → is_same_result t u ≡ true → t ≡ u
same_label None None q = refl
same_label None (Some u) q = absurd (cc)
same_label (Some t) None q = absurd (cc)
same_label (Some t) (Some u) q = ap (λ (x : ValTy). Some x) (same_value t u q)

more_back : {A : Type 0} (a : A) (o : Option (List A)) (ts : List A) → option_map (λ (xs : List A). a ∷ xs) o ≡ Some ts → (xs : List A) × (o ≡ Some xs) × (ts ≡ a ∷ xs)
more_back a None ts q = absurd (cc)
more_back a (Some xs) ts q = (xs, refl, let f : a ∷ xs ≡ ts = (cc) in sym f)

all_back : {A : Type 0} (o : Option A) (os : List (Option A)) (ts : List A) → all_of (o ∷ os) ≡ Some ts → (x : A) × (xs : List A) × (o ≡ Some x) × (all_of os ≡ Some xs) × (ts ≡ x ∷ xs)
all_back None os ts q = absurd (cc)
all_back (Some a) os ts q = let p = more_back a (all_of os) ts q in (a, p.0, refl, p.1, p.2)

-- each label of a table has the type of its default
label_of : (ls : Labels) (t : Option ValTy) (labels : List ℕ) (ts : List (Option ValTy)) → all_of (map (slice_get ls) labels) ≡ Some ts → all_same t ts ≡ true → (at label : ℕ) → slice_get labels at ≡ Some label
    → slice_get ls label ≡ Some t
label_of ls t [] ts q s at label k = absurd (cc)
label_of ls t (l ∷ labels) ts q s zero label k =
    let p = all_back (slice_get ls l) (map (slice_get ls) labels) ts q in
    let b = and_split (is_same_result p.0 t) (all_same t p.1) (subst (λ (us : List (Option ValTy)). all_same t us ≡ true) p.4 s) in
    let e : l ≡ label = (cc) in
    ap (slice_get ls) (sym e) ∙ p.2 ∙ ap (λ (x : Option ValTy). Some x) (same_label p.0 t b.0)
label_of ls t (l ∷ labels) ts q s (suc at) label k =
    let p = all_back (slice_get ls l) (map (slice_get ls) labels) ts q in
    let b = and_split (is_same_result p.0 t) (all_same t p.1) (subst (λ (us : List (Option ValTy)). all_same t us ≡ true) p.4 s) in
    label_of ls t labels p.1 p.3 b.1 at label k

ended_types : (C : Context) (ls : Labels) (ws : List WInstr) (before after : List ValTy) → ws ≡ [] → AreTyped C ls ws before after → before ≡ after
ended_types C ls ws before after e (none f q) = q
ended_types C ls ws before after e (more x xs mid f d k) = absurd (cc)

module _ (C : Context) (e : Environment) (env : IsTypedEnvironment C e) (c : Config) (h : IsTypedConfig C e c) where
  abbrev Good : Turn Event Config → Type 0
  Good t = IsTypedTurn C e t

  -- the call that runs goes on in this list
  at_level : (operands : List ℕ) (rest : List WInstr) (levels : List Level) (labels : Labels) (result : Option ValTy) → Runs (body C e c h) (room C e c h) labels rest operands (count_beneath levels) result
      → AreOpen (body C e c h) (room C e c h) levels labels result → IsTypedConfig C e (record c { here = record c.here { operands = operands; rest = rest; levels = levels } })
  at_level operands rest levels labels result r o = record {
    ty = h.ty;
    code = h.code;
    call = record { there = h.call.there; locals = h.call.locals; labels = labels; result = result; runs = r; open_lists = o };
    waiting = h.waiting;
    store = h.store;
  }

  no_value : (t : Option ValTy) (vs : List ℕ) → t ≡ None → AreOf (option_to_list t) vs → vs ≡ []
  no_value t [] q k = refl
  no_value t (v ∷ vs) q k = absurd (subst (λ (x : Option ValTy). AreOf (option_to_list x) (v ∷ vs)) q k)

  arrived : (aim : Aim) (l : Level) (levels : List Level) (label : Option ValTy) (ls : Labels) (result : Option ValTy) (taken operands : List ℕ) (rest : List WInstr)
      → IsTypedAim (body C e c h) (room C e c h) aim ls (length l.beneath + count_beneath levels) label result → AreOpen (body C e c h) (room C e c h) (l ∷ levels) (label ∷ ls) result → AreOf (option_to_list label) taken
      → Good (arrive aim taken l levels (record c.here { operands = operands; rest = rest }) c)
  arrived Past l levels label ls result taken operands rest lead o k =
      at_level (taken ++ l.beneath) l.rest levels ls o.0 (o.4 taken (subst (λ (t : Option ValTy). AreOf (option_to_list t) taken) lead k)) o.5
  arrived (Back again) l levels label ls result taken operands rest lead o k =
      let nothing = no_value label taken lead.0 k in
      at_level taken again (l ∷ levels) (label ∷ ls) result
      (subst (λ (os : List ℕ). Runs (body C e c h) (room C e c h) (label ∷ ls) again os (length l.beneath + count_beneath levels) result) (sym nothing)
      (subst (λ (t : Option ValTy). Runs (body C e c h) (room C e c h) (t ∷ ls) again [] (length l.beneath + count_beneath levels) result) (sym lead.0) lead.1)) o

  -- a branch with what its label takes on top
  branched : (n : ℕ) (levels : List Level) (ls : Labels) (result t : Option ValTy) (taken below : List ℕ) (rest : List WInstr) → AreOpen (body C e c h) (room C e c h) levels ls result → slice_get ls n ≡ Some t
      → AreOf (option_to_list t) taken → Good (branch e n levels (record c.here { operands = taken ++ below; rest = rest }) c)
  branched zero [] ls result t taken below rest o q k =
      let f : slice_get ((body C e c h).result ∷ []) zero ≡ Some t = ap (λ (l : Labels). slice_get l zero) (sym o.0) ∙ q in
      let s : t ≡ h.ty.result = (cc) in
      returned C e env c h taken below rest (subst (λ (x : Option ValTy). AreOf (option_to_list x) taken) s k)
  branched (suc n) [] ls result t taken below rest o q k =
      let f : slice_get ((body C e c h).result ∷ []) (suc n) ≡ Some t = ap (λ (l : Labels). slice_get l (suc n)) (sym o.0) ∙ q in absurd (cc)
  branched n (l ∷ levels) [] result t taken below rest o q k = absurd o
  branched zero (l ∷ levels) (label ∷ ls) result t taken below rest o q k =
      let s : t ≡ label = (cc) in
      let values = subst (λ (x : Option ValTy). AreOf (option_to_list x) taken) s k in
      let here = record c.here { operands = taken ++ below; rest = rest } in
      let go : List ℕ → List ℕ → Turn Event Config = λ vs bs. arrive l.aim vs l levels here c in
      subst (λ (m : ℕ). Good (with_top m (taken ++ below) go)) (results_taken label taken values ∙ sym o.1)
      (subst Good (sym (top taken below go)) (arrived l.aim l levels label ls result taken (taken ++ below) rest o.3 o values))
  branched (suc n) (l ∷ levels) (label ∷ ls) result t taken below rest o q k = branched n levels ls o.0 t taken below rest o.5 q k

  -- the end of a list, with what it gives and no more
  list_left : (levels : List Level) (ls : Labels) (result : Option ValTy) → AreOpen (body C e c h) (room C e c h) levels ls result → AreOf (option_to_list result) c.here.operands → Good (leave e levels c.here c)
  list_left [] ls result o k = returned_at_end C e env c h c.here.operands (subst (λ (x : Option ValTy). AreOf (option_to_list x) c.here.operands) o.1 k)
  list_left (l ∷ levels) [] result o k = absurd o
  list_left (l ∷ levels) (label ∷ ls) result o k =
      let go : List ℕ → Turn Event Config = λ vs. goes_on (record c.here { operands = vs ++ l.beneath; rest = l.rest; levels = levels }) c in
      subst (λ (m : ℕ). Good (with_all m c.here.operands go)) (results_taken result c.here.operands k ∙ sym o.2)
      (subst Good (sym (all c.here.operands go)) (at_level (c.here.operands ++ l.beneath) l.rest levels ls o.0 (o.4 c.here.operands k) o.5))

  pub end_reached : c.here.rest ≡ [] → Good (leave e c.here.levels c.here c)
  end_reached q =
      let same = ended_types (body C e c h) h.call.labels c.here.rest h.call.runs.types (option_to_list h.call.result) q h.call.runs.typed in
      list_left c.here.levels h.call.labels h.call.result h.call.open_lists (subst (λ (ts : List ValTy). AreOf ts c.here.operands) same h.call.runs.values)

  either : (n : ℕ) (a b : Turn Event Config) → Good a → Good b → Good (elim n [ zero ↦ a | suc _ ↦ b ])
  either zero a b k l = k
  either (suc n) a b k l = l

  module _ (i : WInstr) (rest : List WInstr) (er : c.here.rest ≡ i ∷ rest) where
    abbrev Nests : Option ValTy → Option ValTy → List WInstr → List ℕ → Type 0
    Nests label t xs below = Enters (body C e c h) (room C e c h) h.call.labels label t xs rest below (count_beneath c.here.levels) h.call.result

    entered_list : (aim : Aim) (label t : Option ValTy) (xs : List WInstr) (below : List ℕ) → Nests label t xs below
        → IsTypedAim (body C e c h) (room C e c h) aim h.call.labels (length below + count_beneath c.here.levels) label t → Good (enter aim (results_of label) t xs (record c.here { operands = below; rest = rest }) c)
    entered_list aim label t xs below n lead =
        let l : Level = record { aim = aim; takes = results_of label; gives = results_of t; beneath = below; rest = rest } in
        at_level [] xs (l ∷ c.here.levels) (label ∷ h.call.labels) t n.inside (h.call.result, refl, refl, lead, n.behind, h.call.open_lists)

    pub block_entered : (t : Option ValTy) (xs : List WInstr) → operation_in (out-WInstr i) ≡ op.Block t xs → Good (enter_block t xs (record c.here { rest = rest }) c)
    block_entered t xs q =
        let n = block_enters (body C e c h) h.call.labels (room C e c h) rest (count_beneath c.here.levels) h.call.result i c.here.operands (runs C e c h i rest er) t xs q in
        entered_list Past t t xs c.here.operands n refl

    pub loop_entered : (t : Option ValTy) (xs : List WInstr) → operation_in (out-WInstr i) ≡ op.Loop t xs → Good (enter_loop t xs (record c.here { rest = rest }) c)
    loop_entered t xs q =
        let n = loop_enters (body C e c h) h.call.labels (room C e c h) rest (count_beneath c.here.levels) h.call.result i c.here.operands (runs C e c h i rest er) t xs q in
        entered_list (Back xs) None t xs c.here.operands n (refl, n.inside)

    pub arm_entered : (t : Option ValTy) (xs : List WInstr) → operation_in (out-WInstr i) ≡ op.If t xs → Good (enter_if t xs (record c.here { rest = rest }) c)
    arm_entered t xs q =
        let p = arm_enters (body C e c h) h.call.labels (room C e c h) rest (count_beneath c.here.levels) h.call.result i c.here.operands (runs C e c h i rest er) t xs q in
        let n = p.4 in
        let passed = n.behind [] (subst (λ (x : Option ValTy). AreOf (option_to_list x) []) (sym p.3) tt) in
        subst (λ (os : List ℕ). Good (enter_if t xs (record c.here { operands = os; rest = rest }) c)) (sym p.2)
        (either p.0 (turns.leaves p.1 (record c.here { rest = rest }) c) (enter_block t xs (record c.here { operands = p.1; rest = rest }) c)
        (at_level p.1 rest c.here.levels h.call.labels h.call.result passed h.call.open_lists) (entered_list Past t t xs p.1 n refl))

    pub either_entered : (t : Option ValTy) (xs ys : List WInstr) → operation_in (out-WInstr i) ≡ op.IfElse t xs ys → Good (enter_either t xs ys (record c.here { rest = rest }) c)
    either_entered t xs ys q =
        let p = arms_enter (body C e c h) h.call.labels (room C e c h) rest (count_beneath c.here.levels) h.call.result i c.here.operands (runs C e c h i rest er) t xs ys q in
        subst (λ (os : List ℕ). Good (enter_either t xs ys (record c.here { operands = os; rest = rest }) c)) (sym p.2)
        (either p.0 (enter_block t ys (record c.here { operands = p.1; rest = rest }) c) (enter_block t xs (record c.here { operands = p.1; rest = rest }) c)
        (entered_list Past t t ys p.1 p.4 refl) (entered_list Past t t xs p.1 p.3 refl))

    pub branches : (n : ℕ) → operation_in (out-WInstr i) ≡ op.Br n → Good (branch_to e n (record c.here { rest = rest }) c)
    branches n q =
        let s = has C e c h i rest er (op.Br n) q tt in
        let f = found_back LabelIndex (slice_get h.call.labels n) (λ t. Ok (leaves (operands_of t))) s.0 s.1 in
        let u = take_of C e c h i rest er (op.Br n) (leaves (operands_of f.0)) q (s.1 ∙ sym f.2) in
        subst (λ (os : List ℕ). Good (branch_to e n (record c.here { operands = os; rest = rest }) c)) (sym u.parted)
        (branched n c.here.levels h.call.labels h.call.result f.0 u.taken u.below rest h.call.open_lists f.1 (subst (λ (ts : List ValTy). AreOf ts u.taken) (result_filled u.at f.0) u.of))

    pub branches_if : (n : ℕ) → operation_in (out-WInstr i) ≡ op.BrIf n → Good (branch_if e n (record c.here { rest = rest }) c)
    branches_if n q =
        let s = has C e c h i rest er (op.BrIf n) q tt in
        let f = found_back LabelIndex (slice_get h.call.labels n) (λ t. Ok (The I32 ∷ operands_of t ⇒ option_map The t)) s.0 s.1 in
        let t = f.0 in
        let u = use_of C e c h i rest er (op.BrIf n) (The I32 ∷ operands_of t ⇒ option_map The t) (option_map The t) q (s.1 ∙ sym f.2) refl in
        let p = first_of I32 (map (fill u.at) (operands_of t)) u.taken u.of in
        subst (λ (os : List ℕ). Good (branch_if e n (record c.here { operands = os; rest = rest }) c)) (sym (u.parted ∙ ap (λ (l : List ℕ). l ++ u.below) p.2))
        (either p.0 (turns.leaves (p.1 ++ u.below) (record c.here { rest = rest }) c) (branch_to e n (record c.here { operands = p.1 ++ u.below; rest = rest }) c)
        (at_level (p.1 ++ u.below) rest c.here.levels h.call.labels h.call.result (u.on p.1 p.3) h.call.open_lists)
        (branched n c.here.levels h.call.labels h.call.result t p.1 u.below rest h.call.open_lists f.1 (subst (λ (ts : List ValTy). AreOf ts p.1) (result_filled u.at t) p.3)))

    -- the label that a table has at this number, or its default
    tabled : (labels : List ℕ) (default at : ℕ) (t : Option ValTy) (ts : List (Option ValTy)) (taken below : List ℕ) → all_of (map (slice_get h.call.labels) labels) ≡ Some ts → all_same t ts ≡ true
        → slice_get h.call.labels default ≡ Some t → AreOf (option_to_list t) taken → (o : Option ℕ) → slice_get labels at ≡ o
        → Good (elim o [ Some label ↦ branch_to e label (record c.here { operands = taken ++ below; rest = rest }) c | None ↦ branch_to e default (record c.here { operands = taken ++ below; rest = rest }) c ])
    tabled labels default at t ts taken below q s d k None r = branched default c.here.levels h.call.labels h.call.result t taken below rest h.call.open_lists d k
    tabled labels default at t ts taken below q s d k (Some label) r =
        branched label c.here.levels h.call.labels h.call.result t taken below rest h.call.open_lists (label_of h.call.labels t labels ts q s at label r) k

    labels_same : (b : Bool) (x s : Signature) → needs LabelTypes b x ≡ Ok s → b ≡ true
    labels_same true x s q = refl
    labels_same false x s q = absurd (cc)

    pub branches_by_table : (labels : List ℕ) (default : ℕ) → operation_in (out-WInstr i) ≡ op.BrTable labels default → Good (branch_table e labels default (record c.here { rest = rest }) c)
    branches_by_table labels default q =
        let s = has C e c h i rest er (op.BrTable labels default) q tt in
        let f = found_back LabelIndex (all_of (map (slice_get h.call.labels) labels)) (λ ts. found LabelIndex (slice_get h.call.labels default) (λ t. needs LabelTypes (all_same t ts) (leaves (The I32 ∷ operands_of t)))) s.0 s.1 in
        let g = found_back LabelIndex (slice_get h.call.labels default) (λ t. needs LabelTypes (all_same t f.0) (leaves (The I32 ∷ operands_of t))) s.0 f.2 in
        let t = g.0 in
        let same = needs_back LabelTypes (all_same t f.0) (leaves (The I32 ∷ operands_of t)) s.0 g.2 in
        let u = take_of C e c h i rest er (op.BrTable labels default) (leaves (The I32 ∷ operands_of t)) q (s.1 ∙ ap Ok same) in
        let p = first_of I32 (map (fill u.at) (operands_of t)) u.taken u.of in
        subst (λ (os : List ℕ). Good (branch_table e labels default (record c.here { operands = os; rest = rest }) c)) (sym (u.parted ∙ ap (λ (l : List ℕ). l ++ u.below) p.2))
        (tabled labels default p.0 t f.0 p.1 u.below f.1 (labels_same (all_same t f.0) (leaves (The I32 ∷ operands_of t)) s.0 g.2) g.1
        (subst (λ (ts : List ValTy). AreOf ts p.1) (result_filled u.at t) p.3) (slice_get labels p.0) refl)

    pub returns : operation_in (out-WInstr i) ≡ op.Return → Good (return_now e (record c.here { rest = rest }) c)
    returns q =
        let t = h.ty.result in
        let u = take_of C e c h i rest er op.Return (leaves (operands_of t)) q refl in
        subst (λ (os : List ℕ). Good (return_now e (record c.here { operands = os; rest = rest }) c)) (sym u.parted)
        (returned C e env c h u.taken u.below rest (subst (λ (ts : List ValTy). AreOf ts u.taken) (result_filled u.at t) u.of))
