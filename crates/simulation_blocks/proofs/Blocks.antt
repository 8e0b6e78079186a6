-- The case of `block`.
use Rattle.std.proofs.Common.{◌≡◌, ◌∙◌, ℕ, ◌+◌, List, [], ◌∷◌, ◌++◌, None, length, reverse, refl, ap, sym, subst, arith}
use Rattle.std.proofs.lemmas.List.{length-reverse}
use Rattle.machine_steps.specs.Steps.{Went}
use Rattle.wasm_ast.specs.declared.instructions.WInstr as wasm
use Rattle.wasm_ast.specs.declared.instructions.WInstr.{WInstr}
use Rattle.wasm_ast.specs.declared.instructions.WInstr.TheOpen.{WInstr-F}
use Rattle.wasm_ast.specs.declared.instructions.WInstr.TheVariants.{rolls-Block}
use Rattle.wasm_execution.specs.Configurations as w
use Rattle.wasm_execution.specs.Environments.{Environment}
use Rattle.wasm_execution.specs.Steps as wasm_steps
use Rattle.rw_types.specs.declared.instrs.BlockSig.{BlockSig}
use Rattle.rw_types.specs.declared.instrs.Instr.{Block', Instr, items-the_row-Instr}
use Rattle.rw_types.specs.declared.types.Ty.{Ty}
use Rattle.rich_types.specs.Scopes.{Scope, scope_of}
use Rattle.rich_types.specs.Sizes.{list_size}
use Rattle.rich_rules.specs.Blocks.{end_label, entry}
use Rattle.rich_rules.specs.Points.{Entry, Point, after, start}
use Rattle.rich_rules.specs.Table.{note_of, row, takes}
use Rattle.rich_rules_inversions.proofs.Bodies as inverted
use Rattle.rich_reduction.specs.Configurations as r
use Rattle.rich_reduction.specs.Control as control
use Rattle.rich_reduction.specs.Steps as rich_steps
use Rattle.rw_program.specs.Programs.{Program}
use Rattle.lowering_laws.proofs.Walks.{acts}
use Rattle.lowering_names.proofs.Notes.{beneath_is}
use Rattle.lowering_rows.specs.Labels.{Label, plain_label}
use Rattle.lowering_rows.specs.Rows as code
use Rattle.lowering_rows.specs.Surroundings.{operand_place}
use Rattle.simulation_relation.specs.Bodies.{AreHeld, AreOpen, Body, IsLeft, IsRunning, base_at, carried_at, demanded_at, open_list, past}
use Rattle.simulation_relation.specs.Words.{AreSpelled, Book, Holds}
use Rattle.simulation_frames.specs.Steps.{StepsAlike}
use Rattle.simulation_frames.proofs.Onward.{one_step, outcome, source, there}
use Rattle.simulation_frames.proofs.Words.{held_back, held_front, spelled_size}
use Rattle.simulation_blocks.specs.Laws.{BlocksStepAlike}
use Rattle.simulation_blocks.proofs.Entered.{IsEntered, entered}
use Rattle.simulation_blocks.proofs.Parts.{ArePartedSo, spelled_parted, top_is}

module _ (p : Program) (e : Environment) (b : Body) (book : Book) (a : r.Config) (c : w.Config) (sig : BlockSig) (n : _) (list : _) (is : List Instr) (run : IsRunning b book a.here c.here) (next : a.here.rest ≡ Block' sig n list ∷ is) (beneath : List Ty) where
  abbrev i : Instr
  i = Block' sig n list

  abbrev q : Point
  q = run.point

  abbrev At : Scope
  At = scope_of q.binders

  abbrev opens : Entry
  opens = entry q sig (end_label q sig beneath) beneath []

  abbrev height : ℕ
  height = list_size At beneath + base_at q

  module _ (x : IsEntered b book run.stands.labels run.stands.demand q i list is c.here.rest opens) (taken : q.operands ≡ reverse sig.params ++ beneath) (high : (note_of b.frame q i).beneath ≡ height) where
    abbrev own_label : Label
    own_label = plain_label (note_of b.frame q i).beneath

    abbrev loop : List WInstr
    loop = code.row_code b.around (own_label ∷ run.stands.labels) list x.later

    parts : ArePartedSo book At (reverse sig.params) beneath a.here.operands run.stands.operands.words
    parts = spelled_parted book At (reverse sig.params) beneath a.here.operands run.stands.operands.words (subst (λ (l : List Ty). AreSpelled book At l a.here.operands run.stands.operands.words) taken run.stands.operands.spelled)

    held : Holds c.here.locals (operand_place b.around (base_at q)) (parts.under ++ parts.own)
    held = subst (λ (l : List ℕ). Holds c.here.locals (operand_place b.around (base_at q)) l) parts.words run.stands.operands.held

    held_beneath : AreHeld b book c.here.locals (after opens q) beneath parts.beneath
    held_beneath = record { words = parts.under; spelled = parts.rest; held = held_front c.here.locals (operand_place b.around (base_at q)) parts.under parts.own held }

    held_within : AreHeld b book c.here.locals (start opens 0) (reverse sig.params) parts.taken
    held_within =
        let place : operand_place b.around (base_at q) + length parts.under ≡ operand_place b.around (base_at (start opens 0)) = omega (arith, spelled_size book At beneath parts.beneath parts.under parts.rest) in
        record { words = parts.own; spelled = parts.top; held = subst (λ (m : ℕ). Holds c.here.locals m parts.own) place (held_back c.here.locals (operand_place b.around (base_at q)) parts.under parts.own held) }

    abbrev level : r.Level
    level = record { aim = r.Past; takes = length sig.results; gives = length sig.results; sizes = a.here.sizes; beneath = parts.beneath; rest = is }

    abbrev Here : r.Here
    Here = record a.here { operands = parts.taken; rest = items-the_row-Instr _ list; levels = level ∷ a.here.levels }

    abbrev Target : w.Here
    Target = record c.here { operands = []; rest = loop; levels = open_list w.Past x.rest ∷ c.here.levels }

    count : length sig.params ≡ length parts.taken
    count = sym (parts.count ∙ length-reverse sig.params)

    gives : length sig.results ≡ length (reverse sig.results)
    gives = sym (length-reverse sig.results)

    source_steps : rich_steps.step p.funcs a ≡ Went [] (record a { here = Here })
    source_steps =
        source p e b book a c i is run next
        ∙ top_is (length sig.params) a.here.operands parts.taken parts.beneath (λ (vs us : List r.Val). Went [] (record a { here = control.opened r.Past (length sig.results) sig a.here.sizes (items-the_row-Instr _ list) vs us (record a.here { rest = is }) })) count parts.values

    target_steps : wasm_steps.step e c ≡ Went [] (record c { here = Target })
    target_steps =
        acts e (WInstr-F.Block None loop) (wasm.Block None loop) (rolls-Block None loop) x.rest c x.lowered
        ∙ ap (λ (l : List ℕ). Went [] (record c { here = record c.here { operands = []; rest = loop; levels = record { aim = w.Past; takes = 0; gives = 0; beneath = l; rest = x.rest } ∷ c.here.levels } })) run.stands.no_operands

    open_lists : AreOpen b book c.here.locals (plain_label height ∷ run.stands.labels) (carried_at (start opens 0)) (demanded_at (start opens 0) opens.demand) (level ∷ a.here.levels) (open_list w.Past x.rest ∷ c.here.levels)
    open_lists = past run.stands.demand (after opens q) (reverse sig.results) beneath x.rest refl refl gives gives run.stands.sizes x.left held_beneath refl refl refl run.stands.lists

    alike : StepsAlike p e b book a c (items-the_row-Instr _ list) 1
    alike = record {
      here = Here;
      target = Target;
      source_step = source_steps;
      target_steps = one_step (wasm_steps.step e) c (record c { here = Target }) target_steps;
      left = refl;
      results = refl;
      function = refl;
      argument = refl;
      running = record {
        point = start opens 0;
        stands = record {
          labels = plain_label height ∷ run.stands.labels;
          demand = opens.demand;
          rest_left = subst (λ (m : ℕ). IsLeft b book (plain_label m ∷ run.stands.labels) opens.demand (start opens 0) (items-the_row-Instr _ list) loop) high x.within;
          operands = held_within;
          locals = run.stands.locals;
          lists = open_lists;
          sizes = run.stands.sizes;
          frame = run.stands.frame;
          no_operands = refl;
        };
      };
    }

pub blocks_step_alike : BlocksStepAlike
unfolding row takes
blocks_step_alike p e b book a c sig n list is run next =
    let i : Instr = Block' sig n list in
    let q = run.point in
    let o = outcome p e b book a c i is run next in
    let x = inverted.rows.block b.frame q sig o.0 o.1 o.2 in
    let opens = entry q sig (end_label q sig x.beneath) x.beneath [] in
    let y = entered b book run.stands.labels run.stands.demand q i list is c.here.rest opens (there p e b book a c i is run next) (o.1 ∙ x.given) refl tt tt refl in
    let high = beneath_is b.frame q i (reverse sig.params) x.beneath (sym (length-reverse sig.params)) x.taken in
    alike p e b book a c sig n list is run next x.beneath y x.taken high
