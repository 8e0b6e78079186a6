-- Lists that an instruction opens, as code tells them, and what an answer says of a row that enters lists. Want of memory says
-- nothing. This project's own.
use Rattle.std.specs.Prelude.{◌≡◌, ℕ, List, ◌∷◌, ◌++◌, Option, Some, None, Result, Ok, Err, reverse}
use Rattle.rw_types.specs.declared.instrs.BlockSig.{BlockSig}
use Rattle.rw_types.specs.declared.types.Binder.{Binder}
use Rattle.rw_types.specs.declared.types.Ty.{Ty}
use Rattle.rich_rules.specs.Blocks.{changed_by, end_label, start_label, each_alone}
use Rattle.rich_rules.specs.Points as points
use Rattle.rich_rules.specs.Points.{Frame, Label, Point, Exactly, Outcome, Enters}
use Rattle.rich_rules.specs.Raised.{entered}
use Rattle.rw_row_answers.specs.declared.answers.CapError.{CapError}
use Rattle.rw_row_answers.specs.Answers.{Breaking}
use Rattle.rw_block_rows.specs.declared.entries.Aim.{Aim}
use Rattle.rw_block_rows.specs.declared.entries.Aim.TheVariants.{Start, Behind}
use Rattle.rw_block_rows.specs.declared.entries.Entry.{Entry}
use Rattle.rw_block_rows.specs.declared.entries.Types.{Types}

-- a frame with these slots
abbrev pub with_slots : List ℕ → Frame → Frame
with_slots slots f = record f { slots = slots }

-- a point with these binders, locals and operands
abbrev pub standing : List Binder → List Ty → List Ty → Point → Point
standing binders locals operands p = record p { binders = binders; locals = locals; operands = operands }

-- of what a list begins with and what stands behind it, where a branch goes
abbrev pub aimed : Aim → Types → Types → Types
aimed Start start after = start
aimed Behind start after = after

-- the label of the lists, over the operands beneath it
abbrev pub label_seen : Types → List Ty → Label
label_seen t beneath = record { types = reverse t.operands; locals = t.locals; rest = beneath }

-- a point below a binder, if there is one
abbrev pub within : Option Binder → Point → Point
within None p = p
within (Some b) p = entered b p

-- what is entered from a point, over the operands beneath
abbrev pub entry_seen : Entry → Point → List Ty → points.Entry
entry_seen e p beneath = record {
  operands = reverse e.after.operands ++ beneath;
  locals = e.after.locals;
  inner = record (within e.binder (record p { labels = label_seen (aimed e.aim e.start e.after) beneath ∷ p.labels })) { locals = e.start.locals; operands = reverse e.start.operands };
  payloads = each_alone e.payloads;
  demand = record { types = reverse e.end.operands; locals = Exactly e.end.locals };
}

-- the row enters these lists from the point, over the operands that are left; or it breaks the rule that is told
abbrev pub Opens : Result Entry CapError → Outcome → Point → List Ty → Type 0
Opens (Ok e) out p left = out ≡ Enters (entry_seen e p left)
Opens (Err e) out p left = Breaking e out

-- the condition holds, and what is left of what is told is looked at; or it breaks the rule that is told
abbrev pub Takes : {A : Type 0} → Result A CapError → Outcome → (A → Outcome) → Type 0
Takes (Ok x) out rest = out ≡ rest x
Takes (Err e) out rest = Breaking e out

-- the label of a block, where it is aimed here or there
abbrev pub label_at : Aim → Point → BlockSig → List Ty → Label
label_at Start p b beneath = start_label p b beneath
label_at Behind p b beneath = end_label p b beneath

-- the lists of a block without a binder, where the locals have these types
abbrev pub entry_over : Aim → List Ty → BlockSig → List Ty → Entry
entry_over aim locals b payloads = record {
  binder = None;
  aim = aim;
  start = record { operands = b.params; locals = locals };
  payloads = payloads;
  end = record { operands = b.results; locals = changed_by b.locals locals };
  after = record { operands = b.results; locals = changed_by b.locals locals };
}
