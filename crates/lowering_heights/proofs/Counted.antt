-- A derivation has a note for each instruction, and heights of lists that follow each other are parted.
use Rattle.std.proofs.Common.{◌≡◌, ◌∙◌, ℕ, ◌+◌, ◌≤◌, max, List, [], ◌∷◌, ◌++◌, length, refl, ap, arith}
use Rattle.rw_types.specs.declared.instrs.Instr.{Instr, StructSwap, Block', Loop', If', MemUnpack', VariantCase', ExistUnpack', Row_of-Instr, end_of-Instr, more_of-Instr, items-the_row-Instr, Row_of-Instr-VariantCase-1-1, end_of-Instr-VariantCase-1-1, more_of-Instr-VariantCase-1-1}
use Rattle.rich_typing.specs.declared.notes.Note.{Note}
use Rattle.rich_types.specs.Scopes.{scope_of}
use Rattle.rich_rules.specs.Points.{Demand, Ends, Entry, Frame, Gives, Outcome, Point}
use Rattle.rich_rules.specs.Table.{arms_of, lists_of, row, takes}
use Rattle.rich_rules.specs.Derivations.{Derives, DerivesArms, Follows, arm, at_end, ends, enters, goes_on, no_arm, step}
use Rattle.layout.specs.Bodies.{nested, nested_row, nested_rows, text_order}
use Rattle.layout.specs.Frames.{greatest_height, height_of, words_before}
use Rattle.std.specs.Prelude.{take}
use Rattle.lowering_heights.specs.Laws.{NotesTellHeights}
use Rattle.lowering_heights.proofs.Sizes.{size-parted, size-reverse}
use Rattle.lowering_heights.proofs.Ends.{no_lists}

-- the instructions of lists, in the order of the text
abbrev pub texts : List (List Instr) → List Instr
texts [] = []
texts (is ∷ arms) = text_order is ++ texts arms

row_text : {n : _} (is : Row_of-Instr n) → nested_row is ≡ text_order (items-the_row-Instr _ is)
row_text end_of-Instr = refl
row_text (more_of-Instr i is) = ap (λ (l : List Instr). i ∷ (nested i ++ l)) (row_text is)

append_none : (xs : List Instr) → xs ≡ xs ++ []
append_none [] = refl
append_none (x ∷ xs) = ap (λ (l : List Instr). x ∷ l) (append_none xs)

row_texts : {n : _} (is : Row_of-Instr n) → nested_row is ≡ texts (items-the_row-Instr _ is ∷ [])
row_texts is = row_text is ∙ append_none (text_order (items-the_row-Instr _ is))

rows_texts : {n : _} (arms : Row_of-Instr-VariantCase-1-1 n) → nested_rows arms ≡ texts (lists_of arms)
rows_texts end_of-Instr-VariantCase-1-1 = refl
rows_texts (more_of-Instr-VariantCase-1-1 n list arms) =
    ap (λ (l : List Instr). l ++ nested_rows arms) (row_text list) ∙ ap (λ (l : List Instr). text_order (items-the_row-Instr _ list) ++ l) (rows_texts arms)

pub nested_texts : (i : Instr) → nested i ≡ texts (arms_of i)
nested_texts (Block' b m is) = row_texts is
nested_texts (Loop' b m is) = row_texts is
nested_texts (If' b m is n js) = ap (λ (l : List Instr). l ++ nested_row js) (row_text is) ∙ ap (λ (l : List Instr). text_order (items-the_row-Instr _ is) ++ l) (row_texts js)
nested_texts (MemUnpack' b m is) = row_texts is
nested_texts (VariantCase' b m arms) = rows_texts arms
nested_texts (ExistUnpack' b m is) = row_texts is
nested_texts _ = refl

joined_length : (xs ys : List Note) → length (xs ++ ys) ≡ length xs + length ys
joined_length [] ys = omega arith
joined_length (x ∷ xs) ys = omega (arith, joined_length xs ys)

text_length : (xs ys : List Instr) → length (xs ++ ys) ≡ length xs + length ys
text_length [] ys = omega arith
text_length (x ∷ xs) ys = omega (arith, text_length xs ys)

module _ (f : Frame) where
  mutual
    pub counted : {d : Demand} {p : Point} (is : List Instr) {notes : List Note} → Derives f d p is notes → length notes ≡ length (text_order is)
    counted [] (at_end e nn) = ap (λ (l : List Note). length l) nn
    counted (i ∷ is) (step o later r nn x) =
        let all = ap (λ (l : List Note). length l) nn in
        omega (arith, all, counted_after i is r x, text_length (nested i) (text_order is))

    counted_after : {d : Demand} {p : Point} (i : Instr) (is : List Instr) {o : Outcome} {notes : List Note} → row f p i ≡ o → Follows f d p i is o notes → length notes ≡ length (nested i) + length (text_order is)
    counted_after {p = p} i is r (ends e nn) =
        let none = ap (λ (l : List Note). length l) nn in
        let inner = ap (λ (l : List Instr). length l) (no_lists Ends tt f p i r tt) in
        let outer = ap (λ (l : List Instr). length (text_order l)) e in
        omega (arith, none, inner, outer)
    counted_after {p = p} i is r (goes_on {operands = operands} {change = change} x) =
        let inner = ap (λ (l : List Instr). length l) (no_lists (Gives operands change) tt f p i r tt) in
        omega (arith, inner, counted is x)
    counted_after i is r (enters inner later nn arms x) =
        let all = ap (λ (l : List Note). length l) nn in
        let lists = ap (λ (l : List Instr). length l) (nested_texts i) in
        omega (arith, all, joined_length inner later, counted_arms (arms_of i) arms, lists, counted is x)

    pub counted_arms : {e : Entry} {j : ℕ} (arms : List (List Instr)) {notes : List Note} → DerivesArms f e j arms notes → length notes ≡ length (texts arms)
    counted_arms [] (no_arm nn) = ap (λ (l : List Note). length l) nn
    counted_arms (is ∷ arms) (arm inner later nn x xs) =
        let all = ap (λ (l : List Note). length l) nn in
        omega (arith, all, joined_length inner later, counted is x, counted_arms arms xs, text_length (text_order is) (texts arms))

-- heights
pub note_tells : NotesTellHeights
note_tells f p i =
    let c = scope_of p.binders in
    omega (arith, size-reverse c (take (takes f p i) p.operands), size-parted c (takes f p i) p.operands)

pub at_least : (i : Instr) (note : Note) → words_before note ≤ height_of i note
at_least (StructSwap k) note = omega arith
at_least _ note = omega arith

pub heights_parted : (xs ys : List Instr) (ns ms : List Note) (end : ℕ) → length ns ≡ length xs →
    greatest_height (xs ++ ys) (ns ++ ms) end ≡ max (greatest_height xs ns 0) (greatest_height ys ms end)
heights_parted [] ys [] ms end e = omega arith
heights_parted [] ys (n ∷ ns) ms end e = absurd (omega (arith, e))
heights_parted (x ∷ xs) ys [] ms end e = absurd (omega (arith, e))
heights_parted (x ∷ xs) ys (n ∷ ns) ms end e = omega (arith, heights_parted xs ys ns ms end (omega (arith, e)))

-- of a list alone the end counts last
pub heights_end : (xs : List Instr) (ns : List Note) (end room : ℕ) → greatest_height xs ns 0 ≤ room → end ≤ room → greatest_height xs ns end ≤ room
heights_end [] ns end room h e = e
heights_end (x ∷ xs) [] end room h e = e
heights_end (x ∷ xs) (n ∷ ns) end room h e = omega (arith, h, heights_end xs ns end room (omega (arith, h)) e)

pub heights_rise : (xs : List Instr) (ns : List Note) (end greater : ℕ) → end ≤ greater → greatest_height xs ns end ≤ greatest_height xs ns greater
heights_rise [] ns end greater e = e
heights_rise (x ∷ xs) [] end greater e = e
heights_rise (x ∷ xs) (n ∷ ns) end greater e = omega (arith, heights_rise xs ns end greater e)
