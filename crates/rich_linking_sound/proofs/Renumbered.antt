-- Constants that fit do so with new numbers of functions and globals, by induction on instructions.
use Rattle.std.proofs.Common.{◌≡◌, ◌∙◌, List, [], ◌∷◌, refl, sym, ap, subst}
use Rattle.std.specs.Prelude.{⊤}
use Rattle.rw_types.specs.declared.instrs.Instr.{Instr, Block', Loop', If', MemUnpack', VariantCase', ExistUnpack', Row_of-Instr, end_of-Instr, more_of-Instr, Row_of-Instr-VariantCase-1-1, end_of-Instr-VariantCase-1-1, more_of-Instr-VariantCase-1-1, items-the_row-Instr, items_hidden-the_row-Instr-0}
use Rattle.rw_types.specs.declared.instrs.Instr.TheBlock.{hidden-the_row-Instr-0, hidden-the_row-Instr-VariantCase-1-1-1}
use Rattle.rich_linking.specs.Numbers.{NewNumbers, renumbered, renumbered_row, renumbered_rows, renumbered_list}
use Rattle.rich_soundness_points.specs.Programs.{Fits, RowFits, RowsFit, AllFit}

-- the constants of lists
abbrev EachFits : List (List Instr) → Type 0
EachFits [] = ⊤
EachFits (is ∷ rest) = AllFit is × EachFits rest

row_fits : {n : _} (is : Row_of-Instr n) → RowFits is ≡ AllFit (items-the_row-Instr _ is)
row_fits end_of-Instr = refl
row_fits (more_of-Instr i is) = ap (λ (P : Type 0). Fits i × P) (row_fits is)

list_fits : (is : List Instr) → AllFit is → RowFits (hidden-the_row-Instr-0 is)
list_fits is h = subst (λ (P : Type 0). P) (sym (row_fits (hidden-the_row-Instr-0 is) ∙ ap AllFit (items_hidden-the_row-Instr-0 is))) h

lists_fit : (lists : List (List Instr)) → EachFits lists → RowsFit (hidden-the_row-Instr-VariantCase-1-1-1 lists)
unfolding hidden-the_row-Instr-VariantCase-1-1-1 denote.Hole.Carrier.hidden
lists_fit [] h = tt
lists_fit (is ∷ rest) h = (list_fits is h.0, lists_fit rest h.1)

module _ (k : NewNumbers) where
  mutual
    pub fits : (i : Instr) → Fits i → Fits (renumbered k i)
    fits (Block' b m is) h = list_fits (renumbered_row k is) (fits_row is h)
    fits (Loop' b m is) h = list_fits (renumbered_row k is) (fits_row is h)
    fits (If' b m is n js) h = (list_fits (renumbered_row k is) (fits_row is h.0), list_fits (renumbered_row k js) (fits_row js h.1))
    fits (MemUnpack' b m is) h = list_fits (renumbered_row k is) (fits_row is h)
    fits (VariantCase' b m rows) h = lists_fit (renumbered_rows k rows) (fits_rows rows h)
    fits (ExistUnpack' b m is) h = list_fits (renumbered_row k is) (fits_row is h)
    fits _ h = h

    fits_row : {n : _} (is : Row_of-Instr n) → RowFits is → AllFit (renumbered_row k is)
    fits_row end_of-Instr h = tt
    fits_row (more_of-Instr i is) h = (fits i h.0, fits_row is h.1)

    fits_rows : {n : _} (rows : Row_of-Instr-VariantCase-1-1 n) → RowsFit rows → EachFits (renumbered_rows k rows)
    fits_rows end_of-Instr-VariantCase-1-1 h = tt
    fits_rows (more_of-Instr-VariantCase-1-1 m is rest) h = (fits_row is h.0, fits_rows rest h.1)

  pub all_fit : (is : List Instr) → AllFit is → AllFit (renumbered_list k is)
  all_fit [] h = tt
  all_fit (i ∷ is) h = (fits i h.0, all_fit is h.1)
