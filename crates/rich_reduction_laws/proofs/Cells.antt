-- Instructions on cells do one thing to one cell, and say it.
use Rattle.std.proofs.Common.{◌≡◌, ℕ, List, [], ◌∷◌, length, Option, Some, None, refl}
use Rattle.std.specs.Prelude.{slice_get, slice_set}
use Rattle.rw_types.specs.declared.instrs.BlockSig.{BlockSig}
use Rattle.rw_types.specs.declared.instrs.Instr.{Instr}
use Rattle.rw_types.specs.declared.types.Mem.{Mem}
use Rattle.rw_types.specs.declared.types.Ty.{Ty}
use Rattle.rw_types.specs.declared.types.Priv.{Priv}
use Rattle.machine_steps.specs.declared.End.TheVariants.{Trap}
use Rattle.machine_steps.specs.declared.Trap.TheVariants.{Index}
use Rattle.machine_steps.specs.Steps.{Turn, Ended}
use Rattle.rich_reduction.specs.Configurations.{Val, Ref, Location, Slots, Elements, Content, Cell, Here, Config, Event, Made, Touched}
use Rattle.rich_reduction.specs.Cells.{cell_at, put_at, new_location, with_new, opening, opened_in, reads, writes, frees}
use Rattle.rich_reduction.specs.Structs as structs
use Rattle.rich_reduction.specs.Arrays as arrays
use Rattle.rich_reduction.specs.Packages as packages
use Rattle.rich_reduction_laws.specs.Effects.{Effect, Makes, Reads, Writes, Opens, Frees, MakesCell, ReadsCell, WritesCell, OpensCell, HasEffect}
use Rattle.rich_reduction_laws.proofs.Forms as form

module _ (c : Config) where
  abbrev Has : Effect → Turn Event Config → Type 0
  Has e = HasEffect e c

  made : (m : Mem) (cell : Cell) → MakesCell m c.stores (with_new m cell c.stores) (Made (new_location m c.stores) cell.words ∷ Touched (new_location m c.stores) ∷ [])
  made m cell = record { cell = cell; said = refl; made = refl }

  read : (l : Location) (cell : Cell) → cell_at l c.stores ≡ Some cell → ReadsCell c.stores c.stores (Touched l ∷ [])
  read l cell e = record { location = l; cell = cell; there = e; said = refl; stays = refl }

  written : (l : Location) (cell : Cell) (x : Content) → cell_at l c.stores ≡ Some cell → WritesCell c.stores (put_at l (record cell { content = x }) c.stores) (Touched l ∷ [])
  written l cell x e = record { location = l; cell = cell; content = x; there = e; said = refl; written = refl }

  abbrev opened : (l : Location) (cell : Cell) → cell_at l c.stores ≡ Some cell → OpensCell c.stores (opened_in l.mem l.number c.stores) (opening l.mem l)
  opened l cell e = record { location = l; cell = cell; there = e; said = refl; opened = refl }

  freed : (l : Location) (cell : Cell) (operands : List Val) (here : Here) → cell_at l c.stores ≡ Some cell → Has Frees (frees l operands here c)
  freed l cell operands here e = form.linear (Has Frees) tt l.mem (λ is. record { opens = opened l cell e; linear = is })

  pub make_struct : (m : Mem) (sizes : List ℕ) (here : Here) → Has (Makes m) (structs.make_struct m sizes here c)
  make_struct m sizes here = form.top (Has (Makes m)) tt (length sizes) here.operands (λ vs beneath. made m _)

  pub free_struct : (here : Here) → Has Frees (structs.free_struct here c)
  free_struct here = form.struct (Has Frees) tt here.operands c.stores (λ l p cell ss beneath e. freed l cell beneath here e)

  pub get_slot : (n : ℕ) (here : Here) → Has Reads (structs.get_slot n here c)
  get_slot n here = form.struct (Has Reads) tt here.operands c.stores (λ l p cell ss beneath e. form.found (Has Reads) tt (slice_get ss n)
      (λ slot e'. read l cell e))

  pub set_slot : (n : ℕ) (here : Here) → Has Writes (structs.set_slot n here c)
  set_slot n here = form.one (Has Writes) tt here.operands (λ v under. form.struct (Has Writes) tt under c.stores
      (λ l p cell ss beneath e. form.found (Has Writes) tt (slice_get ss n)
      (λ slot e'. written l cell (Slots (slice_set ss n (record slot { value = v }))) e)))

  pub swap_slot : (n : ℕ) (here : Here) → Has Writes (structs.swap_slot n here c)
  swap_slot n here = form.one (Has Writes) tt here.operands (λ v under. form.struct (Has Writes) tt under c.stores
      (λ l p cell ss beneath e. form.found (Has Writes) tt (slice_get ss n)
      (λ slot e'. written l cell (Slots (slice_set ss n (record slot { value = v }))) e)))

  got : (l : Location) (p : Priv) (cell : Cell) (o : Option Val) (beneath : List Val) (here : Here) → cell_at l c.stores ≡ Some cell → Has Reads (elim o [
    | Some v ↦ reads l (v ∷ Ref l p ∷ beneath) here c
    | None ↦ Ended (Touched l ∷ []) (Trap Index) c
  ])
  got l p cell (Some v) beneath here e = read l cell e
  got l p cell None beneath here e = record { same = refl; may = tt; does = read l cell e }

  put : (l : Location) (cell : Cell) (x : Content) (o : Option Val) (operands : List Val) (here : Here) → cell_at l c.stores ≡ Some cell → Has Writes (elim o [
    | Some v ↦ writes l (record cell { content = x }) operands here c
    | None ↦ Ended (Touched l ∷ []) (Trap Index) c
  ])
  put l cell x (Some v) operands here e = written l cell x e
  put l cell x None operands here e = record { same = refl; may = tt; does = read l cell e }

  pub get_element : (here : Here) → Has Reads (arrays.get_element here c)
  get_element here = form.number (Has Reads) tt here.operands (λ n under e. form.array (Has Reads) tt under c.stores
      (λ l p cell vs beneath e'. got l p cell (slice_get vs n) beneath here e'))

  pub set_element : (here : Here) → Has Writes (arrays.set_element here c)
  set_element here = form.one (Has Writes) tt here.operands (λ v above. form.number (Has Writes) tt above (λ n under e. form.array (Has Writes) tt under c.stores
      (λ l p cell vs beneath e'. put l cell (Elements (slice_set vs n v)) (slice_get vs n) (Ref l p ∷ beneath) here e')))

  pub make_array : (m : Mem) (here : Here) → Has (Makes m) (arrays.make_array m here c)
  make_array m here = form.number (Has (Makes m)) tt here.operands (λ n under e. form.one (Has (Makes m)) tt under (λ v beneath. made m _))

  pub get_length : (here : Here) → Has Reads (arrays.get_length here c)
  get_length here = form.array (Has Reads) tt here.operands c.stores (λ l p cell vs beneath e. read l cell e)

  pub free_array : (here : Here) → Has Frees (arrays.free_array here c)
  free_array here = form.array (Has Frees) tt here.operands c.stores (λ l p cell vs beneath e. freed l cell beneath here e)

  pub make_variant : (m : Mem) (n : ℕ) (cases : List Ty) (here : Here) → Has (Makes m) (packages.make_variant m n cases here c)
  make_variant m n cases here = form.one (Has (Makes m)) tt here.operands (λ v beneath. made m _)

  pub make_package : (m : Mem) (size : ℕ) (here : Here) → Has (Makes m) (packages.make_package m size here c)
  make_package m size here = form.one (Has (Makes m)) tt here.operands (λ v beneath. made m _)

  pub open_variant : (sig : BlockSig) (arms : List (List Instr)) (here : Here) → Has Opens (packages.open_variant sig arms here c)
  open_variant sig arms here = form.content (Has Opens) tt here.operands c.stores (λ l cell x beneath e. form.case_of (Has Opens) tt x
      (λ n v. form.found (Has Opens) tt (slice_get arms n) (λ arm e'. form.top (Has Opens) tt (length sig.params) beneath (λ taken rest. opened l cell e))))

  pub open_package : (sig : BlockSig) (body : List Instr) (here : Here) → Has Opens (packages.open_package sig body here c)
  open_package sig body here = form.content (Has Opens) tt here.operands c.stores (λ l cell x beneath e. form.hidden (Has Opens) tt x
      (λ size v. form.top (Has Opens) tt (length sig.params) beneath (λ taken rest. opened l cell e)))
