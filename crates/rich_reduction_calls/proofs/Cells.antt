-- Instructions on cells go on in the call that runs.
use Rattle.std.proofs.Common.{ℕ, List, [], ◌∷◌, length, Option, Some, None, refl}
use Rattle.std.specs.Prelude.{slice_get}
use Rattle.rw_types.specs.declared.instrs.BlockSig.{BlockSig}
use Rattle.rw_types.specs.declared.instrs.Instr.{Instr}
use Rattle.rw_types.specs.declared.types.Mem.{Mem}
use Rattle.rw_types.specs.declared.types.Priv.{Priv}
use Rattle.rw_types.specs.declared.types.Ty.{Ty}
use Rattle.machine_steps.specs.declared.End.TheVariants.{Trap}
use Rattle.machine_steps.specs.declared.Trap.TheVariants.{Index}
use Rattle.machine_steps.specs.Steps.{Turn, Ended}
use Rattle.rich_reduction.specs.Configurations.{Val, Ref, Location, Content, Cell, Here, Config, Event, Touched}
use Rattle.rich_reduction.specs.Cells.{reads, writes, frees}
use Rattle.rich_reduction.specs.Structs as structs
use Rattle.rich_reduction.specs.Arrays as arrays
use Rattle.rich_reduction.specs.Packages as packages
use Rattle.rich_reduction_laws.proofs.Forms as form
use Rattle.rich_reduction_calls.specs.Calls.{StaysCall, TurnsCallsBy, stays}

module _ (c : Config) where
  abbrev Q : Turn Event Config → Type 0
  Q = TurnsCallsBy c

  -- an instruction begins in the call that runs
  abbrev Of : Here → Type 0
  Of here = StaysCall c.here here

  freed : (l : Location) (operands : List Val) (here : Here) → Of here → Q (frees l operands here c)
  freed l operands here u = form.linear Q tt l.mem (λ is. stays u refl)

  pub make_struct : (m : Mem) (sizes : List ℕ) (here : Here) → Of here → Q (structs.make_struct m sizes here c)
  make_struct m sizes here u = form.top Q tt (length sizes) here.operands (λ vs beneath. stays u refl)

  pub free_struct : (here : Here) → Of here → Q (structs.free_struct here c)
  free_struct here u = form.struct Q tt here.operands c.stores (λ l p cell ss beneath e. freed l beneath here u)

  pub get_slot : (n : ℕ) (here : Here) → Of here → Q (structs.get_slot n here c)
  get_slot n here u = form.struct Q tt here.operands c.stores (λ l p cell ss beneath e. form.found Q tt (slice_get ss n) (λ slot e'. stays u refl))

  pub set_slot : (n : ℕ) (here : Here) → Of here → Q (structs.set_slot n here c)
  set_slot n here u = form.one Q tt here.operands (λ v under. form.struct Q tt under c.stores (λ l p cell ss beneath e. form.found Q tt (slice_get ss n) (λ slot e'. stays u refl)))

  pub swap_slot : (n : ℕ) (here : Here) → Of here → Q (structs.swap_slot n here c)
  swap_slot n here u = form.one Q tt here.operands (λ v under. form.struct Q tt under c.stores (λ l p cell ss beneath e. form.found Q tt (slice_get ss n) (λ slot e'. stays u refl)))

  got : (l : Location) (p : Priv) (o : Option Val) (beneath : List Val) (here : Here) → Of here → Q (elim o [
    | Some v ↦ reads l (v ∷ Ref l p ∷ beneath) here c
    | None ↦ Ended (Touched l ∷ []) (Trap Index) c
  ])
  got l p (Some v) beneath here u = stays u refl
  got l p None beneath here u = tt

  put : (l : Location) (cell : Cell) (x : Content) (o : Option Val) (operands : List Val) (here : Here) → Of here → Q (elim o [
    | Some v ↦ writes l (record cell { content = x }) operands here c
    | None ↦ Ended (Touched l ∷ []) (Trap Index) c
  ])
  put l cell x (Some v) operands here u = stays u refl
  put l cell x None operands here u = tt

  pub get_element : (here : Here) → Of here → Q (arrays.get_element here c)
  get_element here u = form.number Q tt here.operands (λ n under e. form.array Q tt under c.stores (λ l p cell vs beneath e'. got l p (slice_get vs n) beneath here u))

  pub set_element : (here : Here) → Of here → Q (arrays.set_element here c)
  set_element here u = form.one Q tt here.operands (λ v above. form.number Q tt above (λ n under e. form.array Q tt under c.stores
      (λ l p cell vs beneath e'. put l cell _ (slice_get vs n) (Ref l p ∷ beneath) here u)))

  pub make_array : (m : Mem) (here : Here) → Of here → Q (arrays.make_array m here c)
  make_array m here u = form.number Q tt here.operands (λ n under e. form.one Q tt under (λ v beneath. stays u refl))

  pub get_length : (here : Here) → Of here → Q (arrays.get_length here c)
  get_length here u = form.array Q tt here.operands c.stores (λ l p cell vs beneath e. stays u refl)

  pub free_array : (here : Here) → Of here → Q (arrays.free_array here c)
  free_array here u = form.array Q tt here.operands c.stores (λ l p cell vs beneath e. freed l beneath here u)

  pub make_variant : (m : Mem) (n : ℕ) (cases : List Ty) (here : Here) → Of here → Q (packages.make_variant m n cases here c)
  make_variant m n cases here u = form.one Q tt here.operands (λ v beneath. stays u refl)

  pub make_package : (m : Mem) (size : ℕ) (here : Here) → Of here → Q (packages.make_package m size here c)
  make_package m size here u = form.one Q tt here.operands (λ v beneath. stays u refl)

  pub open_variant : (sig : BlockSig) (arms : List (List Instr)) (here : Here) → Of here → Q (packages.open_variant sig arms here c)
  open_variant sig arms here u = form.content Q tt here.operands c.stores (λ l cell x beneath e. form.case_of Q tt x
      (λ n v. form.found Q tt (slice_get arms n) (λ arm e'. form.top Q tt (length sig.params) beneath (λ taken rest. stays u refl))))

  pub open_package : (sig : BlockSig) (body : List Instr) (here : Here) → Of here → Q (packages.open_package sig body here c)
  open_package sig body here u = form.content Q tt here.operands c.stores (λ l cell x beneath e. form.hidden Q tt x
      (λ size v. form.top Q tt (length sig.params) beneath (λ taken rest. stays u refl)))
