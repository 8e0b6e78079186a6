-- What instructions do that move, wrap and unwrap values, and what those on locals and globals do. This project's own.
use Rattle.std.specs.Prelude.{ℕ, List, [], ◌∷◌, ◌++◌, reverse, slice_get, slice_set}
use Rattle.machine_steps.specs.Steps.{Turn, Went, with_top}
use Rattle.rich_reduction.specs.Configurations.{Val, Empty, Tuple, Fold, Pack, Here, Config, Event, Print}
use Rattle.rich_reduction.specs.Values.{parts_of, list_of}
use Rattle.rich_reduction.specs.Turns.{with_number, with_tuple, with_fold, with_code, goes_on, leaves}
use Rattle.machine_steps.specs.Steps.{with_found, with_one}

-- this value is put on the operands
abbrev pub put : Val → Here → Config → Turn Event Config
put v here c = leaves (v ∷ here.operands) here c

-- drop
abbrev pub drop_one : Here → Config → Turn Event Config
drop_one here c = with_one here.operands (λ v beneath. leaves beneath here c)

-- print
abbrev pub print_number : Here → Config → Turn Event Config
print_number here c = with_number here.operands (λ n beneath. Went (Print n ∷ []) (record c { here = record here { operands = beneath } }))

-- qualify: a value does not know its qualifier
abbrev pub qualify : Here → Config → Turn Event Config
qualify here c = with_one here.operands (λ v beneath. goes_on here c)

-- inst: a function does not know the arguments of its binders
abbrev pub instantiate : Here → Config → Turn Event Config
instantiate here c = with_code here.operands (λ f beneath. goes_on here c)

-- rec.fold
abbrev pub fold : Here → Config → Turn Event Config
fold here c = with_one here.operands (λ v beneath. leaves (Fold v ∷ beneath) here c)

-- rec.unfold
abbrev pub unfold_one : Here → Config → Turn Event Config
unfold_one here c = with_fold here.operands (λ v beneath. leaves (v ∷ beneath) here c)

-- group: the top operand becomes the last part
abbrev pub group : ℕ → Here → Config → Turn Event Config
group n here c = with_top n here.operands (λ vs beneath. leaves (Tuple (parts_of (reverse vs)) ∷ beneath) here c)

-- ungroup: the last part becomes the top operand
abbrev pub ungroup : Here → Config → Turn Event Config
ungroup here c = with_tuple here.operands (λ parts beneath. leaves (reverse (list_of parts) ++ beneath) here c)

-- mem.pack
abbrev pub pack : Here → Config → Turn Event Config
pack here c = with_one here.operands (λ v beneath. leaves (Pack v ∷ beneath) here c)

-- a local that is there takes a value, and these operands are left
abbrev pub put_local : ℕ → Val → List Val → Here → Config → Turn Event Config
put_local n v operands here c = with_found (slice_get here.locals n) (λ old. goes_on (record here { operands = operands; locals = slice_set here.locals n v }) c)

-- local.get
abbrev pub get_local : ℕ → Here → Config → Turn Event Config
get_local n here c = with_found (slice_get here.locals n) (λ v. put v here c)

-- local.take: the local is unit afterwards
abbrev pub take_local : ℕ → Here → Config → Turn Event Config
take_local n here c = with_found (slice_get here.locals n) (λ v. put_local n Empty (v ∷ here.operands) here c)

-- local.set
abbrev pub set_local : ℕ → Here → Config → Turn Event Config
set_local n here c = with_one here.operands (λ v beneath. put_local n v beneath here c)

-- global.get
abbrev pub get_global : ℕ → Here → Config → Turn Event Config
get_global n here c = with_found (slice_get c.globals n) (λ v. put v here c)

-- global.set
abbrev pub set_global : ℕ → Here → Config → Turn Event Config
set_global n here c = with_one here.operands (λ v beneath. with_found (slice_get c.globals n)
    (λ old. Went [] (record c { here = record here { operands = beneath }; globals = slice_set c.globals n v })))
