-- What instructions on variants and on existential packages do. This project's own.
use Rattle.std.specs.Prelude.{ℕ, ◌+◌, List, [], ◌∷◌, map, slice_get}
use Rattle.rw_types.specs.declared.instrs.BlockSig.{BlockSig}
use Rattle.rw_types.specs.declared.instrs.Instr.{Instr}
use Rattle.rw_types.specs.declared.types.Mem.{Mem}
use Rattle.rw_types.specs.declared.types.Qual.TheVariants.{Unr}
use Rattle.rw_types.specs.declared.types.Ty.{Ty}
use Rattle.rich_types.specs.Scopes.{Scope}
use Rattle.rich_types.specs.Sizes.{list_greatest}
use Rattle.machine_steps.specs.Steps.{Turn}
use Rattle.rich_reduction.specs.Configurations.{Val, Case, Hidden, Content, Stores, Location, Here, Config, Event}
use Rattle.rich_reduction.specs.Values.{words}
use Rattle.rich_reduction.specs.Turns.{with_ref}
use Rattle.machine_steps.specs.Steps.{with_found, with_one}
use Rattle.rich_reduction.specs.Cells.{cell_at, with_case, with_hidden, makes, opens}
use Rattle.rich_reduction.specs.Control.{enter_with}

-- a scope of type variables of these sizes, the innermost first; sizes of types look at neither their qualifiers nor at locations
abbrev pub scope_with : List ℕ → Scope
scope_with sizes = record { locations = []; variables = map (λ s. record { qual = Unr; size = s }) sizes }

-- the words of a variant with these cases
abbrev pub variant_words : List ℕ → List Ty → ℕ
variant_words sizes cases = 1 + list_greatest (scope_with sizes) cases

-- what follows where the top operand is a reference to a cell
abbrev pub with_content : List Val → Stores → (Location → Content → List Val → Turn Event Config) → Turn Event Config
with_content operands s then = with_ref operands (λ l p beneath. with_found (cell_at l s) (λ cell. then l cell.content beneath))

-- variant.malloc
abbrev pub make_variant : Mem → ℕ → List Ty → Here → Config → Turn Event Config
make_variant m n cases here c = with_one here.operands
    (λ v beneath. makes m (record { words = variant_words here.sizes cases; content = Case n v }) beneath here c)

-- variant.case: the list of the cell's case is entered, and the value of the case stands on top
abbrev pub open_variant : BlockSig → List (List Instr) → Here → Config → Turn Event Config
open_variant sig arms here c = with_content here.operands c.stores (λ l content beneath. with_case content (λ n v. with_found (slice_get arms n)
    (λ arm. enter_with (v ∷ []) beneath sig here.sizes arm here (λ inner. opens l inner c))))

-- exist.pack: the cell keeps the size of the type that is hidden
abbrev pub make_package : Mem → ℕ → Here → Config → Turn Event Config
make_package m size here c = with_one here.operands (λ v beneath. makes m (record { words = words v; content = Hidden size v }) beneath here c)

-- exist.unpack: the value stands on top, and within the list there is one type variable more, of the size that the cell keeps
abbrev pub open_package : BlockSig → List Instr → Here → Config → Turn Event Config
open_package sig body here c = with_content here.operands c.stores (λ l content beneath. with_hidden content
    (λ size v. enter_with (v ∷ []) beneath sig (size ∷ here.sizes) body here (λ inner. opens l inner c)))
