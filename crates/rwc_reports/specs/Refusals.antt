-- How a refused module is told: its first violated rule, the place of it, and the types; this project's own.
use Rattle.std.specs.Prelude.{ℕ, List, [], ◌∷◌, ◌++◌, Option, Some, None, codes, decimal}
use Rattle.rw_types.specs.declared.types.Ty.{Ty}
use Rattle.rich_typing.specs.declared.notes.Place.{Place}
use Rattle.rich_typing.specs.declared.notes.Place.TheVariants.{FuncType, FuncAt, GlobalType, GlobalAt, ImportType, ExportAt}
use Rattle.rich_typing.specs.declared.rules.Rule.{Rule}
use Rattle.rich_typing.specs.declared.rules.Rule.TheVariants as rule
use Rattle.rich_typing.specs.Violations.{Violation}
use Rattle.rich_writing.specs.Types.{type_text}

-- the names of the rules
abbrev pub rule_name : Rule → List ℕ
rule_name rule.DeadCode = codes "dead-code"
rule_name rule.Initialiser = codes "initialiser"
rule_name rule.Index = codes "index"
rule_name rule.TypeForm = codes "type-form"
rule_name rule.SlotSize = codes "slot-size"
rule_name rule.Operands = codes "operands"
rule_name rule.OperandType = codes "operand-type"
rule_name rule.BlockEnd = codes "block-end"
rule_name rule.LocalsEnd = codes "locals-end"
rule_name rule.LinearGlobal = codes "linear-global"
rule_name rule.Duplicate = codes "duplicate"
rule_name rule.LinearDrop = codes "linear-drop"
rule_name rule.Crossed = codes "crossed"
rule_name rule.LocalsDiffer = codes "locals-differ"
rule_name rule.LocationsDiffer = codes "locations-differ"
rule_name rule.LinearCopy = codes "linear-copy"
rule_name rule.Spent = codes "spent"
rule_name rule.ConstGlobal = codes "const-global"
rule_name rule.Instance = codes "instance"
rule_name rule.Memory = codes "memory"
rule_name rule.Privilege = codes "privilege"
rule_name rule.Slot = codes "slot"
rule_name rule.SlotType = codes "slot-type"
rule_name rule.Arms = codes "arms"
rule_name rule.Qualifier = codes "qualifier"
rule_name rule.Size = codes "size"
rule_name rule.NotYetBuilt = codes "not-yet-built"

-- numbers, each after a dot
abbrev pub dotted : List ℕ → List ℕ
dotted [] = []
dotted (n ∷ ns) = codes "." ++ (decimal n ++ dotted ns)

-- a path: numbers joined by dots
abbrev pub path_text : List ℕ → List ℕ
path_text [] = []
path_text (n ∷ ns) = decimal n ++ dotted ns

-- a place: a field of a module, and in a body the path
abbrev pub place_text : Place → List ℕ
place_text (FuncType f) = codes "function " ++ (decimal f ++ codes " type")
place_text (FuncAt f path) = codes "function " ++ (decimal f ++ (codes " instruction " ++ path_text path))
place_text (GlobalType g) = codes "global " ++ (decimal g ++ codes " type")
place_text (GlobalAt g path) = codes "global " ++ (decimal g ++ (codes " instruction " ++ path_text path))
place_text (ImportType i) = codes "import " ++ (decimal i ++ codes " type")
place_text (ExportAt e) = codes "export " ++ decimal e

-- a type, or `-` where none is told
abbrev pub told_type : Option Ty → List ℕ
told_type None = codes "-"
told_type (Some t) = type_text t

-- the line of a refused module, from the texts of its place, its rule and its types
abbrev pub refused_line : List ℕ → List ℕ → List ℕ → List ℕ → List ℕ → List ℕ
refused_line file place broken found expected =
    codes "refused " ++ (file ++ (codes " " ++ (place ++ (codes " " ++ (broken ++ (codes " found " ++ (found ++ (codes " expected " ++ (expected ++ codes "\n")))))))))

-- the line of a violation
abbrev pub violation_line : List ℕ → Violation → List ℕ
violation_line file v = refused_line file (place_text v.place) (rule_name v.broken) (told_type v.found) (told_type v.expected)
