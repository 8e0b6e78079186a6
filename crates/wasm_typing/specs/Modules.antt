-- Valid modules, and the first violation of one that is not (WebAssembly Core Specification 1.0, section 3.4.10; the place,
-- the rule's name and the order are this project's own: parts in the order of sections, entries in theirs).
use Rattle.std.specs.Prelude.{◌≡◌, ℕ, ◌<◌, ◌+◌, List, [], ◌∷◌, ◌++◌, Option, Some, None, length, slice_get}
use Rattle.wasm_ast.specs.declared.types.FuncType.{FuncType}
use Rattle.wasm_ast.specs.declared.modules.Code.{Code}
use Rattle.wasm_ast.specs.declared.modules.WModule.{WModule}
use Rattle.wasm_typing.specs.declared.rule.WRule.{WRule}
use Rattle.wasm_typing.specs.declared.context.Context.{Context}
use Rattle.wasm_typing.specs.Contexts.{body_context, context_of, imported_functions, imported_globals, imported_memories, imported_tables}
use Rattle.wasm_typing.specs.Fields.{element_rule, export_rule, function_rule, global_rule, import_rule, memory_rule, segment_rule, start_rule, table_rule}
use Rattle.wasm_typing.specs.Typing.{IsTypedBody}
use Rattle.wasm_typing.specs.Violations.{IsFirstViolation}

-- the number of an entry in its section, and the rule that it breaks
pub record Fault : Type 0 where
  pub at : ℕ
  pub rule : WRule

-- the first entry that breaks a rule, where `rule_of` sees those before it; `before` are those that were looked at
abbrev pub first_fault_behind : {A : Type 0} → (List A → A → Option WRule) → List A → List A → Option Fault
first_fault_behind rule_of before [] = None
first_fault_behind rule_of before (x ∷ xs) =
    elim (rule_of before x) [ Some rule ↦ Some (record { at = length before; rule = rule }) | None ↦ first_fault_behind rule_of (before ++ x ∷ []) xs ]

abbrev pub first_fault : {A : Type 0} → (List A → A → Option WRule) → List A → Option Fault
first_fault rule_of xs = first_fault_behind rule_of [] xs

-- of a section whose entries do not look at each other
abbrev pub first_alone : {A : Type 0} → (A → Option WRule) → List A → Option Fault
first_alone rule_of xs = first_fault (λ before x. rule_of x) xs

abbrev pub earliest : List (Option Fault) → Option Fault
earliest [] = None
earliest (Some fault ∷ faults) = Some fault
earliest (None ∷ faults) = earliest faults

abbrev pub start_entries : Option ℕ → List ℕ
start_entries None = []
start_entries (Some n) = n ∷ []

-- the first fault of what stands before the code section
abbrev pub fault_before_codes : WModule → Option Fault
fault_before_codes m =
    let C = context_of m in
    earliest (
    first_fault (import_rule m.types) m.imports
    ∷ first_alone (function_rule C) m.funcs
    ∷ first_fault (λ before l. table_rule (imported_tables m.imports + length before) l) m.tables
    ∷ first_fault (λ before l. memory_rule (imported_memories m.imports + length before) l) m.memories
    ∷ first_alone (global_rule (imported_globals m.imports)) m.globals
    ∷ first_fault (export_rule C) m.exports
    ∷ first_alone (start_rule C) (start_entries m.start)
    ∷ first_alone (element_rule C) m.elements
    ∷ [])

-- the first fault of what stands behind it
abbrev pub fault_behind_codes : WModule → Option Fault
fault_behind_codes m = first_alone (segment_rule (context_of m)) m.segments

-- the function that the module has under this number, imports not counted: its code, and what its body is typed under
pub record HasBody (m : WModule) (k : ℕ) (C : Context) (code : Code) : Type 0 where
  pub type_index : ℕ
  pub ty : FuncType
  pub listed : slice_get m.funcs k ≡ Some type_index
  pub typed : slice_get m.types type_index ≡ Some ty
  pub there : slice_get m.codes k ≡ Some code
  pub context : C ≡ body_context (context_of m) ty code

-- the bodies of the functions before this one are typed
abbrev pub BodiesAreTypedBefore : WModule → ℕ → Type 0
BodiesAreTypedBefore m n = (k : ℕ) (C : Context) (code : Code) → k < n → HasBody m k C code → IsTypedBody C code.body

-- a valid module
pub record IsValid (m : WModule) : Type 0 where
  pub before : fault_before_codes m ≡ None
  pub codes : BodiesAreTypedBefore m (length m.codes)
  pub behind : fault_behind_codes m ≡ None

-- how many functions are imported
abbrev pub function_imports : WModule → ℕ
function_imports m = length (imported_functions m.types m.imports)

-- a violation: the function in whose body it is, imports counted, or none; the place there, in byte order, or the number of
-- the entry in its section; and the rule
pub record Violation : Type 0 where
  pub func : Option ℕ
  pub at : ℕ
  pub rule : WRule

abbrev pub outside : Fault → Violation
outside fault = record { func = None; at = fault.at; rule = fault.rule }

-- the first violation of a module
pub data FirstViolation (m : WModule) (v : Violation) : Type 0 where
  before_codes : (fault : Fault) → fault_before_codes m ≡ Some fault → v ≡ outside fault → FirstViolation m v
  in_code : (k : ℕ) (C : Context) (code : Code) → fault_before_codes m ≡ None → BodiesAreTypedBefore m k → HasBody m k C code
      → IsFirstViolation C code.body v.at v.rule → v.func ≡ Some (function_imports m + k) → FirstViolation m v
  behind_codes : (fault : Fault) → fault_before_codes m ≡ None → BodiesAreTypedBefore m (length m.codes) → fault_behind_codes m ≡ Some fault → v ≡ outside fault → FirstViolation m v
