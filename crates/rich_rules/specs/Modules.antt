-- Well-typed modules, with the notes of their bodies, and the first violation of a module. A module is looked at
-- field by field in the order of the text, and of a field first at its own rules and then at its body. This
-- project's own.
use Rattle.std.specs.Prelude.{◌≡◌, ℕ, ◌+◌, suc, nat_le, nat_lt, List, [], ◌∷◌, ◌++◌, Bool, true, false, not, ◌&&◌, ◌||◌, if◌then◌else◌, Option, Some, None, length, map, replicate, reverse, bytes_eq}
use Rattle.rw_types.specs.declared.instrs.Instr.{Instr}
use Rattle.rw_types.specs.declared.modules.ImportDef.{ImportDef}
use Rattle.rw_types.specs.declared.modules.FuncDef.{FuncDef}
use Rattle.rw_types.specs.declared.modules.GlobalDef.{GlobalDef}
use Rattle.rw_types.specs.declared.modules.ExportDef.{ExportDef}
use Rattle.rw_types.specs.declared.modules.Module.{Module}
use Rattle.rw_types.specs.declared.types.FunType.{FunType}
use Rattle.rw_types.specs.declared.types.Ty.{Ty}
use Rattle.rich_types.specs.Scopes.{no_scope, scope_of}
use Rattle.rich_types.specs.Sizes.{size_under}
use Rattle.rich_types.specs.WellFormed.{most_words}
use Rattle.rich_typing.specs.declared.notes.Note.{Note}
use Rattle.rich_typing.specs.declared.notes.Place.{Place}
use Rattle.rich_typing.specs.declared.notes.Place.TheVariants.{FuncType, FuncAt, GlobalType as global_type, GlobalAt, ImportType, ExportAt}
use Rattle.rich_typing.specs.declared.rules.Rule.{Rule}
use Rattle.rich_typing.specs.declared.rules.Rule.TheVariants as rule
use Rattle.rich_rules.specs.Forms.{is_formed, is_unr_type, first_ill_formed}
use Rattle.rich_rules.specs.Points.{GlobalType, OfFunction, OfGlobal, Frame, Point, Broken, Broke, AllUnr, Demand}
use Rattle.rich_rules.specs.Takers.{unr_unit, or_else}
use Rattle.rich_rules.specs.Derivations.{Derives}
use Rattle.rich_rules.specs.Violations.{Violates}

-- the types of the functions of a module, the imports first
abbrev pub function_types : Module → List FunType
function_types m = map (λ (i : ImportDef). i.ty) m.imports ++ map (λ (f : FuncDef). f.ty) m.funcs

-- what the globals of a module are to bodies
abbrev pub global_types : Module → List GlobalType
global_types m = map (λ (g : GlobalDef). record { mutable = g.mutable; ty = g.ty }) m.globals

-- the slots of a function's locals: a parameter's is as large as its type
abbrev pub slots_of_locals : FuncDef → List ℕ
slots_of_locals f = map (size_under (scope_of f.ty.binders)) f.ty.params ++ f.locals

-- the frame of a function's body, and that of an initialiser
abbrev pub function_frame : Module → FuncDef → Frame
function_frame m f = record { functions = function_types m; globals = global_types m; slots = slots_of_locals f; owner = OfFunction }

abbrev pub initialiser_frame : Module → ℕ → Frame
initialiser_frame m n = record { functions = function_types m; globals = global_types m; slots = []; owner = OfGlobal n }

-- the point at the start of a function's body: its parameters are the first locals, and the others are units
abbrev pub function_start : FuncDef → Point
function_start f = record { binders = f.ty.binders; locals = f.ty.params ++ replicate (length f.locals) unr_unit; labels = []; results = reverse f.ty.results; operands = [] }

-- and that of an initialiser
abbrev pub initialiser_start : Point
initialiser_start = record { binders = []; locals = []; labels = []; results = []; operands = [] }

-- what the end of a function's body demands, and that of an initialiser
abbrev pub function_demand : FuncDef → Demand
function_demand f = record { types = reverse f.ty.results; locals = AllUnr }

abbrev pub initialiser_demand : GlobalDef → Demand
initialiser_demand g = record { types = g.ty ∷ []; locals = AllUnr }

-- a rule that this type breaks, if there is one
abbrev pub broken_by_type : Rule → Option Ty → Option Broken
broken_by_type broken None = None
broken_by_type broken (Some t) = Some (Broke broken (Some t) None)

-- what the type of a function breaks: a parameter or a result is not well formed
abbrev pub function_type_broken : FunType → Option Broken
function_type_broken g = broken_by_type rule.TypeForm (first_ill_formed (scope_of g.binders) (g.params ++ g.results))

-- whether slots have at most 10,000 words each
abbrev pub are_small : List ℕ → Bool
are_small [] = true
are_small (s ∷ ss) = nat_le s most_words && are_small ss

-- a rule that is broken by no type, unless this holds
abbrev pub broken_unless : Bool → Rule → Option Broken
broken_unless b broken = if b then None else Some (Broke broken None None)

-- what a function's type and its slots break
abbrev pub function_broken : FuncDef → Option Broken
function_broken f = or_else (function_type_broken f.ty) (broken_unless (are_small f.locals) rule.TypeForm)

-- a rule that a type breaks, unless this holds of it
abbrev pub type_broken_unless : Bool → Rule → Ty → Option Broken
type_broken_unless b broken t = if b then None else Some (Broke broken (Some t) None)

-- what the type of a global breaks
abbrev pub global_broken : GlobalDef → Option Broken
global_broken g = or_else (type_broken_unless (is_formed no_scope g.ty) rule.TypeForm g.ty) (type_broken_unless (is_unr_type no_scope g.ty) rule.LinearGlobal g.ty)

-- whether a number is that of a function that the module defines
abbrev pub is_defined : Module → ℕ → Bool
is_defined m n = nat_le (length m.imports) n && nat_lt n (length m.imports + length m.funcs)

-- whether a name is among those of these exports
abbrev pub is_exported : List ℕ → List ExportDef → Bool
is_exported name [] = false
is_exported name (e ∷ es) = bytes_eq name e.name || is_exported name es

-- what an export breaks, which these come before
abbrev pub export_broken : Module → List ExportDef → ExportDef → Option Broken
export_broken m before e = or_else (broken_unless (is_defined m e.func) rule.Index) (broken_unless (not (is_exported e.name before)) rule.Duplicate)

-- a part of a module: a field's own rules, with its place and what they are broken by; or a body, with the places of its
-- paths, its frame, what its end demands, and the point at its start
pub data Part : Type 0 where
  Field : Place → Option Broken → Part
  Body : (List ℕ → Place) → Frame → Demand → Point → List Instr → Part

-- the parts of imports, functions, globals and exports from these numbers on
abbrev pub import_parts : ℕ → List ImportDef → List Part
import_parts n [] = []
import_parts n (i ∷ is) = Field (ImportType n) (function_type_broken i.ty) ∷ import_parts (suc n) is

abbrev pub function_parts : Module → ℕ → List FuncDef → List Part
function_parts m n [] = []
function_parts m n (f ∷ fs) = Field (FuncType n) (function_broken f) ∷ Body (FuncAt n) (function_frame m f) (function_demand f) (function_start f) f.body ∷ function_parts m (suc n) fs

abbrev pub global_parts : Module → ℕ → List GlobalDef → List Part
global_parts m n [] = []
global_parts m n (g ∷ gs) = Field (global_type n) (global_broken g) ∷ Body (GlobalAt n) (initialiser_frame m n) (initialiser_demand g) initialiser_start g.body ∷ global_parts m (suc n) gs

-- and of exports, which these come before
abbrev pub export_parts : Module → ℕ → List ExportDef → List ExportDef → List Part
export_parts m n before [] = []
export_parts m n before (e ∷ es) = Field (ExportAt n) (export_broken m before e) ∷ export_parts m (suc n) (before ++ e ∷ []) es

-- the parts of a module, in the order of the text; a function's number counts the imports
abbrev pub parts_of : Module → List Part
parts_of m = import_parts 0 m.imports ++ (function_parts m (length m.imports) m.funcs ++ (global_parts m 0 m.globals ++ export_parts m 0 [] m.exports))

-- parts of which no field breaks a rule and each body has a derivation, with these notes
pub data AreTyped : List Part → List (List Note) → Type 0 where
  no_part : {notes : List (List Note)} → notes ≡ [] → AreTyped [] notes
  field : {place : Place} {o : Option Broken} {parts : List Part} {notes : List (List Note)} → o ≡ None → AreTyped parts notes → AreTyped (Field place o ∷ parts) notes
  body : {place : List ℕ → Place} {f : Frame} {d : Demand} {p : Point} {is : List Instr} {parts : List Part} {notes : List (List Note)} (own : List Note) (rest : List (List Note)) → notes ≡ own ∷ rest → Derives f d p is own → AreTyped parts rest → AreTyped (Body place f d p is ∷ parts) notes

-- parts of which the first that breaks a rule does so at this place
pub data AreViolated : List Part → Place → Broken → Type 0 where
  in_field : {at place : Place} {o : Option Broken} {parts : List Part} {b : Broken} → o ≡ Some b → place ≡ at → AreViolated (Field at o ∷ parts) place b
  after_field : {at place : Place} {o : Option Broken} {parts : List Part} {b : Broken} → o ≡ None → AreViolated parts place b → AreViolated (Field at o ∷ parts) place b
  in_body : {at : List ℕ → Place} {f : Frame} {d : Demand} {p : Point} {is : List Instr} {parts : List Part} {place : Place} {b : Broken} (path : List ℕ) → place ≡ at path → Violates f d p 0 is path b → AreViolated (Body at f d p is ∷ parts) place b
  after_body : {at : List ℕ → Place} {f : Frame} {d : Demand} {p : Point} {is : List Instr} {parts : List Part} {place : Place} {b : Broken} (own : List Note) → Derives f d p is own → AreViolated parts place b → AreViolated (Body at f d p is ∷ parts) place b

-- a well-typed module, with the notes of its bodies: those of its functions, and then those of its globals
abbrev pub IsWellTyped : Module → List (List Note) → Type 0
IsWellTyped m notes = AreTyped (parts_of m) notes

-- the first violation of a module: its place, the rule, the type that breaks it and the type that is demanded, where there
-- are such
abbrev pub IsFirstViolation : Module → Place → Rule → Option Ty → Option Ty → Type 0
IsFirstViolation m place broken found expected = AreViolated (parts_of m) place (Broke broken found expected)
