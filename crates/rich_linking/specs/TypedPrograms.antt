-- Programs whose bodies have derivations, with their notes, under the numbers of the program. This project's own.
use Rattle.std.specs.Prelude.{◌≡◌, ℕ, suc, List, [], ◌∷◌, map, slice_get, Some, ⊤}
use Rattle.rw_types.specs.declared.types.FunType.{FunType}
use Rattle.rich_rules.specs.Points.{Frame, GlobalType, OfFunction, OfGlobal, Owner}
use Rattle.rich_rules.specs.Derivations.{Derives}
use Rattle.rich_rules.specs.Modules.{IsWellTyped, function_demand, function_start, initialiser_demand, initialiser_start, slots_of_locals}
use Rattle.rw_program.specs.declared.linked.LinkedFunc.{LinkedFunc}
use Rattle.rw_program.specs.declared.linked.LinkedGlobal.{LinkedGlobal}
use Rattle.rw_program.specs.Linking.{func_of, global_of}
use Rattle.rw_program.specs.Programs.{Program}
use Rattle.rich_linking.specs.Linked.{File, main_type}

-- the module of each file is well typed, with the notes that are given
abbrev pub AreWellTyped : List File → Type 0
AreWellTyped [] = ⊤
AreWellTyped (f ∷ fs) = IsWellTyped f.1.source f.1.notes × AreWellTyped fs

-- the types of functions, and what globals are to bodies
abbrev pub types_of_functions : List LinkedFunc → List FunType
types_of_functions fs = map (λ (f : LinkedFunc). f.ty) fs

abbrev pub types_of_globals : List LinkedGlobal → List GlobalType
types_of_globals gs = map (λ (g : LinkedGlobal). record { mutable = g.mutable; ty = g.ty }) gs

-- the frame of a body in a program with functions and globals of these types
abbrev pub linked_frame : List FunType → List GlobalType → List ℕ → Owner → Frame
linked_frame functions globals slots owner = record { functions = functions; globals = globals; slots = slots; owner = owner }

-- each body has a derivation with its notes
abbrev pub AreTypedFunctions : List FunType → List GlobalType → List LinkedFunc → Type 0
AreTypedFunctions functions globals [] = ⊤
AreTypedFunctions functions globals (f ∷ fs) = Derives (linked_frame functions globals (slots_of_locals (func_of f)) OfFunction) (function_demand (func_of f)) (function_start (func_of f)) f.body f.notes × AreTypedFunctions functions globals fs

-- and so has each initialiser, from this number of a global on
abbrev pub AreTypedGlobals : List FunType → List GlobalType → ℕ → List LinkedGlobal → Type 0
AreTypedGlobals functions globals n [] = ⊤
AreTypedGlobals functions globals n (g ∷ gs) = Derives (linked_frame functions globals [] (OfGlobal n)) (initialiser_demand (global_of g)) initialiser_start g.body g.notes × AreTypedGlobals functions globals (suc n) gs

-- a typed program, with a main function that takes nothing and gives a number
pub record IsTypedProgram (p : Program) : Type 0 where
  pub functions : AreTypedFunctions (types_of_functions p.funcs) (types_of_globals p.globals) p.funcs
  pub globals : AreTypedGlobals (types_of_functions p.funcs) (types_of_globals p.globals) 0 p.globals
  pub main : slice_get (types_of_functions p.funcs) p.main ≡ Some main_type
