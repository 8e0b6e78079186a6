-- Linked programs are sound. This project's own.
use Rattle.std.specs.Prelude.{◌≡◌, List, [], ◌∷◌, Ok, ⊤}
use Rattle.rw_types.specs.declared.modules.FuncDef.{FuncDef}
use Rattle.rw_types.specs.declared.modules.GlobalDef.{GlobalDef}
use Rattle.rw_program.specs.Programs.{Program}
use Rattle.rich_linking.specs.Linked.{File, linked}
use Rattle.rich_linking.specs.TypedPrograms.{AreWellTyped}
use Rattle.rich_soundness_points.specs.Programs.{AllFit, IsSound}

-- the constants in the bodies of functions, and of globals, are within the widths of their types
abbrev pub FunctionsFit : List FuncDef → Type 0
FunctionsFit [] = ⊤
FunctionsFit (f ∷ fs) = AllFit f.body × FunctionsFit fs

abbrev pub GlobalsFit : List GlobalDef → Type 0
GlobalsFit [] = ⊤
GlobalsFit (g ∷ gs) = AllFit g.body × GlobalsFit gs

-- and of files
abbrev pub AreFit : List File → Type 0
AreFit [] = ⊤
AreFit (f ∷ fs) = FunctionsFit f.1.source.funcs × GlobalsFit f.1.source.globals × AreFit fs

-- the program that such well-typed files link to is sound
abbrev pub LinkedSound : Type 0
LinkedSound = (files : List File) (p : Program) → AreWellTyped files → AreFit files → linked files ≡ Ok p → IsSound p
