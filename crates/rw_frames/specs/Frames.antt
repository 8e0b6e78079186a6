-- The frame of a body that code sees. This project's own.
use Rattle.std.specs.Prelude.{◌++◌, Option, Some, None, map}
use Rattle.rw_types.specs.declared.modules.FuncDef.{FuncDef}
use Rattle.rw_types.specs.declared.modules.GlobalDef.{GlobalDef}
use Rattle.rw_types.specs.declared.modules.ImportDef.{ImportDef}
use Rattle.rich_rules.specs.Points as points
use Rattle.rw_frames.specs.declared.frames.Frame.{Frame}
use Rattle.rw_frames.specs.declared.frames.Owner.{Owner}
use Rattle.rw_frames.specs.declared.frames.Owner.TheVariants.{OfFunction, OfGlobal}

-- whose body it is
abbrev pub owner_seen : Owner → points.Owner
owner_seen OfFunction = points.OfFunction
owner_seen (OfGlobal n) = points.OfGlobal n

-- what a global is to bodies
abbrev pub global_seen : GlobalDef → points.GlobalType
global_seen g = record { mutable = g.mutable; ty = g.ty }

-- and one that there may be
abbrev pub found_global : Option GlobalDef → Option points.GlobalType
found_global (Some g) = Some (global_seen g)
found_global None = None

-- the frame: the functions are the imports, and then those that the module defines
abbrev pub frame_seen : Frame → points.Frame
frame_seen f = record {
  functions = map (λ (i : ImportDef). i.ty) f.imports.now ++ map (λ (d : FuncDef). d.ty) f.funcs.now;
  globals = map (λ (g : GlobalDef). record { mutable = g.mutable; ty = g.ty }) f.globals.now;
  slots = f.slots.now;
  owner = owner_seen f.owner;
}
