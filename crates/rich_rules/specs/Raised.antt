-- What stands outside a binder, as it is seen inside; and lists of types with arguments put in. This project's own.
use Rattle.std.specs.Prelude.{List, [], ◌∷◌, ◌++◌}
use Rattle.rw_types.specs.declared.types.Arg.{Arg}
use Rattle.rw_types.specs.declared.types.Binder.{Binder}
use Rattle.rw_types.specs.declared.types.Ty.{Ty}
use Rattle.rich_types.specs.declared.depth.Depth.{Depth}
use Rattle.rich_types.specs.Walks.{outside, below, walk_list}
use Rattle.rich_types.specs.Instances.{raising, substituting, substitution_of}
use Rattle.rich_rules.specs.Points.{Label, Point}

-- one location more
abbrev pub one_location : Depth
one_location = record { locations = 1; variables = 0 }

-- below one binder
abbrev pub below_one : Binder → Depth
below_one b = below (b ∷ []) outside

-- types where so many binders more stand around them
abbrev pub raise_all : Depth → List Ty → List Ty
raise_all by ts = walk_list (raising by) outside ts

-- types with these arguments put in
abbrev pub instances : List Arg → List Ty → List Ty
instances args ts = walk_list (substituting (substitution_of args)) outside ts

-- a label where so many binders more stand around it
abbrev pub raise_label : Depth → Label → Label
raise_label by l = record { types = raise_all by l.types; locals = raise_all by l.locals; rest = raise_all by l.rest }

-- labels
abbrev pub raise_labels : Depth → List Label → List Label
raise_labels by [] = []
raise_labels by (l ∷ ls) = raise_label by l ∷ raise_labels by ls

-- a point without operands below one binder more
abbrev pub entered : Binder → Point → Point
entered b p = record {
  binders = p.binders ++ b ∷ [];
  locals = raise_all (below_one b) p.locals;
  labels = raise_labels (below_one b) p.labels;
  results = raise_all (below_one b) p.results;
  operands = [];
}
