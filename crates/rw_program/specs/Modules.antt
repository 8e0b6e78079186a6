-- A module beside the notes of its bodies. This project's own.
use Rattle.std.specs.Prelude.{List}
use Rattle.rw_types.specs.declared.modules.Module.{Module}
use Rattle.rich_typing.specs.declared.notes.Note.{Note}

-- what a checked module is seen as
pub record TypedModule : Type 0 where
  pub source : Module
  pub notes : List (List Note)
