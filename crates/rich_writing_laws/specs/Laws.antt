-- What holds of canonical texts (this project's own).
use Rattle.std.specs.Prelude.{◌≡◌, ℕ, List, ◌++◌, codes, Ok}
use Rattle.rw_types.specs.declared.modules.Module.{Module}
use Rattle.rw_types.specs.declared.types.FunType.{FunType}
use Rattle.rw_types.specs.declared.types.Ty.{Ty}
use Rattle.rich_text.specs.Forms.{module_form, type_form, function_type_form}
use Rattle.rich_text.specs.Grammars.{a_form}
use Rattle.rich_text.specs.Canonical.{tokens_of}
use Rattle.rich_text.specs.Layout.{laid_out, canonical_text}
use Rattle.rich_text.specs.FirstVersion.{first_version}
use Rattle.rich_text.specs.Views.{views}
use Rattle.rich_text.specs.Texts.{Spells, reading}
use Rattle.rich_text.specs.Writable.{CanWrite, IsWritable}
use Rattle.rich_writing.specs.Types.{type_text, function_type_text}
use Rattle.rich_writing.specs.Modules.{module_text}

-- a module in which no more than so many lists nest: its tokens, laid out
abbrev pub ModuleIsLaidOut : Type 0
ModuleIsLaidOut = (n : ℕ) (m : Module) → CanWrite first_version views n (a_form module_form) m → module_text m ≡ laid_out 0 (tokens_of first_version views n (a_form module_form) m)

-- a type alone: its tokens as they are laid out inside a field, where two lists are open and no line ends
abbrev pub TypeIsLaidOut : Type 0
TypeIsLaidOut = (n : ℕ) (t : Ty) → CanWrite first_version views n (a_form type_form) t → type_text t ++ codes "\n" ≡ laid_out 2 (tokens_of first_version views n (a_form type_form) t)

abbrev pub FunctionTypeIsLaidOut : Type 0
FunctionTypeIsLaidOut = (n : ℕ) (f : FunType) → CanWrite first_version views n (a_form function_type_form) f → function_type_text f ++ codes "\n" ≡ laid_out 2 (tokens_of first_version views n (a_form function_type_form) f)

-- a module that nests no deeper than a text may
abbrev pub WrittenIsCanonical : Type 0
WrittenIsCanonical = (m : Module) → IsWritable m → module_text m ≡ canonical_text m

-- its text spells it and no other
abbrev pub WrittenSpells : Type 0
WrittenSpells = (m : Module) → IsWritable m → Spells (module_text m) m × ((other : Module) → Spells (module_text m) other → m ≡ other)

-- and is read as it
abbrev pub WrittenIsRead : Type 0
WrittenIsRead = (m : Module) → IsWritable m → reading (module_text m) ≡ Ok m

-- what was read is read again from its canonical text
abbrev pub WrittenIsReadAgain : Type 0
WrittenIsReadAgain = (bytes : List ℕ) (m : Module) → reading bytes ≡ Ok m → reading (module_text m) ≡ Ok m
