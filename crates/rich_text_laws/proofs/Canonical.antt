-- The canonical text of a module that can be written spells it: its tokens are laid out, lexed again, and read by version 1.
use Rattle.std.proofs.Common.{◌≡◌, List, [], refl, sym, subst, append-nil, arith, ◌≤◌, ◌+◌}
use Rattle.rw_types.specs.declared.modules.Module.{Module}
use Rattle.rich_text.specs.Forms.{Form, qualifier_form, memory_form, privilege_form, type_form, types_form, pretype_form, heap_form, slot_form, function_type_form, binder_form, binders_form, local_form, local_types_form, locals_form, instruction_form, argument_form, arm_form, then_form, else_form, function_form, export_form, import_form, global_form, mutability_form, version_form, module_form}
use Rattle.rich_text.specs.Tokens.{Token, nesting_limit}
use Rattle.rich_text.specs.Places.{the_start}
use Rattle.rich_text.specs.Lexing.{lexed}
use Rattle.rich_text.specs.Grammars.{a_form, SpellsPart}
use Rattle.rich_text.specs.Canonical.{tokens_of}
use Rattle.rich_text.specs.Layout.{canonical_text}
use Rattle.rich_text.specs.Writable.{IsWritable}
use Rattle.rich_text.specs.FirstVersion.{first_version}
use Rattle.rich_text.specs.Views.{views}
use Rattle.rich_text.specs.Texts.{Spells, grammar_of}
use Rattle.rich_text_laws.specs.Laws.{CanonicalSpells, CanonicalIsRead}
use Rattle.rich_text_laws.proofs.Encoded.{low_encoded, laid_low}
use Rattle.rich_text_laws.proofs.Headed.{headed}
use Rattle.rich_text_laws.proofs.Laid.{LieWithin, Lexes, relexed}
use Rattle.rich_text_laws.proofs.Made.{made}
use Rattle.rich_text_laws.proofs.Standing.{IsWorded, canonical_lies}
use Rattle.rich_text_laws.proofs.Whole.{one_module, spelled_is_read}
use Rattle.rich_text_laws.proofs.Writing.{canonical_spells}

-- the words of version 1 are words
worded : (s : Form) → IsWorded (first_version s)
worded qualifier_form = record { words = refl; heads = refl }
worded memory_form = record { words = refl; heads = refl }
worded privilege_form = record { words = refl; heads = refl }
worded type_form = record { words = refl; heads = refl }
worded types_form = record { words = refl; heads = refl }
worded pretype_form = record { words = refl; heads = refl }
worded heap_form = record { words = refl; heads = refl }
worded slot_form = record { words = refl; heads = refl }
worded function_type_form = record { words = refl; heads = refl }
worded binder_form = record { words = refl; heads = refl }
worded binders_form = record { words = refl; heads = refl }
worded local_form = record { words = refl; heads = refl }
worded local_types_form = record { words = refl; heads = refl }
worded locals_form = record { words = refl; heads = refl }
worded instruction_form = record { words = refl; heads = refl }
worded argument_form = record { words = refl; heads = refl }
worded arm_form = record { words = refl; heads = refl }
worded then_form = record { words = refl; heads = refl }
worded else_form = record { words = refl; heads = refl }
worded function_form = record { words = refl; heads = refl }
worded export_form = record { words = refl; heads = refl }
worded import_form = record { words = refl; heads = refl }
worded global_form = record { words = refl; heads = refl }
worded mutability_form = record { words = refl; heads = refl }
worded version_form = record { words = refl; heads = refl }
worded module_form = record { words = refl; heads = refl }

abbrev written : Module → List Token
written m = tokens_of first_version views nesting_limit (a_form module_form) m

written_lies : (m : Module) → IsWritable m → LieWithin 0 (written m)
written_lies m f =
    subst (λ ts. LieWithin 0 ts) (append-nil (written m))
    (canonical_lies first_version views made worded nesting_limit (a_form module_form) m f 0 (let e : 0 + nesting_limit ≤ nesting_limit = omega arith in e) [] tt)

written_spells : (m : Module) → IsWritable m → SpellsPart first_version nesting_limit (a_form module_form) m (written m)
written_spells m f = canonical_spells first_version views made headed nesting_limit (a_form module_form) m f

written_lexed : (m : Module) → IsWritable m → Lexes (lexed (canonical_text m)) (written m)
written_lexed m f = relexed 0 the_start (written m) (written_lies m f)

written_version : (m : Module) → grammar_of (written m) ≡ first_version
written_version m = refl

pub canonical_text_spells : (m : Module) → IsWritable m → Spells (canonical_text m) m
canonical_text_spells m f =
    let l = written_lexed m f in
    record {
      encoded = low_encoded the_start (canonical_text m) (laid_low 0 (written m) (written_lies m f));
      ended = l.ending;
      spelled = subst (λ ts. SpellsPart (grammar_of ts) nesting_limit (a_form module_form) m ts) (sym l.tokens) (written_spells m f);
    }

pub canonical_spells_one : CanonicalSpells
canonical_spells_one m f = (canonical_text_spells m f, λ n g. one_module (canonical_text m) m n (canonical_text_spells m f) g)

pub canonical_is_read : CanonicalIsRead
canonical_is_read m f = spelled_is_read (canonical_text m) m (canonical_text_spells m f)
