-- The signature of a block, before what is left of its list (this project's own).
use Rattle.std.specs.Prelude.{◌≡◌, ◌<◌, length}
use Rattle.rw_types.specs.declared.instrs.BlockSig.{BlockSig}
use Rattle.rich_text.specs.Forms.{local_types_form, types_form}
use Rattle.rich_text.specs.Grammars.{Fields, a_form, one}
use Rattle.rw_parser.specs.declared.errors.ReadError.{ReadError}
use Rattle.rw_parser.specs.Reads.{Fails, Gave, Parse, a_part, the_fields, tokens_left}

-- a signature's fields, before others
abbrev pub signature_before : Fields → Fields
signature_before f = one (a_form types_form) (one (a_form types_form) (one (a_form local_types_form) f))

-- its three lists were read, one behind the other
pub record TookSignature (old new : Parse) (s : BlockSig) : Type 0 where
  pub behind_params : Parse
  pub behind_results : Parse
  pub params : Gave (a_part (a_form types_form)) 0 old behind_params s.params
  pub results : Gave (a_part (a_form types_form)) 0 behind_params behind_results s.results
  pub locals : Gave (a_part (a_form local_types_form)) 0 behind_results new s.locals
  pub depth : new.left.depth ≡ old.left.depth
  pub shorter : length (tokens_left new) < length (tokens_left old)

-- one of them was not read, whatever fields stand behind
abbrev pub FailsAtSignature : Parse → ReadError → Type 0
FailsAtSignature old e = (f : Fields) → Fails (the_fields (signature_before f)) old e
