-- The words with which types begin, and what is left behind them (this project's own).
use Rattle.std.specs.Prelude.{ℕ, List, ◌<◌, codes, length}
use Rattle.rich_text.specs.Forms.{pretype_form, type_form, qualifier_form, heap_form}
use Rattle.rich_text.specs.Grammars.{Fields, a_form, done, index, one}
use Rattle.rich_text.specs.Forms.{privilege_form}
use Rattle.rw_parser.specs.Reads.{Gave, Parse, TookHead, a_part, tokens_left}
use Rattle.rw_tokens.specs.declared.symbols.Position.{Position}
use Rattle.rw_types.specs.declared.types.Qual.TheVariants.{Unr, Lin}
use Rattle.rw_type_forms.specs.declared.heads.TypeHead.{TypeHead}
use Rattle.rw_type_forms.specs.declared.heads.TypeHead.TheVariants.{Of, Var, Rec}
use Rattle.rw_type_forms.specs.declared.heads.PretypeHead.{PretypeHead}
use Rattle.rw_type_forms.specs.declared.heads.PretypeHead.TheVariants as pretype
use Rattle.rw_type_forms.specs.declared.heads.PretypeStart.{PretypeStart}
use Rattle.rw_type_forms.specs.declared.heads.PretypeStart.TheVariants.{Whole, Head}
use Rattle.rw_type_forms.specs.declared.heads.HeapHead.{HeapHead}
use Rattle.rw_type_forms.specs.declared.heads.HeapHead.TheVariants as heap

-- the words with which types, pretypes and heap types begin
abbrev pub type_word : TypeHead → List ℕ
type_word (Of Unr) = codes "unr"
type_word (Of Lin) = codes "lin"
type_word Var = codes "var"
type_word Rec = codes "rec"

abbrev pub pretype_word : PretypeHead → List ℕ
pretype_word pretype.Ptr = codes "ptr"
pretype_word pretype.Own = codes "own"
pretype_word pretype.Cap = codes "cap"
pretype_word pretype.Tuple = codes "tuple"
pretype_word pretype.Ref = codes "ref"
pretype_word pretype.Hidden = codes "some"
pretype_word pretype.Code = codes "code"

abbrev pub heap_word : HeapHead → List ℕ
heap_word heap.Struct = codes "struct"
heap_word heap.Variant = codes "variant"
heap_word heap.Array = codes "array"
heap_word heap.Exist = codes "exist"

-- a `(` and this word were taken off
pub record Began (old new : Parse) (w : List ℕ) : Type 0 where
  pub at : Position
  pub head : TookHead old new w at
  pub shorter : length (tokens_left new) < length (tokens_left old)
  pub inside : 0 < new.left.depth

-- a pretype was read, or a `(` and its word were taken off
abbrev pub StartsPretype : Parse → Parse → PretypeStart → Type 0
StartsPretype old new (Whole p) = Gave (a_part (a_form pretype_form)) 0 old new p
StartsPretype old new (Head h) = Began old new (pretype_word h)

-- the fields of forms that bind a type variable: its qualifier and size, and the type under it
abbrev pub bound_fields : Fields
bound_fields = one (a_form qualifier_form) (one index (one (a_form type_form) done))

-- the fields of references and capabilities: what is allowed, the location, and what stands there
abbrev pub located_fields : Fields
located_fields = one (a_form privilege_form) (one index (one (a_form heap_form) done))
