-- A well-formed type has at most 10,000 words.
use Rattle.std.proofs.Common.{◌≤◌, Option, Some, None}
use Rattle.std.specs.Option.{IsSomeAnd}
use Rattle.rw_types.specs.declared.types.Mem.{Mem}
use Rattle.rw_types.specs.declared.types.Heap.{Heap, Struct', Variant', Array', Exist'}
use Rattle.rw_types.specs.declared.types.Ty.{Ty, Of, Var, Rec', end_of-Ty, more_of-Ty}
use Rattle.rich_types.specs.declared.variables.VariableKind.{VariableKind}
use Rattle.rich_types.specs.Scopes.{Scope, variable_of}
use Rattle.rich_types.specs.Sizes.{size_under, variable_size, heap_words}
use Rattle.rich_types.specs.WellFormed.{most_words, IsWellFormed, IsWellFormedHeap}

variable_size-bounded : (o : Option VariableKind) → IsSomeAnd o (λ k. k.size ≤ most_words) → variable_size o ≤ most_words
variable_size-bounded (Some k) h = h
variable_size-bounded None h = absurd h

pub size-well_formed : (c : Scope) (t : Ty) → IsWellFormed c t → size_under c t ≤ most_words
size-well_formed c (Of q p) h = h.0
size-well_formed c (Var n) h = variable_size-bounded (variable_of c n) h
size-well_formed c (Rec' q s a (more_of-Ty t end_of-Ty)) h = h.0

-- and what stands at a location as many
pub words-well_formed : (c : Scope) (m : Mem) (h : Heap) → IsWellFormedHeap c m h → heap_words c h ≤ most_words
words-well_formed c m (Struct' n ss) h = h.0
words-well_formed c m (Variant' n ts) h = h.0
words-well_formed c m (Array' a (more_of-Ty t end_of-Ty)) h = h.0
words-well_formed c m (Exist' q s a (more_of-Ty t end_of-Ty)) h = h.0
