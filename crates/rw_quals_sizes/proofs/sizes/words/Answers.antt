-- The words of a struct are those of its slots, and the words of a package those of its body.
use Rattle.rw_quals_sizes.proofs.Bodies.{exist_words, struct_words}
use Rattle.rw_quals_sizes.proofs.sizes.words.Goals as goal

pub returns-in-Struct : goal.returns-in-Struct
returns-in-Struct c = struct_words _ _ _ _ _ c.as_slice.ensures.items c.words_of_slots.ensures c.in-Struct.is

pub returns-in-Exist : goal.returns-in-Exist
returns-in-Exist c = exist_words _ _ _ _ _ c.get-in-Exist.ensures c.size-in-Exist.ensures _ _ _ c.in-Exist.is c.inside.ensures
