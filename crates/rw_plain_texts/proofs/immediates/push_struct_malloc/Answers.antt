use Rattle.std.proofs.Common.{◌∙◌, ◌++◌, ℕ, List, ap}
use Rattle.std.specs.Prelude.{codes, decimal, map}
use Rattle.rich_writing.specs.Pieces.{mem_text, spaced}
use Rattle.rw_plain_texts.proofs.Appended.{form_of_many}
use Rattle.rw_plain_texts.proofs.immediates.push_struct_malloc.Goals as goal

pub returns : goal.returns
returns c =
    form_of_many _ _ _ _ _ (codes "(struct.malloc ") (mem_text c.args.memory) (spaced (map decimal c.args.sizes.now)) (codes ")") c.in_ok-extend_from_slice.ensures.items (c.in_ok-extend_from_slice-2.ensures.items ∙ ap (λ (z : List ℕ). c.extend_from_slice.new.self.items ++ z) c.mem_word.ensures) c.in_ok-push_numbers.ensures c.in_ok-push.ensures.items
