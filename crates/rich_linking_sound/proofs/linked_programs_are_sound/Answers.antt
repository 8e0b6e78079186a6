use Rattle.rich_linking_sound.proofs.Sound.{linked_sound}
use Rattle.rich_linking_sound.proofs.linked_programs_are_sound.Goals as goal

pub returns : goal.returns
returns c = linked_sound
