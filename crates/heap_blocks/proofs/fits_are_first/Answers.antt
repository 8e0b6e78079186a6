use Rattle.heap_blocks.proofs.Fits.{fit_is_first, none_is_small}
use Rattle.heap_blocks.proofs.fits_are_first.Goals as goal

pub returns-clause-first : goal.returns-clause-first
returns-clause-first c = fit_is_first

pub returns-clause-none : goal.returns-clause-none
returns-clause-none c = none_is_small
