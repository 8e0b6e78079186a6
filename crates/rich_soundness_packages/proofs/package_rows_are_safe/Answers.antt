use Rattle.rich_soundness_packages.proofs.Packages.{package_rows}
use Rattle.rich_soundness_packages.proofs.package_rows_are_safe.Goals as goal

pub returns : goal.returns
returns c = package_rows
