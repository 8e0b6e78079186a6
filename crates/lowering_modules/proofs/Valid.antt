-- A lowered module is valid, and calls through types are listed.
use Rattle.lowering_modules.specs.Laws.{CallsAreListed, LowModuleIsValid}
use Rattle.lowering_modules.proofs.Codes.{codes_typed, function_listed}
use Rattle.lowering_modules.proofs.Fields.{before_codes, behind_codes}

pub module_is_valid : LowModuleIsValid
module_is_valid codes_of p pages typed types bodies are allocators = record {
  before = before_codes codes_of p pages are;
  codes = codes_typed codes_of p pages typed types bodies allocators;
  behind = behind_codes codes_of p pages;
}

pub calls_are_listed : CallsAreListed
calls_are_listed codes_of p pages n f e = function_listed codes_of p pages n f e
