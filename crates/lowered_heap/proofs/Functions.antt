-- The allocators of a lowered module.
use Rattle.std.proofs.Common.{◌≡◌, ◌∙◌, Bool, true, false, refl, ap}
use Rattle.std.specs.Prelude.{Option, Some, None, ◌&&◌}
use Rattle.wasm_ast.specs.SameTypes.{is_same_type}
use Rattle.wasm_ast.specs.declared.types.FuncType.{FuncType}
use Rattle.wasm_ast.specs.declared.modules.Code.{Code}
use Rattle.wasm_execution.specs.Environments.{Environment, Function, environment_of, function_at}
use Rattle.allocator_contract.specs.Contract.{alloc_type, free_type}
use Rattle.rw_program.specs.Programs.{Program}
use Rattle.lowering_table.specs.declared.Pages.{Pages}
use Rattle.lowering_table.specs.Allocators.{Allocators}
use Rattle.lowering_modules.specs.Modules.{lowered_module}
use Rattle.lowering_modules.proofs.Types.{alloc_stands, print_stands}
use Rattle.lowered_heap.specs.Laws.{FirstIsAllocator, SecondIsAllocator, ThirdIsAllocator}

-- a function by its type, where that was found
abbrev found_with : Option Code → Option FuncType → Option Function
found_with code o = elim o [ None ↦ None | Some t ↦ Some (record { ty = t; code = code }) ]

-- whether a function that was found has a type
abbrev found_is : FuncType → Option Function → Bool
found_is ty o = elim o [ None ↦ false | Some f ↦ is_same_type f.ty ty ]

module _ (codes_of : Allocators) (p : Program) (pages : Pages) where
  abbrev e : Environment
  e = environment_of (lowered_module codes_of p pages)

  pub first : function_at e 1 ≡ Some (record { ty = alloc_type; code = Some codes_of.alloc_lin })
  first = ap (found_with (Some codes_of.alloc_lin)) (alloc_stands p)

  pub second : function_at e 2 ≡ Some (record { ty = free_type; code = Some codes_of.free_lin })
  second = ap (found_with (Some codes_of.free_lin)) (print_stands p)

  pub third : function_at e 3 ≡ Some (record { ty = alloc_type; code = Some codes_of.alloc_unr })
  third = ap (found_with (Some codes_of.alloc_unr)) (alloc_stands p)

  pub told : e.has_allocators ≡ true
  told =
      ap (λ (o : Option Function). found_is alloc_type o && (found_is free_type (function_at e 2) && found_is alloc_type (function_at e 3))) first
      ∙ ap (λ (o : Option Function). found_is free_type o && found_is alloc_type (function_at e 3)) second
      ∙ ap (found_is alloc_type) third

pub first_is_allocator : FirstIsAllocator
first_is_allocator codes_of p pages = record { told = told codes_of p pages; trap_code = refl; function = first codes_of p pages }

pub second_is_allocator : SecondIsAllocator
second_is_allocator codes_of p pages = record { told = told codes_of p pages; trap_code = refl; function = second codes_of p pages }

pub third_is_allocator : ThirdIsAllocator
third_is_allocator codes_of p pages = record { told = told codes_of p pages; trap_code = refl; function = third codes_of p pages }
