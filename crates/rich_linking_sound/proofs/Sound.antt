-- The program that well-typed files link to is sound.
use Rattle.std.proofs.Common.{◌≡◌, ℕ, List, [], Bool, true, false, None, Option, Some, cond, subst}
use Rattle.std.specs.Prelude.{Ok, Err}
use Rattle.rw_program.specs.Programs.{Program}
use Rattle.rich_rules.specs.Equality.{same_function}
use Rattle.rich_linking.specs.Linked.{File, LinkedFields, MainType, Target, linked, linked_apart, linked_from, main_of, main_type, twice_named, with_main}
use Rattle.rich_linking.specs.TypedPrograms.{AreWellTyped}
use Rattle.rich_linking_laws.proofs.Found.{answered}
use Rattle.rich_linking_laws.proofs.Files.{linked_typed}
use Rattle.rich_linking_sound.specs.Laws.{AreFit, LinkedSound}
use Rattle.rich_linking_sound.proofs.Fields.{AreFine, FineFunctions, FineGlobals, fields_fine, function_is, global_is}

-- the functions and the globals of a program
abbrev IsFine : Program → Type 0
IsFine p = FineFunctions p.funcs × FineGlobals p.globals

with_main_fine : (fields : LinkedFields) (o : Option Target) (p : Program) → AreFine fields → with_main fields o ≡ Ok p → IsFine p
with_main_fine fields None p h e = cc
with_main_fine fields (Some t) p h e = by_test (same_function t.ty main_type) e
  where
    by_test : (b : Bool) → cond b (Ok (record { funcs = fields.funcs; globals = fields.globals; main = t.number })) (Err MainType) ≡ Ok p → IsFine p
    by_test false e = cc
    by_test true e = let whole : record { funcs = fields.funcs; globals = fields.globals; main = t.number } ≡ p = cc in subst IsFine whole (h.0, h.1)

linked_fine : (files : List File) (p : Program) → AreWellTyped files → AreFit files → linked files ≡ Ok p → IsFine p
linked_fine files p w h e = apart (twice_named [] files) e
  where
    apart : (o : Option (ℕ × ℕ)) → linked_apart files o ≡ Ok p → IsFine p
    apart (Some pair) e = cc
    apart None e =
        let fields = answered (linked_from files 0 files) _ p e in
        with_main_fine fields.0 (main_of files 0 files) p (fields_fine files 0 files fields.0 w h fields.1) fields.2

pub linked_sound : LinkedSound
linked_sound files p w h e =
    let f = linked_fine files p w h e in
    record {
      typed = linked_typed files p w e;
      function_types = λ n x s. (function_is p.funcs n x f.0 s).0;
      global_types = λ n x s. (global_is p.globals n x f.1 s).0;
      functions_fit = λ n x s. (function_is p.funcs n x f.0 s).1;
      globals_fit = λ n x s. (global_is p.globals n x f.1 s).1;
    }
