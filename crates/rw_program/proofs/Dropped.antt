-- What is linked of a checked module is each of its functions, with its notes; there are no globals so far.
use Rattle.std.proofs.Common.{◌≡◌, List, [], ◌∷◌, ◌++◌, length, drop, map, replicate, refl, ap, sym, subst, ◌∙◌}
use Rattle.rw_types.specs.declared.modules.FuncDef.{FuncDef}
use Rattle.rw_types.specs.declared.modules.GlobalDef.{GlobalDef}
use Rattle.rw_types.specs.declared.modules.Module.{Module}
use Rattle.rich_typing.specs.declared.notes.Note.{Note}
use Rattle.rich_typing.specs.Derivations.{HaveDerivations}
use Rattle.rw_program.specs.declared.linked.LinkedFunc.{LinkedFunc}
use Rattle.rw_program.specs.declared.linked.LinkedGlobal.{LinkedGlobal}
use Rattle.rw_program.specs.Modules.{TypedModule}
use Rattle.rw_program.specs.Linking.{linked_funcs, linked_globals, func_of, LinksEach, NoneDropped}

as_they_are : (fs : List FuncDef) (notes : List (List Note)) → HaveDerivations fs notes → map func_of (linked_funcs 0 fs notes) ≡ fs
as_they_are [] [] h = refl
as_they_are [] (n ∷ ns) h = absurd h
as_they_are (f ∷ fs) [] h = absurd h
as_they_are (f ∷ fs) (n ∷ ns) h = ap (λ (gs : List FuncDef). f ∷ gs) (as_they_are fs ns h.1)

with_notes : (fs : List FuncDef) (notes : List (List Note)) → HaveDerivations fs notes → map (λ (f : LinkedFunc). f.notes) (linked_funcs 0 fs notes) ++ [] ≡ notes
with_notes [] [] h = refl
with_notes [] (n ∷ ns) h = absurd h
with_notes (f ∷ fs) [] h = absurd h
with_notes (f ∷ fs) (n ∷ ns) h = ap (λ (ms : List (List Note)). n ∷ ms) (with_notes fs ns h.1)

of_the_first_file : (fs : List FuncDef) (notes : List (List Note)) → HaveDerivations fs notes → map (λ (f : LinkedFunc). f.file) (linked_funcs 0 fs notes) ++ [] ≡ replicate (length notes) 0
of_the_first_file [] [] h = refl
of_the_first_file [] (n ∷ ns) h = absurd h
of_the_first_file (f ∷ fs) [] h = absurd h
of_the_first_file (f ∷ fs) (n ∷ ns) h = ap (λ (ks : List _). 0 ∷ ks) (of_the_first_file fs ns h.1)

pub none_dropped : NoneDropped
none_dropped file typed =
    let none : file.source.globals ≡ [] = ap (λ (m : Module). m.globals) typed.lone.is in
    let no_globals : linked_globals 0 file.source.globals (drop (length file.source.funcs) file.notes) ≡ [] =
    ap (λ (gs : List GlobalDef). linked_globals 0 gs (drop (length file.source.funcs) file.notes)) none in
    subst (λ (globals : List LinkedGlobal). LinksEach file (linked_funcs 0 file.source.funcs file.notes) globals) (sym no_globals) (record {
      functions = as_they_are file.source.funcs file.notes typed.bodies;
      values = sym none;
      notes = with_notes file.source.funcs file.notes typed.bodies;
      files = of_the_first_file file.source.funcs file.notes typed.bodies;
    })
