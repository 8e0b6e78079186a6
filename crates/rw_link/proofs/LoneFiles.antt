-- The program of a file of one function, from the function and the notes that were taken off its lists.
use Rattle.std.proofs.Common.{◌≡◌, ℕ, List, [], ◌∷◌, ◌++◌, Option, Some, length, drop, codes, sym, ap, ◌∙◌, subst}
use Rattle.rw_types.specs.declared.modules.FuncDef.{FuncDef}
use Rattle.rw_types.specs.declared.modules.GlobalDef.{GlobalDef}
use Rattle.rw_types.specs.declared.modules.Module.{Module}
use Rattle.rich_typing.specs.declared.notes.Note.{Note}
use Rattle.rich_typing.specs.Derivations.{IsTyped, HaveDerivations}
use Rattle.rw_program.specs.declared.linked.LinkedFunc.{LinkedFunc}
use Rattle.rw_program.specs.declared.linked.LinkedGlobal.{LinkedGlobal}
use Rattle.rw_program.specs.Linking.{exported, linked_funcs, linked_globals, program_of, program_with}
use Rattle.rw_program.specs.Modules.{TypedModule}

-- the last of a list of one
only : {A : Type 0} (xs : List A) {x y : A} → x ∷ [] ≡ xs ++ y ∷ [] → x ≡ y
only [] e = cc
only (z ∷ []) e = cc
only (z ∷ w ∷ xs) e = cc

noted_once : (f : FuncDef) (all ns : List (List Note)) {notes : List Note} → HaveDerivations (f ∷ []) all → all ≡ ns ++ notes ∷ [] → all ≡ notes ∷ []
noted_once f [] ns h e = absurd h
noted_once f (n ∷ []) ns h e = ap (λ (m : List Note). m ∷ []) (only ns e)
noted_once f (n ∷ m ∷ more) ns h e = absurd h.1

pub file_program : (file : TypedModule) (fs : List FuncDef) (f : FuncDef) (ns : List (List Note)) (notes : List Note) (main : ℕ) → IsTyped file.source file.notes → file.source.funcs ≡ fs ++ f ∷ [] → file.notes ≡ ns ++ notes ∷ [] → exported (codes "main") file.source.exports ≡ Some main → program_of file ≡ Some (record { funcs = record { file = 0; ty = f.ty; locals = f.locals; body = f.body; notes = notes } ∷ []; globals = []; main = main })
file_program file fs f ns notes main typed ef en em =
    let linked : List LinkedFunc = record { file = 0; ty = f.ty; locals = f.locals; body = f.body; notes = notes } ∷ [] in
    let lone = ap (λ (m : Module). m.funcs) typed.lone.is in
    let one : file.source.funcs ≡ f ∷ [] = lone ∙ ap (λ (g : FuncDef). g ∷ []) (only fs (sym lone ∙ ef)) in
    let noted : file.notes ≡ notes ∷ [] = noted_once f file.notes ns (subst (λ (gs : List FuncDef). HaveDerivations gs file.notes) one typed.bodies) en in
    let funcs = ap (λ (gs : List FuncDef). linked_funcs 0 gs file.notes) one ∙ ap (λ (all : List (List Note)). linked_funcs 0 (f ∷ []) all) noted in
    let globals = ap (λ (gs : List GlobalDef). linked_globals 0 gs (drop (length file.source.funcs) file.notes)) (ap (λ (m : Module). m.globals) typed.lone.is) in
    ap (λ (l : List LinkedFunc). program_with l (linked_globals 0 file.source.globals (drop (length file.source.funcs) file.notes)) (exported (codes "main") file.source.exports)) funcs
    ∙ ap (λ (l : List LinkedGlobal). program_with linked l (exported (codes "main") file.source.exports)) globals
    ∙ ap (λ (o : Option ℕ). program_with linked [] o) em
