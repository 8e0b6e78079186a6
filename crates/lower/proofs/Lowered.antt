-- The lowered module of a program of one function, part by part.
use Rattle.std.proofs.Common.{◌≡◌, List, [], ap, sym, ◌∙◌, get_or, arith}
use Rattle.rw_program.specs.declared.linked.LinkedFunc.{LinkedFunc}
use Rattle.rw_program.specs.LonePrograms.{IsLoneProgram, lone_func, lone_program}
use Rattle.rw_program.specs.Programs.{Program}
use Rattle.lowering_table.specs.declared.Pages.{Pages}
use Rattle.lowering_table.specs.Modules.{low_module}
use Rattle.lowering_table.proofs.PlainBodies.{low_module-plain}
use Rattle.lower.specs.Lone.{IsLoneFunc, lone_module}
use Rattle.lower.proofs.Derived.{derived_within}

-- the function of such a program
func_of : (p : Program) (fs : List LinkedFunc) (f : LinkedFunc) (h : IsLoneProgram p) → fs ≡ p.funcs → f ≡ get_or fs 0 f → f ≡ lone_func h.body h.notes
func_of p fs f h all at = at ∙ ap (λ (gs : List LinkedFunc). get_or gs 0 f) (all ∙ ap (λ (q : Program). q.funcs) h.is)

pub lone_of : (p : Program) (fs : List LinkedFunc) (f : LinkedFunc) (h : IsLoneProgram p) → fs ≡ p.funcs → f ≡ get_or fs 0 f → IsLoneFunc f
lone_of p fs f h all at = record {
  body = h.body;
  notes = h.notes;
  is = func_of p fs f h all at;
  plain = h.plain;
  within = derived_within 1000 h.body [] h.notes _ h.derived tt h.plain (omega (arith, h.short));
}

-- its lowered module
pub low_module_of : (p : Program) (fs : List LinkedFunc) (f : LinkedFunc) (pages : Pages) (h : IsLoneProgram p) → fs ≡ p.funcs → f ≡ get_or fs 0 f → low_module p pages ≡ lone_module f pages
low_module_of p fs f pages h all at =
    ap (λ (q : Program). low_module q pages) h.is
    ∙ (let l : low_module (lone_program h.body h.notes) pages ≡ lone_module (lone_func h.body h.notes) pages = low_module-plain h.body h.notes pages h.plain in l)
    ∙ ap (λ (g : LinkedFunc). lone_module g pages) (sym (func_of p fs f h all at))
