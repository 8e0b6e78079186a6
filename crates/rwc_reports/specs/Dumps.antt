-- The job of a dump: a line for each count of the module that a binary spells; this project's own.
use Rattle.std.specs.Prelude.{ℕ, List, [], ◌∷◌, length, Bool, is_some, codes}
use Rattle.std.specs.Str.{bytes_eq}
use Rattle.wasm_ast.specs.declared.modules.WModule.{WModule}
use Rattle.wasm_grammar.specs.CanonicalModules.{module_bytes}
use Rattle.rwc_reports.specs.Jobs.{Job, lines_job}
use Rattle.rwc_reports.specs.Lines.{count_line, answer_line}

-- the counts of a module, whether it has a start function, and whether it was read from its canonical bytes
abbrev pub dump_lines : WModule → Bool → List (List ℕ)
dump_lines m canonical =
    count_line (codes "types") (length m.types)
    ∷ count_line (codes "imports") (length m.imports)
    ∷ count_line (codes "functions") (length m.funcs)
    ∷ count_line (codes "tables") (length m.tables)
    ∷ count_line (codes "memories") (length m.memories)
    ∷ count_line (codes "globals") (length m.globals)
    ∷ count_line (codes "exports") (length m.exports)
    ∷ answer_line (codes "start") (is_some m.start)
    ∷ count_line (codes "elements") (length m.elements)
    ∷ count_line (codes "segments") (length m.segments)
    ∷ answer_line (codes "canonical") canonical
    ∷ []

-- the lines of bytes that spell a module
abbrev pub module_lines : List ℕ → WModule → List (List ℕ)
module_lines bytes m = dump_lines m (bytes_eq bytes (module_bytes m))

-- the job of dumping them
abbrev pub dump_job : List ℕ → WModule → Job
dump_job bytes m = lines_job (module_lines bytes m) 0
