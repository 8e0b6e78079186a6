-- The lines that the tool prints; this project's own.
use Rattle.std.specs.Prelude.{ℕ, List, ◌++◌, Bool, true, false, Option, Some, None, codes, decimal}

abbrev pub words_line : List ℕ
words_line = codes "words\n"

abbrev pub missing_line : List ℕ → List ℕ
missing_line file = codes "missing " ++ (file ++ codes "\n")

abbrev pub too_long_line : List ℕ → List ℕ
too_long_line file = codes "too long " ++ (file ++ codes "\n")

abbrev pub read_fault_line : List ℕ → List ℕ
read_fault_line file = codes "read fault " ++ (file ++ codes "\n")

-- the number of bytes of a piece that were not written, 0 for a create
abbrev pub write_fault_line : ℕ → List ℕ
write_fault_line left = codes "write fault " ++ (decimal left ++ codes "\n")

abbrev pub memory_line : List ℕ
memory_line = codes "no memory\n"

-- a file, a line and a column from 1, and the name of a fault
abbrev pub text_line : List ℕ → ℕ → ℕ → List ℕ → List ℕ
text_line file line column fault =
    codes "text " ++ (file ++ (codes " " ++ (decimal line ++ (codes ":" ++ (decimal column ++ (codes " " ++ (fault ++ codes "\n")))))))

-- a name and the number of bytes created under it
abbrev pub wrote_line : List ℕ → ℕ → List ℕ
wrote_line name count = codes "wrote " ++ (name ++ (codes " " ++ (decimal count ++ codes " bytes\n")))

-- the id of a section whose content is too long
abbrev pub too_many_section_line : ℕ → List ℕ
too_many_section_line id = codes "too many section " ++ (decimal id ++ codes "\n")

-- a file, the number of bytes before a fault, and the name of the fault
abbrev pub malformed_line : List ℕ → ℕ → List ℕ → List ℕ
malformed_line file at fault = codes "malformed " ++ (file ++ (codes " at " ++ (decimal at ++ (codes " " ++ (fault ++ codes "\n")))))

-- the number of a function, or `-` outside functions
abbrev pub function_text : Option ℕ → List ℕ
function_text None = codes "-"
function_text (Some n) = decimal n

-- a file, the function of a violation, its place, and the name of the rule
abbrev pub invalid_line : List ℕ → Option ℕ → ℕ → List ℕ → List ℕ
invalid_line file func at broken =
    codes "invalid " ++ (file ++ (codes " function " ++ (function_text func ++ (codes " at " ++ (decimal at ++ (codes " " ++ (broken ++ codes "\n")))))))

-- a file, and why its module does not start
abbrev pub start_line : List ℕ → List ℕ → List ℕ
start_line file cause = codes "start " ++ (file ++ (codes " " ++ (cause ++ codes "\n")))

-- no file, or a last file that exports no `main`
abbrev pub no_main_line : List ℕ
no_main_line = codes "link no main\n"

-- a name and a number
abbrev pub count_line : List ℕ → ℕ → List ℕ
count_line what count = what ++ (codes " " ++ (decimal count ++ codes "\n"))

abbrev pub yes_or_no : Bool → List ℕ
yes_or_no true = codes "yes"
yes_or_no false = codes "no"

-- a name and yes or no
abbrev pub answer_line : List ℕ → Bool → List ℕ
answer_line what answer = what ++ (codes " " ++ (yes_or_no answer ++ codes "\n"))
