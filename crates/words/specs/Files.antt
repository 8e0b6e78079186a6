-- The names of files: which are plain words, and which are those of sources; this project's own.
use Rattle.std.specs.Prelude.{ℕ, ◌-◌, List, [], ◌∷◌, length, take, drop, Bool, false, not, ◌&&◌, if◌then◌else◌, ◌==◌, nat_lt, nat_le, codes}
use Rattle.std.specs.List.{list_any, list_all}
use Rattle.std.specs.Option.{option_map_or}
use Rattle.std.specs.Str.{bytes_eq}
use Rattle.std.specs.declared.option.Option.{Option}
use Rattle.std.specs.declared.option.Option.TheVariants.{None, Some}
use Rattle.rw_types.specs.Names.{is_name_byte}

-- what stands after the last slash
abbrev pub after_last_slash : List ℕ → List ℕ
after_last_slash [] = []
after_last_slash (b ∷ bs) = if list_any (λ c. c == 47) bs then after_last_slash bs else (if b == 47 then bs else b ∷ bs)

-- what stands before `.rich`, where that stands at the end
abbrev pub before_rich : List ℕ → Option (List ℕ)
before_rich part =
    if bytes_eq (drop (length part - 5) part) (codes ".rich") then Some (take (length part - 5) part) else None

-- the name of a file's module: the last part of the file's name, without `.rich`
abbrev pub module_name_of : List ℕ → Option (List ℕ)
module_name_of file = before_rich (after_last_slash file)

-- 1 to 64 bytes that may stand in a module's name
abbrev pub is_module_name : List ℕ → Bool
is_module_name name = nat_lt 0 (length name) && nat_le (length name) 64 && list_all is_name_byte name

-- a name is not empty and does not begin with a dash
abbrev pub is_plain_name : List ℕ → Bool
is_plain_name [] = false
is_plain_name (first ∷ rest) = not (first == 45)

-- a source file does not begin with a dash, and names a module
abbrev pub is_source_file : List ℕ → Bool
is_source_file file = is_plain_name file && option_map_or is_module_name (module_name_of file) false
