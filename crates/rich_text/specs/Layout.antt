-- The canonical text of tokens: one space between forms, none behind `(` or before `)`; the module's version, each of its fields and
-- its `)` end a line (this project's own).
use Rattle.std.specs.Prelude.{ℕ, suc, ◌-◌, ◌==◌, Bool, true, false, if◌then◌else◌, List, [], ◌∷◌, ◌++◌}
use Rattle.rw_types.specs.declared.modules.Module.{Module}
use Rattle.rich_text.specs.Forms.{module_form}
use Rattle.rich_text.specs.Tokens.{Token, Opening, Closing, Word, Quoted, nesting_limit}
use Rattle.rich_text.specs.Grammars.{a_form}
use Rattle.rich_text.specs.Canonical.{tokens_of}
use Rattle.rich_text.specs.FirstVersion.{first_version}
use Rattle.rich_text.specs.Views.{views}

-- the bytes of a token
abbrev pub bytes_of : Token → List ℕ
bytes_of Opening = 40 ∷ []
bytes_of Closing = 41 ∷ []
bytes_of (Word w) = w
bytes_of (Quoted n) = 34 ∷ (n ++ 34 ∷ [])

-- how many lists are open behind a token
abbrev pub open_behind : Token → ℕ → ℕ
open_behind Opening depth = suc depth
open_behind Closing depth = depth - 1
open_behind (Word w) depth = depth
open_behind (Quoted n) depth = depth

-- whether a line ends before a token: of the module's own list, where this one is a field or the list's end
abbrev pub ends_line : ℕ → Token → Bool
ends_line depth Opening = depth == 1
ends_line depth Closing = depth == 1
ends_line depth (Word w) = false
ends_line depth (Quoted n) = false

-- whether it is a `)`
abbrev pub is_closing : Token → Bool
is_closing Closing = true
is_closing Opening = false
is_closing (Word w) = false
is_closing (Quoted n) = false

-- whether two tokens touch
abbrev pub touches : Token → Token → Bool
touches Opening u = true
touches Closing u = is_closing u
touches (Word w) u = is_closing u
touches (Quoted n) u = is_closing u

-- what stands between two tokens, where so many lists are open between them
abbrev pub gap : ℕ → Token → Token → List ℕ
gap depth t u = if ends_line depth u then 10 ∷ [] else (if touches t u then [] else 32 ∷ [])

-- tokens in a text, before which so many lists are open
abbrev pub laid_out : ℕ → List Token → List ℕ
laid_out depth [] = []
laid_out depth (t ∷ []) = bytes_of t ++ 10 ∷ []
laid_out depth (t ∷ u ∷ ts) = bytes_of t ++ (gap (open_behind t depth) t u ++ laid_out (open_behind t depth) (u ∷ ts))

-- the canonical text of a module
abbrev pub canonical_text : Module → List ℕ
canonical_text m = laid_out 0 (tokens_of first_version views nesting_limit (a_form module_form) m)
