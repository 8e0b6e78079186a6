-- The content of a section is no longer than the canonical bytes of its module: it stands in them, or is one byte, the
-- count of no entries, where the section is left out.
use Rattle.std.proofs.Common.{◌≡◌, ap, ℕ, ◌+◌, ◌<◌, ◌≤◌, List, [], ◌∷◌, ◌++◌, length, sym, subst, arith, length-append}
use Rattle.std.proofs.lemmas.Bool.{cond-false, ne_eqb}
use Rattle.std.specs.Prelude.{Bool, true, false, Option, Some, None, ◌==◌, if◌then◌else◌}
use Rattle.wasm_leb.specs.Leb.{unsigned_least}
use Rattle.wasm_ast.specs.declared.modules.WModule.{WModule}
use Rattle.wasm_grammar.specs.CanonicalTypes.{vector_bytes, func_type_bytes, limits_bytes, table_type_bytes}
use Rattle.wasm_grammar.specs.CanonicalModules.{import_bytes, global_bytes, export_bytes, element_bytes, code_bytes, segment_bytes, content_of, section_bytes, section_of, start_bytes, start_section, preamble, module_bytes}

-- a content is at most eight bytes longer than these bytes
record IsHeld (content bytes : List ℕ) : Type 0 where
  pub most : length content ≤ 8 + length bytes

in_section : (id : ℕ) (content : List ℕ) → IsHeld content (section_bytes id content)
in_section id content = record { most = omega (arith, length-append (unsigned_least 5 (length content)) content) }

in_vector : {X : Type 0} (id : ℕ) (entry : X → List ℕ) (xs : List X) → IsHeld (vector_bytes entry xs) (section_of id xs (vector_bytes entry xs))
unfolding section_of
in_vector id entry [] = record { most = omega arith }
in_vector id entry (x ∷ xs) =
    let some : length (x ∷ xs) ≡ 0 → ⊥ = λ e. omega arith in
    let content = vector_bytes entry (x ∷ xs) in
    let e = cond-false (length (x ∷ xs) == 0) [] (section_bytes id content) (ne_eqb (length (x ∷ xs)) 0 some) in
    subst (λ (bytes : List ℕ). IsHeld content bytes) (sym e) (in_section id content)

in_start : (s : Option ℕ) → IsHeld (start_bytes s) (start_section s)
unfolding start_section
in_start None = record { most = omega arith }
in_start (Some n) = in_section 8 (unsigned_least 5 n)

-- a content of the first section, or of those behind it
next : {x y front back : List ℕ} (b : Bool) → IsHeld x front → IsHeld y back → IsHeld (if b then x else y) (front ++ back)
next {x} {y} {front} {back} true h k = record { most = omega (arith, h.most, length-append front back) }
next {x} {y} {front} {back} false h k = record { most = omega (arith, k.most, length-append front back) }

last : {x bytes : List ℕ} (b : Bool) → IsHeld x bytes → IsHeld (if b then x else []) bytes
last true h = h
last false h = record { most = omega arith }

behind_preamble : {content rest : List ℕ} → IsHeld content rest → length content ≤ length (preamble ++ rest)
behind_preamble {content} {rest} h = omega (arith, h.most, length-append preamble rest)

pub content-length : (m : WModule) (id : ℕ) → length (content_of id m) ≤ length (module_bytes m)
content-length m id =
    behind_preamble
    (next (id == 1) (in_vector 1 func_type_bytes m.types)
    (next (id == 2) (in_vector 2 import_bytes m.imports)
    (next (id == 3) (in_vector 3 (unsigned_least 5) m.funcs)
    (next (id == 4) (in_vector 4 table_type_bytes m.tables)
    (next (id == 5) (in_vector 5 limits_bytes m.memories)
    (next (id == 6) (in_vector 6 global_bytes m.globals)
    (next (id == 7) (in_vector 7 export_bytes m.exports)
    (next (id == 8) (in_start m.start)
    (next (id == 9) (in_vector 9 element_bytes m.elements)
    (next (id == 10) (in_vector 10 code_bytes m.codes)
    (last (id == 11) (in_vector 11 segment_bytes m.segments))))))))))))

-- bytes that are fewer than those of a content are not the canonical bytes of its module
pub not_canonical : (m : WModule) (id limit : ℕ) (bytes : List ℕ) → limit ≤ length (content_of id m) → length bytes < limit → bytes ≡ module_bytes m → ⊥
not_canonical m id limit bytes long short e =
    let same : length bytes ≡ length (module_bytes m) = ap length e in
    omega (arith, content-length m id, same)
