-- What a section's answer tells, and what its context holds of the module.
use Rattle.std.proofs.Common.{◌≡◌, ◌∙◌, ℕ, ◌+◌, ◌-◌, ◌≤◌, ◌<◌, List, [], ◌∷◌, Option, None, Result, Err, length, get_or, map, take, drop, refl, sym, ap, subst, suc, zero, arith, length-append, drop-cons, add-one}
use Rattle.std.specs.Bool.{⊤}
use Rattle.std.proofs.Math.Seq.{take-append_seam}
use Rattle.std.proofs.lemmas.List.{length-map}
use Rattle.wasm_ast.specs.declared.modules.WModule.{WModule}
use Rattle.wasm_typing.specs.declared.context.Context.{Context}
use Rattle.wasm_typing.specs.declared.context.GlobalType.{GlobalType}
use Rattle.wasm_typing.specs.Contexts.{context_of, imported_globals, imported_memories, imported_tables, type_of_global}
use Rattle.wasm_typing.specs.Modules.{Fault, earliest}
use Rattle.wasm_fields.specs.Answers.{Tells}
use Rattle.wasm_fields.specs.Sections.{section_fault}
use Rattle.wasm_fields.specs.declared.section.Section.{Section}
use Rattle.wasm_fields.specs.declared.error.FieldError.{FieldError}
use Rattle.wasm_fields.specs.declared.error.FieldError.TheVariants.{Invalid, Memory}

pub tells_as : {o o' : Option Fault} (r : Result ⊤ FieldError) → o ≡ o' → Tells o' r → Tells o r
tells_as {o} {o'} r e t = subst (λ (p : Option Fault). Tells p r) (sym e) t

pub imports_tables : (c : Context) (m : WModule) (k : ℕ) → c ≡ context_of m → k ≡ length m.tables → imported_tables m.imports ≡ c.tables - k
imports_tables c m k e ek = let t = ap (λ (x : Context). x.tables) e in omega (arith, t, ek)

pub imports_memories : (c : Context) (m : WModule) (k : ℕ) → c ≡ context_of m → k ≡ length m.memories → imported_memories m.imports ≡ c.memories - k
imports_memories c m k e ek = let t = ap (λ (x : Context). x.memories) e in omega (arith, t, ek)

pub globals_length : (c : Context) (m : WModule) → c ≡ context_of m → length c.globals ≡ length (imported_globals m.imports) + length m.globals
globals_length c m e =
    ap (λ (x : Context). length x.globals) e
    ∙ length-append (imported_globals m.imports) (map type_of_global m.globals)
    ∙ ap (λ (n : ℕ). length (imported_globals m.imports) + n) (length-map m.globals type_of_global)

pub imports_globals : (c : Context) (m : WModule) (gs : List GlobalType) (n : ℕ) → c ≡ context_of m → gs ≡ c.globals → n ≡ length c.globals - length m.globals → imported_globals m.imports ≡ take n gs
imports_globals c m gs n e eg en =
    let size : length (imported_globals m.imports) ≡ n = omega (arith, globals_length c m e, en) in
    sym (ap (λ (k : ℕ). take k gs) (sym size)
    ∙ ap (λ (xs : List GlobalType). take (length (imported_globals m.imports)) xs) (eg ∙ ap (λ (x : Context). x.globals) e)
    ∙ take-append_seam (imported_globals m.imports) (map type_of_global m.globals))

module _ (m : WModule) where
  -- the first fault of these sections
  abbrev pub fault_of : List Section → Option Fault
  fault_of ss = earliest (map (section_fault m) ss)

  on_first : (s : Section) (ss : List Section) (e : FieldError) → Tells (section_fault m s) (Err e) → Tells (fault_of (s ∷ ss)) (Err e)
  on_first s ss (Invalid at rule) t = ap (λ (o : Option Fault). earliest (o ∷ map (section_fault m) ss)) t
  on_first s ss Memory t = tt

  parted : (ss : List Section) (i : ℕ) (d s : Section) → i < length ss → s ≡ get_or ss i d → drop i ss ≡ s ∷ drop (i + 1) ss
  parted ss i d s lt e = rw add-one (drop-cons ss i d lt ∙ ap (λ (x : Section). x ∷ drop (suc i) ss) (sym e))

  pub section_refused : (ss : List Section) (i : ℕ) (d s : Section) (e : FieldError) → i < length ss → s ≡ get_or ss i d → Tells (section_fault m s) (Err e) → Tells (fault_of (drop i ss)) (Err e)
  section_refused ss i d s e lt es t = tells_as (Err e) (ap fault_of (parted ss i d s lt es)) (on_first s (drop (i + 1) ss) e t)

  pub section_passed : (ss : List Section) (i : ℕ) (d s : Section) → i < length ss → s ≡ get_or ss i d → section_fault m s ≡ None → fault_of (drop i ss) ≡ fault_of (drop (i + 1) ss)
  section_passed ss i d s lt es t = ap fault_of (parted ss i d s lt es) ∙ ap (λ (o : Option Fault). earliest (o ∷ map (section_fault m) (drop (i + 1) ss))) t

  pub sections_done : (ss : List Section) (i : ℕ) → length ss ≤ i → fault_of (drop i ss) ≡ None
  sections_done ss i past = ap fault_of (all_dropped ss i past)
    where
      all_dropped : (ys : List Section) (n : ℕ) → length ys ≤ n → drop n ys ≡ []
      all_dropped [] zero h = refl
      all_dropped [] (suc n) h = refl
      all_dropped (y ∷ ys) zero h = absurd (omega arith)
      all_dropped (y ∷ ys) (suc n) h = let g : length ys ≤ n = omega arith in all_dropped ys n g
