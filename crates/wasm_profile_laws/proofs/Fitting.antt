-- Typed bodies with literals that fit: each number fits, and lists are no longer than their bytes.
use Rattle.std.proofs.Common.{◌≡◌, ◌∙◌, ℕ, ◌+◌, ◌^◌, ◌<◌, ◌≤◌, List, [], ◌∷◌, ◌++◌, Option, None, length, refl, ap, sym, subst, arith, length-append}
use Rattle.std.specs.List.{flat_map}
use Rattle.wasm_ast.specs.declared.types.ValTy.{ValTy}
use Rattle.wasm_ast.specs.declared.instructions.WInstr.{WInstr, out-WInstr}
use Rattle.wasm_ast.specs.declared.instructions.WInstr.TheOpen.{WInstr-F}
use Rattle.wasm_ast.specs.Opcodes.{opcode_of}
use Rattle.wasm_ast.specs.Immediates.{Bodies, Body, Immediate, IsPlain, immediate_in, immediate_of}
use Rattle.wasm_ast.specs.Operations.{operation_in}
use Rattle.wasm_grammar.specs.CanonicalInstructions.{immediate_bytes, instruction_bytes}
use Rattle.wasm_grammar.specs.Nesting.{greatest, immediate_nesting, nesting}
use Rattle.wasm_grammar.specs.ProfileInstructions.{InstructionFits, InstructionsFit, more_fit, nested_fits, none_fit, plain_fits, two_arms_fit}
use Rattle.wasm_grammar.proofs.InstructionLayers.{instruction_bytes-layer, nesting-layer}
use Rattle.wasm_typing.specs.declared.context.Context.{Context}
use Rattle.wasm_typing.specs.Signatures.{signature_in}
use Rattle.wasm_typing.specs.Typing.{AreTyped, IsTyped, Labels, block, loop, more, none, one_arm, plain, two_arms}
use Rattle.wasm_profile_laws.specs.Laws.{IsShortContext, TypedBodiesAreInProfile}
use Rattle.wasm_profile_laws.specs.Literals.{HasLiterals, HaveLiterals, LiteralFits, more_literals, nested_literals, no_literals, plain_literals, two_arms_literals}
use Rattle.wasm_profile_laws.proofs.Named.{named}

-- the literals of an instruction, and of the lists in it
own_literals : (x : WInstr) → HasLiterals x → LiteralFits (immediate_of x)
own_literals x (plain_literals p h) = h
own_literals x (nested_literals t xs e h) = subst LiteralFits (sym e) tt
own_literals x (two_arms_literals t xs ys e h k) = subst LiteralFits (sym e) tt

body_literals : (x : WInstr) (t : Option ValTy) (xs : List WInstr) → immediate_of x ≡ Body t xs → HasLiterals x → HaveLiterals xs
body_literals x t xs is (plain_literals p h) = absurd (subst IsPlain is p)
body_literals x t xs is (nested_literals u ys e h) = let same : ys ≡ xs = cc in subst HaveLiterals same h
body_literals x t xs is (two_arms_literals u ys zs e h k) = let same : Bodies u ys zs ≡ Body t xs = sym e ∙ is in cc

bodies_literals : (x : WInstr) (t : Option ValTy) (xs ys : List WInstr) → immediate_of x ≡ Bodies t xs ys → HasLiterals x → HaveLiterals xs × HaveLiterals ys
bodies_literals x t xs ys is (plain_literals p h) = absurd (subst IsPlain is p)
bodies_literals x t xs ys is (nested_literals u zs e h) = let same : Body u zs ≡ Bodies t xs ys = sym e ∙ is in cc
bodies_literals x t xs ys is (two_arms_literals u us vs e h k) =
    let first : us ≡ xs = cc in
    let second : vs ≡ ys = cc in
    (subst HaveLiterals first h, subst HaveLiterals second k)

first_literals : (x : WInstr) (xs ws : List WInstr) → ws ≡ x ∷ xs → HaveLiterals ws → HasLiterals x × HaveLiterals xs
first_literals x xs ws is (no_literals e) = let same : [] ≡ x ∷ xs = sym e ∙ is in cc
first_literals x xs ws is (more_literals y ys e h k) =
    let head : y ≡ x = cc in
    let tail : ys ≡ xs = cc in
    (subst HasLiterals head h, subst HaveLiterals tail k)

-- each instruction has a byte
some_byte : (x : WInstr) → 1 ≤ length (instruction_bytes x)
some_byte x = let same = ap (λ (l : List ℕ). length l) (instruction_bytes-layer x) in omega (arith, same)

no_longer : (xs : List WInstr) → length xs ≤ length (flat_map instruction_bytes xs)
no_longer [] = omega arith
no_longer (x ∷ xs) = omega (arith, length-append (instruction_bytes x) (flat_map instruction_bytes xs), some_byte x, no_longer xs)

-- the bytes of lists in an instruction
body_bytes : (x : WInstr) (t : Option ValTy) (xs : List WInstr) → immediate_of x ≡ Body t xs → length (flat_map instruction_bytes xs) < length (instruction_bytes x)
body_bytes x t xs is =
    let bytes = flat_map instruction_bytes xs in
    let same = ap (λ (l : List ℕ). length l) (instruction_bytes-layer x ∙ ap (λ (i : Immediate WInstr). opcode_of x ∷ immediate_bytes instruction_bytes i) is) in
    omega (arith, same, length-append bytes (0x0B ∷ []))

bodies_bytes : (x : WInstr) (t : Option ValTy) (xs ys : List WInstr) → immediate_of x ≡ Bodies t xs ys → length (flat_map instruction_bytes xs) + length (flat_map instruction_bytes ys) < length (instruction_bytes x)
bodies_bytes x t xs ys is =
    let one = flat_map instruction_bytes xs in
    let other = flat_map instruction_bytes ys in
    let same = ap (λ (l : List ℕ). length l) (instruction_bytes-layer x ∙ ap (λ (i : Immediate WInstr). opcode_of x ∷ immediate_bytes instruction_bytes i) is) in
    omega (arith, same, length-append one (0x05 ∷ (other ++ 0x0B ∷ [])), length-append other (0x0B ∷ []))

body_nesting : (x : WInstr) (t : Option ValTy) (xs : List WInstr) → immediate_of x ≡ Body t xs → nesting x ≡ 1 + greatest nesting xs
body_nesting x t xs is = nesting-layer x ∙ ap (λ (i : Immediate WInstr). immediate_nesting nesting i) is

bodies_nesting : (x : WInstr) (t : Option ValTy) (xs ys : List WInstr) → immediate_of x ≡ Bodies t xs ys → (greatest nesting xs < nesting x) × (greatest nesting ys < nesting x)
bodies_nesting x t xs ys is =
    let same = nesting-layer x ∙ ap (λ (i : Immediate WInstr). immediate_nesting nesting i) is in
    (omega (arith, same), omega (arith, same))

module _ (C : Context) (lists : IsShortContext C) where
  of_body : (x : WInstr) (t : Option ValTy) (xs : List WInstr) → immediate_of x ≡ Body t xs → length (instruction_bytes x) < 2 ^ 32 → InstructionsFit xs → InstructionFits x
  of_body x t xs is bytes h = nested_fits t xs is (omega (arith, bytes, body_bytes x t xs is, no_longer xs)) h

  mutual
    one_fits : {ls : Labels} {before after : List ValTy} (x : WInstr) {w : WInstr-F WInstr} → out-WInstr x ≡ w → IsTyped C ls w before after → length ls + nesting x ≤ 2 ^ 32 → length (instruction_bytes x) < 2 ^ 32 → HasLiterals x → InstructionFits x
    one_fits {ls = ls} x out (plain s e a) depth bytes h =
        let given = ap (λ (l : WInstr-F WInstr). signature_in C ls l) out ∙ e in
        plain_fits (named ls (omega (arith, depth)) C lists (operation_in (out-WInstr x)) s given (own_literals x h))
    one_fits x out (block t xs e typed after) depth bytes h =
        let is : immediate_of x ≡ Body t xs = ap immediate_in (out ∙ e) in
        of_body x t xs is bytes (all_fit xs typed (omega (arith, depth, body_nesting x t xs is)) (omega (arith, bytes, body_bytes x t xs is)) (body_literals x t xs is h))
    one_fits x out (loop t xs e typed after) depth bytes h =
        let is : immediate_of x ≡ Body t xs = ap immediate_in (out ∙ e) in
        of_body x t xs is bytes (all_fit xs typed (omega (arith, depth, body_nesting x t xs is)) (omega (arith, bytes, body_bytes x t xs is)) (body_literals x t xs is h))
    one_fits x out (one_arm xs e typed before) depth bytes h =
        let is : immediate_of x ≡ Body None xs = ap immediate_in (out ∙ e) in
        of_body x None xs is bytes (all_fit xs typed (omega (arith, depth, body_nesting x None xs is)) (omega (arith, bytes, body_bytes x None xs is)) (body_literals x None xs is h))
    one_fits x out (two_arms t xs ys below e typed other before after) depth bytes h =
        let is : immediate_of x ≡ Bodies t xs ys = ap immediate_in (out ∙ e) in
        let deep = bodies_nesting x t xs ys is in
        let long = bodies_bytes x t xs ys is in
        let literals = bodies_literals x t xs ys is h in
        two_arms_fit t xs ys is (omega (arith, bytes, long, no_longer xs)) (omega (arith, bytes, long, no_longer ys))
        (all_fit xs typed (omega (arith, depth, deep.0)) (omega (arith, bytes, long)) literals.0)
        (all_fit ys other (omega (arith, depth, deep.1)) (omega (arith, bytes, long)) literals.1)

    all_fit : {ls : Labels} {before after : List ValTy} (ws : List WInstr) → AreTyped C ls ws before after → length ls + greatest nesting ws ≤ 2 ^ 32 → length (flat_map instruction_bytes ws) < 2 ^ 32 → HaveLiterals ws → InstructionsFit ws
    all_fit ws (none e same) depth bytes h = none_fit e
    all_fit ws (more x xs between e typed rest) depth bytes h =
        let literals = first_literals x xs ws e h in
        let long = ap (λ (l : List WInstr). length (flat_map instruction_bytes l)) e in
        let deep = ap (λ (l : List WInstr). greatest nesting l) e in
        let both = length-append (instruction_bytes x) (flat_map instruction_bytes xs) in
        more_fit x xs e
        (one_fits x refl typed (omega (arith, depth, deep)) (omega (arith, bytes, long, both)) literals.0)
        (all_fit xs rest (omega (arith, depth, deep)) (omega (arith, bytes, long, both)) literals.1)

pub typed_bodies_fit : TypedBodiesAreInProfile
typed_bodies_fit C body lists typed nests bytes h =
    (omega (arith, bytes, no_longer body), all_fit C lists body typed (omega (arith, nests)) bytes h)
