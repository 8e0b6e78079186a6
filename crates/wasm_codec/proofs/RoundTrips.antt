-- The canonical bytes of a module of the profile spell it alone, so that a decoder answers it, or want of memory.
use Rattle.std.proofs.Common.{◌≡◌, sym, subst, ℕ, List, ◌<◌, ◌≤◌, ◌^◌, length, arith}
use Rattle.std.specs.Prelude.{Result, Err}
use Rattle.std.specs.Result.{IsErrAnd}
use Rattle.std.proofs.lemmas.Result.{err_from_is_err_and}
use Rattle.wasm_ast.specs.declared.modules.WModule.{WModule}
use Rattle.wasm_grammar.specs.CanonicalModules.{HasShortContents, content_of, module_bytes}
use Rattle.wasm_grammar.specs.GrammarModules.{SpellsModule}
use Rattle.wasm_grammar.specs.Profile.{IsInProfile}
use Rattle.wasm_spelling.proofs.SpelledModules.{canonical_bytes_spell}
use Rattle.wasm_spelling.proofs.ShortestModules.{spelled_contents_are_short}
use Rattle.wasm_reading.specs.declared.fault.DecodeError.{DecodeError}
use Rattle.wasm_reading_laws.proofs.OneModule.{bytes_spell_one_module}
use Rattle.wasm_encode.specs.Contents.{IsFirstTooLong}
use Rattle.wasm_encode.specs.declared.error.EncodeError.{EncodeError}
use Rattle.wasm_codec.specs.declared.error.CodecError.{CodecError}
use Rattle.wasm_codec.specs.declared.error.CodecError.TheVariants.{Encode, Decode}

-- bytes that are the canonical ones spell the module
pub spelled : (m : WModule) (bytes : List ℕ) → bytes ≡ module_bytes m → IsInProfile m → HasShortContents m → SpellsModule bytes m
spelled m bytes e h short = subst (λ (bs : List ℕ). SpellsModule bs m) (sym e) (canonical_bytes_spell m h short)

-- a module that they spell is that one
pub same : (m k : WModule) (bytes : List ℕ) → bytes ≡ module_bytes m → IsInProfile m → HasShortContents m → SpellsModule bytes k → k ≡ m
same m k bytes e h short p = bytes_spell_one_module bytes k m p (spelled m bytes e h short)

-- no section of a module that bytes spell is too long
pub never_too_long : (m : WModule) (bytes : List ℕ) (id : ℕ) → SpellsModule bytes m → IsFirstTooLong m id → ⊥
never_too_long m bytes id p long =
    let short : length (content_of id m) < 2 ^ 32 = spelled_contents_are_short m bytes p id in
    let h : 2 ^ 32 ≤ length (content_of id m) = long.0 in
    omega (arith, short, h)

-- the cause of an error that was made of one of the encoder
pub encode_cause : {T : Type 0} (r : Result T CodecError) (error e : EncodeError) → IsErrAnd r (λ y. y ≡ Encode error) → r ≡ Err (Encode e) → error ≡ e
encode_cause r error e h k = let p = err_from_is_err_and r h in let q = p.1 in let s = p.2 in cc

-- the cause of an error that was made of one of the decoder
pub decode_cause : {T : Type 0} (r : Result T CodecError) (error e : DecodeError) → IsErrAnd r (λ y. y ≡ Decode error) → r ≡ Err (Decode e) → error ≡ e
decode_cause r error e h k = let p = err_from_is_err_and r h in let q = p.1 in let s = p.2 in cc
