-- Which sections of a module have a content whose length is a `u32` (WebAssembly Core Specification 1.0,
-- 5.5.2 Sections): where the canonical bytes of a module are a spelling of it.
use Rattle.std.specs.Prelude.{◌≡◌, ℕ, ◌<◌, ◌≤◌, ◌^◌, List, length, Result, OnOk, IsErrOf}
use Rattle.wasm_ast.specs.declared.modules.WModule.{WModule}
use Rattle.wasm_grammar.specs.CanonicalModules.{content_of}
use Rattle.wasm_encode.specs.declared.error.EncodeError.{EncodeError}
use Rattle.wasm_encode.specs.declared.error.EncodeError.TheVariants.{TooLong}

-- The contents of the sections before this one have fewer than 2^32 bytes each.
abbrev pub EarlierContentsFit : WModule → ℕ → Type 0
EarlierContentsFit m id = (earlier : ℕ) → earlier < id → length (content_of earlier m) < 2 ^ 32

-- This section is the first one whose content has 2^32 bytes or more.
abbrev pub IsFirstTooLong : WModule → ℕ → Type 0
IsFirstTooLong m id = (2 ^ 32 ≤ length (content_of id m)) × EarlierContentsFit m id

-- An answer about the section of this id and content is Ok only where the content has fewer than 2^32 bytes,
-- and `TooLong` only with this id and where it has 2^32 bytes or more.
abbrev pub TellsFit : {T : Type 0} → Result T EncodeError → ℕ → List ℕ → Type 0
TellsFit result id content =
    OnOk result (length content < 2 ^ 32) × ((j : ℕ) → IsErrOf result (TooLong j) → (j ≡ id) × (2 ^ 32 ≤ length content))
