use Rattle.std.proofs.Common.{◌∷◌, [], refl, inl, inr, lit<, lit≤}
use Rattle.wasm_grammar.specs.CanonicalModules.{preamble}
use Rattle.wasm_spelling.proofs.KnownInstructions.{one_byte, no_byte}
use Rattle.wasm_decode.proofs.laws.worked_custom_sections.Goals as goal

pub returns-clause-content : goal.returns-clause-content
returns-clause-content c = record {
  front = preamble;
  size = 0x90 ∷ 0x4E ∷ [];
  content = 0x01 ∷ 0x61 ∷ [];
  between = tt;
  measured = inr (lit≤ tt, lit< tt, lit< tt, 78, refl, inl ((lit< tt, lit< tt, refl), refl));
  whole = refl;
}

pub returns-clause-piece : goal.returns-clause-piece
returns-clause-piece c = record {
  front = preamble;
  begun = 0x00 ∷ [];
  left = 0x63 ∷ [];
  content = 0x61 ∷ 0x62 ∷ 0x63 ∷ [];
  between = tt;
  spelled = record {
    front = 0x00 ∷ [];
    back = 0x03 ∷ 0x61 ∷ 0x62 ∷ 0x63 ∷ [];
    first = refl;
    second = record {
      size = 0x03 ∷ [];
      content = 0x61 ∷ 0x62 ∷ 0x63 ∷ [];
      measured = inl ((lit< tt, lit< tt, refl), refl);
      spelled = (one_byte 0x61 (0x62 ∷ 0x63 ∷ []) (lit< tt) (one_byte 0x62 (0x63 ∷ []) (lit< tt) (one_byte 0x63 [] (lit< tt) no_byte)), refl);
      whole = refl;
    };
    whole = refl;
  };
  whole = refl;
}
