-- The field of each section. Each line computes, since the ids are numerals.
use Rattle.std.proofs.Common.{◌≡◌, ℕ, List, [], refl, ap, lit≤, Option, None, Some}
use Rattle.std.proofs.lemmas.List.Elements.{All-nil}
use Rattle.wasm_grammar.specs.ProfileInstructions.{IsShortListOf, FitsU32}
use Rattle.wasm_grammar.specs.Profile.{OptionFits}
use Rattle.wasm_grammar.specs.GrammarModules.{IsStart}
use Rattle.wasm_grammar.specs.GrammarValues.{IsUnsigned}
use Rattle.wasm_reading_laws.proofs.Contents.{types_field, imports_field, funcs_field, tables_field, memories_field, globals_field, exports_field, start_field, elements_field, codes_field, segments_field}
use Rattle.wasm_reading_laws.proofs.Rows.{up_to, Slot}

-- a vector can hold no entry
no_entry : {X : Type 0} (P : X → Type 0) → IsShortListOf P []
no_entry P = record { short = lit≤ tt; each = All-nil P }

pub types_slot : Slot 0 types_field
types_slot = record {
  in_range = lit≤ tt;
  lower = λ m. refl;
  higher = λ m. refl;
  empty = λ m. refl;
  there = λ m. refl;
  put_get = λ x m. refl;
  put_lower = λ x m. refl;
  put_higher = λ x m. refl;
  put_none = λ m. refl;
  put_next = λ m. refl;
  fits_none = no_entry _;
  from_added = λ m with_it bytes p. p;
  to_added = λ m bytes counts fits p. (m.types, refl, (fits, p));
}

pub imports_slot : Slot 1 imports_field
imports_slot = record {
  in_range = lit≤ tt;
  lower = λ m. refl;
  higher = λ m. refl;
  empty = λ m. refl;
  there = λ m. refl;
  put_get = λ x m. refl;
  put_lower = λ x m. refl;
  put_higher = λ x m. refl;
  put_none = λ m. refl;
  put_next = λ m. refl;
  fits_none = no_entry _;
  from_added = λ m with_it bytes p. p;
  to_added = λ m bytes counts fits p. (m.imports, refl, (fits, p));
}

pub funcs_slot : Slot 2 funcs_field
funcs_slot = record {
  in_range = lit≤ tt;
  lower = λ m. refl;
  higher = λ m. refl;
  empty = λ m. refl;
  there = λ m. refl;
  put_get = λ x m. refl;
  put_lower = λ x m. refl;
  put_higher = λ x m. refl;
  put_none = λ m. refl;
  put_next = λ m. refl;
  fits_none = no_entry _;
  from_added = λ m with_it bytes p. p;
  to_added = λ m bytes counts fits p. (m.funcs, refl, (fits, p));
}

pub tables_slot : Slot 3 tables_field
tables_slot = record {
  in_range = lit≤ tt;
  lower = λ m. refl;
  higher = λ m. refl;
  empty = λ m. refl;
  there = λ m. refl;
  put_get = λ x m. refl;
  put_lower = λ x m. refl;
  put_higher = λ x m. refl;
  put_none = λ m. refl;
  put_next = λ m. refl;
  fits_none = no_entry _;
  from_added = λ m with_it bytes p. p;
  to_added = λ m bytes counts fits p. (m.tables, refl, (fits, p));
}

pub memories_slot : Slot 4 memories_field
memories_slot = record {
  in_range = lit≤ tt;
  lower = λ m. refl;
  higher = λ m. refl;
  empty = λ m. refl;
  there = λ m. refl;
  put_get = λ x m. refl;
  put_lower = λ x m. refl;
  put_higher = λ x m. refl;
  put_none = λ m. refl;
  put_next = λ m. refl;
  fits_none = no_entry _;
  from_added = λ m with_it bytes p. p;
  to_added = λ m bytes counts fits p. (m.memories, refl, (fits, p));
}

pub globals_slot : Slot 5 globals_field
globals_slot = record {
  in_range = lit≤ tt;
  lower = λ m. refl;
  higher = λ m. refl;
  empty = λ m. refl;
  there = λ m. refl;
  put_get = λ x m. refl;
  put_lower = λ x m. refl;
  put_higher = λ x m. refl;
  put_none = λ m. refl;
  put_next = λ m. refl;
  fits_none = no_entry _;
  from_added = λ m with_it bytes p. p;
  to_added = λ m bytes counts fits p. (m.globals, refl, (fits, p));
}

pub exports_slot : Slot 6 exports_field
exports_slot = record {
  in_range = lit≤ tt;
  lower = λ m. refl;
  higher = λ m. refl;
  empty = λ m. refl;
  there = λ m. refl;
  put_get = λ x m. refl;
  put_lower = λ x m. refl;
  put_higher = λ x m. refl;
  put_none = λ m. refl;
  put_next = λ m. refl;
  fits_none = no_entry _;
  from_added = λ m with_it bytes p. p;
  to_added = λ m bytes counts fits p. (m.exports, refl, (fits, p));
}

-- a start section has a start function
start_there : (start : Option ℕ) (bytes : List ℕ) → OptionFits start → IsStart start bytes → (n : ℕ) × (start ≡ Some n) × (FitsU32 n × IsUnsigned n bytes)
start_there None bytes h p = absurd p
start_there (Some n) bytes h p = (n, refl, (h, p))

pub start_slot : Slot 7 start_field
start_slot = record {
  in_range = lit≤ tt;
  lower = λ m. refl;
  higher = λ m. refl;
  empty = λ m. refl;
  there = λ m. refl;
  put_get = λ x m. refl;
  put_lower = λ x m. refl;
  put_higher = λ x m. refl;
  put_none = λ m. refl;
  put_next = λ m. refl;
  fits_none = tt;
  from_added = λ m with_it bytes p. (Some p.0, p.1, p.2);
  to_added = λ m bytes counts fits p.
      let q = start_there m.start bytes fits p in
      (q.0, ap (λ start. record (up_to 7 m) { start = start }) q.1, q.2);
}

pub elements_slot : Slot 8 elements_field
elements_slot = record {
  in_range = lit≤ tt;
  lower = λ m. refl;
  higher = λ m. refl;
  empty = λ m. refl;
  there = λ m. refl;
  put_get = λ x m. refl;
  put_lower = λ x m. refl;
  put_higher = λ x m. refl;
  put_none = λ m. refl;
  put_next = λ m. refl;
  fits_none = no_entry _;
  from_added = λ m with_it bytes p. p;
  to_added = λ m bytes counts fits p. (m.elements, refl, (fits, p));
}

pub codes_slot : Slot 9 codes_field
codes_slot = record {
  in_range = lit≤ tt;
  lower = λ m. refl;
  higher = λ m. refl;
  empty = λ m. refl;
  there = λ m. refl;
  put_get = λ x m. refl;
  put_lower = λ x m. refl;
  put_higher = λ x m. refl;
  put_none = λ m. refl;
  put_next = λ m. refl;
  fits_none = no_entry _;
  from_added = λ m with_it bytes p. (p.0, p.1, (p.2.0.1, p.2.1));
  to_added = λ m bytes counts fits p. (m.codes, refl, ((counts, fits), p));
}

pub segments_slot : Slot 10 segments_field
segments_slot = record {
  in_range = lit≤ tt;
  lower = λ m. refl;
  higher = λ m. refl;
  empty = λ m. refl;
  there = λ m. refl;
  put_get = λ x m. refl;
  put_lower = λ x m. refl;
  put_higher = λ x m. refl;
  put_none = λ m. refl;
  put_next = λ m. refl;
  fits_none = no_entry _;
  from_added = λ m with_it bytes p. p;
  to_added = λ m bytes counts fits p. (m.segments, refl, (fits, p));
}
