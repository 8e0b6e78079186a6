-- The names of source files are taken apart at the last slash and at `.rich`, and are found again where they were joined.
use Rattle.std.proofs.Common.{◌≡◌, ℕ, ◌-◌, ◌<◌, Bool, true, false, not, ◌&&◌, ◌||◌, List, [], ◌∷◌, ◌++◌, length, take, drop, cond, refl, ap, sym, ◌∙◌, arith, ◌==◌, nat_lt, nat_le, Some, None, inl, inr, append_assoc}
use Rattle.std.proofs.lemmas.Bool.Decides.{nat_tests}
use Rattle.std.proofs.lemmas.List.{take-append-drop, take_at, drop_at, length-append}
use Rattle.std.proofs.lemmas.Slice.Eq.{bytes_eq-Decides}
use Rattle.std.specs.Cmp.Derive.{both_true}
use Rattle.std.specs.Prelude.{codes, IsTrue}
use Rattle.std.specs.List.{list_any, list_all}
use Rattle.std.specs.Option.{option_map_or}
use Rattle.std.specs.Str.{bytes_eq}
use Rattle.std.specs.declared.option.Option.{Option}
use Rattle.rw_types.specs.Names.{IsName, is_name_byte}
use Rattle.words.specs.Files.{after_last_slash, before_rich, module_name_of, is_module_name, is_plain_name, is_source_file}
use Rattle.words.specs.Sources.{IsFolder, IsSourceFile, TellsSources, NamesModules}
use Rattle.words.proofs.Slashes.{is_slash, no_slash}
use Rattle.words.proofs.Splitting.{both}

-- the extension of source files
abbrev rich : List ℕ
rich = codes ".rich"

-- the tests of a module's name
name_passes : (name : List ℕ) → IsName name → is_module_name name ≡ true
name_passes name n =
    let low : nat_lt 0 (length name) ≡ true = (let l = n.nonempty in grind (arith, nat_tests)) in
    let high : nat_le (length name) 64 ≡ true = (let l = n.short in grind (arith, nat_tests)) in
    both_true (both_true low high) n.each

passed_is_name : (name : List ℕ) → is_module_name name ≡ true → IsName name
passed_is_name name e =
    let tests = both (nat_lt 0 (length name) && nat_le (length name) 64) (list_all is_name_byte name) e in
    let bounds = both (nat_lt 0 (length name)) (nat_le (length name) 64) tests.0 in
    let low : nat_lt 0 (length name) ≡ true = bounds.0 in
    let high : nat_le (length name) 64 ≡ true = bounds.1 in
    record { nonempty = grind (arith, nat_tests); short = grind (arith, nat_tests); each = tests.1 }

-- bytes that end with the last part, where they have a slash
parted_step : (t any : Bool) (b : ℕ) (bs after : List ℕ) → (b == 47) ≡ t → (t || any) ≡ true → (any ≡ true → (path : List ℕ) × (bs ≡ path ++ (47 ∷ after))) →
    (path : List ℕ) × (b ∷ bs ≡ path ++ (47 ∷ cond any after (cond t bs (b ∷ bs))))
parted_step t true b bs after is some deeper = let d = deeper refl in (b ∷ d.0, ap (λ (s : List ℕ). b ∷ s) d.1)
parted_step true false b bs after is some deeper = let e : b ≡ 47 = grind (arith, nat_tests) in ([], ap (λ (c : ℕ). c ∷ bs) e)
parted_step false false b bs after is some deeper = absurd cc

parted : (s : List ℕ) → list_any is_slash s ≡ true → (path : List ℕ) × (s ≡ path ++ (47 ∷ after_last_slash s))
parted [] some = absurd cc
parted (b ∷ bs) some = parted_step (b == 47) (list_any is_slash bs) b bs (after_last_slash bs) refl some (parted bs)

folder_by : (any : Bool) (s : List ℕ) → list_any is_slash s ≡ any → (folder : List ℕ) × IsFolder folder × (s ≡ folder ++ after_last_slash s)
folder_by true s some = let p = parted s some in (p.0 ++ codes "/", inr (p.0, refl), p.1 ∙ sym (append_assoc p.0 (codes "/") (after_last_slash s)))
folder_by false s none = ([], inl refl, sym (no_slash s none))

-- what stands before the last part is a folder
folder_of : (s : List ℕ) → (folder : List ℕ) × IsFolder folder × (s ≡ folder ++ after_last_slash s)
folder_of s = folder_by (list_any is_slash s) s refl

rich_step : (is : Bool) (start end name : List ℕ) → bytes_eq end rich ≡ is → cond is (Some start) None ≡ Some name → start ++ end ≡ name ++ rich
rich_step true start end name e found =
    let same : start ≡ name = cc in ap (λ (s : List ℕ). s ++ end) same ∙ ap (λ (s : List ℕ). name ++ s) ((bytes_eq-Decides end rich).0 e)
rich_step false start end name e found = absurd cc

-- a part of which a name is found is the name and `.rich`
rich_after : (part name : List ℕ) → before_rich part ≡ Some name → part ≡ name ++ rich
rich_after part name found =
    sym (take-append-drop (length part - 5) part)
    ∙ rich_step (bytes_eq (drop (length part - 5) part) rich) (take (length part - 5) part) (drop (length part - 5) part) name refl found

found_name : (found : Option (List ℕ)) → option_map_or is_module_name found false ≡ true → (name : List ℕ) × (found ≡ Some name) × IsName name
found_name (Some name) e = (name, refl, passed_is_name name e)
found_name None e = absurd cc

-- a name that passes is that of a source file
is_source : (file : List ℕ) → is_source_file file ≡ true → IsSourceFile file
is_source file e =
    let b = both (is_plain_name file) (option_map_or is_module_name (module_name_of file) false) e in
    let (name, found, named) = found_name (module_name_of file) b.1 in
    let (folder, within, is) = folder_of file in
    record {
      folder = folder;
      name = name;
      is = is ∙ ap (λ (s : List ℕ). folder ++ s) (rich_after (after_last_slash file) name found);
      within = within;
      named = named;
      undashed = λ rest dashed. let bad : false ≡ true = sym (ap is_plain_name dashed) ∙ b.0 in absurd cc;
    }

name_byte_no_slash : (b : ℕ) → is_name_byte b ≡ true → (b == 47) ≡ false
name_byte_no_slash b h = grind (arith, nat_tests)

none_step : (t any : Bool) → t ≡ false → any ≡ false → (t || any) ≡ false
none_step true any x y = absurd cc
none_step false any x y = y

-- a module's name and `.rich` have no slash
name_no_slash : (name : List ℕ) → IsTrue (list_all is_name_byte name) → list_any is_slash (name ++ rich) ≡ false
name_no_slash [] each = refl
name_no_slash (b ∷ bs) each =
    let h = both (is_name_byte b) (list_all is_name_byte bs) each in
    none_step (b == 47) (list_any is_slash (bs ++ rich)) (name_byte_no_slash b h.0) (name_no_slash bs h.1)

any_step : (t any : Bool) → any ≡ true → (t || any) ≡ true
any_step true any e = refl
any_step false any e = e

slash_in : (path part : List ℕ) → list_any is_slash (path ++ (47 ∷ part)) ≡ true
slash_in [] part = refl
slash_in (b ∷ bs) part = any_step (b == 47) (list_any is_slash (bs ++ (47 ∷ part))) (slash_in bs part)

after_path : (path part : List ℕ) → list_any is_slash part ≡ false → after_last_slash (path ++ (47 ∷ part)) ≡ part
after_path [] part none = ap (λ (any : Bool). cond any (after_last_slash part) part) none
after_path (b ∷ bs) part none =
    let whole = bs ++ (47 ∷ part) in
    ap (λ (any : Bool). cond any (after_last_slash whole) (cond (b == 47) whole (b ∷ whole))) (slash_in bs part) ∙ after_path bs part none

-- the last part stands behind the folder
after_folder : (folder part : List ℕ) → IsFolder folder → list_any is_slash part ≡ false → after_last_slash (folder ++ part) ≡ part
after_folder folder part (inl empty) none = ap (λ (f : List ℕ). after_last_slash (f ++ part)) empty ∙ no_slash part none
after_folder folder part (inr (path, ends)) none =
    ap (λ (f : List ℕ). after_last_slash (f ++ part)) ends ∙ ap after_last_slash (append_assoc path (codes "/") part) ∙ after_path path part none

-- the name stands before `.rich`
before_is : (name : List ℕ) → before_rich (name ++ rich) ≡ Some name
before_is name =
    let whole = name ++ rich in
    let count : length whole - 5 ≡ length name = omega (arith, length-append name rich) in
    ap (λ (n : ℕ). cond (bytes_eq (drop n whole) rich) (Some (take n whole)) None) count
    ∙ ap (λ (end : List ℕ). cond (bytes_eq end rich) (Some (take (length name) whole)) None) (drop_at name rich (length name) refl)
    ∙ ap (λ (start : List ℕ). Some start) (take_at name rich (length name) refl)

-- the module's name is found
pub names_modules : NamesModules
names_modules file source =
    ap module_name_of source.is
    ∙ ap before_rich (after_folder source.folder (source.name ++ rich) source.within (name_no_slash source.name source.named.each))
    ∙ before_is source.name

plain_step : (first : ℕ) (rest : List ℕ) (dash : Bool) → (first == 45) ≡ dash → (first ≡ 45 → ⊥) → not dash ≡ true
plain_step first rest true is other = let e : first ≡ 45 = grind (arith, nat_tests) in absurd (other e)
plain_step first rest false is other = refl

plain : (file : List ℕ) → 0 < length file → ((rest : List ℕ) → file ≡ codes "-" ++ rest → ⊥) → is_plain_name file ≡ true
plain [] some undashed = absurd (omega arith)
plain (first ∷ rest) some undashed = plain_step first rest (first == 45) refl (λ (e : first ≡ 45). undashed rest (ap (λ (c : ℕ). c ∷ rest) e))

-- the name of a source file passes
passes : (file : List ℕ) → IsSourceFile file → is_source_file file ≡ true
passes file source =
    let end = source.name ++ rich in
    let some : 0 < length file = omega (arith, ap (λ (s : List ℕ). length s) source.is, length-append source.folder end, length-append source.name rich) in
    both_true (plain file some source.undashed)
    (ap (λ (found : Option (List ℕ)). option_map_or is_module_name found false) (names_modules file source) ∙ name_passes source.name source.named)

pub tells_sources : TellsSources
tells_sources file = (is_source file, passes file)
