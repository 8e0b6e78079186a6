-- A block of the program's own list gives a global its first value.
use Rattle.std.proofs.Common.{◌≡◌, ℕ, zero, suc, ◌+◌, ◌-◌, List, [], ◌∷◌, Bool, true, false, Some, drop, refl, sym, ap, ◌∙◌, subst, arith}
use Rattle.std.specs.Prelude.{slice_get, nat_lt, if◌then◌else◌}
use Rattle.rw_types.specs.declared.instrs.Instr.{Instr, Block', GlobalSet, Call, items_hidden-the_row-Instr-0}
use Rattle.rw_types.specs.declared.types.FunType.{FunType}
use Rattle.rw_types.specs.declared.types.Ty.{Ty, Var}
use Rattle.rw_program.specs.declared.linked.LinkedGlobal.{LinkedGlobal}
use Rattle.rw_program.specs.Linking.{global_of}
use Rattle.rw_program.specs.Programs.{Program}
use Rattle.machine_steps.specs.Steps.{Turn, Went}
use Rattle.rich_types.specs.Walks.{outside}
use Rattle.rich_types.specs.Instances.{no_substitution, substituting}
use Rattle.rich_types_laws.proofs.Unchanged.{GivesBack, unchanged}
use Rattle.rich_rules.specs.Points.{GlobalType, OfGlobal, AllUnr}
use Rattle.rich_rules.specs.Derivations.{Derives}
use Rattle.rich_rules.specs.Modules.{initialiser_demand, initialiser_start}
use Rattle.rich_linking.specs.TypedPrograms.{types_of_functions, types_of_globals, linked_frame, AreTypedGlobals}
use Rattle.rich_reduction.specs.Configurations.{Here, Config, Event}
use Rattle.rich_reduction.specs.Control.{enter_block}
use Rattle.rich_reduction.specs.Starts.{initialiser, own_list}
use Rattle.rich_reduction.specs.Steps.{act}
use Rattle.rich_rights.specs.Rights.{rights_to, count_call}
use Rattle.rich_soundness_values.specs.Values.{no_types}
use Rattle.rich_soundness_points.specs.Programs.{IsSound}
use Rattle.rich_soundness_points.specs.Points.{own_call, own_level, of_initialiser, of_own_list, Callers}
use Rattle.rich_soundness_points.specs.Good.{in_body, Good, Fine}

abbrev is_block : Instr → Bool
is_block (Block' b m is) = true
is_block i = false

-- the initialiser of the first of these globals, and what follows it
pub record Initialises (n : ℕ) (gs : List LinkedGlobal) (main : ℕ) (i : Instr) (rest : List Instr) : Type 0 where
  pub global : LinkedGlobal
  pub later : List LinkedGlobal
  pub globals : gs ≡ global ∷ later
  pub block : initialiser global ≡ i
  pub after : GlobalSet n ∷ own_list (suc n) later main ≡ rest

head_of : {A : Type 0} (x y : A) (xs ys : List A) → x ∷ xs ≡ y ∷ ys → (x ≡ y) × (xs ≡ ys)
head_of x y xs ys e = (cc, cc)

pub initialises : (n : ℕ) (gs : List LinkedGlobal) (main : ℕ) (i : Instr) (rest : List Instr) → own_list n gs main ≡ i ∷ rest → is_block i ≡ true → Initialises n gs main i rest
initialises n [] main i rest e k = let s = head_of (Call main []) i [] rest e in absurd (let t : false ≡ true = ap is_block s.0 ∙ k in cc)
initialises n (g ∷ gs) main i rest e k = let s = head_of (initialiser g) i (GlobalSet n ∷ own_list (suc n) gs main) rest e in
    record { global = g; later = gs; globals = refl; block = s.0; after = s.1 }

-- what stands at the place where a list is cut
pub dropped : {A : Type 0} (n : ℕ) (xs : List A) (x : A) (rest : List A) → drop n xs ≡ x ∷ rest → (slice_get xs n ≡ Some x) × (rest ≡ drop (suc n) xs)
dropped zero [] x rest e = cc
dropped zero (y ∷ ys) x rest e = let s = head_of y x ys rest e in (ap Some s.0, sym s.1)
dropped (suc n) [] x rest e = cc
dropped (suc n) (y ∷ ys) x rest e = dropped n ys x rest e

-- nothing stands for no binders
back : GivesBack (substituting no_substitution)
back = record {
  location = λ d n. elim (nat_lt n d.locations) as (λ b. (let k : ℕ = if b then n else n - 0 in k ≡ n)) [ true ↦ refl | false ↦ (let e : n - 0 ≡ n = omega arith in e) ];
  variable = λ d n. elim (nat_lt n d.variables) as (λ b. (let t : Ty = if b then Var n else Var (n - 0) in t ≡ Var n)) [ true ↦ refl | false ↦ ap Var (let e : n - 0 ≡ n = omega arith in e) ];
}

-- the derivation of the initialiser with this number
derived : (functions : List FunType) (globals : List GlobalType) (m k : ℕ) (gs : List LinkedGlobal) (g : LinkedGlobal) → AreTypedGlobals functions globals m gs → slice_get gs k ≡ Some g →
    Derives (linked_frame functions globals [] (OfGlobal (m + k))) (initialiser_demand (global_of g)) initialiser_start g.body g.notes
derived functions globals m k [] g t e = cc
derived functions globals m zero (x ∷ gs) g t e =
    let s : x ≡ g = cc in
    subst (λ (j : ℕ). Derives (linked_frame functions globals [] (OfGlobal j)) (initialiser_demand (global_of g)) initialiser_start g.body g.notes) (let a : m ≡ m + 0 = omega arith in a)
    (subst (λ (y : LinkedGlobal). Derives (linked_frame functions globals [] (OfGlobal m)) (initialiser_demand (global_of y)) initialiser_start y.body y.notes) s t.0)
derived functions globals m (suc k) (x ∷ gs) g t e =
    subst (λ (j : ℕ). Derives (linked_frame functions globals [] (OfGlobal j)) (initialiser_demand (global_of g)) initialiser_start g.body g.notes) (let a : suc m + k ≡ m + suc k = omega arith in a)
    (derived functions globals (suc m) k gs g t.1 e)

-- a call in this initialiser
abbrev in_initialiser : Program → ℕ → LinkedGlobal → Here
in_initialiser p n g = record { results = 1; sizes = []; locals = []; operands = []; rest = g.body; levels = own_level p n ∷ [] }

module _ (p : Program) (c : Config) (sound : IsSound p) (good : Good p c) (g : LinkedGlobal) (is : slice_get p.globals good.set ≡ Some g) (list : List Instr) (own : c.here ≡ own_call [] list) (none : c.callers ≡ []) where
  begins : Good p (record c { here = in_initialiser p good.set g })
  begins = record {
    heaps = good.heaps;
    functions = good.functions;
    set = good.set;
    runs = in_body (OfGlobal good.set) [] [] refl (record {
      labels = [];
      demand = record { types = g.ty ∷ []; locals = AllUnr };
      locals = [];
      goes_on = record {
        frame = linked_frame (types_of_functions p.funcs) (types_of_globals p.globals) [] (OfGlobal good.set);
        demand = initialiser_demand (global_of g);
        point = initialiser_start;
        notes = g.notes;
        code = subst (λ (j : ℕ). Derives (linked_frame (types_of_functions p.funcs) (types_of_globals p.globals) [] (OfGlobal j)) (initialiser_demand (global_of g)) initialiser_start g.body g.notes)
            (let a : 0 + good.set ≡ good.set = omega arith in a) (derived (types_of_functions p.funcs) (types_of_globals p.globals) 0 good.set p.globals g sound.typed.globals is);
        fit = sound.globals_fit good.set g is;
        owned = refl;
        functions = refl;
        globals = refl;
        answers = no_substitution;
        answered = record { locations = tt; variables = tt };
        demanded = ap (λ (t : Ty). record { types = t ∷ []; locals = AllUnr }) (sym (unchanged (substituting no_substitution) back outside g.ty));
        seen = refl;
        sized = refl;
      };
      levels = of_initialiser good.set g refl is refl refl;
      locals_typed = no_types;
      gives = λ e. cc;
    }) no_types (subst (λ (ks : List Here). Callers p good.heaps (OfGlobal good.set) [] ks) (sym none) (of_own_list good.set refl));
    globals_typed = good.globals_typed;
    stored = good.stored;
    kept = λ r n. omega (arith, ap (count_call (rights_to r n)) own, good.kept r n);
  }

  -- a call that enters a body with this initialiser's signature
  abbrev entered : List Instr → Here → List Instr → Turn Event Config
  entered body h is = enter_block (record { params = []; results = g.ty ∷ []; locals = [] }) body (record h { rest = is }) c

  -- the initialiser is entered
  pub enters : (later : List LinkedGlobal) → later ≡ drop (suc good.set) p.globals → (i : Instr) (rest : List Instr) → initialiser g ≡ i → GlobalSet good.set ∷ own_list (suc good.set) later p.main ≡ rest → Fine p (act p.funcs i (record c.here { rest = rest }) c)
  enters later cut i rest block after = subst (λ (turn : Turn Event Config). Fine p turn) (sym by_parts) begins
    where
      by_parts : act p.funcs i (record c.here { rest = rest }) c ≡ Went [] (record c { here = in_initialiser p good.set g })
      by_parts =
          ap (λ (x : Instr). act p.funcs x (record c.here { rest = rest }) c) (sym block)
          ∙ ap (λ (body : List Instr). entered body c.here rest) (items_hidden-the_row-Instr-0 g.body)
          ∙ ap (λ (h : Here). entered g.body h rest) own
          ∙ ap (λ (l : List Instr). entered g.body (own_call [] list) l) (sym after)
          ∙ ap (λ (gs : List LinkedGlobal). entered g.body (own_call [] list) (GlobalSet good.set ∷ own_list (suc good.set) gs p.main)) cut
