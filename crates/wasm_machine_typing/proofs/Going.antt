-- How a typed configuration goes on: with other operands, locals, globals or bytes, in the list that runs.
use Rattle.std.proofs.Common.{◌≡◌, ◌∙◌, ℕ, Bool, true, false, List, [], ◌∷◌, ◌++◌, map, refl, sym, subst}
use Rattle.std.specs.Prelude.{Option, Some, None, Result, Ok, Err, option_to_list, if◌then◌else◌}
use Rattle.wasm_ast.specs.declared.types.ValTy.{ValTy}
use Rattle.wasm_ast.specs.declared.instructions.WInstr.{WInstr, out-WInstr}
use Rattle.wasm_ast.specs.declared.instructions.WInstr.TheOpen.{WInstr-F}
use Rattle.wasm_ast.specs.Operations.{Operation, operation_in}
use Rattle.wasm_ast.specs.Operations as op
use Rattle.wasm_ast.specs.Immediates.{Immediate, IsPlain, immediate_of}
use Rattle.wasm_grammar.specs.ProfileInstructions.{ImmediateFits, InstructionFits, plain_fits, nested_fits, two_arms_fit}
use Rattle.wasm_typing.specs.declared.rule.WRule.{WRule}
use Rattle.wasm_typing.specs.declared.context.Context.{Context}
use Rattle.wasm_typing.specs.Contexts.{body_context}
use Rattle.wasm_typing.specs.Signatures.{Slot, Gives, Signature, found, needs, signature_of, signature_in}
use Rattle.wasm_typing.specs.Typing.{Labels, fill, IsTyped, plain, block, loop, one_arm, two_arms}
use Rattle.wasm_typing.specs.Heights.{height_of}
use Rattle.machine_steps.specs.Steps.{Turn}
use Rattle.wasm_execution.specs.Configurations.{Here, Store, Config, Event}
use Rattle.wasm_execution.specs.Environments.{Environment}
use Rattle.wasm_execution.specs.Turns.{leaves}
use Rattle.machine_steps.specs.Steps.{with_found, with_one}
use Rattle.wasm_machine_typing.specs.Values.{AreOf}
use Rattle.wasm_machine_typing.specs.Lists.{count_beneath, Runs}
use Rattle.wasm_machine_typing.specs.Configurations.{IsTypedStore, IsTypedConfig, IsTypedTurn}
use Rattle.wasm_machine_typing.proofs.Lists.{Used, Taken, used, taken_by, parts, first_fits}

pub found_back : {A : Type 0} (rule : WRule) (o : Option A) (go : A → Result Signature WRule) (s : Signature) → found rule o go ≡ Ok s → (a : A) × (o ≡ Some a) × (go a ≡ Ok s)
found_back rule None go s e = absurd (cc)
found_back rule (Some a) go s e = (a, refl, e)

pub needs_back : (rule : WRule) (b : Bool) (x s : Signature) → needs rule b x ≡ Ok s → s ≡ x
needs_back rule true x s e = cc
needs_back rule false x s e = absurd (cc)

pub chosen_back : (b : Bool) (x : Result Signature WRule) (rule : WRule) (s : Signature) → (if b then x else Err rule) ≡ Ok s → x ≡ Ok s
chosen_back true x rule s e = e
chosen_back false x rule s e = absurd (cc)

-- operations that nest no list
abbrev pub NestsNone : {A : Type 0} → Operation A → Type 0
NestsNone (op.Block _ _) = ⊥
NestsNone (op.Loop _ _) = ⊥
NestsNone (op.If _ _) = ⊥
NestsNone (op.IfElse _ _ _) = ⊥
NestsNone _ = Unit {0}

signed : (C : Context) (ls : Labels) (x : WInstr-F WInstr) (before after : List ValTy) → NestsNone (operation_in x) → IsTyped C ls x before after → (s : Signature) × (signature_in C ls x ≡ Ok s)
signed C ls x before after n (plain s e a) = (s, e)
signed C ls x before after n (block t xs ex d ea) = absurd (subst (λ (y : WInstr-F WInstr). NestsNone (operation_in y)) ex n)
signed C ls x before after n (loop t xs ex d ea) = absurd (subst (λ (y : WInstr-F WInstr). NestsNone (operation_in y)) ex n)
signed C ls x before after n (one_arm xs ex d eb) = absurd (subst (λ (y : WInstr-F WInstr). NestsNone (operation_in y)) ex n)
signed C ls x before after n (two_arms t xs ys below ex d g eb ea) = absurd (subst (λ (y : WInstr-F WInstr). NestsNone (operation_in y)) ex n)

-- the numbers of an instruction that nests none
pub plain_numbers : (i : WInstr) (m : Immediate WInstr) → InstructionFits i → immediate_of i ≡ m → IsPlain m → ImmediateFits m
plain_numbers i m (plain_fits h) e p = subst ImmediateFits e h
plain_numbers i m (nested_fits t xs f l k) e p = absurd (subst (λ (y : Immediate WInstr). IsPlain y) (sym e ∙ f) p)
plain_numbers i m (two_arms_fit t xs ys f l k a b) e p = absurd (subst (λ (y : Immediate WInstr). IsPlain y) (sym e ∙ f) p)

module _ (C : Context) (e : Environment) (c : Config) (h : IsTypedConfig C e c) where
  abbrev pub body : Context
  body = body_context C h.ty h.code

  abbrev pub room : ℕ
  room = height_of body h.code.body

  -- the call that runs goes on in its innermost list with these operands, locals and store
  pub going : (operands locals : List ℕ) (rest : List WInstr) (s : Store) → AreOf body.locals locals → Runs body room h.call.labels rest operands (count_beneath c.here.levels) h.call.result → IsTypedStore C e s
      → IsTypedConfig C e (record c { here = record c.here { operands = operands; locals = locals; rest = rest }; store = s })
  going operands locals rest s l r k = record {
    ty = h.ty;
    code = h.code;
    call = record { there = h.call.there; locals = l; labels = h.call.labels; result = h.call.result; runs = r; open_lists = h.call.open_lists };
    waiting = h.waiting;
    store = k;
  }

  pub on_found : {X : Type 0} (o : Option X) (x : X) (k : X → Turn Event Config) → o ≡ Some x → IsTypedTurn C e (k x) → IsTypedTurn C e (with_found o k)
  on_found {X} o x k q t = subst (λ (p : Option X). IsTypedTurn C e (with_found p k)) (sym q) t

  pub on_one : (operands : List ℕ) (v : ℕ) (below : List ℕ) (k : ℕ → List ℕ → Turn Event Config) → operands ≡ v ∷ below → IsTypedTurn C e (k v below) → IsTypedTurn C e (with_one operands k)
  on_one operands v below k q t = subst (λ (os : List ℕ). IsTypedTurn C e (with_one os k)) (sym q) t

  module _ (i : WInstr) (rest : List WInstr) (er : c.here.rest ≡ i ∷ rest) where
    abbrev pub here : Here
    here = record c.here { rest = rest }

    pub runs : Runs body room h.call.labels (i ∷ rest) c.here.operands (count_beneath c.here.levels) h.call.result
    runs = subst (λ (r : List WInstr). Runs body room h.call.labels r c.here.operands (count_beneath c.here.levels) h.call.result) er h.call.runs

    abbrev pub Use : List Slot → Option Slot → Type 0
    Use takes left = Used body room h.call.labels rest c.here.operands (count_beneath c.here.levels) h.call.result takes left

    pub fits_here : InstructionFits i
    fits_here = (first_fits i rest (i ∷ rest) refl runs.numbers).0

    pub has : (o : Operation WInstr) → operation_in (out-WInstr i) ≡ o → NestsNone o → (s : Signature) × (signature_of body h.call.labels o ≡ Ok s)
    has o q n =
        let p = parts body h.call.labels i rest (i ∷ rest) runs.types (option_to_list h.call.result) refl runs.typed in
        let s = signed body h.call.labels (out-WInstr i) runs.types p.0 (subst NestsNone (sym q) n) p.1 in
        (s.0, subst (λ (y : Operation WInstr). signature_of body h.call.labels y ≡ Ok s.0) q s.1)

    pub use_of : (o : Operation WInstr) (s : Signature) (g : Option Slot) → operation_in (out-WInstr i) ≡ o → signature_of body h.call.labels o ≡ Ok s → s.left ≡ Gives g → Use s.takes g
    use_of o s g q es eg =
        used body h.call.labels room i rest c.here.operands (count_beneath c.here.levels) h.call.result s g runs
        (subst (λ (y : Operation WInstr). signature_of body h.call.labels y ≡ Ok s) (sym q) es) eg

    pub take_of : (o : Operation WInstr) (s : Signature) → operation_in (out-WInstr i) ≡ o → signature_of body h.call.labels o ≡ Ok s → Taken c.here.operands s.takes
    take_of o s q es =
        taken_by body h.call.labels room i rest c.here.operands (count_beneath c.here.levels) h.call.result s runs
        (subst (λ (y : Operation WInstr). signature_of body h.call.labels y ≡ Ok s) (sym q) es)

    pub next : (takes : List Slot) (g : Option Slot) (u : Use takes g) (given : List ℕ) → AreOf (map (fill u.at) (option_to_list g)) given → IsTypedTurn C e (leaves (given ++ u.below) here c)
    next takes g u given k = going (given ++ u.below) c.here.locals rest c.store h.call.locals (u.on given k) h.store

    none_taken : (taken below operands : List ℕ) → operands ≡ taken ++ below → AreOf [] taken → below ≡ operands
    none_taken [] below operands q k = sym q
    none_taken (v ∷ vs) below operands q k = absurd k

    -- with nothing taken
    pub next_on : (g : Option Slot) (u : Use [] g) (given : List ℕ) → AreOf (map (fill u.at) (option_to_list g)) given → IsTypedTurn C e (leaves (given ++ c.here.operands) here c)
    next_on g u given k =
        subst (λ (os : List ℕ). IsTypedTurn C e (leaves (given ++ os) here c)) (none_taken u.taken u.below c.here.operands u.parted u.of) (next [] g u given k)
