-- A code stands within an open list up to its last token, and behind that within none. By induction on the size of the trees.
use Rattle.std.proofs.Common.{◌≡◌, ◌∙◌, ℕ, zero, suc, ◌≤◌, Bool, true, false, List, [], ◌∷◌, ◌++◌, refl, sym, ap, subst, append_assoc, arith, ◌⊎◌, inl, inr, length}
use Rattle.std.specs.Prelude.{Result, Ok, Err, flat_map, sum_by}
use Rattle.std.proofs.lemmas.List.Sums.{sum_by-cons}
use Rattle.wasm_ast.specs.declared.instructions.WInstr.{WInstr, out-WInstr}
use Rattle.wasm_ast.specs.declared.instructions.WInstr.TheOpen.{WInstr-F}
use Rattle.wasm_ast.specs.Immediates.{immediate_in}
use Rattle.wasm_ast.proofs.Counts.{instruction_count, immediate_count, instruction_count-layer}
use Rattle.wasm_typing.specs.declared.rule.WRule.{WRule}
use Rattle.wasm_typing.specs.declared.context.Context.{Context}
use Rattle.wasm_typing.specs.Tokens.{Token, OpensBlock, OpensLoop, OpensIf, Else, End, tokens_in, tokens_of, code_of}
use Rattle.wasm_typing.specs.Typing.{IsTypedBody}
use Rattle.wasm_typing.specs.Places.{open_behind, opened}
use Rattle.wasm_typing.specs.ByteOrder.{Open}
use Rattle.wasm_typing.specs.Violations.{IsFirstViolation}
use Rattle.wasm_typing_laws.specs.Checking.{Seen, go_on, check, walk, begin}
use Rattle.wasm_typing_laws.proofs.Closing.{firsts, open-check, open-walk}
use Rattle.wasm_typing_laws.proofs.Join.{list_end, two_lists_end}
use Rattle.wasm_typing_laws.proofs.Layers.{tokens-layer}
use Rattle.wasm_typing_laws.proofs.Refusals.{first_violation, goes_through}

-- before each token some list is open
abbrev pub Stays : List Token → List Bool → Type 0
Stays [] os = Unit {0}
Stays (t ∷ ts) [] = ⊥
Stays (t ∷ ts) (o ∷ os) = Stays ts (open_behind t (o ∷ os))

-- tokens that leave as many lists open as there were, and never fewer on the way
record Passes (ts rest : List Token) (o : Bool) (os : List Bool) : Type 0 where
  pub stays : Stays rest (o ∷ os) → Stays (ts ++ rest) (o ∷ os)
  pub behind : opened (ts ++ rest) (o ∷ os) ≡ opened rest (o ∷ os)

abbrev ListPasses : List WInstr → Type 0
ListPasses ws = (rest : List Token) (o : Bool) (os : List Bool) → Passes (flat_map tokens_of ws) rest o os

pass_block : (first : Token) (inner : Bool) (xs : List WInstr) (rest : List Token) (o : Bool) (os : List Bool) → open_behind first (o ∷ os) ≡ inner ∷ o ∷ os → ListPasses xs → Passes (first ∷ (flat_map tokens_of xs ++ End ∷ [])) rest o os
pass_block first inner xs rest o os e go =
    let i = go (End ∷ rest) inner (o ∷ os) in
    let tokens = flat_map tokens_of xs in
    record {
      stays = λ h. subst (λ (ps : List Bool). Stays ((tokens ++ End ∷ []) ++ rest) ps) (sym e) (subst (λ (ts : List Token). Stays ts (inner ∷ o ∷ os)) (sym (list_end tokens rest)) (i.stays h));
      behind = ap (λ (ps : List Bool). opened ((tokens ++ End ∷ []) ++ rest) ps) e ∙ ap (λ (ts : List Token). opened ts (inner ∷ o ∷ os)) (list_end tokens rest) ∙ i.behind;
    }

pass_one : (x : WInstr-F WInstr) (n : ℕ) → ((ws : List WInstr) → sum_by instruction_count ws ≤ n → ListPasses ws) → immediate_count instruction_count (immediate_in x) ≤ n →
    (rest : List Token) (o : Bool) (os : List Bool) → Passes (tokens_in tokens_of x) rest o os
pass_one (WInstr-F.Block t xs) n go le rest o os = pass_block (OpensBlock t) false xs rest o os refl (go xs (omega arith))
pass_one (WInstr-F.Loop t xs) n go le rest o os = pass_block (OpensLoop t) false xs rest o os refl (go xs (omega arith))
pass_one (WInstr-F.If t xs) n go le rest o os = pass_block (OpensIf t) true xs rest o os refl (go xs (omega arith))
pass_one (WInstr-F.IfElse t xs ys) n go le rest o os =
    let first = flat_map tokens_of xs in
    let second = flat_map tokens_of ys in
    let j = go ys (omega arith) (End ∷ rest) false (o ∷ os) in
    let i = go xs (omega arith) (Else ∷ (second ++ (End ∷ rest))) true (o ∷ os) in
    record {
      stays = λ h. subst (λ (ts : List Token). Stays ts (true ∷ o ∷ os)) (sym (two_lists_end first second rest)) (i.stays (j.stays h));
      behind = ap (λ (ts : List Token). opened ts (true ∷ o ∷ os)) (two_lists_end first second rest) ∙ i.behind ∙ j.behind;
    }
pass_one x n go le rest o os = record { stays = λ h. h; behind = refl }

pass_all : (n : ℕ) (ws : List WInstr) → sum_by instruction_count ws ≤ n → ListPasses ws
pass_all n [] le rest o os = record { stays = λ h. h; behind = refl }
pass_all zero (w ∷ ws) le rest o os =
    let c = instruction_count-layer w in let l = sum_by-cons instruction_count w ws in absurd (omega (arith, c, l))
pass_all (suc n) (w ∷ ws) le rest o os =
    let c = instruction_count-layer w in
    let l = sum_by-cons instruction_count w ws in
    let i = pass_one (out-WInstr w) n (pass_all n) (omega (arith, c, l)) (flat_map tokens_of ws ++ rest) o os in
    let j = pass_all n ws (omega (arith, c, l)) rest o os in
    let e : (tokens_of w ++ flat_map tokens_of ws) ++ rest ≡ tokens_in tokens_of (out-WInstr w) ++ (flat_map tokens_of ws ++ rest) =
    append_assoc (tokens_of w) (flat_map tokens_of ws) rest ∙ ap (λ (ts : List Token). ts ++ (flat_map tokens_of ws ++ rest)) (tokens-layer w) in
    record {
      stays = λ h. subst (λ (ts : List Token). Stays ts (o ∷ os)) (sym e) (i.stays (j.stays h));
      behind = ap (λ (ts : List Token). opened ts (o ∷ os)) e ∙ i.behind ∙ j.behind;
    }

code_passes : (body : List WInstr) → Passes (flat_map tokens_of body) (End ∷ []) false []
code_passes body = pass_all (sum_by instruction_count body) body (omega arith) (End ∷ []) false []

firsts-none : (as' : List (Open Seen)) → firsts as' ≡ [] → as' ≡ []
firsts-none [] e = refl
firsts-none (a ∷ as') e = absurd (cc)

module _ (C : Context) where
  -- where the checker refuses a token
  record Refuses (ts : List Token) (as' : List (Open Seen)) : Type 0 where
    pub front : List Token
    pub token : Token
    pub rest : List Token
    pub inner : Open Seen
    pub outer : List (Open Seen)
    pub rule : WRule
    pub parted : ts ≡ front ++ token ∷ rest
    pub comes : walk C front as' ≡ Ok (inner ∷ outer)
    pub refused : check C token (inner ∷ outer) ≡ Err rule

  later : (t : Token) (ts : List Token) (as' mid : List (Open Seen)) → check C t as' ≡ Ok mid → Refuses ts mid → Refuses (t ∷ ts) as'
  later t ts as' mid q r = record {
    front = t ∷ r.front;
    token = r.token;
    rest = r.rest;
    inner = r.inner;
    outer = r.outer;
    rule = r.rule;
    parted = ap (λ (xs : List Token). t ∷ xs) r.parted;
    comes = ap (λ (v : Result (List (Open Seen)) WRule). go_on v (walk C r.front)) q ∙ r.comes;
    refused = r.refused;
  }

  goes_or_refuses : (ts : List Token) (as' : List (Open Seen)) → Stays ts (firsts as') → ((bs : List (Open Seen)) × (walk C ts as' ≡ Ok bs)) ⊎ Refuses ts as'
  goes_or_refuses [] as' s = inl (as', refl)
  goes_or_refuses (t ∷ ts) [] s = absurd s
  goes_or_refuses (t ∷ ts) (a ∷ as') s =
      elim (check C t (a ∷ as')) as (λ v. (check C t (a ∷ as') ≡ v) → ((bs : List (Open Seen)) × (go_on v (walk C ts) ≡ Ok bs)) ⊎ Refuses (t ∷ ts) (a ∷ as')) [
        | Err r ↦ λ q. inr (record { front = []; token = t; rest = ts; inner = a; outer = as'; rule = r; parted = refl; comes = refl; refused = q })
        | Ok mid ↦ λ q. elim (goes_or_refuses ts mid (subst (λ (ps : List Bool). Stays ts ps) (open-check C t (a ∷ as') mid q) s)) [ inl i ↦ inl i | inr r ↦ inr (later t ts (a ∷ as') mid q r) ]
      ] refl

  pub typed_or_violated : (body : List WInstr) → IsTypedBody C body ⊎ ((at : ℕ) × (rule : WRule) × IsFirstViolation C body at rule)
  typed_or_violated body =
      elim (goes_or_refuses (code_of body) (begin C) ((code_passes body).stays tt)) [
        | inl (bs, w) ↦
            let e : bs ≡ [] = firsts-none bs (sym (open-walk C (code_of body) (begin C) bs w) ∙ (code_passes body).behind) in
            inl (goes_through C body (w ∙ ap (λ (x : List (Open Seen)). Ok x) e))
        | inr r ↦ inr (length r.front, r.rule, first_violation C body r.front r.token r.rest r.inner r.outer r.rule r.parted r.comes r.refused)
      ]
