-- The answer about a body.
use Rattle.std.proofs.Common.{◌≡◌, ◌∙◌, ℕ, ◌+◌, List, [], ◌∷◌, length, refl, ap, subst, arith}
use Rattle.std.specs.Prelude.{flat_map}
use Rattle.wasm_ast.specs.declared.instructions.WInstr.{WInstr}
use Rattle.wasm_typing.specs.declared.rule.WRule.{WRule}
use Rattle.wasm_typing.specs.declared.context.Context.{Context}
use Rattle.wasm_typing.specs.Typing.{IsTypedBody, Labels}
use Rattle.wasm_typing.specs.Tokens.{End, tokens_of, code_of}
use Rattle.wasm_typing.specs.ByteOrder.{Straight}
use Rattle.wasm_typing_laws.specs.Checking.{begin}
use Rattle.wasm_typing.specs.Violations.{IsFirstViolation}
use Rattle.wasm_typing_laws.proofs.Refusals.{first_violation, goes_through}
use Rattle.wasm_checking.specs.Judging.{Judged, StandsAt, ViolatedAt, judge, TypesList, ViolatesList}
use Rattle.wasm_checking.proofs.Judging.{judge-append, and_then, end-goes, end-refuses, broken, reached-walk, refused-stopped}

pub body_typed : (C : Context) (body : List WInstr) (from to : ℕ) → TypesList C (C.result ∷ []) C.result (flat_map tokens_of body) from to → IsTypedBody C body
body_typed C body from to e =
    let ts = flat_map tokens_of body in
    let r : judge C (code_of body) (begin C) from ≡ StandsAt [] (to + 1) =
    judge-append C (flat_map tokens_of body) (End ∷ []) (begin C) from
    ∙ ap (λ (j : Judged). and_then C j (End ∷ [])) (e.goes.goes (Straight C.result) [] refl)
    ∙ end-goes C (Straight C.result) e.after [] to refl e.fit in
    goes_through C body (reached-walk C (code_of body) (begin C) [] from (to + 1) r)

pub body_refused : (C : Context) (body : List WInstr) (from at : ℕ) (r : WRule) → from ≡ 0 → ViolatesList C (C.result ∷ []) C.result (flat_map tokens_of body) from at r → IsFirstViolation C body at r
body_refused C body from at r zero b =
    let j : judge C (code_of body) (begin C) from ≡ ViolatedAt at r = broken C (Straight C.result) [] [] (flat_map tokens_of body) End [] from at r refl (λ after f. end-refuses C (Straight C.result) after [] f) b in
    let i = refused-stopped C (code_of body) (begin C) from at r j in
    let s = i.2 in
    let place = i.1 in
    let long = s.long in
    let here : length s.front ≡ at = omega (arith, place, long, zero) in
    subst (λ (n : ℕ). IsFirstViolation C body n r) here (first_violation C body s.front s.token s.rest s.top s.around r s.parted s.came s.refused)

-- the same, as the code has labels, place and rule
pub body_valid : {C : Context} {body : List WInstr} {ls : Labels} {to : ℕ} (from : ℕ) → ls ≡ [] → TypesList C (C.result ∷ ls) C.result (flat_map tokens_of body) from to → IsTypedBody C body
body_valid {C} {body} {ls} {to} from el e = body_typed C body from to (subst (λ (x : Labels). TypesList C (C.result ∷ x) C.result (flat_map tokens_of body) from to) el e)

pub body_invalid : (C : Context) (body : List WInstr) (ls : Labels) (at at' : ℕ) (r r' : WRule) → ls ≡ [] → at ≡ at' → r ≡ r' → ViolatesList C (C.result ∷ ls) C.result (flat_map tokens_of body) 0 at r → IsFirstViolation C body at' r'
body_invalid C body ls at at' r r' el ea er b =
    subst (λ (x : WRule). IsFirstViolation C body at' x) er (subst (λ (n : ℕ). IsFirstViolation C body n r) ea
    (body_refused C body 0 at r refl (subst (λ (x : Labels). ViolatesList C (C.result ∷ x) C.result (flat_map tokens_of body) 0 at r) el b)))
