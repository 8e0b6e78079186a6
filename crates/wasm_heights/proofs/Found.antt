-- What an instruction whose index or immediate may be wrong takes and gives.
use Rattle.std.proofs.Common.{◌≡◌, ◌∙◌, Bool, true, false, Option, Some, None, is_some, refl, sym, ap}
use Rattle.std.specs.Prelude.{Result, Ok, if◌then◌else◌}
use Rattle.wasm_typing.specs.declared.rule.WRule.{WRule}
use Rattle.wasm_typing.specs.Signatures.{Signature, found, needs}
use Rattle.wasm_heights.specs.declared.change.Change.{Change}
use Rattle.wasm_heights.specs.Changes.{change_of}

pub found_some : {A : Type 0} (rule : WRule) (o : Option A) (k : A → Result Signature WRule) (r : Change) {b : Bool} {res : Option Change} → res ≡ (if b then Some r else None) → b ≡ is_some o → ((x : A) → change_of (k x) ≡ Some r) → res ≡ change_of (found rule o k)
found_some rule None k r {b} {res} er eb h = er ∙ ap (λ (t : Bool). if t then Some r else None) eb
found_some rule (Some x) k r {b} {res} er eb h = er ∙ ap (λ (t : Bool). if t then Some r else None) eb ∙ sym (h x)

pub needs_some : (rule : WRule) (b : Bool) (s : Signature) (r : Change) {res : Option Change} → res ≡ (if b then Some r else None) → change_of (Ok s) ≡ Some r → res ≡ change_of (needs rule b s)
needs_some rule true s r er h = er ∙ sym h
needs_some rule false s r er h = er

-- a branch that is always taken, whether its label is there or not
pub found_none : {A : Type 0} (rule : WRule) (o : Option A) (k : A → Result Signature WRule) → ((x : A) → None ≡ change_of (k x)) → None ≡ change_of (found rule o k)
found_none rule None k h = refl
found_none rule (Some x) k h = h x

pub needs_none : (rule : WRule) (b : Bool) (s : Signature) → None ≡ change_of (Ok s) → None ≡ change_of (needs rule b s)
needs_none rule true s h = h
needs_none rule false s h = refl
