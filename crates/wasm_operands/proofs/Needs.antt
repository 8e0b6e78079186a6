-- Slots are taken one after another.
use Rattle.std.proofs.Common.{◌≡◌, ◌∙◌, Bool, true, false, List, [], ◌∷◌, ◌++◌, map, reverse, refl, ap}
use Rattle.std.specs.Prelude.{Option, Some, None, Ok, Err, option_map, if◌then◌else◌}
use Rattle.std.proofs.lemmas.List.{reverse-append}
use Rattle.wasm_ast.specs.declared.types.ValTy.{ValTy}
use Rattle.wasm_typing.specs.Signatures.{Slot, The, Gives, Anything, ◌⇒◌, leaves}
use Rattle.wasm_typing_laws.specs.Checking.{Seen, agrees, take_slots, took, left_of, go_on}
use Rattle.wasm_operands.specs.Taking.{needed, applied}

pub needed-cons : (t : ValTy) (ss : List Slot) (ks : List (Option ValTy)) (any : Bool) → needed (The t ∷ ss) (record { known = ks; any = any }) ≡ go_on (needed (The t ∷ []) (record { known = ks; any = any })) (needed ss)
needed-cons t ss [] true = refl
needed-cons t ss [] false = refl
needed-cons t ss (k ∷ ks) any =
    elim (agrees k t) as (λ b. go_on (took (if b then Some None else None) (λ now. take_slots ss now ks any)) (λ r. Ok (record { known = r.known; any = any })) ≡ go_on (go_on (took (if b then Some None else None) (λ now. take_slots [] now ks any)) (λ r. Ok (record { known = r.known; any = any }))) (needed ss)) [ true ↦ refl | false ↦ refl ]

abbrev pub and_known : Option ValTy → Seen → Seen
and_known None s = s
and_known (Some t) s = record { known = Some t ∷ s.known; any = s.any }

pub applied-gives : (ss : List Slot) (g : Option ValTy) (s : Seen) → applied (ss ⇒ option_map The g) s ≡ go_on (needed ss s) (λ now. Ok (and_known g now))
applied-gives ss None s =
    elim (take_slots ss None s.known s.any) as (λ x. go_on x (λ r. Ok (left_of (Gives None) r s.any)) ≡ go_on (go_on x (λ r. Ok (record { known = r.known; any = s.any }))) (λ now. Ok (and_known None now))) [ Err e ↦ refl | Ok r ↦ refl ]
applied-gives ss (Some t) s =
    elim (take_slots ss None s.known s.any) as (λ x. go_on x (λ r. Ok (left_of (Gives (Some (The t))) r s.any)) ≡ go_on (go_on x (λ r. Ok (record { known = r.known; any = s.any }))) (λ now. Ok (and_known (Some t) now))) [ Err e ↦ refl | Ok r ↦ refl ]

abbrev pub anything : Seen
anything = record { known = []; any = true }

pub applied-leaves : (ss : List Slot) (s : Seen) → applied (leaves ss) s ≡ go_on (needed ss s) (λ now. Ok anything)
applied-leaves ss s =
    elim (take_slots ss None s.known s.any) as (λ x. go_on x (λ r. Ok (left_of Anything r s.any)) ≡ go_on (go_on {B = Seen} x (λ r. Ok (record { known = r.known; any = s.any }))) (λ now. Ok anything)) [ Err e ↦ refl | Ok r ↦ refl ]

map-more : {A B : Type 0} (f : A → B) (xs : List A) (x : A) → map f (xs ++ x ∷ []) ≡ map f xs ++ f x ∷ []
map-more f [] x = refl
map-more f (y ∷ xs) x = ap (λ rest. f y ∷ rest) (map-more f xs x)

pub last-first : (rest : List ValTy) (last : ValTy) → reverse (map The (rest ++ last ∷ [])) ≡ The last ∷ reverse (map The rest)
last-first rest last = ap reverse (map-more The rest last) ∙ reverse-append (map The rest) (The last ∷ [])
