-- The checker: what is known of the operands of each open list (WebAssembly Core Specification 1.0, appendix A.3).
use Rattle.std.specs.Prelude.{Bool, true, false, ◌&&◌, List, [], ◌∷◌, ◌++◌, Option, Some, None, Result, Ok, Err, map, option_to_list, if◌then◌else◌}
use Rattle.wasm_ast.specs.declared.types.ValTy.{ValTy}
use Rattle.wasm_ast.specs.declared.types.ValTy.TheVariants.{I32}
use Rattle.wasm_typing.specs.declared.rule.WRule.{WRule}
use Rattle.wasm_typing.specs.declared.rule.WRule.TheVariants.{OperandMissing, OperandType, EndOperands}
use Rattle.wasm_typing.specs.declared.context.Context.{Context}
use Rattle.wasm_typing.specs.Signatures.{Slot, The, Same, Left, Gives, Anything, signature_in}
use Rattle.wasm_ast.specs.SameTypes.{is_same_value_type}
use Rattle.wasm_typing.specs.Tokens.{Token, Plain, OpensBlock, OpensLoop, OpensIf, Else, End}
use Rattle.wasm_typing.specs.ByteOrder.{Shape, Straight, Again, FirstArm, Open, labels, result_of, put}

-- the operands that are known to be there, some of them of a known type, and whether any others may stand beneath
pub record Seen : Type 0 where
  pub known : List (Option ValTy)
  pub any : Bool

-- what was taken: the one type at which the instruction is used, where it is known, and what is left
pub record Taken : Type 0 where
  pub same : Option ValTy
  pub known : List (Option ValTy)

abbrev pub agrees : Option ValTy → ValTy → Bool
agrees None t = true
agrees (Some u) t = is_same_value_type u t

abbrev pub meet : Option ValTy → Option ValTy → Option (Option ValTy)
meet None k = Some k
meet (Some u) None = Some (Some u)
meet (Some u) (Some v) = if is_same_value_type u v then Some (Some u) else None

abbrev pub take_one : Slot → Option ValTy → Option ValTy → Option (Option ValTy)
take_one (The u) same k = if agrees k u then Some same else None
take_one Same same k = meet same k

abbrev pub took : {A : Type 0} → Option (Option ValTy) → (Option ValTy → Result A WRule) → Result A WRule
took None go = Err OperandType
took (Some same) go = go same

abbrev pub take_slots : List Slot → Option ValTy → List (Option ValTy) → Bool → Result Taken WRule
take_slots [] same ks any = Ok (record { same = same; known = ks })
take_slots (s ∷ ss) same [] true = take_slots ss same [] true
take_slots (s ∷ ss) same [] false = Err OperandMissing
take_slots (s ∷ ss) same (k ∷ ks) any = took (take_one s same k) (λ now. take_slots ss now ks any)

abbrev pub known_slot : Option ValTy → Slot → Option ValTy
known_slot same (The t) = Some t
known_slot same Same = same

abbrev pub left_of : Left → Taken → Bool → Seen
left_of (Gives None) r any = record { known = r.known; any = any }
left_of (Gives (Some s)) r any = record { known = known_slot r.same s ∷ r.known; any = any }
left_of Anything r any = record { known = []; any = true }

-- exactly these operands stand there, as far as is known
abbrev pub fits : List ValTy → List (Option ValTy) → Bool → Bool
fits [] [] any = true
fits [] (k ∷ ks) any = false
fits (t ∷ ts) [] any = any
fits (t ∷ ts) (k ∷ ks) any = agrees k t && fits ts ks any

abbrev pub go_on : {A B : Type 0} → Result A WRule → (A → Result B WRule) → Result B WRule
go_on (Err e) go = Err e
go_on (Ok a) go = go a

abbrev pub fresh : Shape → Open Seen
fresh shape = record { shape = shape; operands = record { known = []; any = false } }

abbrev pub may_end : Shape → Bool
may_end (FirstArm (Some t)) = false
may_end _ = true

abbrev pub hand : Option ValTy → List (Open Seen) → List (Open Seen)
hand t [] = []
hand t (a ∷ as') = put a (record { known = map (λ u. Some u) (option_to_list t) ++ a.operands.known; any = a.operands.any }) ∷ as'

abbrev pub second_arm : Shape → Seen → List (Open Seen) → Result (List (Open Seen)) WRule
second_arm (FirstArm t) s as' = if fits (option_to_list t) s.known s.any then Ok (fresh (Straight t) ∷ as') else Err EndOperands
second_arm _ s as' = Err EndOperands

module _ (C : Context) where
  abbrev pub check : Token → List (Open Seen) → Result (List (Open Seen)) WRule
  check t [] = Err EndOperands
  check (Plain w) (a ∷ as') = go_on (signature_in C (labels (a ∷ as')) w) (λ s. go_on (take_slots s.takes None a.operands.known a.operands.any) (λ r. Ok (put a (left_of s.left r a.operands.any) ∷ as')))
  check (OpensBlock t) (a ∷ as') = Ok (fresh (Straight t) ∷ a ∷ as')
  check (OpensLoop t) (a ∷ as') = Ok (fresh (Again t) ∷ a ∷ as')
  check (OpensIf t) (a ∷ as') = go_on (take_slots (The I32 ∷ []) None a.operands.known a.operands.any) (λ r. Ok (fresh (FirstArm t) ∷ put a (record { known = r.known; any = a.operands.any }) ∷ as'))
  check Else (a ∷ as') = second_arm a.shape a.operands as'
  check End (a ∷ as') = if may_end a.shape then (if fits (option_to_list (result_of a.shape)) a.operands.known a.operands.any then Ok (hand (result_of a.shape) as') else Err EndOperands) else Err EndOperands

  abbrev pub walk : List Token → List (Open Seen) → Result (List (Open Seen)) WRule
  walk [] as' = Ok as'
  walk (t ∷ ts) as' = go_on (check t as') (walk ts)

  abbrev pub begin : List (Open Seen)
  begin = fresh (Straight C.result) ∷ []
