-- The points of a code in byte order, and how many operands stand there (this project's own): what the height of a code is
-- the greatest of.
use Rattle.std.specs.Prelude.{◌≡◌, ℕ, ◌+◌, ◌≤◌, Bool, true, false, if◌then◌else◌, List, [], ◌∷◌, ◌++◌, length}
use Rattle.wasm_ast.specs.declared.types.ValTy.{ValTy}
use Rattle.wasm_ast.specs.declared.instructions.WInstr.{WInstr}
use Rattle.wasm_ast.specs.Operations.{Operation, operation_in}
use Rattle.wasm_ast.specs.Operations as op
use Rattle.wasm_typing.specs.declared.context.Context.{Context}
use Rattle.wasm_typing.specs.Tokens.{Token, Plain, OpensBlock, OpensLoop, OpensIf, Else, End, code_of}
use Rattle.wasm_typing.specs.ByteOrder.{Open, Leads, start}

-- an unconditional branch, or `unreachable`: what stands behind it in its list is not reached
abbrev pub never_goes_on : {A : Type 0} → Operation A → Bool
never_goes_on op.Unreachable = true
never_goes_on (op.Br label) = true
never_goes_on (op.BrTable labels default) = true
never_goes_on op.Return = true
never_goes_on _ = false

-- for each open list, the innermost first, whether no unconditional branch precedes in it or in a list around it: behind one
-- token more
abbrev pub reached_behind : Token → List Bool → List Bool
reached_behind t [] = []
reached_behind (Plain w) (r ∷ rs) = (if never_goes_on (operation_in w) then false else r) ∷ rs
reached_behind (OpensBlock t) (r ∷ rs) = r ∷ r ∷ rs
reached_behind (OpensLoop t) (r ∷ rs) = r ∷ r ∷ rs
reached_behind (OpensIf t) (r ∷ rs) = r ∷ r ∷ rs
reached_behind Else (r ∷ []) = []
reached_behind Else (r ∷ around ∷ rs) = around ∷ around ∷ rs
reached_behind End (r ∷ rs) = rs

-- and behind these tokens
abbrev pub reached : List Token → List Bool → List Bool
reached [] rs = rs
reached (t ∷ ts) rs = reached ts (reached_behind t rs)

-- of the innermost list
abbrev pub is_reached : List Bool → Bool
is_reached [] = true
is_reached (r ∷ rs) = r

-- how many operands stand in all open lists together
abbrev pub standing : List (Open (List ValTy)) → ℕ
standing [] = 0
standing (o ∷ os) = length o.operands + standing os

module _ (C : Context) where
  -- behind these first tokens of a code, no unconditional branch precedes, and so many operands may stand
  pub record IsPoint (code front : List Token) (n : ℕ) : Type 0 where
    pub behind : List Token
    pub parted : code ≡ front ++ behind
    pub reaches : is_reached (reached front (true ∷ [])) ≡ true
    pub stacks : List (Open (List ValTy))
    pub leads : Leads C front (start C) stacks
    pub count : standing stacks ≡ n

  -- the greatest number of operands at a point
  pub record IsHeight (body : List WInstr) (h : ℕ) : Type 0 where
    pub bounds : (front : List Token) (n : ℕ) → IsPoint (code_of body) front n → n ≤ h
    pub front : List Token
    pub met : IsPoint (code_of body) front h
