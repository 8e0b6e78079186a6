-- What holds of the lists that a call has open: each is typed, and what it may yet put on the operands fits the room of the call
-- (WebAssembly Core Specification 1.0, appendix A.5, "configuration validity"; the room is this project's own).
use Rattle.std.specs.Prelude.{◌≡◌, ℕ, ◌+◌, ◌≤◌, List, [], ◌∷◌, ◌++◌, Option, None, length, option_to_list}
use Rattle.wasm_ast.specs.declared.types.ValTy.{ValTy}
use Rattle.wasm_ast.specs.declared.instructions.WInstr.{WInstr}
use Rattle.wasm_grammar.specs.ProfileInstructions.{InstructionsFit}
use Rattle.wasm_typing.specs.declared.context.Context.{Context}
use Rattle.wasm_typing.specs.Typing.{Labels, AreTyped}
use Rattle.wasm_typing.specs.Heights.{met_list, met_of}
use Rattle.wasm_execution.specs.Types.{results_of}
use Rattle.wasm_execution.specs.Configurations.{Aim, Past, Back, Level}
use Rattle.wasm_machine_typing.specs.Values.{AreOf}

-- how many operands stand beneath the innermost list
abbrev pub count_beneath : List Level → ℕ
count_beneath [] = 0
count_beneath (l ∷ ls) = length l.beneath + count_beneath ls

module _ (C : Context) (room : ℕ) where
  -- what is left of a list, over these operands and so many beneath them, where the list gives this result
  pub record Runs (ls : Labels) (rest : List WInstr) (operands : List ℕ) (under : ℕ) (result : Option ValTy) : Type 0 where
    pub types : List ValTy
    pub values : AreOf types operands
    pub typed : AreTyped C ls rest types (option_to_list result)
    pub numbers : InstructionsFit rest
    pub fits : (met_list (met_of C) rest ls (length operands + under)).most ≤ room

  -- where a branch to a list leads: past its end with what it gives, or to its start with nothing
  abbrev pub IsTypedAim : Aim → Labels → ℕ → Option ValTy → Option ValTy → Type 0
  IsTypedAim Past ls under label result = label ≡ result
  IsTypedAim (Back body) ls under label result = (label ≡ None) × Runs (None ∷ ls) body [] under result

  -- the open lists, whose labels these are, and of which the innermost gives this result; the last label is that of the body
  abbrev pub AreOpen : List Level → Labels → Option ValTy → Type 0
  AreOpen [] ls result = (ls ≡ C.result ∷ []) × (result ≡ C.result)
  AreOpen (l ∷ levels) [] result = ⊥
  AreOpen (l ∷ levels) (label ∷ ls) result =
      (outer : Option ValTy) × (l.takes ≡ results_of label) × (l.gives ≡ results_of result) × IsTypedAim l.aim ls (length l.beneath + count_beneath levels) label result
      × ((vs : List ℕ) → AreOf (option_to_list result) vs → Runs ls l.rest (vs ++ l.beneath) (count_beneath levels) outer) × AreOpen levels ls outer
