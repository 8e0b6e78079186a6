-- How deep blocks nest, which bounds the host's stack while a body is read or written (this project's own).
use Rattle.std.specs.Prelude.{ℕ, ◌+◌, ◌≤◌, max, List, [], ◌∷◌, All}
use Rattle.wasm_ast.specs.declared.instructions.WInstr.{WInstr}
use Rattle.wasm_ast.specs.declared.modules.WModule.{WModule}
use Rattle.wasm_ast.specs.Immediates.{Immediate, Body, Bodies}
use Rattle.wasm_ast.specs.Folds.{fold_by}

-- the greatest number that `of` gives for an element, or 0
abbrev pub greatest : {A : Type 0} → (A → ℕ) → List A → ℕ
greatest of [] = 0
greatest of (x ∷ xs) = max (of x) (greatest of xs)

-- the nesting of what has these immediates, where `nested` gives that of a nested instruction
abbrev pub immediate_nesting : {A : Type 0} → (A → ℕ) → Immediate A → ℕ
immediate_nesting nested (Body t xs) = 1 + greatest nested xs
immediate_nesting nested (Bodies t xs ys) = 1 + max (greatest nested xs) (greatest nested ys)
immediate_nesting nested _ = 0

-- how many blocks, loops and ifs are open at once inside an instruction, itself counted
abbrev pub nesting : WInstr → ℕ
nesting = fold_by (λ _ immediate. immediate_nesting (λ depth. depth) immediate)

-- no more than so many blocks, loops and ifs are open at once in a list of instructions
abbrev pub NestsAtMost : ℕ → List WInstr → Type 0
NestsAtMost most xs = greatest nesting xs ≤ most

-- the most blocks, loops and ifs that this project's profile has open at once in a body
abbrev pub nesting_limit : ℕ
nesting_limit = 1000

-- each body and constant expression of a module nests at most so deep
pub record ModuleNestsAtMost (most : ℕ) (m : WModule) : Type 0 where
  pub codes : All (λ c. NestsAtMost most c.body) m.codes
  pub globals : All (λ g. nesting g.init ≤ most) m.globals
  pub elements : All (λ s. nesting s.offset ≤ most) m.elements
  pub segments : All (λ s. nesting s.offset ≤ most) m.segments
