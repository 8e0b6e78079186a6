-- The locals of a function are read exactly, with their running total; and so are functions and codes, where
-- expressions are.
use Rattle.std.proofs.Common.{◌≡◌, ◌∙◌, ℕ, zero, suc, ◌+◌, ◌^◌, ◌<◌, ◌≤◌, List, [], ◌∷◌, length, refl, sym, ap, subst, arith, lit≤, length-append, None}
use Rattle.std.specs.Prelude.{if◌then◌else◌, nat_lt, ◌==◌}
use Rattle.std.proofs.lemmas.Bool.{ltb-true, ltb-false, eqb-true, eqb-false}
use Rattle.std.proofs.lemmas.List.Sums.{sum_by-cons}
use Rattle.wasm_ast.specs.declared.types.ValTy.{ValTy}
use Rattle.wasm_ast.specs.declared.instructions.WInstr.{WInstr}
use Rattle.wasm_ast.specs.declared.modules.Code.{Code}
use Rattle.wasm_ast.specs.declared.modules.LocalRun.{LocalRun}
use Rattle.wasm_grammar.specs.Nesting.{nesting_limit, NestsAtMost}
use Rattle.wasm_grammar.specs.ProfileInstructions.{FitsU32, IsShortListOf}
use Rattle.wasm_grammar.specs.Profile.{local_total, local_limit, CodeFits}
use Rattle.wasm_grammar.specs.GrammarValues.{Joined, IsUnsigned, IsEach, IsVector}
use Rattle.wasm_grammar.specs.GrammarTypes.{IsValueType}
use Rattle.wasm_grammar.specs.GrammarInstructions.{IsExpression}
use Rattle.wasm_grammar.specs.GrammarModules.{IsLocalRun, IsFunction, IsCode}
use Rattle.wasm_reading.specs.declared.fault.DecodeFault.TheVariants.{CountMismatch, LimitOutside}
use Rattle.wasm_reading.specs.Readers.{◌>>=◌, give, fail, each_at}
use Rattle.wasm_reading.specs.ReadValues.{tag_at}
use Rattle.wasm_reading.specs.ReadTypes.{value_type_of}
use Rattle.wasm_reading.specs.ReadInstructions.{expression_at}
use Rattle.wasm_reading.specs.ReadModules.{local_runs_at, function_at, code_at, codes_at}
use Rattle.wasm_reading_values.specs.Exactness.{Exact}
use Rattle.wasm_reading_values.specs.EntriesRead.{AreRuns, LocalsReadExactly, ExpressionsReadExactly, ShortExpressionsFit, CodesReadExactly}
use Rattle.wasm_reading_values.proofs.Compose.{from_left, from_right, alike, giving, failing, branch, placed, followed, followed_where, made, field, last_field, fields}
use Rattle.wasm_reading_values.proofs.ExactNumbers.{u32}
use Rattle.wasm_reading_values.proofs.ExactLists.{unsigned_fits, each, each_fits, each_apart, each_together, sized}
use Rattle.wasm_reading_values.proofs.ExactTables.{value_type_byte}

-- the type of a run, where the limit has room for the run
run_type : (before count place : ℕ) → Exact (if nat_lt local_limit (before + count) then fail LimitOutside place else tag_at value_type_of) (λ t bytes. (before + count ≤ local_limit) × IsValueType t bytes)
run_type before count place =
    branch (nat_lt local_limit (before + count)) (fail LimitOutside place) _ _
    (λ e. failing LimitOutside place _ (λ t bytes p. omega (arith, ltb-true local_limit (before + count) e, p.0)))
    (λ e. alike value_type_byte (λ t bytes p. (ltb-false local_limit (before + count) e, p)) (λ t bytes p. p.1))

-- runs by the parts of the first one
abbrev RunsByParts : ℕ → ℕ → List LocalRun → List ℕ → Type 0
RunsByParts before n runs bytes =
    (count : ℕ) × Joined (IsUnsigned count) (λ behind. (t : ValTy) × Joined (λ front. (before + count ≤ local_limit) × IsValueType t front)
    (λ back. (rest : List LocalRun) × (runs ≡ record { count = count; ty = t } ∷ rest) × AreRuns (before + count) n rest back) behind) bytes

from_run : (before n : ℕ) (runs : List LocalRun) (bytes : List ℕ) → RunsByParts before n runs bytes → AreRuns before (suc n) runs bytes
from_run before n runs bytes p =
    let q = p.1 in
    let r = q.second.1 in
    let run : LocalRun = record { count = p.0; ty = q.second.0 } in
    let rest = r.second.0 in
    let total : before + local_total (run ∷ rest) ≤ local_limit = omega (arith, sum_by-cons (λ (s : LocalRun). s.count) run rest, r.second.2.0.1) in
    let whole : IsEach IsLocalRun (run ∷ rest) bytes = from_right bytes (record { front = q.front; back = q.back; first = q.first; second = record { front = r.front; back = r.back; first = r.first.1; second = r.second.2.1; whole = r.whole }; whole = q.whole }) in
    subst (λ rs. AreRuns before (suc n) rs bytes) (sym r.second.1) ((omega (arith, r.second.2.0.0), total), whole)

to_run : (before n : ℕ) (runs : List LocalRun) (bytes : List ℕ) → AreRuns before (suc n) runs bytes → RunsByParts before n runs bytes
to_run before n [] bytes p = absurd (omega (arith, p.0.0))
to_run before n (run ∷ rest) bytes p =
    let q = from_left bytes p.1 in
    let r = q.second in
    let total : before + run.count + local_total rest ≤ local_limit = omega (arith, sum_by-cons (λ (s : LocalRun). s.count) run rest, p.0.1) in
    let fits : before + run.count ≤ local_limit = omega (arith, total) in
    let size : length rest ≡ n = omega (arith, p.0.0) in
    (run.count, record { front = q.front; back = q.back; first = q.first; second = (run.ty, record { front = r.front; back = r.back; first = (fits, r.first); second = (rest, refl, ((size, total), r.second)); whole = r.whole }); whole = q.whole })

no_run : (before : ℕ) (runs : List LocalRun) (bytes : List ℕ) → AreRuns before 0 runs bytes → (runs ≡ []) × (bytes ≡ [])
no_run before [] bytes p = (refl, p.1)
no_run before (run ∷ rest) bytes p = absurd (omega (arith, p.0.0))

-- so many runs of locals
pub local_runs : LocalsReadExactly
local_runs before zero h =
    alike (giving [])
    (λ runs bytes p. subst (λ rs. AreRuns before 0 rs bytes) (sym p.0) ((refl, omega arith), p.1))
    (no_run before)
local_runs before (suc n) h =
    placed _ _ (λ place.
    alike (followed _ (λ count runs behind. (t : ValTy) × Joined (λ front. (before + count ≤ local_limit) × IsValueType t front) (λ back. (rest : List LocalRun) × (runs ≡ record { count = count; ty = t } ∷ rest) × AreRuns (before + count) n rest back) behind) u32 (λ count.
    followed_where None _ (λ t runs back. (rest : List LocalRun) × (runs ≡ record { count = count; ty = t } ∷ rest) × AreRuns (before + count) n rest back) (λ t front back p s. tt) (run_type before count place) (λ t front p.
    made (λ rest. record { count = count; ty = t } ∷ rest) (local_runs (before + count) n p.0))))
    (from_run before n)
    (to_run before n))

-- the runs of locals and the body, behind the count of the runs
locals_and_body : (Body : List WInstr → List ℕ → Type 0) → Exact expression_at Body → (n : ℕ) → Exact (local_runs_at 0 n >>= λ locals. expression_at >>= λ body. give (record { locals = locals; body = body })) (λ (c : Code) bytes. Joined (AreRuns 0 n c.locals) (Body c.body) bytes)
locals_and_body Body body n =
    fields (field (λ (c : Code). c.locals) _ (λ c. Unit {0}) (λ c. Body c.body) (local_runs 0 n (lit≤ tt)) (λ locals.
    last_field (λ (c : Code). c.body) (λ xs. record { locals = locals; body = xs }) (λ c. Unit {0} × (c.locals ≡ locals)) body (λ xs. ((tt, refl), refl))
    (λ c h. λ i. record { locals = h.1 i; body = c.body })))

-- runs of locals within the limit
abbrev AreLocals : List LocalRun → List ℕ → Type 0
AreLocals runs bytes = (local_total runs ≤ local_limit) × IsEach IsLocalRun runs bytes

function_by_parts : (Body : List WInstr → List ℕ → Type 0) → Exact expression_at Body → Exact function_at (λ c bytes. Joined (IsUnsigned (length c.locals)) (Joined (AreLocals c.locals) (Body c.body)) bytes)
function_by_parts Body body =
    fields (field (λ (c : Code). length c.locals) _ (λ c. Unit {0}) (λ c. Joined (AreLocals c.locals) (Body c.body)) u32 (λ n.
    alike (locals_and_body Body body n)
    (λ c bytes p.
    let total : local_total c.locals ≤ local_limit = omega (arith, p.first.0.1) in
    ((tt, p.first.0.0), record { front = p.front; back = p.back; first = (total, p.first.1); second = p.second; whole = p.whole }))
    (λ c bytes p.
    let q = p.1 in
    let total : 0 + local_total c.locals ≤ local_limit = omega (arith, q.first.0) in
    record { front = q.front; back = q.back; first = ((p.0.1, total), q.first.1); second = q.second; whole = q.whole })))

-- a function, whose locals are within the limit, where the bytes of its body are read exactly
pub function_entry : (Body : List WInstr → List ℕ → Type 0) → Exact expression_at Body → Exact function_at (λ c bytes. (local_total c.locals ≤ local_limit) × Joined (IsVector IsLocalRun c.locals) (Body c.body) bytes)
function_entry Body body =
    alike (function_by_parts Body body)
    (λ c bytes p.
    let q = p.second in
    (q.first.0, from_right bytes (record { front = p.front; back = p.back; first = p.first; second = record { front = q.front; back = q.back; first = q.first.1; second = q.second; whole = q.whole }; whole = p.whole })))
    (λ c bytes p.
    let q = from_left bytes p.1 in
    let r = q.second in
    record { front = q.front; back = q.back; first = q.first; second = record { front = r.front; back = r.back; first = (p.0, r.first); second = r.second; whole = r.whole }; whole = q.whole })

run_fits : (r : LocalRun) (bytes : List ℕ) → IsLocalRun r bytes → FitsU32 r.count
run_fits r bytes p = unsigned_fits r.count p.front p.first

-- what is spelled within a size fits the profile
code_fits : ShortExpressionsFit → (c : Code) (bytes : List ℕ) → local_total c.locals ≤ local_limit → IsFunction c bytes → length bytes < 2 ^ 32 → CodeFits c
code_fits fits c bytes total p short =
    let locals = p.first in
    let size : length bytes ≡ length p.front + length p.back = ap length p.whole ∙ length-append p.front p.back in
    let body = fits c.body p.back p.second (omega (arith, short, size)) in
    record {
      locals = record { short = unsigned_fits (length c.locals) locals.front locals.first; each = each_fits (λ (r : LocalRun). FitsU32 r.count) IsLocalRun run_fits c.locals locals.back locals.second };
      local_count = total;
      body_length = body.0;
      body = body.1;
    }

-- an entry of the code section
pub code_entry : ExpressionsReadExactly → ShortExpressionsFit → CodesReadExactly
code_entry expression fits =
    alike (sized (function_entry (λ xs bytes. NestsAtMost nesting_limit xs × IsExpression xs bytes) expression))
    (λ c bytes p.
    let q = p.spelled.1 in
    let spelled : IsFunction c p.content = record { front = q.front; back = q.back; first = q.first; second = q.second.1; whole = q.whole } in
    let short = unsigned_fits (length p.content) p.size p.measured in
    ((code_fits fits c p.content p.spelled.0 spelled short, q.second.0), record { size = p.size; content = p.content; measured = p.measured; spelled = spelled; whole = p.whole }))
    (λ c bytes p.
    let q = p.1.spelled in
    let body : Joined (IsVector IsLocalRun c.locals) (λ back. NestsAtMost nesting_limit c.body × IsExpression c.body back) p.1.content = record { front = q.front; back = q.back; first = q.first; second = (p.0.1, q.second); whole = q.whole } in
    record { size = p.1.size; content = p.1.content; measured = p.1.measured; spelled = (p.0.0.local_count, body); whole = p.1.whole })

-- codes behind their count, which is to be the count of the functions
codes_behind : {Entry : Code → List ℕ → Type 0} → Exact code_at Entry → (functions place n : ℕ) → Exact (if n == functions then each_at code_at n else fail CountMismatch place) (λ cs bytes. (Unit {0} × (length cs ≡ n)) × ((length cs ≡ functions) × IsEach Entry cs bytes))
codes_behind k functions place n =
    branch (n == functions) (each_at code_at n) (fail CountMismatch place) _
    (λ e. alike (each k n) (λ cs bytes p. ((tt, p.0), (p.0 ∙ eqb-true n functions e, p.1))) (λ cs bytes p. (p.0.1, p.1.1)))
    (λ e. failing CountMismatch place _ (λ cs bytes p. eqb-false n functions e (sym p.0.1 ∙ p.1.0)))

-- the codes, of which there are as many as functions
pub codes : {Fits : Code → Type 0} → Exact code_at (λ c bytes. Fits c × IsCode c bytes) → (functions : ℕ) → Exact (codes_at functions) (λ cs bytes. ((length cs ≡ functions) × IsShortListOf Fits cs) × IsVector IsCode cs bytes)
codes {Fits} k functions =
    placed _ _ (λ place.
    alike (fields (field (λ (cs : List Code). length cs) _ (λ cs. Unit {0}) (λ cs bytes. (length cs ≡ functions) × IsEach (λ c front. Fits c × IsCode c front) cs bytes) u32 (codes_behind k functions place)))
    (λ cs bytes p.
    let q = each_apart Fits IsCode cs p.back p.second.1 in
    ((p.second.0, record { short = unsigned_fits (length cs) p.front p.first; each = q.0 }), record { front = p.front; back = p.back; first = p.first; second = q.1; whole = p.whole }))
    (λ cs bytes p.
    let q = p.1 in
    record { front = q.front; back = q.back; first = q.first; second = (p.0.0, each_together Fits IsCode cs q.back p.0.1.each q.second); whole = q.whole }))
