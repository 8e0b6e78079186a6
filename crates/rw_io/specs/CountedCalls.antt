-- What a call does to the counts of a shelf or a sink that counts exactly: a failure raises the count of its kind by one, a
-- stall that of stalls, and nothing else raises any; this project's own.
use Rattle.std.specs.Prelude.{◌≡◌, ℕ, List, true, false, ◌&&◌, ◌==◌, length, nat_lt, if◌then◌else◌}
use Rattle.std.specs.declared.result.Result.{Result}
use Rattle.std.specs.declared.result.Result.TheVariants.{Ok, Err}
use Rattle.rw_io.specs.declared.error.LoadError.{LoadError}
use Rattle.rw_io.specs.declared.error.LoadError.TheVariants.{Failed as LoadFailed}
use Rattle.rw_io.specs.declared.error.PutError.{PutError}
use Rattle.rw_io.specs.declared.error.PutError.TheVariants.{Failed}
use Rattle.rw_io.specs.Counts.{raised}
use Rattle.rw_io.specs.Pieces.{Answer}
use Rattle.rw_io.specs.States.{ShelfState, SinkState}

-- the count of failed loads after a load
abbrev pub faults_after_load : {T : Type 0} → Result T LoadError → ℕ → ℕ
faults_after_load (Err LoadFailed) faults = raised faults
faults_after_load _ faults = faults

-- the count of failures after a create, an append or a put
abbrev pub faults_after : {T : Type 0} → Result T PutError → ℕ → ℕ
faults_after (Err Failed) faults = raised faults
faults_after _ faults = faults

-- the count of stalls after so many bytes of a piece were taken
abbrev pub stalls_after : ℕ → List ℕ → ℕ → ℕ
stalls_after count piece stalls = if (count == 0) && nat_lt 0 (length piece) then raised stalls else stalls

-- the count of stalls after a piece was offered
abbrev pub stalls_after_put : Answer → List ℕ → ℕ → ℕ
stalls_after_put (Ok count) piece stalls = stalls_after count piece stalls
stalls_after_put (Err _) piece stalls = stalls

-- a load counts its failure
pub record CountsLoad {T : Type 0} (answer : Result T LoadError) (before after : ShelfState) : Type 0 where
  pub load_faults : after.load_faults ≡ faults_after_load answer before.load_faults
  pub put_faults : after.put_faults ≡ before.put_faults
  pub stalls : after.stalls ≡ before.stalls

-- a create counts its failure
pub record CountsCreate {T : Type 0} (answer : Result T PutError) (before after : ShelfState) : Type 0 where
  pub load_faults : after.load_faults ≡ before.load_faults
  pub put_faults : after.put_faults ≡ faults_after answer before.put_faults
  pub stalls : after.stalls ≡ before.stalls

-- an append counts its failure and its stall, which needs something created
pub record CountsAppend (piece : List ℕ) (answer : Answer) (before after : ShelfState) : Type 0 where
  pub load_faults : after.load_faults ≡ before.load_faults
  pub put_faults : after.put_faults ≡ faults_after answer before.put_faults
  pub stalls : before.holding.has_created ≡ true → after.stalls ≡ stalls_after_put answer piece before.stalls
  pub no_stall : before.holding.has_created ≡ false → after.stalls ≡ before.stalls

-- a put counts its failure and its stall
pub record CountsPut (piece : List ℕ) (answer : Answer) (before after : SinkState) : Type 0 where
  pub faults : after.faults ≡ faults_after answer before.faults
  pub stalls : after.stalls ≡ stalls_after_put answer piece before.stalls
