-- What `read_all` took from a source, and what it answered.
use Rattle.std.specs.Prelude.{◌≡◌, ℕ, ◌+◌, ◌≤◌, List, length, Option, Result, Ok, Err}
use Rattle.std.specs.declared.vec.Vec.{Vec}
use Rattle.std.specs.declared.alloc.Global.{Global}
use Rattle.kn_bytes.specs.Outside.{RoseBy, Gave, HasEnded}
use Rattle.kn_bytes.specs.declared.read.ReadAll.{ReadAll}
use Rattle.kn_bytes.specs.declared.read.ReadAll.TheVariants.{Fault, TooLong, Memory}

-- how much was taken before this error
abbrev pub TookBefore : ℕ → ReadAll → List ℕ → Type 0
TookBefore limit TooLong bytes = length bytes ≡ limit + 1
TookBefore limit Fault bytes = length bytes ≤ limit
TookBefore limit Memory bytes = length bytes ≤ limit

-- the answer is all that there was, these bytes and no more than the limit; or it is an error
abbrev pub AnswersBytes : ℕ → Option (List ℕ) → Result (Vec ℕ Global) ReadAll → List ℕ → Type 0
AnswersBytes limit left (Ok all) bytes = (all.items ≡ bytes) × (length bytes ≤ limit) × HasEnded left
AnswersBytes limit left (Err error) bytes = TookBefore limit error bytes

-- the bytes that the source gave in this call, how they were counted, and the answer that they had
pub record Took {S : Type 0} (left : S → Option (List ℕ)) (given : S → ℕ) (old new : S) (limit : ℕ) (result : Result (Vec ℕ Global) ReadAll) : Type 0 where
  pub bytes : List ℕ
  pub gave : Gave (left old) (left new) bytes
  pub count : RoseBy (given old) (given new) (length bytes)
  pub answer : AnswersBytes limit (left new) result bytes
