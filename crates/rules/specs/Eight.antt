-- "Refusal 8 never occurs any more": document 02 [7]. It follows from the tests (proofs/Eight.antt).
use Rattle.std.specs.Prelude.{ℕ, ◌≢◌, List}
use Rattle.rules.specs.Bytes.{Command, Stop, ended, stopped}
use Rattle.rules.specs.State.{State}
use Rattle.rules.specs.Steps.{refuse, check}
use Rattle.rules.specs.Calls.{stop}

-- where a session stops, if it does, another number is given
abbrev pub NotEight : Stop → Type 0
NotEight ended = Unit {0}
NotEight (stopped p n shown) = n ≢ 8

-- of no command in any state, and not of this session
pub record NeverEight (b : List ℕ) : Type 0 where
  pub steps : (s : State) (c : Command) → check s c ≢ refuse 8
  pub session : NotEight (stop b)
