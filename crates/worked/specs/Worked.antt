-- The worked session: its commands, and the rules' state after the first of them.
use Rattle.std.specs.Prelude.{ℕ, zero, suc, List, [], ◌∷◌, get_or}
use Rattle.rules.specs.Bytes.{Header, Command, Begin, Read, Write, Submit, Take, Decide, Apply, GiveUp}
use Rattle.rules.specs.State.{State, fresh}
use Rattle.rules.specs.Steps.{step}
use Rattle.state.specs.Starts.{header_by}

abbrev commands : List Command
commands =
    Begin 0 ∷ Begin 1 ∷ Read 0 0 ∷ Read 1 0 ∷ Write 0 0 7 ∷ Write 1 0 9 ∷ Submit 0 ∷ Submit 1 ∷ Take 0 ∷ Take 0 ∷ Decide 0 ∷ Apply 0 0 ∷ Decide 1
    ∷ Read 1 0 ∷ Write 1 0 9 ∷ Submit 1 ∷ Apply 0 1 ∷ []

abbrev pub command_at : ℕ → Command
command_at i = get_or commands i (GiveUp 0)

-- sheet 0 stands at node 0, sheet 1 at node 1
abbrev pub header : Header
header = header_by 2 (0 ∷ 1 ∷ [])

-- the state after n commands
unfoldable pub state_after : ℕ → State
state_after zero = fresh header
state_after (suc n) = (step (state_after n) (command_at n)).state
