-- How long a state's text may be.
use Rattle.std.specs.Prelude.{ℕ, ◌≤◌, ◌≡◌, true, List, length}
use Rattle.rules.specs.Sizes.{max_state}
use Rattle.rules.specs.Bytes.{opens}
use Rattle.rules.specs.Calls.{session_run}
use Rattle.rules.specs.Showing.{state_text}

-- no state's text is longer
abbrev pub ShortText : List ℕ → Type 0
ShortText b = opens b ≡ true → length (state_text (session_run b).state) ≤ max_state
