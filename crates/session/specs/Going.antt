-- The run's loop: at offset p of session b, in state s, after a command with answer `last`.
use Rattle.std.specs.Prelude.{ℕ, ◌*◌, ◌≤◌, ◌≡◌, List, length, drop}
use Rattle.rules.specs.Bytes.{header, read_from}
use Rattle.rules.specs.State.{State}
use Rattle.rules.specs.Calls.{Reply}
use Rattle.rules.proofs.Reached.{Reached}
use Rattle.rules.proofs.Sessions.{final, session_final}

pub record Going (b : List ℕ) (s : State) (last : Reply) (p : ℕ) : Type 0 where
  pub same : final s last (read_from 0 p (drop p b)) ≡ session_final b  -- what is left leads where the whole session leads
  pub reached : Reached s
  pub header_is : s.header ≡ header b
  pub within : p ≤ length b
  pub counted : 2 * s.tally.accepted ≤ p  -- a command has two bytes of its own
