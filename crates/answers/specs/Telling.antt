-- The pass's loop: at offset p of session b, with the answers of the commands before it at the front of the list.
use Rattle.std.specs.Prelude.{ℕ, ◌+◌, ◌*◌, ◌≤◌, ◌≡◌, List, ◌++◌, map, length, drop, Option}
use Rattle.rules.specs.Sizes.{max_commands}
use Rattle.rules.specs.Bytes.{read_from}
use Rattle.rules.specs.State.{State}
use Rattle.rules.specs.Calls as calls
use Rattle.rules.specs.Answers.{replies, session_replies}
use Rattle.text.specs.Wrote.{Wrote}
use Rattle.state.specs.Slices.{Slices}
use Rattle.state.specs.View.{shown}
use Rattle.state.specs.declared.Answer.{Answer}
use Rattle.tally.specs.declared.Tally.{Tally}
use Rattle.tally.specs.Figures.{figures}
use Rattle.session.specs.Meaning.{reply_in}
use Rattle.session.specs.Looping.{Looping}
use Rattle.codes.specs.Codes.{answer_code}
use Rattle.codes.specs.Decoding.{answer_of}

-- The numbers of these answers were stored from `at` on, and a host reads them as these answers. `end` is the place behind them.
pub record Numbered (before : List ℕ) (at : ℕ) (told : List calls.Reply) (room end : ℕ) (after : List ℕ) : Type 0 where
  pub wrote : Wrote before at (map answer_code told) room end after
  pub again : map answer_of (map answer_code told) ≡ told

-- all answers of session b, of m sheets, as far as the room goes: n of them, each of two bytes behind the header at least, but for the last, which may be a
-- refusal of one
pub record Listed (b : List ℕ) (m : ℕ) (before : List ℕ) (n : ℕ) (after : List ℕ) : Type 0 where
  pub listed : Numbered before 0 (session_replies b) max_commands n after
  pub few : 2 * n + m + 1 ≤ length b

-- the answers from offset p on, in state s
abbrev pub rest : List ℕ → State → (p : ℕ) → List calls.Reply
rest b s p = replies s (read_from 0 p (drop p b)).steps (read_from 0 p (drop p b)).stop

pub record Telling (b : List ℕ) (m : ℕ) (x : Slices) (p : ℕ) (before after : List ℕ) (count : ℕ) : Type 0 where
  pub tally : Tally  -- what a run would have counted: no answer depends on it
  pub last : Option Answer
  pub looping : Looping b m x tally (reply_in last) p
  pub done : List calls.Reply
  pub listed : Numbered before 0 done count count after
  pub same : done ++ rest b (shown m x (figures tally)) p ≡ session_replies b
  pub few : 2 * count + (2 + m) ≤ p  -- a command has two bytes at least
