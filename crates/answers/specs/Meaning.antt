-- The call that lists every command's answer.
use Rattle.std.specs.Prelude.{ℕ, ◌≡◌, Bool, true, false, List, map, length, take}
use Rattle.rules.specs.Bytes.{opens}
use Rattle.rules.specs.Writing as lists
use Rattle.rules.specs.Answers.{session_replies}
use Rattle.codes.specs.Codes.{answer_code}
use Rattle.codes.specs.Decoding.{answer_of, outcome_in}

-- the answers' numbers at the front of the room: 1, then 15, which says how many there are; nothing is written
abbrev pub answers_if : (opens : Bool) → (session room : List ℕ) → lists.Call
answers_if true b room = lists.put (length (session_replies b)) (lists.wrote (length (session_replies b))) (map answer_code (session_replies b)) room
answers_if false b room = record { outcome = lists.refuse_with (lists.at 0 1); room = room }

unfoldable pub answers_call : (session room : List ℕ) → lists.Call
answers_call b room = answers_if (opens b) b room

-- What a host reads: where the call's number says that n answers were written, the first n numbers of the room are the session's answers.
abbrev pub AnswersAgain : (session : List ℕ) (code : ℕ) (room : List ℕ) → Type 0
AnswersAgain b code room = (n : ℕ) → outcome_in code ≡ lists.wrote n → map answer_of (take n room) ≡ session_replies b
