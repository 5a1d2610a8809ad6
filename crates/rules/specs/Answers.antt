-- Every command's answer, in one list: what the course page's host shows beside each step. That it is the answer call's answer of the session
-- cut behind each command follows from the definitions (proofs/Answers.antt).
use Rattle.std.specs.Prelude.{ℕ, ◌+◌, ◌≤◌, ◌≡◌, true, List, [], ◌∷◌, ◌++◌, map, length, take}
use Rattle.rules.specs.Sizes.{max_answers}
use Rattle.rules.specs.Bytes.{header, Step, Stop, ended, stopped, opens, reading}
use Rattle.rules.specs.State.{State, fresh}
use Rattle.rules.specs.Steps.{Result, answered, refused, step}
use Rattle.rules.specs.Calls.{session_run, stop, Reply, answers, refusal, reply}

-- ---- The answers

-- a refusal that the reading gives, 2 or 3, is an answer too
abbrev pub reading_reply : Stop → List Reply
reading_reply ended = []
reading_reply (stopped p n shown) = refusal p n ∷ []

-- an accepted command's answer, then the next ones; a refused one's refusal, and no more
abbrev pub reply_on : Result → (offset : ℕ) → State → (State → List Reply) → List Reply
reply_on (answered a) p s on = answers a ∷ on s
reply_on (refused n) p s on = refusal p n ∷ []

-- of the commands from state s on
unfoldable pub replies : State → List Step → Stop → List Reply
replies s [] stop = reading_reply stop
replies s (c ∷ cs) stop = reply_on (step s c.command).result c.offset (step s c.command).state (λ s'. replies s' cs stop)

-- of a session that opens
unfoldable pub session_replies : List ℕ → List Reply
session_replies b = replies (fresh (header b)) (reading b).steps (reading b).stop

-- No session has more answers.
abbrev pub FewAnswers : List ℕ → Type 0
FewAnswers b = opens b ≡ true → length (session_replies b) ≤ max_answers

-- ---- The same by the answer call

-- behind the part that is shown of a refused command
abbrev pub stop_end : Stop → List ℕ
stop_end ended = []
stop_end (stopped p n shown) = (p + shown) ∷ []

-- where the session's commands end: each accepted one, then the refused one
abbrev pub ends : List ℕ → List ℕ
ends b = map (λ (c : Step). c.offset + c.size) (take (length (session_run b).events) (reading b).steps) ++ stop_end (stop b)

-- each answer is the answer call's of the session that ends there
abbrev pub EachPrefix : List ℕ → Type 0
EachPrefix b = opens b ≡ true → session_replies b ≡ map (λ n. reply (take n b)) (ends b)
