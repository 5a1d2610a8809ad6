-- Answers as numbers, for the host.
use Rattle.std.specs.Prelude.{ℕ, ◌+◌, ◌*◌, ◌≤◌, min, List, length, Option, Result, Ok, Err}
use Rattle.rules.specs.Sizes.{max_session, max_state}
use Rattle.rules.specs.Steps.{Rule, x_granted, x_waiting, counter_behind, Verdict, valid, invalid, accepted, content_is, took, commits, second_run}
use Rattle.rules.specs.Calls as calls
use Rattle.rules.specs.Writing as lists
use Rattle.rules.specs.Calls.{no_command, answers, refusal}
use Rattle.refusals.specs.declared.Refused.{Refused}
use Rattle.session.specs.Meaning.{NearLast}
use Rattle.session.specs.declared.Reply.{Reply}

-- kind * 2^48 + value * 2^8 + number
abbrev pub coded : (kind value number : ℕ) → ℕ
coded kind value number = kind * 281474976710656 + value * 256 + number

abbrev pub rule_code : Rule → ℕ
rule_code x_granted = 1
rule_code x_waiting = 2
rule_code counter_behind = 3

-- what a node found save t: the value is sheet * 2^16 + save where there is a cause
abbrev pub verdict_code : ℕ → Verdict → ℕ
verdict_code t valid = coded 3 t 0
verdict_code t (invalid c) = coded 4 (c.sheet * 65536 + t) (rule_code c.rule)

abbrev pub answer_code : calls.Reply → ℕ
answer_code no_command = coded 0 0 0
answer_code (answers accepted) = coded 1 0 0
answer_code (answers (content_is v)) = coded 2 v 0
answer_code (answers (took t v)) = verdict_code t v
answer_code (answers commits) = coded 5 0 0
answer_code (answers second_run) = coded 6 0 0
answer_code (refusal p n) = coded 7 p n

-- a refusal's offset is one of a session, a cause's sheet near
abbrev pub NearReply : Result (Option Reply) Refused → Type 0
NearReply (Ok r) = NearLast r
NearReply (Err r) = r.place ≤ max_session

-- ---- Calls that write into a room

-- a place above this is told as this
abbrev pub last_place : ℕ
last_place = 4294967295

abbrev pub outcome_code : lists.Outcome → ℕ
outcome_code (lists.wrote size) = coded 8 size 0
outcome_code (lists.listed n m q) = coded 9 (n * 4294967296 + m * 65536 + q) 0
outcome_code (lists.refuse_with r) = coded 7 (min r.place last_place) r.number

pub record Told : Type 0 where
  pub code : ℕ
  pub room : List ℕ

-- a call as the host sees it
abbrev pub told_call : lists.Call → Told
told_call c = record { code = outcome_code c.outcome; room = c.room }

-- bytes or numbers at the front of a room, or 15 where they do not fit
abbrev pub fitted : (new room : List ℕ) → lists.Call
fitted new room = lists.put (length new) (lists.wrote (length new)) new room

-- no list and no state's text is longer, and none needs more room
abbrev pub Small : Result ℕ Refused → Type 0
Small (Ok n) = n ≤ max_state
Small (Err r) = r.place ≤ max_state
