-- What the run's answers mean in the rules.
use Rattle.std.specs.Prelude.{ℕ, ◌-◌, ◌<◌, List, [], length, drop, Result, Ok, Err, Option, Some, None}
use Rattle.rules.specs.Bytes as bytes
use Rattle.rules.specs.Steps as steps
use Rattle.rules.specs.Calls as calls
use Rattle.rules.specs.Report.{refusal_line}
use Rattle.refusals.specs.Numbers.{number_of}
use Rattle.refusals.specs.declared.Refused.{Refused}
use Rattle.wire.specs.Meaning.{front_in, shown_in}
use Rattle.state.specs.declared.Answer.{Answer}
use Rattle.state.specs.declared.Answer.TheVariants as answer
use Rattle.state.specs.declared.Verdict.{Verdict}
use Rattle.state.specs.declared.Verdict.TheVariants.{Valid, Invalid}
use Rattle.state.specs.View.{verdict_of}
use Rattle.session.specs.declared.Reply.{Reply}
use Rattle.session.specs.declared.Reply.TheVariants as reply

-- where session b stops: the bytes shown are those that stand there
abbrev pub stop_at : List ℕ → Result Unit Refused → bytes.Stop
stop_at b (Ok _) = bytes.ended
stop_at b (Err r) = bytes.stopped r.place (number_of r.why) (shown_in (front_in (drop r.place b)) (length b - r.place))

-- R p c, after a refusal only
abbrev pub stop_line : Result Unit Refused → List ℕ
stop_line (Ok _) = []
stop_line (Err r) = refusal_line r.place (number_of r.why)

-- the paper's value of each reply
abbrev pub value_of : Reply → steps.Answer
value_of reply.Accepted = steps.accepted
value_of (reply.Content v) = steps.content_is v
value_of (reply.Took t v) = steps.took t (verdict_of v)
value_of reply.Commits = steps.commits
value_of reply.SecondRun = steps.second_run

-- of the last command's, or that there was none
abbrev pub last_of : Option Reply → calls.Reply
last_of None = calls.no_command
last_of (Some r) = calls.answers (value_of r)

-- of a call's answer, or the refusal with its offset
abbrev pub reply_of : Result (Option Reply) Refused → calls.Reply
reply_of (Ok r) = last_of r
reply_of (Err r) = calls.refusal r.place (number_of r.why)

-- an accepted command's answer as the call's
abbrev pub reply_to : Answer → Reply
reply_to answer.Accepted = reply.Accepted
reply_to (answer.Content v) = reply.Content v
reply_to (answer.Took t v) = reply.Took t v
reply_to answer.Commits = reply.Commits
reply_to answer.CommitsLater = reply.Commits
reply_to answer.SecondRun = reply.SecondRun
reply_to answer.Recommits = reply.Accepted

-- the last accepted command's, or that there was none
abbrev pub reply_in : Option Answer → Option Reply
reply_in None = None
reply_in (Some a) = Some (reply_to a)

-- ---- Sheets are near: a cause's has 16 bits, as in the numbers for the host

abbrev pub NearVerdict : Verdict → Type 0
NearVerdict Valid = Unit {0}
NearVerdict (Invalid c) = c.sheet < 65536

abbrev pub Near : Reply → Type 0
Near (reply.Took t v) = NearVerdict v
Near _ = Unit {0}

abbrev pub NearLast : Option Reply → Type 0
NearLast None = Unit {0}
NearLast (Some r) = Near r
