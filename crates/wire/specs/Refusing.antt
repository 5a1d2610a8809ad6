-- What a refusal with its place means in the rules, and the outcome of a call that writes.
use Rattle.std.specs.Prelude.{ℕ, Result, Ok, Err}
use Rattle.rules.specs.Writing as rules
use Rattle.refusals.specs.Numbers.{number_of}
use Rattle.refusals.specs.declared.Refused.{Refused}

abbrev pub refused_at : Refused → rules.Refusal
refused_at r = rules.at r.place (number_of r.why)

-- how much was written, or the refusal
abbrev pub outcome_of : Result ℕ Refused → rules.Outcome
outcome_of (Ok n) = rules.wrote n
outcome_of (Err r) = rules.refuse_with (refused_at r)
