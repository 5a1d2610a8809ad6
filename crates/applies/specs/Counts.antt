-- What APPLY makes of the WCTs.
use Rattle.std.specs.Prelude.{ℕ, ◌≡◌, Result, Ok}
use Rattle.refusals.specs.declared.Refusal.{Refusal}
use Rattle.rules.specs.Counter.{AddsMarks}
use Rattle.state.specs.View.{part, shown_by, no_tally}
use Rattle.state.specs.declared.Answer.{Answer}
use Rattle.state.specs.declared.Answer.TheVariants.{Accepted}
use Rattle.state.specs.declared.Session.{Session}

-- the counters that an accepted APPLY leaves are those before plus the marks
abbrev pub Counts : Session → (n t : ℕ) → Session → Result Answer Refusal → Type 0
Counts x n t x' r = r ≡ Ok Accepted → AddsMarks (shown_by x no_tally) n t (part x'.m x'.m x'.sheets.now)
