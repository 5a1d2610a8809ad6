-- The run's loop over the slices, of m sheets.
use Rattle.std.specs.Prelude.{ℕ, ◌≡◌, true, List, Option}
use Rattle.rules.specs.Bytes.{header, opens, byte}
use Rattle.rules.specs.State.{fresh}
use Rattle.state.specs.Slices.{Slices}
use Rattle.state.specs.View.{no_tally, shown}
use Rattle.state.specs.Fit.{Fit}
use Rattle.tally.specs.declared.Tally.{Tally}
use Rattle.tally.specs.Figures.{figures}
use Rattle.session.specs.declared.Reply.{Reply}
use Rattle.session.specs.Meaning.{last_of, NearLast}
use Rattle.session.specs.Going.{Going}

-- the fresh state of session b, which opens
pub record Begins (b : List ℕ) (m : ℕ) (x : Slices) : Type 0 where
  pub opened_well : opens b ≡ true
  pub sheets_are : m ≡ byte b 1
  pub shows : shown m x no_tally ≡ fresh (header b)
  pub fit : Fit m x

pub record Looping (b : List ℕ) (m : ℕ) (x : Slices) (tally : Tally) (last : Option Reply) (p : ℕ) : Type 0 where
  pub going : Going b (shown m x (figures tally)) (last_of last) p
  pub fit : Fit m x
  pub near : NearLast last
