-- What commands ask first: whether there is such a save, and whether it is in a run.
use Rattle.std.specs.Prelude.{ℕ, ◌≡◌, ◌≤◌, ◌<◌, true, false, ◌||◌, eqb, Result, Ok, Err}
use Rattle.refusals.specs.Numbers.{number_of}
use Rattle.refusals.specs.declared.Refusal.{Refusal}
use Rattle.state.specs.View.{out_of_phase}

-- a save's number is its row in every table; there is no such save
abbrev pub Indexed : ℕ → Result ℕ Refusal → Type 0
Indexed t (Ok i) = (i ≡ t) × (t < 32)
Indexed t (Err r) = (32 ≤ t) × (number_of r ≡ 4)

-- a save of phase p is in a run; it is refused by its phase
abbrev pub InRun : ℕ → Result Unit Refusal → Type 0
InRun p (Ok _) = (eqb p 1 || eqb p 3) ≡ true
InRun p (Err r) = ((eqb p 1 || eqb p 3) ≡ false) × (number_of r ≡ out_of_phase p)
