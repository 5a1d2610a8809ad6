-- One step of a session: what stands at an offset, and what the state's step does with it.
use Rattle.std.specs.Prelude.{ℕ, suc, ◌≡◌, List, drop, Result, Ok, Err, Some, None}
use Rattle.std.specs.Prelude as std
use Rattle.std.proofs.Math.Option.{Option, none, some}
use Rattle.rules.specs.Bytes.{Front, unknown, cut, whole}
use Rattle.refusals.specs.declared.Refusal.{Refusal}
use Rattle.refusals.specs.declared.Refusal.TheVariants.{UnknownCommand, CutShort}
use Rattle.refusals.specs.declared.Refused.{Refused}
use Rattle.wire.specs.Meaning.{front_in}
use Rattle.state.specs.declared.Answer.{Answer}
use Rattle.state.specs.declared.Session.{Session}
use Rattle.state.specs.View.{tables}
use Rattle.state.specs.Lent.{Moves, Keeps}

-- an answer with its command's size, nothing, or a refusal with its offset
abbrev pub Stepped : Type 0
Stepped = Result (std.Option (Answer × ℕ)) Refused

abbrev pub refused : (p : ℕ) → Refusal → Stepped
refused p r = Err (record { place = p; why = r })

-- a command's result, with its offset and its size
abbrev pub sized : (p z : ℕ) → Result Answer Refusal → Stepped
sized p z (Ok a) = Ok (Some (a, z))
sized p z (Err r) = refused p r

-- nothing is left; 2 or 3, and nothing has changed; or the command's own result
abbrev pub StepsBy : (p : ℕ) → Option Front → (x x' : Session) → Stepped → Type 0
StepsBy p none x x' r = (r ≡ Ok None) × (tables x' ≡ tables x)
StepsBy p (some unknown) x x' r = (r ≡ refused p UnknownCommand) × (tables x' ≡ tables x)
StepsBy p (some cut) x x' r = (r ≡ refused p CutShort) × (tables x' ≡ tables x)
StepsBy p (some (whole c w)) x x' r = (s : Result Answer Refusal) × (r ≡ sized p (suc w) s) × Moves x c x' s × Keeps x x'

-- so at offset p of session b
abbrev pub StepsAt : List ℕ → (p : ℕ) → (x x' : Session) → Stepped → Type 0
StepsAt b p x x' r = StepsBy p (front_in (drop p b)) x x' r
