-- "A save that saved nothing": document 02 [6]. The rule is `store`'s (State.antt) and the mark's (Counter.antt); here is what it comes to for the `O`
-- lines and for "every reader of the older copy". That the serial contents "still come out right" is demand 3. What is said here follows from the
-- definitions (proofs/Changes.antt).
use Rattle.std.specs.Prelude.{ℕ, ◌+◌, ◌≡◌, true, not, cond, List, [], ◌∷◌, map, eqb}
use Rattle.std.proofs.Math.Option.{some}
use Rattle.rules.specs.Bytes.{Header, Command, Apply, header, opens}
use Rattle.rules.specs.State.{State, fresh, has_copy}
use Rattle.rules.specs.Steps.{receives, accepted, answered, step, Event}
use Rattle.rules.specs.Demand3.{events, after, first_answers, session_commands}

-- 1 where sheet k's content after a command is another than before it, 0 otherwise
abbrev pub changed : (s s' : State) (k : ℕ) → ℕ
changed s s' k = cond (not (eqb (s'.sheet k).content (s.sheet k).content)) 1 0

-- how many of a list of commands change sheet k's content, each from the state that the last one left
unfoldable pub changes : State → List Command → ℕ → ℕ
changes s [] k = 0
changes s (c ∷ cs) k = changed s (step s c).state k + changes (step s c).state cs k

abbrev pub commands_of : List Event → List Command
commands_of es = map (λ (e : Event). e.command) es

-- "the `O` lines count changed contents only": a sheet's WCT is how many of the accepted commands changed its content
abbrev pub CountsChanges : Header → List Command → Type 0
CountsChanges h cs = (k : ℕ) → ((after h cs).sheet k).wct ≡ changes (fresh h) (commands_of (events h cs)) k

-- A copy whose WCT seen is the sheet's WCT, whatever was stored since: the save's first READ of the sheet in this run answered the content that the
-- sheet has.
abbrev pub LevelCopies : Header → List Command → Type 0
LevelCopies h cs = (t k : ℕ) → has_copy ((after h cs).mark t k) ≡ true → ((after h cs).copy t k).wct ≡ ((after h cs).sheet k).wct
    → first_answers h cs t k ≡ some ((after h cs).sheet k).content

-- "Practices press save without editing": where an APPLY stores, "the one there" is the content that the save's last run read first. So a save that
-- writes back what it read leaves the WCT, and one that writes another content raises it.
abbrev pub StoresOverReading : Header → List Command → Type 0
StoresOverReading h cs = (n t k : ℕ) → (step (after h cs) (Apply n t)).result ≡ answered accepted → receives (after h cs) n t k ≡ true
    → first_answers h cs t k ≡ some ((after h cs).sheet k).content

pub record OnlyChanges (h : Header) (cs : List Command) : Type 0 where
  pub counts : CountsChanges h cs
  pub level : LevelCopies h cs
  pub over_reading : StoresOverReading h cs

-- of a session's bytes: any session without refusal 1
abbrev pub SessionChanges : List ℕ → Type 0
SessionChanges b = opens b ≡ true → OnlyChanges (header b) (session_commands b)
