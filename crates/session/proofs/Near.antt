-- A cause's sheet is one of the session's.
use Prim.Native.Nat.{ℕ, ◌<◌}
use mathlib.Core.Path.{◌≡◌, sym, ap, ◌∙◌}
use mathlib.Core.Bool.{Bool, true, false, ◌&&◌, cond}
use mathlib.Core.Option.{Option, none, some, map}
use native.Mathlib.Omega.{arith}
use Rattle.rules.specs.Bytes.{Command, Begin, Read, Write, Submit, Take, Decide, Apply, GiveUp}
use Rattle.rules.specs.State.{State, claims}
use Rattle.rules.specs.Steps as rules
use Rattle.rules.specs.Steps.{Cause, cause, cause_at, first_cause, Rule, owns, holds, at_front, x_on, behind, rule_met, found, invalid, took, answered, Checked, pass, refuse, check, Stepped, step_by, step, decision}
use Rattle.rules.proofs.Table.{first_none, first_at, first_cases}
use Rattle.state.specs.declared.Answer.{Answer}
use Rattle.state.specs.declared.Answer.TheVariants.{Accepted, Content, Took, Commits, CommitsLater, SecondRun, Recommits}
use Rattle.state.specs.declared.Verdict.{Verdict}
use Rattle.state.specs.declared.Verdict.TheVariants.{Valid, Invalid}
use Rattle.state.specs.View.{result_of, cause_of}
use Rattle.session.specs.Meaning.{reply_to, NearVerdict, Near}

-- two of one kind that are said to be different
differs : {P : Type 0} {c : Cause} → ◌≡◌ {A = Option Cause} none (some c) → P
differs e = absurd (let z : ◌≡◌ {A = ℕ} 0 1 = cc in omega arith)

module _ (s : State) (n t : ℕ) where
  at_sheet : (k : ℕ) (c : Cause) → cause_at s n t k ≡ some c → c.sheet ≡ k
  at_sheet k c e = by (owns s n k && claims (s.claim t k)) (rule_met (at_front (x_on s.claim k) (s.queue k)) (holds (x_on s.claim k) (s.queue k)) (behind s t k)) e
    where
      mapped : (o : Option Rule) → map (cause k) o ≡ some c → c.sheet ≡ k
      mapped none q = differs q
      mapped (some r) q = let z : cause k r ≡ c = cc in sym (ap (λ (x : Cause). x.sheet) z)

      by : (b : Bool) (o : Option Rule) → cond b (map (cause k) o) none ≡ some c → c.sheet ≡ k
      by true o q = mapped o q
      by false o q = differs q

  near_cause : (c : Cause) → first_cause s n t ≡ some c → c.sheet < s.header.sheets
  near_cause c e = first_cases s.header.sheets (cause_at s n t)
      (λ h. differs (sym (first_none s.header.sheets (cause_at s n t) h) ∙ e))
      (λ k d l q h. let z : d ≡ c = same (sym (first_at s.header.sheets (cause_at s n t) k d l q h) ∙ e) in rw (← z, at_sheet k d q) l)
    where
      same : {d : Cause} → some d ≡ some c → d ≡ c
      same q = cc

  -- a verdict's
  near_found : (last : Bool) (o : Option Cause) (c : Cause) → invalid c ≡ found last o → o ≡ some c
  near_found true none c e = absurd (let z : ◌≡◌ {A = ℕ} 0 1 = cc in omega arith)
  near_found true (some d) c e = cc
  near_found false o c e = absurd (let z : ◌≡◌ {A = ℕ} 0 1 = cc in omega arith)

-- ---- A step's answer

-- a TAKE's alone has a verdict
by_command : (s : State) (c : Command) (t : ℕ) (k : Cause) → took t (invalid k) ≡ rules.answer s c → k.sheet < s.header.sheets
by_command s (Begin u) t k e = absurd (let z : ◌≡◌ {A = ℕ} 0 1 = cc in omega arith)
by_command s (Read u i) t k e = absurd (let z : ◌≡◌ {A = ℕ} 0 1 = cc in omega arith)
by_command s (Write u i v) t k e = absurd (let z : ◌≡◌ {A = ℕ} 0 1 = cc in omega arith)
by_command s (Submit u) t k e = absurd (let z : ◌≡◌ {A = ℕ} 0 1 = cc in omega arith)
by_command s (Take n) t k e = near_cause s n (rules.next s n) k (near_found s n t (rules.next_is_last s n) (first_cause s n (rules.next s n)) k (verdicts e))
  where
    verdicts : {u : ℕ} {v : rules.Verdict} → took t (invalid k) ≡ took u v → invalid k ≡ v
    verdicts q = cc
by_command s (Decide u) t k e = none_decided (s.failed u) e
  where
    none_decided : {P : Type 0} (f : Bool) → took t (invalid k) ≡ decision f → P
    none_decided true q = absurd (let z : ◌≡◌ {A = ℕ} 0 1 = cc in omega arith)
    none_decided false q = absurd (let z : ◌≡◌ {A = ℕ} 0 1 = cc in omega arith)
by_command s (Apply n u) t k e = absurd (let z : ◌≡◌ {A = ℕ} 0 1 = cc in omega arith)
by_command s (GiveUp u) t k e = absurd (let z : ◌≡◌ {A = ℕ} 0 1 = cc in omega arith)

module _ (s s' : State) (c : Command) (few : s.header.sheets < 65536) where
  near_took : (t : ℕ) (v : Verdict) → ◌≡◌ {A = Stepped} (record { state = s'; result = result_of (Took t v) }) (step s c) → NearVerdict v
  near_took t Valid e = tt
  near_took t (Invalid k) e = by (check s c) (ap (λ r. r.result) e)
    where
      by : (x : Checked) → answered (took t (invalid (cause_of k))) ≡ (step_by x s c).result → k.sheet < 65536
      by pass q = let z : took t (invalid (cause_of k)) ≡ rules.answer s c = cc in let l = by_command s c t (cause_of k) z in omega arith
      by (refuse n) q = absurd (let z : ◌≡◌ {A = ℕ} 0 1 = cc in omega arith)

  pub near : (a : Answer) → ◌≡◌ {A = Stepped} (record { state = s'; result = result_of a }) (step s c) → Near (reply_to a)
  near Accepted e = tt
  near (Content v) e = tt
  near (Took t v) e = near_took t v e
  near Commits e = tt
  near CommitsLater e = tt
  near SecondRun e = tt
  near Recommits e = tt
