-- Refusal 8 never occurs: no command's tests name it, and reading gives 2 or 3.
use Prim.Native.Nat.{ℕ, zero, suc}
use mathlib.Core.Path.{◌≡◌, refl, ap, ◌∙◌}
use mathlib.Core.Logic.{◌≢◌}
use mathlib.Core.List.{List, [], ◌∷◌}
use native.Mathlib.Omega.{arith}
use lib.ListN.{length, drop}
use Rattle.rules.specs.Bytes.{header, header_size, Command, Begin, Read, Write, Submit, Take, Decide, Apply, GiveUp, Front, unknown, cut, whole, front, read_front, read_from, opens, reading}
use Rattle.rules.specs.State.{State, fresh}
use Rattle.rules.specs.Steps.{tests, Checked, pass, refuse, check, effect, run}
use Rattle.rules.specs.Demand3.{session_commands}
use Rattle.rules.specs.Calls.{session_run, stop_by, step_at, stop}
use Rattle.rules.specs.Eight.{NotEight, NeverEight}
use Rattle.rules.proofs.Table.{bool}
use Rattle.rules.proofs.Tests.{never}
use Rattle.rules.proofs.Accepted.{run_accepts, run_refuses}

no_eight : (s : State) (c : Command) → check s c ≢ refuse 8
no_eight s (Begin t) = never 8 (tests s (Begin t)) refl
no_eight s (Read t k) = never 8 (tests s (Read t k)) refl
no_eight s (Write t k v) = never 8 (tests s (Write t k v)) refl
no_eight s (Submit t) = never 8 (tests s (Submit t)) refl
no_eight s (Take n) = never 8 (tests s (Take n)) refl
no_eight s (Decide t) = never 8 (tests s (Decide t)) refl
no_eight s (Apply n t) = never 8 (tests s (Apply n t)) refl
no_eight s (GiveUp t) = never 8 (tests s (GiveUp t)) refl

-- ---- Of a session

read_not_eight : (n p : ℕ) (bs : List ℕ) → NotEight (read_from n p bs).stop
unfolding read_from
read_not_eight n p [] = tt
read_not_eight (suc n) p (b ∷ bs) = read_not_eight n (suc p) bs
read_not_eight zero p (b ∷ bs) = go (front b bs) (λ w. read_not_eight w (suc p) bs)
  where
    go : (f : Front) → ((w : ℕ) → NotEight (read_from w (suc p) bs).stop) → NotEight (read_front f p (length bs) (λ w. read_from w (suc p) bs)).stop
    go unknown h = λ e. omega arith
    go cut h = λ e. omega arith
    go (whole c w) h = h w

run_not_eight : (cs : List Command) (s : State) → (run s cs).end ≢ refuse 8
unfolding run
run_not_eight [] s = λ e. let z : ◌≡◌ {A = ℕ} 0 1 = cc in omega arith
run_not_eight (c ∷ cs) s = go (check s c) refl (run_not_eight cs)
  where
    go : (x : Checked) → check s c ≡ x → ((s' : State) → (run s' cs).end ≢ refuse 8) → (run s (c ∷ cs)).end ≢ refuse 8
    go pass e f = rw (run_accepts s c cs e) (f (effect s c))
    go (refuse n) e f = rw (run_refuses s c cs n e) (λ z. no_eight s c (e ∙ z))

stop_not_eight : (b : List ℕ) → NotEight (stop b)
unfolding stop
stop_not_eight b = bool (opens b) (λ o. rw o (go (session_run b).end (run_not_eight (session_commands b) (fresh (header b))))) (λ o. rw o (λ e. omega arith))
  where
    go : (x : Checked) → x ≢ refuse 8 → NotEight (stop_by x (step_at (reading b).steps (length (session_run b).events)) (reading b).stop)
    go pass d = read_not_eight 0 (header_size b) (drop (header_size b) b)
    go (refuse n) d = λ e. d (ap refuse e)

pub never_eight : (b : List ℕ) → NeverEight b
never_eight b = record { steps = no_eight; session = stop_not_eight b }
