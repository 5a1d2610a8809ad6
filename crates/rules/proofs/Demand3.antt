-- Demand 3, whole: for every header in range and every list of commands, and for the bytes of every session without refusal 1.
use Prim.Native.Nat.{ℕ, ◌+◌, ◌*◌, ◌≤◌, ◌<◌}
use mathlib.Core.Path.{◌≡◌, refl, sym, ap, ap₂}
use mathlib.Core.Bool.{true, ◌&&◌}
use mathlib.Core.List.{List, [], ◌∷◌}
use native.Mathlib.Omega.{arith}
use native.Mathlib.Nat.{le_trans, le_of_eq, le_refl}
use lib.ListN.{length}
use lib.Dec.{leb, ltb}
use borrow.Author.Tests.{ltb-true}
use Rattle.rules.specs.Table.{all}
use Rattle.rules.specs.Sizes.{max_nodes, max_sheets, max_session}
use Rattle.rules.specs.Bytes.{Header, header, header_size, in_range, Command}
use Rattle.rules.specs.State.{State}
use Rattle.rules.specs.Steps.{Answer, answered, check, Checked, pass, refuse, effect, answer, step, run}
use Rattle.rules.specs.Demand3.{after, told, first_answers, wide_runs, of_four_kinds, accepted_of, Bound, Progress, Always, session_commands, SessionDemand3}
use Rattle.rules.proofs.Table.{and_r, all_at}
use Rattle.rules.proofs.Accepted.{always, header_after, run_accepts, run_refuses}
use Rattle.rules.proofs.Serializable.{serial_reads, serial_store, few_runs}
use Rattle.rules.proofs.Bound.{at_most}
use Rattle.rules.proofs.Progress.{Moves, progress}

bounded : (h : Header) (cs : List Command) → Bound h cs
bounded h cs more k = le_trans (at_most more (after h cs) (told h cs) (first_answers h cs) (always h cs) k)
    (le_of_eq (ap₂ (λ (n : ℕ) (o : List ℕ). (2 * n + 2) * (length o + wide_runs (after h cs))) (ap (λ x. x.nodes) (header_after h cs)) (sym (always h cs).linked.order_same)))

-- a header in range has owners among its nodes
pub owners_below : (h : Header) → in_range h ≡ true → (k : ℕ) → k < h.sheets → h.owner k < h.nodes
owners_below h e k o = ltb-true (h.owner k) h.nodes (all_at h.sheets (λ k. ltb (h.owner k) h.nodes)
    (and_r ((leb 1 h.nodes && leb h.nodes max_nodes) && (leb 1 h.sheets && leb h.sheets max_sheets)) (all h.sheets (λ k. ltb (h.owner k) h.nodes)) e) k o)

progresses : (h : Header) (cs : List Command) → in_range h ≡ true → Progress h cs
progresses h cs e k t m =
    accepted (progress (after h cs) (told h cs) (first_answers h cs) (always h cs) (rw (header_after h cs) (owners_below h e)) k t m)
  where
    accepted : Moves (after h cs) → (c : Command) × (of_four_kinds (after h cs) c ≡ true) × ((a : Answer) × ((step (after h cs) c).result ≡ answered a))
    accepted w = (w.0, w.1, (answer (after h cs) w.0, rw w.2))

pub demand3 : Always
demand3 h cs e = record { reads = serial_reads h cs; store = serial_store h cs; runs = few_runs h cs; bound = bounded h cs; progress = progresses h cs e }

pub session_demand3 : (b : List ℕ) → SessionDemand3 b
session_demand3 b e = demand3 (header b) (session_commands b) (and_r (leb (length b) max_session && leb (header_size b) (length b)) (in_range (header b)) e)

-- ---- The bound covers a list that stops at its first refusal

pub until_refused : (cs : List Command) (s : State) → length (run s cs).events ≤ accepted_of s cs
unfolding run accepted_of
until_refused [] s = le_refl 0
until_refused (c ∷ cs) s = go (check s c) refl (until_refused cs)
  where
    go : (x : Checked) → check s c ≡ x → ((s' : State) → length (run s' cs).events ≤ accepted_of s' cs) → length (run s (c ∷ cs)).events ≤ accepted_of s (c ∷ cs)
    go pass e f = rw (run_accepts s c cs e, e) (omega (arith, f (effect s c)))
    go (refuse n) e f = rw (run_refuses s c cs n e) (omega arith)
