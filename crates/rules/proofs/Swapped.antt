-- A list that swaps lead to, written under the session's own header, is a session with the same report.
use Prim.Native.Nat.{ℕ, suc, ◌+◌, ◌≤◌}
use mathlib.Core.Path.{◌≡◌, refl, sym, ◌∙◌}
use mathlib.Core.List.{List, [], ◌∷◌, map}
use mathlib.Core.Option.{none}
use native.Mathlib.Omega.{arith}
use lib.ListN.{length, length-append}
use Rattle.rules.specs.Sizes.{max_session}
use Rattle.rules.specs.Bytes.{Command, ended}
use Rattle.rules.specs.Steps.{pass}
use Rattle.rules.specs.Calls.{stop}
use Rattle.rules.specs.Demand3.{session_commands}
use Rattle.rules.specs.Writing.{Heading, Instruction, check_step, refusal_at, steps_refusal, step_bytes, steps_bytes, heading, Listed, session, refuses, read, Bytes, as_step}
use Rattle.rules.specs.Neighbours.{Swaps, as_it_was, swap, behind, then, SwappedSteps, SameReport, swapped_session, SwappedReport}
use Rattle.rules.proofs.Writing.{none_first, none_passes, writes, write_inverts, read_inverts, read_written, written_read, read_run, as_steps, read_steps, read_whole}
use Rattle.rules.proofs.Agreeing.{always_agrees}

-- ---- What swaps leave

-- each command of a list passes the writer's test, whatever its place
module _ (n m : ℕ) where
  abbrev Passing : List Command → Type 0
  Passing [] = Unit {0}
  Passing (c ∷ cs) = (check_step n m (as_step c) ≡ pass) × Passing cs

  passing : (q : ℕ) (cs : List Command) → steps_refusal n m q (map as_step cs) ≡ none → Passing cs
  unfolding steps_refusal
  passing q [] e = tt
  passing q (c ∷ cs) e = none_first (refusal_at q (check_step n m (as_step c))) (steps_refusal n m (suc q) (map as_step cs)) e (λ a b. (none_passes q (check_step n m (as_step c)) a, passing (suc q) cs b))

  unrefused : (q : ℕ) (cs : List Command) → Passing cs → steps_refusal n m q (map as_step cs) ≡ none
  unfolding steps_refusal
  unrefused q [] p = refl
  unrefused q (c ∷ cs) p = rw p.0 (unrefused (suc q) cs p.1)

  passing_swapped : {cs ds : List Command} → Swaps cs ds → Passing cs → Passing ds
  passing_swapped as_it_was p = p
  passing_swapped (swap a b cs d) p = (p.1.0, (p.0, p.1.1))
  passing_swapped (behind c w) p = (p.0, passing_swapped w p.1)
  passing_swapped (then v w) p = passing_swapped w (passing_swapped v p)

-- how many bytes they have
abbrev size : List Command → ℕ
size cs = length (steps_bytes (map as_step cs))

size_more : (c : Command) (cs : List Command) → size (c ∷ cs) ≡ length (step_bytes (as_step c)) + size cs
unfolding steps_bytes
size_more c cs = length-append (step_bytes (as_step c)) (steps_bytes (map as_step cs))

size_swapped : {cs ds : List Command} → Swaps cs ds → size ds ≡ size cs
size_swapped as_it_was = refl
size_swapped (swap a b cs d) = omega (arith, size_more a (b ∷ cs), size_more b cs, size_more b (a ∷ cs), size_more a cs)
size_swapped (behind c {cs} {ds} w) = omega (arith, size_more c cs, size_more c ds, size_swapped w)
size_swapped (then v w) = size_swapped w ∙ size_swapped v

-- ---- A session that is accepted whole can be read

read_accepted : {P : Type 0} (b : List ℕ) → Bytes b → stop b ≡ ended → ((g : Heading) (is : List Instruction) → read b ≡ session g is → P) → P
read_accepted {P} b h e on = go (read b) refl
  where
    go : (l : Listed) → read b ≡ l → P
    go (session g is) r = on g is r
    go (refuses x) r = absurd (rw e at ((always_agrees b h).read_run x r))

-- ---- The session of the swapped list

module _ (b : List ℕ) (h : Bytes b) (same : SameReport b) where
  pub swapped_report : SwappedReport b
  swapped_report e ds w = read_accepted b h e (λ g is r.
      let cs = session_commands b in
      read_inverts b g is r (λ o own _.
      let s = read_steps b g is r in
      write_inverts (heading b) (map as_step cs) b (rw (← s, own) (read_written b h g is r)) (λ fits none small bytes_are.
      let pass = unrefused (heading b).nodes (heading b).sheets 0 ds (passing_swapped (heading b).nodes (heading b).sheets w (passing (heading b).nodes (heading b).sheets 0 cs none)) in
      let long : length (swapped_session b ds) ≤ max_session = omega (arith, length-append (heading b).owners (steps_bytes (map as_step ds)), length-append (heading b).owners (steps_bytes (map as_step cs)), size_swapped w) in
      let made = writes (heading b) (map as_step ds) fits pass long in
      let again = written_read (heading b) (map as_step ds) (swapped_session b ds) made in
      let run = read_run (swapped_session b ds) (heading b) (map as_step ds) again in
      let two : SwappedSteps b (swapped_session b ds) = record {
        opened = read_inverts (swapped_session b ds) (heading b) (map as_step ds) again (λ o' _ _. o');
        one_header = sym run.0;
        to_its_end = read_whole (swapped_session b ds) (heading b) (map as_step ds) again;
        steps = rw (← run.1, as_steps ds) w;
      } in
      let last = same (swapped_session b ds) e two in
      record { written = made; whole = last.0; same_report = last.1 })))
