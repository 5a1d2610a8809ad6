-- The lines are the rules' lines of a state that shows the queues and claims what they have.
use Prim.Native.Nat.{ℕ, zero, suc, ◌+◌, ◌*◌, ◌≤◌, ◌<◌}
use mathlib.Core.Path.{◌≡◌, refl, sym, ap, ◌∙◌}
use mathlib.Core.Bool.{Bool, true, or-true}
use mathlib.Core.List.{List, [], ◌∷◌, ◌++◌, append-nil}
use native.Mathlib.Omega.{arith}
use native.Mathlib.Nat.{le_refl}
use lib.ListN.{get_or, take}
use lib.Dec.{eqb}
use borrow.Author.Tests.{eq-eqb}
use Rattle.sets.specs.Bit.{bit}
use Rattle.rules.specs.State.{Claim, shared, State, at, is_last, by_last}
use Rattle.rules.specs.Steps.{mem, empty, x_on}
use Rattle.rules.specs.Report.{field}
use Rattle.rules.specs.Showing.{rising, each, ways, waits_for, grant_text, entry_head, entry_line, queue_text, queue_lines}
use Rattle.rules.proofs.Table.{bool}
use Rattle.rules.proofs.Places.{by, entries, entries_before, entries_out, by_out, by_test}
use Rattle.rules.proofs.Showing.{granted_alone}
use Rattle.clipped.proofs.Rows.{each_then, each_one}
use Rattle.state.specs.View.{claim_of, place_in, order_in, placed, bare, QUEUE}
use Rattle.state.proofs.Codes.{claims_code, x_code}
use Rattle.state.proofs.Parts.{queue_in, queue_x_in}
use Rattle.rows.specs.Rows.{Lined}
use Rattle.waits.specs.Queues.{those, names_text, entry_text, line_behind, lines_behind, Claimed}
use Rattle.waits.proofs.Laws.{ways_snoc, lines_snoc}

-- ---- The queue is those of the line that have an entry

pub those_last : (order : List ℕ) (place : ℕ → ℕ) (f : ℕ → Bool) (n : ℕ) → those f (by_last order place n) ≡ entries order place f n
unfolding by_last entries by ways
those_last order place f zero = refl
those_last order place f (suc n) = bool (is_last order place n)
    (λ e. rw e (ways_snoc shared f (by_last order place n) (at order n) ∙ rw (those_last order place f n)))
    (λ e. rw e (those_last order place f n))

-- ---- One line

-- a granted entry names nobody
grant_names : (us : List ℕ) → grant_text (empty us) us ≡ names_text (each field us)
unfolding grant_text names_text each field
grant_names [] = append-nil _
grant_names (u ∷ us) = refl

ways_same : (c : Claim) (x y : ℕ → Bool) (us : List ℕ) → ((u : ℕ) → mem u us ≡ true → x u ≡ y u) → ways c x us ≡ ways c y us
unfolding ways
ways_same c x y [] h = refl
ways_same c x y (u ∷ us) h = rw (h u (rw (eq-eqb u u refl)), ways_same c x y us (λ v m. h v (rw m (or-true (eqb u v)))))

module _ (s : State) (k : ℕ) (order : List ℕ) (place : ℕ → ℕ) (f x : ℕ → Bool) (n : ℕ) (queue : s.queue k ≡ entries order place f n)
    (claimed : (u : ℕ) → f u ≡ true → s.claim u k ≡ claim_of true (x u)) where
  x_same : (u : ℕ) → f u ≡ true → x_on s.claim k u ≡ x u
  unfolding x_on
  x_same u y = rw (claimed u y) (x_code true (x u))

  waits_same : (u : ℕ) → place u < n → at order (place u) ≡ u → f u ≡ true → waits_for s u k ≡ ways (claim_of true (x u)) x (entries order place f (place u))
  waits_same u h o y = rw (claimed u y, queue, entries_before order place f n u h o y)
      (ways_same (claim_of true (x u)) (x_on s.claim k) x (entries order place f (place u)) (λ v m. entries_out order place f (place u) v m (λ _ _ z. x_same v z)))

  line_same : (u : ℕ) → place u < n → at order (place u) ≡ u → f u ≡ true → entry_line s k u ≡ line_behind x k (entries order place f (place u)) u
  unfolding entry_line entry_head line_behind entry_text
  line_same u h o y =
      rw (granted_alone s u k (rw (claimed u y) (claims_code true (x u) (λ _. refl))), grant_names (waits_for s u k), waits_same u h o y, claimed u y)

  -- the entries before place p
  lines_same : (p : ℕ) → p ≤ n → each (entry_line s k) (entries order place f p) ≡ lines_behind x k [] (entries order place f p)
  unfolding entries each lines_behind
  lines_same zero h = refl
  lines_same (suc p) h = bool (by order place f p)
      (λ e. let z = by_out order place f p e in
      rw (e, ← each_then (entry_line s k) (entries order place f p) (at order p ∷ []), lines_snoc x k [] (entries order place f p) (at order p), lines_same p (omega arith), each_one (entry_line s k) (at order p))
      (ap (λ t. lines_behind x k [] (entries order place f p) ++ t) (rw z at (line_same (at order p) (rw z (omega arith)) (rw z refl) (by_test order place f p e)))))
      (λ e. rw e (lines_same p (omega arith)))

  queue_same : queue_text s k ≡ lines_behind x k [] (entries order place f n)
  queue_same = rw queue (lines_same n (le_refl n))

-- ---- All lines

rising_same : (f g : ℕ → List ℕ) (n : ℕ) → ((k : ℕ) → k < n → f k ≡ g k) → rising f n ≡ rising g n
unfolding rising
rising_same f g zero h = refl
rising_same f g (suc n) h = rw (h n (omega arith), rising_same f g n (λ k l. h k (omega arith)))

-- a sheet's lines as they are written
abbrev pub queue_in_line : (q line : List ℕ) (k : ℕ) → List ℕ
queue_in_line q line k = lines_behind (bit (get_or q (QUEUE + 2 * k + 1) 0)) k [] (those (bit (get_or q (QUEUE + 2 * k) 0)) line)

module _ (m : ℕ) (b s q : List ℕ) {line : List ℕ} {n : ℕ} (l : Lined b q (placed q) line n) (c : Claimed m s q) where
  one_shown : (k : ℕ) → k < m → queue_in_line q (take n line) k ≡ queue_text (bare m b s q) k
  one_shown k h =
      let f = bit (get_or q (QUEUE + 2 * k) 0) in
      sym (queue_same (bare m b s q) k (order_in b) (place_in q) f (bit (get_or q (QUEUE + 2 * k + 1) 0)) (placed q)
      (ap (λ (a : ℕ). entries (order_in b) (place_in q) (bit a) (placed q)) (queue_in m q k h))
      (λ u y. c u k h (ap (λ (a : ℕ). bit a u) (queue_in m q k h) ∙ y) ∙ ap (λ (a : ℕ). claim_of true (bit a u)) (queue_x_in m q k h))
      ∙ rw (← those_last (order_in b) (place_in q) f (placed q), ← l.all))

  pub shown : rising (queue_in_line q (take n line)) m ≡ queue_lines (bare m b s q)
  unfolding queue_lines
  shown = rising_same (queue_in_line q (take n line)) (queue_text (bare m b s q)) m one_shown
