-- READ by the code's own names.
use Prim.Native.Nat.{ℕ, ◌+◌, ◌*◌, ◌/◌, ◌%◌, ◌≤◌, ◌<◌}
use mathlib.Core.Path.{◌≡◌, refl, sym, ap, ◌∙◌}
use mathlib.Core.Bool.{Bool, true, false, not, ◌&&◌, ◌||◌}
use mathlib.Core.List.{List}
use native.Mathlib.Omega.{arith}
use lib.ListN.{length, get_or, set}
use lib.Dec.{eqb}
use Rattle.rules.specs.Bytes.{Read}
use Rattle.rules.specs.Steps.{at_front, x_on}
use Rattle.sets.specs.Bit.{bit, word, in_row, stride}
use Rattle.queues.specs.Front.{Ranked, fronted}
use Rattle.queues.proofs.Fronts.{ranked, front_code}
use Rattle.std.specs.Prelude.{Ok, Err}
use Rattle.refusals.specs.declared.Refusal.TheVariants.{HeldByX}
use Rattle.state.specs.declared.Answer.TheVariants.{Content}
use Rattle.state.specs.View.{part, in_set, queue_of, queue_x_of, queued, queued_x, bare, PHASE, COPIED, ORDER, QUEUE, rows}
use Rattle.state.specs.Stored.{Stored}
use Rattle.state.specs.Fit.{Table, Rising, Ready}
use Rattle.state.specs.Lent.{all}
use Rattle.state.proofs.Lending.{Moves, Keeps}
use Rattle.state.proofs.Cells.{cell_in, row_small}
use Rattle.state.proofs.Known.{x_queued}
use Rattle.state.proofs.Parts.{part_in}
use Rattle.copies.specs.Barred.{barred_by}
use Rattle.copies.proofs.Joining.{joined}
use Rattle.copies.proofs.Marks.{row_in, table_set, word_in, kept_copied}
use Rattle.copies.proofs.Copying.{copied_read, in_range, read_own, read_6, read_new}

-- what READ is lent
pub record Lends (m : ℕ) (b s q value seen w : List ℕ) : Type 0 where
  pub ready : Ready m b s q
  pub values : Table 32 m value
  pub counters : Table 32 m seen
  pub sheets : Table 2 m w
  pub rising : Rising m w

pub lends : {m : ℕ} {b s q : List ℕ} (value seen w : List ℕ) → Ready m b s q × Table 32 m value × Table 32 m seen × Table 2 m w × Rising m w → Lends m b s q value seen w
lends value seen w p = record { ready = p.0; values = p.1; counters = p.2; sheets = p.3; rising = p.4 }

pub phases : {m : ℕ} {b s q : List ℕ} → Ready m b s q → ORDER ≤ length b
phases r = let z = r.kept.sized.bytes in omega arith

module _ {m : ℕ} {b s q value seen w : List ℕ} (l : Lends m b s q value seen w) (t k : ℕ) (z : barred_by m b t k ≡ 0) where
  e : barred_by m b t k ≡ barred_by m b t k
  e = refl

  there : (t < 32) × (k < m)
  there = in_range m b t k e z

  pub row_fits : (COPIED + t < rows) × (COPIED + t + stride * (k / 64) < length s)
  row_fits = let h = there in (omega (arith, h.0), word_in m (COPIED + t) k s (omega (arith, h.0)) h.1 l.ready.kept.sized.sets)

  pub value_fits : (t * m + m ≤ length value) × (k < m)
  value_fits = (row_in 32 m value t there.0 l.values, there.1)

  pub sheet_fits : (x : ℕ) → x < 2 → (x * m + m ≤ length w) × (k < m)
  sheet_fits x h = (row_in 2 m w x h l.sheets, there.1)

  -- a cell of the table of counters
  pub seen_row : t * m ≤ 2097152
  seen_row = row_small m there.0 l.ready.known.sheets16

  pub sheet_small : k < 65536
  sheet_small = let h = l.ready.known.sheets16 in omega (arith, there.1)

  pub seen_fits : t * m + k < length seen
  seen_fits = let h = cell_in m there.0 there.1 in omega (arith, l.counters)

  pub copy_asked : (t < 32) × (COPIED + t + stride * (k / 64) < length s)
  copy_asked = (there.0, row_fits.1)

  pub blocked_asked : (t < 32) × (ORDER ≤ length b) × (QUEUE + 2 * m ≤ length q) × (m < 65536) × (k < m) × Ranked q (queue_of m q k) × ((u : ℕ) → queued_x m q k u ≡ true → queued m q k u ≡ true)
  blocked_asked = (there.0, phases l.ready, l.ready.kept.sized.queues, l.ready.known.sheets16, there.1, ranked l.ready.kept k there.1, x_queued l.ready.kept there.1)

  -- the sheet's content and counter, of which the last fits
  content_read : {v : ℕ} → v ≡ get_or w (0 * m + k) 0 → v ≡ part 0 m w k
  content_read e = e ∙ ap (λ (i : ℕ). get_or w i 0) (let z : 0 * m + k ≡ 0 + k = omega arith in z) ∙ sym (part_in 0 m w k there.1)

  counter_read : {n : ℕ} → n ≡ get_or w (1 * m + k) 0 → n ≡ part m m w k
  counter_read e = e ∙ ap (λ (i : ℕ). get_or w i 0) (let z : 1 * m + k ≡ m + k = omega arith in z) ∙ sym (part_in m m w k there.1)

  pub counter_fits : {n : ℕ} → n ≡ get_or w (1 * m + k) 0 → n < 65536
  counter_fits e = let h = l.rising k in rw (counter_read e) (omega arith)

  module _ {c : Bool} (ec : c ≡ in_row s (COPIED + t) k) where
    copy : in_set m COPIED s t k ≡ c
    copy = copied_read m s t k there.0 there.1 ec

    pub own_read : c ≡ true → {v : ℕ} → v ≡ get_or value (t * m + k) 0 → Moves m (all b s q value seen w) (Read t k) (all b s q value seen w) (Ok (Content v))
    own_read y ev x = rw ev (read_own m (all b s q value seen w x) t k e z (copy ∙ y))

    module _ (n : c ≡ false) {u : Bool} (eu : u ≡ (not (eqb (get_or b (PHASE + t) 0) 3) && fronted q (queue_of m q k) (queue_x_of m q k))) where
      -- the last test
      held : (not (eqb (part PHASE 32 b t) 3) && at_front (x_on (bare m b s q).claim k) ((bare m b s q).queue k)) ≡ u
      held = sym (eu ∙ rw (part_in PHASE 32 b t there.0, front_code l.ready k there.1))

      pub read_held : u ≡ true → Moves m (all b s q value seen w) (Read t k) (all b s q value seen w) (Err HeldByX)
      read_held y x = read_6 m (all b s q value seen w x) t k e z l.ready.kept.sets.written (copy ∙ n) (held ∙ y)

      module _ (f : u ≡ false) {v d : ℕ} (ev : v ≡ get_or w (0 * m + k) 0) (ed : d ≡ get_or w (1 * m + k) 0) {s' value' : List ℕ} (es : value' ≡ set value (t * m + k) v)
          (ej : Stored (COPIED + t + stride * (k / 64)) (λ i. bit (word s (COPIED + t) (k / 64)) i || eqb i (k % 64)) s s') where
        new_read : Moves m (all b s q value seen w) (Read t k) (all b s' q value' (set seen (t * m + k) d) w) (Ok (Content v))
        new_read x = rw es (read_new m (all b s q value seen w x) t k e z l.ready.kept.sets.written (copy ∙ n) (held ∙ f) l.values l.counters
            (content_read ev) (counter_read ed) (joined row_fits.0 there.1 ej))

        keeps_new : Keeps m (all b s q value seen w) (all b s' q value' (set seen (t * m + k) d) w)
        keeps_new x g = record {
          kept = kept_copied there.0 (joined row_fits.0 there.1 ej) g.kept;
          value = rw es (table_set 32 m value (t * m + k) v g.value);
          seen = table_set 32 m seen (t * m + k) d g.seen;
          sheets = g.sheets;
        }

        pub made : Moves m (all b s q value seen w) (Read t k) (all b s' q value' (set seen (t * m + k) d) w) (Ok (Content v)) × Keeps m (all b s q value seen w) (all b s' q value' (set seen (t * m + k) d) w)
        made = (new_read, keeps_new)
