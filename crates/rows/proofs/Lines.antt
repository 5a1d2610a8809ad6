-- The saves by last place, one place at a time.
use Prim.Native.Nat.{ℕ, suc, ◌+◌, ◌≤◌, ◌<◌}
use mathlib.Core.Path.{◌≡◌, refl, sym, ap, ◌∙◌}
use mathlib.Core.Logic.{◌≢◌}
use mathlib.Core.List.{List}
use native.Mathlib.Numerals.{add-one}
use native.Mathlib.Omega.{arith}
use lib.ListN.{length, get_or, set, length-set, length-append}
use lib.Seq.{take-suc-set, length-take-le, get_or-set_same, get_or-set_other, get_or-drop}
use borrow.Author.Tests.{ne_eqb}
use Rattle.rules.specs.State.{at, by_last}
use Rattle.rules.proofs.Table.{same?}
use Rattle.rules.proofs.LastPlaces.{last_here, last_former, lasts_few}
use Rattle.state.specs.View.{placed, place_in, order_in, PLACE, ORDER}
use Rattle.state.specs.Fit.{Ready}
use Rattle.state.proofs.Parts.{part_in}
use Rattle.state.proofs.Known as known
use Rattle.rows.specs.Rows.{Ordered, Lined}

pub ordered : {m : ℕ} {b s q : List ℕ} → Ready m b s q → Ordered b q
ordered r = record {
  bytes = let a = r.kept.sized.bytes in let f = r.kept.sized.fits in omega arith;
  numbers = let a = r.kept.sized.queues in omega arith;
  small = known.small r;
}

pub lined_none : (b q line : List ℕ) → 32 ≤ length line → Lined b q 0 line 0
unfolding by_last
lined_none b q line h = record { all = refl; few = omega arith; long = h; small = λ i l. absurd (omega arith) }

-- the save at a place, as it is read
pub save_at : (b : List ℕ) (p : ℕ) {t : ℕ} → t ≡ get_or b (ORDER + p) 0 → t ≡ at (order_in b) p
save_at b p e = e ∙ sym (get_or-drop ORDER b p 0)

module _ {b q line : List ℕ} {p n : ℕ} (o : Ordered b q) (l : Lined b q p line n) (h : p < placed q) {t : ℕ} (e : t ≡ at (order_in b) p) where
  pub small : t < 32
  small = rw e (o.small p h)

  as_long : n ≡ length (by_last (order_in b) (place_in q) p)
  as_long = sym (length-take-le n line (let a = l.few in let c = l.long in omega arith)) ∙ ap length l.all

  -- it is the save's last place
  pub here : get_or q (PLACE + t) 0 ≡ p → place_in q (at (order_in b) p) ≡ p
  here w = rw (← e) (part_in PLACE 32 q t small ∙ w)

  pub there : get_or q (PLACE + t) 0 ≡ p → n < 32
  there w =
      let f = rw (last_here (order_in b) (place_in q) p (here w), length-append) at (lasts_few (order_in b) (place_in q) (suc p) (λ i k. o.small i (omega arith))) in
      omega (arith, f, as_long)

  pub lined_on : get_or q (PLACE + t) 0 ≡ p → Lined b q (p + 1) (set line n t) (n + 1)
  lined_on w = record {
    all = rw (add-one p, add-one n, last_here (order_in b) (place_in q) p (here w), ← e, take-suc-set line n t (omega (arith, there w, l.long)), l.all);
    few = omega (arith, there w);
    long = rw length-set l.long;
    small = λ i k. same? i n
        (λ z. rw (z, get_or-set_same line n t 0 (omega (arith, there w, l.long))) small)
        (λ d. rw (get_or-set_other line n i t 0 d) (l.small i (omega arith)));
  }

  pub lined_same : get_or q (PLACE + t) 0 ≢ p → Lined b q (p + 1) line n
  lined_same d = record {
    all = rw (add-one p, last_former (order_in b) (place_in q) p (rw (← e) (ne_eqb (place_in q t) p (λ w. d (sym (part_in PLACE 32 q t small) ∙ w))))) l.all;
    few = l.few;
    long = l.long;
    small = l.small;
  }
